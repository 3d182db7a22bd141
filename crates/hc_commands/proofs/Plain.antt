-- The words of a command have plain bytes alone.
use Rattle.std.proofs.Common.{◌≡◌, ℕ, suc, ◌<◌, ◌≤◌, ◌^◌, Bool, true, false, List, [], ◌∷◌, ◌++◌, refl, arith, ◌&&◌, Option, Some, None}
use Rattle.std.specs.Prelude.{ℤ, pos, negsuc}
use Rattle.std.specs.List.{list_all}
use Rattle.std.specs.Fmt.{decimal, signed_decimal}
use Rattle.std.proofs.lemmas.Int.{ints}
use Rattle.std.proofs.lemmas.Bool.Decides.{nat_tests}
use Rattle.hc_value.specs.Num.{IsSafeInteger}
use Rattle.hc_commands.specs.Words.{is_plain_byte, IsPlain, ArePlain}
use Rattle.hc_commands.specs.Numeral.{all_digits}
use Rattle.hc_commands.specs.Values.{begins_name, continues_name, IsName, is_text_byte, IsText, WrittenValue, written_undefined, written_null, written_boolean, written_integer, written_text, written_object, IsWrittenValue, IsGivenValue, object_word, text_word, boolean_word, value_word}
use Rattle.hc_commands.specs.Token.{IsPrototype, prototype_word, IsAccessor, accessor_word, op_word, AreReads, reads_word}
use Rattle.hc_commands.specs.Definition.{Description, Given, given_value, given_writable, given_getter, given_setter, given_enumerable, given_configurable, IsGiven, key_of, key_word, given_word, Gives, no_fields}
use Rattle.hc_commands.specs.Verbs.{verb_word}
use Rattle.hc_commands.specs.Grammar.{Form, new_object, link_prototype, ask_property, set_value, define_property, ask_object, compare_objects, declare_site, execute_site, compile_site, step_job, step_during, finish_job, verb_of, IsForm, given_words, AreParts, IsSpelled}
use Rattle.hc_plan.specs.declared.case.Op.{Op}
use Rattle.hc_plan.specs.declared.case.Op.TheVariants.{Load, Store}
use Rattle.hc_commands.specs.declared.command.Reads.{Reads}
use Rattle.hc_commands.specs.declared.command.Reads.TheVariants.{Count, All}
use Rattle.hc_commands.specs.declared.definition.Key.{Key}
use Rattle.hc_commands.specs.declared.definition.Key.TheVariants.{Value, Writable, Getter, Setter, Enumerable, Configurable}
use Rattle.hc_commands.specs.declared.verb.PropertyVerb.TheVariants.{Get, Has, Own, Delete}
use Rattle.hc_commands.specs.declared.verb.ObjectVerb.TheVariants.{Keys, Proto, Extensible, Lock, Seal, Freeze, Shape}
use Rattle.hc_commands.specs.declared.verb.Verb.{Verb}
use Rattle.hc_commands.specs.declared.verb.Verb.TheVariants.{New, SetProto, OfProperty, Set, Define, OfObject, Same, Site, Exec, Compile, Step, During, Finish}
use Rattle.hc_commands.proofs.Numerals.{decimal_is_digits}

split : (a b : Bool) → a && b ≡ true → (a ≡ true) × (b ≡ true)
split true b h = (refl, h)
split false b h = absurd (cc)

-- a plain byte before plain bytes, and plain bytes behind plain bytes
plain_behind : (byte : ℕ) (bytes : List ℕ) → is_plain_byte byte ≡ true → IsPlain bytes → IsPlain (byte ∷ bytes)
plain_behind byte bytes first others = rw first others

plain-append : (a b : List ℕ) → IsPlain a → IsPlain b → IsPlain (a ++ b)
plain-append [] b p q = q
plain-append (byte ∷ a) b p q =
    let parts = split (is_plain_byte byte) (list_all is_plain_byte a) p in
    plain_behind byte (a ++ b) parts.0 (plain-append a b parts.1 q)

digit_plain : (byte : ℕ) → 48 ≤ byte → byte ≤ 57 → is_plain_byte byte ≡ true
digit_plain byte low high = grind (arith, nat_tests)

digits_plain : (bytes : List ℕ) → all_digits bytes ≡ true → IsPlain bytes
digits_plain [] digits = refl
digits_plain (byte ∷ bytes) digits =
    plain_behind byte bytes (digit_plain byte (grind (arith, nat_tests)) (grind (arith, nat_tests))) (digits_plain bytes (grind (arith, nat_tests)))

decimal_plain : (n : ℕ) → n < 2 ^ 64 → IsPlain (decimal n)
decimal_plain n small = digits_plain (decimal n) (decimal_is_digits n (decimal n) small refl)

object_plain : (o : ℕ) → o < 2 ^ 32 → IsPlain (object_word o)
object_plain o small = decimal_plain o (omega arith)

signed_plain : (z : ℤ) → IsSafeInteger z → IsPlain (signed_decimal z)
signed_plain (pos n) safe = decimal_plain n (omega (arith, ints, safe.high))
signed_plain (negsuc n) safe = decimal_plain (suc n) (omega (arith, ints, safe.low))

text_byte_plain : (byte : ℕ) → is_text_byte byte ≡ true → is_plain_byte byte ≡ true
text_byte_plain byte h = grind (arith, nat_tests)

texts_plain : (bytes : List ℕ) → list_all is_text_byte bytes ≡ true → IsPlain bytes
texts_plain [] h = refl
texts_plain (byte ∷ bytes) h =
    let parts = split (is_text_byte byte) (list_all is_text_byte bytes) h in
    plain_behind byte bytes (text_byte_plain byte parts.0) (texts_plain bytes parts.1)

text_plain : (text : List ℕ) → IsText text → IsPlain (text_word text)
text_plain text is = plain-append text (34 ∷ []) (texts_plain text is.spelling) refl

continues_plain : (byte : ℕ) → continues_name byte ≡ true → is_plain_byte byte ≡ true
continues_plain byte h = grind (arith, nat_tests)

begins_continues : (byte : ℕ) → begins_name byte ≡ true → continues_name byte ≡ true
begins_continues byte h = rw h refl

names_plain : (bytes : List ℕ) → list_all continues_name bytes ≡ true → IsPlain bytes
names_plain [] h = refl
names_plain (byte ∷ bytes) h =
    let parts = split (continues_name byte) (list_all continues_name bytes) h in
    plain_behind byte bytes (continues_plain byte parts.0) (names_plain bytes parts.1)

name_plain : (name : List ℕ) → IsName name → IsPlain name
name_plain [] h = refl
name_plain (byte ∷ bytes) h =
    let parts = split (begins_name byte) (list_all continues_name bytes) h.spelling in
    plain_behind byte bytes (continues_plain byte (begins_continues byte parts.0)) (names_plain bytes parts.1)

boolean_plain : (b : Bool) → IsPlain (boolean_word b)
boolean_plain true = refl
boolean_plain false = refl

value_plain : (value : WrittenValue) → IsWrittenValue value → IsPlain (value_word value)
value_plain written_undefined is = refl
value_plain written_null is = refl
value_plain (written_boolean b) is = boolean_plain b
value_plain (written_integer z) is = signed_plain z is
value_plain (written_text text) is = text_plain text is
value_plain (written_object o) is = object_plain o is

prototype_plain : (proto : Option ℕ) → IsPrototype proto → IsPlain (prototype_word proto)
prototype_plain None is = refl
prototype_plain (Some o) is = object_plain o is

accessor_plain : (f : Option ℕ) → IsAccessor f → IsPlain (accessor_word f)
accessor_plain None is = refl
accessor_plain (Some f) is = decimal_plain f (omega (arith, is))

op_plain : (op : Op) → IsPlain (op_word op)
op_plain Load = refl
op_plain Store = refl

reads_plain : (reads : Reads) → AreReads reads → IsPlain (reads_word reads)
reads_plain All are = refl
reads_plain (Count n) are = decimal_plain n (omega (arith, are))

verb_plain : (verb : Verb) → IsPlain (verb_word verb)
verb_plain New = refl
verb_plain SetProto = refl
verb_plain (OfProperty Get) = refl
verb_plain (OfProperty Has) = refl
verb_plain (OfProperty Own) = refl
verb_plain (OfProperty Delete) = refl
verb_plain Set = refl
verb_plain Define = refl
verb_plain (OfObject Keys) = refl
verb_plain (OfObject Proto) = refl
verb_plain (OfObject Extensible) = refl
verb_plain (OfObject Lock) = refl
verb_plain (OfObject Seal) = refl
verb_plain (OfObject Freeze) = refl
verb_plain (OfObject Shape) = refl
verb_plain Same = refl
verb_plain Site = refl
verb_plain Exec = refl
verb_plain Compile = refl
verb_plain Step = refl
verb_plain During = refl
verb_plain Finish = refl

key_plain : (key : Key) → IsPlain (key_word key)
key_plain Value = refl
key_plain Writable = refl
key_plain Getter = refl
key_plain Setter = refl
key_plain Enumerable = refl
key_plain Configurable = refl

given_plain : (given : Given) → IsGiven given → IsPlain (given_word given)
given_plain (given_value value) is = value_plain value is
given_plain (given_writable b) is = boolean_plain b
given_plain (given_getter f) is = accessor_plain f is
given_plain (given_setter f) is = accessor_plain f is
given_plain (given_enumerable b) is = boolean_plain b
given_plain (given_configurable b) is = boolean_plain b

-- a plain word before plain words
word_behind : (word : List ℕ) (words : List (List ℕ)) → IsPlain word → ArePlain words → ArePlain (word ∷ words)
word_behind word words first others = rw first others

fields_plain : (before : Description) (words : List (List ℕ)) (d : Description) → Gives before words d → ArePlain words
fields_plain before [] d gives = refl
fields_plain before (word ∷ words) d gives =
    let takes = gives.1 in
    let plain : IsPlain word = rw takes.spelling (plain-append (key_word (key_of takes.given)) (given_word takes.given) (key_plain (key_of takes.given)) (given_plain takes.given takes.is_given)) in
    word_behind word words plain (fields_plain gives.0 words d gives.2)

maybe_plain : (value : Option WrittenValue) → IsGivenValue value → ArePlain (given_words value)
maybe_plain None is = refl
maybe_plain (Some value) is = word_behind (value_word value) [] (value_plain value is) refl

one : (a : List ℕ) → IsPlain a → ArePlain (a ∷ [])
one a p = word_behind a [] p refl

two : (a b : List ℕ) → IsPlain a → IsPlain b → ArePlain (a ∷ b ∷ [])
two a b p q = word_behind a (b ∷ []) p (one b q)

three : (a b c : List ℕ) → IsPlain a → IsPlain b → IsPlain c → ArePlain (a ∷ b ∷ c ∷ [])
three a b c p q r = word_behind a (b ∷ c ∷ []) p (two b c q r)

number_plain : (n : ℕ) → n < 2 ^ 32 → IsPlain (decimal n)
number_plain n small = decimal_plain n (omega arith)

parts_plain : (form : Form) (words : List (List ℕ)) → IsForm form → AreParts form words → ArePlain words
parts_plain (new_object proto) words is e = rw e (one (prototype_word proto) (prototype_plain proto is))
parts_plain (link_prototype o proto) words is e = rw e (two (object_word o) (prototype_word proto) (object_plain o is.0) (prototype_plain proto is.1))
parts_plain (ask_property verb o name) words is e = rw e (two (object_word o) name (object_plain o is.0) (name_plain name is.1))
parts_plain (set_value o name value) words is e = rw e (three (object_word o) name (value_word value) (object_plain o is.0) (name_plain name is.1) (value_plain value is.2))
parts_plain (define_property o name d) words is parts =
    rw parts.1 (word_behind (object_word o) (name ∷ parts.0) (object_plain o is.0) (word_behind name parts.0 (name_plain name is.1) (fields_plain no_fields parts.0 d parts.2)))
parts_plain (ask_object verb o) words is e = rw e (one (object_word o) (object_plain o is))
parts_plain (compare_objects o p) words is e = rw e (two (object_word o) (object_word p) (object_plain o is.0) (object_plain p is.1))
parts_plain (declare_site op name) words is e = rw e (two (op_word op) name (op_plain op) (name_plain name is))
parts_plain (execute_site s o value) words is e =
    rw e (word_behind (decimal s) (object_word o ∷ given_words value) (number_plain s is.0) (word_behind (object_word o) (given_words value) (object_plain o is.1) (maybe_plain value is.2)))
parts_plain (compile_site s) words is e = rw e (one (decimal s) (number_plain s is))
parts_plain (step_job j reads) words is e = rw e (two (decimal j) (reads_word reads) (number_plain j is.0) (reads_plain reads is.1))
parts_plain (step_during c j reads) words is e =
    rw e (three (decimal c) (decimal j) (reads_word reads) (decimal_plain c (omega (arith, is.0.small))) (number_plain j is.1) (reads_plain reads is.2))
parts_plain (finish_job j) words is e = rw e (one (decimal j) (number_plain j is))

pub words_plain : (form : Form) (words : List (List ℕ)) → IsForm form → IsSpelled form words → ArePlain words
words_plain form words is spelled =
    rw spelled.words_are (word_behind (verb_word (verb_of form)) spelled.parts (verb_plain (verb_of form)) (parts_plain form spelled.parts is spelled.are_parts))
