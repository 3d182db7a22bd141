-- A word is the first of one command at most, and names one thing at most behind it.
use Rattle.std.proofs.Common.{◌≡◌, ℕ, ◌<◌, ◌≤◌, ◌^◌, ◌⊎◌, inl, inr, true, false, List, [], ◌∷◌, map, refl, sym, ap, ◌∙◌, arith, Option, Some, None, IfSome, IfNone}
use Rattle.std.specs.Prelude.{Bool, codes}
use Rattle.std.specs.Str.{bytes_eq}
use Rattle.std.specs.Fmt.{decimal}
use Rattle.std.proofs.lemmas.Bool.{cases_Bool}
use Rattle.std.proofs.lemmas.Fmt.{decimal_injective}
use Rattle.std.proofs.lemmas.Slice.Eq.{bytes_eq-Decides}
use Rattle.hc_commands.specs.Numeral.{all_digits}
use Rattle.hc_commands.specs.Values.{boolean_word}
use Rattle.hc_commands.specs.Token.{IsPrototype, prototype_word, IsAccessor, accessor_word, op_word, AreReads, reads_word}
use Rattle.hc_commands.specs.VerbTable.{look_up}
use Rattle.hc_commands.specs.Verbs.{verb_word}
use Rattle.hc_commands.specs.declared.verb.TheConstants.{VERBS}
use Rattle.hc_plan.specs.declared.case.Op.{Op}
use Rattle.hc_plan.specs.declared.case.Op.TheVariants.{Load, Store}
use Rattle.hc_commands.specs.declared.command.Reads.{Reads}
use Rattle.hc_commands.specs.declared.command.Reads.TheVariants.{Count, All}
use Rattle.hc_commands.specs.declared.verb.PropertyVerb.TheVariants.{Get, Has, Own, Delete}
use Rattle.hc_commands.specs.declared.verb.ObjectVerb.TheVariants.{Keys, Proto, Extensible, Lock, Seal, Freeze, Shape}
use Rattle.hc_commands.specs.declared.verb.Verb.{Verb}
use Rattle.hc_commands.specs.declared.verb.Verb.TheVariants.{New, SetProto, OfProperty, Set, Define, OfObject, Same, Site, Exec, Compile, Step, During, Finish}
use Rattle.hc_commands.proofs.Apart.{first_byte, differ, same_object}
use Rattle.hc_commands.proofs.Numerals.{decimal_is_digits}

-- the verb that a word is
abbrev verb_at : List ℕ → Option Verb
verb_at word = look_up (map (λ entry. (entry.0.now, entry.1)) VERBS) word

verb_at-word : (verb : Verb) → verb_at (verb_word verb) ≡ Some verb
verb_at-word New = refl
verb_at-word SetProto = refl
verb_at-word (OfProperty Get) = refl
verb_at-word (OfProperty Has) = refl
verb_at-word (OfProperty Own) = refl
verb_at-word (OfProperty Delete) = refl
verb_at-word Set = refl
verb_at-word Define = refl
verb_at-word (OfObject Keys) = refl
verb_at-word (OfObject Proto) = refl
verb_at-word (OfObject Extensible) = refl
verb_at-word (OfObject Lock) = refl
verb_at-word (OfObject Seal) = refl
verb_at-word (OfObject Freeze) = refl
verb_at-word (OfObject Shape) = refl
verb_at-word Same = refl
verb_at-word Site = refl
verb_at-word Exec = refl
verb_at-word Compile = refl
verb_at-word Step = refl
verb_at-word During = refl
verb_at-word Finish = refl

some_apart : (v w : Verb) → Some v ≡ Some w → v ≡ w
some_apart v w e = cc

pub verbs_apart : (v w : Verb) → verb_word v ≡ verb_word w → v ≡ w
verbs_apart v w e = some_apart v w (sym (verb_at-word v) ∙ ap verb_at e ∙ verb_at-word w)

-- each entry has the word of its verb
abbrev AreWords : List (List ℕ × Verb) → Type 0
AreWords [] = Unit {0}
AreWords (entry ∷ table) = (entry.0 ≡ verb_word entry.1) × AreWords table

found_word : (table : List (List ℕ × Verb)) (word : List ℕ) → AreWords table → IfSome (look_up table word) (λ verb. word ≡ verb_word verb)
found_word [] word are = tt
found_word (entry ∷ table) word are = by_case (found_word table word are.1) (cases_Bool (bytes_eq entry.0 word)) where
  by_case : IfSome (look_up table word) (λ verb. word ≡ verb_word verb) → (bytes_eq entry.0 word ≡ true) ⊎ (bytes_eq entry.0 word ≡ false) → IfSome (look_up (entry ∷ table) word) (λ verb. word ≡ verb_word verb)
  by_case behind (inl same) = rw same (sym ((bytes_eq-Decides entry.0 word).0 same) ∙ are.0)
  by_case behind (inr other) = rw other behind

pub found_verb : (word : List ℕ) → IfSome (verb_at word) (λ verb. word ≡ verb_word verb)
found_verb word = found_word (map (λ entry. (entry.0.now, entry.1)) VERBS) word (refl, (refl, (refl, (refl, (refl, (refl, (refl, (refl, (refl, (refl, (refl, (refl, (refl, (refl, (refl, (refl, (refl, (refl, (refl, (refl, (refl, (refl, tt))))))))))))))))))))))

no_some : (verb : Verb) → None ≡ Some verb → ⊥
no_some verb e = cc

pub no_verb : (word : List ℕ) → IfNone (verb_at word) ((verb : Verb) → word ≡ verb_word verb → ⊥)
no_verb word = none (verb_at word) refl where
  none : (found : Option Verb) → verb_at word ≡ found → IfNone found ((verb : Verb) → word ≡ verb_word verb → ⊥)
  none (Some verb) is = tt
  none None is = λ verb e. no_some verb (sym is ∙ ap verb_at e ∙ verb_at-word verb)

pub same_number : (m n : ℕ) → m < 2 ^ 32 → n < 2 ^ 32 → decimal m ≡ decimal n → m ≡ n
same_number m n small_m small_n e = decimal_injective m n (omega arith) (omega arith) e

pub prototypes_apart : (p q : Option ℕ) → IsPrototype p → IsPrototype q → prototype_word p ≡ prototype_word q → p ≡ q
prototypes_apart None None is_p is_q e = refl
prototypes_apart (Some o) (Some p) is_p is_q e = ap Some (same_object o p is_p is_q e)
prototypes_apart None (Some p) is_p is_q e = absurd (differ 110 35 (ap first_byte e) refl)
prototypes_apart (Some o) None is_p is_q e = absurd (differ 35 110 (ap first_byte e) refl)

pub accessors_apart : (f g : Option ℕ) → IsAccessor f → IsAccessor g → accessor_word f ≡ accessor_word g → f ≡ g
accessors_apart None None is_f is_g e = refl
accessors_apart (Some f) (Some g) is_f is_g e =
    let digits : decimal f ≡ decimal g = cc in ap Some (decimal_injective f g (omega arith) (omega arith) digits)
accessors_apart None (Some g) is_f is_g e = absurd (differ 117 102 (ap first_byte e) refl)
accessors_apart (Some f) None is_f is_g e = absurd (differ 102 117 (ap first_byte e) refl)

pub booleans_apart : (b c : Bool) → boolean_word b ≡ boolean_word c → b ≡ c
booleans_apart true true e = refl
booleans_apart false false e = refl
booleans_apart true false e = absurd (differ 116 102 (ap first_byte e) refl)
booleans_apart false true e = absurd (differ 102 116 (ap first_byte e) refl)

pub ops_apart : (a b : Op) → op_word a ≡ op_word b → a ≡ b
ops_apart Load Load e = refl
ops_apart Store Store e = refl
ops_apart Load Store e = absurd (differ 108 115 (ap first_byte e) refl)
ops_apart Store Load e = absurd (differ 115 108 (ap first_byte e) refl)

-- no number is written `all`
not_all : (n : ℕ) → n ≤ 1000000 → codes "all" ≡ decimal n → ⊥
not_all n small e = let digits : all_digits (codes "all") ≡ true = decimal_is_digits n (codes "all") (omega arith) e in cc

pub reads_apart : (a b : Reads) → AreReads a → AreReads b → reads_word a ≡ reads_word b → a ≡ b
reads_apart All All is_a is_b e = refl
reads_apart (Count m) (Count n) is_a is_b e = ap Count (decimal_injective m n (omega arith) (omega arith) e)
reads_apart All (Count n) is_a is_b e = absurd (not_all n is_b e)
reads_apart (Count m) All is_a is_b e = absurd (not_all m is_a (sym e))
