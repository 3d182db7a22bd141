-- Words give the fields of one definition at most.
use Rattle.std.proofs.Common.{◌≡◌, ℕ, false, List, [], ◌∷◌, ◌++◌, refl, sym, ap, ◌∙◌, arith, subst}
use Rattle.hc_commands.specs.Definition.{Given, given_value, given_writable, given_getter, given_setter, given_enumerable, given_configurable, IsGiven, key_of, key_word, given_word, field_word, Description, IsDescription, no_fields, gives, with_given, Fills, TakesField, Gives}
use Rattle.hc_commands.specs.declared.definition.Key.{Key}
use Rattle.hc_commands.specs.declared.definition.Key.TheVariants.{Value, Writable, Getter, Setter, Enumerable, Configurable}
use Rattle.hc_commands.proofs.Apart.{first_byte, values_apart}
use Rattle.hc_commands.proofs.WordsApart.{booleans_apart, accessors_apart}

-- what stands behind a key, too
pub keys_apart : (k l : Key) (a b : List ℕ) → key_word k ++ a ≡ key_word l ++ b → (k ≡ l) × (a ≡ b)
keys_apart Value Value a b e = (refl, cc)
keys_apart Writable Writable a b e = (refl, cc)
keys_apart Getter Getter a b e = (refl, cc)
keys_apart Setter Setter a b e = (refl, cc)
keys_apart Enumerable Enumerable a b e = (refl, cc)
keys_apart Configurable Configurable a b e = (refl, cc)
keys_apart k l a b e = absurd (let first : first_byte (key_word k ++ a) ≡ first_byte (key_word l ++ b) = ap first_byte e in omega arith)

pub fields_apart : (g h : Given) → IsGiven g → IsGiven h → field_word g ≡ field_word h → g ≡ h
fields_apart (given_value v) (given_value w) is_g is_h e = ap given_value (values_apart v w is_g is_h ((keys_apart Value Value _ _ e).1))
fields_apart (given_writable b) (given_writable c) is_g is_h e = ap given_writable (booleans_apart b c ((keys_apart Writable Writable _ _ e).1))
fields_apart (given_getter f) (given_getter g) is_g is_h e = ap given_getter (accessors_apart f g is_g is_h ((keys_apart Getter Getter _ _ e).1))
fields_apart (given_setter f) (given_setter g) is_g is_h e = ap given_setter (accessors_apart f g is_g is_h ((keys_apart Setter Setter _ _ e).1))
fields_apart (given_enumerable b) (given_enumerable c) is_g is_h e = ap given_enumerable (booleans_apart b c ((keys_apart Enumerable Enumerable _ _ e).1))
fields_apart (given_configurable b) (given_configurable c) is_g is_h e = ap given_configurable (booleans_apart b c ((keys_apart Configurable Configurable _ _ e).1))
fields_apart g h is_g is_h e = absurd (let keys : key_of g ≡ key_of h = (keys_apart (key_of g) (key_of h) (given_word g) (given_word h) e).0 in cc)

-- the fields after a word
takes_once : (before : Description) (word : List ℕ) (d e : Description) → TakesField before word d → TakesField before word e → d ≡ e
takes_once before word d e a b =
    let same : a.given ≡ b.given = fields_apart a.given b.given a.is_given b.is_given (sym a.spelling ∙ b.spelling) in
    a.after_is ∙ ap (with_given before) same ∙ sym b.after_is

pub gives_apart : (before : Description) (words : List (List ℕ)) (d e : Description) → Gives before words d → Gives before words e → d ≡ e
gives_apart before [] d e a b = a ∙ sym b
gives_apart before (word ∷ words) d e a b =
    let same : b.0 ≡ a.0 = takes_once before word b.0 a.0 b.1 a.1 in
    gives_apart a.0 words d e a.2 (subst (λ (next : Description). Gives next words e) same b.2)

-- a word that begins with none of the keys
pub no_key : (word : List ℕ) → ((rest : List ℕ) → word ≡ key_word Value ++ rest → ⊥) → ((rest : List ℕ) → word ≡ key_word Writable ++ rest → ⊥) → ((rest : List ℕ) → word ≡ key_word Getter ++ rest → ⊥) → ((rest : List ℕ) → word ≡ key_word Setter ++ rest → ⊥) → ((rest : List ℕ) → word ≡ key_word Enumerable ++ rest → ⊥) → ((rest : List ℕ) → word ≡ key_word Configurable ++ rest → ⊥) → (key : Key) (rest : List ℕ) → word ≡ key_word key ++ rest → ⊥
no_key word a b c d e f Value = a
no_key word a b c d e f Writable = b
no_key word a b c d e f Getter = c
no_key word a b c d e f Setter = d
no_key word a b c d e f Enumerable = e
no_key word a b c d e f Configurable = f

-- words of a definition, of which some were taken: those that are left go on from the fields so far
pub record GoesOn (all left : List (List ℕ)) (so_far : Description) : Type 0 where
  pub onward : (d : Description) → Gives no_fields all d → Gives so_far left d
  pub back : (d : Description) → Gives so_far left d → Gives no_fields all d

pub goes_on_first : (words : List (List ℕ)) → GoesOn words words no_fields
goes_on_first words = record { onward = λ d given. given; back = λ d given. given }

-- one field more
pub goes_on_more : (all left others : List (List ℕ)) (word : List ℕ) (so_far next : Description) → GoesOn all left so_far → left ≡ word ∷ others → TakesField so_far word next → GoesOn all others next
goes_on_more all left others word so_far next on e takes = record {
  onward = λ d whole.
      let left_gives : Gives so_far (word ∷ others) d = subst (λ (words : List (List ℕ)). Gives so_far words d) e (on.onward d whole) in
      let same : left_gives.0 ≡ next = takes_once so_far word left_gives.0 next left_gives.1 takes in
      subst (λ (after : Description). Gives after others d) same left_gives.2;
  back = λ d rest.
      on.back d (subst (λ (words : List (List ℕ)). Gives so_far words d) (sym e) (next, takes, rest));
}

-- a field in range keeps the others so
with_given_range : (d : Description) (given : Given) → IsDescription d → IsGiven given → IsDescription (with_given d given)
with_given_range d (given_value value) is more = record { value = more; getter = is.getter; setter = is.setter }
with_given_range d (given_writable b) is more = record { value = is.value; getter = is.getter; setter = is.setter }
with_given_range d (given_getter f) is more = record { value = is.value; getter = more; setter = is.setter }
with_given_range d (given_setter f) is more = record { value = is.value; getter = is.getter; setter = more }
with_given_range d (given_enumerable b) is more = record { value = is.value; getter = is.getter; setter = is.setter }
with_given_range d (given_configurable b) is more = record { value = is.value; getter = is.getter; setter = is.setter }

pub takes_range : (before : Description) (word : List ℕ) (after : Description) → IsDescription before → TakesField before word after → IsDescription after
takes_range before word after is takes =
    subst (λ (d : Description). IsDescription d) (sym takes.after_is) (with_given_range before takes.given is takes.is_given)

-- the key and what stands behind it make the word of the field
pub key_takes : (before : Description) (word rest : List ℕ) (key : Key) (after : Description) → word ≡ key_word key ++ rest → gives before key ≡ false → Fills before key rest after → TakesField before word after
key_takes before word rest key after e new fills = record {
  given = fills.given;
  is_given = fills.is_given;
  spelling = rw (fills.key_is, ← fills.rest_is) e;
  new = rw fills.key_is new;
  after_is = fills.after_is;
}
