-- The answers of ways, case by case.
use Rattle.std.proofs.Common.{◌≡◌, ℕ, ◌+◌, ◌<◌, List, [], ◌∷◌, ◌++◌, length, get_or, take, refl, sym, ap, ◌∙◌, arith}
use Rattle.std.specs.Prelude.{◌↔◌, Bool, IsTrue, Option, Some, None, is_some, IsSome, option_map, slice_get}
use Rattle.std.specs.List.{AllByRecursion}
use Rattle.std.proofs.lemmas.List.{take_more}
use Rattle.std.proofs.lemmas.Option.{slice_get-get_or}
use Rattle.hc_layout.specs.declared.shape.Shape.{Shape}
use Rattle.hc_value.specs.declared.field.Class.{Class}
use Rattle.hc_value.specs.declared.field.Rep.{Rep}
use Rattle.hc_value.specs.declared.reply.Reply.{Reply}
use Rattle.hc_value.specs.declared.value.Value.{Value}
use Rattle.hc_plan.specs.declared.case.Case.{Case}
use Rattle.hc_plan.specs.declared.case.Way.{Way}
use Rattle.hc_plan.specs.declared.case.Way.TheVariants.{Own, Holder, Constant, Absent, Getter, StoreOwn, Add, Setter, Reject}
use Rattle.hc_apply.specs.Answers.{reply_on, answer_on, IsReadable, IsFirstAnswer, IsApplied}
use Rattle.hc_apply.specs.declared.applied.Applied.{Applied}
use Rattle.hc_apply.specs.declared.applied.Applied.TheVariants.{Answer, StoreAt, AddBy, Miss}

-- an image that is told is a list of words
pub told-at : {T : Type 0} (o : Option T) → IsSome o → ((x : T) → o ≡ Some x → ⊥) → ⊥
told-at None h k = grind (arith, h)
told-at (Some x) h k = k x refl

map-some : (number : ℕ) (o : Option Reply) → IsSome o → option_map (Answer number) o ≡ None → ⊥
map-some number None h e = grind (arith, h)
map-some number (Some reply) h e = cc

same-test : (r o : Option Reply) (test : Bool) → r ≡ o → test ≡ is_some r → IsTrue test ↔ IsSome o
same-test r o test e f = ((λ t. sym (f ∙ ap is_some e) ∙ t), (λ h. f ∙ (ap is_some e ∙ h)))

map-miss : (number : ℕ) (o : Option Reply) → option_map (Answer number) o ≡ Some Miss → ⊥
map-miss number None e = cc
map-miss number (Some reply) e = cc

module _ (s : Shape) (words : List ℕ) (object : ℕ) (value : Option Value) (number : ℕ) where
  -- a way that stores nothing answers by its reply
  pub by-reply : (way : Way) → ((slot field : ℕ) (rep : Rep) (class : Class) → way ≡ StoreOwn slot field rep class → ⊥) → ((child slot field : ℕ) (rep : Rep) (class : Class) → way ≡ Add child slot field rep class → ⊥)
      → answer_on s words object value number way ≡ option_map (Answer number) (reply_on s words object value way)
  by-reply (Own slot field rep) h k = refl
  by-reply (Holder holder slot field rep) h k = refl
  by-reply (Constant holder slot field rep word) h k = refl
  by-reply Absent h k = refl
  by-reply (Getter holder slot) h k = refl
  by-reply (StoreOwn slot field rep class) h k = absurd (h slot field rep class refl)
  by-reply (Add child slot field rep class) h k = absurd (k child slot field rep class refl)
  by-reply (Setter holder slot) h k = refl
  by-reply Reject h k = refl

  -- a way that stores nothing can be read where it has a reply
  pub can-read : (way : Way) → ((slot field : ℕ) (rep : Rep) (class : Class) → way ≡ StoreOwn slot field rep class → ⊥) → ((child slot field : ℕ) (rep : Rep) (class : Class) → way ≡ Add child slot field rep class → ⊥)
      → (reply : Option Reply) (test : Bool) → reply ≡ reply_on s words object value way → test ≡ is_some reply → IsTrue test ↔ IsReadable s words object value way
  can-read (Own slot field rep) h k reply test e f = same-test reply (reply_on s words object value (Own slot field rep)) test e f
  can-read (Holder holder slot field rep) h k reply test e f = same-test reply (reply_on s words object value (Holder holder slot field rep)) test e f
  can-read (Constant holder slot field rep word) h k reply test e f = same-test reply (reply_on s words object value (Constant holder slot field rep word)) test e f
  can-read Absent h k reply test e f = same-test reply (reply_on s words object value Absent) test e f
  can-read (Getter holder slot) h k reply test e f = same-test reply (reply_on s words object value (Getter holder slot)) test e f
  can-read (StoreOwn slot field rep class) h k reply test e f = absurd (h slot field rep class refl)
  can-read (Add child slot field rep class) h k reply test e f = absurd (k child slot field rep class refl)
  can-read (Setter holder slot) h k reply test e f = same-test reply (reply_on s words object value (Setter holder slot)) test e f
  can-read Reject h k reply test e f = same-test reply (reply_on s words object value Reject) test e f

  -- a way whose words can be read has an answer
  pub has-answer : (way : Way) → IsReadable s words object value way → answer_on s words object value number way ≡ None → ⊥
  has-answer (Own slot field rep) h e = map-some number (reply_on s words object value (Own slot field rep)) h e
  has-answer (Holder holder slot field rep) h e = map-some number (reply_on s words object value (Holder holder slot field rep)) h e
  has-answer (Constant holder slot field rep word) h e = map-some number (reply_on s words object value (Constant holder slot field rep word)) h e
  has-answer Absent h e = map-some number (reply_on s words object value Absent) h e
  has-answer (Getter holder slot) h e = map-some number (reply_on s words object value (Getter holder slot)) h e
  has-answer (StoreOwn slot field rep class) h e = cc
  has-answer (Add child slot field rep class) h e = cc
  has-answer (Setter holder slot) h e = map-some number (reply_on s words object value (Setter holder slot)) h e
  has-answer Reject h e = map-some number (reply_on s words object value Reject) h e

  -- no way answers by a miss
  no-miss : (way : Way) → answer_on s words object value number way ≡ Some Miss → ⊥
  no-miss (Own slot field rep) e = map-miss number (reply_on s words object value (Own slot field rep)) e
  no-miss (Holder holder slot field rep) e = map-miss number (reply_on s words object value (Holder holder slot field rep)) e
  no-miss (Constant holder slot field rep word) e = map-miss number (reply_on s words object value (Constant holder slot field rep word)) e
  no-miss Absent e = map-miss number (reply_on s words object value Absent) e
  no-miss (Getter holder slot) e = map-miss number (reply_on s words object value (Getter holder slot)) e
  no-miss (StoreOwn slot field rep class) e = cc
  no-miss (Add child slot field rep class) e = cc
  no-miss (Setter holder slot) e = map-miss number (reply_on s words object value (Setter holder slot)) e
  no-miss Reject e = map-miss number (reply_on s words object value Reject) e

module _ (s : Shape) (words : List ℕ) (room object : ℕ) (value : Option Value) (cases : List Case) where
  pub first-answers : (applied : Applied) → IsFirstAnswer s words room object value cases applied → IsApplied s words room object value cases applied
  first-answers (Answer number reply) h = h
  first-answers (StoreAt number slot) h = h
  first-answers (AddBy number child) h = h
  first-answers Miss h = absurd (no-miss s words object value h.number h.case.way h.answers)

-- the item at a place of a list
pub item-at : (xs : List Case) (i : ℕ) (x : Case) → i < length xs → x ≡ get_or xs i x → slice_get xs i ≡ Some x
item-at xs i x here e = slice_get-get_or xs i x here ∙ ap Some (sym e)

module _ (P : Case → Type 0) where
  all-append : (xs : List Case) (x : Case) → AllByRecursion P xs → P x → AllByRecursion P (xs ++ x ∷ [])
  all-append [] x h p = (p, tt)
  all-append (y ∷ xs) x h p = (h.0, all-append xs x h.1 p)

  pub all-more : (xs : List Case) (i : ℕ) (x : Case) → i < length xs → x ≡ get_or xs i x → AllByRecursion P (take i xs) → P x → AllByRecursion P (take (i + 1) xs)
  all-more xs i x here e h p = rw (take_more xs i x here, ← e) (all-append (take i xs) x h p)
