-- Lists by index, and what holds of each item of one.
use Rattle.std.proofs.Common.{◌≡◌, ◌≢◌, ℕ, zero, suc, ◌<◌, List, [], ◌∷◌, ◌++◌, Some, None, cond, eq-eqb, refl, ap, ◌∙◌, arith}
use Rattle.std.proofs.lemmas.Bool.{ne_eqb}
use Rattle.std.specs.List.{AllByRecursion}
use Rattle.std.specs.Prelude.{option_map}
use Rattle.hc_value.specs.declared.prop.Prop.{Prop}
use Rattle.hc_slots.specs.Listed.{listed}
use Rattle.hc_table.specs.World.{place_of, property_of}

-- no property has the name
pub property-lacks : (f : ℕ → Prop) (n name : ℕ) → ((k : ℕ) → k < n → (f k).name ≢ name) → property_of (listed f n) name ≡ None
property-lacks f zero name h = refl
property-lacks f (suc n) name h =
    ap (λ b. cond b (Some (f 0)) (property_of (listed (λ i. f (suc i)) n) name)) (ne_eqb (f 0).name name (h 0 (omega arith)))
    ∙ property-lacks (λ i. f (suc i)) n name (λ k lt. h (suc k) (omega arith))

-- the k-th property is the first of the name
pub property-found : (f : ℕ → Prop) (n k name : ℕ) → k < n → (f k).name ≡ name → ((j : ℕ) → j < k → (f j).name ≢ name) → property_of (listed f n) name ≡ Some (f k)
property-found f zero k name lt is before = absurd (omega arith)
property-found f (suc n) zero name lt is before =
    ap (λ b. cond b (Some (f 0)) (property_of (listed (λ i. f (suc i)) n) name)) (eq-eqb (f 0).name name is)
property-found f (suc n) (suc k) name lt is before =
    ap (λ b. cond b (Some (f 0)) (property_of (listed (λ i. f (suc i)) n) name)) (ne_eqb (f 0).name name (before 0 (omega arith)))
    ∙ property-found (λ i. f (suc i)) n k name (omega arith) is (λ j lower. before (suc j) (omega arith))

pub place-found : (f : ℕ → Prop) (n k name : ℕ) → k < n → (f k).name ≡ name → ((j : ℕ) → j < k → (f j).name ≢ name) → place_of (listed f n) name ≡ Some k
place-found f zero k name lt is before = absurd (omega arith)
place-found f (suc n) zero name lt is before =
    ap (λ b. cond b (Some 0) (option_map suc (place_of (listed (λ i. f (suc i)) n) name))) (eq-eqb (f 0).name name is)
place-found f (suc n) (suc k) name lt is before =
    ap (λ b. cond b (Some 0) (option_map suc (place_of (listed (λ i. f (suc i)) n) name))) (ne_eqb (f 0).name name (before 0 (omega arith)))
    ∙ ap (option_map suc) (place-found (λ i. f (suc i)) n k name (omega arith) is (λ j lower. before (suc j) (omega arith)))

-- what holds of each item

pub all-to : {T : Type 0} (P Q : T → Type 0) → ((x : T) → P x → Q x) → (xs : List T) → AllByRecursion P xs → AllByRecursion Q xs
all-to P Q to [] h = tt
all-to P Q to (x ∷ xs) h = (to x h.0, all-to P Q to xs h.1)

pub all-both : {T : Type 0} (P Q R : T → Type 0) → ((x : T) → P x → Q x → R x) → (xs : List T) → AllByRecursion P xs → AllByRecursion Q xs → AllByRecursion R xs
all-both P Q R to [] h k = tt
all-both P Q R to (x ∷ xs) h k = (to x h.0 k.0, all-both P Q R to xs h.1 k.1)

pub all-front : {T : Type 0} (P : T → Type 0) (xs ys : List T) → AllByRecursion P (xs ++ ys) → AllByRecursion P xs
all-front P [] ys h = tt
all-front P (x ∷ xs) ys h = (h.0, all-front P xs ys h.1)

pub all-back : {T : Type 0} (P : T → Type 0) (xs ys : List T) → AllByRecursion P (xs ++ ys) → AllByRecursion P ys
all-back P [] ys h = h
all-back P (x ∷ xs) ys h = all-back P xs ys h.1

pub all-joined : {T : Type 0} (P : T → Type 0) (xs ys : List T) → AllByRecursion P xs → AllByRecursion P ys → AllByRecursion P (xs ++ ys)
all-joined P [] ys h k = k
all-joined P (x ∷ xs) ys h k = (h.0, all-joined P xs ys h.1 k)
