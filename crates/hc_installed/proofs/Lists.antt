-- Lists, and what is there.
use Rattle.std.proofs.Common.{◌≡◌, ℕ, zero, suc, Option, Some, None, List, [], ◌∷◌, ◌++◌, refl, sym, subst}
use Rattle.std.specs.Prelude.{IsSomeAnd, IfSome, slice_get}
use Rattle.std.specs.List.{AllByRecursion}

pub some-same : {T : Type 0} (a b : T) → Some a ≡ Some b → a ≡ b
some-same a b e = cc

pub none-some : {T : Type 0} (a : T) (C : Type 0) → None ≡ Some a → C
none-some a C e = let no : ⊥ = cc in absurd no

pub there : {T : Type 0} (P : T → Type 0) (o : Option T) (v : T) → o ≡ Some v → P v → IsSomeAnd o P
there P o v e h = subst (λ x. IsSomeAnd x P) (sym e) h

pub some-and : {T : Type 0} (P : T → Type 0) (o : Option T) → IsSomeAnd o P → (v : T) × (o ≡ Some v) × P v
some-and P (Some v) h = (v, refl, h)
some-and P None h = absurd h

pub some-at : {T : Type 0} (P : T → Type 0) (o : Option T) (v : T) → o ≡ Some v → IsSomeAnd o P → P v
some-at P o v e h = subst (λ x. IsSomeAnd x P) e h

pub if-at : {T : Type 0} (P : T → Type 0) (o : Option T) (v : T) → o ≡ Some v → IfSome o P → P v
if-at P o v e h = subst (λ x. IfSome x P) e h

pub if-to : {T : Type 0} (P Q : T → Type 0) (o : Option T) → ((v : T) → P v → Q v) → IfSome o P → IfSome o Q
if-to P Q (Some v) to h = to v h
if-to P Q None to h = tt

pub if-both : {T : Type 0} (P Q R : T → Type 0) (o : Option T) → ((v : T) → P v → Q v → R v) → IfSome o P → IfSome o Q → IfSome o R
if-both P Q R (Some v) to h k = to v h k
if-both P Q R None to h k = tt

pub all-to : {T : Type 0} (P Q : T → Type 0) → ((x : T) → P x → Q x) → (xs : List T) → AllByRecursion P xs → AllByRecursion Q xs
all-to P Q to [] h = tt
all-to P Q to (x ∷ xs) h = (to x h.0, all-to P Q to xs h.1)

pub all-with : {T : Type 0} (P : T → Type 0) (x : T) (xs : List T) → P x → AllByRecursion P xs → AllByRecursion P (xs ++ x ∷ [])
all-with P x [] p h = (p, tt)
all-with P x (y ∷ xs) p h = (h.0, all-with P x xs p h.1)

pub all-item : {T : Type 0} (P : T → Type 0) (xs : List T) (i : ℕ) (x : T) → AllByRecursion P xs → slice_get xs i ≡ Some x → P x
all-item P [] i x h e = none-some x (P x) e
all-item P (y ∷ ys) zero x h e = subst P (some-same y x e) h.0
all-item P (y ∷ ys) (suc i) x h e = all-item P ys i x h.1 e

-- an item between others
pub all-middle : {T : Type 0} (P : T → Type 0) (xs ys : List T) (x : T) → AllByRecursion P (xs ++ x ∷ ys) → P x
all-middle P [] ys x h = h.0
all-middle P (y ∷ xs) ys x h = all-middle P xs ys x h.1
