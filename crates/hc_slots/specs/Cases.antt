-- Cases of numbers and options.
use Rattle.std.proofs.Common.{◌≡◌, ◌≢◌, ℕ, Bool, true, false, cond, eqb, eqb-true, eq-eqb, true≢false, Option, Some, None, IsSome, refl, sym, ◌∙◌}
use Rattle.std.specs.Prelude.{IsSomeAnd}

-- a number is this one or another
pub same-or : (p o : ℕ) (C : Type 0) → (p ≡ o → C) → (p ≢ o → C) → C
same-or p o C same other = by (eqb p o) refl
  where
    by : (b : Bool) → eqb p o ≡ b → C
    by true e = same (eqb-true p o e)
    by false e = other (λ is. true≢false (sym (eq-eqb p o is) ∙ e))

pub cond-other : {T : Type 0} (i x : ℕ) (a b : T) → i ≢ x → cond (eqb i x) a b ≡ b
cond-other i x a b ne = by (eqb i x) refl
  where
    by : (c : Bool) → eqb i x ≡ c → cond c a b ≡ b
    by true e = absurd (ne (eqb-true i x e))
    by false e = refl

-- an option that has a value
pub some-of : {T : Type 0} (o : Option T) → IsSome o → (v : T) × (o ≡ Some v)
some-of (Some v) h = (v, refl)
some-of None h = let n : ⊥ = cc in absurd n

-- and what holds of it
pub some-and : {T : Type 0} (o : Option T) (P : T → Type 0) → IsSomeAnd o P → (v : T) × ((o ≡ Some v) × P v)
some-and (Some v) P h = (v, (refl, h))
some-and None P h = absurd h

pub not-both : {T : Type 0} (a : Option T) (g : T) → a ≡ None → a ≡ Some g → ⊥
not-both a g p q = let n : None ≡ Some g = sym p ∙ q in let f : ⊥ = cc in f

pub some-is : {T : Type 0} (a b : T) → Some a ≡ Some b → a ≡ b
some-is a b e = cc
