-- What is there, taken apart.
use Rattle.std.proofs.Common.{◌≡◌, Option, Some, None, IsSome, refl, sym, subst}
use Rattle.std.specs.Prelude.{IsSomeAnd}

pub some-same : {T : Type 0} (a b : T) → Some a ≡ Some b → a ≡ b
some-same a b e = cc

pub there : {T : Type 0} (P : T → Type 0) (o : Option T) (v : T) → o ≡ Some v → P v → IsSomeAnd o P
there P o v e h = subst (λ x. IsSomeAnd x P) (sym e) h

pub is-some : {T : Type 0} (o : Option T) (v : T) → o ≡ Some v → IsSome o
is-some o v e = subst IsSome (sym e) refl

pub some-of : {T : Type 0} (o : Option T) → IsSome o → (v : T) × (o ≡ Some v)
some-of (Some v) h = (v, refl)
some-of None h = let no : ⊥ = cc in absurd no

pub some-and : {T : Type 0} (P : T → Type 0) (o : Option T) → IsSomeAnd o P → (v : T) × (o ≡ Some v) × P v
some-and P (Some v) h = (v, refl, h)
some-and P None h = absurd h

pub some-to : {T : Type 0} (P Q : T → Type 0) (o : Option T) → ((v : T) → o ≡ Some v → P v → Q v) → IsSomeAnd o P → IsSomeAnd o Q
some-to P Q (Some v) to h = to v refl h
some-to P Q None to h = h

pub some-at : {T : Type 0} (P : T → Type 0) (o : Option T) (v : T) → o ≡ Some v → IsSomeAnd o P → P v
some-at P o v e h = subst (λ x. IsSomeAnd x P) e h
