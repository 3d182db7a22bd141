-- What results and tests of numbers say.
use Rattle.std.proofs.Common.{◌≡◌, ℕ, ◌<◌, ◌≤◌, Ok, Err, Bool, true, false, ◌&&◌, Option, Some, None, refl}
use Rattle.std.specs.Prelude.{OnErr, Result, is_some}
use Rattle.std.proofs.lemmas.Bool.{le-ltb, lt-ltb}
use Rattle.hc_session.specs.Tables.{is_among}

pub on-err : {A B X : Type 0} (r : Result A B) → X → OnErr r X
on-err {A} {B} {X} (Ok x) holds = tt
on-err {A} {B} {X} (Err fault) holds = holds

-- a number is one of so many
pub among-is : (count o : ℕ) → o < count → is_among count o ≡ true
among-is count o lt = lt-ltb o count lt

pub among-not : (count o : ℕ) → count ≤ o → is_among count o ≡ false
among-not count o le = le-ltb o count le

-- both of two tests
pub both-true : (p q : Bool) → p ≡ true → q ≡ true → (p && q) ≡ true
both-true true q h k = k
both-true false q h k = let f : ⊥ = cc in absurd f

pub first-false : (p q : Bool) → p ≡ false → (p && q) ≡ false
first-false false q h = refl
first-false true q h = let f : ⊥ = cc in absurd f

pub second-false : (p q : Bool) → q ≡ false → (p && q) ≡ false
second-false false q h = refl
second-false true q h = h

pub value-none : {A : Type 0} (value : Option A) → is_some value ≡ false → value ≡ None
value-none {A} None e = refl
value-none {A} (Some v) e = let f : ⊥ = cc in absurd f
