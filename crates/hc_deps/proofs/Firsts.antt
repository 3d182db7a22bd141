-- The first item of a list of which a fact doesn't hold.
use Rattle.std.proofs.Common.{◌≡◌, ℕ, suc, ◌+◌, ◌<◌, ◌≤◌, Bool, true, false, List, [], ◌∷◌, ◌++◌, length, get_or, take, drop, sym, ◌∙◌, ap, arith, take-append-drop}
use Rattle.std.specs.Prelude.{◌↔◌, IsTrue}
use Rattle.std.specs.List.{AllByRecursion}
use Rattle.std.proofs.Math.Seq.{drop-cons}
use Rattle.std.proofs.lemmas.List.{take_more}
use Rattle.hc_plan.specs.declared.deps.Dep.{Dep}
use Rattle.hc_plan.specs.declared.deps.Dep.TheVariants.{Live, Stable, Rep as HasRep, Const as IsConst, Class as HasClass, Value as HasValue}
use Rattle.hc_deps.specs.Holds.{most_looks}
use Rattle.hc_deps.specs.Verdicts.{IsFirstBroken}

module _ (P : Dep → Type 0) where
  all-append : (xs : List Dep) (x : Dep) → AllByRecursion P xs → P x → AllByRecursion P (xs ++ x ∷ [])
  all-append [] x h p = (p, tt)
  all-append (y ∷ xs) x h p = (h.0, all-append xs x h.1 p)

  pub all-more : (xs : List Dep) (i : ℕ) (d : Dep) → i < length xs → AllByRecursion P (take i xs) → P (get_or xs i d) → AllByRecursion P (take (i + 1) xs)
  all-more xs i d here h p = rw (take_more xs i d here) (all-append (take i xs) (get_or xs i d) h p)

  pub first-at : (xs : List Dep) (i : ℕ) (d : Dep) → i < length xs → AllByRecursion P (take i xs) → (P (get_or xs i d) → ⊥) → IsFirstBroken P xs (get_or xs i d)
  first-at xs i d here h broken = record {
    before = take i xs;
    after = drop (suc i) xs;
    are = sym (take-append-drop i xs) ∙ ap (λ (ys : List Dep). take i xs ++ ys) (drop-cons xs i d here);
    hold = h;
    broken = broken;
  }

-- a test that failed, and one that didn't
pub not-held : {P : Type 0} {b : Bool} → (IsTrue b ↔ P) → b ≡ false → P → ⊥
not-held h e p = let t = h.1 p in grind (arith, t, e)

pub was-held : {P : Type 0} {b : Bool} → (IsTrue b ↔ P) → b ≡ true → P
was-held h e = h.0 e

pub most-three : (dep : Dep) → most_looks dep ≤ 3
most-three (Live map) = omega arith
most-three (Stable map) = omega arith
most-three (HasRep field rep) = omega arith
most-three (IsConst field) = omega arith
most-three (HasClass field class) = omega arith
most-three (HasValue object slot word) = omega arith
