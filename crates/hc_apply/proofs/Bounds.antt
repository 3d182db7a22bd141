-- The looks of a plan, counted.
use Rattle.std.proofs.Common.{◌≡◌, ℕ, suc, ◌+◌, ◌*◌, ◌<◌, ◌≤◌, List, refl, subst, arith}
use Rattle.std.specs.Prelude.{◌↔◌, Option, Some, None, IsSome}
use Rattle.std.proofs.Math.Nat.{le_trans, suc-mul, mul-le-mul_right}
use Rattle.hc_board.specs.Trail.{Access}
use Rattle.hc_deps.specs.Looks.{MadeLooks}
use Rattle.hc_plan.specs.declared.case.Op.{Op}
use Rattle.hc_plan.specs.declared.case.Op.TheVariants.{Load, Store}
use Rattle.hc_value.specs.declared.value.Value.{Value}
use Rattle.hc_apply.specs.Answers.{value_looks, plan_looks}

-- one case more
pub case-more : (number count looks : ℕ) → number < count → number * looks + looks ≤ count * looks
case-more number count looks h = let on : suc number ≤ count = omega arith in
    subst (λ (n : ℕ). n ≤ count * looks) (suc-mul number looks) (mul-le-mul_right looks on)

pub map-first : (k : ℕ) → 1 + (k + 2) ≤ k + 3
map-first k = omega arith

pub plan-within : (op : Op) (value : Option Value) (count : ℕ) → (IsSome value ↔ (op ≡ Store)) → count * value_looks value + 3 ≤ plan_looks op count
plan-within Load None count given = omega arith
plan-within Load (Some value) count given = let e = given.0 refl in absurd (cc)
plan-within Store None count given = omega arith
plan-within Store (Some value) count given = omega arith

-- the bounds are within wider ones
pub looks-within : {L : Type 0} {image : L → Option (List ℕ)} {looked : L → List Access → L → Type 0} {least most more : ℕ} {a b : L}
    → MadeLooks image looked least most a b → most ≤ more → MadeLooks image looked least more a b
looks-within p k = record { reads = p.reads; looks = p.looks; enough = p.enough; few = le_trans p.few k; same = p.same }
