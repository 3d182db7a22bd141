use Rattle.std.proofs.Common.{◌≡◌, ℕ, ◌*◌, List, take}
use Rattle.std.specs.Option.{ForSome}
use Rattle.std.specs.List.{AllByRecursion}
use Rattle.hc_deps.specs.Looks.{MadeLooks}
use Rattle.hc_apply.specs.Admits.{Refuses}
use Rattle.hc_apply.specs.Answers.{value_looks}
use Rattle.hc_apply.proofs.applied.first_answer.Given as goal

abbrev pub invariant-loop-number : goal.invariant-loop-number
invariant-loop-number g l = record {
  looks : MadeLooks g.L.Look.image g.L.Look.looked 0 (l.number * value_looks l.value) l.fn.peek.look.now l.peek.look.now;
  refused : ForSome (g.L.Look.image l.fn.peek.look.now) (λ (words : List ℕ). AllByRecursion (Refuses l.fn.peek.shape words l.room l.object l.value) (take l.number l.cases));
  same_reference : l.peek.look.ghost_name ≡ l.fn.peek.look.ghost_name;
  shape : l.peek.shape ≡ l.fn.peek.shape;
}
