use Rattle.std.proofs.Common.{ℕ, List, take}
use Rattle.std.specs.Option.{ForSome}
use Rattle.std.specs.List.{AllByRecursion}
use Rattle.hc_deps.specs.Looks.{MadeLooks}
use Rattle.hc_deps.specs.Holds.{HoldsButValue}
use Rattle.hc_deps.proofs.broken.first_broken_but_value.Given as goal

abbrev pub invariant-loop-dep : goal.invariant-loop-dep
invariant-loop-dep g l = record {
  looks : MadeLooks g.L.Look.image g.L.Look.looked 0 l.dep-index l.fn.look l.look;
  held : ForSome (g.L.Look.image l.fn.look) (λ (words : List ℕ). AllByRecursion (HoldsButValue l.fn.shape words) (take l.dep-index l.deps));
}
