use Rattle.std.proofs.Common.{ℕ, ◌<◌, ◌≤◌, List, take}
use Rattle.std.specs.Prelude.{IfSome}
use Rattle.std.specs.Option.{ForSome}
use Rattle.hc_sites.specs.State.{plan_at}
use Rattle.hc_deps.specs.Looks.{MadeLooks}
use Rattle.hc_deps.specs.Verdicts.{IsUnbroken, all_deps_count}
use Rattle.hc_deps.proofs.broken.next_broken.Given as goal

abbrev pub invariant-loop-site : goal.invariant-loop-site
invariant-loop-site g l = record {
  looks : MadeLooks g.L.Look.image g.L.Look.looked 0 (all_deps_count (take l.site l.sites)) l.fn.look l.look;
  unbroken : ForSome (g.L.Look.image l.fn.look) (λ (words : List ℕ). (other : ℕ) → l.from ≤ other → other < l.site → IfSome (plan_at l.sites other) (IsUnbroken l.shape words));
}
