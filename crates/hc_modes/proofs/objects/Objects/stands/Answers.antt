use Rattle.std.proofs.Common.{subst}
use Rattle.hc_modes.specs.Looks.{AreFast}
use Rattle.hc_modes.specs.State.{ObjectsState}
use Rattle.hc_modes.proofs.Mapped.{mapped-fast}
use Rattle.hc_modes.proofs.objects.Objects.stands.Goals as goal

pub returns-clause-fast : goal.returns-clause-fast
returns-clause-fast g c =
    let is_fast = mapped-fast c.unused_says_nothing.ensures.law c.self.inside.heap.view c.self.inside.kept.items c.self.inside.of_null c.self.invariant in
    subst (λ (s : ObjectsState g.row.P.Denot). AreFast s.heap.view.trail) c.self.view_is is_fast
