use Rattle.std.proofs.Common.{◌≡◌, take}
use Rattle.hc_heap.specs.States.{OnlyLoads}
use Rattle.hc_objects.specs.Came.{IsStill}
use Rattle.hc_access.specs.Accesses.{with_events}
use Rattle.hc_access.proofs.Noting.{forgets_in}
use Rattle.hc_access.proofs.notes.forget_dead.Given as goal

abbrev pub invariant-loop-place : goal.invariant-loop-place
invariant-loop-place g l =
    (l.sites ≡ with_events l.initial.sites l.initial.s (forgets_in l.initial.objects.heap.view.trail (take l.place-index l.place-items)))
    × IsStill l.initial.objects l.objects × OnlyLoads l.place-index l.initial.objects.heap.desk l.objects.heap.desk
