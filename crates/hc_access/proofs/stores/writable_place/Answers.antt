use Rattle.std.proofs.Common.{true, false, sym, ◌∙◌}
use Rattle.hc_objects.specs.Came.{world_of}
use Rattle.hc_access.proofs.Before.{writable-is}
use Rattle.hc_access.proofs.stores.writable_place.Goals as goal

pub returns-then-is_writable-clause-place : goal.returns-then-is_writable-clause-place
returns-then-is_writable-clause-place g c =
    sym (writable-is (world_of c.args.objects.now) c.args.o c.args.name c.in_ok-found.found.place c.in_ok-found.found.property true (sym c.in_ok-found.ensures.place) c.in_ok-found.ensures.at (sym c.is_writable.ensures ∙ c.if-is_writable.true))

pub returns-clause-place : goal.returns-clause-place
returns-clause-place g c =
    sym (writable-is (world_of c.args.objects.now) c.args.o c.args.name c.in_ok-found.found.place c.in_ok-found.found.property false (sym c.in_ok-found.ensures.place) c.in_ok-found.ensures.at (sym c.is_writable.ensures ∙ c.if-is_writable.false))
