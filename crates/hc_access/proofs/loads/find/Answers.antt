use Rattle.std.proofs.Common.{sym, ap, ◌∙◌}
use Rattle.hc_modes.specs.State.{ObjectsState}
use Rattle.hc_access.specs.Ways.{way_to}
use Rattle.hc_access.proofs.Lookups.{way-none, way-some}
use Rattle.hc_access.proofs.loads.find.Goals as goal

pub returns-in_default-clause-way : goal.returns-in_default-clause-way
returns-in_default-clause-way g c =
    sym (way-none c.gates_are_open.ensures.law c.unused_says_nothing.ensures.law c.chains_are_told.ensures.protos c.args.objects.now c.stands.ensures.sound c.args.o c.args.name c.requires.there (sym c.in_default.ensures.nearest))

pub returns-clause-way : goal.returns-clause-way
returns-clause-way g c =
    c.way_to-way.ensures.way
    ∙ (ap (λ (s : ObjectsState _). way_to s.kept c.args.o c.in-Some.spot.holder c.in-Some.spot.place) c.in-Some.ensures.still.is
    ∙ sym (way-some c.gates_are_open.ensures.law c.unused_says_nothing.ensures.law c.chains_are_told.ensures.protos c.args.objects.now c.stands.ensures.sound c.args.o c.args.name c.requires.there
    c.in-Some.spot.holder c.in-Some.spot.place c.in-Some.spot.property (sym c.in-Some.ensures.nearest) c.in-Some.ensures.place))
