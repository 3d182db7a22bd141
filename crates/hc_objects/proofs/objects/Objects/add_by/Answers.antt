use Rattle.std.proofs.Common.{inl}
use Rattle.hc_modes.specs.Laws.{still-refl}
use Rattle.hc_objects.specs.declared.change.Change.TheVariants.{AddBy}
use Rattle.hc_objects.proofs.Made.{change-made}
use Rattle.hc_objects.proofs.Storing.{come-adds, come-live}
use Rattle.hc_objects.proofs.objects.Objects.add_by.Goals as goal

pub change-requires-clause-may : goal.change-requires-clause-may
change-requires-clause-may g c =
    come-adds c.comers_may_get.ensures.law c.args.self.now c.stands.ensures.sound c.args.o c.args.child c.args.name c.args.value c.requires.object c.requires.name c.requires.range c.requires.may

pub returns : goal.returns
returns g c =
    let a = c.args.self.now in
    let o = c.args.o in
    let live = come-live a.heap.view o c.args.child c.args.name c.args.value c.requires.may in
    record { did = change-made g.P.Pace.went a a a c.change.new.self o (AddBy c.args.child c.args.name c.args.value) (inl (live, still-refl a)) (still-refl a) c.in-Ok.ensures.did }
