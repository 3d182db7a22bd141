use Rattle.std.proofs.Common.{inl}
use Rattle.hc_modes.specs.Laws.{still-refl}
use Rattle.hc_value.specs.declared.prop.Held.TheVariants.{Datum}
use Rattle.hc_objects.specs.declared.change.Change.TheVariants.{Write}
use Rattle.hc_objects.proofs.Made.{change-made}
use Rattle.hc_objects.proofs.Storing.{fit-none, kind-here, store-fits, store-live}
use Rattle.hc_objects.proofs.objects.Objects.store_at.Goals as goal

pub change-requires-clause-may : goal.change-requires-clause-may
change-requires-clause-may g c =
    let may = c.requires.may in
    (kind-here c.gates_are_open.ensures.law c.args.self.now c.stands.ensures.sound c.args.o may.map c.args.i may.field c.requires.object may.datum, c.requires.range)

pub returns : goal.returns
returns g c =
    let a = c.args.self.now in
    let o = c.args.o in
    let v = c.args.value in
    let live = store-live a.heap.view.trail o c.args.i v c.requires.may in
    let fit = fit-none g.P.Pace.went g.met.P.Pace.stays a c.stands.ensures.sound c.stands.ensures.cells o c.args.i (Datum v) live (store-fits a.heap.view.trail o c.args.i v c.requires.may) in
    record { did = change-made g.P.Pace.went a a a c.change.new.self o (Write c.args.i (Datum v)) (inl (live, still-refl a)) fit c.in-Ok.ensures.did }
