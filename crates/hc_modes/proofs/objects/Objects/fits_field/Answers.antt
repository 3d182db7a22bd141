use Rattle.std.proofs.Common.{◌≡◌, ◌<◌, Some, None, length, ap, sym, subst}
use Rattle.std.specs.Prelude.{IsSomeAnd}
use Rattle.hc_value.specs.Prop.{kind_of}
use Rattle.hc_heap.specs.Readings.{gate_in}
use Rattle.hc_heap.specs.States.{HeapState, View}
use Rattle.hc_table.specs.Changes.{kind_at}
use Rattle.hc_table.specs.World.{props_at}
use Rattle.hc_modes.specs.Meaning.{kept_of, world}
use Rattle.hc_modes.specs.State.{ObjectsState}
use Rattle.hc_modes.proofs.Outgrown.{entry-of}
use Rattle.hc_modes.proofs.Shown.{fast-has, within}
use Rattle.hc_modes.proofs.objects.Objects.fits_field.Goals as goal

pub map_of-map-requires : goal.map_of-map-requires
map_of-map-requires g c = record { fast = fast-has _ _ c.args.o c.self.view_is c.requires.object c.self.invariant c.requires.fast }

pub detail_at-rep-requires : goal.detail_at-rep-requires
detail_at-rep-requires g c =
    let v = c.self.inside.heap.view in
    let kept = c.self.inside.kept.items in
    let o = c.args.o in
    let first : c.map_of-map.new.h.view ≡ v = ap (λ (s : HeapState g.row.P.Denot). s.view) c.map_of-map.ensures.new in
    let there : o < length kept = within _ _ o c.self.view_is c.requires.object in
    let fast : kept_of kept o ≡ None = subst (λ (s : ObjectsState g.row.P.Denot). kept_of s.kept o ≡ None) (sym c.self.view_is) c.requires.fast in
    let kind : kind_at (props_at (world v.trail kept) o) c.args.i ≡ Some (kind_of c.args.held.now) =
    subst (λ (s : ObjectsState g.row.P.Denot). kind_at (props_at (world s.heap.view.trail s.kept) o) c.args.i ≡ Some (kind_of c.args.held.now)) (sym c.self.view_is) c.requires.kind in
    record {
      entry = subst (λ (w : View). IsSomeAnd (gate_in w.trail c.map_of-map.result) (λ x. c.args.i < x.entries)) (sym first)
          (entry-of v kept c.self.inside.of_null c.self.invariant o there fast c.args.i c.args.held.now kind c.map_of-map.result c.map_of-map.ensures.map);
    }
