use Rattle.std.proofs.Common.{◌≡◌, ◌∙◌, ℕ, ◌<◌, ◌≤◌, List, Option, length, refl, ap, sym, subst, arith}
use Rattle.hc_heap.specs.Frames.{adds-wider}
use Rattle.hc_heap.specs.Kept.{Adds}
use Rattle.hc_heap.specs.States.{View}
use Rattle.hc_cells.specs.Chains.{HaveEnds}
use Rattle.hc_modes.specs.State.{ObjectsState}
use Rattle.hc_modes.specs.Validity.{OnlyCells, WritesCells, protos_in, protos_of}
use Rattle.hc_modes.proofs.Celled.{celled-facts, celled-sound, celled-world, few, have-ends, invalid-cells, length-protos, used-kept}
use Rattle.hc_modes.proofs.Shown.{within}
use Rattle.hc_modes.proofs.objects.Objects.invalidate.Goals as goal

pub invalidate-requires-clause-there : goal.invalidate-requires-clause-there
invalidate-requires-clause-there g c =
    let v = c.self.inside.heap.view in
    let kept = c.self.inside.kept.items in
    let null = c.self.inside.of_null in
    let protos : c.args.protos.now ≡ protos_in v.shape.objects kept = subst (λ (s : ObjectsState g.row.P.Denot). c.args.protos.now ≡ protos_of s) (sym c.self.view_is) c.requires.protos in
    let size : length c.args.protos.now ≡ v.shape.objects = ap length protos ∙ length-protos c.unused_says_nothing.ensures.law v kept null c.self.invariant in
    let most : length kept ≤ v.shape.objects = few c.unused_says_nothing.ensures.law v kept null c.self.invariant in
    let there : c.args.o < length kept = within _ _ c.args.o c.self.view_is c.requires.object in
    let room = c.requires.room in
    omega (arith, there, most, size, room)

pub invalidate-requires-clause-items : goal.invalidate-requires-clause-items
invalidate-requires-clause-items g c =
    let v = c.self.inside.heap.view in
    let kept = c.self.inside.kept.items in
    let null = c.self.inside.of_null in
    let protos : c.args.protos.now ≡ protos_in v.shape.objects kept = subst (λ (s : ObjectsState g.row.P.Denot). c.args.protos.now ≡ protos_of s) (sym c.self.view_is) c.requires.protos in
    let size : length c.args.protos.now ≡ v.shape.objects = ap length protos ∙ length-protos c.unused_says_nothing.ensures.law v kept null c.self.invariant in
    let most : length kept ≤ v.shape.objects = few c.unused_says_nothing.ensures.law v kept null c.self.invariant in
    let items = c.self.invariant.items in
    omega (arith, items, most, size)

pub invalidate-requires-clause-ends : goal.invalidate-requires-clause-ends
invalidate-requires-clause-ends g c =
    let v = c.self.inside.heap.view in
    let kept = c.self.inside.kept.items in
    let null = c.self.inside.of_null in
    let protos : c.args.protos.now ≡ protos_in v.shape.objects kept = subst (λ (s : ObjectsState g.row.P.Denot). c.args.protos.now ≡ protos_of s) (sym c.self.view_is) c.requires.protos in
    subst (λ (ps : List (Option ℕ)). HaveEnds v.trail ps) (sym protos) (have-ends c.unused_says_nothing.ensures.law v kept null c.self.invariant)

pub invariant_of-self : goal.invariant_of-self
invariant_of-self g c =
    let v = c.self.inside.heap.view in
    let kept = c.self.inside.kept.items in
    let null = c.self.inside.of_null in
    let x = c.invalidate.new.h.view in
    let view : x ≡ record v { trail = x.trail } = c.invalidate.ensures.view in
    let shape : x.shape ≡ v.shape = ap (λ (w : View). w.shape) view in
    let used : x.used ≡ record v.used { cells = x.used.cells } = used-kept v x (ap (λ (w : View). w.used) view) in
    let writes : Adds WritesCells v.trail x.trail = adds-wider (invalid-cells v.trail c.args.protos.now c.args.o) c.invalidate.ensures.writes in
    celled-sound c.maps_are_kept.ensures.law c.details_rise.ensures.law c.trees_stay.ensures.law v x kept null c.self.invariant writes c.invalidate.ensures.heap shape used

pub returns-clause-only : goal.returns-clause-only
returns-clause-only g c =
    let v = c.self.inside.heap.view in
    let kept = c.self.inside.kept.items in
    let null = c.self.inside.of_null in
    let x = c.invalidate.new.h.view in
    let view : x ≡ record v { trail = x.trail } = c.invalidate.ensures.view in
    let shape : x.shape ≡ v.shape = ap (λ (w : View). w.shape) view in
    let used : x.used ≡ record v.used { cells = x.used.cells } = used-kept v x (ap (λ (w : View). w.used) view) in
    let writes : Adds WritesCells v.trail x.trail = adds-wider (invalid-cells v.trail c.args.protos.now c.args.o) c.invalidate.ensures.writes in
    let after : ObjectsState g.row.P.Denot = record { heap = c.invalidate.new.h; kept = kept; of_null = null } in
    subst (λ (s : ObjectsState g.row.P.Denot). OnlyCells g.P.Pace.went s after) c.self.view_is (record {
      steps = record {
        world = celled-world c.maps_are_kept.ensures.law c.details_rise.ensures.law c.trees_stay.ensures.law v x kept null c.self.invariant writes c.invalidate.ensures.heap shape used;
        shape = shape;
        goes = c.invalidate.ensures.goes;
        went = c.invalidate.ensures.went;
        keeps = celled-facts c.maps_are_kept.ensures.law c.details_rise.ensures.law c.trees_stay.ensures.law v x kept null c.self.invariant writes c.invalidate.ensures.heap shape used c.honest_after.ensures.law c.kept_is_carried.ensures.law;
      };
      writes = writes;
      used = used;
      kept = refl;
      null = refl;
    })
