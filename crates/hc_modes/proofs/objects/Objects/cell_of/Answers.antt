use Rattle.std.proofs.Common.{◌≡◌, ◌∙◌, ℕ, ◌<◌, ◌≤◌, List, Option, length, refl, ap, sym, subst, arith}
use Rattle.hc_cells.specs.Chains.{HaveEnds}
use Rattle.hc_modes.specs.State.{ObjectsState}
use Rattle.hc_modes.specs.Validity.{OnlyCells, protos_in, protos_of}
use Rattle.hc_modes.proofs.Celled.{celled-facts, celled-sound, celled-world, few, IsCelled, have-ends, is-celled, length-protos}
use Rattle.hc_modes.proofs.Shown.{within}
use Rattle.hc_modes.proofs.objects.Objects.cell_of.Goals as goal

pub cell_of-requires-clause-handed : goal.cell_of-requires-clause-handed
cell_of-requires-clause-handed g c =
    let kept = c.self.inside.kept.items in
    let there : c.args.o < length kept = within _ _ c.args.o c.self.view_is c.requires.object in
    let items = c.self.invariant.items in
    omega (arith, there, items)

pub cell_of-requires-clause-items : goal.cell_of-requires-clause-items
cell_of-requires-clause-items g c =
    let v = c.self.inside.heap.view in
    let kept = c.self.inside.kept.items in
    let null = c.self.inside.of_null in
    let protos : c.args.protos.now ≡ protos_in v.shape.objects kept = subst (λ (s : ObjectsState g.row.P.Denot). c.args.protos.now ≡ protos_of s) (sym c.self.view_is) c.requires.protos in
    let size : length c.args.protos.now ≡ v.shape.objects = ap length protos ∙ length-protos c.unused_says_nothing.ensures.law v kept null c.self.invariant in
    let most : length kept ≤ v.shape.objects = few c.unused_says_nothing.ensures.law v kept null c.self.invariant in
    let items = c.self.invariant.items in
    omega (arith, items, most, size)

pub cell_of-requires-clause-ends : goal.cell_of-requires-clause-ends
cell_of-requires-clause-ends g c =
    let v = c.self.inside.heap.view in
    let kept = c.self.inside.kept.items in
    let null = c.self.inside.of_null in
    let protos : c.args.protos.now ≡ protos_in v.shape.objects kept = subst (λ (s : ObjectsState g.row.P.Denot). c.args.protos.now ≡ protos_of s) (sym c.self.view_is) c.requires.protos in
    subst (λ (ps : List (Option ℕ)). HaveEnds v.trail ps) (sym protos) (have-ends c.unused_says_nothing.ensures.law v kept null c.self.invariant)

pub invariant_of-self : goal.invariant_of-self
invariant_of-self g c =
    let v = c.self.inside.heap.view in
    let kept = c.self.inside.kept.items in
    let null = c.self.inside.of_null in
    let x = c.cell_of.new.h.view in
    let it : IsCelled v x = is-celled v x c.args.o c.cell_of.result c.cell_of.ensures.named c.cell_of.ensures.made c.cell_of.ensures.none in
    celled-sound c.maps_are_kept.ensures.law c.details_rise.ensures.law c.trees_stay.ensures.law v x kept null c.self.invariant it.writes c.cell_of.ensures.heap it.shape it.used

pub returns-clause-only : goal.returns-clause-only
returns-clause-only g c =
    let v = c.self.inside.heap.view in
    let kept = c.self.inside.kept.items in
    let null = c.self.inside.of_null in
    let x = c.cell_of.new.h.view in
    let it : IsCelled v x = is-celled v x c.args.o c.cell_of.result c.cell_of.ensures.named c.cell_of.ensures.made c.cell_of.ensures.none in
    let after : ObjectsState g.row.P.Denot = record { heap = c.cell_of.new.h; kept = kept; of_null = null } in
    subst (λ (s : ObjectsState g.row.P.Denot). OnlyCells g.P.Pace.went s after) c.self.view_is (record {
      steps = record {
        world = celled-world c.maps_are_kept.ensures.law c.details_rise.ensures.law c.trees_stay.ensures.law v x kept null c.self.invariant it.writes c.cell_of.ensures.heap it.shape it.used;
        shape = it.shape;
        goes = c.cell_of.ensures.goes;
        went = c.cell_of.ensures.went;
        keeps = celled-facts c.maps_are_kept.ensures.law c.details_rise.ensures.law c.trees_stay.ensures.law v x kept null c.self.invariant it.writes c.cell_of.ensures.heap it.shape it.used c.honest_after.ensures.law c.kept_is_carried.ensures.law;
      };
      writes = it.writes;
      used = it.used;
      kept = refl;
      null = refl;
    })
