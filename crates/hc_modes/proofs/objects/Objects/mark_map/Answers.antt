use Rattle.std.proofs.Common.{◌≡◌, ◌∙◌, ◌<◌, None, length, refl, ap, sym, subst}
use Rattle.hc_heap.specs.Writes.{Trail}
use Rattle.hc_heap.specs.Readings.{map_in, root_in}
use Rattle.hc_heap.specs.Frames.{goes-on}
use Rattle.hc_heap.specs.States.{HeapState, View, IsHeap}
use Rattle.hc_tree.specs.Growth.{marked}
use Rattle.hc_tree.specs.Tree.{IsTree}
use Rattle.hc_modes.specs.Admitting.{FactsStay}
use Rattle.hc_modes.specs.Came.{IsMarked}
use Rattle.hc_modes.specs.Meaning.{kept_of, world}
use Rattle.hc_modes.specs.State.{ObjectsState, IsObjects}
use Rattle.hc_modes.proofs.Left.{map-used, marked-same}
use Rattle.hc_modes.proofs.Shown.{fast-has, within}
use Rattle.hc_modes.proofs.Unstable.{mark-facts, mark-world, mark-sound}
use Rattle.hc_modes.proofs.objects.Objects.mark_map.Goals as goal

pub map_of-map-requires : goal.map_of-map-requires
map_of-map-requires g c = record { fast = fast-has _ _ c.args.o c.self.view_is c.requires.object c.self.invariant c.requires.fast }

pub mark_unstable-requires-clause-handed : goal.mark_unstable-requires-clause-handed
mark_unstable-requires-clause-handed g c =
    let v = c.self.inside.heap.view in
    let kept = c.self.inside.kept.items in
    let read : c.map_of-map.new.h.view ≡ v = ap (λ (s : HeapState g.row.P.Denot). s.view) c.map_of-map.ensures.new in
    let there : c.args.o < length kept = within _ _ c.args.o c.self.view_is c.requires.object in
    let fast : kept_of kept c.args.o ≡ None = subst (λ (s : ObjectsState g.row.P.Denot). kept_of s.kept c.args.o ≡ None) (sym c.self.view_is) c.requires.fast in
    subst (λ (w : View). c.map_of-map.result < w.used.maps) (sym read)
    (map-used c.maps_are_kept.ensures.law c.details_rise.ensures.law c.trees_stay.ensures.law c.unused_says_nothing.ensures.law v kept c.self.inside.of_null c.self.invariant c.args.o there fast c.map_of-map.result c.map_of-map.ensures.map)

pub invariant_of-self : goal.invariant_of-self
invariant_of-self g c =
    let v = c.self.inside.heap.view in
    let kept = c.self.inside.kept.items in
    let m = c.map_of-map.result in
    let read : c.map_of-map.new.h.view ≡ v = ap (λ (s : HeapState g.row.P.Denot). s.view) c.map_of-map.ensures.new in
    let is : c.mark_unstable.new.h.view ≡ record v { trail = marked v.trail m } = c.mark_unstable.ensures.view ∙ ap (λ (w : View). let x : View = record w { trail = marked w.trail m } in x) read in
    let there : c.args.o < length kept = within _ _ c.args.o c.self.view_is c.requires.object in
    let fast : kept_of kept c.args.o ≡ None = subst (λ (s : ObjectsState g.row.P.Denot). kept_of s.kept c.args.o ≡ None) (sym c.self.view_is) c.requires.fast in
    subst (λ (w : View). IsObjects w kept c.self.inside.of_null) (sym is)
    (mark-sound c.maps_are_kept.ensures.law c.details_rise.ensures.law c.unused_says_nothing.ensures.law v kept c.self.inside.of_null c.self.invariant c.args.o there fast m
    (subst (λ (w : View). IsTree w.trail) is c.mark_unstable.ensures.tree) (subst IsHeap is c.mark_unstable.ensures.heap))

pub returns : goal.returns
returns g c =
    let v = c.self.inside.heap.view in
    let kept = c.self.inside.kept.items in
    let m = c.map_of-map.result in
    let read : c.map_of-map.new.h.view ≡ v = ap (λ (s : HeapState g.row.P.Denot). s.view) c.map_of-map.ensures.new in
    let is : c.mark_unstable.new.h.view ≡ record v { trail = marked v.trail m } = c.mark_unstable.ensures.view ∙ ap (λ (w : View). let x : View = record w { trail = marked w.trail m } in x) read in
    let there : c.args.o < length kept = within _ _ c.args.o c.self.view_is c.requires.object in
    let fast : kept_of kept c.args.o ≡ None = subst (λ (s : ObjectsState g.row.P.Denot). kept_of s.kept c.args.o ≡ None) (sym c.self.view_is) c.requires.fast in
    let after : ObjectsState g.row.P.Denot = record { heap = c.mark_unstable.new.h; kept = kept; of_null = c.self.inside.of_null } in
    subst (λ (s : ObjectsState g.row.P.Denot). record { marked : IsMarked g.P.Pace.went s c.args.o after }) c.self.view_is (record {
      marked = record {
        steps = record {
          world = ap (λ (w : View). world w.trail kept) is
              ∙ mark-world c.maps_are_kept.ensures.law c.details_rise.ensures.law c.unused_says_nothing.ensures.law v kept c.self.inside.of_null c.self.invariant c.args.o there fast m
              (subst (λ (w : View). IsTree w.trail) is c.mark_unstable.ensures.tree) (subst IsHeap is c.mark_unstable.ensures.heap);
          shape = ap (λ (w : View). w.shape) is;
          goes = goes-on c.self.inside.heap.desk c.map_of-map.new.h.desk c.mark_unstable.new.h.desk c.map_of-map.ensures.goes c.mark_unstable.ensures.goes;
          went = g.met.P.Pace.goes_on _ _ _ _ _ _ c.map_of-map.ensures.went c.mark_unstable.ensures.went;
          keeps = subst (λ (w : View). FactsStay v.shape v.trail w.trail) (sym is)
              (mark-facts c.maps_are_kept.ensures.law c.details_rise.ensures.law c.unused_says_nothing.ensures.law v kept c.self.inside.of_null c.self.invariant c.args.o there fast m
              (subst (λ (w : View). IsTree w.trail) is c.mark_unstable.ensures.tree) (subst IsHeap is c.mark_unstable.ensures.heap)
              c.forms_are_kept.ensures.law c.honest_after.ensures.law c.kept_is_carried.ensures.law);
        };
        map = m;
        has = c.map_of-map.ensures.map;
        trail = ap (λ (w : View). w.trail) is;
        lawful = c.mark_unstable.ensures.heap.lawful;
        kept = refl;
        null = refl;
        used = ap (λ (w : View). w.used) is;
        roots = λ q. ap (λ (w : View). root_in w.trail q) is ∙ marked-same v.trail m (λ (t : Trail). root_in t q) (λ b. refl);
        maps = λ q. ap (λ (w : View). map_in w.trail q) is ∙ marked-same v.trail m (λ (t : Trail). map_in t q) (λ b. refl);
      };
    })
