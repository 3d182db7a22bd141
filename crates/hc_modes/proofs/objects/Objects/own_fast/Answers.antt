use Rattle.std.proofs.Common.{◌≡◌, ◌<◌, true, false, None, length, ap, sym, ◌∙◌, subst, arith}
use Rattle.hc_tree.specs.Copying.{CopyGets}
use Rattle.hc_modes.specs.Details.{BecameGets, DetailsAre}
use Rattle.hc_modes.proofs.Gets.{became-gets, fast-now}
use Rattle.hc_modes.proofs.Marking.{owned-copy, owned-marks, owned-own}
use Rattle.hc_heap.specs.Frames.{goes-on}
use Rattle.hc_heap.specs.States.{View, HeapState}
use Rattle.hc_heap.specs.Readings.{root_in}
use Rattle.hc_descs.specs.Entries.{count_of}
use Rattle.hc_tree.specs.declared.need.Need.{Need}
use Rattle.hc_tree.specs.Copying.{copy_need}
use Rattle.hc_tree.specs.Needs.{HasSpace, with_need}
use Rattle.hc_table.specs.Changes.{Moved}
use Rattle.hc_modes.specs.Becoming.{HasBecome, IsOwned}
use Rattle.hc_modes.specs.Came.{Steps, HowBecame}
use Rattle.hc_modes.specs.Meaning.{cause_in, kept_of}
use Rattle.hc_modes.specs.State.{ObjectsState}
use Rattle.hc_slots.specs.Fast.{HasMap}
use Rattle.hc_modes.specs.Modes.{proto_need}
use Rattle.hc_modes.proofs.Composing.{no-cause}
use Rattle.hc_modes.proofs.Become.{proto-copy}
use Rattle.hc_modes.proofs.Owned.{own-facts, own-sound, own-world}
use Rattle.hc_modes.proofs.Shown.{within, fast-has}
use Rattle.hc_modes.proofs.objects.Objects.own_fast.Goals as goal

pub map_of-map-requires : goal.map_of-map-requires
map_of-map-requires g c =
    record { fast = fast-has _ _ c.args.p c.self.view_is c.requires.object c.self.invariant c.requires.fast }

pub take_own_map-requires-clause-handed : goal.take_own_map-requires-clause-handed
take_own_map-requires-clause-handed g c =
    let v = c.self.inside.heap.view in
    let kept = c.self.inside.kept.items in
    let null = c.self.inside.of_null in
    let p = c.args.p in
    let there : p < length kept = within _ _ p c.self.view_is c.requires.object in
    let fast : kept_of kept p ≡ None = subst (λ (s : ObjectsState g.row.P.Denot). kept_of s.kept c.args.p ≡ None) (sym c.self.view_is) c.requires.fast in
    let read : c.map_of-map.new.h.view ≡ v = ap (λ (s : HeapState g.row.P.Denot). s.view) c.map_of-map.ensures.new in
    subst (λ (w : View). p < w.used.objects) (sym read) (omega (arith, there, c.self.invariant.items))

pub take_own_map-requires-clause-fast : goal.take_own_map-requires-clause-fast
take_own_map-requires-clause-fast g c =
    let v = c.self.inside.heap.view in
    let kept = c.self.inside.kept.items in
    let null = c.self.inside.of_null in
    let p = c.args.p in
    let there : p < length kept = within _ _ p c.self.view_is c.requires.object in
    let fast : kept_of kept p ≡ None = subst (λ (s : ObjectsState g.row.P.Denot). kept_of s.kept c.args.p ≡ None) (sym c.self.view_is) c.requires.fast in
    let read : c.map_of-map.new.h.view ≡ v = ap (λ (s : HeapState g.row.P.Denot). s.view) c.map_of-map.ensures.new in
    subst (λ (w : View). HasMap w.trail p) (sym read) (fast-has _ _ p c.self.view_is c.requires.object c.self.invariant c.requires.fast)

pub invariant_of-self : goal.invariant_of-self
invariant_of-self g c =
    let v = c.self.inside.heap.view in
    let kept = c.self.inside.kept.items in
    let null = c.self.inside.of_null in
    let p = c.args.p in
    let there : p < length kept = within _ _ p c.self.view_is c.requires.object in
    let fast : kept_of kept p ≡ None = subst (λ (s : ObjectsState g.row.P.Denot). kept_of s.kept c.args.p ≡ None) (sym c.self.view_is) c.requires.fast in
    let read : c.map_of-map.new.h.view ≡ v = ap (λ (s : HeapState g.row.P.Denot). s.view) c.map_of-map.ensures.new in
    let m = c.map_of-map.result in
    let new = c.take_own_map.new.h.view in
    own-sound c.maps_are_kept.ensures.law c.details_rise.ensures.law c.unused_says_nothing.ensures.law v new kept null c.self.invariant p there fast m c.map_of-map.ensures.map
    (subst (λ (w : View). IsOwned w new p m) read c.take_own_map.ensures.owned)

pub returns-clause-moved : goal.returns-clause-moved
returns-clause-moved g c =
    let v = c.self.inside.heap.view in
    let kept = c.self.inside.kept.items in
    let null = c.self.inside.of_null in
    let p = c.args.p in
    let there : p < length kept = within _ _ p c.self.view_is c.requires.object in
    let fast : kept_of kept p ≡ None = subst (λ (s : ObjectsState g.row.P.Denot). kept_of s.kept c.args.p ≡ None) (sym c.self.view_is) c.requires.fast in
    let read : c.map_of-map.new.h.view ≡ v = ap (λ (s : HeapState g.row.P.Denot). s.view) c.map_of-map.ensures.new in
    let m = c.map_of-map.result in
    let new = c.take_own_map.new.h.view in
    let it : IsOwned v new p m = subst (λ (w : View). IsOwned w new p m) read c.take_own_map.ensures.owned in
    let after : ObjectsState g.row.P.Denot = record { heap = c.take_own_map.new.h; kept = kept; of_null = null } in
    subst (λ (s : ObjectsState g.row.P.Denot). Steps g.P.Pace.went s Moved after) c.self.view_is (record {
      world = own-world c.maps_are_kept.ensures.law c.details_rise.ensures.law c.unused_says_nothing.ensures.law v new kept null c.self.invariant p there fast m c.map_of-map.ensures.map it;
      shape = it.changed.shape;
      goes = goes-on c.self.inside.heap.desk c.map_of-map.new.h.desk c.take_own_map.new.h.desk c.map_of-map.ensures.goes c.take_own_map.ensures.goes;
      went = g.met.P.Pace.goes_on _ _ _ _ _ _ c.map_of-map.ensures.went c.take_own_map.ensures.went;
      keeps = own-facts c.maps_are_kept.ensures.law c.details_rise.ensures.law c.forms_are_kept.ensures.law c.stable_is_kept.ensures.law c.honest_after.ensures.law c.kept_is_carried.ensures.law c.moved_is_carried.ensures.law
          v new kept null c.self.invariant p there fast m c.map_of-map.ensures.map it;
    })

pub returns-clause-became : goal.returns-clause-became
returns-clause-became g c =
    let v = c.self.inside.heap.view in
    let kept = c.self.inside.kept.items in
    let null = c.self.inside.of_null in
    let p = c.args.p in
    let there : p < length kept = within _ _ p c.self.view_is c.requires.object in
    let fast : kept_of kept p ≡ None = subst (λ (s : ObjectsState g.row.P.Denot). kept_of s.kept c.args.p ≡ None) (sym c.self.view_is) c.requires.fast in
    let read : c.map_of-map.new.h.view ≡ v = ap (λ (s : HeapState g.row.P.Denot). s.view) c.map_of-map.ensures.new in
    let m = c.map_of-map.result in
    let new = c.take_own_map.new.h.view in
    let it : IsOwned v new p m = subst (λ (w : View). IsOwned w new p m) read c.take_own_map.ensures.owned in
    subst (λ (s : ObjectsState g.row.P.Denot). HasBecome p s.heap.view.trail new.trail) c.self.view_is it.became

pub take_own_map-requires-clause-space : goal.take_own_map-requires-clause-space
take_own_map-requires-clause-space g c =
    let v = c.self.inside.heap.view in
    let p = c.args.p in
    let m = c.map_of-map.result in
    let shared : (root_in v.trail p).is_proto ≡ false = subst (λ (s : ObjectsState g.row.P.Denot). (root_in s.heap.view.trail p).is_proto ≡ false) (sym c.self.view_is) c.requires.shared in
    let need : proto_need v.trail p ≡ copy_need true None (count_of v.trail m) = proto-copy v p m shared c.map_of-map.ensures.map in
    let read : c.map_of-map.new.h.view ≡ v = ap (λ (s : HeapState g.row.P.Denot). s.view) c.map_of-map.ensures.new in
    let space : HasSpace v (proto_need v.trail p) = subst (λ (s : ObjectsState g.row.P.Denot). HasSpace s.heap.view (proto_need s.heap.view.trail p)) (sym c.self.view_is) c.requires.space in
    subst (λ (w : View). HasSpace w (copy_need true None (count_of w.trail m))) (sym read) (subst (HasSpace v) need space)

pub returns-clause-used : goal.returns-clause-used
returns-clause-used g c =
    let v = c.self.inside.heap.view in
    let p = c.args.p in
    let m = c.map_of-map.result in
    let shared : (root_in v.trail p).is_proto ≡ false = subst (λ (s : ObjectsState g.row.P.Denot). (root_in s.heap.view.trail p).is_proto ≡ false) (sym c.self.view_is) c.requires.shared in
    let need : proto_need v.trail p ≡ copy_need true None (count_of v.trail m) = proto-copy v p m shared c.map_of-map.ensures.map in
    let read : c.map_of-map.new.h.view ≡ v = ap (λ (s : HeapState g.row.P.Denot). s.view) c.map_of-map.ensures.new in
    let it : IsOwned v c.take_own_map.new.h.view p m = subst (λ (w : View). IsOwned w c.take_own_map.new.h.view p m) read c.take_own_map.ensures.owned in
    subst (λ (s : ObjectsState g.row.P.Denot). c.take_own_map.new.h.view.used ≡ with_need (proto_need s.heap.view.trail p) s.heap.view.used) c.self.view_is
    (it.used ∙ ap (λ (n : Need). with_need n v.used) (sym need))

pub returns-clause-how : goal.returns-clause-how
returns-clause-how g c =
    let v = c.self.inside.heap.view in
    let p = c.args.p in
    let m = c.map_of-map.result in
    let read : c.map_of-map.new.h.view ≡ v = ap (λ (s : HeapState g.row.P.Denot). s.view) c.map_of-map.ensures.new in
    let new = c.take_own_map.new.h.view in
    let it : IsOwned v new p m = subst (λ (w : View). IsOwned w new p m) read c.take_own_map.ensures.owned in
    let after : ObjectsState g.row.P.Denot = record { heap = c.take_own_map.new.h; kept = c.self.inside.kept.items; of_null = c.self.inside.of_null } in
    let shared : (root_in v.trail p).is_proto ≡ false = subst (λ (s : ObjectsState g.row.P.Denot). (root_in s.heap.view.trail p).is_proto ≡ false) (sym c.self.view_is) c.requires.shared in
    let fast : kept_of c.self.inside.kept.items p ≡ None = subst (λ (s : ObjectsState g.row.P.Denot). kept_of s.kept c.args.p ≡ None) (sym c.self.view_is) c.requires.fast in
    let got = became-gets v new p m c.map_of-map.ensures.map shared (subst (λ (w : View). DetailsAre (CopyGets true None w.trail m (count_of w.trail m) w.used.fields) w.trail new.trail) read c.take_own_map.ensures.details) in
    subst (λ (s : ObjectsState g.row.P.Denot). HowBecame s p after) c.self.view_is
    (record { marks = owned-marks v new p m c.map_of-map.ensures.map it; own = λ x is shared. owned-own v new p m x it is; owns = λ k is shared fast. owned-copy v new p m k c.map_of-map.ensures.map it is; details = fast-now (cause_in c.self.inside.kept.items p) (BecameGets v p) (no-cause c.self.inside.kept.items p fast) got })

pub returns-clause-details : goal.returns-clause-details
returns-clause-details g c =
    let v = c.self.inside.heap.view in
    let p = c.args.p in
    let m = c.map_of-map.result in
    let read : c.map_of-map.new.h.view ≡ v = ap (λ (s : HeapState g.row.P.Denot). s.view) c.map_of-map.ensures.new in
    let new = c.take_own_map.new.h.view in
    let shared : (root_in v.trail p).is_proto ≡ false = subst (λ (s : ObjectsState g.row.P.Denot). (root_in s.heap.view.trail p).is_proto ≡ false) (sym c.self.view_is) c.requires.shared in
    subst (λ (s : ObjectsState g.row.P.Denot). DetailsAre (BecameGets s.heap.view p) s.heap.view.trail new.trail) c.self.view_is
    (became-gets v new p m c.map_of-map.ensures.map shared
    (subst (λ (w : View). DetailsAre (CopyGets true None w.trail m (count_of w.trail m) w.used.fields) w.trail new.trail) read c.take_own_map.ensures.details))
