use Rattle.std.proofs.Common.{◌≡◌, ℕ, ◌<◌, ◌≤◌, ◌∷◌, true, None, Some, IfSome, ap, sym, ◌∙◌, subst}
use Rattle.std.specs.Prelude.{IsSome}
use Rattle.hc_layout.specs.declared.capacity.TheConstants.{MAX_FAST}
use Rattle.hc_heap.specs.Lawful.{IsOwnMap}
use Rattle.hc_heap.specs.Readings.{map_in, prototype_in}
use Rattle.hc_heap.specs.States.{View, HeapState, IsHeap}
use Rattle.hc_heap.specs.Writes.{ObjectMap}
use Rattle.hc_descs.specs.Entries.{count_of}
use Rattle.hc_tree.specs.Growth.{MayBePrototype, marked}
use Rattle.hc_tree.specs.Tree.{IsTree}
use Rattle.hc_modes.specs.Becoming.{with_proto}
use Rattle.hc_heap.specs.Readings.{detail_in}
use Rattle.hc_tree.specs.Copying.{CopyGets}
use Rattle.hc_tree.specs.Details.{DetailsAre}
use Rattle.hc_modes.proofs.Gets.{details-on, marked-copy}
use Rattle.hc_modes.proofs.Owned.{IsCopied, copied-by, count-marked, few-entries, has-proto, has-there, may-proto, marked-proto, own-done, own-lawful, own-now, own-tree}
use Rattle.hc_modes.proofs.becoming.take_own_map.Goals as goal

pub unwrap-proto-requires : goal.unwrap-proto-requires
unwrap-proto-requires g c =
    let v = c.args.h.now.view in
    let o = c.args.object in
    let m = c.args.map in
    subst IsSome (sym c.proto.ensures.value) (has-proto c.maps_are_kept.ensures.law c.details_rise.ensures.law c.trees_stay.ensures.law c.unused_says_nothing.ensures.law v c.stands.ensures.heap o m c.requires.fast c.requires.has c.requires.shared c.gates_are_open.ensures.law)

pub mark_unstable-requires-clause-handed : goal.mark_unstable-requires-clause-handed
mark_unstable-requires-clause-handed g c =
    let v = c.args.h.now.view in
    let o = c.args.object in
    let m = c.args.map in
    let read : c.proto.new.self.view ≡ v = ap (λ (s : HeapState g.row.P.Denot). s.view) c.proto.ensures.new in
    subst (λ (w : View). m < w.used.maps) (sym read) (has-there c.maps_are_kept.ensures.law c.details_rise.ensures.law c.trees_stay.ensures.law c.unused_says_nothing.ensures.law v c.stands.ensures.heap o m c.requires.fast c.requires.has c.requires.shared)

pub private_copy-requires-clause-few : goal.private_copy-requires-clause-few
private_copy-requires-clause-few g c =
    let v = c.args.h.now.view in
    let o = c.args.object in
    let m = c.args.map in
    let read : c.proto.new.self.view ≡ v = ap (λ (s : HeapState g.row.P.Denot). s.view) c.proto.ensures.new in
    let is : c.mark_unstable.new.h.view ≡ record v { trail = marked v.trail m } = c.mark_unstable.ensures.view ∙ ap (λ (w : View). let x : View = record w { trail = marked w.trail m } in x) read in
    subst (λ (w : View). count_of w.trail m ≤ MAX_FAST) (sym is) (subst (λ (n : ℕ). n ≤ MAX_FAST) (sym (count-marked v.trail m)) (few-entries c.maps_are_kept.ensures.law c.details_rise.ensures.law c.trees_stay.ensures.law c.unused_says_nothing.ensures.law v c.stands.ensures.heap o m c.requires.fast c.requires.has c.requires.shared c.gates_are_open.ensures.law))

pub private_copy-requires-clause-proto : goal.private_copy-requires-clause-proto
private_copy-requires-clause-proto g c =
    let v = c.args.h.now.view in
    let o = c.args.object in
    let m = c.args.map in
    let read : c.proto.new.self.view ≡ v = ap (λ (s : HeapState g.row.P.Denot). s.view) c.proto.ensures.new in
    let is : c.mark_unstable.new.h.view ≡ record v { trail = marked v.trail m } = c.mark_unstable.ensures.view ∙ ap (λ (w : View). let x : View = record w { trail = marked w.trail m } in x) read in
    let prototype : prototype_in v.trail m ≡ Some c.unwrap-proto.result = sym c.proto.ensures.value ∙ c.unwrap-proto.ensures in
    subst (λ (w : View). MayBePrototype w.used w.trail c.unwrap-proto.result) (sym is)
    (marked-proto v m c.unwrap-proto.result (may-proto c.forms_are_kept.ensures.law c.unused_says_nothing.ensures.law v c.stands.ensures.heap m c.unwrap-proto.result prototype))

pub set_object_map-requires-clause-lawful : goal.set_object_map-requires-clause-lawful
set_object_map-requires-clause-lawful g c =
    let v = c.args.h.now.view in
    let o = c.args.object in
    let m = c.args.map in
    let read : c.proto.new.self.view ≡ v = ap (λ (s : HeapState g.row.P.Denot). s.view) c.proto.ensures.new in
    let is : c.mark_unstable.new.h.view ≡ record v { trail = marked v.trail m } = c.mark_unstable.ensures.view ∙ ap (λ (w : View). let x : View = record w { trail = marked w.trail m } in x) read in
    let prototype : prototype_in v.trail m ≡ Some c.unwrap-proto.result = sym c.proto.ensures.value ∙ c.unwrap-proto.ensures in
    let w = c.private_copy.new.h.view in
    let it : IsCopied v w m c.in-Ok.copy c.unwrap-proto.result = copied-by v c.mark_unstable.new.h.view w m c.in-Ok.copy c.unwrap-proto.result is prototype c.mark_unstable.ensures.heap c.in-Ok.ensures.heap c.in-Ok.ensures.tree c.in-Ok.ensures.shape c.in-Ok.ensures.used c.in-Ok.ensures.number c.in-Ok.ensures.copy c.in-Ok.ensures.writes in
    own-lawful c.maps_are_kept.ensures.law c.details_rise.ensures.law c.trees_stay.ensures.law c.unused_says_nothing.ensures.law v c.stands.ensures.heap o m c.requires.fast c.requires.has c.requires.shared w c.in-Ok.copy c.unwrap-proto.result it

pub set_is_proto-requires-clause-tree : goal.set_is_proto-requires-clause-tree
set_is_proto-requires-clause-tree g c =
    let v = c.args.h.now.view in
    let o = c.args.object in
    let m = c.args.map in
    let read : c.proto.new.self.view ≡ v = ap (λ (s : HeapState g.row.P.Denot). s.view) c.proto.ensures.new in
    let is : c.mark_unstable.new.h.view ≡ record v { trail = marked v.trail m } = c.mark_unstable.ensures.view ∙ ap (λ (w : View). let x : View = record w { trail = marked w.trail m } in x) read in
    let prototype : prototype_in v.trail m ≡ Some c.unwrap-proto.result = sym c.proto.ensures.value ∙ c.unwrap-proto.ensures in
    let w = c.private_copy.new.h.view in
    let it : IsCopied v w m c.in-Ok.copy c.unwrap-proto.result = copied-by v c.mark_unstable.new.h.view w m c.in-Ok.copy c.unwrap-proto.result is prototype c.mark_unstable.ensures.heap c.in-Ok.ensures.heap c.in-Ok.ensures.tree c.in-Ok.ensures.shape c.in-Ok.ensures.used c.in-Ok.ensures.number c.in-Ok.ensures.copy c.in-Ok.ensures.writes in
    let moved = c.set_object_map.ensures.view in
    let lawful = (subst IsHeap moved c.set_object_map.ensures.heap).lawful in
    subst (λ (x : View). IsTree x.trail) (sym moved) (own-tree c.maps_are_kept.ensures.law c.details_rise.ensures.law c.trees_stay.ensures.law c.unused_says_nothing.ensures.law v c.stands.ensures.heap o m c.requires.fast c.requires.has c.requires.shared w c.in-Ok.copy c.unwrap-proto.result it lawful)

pub set_is_proto-requires-clause-own : goal.set_is_proto-requires-clause-own
set_is_proto-requires-clause-own g c =
    let v = c.args.h.now.view in
    let o = c.args.object in
    let m = c.args.map in
    let read : c.proto.new.self.view ≡ v = ap (λ (s : HeapState g.row.P.Denot). s.view) c.proto.ensures.new in
    let is : c.mark_unstable.new.h.view ≡ record v { trail = marked v.trail m } = c.mark_unstable.ensures.view ∙ ap (λ (w : View). let x : View = record w { trail = marked w.trail m } in x) read in
    let prototype : prototype_in v.trail m ≡ Some c.unwrap-proto.result = sym c.proto.ensures.value ∙ c.unwrap-proto.ensures in
    let w = c.private_copy.new.h.view in
    let it : IsCopied v w m c.in-Ok.copy c.unwrap-proto.result = copied-by v c.mark_unstable.new.h.view w m c.in-Ok.copy c.unwrap-proto.result is prototype c.mark_unstable.ensures.heap c.in-Ok.ensures.heap c.in-Ok.ensures.tree c.in-Ok.ensures.shape c.in-Ok.ensures.used c.in-Ok.ensures.number c.in-Ok.ensures.copy c.in-Ok.ensures.writes in
    let moved = c.set_object_map.ensures.view in
    subst (λ (x : View). IfSome (map_in x.trail o) (λ k. IsOwnMap x.trail k)) (sym moved) (own-now c.maps_are_kept.ensures.law c.details_rise.ensures.law c.trees_stay.ensures.law c.unused_says_nothing.ensures.law v c.stands.ensures.heap o m c.requires.fast c.requires.has c.requires.shared w c.in-Ok.copy c.unwrap-proto.result it)

pub returns-clause-owned : goal.returns-clause-owned
returns-clause-owned g c =
    let v = c.args.h.now.view in
    let o = c.args.object in
    let m = c.args.map in
    let read : c.proto.new.self.view ≡ v = ap (λ (s : HeapState g.row.P.Denot). s.view) c.proto.ensures.new in
    let is : c.mark_unstable.new.h.view ≡ record v { trail = marked v.trail m } = c.mark_unstable.ensures.view ∙ ap (λ (w : View). let x : View = record w { trail = marked w.trail m } in x) read in
    let prototype : prototype_in v.trail m ≡ Some c.unwrap-proto.result = sym c.proto.ensures.value ∙ c.unwrap-proto.ensures in
    let w = c.private_copy.new.h.view in
    let it : IsCopied v w m c.in-Ok.copy c.unwrap-proto.result = copied-by v c.mark_unstable.new.h.view w m c.in-Ok.copy c.unwrap-proto.result is prototype c.mark_unstable.ensures.heap c.in-Ok.ensures.heap c.in-Ok.ensures.tree c.in-Ok.ensures.shape c.in-Ok.ensures.used c.in-Ok.ensures.number c.in-Ok.ensures.copy c.in-Ok.ensures.writes in
    let last : c.set_is_proto.new.h.view ≡ record w { trail = with_proto (ObjectMap o (Some c.in-Ok.copy) ∷ w.trail) o } =
    c.set_is_proto.ensures.view ∙ ap (λ (x : View). let y : View = record x { trail = with_proto x.trail o } in y) c.set_object_map.ensures.view in
    own-done c.maps_are_kept.ensures.law c.details_rise.ensures.law c.trees_stay.ensures.law c.unused_says_nothing.ensures.law v c.stands.ensures.heap o m c.requires.fast c.requires.has c.requires.shared w c.in-Ok.copy c.unwrap-proto.result it c.set_is_proto.new.h.view last c.set_is_proto.ensures.tree c.set_is_proto.ensures.heap

pub returns-clause-details : goal.returns-clause-details
returns-clause-details g c =
    let v = c.args.h.now.view in
    let o = c.args.object in
    let m = c.args.map in
    let w = c.private_copy.new.h.view in
    let read : c.proto.new.self.view ≡ v = ap (λ (s : HeapState g.row.P.Denot). s.view) c.proto.ensures.new in
    let is : c.mark_unstable.new.h.view ≡ record v { trail = marked v.trail m } = c.mark_unstable.ensures.view ∙ ap (λ (w : View). let x : View = record w { trail = marked w.trail m } in x) read in
    let last : c.set_is_proto.new.h.view ≡ record w { trail = with_proto (ObjectMap o (Some c.in-Ok.copy) ∷ w.trail) o } =
    c.set_is_proto.ensures.view ∙ ap (λ (x : View). let y : View = record x { trail = with_proto x.trail o } in y) c.set_object_map.ensures.view in
    details-on (marked-copy v.trail w.trail m v.used.fields true None
    (subst (λ (x : View). DetailsAre (CopyGets true None x.trail m (count_of x.trail m) x.used.fields) x.trail w.trail) is c.in-Ok.ensures.details))
    (λ f. ap (λ (x : View). detail_in x.trail f) last)
