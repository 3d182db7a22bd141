use Rattle.std.proofs.Common.{arith, ◌≡◌, ◌∙◌, ℕ, false, true, ap, sym, subst, Some}
use Rattle.std.specs.Prelude.{IsSome, IsTrue}
use Rattle.hc_heap.specs.Writes.{ObjectMap}
use Rattle.hc_heap.specs.Lawful.{LawfulObjectMap}
use Rattle.hc_heap.specs.Readings.{gate_in, prototype_in}
use Rattle.hc_descs.specs.Entries.{LacksName, entries_in}
use Rattle.hc_heap.specs.States.{View, HeapState, IsHeap, with_write}
use Rattle.hc_tree.specs.Growth.{MayBePrototype}
use Rattle.hc_value.specs.declared.key.Key.{Key}
use Rattle.hc_value.specs.declared.prop.Kind.TheVariants.{AccessorProp}
use Rattle.hc_tree.specs.Copying.{MayBeLast}
use Rattle.hc_tree.specs.Tree.{gate_with, tagged_field}
use Rattle.hc_modes.specs.Changes.{key_of}
use Rattle.hc_slots.specs.Fast.{IsFast}
use Rattle.hc_modes.specs.Privates.{IsCopied, IsGrownAlone}
use Rattle.hc_heap.specs.Readings.{detail_in}
use Rattle.hc_value.specs.declared.field.Constness.TheVariants.{Const}
use Rattle.hc_descs.specs.Entries.{count_of}
use Rattle.hc_tree.specs.Copying.{CopyGets}
use Rattle.hc_tree.specs.Details.{DetailsAre}
use Rattle.hc_modes.specs.Admitting.{held_detail}
use Rattle.hc_modes.specs.Details.{GrownGets}
use Rattle.hc_modes.proofs.Gets.{details-as, details-on, fitted-detail}
use Rattle.hc_modes.proofs.GrownAlone.{capacity-then, grow-lawful, grown-alone, handed-then, may-be-prototype, out-then, room-then, unstable-then}
use Rattle.hc_value.specs.Field.{is_detail_within}
use Rattle.hc_value.specs.declared.field.Detail.{Detail}
use Rattle.hc_modes.proofs.Asked.{detail-same}
use Rattle.hc_modes.proofs.Fitting.{may-hold}
use Rattle.hc_modes.proofs.privates.grow_to_copy.Goals as goal

pub unwrap-proto-requires : goal.unwrap-proto-requires
unwrap-proto-requires g c =
    subst IsSome (sym (c.proto.ensures.value ∙ ap (λ (w : View). prototype_in w.trail c.args.map) (ap (λ (s : HeapState g.row.P.Denot). s.view) c.entry_for-entry.ensures.same))) (c.gates_are_open.ensures.law c.args.h.now.view.shape c.args.h.now.view.trail c.args.map (gate_with c.args.n true) c.stands.ensures.heap.lawful c.requires.open).prototype

pub copy_map-copy-requires-clause-proto : goal.copy_map-copy-requires-clause-proto
copy_map-copy-requires-clause-proto g c =
    let first : c.entry_for-entry.new.h.view ≡ c.args.h.now.view = ap (λ (s : HeapState g.row.P.Denot). s.view) c.entry_for-entry.ensures.same in
    let read : c.proto.new.self.view ≡ c.args.h.now.view = ap (λ (s : HeapState g.row.P.Denot). s.view) c.proto.ensures.new ∙ first in
    let is : prototype_in c.args.h.now.view.trail c.args.map ≡ Some c.unwrap-proto.result = ap (λ (w : View). prototype_in w.trail c.args.map) (sym (ap (λ (s : HeapState g.row.P.Denot). s.view) c.entry_for-entry.ensures.same)) ∙ sym c.proto.ensures.value ∙ c.unwrap-proto.ensures in
    subst (λ (v : View). MayBePrototype v.used v.trail c.unwrap-proto.result) (sym read)
    (may-be-prototype c.forms_are_kept.ensures.law c.unused_says_nothing.ensures.law c.args.h.now.view c.stands.ensures.heap c.args.map c.unwrap-proto.result is)

pub copy_map-copy-requires-clause-more : goal.copy_map-copy-requires-clause-more
copy_map-copy-requires-clause-more g c =
    let v = c.args.h.now.view in
    let d = c.entry_for-entry.result.1 in
    let read : c.proto.new.self.view ≡ v = ap (λ (s : HeapState g.row.P.Denot). s.view) c.proto.ensures.new ∙ ap (λ (s : HeapState g.row.P.Denot). s.view) c.entry_for-entry.ensures.same in
    let key = c.entry_for-entry.ensures.key in
    let is_open : gate_in v.trail c.args.map ≡ Some (gate_with c.args.n true) = c.requires.open in
    subst (λ (x : View). MayBeLast x.shape x.trail c.args.map c.entry_for-entry.result.0 d) (sym read)
    (subst (λ (k : Key). MayBeLast v.shape v.trail c.args.map k d) (sym key) (record {
      form = c.requires.key;
      proper = c.requires.proper;
      lacks = subst (λ (n : ℕ). LacksName v.trail c.args.map n c.args.p.name) (sym (ap entries_in is_open)) c.requires.lacks;
      accessor = subst (λ (k : Key). k.kind ≡ AccessorProp → d ≡ tagged_field) key c.entry_for-entry.ensures.accessor;
      class = c.entry_for-entry.ensures.form;
      there = c.entry_for-entry.ensures.there;
    }))

pub held_word-word-requires-clause-fits : goal.held_word-word-requires-clause-fits
held_word-word-requires-clause-fits g c =
    let d = c.entry_for-entry.result.1 in
    may-hold c.args.h.now.view.trail c.args.p.held Const d (subst (λ (e : Detail). IsTrue (is_detail_within e d)) c.entry_for-entry.ensures.detail (detail-same d))

pub fill_next-requires : goal.fill_next-requires
fill_next-requires g c =
    let v = c.args.h.now.view in
    let w = c.copy_map-copy.new.h.view in
    let proto = c.unwrap-proto.result in
    let d = c.entry_for-entry.result.1 in
    let read : c.proto.new.self.view ≡ v = ap (λ (s : HeapState g.row.P.Denot). s.view) c.proto.ensures.new ∙ ap (λ (s : HeapState g.row.P.Denot). s.view) c.entry_for-entry.ensures.same in
    let is : prototype_in v.trail c.args.map ≡ Some proto = ap (λ (w : View). prototype_in w.trail c.args.map) (sym (ap (λ (s : HeapState g.row.P.Denot). s.view) c.entry_for-entry.ensures.same)) ∙ sym c.proto.ensures.value ∙ c.unwrap-proto.ensures in
    let fast : IsFast v.trail c.args.object c.args.map (gate_with c.args.n true) = record { is_open = c.requires.open; holds = c.requires.holds; private = sym c.requires.private } in
    let it : IsCopied false (Some (key_of c.args.p, d)) proto v w c.args.map = subst (λ (x : View). IsCopied false (Some (key_of c.args.p, d)) proto x w c.args.map) read
    (subst (λ (k : Key). IsCopied false (Some (k, d)) proto c.proto.new.self.view w c.args.map) c.entry_for-entry.ensures.key c.copy_map-copy.ensures.copied) in
    record {
      few = c.requires.few;
      capacity = capacity-then c.maps_are_kept.ensures.law c.details_rise.ensures.law c.trees_stay.ensures.law c.unused_says_nothing.ensures.law proto v w c.args.object c.args.map c.args.n c.args.p d c.stands.ensures.heap it c.requires.has fast is c.entry_for-entry.ensures.detail;
      out = out-then c.maps_are_kept.ensures.law c.details_rise.ensures.law c.trees_stay.ensures.law c.unused_says_nothing.ensures.law proto v w c.args.object c.args.map c.args.n c.args.p d c.stands.ensures.heap it c.requires.has fast is c.entry_for-entry.ensures.detail c.requires.out;
      handed = handed-then c.maps_are_kept.ensures.law c.details_rise.ensures.law c.trees_stay.ensures.law c.unused_says_nothing.ensures.law proto v w c.args.object c.args.map c.args.n c.args.p d c.stands.ensures.heap it c.requires.has fast is c.entry_for-entry.ensures.detail c.requires.handed;
      unstable = unstable-then c.maps_are_kept.ensures.law c.details_rise.ensures.law c.trees_stay.ensures.law c.unused_says_nothing.ensures.law proto v w c.args.object c.args.map c.args.n c.args.p d c.stands.ensures.heap it c.requires.has fast is c.entry_for-entry.ensures.detail;
      room = room-then c.maps_are_kept.ensures.law c.details_rise.ensures.law c.trees_stay.ensures.law c.unused_says_nothing.ensures.law proto v w c.args.object c.args.map c.args.n c.args.p d c.stands.ensures.heap it c.requires.has fast is c.entry_for-entry.ensures.detail c.requires.space;
    }

pub set_object_map-requires-clause-lawful : goal.set_object_map-requires-clause-lawful
set_object_map-requires-clause-lawful g c =
    let v = c.args.h.now.view in
    let w = c.copy_map-copy.new.h.view in
    let x = c.fill_next.new.h.view in
    let proto = c.unwrap-proto.result in
    let d = c.entry_for-entry.result.1 in
    let read : c.proto.new.self.view ≡ v = ap (λ (s : HeapState g.row.P.Denot). s.view) c.proto.ensures.new ∙ ap (λ (s : HeapState g.row.P.Denot). s.view) c.entry_for-entry.ensures.same in
    let is : prototype_in v.trail c.args.map ≡ Some proto = ap (λ (w : View). prototype_in w.trail c.args.map) (sym (ap (λ (s : HeapState g.row.P.Denot). s.view) c.entry_for-entry.ensures.same)) ∙ sym c.proto.ensures.value ∙ c.unwrap-proto.ensures in
    let fast : IsFast v.trail c.args.object c.args.map (gate_with c.args.n true) = record { is_open = c.requires.open; holds = c.requires.holds; private = sym c.requires.private } in
    let it : IsCopied false (Some (key_of c.args.p, d)) proto v w c.args.map = subst (λ (y : View). IsCopied false (Some (key_of c.args.p, d)) proto y w c.args.map) read
    (subst (λ (k : Key). IsCopied false (Some (k, d)) proto c.proto.new.self.view w c.args.map) c.entry_for-entry.ensures.key c.copy_map-copy.ensures.copied) in
    let number = subst (λ (y : View). c.copy_map-copy.result ≡ y.used.maps) read c.copy_map-copy.ensures.number in
    subst (λ (k : ℕ). LawfulObjectMap x.shape x.trail c.args.object (Some k)) (sym number)
    (grow-lawful c.maps_are_kept.ensures.law c.details_rise.ensures.law c.trees_stay.ensures.law c.unused_says_nothing.ensures.law proto v w c.args.object c.args.map c.args.n c.args.p d c.stands.ensures.heap it c.requires.has fast is c.entry_for-entry.ensures.detail
    x c.held_word-word.result c.fill_next.ensures.heap c.fill_next.ensures.fitted (omega (arith, c.fill_next.ensures.fitted.more)) c.fill_next.ensures.last c.held_word-word.ensures.form c.held_word-word.ensures.holds)

pub returns-clause-grown : goal.returns-clause-grown
returns-clause-grown g c =
    let v = c.args.h.now.view in
    let w = c.copy_map-copy.new.h.view in
    let x = c.fill_next.new.h.view in
    let proto = c.unwrap-proto.result in
    let d = c.entry_for-entry.result.1 in
    let read : c.proto.new.self.view ≡ v = ap (λ (s : HeapState g.row.P.Denot). s.view) c.proto.ensures.new ∙ ap (λ (s : HeapState g.row.P.Denot). s.view) c.entry_for-entry.ensures.same in
    let is : prototype_in v.trail c.args.map ≡ Some proto = ap (λ (w : View). prototype_in w.trail c.args.map) (sym (ap (λ (s : HeapState g.row.P.Denot). s.view) c.entry_for-entry.ensures.same)) ∙ sym c.proto.ensures.value ∙ c.unwrap-proto.ensures in
    let fast : IsFast v.trail c.args.object c.args.map (gate_with c.args.n true) = record { is_open = c.requires.open; holds = c.requires.holds; private = sym c.requires.private } in
    let it : IsCopied false (Some (key_of c.args.p, d)) proto v w c.args.map = subst (λ (y : View). IsCopied false (Some (key_of c.args.p, d)) proto y w c.args.map) read
    (subst (λ (k : Key). IsCopied false (Some (k, d)) proto c.proto.new.self.view w c.args.map) c.entry_for-entry.ensures.key c.copy_map-copy.ensures.copied) in
    let number = subst (λ (y : View). c.copy_map-copy.result ≡ y.used.maps) read c.copy_map-copy.ensures.number in
    let view : c.set_object_map.new.self.view ≡ with_write x (ObjectMap c.args.object (Some v.used.maps)) =
    subst (λ (k : ℕ). c.set_object_map.new.self.view ≡ with_write x (ObjectMap c.args.object (Some k))) number c.set_object_map.ensures.view in
    subst (λ (y : View). IsGrownAlone v y c.args.object c.args.map c.args.n c.args.p) (sym view)
    (grown-alone c.maps_are_kept.ensures.law c.details_rise.ensures.law c.trees_stay.ensures.law c.unused_says_nothing.ensures.law proto v w c.args.object c.args.map c.args.n c.args.p d c.stands.ensures.heap it c.requires.has fast is c.entry_for-entry.ensures.detail
    x c.held_word-word.result c.fill_next.ensures.heap c.fill_next.ensures.fitted (omega (arith, c.fill_next.ensures.fitted.more)) c.fill_next.ensures.last c.held_word-word.ensures.form c.held_word-word.ensures.holds (subst IsHeap view c.set_object_map.ensures.heap))

pub returns-clause-went : goal.returns-clause-went
returns-clause-went g c =
    let on = g.met.P.Pace.goes_on in
    on _ _ _ _ _ _ c.entry_for-entry.ensures.went
    (on _ _ _ _ _ _ c.proto.ensures.went
    (on _ _ _ _ _ _ c.copy_map-copy.ensures.went
    (on _ _ _ _ _ _ c.fill_next.ensures.went c.set_object_map.ensures.went)))

pub returns-clause-details : goal.returns-clause-details
returns-clause-details g c =
    let v = c.args.h.now.view in
    let w = c.copy_map-copy.new.h.view in
    let x = c.fill_next.new.h.view in
    let m = c.args.map in
    let e = c.entry_for-entry.result in
    let read : c.proto.new.self.view ≡ v = ap (λ (s : HeapState g.row.P.Denot). s.view) c.proto.ensures.new ∙ ap (λ (s : HeapState g.row.P.Denot). s.view) c.entry_for-entry.ensures.same in
    let asked : e.1 ≡ held_detail v.trail c.args.p.held Const = c.entry_for-entry.ensures.detail in
    let copied : DetailsAre (CopyGets false (Some e) v.trail m (count_of v.trail m) v.used.fields) v.trail w.trail =
    subst (λ (y : View). DetailsAre (CopyGets false (Some e) y.trail m (count_of y.trail m) y.used.fields) y.trail w.trail) read c.copy_map-copy.ensures.details in
    details-on (details-as (CopyGets false (Some e) v.trail m (count_of v.trail m) v.used.fields) (GrownGets true v.trail v.used m c.args.n c.args.p)
    (λ f d got. (got.0, got.1 ∙ sym asked)) (λ f d got. (got.0, got.1 ∙ asked)) copied)
    (λ f. ap (λ (y : View). detail_in y.trail f) c.set_object_map.ensures.view ∙ fitted-detail w x c.args.object c.args.n f c.fill_next.ensures.fitted)
