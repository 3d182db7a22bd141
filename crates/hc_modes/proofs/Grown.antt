-- An object whose map has one entry more, with a slot that is filled.
use Rattle.std.proofs.Common.{◌≡◌, ℕ, ◌+◌, ◌<◌, Bool, true, false, not, List, [], ◌∷◌, ◌++◌, Option, Some, sym, ap, ◌∙◌, subst}
use Rattle.hc_layout.specs.declared.words.GateWord.{GateWord}
use Rattle.hc_value.specs.declared.field.Detail.{Detail}
use Rattle.hc_value.specs.declared.key.Key.{Key}
use Rattle.hc_value.specs.declared.prop.Held.{Held}
use Rattle.hc_value.specs.declared.prop.Prop.{Prop}
use Rattle.hc_heap.specs.Writes.{Trail}
use Rattle.hc_heap.specs.Readings.{gate_in, prototype_in}
use Rattle.hc_descs.specs.Entries.{key_at, field_at, count_of, entries_in, detail_of, detail_at}
use Rattle.hc_table.specs.World.{Object, with_list}
use Rattle.hc_slots.specs.Listed.{listed, listed-more}
use Rattle.hc_slots.specs.Meaning.{held_in, prop_of, prop_in, slot_word, proto_of, is_extensible, fast_props, fast_object}
use Rattle.hc_modes.specs.Changes.{property, IsGrown}
use Rattle.hc_slots.specs.Slots.{SlotsStay}
use Rattle.hc_modes.proofs.Staying.{IsLater, prop-stays, proto-stays}

module _ (old new : Trail) (later : IsLater old new) (o m c : ℕ) (g : GateWord) (key : Key) (detail : Detail) where
  -- an entry that the map has in common with the one before
  entry-same : (k : ℕ) → k < g.entries → IsGrown new m c g.entries key detail → prop_in new o c k ≡ prop_in new o m k
  entry-same k lt grown =
      ap (λ (x : Option Key). prop_of x (detail_of new (field_at new c k)) (slot_word new o k)) (grown.entries.keys k lt)
      ∙ ap (λ (f : Option ℕ). prop_of (key_at new m k) (detail_of new f) (slot_word new o k)) (grown.entries.fields k lt)

  last-is : IsGrown new m c g.entries key detail → (held : Held) → held_in key.kind detail.rep (slot_word new o g.entries) ≡ held → prop_in new o c g.entries ≡ property key held
  last-is grown held e =
      ap (λ (x : Option Key). prop_of x (detail_at new c g.entries) (slot_word new o g.entries)) grown.last
      ∙ ap (λ (d : Option Detail). prop_of (Some key) d (slot_word new o g.entries)) grown.admits
      ∙ ap (λ (h : Held). property key h) e

  open-extensible : (gate : Option GateWord) (x : GateWord) → gate ≡ Some x → x.is_locked ≡ false → is_extensible gate ≡ true
  open-extensible gate x e unlocked = ap is_extensible e ∙ ap not unlocked

  -- the object has its properties, and a last one more
  pub fast-grown : gate_in old m ≡ Some g → g.is_locked ≡ false → IsGrown new m c g.entries key detail → SlotsStay old new o g.entries
      → (held : Held) → held_in key.kind detail.rep (slot_word new o g.entries) ≡ held
      → fast_object new o c ≡ with_list (fast_object old o m) (fast_props old o m ++ property key held ∷ [])
  fast-grown is unlocked grown words held e =
      let count : count_of old m ≡ g.entries = ap entries_in is in
      let more : count_of new c ≡ count_of old m + 1 = ap entries_in grown.is_open ∙ grown.count ∙ ap (λ n. n + 1) (sym count) in
      let extensible : is_extensible (gate_in new c) ≡ is_extensible (gate_in old m) = open-extensible (gate_in new c) grown.gate grown.is_open grown.unlocked ∙ sym (open-extensible (gate_in old m) g is unlocked) in
      let proto : prototype_in new c ≡ prototype_in old m = grown.prototype ∙ proto-stays old new later m g is in
      let last : prop_in new o c (count_of old m) ≡ property key held = subst (λ (n : ℕ). prop_in new o c n ≡ property key held) (sym count) (last-is grown held e) in
      let props : fast_props new o c ≡ fast_props old o m ++ property key held ∷ [] =
      ap (listed (prop_in new o c)) more
      ∙ listed-more (prop_in old o m) (prop_in new o c) (count_of old m) (property key held)
      (λ k lt. let within : k < g.entries = subst (λ (n : ℕ). k < n) count lt in entry-same k within grown ∙ prop-stays old new later o m k g is within (words k within)) last in
      ap (λ (q : Option (Option ℕ)). let x : Object = record { proto = proto_of q; extensible = is_extensible (gate_in new c); props = fast_props new o c } in x) proto
      ∙ ap (λ (b : Bool). let x : Object = record { proto = proto_of (prototype_in old m); extensible = b; props = fast_props new o c } in x) extensible
      ∙ ap (λ (ps : List Prop). let x : Object = record { proto = proto_of (prototype_in old m); extensible = is_extensible (gate_in old m); props = ps } in x) props
