-- An object whose words and slots stay has the value that it had, and its map still fits.
use Rattle.std.proofs.Common.{◌≡◌, ℕ, ◌+◌, ◌<◌, ◌≤◌, Option, Some, None, List, refl, sym, ap, ◌∙◌, subst, arith}
use Rattle.std.specs.Prelude.{IsSomeAnd}
use Rattle.hc_layout.specs.declared.shape.Shape.{Shape}
use Rattle.hc_layout.specs.declared.words.GateWord.{GateWord}
use Rattle.hc_layout.specs.declared.words.StoreWord.{StoreWord}
use Rattle.hc_value.specs.declared.field.Detail.{Detail}
use Rattle.hc_value.specs.declared.key.Key.{Key}
use Rattle.hc_value.specs.declared.prop.Prop.{Prop}
use Rattle.hc_heap.specs.Writes.{Trail}
use Rattle.hc_heap.specs.Readings.{gate_in, prototype_in, map_in, store_in, slot_in, detail_in}
use Rattle.hc_heap.specs.Lawful.{Lawful, IsField, RisesTo, IsFormOf, HoldsEntry, word_from}
use Rattle.hc_heap.specs.Kept.{GoesOn, DetailsRise}
use Rattle.hc_descs.specs.Entries.{key_at, field_at, count_of, entries_in, detail_of, detail_at}
use Rattle.hc_tree.specs.Kept.{MapsStay, MapsAreKept}
use Rattle.hc_table.specs.World.{Object}
use Rattle.hc_slots.specs.Listed.{listed, listed-same}
use Rattle.hc_slots.specs.Meaning.{Dictionary, prop_of, prop_in, slot_word, proto_of, is_extensible, fast_object, object_shown}
use Rattle.hc_slots.specs.Fast.{IsFast}
use Rattle.hc_modes.specs.State.{IsKeptSo}
use Rattle.hc_slots.specs.Slots.{owns-index}
use Rattle.hc_modes.specs.Changes.{WordsStay}
use Rattle.hc_slots.specs.Cases.{some-of}
use Rattle.hc_modes.proofs.Rising.{prop-rises, form-stays}

-- a later trail: its maps are kept, and details have risen
pub record IsLater (old new : Trail) : Type 0 where
  pub maps : MapsStay old new
  pub details : (f : ℕ) (d : Detail) → detail_in old f ≡ Some d → IsSomeAnd (detail_in new f) (λ e. RisesTo d e)

pub later : MapsAreKept → DetailsRise → (s : Shape) (old new : Trail) → Lawful s old → GoesOn s old new → IsLater old new
later kept rise s old new before goes = record { maps = kept s old new before goes; details = λ f d e. rise s old new f d goes e }

word-same : (old new : Trail) (first : Option ℕ) (k : ℕ) → ((x : ℕ) → first ≡ Some x → slot_in new (x + k) ≡ slot_in old (x + k)) → word_from new first k ≡ word_from old first k
word-same old new None k h = refl
word-same old new (Some x) k h = h x refl

-- the word of an object's slot stays
pub slot-stays : (old new : Trail) (p : ℕ) → WordsStay old new p → (k : ℕ) → k < (store_in old p).capacity → slot_word new p k ≡ slot_word old p k
slot-stays old new p stay k lt =
    ap (λ (w : StoreWord). word_from new w.first k) stay.store
    ∙ word-same old new (store_in old p).first k (λ x is. stay.slots (x + k) (owns-index (store_in old p) x k is lt))

module _ (old new : Trail) (after : IsLater old new) where
  -- the detail of a field that is made
  detail-rises : (key : Option Key) (w : ℕ) (f : Option ℕ) → IsSomeAnd f (λ x. IsField old x) → prop_of key (detail_of new f) w ≡ prop_of key (detail_of old f) w
  detail-rises key w (Some f) h = let d = some-of (detail_in old f) h.detail in prop-rises key w (detail_in old f) (detail_in new f) d.0 d.1 (after.details f d.0 d.1)
  detail-rises key w None h = absurd h

  -- a property stays, where the slot's word does
  pub prop-stays : (p m k : ℕ) (g : GateWord) → gate_in old m ≡ Some g → k < g.entries → slot_word new p k ≡ slot_word old p k → prop_in new p m k ≡ prop_in old p m k
  prop-stays p m k g is lt word =
      let entry = after.maps.entry m k g is lt in
      let made = (after.maps.opened m g is).entries.fields k lt in
      ap (λ (key : Option Key). prop_of key (detail_at new m k) (slot_word new p k)) entry.key
      ∙ ap (λ (f : Option ℕ). prop_of (key_at old m k) (detail_of new f) (slot_word new p k)) entry.field
      ∙ ap (λ (w : ℕ). prop_of (key_at old m k) (detail_of new (field_at old m k)) w) word
      ∙ detail-rises (key_at old m k) (slot_word old p k) (field_at old m k) made

  -- the form of a slot's word stays right
  form-by : (w : ℕ) (key : Option Key) (f : Option ℕ) → IsSomeAnd f (λ x. IsField old x)
      → IsSomeAnd key (λ x. IsSomeAnd f (λ y. IsSomeAnd (detail_in old y) (λ d. IsFormOf x.kind d.rep w)))
      → IsSomeAnd key (λ x. IsSomeAnd f (λ y. IsSomeAnd (detail_in new y) (λ d. IsFormOf x.kind d.rep w)))
  form-by w (Some key) (Some f) made h = let d = some-of (detail_in old f) made.detail in form-stays key.kind w (detail_in old f) (detail_in new f) d.0 d.1 (after.details f d.0 d.1) h
  form-by w (Some key) None made h = absurd h
  form-by w None f made h = absurd h

  -- an open map is as it was
  pub gate-stays : (m : ℕ) (g : GateWord) → gate_in old m ≡ Some g → gate_in new m ≡ gate_in old m
  gate-stays m g is = after.maps.written.gate m g is ∙ sym is

  pub proto-stays : (m : ℕ) (g : GateWord) → gate_in old m ≡ Some g → prototype_in new m ≡ prototype_in old m
  proto-stays m g is = let p = some-of (prototype_in old m) (after.maps.opened m g is).prototype in after.maps.written.prototype m p.0 p.1 ∙ sym p.1

  pub count-is : (t : Trail) (m : ℕ) (g : GateWord) → gate_in t m ≡ Some g → count_of t m ≡ g.entries
  count-is t m g is = ap entries_in is

  -- an object that keeps a map has the value that it had, where its slots' words stay
  pub fast-stays : (p m : ℕ) (g : GateWord) → gate_in old m ≡ Some g → ((k : ℕ) → k < g.entries → slot_word new p k ≡ slot_word old p k) → fast_object new p m ≡ fast_object old p m
  fast-stays p m g is words =
      let gate = gate-stays m g is in
      let count = count-is old m g is in
      let props : listed (prop_in new p m) (count_of old m) ≡ listed (prop_in old p m) (count_of old m) = listed-same (prop_in old p m) (prop_in new p m) (count_of old m)
      (λ k lt. let in_map : k < g.entries = subst (λ (n : ℕ). k < n) count lt in prop-stays p m k g is in_map (words k in_map)) in
      ap (λ (q : Option (Option ℕ)). let x : Object = record { proto = proto_of q; extensible = is_extensible (gate_in new m); props = listed (prop_in new p m) (count_of new m) } in x) (proto-stays m g is)
      ∙ ap (λ (h : Option GateWord). let x : Object = record { proto = proto_of (prototype_in old m); extensible = is_extensible h; props = listed (prop_in new p m) (entries_in h) } in x) gate
      ∙ ap (λ (ps : List Prop). let x : Object = record { proto = proto_of (prototype_in old m); extensible = is_extensible (gate_in old m); props = ps } in x) props

  -- a slot whose word stays holds what its entry asks
  pub holds-still : (p m k : ℕ) (g : GateWord) → gate_in old m ≡ Some g → k < g.entries → slot_word new p k ≡ slot_word old p k → HoldsEntry old p m k → HoldsEntry new p m k
  holds-still p m k g is lt word holds =
      let entry = after.maps.entry m k g is lt in
      let made = (after.maps.opened m g is).entries.fields k lt in
      let risen = form-by (slot_word old p k) (key_at old m k) (field_at old m k) made holds in
      subst (λ (key : Option Key). IsSomeAnd key (λ x. IsSomeAnd (field_at new m k) (λ y. IsSomeAnd (detail_in new y) (λ d. IsFormOf x.kind d.rep (slot_word new p k))))) (sym entry.key)
      (subst (λ (f : Option ℕ). IsSomeAnd (key_at old m k) (λ x. IsSomeAnd f (λ y. IsSomeAnd (detail_in new y) (λ d. IsFormOf x.kind d.rep (slot_word new p k))))) (sym entry.field)
      (subst (λ (w : ℕ). IsSomeAnd (key_at old m k) (λ x. IsSomeAnd (field_at old m k) (λ y. IsSomeAnd (detail_in new y) (λ d. IsFormOf x.kind d.rep w)))) (sym word) risen))

  -- its map still fits
  pub fits-still : (p m : ℕ) (g : GateWord) → WordsStay old new p → IsFast old p m g → IsFast new p m g
  fits-still p m g stay fast = record {
    is_open = after.maps.written.gate m g fast.is_open;
    holds = record {
      capacity = subst (λ (w : StoreWord). g.entries ≤ w.capacity) (sym stay.store) fast.holds.capacity;
      slots = λ k lt. holds-still p m k g fast.is_open lt (slot-stays old new p stay k (omega (arith, lt, fast.holds.capacity))) (fast.holds.slots k lt);
    };
    private = fast.private ∙ sym stay.proto;
  }

  -- the object has the value that it had
  pub object-stays : (p : ℕ) (kept : Option Dictionary) → WordsStay old new p → IsKeptSo old p kept → object_shown new p kept (map_in new p) ≡ object_shown old p kept (map_in old p)
  object-stays p (Some d) stay so = refl
  object-stays p None stay so =
      ap (λ (m : Option ℕ). object_shown new p None m) (stay.map ∙ so.is_map)
      ∙ fast-stays p so.map so.gate so.fast.is_open (λ k lt. slot-stays old new p stay k (omega (arith, lt, so.fast.holds.capacity)))
      ∙ ap (λ (m : Option ℕ). object_shown old p None m) (sym so.is_map)

  -- and is kept as its words say
  pub kept-still : (p : ℕ) (kept : Option Dictionary) → WordsStay old new p → IsKeptSo old p kept → IsKeptSo new p kept
  kept-still p (Some d) stay so = stay.map ∙ so
  kept-still p None stay so = record { map = so.map; gate = so.gate; is_map = stay.map ∙ so.is_map; fast = fits-still p so.map so.gate stay so.fast }
