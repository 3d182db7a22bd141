-- An object comes to a private map with the same entries.
use Rattle.std.proofs.Common.{◌≡◌, ◌≢◌, ℕ, ◌<◌, ◌≤◌, Bool, true, false, not, List, Option, Some, None, sym, ap, ◌∙◌, subst}
use Rattle.std.specs.Prelude.{IsSomeAnd, IsTrue}
use Rattle.hc_layout.specs.declared.words.GateWord.{GateWord}
use Rattle.hc_layout.specs.declared.words.StoreWord.{StoreWord}
use Rattle.hc_value.specs.declared.field.Detail.{Detail}
use Rattle.hc_value.specs.declared.key.Key.{Key}
use Rattle.hc_value.specs.declared.prop.Prop.{Prop}
use Rattle.hc_heap.specs.Writes.{Trail}
use Rattle.hc_heap.specs.Readings.{detail_in, gate_in, map_in, root_in, store_in}
use Rattle.hc_heap.specs.Lawful.{HoldsEntry, HoldsEntries, IsFormOf}
use Rattle.hc_heap.specs.Kept.{DetailsRise, UnusedSaysNothing}
use Rattle.hc_heap.specs.States.{View}
use Rattle.hc_descs.specs.Entries.{count_of, entries_in, field_at, key_at, detail_at, detail_of}
use Rattle.hc_tree.specs.Tree.{gate_with}
use Rattle.hc_tree.specs.Kept.{MapsAreKept}
use Rattle.hc_tree.specs.Copying.{IsPrivateCopy}
use Rattle.hc_table.specs.Changes.{with_link}
use Rattle.hc_table.specs.World.{Object}
use Rattle.hc_slots.specs.Listed.{listed, listed-same}
use Rattle.hc_slots.specs.Meaning.{Dictionary, fast_object, fast_props, is_extensible, object_shown, prop_in, prop_of, proto_of, slot_word}
use Rattle.hc_slots.specs.Slots.{AreHandedOut, IsIn, SlotsStay}
use Rattle.hc_slots.specs.Fast.{HasMap, IsFast}
use Rattle.hc_modes.specs.State.{IsObjects}
use Rattle.hc_modes.specs.Changes.{Changed, OpensNoRoot, Stepped}
use Rattle.hc_modes.specs.Privates.{IsAlike}
use Rattle.hc_modes.proofs.Holding.{holds-by}
use Rattle.hc_modes.proofs.Owning.{nobody-has}
use Rattle.hc_slots.specs.Cases.{some-and}
use Rattle.hc_modes.proofs.Sound.{is-later, still-out}
use Rattle.hc_modes.proofs.Staying.{IsLater, holds-still, prop-stays}

-- a private copy without an entry of its own, with new fields or with those of the map
pub alike-copy : (fresh : Bool) (proto : Option ℕ) (t : Trail) (c m n first : ℕ) → IsPrivateCopy fresh None proto t c m n first → IsAlike t c m n proto
alike-copy true proto t c m n first copy = record {
  gate = copy.gate;
  prototype = copy.prototype;
  keys = copy.entries.entries.keys;
  details = λ k lt. ap (detail_of t) (copy.entries.entries.fields k lt) ∙ (copy.entries.made k lt).detail;
}
alike-copy false proto t c m n first copy = record {
  gate = copy.gate;
  prototype = copy.prototype;
  keys = copy.entries.keys;
  details = λ k lt. ap (detail_of t) (copy.entries.fields k lt);
}

module _ (old new : Trail) (later : IsLater old new) (o m : ℕ) (g : GateWord) (fast : IsFast old o m g) (c : ℕ) (proto : Option ℕ) (alike : IsAlike new c m g.entries proto) where
  holds-entry : (k : ℕ) → k < g.entries → HoldsEntry new o m k → HoldsEntry new o c k
  holds-entry k lt holds =
      let key = some-and (key_at new m k) (λ x. IsSomeAnd (field_at new m k) (λ f. IsSomeAnd (detail_in new f) (λ d. IsFormOf x.kind d.rep (slot_word new o k)))) holds in
      let field = some-and (field_at new m k) (λ f. IsSomeAnd (detail_in new f) (λ d. IsFormOf key.0.kind d.rep (slot_word new o k))) key.1.1 in
      let detail = some-and (detail_in new field.0) (λ d. IsFormOf key.0.kind d.rep (slot_word new o k)) field.1.1 in
      holds-by new o c k key.0 detail.0 (alike.keys k lt ∙ key.1.0) (alike.details k lt ∙ ap (detail_of new) field.1.0 ∙ detail.1.0) detail.1.1

  -- the object's slots hold what it asks
  pub alike-holds : g.entries ≤ (store_in new o).capacity → SlotsStay old new o g.entries → HoldsEntries new o c (gate_with g.entries true)
  alike-holds room words = record {
    capacity = room;
    slots = λ k lt. holds-entry k lt (holds-still old new later o m k g fast.is_open lt (words k lt) (fast.holds.slots k lt));
  }

  entry-same : (k : ℕ) → k < g.entries → prop_in new o c k ≡ prop_in new o m k
  entry-same k lt =
      ap (λ (x : Option Key). prop_of x (detail_at new c k) (slot_word new o k)) (alike.keys k lt)
      ∙ ap (λ (d : Option Detail). prop_of (key_at new m k) d (slot_word new o k)) (alike.details k lt)

  -- the object has its properties, and the prototype of the map
  pub fast-alike : g.is_locked ≡ false → SlotsStay old new o g.entries → fast_object new o c ≡ with_link (fast_object old o m) proto
  fast-alike unlocked words =
      let count : count_of old m ≡ g.entries = ap entries_in fast.is_open in
      let same : count_of new c ≡ count_of old m = ap entries_in alike.gate ∙ sym count in
      let extensible : is_extensible (gate_in new c) ≡ is_extensible (gate_in old m) = ap is_extensible alike.gate ∙ sym (ap is_extensible fast.is_open ∙ ap not unlocked) in
      let props : fast_props new o c ≡ fast_props old o m =
      ap (listed (prop_in new o c)) same
      ∙ listed-same (prop_in old o m) (prop_in new o c) (count_of old m)
      (λ k lt. let within : k < g.entries = subst (λ (n : ℕ). k < n) count lt in entry-same k within ∙ prop-stays old new later o m k g fast.is_open within (words k within)) in
      ap (λ (q : Option (Option ℕ)). let x : Object = record { proto = proto_of q; extensible = is_extensible (gate_in new c); props = fast_props new o c } in x) alike.prototype
      ∙ ap (λ (b : Bool). let x : Object = record { proto = proto; extensible = b; props = fast_props new o c } in x) extensible
      ∙ ap (λ (ps : List Prop). let x : Object = record { proto = proto; extensible = is_extensible (gate_in old m); props = ps } in x) props

module _ (maps : MapsAreKept) (details : DetailsRise) (unused : UnusedSaysNothing) (old : View) (kept : List (Option Dictionary)) (of_null : Option ℕ) (h : IsObjects old kept of_null) (o : ℕ) where
  -- nobody else has a map that is new
  pub new-alone : (new : View) → map_in new.trail o ≡ Some old.used.maps → (q k : ℕ) (g : GateWord) → q ≢ o → map_in new.trail o ≡ Some k → map_in old.trail q ≡ Some k → gate_in new.trail k ≡ Some g → g.is_private ≡ false
  new-alone new moved q k g other is was gate = absurd (nobody-has unused old h.heap kept of_null h q (was ∙ sym is ∙ moved))

  -- the object comes to a new private map with the same entries
  pub alike-step : (so : HasMap old.trail o) (new : View) (proto : Option ℕ) → Changed old new o → OpensNoRoot old.trail new.trail → IsAlike new.trail old.used.maps so.map so.gate.entries proto
      → map_in new.trail o ≡ Some old.used.maps → IsTrue (root_in new.trail o).is_proto → store_in new.trail o ≡ store_in old.trail o → SlotsStay old.trail new.trail o so.gate.entries
      → Stepped old new None o (with_link (fast_object old.trail o so.map) proto)
  alike-step so new proto changed opens alike moved is_proto store words =
      let after = is-later maps details old new o h.heap changed in
      record {
        changed = changed;
        well = record {
          as_kept = record {
            map = old.used.maps;
            gate = gate_with so.gate.entries true;
            is_map = moved;
            fast = record {
              is_open = alike.gate;
              holds = alike-holds old.trail new.trail after o so.map so.gate so.fast old.used.maps proto alike (subst (λ (w : StoreWord). so.gate.entries ≤ w.capacity) (sym store) so.fast.holds.capacity) words;
              private = sym is_proto;
            };
          };
          store = subst (λ (w : StoreWord). AreHandedOut new.used.slots w) (sym store) (still-out old.used.slots new.used.slots (store_in old.trail o) changed.slots (h.stores o));
          owns = λ s owns lt. subst (λ (w : StoreWord). IsIn w s) store owns;
          alone = new-alone new moved;
        };
        opens = opens;
        value =
            ap (λ (x : Option ℕ). object_shown new.trail o None x) moved
            ∙ fast-alike old.trail new.trail after o so.map so.gate so.fast old.used.maps proto alike (h.tree.maps so.map so.gate so.fast.is_open).unlocked words;
      }
