-- An object's slots hold what its map asks: after a write to one of them, and with a map that has one entry more.
use Rattle.std.proofs.Common.{◌≡◌, ◌≢◌, ℕ, ◌<◌, ◌≤◌, Option, Some, None, sym, subst, arith, ◌∷◌}
use Rattle.std.specs.Prelude.{IsSomeAnd}
use Rattle.hc_layout.specs.declared.words.GateWord.{GateWord}
use Rattle.hc_value.specs.declared.field.Detail.{Detail}
use Rattle.hc_value.specs.declared.key.Key.{Key}
use Rattle.hc_heap.specs.Writes.{Trail, ObjectMap}
use Rattle.hc_heap.specs.Readings.{store_in, detail_in}
use Rattle.hc_heap.specs.Lawful.{IsFormOf, HoldsEntry, HoldsEntries}
use Rattle.hc_descs.specs.Entries.{key_at, field_at, detail_of, detail_at}
use Rattle.hc_slots.specs.Meaning.{slot_word}
use Rattle.hc_slots.specs.Fast.{IsFast}
use Rattle.hc_modes.specs.Changes.{IsGrown}
use Rattle.hc_slots.specs.Slots.{SlotsStay}
use Rattle.hc_modes.proofs.Staying.{IsLater, holds-still}
use Rattle.hc_slots.specs.Cases.{same-or}

-- a word holds what an entry with this key and field asks
abbrev Holds : Trail → Option Key → Option ℕ → ℕ → Type 0
Holds t key field w = IsSomeAnd key (λ x. IsSomeAnd field (λ y. IsSomeAnd (detail_in t y) (λ d. IsFormOf x.kind d.rep w)))

-- an entry whose slot has a word of its form
pub holds-by : (t : Trail) (o m k : ℕ) (key : Key) (d : Detail) → key_at t m k ≡ Some key → detail_at t m k ≡ Some d → IsFormOf key.kind d.rep (slot_word t o k) → HoldsEntry t o m k
holds-by t o m k key d is_key is form =
    subst (λ (x : Option Key). Holds t x (field_at t m k) (slot_word t o k)) (sym is_key) (by (field_at t m k) is)
  where
    inner : (x : Option Detail) → x ≡ Some d → IsSomeAnd x (λ e. IsFormOf key.kind e.rep (slot_word t o k))
    inner x e = subst (λ (y : Option Detail). IsSomeAnd y (λ e. IsFormOf key.kind e.rep (slot_word t o k))) (sym e) form

    by : (f : Option ℕ) → detail_of t f ≡ Some d → IsSomeAnd f (λ y. IsSomeAnd (detail_in t y) (λ e. IsFormOf key.kind e.rep (slot_word t o k)))
    by (Some f) e = inner (detail_in t f) e
    by None e = let n : ⊥ = cc in absurd n

module _ (old new : Trail) (later : IsLater old new) (o m : ℕ) (g : GateWord) (fast : IsFast old o m g) where
  -- after a write to one slot
  pub holds-written : (k : ℕ) (key : Key) (d : Detail) → g.entries ≤ (store_in new o).capacity
      → ((j : ℕ) → j < g.entries → j ≢ k → slot_word new o j ≡ slot_word old o j)
      → key_at new m k ≡ Some key → detail_at new m k ≡ Some d → IsFormOf key.kind d.rep (slot_word new o k) → HoldsEntries new o m g
  holds-written k key d room words is_key is form = record {
    capacity = room;
    slots = λ j lt. same-or j k (HoldsEntry new o m j)
        (λ same. subst (λ (i : ℕ). HoldsEntry new o m i) (sym same) (holds-by new o m k key d is_key is form))
        (λ other. holds-still old new later o m j g fast.is_open lt (words j lt other) (fast.holds.slots j lt));
  }

  -- with a map that has one entry more
  pub holds-grown : (c : ℕ) (key : Key) (d : Detail) → (grown : IsGrown new m c g.entries key d) → g.entries < (store_in new o).capacity → SlotsStay old new o g.entries
      → IsFormOf key.kind d.rep (slot_word new o g.entries) → HoldsEntries new o c grown.gate
  holds-grown c key d grown room words form = record {
    capacity = omega (arith, grown.count, room);
    slots = λ k lt. same-or k g.entries (HoldsEntry new o c k)
        (λ same. subst (λ (i : ℕ). HoldsEntry new o c i) (sym same) (holds-by new o c g.entries key d grown.last grown.admits form))
        (λ other.
        let before : k < g.entries = omega (arith, lt, grown.count, other) in
        subst (λ (x : Option Key). Holds new x (field_at new c k) (slot_word new o k)) (sym (grown.entries.keys k before))
        (subst (λ (f : Option ℕ). Holds new (key_at new m k) f (slot_word new o k)) (sym (grown.entries.fields k before))
        (holds-still old new later o m k g fast.is_open before (words k before) (fast.holds.slots k before))));
  }

-- what the slots hold when the object gets the map
pub holds-moved : (t : Trail) (o m c : ℕ) (g : GateWord) (h : Option ℕ) → HoldsEntries t o m g → HoldsEntries (ObjectMap c h ∷ t) o m g
holds-moved t o m c g h holds = record { capacity = holds.capacity; slots = holds.slots }
