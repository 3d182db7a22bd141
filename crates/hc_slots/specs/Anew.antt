-- Slots that are written anew: an object's map is to be another one with the same keys, of whose fields some are wide that weren't, or no
-- longer are.
use Rattle.std.specs.Prelude.{◌≡◌, ◌≢◌, ℕ, ◌+◌, ◌<◌, ◌≤◌, Bool, true, false, Option, Some, None}
use Rattle.hc_value.specs.declared.field.Rep.{Rep}
use Rattle.hc_value.specs.declared.field.Rep.TheVariants.{Smi, Wide, HeapObject, Tagged}
use Rattle.hc_value.specs.declared.field.Detail.{Detail}
use Rattle.hc_value.specs.declared.key.Key.{Key}
use Rattle.hc_heap.specs.Writes.{Write, Trail, Slot}
use Rattle.hc_heap.specs.Readings.{store_in}
use Rattle.hc_heap.specs.Kept.{Adds}
use Rattle.hc_heap.specs.Lawful.{HoldsEntry, slot_word}
use Rattle.hc_heap.specs.States.{View, IsHeap}
use Rattle.hc_descs.specs.Entries.{key_at, detail_at}
use Rattle.hc_slots.specs.Meaning.{MayHold, held_in, prop_in}

-- whether a representation is that of integers alone
abbrev pub is_wide : Rep → Bool
is_wide Smi = false
is_wide Wide = true
is_wide HeapObject = false
is_wide Tagged = false

-- whether a field admits integers alone
abbrev pub is_wide_field : Option Detail → Bool
is_wide_field (Some d) = is_wide d.rep
is_wide_field None = false

-- one of two is so, and the other isn't
abbrev pub differ : Bool → Bool → Bool
differ true true = false
differ true false = true
differ false true = true
differ false false = false

-- whether a slot has another word for the k-th entry of one map than for that of another: one of their fields is wide, and the
-- other isn't
abbrev pub changes_at : Trail → ℕ → ℕ → ℕ → Bool
changes_at t m c k = differ (is_wide_field (detail_at t m k)) (is_wide_field (detail_at t c k))

-- what an object's k-th slot holds for one map can be held there for another
abbrev pub FitsEntry : Trail → ℕ → ℕ → ℕ → ℕ → Type 0
FitsEntry t o m c k = (key : Key) (d e : Detail) → key_at t m k ≡ Some key → detail_at t m k ≡ Some d → detail_at t c k ≡ Some e → MayHold e.rep (held_in key.kind d.rep (slot_word t o k))

-- a slot is one of an object's first n, and has another word for another map
pub record IsChanged (t : Trail) (o m c n s : ℕ) : Type 0 where
  pub first : ℕ
  pub is_first : (store_in t o).first ≡ Some first
  pub place : ℕ
  pub within : place < n
  pub at : s ≡ first + place
  pub changes : changes_at t m c place ≡ true

-- writes of such slots alone
abbrev pub MovesSlots : Trail → ℕ → ℕ → ℕ → ℕ → Trail → Write → Type 0
MovesSlots old o m c n t (Slot s w) = IsChanged old o m c n s
MovesSlots old o m c n t _ = ⊥

-- an object's first n slots hold for another map what they held for its own, by the same keys: those that have another word were
-- written anew, and no other
pub record AreMoved (old new : View) (o m c n : ℕ) : Type 0 where
  pub view : new ≡ record old { trail = new.trail }
  pub writes : Adds (MovesSlots old.trail o m c n) old.trail new.trail
  pub props : (k : ℕ) → k < n → prop_in new.trail o c k ≡ prop_in old.trail o m k
  pub holds : (k : ℕ) → k < n → HoldsEntry new.trail o c k
  pub words : (k : ℕ) → k < n → changes_at old.trail m c k ≡ false → slot_word new.trail o k ≡ slot_word old.trail o k
  pub rest : (k : ℕ) → n ≤ k → slot_word new.trail o k ≡ slot_word old.trail o k
  pub heap : IsHeap new

-- an object's k-th slot holds for another map's entry what it held for its own, and has another word only where it must
pub record IsMovedAt (old new : View) (o m c k : ℕ) : Type 0 where
  pub view : new ≡ record old { trail = new.trail }
  pub writes : Adds (MovesSlots old.trail o m c (k + 1)) old.trail new.trail
  pub prop : prop_in new.trail o c k ≡ prop_in old.trail o m k
  pub holds : HoldsEntry new.trail o c k
  pub word : changes_at old.trail m c k ≡ false → slot_word new.trail o k ≡ slot_word old.trail o k
  pub others : (j : ℕ) → j ≢ k → slot_word new.trail o j ≡ slot_word old.trail o j
  pub heap : IsHeap new
