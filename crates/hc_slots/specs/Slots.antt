-- The slots of an object: which they are, how more are had, and what stays.
use Rattle.std.specs.Prelude.{◌≡◌, ℕ, ◌+◌, ◌<◌, ◌≤◌, nat_lt, if◌then◌else◌, Option, Some, None, IsSome, IfSome, IsSomeAnd}
use Rattle.std.proofs.Common.{refl, sym, subst, arith}
use Rattle.hc_layout.specs.Capacity.{cap_of}
use Rattle.hc_layout.specs.declared.words.StoreWord.{StoreWord}
use Rattle.hc_heap.specs.Writes.{Write, Trail, Store, Slot}
use Rattle.hc_heap.specs.Readings.{store_in, slot_in}
use Rattle.hc_heap.specs.Kept.{Adds}
use Rattle.hc_heap.specs.Lawful.{slot_word}
use Rattle.hc_heap.specs.States.{View}

-- a slot is one of these
abbrev pub IsIn : StoreWord → ℕ → Type 0
IsIn w s = IsSomeAnd w.first (λ first. (first ≤ s) × (s < first + w.capacity))

-- a slot is an object's
abbrev pub Owns : Trail → ℕ → ℕ → Type 0
Owns t o s = IsIn (store_in t o) s

-- these slots were handed out
pub record AreHandedOut (slots : ℕ) (w : StoreWord) : Type 0 where
  pub first : 0 < w.capacity → IsSome w.first
  pub there : IfSome w.first (λ first. first + w.capacity ≤ slots)

-- the words of an object's first n slots are as they were, wherever its slots are
abbrev pub SlotsStay : Trail → Trail → ℕ → ℕ → Type 0
SlotsStay old new o n = (k : ℕ) → k < n → slot_word new o k ≡ slot_word old o k

-- writes of slots, from a first one on
abbrev pub FillsSlots : ℕ → Trail → Write → Type 0
FillsSlots first t (Slot s w) = first ≤ s
FillsSlots first t _ = ⊥

-- the words of n slots were copied to others, and slots before these stay
pub record AreCopied (old new : Trail) (from upto n : ℕ) : Type 0 where
  pub words : (k : ℕ) → k < n → slot_in new (upto + k) ≡ slot_in old (from + k)
  pub writes : Adds (FillsSlots upto) old new

-- writes that give an object new slots, from a first one on
abbrev pub GrowsStore : ℕ → ℕ → Trail → Write → Type 0
GrowsStore o first t (Slot s w) = first ≤ s
GrowsStore o first t (Store p w) = p ≡ o
GrowsStore o first t _ = ⊥

-- an object got new slots, more than n, with the words of its first n slots
pub record HasMoved (old new : View) (o n capacity : ℕ) : Type 0 where
  pub more : n < capacity
  pub store : store_in new.trail o ≡ record { capacity = capacity; first = Some old.used.slots }
  pub words : SlotsStay old.trail new.trail o n
  pub writes : Adds (GrowsStore o old.used.slots) old.trail new.trail
  pub used : new.used ≡ record old.used { slots = old.used.slots + capacity }
  pub shape : new.shape ≡ old.shape

-- how many new slots an object needs that has n properties, and so many slots, to get one more
abbrev pub slots_need : ℕ → ℕ → ℕ
slots_need n capacity = if nat_lt n capacity then 0 else cap_of (n + 1)

-- writes to an object's store, and to slots that it owns or that are new
abbrev pub FillsStore : View → ℕ → Trail → Write → Type 0
FillsStore old o t (Store p w) = p ≡ o
FillsStore old o t (Slot s w) = s < old.used.slots → Owns old.trail o s
FillsStore old o t _ = ⊥

-- an object has room for more than n properties, and the words of its first n slots are as they were
pub record IsFitted (old new : View) (o n : ℕ) : Type 0 where
  pub writes : Adds (FillsStore old o) old.trail new.trail
  pub shape : new.shape ≡ old.shape
  pub used : new.used ≡ record old.used { slots = new.used.slots }
  pub slots : old.used.slots ≤ new.used.slots
  pub more : new.used.slots ≡ old.used.slots + slots_need n (store_in old.trail o).capacity
  pub store : AreHandedOut new.used.slots (store_in new.trail o)
  pub owns : (s : ℕ) → Owns new.trail o s → s < old.used.slots → Owns old.trail o s
  pub room : n < (store_in new.trail o).capacity
  pub words : SlotsStay old.trail new.trail o n

-- What follows

-- a slot that an object owns, by its index
pub owns-index : (w : StoreWord) (first k : ℕ) → w.first ≡ Some first → k < w.capacity → IsIn w (first + k)
owns-index w first k is lt = subst (λ (o : Option ℕ). IsSomeAnd o (λ x. (x ≤ first + k) × (first + k < x + w.capacity))) (sym is) (omega arith, omega arith)

-- the object's slots are new
pub owns-new : (t : Trail) (o slots s : ℕ) → (store_in t o).first ≡ Some slots → Owns t o s → s < slots → ⊥
owns-new t o slots s is h lt = by (store_in t o).first is h
  where
    by : (first : Option ℕ) → first ≡ Some slots → IsSomeAnd first (λ x. (x ≤ s) × (s < x + (store_in t o).capacity)) → ⊥
    by (Some x) e k = let same : x ≡ slots = cc in omega (arith, same, k.0, lt)
    by None e k = k

pub handed-out : (slots first : ℕ) (w : StoreWord) → w.first ≡ Some first → first + w.capacity ≤ slots → AreHandedOut slots w
handed-out slots first w is le = record {
  first = λ some. subst IsSome (sym is) refl;
  there = subst (λ (o : Option ℕ). IfSome o (λ x. x + w.capacity ≤ slots)) (sym is) le;
}
