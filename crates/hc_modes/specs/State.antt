-- What contracts see of objects, and what holds of them at every moment.
use Rattle.std.specs.Prelude.{◌≡◌, ℕ, ◌<◌, false, IsTrue, Option, Some, None, List, length}
use Rattle.hc_layout.specs.declared.words.GateWord.{GateWord}
use Rattle.hc_heap.specs.Writes.{Trail}
use Rattle.hc_heap.specs.Readings.{bits_in, gate_in, map_in, store_in}
use Rattle.hc_heap.specs.States.{View, HeapState, IsHeap}
use Rattle.hc_table.specs.Kept.{Kept, IsKept}
use Rattle.hc_tree.specs.Tree.{IsTree}
pub use Rattle.hc_tree.specs.Walking.{AreRoots}
use Rattle.hc_slots.specs.Meaning.{Dictionary}
use Rattle.hc_modes.specs.Meaning.{kept_of, world}
use Rattle.hc_slots.specs.Fast.{HasMap}
use Rattle.hc_slots.specs.Slots.{Owns, AreHandedOut}

-- objects: their heap, what is kept of slow ones, and the root of the maps that have no prototype
pub record ObjectsState (P : Type 0) : Type 0 where
  pub heap : HeapState P
  pub kept : List (Option Dictionary)
  pub of_null : Option ℕ

-- an object is kept as its words say: a slow one has no map, and a fast one has one that fits
abbrev pub IsKeptSo : Trail → ℕ → Option Dictionary → Type 0
IsKeptSo t o (Some d) = map_in t o ≡ None
IsKeptSo t o None = HasMap t o

-- the map of an object, where it has one, isn't deprecated
abbrev pub IsLive : Trail → ℕ → Type 0
IsLive t o = (m : ℕ) → map_in t o ≡ Some m → (bits_in t m).deprecated ≡ false

-- no two objects have one private map
abbrev pub AreAlone : Trail → ℕ → Type 0
AreAlone t n = (a b m : ℕ) (g : GateWord) → a < n → b < n → map_in t a ≡ Some m → map_in t b ≡ Some m → gate_in t m ≡ Some g → IsTrue g.is_private → a ≡ b

-- the objects as tables see them
abbrev pub tables_of : View → List (Option Dictionary) → Kept
tables_of v kept = record { world = world v.trail kept; limit = v.shape.objects }

-- what holds of objects at every moment
pub record IsObjects (v : View) (kept : List (Option Dictionary)) (of_null : Option ℕ) : Type 0 where
  pub heap : IsHeap v
  pub tree : IsTree v.trail
  pub roots : AreRoots v.trail of_null
  pub items : length kept ≡ v.used.objects
  pub each : (o : ℕ) → o < length kept → IsKeptSo v.trail o (kept_of kept o)
  pub stores : (o : ℕ) → AreHandedOut v.used.slots (store_in v.trail o)
  pub owners : (o p s : ℕ) → Owns v.trail o s → Owns v.trail p s → o ≡ p
  pub alone : AreAlone v.trail (length kept)
  pub sound : IsKept (tables_of v kept)
