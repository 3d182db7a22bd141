-- Which maps an operation on an object makes unstable, which die, and which write is its first.
use Rattle.std.specs.Prelude.{◌≡◌, ◌≢◌, ◌⊎◌, ℕ, true, false, IsTrue, IsSomeAnd, Option, Some, None, List, [], ◌∷◌, ◌++◌}
use Rattle.hc_heap.specs.Writes.{Write, Trail, Bits}
use Rattle.hc_layout.specs.declared.words.GateWord.{GateWord}
use Rattle.hc_heap.specs.Readings.{bits_in, gate_in, map_in, prototype_in, root_in}
use Rattle.hc_links.specs.Chains.{links_in}
use Rattle.hc_tree.specs.Details.{NoMap}
use Rattle.hc_tree.specs.Dying.{HaveDied}
use Rattle.hc_modes.specs.Cells.{CellsStay}

-- an object had a map, and hasn't now
pub record HasGone (old new : Trail) (o m : ℕ) : Type 0 where
  pub was : map_in old o ≡ Some m
  pub now : map_in new o ≢ Some m

-- a map that isn't private is deprecated now
pub record HasDied (old new : Trail) (m : ℕ) : Type 0 where
  pub shared : (g : GateWord) → gate_in new m ≡ Some g → g.is_private ≡ false
  pub dead : IsTrue (bits_in new m).deprecated

-- a map has a link now, as no stable map has, or it died
abbrev pub IsLinkedOrDead : Trail → Trail → ℕ → Type 0
IsLinkedOrDead old new m = (links_in new m ≢ []) ⊎ HasDied old new m

-- exactly these maps died, where they were there; each other one, and each new one, is live or deprecated as before
pub record DeathsAre (Dies : ℕ → Type 0) (old new : Trail) : Type 0 where
  pub dead : HaveDied Dies old new
  pub rest : (m : ℕ) → (Dies m → ⊥) → (bits_in new m).deprecated ≡ (bits_in old m).deprecated

-- the first new write makes a map unstable, and does nothing else
pub record BeginsByMark (old new : Trail) (m : ℕ) : Type 0 where
  pub more : List Write
  pub is : new ≡ more ++ Bits m (record { unstable = true; deprecated = (bits_in old m).deprecated }) ∷ old

-- what an operation on an object makes unstable: a map that has a link now, as no stable map has, one that died, or the one that
-- the object left, and that by the first write of all; other objects keep their maps, a prototype comes to a stable one, and cells
-- stay; and these maps die
pub record MarksBut (Dies : ℕ → Type 0) (old new : Trail) (o : ℕ) : Type 0 where
  pub marks : (m : ℕ) → (bits_in old m).unstable ≡ false → IsTrue (bits_in new m).unstable → IsLinkedOrDead old new m ⊎ HasGone old new o m
  pub first : (m : ℕ) → HasGone old new o m → (bits_in old m).unstable ≡ false → BeginsByMark old new m
  pub maps : (q : ℕ) → q ≢ o → map_in new q ≡ map_in old q
  pub own : (m : ℕ) → map_in new o ≡ Some m → IsTrue (root_in new o).is_proto → (map_in old o ≡ Some m) ⊎ ((bits_in new m).unstable ≡ false)
  pub cells : CellsStay old new
  pub deaths : DeathsAre Dies old new

-- the same of an operation after which no further map is deprecated
abbrev pub Marks : Trail → Trail → ℕ → Type 0
Marks = MarksBut NoMap

-- an object's map had this prototype already
pub record HadProto (old : Trail) (o m : ℕ) (proto : Option ℕ) : Type 0 where
  pub was : map_in old o ≡ Some m
  pub prototype : prototype_in old m ≡ Some proto

-- what it makes unstable that an object gets another prototype: so too, but that an object whose map had the prototype already
-- may come back to it; and one that is or was a prototype itself comes to a stable map, whatever it had
pub record Relinks (old new : Trail) (o : ℕ) (proto : Option ℕ) : Type 0 where
  pub marks : (m : ℕ) → (bits_in old m).unstable ≡ false → IsTrue (bits_in new m).unstable → IsLinkedOrDead old new m ⊎ (HasGone old new o m ⊎ HadProto old o m proto)
  pub first : (m : ℕ) → HasGone old new o m → (bits_in old m).unstable ≡ false → BeginsByMark old new m
  pub maps : (q : ℕ) → q ≢ o → map_in new q ≡ map_in old q
  pub own : (m : ℕ) → map_in new o ≡ Some m → IsTrue (root_in new o).is_proto → (bits_in new m).unstable ≡ false
  pub cells : CellsStay old new

-- what it makes unstable that a new object comes to a map
pub record MarksNew (old new : Trail) : Type 0 where
  pub object : ℕ
  pub none : map_in old object ≡ None
  pub marks : Marks old new object

-- no map is unstable that a prototype has
abbrev pub AreCalm : Trail → Type 0
AreCalm t = (o m : ℕ) → map_in t o ≡ Some m → IsTrue (root_in t o).is_proto → (bits_in t m).unstable ≡ false

-- no other object has the map of one that is or was a prototype, and that map is private and has no link
pub record AreLone (t : Trail) : Type 0 where
  pub apart : (q r m : ℕ) → map_in t q ≡ Some m → map_in t r ≡ Some m → IsTrue (root_in t q).is_proto → q ≡ r
  pub private : (q m : ℕ) → map_in t q ≡ Some m → IsTrue (root_in t q).is_proto → IsSomeAnd (gate_in t m) (λ g. IsTrue g.is_private)
  pub bare : (q m : ℕ) → map_in t q ≡ Some m → IsTrue (root_in t q).is_proto → links_in t m ≡ []

-- of the bits of maps, writes to those of one
abbrev pub MarksAt : ℕ → Trail → Write → Type 0
MarksAt m t (Bits x b) = x ≡ m
MarksAt m t _ = Unit {0}
