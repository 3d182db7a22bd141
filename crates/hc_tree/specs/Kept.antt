-- What a lawful trail keeps of maps and of the tree, each law the contract of a function of `laws.rt`.
use Rattle.std.specs.Prelude.{◌≡◌, ℕ, ◌<◌, Some}
use Rattle.hc_layout.specs.declared.shape.Shape.{Shape}
use Rattle.hc_layout.specs.declared.words.GateWord.{GateWord}
use Rattle.hc_heap.specs.Writes.{Trail}
use Rattle.hc_heap.specs.Readings.{gate_in, bits_in, base_in, array_in, entry_key_in, reference_in, detail_in, root_in}
use Rattle.hc_heap.specs.Lawful.{Lawful}
use Rattle.hc_heap.specs.Kept.{GoesOn, WrittenStays, IsOpen}
use Rattle.hc_descs.specs.Entries.{key_at, field_at}
use Rattle.hc_links.specs.Chains.{links_in}
use Rattle.hc_tree.specs.Tree.{IsTree, tagged_field}

-- an entry of a map is what it was
pub record EntryStays (old new : Trail) (m k : ℕ) : Type 0 where
  pub key : key_at new m k ≡ key_at old m k
  pub field : field_at new m k ≡ field_at old m k

-- open maps are as they were: their gates, parents, prototypes and entries; and a field that admits everything stays so
pub record MapsStay (old new : Trail) : Type 0 where
  pub written : WrittenStays old new
  pub entry : (m k : ℕ) (g : GateWord) → gate_in old m ≡ Some g → k < g.entries → EntryStays old new m k
  pub tagged : (f : ℕ) → detail_in old f ≡ Some tagged_field → detail_in new f ≡ Some tagged_field
  pub opened : (m : ℕ) (g : GateWord) → gate_in old m ≡ Some g → IsOpen old m g

abbrev pub MapsAreKept : Type 0
MapsAreKept = (s : Shape) (old new : Trail) → Lawful s old → GoesOn s old new → MapsStay old new

-- the tree is as it was: no link was put in, no map was opened or deprecated, no root was named, no entry was
-- written or moved, and no detail rose
pub record TreeIsSame (old new : Trail) : Type 0 where
  pub links : (m : ℕ) → links_in new m ≡ links_in old m
  pub gates : (m : ℕ) → gate_in new m ≡ gate_in old m
  pub lives : (m : ℕ) → (bits_in new m).deprecated ≡ (bits_in old m).deprecated
  pub roots : (o : ℕ) → (root_in new o).map ≡ (root_in old o).map
  pub details : (f : ℕ) → detail_in new f ≡ detail_in old f
  pub arrays : (m : ℕ) → array_in new m ≡ array_in old m
  pub bases : (m : ℕ) → base_in new m ≡ base_in old m
  pub keys : (e : ℕ) → entry_key_in new e ≡ entry_key_in old e
  pub references : (e : ℕ) → reference_in new e ≡ reference_in old e

abbrev pub TreesStay : Type 0
TreesStay = (s : Shape) (old new : Trail) → Lawful s old → GoesOn s old new → TreeIsSame old new → IsTree old → IsTree new
