-- Fast objects: those that have a map, whose entries their slots hold.
use Rattle.std.specs.Prelude.{◌≡◌, ℕ, Some}
use Rattle.hc_layout.specs.declared.words.GateWord.{GateWord}
use Rattle.hc_heap.specs.Writes.{Trail}
use Rattle.hc_heap.specs.Readings.{gate_in, map_in, root_in}
use Rattle.hc_heap.specs.Lawful.{HoldsEntries}

-- an object is fast with a map: the map is open, the object's slots hold what it asks, and it is private exactly
-- where the object is or was a prototype
pub record IsFast (t : Trail) (o m : ℕ) (g : GateWord) : Type 0 where
  pub is_open : gate_in t m ≡ Some g
  pub holds : HoldsEntries t o m g
  pub private : g.is_private ≡ (root_in t o).is_proto

-- some map with which an object is fast
pub record HasMap (t : Trail) (o : ℕ) : Type 0 where
  pub map : ℕ
  pub gate : GateWord
  pub is_map : map_in t o ≡ Some map
  pub fast : IsFast t o map gate
