-- Branches that the tests make.
use Rattle.std.specs.Prelude.{◌≡◌, ℕ, ◌<◌, false, None, Some}
use Rattle.hc_value.specs.declared.field.Class.TheVariants.{Any}
use Rattle.hc_value.specs.declared.field.Detail.{Detail}
use Rattle.hc_heap.specs.Writes.{Trail}
use Rattle.hc_heap.specs.Readings.{gate_in, bits_in, parent_in}
use Rattle.hc_heap.specs.States.{View, IsHeap}
use Rattle.hc_descs.specs.Entries.{HasName}
use Rattle.hc_tree.specs.Tree.{IsRoot, IsTree, gate_with}

-- the last map of a branch, whose names count from 0
pub record IsEnd (v : View) (m n : ℕ) : Type 0 where
  pub heap : IsHeap v
  pub tree : IsTree v.trail
  pub gate : gate_in v.trail m ≡ Some (gate_with n false)
  pub live : (bits_in v.trail m).deprecated ≡ false
  pub names : (k : ℕ) → k < n → HasName v.trail m k k

-- a detail that admits any class
abbrev pub IsPlain : Detail → Type 0
IsPlain d = d.class ≡ Any

-- the roots of null that were there are still
abbrev pub RootsStay : Trail → Trail → Type 0
RootsStay old new = (r : ℕ) → IsRoot old None r → IsRoot new None r

-- a shared map with so many entries is under another
pub record IsUnderOf (t : Trail) (m n p : ℕ) : Type 0 where
  pub gate : gate_in t m ≡ Some (gate_with n false)
  pub parent : parent_in t m ≡ Some (Some p)

-- the maps that were under others are still
abbrev pub ChildrenStay : Trail → Trail → Type 0
ChildrenStay old new = (m n p : ℕ) → IsUnderOf old m n p → IsUnderOf new m n p

-- a branch of three under a root: its first map, and its last
pub record IsBranch (v : View) (root : ℕ) (maps : ℕ × ℕ) : Type 0 where
  pub first : IsUnderOf v.trail maps.0 1 root
  pub middle : ℕ
  pub last : IsUnderOf v.trail maps.1 3 middle
  pub end : IsEnd v maps.1 3
