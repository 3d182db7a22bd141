-- How an object comes to another map with the same keys.
use Rattle.std.specs.Prelude.{◌≡◌, ◌≢◌, ℕ, ◌<◌, Bool, true, false, IsTrue, Option, Some}
use Rattle.hc_value.specs.Field.{is_detail_within}
use Rattle.hc_value.specs.declared.field.Detail.{Detail}
use Rattle.hc_heap.specs.Lawful.{HoldsEntries, HoldsEntry}
use Rattle.hc_heap.specs.Readings.{bits_in, gate_in, map_in, parent_in, prototype_in, root_in, store_in}
use Rattle.hc_heap.specs.Kept.{Adds}
use Rattle.hc_heap.specs.States.{View, IsHeap}
use Rattle.hc_heap.specs.Writes.{Trail}
use Rattle.hc_descs.specs.Entries.{detail_at, key_at}
use Rattle.hc_tree.specs.Kept.{TreeIsSame}
use Rattle.hc_tree.specs.Tree.{IsTree, gate_with}
use Rattle.hc_tree.specs.Needs.{IsWithin}
use Rattle.hc_tree.specs.Walking.{GetsWanted, OpensNoRoot}
use Rattle.hc_update.specs.Updating.{IsUpdated}
use Rattle.hc_update.specs.Renewing.{IsDoomed, IsThis, OwnGets, generalise_need, generalised_at}
use Rattle.hc_slots.specs.Meaning.{prop_in}
use Rattle.hc_tree.specs.Details.{DetailsAre, Reshapes}
use Rattle.hc_tree.specs.Dying.{HaveDied}
use Rattle.hc_tree.specs.Growth.{marked}
use Rattle.hc_modes.specs.Changes.{Touches}
use Rattle.hc_modes.specs.Rest.{IsLinkedOrDead, MarksAt}

-- an object came from a map with n entries to another one with the same keys: its slots hold there what they held, and each field
-- admits what the old one did
pub record IsResettled (old new : Trail) (o m c n : ℕ) (own : Bool) (proto : Option ℕ) : Type 0 where
  pub gate : gate_in new c ≡ Some (gate_with n own)
  pub prototype : prototype_in new c ≡ Some proto
  pub keys : (k : ℕ) → k < n → key_at new c k ≡ key_at new m k
  pub holds : HoldsEntries new o c (gate_with n own)
  pub props : (k : ℕ) → k < n → prop_in new o c k ≡ prop_in old o m k
  pub admits : (k : ℕ) (was now : Detail) → k < n → detail_at old m k ≡ Some was → detail_at new c k ≡ Some now → IsTrue (is_detail_within was now)
  pub moved : map_in new o ≡ Some c
  pub store : store_in new o ≡ store_in old o

-- an object came from one map, which is unstable, to another, and its slots were written anew where a field is wide in one of the
-- two alone; nothing else was stored
pub record HasCome (old new : View) (o m c n : ℕ) : Type 0 where
  pub view : new ≡ record old { trail = new.trail }
  pub writes : Adds (Touches old o) old.trail new.trail
  pub marks : Adds (MarksAt m) old.trail new.trail
  pub same : TreeIsSame old.trail new.trail
  pub roots : (q : ℕ) → root_in new.trail q ≡ root_in old.trail q
  pub bits : (x : ℕ) → bits_in new.trail x ≡ bits_in old.trail x
  pub parents : (x : ℕ) → parent_in new.trail x ≡ parent_in old.trail x
  pub prototypes : (x : ℕ) → prototype_in new.trail x ≡ prototype_in old.trail x
  pub maps : (q : ℕ) → q ≢ o → map_in new.trail q ≡ map_in old.trail q
  pub keys : (x k : ℕ) → key_at new.trail x k ≡ key_at old.trail x k
  pub details : (x k : ℕ) → detail_at new.trail x k ≡ detail_at old.trail x k
  pub props : (k : ℕ) → k < n → prop_in new.trail o c k ≡ prop_in old.trail o m k
  pub holds : (k : ℕ) → k < n → HoldsEntry new.trail o c k
  pub moved : map_in new.trail o ≡ Some c
  pub store : store_in new.trail o ≡ store_in old.trail o
  pub tree : IsTree new.trail
  pub heap : IsHeap new

-- a map stands in the place of another one with n entries, which was made unstable before: it has the same keys, and its fields admit
-- what the other's did; some maps died, and fields got details
pub record IsRemade (Dies : ℕ → Type 0) (Gets : ℕ → Detail → Type 0) (old new : View) (m c n : ℕ) (own : Bool) (proto : Option ℕ) : Type 0 where
  pub writes : Adds (Reshapes old.used Dies Gets) (marked old.trail m) new.trail
  pub shape : new.shape ≡ old.shape
  pub objects : new.used.objects ≡ old.used.objects
  pub slots : new.used.slots ≡ old.used.slots
  pub dead : HaveDied Dies old.trail new.trail
  pub marks : (x : ℕ) → x ≢ m → (bits_in old.trail x).unstable ≡ false → IsTrue (bits_in new.trail x).unstable → IsLinkedOrDead old.trail new.trail x
  pub gate : gate_in new.trail c ≡ Some (gate_with n own)
  pub stable : IsTrue own → (bits_in new.trail c).unstable ≡ false
  pub fresh : IsTrue own → c ≡ old.used.maps
  pub prototype : prototype_in new.trail c ≡ Some proto
  pub keys : (k : ℕ) → k < n → key_at new.trail c k ≡ key_at old.trail m k
  pub admits : (k : ℕ) (was now : Detail) → k < n → detail_at old.trail m k ≡ Some was → detail_at new.trail c k ≡ Some now → IsTrue (is_detail_within was now)
  pub tree : IsTree new.trail
  pub heap : IsHeap new

-- an object came to a map that stands in the place of its own
pub record HasMovedOn (Dies : ℕ → Type 0) (Gets : ℕ → Detail → Type 0) (old new : View) (o m n : ℕ) (own : Bool) (proto : Option ℕ) : Type 0 where
  pub mid : View
  pub map : ℕ
  pub made : IsRemade Dies Gets old mid m map n own proto
  pub come : HasCome mid new o m map n

-- maps that die where one is generalised at a place: a private one alone, of a shared one the map that owns the field, and all under
-- it
abbrev pub GeneralisingKills : Bool → Trail → ℕ → ℕ → ℕ → ℕ → Type 0
GeneralisingKills true t m n i x = IsThis m x
GeneralisingKills false t m n i x = IsDoomed t m n i x

-- and what fields get
abbrev pub GeneralisingGets : Bool → View → ℕ → ℕ → ℕ → Detail → ℕ → Detail → Type 0
GeneralisingGets true v m n i d f e = OwnGets v m i d f e
GeneralisingGets false v m n i d f e = GetsWanted (generalised_at v.trail m i d) i n v.used.fields f e

-- a map after it was made unstable
abbrev pub marked_view : View → ℕ → View
marked_view v m = record v { trail = marked v.trail m }

-- an object came from a map with n entries to a live one whose i-th field admits a detail besides
pub record IsGeneralisedFor (old new : View) (o m n i : ℕ) (d : Detail) : Type 0 where
  pub own : Bool
  pub proto : Option ℕ
  pub is_own : (root_in old.trail o).is_proto ≡ own
  pub prototype : prototype_in old.trail m ≡ Some proto
  pub on : HasMovedOn (GeneralisingKills own (marked old.trail m) m n i) (GeneralisingGets own (marked_view old m) m n i d) old new o m n own proto
  pub opens : OpensNoRoot old.trail on.mid.trail
  pub needs : IsWithin (generalise_need (gate_with n own) i) old.used new.used
  pub other : on.map ≢ m
  pub live : (bits_in new.trail on.map).deprecated ≡ false
  pub wanted : detail_at new.trail on.map i ≡ generalised_at (marked old.trail m) m i d i
  pub details : DetailsAre (GeneralisingGets own (marked_view old m) m n i d) old.trail new.trail

-- an object came from a map with n entries to the live one in its place, which stands under a root
pub record IsUpdatedFor (old new : View) (o m n root : ℕ) : Type 0 where
  pub mid : View
  pub map : ℕ
  pub made : IsUpdated old mid root m n map
  pub come : HasCome mid new o m map n
