-- Maps that die because a field outgrows its layout, and the maps that are made in their place.
use Rattle.std.specs.Prelude.{◌≡◌, ◌≢◌, ◌⊎◌, ℕ, ◌+◌, ◌<◌, ◌≤◌, Bool, true, false, IsTrue, if◌then◌else◌, Option, Some, None, []}
use Rattle.hc_layout.specs.declared.words.GateWord.{GateWord}
use Rattle.hc_value.specs.Field.{is_detail_within}
use Rattle.hc_value.specs.declared.field.Detail.{Detail}
use Rattle.hc_value.specs.declared.key.Key.{Key}
use Rattle.hc_heap.specs.Writes.{Write, Trail, Bits}
use Rattle.hc_heap.specs.Readings.{no_bits, gate_in, parent_in, prototype_in, bits_in, owner_in, detail_in}
use Rattle.hc_heap.specs.Kept.{Adds}
use Rattle.hc_heap.specs.States.{View, IsHeap}
use Rattle.hc_descs.specs.Entries.{key_at, field_at}
use Rattle.hc_descs.specs.Copies.{HasEntriesOf}
use Rattle.hc_links.specs.Chains.{links_in}
use Rattle.hc_tree.specs.Tree.{IsTree, gate_with}
use Rattle.hc_tree.specs.Needs.{arrays_upto, build_need, own_need, with_need}
use Rattle.hc_tree.specs.declared.need.Need.{Need}
use Rattle.hc_tree.specs.Growth.{live_child}
use Rattle.hc_tree.specs.Details.{DetailsAre, GetsOne, Reshapes, detail_at}
use Rattle.hc_tree.specs.Dying.{HaveDied, IsDead, IsUnder, dead_bits}
use Rattle.hc_tree.specs.Walking.{GetsWanted, IsOwnedFrom, OpensNoRoot, both_details, wanted_at}
use Rattle.hc_tree.specs.declared.retarget.Wanted.TheVariants.{With}

-- a map stands under the one that owns the field of the i-th of a map's n entries, or is it
pub record IsDoomed (t : Trail) (m n i x : ℕ) : Type 0 where
  pub within : i < n
  pub field : ℕ
  pub owner : ℕ
  pub is_field : field_at t m i ≡ Some field
  pub owns : owner_in t field ≡ Some owner
  pub under : IsUnder t owner x

-- writes that deprecate those maps, each by one store of both bits
abbrev pub Cuts : Trail → ℕ → ℕ → ℕ → Trail → Write → Type 0
Cuts old m n i t (Bits x b) = IsDoomed old m n i x × (b ≡ dead_bits)
Cuts old m n i t _ = ⊥

-- those maps are deprecated, each that was open
abbrev pub AreDead : Trail → Trail → ℕ → ℕ → ℕ → Type 0
AreDead old new m n i = HaveDied (IsDoomed old m n i) old new

-- a map is the child of another
abbrev pub IsChild : Trail → ℕ → Type 0
IsChild t x = (p : ℕ) × (parent_in t x ≡ Some (Some p))

-- the owner of a map's i-th field was deprecated with all maps under it, and nothing else was stored. What is left is the
-- map above it, which has the first i entries; it is the map itself where that has no more
pub record IsCut (old new : View) (m n i base : ℕ) : Type 0 where
  pub view : new ≡ record old { trail = new.trail }
  pub writes : Adds (Cuts old.trail m n i) old.trail new.trail
  pub dead : AreDead old.trail new.trail m n i
  pub gate : gate_in new.trail base ≡ Some (gate_with i false)
  pub live : (bits_in new.trail base).deprecated ≡ false
  pub prototype : prototype_in old.trail base ≡ prototype_in old.trail m
  pub entries : HasEntriesOf old.trail base m i
  pub ends : (key : Key) → i < n → key_at old.trail m i ≡ Some key → live_child new.trail base key ≡ None
  pub whole : i ≡ n → base ≡ m
  pub same : i ≡ n → new.trail ≡ old.trail
  pub children : (x : ℕ) → IsDoomed old.trail m n i x → IsChild old.trail x
  pub tree : IsTree new.trail
  pub heap : IsHeap new

-- a map that became unstable has a link, or is one of those, and dead
abbrev pub AreLinkedOrDoomed : Trail → Trail → ℕ → ℕ → ℕ → Type 0
AreLinkedOrDoomed old new m n i = (x : ℕ) → (bits_in old x).unstable ≡ false → IsTrue (bits_in new x).unstable → (links_in new x ≢ []) ⊎ IsDead (IsDoomed old m n i) new x

-- none of those maps is private
abbrev pub AreShared : Trail → Trail → ℕ → ℕ → ℕ → Type 0
AreShared old new m n i = (x : ℕ) → IsDoomed old m n i x → (g : GateWord) → gate_in new x ≡ Some g → g.is_private ≡ false

-- the fields of a map's n entries admit what those of another did
abbrev pub AdmitMore : Trail → Trail → ℕ → ℕ → ℕ → Type 0
AdmitMore old new m c n = (k : ℕ) (was now : Detail) → k < n → detail_at old m k ≡ Some was → detail_at new c k ≡ Some now → IsTrue (is_detail_within was now)

-- the owner of a map's field at a place, where it has one, was deprecated with all maps under it. From the map above it, or from
-- the map itself, new maps were made with fields of their own, one for each entry of another map from there on, and nothing else
-- was stored but what fields get
pub record IsRenewed (Gets : ℕ → Detail → Type 0) (old new : View) (end count stop m n c : ℕ) : Type 0 where
  pub writes : Adds (Reshapes old.used (IsDoomed old.trail end count stop) Gets) old.trail new.trail
  pub dead : AreDead old.trail new.trail end count stop
  pub opens : OpensNoRoot old.trail new.trail
  pub linked : AreLinkedOrDoomed old.trail new.trail end count stop
  pub spares : AreShared old.trail new.trail end count stop
  pub maps : new.used.maps + stop ≡ old.used.maps + n
  pub entries : new.used.entries + arrays_upto stop ≡ old.used.entries + arrays_upto n
  pub fields : new.used.fields + stop ≡ old.used.fields + n
  pub links : new.used.links + stop ≡ old.used.links + n
  pub objects : new.used.objects ≡ old.used.objects
  pub slots : new.used.slots ≡ old.used.slots
  pub cells : new.used.cells ≡ old.used.cells
  pub shape : new.shape ≡ old.shape
  pub gate : gate_in new.trail c ≡ Some (gate_with n false)
  pub live : (bits_in new.trail c).deprecated ≡ false
  pub prototype : prototype_in new.trail c ≡ prototype_in old.trail end
  pub keys : (k : ℕ) → k < n → key_at new.trail c k ≡ key_at old.trail m k
  pub shared : (k : ℕ) → k < stop → field_at new.trail c k ≡ field_at old.trail end k
  pub owned : (k : ℕ) → stop ≤ k → k < n → IsOwnedFrom new.trail c k old.used.maps
  pub details : DetailsAre Gets old.trail new.trail
  pub tree : IsTree new.trail
  pub heap : IsHeap new

-- what is to be admitted by the field of a map's j-th entry once the i-th is to admit a detail too
abbrev pub generalised_at : Trail → ℕ → ℕ → Detail → ℕ → Option Detail
generalised_at t m i d j = wanted_at t m i (With d) j

-- a shared map was generalised: the owner of its i-th field died with all maps under it, and new maps stand in their place
pub record IsGeneralised (old new : View) (m n i c : ℕ) (d : Detail) : Type 0 where
  pub renewed : IsRenewed (GetsWanted (generalised_at old.trail m i d) i n old.used.fields) old new m n i m n c
  pub kept : (f : ℕ) → f < old.used.fields → detail_in new.trail f ≡ detail_in old.trail f
  pub made : (k : ℕ) → i ≤ k → k < n → detail_at new.trail c k ≡ generalised_at old.trail m i d k
  pub admits : AdmitMore old.trail new.trail m c n

-- Private maps

-- a map is this one
abbrev pub IsThis : ℕ → ℕ → Type 0
IsThis m x = x ≡ m

-- what fields get where a private map is generalised: a new one the join of what the map's i-th field admits with a detail
abbrev pub OwnGets : View → ℕ → ℕ → Detail → ℕ → Detail → Type 0
OwnGets v m i d = GetsOne v.used.fields (both_details (detail_at v.trail m i) (Some d))

-- a private map was generalised: it died, and no other map did. A private one was made in its place, which has its fields but for
-- a new one at the i-th place, and nothing else was stored
pub record IsGeneralisedAlone (old new : View) (m n i c : ℕ) (d : Detail) : Type 0 where
  pub number : c ≡ old.used.maps
  pub writes : Adds (Reshapes old.used (IsThis m) (OwnGets old m i d)) old.trail new.trail
  pub dead : IsTrue (bits_in new.trail m).deprecated
  pub others : (x : ℕ) → x ≢ m → bits_in new.trail x ≡ bits_in old.trail x
  pub opens : OpensNoRoot old.trail new.trail
  pub used : new.used ≡ with_need (own_need n) old.used
  pub shape : new.shape ≡ old.shape
  pub gate : gate_in new.trail c ≡ Some (gate_with n true)
  pub parent : parent_in new.trail c ≡ Some None
  pub prototype : prototype_in new.trail c ≡ prototype_in old.trail m
  pub stable : bits_in new.trail c ≡ no_bits
  pub keys : (k : ℕ) → k < n → key_at new.trail c k ≡ key_at old.trail m k
  pub shared : (k : ℕ) → k < n → k ≢ i → field_at new.trail c k ≡ field_at old.trail m k
  pub field : field_at new.trail c i ≡ Some old.used.fields
  pub owner : owner_in new.trail old.used.fields ≡ Some c
  pub made : (k : ℕ) → k < n → detail_at new.trail c k ≡ generalised_at old.trail m i d k
  pub admits : AdmitMore old.trail new.trail m c n
  pub details : DetailsAre (OwnGets old m i d) old.trail new.trail
  pub tree : IsTree new.trail
  pub heap : IsHeap new

-- a map with n entries was generalised, private or shared
abbrev pub HasGeneralised : Bool → View → View → ℕ → ℕ → ℕ → ℕ → Detail → Type 0
HasGeneralised true old new m n i c d = IsGeneralisedAlone old new m n i c d
HasGeneralised false old new m n i c d = IsGeneralised old new m n i c d

-- what that needs: a new private map, or a map for each entry from the i-th on
abbrev pub generalise_need : GateWord → ℕ → Need
generalise_need g i = if g.is_private then own_need g.entries else build_need i g.entries
