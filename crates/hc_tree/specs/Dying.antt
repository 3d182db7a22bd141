-- Maps that are deprecated, each with all maps under it.
use Rattle.std.specs.Prelude.{◌≡◌, ◌⊎◌, ℕ, suc, ◌+◌, ◌<◌, ◌≤◌, true, false, IsTrue, IsSome, Option, Some, None, [], ◌∷◌}
use Rattle.hc_layout.specs.declared.shape.Shape.{Shape}
use Rattle.hc_layout.specs.declared.words.GateWord.{GateWord}
use Rattle.hc_layout.specs.declared.words.MapBits.{MapBits}
use Rattle.hc_value.specs.declared.field.Detail.{Detail}
use Rattle.hc_value.specs.declared.key.Key.{Key}
use Rattle.hc_heap.specs.Writes.{Write, Trail, Bits}
use Rattle.hc_heap.specs.Readings.{gate_in, parent_in, prototype_in, bits_in, owner_in}
use Rattle.hc_heap.specs.Lawful.{Lawful}
use Rattle.hc_heap.specs.Kept.{Adds}
use Rattle.hc_heap.specs.States.{View, IsHeap}
use Rattle.hc_descs.specs.Entries.{count_of, field_at}
use Rattle.hc_descs.specs.Copies.{HasEntriesOf}
use Rattle.hc_links.specs.Chains.{links_in}
use Rattle.hc_tree.specs.Details.{detail_at, joins_in_place}
use Rattle.hc_tree.specs.Tree.{IsChildFor, IsTree, gate_with}
use Rattle.hc_tree.specs.Growth.{live_child}
use Rattle.hc_tree.specs.Walking.{ancestor}

-- the bits of a deprecated map
abbrev pub dead_bits : MapBits
dead_bits = record { unstable = true; deprecated = true }

-- a map is this one, or stands under it
pub record IsUnder (t : Trail) (top c : ℕ) : Type 0 where
  pub depth : ℕ
  pub leads : ancestor t depth c ≡ Some top

-- writes that deprecate maps under a map, each by one store of both bits
abbrev pub Deprecates : Trail → ℕ → Trail → Write → Type 0
Deprecates old top t (Bits c b) = IsUnder old top c × (b ≡ dead_bits)
Deprecates old top t _ = ⊥

-- a map stands under the live child of a map with n entries, or is it, where that child's last field doesn't join with a detail
-- in place
pub record IsOutgrown (t : Trail) (live : Option ℕ) (n : ℕ) (d : Detail) (x : ℕ) : Type 0 where
  pub child : ℕ
  pub is : live ≡ Some child
  pub outgrown : joins_in_place (detail_at t child n) (Some d) ≡ false
  pub under : IsUnder t child x

-- a map stands under the live child of a map for a key, or is it, where its last field doesn't join with a detail in place
abbrev pub OutgrownFor : Trail → ℕ → Key → Detail → ℕ → Type 0
OutgrownFor t m key d x = IsOutgrown t (live_child t m key) (count_of t m) d x

-- the maps of a kind that were open are deprecated
abbrev pub HaveDied : (ℕ → Type 0) → Trail → Trail → Type 0
HaveDied Dies old new = (x : ℕ) → Dies x → IsSome (gate_in old x) → IsTrue (bits_in new x).deprecated

-- a map of a kind is deprecated
abbrev pub IsDead : (ℕ → Type 0) → Trail → ℕ → Type 0
IsDead Dies t x = Dies x × IsTrue (bits_in t x).deprecated

-- maps that became unstable are this one, or deprecated ones of a kind
abbrev pub MarksOnly : ℕ → (ℕ → Type 0) → Trail → Trail → Type 0
MarksOnly m Dies old new = (x : ℕ) → (bits_in old x).unstable ≡ false → IsTrue (bits_in new x).unstable → (x ≡ m) ⊎ IsDead Dies new x

-- a map that may be deprecated is private, or has a parent: a root stays
abbrev pub MayDie : Trail → ℕ → GateWord → Type 0
MayDie t m g = g.is_private ≡ false → parent_in t m ≡ Some None → ⊥

-- a map was deprecated with all maps under it, and nothing else was stored: of a map without a link one word
pub record IsDeprecated (old new : View) (m : ℕ) : Type 0 where
  pub view : new ≡ record old { trail = new.trail }
  pub writes : Adds (Deprecates old.trail m) old.trail new.trail
  pub alone : links_in old.trail m ≡ [] → new.trail ≡ Bits m dead_bits ∷ old.trail
  pub dead : IsTrue (bits_in new.trail m).deprecated
  pub tree : IsTree new.trail
  pub heap : IsHeap new

-- a map owns the field of another's i-th entry: it stands above that or is it, it has i + 1 entries, which are the other's
-- first, and is the child of a map that has i
pub record IsOwnerOf (t : Trail) (m n i a : ℕ) : Type 0 where
  pub field : ℕ
  pub parent : ℕ
  pub key : Key
  pub depth : ℕ
  pub is_field : field_at t m i ≡ Some field
  pub owner : owner_in t field ≡ Some a
  pub high : ancestor t depth m ≡ Some a
  pub far : depth + suc i ≡ n
  pub gate : gate_in t parent ≡ Some (gate_with i false)
  pub child : IsChildFor t parent (gate_with i false) a key
  pub entries : HasEntriesOf t a m (suc i)

-- each field of a shared map is owned by a map above it, or by itself
abbrev pub OwnersStand : Type 0
OwnersStand = (s : Shape) (t : Trail) (m n i : ℕ) → Lawful s t → IsTree t → gate_in t m ≡ Some (gate_with n false) → i < n → (a : ℕ) × IsOwnerOf t m n i a

-- a live child for a key is the live child for it
abbrev pub OneIsLive : Type 0
OneIsLive = (t : Trail) (m c : ℕ) (g : GateWord) (key : Key) → IsTree t → gate_in t m ≡ Some g → IsChildFor t m g c key → (bits_in t c).deprecated ≡ false → live_child t m key ≡ Some c

-- and the live child for a key is a child for it
abbrev pub LiveIsChild : Type 0
LiveIsChild = (t : Trail) (m c : ℕ) (g : GateWord) (key : Key) → IsTree t → gate_in t m ≡ Some g → live_child t m key ≡ Some c → IsChildFor t m g c key

-- after a live child was deprecated there is none for its key
abbrev pub OwnerIsFreed : Type 0
OwnerIsFreed = (old new : View) (m c : ℕ) (g : GateWord) (key : Key) → IsTree old.trail → gate_in old.trail m ≡ Some g → IsChildFor old.trail m g c key → (bits_in old.trail c).deprecated ≡ false → IsDeprecated old new c → live_child new.trail m key ≡ None

-- what stands above a live map is open and live, no younger than it, and has its prototype
pub record IsHigh (t : Trail) (m a : ℕ) : Type 0 where
  pub gate : GateWord
  pub is_open : gate_in t a ≡ Some gate
  pub live : (bits_in t a).deprecated ≡ false
  pub older : a ≤ m
  pub prototype : prototype_in t a ≡ prototype_in t m

abbrev pub LiveStandHigh : Type 0
LiveStandHigh = (t : Trail) (m a depth : ℕ) (g : GateWord) → IsTree t → gate_in t m ≡ Some g → (bits_in t m).deprecated ≡ false → ancestor t depth m ≡ Some a → IsHigh t m a

-- the map above one that was deprecated has the bits that it had
abbrev pub ParentIsSpared : Type 0
ParentIsSpared = (old new : View) (m c : ℕ) (g : GateWord) (key : Key) → IsTree old.trail → gate_in old.trail m ≡ Some g → IsChildFor old.trail m g c key → (bits_in old.trail m).deprecated ≡ false → IsDeprecated old new c → bits_in new.trail m ≡ bits_in old.trail m
