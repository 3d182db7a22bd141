-- The places of the kinds of words.
use Rattle.std.proofs.Common.{◌≡◌, ℕ, zero, suc, ◌<◌, Some, refl, arith}
use Rattle.hc_layout.specs.Shape.{item_words}
use Rattle.hc_layout.specs.declared.shape.Region.{Region}
use Rattle.hc_layout.specs.declared.shape.Region.TheVariants.{Maps, Entries, Fields, Links, Objects, Slots, Cells}
use Rattle.hc_heap.specs.declared.kind.Kind.{Kind}
use Rattle.hc_heap.specs.declared.kind.Kind.TheVariants.{GateOfMap, ParentOfMap, PrototypeOfMap, BitsOfMap, BaseOfMap, ArrayOfMap, HeadOfMap, KeyOfEntry, ReferenceOfEntry, OwnerOfField, DetailOfField, KeyOfLink, ChildOfLink, NextOfLink, MapOfObject, RootOfObject, StoreOfObject, CellOfObject, WordOfSlot, StateOfCell}
use Rattle.hc_heap.specs.Kinds.{region_of, word_of, kind_at}

-- the kind of a word of a region
pub record IsKindAt (r : Region) (w : ℕ) : Type 0 where
  pub kind : Kind
  pub is : kind_at r w ≡ Some kind
  pub region : region_of kind ≡ r
  pub word : word_of kind ≡ w

pub kind-at : (r : Region) (w : ℕ) → w < item_words r → IsKindAt r w
kind-at Maps zero h = record { kind = GateOfMap; is = refl; region = refl; word = refl }
kind-at Maps (suc zero) h = record { kind = ParentOfMap; is = refl; region = refl; word = refl }
kind-at Maps (suc (suc zero)) h = record { kind = PrototypeOfMap; is = refl; region = refl; word = refl }
kind-at Maps (suc (suc (suc zero))) h = record { kind = BitsOfMap; is = refl; region = refl; word = refl }
kind-at Maps (suc (suc (suc (suc zero)))) h = record { kind = BaseOfMap; is = refl; region = refl; word = refl }
kind-at Maps (suc (suc (suc (suc (suc zero))))) h = record { kind = ArrayOfMap; is = refl; region = refl; word = refl }
kind-at Maps (suc (suc (suc (suc (suc (suc zero)))))) h = record { kind = HeadOfMap; is = refl; region = refl; word = refl }
kind-at Maps (suc (suc (suc (suc (suc (suc (suc w))))))) h = absurd (omega arith)
kind-at Entries zero h = record { kind = KeyOfEntry; is = refl; region = refl; word = refl }
kind-at Entries (suc zero) h = record { kind = ReferenceOfEntry; is = refl; region = refl; word = refl }
kind-at Entries (suc (suc w)) h = absurd (omega arith)
kind-at Fields zero h = record { kind = OwnerOfField; is = refl; region = refl; word = refl }
kind-at Fields (suc zero) h = record { kind = DetailOfField; is = refl; region = refl; word = refl }
kind-at Fields (suc (suc w)) h = absurd (omega arith)
kind-at Links zero h = record { kind = KeyOfLink; is = refl; region = refl; word = refl }
kind-at Links (suc zero) h = record { kind = ChildOfLink; is = refl; region = refl; word = refl }
kind-at Links (suc (suc zero)) h = record { kind = NextOfLink; is = refl; region = refl; word = refl }
kind-at Links (suc (suc (suc w))) h = absurd (omega arith)
kind-at Objects zero h = record { kind = MapOfObject; is = refl; region = refl; word = refl }
kind-at Objects (suc zero) h = record { kind = RootOfObject; is = refl; region = refl; word = refl }
kind-at Objects (suc (suc zero)) h = record { kind = StoreOfObject; is = refl; region = refl; word = refl }
kind-at Objects (suc (suc (suc zero))) h = record { kind = CellOfObject; is = refl; region = refl; word = refl }
kind-at Objects (suc (suc (suc (suc w)))) h = absurd (omega arith)
kind-at Slots zero h = record { kind = WordOfSlot; is = refl; region = refl; word = refl }
kind-at Slots (suc w) h = absurd (omega arith)
kind-at Cells zero h = record { kind = StateOfCell; is = refl; region = refl; word = refl }
kind-at Cells (suc w) h = absurd (omega arith)

-- the kind at the place of a kind's word
pub kind-back : (kind : Kind) → kind_at (region_of kind) (word_of kind) ≡ Some kind
kind-back GateOfMap = refl
kind-back ParentOfMap = refl
kind-back PrototypeOfMap = refl
kind-back BitsOfMap = refl
kind-back BaseOfMap = refl
kind-back ArrayOfMap = refl
kind-back HeadOfMap = refl
kind-back KeyOfEntry = refl
kind-back ReferenceOfEntry = refl
kind-back OwnerOfField = refl
kind-back DetailOfField = refl
kind-back KeyOfLink = refl
kind-back ChildOfLink = refl
kind-back NextOfLink = refl
kind-back MapOfObject = refl
kind-back RootOfObject = refl
kind-back StoreOfObject = refl
kind-back CellOfObject = refl
kind-back WordOfSlot = refl
kind-back StateOfCell = refl

-- a kind's word is one of its item
pub word-fits : (kind : Kind) → word_of kind < item_words (region_of kind)
word-fits GateOfMap = omega arith
word-fits ParentOfMap = omega arith
word-fits PrototypeOfMap = omega arith
word-fits BitsOfMap = omega arith
word-fits BaseOfMap = omega arith
word-fits ArrayOfMap = omega arith
word-fits HeadOfMap = omega arith
word-fits KeyOfEntry = omega arith
word-fits ReferenceOfEntry = omega arith
word-fits OwnerOfField = omega arith
word-fits DetailOfField = omega arith
word-fits KeyOfLink = omega arith
word-fits ChildOfLink = omega arith
word-fits NextOfLink = omega arith
word-fits MapOfObject = omega arith
word-fits RootOfObject = omega arith
word-fits StoreOfObject = omega arith
word-fits CellOfObject = omega arith
word-fits WordOfSlot = omega arith
word-fits StateOfCell = omega arith
