-- What contracts see of a heap.
use Rattle.std.specs.Prelude.{◌≡◌, ℕ, ◌+◌, ◌≤◌, Some, List, [], ◌∷◌, ◌++◌}
use Rattle.hc_board.specs.Trail.{Access}
use Rattle.hc_board.specs.States.{WriterState, ReaderState, entry_of, position_of}
use Rattle.hc_layout.specs.Shape.{IsShape, items_of, words_of}
use Rattle.hc_layout.specs.declared.shape.Shape.{Shape}
use Rattle.hc_layout.specs.declared.shape.Region.{Region}
use Rattle.hc_layout.specs.declared.shape.Region.TheVariants.{Maps, Entries, Fields, Links, Objects, Slots, Cells}
use Rattle.hc_heap.specs.Writes.{Write, Trail}
use Rattle.hc_heap.specs.Decode.{typed, optional_number}
use Rattle.hc_heap.specs.declared.kind.Kind.{Kind}
use Rattle.hc_heap.specs.declared.kind.Kind.TheVariants.{BaseOfMap, ArrayOfMap}
use Rattle.hc_heap.specs.Readings.{base_in, array_in}
use Rattle.hc_layout.specs.Words.{array_of}
use Rattle.hc_layout.specs.declared.words.ArrayWord.{ArrayWord}
use Rattle.hc_heap.specs.Lawful.{Lawful, AllWithin}

-- the words' view: how many items there are, all writes, and how many items were handed out
pub record View : Type 0 where
  pub shape : Shape
  pub trail : Trail
  pub used : Shape

-- a heap: its words, its writer, and its pace
pub record HeapState (P : Type 0) : Type 0 where
  pub view : View
  pub desk : WriterState
  pub pace : P

-- the words and their writer alone
pub record WordsState : Type 0 where
  pub view : View
  pub desk : WriterState

-- no item was handed out
abbrev pub no_items : Shape
no_items = record { maps = 0; entries = 0; fields = 0; links = 0; objects = 0; slots = 0; cells = 0 }

-- the counts, with this one for a region
abbrev pub with_items : Region → ℕ → Shape → Shape
with_items Maps n s = record s { maps = n }
with_items Entries n s = record s { entries = n }
with_items Fields n s = record s { fields = n }
with_items Links n s = record s { links = n }
with_items Objects n s = record s { objects = n }
with_items Slots n s = record s { slots = n }
with_items Cells n s = record s { cells = n }

-- a region has room for so many items more
abbrev pub HasRoom : View → Region → ℕ → Type 0
HasRoom v r n = items_of v.used r + n ≤ items_of v.shape r

-- a map's array was handed out
abbrev pub AreArraysThere : ℕ → Trail → Type 0
AreArraysThere entries t = (m base : ℕ) → base_in t m ≡ Some base → base + (array_in t m).capacity ≤ entries

-- what holds of the words at every moment
pub record IsHeap (v : View) : Type 0 where
  pub shape : IsShape v.shape
  pub lawful : Lawful v.shape v.trail
  pub used : AllWithin v.used v.trail
  pub most : (r : Region) → items_of v.used r ≤ items_of v.shape r
  pub arrays : AreArraysThere v.used.entries v.trail

-- a word of this kind, written for an item, leaves the array of a map among those that were handed out
abbrev pub KeepsArrays : View → Kind → ℕ → ℕ → Type 0
KeepsArrays v BaseOfMap m w = (base : ℕ) → optional_number w ≡ Some (Some base) → base + (array_in v.trail m).capacity ≤ v.used.entries
KeepsArrays v ArrayOfMap m w = (a : ArrayWord) (base : ℕ) → array_of w ≡ Some a → base_in v.trail m ≡ Some base → base + a.capacity ≤ v.used.entries
KeepsArrays v _ m w = Unit {0}

-- the writer's board has these words, and its stores are these writes
pub record IsDesk (v : View) (d : WriterState) : Type 0 where
  pub width : d.board.words ≡ words_of v.shape
  pub trail : v.trail ≡ typed v.shape d.trail

-- what a heap keeps
pub record IsWords (v : View) (d : WriterState) : Type 0 where
  pub heap : IsHeap v
  pub desk : IsDesk v d

-- the second list goes on from the first
pub record Extends {T : Type 0} (old new : List T) : Type 0 where
  pub more : List T
  pub is : new ≡ old ++ more

-- the writer goes on: the same board, and nothing is taken from its stores and its met entries
pub record Goes (a b : WriterState) : Type 0 where
  pub board : b.board ≡ a.board
  pub trail : Extends a.trail b.trail
  pub loads : a.loads ≤ b.loads
  pub met : Extends a.met b.met

-- exactly one store was made, and readers may have been met
pub record OneStore (a b : WriterState) : Type 0 where
  pub store : Access
  pub board : b.board ≡ a.board
  pub trail : b.trail ≡ a.trail ++ store ∷ []
  pub loads : b.loads ≡ a.loads
  pub met : Extends a.met b.met

-- exactly one load was made
abbrev pub one_load : WriterState → WriterState
one_load d = record d { loads = d.loads + 1 }

-- only loads were made, and at most so many
pub record OnlyLoads (n : ℕ) (a b : WriterState) : Type 0 where
  pub is : b ≡ record a { loads = b.loads }
  pub least : a.loads ≤ b.loads
  pub most : b.loads ≤ a.loads + n

-- the view with one write more
abbrev pub with_write : View → Write → View
with_write v w = record v { trail = w ∷ v.trail }

-- the reader was met: its parts, the last ended here, are the newest entry
abbrev pub with_met : WriterState → ReaderState → WriterState
with_met d r = record d { met = d.met ++ entry_of r (position_of d) ∷ [] }
