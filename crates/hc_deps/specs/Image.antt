-- What the words of an image say of an item.
use Rattle.std.specs.Prelude.{ℕ, ◌+◌, nat_lt, if◌then◌else◌, Option, None, List, slice_index, option_and_then}
use Rattle.hc_layout.specs.Place.{index_of}
use Rattle.hc_layout.specs.Shape.{items_of}
use Rattle.hc_layout.specs.Words.{map_bits_of, store_of}
use Rattle.hc_layout.specs.declared.shape.Shape.{Shape}
use Rattle.hc_layout.specs.declared.words.MapBits.{MapBits}
use Rattle.hc_layout.specs.declared.words.StoreWord.{StoreWord}
use Rattle.hc_value.specs.Field.{detail_of}
use Rattle.hc_value.specs.declared.field.Detail.{Detail}
use Rattle.hc_heap.specs.Decode.{optional_number, any_word}
use Rattle.hc_heap.specs.Kinds.{region_of, place_at}
use Rattle.hc_heap.specs.declared.kind.Kind.{Kind}
use Rattle.hc_heap.specs.declared.kind.Kind.TheVariants.{BitsOfMap, DetailOfField, MapOfObject, StoreOfObject, WordOfSlot}

-- what an item's word says by its form; nothing where the board has no such item
abbrev pub said_on : {T : Type 0} → Shape → List ℕ → Kind → (ℕ → Option T) → ℕ → Option T
said_on s words kind form item =
    if nat_lt item (items_of s (region_of kind)) then form (slice_index words (index_of s (place_at kind item))) else None

-- a map's bits
abbrev pub bits_on : Shape → List ℕ → ℕ → Option MapBits
bits_on s words map = said_on s words BitsOfMap map_bits_of map

-- what a field admits
abbrev pub detail_on : Shape → List ℕ → ℕ → Option Detail
detail_on s words field = said_on s words DetailOfField detail_of field

-- a fast object's map
abbrev pub map_on : Shape → List ℕ → ℕ → Option ℕ
map_on s words object = option_and_then (λ (map : Option ℕ). map) (said_on s words MapOfObject optional_number object)

-- an object's slots
abbrev pub store_on : Shape → List ℕ → ℕ → Option StoreWord
store_on s words object = said_on s words StoreOfObject store_of object

-- the word of a slot
abbrev pub slot_on : Shape → List ℕ → ℕ → Option ℕ
slot_on s words slot = said_on s words WordOfSlot any_word slot

-- the word of an object's slot, counted from its first; nothing where it has no first slot, or the board no such slot
abbrev pub slot_word_on : Shape → List ℕ → ℕ → ℕ → Option ℕ
slot_word_on s words object slot =
    option_and_then (λ (store : StoreWord). option_and_then (λ (first : ℕ). slot_on s words (first + slot)) store.first) (store_on s words object)
