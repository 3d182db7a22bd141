use Rattle.std.specs.Prelude.{ℕ, ◌+◌, ◌-◌, ◌^◌, ◌==◌, ◌&&◌, Bool, nat_lt, nat_le, if◌then◌else◌, Option, Some, None}
use Rattle.hc_layout.specs.Bits.{field_of}
use Rattle.hc_layout.specs.declared.words.GateWord.{GateWord}
use Rattle.hc_layout.specs.declared.words.MapBits.{MapBits}
use Rattle.hc_layout.specs.declared.words.ArrayWord.{ArrayWord}
use Rattle.hc_layout.specs.declared.words.KeyWord.{KeyWord}
use Rattle.hc_layout.specs.declared.words.RootWord.{RootWord}
use Rattle.hc_layout.specs.declared.words.StoreWord.{StoreWord}
use Rattle.hc_layout.specs.declared.words.CellWord.{CellWord}
use Rattle.hc_layout.specs.declared.words.NumberWord.{NumberWord}
use Rattle.hc_layout.specs.declared.words.SettledWord.{SettledWord}
use Rattle.hc_layout.specs.declared.words.TheConstants.{COUNT_BITS, ATTRIBUTE_BITS, NAME_BITS, SLOT_BITS, NUMBER_BITS}

-- 0 stands for none, and else one more for a number
abbrev pub one_more : Option ℕ → ℕ
one_more None = 0
one_more (Some n) = n + 1

-- what a number stands for
abbrev pub one_less : ℕ → Option ℕ
one_less n = if n == 0 then None else Some (n - 1)

-- one bit of a word is set
abbrev pub bit_of : ℕ → ℕ → Bool
bit_of shift word = field_of shift 1 word == 1

-- a word has no bit from here on
abbrev pub ends_at : ℕ → ℕ → Bool
ends_at shift word = nat_lt word (2 ^ shift)

-- a map's gate: written, the number of entries, private, locked
unfoldable pub gate_of : ℕ → Option GateWord
gate_of w =
    if bit_of 0 w && ends_at (COUNT_BITS + 3) w
    then Some (record { entries = field_of 1 COUNT_BITS w; is_private = bit_of (COUNT_BITS + 1) w; is_locked = bit_of (COUNT_BITS + 2) w })
    else None

-- a map's bits: unstable, deprecated
unfoldable pub map_bits_of : ℕ → Option MapBits
map_bits_of w =
    if ends_at 2 w
    then Some (record { unstable = bit_of 0 w; deprecated = bit_of 1 w })
    else None

-- a map's array: owned, capacity
unfoldable pub array_of : ℕ → Option ArrayWord
array_of w =
    if ends_at (COUNT_BITS + 1) w
    then Some (record { owner = bit_of 0 w; capacity = field_of 1 COUNT_BITS w })
    else None

-- the key of an entry or a link: written, accessor, attributes, name
unfoldable pub key_of : ℕ → Option KeyWord
key_of w =
    if bit_of 0 w && ends_at (ATTRIBUTE_BITS + NAME_BITS + 2) w
    then Some (record { is_accessor = bit_of 1 w; attributes = field_of 2 ATTRIBUTE_BITS w; name = field_of (ATTRIBUTE_BITS + 2) NAME_BITS w })
    else None

-- an object's root word: is or was a prototype, its root map or none
unfoldable pub root_of : ℕ → Option RootWord
root_of w =
    if ends_at (NUMBER_BITS + 1) w
    then Some (record { is_proto = bit_of 0 w; map = one_less (field_of 1 NUMBER_BITS w) })
    else None

-- an object's store: capacity, its first slot or none
unfoldable pub store_of : ℕ → Option StoreWord
store_of w =
    if ends_at (COUNT_BITS + SLOT_BITS) w
    then Some (record { capacity = field_of 0 COUNT_BITS w; first = one_less (field_of COUNT_BITS SLOT_BITS w) })
    else None

-- a validity cell: written, invalid, its object
unfoldable pub cell_of : ℕ → Option CellWord
cell_of w =
    if bit_of 0 w && ends_at (NUMBER_BITS + 2) w
    then Some (record { invalid = bit_of 1 w; object = field_of 2 NUMBER_BITS w })
    else None

-- a number or none
unfoldable pub number_of : ℕ → Option NumberWord
number_of w = if nat_le w (2 ^ NUMBER_BITS) then Some (record { number = one_less w }) else None

-- a number or none, of which either was written
unfoldable pub settled_of : ℕ → Option SettledWord
settled_of w =
    if nat_le 1 w && nat_le w (2 ^ NUMBER_BITS + 1)
    then Some (record { number = one_less (w - 1) })
    else None
