-- Values as words.
use Rattle.std.specs.Prelude.{ℕ, ℤ, pos, ◌-ℤ◌, ◌+◌, ◌-◌, ◌/◌, ◌%◌, ◌^◌, ◌<◌, ◌==◌, ◌&&◌, true, false, nat_lt, nat_le, if◌then◌else◌, Option, Some, None}
use Rattle.hc_value.specs.declared.value.Value.{Value}
use Rattle.hc_value.specs.declared.value.Value.TheVariants.{Undefined, Null, Bool as Boolean, Int, Text, Obj}
use Rattle.hc_value.specs.declared.word.TheConstants.{TEXT_LIMIT, NUMBER_LIMIT}

-- a value may be given to a word: its text or object is in range
abbrev pub IsInRange : Value → Type 0
IsInRange (Text t) = t < TEXT_LIMIT
IsInRange (Obj o) = o < NUMBER_LIMIT
IsInRange _ = Unit {0}

-- the integer of a wide word: the word less 2 ^ 53
unfoldable pub unwide_of : ℕ → Option ℤ
unwide_of w = if nat_lt 0 w && nat_lt w (2 ^ 54) then Some (pos w -ℤ pos (2 ^ 53)) else None

-- the low three bits of a word
abbrev pub tag_of : ℕ → ℕ
tag_of w = w % 8

-- the bits above the tag
abbrev pub payload_of : ℕ → ℕ
payload_of w = w / 8

-- the values that are constants of the language, by their payload
abbrev pub constant_of : ℕ → Option Value
constant_of n =
    if n == 0 then Some Undefined else (
    if n == 1 then Some Null else (
    if n == 2 then Some (Boolean false) else (
    if n == 3 then Some (Boolean true) else None)))

-- the integer of a wide word, as a value
abbrev pub integer_of : Option ℤ → Option Value
integer_of None = None
integer_of (Some z) = Some (Int z)

-- the value of a tagged word
unfoldable pub untagged_of : ℕ → Option Value
untagged_of w =
    if tag_of w == 1 then integer_of (unwide_of (payload_of w)) else (
    if tag_of w == 2 then (if nat_lt (payload_of w) TEXT_LIMIT then Some (Text (payload_of w)) else None) else (
    if tag_of w == 3 then (if nat_lt (payload_of w) NUMBER_LIMIT then Some (Obj (payload_of w)) else None) else (
    if tag_of w == 4 then constant_of (payload_of w) else None)))

-- 0 stands for none, and one more for a number
abbrev pub one_more : Option ℕ → ℕ
one_more None = 0
one_more (Some n) = n + 1

-- what a number stands for: 0 for none, and else one less
abbrev pub one_less : ℕ → Option ℕ
one_less n = if n == 0 then None else Some (n - 1)

-- the getter and the setter of a pair word
unfoldable pub unpair_of : ℕ → Option (Option ℕ × Option ℕ)
unpair_of w =
    if tag_of w == 5 && nat_le (payload_of w % 2 ^ 21) NUMBER_LIMIT && nat_le (payload_of w / 2 ^ 21) NUMBER_LIMIT
    then Some (one_less (payload_of w % 2 ^ 21), one_less (payload_of w / 2 ^ 21))
    else None
