-- Digits and their value.
use Rattle.std.specs.Prelude.{ℕ, ◌+◌, ◌-◌, ◌*◌, Bool, true, false, not, ◌&&◌, List, [], ◌∷◌, nat_le, ◌==◌}

-- there is a byte, and no zero in front of another
abbrev pub begins_plainly : List ℕ → Bool
begins_plainly [] = false
begins_plainly (byte ∷ []) = true
begins_plainly (byte ∷ next ∷ bytes) = not (byte == 48)

-- each byte is a digit
abbrev pub all_digits : List ℕ → Bool
all_digits [] = true
all_digits (byte ∷ bytes) = (nat_le 48 byte && nat_le byte 57) && all_digits bytes

-- the number that the digits write behind those of n
abbrev pub value_after : ℕ → List ℕ → ℕ
value_after n [] = n
value_after n (byte ∷ bytes) = value_after (10 * n + (byte - 48)) bytes
