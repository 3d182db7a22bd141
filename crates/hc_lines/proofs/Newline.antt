-- The first newline, as a search for its byte finds it.
use Rattle.std.proofs.Common.{◌≡◌, ◌≢◌, ℕ, zero, suc, ◌+◌, ◌<◌, ◌≤◌, true, List, [], ◌∷◌, take, length, refl, add-one, arith, Option, Some, None, IfSome, IfNone, ◌==◌}
use Rattle.std.specs.Prelude.{slice_index}
use Rattle.std.proofs.lemmas.Bool.Decides.{nat_tests}
use Rattle.memchr.specs.Find.{IsFirstByte, is_byte}
use Rattle.hc_lines.specs.Lines.{IsUnbroken, IsWholeLine}
use Rattle.hc_lines.proofs.Breaks.{whole_behind}

is_newline : (byte : ℕ) → (byte == 10) ≡ true → byte ≡ 10
is_newline byte e = grind (arith, nat_tests)

is_other : (byte : ℕ) → ((byte == 10) ≡ true → ⊥) → byte ≢ 10
is_other byte differs e = differs (rw e refl)

unbroken_where_none : (bytes : List ℕ) → ((k : ℕ) → 0 ≤ k → k < length bytes → (slice_index bytes k == 10) ≡ true → ⊥) → IsUnbroken bytes
unbroken_where_none [] none = tt
unbroken_where_none (byte ∷ bytes) none =
    (is_other byte (none 0 (omega arith) (omega arith)), unbroken_where_none bytes (λ k low high. none (suc k) (omega arith) (omega arith)))

whole_at_first : (bytes : List ℕ) (k : ℕ) → k < length bytes → ((i : ℕ) → 0 ≤ i → i < k → (slice_index bytes i == 10) ≡ true → ⊥) → (slice_index bytes k == 10) ≡ true → IsWholeLine (take (suc k) bytes)
whole_at_first [] k there none here = absurd (omega arith)
whole_at_first (byte ∷ bytes) zero there none here = is_newline byte here
whole_at_first (byte ∷ bytes) (suc k) there none here =
    whole_behind byte (take (suc k) bytes) (is_other byte (none 0 (omega arith) (omega arith)))
    (whole_at_first bytes k (omega arith) (λ i low high. none (suc i) (omega arith) (omega arith)) here)

pub found_newline : (bytes : List ℕ) (found : Option ℕ) → IsFirstByte (is_byte 10) bytes found → IfSome found (λ i. IsWholeLine (take (i + 1) bytes))
found_newline bytes None none = tt
found_newline bytes (Some k) first = rw add-one (whole_at_first bytes k first.0.high first.0.before first.1)

pub newline_within : (bytes : List ℕ) (found : Option ℕ) → IsFirstByte (is_byte 10) bytes found → IfSome found (λ i. i < length bytes)
newline_within bytes None none = tt
newline_within bytes (Some k) first = first.0.high

pub no_newline : (bytes : List ℕ) (found : Option ℕ) → IsFirstByte (is_byte 10) bytes found → IfNone found (IsUnbroken bytes)
no_newline bytes None none = unbroken_where_none bytes none
no_newline bytes (Some k) first = tt
