-- A line without its newline.
use Rattle.std.proofs.Common.{◌≡◌, ◌≢◌, ℕ, zero, suc, ◌-◌, List, [], ◌∷◌, length, arith, false, ◌==◌}
use Rattle.std.specs.Prelude.{slice_index}
use Rattle.std.proofs.lemmas.List.{length-take-le}
use Rattle.std.proofs.lemmas.Bool.{ne_eqb}
use Rattle.hc_lines.specs.Lines.{IsUnbroken, IsWholeLine, content}

-- a whole line ends with its newline
whole_ends : (line : List ℕ) → IsWholeLine line → slice_index line (length line - 1) ≡ 10
whole_ends [] whole = absurd whole
whole_ends (byte ∷ []) whole = whole
whole_ends (byte ∷ next ∷ bytes) whole =
    let e : length (byte ∷ next ∷ bytes) - 1 ≡ suc (length (next ∷ bytes) - 1) = omega arith in rw e (whole_ends (next ∷ bytes) whole.1)

-- so that it has one byte more than its content
pub whole_content : (line : List ℕ) → IsWholeLine line → length (content line) ≡ length line - 1
whole_content line whole = rw (whole_ends line whole) (length-take-le (length line - 1) line (omega arith))

-- no byte of unbroken bytes is a newline
unbroken_at : (bytes : List ℕ) (i : ℕ) → IsUnbroken bytes → slice_index bytes i ≢ 10
unbroken_at [] i u e = absurd (let none : 0 ≡ 10 = e in omega arith)
unbroken_at (byte ∷ bytes) zero u e = u.0 e
unbroken_at (byte ∷ bytes) (suc i) u e = unbroken_at bytes i u.1 e

-- and they are their own content
pub unbroken_content : (bytes : List ℕ) → IsUnbroken bytes → content bytes ≡ bytes
unbroken_content bytes u = let e : (slice_index bytes (length bytes - 1) == 10) ≡ false = ne_eqb (slice_index bytes (length bytes - 1)) 10 (unbroken_at bytes (length bytes - 1) u) in rw e
