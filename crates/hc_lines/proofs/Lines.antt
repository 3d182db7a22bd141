-- The first line of what lies ahead.
use Rattle.std.proofs.Common.{◌≡◌, ◌≢◌, ℕ, suc, ◌+◌, ◌-◌, ◌<◌, ◌≤◌, List, [], ◌∷◌, ◌++◌, take, drop, length, refl, sym, ap, ◌∙◌, arith, append_assoc, Option, Some, None, false, ◌==◌}
use Rattle.std.proofs.lemmas.List.{take-append-drop, length-take-le}
use Rattle.std.proofs.lemmas.Bool.{ne_eqb}
use Rattle.hc_lines.specs.Lines.{onto_first, lines_of, IsUnbroken, IsWholeLine, ahead}
use Rattle.hc_lines.specs.Fetch.{LiesTooFar}
use Rattle.hc_lines.specs.declared.limits.TheConstants.{MAX_BYTES}

-- a byte that isn't a newline begins the first line
onto : (byte : ℕ) (bytes : List ℕ) → byte ≢ 10 → lines_of (byte ∷ bytes) ≡ onto_first byte (lines_of bytes)
onto byte bytes other = let e : (byte == 10) ≡ false = ne_eqb byte 10 other in rw e

-- a whole line is the first line
pub lines_of-whole : (line rest : List ℕ) → IsWholeLine line → lines_of (line ++ rest) ≡ line ∷ lines_of rest
lines_of-whole [] rest whole = absurd whole
lines_of-whole (byte ∷ []) rest whole = rw whole
lines_of-whole (byte ∷ next ∷ line) rest whole = onto byte (next ∷ line ++ rest) whole.0 ∙ ap (onto_first byte) (lines_of-whole (next ∷ line) rest whole.1)

-- unbroken bytes are one line
pub lines_of-unbroken : (byte : ℕ) (bytes : List ℕ) → IsUnbroken (byte ∷ bytes) → lines_of (byte ∷ bytes) ≡ (byte ∷ bytes) ∷ []
lines_of-unbroken byte [] u = onto byte [] u.0
lines_of-unbroken byte (next ∷ bytes) u = onto byte (next ∷ bytes) u.0 ∙ ap (onto_first byte) (lines_of-unbroken next bytes u.1)

-- how long the first line is
abbrev pub first_length : List (List ℕ) → ℕ
first_length [] = 0
first_length (line ∷ lines) = length line

first_length-onto : (byte : ℕ) (lines : List (List ℕ)) → first_length (onto_first byte lines) ≡ suc (first_length lines)
first_length-onto byte [] = refl
first_length-onto byte (line ∷ lines) = refl

-- unbroken bytes stand within the first line
pub unbroken_first : (bytes rest : List ℕ) → IsUnbroken bytes → length bytes ≤ first_length (lines_of (bytes ++ rest))
unbroken_first [] rest u = omega arith
unbroken_first (byte ∷ bytes) rest u = rw (onto byte (bytes ++ rest) u.0, first_length-onto byte (lines_of (bytes ++ rest))) (omega (arith, unbroken_first bytes rest u.1))

-- a first line that is too long
too_long : (used : ℕ) (before : List ℕ) (lines : List (List ℕ)) → lines_of before ≡ lines → used ≤ MAX_BYTES → MAX_BYTES < used + first_length lines → LiesTooFar used (Some before)
too_long used before [] e h long = absurd (omega arith)
too_long used before (line ∷ rest) e h long = (line, rest, e, long)

-- a whole line at the front, and what stands behind it
pub behind_line : (n : ℕ) (buffer left : List ℕ) → IsWholeLine (take n buffer) → lines_of (buffer ++ left) ≡ take n buffer ∷ lines_of (drop n buffer ++ left)
behind_line n buffer left whole =
    let e : buffer ++ left ≡ take n buffer ++ (drop n buffer ++ left) = ap (λ bytes. bytes ++ left) (sym (take-append-drop n buffer)) ∙ append_assoc (take n buffer) (drop n buffer) left in
    ap lines_of e ∙ lines_of-whole (take n buffer) (drop n buffer ++ left) whole

-- a whole line that is too long
pub whole_too_far : (used n : ℕ) (buffer : List ℕ) (left : Option (List ℕ)) → used ≤ MAX_BYTES → n ≤ length buffer → IsWholeLine (take n buffer) → MAX_BYTES - used < n → LiesTooFar used (ahead buffer left)
whole_too_far used n buffer None h there whole long = tt
whole_too_far used n buffer (Some left) h there whole long =
    (take n buffer, lines_of (drop n buffer ++ left), behind_line n buffer left whole, omega (arith, length-take-le n buffer there))

-- unbroken bytes that are too long
pub unbroken_too_far : (used : ℕ) (buffer : List ℕ) (left : Option (List ℕ)) → used ≤ MAX_BYTES → IsUnbroken buffer → MAX_BYTES - used < length buffer → LiesTooFar used (ahead buffer left)
unbroken_too_far used buffer None h u long = tt
unbroken_too_far used buffer (Some left) h u long = too_long used (buffer ++ left) (lines_of (buffer ++ left)) refl h (omega (arith, unbroken_first buffer left u))
