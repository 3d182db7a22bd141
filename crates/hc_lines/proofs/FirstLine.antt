-- The first line of what lies ahead, and the lines behind it.
use Rattle.std.proofs.Common.{◌≡◌, ℕ, zero, suc, ◌<◌, ◌≤◌, List, [], ◌∷◌, ◌++◌, take, drop, length, sym, ap, ◌∙◌, arith, Option, Some, None}
use Rattle.std.proofs.lemmas.List.{append-nil, take_all, drop_all}
use Rattle.hc_lines.specs.Lines.{lines_of, IsUnbroken, IsWholeLine, IsLine, ahead, TakesLines}
use Rattle.hc_lines.specs.Outside.{TakesBytes, IsAtEnd}
use Rattle.hc_lines.proofs.Lines.{behind_line, lines_of-unbroken}

-- a whole line isn't empty
pub whole_some : (n : ℕ) (bytes : List ℕ) → IsWholeLine (take n bytes) → 0 < n
whole_some zero [] whole = absurd whole
whole_some zero (byte ∷ bytes) whole = absurd whole
whole_some (suc n) bytes whole = omega arith

-- a whole line is a line, and so are unbroken bytes
pub whole_line : (bytes : List ℕ) → IsWholeLine bytes → IsLine bytes
whole_line [] whole = absurd whole
whole_line (byte ∷ []) whole = tt
whole_line (byte ∷ next ∷ bytes) whole = (whole.0, whole_line (next ∷ bytes) whole.1)

unbroken_line : (bytes : List ℕ) → IsUnbroken bytes → IsLine bytes
unbroken_line [] u = tt
unbroken_line (byte ∷ []) u = tt
unbroken_line (byte ∷ next ∷ bytes) u = (u.0, unbroken_line (next ∷ bytes) u.1)

pub all_line : (n : ℕ) (bytes : List ℕ) → n ≡ length bytes → IsUnbroken bytes → IsLine (take n bytes)
all_line n bytes all u = rw (take_all n bytes (omega (arith, all))) (unbroken_line bytes u)

-- a line that ends with its newline
pub takes_whole : (n : ℕ) (pending : List ℕ) (left : Option (List ℕ)) → IsWholeLine (take n pending) → TakesLines (ahead pending left) (ahead (drop n pending) left) (take n pending ∷ [])
takes_whole n pending None whole = tt
takes_whole n pending (Some left) whole = behind_line n pending left whole

-- the last line, which has no newline
last_line : (pending : List ℕ) (n : ℕ) → 0 < n → n ≡ length pending → IsUnbroken pending → lines_of (pending ++ []) ≡ take n pending ∷ lines_of (drop n pending ++ [])
last_line [] n some e u = absurd (omega (arith, e))
last_line (byte ∷ bytes) n some e u =
    let all : length (byte ∷ bytes) ≤ n = omega (arith, e) in
    rw (append-nil bytes, take_all n (byte ∷ bytes) all, drop_all n (byte ∷ bytes) all) (lines_of-unbroken byte bytes u)

pub takes_last : (n : ℕ) (pending : List ℕ) (left : Option (List ℕ)) → 0 < n → n ≡ length pending → IsUnbroken pending → IsAtEnd left → TakesLines (ahead pending left) (ahead (drop n pending) left) (take n pending ∷ [])
takes_last n pending None some all u end = tt
takes_last n pending (Some left) some all u end = rw end (last_line pending n some all u)

-- a read that takes nothing leaves the end where it is
empty_behind : (piece now : List ℕ) → [] ≡ piece ++ now → now ≡ []
empty_behind [] now e = sym e
empty_behind (byte ∷ piece) now e = absurd (omega (arith, ap length e))

pub stays_at_end : (before : Option (List ℕ)) (piece : List ℕ) (now : Option (List ℕ)) → IsAtEnd before → TakesBytes before piece now → IsAtEnd now
stays_at_end None piece None end taken = tt
stays_at_end None piece (Some now) end taken = absurd taken
stays_at_end (Some before) piece None end taken = absurd taken
stays_at_end (Some before) piece (Some now) end taken = empty_behind piece now (sym end ∙ taken)
