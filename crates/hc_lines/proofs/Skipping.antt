-- The rest of a line that is too long is read and not kept.
use Rattle.std.proofs.Common.{◌≡◌, ℕ, zero, suc, ◌+◌, ◌-◌, ◌<◌, ◌≤◌, List, [], ◌∷◌, ◌++◌, take, drop, length, refl, ap, ◌∙◌, arith, append_assoc, length-append, Option, Some, None}
use Rattle.std.proofs.lemmas.List.{append-nil, length-take-le}
use Rattle.std.proofs.Math.Seq.{take-append-add}
use Rattle.hc_lines.specs.Lines.{lines_of, IsUnbroken, IsWholeLine, ahead}
use Rattle.hc_lines.specs.Outside.{TakesBytes, IsAtEnd}
use Rattle.hc_lines.specs.Fetch.{LiesTooFar, BeginsLong, LosesPart}
use Rattle.hc_lines.specs.declared.limits.TheConstants.{MAX_BYTES, MAX_LINE}
use Rattle.hc_lines.proofs.Breaks.{unbroken-append, whole-append}
use Rattle.hc_lines.proofs.Content.{whole_content, unbroken_content}
use Rattle.hc_lines.proofs.Lines.{behind_line, lines_of-unbroken, unbroken_too_far}

-- so many bytes were read, none a newline
pub record HasSkipped (before now : Option (List ℕ)) (passed : ℕ) : Type 0 where
  pub part : List ℕ
  pub unbroken : IsUnbroken part
  pub size : length part ≡ passed
  pub same : before ≡ ahead part now

-- a piece behind what was read already
ahead_more : (part piece : List ℕ) (before now : Option (List ℕ)) → TakesBytes before piece now → ahead part before ≡ ahead (part ++ piece) now
ahead_more part piece None None taken = refl
ahead_more part piece None (Some now) taken = absurd taken
ahead_more part piece (Some before) None taken = absurd taken
ahead_more part piece (Some before) (Some now) taken = rw (taken, append_assoc) refl

pub skipped_none : (buffer : List ℕ) (left : Option (List ℕ)) → IsUnbroken buffer → HasSkipped (ahead buffer left) left (length buffer)
skipped_none buffer left u = record { part = buffer; unbroken = u; size = refl; same = refl }

pub skipped_more : (before mid now : Option (List ℕ)) (passed n : ℕ) (piece : List ℕ) → HasSkipped before mid passed → TakesBytes mid piece now → IsUnbroken piece → length piece ≡ n → HasSkipped before now (passed + n)
skipped_more before mid now passed n piece so_far taken u size = record {
  part = so_far.part ++ piece;
  unbroken = unbroken-append so_far.part piece so_far.unbroken u;
  size = omega (arith, so_far.size, size, length-append so_far.part piece);
  same = so_far.same ∙ ahead_more so_far.part piece mid now taken;
}

-- what was skipped is lost
pub skipped_lost : (before now : Option (List ℕ)) (passed : ℕ) → HasSkipped before now passed → LosesPart before now
skipped_lost before now passed so_far = (so_far.part, so_far.unbroken, so_far.same)

-- a newline in the piece ends the line
record EndsLine (before : List ℕ) (size : ℕ) : Type 0 where
  line : List ℕ
  rest : List (List ℕ)
  split : lines_of before ≡ line ∷ rest
  whole : IsWholeLine line
  long : length line ≡ size

ends_line : (part piece now : List ℕ) (i : ℕ) → IsUnbroken part → i < length piece → IsWholeLine (take (i + 1) piece) → EndsLine ((part ++ piece) ++ now) (length part + (i + 1))
ends_line part piece now i u here whole =
    let joined : take (length part + (i + 1)) (part ++ piece) ≡ part ++ take (i + 1) piece = take-append-add part piece (i + 1) in
    let all : IsWholeLine (take (length part + (i + 1)) (part ++ piece)) = rw joined (whole-append part (take (i + 1) piece) u whole) in
    record {
      line = take (length part + (i + 1)) (part ++ piece);
      rest = lines_of (drop (length part + (i + 1)) (part ++ piece) ++ now);
      split = behind_line (length part + (i + 1)) (part ++ piece) now all;
      whole = all;
      long = length-take-le (length part + (i + 1)) (part ++ piece) (omega (arith, length-append part piece));
    }

-- a line that ends within the bytes of a script, or past them
long_line : (used size : ℕ) (before : List ℕ) → EndsLine before size → MAX_LINE + 1 < size → used + size ≤ MAX_BYTES → BeginsLong used (Some before)
long_line used size before found long within =
    (found.line, found.rest, found.split, omega (arith, found.long), omega (arith, whole_content found.line found.whole, found.long))

far_line : (used size : ℕ) (before : List ℕ) → EndsLine before size → MAX_BYTES < used + size → LiesTooFar used (Some before)
far_line used size before found far = (found.line, found.rest, found.split, omega (arith, found.long))

pub skipped_long : (before mid now : Option (List ℕ)) (used passed i : ℕ) (piece : List ℕ) → HasSkipped before mid passed → TakesBytes mid piece now → i < length piece → IsWholeLine (take (i + 1) piece) → MAX_LINE < passed → used + (passed + (i + 1)) ≤ MAX_BYTES → BeginsLong used before
skipped_long before mid None used passed i piece so_far taken here whole long within =
    let e : before ≡ None = so_far.same ∙ ahead_more so_far.part piece mid None taken in rw e tt
skipped_long before mid (Some now) used passed i piece so_far taken here whole long within =
    let e : before ≡ Some ((so_far.part ++ piece) ++ now) = so_far.same ∙ ahead_more so_far.part piece mid (Some now) taken in
    rw e (long_line used (length so_far.part + (i + 1)) _ (ends_line so_far.part piece now i so_far.unbroken here whole) (omega (arith, so_far.size)) (omega (arith, so_far.size)))

pub skipped_far : (before mid now : Option (List ℕ)) (used passed i : ℕ) (piece : List ℕ) → HasSkipped before mid passed → TakesBytes mid piece now → i < length piece → IsWholeLine (take (i + 1) piece) → MAX_BYTES < used + (passed + (i + 1)) → LiesTooFar used before
skipped_far before mid None used passed i piece so_far taken here whole far =
    let e : before ≡ None = so_far.same ∙ ahead_more so_far.part piece mid None taken in rw e tt
skipped_far before mid (Some now) used passed i piece so_far taken here whole far =
    let e : before ≡ Some ((so_far.part ++ piece) ++ now) = so_far.same ∙ ahead_more so_far.part piece mid (Some now) taken in
    rw e (far_line used (length so_far.part + (i + 1)) _ (ends_line so_far.part piece now i so_far.unbroken here whole) (omega (arith, so_far.size)))

-- the line goes on past the bytes of a script
pub skipped_past : (before now : Option (List ℕ)) (used passed : ℕ) → HasSkipped before now passed → used ≤ MAX_BYTES → MAX_BYTES - used < passed → LiesTooFar used before
skipped_past before now used passed so_far h far = rw so_far.same (unbroken_too_far used so_far.part now h so_far.unbroken (omega (arith, so_far.size)))

-- the input ends within the line
last_long : (used : ℕ) (part : List ℕ) → IsUnbroken part → MAX_LINE < length part → used + length part ≤ MAX_BYTES → BeginsLong used (Some part)
last_long used [] u long within = absurd (omega arith)
last_long used (byte ∷ bytes) u long within =
    let e = unbroken_content (byte ∷ bytes) u in
    (byte ∷ bytes, [], lines_of-unbroken byte bytes u, within, rw e long)

pub skipped_end : (before now : Option (List ℕ)) (used passed : ℕ) → HasSkipped before now passed → IsAtEnd now → MAX_LINE < passed → used + passed ≤ MAX_BYTES → BeginsLong used before
skipped_end before None used passed so_far end long within = rw so_far.same tt
skipped_end before (Some now) used passed so_far end long within =
    let e : before ≡ Some so_far.part = so_far.same ∙ rw (end, append-nil so_far.part) refl in
    rw e (last_long used so_far.part so_far.unbroken (omega (arith, so_far.size)) (omega (arith, so_far.size)))

-- the front of a buffer that a read filled is the front of what was read
read_piece : (n len : ℕ) (into more : List ℕ) → n ≤ len → n ≤ length into → take n (take len (into ++ more)) ≡ take n into
read_piece zero len into more small here = refl
read_piece (suc n) len [] more small here = absurd (omega arith)
read_piece (suc n) zero (byte ∷ into) more small here = absurd (omega arith)
read_piece (suc n) (suc len) (byte ∷ into) more small here = ap (λ bytes. byte ∷ bytes) (read_piece n len into more (omega arith) (omega arith))

pub read_front : (n len : ℕ) (buffer into more : List ℕ) → buffer ≡ take len (into ++ more) → n ≤ len → n ≤ length into → take n buffer ≡ take n into
read_front n len buffer into more e small here = rw e (read_piece n len into more small here)
