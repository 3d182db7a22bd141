-- One more line of a log is counted.
use Rattle.std.proofs.Common.{◌≡◌, ◌<◌, ◌+◌, ◌^◌, ℕ, Bool, List, [], ◌∷◌, ◌++◌, length, take, get_or, cond, ap, ◌∙◌, add-zero, arith}
use Rattle.std.proofs.lemmas.List.{take_more, length-take-le}
use Rattle.std.proofs.lemmas.List.Sums.{sum_by-append, count_by-le-length}
use Rattle.hc_report.specs.declared.line.Line.{Line}
use Rattle.hc_report.specs.declared.line.Line.TheVariants.{Hit, Cache, Slow, Install, Refuse, NoPlan, Discard}
use Rattle.hc_report.specs.Summary.{is_hit, is_cache, is_slow, is_install, is_refusal, is_no_plan, is_discard, count_of, tally_of, tallied, HasRoom}

count_more : (kind : Line → Bool) (lines : List (ℕ × Line)) (at : ℕ) (line : Line) → count_of kind (lines ++ (at, line) ∷ []) ≡ count_of kind lines + cond (kind line) 1 0
count_more kind lines at line =
    omega (arith, sum_by-append (λ (entry : ℕ × Line). cond (kind entry.1) 1 0) lines ((at, line) ∷ []))

tally_more : (lines : List (ℕ × Line)) (at : ℕ) (line : Line) → tally_of (lines ++ (at, line) ∷ []) ≡ tallied (tally_of lines) line
tally_more lines at (Hit site case) = simp (count_more, add-zero)
tally_more lines at (Cache site) = simp (count_more, add-zero)
tally_more lines at (Slow site) = simp (count_more, add-zero)
tally_more lines at (Install job site) = simp (count_more, add-zero)
tally_more lines at (Refuse job dep) = simp (count_more, add-zero)
tally_more lines at (NoPlan job why) = simp (count_more, add-zero)
tally_more lines at (Discard site dep) = simp (count_more, add-zero)

-- the step of a loop over the places of a log
pub tally_next : (lines : List (ℕ × Line)) (i : ℕ) (d : ℕ × Line) → i < length lines → tally_of (take (i + 1) lines) ≡ tallied (tally_of (take i lines)) (get_or lines i d).1
tally_next lines i d there =
    ap tally_of (take_more lines i d there) ∙ tally_more (take i lines) (get_or lines i d).0 (get_or lines i d).1

few : (kind : Line → Bool) (lines : List (ℕ × Line)) (i : ℕ) → i < length lines → length lines < 2 ^ 64 → count_of kind (take i lines) + 1 < 2 ^ 64
few kind lines i there fits =
    omega (arith, count_by-le-length (λ (entry : ℕ × Line). kind entry.1) (take i lines), length-take-le i lines (omega arith))

pub room_for_next : (lines : List (ℕ × Line)) (i : ℕ) → i < length lines → length lines < 2 ^ 64 → HasRoom (tally_of (take i lines))
room_for_next lines i there fits = record {
  hits = few is_hit lines i there fits;
  caches = few is_cache lines i there fits;
  slows = few is_slow lines i there fits;
  installs = few is_install lines i there fits;
  refusals = few is_refusal lines i there fits;
  noplans = few is_no_plan lines i there fits;
  discards = few is_discard lines i there fits;
}
