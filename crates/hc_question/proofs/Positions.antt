-- Reads of one position, and reads that fit a trail.
use Rattle.std.proofs.Common.{◌≡◌, ◌≤◌, ℕ, Bool, true, false, List, [], ◌∷◌, refl, sym, ap, ◌∙◌, subst, arith}
use Rattle.std.specs.Prelude.{if◌then◌else◌, ◌==◌, nat_lt}
use Rattle.hc_board.specs.Trail.{Access, word_at}
use Rattle.hc_board.specs.Fits.{AreOf, ReadsFit}
use Rattle.hc_layout.specs.Shape.{items_of}
use Rattle.hc_layout.specs.declared.shape.Shape.{Shape}
use Rattle.hc_heap.specs.Kinds.{region_of}
use Rattle.hc_broker.specs.Peeks.{index_asked}
use Rattle.hc_question.specs.Ask.{Ask, tell, stop, look, heard, asked_after}
use Rattle.hc_question.specs.Laws.{answered_by, OnePositionAnswers, IsSafe, FitsNeverStop}

-- what is left of a look, by whether the read is at its index and the item on the board
left_of_look : (used there : Bool) → Ask → Ask → Ask
left_of_look used there on back = if used then (if there then on else stop) else back

module _ (s : Shape) (words : ℕ → ℕ) where
  one-answer : (used there : Bool) (on back : Ask) → (used ≡ true → answered_by s words back ≡ (if there then answered_by s words on else stop))
      → answered_by s words (if used then (if there then on else stop) else back) ≡ answered_by s words back
  unfolding answered_by
  one-answer true true on back h = sym (h refl)
  one-answer true false on back h = sym (h refl)
  one-answer false there on back h = refl

  heard-answers : (ask : Ask) (read : Access) → words read.0 ≡ read.1 → answered_by s words (heard s ask read) ≡ answered_by s words ask
  unfolding answered_by heard
  heard-answers (tell cases skips) read h = refl
  heard-answers stop read h = refl
  heard-answers (look kind item next) read h =
      one-answer (read.0 == index_asked s kind item) (nat_lt item (items_of s (region_of kind))) (next read.1) (look kind item next)
      (λ (e : (read.0 == index_asked s kind item) ≡ true). let i : read.0 ≡ index_asked s kind item = grind (arith, e) in
      ap (λ (w : ℕ). if nat_lt item (items_of s (region_of kind)) then answered_by s words (next w) else stop) (ap words (sym i) ∙ h))

pub position-answers : OnePositionAnswers
unfolding AreOf asked_after
position-answers s width trail position [] ask h = refl
position-answers s width trail position (read ∷ reads) ask h =
    position-answers s width trail position reads (heard s ask read) h.1 ∙ heard-answers s (word_at width trail position) ask read h.0

module _ (s : Shape) (width : ℕ) (trail : List Access) where
  later-safe : (from later upto : ℕ) (ask : Ask) → from ≤ later → IsSafe s width trail from upto ask → IsSafe s width trail later upto ask
  unfolding IsSafe
  later-safe from later upto (tell cases skips) h k = tt
  later-safe from later upto stop h k = k
  later-safe from later upto (look kind item next) h k = (k.0, λ position a b. k.1 position (omega (arith, h, a)) b)

  one-safe : (position upto : ℕ) (used there : Bool) (on back : Ask) → (used ≡ true → (there ≡ true) × IsSafe s width trail position upto on) → IsSafe s width trail position upto back
      → IsSafe s width trail position upto (if used then (if there then on else stop) else back)
  one-safe position upto true true on back h k = (h refl).1
  one-safe position upto true false on back h k = let e : false ≡ true = (h refl).0 in grind (arith, e)
  one-safe position upto false there on back h k = k

  heard-safe : (position upto : ℕ) (ask : Ask) (read : Access) → position ≤ upto → word_at width trail position read.0 ≡ read.1 → IsSafe s width trail position upto ask
      → IsSafe s width trail position upto (heard s ask read)
  unfolding IsSafe heard
  heard-safe position upto (tell cases skips) read p h k = tt
  heard-safe position upto stop read p h k = k
  heard-safe position upto (look kind item next) read p h k =
      one-safe position upto (read.0 == index_asked s kind item) (nat_lt item (items_of s (region_of kind))) (next read.1) (look kind item next)
      (λ (e : (read.0 == index_asked s kind item) ≡ true). let i : read.0 ≡ index_asked s kind item = grind (arith, e) in
      let w : word_at width trail position (index_asked s kind item) ≡ read.1 = ap (word_at width trail position) (sym i) ∙ h in
      (k.0, subst (λ (x : ℕ). IsSafe s width trail position upto (next x)) w (k.1 position (omega arith) p)))
      k

  fits-from : (from upto : ℕ) (reads : List Access) → ReadsFit width trail from upto reads → from ≤ upto
  unfolding ReadsFit
  fits-from from upto [] h = h
  fits-from from upto (read ∷ reads) h = let later : h.0 ≤ upto = fits-from h.0 upto reads h.3 in let first : from ≤ h.0 = h.1 in omega (arith, first, later)

  fits-safe : (from upto : ℕ) (reads : List Access) (ask : Ask) → IsSafe s width trail from upto ask → ReadsFit width trail from upto reads → IsSafe s width trail upto upto (asked_after s reads ask)
  unfolding ReadsFit asked_after
  fits-safe from upto [] ask k h = later-safe from upto upto ask h k
  fits-safe from upto (read ∷ reads) ask k h =
      fits-safe h.0 upto reads (heard s ask read)
      (heard-safe h.0 upto ask read (fits-from h.0 upto reads h.3) h.2 (later-safe from h.0 upto ask h.1 k))
      h.3

  not-stop : (upto : ℕ) (ask : Ask) → IsSafe s width trail upto upto ask → ask ≡ stop → ⊥
  unfolding IsSafe
  not-stop upto ask k e = rw e at k

pub fits-goes-on : FitsNeverStop
fits-goes-on s width trail from upto reads ask k h e = not-stop s width trail upto (asked_after s reads ask) (fits-safe s width trail from upto reads ask k h) e
