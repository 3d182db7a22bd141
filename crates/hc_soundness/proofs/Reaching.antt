-- How reads bring a question to its answer: each look at a word that was there at some position, none before that of the look before.
use Rattle.std.proofs.Common.{◌≡◌, ◌≤◌, ℕ, Bool, true, false, List, [], ◌∷◌, refl, sym, ap, ◌∙◌, subst, arith}
use Rattle.std.specs.Prelude.{if◌then◌else◌, ◌==◌, nat_lt}
use Rattle.hc_board.specs.Trail.{Access, word_at}
use Rattle.hc_board.specs.Fits.{AreOf, ReadsFit}
use Rattle.hc_layout.specs.Shape.{items_of}
use Rattle.hc_layout.specs.declared.shape.Shape.{Shape}
use Rattle.hc_heap.specs.Kinds.{region_of}
use Rattle.hc_plan.specs.declared.case.Case.{Case}
use Rattle.hc_plan.specs.declared.skip.Skip.{Skip}
use Rattle.hc_broker.specs.Peeks.{index_asked}
use Rattle.hc_question.specs.Ask.{Ask, tell, stop, look, heard, asked_after}

module _ (s : Shape) (width : ℕ) (stores : List Access) (upto : ℕ) (cs : List Case) where
  -- words that were there, one after another, answer a question by these cases
  abbrev pub Reaches : ℕ → Ask → Type 0
  Reaches from (tell cases skips) = cases ≡ cs
  Reaches from stop = ⊥
  Reaches from (look kind item next) =
      (nat_lt item (items_of s (region_of kind)) ≡ true)
      × ((q : ℕ) × (from ≤ q) × (q ≤ upto) × Reaches q (next (word_at width stores q (index_asked s kind item))))

  fits-on : (from : ℕ) (reads : List Access) → ReadsFit width stores from upto reads → from ≤ upto
  unfolding ReadsFit
  fits-on from [] h = h
  fits-on from (read ∷ reads) h = let later : h.0 ≤ upto = fits-on h.0 reads h.3 in let first : from ≤ h.0 = h.1 in omega (arith, first, later)

  used-look : (from p : ℕ) (there : Bool) (on rest : Ask) → Reaches p (if there then on else stop) → (there ≡ true) × Reaches p on
  used-look from p true on rest h = (refl, h)
  used-look from p false on rest h = absurd h

  one-look : (from p : ℕ) (ask : Ask) (read : Access) → from ≤ p → p ≤ upto → word_at width stores p read.0 ≡ read.1 → Reaches p (heard s ask read) → Reaches from ask
  unfolding heard
  one-look from p (tell cases skips) read le most is h = h
  one-look from p stop read le most is h = h
  one-look from p (look kind item next) read le most is h = by (read.0 == index_asked s kind item) refl h
    where
      by : (used : Bool) → (read.0 == index_asked s kind item) ≡ used
          → Reaches p (if used then (if nat_lt item (items_of s (region_of kind)) then next read.1 else stop) else look kind item next) → Reaches from (look kind item next)
      by true e h =
          let i : read.0 ≡ index_asked s kind item = grind (arith, e) in
          let on = used-look from p (nat_lt item (items_of s (region_of kind))) (next read.1) stop h in
          (on.0, (p, le, most, subst (λ (w : ℕ). Reaches p (next w)) (sym is ∙ ap (word_at width stores p) i) on.1))
      by false e h = let a = h.1.1 in (h.0, (h.1.0, omega (arith, le, a), h.1.2, h.1.3))

  -- reads that fit, and tell the cases
  pub fits-reach : (skips : List Skip) (reads : List Access) (from : ℕ) (ask : Ask) → ReadsFit width stores from upto reads → asked_after s reads ask ≡ tell cs skips → Reaches from ask
  unfolding ReadsFit asked_after
  fits-reach skips [] from ask h e = subst (Reaches from) (sym e) refl
  fits-reach skips (read ∷ reads) from ask h e =
      one-look from h.0 ask read h.1 (fits-on h.0 reads h.3) h.2 (fits-reach skips reads h.0 (heard s ask read) h.3 e)

-- reads of one position fit there
pub one-fits : (width : ℕ) (stores : List Access) (position : ℕ) (reads : List Access) → AreOf width stores position reads → ReadsFit width stores position position reads
unfolding AreOf ReadsFit
one-fits width stores position [] h = omega arith
one-fits width stores position (read ∷ reads) h = (position, omega arith, h.0, one-fits width stores position reads h.1)
