-- Reads that fit.
use Rattle.std.proofs.Common.{◌≡◌, ℕ, ◌≤◌, List, [], ◌∷◌, ◌++◌, length, ◌∙◌, subst, arith}
use Rattle.hc_board.specs.Trail.{Access, word_at}
use Rattle.hc_board.specs.Fits.{ReadsFit, AreOf}
use Rattle.hc_board.proofs.Trails.{word-longer}

module _ (width : ℕ) (trail : List Access) where
  pub fits-bound : (from upto : ℕ) (reads : List Access) → ReadsFit width trail from upto reads → from ≤ upto
  unfolding ReadsFit
  fits-bound from upto [] f = f
  fits-bound from upto (read ∷ rest) f = let more = fits-bound f.0 upto rest f.3 in let low = f.1 in omega arith

  pub fits-wider : (from upto before after : ℕ) (reads : List Access) → before ≤ from → upto ≤ after → ReadsFit width trail from upto reads → ReadsFit width trail before after reads
  unfolding ReadsFit
  fits-wider from upto before after [] low high f = omega arith
  fits-wider from upto before after (read ∷ rest) low high f =
      let at = f.1 in (f.0, omega arith, f.2, fits-wider f.0 upto f.0 after rest (omega arith) high f.3)

  pub fits-append : (from middle upto : ℕ) (reads later : List Access) → ReadsFit width trail from middle reads → ReadsFit width trail middle upto later → ReadsFit width trail from upto (reads ++ later)
  unfolding ReadsFit
  fits-append from middle upto [] later f g = fits-wider middle upto from upto later f (omega arith) g
  fits-append from middle upto (read ∷ rest) later f g = (f.0, f.1, f.2, fits-append f.0 middle upto rest later f.3 g)

  pub fits-split : (from upto : ℕ) (reads later : List Access) → ReadsFit width trail from upto (reads ++ later) → (position : ℕ) × ReadsFit width trail from position reads × ReadsFit width trail position upto later
  unfolding ReadsFit
  fits-split from upto [] later f = (from, omega arith, f)
  fits-split from upto (read ∷ rest) later f =
      let s = fits-split f.0 upto rest later f.3 in (s.0, (f.0, f.1, f.2, s.1), s.2)

  pub fits-one : (from : ℕ) (index word : ℕ) → from ≤ length trail → word_at width trail (length trail) index ≡ word → ReadsFit width trail from (length trail) ((index, word) ∷ [])
  unfolding ReadsFit
  fits-one from index word low is = (length trail, low, is, omega arith)

  pub fits-here : (position : ℕ) (reads : List Access) → ReadsFit width trail position position reads → AreOf width trail position reads
  unfolding ReadsFit AreOf
  fits-here position [] f = tt
  fits-here position (read ∷ rest) f =
      let high = fits-bound f.0 position rest f.3 in let low = f.1 in
      let same : f.0 ≡ position = omega arith in
      (subst (λ (p : ℕ). word_at width trail p read.0 ≡ read.1) same f.2, fits-here position rest (fits-wider f.0 position position position rest (omega arith) (omega arith) f.3))

  pub here-fits : (position : ℕ) (reads : List Access) → AreOf width trail position reads → ReadsFit width trail position position reads
  unfolding ReadsFit AreOf
  here-fits position [] a = omega arith
  here-fits position (read ∷ rest) a = (position, omega arith, a.0, here-fits position rest a.1)

pub fits-longer : (width : ℕ) (trail more : List Access) (from upto : ℕ) (reads : List Access) → upto ≤ length trail → ReadsFit width trail from upto reads → ReadsFit width (trail ++ more) from upto reads
unfolding ReadsFit
fits-longer width trail more from upto [] h f = f
fits-longer width trail more from upto (read ∷ rest) h f =
    let high = fits-bound width trail f.0 upto rest f.3 in
    (f.0, f.1, word-longer width trail more f.0 read.0 (omega arith) ∙ f.2, fits-longer width trail more f.0 upto rest h f.3)
