-- The earliest positions serve exactly where some positions do.
use Rattle.std.proofs.Common.{◌≡◌, ℕ, zero, suc, ◌+◌, ◌-◌, ◌≤◌, ◌<◌, ◌⊎◌, Bool, true, false, cond, List, [], ◌∷◌, Option, Some, None, refl, sym, ap, ◌∙◌, subst, inl, inr, ⊎_elim, arith, eqb, leb, eqb-true, eq-eqb, leb-true, le-leb, true≢false, IsSome, is_some}
use Rattle.std.specs.Option.{option_and_then}
use Rattle.hc_board.specs.Trail.{Access, word_at}
use Rattle.hc_board.specs.Fits.{ReadsFit, first_at, earliest}
use Rattle.hc_board.proofs.Readings.{fits-bound, fits-wider}

bool_cases : (b : Bool) → (b ≡ true) ⊎ (b ≡ false)
bool_cases true = inl refl
bool_cases false = inr refl

module _ (width : ℕ) (trail : List Access) where
  Serves : Access → ℕ → Type 0
  Serves read p = word_at width trail p read.0 ≡ read.1

  -- what is found serves, and lies among the positions asked
  Found : Access → ℕ → ℕ → Option ℕ → Type 0
  Found read from room (Some p) = (from ≤ p) × (p < from + room) × (word_at width trail p read.0 ≡ read.1)
  Found read from room None = Unit {0}

  found-step : (read : Access) (from room : ℕ) (o : Option ℕ) → Found read (suc from) room o → Found read from (suc room) o
  unfolding Found
  found-step read from room (Some p) f = let a = f.0 in let b = f.1 in (omega arith, omega arith, f.2)
  found-step read from room None f = tt

  found-case : (read : Access) (from room : ℕ) (b : Bool) → eqb (word_at width trail from read.0) read.1 ≡ b → Found read (suc from) room (first_at width trail read (suc from) room)
      → Found read from (suc room) (cond b (Some from) (first_at width trail read (suc from) room))
  unfolding Found
  found-case read from room true e f = (omega arith, omega arith, eqb-true _ _ e)
  found-case read from room false e f = found-step read from room (first_at width trail read (suc from) room) f

  found-none : (read : Access) (from : ℕ) → Found read from 0 None
  unfolding Found
  found-none read from = tt

  found : (read : Access) (from room : ℕ) → Found read from room (first_at width trail read from room)
  unfolding first_at
  found read from zero = found-none read from
  found read from (suc room) = found-case read from room (eqb (word_at width trail from read.0) read.1) refl (found read (suc from) room)

  found-some : (read : Access) (from room p : ℕ) → Found read from room (Some p) → (from ≤ p) × (p < from + room) × (word_at width trail p read.0 ≡ read.1)
  unfolding Found
  found-some read from room p f = f

  -- where a position serves, one that is no later is found
  Early : ℕ → Option ℕ → Type 0
  Early p (Some q) = q ≤ p
  Early p None = ⊥

  early-case : (read : Access) (from room p : ℕ) (b : Bool) → eqb (word_at width trail from read.0) read.1 ≡ b → from ≤ p → word_at width trail p read.0 ≡ read.1
      → (suc from ≤ p → Early p (first_at width trail read (suc from) room)) → Early p (cond b (Some from) (first_at width trail read (suc from) room))
  unfolding Early
  early-case read from room p true e low is later = low
  early-case read from room p false e low is later =
      later (⊎_elim (λ (lt : suc from ≤ p). lt) (λ (same : from ≡ p). let t : eqb (word_at width trail from read.0) read.1 ≡ true = eq-eqb _ _ (ap (λ (k : ℕ). word_at width trail k read.0) same ∙ is) in let e' : true ≡ false = sym t ∙ e in cc)
      (let h : (suc from ≤ p) ⊎ (from ≡ p) = grind arith in h))

  early : (read : Access) (from room p : ℕ) → from ≤ p → p < from + room → word_at width trail p read.0 ≡ read.1 → Early p (first_at width trail read from room)
  unfolding first_at
  early read from zero p low high is = let h : p < from + 0 = high in absurd (omega arith)
  early read from (suc room) p low high is =
      early-case read from room p (eqb (word_at width trail from read.0) read.1) refl low is (λ lt. let h : p < from + suc room = high in early read (suc from) room p lt (omega arith) is)

  case-some : (reads : List Access) (upto from : ℕ) (o : Option ℕ) → IsSome (option_and_then (λ (q : ℕ). earliest width trail q upto reads) o) → (q : ℕ) × (o ≡ Some q) × IsSome (earliest width trail q upto reads)
  case-some reads upto from (Some q) h = (q, refl, h)
  case-some reads upto from None h = absurd (true≢false (sym h))

  pub earliest-fits : (from upto : ℕ) (reads : List Access) → IsSome (earliest width trail from upto reads) → ReadsFit width trail from upto reads
  unfolding ReadsFit earliest
  earliest-fits from upto [] h = ⊎_elim (λ (t : leb from upto ≡ true). leb-true from upto t)
      (λ (f : leb from upto ≡ false). let n : is_some {T = ℕ} (cond false (Some from) None) ≡ true = subst (λ (b : Bool). is_some {T = ℕ} (cond b (Some from) None) ≡ true) f h in absurd (true≢false (sym n))) (bool_cases (leb from upto))
  earliest-fits from upto (read ∷ rest) h =
      let s = case-some rest upto from (first_at width trail read from (suc upto - from)) h in
      let f : Found read from (suc upto - from) (Some s.0) = subst (Found read from (suc upto - from)) s.1 (found read from (suc upto - from)) in
      let g = found-some read from (suc upto - from) s.0 f in
      (s.0, g.0, g.2, earliest-fits s.0 upto rest s.2)

  some-early : (p : ℕ) (o : Option ℕ) → Early p o → (q : ℕ) × (o ≡ Some q) × (q ≤ p)
  unfolding Early
  some-early p (Some q) e = (q, refl, e)
  some-early p None e = absurd e

  pub fits-earliest : (from upto : ℕ) (reads : List Access) → ReadsFit width trail from upto reads → IsSome (earliest width trail from upto reads)
  unfolding ReadsFit earliest
  fits-earliest from upto [] f = ap (λ (b : Bool). is_some {T = ℕ} (cond b (Some from) None)) (le-leb from upto f)
  fits-earliest from upto (read ∷ rest) f =
      let high = fits-bound width trail f.0 upto rest f.3 in let low = f.1 in
      let s = some-early f.0 (first_at width trail read from (suc upto - from)) (early read from (suc upto - from) f.0 low (omega arith) f.2) in
      let found-at = found read from (suc upto - from) in
      subst (λ (o : Option ℕ). IsSome (option_and_then (λ (q : ℕ). earliest width trail q upto rest) o)) (sym s.1)
      (fits-earliest s.0 upto rest (fits-wider width trail f.0 upto s.0 upto rest s.2 (omega arith) f.3))
