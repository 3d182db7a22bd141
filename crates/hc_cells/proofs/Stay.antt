-- What a change of one object leaves of chains.
use Rattle.std.proofs.Common.{◌≡◌, ◌≢◌, ℕ, zero, suc, ◌<◌, ◌≤◌, Bool, true, false, cond, eqb, Option, Some, None, List, length, refl, sym, ap, ◌∙◌, subst, arith}
use Rattle.std.proofs.lemmas.Bool.Decides.{nat_tests}
use Rattle.hc_heap.specs.Writes.{Trail}
use Rattle.hc_heap.specs.Readings.{validity_in}
use Rattle.hc_cells.specs.Chains.{Ends, chain, chain_among, has, passes, proto_at}
use Rattle.hc_cells.specs.Cells.{valid_cell}
use Rattle.hc_cells.specs.Laws.{ChainsStay, MarksStay, OthersKeep, WaysStay}
use Rattle.hc_cells.proofs.Chained.{chain-none}
use Rattle.hc_cells.proofs.Frames.{chains-on}

module _ (t : Trail) (ps : List (Option ℕ)) (q : ℕ) where
  there-case : (test : Bool) (x : ℕ) (xs : List ℕ) → eqb x q ≡ test → x < length ps → (has xs q ≡ true → q < length ps) → cond test true (has xs q) ≡ true → q < length ps
  there-case true x xs e there rest h = let same : x ≡ q = grind (arith, nat_tests, e) in omega (arith, there, same)
  there-case false x xs e there rest h = rest h

  -- an object of a chain is there
  pub chain-there : (n : ℕ) (at : Option ℕ) → Ends n t ps at → has (chain_among n t ps at) q ≡ true → q < length ps
  chain-there n None ends h = let no : false ≡ true = sym (ap (λ qs. has qs q) (chain-none t ps n)) ∙ h in cc
  chain-there zero (Some x) ends h = absurd ends
  chain-there (suc n) (Some x) ends h =
      let next = proto_at t ps x in
      there-case (eqb x q) x (chain_among n t ps next) refl ends.0 (chain-there n next ends.1) h

module _ (o : ℕ) (t u : Trail) (ps qs : List (Option ℕ)) (keep : OthersKeep o t u ps qs) where
  pub chains-stay : (p : ℕ) → Ends (length ps) t ps (Some p) → passes t ps p o ≡ false → chain u qs p ≡ chain t ps p
  chains-stay p ends missed = chains-on t ps u qs keep.more p ends
      (λ q h. keep.same q (chain-there t ps q (length ps) (Some p) ends h)
      (λ is. let clash : true ≡ false = sym h ∙ ap (has (chain t ps p)) is ∙ missed in cc))

  ways-case : (test : Bool) (q : ℕ) (xs ys : List ℕ) → eqb q o ≡ test → ((q ≢ o) → has xs o ≡ has ys o) → cond test true (has xs o) ≡ cond test true (has ys o)
  ways-case true q xs ys e h = refl
  ways-case false q xs ys e h = let other : q ≢ o = grind (arith, nat_tests, e) in h other

  pub ways-stay : (n m : ℕ) (at : Option ℕ) → n ≤ length ps → Ends n t ps at → Ends m u qs at → has (chain_among m u qs at) o ≡ has (chain_among n t ps at) o
  ways-stay n m None few h k = ap (λ xs. has xs o) (chain-none u qs m ∙ sym (chain-none t ps n))
  ways-stay zero m (Some q) few h k = absurd h
  ways-stay (suc n) zero (Some q) few h k = absurd k
  ways-stay (suc n) (suc m) (Some q) few h k =
      let next = proto_at t ps q in
      ways-case (eqb q o) q (chain_among m u qs (proto_at u qs q)) (chain_among n t ps next) refl
      (λ other.
      let same = keep.same q h.0 other in
      ap (λ (x : Option ℕ). has (chain_among m u qs x) o) same
      ∙ ways-stay n m next (omega arith) h.1 (subst (λ (x : Option ℕ). Ends m u qs x) same k.1))

pub marks-stay : ChainsStay → WaysStay → MarksStay
marks-stay chains ways o old new ps qs marks keep ends after items cells same watched =
    let was : (c p : ℕ) → validity_in new c ≡ Some (valid_cell p) → validity_in old.trail c ≡ Some (valid_cell p) = λ c p e. sym (same c) ∙ e in
    let there : (c p : ℕ) → validity_in new c ≡ Some (valid_cell p) → p < length ps = λ c p e. let h : p < old.used.objects = cells.objects c (valid_cell p) (was c p e) in omega (arith, h, items) in
    let way : (c p : ℕ) → validity_in new c ≡ Some (valid_cell p) → passes new qs p o ≡ passes old.trail ps p o = λ c p e.
    let h = there c p e in
    let more = keep.more in
    ways o p old.trail new ps qs keep (ends p h) (after p (omega (arith, h, more))) in
    record {
      this = λ c p e h. watched c p o (was c p e) (sym (way c p e) ∙ h);
      others = λ c p x e missed h.
          let chained = chains o p old.trail new ps qs keep (ends p (there c p e)) (sym (way c p e) ∙ missed) in
          watched c p x (was c p e) (sym (ap (λ xs. has xs x) chained) ∙ h);
    }
