-- Chains that other words, or other lists of what is kept, tell alike.
use Rattle.std.proofs.Common.{◌≡◌, ℕ, zero, suc, ◌<◌, ◌≤◌, Bool, true, false, cond, eqb, eq-eqb, Option, Some, None, List, ◌∷◌, length, refl, sym, ap, ◌∙◌, subst, arith}
use Rattle.hc_heap.specs.Writes.{Trail}
use Rattle.hc_cells.specs.Chains.{Ends, chain, chain_among, has, proto_at}
use Rattle.hc_cells.proofs.Chained.{ends-more, chain-none, chain-same}

-- of each object of a list, both tell the same prototype
abbrev pub Agree : Trail → List (Option ℕ) → Trail → List (Option ℕ) → List ℕ → Type 0
Agree t ps u qs os = (q : ℕ) → has os q ≡ true → proto_at u qs q ≡ proto_at t ps q

has-first : (q : ℕ) (qs : List ℕ) → has (q ∷ qs) q ≡ true
has-first q qs = ap (λ c. cond c true (has qs q)) (eq-eqb q q refl)

has-case : (test h : Bool) → h ≡ true → cond test true h ≡ true
has-case true h e = refl
has-case false h e = e

pub has-rest : (q : ℕ) (qs : List ℕ) (x : ℕ) → has qs x ≡ true → has (q ∷ qs) x ≡ true
has-rest q qs x h = has-case (eqb q x) (has qs x) h

module _ (t : Trail) (ps : List (Option ℕ)) (u : Trail) (qs : List (Option ℕ)) (few : length ps ≤ length qs) where
  pub chain-on : (n : ℕ) (at : Option ℕ) → Ends n t ps at → Agree t ps u qs (chain_among n t ps at) → chain_among n u qs at ≡ chain_among n t ps at
  chain-on n None ends agree = chain-none u qs n ∙ sym (chain-none t ps n)
  chain-on zero (Some q) ends agree = absurd ends
  chain-on (suc n) (Some q) ends agree =
      let next = proto_at t ps q in
      let same = agree q (has-first q (chain_among n t ps next)) in
      let rest = chain-on n next ends.1 (λ x h. agree x (has-rest q (chain_among n t ps next) x h)) in
      ap (λ os. q ∷ os) (ap (chain_among n u qs) same ∙ rest)

  pub ends-on : (n : ℕ) (at : Option ℕ) → Ends n t ps at → Agree t ps u qs (chain_among n t ps at) → Ends n u qs at
  ends-on zero None ends agree = tt
  ends-on (suc n) None ends agree = tt
  ends-on zero (Some q) ends agree = absurd ends
  ends-on (suc n) (Some q) ends agree =
      let next = proto_at t ps q in
      let same = agree q (has-first q (chain_among n t ps next)) in
      let there : q < length qs = let h = ends.0 in omega (arith, h, few) in
      (there, subst (λ (x : Option ℕ). Ends n u qs x) (sym same) (ends-on n next ends.1 (λ x h. agree x (has-rest q (chain_among n t ps next) x h))))

  -- the chain of an object is told alike by both
  pub chains-on : (p : ℕ) → Ends (length ps) t ps (Some p) → Agree t ps u qs (chain t ps p) → chain u qs p ≡ chain t ps p
  chains-on p ends agree =
      let here = ends-on (length ps) (Some p) ends agree in
      chain-same u qs (length qs) (length ps) (Some p) (ends-more u qs (length ps) (length qs) (Some p) here few) here
      ∙ chain-on (length ps) (Some p) ends agree
