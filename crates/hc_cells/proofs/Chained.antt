-- Chains of prototypes that come to their ends.
use Rattle.std.proofs.Common.{◌≡◌, ℕ, zero, suc, ◌<◌, ◌≤◌, Option, Some, None, List, [], ◌∷◌, length, refl, sym, ap, ◌∙◌, arith}
use Rattle.hc_heap.specs.Writes.{Trail}
use Rattle.hc_cells.specs.Chains.{Ends, chain, chain_among, chain_from, proto_at}

module _ (t : Trail) (ps : List (Option ℕ)) where
  ends-none : (n : ℕ) → Ends n t ps None
  ends-none zero = tt
  ends-none (suc n) = tt

  pub ends-more : (n m : ℕ) (at : Option ℕ) → Ends n t ps at → n ≤ m → Ends m t ps at
  ends-more n m None h few = ends-none m
  ends-more zero m (Some q) h few = absurd h
  ends-more (suc n) zero (Some q) h few = absurd (omega arith)
  ends-more (suc n) (suc m) (Some q) h few = (h.0, ends-more n m (proto_at t ps q) h.1 (omega arith))

  pub chain-none : (n : ℕ) → chain_among n t ps None ≡ []
  chain-none zero = refl
  chain-none (suc n) = refl

  pub chain-same : (n m : ℕ) (at : Option ℕ) → Ends n t ps at → Ends m t ps at → chain_among n t ps at ≡ chain_among m t ps at
  chain-same n m None h k = chain-none n ∙ sym (chain-none m)
  chain-same zero m (Some q) h k = absurd h
  chain-same (suc n) zero (Some q) h k = absurd k
  chain-same (suc n) (suc m) (Some q) h k = ap (λ qs. q ∷ qs) (chain-same n m (proto_at t ps q) h.1 k.1)

  -- one step along a chain
  pub record Step (q : ℕ) : Type 0 where
    pub there : q < length ps
    pub ends : Ends (length ps) t ps (proto_at t ps q)
    pub is : chain t ps q ≡ q ∷ chain_from t ps (proto_at t ps q)

  step-among : (n m q : ℕ) → Ends n t ps (Some q) → n ≤ m → Ends m t ps (proto_at t ps q)
  step-among zero m q h few = absurd h
  step-among (suc n) m q h few = ends-more n m (proto_at t ps q) h.1 (omega arith)

  chain-among : (n q : ℕ) → Ends n t ps (Some q) → chain_among n t ps (Some q) ≡ q ∷ chain_among n t ps (proto_at t ps q)
  chain-among zero q h = absurd h
  chain-among (suc n) q h = ap (λ qs. q ∷ qs) (chain-same n (suc n) (proto_at t ps q) h.1 (ends-more n (suc n) (proto_at t ps q) h.1 (omega arith)))

  there-among : (n q : ℕ) → Ends n t ps (Some q) → q < length ps
  there-among zero q h = absurd h
  there-among (suc n) q h = h.0

  pub step : (q : ℕ) → Ends (length ps) t ps (Some q) → Step q
  step q h = record {
    there = there-among (length ps) q h;
    ends = step-among (length ps) (length ps) q h (omega arith);
    is = chain-among (length ps) q h;
  }
