-- Lemmas on chains of prototypes: a chain that leads to null has no object twice, so it leads there past at most as
-- many objects as there are.
use Rattle.std.proofs.Common.{◌≡◌, ℕ, zero, suc, ◌+◌, ◌<◌, ◌≤◌, Bool, true, false, ◌||◌, eqb, List, [], ◌∷◌, Option, Some, None, length, refl, sym, ap, subst, ◌∙◌, true≢false, arith}
use Rattle.std.specs.Prelude.{if◌then◌else◌}
use Rattle.std.specs.List.{AllByRecursion, IsDistinct, list_any}
use Rattle.std.proofs.lemmas.Bool.Decides.{Decides-eqb}
use Rattle.std.proofs.lemmas.Map.Steps.{length-le_from_distinct_below}
use Rattle.hc_table.specs.Changes.{reaches_among}
use Rattle.hc_table.specs.World.{World, object, LeadsToNull}

pub none : (n : ℕ) (w : World) → LeadsToNull n w None
none zero w = tt
none (suc n) w = tt

-- more objects may be passed
pub more : (n : ℕ) (w : World) (p : Option ℕ) → LeadsToNull n w p → (m : ℕ) → n ≤ m → LeadsToNull m w p
more n w None h m k = none m w
more zero w (Some o) h m k = absurd h
more (suc n) w (Some o) h zero k = absurd (omega arith)
more (suc n) w (Some o) h (suc m) k = (h.0, more n w (object w o).proto h.1 m (omega arith))

-- the same objects lead on the same way
pub along : (v w : World) → ((k : ℕ) → k < length v → (k < length w) × ((object w k).proto ≡ (object v k).proto)) → (n : ℕ) (p : Option ℕ) → LeadsToNull n v p → LeadsToNull n w p
along v w links n None h = none n w
along v w links zero (Some o) h = absurd h
along v w links (suc n) (Some o) h =
    let link = links o h.0 in
    (link.0, subst (LeadsToNull n w) (sym link.1) (along v w links n (object v o).proto h.1))

-- the objects on a chain
abbrev chain : ℕ → World → Option ℕ → List ℕ
chain n w None = []
chain zero w (Some o) = []
chain (suc n) w (Some o) = o ∷ chain n w (object w o).proto

chain-none : (n : ℕ) (w : World) → chain n w None ≡ []
chain-none zero w = refl
chain-none (suc n) w = refl

exact : (n : ℕ) (w : World) (p : Option ℕ) → LeadsToNull n w p → LeadsToNull (length (chain n w p)) w p
exact n w None h = none (length (chain n w None)) w
exact zero w (Some o) h = absurd h
exact (suc n) w (Some o) h = (h.0, exact n w (object w o).proto h.1)

one_chain : (n m : ℕ) (w : World) (p : Option ℕ) → LeadsToNull n w p → LeadsToNull m w p → chain n w p ≡ chain m w p
one_chain n m w None h k = chain-none n w ∙ sym (chain-none m w)
one_chain zero m w (Some o) h k = absurd h
one_chain (suc n) zero w (Some o) h k = absurd k
one_chain (suc n) (suc m) w (Some o) h k = ap (λ rest. o ∷ rest) (one_chain n m w (object w o).proto h.1 k.1)

below : (n : ℕ) (w : World) (p : Option ℕ) → LeadsToNull n w p → (q : ℕ) → list_any (eqb q) (chain n w p) ≡ true → q < length w
below n w None h q e = absurd (true≢false (sym e ∙ ap (list_any (eqb q)) (chain-none n w)))
below zero w (Some o) h q e = absurd h
below (suc n) w (Some o) h q e = by (eqb q o) refl (below n w (object w o).proto h.1 q) e
  where
    by : (b : Bool) → eqb q o ≡ b → (list_any (eqb q) (chain n w (object w o).proto) ≡ true → q < length w) → (b || list_any (eqb q) (chain n w (object w o).proto)) ≡ true → q < length w
    by true t rest k = subst (λ x. x < length w) (sym ((Decides-eqb q o).0 t)) h.0
    by false t rest k = rest k

-- an object on a chain has a chain that is no longer
record Later (w : World) (q : ℕ) (bound : ℕ) : Type 0 where
  steps : ℕ
  leads : LeadsToNull steps w (Some q)
  short : length (chain steps w (Some q)) ≤ bound

later : (n : ℕ) (w : World) (p : Option ℕ) → LeadsToNull n w p → (q : ℕ) → list_any (eqb q) (chain n w p) ≡ true → Later w q (length (chain n w p))
later n w None h q e = absurd (true≢false (sym e ∙ ap (list_any (eqb q)) (chain-none n w)))
later zero w (Some o) h q e = absurd h
later (suc n) w (Some o) h q e = by (eqb q o) refl (later n w (object w o).proto h.1 q) e
  where
    bound : ℕ
    bound = length (chain (suc n) w (Some o))

    by : (b : Bool) → eqb q o ≡ b → (list_any (eqb q) (chain n w (object w o).proto) ≡ true → Later w q (length (chain n w (object w o).proto))) → (b || list_any (eqb q) (chain n w (object w o).proto)) ≡ true → Later w q (length (chain (suc n) w (Some o)))
    by true t rest k =
        subst (λ x. Later w x (length (chain (suc n) w (Some o)))) (sym ((Decides-eqb q o).0 t))
        (record { steps = suc n; leads = h; short = omega arith })
    by false t rest k =
        let found = rest k in
        record { steps = found.steps; leads = found.leads; short = omega (arith, found.short) }

not_again : (n : ℕ) (w : World) (o : ℕ) → LeadsToNull (suc n) w (Some o) → list_any (eqb o) (chain n w (object w o).proto) ≡ false
not_again n w o h = by (list_any (eqb o) (chain n w (object w o).proto)) refl
  where
    by : (b : Bool) → list_any (eqb o) (chain n w (object w o).proto) ≡ b → b ≡ false
    by false e = refl
    by true e =
        let found = later n w (object w o).proto h.1 o e in
        let same = one_chain found.steps (suc n) w (Some o) found.leads h in
        absurd (omega (arith, found.short, ap length same))

absent_all : (o : ℕ) (xs : List ℕ) → list_any (eqb o) xs ≡ false → AllByRecursion (λ x. eqb o x ≡ false) xs
absent_all o [] e = tt
absent_all o (x ∷ xs) e = by (eqb o x) refl (absent_all o xs) e
  where
    by : (b : Bool) → eqb o x ≡ b → (list_any (eqb o) xs ≡ false → AllByRecursion (λ y. eqb o y ≡ false) xs) → (b || list_any (eqb o) xs) ≡ false → AllByRecursion (λ y. eqb o y ≡ false) (x ∷ xs)
    by true t rest k = absurd (true≢false k)
    by false t rest k = (t, rest k)

distinct : (n : ℕ) (w : World) (p : Option ℕ) → LeadsToNull n w p → IsDistinct eqb (chain n w p)
unfolding IsDistinct
distinct n w None h = subst (IsDistinct eqb) (sym (chain-none n w)) tt
distinct zero w (Some o) h = absurd h
distinct (suc n) w (Some o) h =
    (absent_all o (chain n w (object w o).proto) (not_again n w o h), distinct n w (object w o).proto h.1)

-- as many objects as there are suffice
pub few : (n : ℕ) (w : World) (p : Option ℕ) → LeadsToNull n w p → LeadsToNull (length w) w p
few n w p h =
    more (length (chain n w p)) w p (exact n w p h) (length w)
    (length-le_from_distinct_below (chain n w p) (length w) (distinct n w p h) (below n w p h))

-- another prototype of one object, from where the chain doesn't come to it
module _ (v w : World) (o : ℕ) (p : Option ℕ) (same : length w ≡ length v) (here : (object w o).proto ≡ p) (others : (k : ℕ) → (eqb k o ≡ false) → (object w k).proto ≡ (object v k).proto) where
  pub avoids : (n : ℕ) (q : Option ℕ) → LeadsToNull n v q → reaches_among n v q o ≡ false → LeadsToNull n w q
  avoids n None h e = none n w
  avoids zero (Some x) h e = absurd h
  avoids (suc n) (Some x) h e = by (eqb x o) refl (avoids n (object v x).proto h.1) e
    where
      by : (b : Bool) → eqb x o ≡ b → (reaches_among n v (object v x).proto o ≡ false → LeadsToNull n w (object v x).proto) → (if b then true else reaches_among n v (object v x).proto o) ≡ false → LeadsToNull (suc n) w (Some x)
      by true t rest k = absurd (true≢false k)
      by false t rest k =
          (subst (λ l. x < l) (sym same) h.0, subst (LeadsToNull n w) (sym (others x t)) (rest k))

  module _ (m : ℕ) (leads : LeadsToNull m w p) where
    pub rejoins : (n : ℕ) (q : Option ℕ) → LeadsToNull n v q → (k : ℕ) → n + m ≤ k → LeadsToNull k w q
    rejoins n None h k l = none k w
    rejoins zero (Some x) h k l = absurd h
    rejoins (suc n) (Some x) h zero l = absurd (omega arith)
    rejoins (suc n) (Some x) h (suc k) l = by (eqb x o) refl (rejoins n (object v x).proto h.1 k (omega arith))
      where
        by : (b : Bool) → eqb x o ≡ b → LeadsToNull k w (object v x).proto → LeadsToNull (suc k) w (Some x)
        by true t rest =
            let goes : LeadsToNull k w p = more m w p leads k (omega arith) in
            (subst (λ l. x < l) (sym same) h.0, subst (LeadsToNull k w) (sym (ap (λ y. (object w y).proto) ((Decides-eqb x o).0 t) ∙ here)) goes)
        by false t rest = (subst (λ l. x < l) (sym same) h.0, subst (LeadsToNull k w) (sym (others x t)) rest)

    pub linked : (n : ℕ) (q : Option ℕ) → LeadsToNull n v q → LeadsToNull (length w) w q
    linked n q h = few (n + m) w q (rejoins n q h (n + m) (omega arith))
