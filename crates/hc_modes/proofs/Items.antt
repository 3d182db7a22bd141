-- The items that are kept, one for each object.
use Rattle.std.proofs.Common.{◌≡◌, ◌≢◌, ℕ, zero, suc, ◌+◌, ◌<◌, ◌≤◌, List, [], ◌∷◌, ◌++◌, Option, None, length, set, take, refl, ap, subst, arith, length-append}
use Rattle.std.proofs.lemmas.List.{length-set}
use Rattle.hc_slots.specs.Meaning.{Dictionary}
use Rattle.hc_modes.specs.Meaning.{kept_of}
use Rattle.hc_modes.specs.Changes.{KeptBut}

pub kept-same : (o : ℕ) (kept : List (Option Dictionary)) → KeptBut o kept kept
kept-same o kept = record { others = λ p ne. refl; there = λ p ne lt. lt }

get-set_other : (kept : List (Option Dictionary)) (o p : ℕ) (item : Option Dictionary) → p ≢ o → kept_of (set kept o item) p ≡ kept_of kept p
get-set_other [] o p item ne = refl
get-set_other (x ∷ xs) zero zero item ne = absurd (ne refl)
get-set_other (x ∷ xs) zero (suc p) item ne = refl
get-set_other (x ∷ xs) (suc o) zero item ne = refl
get-set_other (x ∷ xs) (suc o) (suc p) item ne = get-set_other xs o p item (λ e. ne (ap suc e))

pub kept-set_here : (kept : List (Option Dictionary)) (o : ℕ) (item : Option Dictionary) → o < length kept → kept_of (set kept o item) o ≡ item
kept-set_here [] o item lt = absurd (omega arith)
kept-set_here (x ∷ xs) zero item lt = refl
kept-set_here (x ∷ xs) (suc o) item lt = kept-set_here xs o item (omega arith)

pub kept-set : (kept : List (Option Dictionary)) (o : ℕ) (item : Option Dictionary) → KeptBut o kept (set kept o item)
kept-set kept o item = record {
  others = λ p ne. get-set_other kept o p item ne;
  there = λ p ne lt. subst (λ (n : ℕ). p < n) (length-set kept o item) lt;
}

get-push : (kept : List (Option Dictionary)) (p : ℕ) (item : Option Dictionary) → p ≢ length kept → kept_of (kept ++ item ∷ []) p ≡ kept_of kept p
get-push [] zero item ne = absurd (ne refl)
get-push [] (suc p) item ne = refl
get-push (x ∷ xs) zero item ne = refl
get-push (x ∷ xs) (suc p) item ne = get-push xs p item (λ e. ne (ap suc e))

pub kept-push_here : (kept : List (Option Dictionary)) (item : Option Dictionary) → kept_of (kept ++ item ∷ []) (length kept) ≡ item
kept-push_here [] item = refl
kept-push_here (x ∷ xs) item = kept-push_here xs item

pub length-push : (kept : List (Option Dictionary)) (item : Option Dictionary) → length (kept ++ item ∷ []) ≡ length kept + 1
length-push kept item = omega (arith, length-append kept (item ∷ []))

pub kept-push : (kept : List (Option Dictionary)) (item : Option Dictionary) → KeptBut (length kept) kept (kept ++ item ∷ [])
kept-push kept item = record { others = λ p ne. get-push kept p item ne; there = λ p ne lt. omega (arith, ne, lt, length-push kept item) }

-- there is nothing kept where there is no object
pub kept-past : (kept : List (Option Dictionary)) (q : ℕ) → length kept ≤ q → kept_of kept q ≡ None
kept-past [] q past = refl
kept-past (x ∷ xs) zero past = absurd (omega (arith, past))
kept-past (x ∷ xs) (suc q) past = kept-past xs q (omega (arith, past))

-- the first items

pub kept-front : (kept : List (Option Dictionary)) (n q : ℕ) → q < n → kept_of (take n kept) q ≡ kept_of kept q
kept-front kept zero q lt = absurd (omega (arith, lt))
kept-front [] (suc n) q lt = refl
kept-front (x ∷ xs) (suc n) zero lt = refl
kept-front (x ∷ xs) (suc n) (suc q) lt = kept-front xs n q (omega (arith, lt))

pub length-front : (kept : List (Option Dictionary)) (n : ℕ) → n ≤ length kept → length (take n kept) ≡ n
length-front kept zero le = refl
length-front [] (suc n) le = absurd (omega (arith, le))
length-front (x ∷ xs) (suc n) le = let rest : length (take n xs) ≡ n = length-front xs n (omega (arith, le)) in omega (arith, rest)
