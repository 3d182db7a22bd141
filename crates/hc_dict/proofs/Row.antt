-- Lemmas on seats, and on the properties that stand in them.
use Rattle.std.proofs.Common.{◌≡◌, ℕ, zero, suc, ◌+◌, ◌-◌, ◌*◌, ◌/◌, ◌<◌, ◌≤◌, min, true, false, filter, map, List, [], ◌∷◌, ◌++◌, Option, Some, None, is_some, IsSome, length, set, get_or, slice_get, refl, sym, ap, subst, ◌∙◌, inl, inr, true≢false, ◌⊎◌, arith}
use Rattle.std.proofs.lemmas.Bool.{cases_lt, cases_eq}
use Rattle.std.proofs.lemmas.List.{length_push, length-set, length-map, get_or_past, get_or-set_same, get_or-set_other}
use Rattle.hc_value.specs.declared.prop.Prop.{Prop}
use Rattle.hc_table.specs.Changes.{removed_at}
use Rattle.hc_dict.specs.Dict.{seated, before, prop_seated, AreCounted, FullCounts}

abbrev pub Row : Type 0
Row = List (Option Prop)

-- one more property, where one stands
abbrev pub one : Option Prop → ℕ
one None = 0
one (Some p) = 1

-- at the end, all properties stand before
pub before-all : (seats : Row) (n : ℕ) → length seats ≤ n → before seats n ≡ length (seated seats)
before-all [] n h = refl
before-all (s ∷ seats) zero h = absurd (omega arith)
before-all (None ∷ seats) (suc n) h = before-all seats n (omega arith)
before-all (Some p ∷ seats) (suc n) h = ap suc (before-all seats n (omega arith))

pub before-first : (seats : Row) → before seats 0 ≡ 0
before-first [] = refl
before-first (s ∷ seats) = refl

pub before-few : (seats : Row) (n : ℕ) → before seats n ≤ length (seated seats)
before-few [] n = omega arith
before-few (s ∷ seats) zero = omega arith
before-few (None ∷ seats) (suc n) = before-few seats n
before-few (Some p ∷ seats) (suc n) = let h = before-few seats n in omega arith

pub seated-few : (seats : Row) → length (seated seats) ≤ length seats
seated-few [] = omega arith
seated-few (None ∷ seats) = let h = seated-few seats in omega arith
seated-few (Some p ∷ seats) = let h = seated-few seats in omega arith

-- each seat adds at most one
pub before-within : (seats : Row) (n m : ℕ) → n ≤ m → before seats m + n ≤ before seats n + m
before-within [] n m h = omega arith
before-within (s ∷ seats) zero zero h = omega arith
before-within (None ∷ seats) zero (suc m) h = let k = before-within seats 0 m (omega arith) in let e = before-first seats in omega arith
before-within (Some p ∷ seats) zero (suc m) h = let k = before-within seats 0 m (omega arith) in let e = before-first seats in omega arith
before-within (s ∷ seats) (suc n) zero h = absurd (omega arith)
before-within (None ∷ seats) (suc n) (suc m) h = let k = before-within seats n m (omega arith) in omega arith
before-within (Some p ∷ seats) (suc n) (suc m) h = let k = before-within seats n m (omega arith) in omega arith

pub before-later : (seats : Row) (n m : ℕ) → n ≤ m → before seats n ≤ before seats m
before-later [] n m h = omega arith
before-later (s ∷ seats) zero m h = omega arith
before-later (s ∷ seats) (suc n) zero h = absurd (omega arith)
before-later (None ∷ seats) (suc n) (suc m) h = before-later seats n m (omega arith)
before-later (Some p ∷ seats) (suc n) (suc m) h = let k = before-later seats n m (omega arith) in omega arith

-- past a seat there is one more, where one stands in it
before-suc : (seats : Row) (n : ℕ) → before seats (suc n) ≡ before seats n + one (prop_seated seats n)
before-suc [] n = refl
before-suc (None ∷ seats) zero = before-first seats
before-suc (Some p ∷ seats) zero = ap suc (before-first seats)
before-suc (None ∷ seats) (suc n) = before-suc seats n
before-suc (Some p ∷ seats) (suc n) = let h = before-suc seats n in omega arith

pub before-next : (seats : Row) (n : ℕ) → before seats (n + 1) ≡ before seats n + one (prop_seated seats n)
before-next seats n = let e : n + 1 ≡ suc n = omega arith in ap (before seats) e ∙ before-suc seats n

-- where no seat is empty, a place is a seat
pub before-no_gaps : (seats : Row) (n : ℕ) → length (seated seats) ≡ length seats → n ≤ length seats → before seats n ≡ n
before-no_gaps [] n e h = omega arith
before-no_gaps (s ∷ seats) zero e h = refl
before-no_gaps (None ∷ seats) (suc n) e h = absurd (let few = seated-few seats in omega arith)
before-no_gaps (Some p ∷ seats) (suc n) e h = ap suc (before-no_gaps seats n (omega arith) (omega arith))

-- a seat in which a property stands is there
pub prop_seated-within : (seats : Row) (n : ℕ) (p : Prop) → prop_seated seats n ≡ Some p → n < length seats
prop_seated-within [] n p h = absurd (cc)
prop_seated-within (s ∷ seats) zero p h = omega arith
prop_seated-within (s ∷ seats) (suc n) p h = let k = prop_seated-within seats n p h in omega arith

pub there : (seats : Row) (n : ℕ) → IsSome (prop_seated seats n) → (p : Prop) × (prop_seated seats n ≡ Some p)
there seats n h = by (prop_seated seats n) h
  where
    by : (o : Option Prop) → IsSome o → (p : Prop) × (o ≡ Some p)
    by (Some p) h = (p, refl)
    by None h = absurd (true≢false (sym h))

-- where not all properties stand before it, a seat is there
pub before-there : (seats : Row) (n : ℕ) → before seats n < length (seated seats) → n < length seats
before-there seats n h = by (cases_lt n (length seats))
  where
    by : (n < length seats) ⊎ (length seats ≤ n) → n < length seats
    by (inl less) = less
    by (inr more) = absurd (let all = before-all seats n more in omega arith)

pub one-some : (o : Option Prop) → is_some o ≡ true → one o ≡ 1
one-some (Some p) h = refl
one-some None h = absurd (true≢false (sym h))

pub one-none : (o : Option Prop) → is_some o ≡ false → one o ≡ 0
one-none (Some p) h = absurd (true≢false h)
one-none None h = refl

-- one more seat at the end
pub seated-push : (seats : Row) (p : Prop) → seated (seats ++ Some p ∷ []) ≡ seated seats ++ p ∷ []
seated-push [] p = refl
seated-push (None ∷ seats) p = seated-push seats p
seated-push (Some q ∷ seats) p = ap (λ ps. q ∷ ps) (seated-push seats p)

pub before-push_within : (seats : Row) (p : Prop) (n : ℕ) → n ≤ length seats → before (seats ++ Some p ∷ []) n ≡ before seats n
before-push_within [] p zero h = refl
before-push_within [] p (suc n) h = absurd (omega arith)
before-push_within (s ∷ seats) p zero h = refl
before-push_within (None ∷ seats) p (suc n) h = before-push_within seats p n (omega arith)
before-push_within (Some q ∷ seats) p (suc n) h = ap suc (before-push_within seats p n (omega arith))

pub before-push_past : (seats : Row) (p : Prop) (n : ℕ) → length seats < n → before (seats ++ Some p ∷ []) n ≡ before seats n + 1
before-push_past [] p zero h = absurd (omega arith)
before-push_past [] p (suc n) h = refl
before-push_past (s ∷ seats) p zero h = absurd (omega arith)
before-push_past (None ∷ seats) p (suc n) h = before-push_past seats p n (omega arith)
before-push_past (Some q ∷ seats) p (suc n) h = let k = before-push_past seats p n (omega arith) in omega arith

-- a seat that is emptied
pub before-clear_within : (seats : Row) (s n : ℕ) → n ≤ s → before (set seats s None) n ≡ before seats n
before-clear_within [] s n h = refl
before-clear_within (x ∷ seats) zero zero h = refl
before-clear_within (x ∷ seats) zero (suc n) h = absurd (omega arith)
before-clear_within (x ∷ seats) (suc s) zero h = refl
before-clear_within (None ∷ seats) (suc s) (suc n) h = before-clear_within seats s n (omega arith)
before-clear_within (Some q ∷ seats) (suc s) (suc n) h = ap suc (before-clear_within seats s n (omega arith))

pub before-clear_past : (seats : Row) (s n : ℕ) (p : Prop) → prop_seated seats s ≡ Some p → s < n → before (set seats s None) n + 1 ≡ before seats n
before-clear_past [] s n p at h = absurd (cc)
before-clear_past (x ∷ seats) s zero p at h = absurd (omega arith)
before-clear_past (None ∷ seats) zero (suc n) p at h = absurd (cc)
before-clear_past (Some q ∷ seats) zero (suc n) p at h = omega arith
before-clear_past (None ∷ seats) (suc s) (suc n) p at h = before-clear_past seats s n p at (omega arith)
before-clear_past (Some q ∷ seats) (suc s) (suc n) p at h = let k = before-clear_past seats s n p at (omega arith) in omega arith

pub seated-clear : (seats : Row) (s : ℕ) (p : Prop) → prop_seated seats s ≡ Some p → seated (set seats s None) ≡ removed_at (seated seats) (before seats s)
seated-clear [] s p at = absurd (cc)
seated-clear (None ∷ seats) zero p at = absurd (cc)
seated-clear (Some q ∷ seats) zero p at = refl
seated-clear (None ∷ seats) (suc s) p at = seated-clear seats s p at
seated-clear (Some q ∷ seats) (suc s) p at = ap (λ ps. q ∷ ps) (seated-clear seats s p at)

pub length-clear : (seats : Row) (s : ℕ) (p : Prop) → prop_seated seats s ≡ Some p → length (seated (set seats s None)) + 1 ≡ length (seated seats)
length-clear [] s p at = absurd (cc)
length-clear (None ∷ seats) zero p at = absurd (cc)
length-clear (Some q ∷ seats) zero p at = omega arith
length-clear (None ∷ seats) (suc s) p at = length-clear seats s p at
length-clear (Some q ∷ seats) (suc s) p at = let k = length-clear seats s p at in omega arith

-- another property in a seat in which one stands
pub before-set : (seats : Row) (s n : ℕ) (q p : Prop) → prop_seated seats s ≡ Some q → before (set seats s (Some p)) n ≡ before seats n
before-set [] s n q p at = refl
before-set (None ∷ seats) zero n q p at = absurd (cc)
before-set (Some x ∷ seats) zero zero q p at = refl
before-set (Some x ∷ seats) zero (suc n) q p at = refl
before-set (x ∷ seats) (suc s) zero q p at = refl
before-set (None ∷ seats) (suc s) (suc n) q p at = before-set seats s n q p at
before-set (Some x ∷ seats) (suc s) (suc n) q p at = ap suc (before-set seats s n q p at)

pub seated-set : (seats : Row) (s : ℕ) (q p : Prop) → prop_seated seats s ≡ Some q → seated (set seats s (Some p)) ≡ set (seated seats) (before seats s) p
seated-set [] s q p at = absurd (cc)
seated-set (None ∷ seats) zero q p at = absurd (cc)
seated-set (Some x ∷ seats) zero q p at = refl
seated-set (None ∷ seats) (suc s) q p at = seated-set seats s q p at
seated-set (Some x ∷ seats) (suc s) q p at = ap (λ ps. x ∷ ps) (seated-set seats s q p at)

pub length-set_seat : (seats : Row) (s : ℕ) (q p : Prop) → prop_seated seats s ≡ Some q → length (seated (set seats s (Some p))) ≡ length (seated seats)
length-set_seat [] s q p at = refl
length-set_seat (None ∷ seats) zero q p at = absurd (cc)
length-set_seat (Some x ∷ seats) zero q p at = refl
length-set_seat (None ∷ seats) (suc s) q p at = length-set_seat seats s q p at
length-set_seat (Some x ∷ seats) (suc s) q p at = ap suc (length-set_seat seats s q p at)

-- what stands in a seat stands at the place that so many are before
pub seated-at : (seats : Row) (s : ℕ) (p : Prop) → prop_seated seats s ≡ Some p → slice_get (seated seats) (before seats s) ≡ Some p
seated-at [] s p at = absurd (cc)
seated-at (None ∷ seats) zero p at = absurd (cc)
seated-at (Some q ∷ seats) zero p at = at
seated-at (None ∷ seats) (suc s) p at = seated-at seats s p at
seated-at (Some q ∷ seats) (suc s) p at = seated-at seats s p at

-- no seat empty
pub seated-full : (ps : List Prop) → seated (map Some ps) ≡ ps
seated-full [] = refl
seated-full (p ∷ ps) = ap (λ qs. p ∷ qs) (seated-full ps)

pub before-full : (ps : List Prop) (n : ℕ) → before (map Some ps) n ≡ min n (length ps)
before-full [] n = omega arith
before-full (p ∷ ps) zero = omega arith
before-full (p ∷ ps) (suc n) = let e = before-full ps n in omega arith

pub filter-seated : (seats : Row) → filter is_some seats ≡ map Some (seated seats)
filter-seated [] = refl
filter-seated (None ∷ seats) = filter-seated seats
filter-seated (Some p ∷ seats) = ap (λ ss. Some p ∷ ss) (filter-seated seats)

-- counts that agree at each block, where there are no fewer
pub counted-cover : (seats : Row) (old new : List ℕ) (empty : ℕ) → AreCounted seats old empty → ((b : ℕ) → get_or new b 0 ≡ get_or old b 0) → length old ≤ length new → AreCounted seats new empty
counted-cover seats old new empty h same more = record {
  gaps = h.gaps;
  covered = let k = h.covered in omega arith;
  counted = λ b. ap (λ n. n + before seats (64 * b)) (same b) ∙ h.counted b;
}

pub counted-push : (seats : Row) (counts : List ℕ) (empty : ℕ) (p : Prop) → AreCounted seats counts empty → length seats < 64 * length counts
    → AreCounted (seats ++ Some p ∷ []) (set counts (length seats / 64) (get_or counts (length seats / 64) 0 + 1)) empty
counted-push seats counts empty p h room = record {
  gaps = let e = ap length (seated-push seats p) in let f = length_push (seated seats) p in let g = length_push seats (Some p) in let k = h.gaps in omega arith;
  covered = let e = length-set counts (length seats / 64) (get_or counts (length seats / 64) 0 + 1) in let g = length_push seats (Some p) in omega arith;
  counted = λ b. by b (cases_eq b (length seats / 64));
}
  where
    by : (b : ℕ) → (b ≡ length seats / 64) ⊎ (b ≡ length seats / 64 → ⊥)
        → get_or (set counts (length seats / 64) (get_or counts (length seats / 64) 0 + 1)) b 0 + before (seats ++ Some p ∷ []) (64 * b) ≡ before (seats ++ Some p ∷ []) (64 * (b + 1))
    by b (inl is) =
        let block : length seats / 64 < length counts = omega arith in
        let now : get_or (set counts (length seats / 64) (get_or counts (length seats / 64) 0 + 1)) b 0 ≡ get_or counts b 0 + 1 =
        subst (λ n. get_or (set counts (length seats / 64) (get_or counts (length seats / 64) 0 + 1)) n 0 ≡ get_or counts n 0 + 1) (sym is)
        (get_or-set_same counts (length seats / 64) (get_or counts (length seats / 64) 0 + 1) 0 block) in
        let within = before-push_within seats p (64 * b) (omega arith) in
        let past = before-push_past seats p (64 * (b + 1)) (omega arith) in
        let was = h.counted b in
        omega arith
    by b (inr apart) =
        let now = get_or-set_other counts (length seats / 64) b (get_or counts (length seats / 64) 0 + 1) 0 apart in
        let was = h.counted b in
        elim (cases_lt b (length seats / 64)) [
          | inl less ↦ (let first = before-push_within seats p (64 * b) (omega arith) in let second = before-push_within seats p (64 * (b + 1)) (omega arith) in omega arith)
          | inr more ↦ (let over : length seats < 64 * b = omega arith in let first = before-push_past seats p (64 * b) over in let second = before-push_past seats p (64 * (b + 1)) (omega arith) in omega arith)
        ]

pub counted-set : (seats : Row) (counts : List ℕ) (empty s : ℕ) (q p : Prop) → prop_seated seats s ≡ Some q → AreCounted seats counts empty → AreCounted (set seats s (Some p)) counts empty
counted-set seats counts empty s q p at h = record {
  gaps = let e = length-set_seat seats s q p at in let f = length-set seats s (Some p) in let k = h.gaps in omega arith;
  covered = let f = length-set seats s (Some p) in let k = h.covered in omega arith;
  counted = λ b. ap (λ n. get_or counts b 0 + n) (before-set seats s (64 * b) q p at) ∙ h.counted b ∙ sym (before-set seats s (64 * (b + 1)) q p at);
}

-- the block of a seat in which a property stands counts it
pub counted-some : (seats : Row) (counts : List ℕ) (empty s : ℕ) (p : Prop) → prop_seated seats s ≡ Some p → AreCounted seats counts empty → 0 < get_or counts (s / 64) 0
counted-some seats counts empty s p at h =
    let next = before-next seats s in
    let stands : one (prop_seated seats s) ≡ 1 = ap one at in
    let first = before-later seats (64 * (s / 64)) s (omega arith) in
    let last = before-later seats (s + 1) (64 * (s / 64 + 1)) (omega arith) in
    let counted = h.counted (s / 64) in
    omega arith

pub counted-clear : (seats : Row) (counts : List ℕ) (empty s : ℕ) (p : Prop) → prop_seated seats s ≡ Some p → AreCounted seats counts empty → s / 64 < length counts
    → AreCounted (set seats s None) (set counts (s / 64) (get_or counts (s / 64) 0 - 1)) (empty + 1)
counted-clear seats counts empty s p at h room = record {
  gaps = let e = length-clear seats s p at in let f = length-set seats s None in let k = h.gaps in omega arith;
  covered = let e = length-set counts (s / 64) (get_or counts (s / 64) 0 - 1) in let f = length-set seats s None in let k = h.covered in omega arith;
  counted = λ b. by b (cases_eq b (s / 64));
}
  where
    by : (b : ℕ) → (b ≡ s / 64) ⊎ (b ≡ s / 64 → ⊥)
        → get_or (set counts (s / 64) (get_or counts (s / 64) 0 - 1)) b 0 + before (set seats s None) (64 * b) ≡ before (set seats s None) (64 * (b + 1))
    by b (inl is) =
        let now : get_or (set counts (s / 64) (get_or counts (s / 64) 0 - 1)) b 0 ≡ get_or counts b 0 - 1 =
        subst (λ n. get_or (set counts (s / 64) (get_or counts (s / 64) 0 - 1)) n 0 ≡ get_or counts n 0 - 1) (sym is)
        (get_or-set_same counts (s / 64) (get_or counts (s / 64) 0 - 1) 0 room) in
        let within = before-clear_within seats s (64 * b) (omega arith) in
        let past = before-clear_past seats s (64 * (b + 1)) p at (omega arith) in
        let was = h.counted b in
        let some = subst (λ n. 0 < get_or counts n 0) (sym is) (counted-some seats counts empty s p at h) in
        omega arith
    by b (inr apart) =
        let now = get_or-set_other counts (s / 64) b (get_or counts (s / 64) 0 - 1) 0 apart in
        let was = h.counted b in
        elim (cases_lt b (s / 64)) [
          | inl less ↦ (let first = before-clear_within seats s (64 * b) (omega arith) in let second = before-clear_within seats s (64 * (b + 1)) (omega arith) in omega arith)
          | inr more ↦ (let over : s < 64 * b = omega arith in let first = before-clear_past seats s (64 * b) p at over in let second = before-clear_past seats s (64 * (b + 1)) p at (omega arith) in omega arith)
        ]

-- a new row without empty seats, and counts that are full
pub counted-full : (ps : List Prop) (counts : List ℕ) → FullCounts counts (length ps) → length ps ≤ 64 * length counts → AreCounted (map Some ps) counts 0
counted-full ps counts full room = record {
  gaps = let e = ap length (seated-full ps) in let f = length-map ps Some in omega arith;
  covered = let f = length-map ps Some in omega arith;
  counted = λ b. by b (cases_lt b (length counts));
}
  where
    by : (b : ℕ) → (b < length counts) ⊎ (length counts ≤ b) → get_or counts b 0 + before (map Some ps) (64 * b) ≡ before (map Some ps) (64 * (b + 1))
    by b (inl h) = let first = before-full ps (64 * b) in let second = before-full ps (64 * (b + 1)) in let k = full b h in omega arith
    by b (inr h) = let first = before-full ps (64 * b) in let second = before-full ps (64 * (b + 1)) in let k = get_or_past counts b 0 h in omega arith
