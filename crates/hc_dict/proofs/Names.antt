-- Lemmas on the names of properties, and on the seats to which they lead.
use Rattle.std.proofs.Common.{◌≡◌, ℕ, zero, suc, ◌+◌, ◌<◌, ◌≤◌, Bool, true, false, ◌||◌, cond, eqb, if◌then◌else◌, map, List, [], ◌∷◌, ◌++◌, Option, Some, None, option_map, is_some, IsSome, length, set, slice_get, take, refl, sym, ap, subst, ◌∙◌, true≢false, arith}
use Rattle.std.specs.Cmp.{nat_eq_equiv}
use Rattle.std.specs.List.{AllByRecursion, IsDistinct, list_any}
use Rattle.std.specs.Map.{lookup}
use Rattle.std.proofs.lemmas.Bool.Decides.{Decides-eqb}
use Rattle.std.proofs.lemmas.List.{length-map, length_push}
use Rattle.std.proofs.lemmas.Map.Steps.{length-le_from_distinct_below}
use Rattle.hc_value.specs.declared.prop.Prop.{Prop}
use Rattle.hc_table.specs.Changes.{name_at, removed_at}
use Rattle.hc_table.specs.Numbers.{IsNameNumber}
use Rattle.hc_table.specs.World.{place_of, HaveDistinctNames}
use Rattle.hc_dict.specs.Dict.{seated, before, prop_seated, seat_of, AreNamed, AreFound, LeadToSeats}
use Rattle.hc_dict.proofs.Row.{Row, seated-few, seated-push, seated-clear, seated-set, seated-at, length-clear, length-set_seat}

abbrev pub HaveNumbers : List Prop → Type 0
HaveNumbers ps = AllByRecursion (λ p. IsNameNumber p.name) ps

eqb-flip : (a b : ℕ) → eqb a b ≡ eqb b a
eqb-flip a b = nat_eq_equiv.symm a b

-- a place that a name has is within, and the name stands there
pub place_of-stands : (ps : List Prop) (name i : ℕ) → place_of ps name ≡ Some i → (name_at ps i ≡ Some name) × (i < length ps)
place_of-stands [] name i h = absurd (cc)
place_of-stands (p ∷ ps) name i h = by (eqb p.name name) refl (place_of ps name) i (place_of-stands ps name) h
  where
    by : (b : Bool) → eqb p.name name ≡ b → (rest : Option ℕ) (j : ℕ) → ((k : ℕ) → rest ≡ Some k → (name_at ps k ≡ Some name) × (k < length ps))
        → (if b then Some 0 else option_map suc rest) ≡ Some j → (name_at (p ∷ ps) j ≡ Some name) × (j < length (p ∷ ps))
    by true same rest zero later e = (ap Some ((Decides-eqb p.name name).0 same), omega arith)
    by true same rest (suc j) later e = absurd (grind arith)
    by false same None j later e = absurd (cc)
    by false same (Some k) zero later e = absurd (grind arith)
    by false same (Some k) (suc j) later e =
        let next : k ≡ j = grind arith in
        let there = later j (ap Some next) in
        (there.0, omega (arith, there.1))

-- a name's place is counted from its seat
pub place_of-seat : (seats : Row) (name : ℕ) → place_of (seated seats) name ≡ option_map (before seats) (seat_of seats name)
place_of-seat [] name = refl
place_of-seat (None ∷ seats) name = by (seat_of seats name) (place_of-seat seats name)
  where
    by : (o : Option ℕ) → place_of (seated seats) name ≡ option_map (before seats) o → place_of (seated seats) name ≡ option_map (before (None ∷ seats)) (option_map suc o)
    by None h = h
    by (Some n) h = h
place_of-seat (Some p ∷ seats) name = by (eqb p.name name) (seat_of seats name) (place_of-seat seats name)
  where
    by : (b : Bool) (o : Option ℕ) → place_of (seated seats) name ≡ option_map (before seats) o
        → (if b then Some 0 else option_map suc (place_of (seated seats) name)) ≡ option_map (before (Some p ∷ seats)) (if b then Some 0 else option_map suc o)
    by true o h = refl
    by false None h = ap (option_map suc) h
    by false (Some n) h = ap (option_map suc) h

pub seat_of-none : (seats : Row) (name : ℕ) → place_of (seated seats) name ≡ None → seat_of seats name ≡ None
seat_of-none seats name h = by (seat_of seats name) (sym (place_of-seat seats name) ∙ h)
  where
    by : (o : Option ℕ) → option_map (before seats) o ≡ None → o ≡ None
    by None h = refl
    by (Some n) h = absurd (cc)

pub seat_of-within : (seats : Row) (name n : ℕ) → seat_of seats name ≡ Some n → n < length seats
seat_of-within [] name n h = absurd (cc)
seat_of-within (None ∷ seats) name n h = by (seat_of seats name) n (seat_of-within seats name) h
  where
    by : (o : Option ℕ) (m : ℕ) → ((k : ℕ) → o ≡ Some k → k < length seats) → option_map suc o ≡ Some m → m < suc (length seats)
    by None m below e = absurd (cc)
    by (Some k) m below e = let same : suc k ≡ m = cc in let less = below k refl in omega arith
seat_of-within (Some p ∷ seats) name n h = by (eqb p.name name) (seat_of seats name) n (seat_of-within seats name) h
  where
    by : (b : Bool) (o : Option ℕ) (m : ℕ) → ((k : ℕ) → o ≡ Some k → k < length seats) → (if b then Some 0 else option_map suc o) ≡ Some m → m < suc (length seats)
    by true o m below e = let same : 0 ≡ m = cc in omega arith
    by false None m below e = absurd (cc)
    by false (Some k) m below e = let same : suc k ≡ m = cc in let less = below k refl in omega arith

-- a property that stands in a seat has a place
pub stands-named : (seats : Row) (s : ℕ) (p : Prop) → prop_seated seats s ≡ Some p → place_of (seated seats) p.name ≡ None → ⊥
stands-named [] s p at h = absurd (cc)
stands-named (None ∷ seats) zero p at h = absurd (cc)
stands-named (Some x ∷ seats) zero p at h = by (eqb x.name p.name) refl h
  where
    by : (b : Bool) → eqb x.name p.name ≡ b → (if b then Some 0 else option_map suc (place_of (seated seats) p.name)) ≡ None → ⊥
    by true same e = absurd (cc)
    by false apart e =
        let is : x ≡ p = cc in
        true≢false (sym ((Decides-eqb x.name p.name).1 (ap (λ (q : Prop). q.name) is)) ∙ apart)
stands-named (None ∷ seats) (suc s) p at h = stands-named seats s p at h
stands-named (Some x ∷ seats) (suc s) p at h = by (eqb x.name p.name) (place_of (seated seats) p.name) (stands-named seats s p at) h
  where
    by : (b : Bool) (o : Option ℕ) → (o ≡ None → ⊥) → (if b then Some 0 else option_map suc o) ≡ None → ⊥
    by true o never e = absurd (cc)
    by false None never e = never refl
    by false (Some k) never e = absurd (cc)

apart_from_absent : (seats : Row) (s : ℕ) (p : Prop) (name : ℕ) → prop_seated seats s ≡ Some p → place_of (seated seats) name ≡ None → eqb name p.name ≡ false
apart_from_absent seats s p name at h = by (eqb name p.name) refl
  where
    by : (b : Bool) → eqb name p.name ≡ b → b ≡ false
    by false e = refl
    by true e =
        let same : name ≡ p.name = (Decides-eqb name p.name).0 e in
        absurd (stands-named seats s p at (subst (λ n. place_of (seated seats) n ≡ None) same h))

-- one more seat at the end
seat_of-push_new : (seats : Row) (p : Prop) (q : ℕ) → seat_of seats q ≡ None → seat_of (seats ++ Some p ∷ []) q ≡ (if eqb p.name q then Some (length seats) else None)
seat_of-push_new [] p q h = refl
seat_of-push_new (None ∷ seats) p q h = by (seat_of seats q) h (eqb p.name q) (seat_of-push_new seats p q)
  where
    by : (o : Option ℕ) → option_map suc o ≡ None → (b : Bool) → (o ≡ None → seat_of (seats ++ Some p ∷ []) q ≡ (if b then Some (length seats) else None))
        → option_map suc (seat_of (seats ++ Some p ∷ []) q) ≡ (if b then Some (suc (length seats)) else None)
    by (Some k) e b rest = absurd (cc)
    by None e true rest = ap (option_map suc) (rest refl)
    by None e false rest = ap (option_map suc) (rest refl)
seat_of-push_new (Some x ∷ seats) p q h = by (eqb x.name q) (seat_of seats q) h (eqb p.name q) (seat_of-push_new seats p q)
  where
    by : (t : Bool) (o : Option ℕ) → (if t then Some 0 else option_map suc o) ≡ None → (b : Bool) → (o ≡ None → seat_of (seats ++ Some p ∷ []) q ≡ (if b then Some (length seats) else None))
        → (if t then Some 0 else option_map suc (seat_of (seats ++ Some p ∷ []) q)) ≡ (if b then Some (suc (length seats)) else None)
    by true o e b rest = absurd (cc)
    by false (Some k) e b rest = absurd (cc)
    by false None e true rest = ap (option_map suc) (rest refl)
    by false None e false rest = ap (option_map suc) (rest refl)

seat_of-push_old : (seats : Row) (p : Prop) (q n : ℕ) → seat_of seats q ≡ Some n → seat_of (seats ++ Some p ∷ []) q ≡ Some n
seat_of-push_old [] p q n h = absurd (cc)
seat_of-push_old (None ∷ seats) p q n h = by (seat_of seats q) (seat_of-push_old seats p q) h
  where
    by : (o : Option ℕ) → ((k : ℕ) → o ≡ Some k → seat_of (seats ++ Some p ∷ []) q ≡ Some k) → option_map suc o ≡ Some n → option_map suc (seat_of (seats ++ Some p ∷ []) q) ≡ Some n
    by None rest e = absurd (cc)
    by (Some k) rest e = ap (option_map suc) (rest k refl) ∙ e
seat_of-push_old (Some x ∷ seats) p q n h = by (eqb x.name q) (seat_of seats q) (seat_of-push_old seats p q) h
  where
    by : (b : Bool) (o : Option ℕ) → ((k : ℕ) → o ≡ Some k → seat_of (seats ++ Some p ∷ []) q ≡ Some k) → (if b then Some 0 else option_map suc o) ≡ Some n
        → (if b then Some 0 else option_map suc (seat_of (seats ++ Some p ∷ []) q)) ≡ Some n
    by true o rest e = e
    by false None rest e = absurd (cc)
    by false (Some k) rest e = ap (option_map suc) (rest k refl) ∙ e

pub lead-push : (seats : Row) (p : Prop) (old new : List (ℕ × ℕ)) → LeadToSeats old seats → seat_of seats p.name ≡ None
    → ((q : ℕ) → lookup (eqb q) new ≡ cond (eqb p.name q) (Some (length seats)) (lookup (eqb q) old)) → LeadToSeats new (seats ++ Some p ∷ [])
lead-push seats p old new lead absent updates q = updates q ∙ ap (cond (eqb p.name q) (Some (length seats))) (lead q) ∙ sym (by (eqb p.name q) refl (seat_of seats q) refl)
  where
    by : (b : Bool) → eqb p.name q ≡ b → (o : Option ℕ) → seat_of seats q ≡ o → seat_of (seats ++ Some p ∷ []) q ≡ cond b (Some (length seats)) o
    by true same o e =
        let is : p.name ≡ q = (Decides-eqb p.name q).0 same in
        seat_of-push_new seats p q (subst (λ n. seat_of seats n ≡ None) is absent) ∙ ap (λ b. if b then Some (length seats) else None) same
    by false apart None e = seat_of-push_new seats p q e ∙ ap (λ b. if b then Some (length seats) else None) apart
    by false apart (Some n) e = seat_of-push_old seats p q n e

-- a seat that is emptied
seat_of-clear : (seats : Row) (s : ℕ) (p : Prop) (q : ℕ) → prop_seated seats s ≡ Some p → HaveDistinctNames (seated seats) → seat_of (set seats s None) q ≡ cond (eqb p.name q) None (seat_of seats q)
seat_of-clear [] s p q at d = absurd (cc)
seat_of-clear (None ∷ seats) zero p q at d = absurd (cc)
seat_of-clear (Some x ∷ seats) zero p q at d =
    let is : x ≡ p = cc in
    subst (λ (y : Prop). seat_of (None ∷ seats) q ≡ cond (eqb y.name q) None (seat_of (Some x ∷ seats) q)) is (by (eqb x.name q) refl)
  where
    by : (b : Bool) → eqb x.name q ≡ b → option_map suc (seat_of seats q) ≡ cond b None (if b then Some 0 else option_map suc (seat_of seats q))
    by true same =
        let name : x.name ≡ q = (Decides-eqb x.name q).0 same in
        ap (option_map suc) (subst (λ n. seat_of seats n ≡ None) name (seat_of-none seats x.name d.0))
    by false apart = refl
seat_of-clear (None ∷ seats) (suc s) p q at d = ap (option_map suc) (seat_of-clear seats s p q at d) ∙ by (eqb p.name q) (seat_of seats q)
  where
    by : (b : Bool) (o : Option ℕ) → option_map suc (cond b None o) ≡ cond b None (option_map suc o)
    by true o = refl
    by false o = refl
seat_of-clear (Some x ∷ seats) (suc s) p q at d = by (eqb x.name q) refl (eqb p.name q) refl (seat_of seats q) (seat_of-clear seats s p q at d.1)
  where
    by : (t : Bool) → eqb x.name q ≡ t → (b : Bool) → eqb p.name q ≡ b → (o : Option ℕ) → seat_of (set seats s None) q ≡ cond b None o
        → (if t then Some 0 else option_map suc (seat_of (set seats s None) q)) ≡ cond b None (if t then Some 0 else option_map suc o)
    by true first true second o rest =
        let one : x.name ≡ q = (Decides-eqb x.name q).0 first in
        let other : p.name ≡ q = (Decides-eqb p.name q).0 second in
        let same : x.name ≡ p.name = cc in
        absurd (true≢false (sym ((Decides-eqb x.name p.name).1 same) ∙ apart_from_absent seats s p x.name at d.0))
    by true first false second o rest = refl
    by false first true second o rest = ap (option_map suc) rest
    by false first false second o rest = ap (option_map suc) rest

pub lead-clear : (seats : Row) (s : ℕ) (p : Prop) (old new : List (ℕ × ℕ)) → LeadToSeats old seats → prop_seated seats s ≡ Some p → HaveDistinctNames (seated seats)
    → ((q : ℕ) → lookup (eqb q) new ≡ cond (eqb p.name q) None (lookup (eqb q) old)) → LeadToSeats new (set seats s None)
lead-clear seats s p old new lead at d updates q = updates q ∙ ap (cond (eqb p.name q) None) (lead q) ∙ sym (seat_of-clear seats s p q at d)

-- another property of the same name in a seat
seat_of-set : (seats : Row) (s : ℕ) (x p : Prop) (q : ℕ) → prop_seated seats s ≡ Some x → x.name ≡ p.name → seat_of (set seats s (Some p)) q ≡ seat_of seats q
seat_of-set [] s x p q at same = refl
seat_of-set (None ∷ seats) zero x p q at same = absurd (cc)
seat_of-set (Some y ∷ seats) zero x p q at same =
    let is : y.name ≡ p.name = (let e : y ≡ x = cc in ap (λ (z : Prop). z.name) e ∙ same) in
    ap (λ n. if eqb n q then Some 0 else option_map suc (seat_of seats q)) (sym is)
seat_of-set (None ∷ seats) (suc s) x p q at same = ap (option_map suc) (seat_of-set seats s x p q at same)
seat_of-set (Some y ∷ seats) (suc s) x p q at same = ap (λ o. if eqb y.name q then Some 0 else option_map suc o) (seat_of-set seats s x p q at same)

pub lead-set : (seats : Row) (s : ℕ) (x p : Prop) (entries : List (ℕ × ℕ)) → prop_seated seats s ≡ Some x → x.name ≡ p.name → LeadToSeats entries seats → LeadToSeats entries (set seats s (Some p))
lead-set seats s x p entries at same lead q = lead q ∙ sym (seat_of-set seats s x p q at same)

-- before its seat a name has none
pub seat_of-before : (seats : Row) (s : ℕ) (p : Prop) → prop_seated seats s ≡ Some p → HaveDistinctNames (seated seats) → seat_of (take s seats) p.name ≡ None
seat_of-before [] s p at d = absurd (cc)
seat_of-before (x ∷ seats) zero p at d = refl
seat_of-before (None ∷ seats) (suc s) p at d = ap (option_map suc) (seat_of-before seats s p at d)
seat_of-before (Some x ∷ seats) (suc s) p at d =
    ap (λ b. if b then Some 0 else option_map suc (seat_of (take s seats) p.name)) (apart_from_absent seats s p x.name at d.0)
    ∙ ap (option_map suc) (seat_of-before seats s p at d.1)

-- where no seat is empty, a property stands in each
pub no_gap_in : (seats : Row) (s : ℕ) → length (seated seats) ≡ length seats → s < length seats → IsSome (prop_seated seats s)
no_gap_in [] s e h = absurd (omega arith)
no_gap_in (None ∷ seats) s e h = absurd (let few = seated-few seats in omega arith)
no_gap_in (Some p ∷ seats) zero e h = refl
no_gap_in (Some p ∷ seats) (suc s) e h = no_gap_in seats s (omega arith) (omega arith)

-- one more property, with a new name
pub named-push : (ps : List Prop) (p : Prop) → AreNamed ps → place_of ps p.name ≡ None → IsNameNumber p.name → AreNamed (ps ++ p ∷ [])
named-push ps p named absent number = record { distinct = differ ps named.distinct absent; numbers = numbered ps named.numbers }
  where
    still_absent : (qs : List Prop) (name : ℕ) → place_of qs name ≡ None → eqb p.name name ≡ false → place_of (qs ++ p ∷ []) name ≡ None
    still_absent [] name h apart = ap (λ b. if b then Some 0 else None) apart
    still_absent (q ∷ qs) name h apart = by (eqb q.name name) (place_of qs name) h (still_absent qs name)
      where
        by : (b : Bool) (o : Option ℕ) → (if b then Some 0 else option_map suc o) ≡ None → (o ≡ None → eqb p.name name ≡ false → place_of (qs ++ p ∷ []) name ≡ None)
            → (if b then Some 0 else option_map suc (place_of (qs ++ p ∷ []) name)) ≡ None
        by true o e rest = absurd (cc)
        by false (Some k) e rest = absurd (cc)
        by false None e rest = ap (option_map suc) (rest refl apart)

    differ : (qs : List Prop) → HaveDistinctNames qs → place_of qs p.name ≡ None → HaveDistinctNames (qs ++ p ∷ [])
    differ [] d h = (refl, tt)
    differ (q ∷ qs) d h = by (eqb q.name p.name) refl (place_of qs p.name) h (differ qs d.1)
      where
        by : (b : Bool) → eqb q.name p.name ≡ b → (o : Option ℕ) → (if b then Some 0 else option_map suc o) ≡ None → (o ≡ None → HaveDistinctNames (qs ++ p ∷ [])) → HaveDistinctNames (q ∷ (qs ++ p ∷ []))
        by true same o e rest = absurd (cc)
        by false apart (Some k) e rest = absurd (cc)
        by false apart None e rest = (still_absent qs q.name d.0 (eqb-flip p.name q.name ∙ apart), rest refl)

    numbered : (qs : List Prop) → HaveNumbers qs → HaveNumbers (qs ++ p ∷ [])
    numbered [] all = (number, tt)
    numbered (q ∷ qs) all = (all.0, numbered qs all.1)

-- one property fewer
pub named-removed : (ps : List Prop) (i : ℕ) → AreNamed ps → AreNamed (removed_at ps i)
named-removed ps i named = record { distinct = differ ps i named.distinct; numbers = numbered ps i named.numbers }
  where
    still_absent : (qs : List Prop) (j name : ℕ) → place_of qs name ≡ None → place_of (removed_at qs j) name ≡ None
    still_absent [] j name h = refl
    still_absent (q ∷ qs) zero name h = by (eqb q.name name) (place_of qs name) h
      where
        by : (b : Bool) (o : Option ℕ) → (if b then Some 0 else option_map suc o) ≡ None → o ≡ None
        by true o e = absurd (cc)
        by false (Some k) e = absurd (cc)
        by false None e = refl
    still_absent (q ∷ qs) (suc j) name h = by (eqb q.name name) (place_of qs name) h (still_absent qs j name)
      where
        by : (b : Bool) (o : Option ℕ) → (if b then Some 0 else option_map suc o) ≡ None → (o ≡ None → place_of (removed_at qs j) name ≡ None)
            → (if b then Some 0 else option_map suc (place_of (removed_at qs j) name)) ≡ None
        by true o e rest = absurd (cc)
        by false (Some k) e rest = absurd (cc)
        by false None e rest = ap (option_map suc) (rest refl)

    differ : (qs : List Prop) (j : ℕ) → HaveDistinctNames qs → HaveDistinctNames (removed_at qs j)
    differ [] j d = tt
    differ (q ∷ qs) zero d = d.1
    differ (q ∷ qs) (suc j) d = (still_absent qs j q.name d.0, differ qs j d.1)

    numbered : (qs : List Prop) (j : ℕ) → HaveNumbers qs → HaveNumbers (removed_at qs j)
    numbered [] j all = tt
    numbered (q ∷ qs) zero all = all.1
    numbered (q ∷ qs) (suc j) all = (all.0, numbered qs j all.1)

-- another property of the same name at a place
place_of-set : (ps : List Prop) (i : ℕ) (p : Prop) (name : ℕ) → name_at ps i ≡ Some p.name → place_of (set ps i p) name ≡ place_of ps name
place_of-set [] i p name h = refl
place_of-set (q ∷ ps) zero p name h =
    let same : q.name ≡ p.name = cc in
    ap (λ n. if eqb n name then Some 0 else option_map suc (place_of ps name)) (sym same)
place_of-set (q ∷ ps) (suc i) p name h = ap (λ o. if eqb q.name name then Some 0 else option_map suc o) (place_of-set ps i p name h)

pub named-set : (ps : List Prop) (i : ℕ) (p : Prop) → name_at ps i ≡ Some p.name → AreNamed ps → AreNamed (set ps i p)
named-set ps i p h named = record { distinct = differ ps i h named.distinct; numbers = numbered ps i h named.numbers }
  where
    differ : (qs : List Prop) (j : ℕ) → name_at qs j ≡ Some p.name → HaveDistinctNames qs → HaveDistinctNames (set qs j p)
    differ [] j at d = tt
    differ (q ∷ qs) zero at d =
        let same : q.name ≡ p.name = cc in
        (subst (λ n. place_of qs n ≡ None) same d.0, d.1)
    differ (q ∷ qs) (suc j) at d = (place_of-set qs j p q.name at ∙ d.0, differ qs j at d.1)

    numbered : (qs : List Prop) (j : ℕ) → name_at qs j ≡ Some p.name → HaveNumbers qs → HaveNumbers (set qs j p)
    numbered [] j at all = tt
    numbered (q ∷ qs) zero at all =
        let same : q.name ≡ p.name = cc in
        (subst IsNameNumber same all.0, all.1)
    numbered (q ∷ qs) (suc j) at all = (all.0, numbered qs j at all.1)

-- the property at a place has the number of a name
pub number_at : (ps : List Prop) (i : ℕ) (p : Prop) → HaveNumbers ps → slice_get ps i ≡ Some p → IsNameNumber p.name
number_at [] i p all h = absurd (cc)
number_at (q ∷ ps) zero p all h =
    let same : q ≡ p = cc in
    subst (λ (x : Prop). IsNameNumber x.name) same all.0
number_at (q ∷ ps) (suc i) p all h = number_at ps i p all.1 h

-- names that differ and have numbers are few
absent_name : (ps : List Prop) (name : ℕ) → place_of ps name ≡ None → AllByRecursion (λ n. eqb name n ≡ false) (map (λ (p : Prop). p.name) ps)
absent_name [] name h = tt
absent_name (q ∷ ps) name h = by (eqb q.name name) refl (place_of ps name) h (absent_name ps name)
  where
    by : (b : Bool) → eqb q.name name ≡ b → (o : Option ℕ) → (if b then Some 0 else option_map suc o) ≡ None → (o ≡ None → AllByRecursion (λ n. eqb name n ≡ false) (map (λ (p : Prop). p.name) ps))
        → AllByRecursion (λ n. eqb name n ≡ false) (map (λ (p : Prop). p.name) (q ∷ ps))
    by true same o e rest = absurd (cc)
    by false apart (Some k) e rest = absurd (cc)
    by false apart None e rest = (eqb-flip name q.name ∙ apart, rest refl)

distinct_names : (ps : List Prop) → HaveDistinctNames ps → IsDistinct eqb (map (λ (p : Prop). p.name) ps)
unfolding IsDistinct
distinct_names [] d = tt
distinct_names (p ∷ ps) d = (absent_name ps p.name d.0, distinct_names ps d.1)

named_below : (ps : List Prop) → HaveNumbers ps → (q : ℕ) → list_any (eqb q) (map (λ (p : Prop). p.name) ps) ≡ true → q < 1048576
named_below [] all q h = absurd (true≢false (sym h))
named_below (p ∷ ps) all q h = by (eqb q p.name) refl (named_below ps all.1 q) h
  where
    by : (b : Bool) → eqb q p.name ≡ b → (list_any (eqb q) (map (λ (p : Prop). p.name) ps) ≡ true → q < 1048576) → (b || list_any (eqb q) (map (λ (p : Prop). p.name) ps)) ≡ true → q < 1048576
    by true same rest k = subst (λ n. n < 1048576) (sym ((Decides-eqb q p.name).0 same)) all.0
    by false same rest k = rest k

pub few_names : (ps : List Prop) → AreNamed ps → length ps ≤ 1048576
few_names ps named =
    let few = length-le_from_distinct_below (map (λ (p : Prop). p.name) ps) 1048576 (distinct_names ps named.distinct) (named_below ps named.numbers) in
    subst (λ n. n ≤ 1048576) (length-map ps (λ p. p.name)) few

-- what holds of a dictionary after each change
pub found-push : (seats : Row) (p : Prop) (old new : List (ℕ × ℕ)) → AreFound seats old → place_of (seated seats) p.name ≡ None → IsNameNumber p.name
    → ((q : ℕ) → lookup (eqb q) new ≡ cond (eqb p.name q) (Some (length seats)) (lookup (eqb q) old)) → length new ≡ length old + 1 → AreFound (seats ++ Some p ∷ []) new
found-push seats p old new h absent number updates more = record {
  named = subst AreNamed (sym (seated-push seats p)) (named-push (seated seats) p h.named absent number);
  found = lead-push seats p old new h.found (seat_of-none seats p.name absent) updates;
  as_many = let e = ap length (seated-push seats p) in let f = length_push (seated seats) p in let k = h.as_many in omega arith;
}

pub seat_of-some : (seats : Row) (s : ℕ) (p : Prop) → prop_seated seats s ≡ Some p → is_some (seat_of seats p.name) ≡ true
seat_of-some seats s p at = by (seat_of seats p.name) refl
  where
    by : (o : Option ℕ) → seat_of seats p.name ≡ o → is_some o ≡ true
    by None e = absurd (stands-named seats s p at (place_of-seat seats p.name ∙ ap (option_map (before seats)) e))
    by (Some n) e = refl

pub found-clear : (seats : Row) (s : ℕ) (p : Prop) (old new : List (ℕ × ℕ)) → AreFound seats old → prop_seated seats s ≡ Some p
    → ((q : ℕ) → lookup (eqb q) new ≡ cond (eqb p.name q) None (lookup (eqb q) old))
    → length new + (if is_some (lookup (eqb p.name) old) then 1 else 0) ≡ length old → AreFound (set seats s None) new
found-clear seats s p old new h at updates fewer = record {
  named = subst AreNamed (sym (seated-clear seats s p at)) (named-removed (seated seats) (before seats s) h.named);
  found = lead-clear seats s p old new h.found at h.named.distinct updates;
  as_many =
      let there : is_some (lookup (eqb p.name) old) ≡ true = ap is_some (h.found p.name) ∙ seat_of-some seats s p at in
      let one_fewer : length new + 1 ≡ length old = sym (ap (λ b. length new + (if b then 1 else 0)) there) ∙ fewer in
      let e = length-clear seats s p at in let k = h.as_many in omega arith;
}

pub found-set : (seats : Row) (s : ℕ) (q p : Prop) (entries : List (ℕ × ℕ)) → AreFound seats entries → prop_seated seats s ≡ Some q → q.name ≡ p.name → AreFound (set seats s (Some p)) entries
found-set seats s q p entries h at same = record {
  named =
      let stands : name_at (seated seats) (before seats s) ≡ Some p.name = ap (option_map (λ (x : Prop). x.name)) (seated-at seats s q at) ∙ ap Some same in
      subst AreNamed (sym (seated-set seats s q p at)) (named-set (seated seats) (before seats s) p stands h.named);
  found = lead-set seats s q p entries at same h.found;
  as_many = h.as_many ∙ sym (length-set_seat seats s q p at);
}

-- a name that was put in and taken out again
pub found-undone : (seats : Row) (p : Prop) (n : ℕ) (old between new : List (ℕ × ℕ)) → AreFound seats old → place_of (seated seats) p.name ≡ None
    → ((q : ℕ) → lookup (eqb q) between ≡ cond (eqb p.name q) (Some n) (lookup (eqb q) old)) → ((q : ℕ) → lookup (eqb q) new ≡ cond (eqb p.name q) None (lookup (eqb q) between))
    → length new ≡ length old → AreFound seats new
found-undone seats p n old between new h absent put taken same = record {
  named = h.named;
  found = λ q. taken q ∙ ap (cond (eqb p.name q) None) (put q) ∙ by q (eqb p.name q) refl;
  as_many = same ∙ h.as_many;
}
  where
    by : (q : ℕ) (b : Bool) → eqb p.name q ≡ b → cond b None (cond b (Some n) (lookup (eqb q) old)) ≡ seat_of seats q
    by q true e = let is : p.name ≡ q = (Decides-eqb p.name q).0 e in sym (subst (λ m. seat_of seats m ≡ None) is (seat_of-none seats p.name absent))
    by q false e = h.found q
