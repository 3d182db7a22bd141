-- Lemmas on lists of properties: places by name, a new last property, another value at a place.
use Rattle.std.proofs.Common.{◌≡◌, ℕ, zero, suc, ◌+◌, ◌<◌, ◌≤◌, Bool, true, false, ◌||◌, cond, not, eqb, ltb, if◌then◌else◌, List, [], ◌∷◌, ◌++◌, Option, Some, None, option_map, length, map, get_or, set, refl, sym, ap, subst, ◌∙◌, true≢false, arith}
use Rattle.std.specs.List.{AllByRecursion, IsDistinct, list_any, position_or_len}
use Rattle.std.proofs.lemmas.Bool.Decides.{nat_tests, Decides-eqb}
use Rattle.std.proofs.lemmas.List.{length-map}
use Rattle.std.proofs.lemmas.Map.Steps.{length-le_from_distinct_below}
use Rattle.hc_value.specs.declared.prop.Held.{Held}
use Rattle.hc_value.specs.declared.prop.Prop.{Prop}
use Rattle.hc_table.specs.Attributes.{IsProper}
use Rattle.hc_table.specs.World.{place_of, holding, held_at, HaveDistinctNames}

-- an absent name is not that of the first property, and is absent from the rest
pub absent_first : (p : Prop) (ps : List Prop) (name : ℕ) → place_of (p ∷ ps) name ≡ None → (eqb p.name name ≡ false) × (place_of ps name ≡ None)
absent_first p ps name h = by (eqb p.name name) (place_of ps name) h
  where
    by : (b : Bool) (rest : Option ℕ) → (if b then Some 0 else option_map suc rest) ≡ None → (b ≡ false) × (rest ≡ None)
    by true rest e = absurd (cc)
    by false (Some i) e = absurd (cc)
    by false None e = (refl, refl)

pub absent_more : (p : Prop) (ps : List Prop) (name : ℕ) → eqb p.name name ≡ false → place_of ps name ≡ None → place_of (p ∷ ps) name ≡ None
absent_more p ps name e h = ap (λ b. if b then Some 0 else option_map suc (place_of ps name)) e ∙ ap (option_map suc) h

eqb-flip : (a b : ℕ) → eqb a b ≡ false → eqb b a ≡ false
eqb-flip a b h = grind (arith, nat_tests)

-- a name stays absent after a property of another name
pub absent-push : (ps : List Prop) (p : Prop) (name : ℕ) → place_of ps name ≡ None → eqb p.name name ≡ false → place_of (ps ++ p ∷ []) name ≡ None
absent-push [] p name h e = absent_more p [] name e h
absent-push (q ∷ ps) p name h e =
    let first = absent_first q ps name h in
    absent_more q (ps ++ p ∷ []) name first.0 (absent-push ps p name first.1 e)

-- names differ after a property of an absent name
pub HaveDistinctNames-push : (ps : List Prop) (p : Prop) → HaveDistinctNames ps → place_of ps p.name ≡ None → HaveDistinctNames (ps ++ p ∷ [])
HaveDistinctNames-push [] p d h = (refl, tt)
HaveDistinctNames-push (q ∷ ps) p d h =
    let first = absent_first q ps p.name h in
    (absent-push ps p q.name d.0 (eqb-flip q.name p.name first.0), HaveDistinctNames-push ps p d.1 first.1)

pub AllByRecursion-push : {X : Type 0} (P : X → Type 0) (xs : List X) (x : X) → AllByRecursion P xs → P x → AllByRecursion P (xs ++ x ∷ [])
AllByRecursion-push P [] x all h = (h, tt)
AllByRecursion-push P (y ∷ xs) x all h = (all.0, AllByRecursion-push P xs x all.1 h)

-- another value leaves each name at its place
pub place_of-held_at : (ps : List Prop) (i : ℕ) (held : Held) (name : ℕ) → place_of (held_at ps i held) name ≡ place_of ps name
place_of-held_at [] i held name = refl
place_of-held_at (p ∷ ps) zero held name = refl
place_of-held_at (p ∷ ps) (suc i) held name = ap (λ o. if eqb p.name name then Some 0 else option_map suc o) (place_of-held_at ps i held name)

pub HaveDistinctNames-held_at : (ps : List Prop) (i : ℕ) (held : Held) → HaveDistinctNames ps → HaveDistinctNames (held_at ps i held)
HaveDistinctNames-held_at [] i held d = tt
HaveDistinctNames-held_at (p ∷ ps) zero held d = d
HaveDistinctNames-held_at (p ∷ ps) (suc i) held d = (place_of-held_at ps i held p.name ∙ d.0, HaveDistinctNames-held_at ps i held d.1)

-- `held_at` writes the property at the place
pub set-held_at : (ps : List Prop) (i : ℕ) (held : Held) (d : Prop) → i < length ps → set ps i (holding (get_or ps i d) held) ≡ held_at ps i held
set-held_at [] i held d h = refl
set-held_at (p ∷ ps) zero held d h = refl
set-held_at (p ∷ ps) (suc i) held d h = ap (λ rest. p ∷ rest) (set-held_at ps i held d (omega arith))

ltb-suc : (n l : ℕ) → ltb (1 + n) (suc l) ≡ ltb n l
ltb-suc n l = grind (arith, nat_tests)

shifted : (b : Bool) (n : ℕ) → cond b (Some (1 + n)) None ≡ option_map suc (cond b (Some n) None)
shifted true n = ap Some (omega arith)
shifted false n = refl

-- `place_of` is `position`
pub place_of-position : (ps : List Prop) (name : ℕ) → cond (ltb (position_or_len (λ p. eqb p.name name) ps) (length ps)) (Some (position_or_len (λ p. eqb p.name name) ps)) None ≡ place_of ps name
place_of-position [] name = refl
place_of-position (p ∷ ps) name = by (eqb p.name name) (position_or_len (λ q. eqb q.name name) ps) (length ps) (place_of ps name) (place_of-position ps name)
  where
    by : (b : Bool) (n l : ℕ) (rest : Option ℕ) → cond (ltb n l) (Some n) None ≡ rest
        → cond (ltb (cond (not b) (1 + n) 0) (suc l)) (Some (cond (not b) (1 + n) 0)) None ≡ (if b then Some 0 else option_map suc rest)
    by true n l rest e = grind (arith, nat_tests)
    by false n l rest e =
        let same : ltb (1 + n) (suc l) ≡ ltb n l = ltb-suc n l in
        ap (λ b. cond b (Some (1 + n)) None) same ∙ shifted (ltb n l) n ∙ ap (option_map suc) e

-- names that differ and have numbers are few
abbrev pub names : List Prop → List ℕ
names ps = map (λ p. p.name) ps

absent_names : (ps : List Prop) (name : ℕ) → place_of ps name ≡ None → AllByRecursion (λ n. eqb name n ≡ false) (names ps)
absent_names [] name h = tt
absent_names (p ∷ ps) name h =
    let first = absent_first p ps name h in
    (eqb-flip p.name name first.0, absent_names ps name first.1)

distinct_names : (ps : List Prop) → HaveDistinctNames ps → IsDistinct eqb (names ps)
unfolding IsDistinct
distinct_names [] d = tt
distinct_names (p ∷ ps) d = (absent_names ps p.name d.0, distinct_names ps d.1)

named_below : (ps : List Prop) → AllByRecursion IsProper ps → (q : ℕ) → list_any (eqb q) (names ps) ≡ true → q < 1048576
named_below [] all q h = absurd (true≢false (sym h))
named_below (p ∷ ps) all q h = by (eqb q p.name) refl (named_below ps all.1 q) h
  where
    by : (b : Bool) → eqb q p.name ≡ b → (list_any (eqb q) (names ps) ≡ true → q < 1048576) → (b || list_any (eqb q) (names ps)) ≡ true → q < 1048576
    by true e rest k = subst (λ n. n < 1048576) (sym ((Decides-eqb q p.name).0 e)) all.0.name
    by false e rest k = rest k

pub length-names : (ps : List Prop) → HaveDistinctNames ps → AllByRecursion IsProper ps → length ps ≤ 1048576
length-names ps d all =
    let few = length-le_from_distinct_below (names ps) 1048576 (distinct_names ps d) (named_below ps all) in
    subst (λ n. n ≤ 1048576) (length-map ps (λ p. p.name)) few
