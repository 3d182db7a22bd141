-- Places of names in lists of properties.
use Rattle.std.proofs.Common.{◌≡◌, ◌≢◌, ℕ, zero, suc, ◌<◌, Bool, true, false, cond, eqb, eqb-true, eq-eqb, List, [], ◌∷◌, Option, Some, None, refl, sym, ap, ◌∙◌, subst, arith}
use Rattle.std.specs.Prelude.{option_map, slice_get}
use Rattle.std.proofs.lemmas.Bool.{eqb-false, ne_eqb}
use Rattle.hc_value.specs.declared.prop.Prop.{Prop}
use Rattle.hc_table.specs.World.{place_of, property_of}
use Rattle.hc_slots.specs.Cases.{some-is}
use Rattle.hc_slots.specs.Listed.{listed}

-- Any list

-- the property that stands at the place of a name is the one of that name
pub property-at : (ps : List Prop) (name i : ℕ) (p : Prop) → place_of ps name ≡ Some i → slice_get ps i ≡ Some p → property_of ps name ≡ Some p
property-at [] name i p e at = let n : ⊥ = cc in absurd n
property-at (q ∷ ps) name i p e at = by (λ j is here. property-at ps name j p is here) (eqb q.name name) e
  where
    rest : ((j : ℕ) → place_of ps name ≡ Some j → slice_get ps j ≡ Some p → property_of ps name ≡ Some p) → (o : Option ℕ) → place_of ps name ≡ o → option_map suc o ≡ Some i → property_of ps name ≡ Some p
    rest on None is e = let n : ⊥ = cc in absurd n
    rest on (Some j) is e = on j is (subst (λ (x : ℕ). slice_get (q ∷ ps) x ≡ Some p) (sym (some-is (suc j) i e)) at)

    by : ((j : ℕ) → place_of ps name ≡ Some j → slice_get ps j ≡ Some p → property_of ps name ≡ Some p) → (b : Bool) → cond b (Some 0) (option_map suc (place_of ps name)) ≡ Some i → cond b (Some q) (property_of ps name) ≡ Some p
    by on true e = subst (λ (x : ℕ). slice_get (q ∷ ps) x ≡ Some p) (sym (some-is 0 i e)) at
    by on false e = rest on (place_of ps name) refl e

-- a name without a place has no property
pub property-none : (ps : List Prop) (name : ℕ) → place_of ps name ≡ None → property_of ps name ≡ None
property-none [] name e = refl
property-none (q ∷ ps) name e = by (λ is. property-none ps name is) (eqb q.name name) e
  where
    rest : (place_of ps name ≡ None → property_of ps name ≡ None) → (o : Option ℕ) → place_of ps name ≡ o → option_map suc o ≡ None → property_of ps name ≡ None
    rest on None is e = on is
    rest on (Some j) is e = let n : ⊥ = cc in absurd n

    by : (place_of ps name ≡ None → property_of ps name ≡ None) → (b : Bool) → cond b (Some 0) (option_map suc (place_of ps name)) ≡ None → cond b (Some q) (property_of ps name) ≡ None
    by on true e = let n : ⊥ = cc in absurd n
    by on false e = rest on (place_of ps name) refl e

-- a property that stands at a place
pub record StandsAt (ps : List Prop) (name i : ℕ) : Type 0 where
  pub property : Prop
  pub at : slice_get ps i ≡ Some property
  pub named : property_of ps name ≡ Some property

-- a name with a place has a property, which stands there
pub place-stands : (ps : List Prop) (name i : ℕ) → place_of ps name ≡ Some i → StandsAt ps name i
place-stands [] name i e = let n : ⊥ = cc in absurd n
place-stands (q ∷ ps) name i e = by (λ j is. place-stands ps name j is) (eqb q.name name) refl e
  where
    next : (b : Bool) → eqb q.name name ≡ b → b ≡ false → (j : ℕ) → suc j ≡ i → StandsAt ps name j → StandsAt (q ∷ ps) name i
    next b is off j same h = record {
      property = h.property;
      at = subst (λ (x : ℕ). slice_get (q ∷ ps) x ≡ Some h.property) same h.at;
      named = ap (λ (c : Bool). cond c (Some q) (property_of ps name)) (is ∙ off) ∙ h.named;
    }

    rest : ((j : ℕ) → place_of ps name ≡ Some j → StandsAt ps name j) → (o : Option ℕ) → eqb q.name name ≡ false → place_of ps name ≡ o → option_map suc o ≡ Some i → StandsAt (q ∷ ps) name i
    rest on None other is e = let n : ⊥ = cc in absurd n
    rest on (Some j) other is e = next false other refl j (some-is (suc j) i e) (on j is)

    by : ((j : ℕ) → place_of ps name ≡ Some j → StandsAt ps name j) → (b : Bool) → eqb q.name name ≡ b → cond b (Some 0) (option_map suc (place_of ps name)) ≡ Some i → StandsAt (q ∷ ps) name i
    by on true is e = record {
      property = q;
      at = subst (λ (x : ℕ). slice_get (q ∷ ps) x ≡ Some q) (some-is 0 i e) refl;
      named = ap (λ (c : Bool). cond c (Some q) (property_of ps name)) is;
    }
    by on false is e = rest on (place_of ps name) is refl e

-- Listed properties

-- lists of the same names have a name at the same place
pub place-same : (f g : ℕ → Prop) (n name : ℕ) → ((k : ℕ) → k < n → (g k).name ≡ (f k).name) → place_of (listed g n) name ≡ place_of (listed f n) name
place-same f g zero name h = refl
place-same f g (suc n) name h =
    ap (λ (x : ℕ). cond (eqb x name) (Some 0) (option_map suc (place_of (listed (λ k. g (suc k)) n) name))) (h 0 (omega arith))
    ∙ ap (λ (o : Option ℕ). cond (eqb (f 0).name name) (Some 0) (option_map suc o)) (place-same (λ k. f (suc k)) (λ k. g (suc k)) n name (λ k lt. h (suc k) (omega arith)))

-- no property of the name
pub place-none : (f : ℕ → Prop) (n name : ℕ) → ((k : ℕ) → k < n → (f k).name ≢ name) → place_of (listed f n) name ≡ None
place-none f zero name h = refl
place-none f (suc n) name h =
    ap (λ (b : Bool). cond b (Some 0) (option_map suc (place_of (listed (λ k. f (suc k)) n) name))) (ne_eqb (f 0).name name (h 0 (omega arith)))
    ∙ ap (option_map suc) (place-none (λ k. f (suc k)) n name (λ k lt. h (suc k) (omega arith)))

-- the i-th property is the first of the name
pub place-found : (f : ℕ → Prop) (n i name : ℕ) → i < n → (f i).name ≡ name → ((k : ℕ) → k < i → (f k).name ≢ name) → place_of (listed f n) name ≡ Some i
place-found f zero i name lt is before = absurd (omega arith)
place-found f (suc n) zero name lt is before =
    ap (λ (b : Bool). cond b (Some 0) (option_map suc (place_of (listed (λ k. f (suc k)) n) name))) (eq-eqb (f 0).name name is)
place-found f (suc n) (suc i) name lt is before =
    ap (λ (b : Bool). cond b (Some 0) (option_map suc (place_of (listed (λ k. f (suc k)) n) name))) (ne_eqb (f 0).name name (before 0 (omega arith)))
    ∙ ap (option_map suc) (place-found (λ k. f (suc k)) n i name (omega arith) is (λ k lower. before (suc k) (omega arith)))

-- and so it is where that is its place
pub record IsFirstOf (f : ℕ → Prop) (n i name : ℕ) : Type 0 where
  pub within : i < n
  pub here : (f i).name ≡ name
  pub before : (k : ℕ) → k < i → (f k).name ≢ name

pub place-first : (f : ℕ → Prop) (n i name : ℕ) → place_of (listed f n) name ≡ Some i → IsFirstOf f n i name
place-first f zero i name e = let n : ⊥ = cc in absurd n
place-first f (suc n) i name e = by (λ j is. place-first (λ k. f (suc k)) n j name is) (eqb (f 0).name name) refl e
  where
    next : (j : ℕ) → (f 0).name ≢ name → IsFirstOf (λ k. f (suc k)) n j name → IsFirstOf f (suc n) (suc j) name
    next j other h = record { within = let w = h.within in omega arith; here = h.here; before = before }
      where
        before : (k : ℕ) → k < suc j → (f k).name ≢ name
        before zero lt = other
        before (suc k) lt = h.before k (omega arith)

    rest : ((j : ℕ) → place_of (listed (λ k. f (suc k)) n) name ≡ Some j → IsFirstOf (λ k. f (suc k)) n j name) → (o : Option ℕ) → (f 0).name ≢ name → place_of (listed (λ k. f (suc k)) n) name ≡ o → option_map suc o ≡ Some i → IsFirstOf f (suc n) i name
    rest on None other is e = let n : ⊥ = cc in absurd n
    rest on (Some j) other is e = subst (λ (x : ℕ). IsFirstOf f (suc n) x name) (some-is (suc j) i e) (next j other (on j is))

    by : ((j : ℕ) → place_of (listed (λ k. f (suc k)) n) name ≡ Some j → IsFirstOf (λ k. f (suc k)) n j name) → (b : Bool) → eqb (f 0).name name ≡ b → cond b (Some 0) (option_map suc (place_of (listed (λ k. f (suc k)) n) name)) ≡ Some i → IsFirstOf f (suc n) i name
    by on true is e =
        subst (λ (x : ℕ). IsFirstOf f (suc n) x name) (some-is 0 i e)
        (record { within = omega arith; here = eqb-true (f 0).name name is; before = λ k lt. absurd (omega arith) })
    by on false is e = rest on (place_of (listed (λ k. f (suc k)) n) name) (eqb-false (f 0).name name is) refl e
