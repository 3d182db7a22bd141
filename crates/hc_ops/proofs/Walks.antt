-- Lemmas on walks along prototypes, each of which leads to null.
use Rattle.std.proofs.Common.{◌≡◌, ℕ, zero, suc, ◌<◌, ◌≤◌, Bool, true, false, eqb, Option, Some, None, option_map, length, refl, sym, ap, subst, ◌∙◌, arith}
use Rattle.std.specs.Prelude.{if◌then◌else◌}
use Rattle.std.proofs.lemmas.Bool.Decides.{Decides-eqb}
use Rattle.hc_value.specs.declared.prop.Prop.{Prop}
use Rattle.hc_table.specs.Changes.{IsThere, reaches_among}
use Rattle.hc_table.specs.World.{World, IsWorld, LeadsToNull, object, props_at, property_of}
use Rattle.hc_ops.specs.declared.walk.Found.{Found}
use Rattle.hc_ops.specs.Found.{found_in}
use Rattle.hc_ops.specs.Nearest.{Nearest, nearest_among, own_or_further}
use Rattle.hc_ops.proofs.Places.{found_in-property}

none : (n : ℕ) (w : World) → LeadsToNull n w None
none zero w = tt
none (suc n) w = tt

more : (n : ℕ) (w : World) (p : Option ℕ) → LeadsToNull n w p → (m : ℕ) → n ≤ m → LeadsToNull m w p
more n w None h m k = none m w
more zero w (Some o) h m k = absurd h
more (suc n) w (Some o) h zero k = absurd (omega arith)
more (suc n) w (Some o) h (suc m) k = (h.0, more n w (object w o).proto h.1 m (omega arith))

-- how many objects a chain passes
abbrev pub passed : ℕ → World → Option ℕ → ℕ
passed n w None = 0
passed zero w (Some o) = 0
passed (suc n) w (Some o) = suc (passed n w (object w o).proto)

passed-none : (n : ℕ) (w : World) → passed n w None ≡ 0
passed-none zero w = refl
passed-none (suc n) w = refl

passed-same : (n m : ℕ) (w : World) (p : Option ℕ) → LeadsToNull n w p → LeadsToNull m w p → passed n w p ≡ passed m w p
passed-same n m w None h k = passed-none n w ∙ sym (passed-none m w)
passed-same zero m w (Some o) h k = absurd h
passed-same (suc n) zero w (Some o) h k = absurd k
passed-same (suc n) (suc m) w (Some o) h k = ap suc (passed-same n m w (object w o).proto h.1 k.1)

pub nearest-none : (n : ℕ) (w : World) (name : ℕ) → nearest_among n w None name ≡ None
nearest-none zero w name = refl
nearest-none (suc n) w name = refl

nearest-same : (n m : ℕ) (w : World) (p : Option ℕ) (name : ℕ) → LeadsToNull n w p → LeadsToNull m w p → nearest_among n w p name ≡ nearest_among m w p name
nearest-same n m w None name h k = nearest-none n w name ∙ sym (nearest-none m w name)
nearest-same zero m w (Some o) name h k = absurd h
nearest-same (suc n) zero w (Some o) name h k = absurd k
nearest-same (suc n) (suc m) w (Some o) name h k =
    ap (own_or_further o (property_of (object w o).props name)) (nearest-same n m w (object w o).proto name h.1 k.1)

pub reaches-none : (n : ℕ) (w : World) (o : ℕ) → reaches_among n w None o ≡ false
reaches-none zero w o = refl
reaches-none (suc n) w o = refl

reaches-same : (n m : ℕ) (w : World) (p : Option ℕ) (o : ℕ) → LeadsToNull n w p → LeadsToNull m w p → reaches_among n w p o ≡ reaches_among m w p o
reaches-same n m w None o h k = reaches-none n w o ∙ sym (reaches-none m w o)
reaches-same zero m w (Some q) o h k = absurd h
reaches-same (suc n) zero w (Some q) o h k = absurd k
reaches-same (suc n) (suc m) w (Some q) o h k =
    ap (λ b. if eqb q o then true else b) (reaches-same n m w (object w q).proto o h.1 k.1)

-- a step of a walk
module _ (w : World) (q : ℕ) where
  next-there : (n : ℕ) → LeadsToNull n w (Some q) → IsThere w (object w q).proto
  next-there zero h = absurd h
  next-there (suc n) h = from n (object w q).proto h.1
    where
      from : (m : ℕ) (p : Option ℕ) → LeadsToNull m w p → IsThere w p
      from m None k = tt
      from zero (Some x) k = absurd k
      from (suc m) (Some x) k = k.0

  fewer : (n : ℕ) → LeadsToNull n w (Some q) → passed n w (object w q).proto < passed n w (Some q)
  fewer zero h = absurd h
  fewer (suc n) h =
      let same = passed-same (suc n) n w (object w q).proto (more n w (object w q).proto h.1 (suc n) (omega arith)) h.1 in
      omega (arith, same)

  absent-goes_on : (n name : ℕ) → LeadsToNull n w (Some q) → property_of (props_at w q) name ≡ None → nearest_among n w (Some q) name ≡ nearest_among n w (object w q).proto name
  absent-goes_on zero name h e = absurd h
  absent-goes_on (suc n) name h e =
      ap (λ p. own_or_further q p (nearest_among n w (object w q).proto name)) e
      ∙ nearest-same n (suc n) w (object w q).proto name h.1 (more n w (object w q).proto h.1 (suc n) (omega arith))

  present-is_nearest : (n name : ℕ) (p : Prop) → 0 < n → property_of (props_at w q) name ≡ Some p → nearest_among n w (Some q) name ≡ Some (record { holder = q; property = p })
  present-is_nearest zero name p h e = absurd (omega arith)
  present-is_nearest (suc n) name p h e = ap (λ x. own_or_further q x (nearest_among n w (object w q).proto name)) e

  other-goes_on : (n o : ℕ) → LeadsToNull n w (Some q) → eqb q o ≡ false → reaches_among n w (Some q) o ≡ reaches_among n w (object w q).proto o
  other-goes_on zero o h e = absurd h
  other-goes_on (suc n) o h e =
      ap (λ b. if b then true else reaches_among n w (object w q).proto o) e
      ∙ reaches-same n (suc n) w (object w q).proto o h.1 (more n w (object w q).proto h.1 (suc n) (omega arith))

  same-is_reached : (n o : ℕ) → 0 < n → eqb q o ≡ true → reaches_among n w (Some q) o ≡ true
  same-is_reached zero o h e = absurd (omega arith)
  same-is_reached (suc n) o h e = ap (λ b. if b then true else reaches_among n w (object w q).proto o) e

-- a step of a walk that stands at an object
module _ (w : World) (at : Option ℕ) (q : ℕ) (is : at ≡ Some q) (at_there : IsThere w at) where
  there : q < length w
  there = subst (IsThere w) is at_there

  pub walk-present : (name : ℕ) (whole : Option Nearest) → nearest_among (length w) w at name ≡ whole → (v : World) → v ≡ w → (found : Found) → Some found ≡ found_in (props_at v q) name → Some (record { holder = q; property = found.property }) ≡ whole
  walk-present name whole rest v same found here =
      let h : q < length w = there in
      let own = ap (option_map (λ (f : Found). f.property)) here ∙ found_in-property (props_at v q) name ∙ ap (λ (x : World). property_of (props_at x q) name) same in
      sym (present-is_nearest w q (length w) name found.property (omega arith) (sym own)) ∙ ap (λ p. nearest_among (length w) w p name) (sym is) ∙ rest

  pub walk-same : (o : ℕ) (whole : Bool) → reaches_among (length w) w at o ≡ whole → q ≡ o → true ≡ whole
  walk-same o whole rest same =
      let h : q < length w = there in
      sym (same-is_reached w q (length w) o (omega arith) ((Decides-eqb q o).1 same)) ∙ ap (λ p. reaches_among (length w) w p o) (sym is) ∙ rest

  module _ (sound : IsWorld w) where
    pub walk-there : IsThere w (object w q).proto
    walk-there = next-there w q (length w) (sound.chains q there)

    pub walk-absent : (name : ℕ) (whole : Option Nearest) → nearest_among (length w) w at name ≡ whole → (v : World) → v ≡ w → None ≡ found_in (props_at v q) name → nearest_among (length w) w (object w q).proto name ≡ whole
    walk-absent name whole rest v same here =
        let own = ap (option_map (λ (f : Found). f.property)) here ∙ found_in-property (props_at v q) name ∙ ap (λ (x : World). property_of (props_at x q) name) same in
        sym (absent-goes_on w q (length w) name (sound.chains q there) (sym own)) ∙ ap (λ p. nearest_among (length w) w p name) (sym is) ∙ rest

    pub walk-other : (o : ℕ) (whole : Bool) → reaches_among (length w) w at o ≡ whole → eqb q o ≡ false → reaches_among (length w) w (object w q).proto o ≡ whole
    walk-other o whole rest other =
        sym (other-goes_on w q (length w) o (sound.chains q there) other) ∙ ap (λ p. reaches_among (length w) w p o) (sym is) ∙ rest

    pub walk-fewer : (u v : World) → u ≡ w → v ≡ w → (next : Option ℕ) → next ≡ (object w q).proto → passed (length u) u next < passed (length v) v at
    walk-fewer u v e k next n =
        let after : passed (length u) u next ≡ passed (length w) w (object w q).proto = ap (λ (x : World). passed (length x) x next) e ∙ ap (passed (length w) w) n in
        let before : passed (length v) v at ≡ passed (length w) w (Some q) = ap (λ (x : World). passed (length x) x at) k ∙ ap (passed (length w) w) is in
        let step : passed (length w) w (object w q).proto < passed (length w) w (Some q) = fewer w q (length w) (sound.chains q there) in
        omega (arith, after, before, step)
