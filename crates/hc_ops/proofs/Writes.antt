-- Lemmas on writing a property.
use Rattle.std.proofs.Common.{◌≡◌, ℕ, zero, suc, ◌<◌, true, false, List, [], ◌∷◌, Option, Some, None, length, refl, sym, ap, ◌∙◌, arith}
use Rattle.std.specs.Prelude.{if◌then◌else◌, slice_get}
use Rattle.hc_value.specs.declared.prop.Prop.{Prop}
use Rattle.hc_table.specs.World.{World, object, props_at, place_of, property_of, with_props, with_written}
use Rattle.hc_ops.specs.Nearest.{Nearest, nearest, nearest_among, own_or_further}
use Rattle.hc_ops.proofs.Places.{same_some, IsPlace-from_place_of}

get-none : (ps : List Prop) (i : ℕ) → slice_get ps i ≡ None → i < length ps → ⊥
get-none [] i h l = omega arith
get-none (p ∷ ps) zero h l = absurd (cc)
get-none (p ∷ ps) (suc i) h l = get-none ps i h (omega arith)

holder_of : (found : Nearest) (o : ℕ) (p : Prop) → Some found ≡ Some (record { holder = o; property = p }) → found.holder ≡ o
holder_of found o p e = ap (λ (x : Nearest). x.holder) (same_some found (record { holder = o; property = p }) e)

-- an own property is the nearest
module _ (w : World) (o name : ℕ) (there : o < length w) where
  own_first : (n : ℕ) → 0 < n → (p : Prop) → property_of (props_at w o) name ≡ Some p → nearest_among n w (Some o) name ≡ Some (record { holder = o; property = p })
  own_first zero h p e = absurd (omega arith)
  own_first (suc n) h p e = ap (λ x. own_or_further o x (nearest_among n w (object w o).proto name)) e

  pub own-is_nearest : (p : Prop) → property_of (props_at w o) name ≡ Some p → nearest w o name ≡ Some (record { holder = o; property = p })
  own-is_nearest = own_first (length w) (omega arith)

  -- where there is none, or another object holds it, the object lacks the name
  lacks : (found : Option Nearest) → nearest w o name ≡ found → ((p : Prop) → found ≡ Some (record { holder = o; property = p }) → ⊥) → place_of (props_at w o) name ≡ None
  lacks found e other = by (place_of (props_at w o) name) refl
    where
      by : (place : Option ℕ) → place_of (props_at w o) name ≡ place → place ≡ None
      by None k = refl
      by (Some i) k =
          let at = IsPlace-from_place_of name (props_at w o) i k in
          absurd (from (slice_get (props_at w o) i) refl at.property at.within)
        where
          from : (found_there : Option Prop) → slice_get (props_at w o) i ≡ found_there → property_of (props_at w o) name ≡ slice_get (props_at w o) i → i < length (props_at w o) → ⊥
          from (Some p) g at within = other p (sym e ∙ own-is_nearest p (at ∙ g))
          from None g at within = get-none (props_at w o) i g within

  pub lacks-none : nearest w o name ≡ None → place_of (props_at w o) name ≡ None
  lacks-none e = lacks None e (λ p k. absurd (cc))

  pub lacks-other : (found : Nearest) → nearest w o name ≡ Some found → (found.holder ≡ o → ⊥) → place_of (props_at w o) name ≡ None
  lacks-other found e other = lacks (Some found) e (λ p k. other (holder_of found o p k))
