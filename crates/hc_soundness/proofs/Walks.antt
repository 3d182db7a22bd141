-- The way along prototypes to the nearest property of a name.
use Rattle.std.proofs.Common.{◌≡◌, ℕ, zero, suc, Option, Some, None, refl, ap, ◌∙◌, subst}
use Rattle.hc_value.specs.declared.prop.Prop.{Prop}
use Rattle.hc_table.specs.World.{World, LeadsToNull, object, property_of}
use Rattle.hc_ops.specs.Nearest.{own_or_further, nearest_among}

module _ (w : World) (name : ℕ) where
  -- the nearest property from here on is the nearest from there on, however many objects may be passed
  abbrev pub Walks : Option ℕ → Option ℕ → Type 0
  Walks from upto = (n : ℕ) → LeadsToNull n w from → (m : ℕ) × LeadsToNull m w upto × (nearest_among n w from name ≡ nearest_among m w upto name)

  pub walk-still : (at : Option ℕ) → Walks at at
  walk-still at n h = (n, h, refl)

  pub walk-on : (a b c : Option ℕ) → Walks a b → Walks b c → Walks a c
  walk-on a b c f g n h = let x = f n h in let y = g x.0 x.1 in (y.0, y.1, x.2 ∙ y.2)

  -- past an object without the property
  pub walk-past : (o : ℕ) (next : Option ℕ) → property_of (object w o).props name ≡ None → (object w o).proto ≡ next → Walks (Some o) next
  walk-past o next lacks proto zero h = absurd h
  walk-past o next lacks proto (suc n) h = (
    n,
    subst (LeadsToNull n w) proto h.1,
    ap (λ x. own_or_further o x (nearest_among n w (object w o).proto name)) lacks ∙ ap (λ x. nearest_among n w x name) proto,
  )

  -- at an object with the property
  pub nearest-here : (o : ℕ) (p : Prop) → property_of (object w o).props name ≡ Some p → (n : ℕ) → LeadsToNull n w (Some o)
      → nearest_among n w (Some o) name ≡ Some (record { holder = o; property = p })
  nearest-here o p has zero h = absurd h
  nearest-here o p has (suc n) h = ap (λ x. own_or_further o x (nearest_among n w (object w o).proto name)) has

  pub nearest-null : (n : ℕ) → nearest_among n w None name ≡ None
  nearest-null zero = refl
  nearest-null (suc n) = refl
