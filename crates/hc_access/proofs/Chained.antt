-- Chains of prototypes, and where names stand on them.
use Rattle.std.proofs.Common.{◌≡◌, ℕ, zero, suc, ◌<◌, ◌≤◌, Bool, true, false, cond, eqb, eqb-true, eq-eqb, List, [], ◌∷◌, Option, Some, None, length, refl, sym, ap, ◌∙◌, subst, arith}
use Rattle.std.specs.Prelude.{IsTrue}
use Rattle.hc_value.specs.declared.prop.Prop.{Prop}
use Rattle.hc_heap.specs.Writes.{Trail}
use Rattle.hc_cells.specs.Chains.{chain_among, has, proto_at}
use Rattle.hc_table.specs.World.{LeadsToNull, World, object, place_of, property_of, props_at}
use Rattle.hc_ops.specs.Nearest.{Nearest, nearest_among, own_or_further}
use Rattle.hc_access.specs.Spots.{Place, own_or_on, place_among}
use Rattle.hc_access.proofs.Places.{place-stands, property-none}

-- Which objects are on a chain

has-first : (q : ℕ) (qs : List ℕ) → IsTrue (has (q ∷ qs) q)
has-first q qs = ap (λ (b : Bool). cond b true (has qs q)) (eq-eqb q q refl)

has-more : (q x : ℕ) (qs : List ℕ) → IsTrue (has qs x) → IsTrue (has (q ∷ qs) x)
has-more q x qs h = by (eqb q x)
  where
    by : (b : Bool) → cond b true (has qs x) ≡ true
    by true = refl
    by false = h

-- two chains along which prototypes agree are one
pub chain-same : (t u : Trail) (ps rs : List (Option ℕ)) (n : ℕ) (at : Option ℕ) → ((q : ℕ) → IsTrue (has (chain_among n t ps at) q) → proto_at u rs q ≡ proto_at t ps q) → chain_among n u rs at ≡ chain_among n t ps at
chain-same t u ps rs zero None same = refl
chain-same t u ps rs (suc n) None same = refl
chain-same t u ps rs zero (Some q) same = refl
chain-same t u ps rs (suc n) (Some q) same =
    let rest = chain_among n t ps (proto_at t ps q) in
    ap (λ (next : Option ℕ). q ∷ chain_among n u rs next) (same q (has-first q rest))
    ∙ ap (λ (xs : List ℕ). q ∷ xs) (chain-same t u ps rs n (proto_at t ps q) (λ x h. same x (has-more q x rest h)))

-- a name stands at the same place where it does so in each object
pub among-same : (w x : World) (qs : List ℕ) (name : ℕ) → ((q : ℕ) → IsTrue (has qs q) → place_of (props_at x q) name ≡ place_of (props_at w q) name) → place_among x qs name ≡ place_among w qs name
among-same w x [] name same = refl
among-same w x (q ∷ qs) name same =
    ap (λ (o : Option ℕ). own_or_on q o (place_among x qs name)) (same q (has-first q qs))
    ∙ ap (own_or_on q (place_of (props_at w q) name)) (among-same w x qs name (λ y h. same y (has-more q y qs h)))

-- The chain of the world's prototypes

-- each object on it is there
module _ (w : World) (t : Trail) (ps : List (Option ℕ)) (same : (q : ℕ) → proto_at t ps q ≡ (object w q).proto) where
  there-by : (b : Bool) (q x : ℕ) (qs : List ℕ) → eqb q x ≡ b → q < length w → (has qs x ≡ true → x < length w) → cond b true (has qs x) ≡ true → x < length w
  there-by true q x qs is lt rest h = let e : q ≡ x = eqb-true q x is in omega (arith, lt, e)
  there-by false q x qs is lt rest h = rest h

  pub chain-there : (n m : ℕ) (at : Option ℕ) (x : ℕ) → LeadsToNull m w at → IsTrue (has (chain_among n t ps at) x) → x < length w
  chain-there zero m None x leads h = let no : false ≡ true = h in absurd (cc)
  chain-there (suc n) m None x leads h = let no : false ≡ true = h in absurd (cc)
  chain-there zero m (Some q) x leads h = let no : false ≡ true = h in absurd (cc)
  chain-there (suc n) zero (Some q) x leads h = absurd leads
  chain-there (suc n) (suc m) (Some q) x leads h =
      there-by (eqb q x) q x (chain_among n t ps (proto_at t ps q)) refl leads.0
      (chain-there n m (proto_at t ps q) x (subst (λ (next : Option ℕ). LeadsToNull m w next) (sym (same q)) leads.1)) h

-- The nearest property

abbrev nearest-by : ℕ → Option Prop → Option Nearest
nearest-by q (Some p) = Some (record { holder = q; property = p })
nearest-by q None = None

-- the property of a name that stands there, with its holder
abbrev pub nearest-at : World → ℕ → Option Place → Option Nearest
nearest-at w name None = None
nearest-at w name (Some at) = nearest-by at.holder (property_of (props_at w at.holder) name)

module _ (w : World) (t : Trail) (ps : List (Option ℕ)) (same : (q : ℕ) → proto_at t ps q ≡ (object w q).proto) (name : ℕ) where
  -- the nearest property on a chain is the one that stands where the name does
  pub nearest-is : (n k : ℕ) (at : Option ℕ) → LeadsToNull n w at → n ≤ k → nearest_among n w at name ≡ nearest-at w name (place_among w (chain_among k t ps at) name)
  nearest-is zero zero None leads le = refl
  nearest-is zero (suc k) None leads le = refl
  nearest-is (suc n) zero None leads le = refl
  nearest-is (suc n) (suc k) None leads le = refl
  nearest-is zero k (Some q) leads le = absurd leads
  nearest-is (suc n) zero (Some q) leads le = absurd (omega arith)
  nearest-is (suc n) (suc k) (Some q) leads le = by (place_of (props_at w q) name) refl
      (subst (λ (at : Option ℕ). nearest_among n w (object w q).proto name ≡ nearest-at w name (place_among w (chain_among k t ps at) name)) (sym (same q))
      (nearest-is n k (object w q).proto leads.1 (omega arith)))
    where
      by : (o : Option ℕ) → place_of (props_at w q) name ≡ o
          → nearest_among n w (object w q).proto name ≡ nearest-at w name (place_among w (chain_among k t ps (proto_at t ps q)) name)
          → own_or_further q (property_of (props_at w q) name) (nearest_among n w (object w q).proto name) ≡ nearest-at w name (own_or_on q o (place_among w (chain_among k t ps (proto_at t ps q)) name))
      by None is next = ap (λ (p : Option Prop). own_or_further q p (nearest_among n w (object w q).proto name)) (property-none (props_at w q) name is) ∙ next
      by (Some i) is next =
          let stands = place-stands (props_at w q) name i is in
          ap (λ (p : Option Prop). own_or_further q p (nearest_among n w (object w q).proto name)) stands.named ∙ sym (ap (nearest-by q) stands.named)

-- a place on a chain is the one of the name at its holder
pub among-placed : (w : World) (qs : List ℕ) (name : ℕ) (at : Place) → place_among w qs name ≡ Some at → place_of (props_at w at.holder) name ≡ Some at.place
among-placed w [] name at e = let n : ⊥ = cc in absurd n
among-placed w (q ∷ qs) name at e = by (λ is. among-placed w qs name at is) (place_of (props_at w q) name) refl e
  where
    by : (place_among w qs name ≡ Some at → place_of (props_at w at.holder) name ≡ Some at.place) → (o : Option ℕ) → place_of (props_at w q) name ≡ o → own_or_on q o (place_among w qs name) ≡ Some at → place_of (props_at w at.holder) name ≡ Some at.place
    by on None is e = on e
    by on (Some i) is e =
        let here : record { holder = q; place = i } ≡ at = cc in
        subst (λ (x : Place). place_of (props_at w x.holder) name ≡ Some x.place) here is
