-- Lemmas on an object's own property of a name.
use Rattle.std.proofs.Common.{◌≡◌, ℕ, zero, suc, ◌<◌, Bool, true, false, eqb, if◌then◌else◌, Option, Some, None, option_map, List, [], ◌∷◌, ◌++◌, ◌+◌, length, map, take, refl, sym, ap, subst, ◌∙◌, arith}
use Rattle.std.specs.Prelude.{slice_get}
use Rattle.std.proofs.lemmas.Bool.Decides.{Decides-eqb}
use Rattle.hc_value.specs.declared.value.Value.{Value}
use Rattle.hc_value.specs.declared.prop.Held.TheVariants.{Datum}
use Rattle.hc_value.specs.declared.prop.Prop.{Prop}
use Rattle.hc_table.specs.World.{place_of, property_of, holding, held_at}
use Rattle.hc_ops.specs.declared.walk.Found.{Found}
use Rattle.hc_ops.specs.Found.{found_in, further}

pub same_some : {X : Type 0} (x y : X) → Some x ≡ Some y → x ≡ y
same_some x y e = cc

-- what a place by name says of the list
module _ (name : ℕ) where
  absent : (p : Prop) (ps : List Prop) → place_of (p ∷ ps) name ≡ None → (eqb p.name name ≡ false) × (place_of ps name ≡ None)
  absent p ps h = by (eqb p.name name) (place_of ps name) h
    where
      by : (b : Bool) (rest : Option ℕ) → (if b then Some 0 else option_map suc rest) ≡ None → (b ≡ false) × (rest ≡ None)
      by true rest e = absurd (cc)
      by false (Some i) e = absurd (cc)
      by false None e = (refl, refl)

  pub property_of-absent : (ps : List Prop) → place_of ps name ≡ None → property_of ps name ≡ None
  property_of-absent [] h = refl
  property_of-absent (p ∷ ps) h =
      let no = absent p ps h in
      ap (λ b. if b then Some p else property_of ps name) no.0 ∙ property_of-absent ps no.1

  pub found_in-absent : (ps : List Prop) → place_of ps name ≡ None → found_in ps name ≡ None
  found_in-absent [] h = refl
  found_in-absent (p ∷ ps) h =
      let no = absent p ps h in
      let first : Option Found = Some (record { place = 0; property = p }) in
      ap (λ b. if b then first else option_map further (found_in ps name)) no.0 ∙ ap (option_map further) (found_in-absent ps no.1)

  -- a place of a name is within the list, and has the property of that name
  pub record IsPlace (ps : List Prop) (i : ℕ) : Type 0 where
    pub within : i < length ps
    pub property : property_of ps name ≡ slice_get ps i
    pub found : (p : Prop) → slice_get ps i ≡ Some p → found_in ps name ≡ Some (record { place = i; property = p })
    pub named : (p : Prop) → slice_get ps i ≡ Some p → p.name ≡ name

  pub IsPlace-from_place_of : (ps : List Prop) (i : ℕ) → place_of ps name ≡ Some i → IsPlace ps i
  IsPlace-from_place_of [] i h = absurd (cc)
  IsPlace-from_place_of (p ∷ ps) i h = by (eqb p.name name) refl (place_of ps name) h (λ j e. IsPlace-from_place_of ps j e)
    where
      first : eqb p.name name ≡ true → IsPlace (p ∷ ps) 0
      first e = record {
        within = omega arith;
        property = ap (λ b. if b then Some p else property_of ps name) e;
        found = λ q at.
            let here : Prop → Option Found = λ x. Some (record { place = 0; property = x }) in
            ap (λ b. if b then here p else option_map further (found_in ps name)) e ∙ ap here (same_some p q at);
        named = λ q at. ap (λ (x : Prop). x.name) (sym (same_some p q at)) ∙ (Decides-eqb p.name name).0 e;
      }

      later : eqb p.name name ≡ false → (j : ℕ) → IsPlace ps j → IsPlace (p ∷ ps) (suc j)
      later e j place = record {
        within = omega (arith, place.within);
        property = ap (λ b. if b then Some p else property_of ps name) e ∙ place.property;
        found = λ q at.
            let here : Option Found = Some (record { place = 0; property = p }) in
            ap (λ b. if b then here else option_map further (found_in ps name)) e ∙ ap (option_map further) (place.found q at);
        named = place.named;
      }

      by : (b : Bool) → eqb p.name name ≡ b → (rest : Option ℕ) → (if b then Some 0 else option_map suc rest) ≡ Some i → ((j : ℕ) → rest ≡ Some j → IsPlace ps j) → IsPlace (p ∷ ps) i
      by true e rest k r = subst (IsPlace (p ∷ ps)) (same_some 0 i k) (first e)
      by false e None k r = absurd (cc)
      by false e (Some j) k r = subst (IsPlace (p ∷ ps)) (same_some (suc j) i k) (later e j (r j refl))

-- an item at a place is within the list
pub within-get : (ps : List Prop) (i : ℕ) (p : Prop) → slice_get ps i ≡ Some p → i < length ps
within-get [] i p h = absurd (cc)
within-get (q ∷ ps) zero p h = omega arith
within-get (q ∷ ps) (suc i) p h = let rest = within-get ps i p h in omega arith

-- the own property, without its place
pub found_in-property : (ps : List Prop) (name : ℕ) → option_map (λ (f : Found). f.property) (found_in ps name) ≡ property_of ps name
found_in-property [] name = refl
found_in-property (p ∷ ps) name = by (eqb p.name name) (found_in ps name) (property_of ps name) (found_in-property ps name)
  where
    by : (b : Bool) (rest : Option Found) (more : Option Prop) → option_map (λ (f : Found). f.property) rest ≡ more → option_map (λ (f : Found). f.property) (if b then Some (record { place = 0; property = p }) else option_map further rest) ≡ (if b then Some p else more)
    by true rest more e = refl
    by false None more e = e
    by false (Some f) more e = e

-- one name more
names-suc : (ps : List Prop) (i : ℕ) (p : Prop) → slice_get ps i ≡ Some p → map (λ (q : Prop). q.name) (take i ps) ++ p.name ∷ [] ≡ map (λ (q : Prop). q.name) (take (suc i) ps)
names-suc [] i p h = absurd (cc)
names-suc (q ∷ ps) zero p h = ap (λ (x : Prop). x.name ∷ []) (sym (same_some q p h))
names-suc (q ∷ ps) (suc i) p h = ap (λ rest. q.name ∷ rest) (names-suc ps i p h)

pub names-next : (ps : List Prop) (i : ℕ) (p : Prop) → slice_get ps i ≡ Some p → map (λ (q : Prop). q.name) (take i ps) ++ p.name ∷ [] ≡ map (λ (q : Prop). q.name) (take (i + 1) ps)
names-next ps i p h =
    let next : suc i ≡ i + 1 = omega arith in
    names-suc ps i p h ∙ ap (λ n. map (λ (q : Prop). q.name) (take n ps)) next
