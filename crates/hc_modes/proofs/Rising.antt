-- What a slot holds stays as its field's detail rises.
use Rattle.std.proofs.Common.{◌≡◌, ℕ, Option, Some, None, refl, sym, ap, ◌∙◌, subst}
use Rattle.std.specs.Prelude.{IsTrue, IsSomeAnd}
use Rattle.hc_value.specs.Field.{in_place_of, join_of, joined_class, joined_constness, joined_detail}
use Rattle.hc_value.specs.declared.field.Class.{Class}
use Rattle.hc_value.specs.declared.field.Class.TheVariants.{Any, Of}
use Rattle.hc_value.specs.declared.field.Constness.{Constness}
use Rattle.hc_value.specs.declared.field.Constness.TheVariants.{Const, Mutable}
use Rattle.hc_value.specs.declared.field.Rep.{Rep}
use Rattle.hc_value.specs.declared.field.Rep.TheVariants.{Smi, Wide, HeapObject, Tagged}
use Rattle.hc_value.specs.declared.field.Detail.{Detail}
use Rattle.hc_value.specs.declared.key.Key.{Key}
use Rattle.hc_value.specs.declared.prop.Held.{Held}
use Rattle.hc_value.specs.declared.prop.Kind.{Kind}
use Rattle.hc_value.specs.declared.prop.Kind.TheVariants.{DataProp, AccessorProp}
use Rattle.hc_value.specs.declared.prop.Prop.{Prop}
use Rattle.hc_heap.specs.Lawful.{IsFormOf, RisesTo}
use Rattle.hc_tree.specs.Tree.{tagged_field}
use Rattle.hc_slots.specs.Meaning.{held_in, prop_of}

pub held-rises : (kind : Kind) (a b : Rep) (w : ℕ) → IsTrue (in_place_of a b) → held_in kind b w ≡ held_in kind a w
held-rises AccessorProp a b w h = refl
held-rises DataProp Smi Smi w h = refl
held-rises DataProp Wide Wide w h = refl
held-rises DataProp HeapObject HeapObject w h = refl
held-rises DataProp Tagged Tagged w h = refl
held-rises DataProp Smi Tagged w h = refl
held-rises DataProp HeapObject Tagged w h = refl
held-rises DataProp _ _ w h = let n : ⊥ = cc in absurd n

pub form-rises : (kind : Kind) (a b : Rep) (w : ℕ) → IsTrue (in_place_of a b) → IsFormOf kind a w → IsFormOf kind b w
form-rises AccessorProp a b w h f = f
form-rises DataProp Smi Smi w h f = f
form-rises DataProp Wide Wide w h f = f
form-rises DataProp HeapObject HeapObject w h f = f
form-rises DataProp Tagged Tagged w h f = f
form-rises DataProp Smi Tagged w h f = f
form-rises DataProp HeapObject Tagged w h f = f
form-rises DataProp _ _ w h f = let n : ⊥ = cc in absurd n

-- a property with this key that holds so much
abbrev prop_with : Key → Held → Prop
prop_with key held = record { name = key.name; attrs = key.attrs; held = held }

-- the property stays
prop-with-rises : (key : Option Key) (w : ℕ) (d e : Detail) → RisesTo d e → prop_of key (Some e) w ≡ prop_of key (Some d) w
prop-with-rises None w d e h = refl
prop-with-rises (Some key) w d e h = ap (λ (x : Held). prop_with key x) (held-rises key.kind d.rep e.rep w h.in_place)

pub prop-rises : (key : Option Key) (w : ℕ) (old new : Option Detail) (d : Detail) → old ≡ Some d → IsSomeAnd new (λ e. RisesTo d e) → prop_of key new w ≡ prop_of key old w
prop-rises key w old (Some e) d is h = prop-with-rises key w d e h ∙ ap (λ (x : Option Detail). prop_of key x w) (sym is)
prop-rises key w old None d is h = absurd h

-- a detail that is joined with the one that admits everything
pub join-all : (d : Detail) → joined_detail d tagged_field ≡ tagged_field
join-all d =
    ap (λ (r : Rep). let x : Detail = record { rep = r; constness = joined_constness d.constness Mutable; class = joined_class d.class Any } in x) (reps d.rep)
    ∙ ap (λ (k : Constness). let x : Detail = record { rep = Tagged; constness = k; class = joined_class d.class Any } in x) (constnesses d.constness)
    ∙ ap (λ (k : Class). let x : Detail = record { rep = Tagged; constness = Mutable; class = k } in x) (classes d.class)
  where
    reps : (r : Rep) → join_of r Tagged ≡ Tagged
    reps Smi = refl
    reps Wide = refl
    reps HeapObject = refl
    reps Tagged = refl

    constnesses : (k : Constness) → joined_constness k Mutable ≡ Mutable
    constnesses Const = refl
    constnesses Mutable = refl

    classes : (k : Class) → joined_class k Any ≡ Any
    classes (Of m) = refl
    classes Any = refl

pub form-stays : (kind : Kind) (w : ℕ) (old new : Option Detail) (d : Detail) → old ≡ Some d → IsSomeAnd new (λ e. RisesTo d e) → IsSomeAnd old (λ x. IsFormOf kind x.rep w) → IsSomeAnd new (λ x. IsFormOf kind x.rep w)
form-stays kind w old (Some e) d is h f =
    let here : IsFormOf kind d.rep w = subst (λ (o : Option Detail). IsSomeAnd o (λ x. IsFormOf kind x.rep w)) is f in
    form-rises kind d.rep e.rep w h.in_place here
form-stays kind w old None d is h f = absurd h
