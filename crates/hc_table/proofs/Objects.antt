-- Lemmas on the lists by which `Plain` keeps its objects.
use Rattle.std.proofs.Common.{◌≡◌, ℕ, ◌<◌, List, length, map, get_or, set, sym, ap, subst, ◌∙◌}
use Rattle.std.proofs.lemmas.List.{get_or-map, map-set, length-map}
use Rattle.std.proofs.Math.Seq.{map-set_same}
use Rattle.std.specs.Prelude.{Result, OnOk, OnErr}
use Rattle.std.specs.declared.result.Result.TheVariants.{Ok, Err}
use Rattle.hc_table.specs.declared.plain.PlainObject.{PlainObject}
use Rattle.hc_table.specs.Plain.{object_of}
use Rattle.hc_table.specs.World.{Object, object, props_at}

-- what follows from success and from failure follows
pub either : {A E P Q C : Type 0} (r : Result A E) → OnOk r P → OnErr r Q → (P → C) → (Q → C) → C
either (Ok x) p q f g = f p
either (Err e) p q f g = g q

module _ (objects : List PlainObject) (o : ℕ) (x : PlainObject) (at : x ≡ get_or objects o x) (h : o < length (map object_of objects)) where
  within : o < length objects
  within = subst (λ n. o < n) (length-map objects object_of) h

  -- the object that stands at a place
  pub object-kept : object (map object_of objects) o ≡ object_of x
  object-kept = get_or-map object_of objects o x _ within ∙ ap object_of (sym at)

  pub props_at-kept : props_at (map object_of objects) o ≡ x.props.items
  props_at-kept = ap (λ y. y.props) object-kept

  -- the world after a change of that object
  pub world-changed : (y : PlainObject) (change : Object → Object) → object_of y ≡ change (object_of x) → map object_of (set objects o y) ≡ set (map object_of objects) o (change (object (map object_of objects) o))
  world-changed y change e =
      map-set object_of objects o y ∙ ap (set (map object_of objects) o) (e ∙ ap change (sym object-kept))

  pub world-same : (y : PlainObject) → object_of y ≡ object_of x → map object_of (set objects o y) ≡ map object_of objects
  world-same y e = map-set_same object_of objects o y x (e ∙ ap object_of at)
