-- Fields that were just handed out.
use Rattle.std.proofs.Common.{◌≡◌, ℕ, ◌<◌, ◌≤◌, Option, None, ◌∷◌, sym, subst, arith, IfSome}
use Rattle.hc_layout.specs.declared.shape.Region.TheVariants.{Maps}
use Rattle.hc_layout.specs.declared.shape.Shape.{Shape}
use Rattle.hc_value.specs.Field.{IsClassInRange}
use Rattle.hc_value.specs.declared.field.Class.{Class}
use Rattle.hc_value.specs.declared.field.Class.TheVariants.{Of, Any}
use Rattle.hc_value.specs.declared.field.Detail.{Detail}
use Rattle.hc_heap.specs.declared.kind.Kind.TheVariants.{OwnerOfField, DetailOfField}
use Rattle.hc_heap.specs.Writes.{Trail, Owner}
use Rattle.hc_heap.specs.Readings.{owner_in, detail_in}
use Rattle.hc_heap.specs.Lawful.{AllWithin, IsClassThere, LawfulDetail, RisesTo}
use Rattle.hc_heap.specs.Kept.{UnusedSaysNothing}
use Rattle.hc_heap.specs.States.{View, IsHeap}

-- nothing was said of a field
pub record IsNewField (t : Trail) (f : ℕ) : Type 0 where
  pub owner : owner_in t f ≡ None
  pub detail : detail_in t f ≡ None

pub new-field : UnusedSaysNothing → (used : Shape) (t : Trail) (f : ℕ) → AllWithin used t → used.fields ≤ f → IsNewField t f
new-field law used t f h lt = record { owner = law used t OwnerOfField f h lt; detail = law used t DetailOfField f h lt }

-- a map that was handed out is one of the board's
pub map-in-range : (v : View) (m : ℕ) → IsHeap v → m < v.used.maps → m < v.shape.maps
map-in-range v m h lt = let most = h.most Maps in omega arith

class-after : (s : Shape) (t : Trail) (f m : ℕ) (c : Class) → IsClassThere s t c → IsClassThere s (Owner f m ∷ t) c
class-after s t f m (Of x) h = h
class-after s t f m Any h = tt

-- the detail of a new field
pub new-detail : (s : Shape) (t : Trail) (f m : ℕ) (d : Detail) → IsNewField t f → IsClassInRange d.class → IsClassThere s t d.class → LawfulDetail s (Owner f m ∷ t) f d
new-detail s t f m d new form there = record {
  form = form;
  there = class-after s t f m d.class there;
  rises = subst (λ (o : Option Detail). IfSome o (λ e. RisesTo e d)) (sym new.detail) tt;
}
