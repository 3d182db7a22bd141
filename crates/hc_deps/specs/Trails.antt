-- A dependency holds after the writes of a trail. The words of a lawful trail's image say the same.
use Rattle.std.specs.Prelude.{◌≡◌, ◌↔◌, ℕ, ◌+◌, ◌<◌, ⊤, false, IsSome, IsSomeAnd, List}
use Rattle.hc_board.specs.Trail.{Access, image_of}
use Rattle.hc_layout.specs.Shape.{words_of}
use Rattle.hc_layout.specs.declared.shape.Shape.{Shape}
use Rattle.hc_value.specs.declared.field.Constness.TheVariants.{Const}
use Rattle.hc_heap.specs.Decode.{typed}
use Rattle.hc_heap.specs.Lawful.{Lawful, slot_word}
use Rattle.hc_heap.specs.Readings.{bits_in, detail_in, map_in, store_in}
use Rattle.hc_heap.specs.Writes.{Trail}
use Rattle.hc_plan.specs.declared.deps.Dep.{Dep}
use Rattle.hc_plan.specs.declared.deps.Dep.TheVariants.{Live, Stable, Rep as HasRep, Const as IsConst, Class as HasClass, Value as HasValue}
use Rattle.hc_deps.specs.Holds.{Holds}

-- a fast object's slot, which is one of the board, holds a word
pub record HoldsWordIn (s : Shape) (t : Trail) (object slot word : ℕ) : Type 0 where
  pub fast : IsSome (map_in t object)
  pub there : IsSomeAnd (store_in t object).first (λ first. first + slot < s.slots)
  pub holds : slot_word t object slot ≡ word

-- what each dependency says of the trail
abbrev pub HoldsIn : Shape → Trail → Dep → Type 0
HoldsIn s t (Live map) = (map < s.maps) × ((bits_in t map).deprecated ≡ false)
HoldsIn s t (Stable map) = (map < s.maps) × ((bits_in t map).unstable ≡ false)
HoldsIn s t (HasRep field rep) = IsSomeAnd (detail_in t field) (λ detail. detail.rep ≡ rep)
HoldsIn s t (IsConst field) = IsSomeAnd (detail_in t field) (λ detail. detail.constness ≡ Const)
HoldsIn s t (HasClass field class) = IsSomeAnd (detail_in t field) (λ detail. detail.class ≡ class)
HoldsIn s t (HasValue object slot word) = HoldsWordIn s t object slot word

-- the same, where a slot may hold any word
abbrev pub HoldsButValueIn : Shape → Trail → Dep → Type 0
HoldsButValueIn s t (HasValue object slot word) = ⊤
HoldsButValueIn s t dep = HoldsIn s t dep

-- a dependency holds on the image of a lawful trail exactly where the trail says so
abbrev pub HoldsAsTheTrailSays : Type 0
HoldsAsTheTrailSays = (s : Shape) (stores : List Access) (dep : Dep) → Lawful s (typed s stores) → Holds s (image_of (words_of s) stores) dep ↔ HoldsIn s (typed s stores) dep
