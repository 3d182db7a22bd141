-- A dependency holds on an image.
use Rattle.std.specs.Prelude.{◌≡◌, ℕ, ⊤, false, Some, IsSome, IsSomeAnd, List}
use Rattle.hc_layout.specs.declared.shape.Shape.{Shape}
use Rattle.hc_value.specs.declared.field.Constness.TheVariants.{Const}
use Rattle.hc_plan.specs.declared.deps.Dep.{Dep}
use Rattle.hc_plan.specs.declared.deps.Dep.TheVariants.{Live, Stable, Rep as HasRep, Const as IsConst, Class as HasClass, Value as HasValue}
use Rattle.hc_deps.specs.Image.{bits_on, detail_on, map_on, slot_word_on}

-- a fast object's slot holds a word
pub record HoldsWord (s : Shape) (words : List ℕ) (object slot word : ℕ) : Type 0 where
  pub fast : IsSome (map_on s words object)
  pub holds : slot_word_on s words object slot ≡ Some word

-- what each dependency says of the words; it doesn't hold where a word is out of its region, not written or not of its form
abbrev pub Holds : Shape → List ℕ → Dep → Type 0
Holds s words (Live map) = IsSomeAnd (bits_on s words map) (λ bits. bits.deprecated ≡ false)
Holds s words (Stable map) = IsSomeAnd (bits_on s words map) (λ bits. bits.unstable ≡ false)
Holds s words (HasRep field rep) = IsSomeAnd (detail_on s words field) (λ detail. detail.rep ≡ rep)
Holds s words (IsConst field) = IsSomeAnd (detail_on s words field) (λ detail. detail.constness ≡ Const)
Holds s words (HasClass field class) = IsSomeAnd (detail_on s words field) (λ detail. detail.class ≡ class)
Holds s words (HasValue object slot word) = HoldsWord s words object slot word

-- the same, where a slot may hold any word
abbrev pub HoldsButValue : Shape → List ℕ → Dep → Type 0
HoldsButValue s words (HasValue object slot word) = ⊤
HoldsButValue s words dep = Holds s words dep

-- the most looks that it takes to see whether a dependency holds
abbrev pub most_looks : Dep → ℕ
most_looks (HasValue object slot word) = 3
most_looks _ = 1
