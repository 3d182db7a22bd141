-- Which plans are broken, and what becomes of them.
use Rattle.std.specs.Prelude.{ℕ, ◌+◌, ◌==◌, Bool, true, false, not, Option, Some, None, option_and_then, option_map, unwrap_or, find, List, [], ◌∷◌, ◌++◌, map}
use Rattle.hc_layout.specs.declared.shape.Shape.{Shape}
use Rattle.hc_layout.specs.declared.words.MapBits.{MapBits}
use Rattle.hc_value.specs.declared.field.Class.{Class}
use Rattle.hc_value.specs.declared.field.Class.TheVariants.{Of, Any}
use Rattle.hc_value.specs.declared.field.Constness.{Constness}
use Rattle.hc_value.specs.declared.field.Constness.TheVariants.{Const, Mutable}
use Rattle.hc_value.specs.declared.field.Detail.{Detail}
use Rattle.hc_value.specs.declared.field.Rep.{Rep}
use Rattle.hc_value.specs.declared.field.Rep.TheVariants.{Smi, Wide, HeapObject, Tagged}
use Rattle.hc_plan.specs.declared.deps.Dep.{Dep}
use Rattle.hc_plan.specs.declared.deps.Dep.TheVariants.{Live, Stable, Rep as HasRep, Const as IsConst, Class as HasClass, Value as HasValue}
use Rattle.hc_plan.specs.declared.plan.Plan.{Plan}
use Rattle.hc_sites.specs.Events.{discarded}
use Rattle.hc_sites.specs.State.{after_event}
use Rattle.hc_sites.specs.declared.state.SiteState.{SiteState}
use Rattle.hc_deps.specs.Image.{bits_on, detail_on}
use Rattle.hc_report.specs.declared.line.Line.{Line}
use Rattle.hc_report.specs.declared.line.Line.TheVariants.{Discard}

-- Whether a dependency holds

abbrev pub is_rep : Rep → Rep → Bool
is_rep Smi Smi = true
is_rep Wide Wide = true
is_rep HeapObject HeapObject = true
is_rep Tagged Tagged = true
is_rep _ _ = false

abbrev pub is_class : Class → Class → Bool
is_class (Of m) (Of n) = m == n
is_class Any Any = true
is_class _ _ = false

abbrev pub is_const : Constness → Bool
is_const Const = true
is_const Mutable = false

-- a word says so; not where it says nothing
abbrev pub is_so : {T : Type 0} → Option T → (T → Bool) → Bool
is_so said test = unwrap_or (option_map test said) false

-- whether a dependency holds on the words, as long as it isn't on a value
unfoldable pub holds_still : Shape → List ℕ → Dep → Bool
holds_still s words (Live map) = is_so (bits_on s words map) (λ (bits : MapBits). not bits.deprecated)
holds_still s words (Stable map) = is_so (bits_on s words map) (λ (bits : MapBits). not bits.unstable)
holds_still s words (HasRep field rep) = is_so (detail_on s words field) (λ (detail : Detail). is_rep detail.rep rep)
holds_still s words (IsConst field) = is_so (detail_on s words field) (λ (detail : Detail). is_const detail.constness)
holds_still s words (HasClass field class) = is_so (detail_on s words field) (λ (detail : Detail). is_class detail.class class)
holds_still s words (HasValue object slot word) = true

-- Broken plans

-- the first of a plan's dependencies that doesn't, which breaks it
abbrev pub broken_in : Shape → List ℕ → Plan → Option Dep
broken_in s words plan = find (λ (dep : Dep). not (holds_still s words dep)) plan.deps

-- what breaks the plan of a site, if it has one
unfoldable pub broken_by : Shape → List ℕ → SiteState → Option Dep
broken_by s words state = option_and_then (broken_in s words) state.plan

-- a site loses its plan where that is broken
abbrev pub unless_broken : Option Dep → SiteState → SiteState
unless_broken None state = state
unless_broken (Some dep) state = after_event state discarded

-- the sites with the plans that aren't broken
unfoldable pub unbroken_sites : Shape → List ℕ → List SiteState → List SiteState
unbroken_sites s words [] = []
unbroken_sites s words (state ∷ states) = unless_broken (broken_by s words state) state ∷ unbroken_sites s words states

-- The log

abbrev pub discard_line : ℕ → ℕ → Option Dep → List (ℕ × Line)
discard_line at site None = []
discard_line at site (Some dep) = (at, Discard site dep) ∷ []

-- a line for each broken plan of sites that are numbered from one on
unfoldable pub lines_from : Shape → List ℕ → ℕ → ℕ → List SiteState → List (ℕ × Line)
lines_from s words at site [] = []
lines_from s words at site (state ∷ states) = discard_line at site (broken_by s words state) ++ lines_from s words at (site + 1) states

-- a line for each broken plan, by rising site
abbrev pub discard_lines : Shape → List ℕ → ℕ → List SiteState → List (ℕ × Line)
discard_lines s words at sites = lines_from s words at 0 sites

-- how many sites have a plan
abbrev pub one_plan : Option Plan → ℕ
one_plan None = 0
one_plan (Some plan) = 1

unfoldable pub plan_count : List SiteState → ℕ
plan_count [] = 0
plan_count (state ∷ states) = one_plan state.plan + plan_count states
