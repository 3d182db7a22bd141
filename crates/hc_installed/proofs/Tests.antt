-- The tests of dependencies mean that they hold, and the first that fails is the first that doesn't.
use Rattle.std.proofs.Common.{◌≡◌, ℕ, Bool, true, false, not, cond, eqb-true, eq-eqb, Option, Some, None, List, [], ◌∷◌, ◌++◌, refl, sym, ap, ◌∙◌}
use Rattle.std.proofs.lemmas.Bool.{false≢true}
use Rattle.std.specs.Prelude.{◌↔◌, IsTrue, IsSomeAnd, IfSome, MatchOption, find, option_and_then, slice_get}
use Rattle.std.specs.List.{AllByRecursion}
use Rattle.hc_layout.specs.declared.shape.Shape.{Shape}
use Rattle.hc_layout.specs.declared.words.MapBits.{MapBits}
use Rattle.hc_value.specs.declared.field.Class.{Class}
use Rattle.hc_value.specs.declared.field.Class.TheVariants.{Of, Any}
use Rattle.hc_value.specs.declared.field.Constness.{Constness}
use Rattle.hc_value.specs.declared.field.Constness.TheVariants.{Const, Mutable}
use Rattle.hc_value.specs.declared.field.Detail.{Detail}
use Rattle.hc_value.specs.declared.field.Rep.{Rep}
use Rattle.hc_value.specs.declared.field.Rep.TheVariants.{Smi, Wide, HeapObject, Tagged}
use Rattle.hc_plan.specs.declared.deps.Dep.{Dep}
use Rattle.hc_plan.specs.declared.deps.Dep.TheVariants.{Live, Stable, Rep as HasRep, Const as IsConst, Class as HasClass, Value as HasValue}
use Rattle.hc_plan.specs.declared.plan.Plan.{Plan}
use Rattle.hc_sites.specs.State.{plan_in}
use Rattle.hc_sites.specs.declared.state.SiteState.{SiteState}
use Rattle.hc_deps.specs.Holds.{HoldsButValue}
use Rattle.hc_deps.specs.Image.{bits_on, detail_on}
use Rattle.hc_deps.specs.Verdicts.{IsFirstBroken, IsUnbroken}
use Rattle.hc_installed.specs.Discards.{is_rep, is_class, is_const, is_so, holds_still, broken_in, broken_by}
use Rattle.hc_installed.specs.Laws.{BreaksAreFirst, TestsAreMeant}

-- What each test means

so-means : {T : Type 0} (said : Option T) (test : T → Bool) (P : T → Type 0) → ((x : T) → IsTrue (test x) ↔ P x) → IsTrue (is_so said test) ↔ IsSomeAnd said P
so-means None test P h = ((λ e. absurd (false≢true e)), (λ p. absurd p))
so-means (Some x) test P h = h x

not-means : (b : Bool) → IsTrue (not b) ↔ b ≡ false
not-means true = ((λ e. absurd (false≢true e)), (λ e. absurd (false≢true (sym e))))
not-means false = ((λ e. refl), (λ e. refl))

both-so : {T : Type 0} (a : T) → IsTrue true ↔ a ≡ a
both-so a = ((λ e. refl), (λ e. refl))

neither : {A : Type 0} → (A → ⊥) → IsTrue false ↔ A
neither never = ((λ e. absurd (false≢true e)), (λ a. absurd (never a)))

rep-means : (a b : Rep) → IsTrue (is_rep a b) ↔ a ≡ b
rep-means Smi Smi = both-so Smi
rep-means Smi Wide = neither (λ e. cc)
rep-means Smi HeapObject = neither (λ e. cc)
rep-means Smi Tagged = neither (λ e. cc)
rep-means Wide Smi = neither (λ e. cc)
rep-means Wide Wide = both-so Wide
rep-means Wide HeapObject = neither (λ e. cc)
rep-means Wide Tagged = neither (λ e. cc)
rep-means HeapObject Smi = neither (λ e. cc)
rep-means HeapObject Wide = neither (λ e. cc)
rep-means HeapObject HeapObject = both-so HeapObject
rep-means HeapObject Tagged = neither (λ e. cc)
rep-means Tagged Smi = neither (λ e. cc)
rep-means Tagged Wide = neither (λ e. cc)
rep-means Tagged HeapObject = neither (λ e. cc)
rep-means Tagged Tagged = both-so Tagged

of-same : (m n : ℕ) → Of m ≡ Of n → m ≡ n
of-same m n e = cc

class-means : (a b : Class) → IsTrue (is_class a b) ↔ a ≡ b
class-means (Of m) (Of n) = ((λ e. ap Of (eqb-true m n e)), (λ e. eq-eqb m n (of-same m n e)))
class-means (Of m) Any = neither (λ e. cc)
class-means Any (Of n) = neither (λ e. cc)
class-means Any Any = both-so Any

const-means : (c : Constness) → IsTrue (is_const c) ↔ c ≡ Const
const-means Const = both-so Const
const-means Mutable = neither (λ e. cc)

pub tests-meant : TestsAreMeant
unfolding holds_still
tests-meant s words (Live map) = so-means (bits_on s words map) (λ (bits : MapBits). not bits.deprecated) (λ (bits : MapBits). bits.deprecated ≡ false) (λ bits. not-means bits.deprecated)
tests-meant s words (Stable map) = so-means (bits_on s words map) (λ (bits : MapBits). not bits.unstable) (λ (bits : MapBits). bits.unstable ≡ false) (λ bits. not-means bits.unstable)
tests-meant s words (HasRep field rep) = so-means (detail_on s words field) (λ (detail : Detail). is_rep detail.rep rep) (λ (detail : Detail). detail.rep ≡ rep) (λ detail. rep-means detail.rep rep)
tests-meant s words (IsConst field) = so-means (detail_on s words field) (λ (detail : Detail). is_const detail.constness) (λ (detail : Detail). detail.constness ≡ Const) (λ detail. const-means detail.constness)
tests-meant s words (HasClass field class) = so-means (detail_on s words field) (λ (detail : Detail). is_class detail.class class) (λ (detail : Detail). detail.class ≡ class) (λ detail. class-means detail.class class)
tests-meant s words (HasValue object slot word) = ((λ e. tt), (λ h. refl))

-- The first that fails

not-true : (b : Bool) → (b ≡ true → ⊥) → b ≡ false
not-true true h = absurd (h refl)
not-true false h = refl

module _ (P : Dep → Type 0) (test : Dep → Bool) (means : (dep : Dep) → IsTrue (test dep) ↔ P dep) where
  abbrev fails : Dep → Bool
  fails dep = not (test dep)

  one-more : (dep : Dep) (deps : List Dep) (r : Option Dep) → P dep → MatchOption r (AllByRecursion P deps) (IsFirstBroken P deps) → MatchOption r (AllByRecursion P (dep ∷ deps)) (IsFirstBroken P (dep ∷ deps))
  one-more dep deps None p h = (p, h)
  one-more dep deps (Some x) p h = record { before = dep ∷ h.before; after = h.after; are = ap (λ (xs : List Dep). dep ∷ xs) h.are; hold = (p, h.hold); broken = h.broken }

  first-by : (dep : Dep) (deps : List Dep) (b : Bool) → test dep ≡ b → MatchOption (find fails deps) (AllByRecursion P deps) (IsFirstBroken P deps)
      → MatchOption (cond (not b) (Some dep) (find fails deps)) (AllByRecursion P (dep ∷ deps)) (IsFirstBroken P (dep ∷ deps))
  first-by dep deps true e h = one-more dep deps (find fails deps) ((means dep).0 e) h
  first-by dep deps false e h = record { before = []; after = deps; are = refl; hold = tt; broken = λ p. false≢true (sym e ∙ (means dep).1 p) }

  pub found-first : (deps : List Dep) → MatchOption (find fails deps) (AllByRecursion P deps) (IsFirstBroken P deps)
  found-first [] = tt
  found-first (dep ∷ deps) = first-by dep deps (test dep) refl (found-first deps)

  past : (dep : Dep) (after before : List Dep) → AllByRecursion P before → (P dep → ⊥) → find fails (before ++ dep ∷ after) ≡ Some dep
  past dep after [] h broken = ap (λ (b : Bool). cond (not b) (Some dep) (find fails after)) (not-true (test dep) (λ e. broken ((means dep).0 e)))
  past dep after (x ∷ xs) h broken =
      ap (λ (b : Bool). cond (not b) (Some x) (find fails (xs ++ dep ∷ after))) ((means x).1 h.0) ∙ past dep after xs h.1 broken

  pub first-found : (deps : List Dep) (dep : Dep) → IsFirstBroken P deps dep → find fails deps ≡ Some dep
  first-found deps dep h = ap (λ (xs : List Dep). find fails xs) h.are ∙ past dep h.after h.before h.hold h.broken

  pub none-found : (deps : List Dep) → AllByRecursion P deps → find fails deps ≡ None
  none-found [] h = refl
  none-found (x ∷ xs) h = ap (λ (b : Bool). cond (not b) (Some x) (find fails xs)) ((means x).1 h.0) ∙ none-found xs h.1

-- What breaks a site's plan

module _ (s : Shape) (words : List ℕ) where
  breaks-plan : (plan : Option Plan) → MatchOption (option_and_then (broken_in s words) plan) (IfSome plan (IsUnbroken s words)) (λ (dep : Dep). IsSomeAnd plan (λ (p : Plan). IsFirstBroken (HoldsButValue s words) p.deps dep))
  breaks-plan None = tt
  breaks-plan (Some plan) = found-first (HoldsButValue s words) (holds_still s words) (tests-meant s words) plan.deps

  broken-plan : (plan : Option Plan) (dep : Dep) → IsSomeAnd plan (λ (p : Plan). IsFirstBroken (HoldsButValue s words) p.deps dep) → option_and_then (broken_in s words) plan ≡ Some dep
  broken-plan None dep h = absurd h
  broken-plan (Some plan) dep h = first-found (HoldsButValue s words) (holds_still s words) (tests-meant s words) plan.deps dep h

  unbroken-plan : (plan : Option Plan) → IfSome plan (IsUnbroken s words) → option_and_then (broken_in s words) plan ≡ None
  unbroken-plan None h = refl
  unbroken-plan (Some plan) h = none-found (HoldsButValue s words) (holds_still s words) (tests-meant s words) plan.deps h

  pub none-broken : (state : SiteState) → IfSome state.plan (IsUnbroken s words) → broken_by s words state ≡ None
  unfolding broken_by
  none-broken state h = unbroken-plan state.plan h

  -- at a site of a number
  abbrev pub broken_at : List SiteState → ℕ → Option Dep
  broken_at sites i = option_and_then (broken_by s words) (slice_get sites i)

  found-in : (state : Option SiteState) (dep : Dep) → IsSomeAnd (plan_in state) (λ (p : Plan). IsFirstBroken (HoldsButValue s words) p.deps dep) → option_and_then (broken_by s words) state ≡ Some dep
  unfolding broken_by
  found-in None dep h = absurd h
  found-in (Some state) dep h = broken-plan state.plan dep h

  none-in : (state : Option SiteState) → IfSome (plan_in state) (IsUnbroken s words) → option_and_then (broken_by s words) state ≡ None
  none-in None h = refl
  none-in (Some state) h = none-broken state h

  pub found-at : (sites : List SiteState) (i : ℕ) (dep : Dep) → IsSomeAnd (plan_in (slice_get sites i)) (λ (p : Plan). IsFirstBroken (HoldsButValue s words) p.deps dep) → broken_at sites i ≡ Some dep
  found-at sites i dep h = found-in (slice_get sites i) dep h

  pub none-at : (sites : List SiteState) (i : ℕ) → IfSome (plan_in (slice_get sites i)) (IsUnbroken s words) → broken_at sites i ≡ None
  none-at sites i h = none-in (slice_get sites i) h

pub breaks-first : BreaksAreFirst
unfolding broken_by
breaks-first s words state = breaks-plan s words state.plan
