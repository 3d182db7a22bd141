-- When a site's plan answers, and what it gives.
use Rattle.std.specs.Prelude.{◌≡◌, ℕ, ⊤, Option, Some, None, IsSomeAnd, IfSome, List, slice_get, take}
use Rattle.std.specs.List.{AllByRecursion}
use Rattle.hc_board.specs.States.{words_of}
use Rattle.hc_board.specs.Trail.{Access}
use Rattle.hc_value.specs.declared.reply.Reply.{Reply}
use Rattle.hc_value.specs.declared.value.Value.{Value}
use Rattle.hc_heap.specs.States.{View}
use Rattle.hc_modes.specs.Came.{IsStill, world_of}
use Rattle.hc_modes.specs.Filling.{free_slots}
use Rattle.hc_modes.specs.State.{ObjectsState}
use Rattle.hc_objects.specs.Came.{Came}
use Rattle.hc_objects.specs.Planned.{MayCome, MayStore}
use Rattle.hc_ops.specs.Get.{get_reply}
use Rattle.hc_ops.specs.Set.{set_act}
use Rattle.hc_plan.specs.declared.case.Case.{Case}
use Rattle.hc_plan.specs.declared.plan.Plan.{Plan}
use Rattle.hc_sites.specs.State.{plan_at}
use Rattle.hc_sites.specs.declared.state.SiteState.{SiteState}
use Rattle.hc_apply.specs.Admits.{Admits, Refuses}
use Rattle.hc_apply.specs.declared.applied.Applied.{Applied}
use Rattle.hc_apply.specs.declared.applied.Applied.TheVariants.{Answer, StoreAt, AddBy, Miss}

-- a case admits a receiver and, of a store, the value, as the words of this moment say
abbrev pub AdmitsNow : {P : Type 0} → ObjectsState P → ℕ → Option Value → Case → Type 0
AdmitsNow a o value case = Admits a.heap.view.shape (words_of a.heap.desk) (free_slots a.heap.view) o value case

abbrev pub RefusesNow : {P : Type 0} → ObjectsState P → ℕ → Option Value → Case → Type 0
RefusesNow a o value case = Refuses a.heap.view.shape (words_of a.heap.desk) (free_slots a.heap.view) o value case

-- the case of a number is the first of these that admits
pub record IsFirstToAdmit {P : Type 0} (a : ObjectsState P) (o : ℕ) (value : Option Value) (cases : List Case) (number : ℕ) : Type 0 where
  pub case : Case
  pub here : slice_get cases number ≡ Some case
  pub before : AllByRecursion (RefusesNow a o value) (take number cases)
  pub admits : AdmitsNow a o value case

-- a site has a plan, and this is the number of its first case that admits
abbrev pub IsHit : {P : Type 0} → ObjectsState P → List SiteState → ℕ → ℕ → Option Value → ℕ → Type 0
IsHit a sites s o value number = IsSomeAnd (plan_at sites s) (λ (plan : Plan). IsFirstToAdmit a o value plan.cases number)

-- no case of the site's plan admits, or it has none
abbrev pub IsMiss : {P : Type 0} → ObjectsState P → List SiteState → ℕ → ℕ → Option Value → Type 0
IsMiss a sites s o value = IfSome (plan_at sites s) (λ (plan : Plan). AllByRecursion (RefusesNow a o value) plan.cases)

-- the reply, and what became of the objects, are those of the ordinary operation: a load, or the store of a value
pub record IsLoaded {P : Type 0} (a : ObjectsState P) (o name : ℕ) (given : Reply) (b : ObjectsState P) : Type 0 where
  pub reply : given ≡ get_reply (world_of a) o name
  pub still : IsStill a b

pub record IsStored {P : Type 0} (goes_with : P → List Access → List Access → P → Type 0) (a : ObjectsState P) (o name : ℕ) (value : Value) (given : Reply) (b : ObjectsState P) : Type 0 where
  pub reply : given ≡ (set_act (world_of a) o name value).reply
  pub came : Came goes_with a (set_act (world_of a) o name value).did b

abbrev pub IsGiven : {P : Type 0} → (P → List Access → List Access → P → Type 0) → ObjectsState P → ℕ → ℕ → Option Value → Reply → ObjectsState P → Type 0
IsGiven went a o name None reply b = IsLoaded a o name reply b
IsGiven went a o name (Some value) reply b = IsStored went a o name value reply b

-- By what a plan says

-- what it says is to be stored may be stored so
abbrev pub MayApply : View → ℕ → ℕ → Option Value → Applied → Type 0
MayApply v o name value (Answer number reply) = ⊤
MayApply v o name value (StoreAt number slot) = IfSome value (MayStore v.trail o slot)
MayApply v o name value (AddBy number child) = IfSome value (MayCome v o child name)
MayApply v o name value Miss = ⊤

-- the case that it names is the first that admits; where it names none, none does
abbrev pub IsCaseOf : {P : Type 0} → ObjectsState P → ℕ → Option Value → List Case → Applied → Type 0
IsCaseOf a o value cases (Answer number reply) = IsFirstToAdmit a o value cases number
IsCaseOf a o value cases (StoreAt number slot) = IsFirstToAdmit a o value cases number
IsCaseOf a o value cases (AddBy number child) = IsFirstToAdmit a o value cases number
IsCaseOf a o value cases Miss = AllByRecursion (RefusesNow a o value) cases

-- the number of that case
abbrev pub case_number : Applied → Option ℕ
case_number (Answer number reply) = Some number
case_number (StoreAt number slot) = Some number
case_number (AddBy number child) = Some number
case_number Miss = None
