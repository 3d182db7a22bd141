-- The laws of whole plans.
use Rattle.std.proofs.Common.{◌≡◌, ℕ, Bool, true, false, true≢false, List, Option, Some, refl, sym, ◌∙◌, subst, arith}
use Rattle.std.specs.List.{AllByRecursion}
use Rattle.hc_layout.specs.declared.shape.Shape.{Shape}
use Rattle.hc_value.specs.declared.field.Detail.{Detail}
use Rattle.hc_value.specs.declared.key.Key.{Key}
use Rattle.hc_heap.specs.Kept.{GoesOn, WrittenIsKept, EntriesAreKept, DeprecatedAreUnstable, DetailsRise, FormsAreKept, GatesAreOpen, StableIsKept, UnusedSaysNothing, WritesAreWithin}
use Rattle.hc_heap.specs.Lawful.{Lawful}
use Rattle.hc_heap.specs.Readings.{gate_in, bits_in, detail_in}
use Rattle.hc_heap.specs.States.{View}
use Rattle.hc_heap.specs.Writes.{Trail}
use Rattle.hc_descs.specs.Entries.{field_at}
use Rattle.hc_links.specs.Laws.{LinksAreKept, SameKeysAreEqual}
use Rattle.hc_plan.specs.Chains.{Hop}
use Rattle.hc_plan.specs.Deps.{way_deps, deps_of}
use Rattle.hc_plan.specs.Laws.{CaseHolds, each_case, each_dep}
use Rattle.hc_plan.specs.declared.case.Case.{Case}
use Rattle.hc_plan.specs.declared.case.Op.{Op}
use Rattle.hc_plan.specs.declared.case.Op.TheVariants.{Load}
use Rattle.hc_plan.specs.declared.case.Way.{Way}
use Rattle.hc_plan.specs.declared.case.Way.TheVariants.{Own, Holder, Constant, Absent, Getter, StoreOwn, Add, Setter, Reject}
use Rattle.hc_plan.specs.declared.deps.Dep.{Dep}
use Rattle.hc_plan.specs.declared.plan.Plan.{Plan}
use Rattle.hc_soundness.specs.Borne.{IsBorne, IsLive, NamesLive, NamesLiveChild}
use Rattle.hc_facts.specs.Constants.{ConstantsStay}
use Rattle.hc_deps.specs.Trails.{HoldsIn, HoldsButValueIn}
use Rattle.hc_soundness.specs.Finding.{Finds, IsDatum}
use Rattle.hc_soundness.specs.Laws.{ToldIsSeen, SeenIsBorne, ToldIsBorne, plan_of, own_case}
use Rattle.hc_soundness.specs.Meaning.{Dictionary}
use Rattle.hc_soundness.specs.Moments.{Now, Once, IsToldNow, IsSeen}
use Rattle.hc_soundness.specs.Rest.{IsRest}
use Rattle.hc_soundness.specs.Right.{IsRight, IsRightCase}
use Rattle.hc_soundness.proofs.Constants.{case-holds-on}
use Rattle.hc_soundness.proofs.Holding.{told-holds}
use Rattle.hc_soundness.proofs.Keeping.{told-on}
use Rattle.hc_soundness.proofs.Lists.{all-to, all-both}
use Rattle.hc_soundness.proofs.Options.{is-some, there}
use Rattle.hc_soundness.proofs.Presently.{IsStableMap, seen-now}
use Rattle.hc_soundness.proofs.Rightness.{told-right}

-- dependencies of a plan, case by case
by-case : (P : Dep → Type 0) (plan : Plan) → plan.deps ≡ deps_of plan.cases → AllByRecursion P plan.deps → AllByRecursion (CaseHolds P) plan.cases
by-case P plan is h = each_case P plan.cases (subst (AllByRecursion P) is h)

by-dep : (P : Dep → Type 0) (plan : Plan) → plan.deps ≡ deps_of plan.cases → AllByRecursion (CaseHolds P) plan.cases → AllByRecursion P plan.deps
by-dep P plan is h = subst (AllByRecursion P) (sym is) (each_dep P plan.cases h)

pub borne-right : GatesAreOpen → UnusedSaysNothing → (v : View) (kept : List (Option Dictionary)) (plan : Plan) → IsRest v kept → IsBorne v.shape v.trail plan → IsRight v.trail kept plan
borne-right gates unused v kept plan rest h =
    all-to (IsToldNow v.trail plan.op plan.name) (IsRightCase v.trail kept plan.op plan.name) (λ case told. told-right gates unused v kept rest plan.name plan.op case told) plan.cases h.told

module _ (written : WrittenIsKept) (entries : EntriesAreKept) (s : Shape) (old new : Trail) (op : Op) (name : ℕ) (case : Case) (goes : GoesOn s old new) where
  pub told-seen : IsToldNow old op name case → IsSeen s new op name case
  told-seen h = told-on written entries s old new goes (Now old) (Once s new) (λ P was. record { earlier = old; goes_on = goes; was = was }) op name case h

  pub seen-kept : ((a b c : Trail) → GoesOn s a b → GoesOn s b c → GoesOn s a c) → IsSeen s old op name case → IsSeen s new op name case
  seen-kept further h =
      told-on written entries s old new goes (Once s old) (Once s new) (λ P was. record { earlier = was.earlier; goes_on = further was.earlier old new was.goes_on goes; was = was.was }) op name case h

pub told-borne : FormsAreKept → UnusedSaysNothing → WritesAreWithin → (v : View) (kept : List (Option Dictionary)) (plan : Plan) → IsRest v kept → plan.deps ≡ deps_of plan.cases
    → AllByRecursion (IsToldNow v.trail plan.op plan.name) plan.cases → IsBorne v.shape v.trail plan
told-borne forms unused within v kept plan rest is told = record {
  deps = is;
  told = told;
  hold = by-dep (HoldsIn v.shape v.trail) plan is
      (all-to (IsToldNow v.trail plan.op plan.name) (CaseHolds (HoldsIn v.shape v.trail))
      (λ case h. told-holds unused within v.shape v.trail rest.heap.lawful (forms v.shape v.trail rest.heap.lawful) rest.calm plan.name plan.op case h) plan.cases told);
}

pub seen-borne : StableIsKept → DetailsRise → LinksAreKept → SameKeysAreEqual → (v : View) (kept : List (Option Dictionary)) (plan : Plan) → IsRest v kept → plan.deps ≡ deps_of plan.cases
    → AllByRecursion (IsSeen v.shape v.trail plan.op plan.name) plan.cases → AllByRecursion (HoldsIn v.shape v.trail) plan.deps → IsBorne v.shape v.trail plan
seen-borne stable rise links same v kept plan rest is seen hold = record {
  deps = is;
  told = all-both (IsSeen v.shape v.trail plan.op plan.name) (CaseHolds (HoldsIn v.shape v.trail)) (IsToldNow v.trail plan.op plan.name)
      (λ case h deps. seen-now stable rise v.shape v.trail plan.name links same rest.one_live plan.op case h deps)
      plan.cases seen (by-case (HoldsIn v.shape v.trail) plan is hold);
  hold = hold;
}

pub borne-kept : StableIsKept → ToldIsSeen → SeenIsBorne → (old : Trail) (v : View) (kept : List (Option Dictionary)) (plan : Plan) → IsRest v kept → GoesOn v.shape old v.trail → ConstantsStay old v.trail
    → IsBorne v.shape old plan → AllByRecursion (HoldsButValueIn v.shape v.trail) plan.deps → IsBorne v.shape v.trail plan
borne-kept stable told_seen seen_borne old v kept plan rest goes constants h hold =
    let was = by-case (HoldsIn v.shape old) plan h.deps h.hold in
    let but = by-case (HoldsButValueIn v.shape v.trail) plan h.deps hold in
    let told_was = all-both (IsToldNow old plan.op plan.name) (CaseHolds (HoldsIn v.shape old)) (λ case. IsToldNow old plan.op plan.name case × CaseHolds (HoldsIn v.shape old) case) (λ case a b. (a, b)) plan.cases h.told was in
    let now = all-both (λ case. IsToldNow old plan.op plan.name case × CaseHolds (HoldsIn v.shape old) case) (CaseHolds (HoldsButValueIn v.shape v.trail)) (CaseHolds (HoldsIn v.shape v.trail))
    (λ case a b. case-holds-on stable v.shape old v.trail goes constants plan.op plan.name case a.0 a.1 b) plan.cases told_was but in
    seen_borne v kept plan rest h.deps
    (all-to (IsToldNow old plan.op plan.name) (IsSeen v.shape v.trail plan.op plan.name) (λ case a. told_seen v.shape old v.trail plan.op plan.name case goes a) plan.cases h.told)
    (by-dep (HoldsIn v.shape v.trail) plan h.deps now)

-- What a plan names

module _ (together : DeprecatedAreUnstable) (s : Shape) (t : Trail) (lawful : Lawful s t) where
  stable-live : (m : ℕ) (b : Bool) → (bits_in t m).deprecated ≡ b → (bits_in t m).unstable ≡ false → b ≡ false
  stable-live m true is stable = absurd (true≢false (sym (together s t m lawful is) ∙ stable))
  stable-live m false is stable = refl

  child-live : (way : Way) → AllByRecursion (HoldsIn s t) (way_deps way) → NamesLiveChild t way
  child-live (Add child k f rep class) h = h.0.1
  child-live (Own k f rep) h = tt
  child-live (Holder o k f rep) h = tt
  child-live (Constant o k f rep w) h = tt
  child-live Absent h = tt
  child-live (Getter at k) h = tt
  child-live (StoreOwn k f rep class) h = tt
  child-live (Setter at k) h = tt
  child-live Reject h = tt

  pub names-live : (case : Case) → CaseHolds (HoldsIn s t) case → NamesLive t case
  names-live case h = record {
    map = h.live.1;
    chain = all-to (λ (hop : Hop). IsStableMap s t hop.1) (λ (hop : Hop). IsLive t hop.1) (λ hop a. stable-live hop.1 (bits_in t hop.1).deprecated refl a.1) case.chain h.chain;
    child = child-live case.way h.way;
  }

pub borne-live : DeprecatedAreUnstable → (v : View) (kept : List (Option Dictionary)) (plan : Plan) → IsRest v kept → IsBorne v.shape v.trail plan → AllByRecursion (NamesLive v.trail) plan.cases
borne-live together v kept plan rest h =
    all-to (CaseHolds (HoldsIn v.shape v.trail)) (NamesLive v.trail) (λ case a. names-live together v.shape v.trail rest.heap.lawful case a) plan.cases
    (by-case (HoldsIn v.shape v.trail) plan h.deps h.hold)

-- the load of data that a live map has is told, and so borne
pub own-borne : ToldIsBorne → (v : View) (kept : List (Option Dictionary)) (site name m k f : ℕ) (key : Key) (d : Detail) → IsRest v kept → IsLive v.trail m → Finds v.trail m name k key → IsDatum key
    → field_at v.trail m k ≡ Some f → detail_in v.trail f ≡ Some d → IsBorne v.shape v.trail (plan_of site Load name (own_case m k f d.rep))
own-borne borne v kept site name m k f key d rest live finds datum field is =
    let told : IsToldNow v.trail Load name (own_case m k f d.rep) = record {
      live = live;
      open_map = is-some (gate_in v.trail m) finds.gate finds.is_open;
      short = omega arith;
      way = record { map = m; key = key; holder = (refl, refl); finds = finds; such = datum; field = field; admits = there (λ e. e.rep ≡ d.rep) (detail_in v.trail f) d is refl };
    } in
    borne v kept (plan_of site Load name (own_case m k f d.rep)) rest refl (told, tt)
