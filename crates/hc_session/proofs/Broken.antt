-- Which plans a command broke, and which are upheld.
use Rattle.std.proofs.Common.{◌≡◌, ℕ, zero, suc, ◌+◌, Bool, true, false, Option, Some, None, List, [], ◌∷◌, ◌++◌, length, refl, sym, ap, ◌∙◌, subst, arith}
use Rattle.std.specs.Prelude.{IfSome, IsSomeAnd, MatchOption, if◌then◌else◌, slice_get}
use Rattle.std.specs.List.{AllByRecursion}
use Rattle.hc_access.specs.Accesses.{events_at, site_at, with_events}
use Rattle.hc_board.specs.States.{counted, words_of}
use Rattle.hc_board.specs.Trail.{Access}
use Rattle.hc_commands.specs.declared.command.Command.{Command}
use Rattle.hc_commands.specs.declared.command.Command.TheVariants.{Declare, Exec}
use Rattle.hc_deps.specs.Holds.{HoldsButValue}
use Rattle.hc_deps.specs.Verdicts.{IsFirstBroken, IsUnbroken}
use Rattle.hc_heap.specs.Frames.{goes-still}
use Rattle.hc_heap.specs.Kept.{FormsAreKept}
use Rattle.hc_heap.specs.States.{IsDesk}
use Rattle.hc_heap.specs.Writes.{Trail}
use Rattle.hc_installed.specs.Answers.{IsFirstToAdmit}
use Rattle.hc_installed.specs.Discards.{broken_by, discard_line, lines_from, unbroken_sites, unless_broken}
use Rattle.hc_installed.specs.Installed.{AreInstalled, HasInstalled, IsInstalled}
use Rattle.hc_installed.specs.Laws.{AreUnbroken, BreaksAreFirst, InstalledAreRight, NewSitesHaveNoPlan, QuietBreaksNoPlan}
use Rattle.hc_layout.specs.declared.shape.Shape.{Shape}
use Rattle.hc_modes.specs.Rest.{AreCalm}
use Rattle.hc_modes.specs.State.{IsObjects, ObjectsState}
use Rattle.hc_objects.specs.Came.{Came, IsStill}
use Rattle.hc_objects.specs.State.{IsStanding}
use Rattle.hc_plan.specs.declared.case.Site.{Site}
use Rattle.hc_plan.specs.declared.deps.Dep.{Dep}
use Rattle.hc_plan.specs.declared.plan.Plan.{Plan}
use Rattle.hc_report.specs.declared.line.Line.{Line}
use Rattle.hc_sites.specs.Events.{Event, noted, forgotten, filled, installed, discarded}
use Rattle.hc_sites.specs.State.{after_event, new_site, plan_at, plan_in, with_event}
use Rattle.hc_sites.specs.declared.state.SiteState.{SiteState}
use Rattle.hc_slots.specs.Cases.{some-is}
use Rattle.hc_soundness.specs.Laws.{BorneNamesLive, ObjectsRest}
use Rattle.hc_soundness.specs.Right.{IsRight}
use Rattle.hc_table.specs.Changes.{Did, Moved}
use Rattle.hc_session.specs.Plain.{is_access}
use Rattle.hc_session.specs.Plans.{AreUpheld, Chosen, by_plan, by_cache, by_lookup, IsUpheld, WasBroken, lines_lost, sites_left}
use Rattle.hc_session.specs.Standing.{plain_with}
use Rattle.hc_session.specs.State.{sites_at, sites_by}
use Rattle.hc_session.specs.Using.{AreReadied}
use Rattle.hc_session.proofs.Losing.{IsLost, each-from, first-broken}
use Rattle.hc_session.proofs.Readied.{readied-keeps}
use Rattle.hc_session.proofs.Seen.{AreFine, HaveGates, IsFine, events-fine, have-gates}

-- What is so of each

pub all-weaker : {T : Type 0} (Q R : T → Type 0) (xs : List T) → ((x : T) → Q x → R x) → AllByRecursion Q xs → AllByRecursion R xs
all-weaker {T} Q R [] f all = tt
all-weaker {T} Q R (x ∷ xs) f all = (f x all.0, all-weaker Q R xs f all.1)

all-both : {T : Type 0} (Q R S : T → Type 0) (xs : List T) → ((x : T) → Q x → R x → S x) → AllByRecursion Q xs → AllByRecursion R xs → AllByRecursion S xs
all-both {T} Q R S [] f first second = tt
all-both {T} Q R S (x ∷ xs) f first second = (f x first.0 second.0, all-both Q R S xs f first.1 second.1)

all-get : {T : Type 0} (Q : T → Type 0) (xs : List T) (n : ℕ) (x : T) → AllByRecursion Q xs → slice_get xs n ≡ Some x → Q x
all-get {T} Q [] n x all is = let f : ⊥ = cc in absurd f
all-get {T} Q (y ∷ ys) zero x all is = subst Q (some-is y x is) all.0
all-get {T} Q (y ∷ ys) (suc n) x all is = all-get Q ys n x all.1 is

all-middle : {T : Type 0} (Q : T → Type 0) (before after : List T) (x : T) → AllByRecursion Q (before ++ x ∷ after) → Q x
all-middle {T} Q [] after x all = all.0
all-middle {T} Q (y ∷ before) after x all = all-middle Q before after x all.1

-- Plans that sites have still

-- each plan of these sites is that of the same one of others
abbrev pub PlansWithin : List SiteState → List SiteState → Type 0
PlansWithin xs ys = (n : ℕ) (x : SiteState) (plan : Plan) → slice_get xs n ≡ Some x → x.plan ≡ Some plan → (y : SiteState) × (slice_get ys n ≡ Some y) × (y.plan ≡ Some plan)

pub within-same : (xs : List SiteState) → PlansWithin xs xs
within-same xs n x plan here is = (x, here, is)

within-on : (xs ys zs : List SiteState) → PlansWithin xs ys → PlansWithin ys zs → PlansWithin xs zs
within-on xs ys zs first second n x plan here is = let y = first n x plan here is in second n y.0 plan y.1 y.2

within-more : (x y : SiteState) (xs ys : List SiteState) → ((plan : Plan) → x.plan ≡ Some plan → y.plan ≡ Some plan) → PlansWithin xs ys → PlansWithin (x ∷ xs) (y ∷ ys)
within-more x y xs ys one others zero z plan here is = (y, refl, one plan (ap (λ (w : SiteState). w.plan) (some-is x z here) ∙ is))
within-more x y xs ys one others (suc n) z plan here is = others n z plan here is

event-keeps : (t : Trail) (x : SiteState) (event : Event) → IsFine t event → (plan : Plan) → (after_event x event).plan ≡ Some plan → x.plan ≡ Some plan
event-keeps t x (noted m) fine plan is = is
event-keeps t x (forgotten m) fine plan is = is
event-keeps t x (filled entry) fine plan is = is
event-keeps t x (installed other) fine plan is = absurd fine
event-keeps t x discarded fine plan is = let f : ⊥ = cc in absurd f

event-within : (t : Trail) (sites : List SiteState) (s : ℕ) (event : Event) → IsFine t event → PlansWithin (with_event sites s event) sites
event-within t [] s event fine = within-same []
event-within t (x ∷ xs) zero event fine = within-more (after_event x event) x xs xs (event-keeps t x event fine) (within-same xs)
event-within t (x ∷ xs) (suc s) event fine = within-more x x (with_event xs s event) xs (λ plan is. is) (event-within t xs s event fine)

events-within : (t : Trail) (sites : List SiteState) (s : ℕ) (events : List Event) → AreFine t events → PlansWithin (with_events sites s events) sites
events-within t sites s [] fine = within-same sites
events-within t sites s (event ∷ events) fine =
    within-on (with_events (with_event sites s event) s events) (with_event sites s event) sites (events-within t (with_event sites s event) s events fine.1) (event-within t sites s event fine.0)

unless-keeps : (broken : Option Dep) (x : SiteState) (plan : Plan) → (unless_broken broken x).plan ≡ Some plan → x.plan ≡ Some plan
unless-keeps None x plan is = is
unless-keeps (Some dep) x plan is = let f : ⊥ = cc in absurd f

unbroken-within : (s : Shape) (words : List ℕ) (sites : List SiteState) → PlansWithin (unbroken_sites s words sites) sites
unfolding unbroken_sites
unbroken-within s words [] = within-same []
unbroken-within s words (x ∷ xs) = within-more (unless_broken (broken_by s words x) x) x (unbroken_sites s words xs) xs (unless-keeps (broken_by s words x) x) (unbroken-within s words xs)

left-within : {P : Type 0} (now : ObjectsState P) (sites : List SiteState) → PlansWithin (sites_left now sites) sites
left-within {P} now sites = unbroken-within now.heap.view.shape (words_of now.heap.desk) sites

new-within : (sites : List SiteState) (what : Site) → PlansWithin (sites ++ new_site what ∷ []) sites
new-within [] what zero x plan here is = let f : ⊥ = cc (ap (λ (y : SiteState). y.plan) (some-is (new_site what) x here), is) in absurd f
new-within [] what (suc n) x plan here is = let f : ⊥ = cc in absurd f
new-within (y ∷ ys) what zero x plan here is = (y, refl, ap (λ (w : SiteState). w.plan) (some-is y x here) ∙ is)
new-within (y ∷ ys) what (suc n) x plan here is = new-within ys what n x plan here is

if-within : (b : Bool) (xs ys : List SiteState) → PlansWithin xs ys → PlansWithin (if b then xs else ys) ys
if-within true xs ys within = within
if-within false xs ys within = within-same ys

at-within : {P : Type 0} (objects : ObjectsState P) → HaveGates objects.heap.view.trail → (sites : List SiteState) (s o : ℕ) (site : Option Site) (chosen : Chosen) → PlansWithin (sites_at objects sites s o site chosen) sites
at-within {P} objects gates sites s o site (by_plan case) = within-same sites
at-within {P} objects gates sites s o None by_cache = within-same sites
at-within {P} objects gates sites s o None by_lookup = within-same sites
at-within {P} objects gates sites s o (Some site) by_cache = events-within objects.heap.view.trail sites s (events_at objects sites s o site.op site.name) (events-fine objects gates sites s o site.op site.name)
at-within {P} objects gates sites s o (Some site) by_lookup = events-within objects.heap.view.trail sites s (events_at objects sites s o site.op site.name) (events-fine objects gates sites s o site.op site.name)

-- no command but the end of a job installs a plan
pub by-within : {P : Type 0} (ready : ObjectsState P) → HaveGates ready.heap.view.trail → (sites : List SiteState) (command : Command) (chosen : Chosen) → PlansWithin (sites_by ready sites command chosen) sites
by-within {P} ready gates sites (Declare op name) chosen = new-within sites (record { op = op; name = name })
by-within {P} ready gates sites (Exec s o value) chosen =
    if-within (is_access (plain_with ready sites) (Exec s o value)) (sites_at ready (sites_left ready sites) s o (site_at sites s) chosen) sites
    (within-on (sites_at ready (sites_left ready sites) s o (site_at sites s) chosen) (sites_left ready sites) sites (at-within ready gates (sites_left ready sites) s o (site_at sites s) chosen) (left-within ready sites))
by-within {P} ready gates sites command chosen = within-same sites

-- Laws, and what holds when a command begins

pub record PlanLaws {P : Type 0} (went : P → List Access → List Access → P → Type 0) : Type 0 where
  pub first : BreaksAreFirst
  pub quiet : QuietBreaksNoPlan
  pub rest : ObjectsRest
  pub live : BorneNamesLive
  pub right : InstalledAreRight
  pub forms : FormsAreKept
  pub more : NewSitesHaveNoPlan
  pub calm : (a b : ObjectsState P) (did : Did) → IsObjects a.heap.view a.kept a.of_null → IsObjects b.heap.view b.kept b.of_null → Came went a did b → AreCalm a.heap.view.trail → AreCalm b.heap.view.trail

pub record IsSteady {P : Type 0} (a : ObjectsState P) (sites : List SiteState) : Type 0 where
  pub standing : IsStanding a
  pub desk : IsDesk a.heap.view a.heap.desk
  pub calm : AreCalm a.heap.view.trail
  pub installed : AreInstalled a.heap.view.shape a.heap.view.trail sites

none-broken : (s : Shape) (words : List ℕ) (at from : ℕ) (sites : List SiteState) (n : ℕ) (y : SiteState) → lines_from s words at from sites ≡ [] → slice_get sites n ≡ Some y → broken_by s words y ≡ None
unfolding lines_from
none-broken s words at from [] n y none here = let f : ⊥ = cc in absurd f
none-broken s words at from (x ∷ xs) n y none here = by (broken_by s words x) refl n here (λ rest k there. none-broken s words at (from + 1) xs k y rest there)
  where
    line : (broken : Option Dep) → broken_by s words x ≡ broken → discard_line at from broken ++ lines_from s words at (from + 1) xs ≡ []
    line broken is = sym (ap (λ (b : Option Dep). discard_line at from b ++ lines_from s words at (from + 1) xs) is) ∙ none

    by : (broken : Option Dep) → broken_by s words x ≡ broken → (n : ℕ) → slice_get (x ∷ xs) n ≡ Some y → (lines_from s words at (from + 1) xs ≡ [] → (k : ℕ) → slice_get xs k ≡ Some y → broken_by s words y ≡ None) → broken_by s words y ≡ None
    by None is zero there others = ap (λ (z : SiteState). broken_by s words z) (sym (some-is x y there)) ∙ is
    by None is (suc k) there others = others (line None is) k there
    by (Some dep) is k there others = let f : ⊥ = cc (line (Some dep) is) in absurd f

module _ {P : Type 0} (went : P → List Access → List Access → P → Type 0) (laws : PlanLaws went) (old : ObjectsState P) (sites : List SiteState) (steady : IsSteady old sites) where
  unbroken : AreUnbroken old.heap.view.shape (words_of old.heap.desk) sites
  unbroken = laws.quiet old.heap.view.trail old.heap.view old.heap.desk sites steady.standing.objects.heap steady.desk (goes-still old.heap.view.shape steady.standing.objects.heap.lawful) refl steady.installed

  -- each dependency of a plan holds before
  held-before : (n : ℕ) (y : SiteState) (plan : Plan) → slice_get sites n ≡ Some y → y.plan ≡ Some plan → IsUnbroken old.heap.view.shape (words_of old.heap.desk) plan
  held-before n y plan here is =
      let none = none-broken old.heap.view.shape (words_of old.heap.desk) 0 0 sites n y (unbroken.none 0) here in
      let each = subst (λ (o : Option Dep). MatchOption o (IfSome y.plan (IsUnbroken old.heap.view.shape (words_of old.heap.desk))) (λ (d : Dep). IsSomeAnd y.plan (λ (p : Plan). IsFirstBroken (HoldsButValue old.heap.view.shape (words_of old.heap.desk)) p.deps d))) none
      (laws.first old.heap.view.shape (words_of old.heap.desk) y) in
      subst (λ (o : Option Plan). IfSome o (IsUnbroken old.heap.view.shape (words_of old.heap.desk))) is each

  module _ (there : ObjectsState P) (at : ℕ) (position : at ≡ counted (length there.heap.desk.trail)) where
    broken-by : (n : ℕ) (y : SiteState) (plan : Plan) (dep : Dep) → slice_get sites n ≡ Some y → y.plan ≡ Some plan → IsFirstBroken (HoldsButValue there.heap.view.shape (words_of there.heap.desk)) plan.deps dep → WasBroken old sites there at n dep
    broken-by n y plan dep here is broken = record {
      position = position;
      broken = subst (λ (o : Option Plan). IsSomeAnd o (λ (p : Plan). IsFirstBroken (HoldsButValue there.heap.view.shape (words_of there.heap.desk)) p.deps dep)) (sym (ap plan_in here ∙ is)) broken;
      held = all-middle (HoldsButValue old.heap.view.shape (words_of old.heap.desk)) broken.before broken.after dep
          (subst (AllByRecursion (HoldsButValue old.heap.view.shape (words_of old.heap.desk))) broken.are (held-before n y plan here is));
    }

    broken-of : (xs : List SiteState) → PlansWithin xs sites → (n : ℕ) (x : SiteState) (dep : Dep) → slice_get xs n ≡ Some x → broken_by there.heap.view.shape (words_of there.heap.desk) x ≡ Some dep → WasBroken old sites there at n dep
    broken-of xs within n x dep here broken = by x.plan refl (first-broken laws.first there.heap.view.shape (words_of there.heap.desk) x dep broken)
      where
        by : (plan : Option Plan) → x.plan ≡ plan → IsSomeAnd x.plan (λ (p : Plan). IsFirstBroken (HoldsButValue there.heap.view.shape (words_of there.heap.desk)) p.deps dep) → WasBroken old sites there at n dep
        by None is h = absurd (subst (λ (o : Option Plan). IsSomeAnd o (λ (p : Plan). IsFirstBroken (HoldsButValue there.heap.view.shape (words_of there.heap.desk)) p.deps dep)) is h)
        by (Some plan) is h =
            let y = within n x plan here is in
            broken-by n y.0 plan dep y.1 y.2 (subst (λ (o : Option Plan). IsSomeAnd o (λ (p : Plan). IsFirstBroken (HoldsButValue there.heap.view.shape (words_of there.heap.desk)) p.deps dep)) is h)

    -- each line of discards is true
    pub each-broken : (xs : List SiteState) → PlansWithin xs sites → AllByRecursion (IsLost at (λ site dep. WasBroken old sites there at site dep)) (lines_from there.heap.view.shape (words_of there.heap.desk) at 0 xs)
    each-broken xs within =
        each-from there.heap.view.shape (words_of there.heap.desk) (λ site dep. WasBroken old sites there at site dep) at 0 xs
        (λ i x dep here broken. subst (λ (n : ℕ). WasBroken old sites there at n dep) (omega arith) (broken-of xs within i x dep here broken))

  -- where objects only made loads nothing is broken
  pub still-none : (b : ObjectsState P) → IsStill old b → lines_lost b sites ≡ []
  still-none b still = subst (λ (x : ObjectsState P). lines_lost x sites ≡ []) (sym still.is) (unbroken.none (counted (length old.heap.desk.trail)))

  -- objects that a command uses were migrated
  pub readied-steady : (uses : List ℕ) (ready : ObjectsState P) → AreReadied went old uses ready → IsStanding ready × AreCalm ready.heap.view.trail
  readied-steady uses ready readied =
      readied-keeps went (λ (s : ObjectsState P). AreCalm s.heap.view.trail) (λ x y first second moves k. laws.calm x y Moved first.objects second.objects moves k) uses old ready steady.standing readied steady.calm

  pub gates-of : (ready : ObjectsState P) → IsStanding ready → HaveGates ready.heap.view.trail
  gates-of ready standing = have-gates laws.forms ready.heap.view.shape ready.heap.view.trail standing.objects.heap.lawful

module _ {P : Type 0} (went : P → List Access → List Access → P → Type 0) (laws : PlanLaws went) (now : ObjectsState P) (standing : IsStanding now) (calm : AreCalm now.heap.view.trail) where
  -- a plan that the words bear is upheld
  upheld : (plan : Plan) (what : Site) → IsInstalled now.heap.view.shape now.heap.view.trail what plan → IsUpheld now plan
  upheld plan what h = record {
    hold = h.borne.hold;
    live = laws.live now.heap.view now.kept plan (laws.rest now.heap.view now.kept now.of_null standing.objects calm) h.borne;
  }

  pub upheld-at : (xs : List SiteState) (s : ℕ) (Q : Plan → Type 0) → AreInstalled now.heap.view.shape now.heap.view.trail xs → IsSomeAnd (plan_at xs s) Q → IsSomeAnd (plan_at xs s) (IsUpheld now)
  upheld-at xs s Q borne hit = by (slice_get xs s) refl hit
    where
      here : (o : Option Plan) (what : Site) → IfSome o (IsInstalled now.heap.view.shape now.heap.view.trail what) → IsSomeAnd o Q → IsSomeAnd o (IsUpheld now)
      here None what h q = absurd q
      here (Some plan) what h q = upheld plan what h

      by : (o : Option SiteState) → slice_get xs s ≡ o → IsSomeAnd (plan_in o) Q → IsSomeAnd (plan_in o) (IsUpheld now)
      by None is q = absurd q
      by (Some x) is q = here x.plan x.site (all-get (HasInstalled now.heap.view.shape now.heap.view.trail) xs s x borne is) q

  -- each is, and right
  pub all-upheld : (sites : List SiteState) → AreInstalled now.heap.view.shape now.heap.view.trail sites → AreUpheld now sites
  all-upheld sites borne =
      all-both (HasInstalled now.heap.view.shape now.heap.view.trail) (λ (state : SiteState). IfSome state.plan (IsRight now.heap.view.trail now.kept)) (λ (state : SiteState). IfSome state.plan (λ (plan : Plan). IsUpheld now plan × IsRight now.heap.view.trail now.kept plan)) sites
      (λ state h r. both state.plan state.site h r) borne (laws.right now.heap.view now.kept sites (laws.rest now.heap.view now.kept now.of_null standing.objects calm) borne)
    where
      both : (o : Option Plan) (what : Site) → IfSome o (IsInstalled now.heap.view.shape now.heap.view.trail what) → IfSome o (IsRight now.heap.view.trail now.kept) → IfSome o (λ (plan : Plan). IsUpheld now plan × IsRight now.heap.view.trail now.kept plan)
      both None what h r = tt
      both (Some plan) what h r = (upheld plan what h, r)
