-- What a command that isn't one of jobs puts into the log.
use Rattle.std.proofs.Common.{◌≡◌, ℕ, suc, ◌+◌, Bool, true, false, List, [], ◌∷◌, ◌++◌, length, map, refl, sym, ap, ◌∙◌, subst, arith, Option, Some, None, append-nil}
use Rattle.std.specs.Prelude.{◌⊎◌, IsSomeAnd, if◌then◌else◌, slice_get}
use Rattle.std.specs.List.{AllByRecursion}
use Rattle.std.proofs.lemmas.List.{length-map}
use Rattle.hc_board.specs.States.{counted}
use Rattle.hc_board.specs.Trail.{Access}
use Rattle.hc_value.specs.declared.value.Value.{Value}
use Rattle.hc_commands.specs.declared.command.Command.{Command}
use Rattle.hc_commands.specs.declared.command.Command.TheVariants.{Declare, Exec, Compile, Step, Finish}
use Rattle.hc_installed.specs.Answers.{IsFirstToAdmit}
use Rattle.hc_installed.specs.Installed.{AreInstalled}
use Rattle.hc_modes.specs.Rest.{AreCalm}
use Rattle.hc_modes.specs.State.{ObjectsState}
use Rattle.hc_objects.specs.State.{IsStanding}
use Rattle.hc_plan.specs.declared.case.Site.{Site}
use Rattle.hc_plan.specs.declared.deps.Dep.{Dep}
use Rattle.hc_plan.specs.declared.plan.Plan.{Plan}
use Rattle.hc_report.specs.Lines.{log_line}
use Rattle.hc_report.specs.declared.line.Line.{Line}
use Rattle.hc_report.specs.declared.line.Line.TheVariants.{Cache, Slow, Hit, Discard}
use Rattle.hc_sites.specs.State.{plan_at}
use Rattle.hc_sites.specs.declared.state.SiteState.{SiteState}
use Rattle.hc_table.specs.Kept.{Kept as Tables}
use Rattle.hc_session.specs.Logging.{HasUpheld, IsLegalLine, IsWay, answers_in, is_answer, log_text}
use Rattle.hc_session.specs.Plain.{AreRising, IsAccessText, IsAnswerText, IsDiscardsText, IsLogText, IsTextIf, MayDiscardIf, PlainState, is_access, is_of_jobs, none_started}
use Rattle.hc_session.specs.Plans.{Chooses, Chosen, by_plan, by_cache, by_lookup, IsChosen, WasBroken, answer_lines, chosen_line, lines_lost, lines_ready, sites_left, sites_ready}
use Rattle.hc_session.specs.Serving.{Bears, lines_of}
use Rattle.hc_session.specs.Standing.{Standing, plain_of, plain_with, tables_of}
use Rattle.hc_session.specs.State.{sites_at, sites_by}
use Rattle.hc_session.specs.Tables.{all_there}
use Rattle.hc_session.specs.Using.{is_accepted}
use Rattle.hc_session.proofs.Broken.{IsSteady, PlanLaws, PlansWithin, all-weaker, by-within, each-broken, gates-of, upheld-at, within-same}
use Rattle.hc_session.proofs.Declares.{sites-seen}
use Rattle.hc_session.proofs.Losing.{IsLost, lost-none, lost-text, text-append}
use mathlib.Core.Logic.{inl, inr}

-- an access is accepted as it was, once its receiver was migrated
pub same_access : {P : Type 0} (old ready : ObjectsState P) (sites : List SiteState) (command : Command) → tables_of ready ≡ tables_of old → is_access (plain_with ready sites) command ≡ is_access (plain_with old sites) command
same_access {P} old ready sites command same = ap (λ (t : Tables). is_access (record { tables = t; sites = map (λ (x : SiteState). x.site) sites; jobs = none_started }) command) same

-- Their text

chosen_text : (s : ℕ) (chosen : Chosen) → IsAnswerText s (log_line (chosen_line s chosen))
chosen_text s (by_plan case) = inl (case, refl)
chosen_text s by_cache = inr (inl refl)
chosen_text s by_lookup = inr (inr refl)

lost_within : {P : Type 0} (now : ObjectsState P) (sites : List SiteState) (count : ℕ) → length sites ≡ count → IsDiscardsText count (log_text (lines_lost now sites))
lost_within {P} now sites count is = subst (λ (n : ℕ). IsDiscardsText n (log_text (lines_lost now sites))) is (lost-text now sites)

access_text : {P : Type 0} (ready now : ObjectsState P) (sites later : List SiteState) (count at s : ℕ) (chosen : Chosen) → length sites ≡ count → length later ≡ count
    → IsAccessText count s (log_text (lines_lost ready sites ++ ((at, chosen_line s chosen) ∷ lines_lost now later)))
access_text {P} ready now sites later count at s chosen first second = record {
  before = log_text (lines_lost ready sites);
  line = log_line (chosen_line s chosen);
  after = log_text (lines_lost now later);
  discards_before = lost_within ready sites count first;
  answers = chosen_text s chosen;
  discards_after = lost_within now later count second;
  log_is = text-append (lines_lost ready sites) ((at, chosen_line s chosen) ∷ lines_lost now later);
}

-- the lines of an access, by whether it is accepted
abbrev pub lines_by : {P : Type 0} → Bool → ObjectsState P → List SiteState → List SiteState → ℕ → Chosen → ObjectsState P → List (ℕ × Line)
lines_by accepted ready sites later s chosen now =
    (if accepted then lines_lost ready sites else []) ++ ((if accepted then (counted (length ready.heap.desk.trail), chosen_line s chosen) ∷ [] else []) ++ lines_lost now later)

text_by : {P : Type 0} (accepted : Bool) (ready now : ObjectsState P) (sites later : List SiteState) (count s : ℕ) (chosen : Chosen) → length sites ≡ count → length later ≡ count → (accepted ≡ false → lines_by accepted ready sites later s chosen now ≡ []) → IsTextIf accepted count s (log_text (lines_by accepted ready sites later s chosen now))
text_by {P} true ready now sites later count s chosen first second none = access_text ready now sites later count (counted (length ready.heap.desk.trail)) s chosen first second
text_by {P} false ready now sites later count s chosen first second none = ap log_text (none refl)

may_text : {P : Type 0} (accepted : Bool) (now : ObjectsState P) (sites : List SiteState) (count : ℕ) → length sites ≡ count → (accepted ≡ false → lines_lost now sites ≡ []) → MayDiscardIf accepted count (log_text (lines_lost now sites))
may_text {P} true now sites count is none = lost_within now sites count is
may_text {P} false now sites count is none = ap log_text (none refl)

-- How many say what answered

answers_behind : (b : Bool) (xs ys : List (ℕ × Line)) → (if b then suc (answers_in xs) else answers_in xs) ≡ 0 → (answers_in xs ≡ 0 → answers_in (xs ++ ys) ≡ answers_in ys) → (if b then suc (answers_in (xs ++ ys)) else answers_in (xs ++ ys)) ≡ answers_in ys
answers_behind true xs ys e others = absurd (omega (arith, e))
answers_behind false xs ys e others = others e

answers_append : (xs ys : List (ℕ × Line)) → answers_in xs ≡ 0 → answers_in (xs ++ ys) ≡ answers_in ys
answers_append [] ys e = refl
answers_append (x ∷ xs) ys e = answers_behind (is_answer x.1) xs ys e (answers_append xs ys)

one_way : (at s : ℕ) (chosen : Chosen) (rest : List (ℕ × Line)) → answers_in ((at, chosen_line s chosen) ∷ rest) ≡ suc (answers_in rest)
one_way at s (by_plan case) rest = refl
one_way at s by_cache rest = refl
one_way at s by_lookup rest = refl

one_by : {P : Type 0} (accepted : Bool) (ready now : ObjectsState P) (sites later : List SiteState) (s : ℕ) (chosen : Chosen) → answers_in (lines_by accepted ready sites later s chosen now) ≡ (if accepted then 1 else 0)
one_by {P} true ready now sites later s chosen =
    answers_append (lines_lost ready sites) ((counted (length ready.heap.desk.trail), chosen_line s chosen) ∷ lines_lost now later) (lost-none ready sites)
    ∙ (one_way (counted (length ready.heap.desk.trail)) s chosen (lines_lost now later) ∙ ap suc (lost-none now later))
one_by {P} false ready now sites later s chosen = lost-none now later

-- That they are legal

abbrev pub AreLegal : {P : Type 0} → Standing P → ObjectsState P → Command → ObjectsState P → List (ℕ × Line) → Type 0
AreLegal old ready command now lines = AllByRecursion (λ (entry : ℕ × Line). IsLegalLine old ready command now entry.0 entry.1) lines

legal_append : {P : Type 0} (old : Standing P) (ready now : ObjectsState P) (command : Command) (xs ys : List (ℕ × Line)) → AreLegal old ready command now xs → AreLegal old ready command now ys → AreLegal old ready command now (xs ++ ys)
legal_append {P} old ready now command [] ys first second = second
legal_append {P} old ready now command (x ∷ xs) ys first second = (first.0, legal_append old ready now command xs ys first.1 second)

-- a plan that answers is upheld there
abbrev HasUpheldIf : {P : Type 0} → Standing P → ObjectsState P → ℕ → Chosen → Type 0
HasUpheldIf old ready s (by_plan case) = HasUpheld old ready s
HasUpheldIf old ready s chosen = Unit {0}

chosen_legal : {P : Type 0} (old : Standing P) (ready now : ObjectsState P) (s o : ℕ) (value : Option Value) (chosen : Chosen) → is_access (plain_of old) (Exec s o value) ≡ true
    → IsChosen ready (sites_left ready old.sites) s o value chosen → HasUpheldIf old ready s chosen → IsLegalLine old ready (Exec s o value) now (counted (length ready.heap.desk.trail)) (chosen_line s chosen)
chosen_legal {P} old ready now s o value (by_plan case) accepted is upheld = ((refl, record { accepted = accepted; position = refl; way = is }), upheld)
chosen_legal {P} old ready now s o value by_cache accepted is upheld = (refl, record { accepted = accepted; position = refl; way = is })
chosen_legal {P} old ready now s o value by_lookup accepted is upheld = (refl, record { accepted = accepted; position = refl; way = is })

module _ {P : Type 0} (went : P → List Access → List Access → P → Type 0) (laws : PlanLaws went) (old : Standing P) (ready now : ObjectsState P) (steady : IsSteady old.objects old.sites) (standing : IsStanding ready) (calm : AreCalm ready.heap.view.trail) where
  -- discards, where the receiver was migrated and at the end
  first_legal : (command : Command) → AreLegal old ready command now (lines_lost ready old.sites)
  first_legal command =
      all-weaker (IsLost (counted (length ready.heap.desk.trail)) (λ site dep. WasBroken old.objects old.sites ready (counted (length ready.heap.desk.trail)) site dep)) (λ (entry : ℕ × Line). IsLegalLine old ready command now entry.0 entry.1) (lines_lost ready old.sites)
      (λ entry lost. subst (λ (e : ℕ × Line). IsLegalLine old ready command now e.0 e.1) (sym lost.2) (inl lost.3))
      (each-broken went laws old.objects old.sites steady ready (counted (length ready.heap.desk.trail)) refl old.sites (within-same old.sites))

  last_legal : (command : Command) (later : List SiteState) → PlansWithin later old.sites → AreLegal old ready command now (lines_lost now later)
  last_legal command later within =
      all-weaker (IsLost (counted (length now.heap.desk.trail)) (λ site dep. WasBroken old.objects old.sites now (counted (length now.heap.desk.trail)) site dep)) (λ (entry : ℕ × Line). IsLegalLine old ready command now entry.0 entry.1) (lines_lost now later)
      (λ entry lost. subst (λ (e : ℕ × Line). IsLegalLine old ready command now e.0 e.1) (sym lost.2) (inr lost.3))
      (each-broken went laws old.objects old.sites steady now (counted (length now.heap.desk.trail)) refl later within)

  upheld_if : (s o : ℕ) (value : Option Value) (chosen : Chosen) → IsChosen ready (sites_left ready old.sites) s o value chosen → Bears ready old.sites (Exec s o value) chosen → sites_ready ready old.sites (Exec s o value) ≡ sites_left ready old.sites → HasUpheldIf old ready s chosen
  upheld_if s o value (by_plan case) is bears same =
      upheld-at went laws ready standing calm (sites_left ready old.sites) s (λ (plan : Plan). IsFirstToAdmit ready o value plan.cases case)
      (subst (λ (xs : List SiteState). AreInstalled ready.heap.view.shape ready.heap.view.trail xs) same bears) is
  upheld_if s o value by_cache is bears same = tt
  upheld_if s o value by_lookup is bears same = tt

  access_legal : (s o : ℕ) (value : Option Value) (chosen : Chosen) (later : List SiteState) (accepted : Bool) → is_access (plain_of old) (Exec s o value) ≡ accepted → is_access (plain_with ready old.sites) (Exec s o value) ≡ accepted → PlansWithin later old.sites
      → Chooses ready old.sites (Exec s o value) chosen → Bears ready old.sites (Exec s o value) chosen → AreLegal old ready (Exec s o value) now (lines_by accepted ready old.sites later s chosen now)
  access_legal s o value chosen later true accepted then_is within chooses bears =
      let same : sites_ready ready old.sites (Exec s o value) ≡ sites_left ready old.sites = ap (λ (b : Bool). if b then sites_left ready old.sites else old.sites) then_is in
      let is = subst (λ (xs : List SiteState). IsChosen ready xs s o value chosen) same (chooses then_is) in
      legal_append old ready now (Exec s o value) (lines_lost ready old.sites) ((counted (length ready.heap.desk.trail), chosen_line s chosen) ∷ lines_lost now later) (first_legal (Exec s o value))
      (chosen_legal old ready now s o value chosen accepted is (upheld_if s o value chosen is bears same), last_legal (Exec s o value) later within)
  access_legal s o value chosen later false accepted then_is within chooses bears = last_legal (Exec s o value) later within

  -- all lines of a command
  pub lines_legal : (command : Command) (chosen : Chosen) → tables_of ready ≡ tables_of old.objects → Chooses ready old.sites command chosen → Bears ready old.sites command chosen → AreLegal old ready command now (lines_of ready old.sites command chosen now)
  lines_legal (Exec s o value) chosen same chooses bears =
      let then_is = same_access old.objects ready old.sites (Exec s o value) same in
      let later = sites_by ready old.sites (Exec s o value) chosen in
      subst (λ (b : Bool). AreLegal old ready (Exec s o value) now (lines_by b ready old.sites later s chosen now)) (sym then_is)
      (access_legal s o value chosen later (is_access (plain_of old) (Exec s o value)) refl then_is (by-within ready (gates-of went laws old.objects old.sites steady ready standing) old.sites (Exec s o value) chosen) chooses bears)
  lines_legal command chosen same chooses bears = last_legal command (sites_by ready old.sites command chosen) (by-within ready (gates-of went laws old.objects old.sites steady ready standing) old.sites command chosen)

module _ {P : Type 0} (old : Standing P) (ready now : ObjectsState P) (same : tables_of ready ≡ tables_of old.objects) where
  pub one_line : (command : Command) (chosen : Chosen) → answers_in (lines_of ready old.sites command chosen now) ≡ (if is_access (plain_of old) command then 1 else 0)
  one_line (Exec s o value) chosen =
      one_by (is_access (plain_with ready old.sites) (Exec s o value)) ready now old.sites (sites_by ready old.sites (Exec s o value) chosen) s chosen
      ∙ ap (λ (b : Bool). if b then 1 else 0) (same_access old.objects ready old.sites (Exec s o value) same)
  one_line command chosen = lost-none now (sites_by ready old.sites command chosen)

  count_of : length old.sites ≡ length (plain_of old).sites
  count_of = sym (length-map old.sites (λ (x : SiteState). x.site))

  -- none but the sites that are there
  pub line_text : (command : Command) (chosen : Chosen) → is_of_jobs command ≡ false → ((op : _) (name : ℕ) → command ≡ Declare op name → lines_of ready old.sites command chosen now ≡ []) → (is_accepted (plain_of old) command ≡ false → lines_of ready old.sites command chosen now ≡ []) → IsLogText (plain_of old) command (log_text (lines_of ready old.sites command chosen now))
  line_text (Declare op name) chosen not declared refused = ap log_text (declared op name refl)
  line_text (Exec s o value) chosen not declared refused =
      let then_is = same_access old.objects ready old.sites (Exec s o value) same in
      let later = sites_by ready old.sites (Exec s o value) chosen in
      subst (λ (b : Bool). IsTextIf b (length (plain_of old).sites) s (log_text (lines_of ready old.sites (Exec s o value) chosen now))) then_is
      (text_by (is_access (plain_with ready old.sites) (Exec s o value)) ready now old.sites later (length (plain_of old).sites) s chosen count_of
      (sym (length-map later (λ (x : SiteState). x.site)) ∙ ap (λ (xs : List Site). length xs) (sites-seen ready old.sites (Exec s o value) chosen))
      (λ no. refused (sym then_is ∙ no)))
  line_text (Compile s) chosen not declared refused = absurd (cc)
  line_text (Step j reads) chosen not declared refused = absurd (cc)
  line_text (Finish j) chosen not declared refused = absurd (cc)
  line_text command chosen not declared refused = may_text (all_there (plain_of old).tables command) now old.sites (length (plain_of old).sites) count_of refused
