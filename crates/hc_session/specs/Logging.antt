-- The log of a session and its marks.
use Rattle.std.specs.Prelude.{◌≡◌, ◌⊎◌, ℕ, suc, Bool, true, false, if◌then◌else◌, IsSomeAnd, List, [], ◌∷◌, ◌++◌, length, drop, Option, Some}
use Rattle.std.specs.List.{AllByRecursion}
use Rattle.hc_board.specs.States.{counted}
use Rattle.hc_value.specs.declared.value.Value.{Value}
use Rattle.hc_compiler.specs.Ends.{HasEnded}
use Rattle.hc_compiler.specs.Jobs.{Opening, opening_at}
use Rattle.hc_modes.specs.State.{ObjectsState}
use Rattle.hc_plan.specs.declared.deps.Dep.{Dep}
use Rattle.hc_question.specs.declared.outcome.Outcome.{Outcome}
use Rattle.hc_sites.specs.State.{plan_at}
use Rattle.hc_deps.specs.declared.verdict.Verdict.{Verdict}
use Rattle.hc_deps.specs.declared.verdict.Verdict.TheVariants.{Installed, Refused, NoPlan as NoVerdict}
use Rattle.hc_installed.specs.Settles.{IsOutcomeAt}
use Rattle.hc_commands.specs.declared.command.Command.{Command}
use Rattle.hc_commands.specs.declared.command.Command.TheVariants.{Exec, Finish}
use Rattle.hc_report.specs.Lines.{log_line}
use Rattle.hc_report.specs.declared.line.Line.{Line}
use Rattle.hc_report.specs.declared.line.Line.TheVariants.{Hit, Cache, Slow, Install, Refuse, NoPlan, Discard}
use Rattle.hc_report.specs.declared.marks.Mark.{Mark}
use Rattle.hc_session.specs.Plain.{is_access}
use Rattle.hc_session.specs.Plans.{Chosen, by_plan, by_cache, by_lookup, IsChosen, IsUpheld, HasHeld, WasBroken, sites_left}
use Rattle.hc_session.specs.Standing.{Standing, plain_of}

-- the mark of a command that begins here: how many stores, met entries, lines and slots there are
abbrev pub mark_at : {P : Type 0} → ObjectsState P → List (ℕ × Line) → Mark
mark_at objects log = record {
  at = counted (length objects.heap.desk.trail);
  met = counted (length objects.heap.desk.met);
  lines = length log;
  slots = objects.heap.view.used.slots;
}

abbrev pub mark_of : {P : Type 0} → Standing P → Mark
mark_of session = mark_at session.objects session.log

-- Legal lines

-- a command is an access of a site that is accepted, and its answer was chosen at this position, when its receiver had been migrated,
-- and plans discarded that this broke, and before its first store
pub record IsWay {P : Type 0} (old : Standing P) (ready : ObjectsState P) (site o at : ℕ) (value : Option Value) (chosen : Chosen) : Type 0 where
  pub accepted : is_access (plain_of old) (Exec site o value) ≡ true
  pub position : at ≡ counted (length ready.heap.desk.trail)
  pub way : IsChosen ready (sites_left ready old.sites) site o value chosen

abbrev pub IsWayOf : {P : Type 0} → Standing P → ObjectsState P → Command → ℕ → ℕ → Chosen → Type 0
IsWayOf old ready (Exec s o value) site at chosen = (s ≡ site) × IsWay old ready site o at value chosen
IsWayOf old ready command site at chosen = ⊥

-- where a plan answers, it is upheld there
abbrev pub HasUpheld : {P : Type 0} → Standing P → ObjectsState P → ℕ → Type 0
HasUpheld old ready site = IsSomeAnd (plan_at (sites_left ready old.sites) site) (IsUpheld ready)

-- a command ended a job that was open, with this outcome and this verdict on it, by the words of this position: so the entry of its
-- reader says that was met last. No store came before or after it
pub record IsEnd {P : Type 0} (old : Standing P) (job at : ℕ) (given : Opening) (outcome : Outcome) (verdict : Verdict) (now : ObjectsState P) : Type 0 where
  pub was : opening_at old.compiler.jobs job ≡ Some given
  pub ended : HasEnded old.compiler.jobs job outcome now
  pub position : at ≡ counted (length now.heap.desk.trail)
  pub verdict_is : IsOutcomeAt now outcome verdict

abbrev pub IsEndOf : {P : Type 0} → Standing P → Command → ℕ → ℕ → Verdict → ObjectsState P → (Opening → Type 0) → Type 0
IsEndOf old (Finish j) job at verdict now Also = (j ≡ job) × ((given : Opening) × (outcome : Outcome) × IsEnd old job at given outcome verdict now × Also given)
IsEndOf old command job at verdict now Also = ⊥

-- a plan was lost where the receiver of an access had been migrated, or at the command's end
abbrev pub IsDiscard : {P : Type 0} → Standing P → ObjectsState P → ObjectsState P → ℕ → ℕ → Dep → Type 0
IsDiscard old ready now at site dep = WasBroken old.objects old.sites ready at site dep ⊎ WasBroken old.objects old.sites now at site dep

-- a line that a command may put into the log, with how many stores there were before it: an access says what answered; the end of a
-- job that its plan was installed, or for what dependency it was refused, which held at some position not before the job's start, or
-- why there is none; and any command whose plan was lost, and by what
abbrev pub IsLegalLine : {P : Type 0} → Standing P → ObjectsState P → Command → ObjectsState P → ℕ → Line → Type 0
IsLegalLine old ready command now at (Hit site case) = IsWayOf old ready command site at (by_plan case) × HasUpheld old ready site
IsLegalLine old ready command now at (Cache site) = IsWayOf old ready command site at by_cache
IsLegalLine old ready command now at (Slow site) = IsWayOf old ready command site at by_lookup
IsLegalLine old ready command now at (Install job site) = IsEndOf old command job at Installed now (λ given. given.site ≡ site)
IsLegalLine old ready command now at (Refuse job dep) = IsEndOf old command job at (Refused dep) now (λ given. HasHeld now given.start dep)
IsLegalLine old ready command now at (NoPlan job why) = IsEndOf old command job at (NoVerdict why) now (λ given. Unit {0})
IsLegalLine old ready command now at (Discard site dep) = IsDiscard old ready now at site dep

-- a line that says how a site answered
abbrev pub is_answer : Line → Bool
is_answer (Hit site case) = true
is_answer (Cache site) = true
is_answer (Slow site) = true
is_answer _ = false

-- how many of these lines there are
abbrev pub answers_in : List (ℕ × Line) → ℕ
answers_in [] = 0
answers_in (entry ∷ entries) = if is_answer entry.1 then suc (answers_in entries) else answers_in entries

-- the lines that the log has got since
abbrev pub lines_since : {P : Type 0} → Standing P → Standing P → List (ℕ × Line)
lines_since old new = drop (length old.log) new.log

-- a command has one mark, of the numbers with which it began, and its lines stand behind those that were there; exactly one says
-- what answered where the command is an access that is accepted, and none else
pub record Logs {P : Type 0} (old : Standing P) (ready : ObjectsState P) (command : Command) (new : Standing P) : Type 0 where
  pub mark : new.marks ≡ old.marks ++ mark_of old ∷ []
  pub log : new.log ≡ old.log ++ lines_since old new
  pub legal : AllByRecursion (λ (entry : ℕ × Line). IsLegalLine old ready command new.objects entry.0 entry.1) (lines_since old new)
  pub one : answers_in (lines_since old new) ≡ (if is_access (plain_of old) command then 1 else 0)

-- the text of lines of the log
abbrev pub log_text : List (ℕ × Line) → List ℕ
log_text [] = []
log_text (entry ∷ entries) = log_line entry.1 ++ log_text entries
