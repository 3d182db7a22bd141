-- What commands do to property tables, declared sites and jobs.
use Rattle.std.specs.Prelude.{◌≡◌, ◌⊎◌, ℕ, ◌+◌, ◌<◌, ◌≤◌, ◌-◌, ◌^◌, ◌==◌, nat_lt, Bool, true, false, not, ◌&&◌, ◌||◌, if◌then◌else◌, is_some, List, [], ◌∷◌, ◌++◌, length, slice_get, Option, Some, None}
use Rattle.hc_value.specs.declared.reply.Reply.{Reply}
use Rattle.hc_value.specs.declared.reply.Reply.TheVariants.{Site as SiteReply, Job as JobReply, Fine, Finished, NoObject, NoSite, NoJob, WrongSite, NoRoom}
use Rattle.hc_value.specs.declared.value.Value.{Value}
use Rattle.hc_plan.specs.declared.case.Op.{Op}
use Rattle.hc_plan.specs.declared.case.Op.TheVariants.{Load, Store}
use Rattle.hc_plan.specs.declared.case.Site.{Site}
use Rattle.hc_plan.specs.declared.deps.Dep.{Dep}
use Rattle.hc_plan.specs.declared.skip.Why.{Why}
use Rattle.hc_table.specs.Changes.{after}
use Rattle.hc_table.specs.Kept.{Kept as Tables, with_world}
use Rattle.hc_ops.specs.Act.{Act}
use Rattle.hc_ops.specs.Get.{get_reply}
use Rattle.hc_ops.specs.Set.{set_act}
use Rattle.hc_commands.specs.Verbs.{is_built}
use Rattle.hc_commands.specs.declared.command.Command.{Command}
use Rattle.hc_commands.specs.declared.command.Command.TheVariants.{Declare, Exec, Compile, Step, Finish}
use Rattle.hc_report.specs.Lines.{log_line}
use Rattle.hc_report.specs.Text.{reply_line}
use Rattle.hc_report.specs.declared.line.Line.TheVariants.{Hit, Cache, Slow, Install, Refuse, NoPlan, Discard}
use Rattle.hc_session.specs.Tables.{IsReplyOf, act_of, all_there, did_in, is_among, names_among, says}

-- how many jobs were started, and the numbers of those that are open, in any order
pub record PlainJobs : Type 0 where
  pub started : ℕ
  pub opened : List ℕ

-- no job was started
abbrev pub none_started : PlainJobs
none_started = record { started = 0; opened = [] }

-- the objects with their limit, the sites in the order in which they were declared, and the jobs
pub record PlainState : Type 0 where
  pub tables : Tables
  pub sites : List Site
  pub jobs : PlainJobs

-- what a command is answered by: the text that it puts into the log, and its reply
pub record Answer : Type 0 where
  pub log : List ℕ
  pub reply : Reply

-- the lines of the log come first
abbrev pub answer_text : List (List ℕ) → Answer → List ℕ
answer_text names answer = answer.log ++ reply_line names answer.reply

-- the commands of jobs
abbrev pub is_of_jobs : Command → Bool
is_of_jobs (Compile s) = true
is_of_jobs (Step j reads) = true
is_of_jobs (Finish j) = true
is_of_jobs command = false

-- the commands that only sites and jobs tell of
abbrev pub is_beside : Command → Bool
is_beside (Declare op name) = true
is_beside (Exec s o value) = true
is_beside command = is_of_jobs command

-- the commands that a session serves: those that are built
abbrev pub is_served : Command → Bool
is_served command = is_built command

abbrev pub IsServed : Command → Type 0
IsServed command = is_served command ≡ true

-- Accesses of sites

-- what an access comes to at a site: a site that reads is given no value, and one that writes is given one; each object that the
-- access names is there
abbrev pub access_act : Tables → Op → ℕ → ℕ → Option Value → Act
access_act tables Load name o None = if is_among (length tables.world) o then says (get_reply tables.world o name) else says NoObject
access_act tables Store name o (Some v) =
    if is_among (length tables.world) o && names_among (length tables.world) v then set_act tables.world o name v else says NoObject
access_act tables Load name o (Some v) = says WrongSite
access_act tables Store name o None = says WrongSite

abbrev pub exec_act : Tables → Option Site → ℕ → Option Value → Act
exec_act tables None o value = says NoSite
exec_act tables (Some site) o value = access_act tables site.op site.name o value

-- it is accepted
abbrev pub is_accepted_by : Tables → Op → ℕ → Option Value → Bool
is_accepted_by tables Load o None = is_among (length tables.world) o
is_accepted_by tables Store o (Some v) = is_among (length tables.world) o && names_among (length tables.world) v
is_accepted_by tables _ o value = false

abbrev pub is_accepted_at : Tables → Option Site → ℕ → Option Value → Bool
is_accepted_at tables None o value = false
is_accepted_at tables (Some site) o value = is_accepted_by tables site.op o value

-- a command is an access that is accepted
abbrev pub is_access : PlainState → Command → Bool
is_access plain (Exec s o value) = is_accepted_at plain.tables (slice_get plain.sites s) o value
is_access plain command = false

-- Jobs

-- the job of a number is among those that are open
abbrev pub is_opened : List ℕ → ℕ → Bool
is_opened [] j = false
is_opened (k ∷ ks) j = (k == j) || is_opened ks j

-- fewer than 64 jobs are open
abbrev pub has_room : PlainJobs → Bool
has_room jobs = nat_lt (length jobs.opened) 64

-- a command of jobs is accepted
abbrev pub is_accepted_job : PlainState → Command → Bool
is_accepted_job plain (Compile s) = is_some (slice_get plain.sites s) && has_room plain.jobs
is_accepted_job plain (Step j reads) = is_opened plain.jobs.opened j
is_accepted_job plain (Finish j) = is_opened plain.jobs.opened j
is_accepted_job plain command = false

-- a job gets the next number, where its site is there and there is room
abbrev pub compile_reply : PlainState → ℕ → Reply
compile_reply plain s = if is_some (slice_get plain.sites s) then (if has_room plain.jobs then JobReply plain.jobs.started else NoRoom) else NoSite

-- the reply of a command on a job
abbrev pub job_reply : PlainJobs → ℕ → Reply → Reply
job_reply jobs j reply = if is_opened jobs.opened j then reply else NoJob

-- the jobs as they were
pub record AreSameJobs (old now : PlainJobs) : Type 0 where
  pub started : now.started ≡ old.started
  pub opened : (j : ℕ) → is_opened now.opened j ≡ is_opened old.opened j
  pub count : length now.opened ≡ length old.opened

-- one job more was started, and is open, with the next number
pub record IsOneStarted (old now : PlainJobs) : Type 0 where
  pub started : now.started ≡ old.started + 1
  pub opened : (j : ℕ) → is_opened now.opened j ≡ ((old.started == j) || is_opened old.opened j)
  pub count : length now.opened ≡ length old.opened + 1

-- the job of a number is open no more
pub record IsOneFinished (k : ℕ) (old now : PlainJobs) : Type 0 where
  pub started : now.started ≡ old.started
  pub opened : (j : ℕ) → is_opened now.opened j ≡ (not (k == j) && is_opened old.opened j)
  pub count : length now.opened + 1 ≡ length old.opened

-- the jobs after a command
abbrev pub AreJobsIf : Bool → Command → PlainJobs → PlainJobs → Type 0
AreJobsIf true (Compile s) old now = IsOneStarted old now
AreJobsIf true (Finish j) old now = IsOneFinished j old now
AreJobsIf accepted command old now = AreSameJobs old now

abbrev pub AreJobsAfter : PlainState → Command → PlainJobs → Type 0
AreJobsAfter plain command now = AreJobsIf (is_accepted_job plain command) command plain.jobs now

-- fewer jobs were started than have numbers, where the command starts one
abbrev pub HasJobNumber : ℕ → Command → Type 0
HasJobNumber started (Compile s) = started < 2 ^ 32 - 1
HasJobNumber started command = Unit {0}

-- Commands

-- what a command comes to: a site gets the next number, and answers as its operation does; a job gets the next number, makes its
-- reads, and ends; all else tables tell
abbrev pub act_in : PlainState → Command → Option Act
act_in plain (Declare op name) = Some (says (SiteReply (length plain.sites)))
act_in plain (Exec s o value) = Some (exec_act plain.tables (slice_get plain.sites s) o value)
act_in plain (Compile s) = Some (says (compile_reply plain s))
act_in plain (Step j reads) = Some (says (job_reply plain.jobs j Fine))
act_in plain (Finish j) = Some (says (job_reply plain.jobs j Finished))
act_in plain command = act_of plain.tables command

-- the sites after it
abbrev pub sites_after : List Site → Command → List Site
sites_after sites (Declare op name) = sites ++ record { op = op; name = name } ∷ []
sites_after sites command = sites

-- the number that a command may give to a site is one
abbrev pub HasSiteNumber : ℕ → Command → Type 0
HasSiteNumber count (Declare op name) = count < 2 ^ 32 - 1
HasSiteNumber count command = Unit {0}

-- What a command puts into the log, as far as tables tell: not what answers an access, nor what becomes of plans

-- sites with numbers from one on, rising, of so many
abbrev pub AreRising : ℕ → ℕ → List (ℕ × Dep) → Type 0
AreRising from count [] = Unit {0}
AreRising from count (lost ∷ others) = (from ≤ lost.0) × (lost.0 < count) × AreRising (lost.0 + 1) count others

abbrev pub discards_text : List (ℕ × Dep) → List ℕ
discards_text [] = []
discards_text (lost ∷ others) = log_line (Discard lost.0 lost.1) ++ discards_text others

-- lines of discards, any number, by rising site
abbrev pub IsDiscardsText : ℕ → List ℕ → Type 0
IsDiscardsText count log = (lost : List (ℕ × Dep)) × AreRising 0 count lost × (log ≡ discards_text lost)

-- the one line that says what answered an access
abbrev pub IsAnswerText : ℕ → List ℕ → Type 0
IsAnswerText s log = ((case : ℕ) × (log ≡ log_line (Hit s case))) ⊎ ((log ≡ log_line (Cache s)) ⊎ (log ≡ log_line (Slow s)))

-- it stands between the discards of its receiver's migration and those of the command's end
pub record IsAccessText (count s : ℕ) (log : List ℕ) : Type 0 where
  pub before : List ℕ
  pub line : List ℕ
  pub after : List ℕ
  pub discards_before : IsDiscardsText count before
  pub answers : IsAnswerText s line
  pub discards_after : IsDiscardsText count after
  pub log_is : log ≡ before ++ (line ++ after)

abbrev pub IsTextIf : Bool → ℕ → ℕ → List ℕ → Type 0
IsTextIf true count s log = IsAccessText count s log
IsTextIf false count s log = log ≡ []

-- the one line of a job's end: its plan was installed at one of the sites, or refused, or there is none
abbrev pub IsEndText : ℕ → ℕ → List ℕ → Type 0
IsEndText count j log =
    ((s : ℕ) × (s < count) × (log ≡ log_line (Install j s)))
    ⊎ (((dep : Dep) × (log ≡ log_line (Refuse j dep))) ⊎ ((why : Why) × (log ≡ log_line (NoPlan j why))))

abbrev pub IsEndTextIf : Bool → ℕ → ℕ → List ℕ → Type 0
IsEndTextIf true count j log = IsEndText count j log
IsEndTextIf false count j log = log ≡ []

-- a command on objects that is accepted may break plans
abbrev pub MayDiscardIf : Bool → ℕ → List ℕ → Type 0
MayDiscardIf true count log = IsDiscardsText count log
MayDiscardIf false count log = log ≡ []

abbrev pub IsLogText : PlainState → Command → List ℕ → Type 0
IsLogText plain (Declare op name) log = log ≡ []
IsLogText plain (Compile s) log = log ≡ []
IsLogText plain (Step j reads) log = log ≡ []
IsLogText plain (Exec s o value) log = IsTextIf (is_access plain (Exec s o value)) (length plain.sites) s log
IsLogText plain (Finish j) log = IsEndTextIf (is_accepted_job plain (Finish j)) (length plain.sites) j log
IsLogText plain command log = MayDiscardIf (all_there plain.tables command) (length plain.sites) log

-- a command may be answered so by property tables with sites and jobs, and leave these
pub record AnswersPlainly (old : PlainState) (command : Command) (answer : Answer) (new : PlainState) : Type 0 where
  pub reply_is : IsReplyOf command (act_in old command) answer.reply
  pub tables_are : new.tables ≡ with_world old.tables (after (did_in (act_in old command)) old.tables.world)
  pub sites_are : new.sites ≡ sites_after old.sites command
  pub jobs_are : AreJobsAfter old command new.jobs
  pub log_is : IsLogText old command answer.log
