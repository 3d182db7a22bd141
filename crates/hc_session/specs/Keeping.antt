-- How a replay keeps the objects behind the property tables, the sites, the jobs and the log.
use Rattle.std.specs.Prelude.{◌≡◌, ℕ, ◌+◌, ◌*◌, ◌≤◌, length}
use Rattle.hc_modes.specs.Spent.{IsSpent}
use Rattle.hc_modes.specs.State.{ObjectsState}
use Rattle.hc_script.specs.declared.fault.Status.{Status}
use Rattle.hc_commands.specs.declared.command.Command.{Command}
use Rattle.hc_session.specs.Logging.{answers_in, lines_since}
use Rattle.hc_session.specs.Output.{Outside, Place}
use Rattle.hc_session.specs.Replay.{EndsRun, the_first_place}
use Rattle.hc_session.specs.Standing.{Standing}
use Rattle.hc_session.specs.State.{Does, Wants, any_pace}

-- a state, with as many cells handed out as in another
abbrev pub but_cells : {P : Type 0} → ObjectsState P → ObjectsState P → ObjectsState P
but_cells a b = record b { heap = record b.heap { view = record b.heap.view { used = record b.heap.view.used { cells = a.heap.view.used.cells } } } }

-- at most n commands lead from a state of a session to a later one. A command takes eight steps at most, as it may migrate objects,
-- and a field's maps, beside what it does: but for cells they handed out no more than the greatest need for each step, and an object is
-- slow for want of room only where some region is nearly full. Of cells they handed out one at most for each line that says how a site
-- answered
pub record IsUsed {P : Type 0} (n : ℕ) (a b : Standing P) : Type 0 where
  pub spent : IsSpent (8 * n) a.objects (but_cells a.objects b.objects)
  pub cells : b.objects.heap.view.used.cells ≤ a.objects.heap.view.used.cells + answers_in (lines_since a b)

-- what holds of the session where a run ends: the commands that were begun have one mark each, and handed out so much
pub record IsLeft {P : Type 0} (old new : Standing P) (end : Place (Standing P)) : Type 0 where
  pub same : end.state ≡ new
  pub marks : length new.marks ≡ length old.marks + end.begun
  pub spent : IsUsed end.begun old new

-- the same where one more command was begun, and lacked memory
pub record IsLeftInWant {P : Type 0} (old new : Standing P) (place : Place (Standing P)) : Type 0 where
  pub command : Command
  pub wants : Wants any_pace place.state command new
  pub spent : IsUsed (place.begun + 1) old new

-- a replay leaves this session: hidden classes, dictionaries, and why; the sites; the jobs; the log and its marks
abbrev pub KeepsSession : {P : Type 0} → Standing P → Outside → Standing P → Status → Outside → Type 0
KeepsSession old before new status after =
    EndsRun (the_first_place old) before status after (Does any_pace) (IsLeft old new) (IsLeftInWant old new)
