-- How a replay over objects ends.
use Rattle.std.proofs.Common.{◌≡◌, ℕ, List, [], Option, None, Err, refl}
use Rattle.hc_lines.specs.Lines.{ahead}
use Rattle.hc_script.specs.Reading.{Position, TakesCommand, TakesEnd, Serves}
use Rattle.hc_commands.specs.declared.command.Command.{Command}
use Rattle.hc_commands.specs.declared.command.Command.TheVariants.{New}
use Rattle.hc_script.specs.declared.fault.ScriptFault.{ScriptFault}
use Rattle.hc_script.specs.declared.fault.ScriptFault.TheVariants.{Read}
use Rattle.hc_script.specs.declared.fault.Status.{Status}
use Rattle.hc_script.specs.declared.fault.Status.TheVariants.{Done, WriteFault, Memory}
use Rattle.hc_session.specs.Answer.{AnswersPartly, LacksMemory}
use Rattle.hc_session.specs.Keeping.{KeepsSession, IsLeft, IsLeftInWant}
use Rattle.hc_session.specs.Output.{Outside}
use Rattle.hc_session.specs.Progress.{Progress, EndsByFault}
use Rattle.hc_session.specs.Replay.{the_first_place}
use Rattle.hc_session.specs.Standing.{Standing}
use Rattle.hc_session.specs.State.{Does, Stands, Wants, any_pace}
use Rattle.hc_session.proofs.Endings.{ends_done, ends_in_want, ends_unwritten, ends_in_reply, ends_fault}
use Rattle.hc_session.proofs.Runs.{no_progress}
use Rattle.hc_session.proofs.Spends.{FewCells, SpendLittle, is_left, is_left_in_want}
use mathlib.Core.Logic.{inl, inr}

-- nothing was done
stays_put : {P : Type 0} (session : Standing P) → Wants any_pace session (New None) session
stays_put {P} session = inl (record { objects = refl; sites = refl; compiler = refl; log = refl; marks = refl })

-- there is no memory for a reader
pub ends_unbegun : {P : Type 0} (law : SpendLittle P) (few : FewCells P) (session : Standing P) (stands : Stands session.objects) (a b : Outside) → b.taken ≡ a.taken → KeepsSession session a session Memory b
ends_unbegun {P} law few session stands a b same =
    ends_in_want (Does any_pace) (the_first_place session) (IsLeft session session) (IsLeftInWant session session) a b (the_first_place session).at session a.left
    (rw same (no_progress (Does any_pace) (the_first_place session) a.left a.taken))
    (λ lines text place answers at. is_left_in_want law few session session stands lines text place (New None) answers (rw at (stays_put session)))

module _ {P : Type 0} (law : SpendLittle P) (few : FewCells P) (old new : Standing P) (stands : Stands old.objects) (a b : Outside) where
  pub kept_done : (at after : Position) (ahead_then : Option (List ℕ)) (pending : List ℕ) → Progress (Does any_pace) (the_first_place old) a.left a.taken at new ahead_then b.taken → TakesEnd at ahead_then after (ahead pending b.left) → KeepsSession old a new Done b
  kept_done at after ahead_then pending so_far took =
      ends_done (Does any_pace) (the_first_place old) (IsLeft old new) (IsLeftInWant old new) new (is_left law few old new stands) a b at after ahead_then pending so_far took

  -- memory ran out for a command, or for its answer
  pub kept_in_want : (at after : Position) (state : Standing P) (ahead_then ahead_now : Option (List ℕ)) (command : Command) → Progress (Does any_pace) (the_first_place old) a.left a.taken at state ahead_then b.taken → TakesCommand at ahead_then command after ahead_now → LacksMemory state command new → KeepsSession old a new Memory b
  kept_in_want at after state ahead_then ahead_now command so_far took (inl wants) =
      ends_in_want (Does any_pace) (the_first_place old) (IsLeft old new) (IsLeftInWant old new) a b at state ahead_then so_far
      (λ lines text place answers same. is_left_in_want law few old new stands lines text place command answers (rw same wants))
  kept_in_want at after state ahead_then ahead_now command so_far took (inr done) =
      ends_unwritten (Does any_pace) (the_first_place old) (IsLeft old new) (IsLeftInWant old new) new (is_left law few old new stands) a b at after state ahead_then ahead_now command done.0 so_far took done.1

  -- the answer to a command couldn't be written
  pub kept_cut_off : (at after : Position) (state : Standing P) (ahead_then ahead_now now : Option (List ℕ)) (command : Command) → Progress (Does any_pace) (the_first_place old) a.left a.taken at state ahead_then now → TakesCommand at ahead_then command after ahead_now → AnswersPartly state after.names command new now b.taken → KeepsSession old a new WriteFault b
  kept_cut_off at after state ahead_then ahead_now now command so_far took partly =
      inl (ends_in_reply (Does any_pace) (the_first_place old) (IsLeft old new) (IsLeftInWant old new) new (is_left law few old new stands) a b at after state ahead_then ahead_now now command partly.answer so_far took partly.does partly.written)

  pub kept_fault : (at after : Position) (ahead_then : Option (List ℕ)) (pending : List ℕ) (now : Option (List ℕ)) (fault : ScriptFault) (status : Status) → Progress (Does any_pace) (the_first_place old) a.left a.taken at new ahead_then now → Serves at ahead_then (Err fault) after (ahead pending b.left) → (fault ≡ Read → pending ≡ []) → EndsByFault now fault status b.taken → KeepsSession old a new status b
  kept_fault at after ahead_then pending now fault status so_far took empty ended =
      ends_fault (Does any_pace) (the_first_place old) (IsLeft old new) (IsLeftInWant old new) new (is_left law few old new stands) a b at after ahead_then pending now fault status (λ lines text place answers same. is_left_in_want law few old new stands lines text place (New None) answers (rw same (stays_put new))) so_far took empty ended
