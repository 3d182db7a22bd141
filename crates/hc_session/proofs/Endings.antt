-- What a replay has written, by how it ends.
use Rattle.std.proofs.Common.{◌≡◌, ◌∙◌, ℕ, ◌+◌, List, [], ◌∷◌, ◌++◌, refl, ap, Option, Some, None, Err}
use Rattle.hc_lines.specs.Lines.{TakesLines, ahead}
use Rattle.hc_lines.specs.Outside.{IsAtEnd}
use Rattle.hc_script.specs.Reading.{Position, TakesCommand, TakesEnd, TakesRefused, TakesUntilFault, Serves}
use Rattle.hc_commands.specs.declared.command.Command.{Command}
use Rattle.hc_script.specs.declared.fault.What.{What}
use Rattle.hc_script.specs.declared.fault.ScriptFault.{ScriptFault}
use Rattle.hc_script.specs.declared.fault.ScriptFault.TheVariants.{Bad, Read, Memory as NoMemory}
use Rattle.hc_script.specs.declared.fault.Status.{Status}
use Rattle.hc_script.specs.declared.fault.Status.TheVariants.{BadScript, ReadFault}
use Rattle.hc_session.specs.Fault.{refusal_line, read_line}
use Rattle.hc_session.specs.Plain.{Answer, answer_text}
use Rattle.hc_session.specs.Output.{Outside, Place, Answers, AnswersUntilRefused, AnswersUntilFault, AppendsFront}
use Rattle.hc_session.specs.Progress.{Progress, EndsByFault}
use Rattle.hc_session.specs.Replay.{EndsRun, EndsDone, EndsInWant, FailsInReply, EndsWith}
use Rattle.hc_session.proofs.Runs.{takes_both, taken_in_front, meets_behind, fronts, appends_both, answers_both, answers_passed, one_line, command_line, command_there}
use mathlib.Core.Logic.{inl, inr}

nothing_pending : (pending left : List ℕ) → pending ++ left ≡ [] → pending ++ left ≡ left
nothing_pending [] left none = refl
nothing_pending (byte ∷ pending) left none = absurd (cc)

-- at the end nothing is ahead of the source
at_end : (pending : List ℕ) (left : Option (List ℕ)) → IsAtEnd (ahead pending left) → ahead pending left ≡ left
at_end pending None ended = refl
at_end pending (Some left) ended = ap (λ (bytes : List ℕ). Some bytes) (nothing_pending pending left ended)

-- nothing is held
pub nothing_held : (left : Option (List ℕ)) → ahead [] left ≡ left
nothing_held None = refl
nothing_held (Some left) = refl

module _ {S : Type 0} (does : S → Command → Answer → S → Type 0) (start : Place S) (ends stays : Place S → Type 0) (a b : Outside) where
  -- want of memory between two commands: all that was answered was written
  pub ends_in_want : (at : Position) (state : S) (ahead_then : Option (List ℕ)) → Progress does start a.left a.taken at state ahead_then b.taken → ((lines : List (List ℕ)) (text : List ℕ) (place : Place S) → Answers does start lines text place → place.state ≡ state → stays place) → EndsInWant start a b does ends stays
  ends_in_want at state ahead_then so_far stay = record {
    lines = so_far.lines;
    text = so_far.text;
    place = record { at = at; begun = so_far.begun; state = state };
    answers = record { there = taken_in_front a.left ahead_then so_far.lines so_far.took; answers = so_far.answers };
    written = so_far.written;
    leaves = inl (stay _ _ _ so_far.answers refl);
  }

-- a run that comes to the state which it leaves; where its lines are answered all holds that holds at an end
module _ {S : Type 0} (does : S → Command → Answer → S → Type 0) (start : Place S) (ends stays : Place S → Type 0) (new : S) (reaches : (lines : List (List ℕ)) (text : List ℕ) (end : Place S) → Answers does start lines text end → end.state ≡ new → ends end) (a b : Outside) where
  -- the script is at its end
  pub ends_done : (at after : Position) (ahead_then : Option (List ℕ)) (pending : List ℕ) → Progress does start a.left a.taken at new ahead_then b.taken → TakesEnd at ahead_then after (ahead pending b.left) → EndsDone start a b does ends
  ends_done at after ahead_then pending so_far took =
      let same : ahead pending b.left ≡ b.left = at_end pending b.left took.ended in
      let whole : TakesLines a.left (ahead pending b.left) (so_far.lines ++ took.passed) = takes_both a.left ahead_then (ahead pending b.left) so_far.lines took.passed so_far.took took.taken in
      let answers = answers_passed does start at after so_far.begun new so_far.lines took.passed so_far.text so_far.answers took.are_passed in
      record {
        text = so_far.text;
        end = record { at = after; begun = so_far.begun; state = new };
        answers = record { lines = so_far.lines ++ took.passed; taken = rw same at whole; ended = rw same at took.ended; answers = answers };
        at_end = reaches _ _ _ answers refl;
        written = so_far.written;
      }

  -- want of memory for the reply of a command that was performed
  pub ends_unwritten : (at after : Position) (state : S) (ahead_then ahead_now : Option (List ℕ)) (command : Command) (answer : Answer) → Progress does start a.left a.taken at state ahead_then b.taken → TakesCommand at ahead_then command after ahead_now → does state command answer new → EndsInWant start a b does ends stays
  ends_unwritten at after state ahead_then ahead_now command answer so_far took done =
      let there = command_there does start a.left a.taken at state ahead_then ahead_now b.taken command after so_far took in
      let line = command_line does at state new so_far.begun ahead_then ahead_now command after answer took done in
      let answers = answers_passed does start at took.there so_far.begun state so_far.lines took.passed so_far.text so_far.answers took.are_passed in
      record {
        lines = so_far.lines ++ took.passed;
        text = so_far.text;
        place = record { at = took.there; begun = so_far.begun; state = state };
        answers = record { there = fronts a.left (so_far.lines ++ took.passed) (took.line ∷ []) there; answers = answers };
        written = so_far.written;
        leaves = inr (
          answer_text after.names answer,
          record { at = after; begun = so_far.begun + 1; state = new },
          record { line = took.line; there = there; next = line },
          reaches _ _ _ (answers_both does start _ _ (so_far.lines ++ took.passed) (took.line ∷ []) so_far.text (answer_text after.names answer) answers (one_line does _ _ took.line _ line)) refl,
        );
      }

  -- a write failed in the midst of a reply
  pub ends_in_reply : (at after : Position) (state : S) (ahead_then ahead_now now : Option (List ℕ)) (command : Command) (answer : Answer) → Progress does start a.left a.taken at state ahead_then now → TakesCommand at ahead_then command after ahead_now → does state command answer new → AppendsFront now (answer_text after.names answer) b.taken → FailsInReply start a b does ends
  ends_in_reply at after state ahead_then ahead_now now command answer so_far took done written =
      let there = command_there does start a.left a.taken at state ahead_then ahead_now now command after so_far took in
      let line = command_line does at state new so_far.begun ahead_then ahead_now command after answer took done in
      let answers = answers_passed does start at took.there so_far.begun state so_far.lines took.passed so_far.text so_far.answers took.are_passed in
      record {
        lines = so_far.lines ++ took.passed;
        text = so_far.text;
        place = record { at = took.there; begun = so_far.begun; state = state };
        more = answer_text after.names answer;
        end = record { at = after; begun = so_far.begun + 1; state = new };
        answers = record { there = fronts a.left (so_far.lines ++ took.passed) (took.line ∷ []) there; answers = answers };
        next = record { line = took.line; there = there; next = line };
        at_end = reaches _ _ _ (answers_both does start _ _ (so_far.lines ++ took.passed) (took.line ∷ []) so_far.text (answer_text after.names answer) answers (one_line does _ _ took.line _ line)) refl;
        written = (now, so_far.written, written);
      }

  -- a line is refused behind what was answered
  until_refused : (at : Position) (ahead_then now : Option (List ℕ)) (n : ℕ) (what : What) → (so_far : Progress does start a.left a.taken at new ahead_then now) → (took : TakesRefused at ahead_then n what) → AnswersUntilRefused does start a.left so_far.text (record { at = took.there; begun = so_far.begun; state = new }) n what
  until_refused at ahead_then now n what so_far took = record {
    lines = so_far.lines ++ took.passed;
    answers = answers_passed does start at took.there so_far.begun new so_far.lines took.passed so_far.text so_far.answers took.are_passed;
    number = took.number_is;
    refused = meets_behind took.there a.left ahead_then so_far.lines took.passed what so_far.took took.refused;
  }

  -- the line of a refusal, or a front of it
  ends_refused : (at : Position) (ahead_then now : Option (List ℕ)) (n : ℕ) (what : What) (status : Status) → Progress does start a.left a.taken at new ahead_then now → TakesRefused at ahead_then n what → EndsWith now (refusal_line n what) (BadScript n what) status b.taken → EndsRun start a status b does ends stays
  ends_refused at ahead_then now n what status so_far took (inl written) =
      let until = until_refused at ahead_then now n what so_far took in
      rw written.0 (record {
        text = so_far.text;
        end = record { at = took.there; begun = so_far.begun; state = new };
        answers = until;
        at_end = reaches _ _ _ until.answers refl;
        written = appends_both a.taken now b.taken so_far.text (refusal_line n what) so_far.written written.1;
      })
  ends_refused at ahead_then now n what status so_far took (inr written) =
      let until = until_refused at ahead_then now n what so_far took in
      rw written.0 (inr (inl (record {
        text = so_far.text;
        end = record { at = took.there; begun = so_far.begun; state = new };
        n = n;
        what = what;
        answers = until;
        at_end = reaches _ _ _ until.answers refl;
        written = (now, so_far.written, written.1);
      })))

  until_fault : (at after : Position) (ahead_then now : Option (List ℕ)) → (so_far : Progress does start a.left a.taken at new ahead_then now) → TakesUntilFault at ahead_then after b.left → AnswersUntilFault does start a.left b.left so_far.text (record { at = after; begun = so_far.begun; state = new })
  until_fault at after ahead_then now so_far took = record {
    lines = so_far.lines ++ took.passed;
    dropped = took.lost;
    unbroken = took.unbroken;
    taken = takes_both a.left ahead_then (ahead took.lost b.left) so_far.lines took.passed so_far.took took.taken;
    answers = answers_passed does start at after so_far.begun new so_far.lines took.passed so_far.text so_far.answers took.are_passed;
  }

  -- the line of a read fault, or a front of it
  ends_unread : (at after : Position) (ahead_then now : Option (List ℕ)) (status : Status) → Progress does start a.left a.taken at new ahead_then now → TakesUntilFault at ahead_then after b.left → EndsWith now read_line ReadFault status b.taken → EndsRun start a status b does ends stays
  ends_unread at after ahead_then now status so_far took (inl written) =
      let until = until_fault at after ahead_then now so_far took in
      rw written.0 (record {
        text = so_far.text;
        end = record { at = after; begun = so_far.begun; state = new };
        answers = until;
        at_end = reaches _ _ _ until.answers refl;
        written = appends_both a.taken now b.taken so_far.text read_line so_far.written written.1;
      })
  ends_unread at after ahead_then now status so_far took (inr written) =
      let until = until_fault at after ahead_then now so_far took in
      rw written.0 (inr (inr (record {
        text = so_far.text;
        end = record { at = after; begun = so_far.begun; state = new };
        answers = until;
        at_end = reaches _ _ _ until.answers refl;
        written = (now, so_far.written, written.1);
      })))

  -- a fault of the reader, which holds nothing after a failed read
  pub ends_fault : (at after : Position) (ahead_then : Option (List ℕ)) (pending : List ℕ) (now : Option (List ℕ)) (fault : ScriptFault) (status : Status) → ((lines : List (List ℕ)) (text : List ℕ) (place : Place S) → Answers does start lines text place → place.state ≡ new → stays place) → Progress does start a.left a.taken at new ahead_then now → Serves at ahead_then (Err fault) after (ahead pending b.left) → (fault ≡ Read → pending ≡ []) → EndsByFault now fault status b.taken → EndsRun start a status b does ends stays
  ends_fault at after ahead_then pending now (Bad n what) status stay so_far took empty (inl written) =
      ends_refused at ahead_then now n what status so_far took written
  ends_fault at after ahead_then pending now (Bad n what) status stay so_far took empty (inr lacked) =
      rw lacked.0 (ends_in_want does start ends stays a b at new ahead_then (rw lacked.1 so_far) stay)
  ends_fault at after ahead_then pending now Read status stay so_far took empty written =
      let held : ahead pending b.left ≡ b.left = ap (λ (bytes : List ℕ). ahead bytes b.left) (empty refl) ∙ nothing_held b.left in
      ends_unread at after ahead_then now status so_far (rw held at took) written
  ends_fault at after ahead_then pending now NoMemory status stay so_far took empty lacked =
      rw lacked.0 (ends_in_want does start ends stays a b at new ahead_then (rw lacked.1 so_far) stay)
