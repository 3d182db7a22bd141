-- What a replay has written, by the status with which it ends.
use Rattle.std.specs.Prelude.{◌≡◌, ◌⊎◌, ℕ, ◌+◌, List, [], ◌∷◌, ◌++◌, Option, codes}
use Rattle.hc_lines.specs.Outside.{AppendsBytes, Rose}
use Rattle.hc_lines.specs.Lines.{lines_of}
use Rattle.hc_script.specs.Reading.{Position, IsPassed, IsAsked, IsRefused, the_start}
use Rattle.hc_commands.specs.declared.command.Command.{Command}
use Rattle.hc_script.specs.declared.fault.What.{What}
use Rattle.hc_script.specs.declared.fault.Status.{Status}
use Rattle.hc_script.specs.declared.fault.Status.TheVariants.{Done, BadWords, BadScript, ReadFault, WriteFault, Memory}
use Rattle.hc_session.specs.Fault.{refusal_line, read_line, usage_line}
use Rattle.hc_session.specs.Plain.{Answer, AnswersPlainly, PlainState, none_started}
use Rattle.hc_session.specs.Output.{Outside, Place, AnswersAll, AnswersUntilRefused, AnswersUntilFault, AnswersSome, AnswersNext, AppendsPartly, AppendsFront}

-- the words of the program that ask for a replay
abbrev pub AskForReplay : List (List ℕ) → Type 0
AskForReplay words = words ≡ codes "replay" ∷ []

-- the place before the first line
abbrev pub the_first_place : {S : Type 0} → S → Place S
the_first_place state = record { at = the_start; begun = 0; state = state }

-- How a run ends: the last are what a command does, what holds where the run ends, and what holds of a place behind which memory
-- ran out

-- each line was answered, and all was written
pub record EndsDone {S : Type 0} (start : Place S) (before after : Outside) (does : S → Command → Answer → S → Type 0) (ends : Place S → Type 0) : Type 0 where
  pub text : List ℕ
  pub end : Place S
  pub answers : AnswersAll does start before.left after.left text end
  pub at_end : ends end
  pub written : AppendsBytes before.taken text after.taken

-- a line was refused, and its line written
pub record EndsRefused {S : Type 0} (n : ℕ) (what : What) (start : Place S) (before after : Outside) (does : S → Command → Answer → S → Type 0) (ends : Place S → Type 0) : Type 0 where
  pub text : List ℕ
  pub end : Place S
  pub answers : AnswersUntilRefused does start before.left text end n what
  pub at_end : ends end
  pub written : AppendsBytes before.taken (text ++ refusal_line n what) after.taken

-- a read failed, and its line was written
pub record EndsUnread {S : Type 0} (start : Place S) (before after : Outside) (does : S → Command → Answer → S → Type 0) (ends : Place S → Type 0) : Type 0 where
  pub text : List ℕ
  pub end : Place S
  pub answers : AnswersUntilFault does start before.left after.left text end
  pub at_end : ends end
  pub written : AppendsBytes before.taken (text ++ read_line) after.taken

-- a write failed in the reply of a command: the replies before it were written whole, and the state is the one after it
pub record FailsInReply {S : Type 0} (start : Place S) (before after : Outside) (does : S → Command → Answer → S → Type 0) (ends : Place S → Type 0) : Type 0 where
  pub lines : List (List ℕ)
  pub text : List ℕ
  pub place : Place S
  pub more : List ℕ
  pub end : Place S
  pub answers : AnswersSome does start before.left lines text place
  pub next : AnswersNext does before.left lines place more end
  pub at_end : ends end
  pub written : AppendsPartly before.taken text more after.taken

-- a write failed in the line of a refusal
pub record FailsInRefusal {S : Type 0} (start : Place S) (before after : Outside) (does : S → Command → Answer → S → Type 0) (ends : Place S → Type 0) : Type 0 where
  pub text : List ℕ
  pub end : Place S
  pub n : ℕ
  pub what : What
  pub answers : AnswersUntilRefused does start before.left text end n what
  pub at_end : ends end
  pub written : AppendsPartly before.taken text (refusal_line n what) after.taken

-- a write failed in the line of a read fault
pub record FailsInReadLine {S : Type 0} (start : Place S) (before after : Outside) (does : S → Command → Answer → S → Type 0) (ends : Place S → Type 0) : Type 0 where
  pub text : List ℕ
  pub end : Place S
  pub answers : AnswersUntilFault does start before.left after.left text end
  pub at_end : ends end
  pub written : AppendsPartly before.taken text read_line after.taken

-- memory ran out: all that was written are the replies of some lines, whole. The state is the one after them, or the next
-- line's command was performed, and its reply not written
pub record EndsInWant {S : Type 0} (start : Place S) (before after : Outside) (does : S → Command → Answer → S → Type 0) (ends stays : Place S → Type 0) : Type 0 where
  pub lines : List (List ℕ)
  pub text : List ℕ
  pub place : Place S
  pub answers : AnswersSome does start before.left lines text place
  pub written : AppendsBytes before.taken text after.taken
  pub leaves : stays place ⊎ ((more : List ℕ) × (end : Place S) × AnswersNext does before.left lines place more end × ends end)

-- a replay that ended so
abbrev pub EndsRun : {S : Type 0} → Place S → Outside → Status → Outside → (S → Command → Answer → S → Type 0) → (Place S → Type 0) → (Place S → Type 0) → Type 0
EndsRun start before Done after does ends stays = EndsDone start before after does ends
EndsRun start before BadWords after does ends stays = ⊥
EndsRun start before (BadScript n what) after does ends stays = EndsRefused n what start before after does ends
EndsRun start before ReadFault after does ends stays = EndsUnread start before after does ends
EndsRun start before WriteFault after does ends stays =
    FailsInReply start before after does ends
    ⊎ (FailsInRefusal start before after does ends ⊎ FailsInReadLine start before after does ends)
EndsRun start before Memory after does ends stays = EndsInWant start before after does ends stays

-- no objects, and as many as may be made; and neither sites nor jobs
abbrev pub nothing_made : ℕ → PlainState
nothing_made limit = record { tables = record { world = []; limit = limit }; sites = []; jobs = none_started }

-- a replay over property tables that begins without objects, sites and jobs, and leaves some tables
abbrev pub RepliesAsTables : ℕ → Outside → Status → Outside → Type 0
RepliesAsTables limit before status after =
    (left : PlainState) × EndsRun (the_first_place (nothing_made limit)) before status after AnswersPlainly (λ end. end.state ≡ left) (λ place. place.state ≡ left)

-- what was written where the words ask for nothing that is known
abbrev pub WritesUsage : Outside → Status → Outside → Type 0
WritesUsage before BadWords after = AppendsBytes before.taken usage_line after.taken
WritesUsage before WriteFault after = AppendsFront before.taken usage_line after.taken
WritesUsage before Done after = ⊥
WritesUsage before (BadScript n what) after = ⊥
WritesUsage before ReadFault after = ⊥
WritesUsage before Memory after = ⊥

-- the line is accepted: it asks for nothing, or for a command
abbrev pub IsAccepted : Position → List ℕ → Position → Type 0
IsAccepted at line after = IsPassed at line after ⊎ ((command : Command) × IsAsked at line command after)

abbrev pub AreAccepted : Position → List (List ℕ) → Position → Type 0
AreAccepted at [] after = after ≡ at
AreAccepted at (line ∷ lines) after = (next : Position) × IsAccepted at line next × AreAccepted next lines after

-- the line of this number is the first of the source that is refused
pub record IsFirstRefused (bytes : List ℕ) (n : ℕ) (what : What) : Type 0 where
  pub lines : List (List ℕ)
  pub line : List ℕ
  pub others : List (List ℕ)
  pub there : Position
  pub split : lines_of bytes ≡ lines ++ line ∷ others
  pub accepted : AreAccepted the_start lines there
  pub number : n ≡ there.lines + 1
  pub refused : IsRefused there line what

-- each line of the source is accepted
abbrev pub AreAllAccepted : List ℕ → Type 0
AreAllAccepted bytes = (end : Position) × AreAccepted the_start (lines_of bytes) end

-- want of memory, a failed read or a failed write came first
abbrev pub IsCutShort : Outside → Status → Outside → Type 0
IsCutShort before status after = (status ≡ Memory) ⊎ (Rose before.reads after.reads ⊎ Rose before.writes after.writes)

-- the last line was written, or a proper front of it
abbrev pub EndsWith : Option (List ℕ) → List ℕ → Status → Status → Option (List ℕ) → Type 0
EndsWith taken line status end now =
    ((end ≡ status) × AppendsBytes taken line now) ⊎ ((end ≡ WriteFault) × AppendsFront taken line now)
