-- A run over the lines of a script, by what its commands do to a state, and what it writes.
use Rattle.std.specs.Prelude.{◌≡◌, ◌⊎◌, ℕ, ◌+◌, List, [], ◌∷◌, ◌++◌, Option}
use Rattle.hc_lines.specs.Lines.{TakesLines, StartsWithLines, IsUnbroken, ahead}
use Rattle.hc_lines.specs.Outside.{AppendsBytes, IsAtEnd}
use Rattle.hc_script.specs.Reading.{Position, IsPassed, IsAsked, MeetsRefused}
use Rattle.hc_commands.specs.declared.command.Command.{Command}
use Rattle.hc_script.specs.declared.fault.What.{What}
use Rattle.hc_session.specs.Plain.{Answer, answer_text}

-- a front of a text that isn't all of it
abbrev pub IsProperFront : List ℕ → List ℕ → Type 0
IsProperFront front whole = (next : ℕ) × (rest : List ℕ) × (whole ≡ front ++ next ∷ rest)

-- what is taken now is what was taken, and then a proper front of the text
abbrev pub AppendsFront : Option (List ℕ) → List ℕ → Option (List ℕ) → Type 0
AppendsFront before whole after = (front : List ℕ) × IsProperFront front whole × AppendsBytes before front after

-- a text was appended whole, and then a proper front of one more
abbrev pub AppendsPartly : Option (List ℕ) → List ℕ → List ℕ → Option (List ℕ) → Type 0
AppendsPartly before text more after = (mid : Option (List ℕ)) × AppendsBytes before text mid × AppendsFront mid more after

-- what a source has left and a sink has taken, where they tell it, and how often a read and a write failed
pub record Outside : Type 0 where
  pub left : Option (List ℕ)
  pub reads : ℕ
  pub taken : Option (List ℕ)
  pub writes : ℕ

-- what a source and a sink say of themselves
abbrev pub seen : {S K : Type 0} → (S → Option (List ℕ)) → (S → ℕ) → (K → Option (List ℕ)) → (K → ℕ) → S → K → Outside
seen left reads taken writes source sink = record { left = left source; reads = reads source; taken = taken sink; writes = writes sink }

-- a place in a run: where its lines have come to, how many commands were begun, and the state there
pub record Place (S : Type 0) : Type 0 where
  pub at : Position
  pub begun : ℕ
  pub state : S

-- a line that asks for nothing has no text
pub record PassesLine {S : Type 0} (old : Place S) (line text : List ℕ) (new : Place S) : Type 0 where
  pub passed : IsPassed old.at line new.at
  pub begun : new.begun ≡ old.begun
  pub same : new.state ≡ old.state
  pub text_is : text ≡ []

-- a command's text are its lines of the log, and then the line of its reply
pub record AnswersLine {S : Type 0} (does : S → Command → Answer → S → Type 0) (old : Place S) (line text : List ℕ) (new : Place S) : Type 0 where
  pub command : Command
  pub answer : Answer
  pub asked : IsAsked old.at line command new.at
  pub begun : new.begun ≡ old.begun + 1
  pub done : does old.state command answer new.state
  pub text_is : text ≡ answer_text new.at.names answer

-- one line goes from a place to the next, with this text
abbrev pub Turns : {S : Type 0} → (S → Command → Answer → S → Type 0) → Place S → List ℕ → List ℕ → Place S → Type 0
Turns does old line text new = PassesLine old line text new ⊎ AnswersLine does old line text new

-- each of the lines in turn, with all their text
abbrev pub Answers : {S : Type 0} → (S → Command → Answer → S → Type 0) → Place S → List (List ℕ) → List ℕ → Place S → Type 0
Answers {S} does old [] text new = (new ≡ old) × (text ≡ [])
Answers {S} does old (line ∷ lines) text new =
    (mid : Place S) × (first : List ℕ) × (others : List ℕ)
    × Turns does old line first mid × Answers does mid lines others new × (text ≡ first ++ others)

-- the lines of the source from first to last are answered
pub record AnswersAll {S : Type 0} (does : S → Command → Answer → S → Type 0) (start : Place S) (before now : Option (List ℕ)) (text : List ℕ) (end : Place S) : Type 0 where
  pub lines : List (List ℕ)
  pub taken : TakesLines before now lines
  pub ended : IsAtEnd now
  pub answers : Answers does start lines text end

-- the lines before the one of this number are answered, and that one is refused
pub record AnswersUntilRefused {S : Type 0} (does : S → Command → Answer → S → Type 0) (start : Place S) (before : Option (List ℕ)) (text : List ℕ) (end : Place S) (n : ℕ) (what : What) : Type 0 where
  pub lines : List (List ℕ)
  pub answers : Answers does start lines text end
  pub number : n ≡ end.at.lines + 1
  pub refused : MeetsRefused end.at before lines what

-- each line whose newline was read is answered, and the rest that was read is dropped
pub record AnswersUntilFault {S : Type 0} (does : S → Command → Answer → S → Type 0) (start : Place S) (before now : Option (List ℕ)) (text : List ℕ) (end : Place S) : Type 0 where
  pub lines : List (List ℕ)
  pub dropped : List ℕ
  pub unbroken : IsUnbroken dropped
  pub taken : TakesLines before (ahead dropped now) lines
  pub answers : Answers does start lines text end

-- some of the first lines are answered
pub record AnswersSome {S : Type 0} (does : S → Command → Answer → S → Type 0) (start : Place S) (before : Option (List ℕ)) (lines : List (List ℕ)) (text : List ℕ) (end : Place S) : Type 0 where
  pub there : StartsWithLines before lines
  pub answers : Answers does start lines text end

-- and then the next line asks for a command, which is performed: this is the text of its answer
pub record AnswersNext {S : Type 0} (does : S → Command → Answer → S → Type 0) (before : Option (List ℕ)) (lines : List (List ℕ)) (place : Place S) (more : List ℕ) (end : Place S) : Type 0 where
  pub line : List ℕ
  pub there : StartsWithLines before (lines ++ line ∷ [])
  pub next : AnswersLine does place line more end
