-- There is one first line that is refused.
use Rattle.std.proofs.Common.{◌≡◌, ℕ, List, [], ◌∷◌, ◌++◌, refl, sym, ◌∙◌, ap}
use Rattle.hc_script.specs.Reading.{Position, IsPassed, IsAsked, IsRefused}
use Rattle.hc_commands.specs.declared.command.Command.{Command}
use Rattle.hc_script.specs.declared.fault.What.{What}
use Rattle.hc_session.specs.Plain.{Answer}
use Rattle.hc_session.specs.Output.{Place, Answers, PassesLine, AnswersLine}
use Rattle.hc_session.specs.Replay.{IsAccepted, AreAccepted}
use mathlib.Core.Logic.{◌⊎◌, inl, inr}

-- a line means one thing where it stands: the law of the reader
pub record OneMeaning : Type 0 where
  pub asked : (at : Position) (line : List ℕ) (c d : Command) (after behind : Position) → IsAsked at line c after → IsAsked at line d behind → (c ≡ d) × (after ≡ behind)
  pub refused : (at : Position) (line : List ℕ) (what why : What) → IsRefused at line what → IsRefused at line why → what ≡ why
  pub passed_or_asked : (at : Position) (line : List ℕ) (c : Command) (after behind : Position) → IsPassed at line after → IsAsked at line c behind → ⊥
  pub passed_or_refused : (at : Position) (line : List ℕ) (after : Position) (what : What) → IsPassed at line after → IsRefused at line what → ⊥
  pub asked_or_refused : (at : Position) (line : List ℕ) (c : Command) (after : Position) (what : What) → IsAsked at line c after → IsRefused at line what → ⊥

-- an accepted line leads to one place
accepted_once : OneMeaning → (at after behind : Position) (line : List ℕ) → IsAccepted at line after → IsAccepted at line behind → after ≡ behind
accepted_once law at after behind line (inl passed) (inl again) = passed.goes_on ∙ sym again.goes_on
accepted_once law at after behind line (inl passed) (inr asked) = absurd (law.passed_or_asked at line asked.0 after behind passed asked.1)
accepted_once law at after behind line (inr asked) (inl passed) = absurd (law.passed_or_asked at line asked.0 behind after passed asked.1)
accepted_once law at after behind line (inr asked) (inr again) = (law.asked at line asked.0 again.0 after behind asked.1 again.1).1

-- and so do accepted lines
pub accepted_all_once : OneMeaning → (at after behind : Position) (lines : List (List ℕ)) → AreAccepted at lines after → AreAccepted at lines behind → after ≡ behind
accepted_all_once law at after behind [] first second = first ∙ sym second
accepted_all_once law at after behind (line ∷ lines) first second =
    let same : second.0 ≡ first.0 = accepted_once law at second.0 first.0 line second.1 first.1 in
    accepted_all_once law first.0 after behind lines first.2 (rw same at second.2)

-- no line is accepted and refused in one place
not_accepted : OneMeaning → (at after : Position) (line : List ℕ) (what : What) → IsAccepted at line after → IsRefused at line what → ⊥
not_accepted law at after line what (inl passed) refused = law.passed_or_refused at line after what passed refused
not_accepted law at after line what (inr asked) refused = law.asked_or_refused at line asked.0 after what asked.1 refused

-- among accepted lines none is refused behind those before it
pub none_refused_among : OneMeaning → (start end there : Position) (xs ys : List (List ℕ)) (line : List ℕ) (what : What) → AreAccepted start (xs ++ line ∷ ys) end → AreAccepted start xs there → IsRefused there line what → ⊥
none_refused_among law start end there [] ys line what all front refused =
    not_accepted law start all.0 line what all.1 (rw front at refused)
none_refused_among law start end there (x ∷ xs) ys line what all front refused =
    let same : front.0 ≡ all.0 = accepted_once law start front.0 all.0 x front.1 all.1 in
    none_refused_among law all.0 end there xs ys line what all.2 (rw same at front.2) refused

-- what is answered is accepted
pub answered_accepted : {S : Type 0} (does : S → Command → Answer → S → Type 0) (a b : Place S) (lines : List (List ℕ)) (text : List ℕ) → Answers does a lines text b → AreAccepted a.at lines b.at
answered_accepted {S} does a b [] text answers = ap (λ (p : Place S). p.at) answers.0
answered_accepted {S} does a b (line ∷ lines) text answers =
    (answers.0.at, accept a answers.0 line answers.1 answers.3, answered_accepted does answers.0 b lines answers.2 answers.4) where
      accept : (a b : Place S) (line text : List ℕ) → PassesLine a line text b ⊎ AnswersLine does a line text b → IsAccepted a.at line b.at
      accept a b line text (inl passes) = inl passes.passed
      accept a b line text (inr answers) = inr (answers.command, answers.asked)

-- two ways to split one list: at one place, or the one before the other
pub data Splits (xs : List (List ℕ)) (x : List ℕ) (us : List (List ℕ)) (b : List ℕ) : Type 0 where
  together : xs ≡ us → x ≡ b → Splits xs x us b
  before : (cs : List (List ℕ)) → us ≡ xs ++ x ∷ cs → Splits xs x us b
  behind : (cs : List (List ℕ)) → xs ≡ us ++ b ∷ cs → Splits xs x us b

pub two_splits : (xs ys us bs : List (List ℕ)) (x b : List ℕ) → xs ++ x ∷ ys ≡ us ++ b ∷ bs → Splits xs x us b
two_splits [] ys [] bs x b same = together refl (cc)
two_splits [] ys (a ∷ us) bs x b same = before us (let head : x ≡ a = cc in rw head refl)
two_splits (y ∷ xs) ys [] bs x b same = behind xs (let head : y ≡ b = cc in rw head refl)
two_splits (y ∷ xs) ys (a ∷ us) bs x b same =
    let head : y ≡ a = cc in
    let rest : xs ++ x ∷ ys ≡ us ++ b ∷ bs = cc in
    elim (two_splits xs ys us bs x b rest) [
      | together l e ↦ together (rw (head, l) refl) e
      | before cs e ↦ before cs (rw (head, e) refl)
      | behind cs e ↦ behind cs (rw (head, e) refl)
    ]
