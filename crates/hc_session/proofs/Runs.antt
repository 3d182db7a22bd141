-- How the parts of a run go together.
use Rattle.std.proofs.Common.{ℕ, ◌+◌, List, [], ◌∷◌, ◌++◌, refl, sym, ◌∙◌, ap, subst, Option, Some, None, append_assoc, append-nil}
use Rattle.hc_lines.specs.Lines.{lines_of, TakesLines, StartsWithLines}
use Rattle.hc_lines.specs.Outside.{AppendsBytes}
use Rattle.hc_script.specs.Reading.{Position, ArePassed, MeetsRefused, TakesCommand}
use Rattle.hc_commands.specs.declared.command.Command.{Command}
use Rattle.hc_script.specs.declared.fault.What.{What}
use Rattle.hc_session.specs.Plain.{Answer, answer_text}
use Rattle.hc_session.specs.Output.{Place, AnswersLine, Answers}
use Rattle.hc_session.specs.Progress.{Progress}
use mathlib.Core.Logic.{inl, inr}

-- no line is taken
pub takes_none : (a : Option (List ℕ)) → TakesLines a a []
takes_none None = tt
takes_none (Some a) = refl

-- lines that are taken one after another
pub takes_both : (a b c : Option (List ℕ)) (xs ys : List (List ℕ)) → TakesLines a b xs → TakesLines b c ys → TakesLines a c (xs ++ ys)
takes_both None None None xs ys first second = tt
takes_both None None (Some c) xs ys first second = second
takes_both None (Some b) c xs ys first second = absurd first
takes_both (Some a) None c xs ys first second = absurd first
takes_both (Some a) (Some b) None xs ys first second = absurd second
takes_both (Some a) (Some b) (Some c) xs ys first second = first ∙ ap (λ (zs : List (List ℕ)). xs ++ zs) second ∙ sym (append_assoc xs ys (lines_of c))

-- what is taken stands in front
pub taken_in_front : (a b : Option (List ℕ)) (xs : List (List ℕ)) → TakesLines a b xs → StartsWithLines a xs
taken_in_front None b xs taken = tt
taken_in_front (Some a) None xs taken = absurd taken
taken_in_front (Some a) (Some b) xs taken = (lines_of b, taken)

-- and so does a front of it
pub fronts : (a : Option (List ℕ)) (xs ys : List (List ℕ)) → StartsWithLines a (xs ++ ys) → StartsWithLines a xs
fronts None xs ys starts = tt
fronts (Some a) xs ys starts = (ys ++ starts.0, starts.1 ∙ append_assoc xs ys starts.0)

-- a refused line behind lines that were taken
pub meets_behind : (there : Position) (a b : Option (List ℕ)) (xs ys : List (List ℕ)) (what : What) → TakesLines a b xs → MeetsRefused there b ys what → MeetsRefused there a (xs ++ ys) what
meets_behind there None b xs ys what taken met = tt
meets_behind there (Some a) None xs ys what taken met = absurd taken
meets_behind there (Some a) (Some b) xs ys what taken met =
    (met.0, met.1, taken ∙ ap (λ (zs : List (List ℕ)). xs ++ zs) met.2 ∙ sym (append_assoc xs ys (met.0 ∷ met.1)), met.3)

-- no byte is appended
pub appends_none : (a : Option (List ℕ)) → AppendsBytes a [] a
appends_none None = tt
appends_none (Some a) = sym (append-nil a)

-- texts that are appended one after another
pub appends_both : (a b c : Option (List ℕ)) (xs ys : List ℕ) → AppendsBytes a xs b → AppendsBytes b ys c → AppendsBytes a (xs ++ ys) c
appends_both None None None xs ys first second = tt
appends_both None None (Some c) xs ys first second = second
appends_both None (Some b) c xs ys first second = absurd first
appends_both (Some a) None c xs ys first second = absurd first
appends_both (Some a) (Some b) None xs ys first second = absurd second
appends_both (Some a) (Some b) (Some c) xs ys first second = second ∙ ap (λ (zs : List ℕ). zs ++ ys) first ∙ append_assoc a xs ys

module _ {S : Type 0} (does : S → Command → Answer → S → Type 0) where
  -- lines that are answered one after another
  pub answers_both : (a b c : Place S) (xs ys : List (List ℕ)) (t u : List ℕ) → Answers does a xs t b → Answers does b ys u c → Answers does a (xs ++ ys) (t ++ u) c
  answers_both a b c [] ys t u first second = rw (first.1, ← first.0) second
  answers_both a b c (x ∷ xs) ys t u first second = (
    first.0,
    first.1,
    first.2 ++ u,
    first.3,
    answers_both first.0 b c xs ys first.2 u first.4 second,
    ap (λ (zs : List ℕ). zs ++ u) first.5 ∙ append_assoc first.1 first.2 u,
  )

  -- lines that ask for nothing have no text
  passed_answer : (at after : Position) (begun : ℕ) (state : S) (lines : List (List ℕ)) → ArePassed at lines after → Answers does (record { at = at; begun = begun; state = state }) lines [] (record { at = after; begun = begun; state = state })
  passed_answer at after begun state [] passed = (ap (λ (p : Position). record { at = p; begun = begun; state = state }) passed, refl)
  passed_answer at after begun state (line ∷ lines) passed = (
    record { at = passed.0; begun = begun; state = state },
    [],
    [],
    inl (record { passed = passed.1; begun = refl; same = refl; text_is = refl }),
    passed_answer passed.0 after begun state lines passed.2,
    refl,
  )

  -- lines that ask for nothing, behind what was answered
  pub answers_passed : (start : Place S) (at after : Position) (begun : ℕ) (state : S) (lines passed : List (List ℕ)) (text : List ℕ) → Answers does start lines text (record { at = at; begun = begun; state = state }) → ArePassed at passed after → Answers does start (lines ++ passed) text (record { at = after; begun = begun; state = state })
  answers_passed start at after begun state lines passed text answers are_passed =
      rw (← append-nil text) (answers_both start (record { at = at; begun = begun; state = state }) _ lines passed text [] answers (passed_answer at after begun state passed are_passed))

  -- one line and its text
  pub one_line : (a b : Place S) (line text : List ℕ) → AnswersLine does a line text b → Answers does a (line ∷ []) text b
  one_line a b line text answers = (b, text, [], inr answers, (refl, refl), sym (append-nil text))

  -- the line of a command that is performed
  pub command_line : (at : Position) (state new : S) (begun : ℕ) (before now : Option (List ℕ)) (command : Command) (after : Position) (answer : Answer) → (took : TakesCommand at before command after now) → does state command answer new → AnswersLine does (record { at = took.there; begun = begun; state = state }) took.line (answer_text after.names answer) (record { at = after; begun = begun + 1; state = new })
  command_line at state new begun before now command after answer took done =
      record { command = command; answer = answer; asked = took.asked; begun = refl; done = done; text_is = refl }

  -- it stands behind lines that ask for nothing, and these behind what was answered
  pub command_there : (start : Place S) (a taken : Option (List ℕ)) (at : Position) (state : S) (ahead ahead_now now : Option (List ℕ)) (command : Command) (after : Position) → (so_far : Progress does start a taken at state ahead now) → (took : TakesCommand at ahead command after ahead_now) → StartsWithLines a ((so_far.lines ++ took.passed) ++ took.line ∷ [])
  command_there start a taken at state ahead ahead_now now command after so_far took =
      subst (λ (lines : List (List ℕ)). StartsWithLines a lines) (sym (append_assoc so_far.lines took.passed (took.line ∷ [])))
      (taken_in_front a ahead_now (so_far.lines ++ (took.passed ++ took.line ∷ [])) (takes_both a ahead ahead_now so_far.lines (took.passed ++ took.line ∷ []) so_far.took took.taken))

  -- a command behind lines that ask for nothing
  command_answer : (at : Position) (state new : S) (begun : ℕ) (before now : Option (List ℕ)) (command : Command) (after : Position) (answer : Answer) → (took : TakesCommand at before command after now) → does state command answer new → Answers does (record { at = at; begun = begun; state = state }) (took.passed ++ took.line ∷ []) (answer_text after.names answer) (record { at = after; begun = begun + 1; state = new })
  command_answer at state new begun before now command after answer took done =
      answers_both _ (record { at = took.there; begun = begun; state = state }) _ took.passed (took.line ∷ []) [] (answer_text after.names answer)
      (passed_answer at took.there begun state took.passed took.are_passed)
      (one_line _ _ took.line (answer_text after.names answer) (command_line at state new begun before now command after answer took done))

  -- nothing was done yet
  pub no_progress : (start : Place S) (before taken : Option (List ℕ)) → Progress does start before taken start.at start.state before taken
  no_progress start before taken = record { lines = []; text = []; begun = start.begun; took = takes_none before; answers = (refl, refl); written = appends_none taken }

  -- one command further
  pub progress_on : (start : Place S) (before taken : Option (List ℕ)) (at after : Position) (state new : S) (ahead ahead_now now later : Option (List ℕ)) (command : Command) (answer : Answer) → Progress does start before taken at state ahead now → TakesCommand at ahead command after ahead_now → does state command answer new → AppendsBytes now (answer_text after.names answer) later → Progress does start before taken after new ahead_now later
  progress_on start before taken at after state new ahead ahead_now now later command answer so_far took done written = record {
    lines = so_far.lines ++ (took.passed ++ took.line ∷ []);
    text = so_far.text ++ answer_text after.names answer;
    begun = so_far.begun + 1;
    took = takes_both before ahead ahead_now so_far.lines (took.passed ++ took.line ∷ []) so_far.took took.taken;
    answers = answers_both start (record { at = at; begun = so_far.begun; state = state }) _ so_far.lines _ so_far.text _ so_far.answers (command_answer at state new so_far.begun ahead ahead_now command after answer took done);
    written = appends_both taken now later so_far.text (answer_text after.names answer) so_far.written written;
  }
