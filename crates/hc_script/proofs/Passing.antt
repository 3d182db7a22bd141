-- Lines taken one after another.
use Rattle.std.proofs.Common.{ℕ, List, [], ◌∷◌, ◌++◌, refl, sym, ap, ◌∙◌, append_assoc, Option, Some, None, Ok, Err}
use Rattle.hc_lines.specs.Lines.{lines_of, TakesLines}
use Rattle.hc_script.specs.Reading.{Position, IsPassed, MeetsRefused, ArePassed, Serves}
use Rattle.hc_script.specs.Turn.{TakesTurn, FailsTurn}
use Rattle.hc_commands.specs.declared.command.Command.{Command}
use Rattle.hc_script.specs.declared.fault.What.{What}
use Rattle.hc_script.specs.declared.fault.ScriptFault.{ScriptFault}
use Rattle.hc_script.specs.declared.fault.ScriptFault.TheVariants.{Bad, Read, Memory}
use Rattle.hc_script.specs.declared.reader.Turn.TheVariants.{End, Passed, Asked}

-- no line, which leaves all that is ahead
pub takes_none : (before : Option (List ℕ)) → TakesLines before before []
takes_none None = tt
takes_none (Some before) = refl

-- lines, and then more of them
pub takes-append : (before between now : Option (List ℕ)) (first more : List (List ℕ)) → TakesLines before between first → TakesLines between now more → TakesLines before now (first ++ more)
takes-append None None None first more a b = tt
takes-append None None (Some now) first more a b = absurd b
takes-append None (Some between) now first more a b = absurd a
takes-append (Some before) None now first more a b = absurd a
takes-append (Some before) (Some between) None first more a b = absurd b
takes-append (Some before) (Some between) (Some now) first more a b = a ∙ ap (λ lines. first ++ lines) b ∙ sym (append_assoc first more (lines_of now))

-- passed lines, and one more
pub passed-append : (at there after : Position) (lines : List (List ℕ)) (line : List ℕ) → ArePassed at lines there → IsPassed there line after → ArePassed at (lines ++ line ∷ []) after
passed-append at there after [] line passed more = (after, rw (← passed) more, refl)
passed-append at there after (first ∷ lines) line passed more = (passed.0, passed.1, passed-append passed.0 there after lines line passed.2 more)

-- a refused line behind passed lines
pub refused-append : (there : Position) (before between : Option (List ℕ)) (passed : List (List ℕ)) (what : What) → TakesLines before between passed → MeetsRefused there between [] what → MeetsRefused there before passed what
refused-append there None between passed what taken met = tt
refused-append there (Some before) None passed what taken met = absurd taken
refused-append there (Some before) (Some between) passed what taken met =
    (met.0, met.1, taken ∙ ap (λ lines. passed ++ lines) met.2, met.3)

-- lines that ask for nothing were taken
pub record HasPassed (at : Position) (before : Option (List ℕ)) (there : Position) (between : Option (List ℕ)) : Type 0 where
  pub lines : List (List ℕ)
  pub are_passed : ArePassed at lines there
  pub taken : TakesLines before between lines

pub has_passed_none : (at : Position) (before : Option (List ℕ)) → HasPassed at before at before
has_passed_none at before = record { lines = []; are_passed = refl; taken = takes_none before }

-- one more line
pub has_passed_more : (at there after : Position) (before between now : Option (List ℕ)) → HasPassed at before there between → TakesTurn there between Passed after now → HasPassed at before after now
has_passed_more at there after before between now so_far turn = record {
  lines = so_far.lines ++ turn.0 ∷ [];
  are_passed = passed-append at there after so_far.lines turn.0 so_far.are_passed turn.2;
  taken = takes-append before between now so_far.lines (turn.0 ∷ []) so_far.taken turn.3;
}

-- then a command
pub serves_command : (at there after : Position) (before between now : Option (List ℕ)) (command : Command) → HasPassed at before there between → TakesTurn there between (Asked command) after now → Serves at before (Ok (Some command)) after now
serves_command at there after before between now command so_far turn = record {
  passed = so_far.lines;
  line = turn.0;
  there = there;
  are_passed = so_far.are_passed;
  asked = turn.2;
  taken = takes-append before between now so_far.lines (turn.0 ∷ []) so_far.taken turn.3;
}

-- then the end
pub serves_end : (at there after : Position) (before between now : Option (List ℕ)) → HasPassed at before there between → TakesTurn there between End after now → Serves at before (Ok None) after now
serves_end at there after before between now so_far turn = rw (turn.0, turn.1) (record {
  passed = so_far.lines;
  are_passed = so_far.are_passed;
  taken = so_far.taken;
  ended = rw (← turn.1) turn.2;
})

-- then a fault
pub serves_fault : (at there after : Position) (before between now : Option (List ℕ)) (fault : ScriptFault) → HasPassed at before there between → FailsTurn there between fault after now → Serves at before (Err fault) after now
serves_fault at there after before between now (Bad number what) so_far turn = record {
  passed = so_far.lines;
  there = there;
  are_passed = so_far.are_passed;
  number_is = turn.0;
  refused = refused-append there before between so_far.lines what so_far.taken turn.1;
}
serves_fault at there after before between now Read so_far turn = rw turn.0 (record {
  passed = so_far.lines;
  are_passed = so_far.are_passed;
  lost = turn.1.0;
  unbroken = turn.1.1;
  taken = rw (← turn.1.2) so_far.taken;
})
serves_fault at there after before between now Memory so_far turn = tt
