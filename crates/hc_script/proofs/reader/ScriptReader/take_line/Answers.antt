use Rattle.std.proofs.Common.{◌≡◌, length-drop, ◌+◌, ◌≤◌, length, take, arith, ap, sym, ◌∙◌}
use Rattle.std.proofs.lemmas.List.{length-take-le}
use Rattle.std.proofs.lemmas.Result.{err_from_is_err_and}
use Rattle.hc_script.specs.ReaderView.{reader_of}
use Rattle.hc_script.specs.Turn.{IsLineFault}
use Rattle.hc_lines.specs.declared.limits.TheConstants.{MAX_BYTES}
use Rattle.hc_script.proofs.Turns.{TurnMeans, turn_means, turn_refuses, is_passed, is_asked}
use Rattle.hc_script.proofs.reader.ScriptReader.take_line.Goals as goal

means : (c : goal.After-self-2-1) → TurnMeans c.self.inside.names (take c.args.n c.self.inside.buffer) c.in_ok-turn.turn c.meaning_of-meaning.new.names
means c = rw (← c.front.ensures) (turn_means c.self.inside.names c.front.result.now (c.self.inside.lines + 1) c.meaning_of-meaning.result c.in_ok-turn.turn c.meaning_of-meaning.new.names c.meaning_of-meaning.ensures.meaning (sym c.in_ok-turn.ensures))

within : (c : goal.After-self-2-1) → c.self.inside.used + c.args.n ≤ MAX_BYTES
within c = omega (arith, ap (λ reader. reader.at.bytes) c.self.view_is)

there : (c : goal.After-self-2-1) → c.args.n ≤ length c.self.inside.buffer
there c = omega (arith, ap (λ reader. length reader.pending) c.self.view_is)

pub invariant_of-self-2 : goal.invariant_of-self-2
invariant_of-self-2 c = record {
  within = within c;
  lines = omega arith;
  names = c.meaning_of-meaning.ensures.room;
  piece = c.self.invariant.piece;
  held = rw c.cut.ensures (omega (arith, length-drop c.args.n c.self.inside.buffer));
}

pub returns-clause-passed : goal.returns-clause-passed
returns-clause-passed c e = rw (← c.self.view_is) (is_passed _ _ _ c.in_ok-turn.turn _ (there c) (within c) (means c) cc)

pub returns-clause-asked : goal.returns-clause-asked
returns-clause-asked c command e = rw (← c.self.view_is) (is_asked _ _ _ c.in_ok-turn.turn command _ (there c) (within c) (means c) cc)

pub returns-in_err-turn-clause-refused : goal.returns-in_err-turn-clause-refused
returns-in_err-turn-clause-refused c =
    let p = err_from_is_err_and c.from_residual.result c.from_residual.ensures.1 in
    let there : c.args.n ≤ length c.self.inside.buffer = omega (arith, ap (λ reader. length reader.pending) c.self.view_is) in
    let len : length (take c.args.n c.self.inside.buffer) ≡ c.args.n = length-take-le c.args.n c.self.inside.buffer there in
    let within : c.self.inside.used + length (take c.args.n c.self.inside.buffer) ≤ MAX_BYTES = omega (arith, len, ap (λ reader. reader.at.bytes) c.self.view_is) in
    let refused : IsLineFault (reader_of c.self.inside).at (take c.args.n c.self.inside.buffer) c.in_err-turn.field-0.0 = turn_refuses (reader_of c.self.inside).at (take c.args.n c.self.inside.buffer) c.meaning_of-meaning.result c.in_err-turn.field-0.0 c.meaning_of-meaning.new.names within (rw c.front.ensures at c.meaning_of-meaning.ensures.meaning) (sym c.turn_of.ensures ∙ c.in_err-turn.was) in
    rw (p.1, p.2, ← c.self.view_is) refused
