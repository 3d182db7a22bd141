use Rattle.std.proofs.Common.{◌∙◌, arith}
use Rattle.hc_lines.specs.Lines.{ahead}
use Rattle.hc_script.proofs.Passing.{has_passed_more, serves_command, serves_fault}
use Rattle.hc_script.proofs.reader.ScriptReader.seek_command.Goals as goal

pub lines-preserved : goal.lines-preserved
lines-preserved g c =
    let turn = rw c.in-Ok-Passed.field-0-is at c.in-Ok-Passed.ensures.turn in
    record {
      passed = has_passed_more _ c.lines.self.at _ _ (ahead c.lines.self.pending (g.S.Source.left c.lines.source)) _ c.lines.invariant.passed turn;
      phase = c.in-Ok-Passed.ensures.phase ∙ c.lines.invariant.phase;
      grows = omega (arith, c.in-Ok-Passed.ensures.grows);
    }

pub returns-in-Ok-Asked-clause-serves : goal.returns-in-Ok-Asked-clause-serves
returns-in-Ok-Asked-clause-serves g c =
    let turn = rw c.in-Ok-Asked.field-0-is at c.in-Ok-Asked.ensures.turn in
    serves_command _ c.lines.self.at _ _ (ahead c.lines.self.pending (g.S.Source.left c.lines.source)) _ c.in-Ok-Asked.command c.lines.invariant.passed turn

pub returns-in-Err-clause-serves : goal.returns-in-Err-clause-serves
returns-in-Err-clause-serves g c =
    serves_fault _ c.lines.self.at _ _ (ahead c.lines.self.pending (g.S.Source.left c.lines.source)) _ c.in-Err.fault c.lines.invariant.passed c.in-Err.ensures.fault
