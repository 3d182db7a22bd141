use Rattle.hc_commands.proofs.Numerals.{no_negative, no_minus_zero}
use Rattle.hc_commands.proofs.numeral.negative.Goals as goal

pub returns-in_err-n-clause-none : goal.returns-in_err-n-clause-none
returns-in_err-n-clause-none c = rw c.from_residual.ensures (no_negative c.args.digits.now c.in_err-n.ensures.none)

pub returns-then-n-eq0-clause-none : goal.returns-then-n-eq0-clause-none
returns-then-n-eq0-clause-none c = no_minus_zero c.args.digits.now (rw c.if-n-eq0.true at c.in_ok-n.ensures.written)
