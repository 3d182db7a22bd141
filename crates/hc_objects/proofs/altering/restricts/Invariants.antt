use Rattle.hc_objects.proofs.Restricting.{AreFixed}
use Rattle.hc_objects.proofs.altering.restricts.Given as goal

abbrev pub invariant-loop-i : goal.invariant-loop-i
invariant-loop-i g l = AreFixed l.fn.inside l.inside l.fn.o l.fn.frozen l.i l.i-end
