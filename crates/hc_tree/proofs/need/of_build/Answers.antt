use Rattle.std.proofs.Common.{◌≤◌, arith}
use Rattle.hc_tree.specs.Needs.{arrays_upto}
use Rattle.hc_tree.proofs.Walked.{arrays-rise}
use Rattle.hc_tree.proofs.need.of_build.Goals as goal

pub overflow_sub-result-2 : goal.overflow_sub-result-2
overflow_sub-result-2 c = let rise : arrays_upto c.args.i ≤ arrays_upto c.args.n = arrays-rise c.args.i c.args.n c.requires.within in omega (arith, rise, c.entries_of_walk.ensures.value, c.entries_of_walk-2.ensures.value)
