use Rattle.std.proofs.Common.{◌≡◌, take}
use Rattle.hc_script.specs.Generator.{the_names}
use Rattle.hc_script.proofs.generator.interned.Given as goal

abbrev pub invariant-loop-n : goal.invariant-loop-n
invariant-loop-n l = l.names ≡ take l.n the_names
