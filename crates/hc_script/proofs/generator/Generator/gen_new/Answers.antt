-- What is left at the start is the whole script.
use Rattle.std.proofs.Common.{◌∙◌, ap}
use Rattle.hc_script.specs.GeneratorView.{commands_from}
use Rattle.hc_script.specs.declared.generator.progress.Progress.{Progress}
use Rattle.hc_script.proofs.Generated.{gives_script, length_generated}
use Rattle.hc_script.proofs.generator.Generator.gen_new.Goals as goal

pub returns-in_err-interned-clause-count : goal.returns-in_err-interned-clause-count
returns-in_err-interned-clause-count c = length_generated c.args.n c.args.start

pub returns-clause-commands : goal.returns-clause-commands
returns-clause-commands c =
    ap (λ (at : Progress). commands_from c.args.n at) c.new.ensures.progress ∙ gives_script c.args.n c.args.start

pub returns-clause-count : goal.returns-clause-count
returns-clause-count c = length_generated c.args.n c.args.start
