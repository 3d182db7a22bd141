-- The command is the first of those that were left.
use Rattle.std.proofs.Common.{◌-◌, ◌<◌, ◌∷◌, ◌∙◌, ap, sym, arith}
use Rattle.hc_commands.specs.declared.command.Command.{Command}
use Rattle.hc_script.specs.GeneratorView.{commands_from, one_further}
use Rattle.hc_script.specs.declared.generator.progress.Progress.{Progress}
use Rattle.hc_script.proofs.Generated.{gives_next}
use Rattle.hc_script.proofs.generator.Generator.gen_next.Goals as goal

pub returns-clause-given : goal.returns-clause-given
returns-clause-given c =
    let some : 0 < c.self.inside.left = omega arith in
    sym c.self.view_is
    ∙ gives_next c.self.inside.left c.self.inside.progress some
    ∙ ap (λ (command : Command). command ∷ commands_from (c.self.inside.left - 1) (one_further c.self.inside.progress)) (sym c.advance.ensures.command)
    ∙ ap (λ (at : Progress). c.advance.result ∷ commands_from (c.self.inside.left - 1) at) (sym c.advance.ensures.progress)
