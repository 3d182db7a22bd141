-- One of the first commands comes as it stands, and a later one takes four draws.
use Rattle.std.proofs.Common.{◌≡◌, ◌∙◌, ap, sym}
use Rattle.hc_commands.specs.declared.command.Command.{Command}
use Rattle.hc_script.specs.GeneratorView.{counted, number_behind}
use Rattle.hc_script.specs.declared.generator.progress.Progress.{Progress}
use Rattle.hc_script.proofs.Generated.{next_first, next_drawn, number_first, number_drawn}
use Rattle.hc_script.proofs.generator.progress.Progress.advance.Goals as goal
use Rattle.hc_script.proofs.generator.progress.Progress.advance.Goals.{in-Some, in-None}

pub returns-clause-command : goal.returns-clause-command
returns-clause-command c =
    elim c.match-opening.branch [
      | in-Some w ↦ w.command-is ∙ w.in-Some.ensures.command ∙ sym (next_first c.args.self.now w.in-Some.ensures.first)
      | in-None w ↦ w.command-is ∙ w.draw_command-command.ensures.command ∙ sym (next_drawn c.args.self.now w.in-None.ensures.later)
    ]

pub returns-clause-progress : goal.returns-clause-progress
returns-clause-progress c =
    let before : c.match-opening.self ≡ record c.args.self.now { number = number_behind c.args.self.now } =
    elim c.match-opening.branch [
      | in-Some w ↦ w.self-is ∙ number_first c.args.self.now w.in-Some.ensures.first
      | in-None w ↦ w.self-is ∙ w.draw_command-command.ensures.number ∙ number_drawn c.args.self.now w.in-None.ensures.later
    ] in
    c.count.ensures.counted
    ∙ ap (λ (at : Progress). counted at c.match-opening.command) before
    ∙ ap (λ (command : Command). counted (record c.args.self.now { number = number_behind c.args.self.now }) command) (returns-clause-command c)
