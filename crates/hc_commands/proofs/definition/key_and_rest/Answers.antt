use Rattle.hc_commands.proofs.FieldsApart.{no_key}
use Rattle.hc_commands.proofs.definition.key_and_rest.Goals as goal

pub returns-clause-none : goal.returns-clause-none
returns-clause-none c =
    no_key c.args.word.now c.in_default.ensures c.in_default-behind.ensures c.in_default-behind-2.ensures
    c.in_default-behind-3.ensures c.in_default-behind-4.ensures c.in_default-behind-5.ensures
