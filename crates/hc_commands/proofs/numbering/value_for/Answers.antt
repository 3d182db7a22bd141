use Rattle.hc_commands.specs.Values.{IsWrittenValue}
use Rattle.hc_commands.specs.Request.{written_of}
use Rattle.hc_commands.proofs.Spelling.{text_is_text}
use Rattle.hc_commands.proofs.numbering.value_for.Goals as goal

pub number_for-requires-clause-text : goal.number_for-requires-clause-text
number_for-requires-clause-text c =
    let text : IsWrittenValue (written_of c.args.value.now) = c.requires.value in
    text_is_text c.in-Text.text.now (rw c.in-Text.is at text)
