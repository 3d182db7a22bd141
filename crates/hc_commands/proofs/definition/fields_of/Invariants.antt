use Rattle.std.proofs.Common.{length}
use Rattle.hc_commands.specs.Words.{words_of}
use Rattle.hc_commands.specs.Definition.{IsDescription}
use Rattle.hc_commands.specs.Request.{description_of}
use Rattle.hc_commands.proofs.FieldsApart.{GoesOn}
use Rattle.hc_commands.proofs.definition.fields_of.Given as goal

abbrev pub invariant-fields : goal.invariant-fields
invariant-fields l = record {
  range : IsDescription (description_of l.found);
  goes_on : GoesOn (words_of l.bytes) (words_of l.rest) (description_of l.found);
}

abbrev pub decreases-fields : goal.decreases-fields
decreases-fields l = length (words_of l.rest)
