use Rattle.std.proofs.Common.{sym, ◌∙◌}
use Rattle.hc_commands.specs.Definition.{TakesField}
use Rattle.hc_commands.specs.Request.{description_of}
use Rattle.hc_commands.proofs.FieldsApart.{goes_on_more, takes_range, key_takes}
use Rattle.hc_commands.proofs.definition.fields_of.Goals as goal

pub fields-preserved : goal.fields-preserved
fields-preserved c =
    let takes : TakesField (description_of c.fields.found) c.in-Some.word.now (description_of c.fills.new.self) =
    key_takes _ _ _ _ _ c.in-Some-key_and_rest.ensures.some (sym c.gives.ensures ∙ c.if-gives.false) (c.fills.ensures.filled c.if-not-fills.false) in
    record {
      range = takes_range _ _ _ c.fields.invariant.range takes;
      goes_on = goes_on_more _ _ _ _ _ _ c.fields.invariant.goes_on c.in-Some.ensures.some takes;
    }
