use Rattle.std.proofs.Common.{◌≡◌, true, false, sym, ◌∙◌}
use Rattle.hc_commands.specs.Words.{words_of}
use Rattle.hc_commands.specs.Definition.{no_fields, mixes_kinds}
use Rattle.hc_commands.specs.Request.{description_of}
use Rattle.hc_commands.proofs.FieldsApart.{gives_apart}
use Rattle.hc_commands.proofs.definition.definition_of.Goals as goal

pub returns-then-mixes_kinds-clause-none : goal.returns-then-mixes_kinds-clause-none
returns-then-mixes_kinds-clause-none c d one given =
    let same : d ≡ description_of c.in-Some.found = gives_apart no_fields (words_of c.args.bytes.now) d (description_of c.in-Some.found) given c.in-Some.ensures.fields in
    let mixed : mixes_kinds (description_of c.in-Some.found) ≡ true = sym c.mixes_kinds.ensures ∙ c.if-mixes_kinds.true in
    let one_kind : mixes_kinds (description_of c.in-Some.found) ≡ false = rw same at one in
    let no : true ≡ false = sym mixed ∙ one_kind in
    cc
