use Rattle.std.proofs.Common.{ap, sym, ◌∙◌, eqb, rules, tests}
use Rattle.std.proofs.lemmas.Iterator.{YieldsList-from_slice}
use Rattle.std.proofs.lemmas.Iterator.Search.{position_from_yields_List}
use Rattle.hc_table.specs.World.{place_of}
use Rattle.hc_table.proofs.Properties.{place_of-position}
use Rattle.hc_table.proofs.plain.PlainTables.find_own.Goals as goal

pub returns-in_err-position-clause-place : goal.returns-in_err-position-clause-place
returns-in_err-position-clause-place c =
    let found = position_from_yields_List (λ p. eqb p.name c.args.name) _ _ c.position.result c.position.ensures.ran (YieldsList-from_slice c.props.result.now cc) (λ x b q k. search (rules, tests)) in
    c.from_residual.ensures ∙ sym c.in_err-position.was ∙ found ∙ place_of-position c.props.result.now c.args.name
    ∙ ap (λ ps. place_of ps c.args.name) c.props.ensures.props

pub returns-clause-place : goal.returns-clause-place
returns-clause-place c =
    let found = position_from_yields_List (λ p. eqb p.name c.args.name) _ _ c.position.result c.position.ensures.ran (YieldsList-from_slice c.props.result.now cc) (λ x b q k. search (rules, tests)) in
    sym c.in_ok-position.was ∙ found ∙ place_of-position c.props.result.now c.args.name
    ∙ ap (λ ps. place_of ps c.args.name) c.props.ensures.props
