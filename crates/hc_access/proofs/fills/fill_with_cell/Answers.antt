use Rattle.std.proofs.Common.{ℕ, Some, List, sym, subst, inr}
use Rattle.hc_plan.specs.declared.case.Op.TheVariants.{Load}
use Rattle.hc_sites.specs.declared.state.SiteState.{SiteState}
use Rattle.hc_access.specs.Entries.{AreGood}
use Rattle.hc_access.proofs.Asking.{cell-asked, filled-fine, put-all}
use Rattle.hc_access.proofs.Going.{asked-good, maps-stay}
use Rattle.hc_access.proofs.Happening.{filled-good}
use Rattle.hc_access.proofs.fills.fill_with_cell.Goals as goal

pub returns-in-Some-clause-asked : goal.returns-in-Some-clause-asked
returns-in-Some-clause-asked g c =
    let e = c.cell_of-cell.ensures in
    inr (cell-asked g.P.Pace.went c.args.objects.now c.cell_of-cell.new.self c.args.proto c.cell_of-cell.result e.named e.made e.none e.only)

pub returns-in-Some-clause-good : goal.returns-in-Some-clause-good
returns-in-Some-clause-good g c =
    let e = c.cell_of-cell.ensures in
    let a = c.args.objects.now in
    let b = c.cell_of-cell.new.self in
    let same = c.cells_stand_alone.ensures.world a b e.only in
    let still = λ (o : ℕ). c.cells_stand_alone.ensures.maps a b o e.only in
    let facts = c.cells_stand_alone.ensures.facts a b e.only in
    let asked = cell-asked g.P.Pace.went a b c.args.proto c.cell_of-cell.result e.named e.made e.none e.only in
    subst (λ (xs : List SiteState). AreGood b xs) (sym c.fill.ensures)
    (filled-good b c.args.sites.now c.args.s (record { op = Load; name = c.args.name }) (record { map = c.args.map; way = c.args.way; cell = Some c.in-Some.cell }) c.requires.site
    (filled-fine c.gates_are_open.ensures.law c.unused_says_nothing.ensures.law c.chains_are_told.ensures.protos a b c.stands.ensures.sound c.stands-2.ensures.sound e.only.steps.shape (maps-stay c.maps_are_kept.ensures.law a b c.stands.ensures.sound facts) e.only.kept (put-all a b same still) c.stands-2.ensures.cells
    (record { op = Load; name = c.args.name }) c.args.map c.args.proto c.in-Some.cell c.args.way c.requires.seen c.in-Some.ensures.valid)
    (asked-good g.P.Pace.went c.gates_are_open.ensures.law c.unused_says_nothing.ensures.law c.chains_are_told.ensures.protos c.maps_are_kept.ensures.law a b same still facts c.args.sites.now c.stands.ensures.sound c.stands-2.ensures.sound c.stands.ensures.cells asked c.requires.good))

pub returns-in_default-clause-good : goal.returns-in_default-clause-good
returns-in_default-clause-good g c =
    let e = c.cell_of-cell.ensures in
    let a = c.args.objects.now in
    let b = c.cell_of-cell.new.self in
    let same = c.cells_stand_alone.ensures.world a b e.only in
    let still = λ (o : ℕ). c.cells_stand_alone.ensures.maps a b o e.only in
    let facts = c.cells_stand_alone.ensures.facts a b e.only in
    let asked = cell-asked g.P.Pace.went a b c.args.proto c.cell_of-cell.result e.named e.made e.none e.only in
    asked-good g.P.Pace.went c.gates_are_open.ensures.law c.unused_says_nothing.ensures.law c.chains_are_told.ensures.protos c.maps_are_kept.ensures.law a b same still facts c.args.sites.now c.stands.ensures.sound c.stands-2.ensures.sound c.stands.ensures.cells asked c.requires.good
