use Rattle.std.proofs.Common.{None, List, sym, subst}
use Rattle.hc_plan.specs.declared.case.Op.TheVariants.{Load}
use Rattle.hc_sites.specs.declared.state.SiteState.{SiteState}
use Rattle.hc_access.specs.Entries.{AreGood}
use Rattle.hc_access.proofs.Asking.{filled-bare}
use Rattle.hc_access.proofs.Happening.{filled-good}
use Rattle.hc_access.proofs.fills.fill_behind.Goals as goal

pub returns-in-None-clause-good : goal.returns-in-None-clause-good
returns-in-None-clause-good g c =
    subst (λ (xs : List SiteState). AreGood c.args.objects.now xs) (sym c.fill.ensures)
    (filled-good c.args.objects.now c.args.sites.now c.args.s (record { op = Load; name = c.args.name }) (record { map = c.args.map; way = c.args.way; cell = None }) c.requires.site
    (filled-bare c.args.objects.now (record { op = Load; name = c.args.name }) c.args.map c.args.proto c.args.way c.in-None.is c.requires.seen)
    c.requires.good)
