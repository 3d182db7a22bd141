use Rattle.std.proofs.Common.{None, Some, List, sym, ap, ◌∙◌, subst}
use Rattle.hc_plan.specs.declared.case.Op.TheVariants.{Load}
use Rattle.hc_sites.specs.declared.cached.CacheWay.{CacheWay}
use Rattle.hc_sites.specs.declared.cached.CacheWay.TheVariants.{Own}
use Rattle.hc_sites.specs.declared.state.SiteState.{SiteState}
use Rattle.hc_access.specs.Entries.{AreGood}
use Rattle.hc_access.proofs.Before.{absent-way, holder-way, own-way}
use Rattle.hc_access.proofs.Happening.{filled-good}
use Rattle.hc_access.proofs.fills.fill_by.Goals as goal

pub fill_past-requires-clause-seen : goal.fill_past-requires-clause-seen
fill_past-requires-clause-seen g c =
    holder-way c.gates_are_open.ensures.law c.unused_says_nothing.ensures.law c.chains_are_told.ensures.protos c.args.objects.now c.stands.ensures.sound c.args.o c.args.name c.args.map c.requires.there c.requires.has c.in-Holder.holder c.in-Holder.place (sym c.requires.way ∙ (c.in-Some.is ∙ ap (λ (w : CacheWay). Some w) c.in-Holder.is))

pub fill_past-requires-in-Absent-clause-seen : goal.fill_past-requires-in-Absent-clause-seen
fill_past-requires-in-Absent-clause-seen g c =
    absent-way c.gates_are_open.ensures.law c.unused_says_nothing.ensures.law c.chains_are_told.ensures.protos c.args.objects.now c.stands.ensures.sound c.args.o c.args.name c.args.map c.requires.there c.requires.has (sym c.requires.way ∙ (c.in-Some.is ∙ ap (λ (w : CacheWay). Some w) c.in-Absent.is))

pub returns-in-Own-clause-good : goal.returns-in-Own-clause-good
returns-in-Own-clause-good g c =
    subst (λ (xs : List SiteState). AreGood c.args.objects.now xs) (sym c.fill.ensures)
    (filled-good c.args.objects.now c.args.sites.now c.args.s (record { op = Load; name = c.args.name }) (record { map = c.args.map; way = Own c.in-Own.place; cell = None }) c.requires.site
    (own-way c.gates_are_open.ensures.law c.unused_says_nothing.ensures.law c.chains_are_told.ensures.protos c.args.objects.now c.stands.ensures.sound c.args.o c.args.name c.args.map c.requires.there c.requires.has c.in-Own.place (sym c.requires.way ∙ (c.in-Some.is ∙ ap (λ (w : CacheWay). Some w) c.in-Own.is)))
    c.requires.good)
