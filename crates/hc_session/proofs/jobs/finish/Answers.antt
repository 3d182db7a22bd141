use Rattle.std.proofs.Common.{sym, ◌∙◌, subst, List, arith, refl}
use Rattle.hc_sites.specs.declared.state.SiteState.{SiteState}
use Rattle.hc_modes.specs.State.{ObjectsState}
use Rattle.hc_deps.specs.Verdicts.{sites_after}
use Rattle.hc_session.specs.Plans.{ArePlanned, AreSitesOf}
use Rattle.hc_session.proofs.Entered.{ended, finish-missing}
use Rattle.hc_session.proofs.Settled.{finish-done, finish-met, finish-opened, finish-planned, finish-reading, finish-settled, finish-there, settled-same}
use Rattle.hc_session.proofs.jobs.finish.Goals as goal

pub returns-then-not-is_open-clause-serves : goal.returns-then-not-is_open-clause-serves
returns-then-not-is_open-clause-serves g c =
    finish-missing c.args.objects.now c.args.sites.now c.args.compiler.now c.args.log.now.lines c.args.j c.requires.own (sym c.is_open.ensures.there ∙ c.if-not-is_open.true)

pub settle-requires-clause-there : goal.settle-requires-clause-there
settle-requires-clause-there g c =
    finish-there c.args.objects.now c.finish-site.new.objects c.finish-site.new.objects c.args.compiler.now.jobs c.finish-site.new.self.jobs c.args.j c.finish-site.ensures.finishes (record { is = refl; loads = omega arith }) c.args.sites.now c.finish-site.result.site c.requires.opened c.finish-site.ensures.site

pub returns-clause-serves : goal.returns-clause-serves
returns-clause-serves g c =
    let a = c.args.objects.now in
    let mid = c.finish-site.new.objects in
    let b = c.settle.new.objects in
    let jobs = c.args.compiler.now.jobs in
    let finishes = c.finish-site.ensures.finishes in
    let outcome = c.finish-site.result.outcome in
    ended a c.args.sites.now c.args.compiler.now c.args.log.now.lines c.args.j b c.finish-site.new.self c.requires.own (sym c.is_open.ensures.there ∙ c.if-not-is_open.false) c.finish-site.ensures.started c.finish-site.ensures.lent
    outcome c.settle.result c.settle.new.sites _ c.settle.new.log.lines
    (finish-done a mid b jobs c.finish-site.new.self.jobs c.args.j finishes c.settle.ensures.still c.args.sites.now outcome c.settle.result c.finish-site.ensures.ended c.settle.ensures.outcome c.args.compiler.now c.finish-site.new.self refl refl c.finish-site.ensures.started c.finish-site.ensures.lent)
    (finish-settled a mid b jobs c.finish-site.new.self.jobs c.args.j finishes c.settle.ensures.still c.args.sites.now outcome c.settle.result c.finish-site.ensures.ended c.settle.ensures.outcome
    c.rest_is_now.ensures.law c.refused_had_held.ensures.law c.requires.rest c.stands.ensures.desk c.stands-2.ensures.sound.heap c.stands-2.ensures.desk c.requires.reading (c.requires.planned.resting c.args.j finishes.x finishes.was)
    c.writes-at.result c.finish-site.result.site c.settle.new.sites c.writes-at.ensures.count c.finish-site.ensures.site c.settle.ensures.sites)
    c.settle.ensures.line

pub returns-clause-met : goal.returns-clause-met
returns-clause-met g c =
    finish-met c.args.objects.now c.finish-site.new.objects c.settle.new.objects c.args.compiler.now.jobs c.finish-site.new.self.jobs c.args.j c.finish-site.ensures.finishes c.settle.ensures.still

pub returns-clause-reading : goal.returns-clause-reading
returns-clause-reading g c =
    finish-reading c.args.objects.now c.finish-site.new.objects c.settle.new.objects c.args.compiler.now.jobs c.finish-site.new.self.jobs c.args.j c.finish-site.ensures.finishes c.settle.ensures.still c.finish-site.ensures.reading

pub returns-clause-opened : goal.returns-clause-opened
returns-clause-opened g c =
    subst (λ (xs : List SiteState). AreSitesOf xs c.finish-site.new.self.jobs) (sym c.settle.ensures.sites)
    (finish-opened c.args.objects.now c.finish-site.new.objects c.settle.new.objects c.args.compiler.now.jobs c.finish-site.new.self.jobs c.args.j c.finish-site.ensures.finishes c.settle.ensures.still c.args.sites.now
    (sites_after c.args.sites.now c.finish-site.result.site c.finish-site.result.outcome c.settle.result)
    (settled-same c.args.sites.now c.finish-site.result.site c.finish-site.result.outcome c.settle.result) c.requires.opened)

pub returns-clause-planned : goal.returns-clause-planned
returns-clause-planned g c =
    subst (λ (xs : List SiteState). ArePlanned c.settle.new.objects xs c.finish-site.new.self.jobs) (sym c.settle.ensures.sites)
    (finish-planned c.args.objects.now c.finish-site.new.objects c.settle.new.objects c.args.compiler.now.jobs c.finish-site.new.self.jobs c.args.j c.finish-site.ensures.finishes c.settle.ensures.still c.args.sites.now c.finish-site.result.outcome c.settle.result c.finish-site.ensures.ended c.settle.ensures.outcome
    c.outcomes_stay_installed.ensures.law c.requires.rest c.stands-2.ensures.desk c.requires.opened c.requires.planned c.finish-site.result.site c.finish-site.ensures.site)
