use Rattle.std.proofs.Common.{sym}
use Rattle.hc_session.proofs.Answering.{site-missing, site-seen}
use Rattle.hc_session.proofs.exec.exec.Goals as goal

pub returns-in_default-clause-serves : goal.returns-in_default-clause-serves
returns-in_default-clause-serves g c =
    site-missing g.P.Pace.went c.args.objects.now c.args.sites.now c.args.log.now.lines c.args.s c.args.o c.plans_stand.ensures.unbroken c.args.value (sym c.in_default.ensures)

pub exec_store-requires-clause-names : goal.exec_store-requires-clause-names
exec_store-requires-clause-names g c =
    c.requires.names c.args.s c.in-Some.site (site-seen g.P.Pace.went c.args.objects.now c.args.sites.now c.args.s c.args.o c.args.value c.in-Some.site (sym c.in-Some.ensures))

pub exec_load-requires-clause-names : goal.exec_load-requires-clause-names
exec_load-requires-clause-names g c =
    c.requires.names c.args.s c.in-Some.site (site-seen g.P.Pace.went c.args.objects.now c.args.sites.now c.args.s c.args.o c.args.value c.in-Some.site (sym c.in-Some.ensures))

pub plans_stand-requires : goal.plans_stand-requires
plans_stand-requires g c = record { agree = record { good = c.requires.good; seen = c.requires.seen; calm = c.requires.calm; honest = c.requires.honest; installed = c.requires.installed } }
