use Rattle.std.proofs.Common.{Option, sym, ◌∙◌, subst}
use Rattle.std.specs.Prelude.{OnErr}
use Rattle.hc_value.specs.declared.value.Value.{Value}
use Rattle.hc_commands.specs.declared.command.Command.TheVariants.{Exec}
use Rattle.hc_session.specs.State.{NotedInWant}
use Rattle.hc_session.proofs.Answering.{store-given, store-past, store-unnamed}
use Rattle.hc_session.proofs.exec.exec_store.Goals.{then-o-count-via-then-o-count, then-o-count-via-else-o-count+then-not-is_value_there}
use Rattle.hc_session.proofs.exec.exec_store.Goals as goal

pub returns-in_default-clause-serves : goal.returns-in_default-clause-serves
returns-in_default-clause-serves g c =
    store-given g.P.Pace.went c.args.objects.now c.args.sites.now c.args.log.now.lines c.args.s c.args.o c.plans_stand.ensures.unbroken c.args.name c.args.value.now c.requires.site c.in_default.not-Some

pub returns-then-o-count-clause-serves : goal.returns-then-o-count-clause-serves
returns-then-o-count-clause-serves g c =
    elim c.then-o-count.branch [
      | then-o-count-via-then-o-count w ↦ (store-past g.P.Pace.went c.args.objects.now c.args.sites.now c.args.log.now.lines c.args.s c.args.o c.plans_stand.ensures.unbroken c.args.name c.args.value.now c.in-Some.given c.requires.site c.in-Some.is c.count-count.result c.count-count.ensures.count w.if-o-count.true)
      | then-o-count-via-else-o-count+then-not-is_value_there w ↦ (store-unnamed g.P.Pace.went c.args.objects.now c.args.sites.now c.args.log.now.lines c.args.s c.args.o c.plans_stand.ensures.unbroken c.args.name c.args.value.now c.in-Some.given c.requires.site c.in-Some.is c.count-count.result c.count-count.ensures.count (sym w.is_value_there.ensures ∙ w.if-not-is_value_there.true))
    ]

pub returns-clause-noted : goal.returns-clause-noted
returns-clause-noted g c =
    subst (λ (v : Option Value). OnErr c.store_whole.result (NotedInWant g.P.Pace.went c.args.objects.now c.args.sites.now c.args.log.now.lines (Exec c.args.s c.args.o v) c.store_whole.new.sites c.store_whole.new.log.lines)) (sym c.in-Some.is) c.store_whole.ensures.noted
