use Rattle.std.proofs.Common.{Option, ◌≤◌, length, sym, ◌∙◌, subst, arith}
use Rattle.std.specs.Prelude.{IfOk, OnErr}
use Rattle.hc_objects.specs.Came.{world_of}
use Rattle.hc_value.specs.declared.reply.Reply.{Reply}
use Rattle.hc_value.specs.declared.value.Value.{Value}
use Rattle.hc_commands.specs.declared.command.Command.TheVariants.{Exec}
use Rattle.hc_session.specs.Plain.{is_access}
use Rattle.hc_session.specs.Serving.{Serves}
use Rattle.hc_session.specs.Standing.{plain_with}
use Rattle.hc_session.specs.State.{NotedInWant}
use Rattle.hc_session.specs.Using.{MovesInWant, uses_if}
use Rattle.hc_session.proofs.Accessed.{value-none}
use Rattle.hc_session.proofs.Answering.{load-given, load-missing}
use Rattle.hc_session.proofs.exec.exec_load.Goals as goal

pub returns-then-is_some-clause-serves : goal.returns-then-is_some-clause-serves
returns-then-is_some-clause-serves g c =
    load-given g.P.Pace.went c.args.objects.now c.args.sites.now c.args.log.now.lines c.args.s c.args.o c.plans_stand.ensures.unbroken c.args.name c.args.value c.requires.site (sym c.is_some.ensures ∙ c.if-is_some.true)

pub returns-then-o-count-clause-serves : goal.returns-then-o-count-clause-serves
returns-then-o-count-clause-serves g c =
    let past : length (world_of c.args.objects.now) ≤ c.args.o = omega (arith, c.if-o-count.true, c.count.ensures.count) in
    load-missing g.P.Pace.went c.args.objects.now c.args.sites.now c.args.log.now.lines c.args.s c.args.o c.plans_stand.ensures.unbroken c.args.name c.args.value c.requires.site (value-none c.args.value (sym c.is_some.ensures ∙ c.if-is_some.false)) past

pub returns-clause-serves : goal.returns-clause-serves
returns-clause-serves g c =
    subst (λ (v : Option Value). IfOk c.load_whole.result (λ (reply : Reply). Serves g.P.Pace.went c.args.objects.now c.args.sites.now c.args.log.now.lines (Exec c.args.s c.args.o v) reply c.load_whole.new.objects c.load_whole.new.sites c.load_whole.new.log.lines))
    (sym (value-none c.args.value (sym c.is_some.ensures ∙ c.if-is_some.false))) c.load_whole.ensures.serves

pub returns-clause-moves : goal.returns-clause-moves
returns-clause-moves g c =
    subst (λ (v : Option Value). OnErr c.load_whole.result (MovesInWant g.P.Pace.went c.args.objects.now (uses_if (is_access (plain_with c.args.objects.now c.args.sites.now) (Exec c.args.s c.args.o v)) (Exec c.args.s c.args.o v)) c.load_whole.new.objects))
    (sym (value-none c.args.value (sym c.is_some.ensures ∙ c.if-is_some.false))) c.load_whole.ensures.moves

pub returns-clause-noted : goal.returns-clause-noted
returns-clause-noted g c =
    subst (λ (v : Option Value). OnErr c.load_whole.result (NotedInWant g.P.Pace.went c.args.objects.now c.args.sites.now c.args.log.now.lines (Exec c.args.s c.args.o v) c.load_whole.new.sites c.load_whole.new.log.lines))
    (sym (value-none c.args.value (sym c.is_some.ensures ∙ c.if-is_some.false))) c.load_whole.ensures.noted
