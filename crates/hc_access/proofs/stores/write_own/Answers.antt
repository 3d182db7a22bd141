use Rattle.std.proofs.Common.{sym, ap, subst}
use Rattle.hc_ops.specs.Act.{Act}
use Rattle.hc_objects.specs.Came.{Came}
use Rattle.hc_access.proofs.Writing.{set-own}
use Rattle.hc_access.proofs.stores.write_own.Goals as goal

pub returns-clause-reply : goal.returns-clause-reply
returns-clause-reply g c =
    sym (ap (λ (act : Act). act.reply) (set-own c.gates_are_open.ensures.law c.unused_says_nothing.ensures.law c.chains_are_told.ensures.protos c.args.objects.now c.stands.ensures.sound c.args.o c.args.name c.args.place c.args.value c.requires.there c.requires.own))

pub returns-clause-came : goal.returns-clause-came
returns-clause-came g c =
    subst (λ (act : Act). Came g.P.Pace.went c.args.objects.now act.did c.write.new.self)
    (sym (set-own c.gates_are_open.ensures.law c.unused_says_nothing.ensures.law c.chains_are_told.ensures.protos c.args.objects.now c.stands.ensures.sound c.args.o c.args.name c.args.place c.args.value c.requires.there c.requires.own))
    c.in_ok-write.ensures.did
