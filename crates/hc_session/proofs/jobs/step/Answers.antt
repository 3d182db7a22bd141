use Rattle.std.proofs.Common.{sym, ap, ◌∙◌, subst}
use Rattle.hc_compiler.specs.Calls.{Steps}
use Rattle.hc_jobs.specs.declared.reads.Reads.{Reads}
use Rattle.hc_session.proofs.Entered.{step-missing, stepped}
use Rattle.hc_session.specs.Jobs.{reads_for}
use Rattle.hc_session.proofs.Rested.{stepped-opened, stepped-planned}
use Rattle.hc_session.proofs.jobs.step.Goals as goal

pub returns-then-not-is_open-clause-serves : goal.returns-then-not-is_open-clause-serves
returns-then-not-is_open-clause-serves g c log =
    step-missing c.args.objects.now c.args.sites.now c.args.compiler.now log c.args.j c.args.reads c.requires.own (sym c.is_open.ensures.there ∙ c.if-not-is_open.true)

pub returns-clause-serves : goal.returns-clause-serves
returns-clause-serves g c log =
    stepped c.args.objects.now c.args.sites.now c.args.compiler.now log c.args.j c.step.new.objects c.step.new.self c.requires.own (sym c.is_open.ensures.there ∙ c.if-not-is_open.false) c.step.ensures.started c.step.ensures.lent c.args.reads
    (subst (λ (n : Reads). Steps n c.args.objects.now c.args.compiler.now.jobs c.args.j c.step.new.objects c.step.new.self.jobs) c.reads_for.ensures c.step.ensures.steps)

pub returns-clause-opened : goal.returns-clause-opened
returns-clause-opened g c =
    let steps = subst (λ (n : Reads). Steps n c.args.objects.now c.args.compiler.now.jobs c.args.j c.step.new.objects c.step.new.self.jobs) (c.reads_for.ensures ∙ ap reads_for c.requires.all) c.step.ensures.steps in
    stepped-opened c.args.objects.now c.step.new.objects c.args.compiler.now.jobs c.step.new.self.jobs c.args.j steps c.args.sites.now c.requires.opened

pub returns-clause-planned : goal.returns-clause-planned
returns-clause-planned g c =
    let steps = subst (λ (n : Reads). Steps n c.args.objects.now c.args.compiler.now.jobs c.args.j c.step.new.objects c.step.new.self.jobs) (c.reads_for.ensures ∙ ap reads_for c.requires.all) c.step.ensures.steps in
    stepped-planned c.args.objects.now c.step.new.objects c.args.compiler.now.jobs c.step.new.self.jobs c.args.j steps c.args.sites.now c.rest_is_now.ensures.law c.requires.rest c.stands.ensures.desk c.requires.reading c.requires.planned
