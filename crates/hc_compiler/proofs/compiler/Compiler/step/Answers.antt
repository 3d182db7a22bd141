use Rattle.std.proofs.Common.{◌≡◌, true, ap, sym, subst, arith}
use Rattle.std.proofs.Math.Nat.{le_refl}
use Rattle.hc_jobs.specs.Opened.{is_open}
use Rattle.hc_compiler.specs.Calls.{Steps}
use Rattle.hc_compiler.specs.Jobs.{AreReading, Compiling}
use Rattle.hc_compiler.proofs.Numbered.{numbered-after}
use Rattle.hc_compiler.proofs.compiler.Compiler.step.Goals as goal

pub step_job-requires-clause-reading : goal.step_job-requires-clause-reading
step_job-requires-clause-reading g c = subst (λ (k : Compiling). AreReading c.args.objects.now k.jobs) (sym c.self.view_is) c.requires.reading

pub invariant_of-self : goal.invariant_of-self
invariant_of-self g c =
    let there : is_open c.self.inside.jobs c.args.j ≡ true = subst (λ (k : Compiling). is_open k.jobs c.args.j ≡ true) (sym c.self.view_is) c.requires.there in
    let numbers = c.self.invariant.numbers in
    let most = c.self.invariant.few in
    let count = c.step_job.ensures.steps.count in
    record {
      numbers = numbered-after c.self.inside.started c.self.inside.started c.self.inside.jobs c.step_job.new.jobs c.self.inside.lent c.args.j c.step_job.ensures.steps.others (le_refl c.self.inside.started) (numbers.open_below c.args.j there) (numbers.apart c.args.j there) numbers;
      few = omega (arith, count, most);
    }

pub returns-clause-steps : goal.returns-clause-steps
returns-clause-steps g c = subst (λ (k : Compiling). Steps c.args.n c.args.objects.now k.jobs c.args.j c.step_job.new.objects c.step_job.new.jobs) c.self.view_is c.step_job.ensures.steps

pub returns-clause-started : goal.returns-clause-started
returns-clause-started g c = ap (λ (k : Compiling). k.started) c.self.view_is

pub returns-clause-lent : goal.returns-clause-lent
returns-clause-lent g c = ap (λ (k : Compiling). k.lent) c.self.view_is

pub returns-clause-reading : goal.returns-clause-reading
returns-clause-reading g c = c.step_job.ensures.reading
