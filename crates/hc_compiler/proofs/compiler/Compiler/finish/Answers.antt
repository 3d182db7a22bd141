use Rattle.std.proofs.Common.{◌≡◌, true, ap, sym, subst, arith}
use Rattle.std.proofs.Math.Nat.{le_refl}
use Rattle.hc_jobs.specs.Opened.{is_open}
use Rattle.hc_compiler.specs.Calls.{Finishes}
use Rattle.hc_compiler.specs.Ends.{HasEnded}
use Rattle.std.specs.Prelude.{IsSomeAnd}
use Rattle.hc_compiler.specs.Jobs.{AreReading, Compiling, opening_at}
use Rattle.hc_compiler.proofs.Numbered.{numbered-after}
use Rattle.hc_compiler.proofs.compiler.Compiler.finish.Goals as goal

pub finish_job-requires-clause-reading : goal.finish_job-requires-clause-reading
finish_job-requires-clause-reading g c = subst (λ (k : Compiling). AreReading c.args.objects.now k.jobs) (sym c.self.view_is) c.requires.reading

pub invariant_of-self : goal.invariant_of-self
invariant_of-self g c =
    let there : is_open c.self.inside.jobs c.args.j ≡ true = subst (λ (k : Compiling). is_open k.jobs c.args.j ≡ true) (sym c.self.view_is) c.requires.there in
    let numbers = c.self.invariant.numbers in
    let most = c.self.invariant.few in
    let count = c.finish_job.ensures.finishes.count in
    record {
      numbers = numbered-after c.self.inside.started c.self.inside.started c.self.inside.jobs c.finish_job.new.jobs c.self.inside.lent c.args.j c.finish_job.ensures.finishes.others (le_refl c.self.inside.started) (numbers.open_below c.args.j there) (numbers.apart c.args.j there) numbers;
      few = omega (arith, count, most);
    }

pub returns-clause-finishes : goal.returns-clause-finishes
returns-clause-finishes g c = subst (λ (k : Compiling). Finishes c.args.objects.now k.jobs c.args.j c.finish_job.new.objects c.finish_job.new.jobs) c.self.view_is c.finish_job.ensures.finishes

pub returns-clause-ended : goal.returns-clause-ended
returns-clause-ended g c = subst (λ (k : Compiling). HasEnded k.jobs c.args.j c.finish_job.result.outcome c.finish_job.new.objects) c.self.view_is c.finish_job.ensures.ended

pub returns-clause-started : goal.returns-clause-started
returns-clause-started g c = ap (λ (k : Compiling). k.started) c.self.view_is

pub returns-clause-lent : goal.returns-clause-lent
returns-clause-lent g c = ap (λ (k : Compiling). k.lent) c.self.view_is

pub returns-clause-reading : goal.returns-clause-reading
returns-clause-reading g c = c.finish_job.ensures.reading

pub returns-clause-site : goal.returns-clause-site
returns-clause-site g c = subst (λ (k : Compiling). IsSomeAnd (opening_at k.jobs c.args.j) (λ given. c.finish_job.result.site ≡ given.site)) c.self.view_is c.finish_job.ensures.site
