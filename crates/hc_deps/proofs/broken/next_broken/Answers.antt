use Rattle.std.proofs.Common.{◌+◌, ◌∙◌, arith}
use Rattle.std.specs.Prelude.{IfSome, IsSomeAnd}
use Rattle.hc_plan.specs.declared.deps.Dep.{Dep}
use Rattle.hc_plan.specs.declared.plan.Plan.{Plan}
use Rattle.hc_sites.specs.State.{plan_at}
use Rattle.hc_deps.specs.Holds.{HoldsButValue}
use Rattle.hc_deps.specs.Verdicts.{IsFirstBroken, IsUnbroken}
use Rattle.hc_deps.proofs.Counts.{count-more, count-all, none-by, some-by, more-sites, all-sites}
use Rattle.hc_deps.specs.Looks.{looks-then, looks-none}
use Rattle.hc_deps.proofs.broken.next_broken.Goals as goal

pub returns-in-Some-clause-broken : goal.returns-in-Some-clause-broken
returns-in-Some-clause-broken g c = λ words told. record {
  on = omega arith;
  before = c.loop-site.invariant.unbroken words told;
  here = some-by (IfSome (plan_at c.args.sites.now c.loop-site.site) (IsUnbroken c.args.shape words))
      (λ (dep : Dep). IsSomeAnd (plan_at c.args.sites.now c.loop-site.site) (λ (plan : Plan). IsFirstBroken (HoldsButValue c.args.shape words) plan.deps dep))
      c.broken_at.result c.in-Some.dep c.in-Some.is (c.broken_at.ensures.broken words (c.loop-site.invariant.looks.same ∙ told));
}

pub returns-in-Some-clause-looks : goal.returns-in-Some-clause-looks
returns-in-Some-clause-looks g c =
    let more = count-more c.args.sites.now c.loop-site.site in
    let all = count-all c.args.sites.now (c.loop-site.site + 1) in
    looks-then g.met.L.Look.goes_on c.loop-site.invariant.looks c.broken_at.ensures.looks (omega arith) (omega arith)

pub loop-site-preserved : goal.loop-site-preserved
loop-site-preserved g c = record {
  looks = let more = count-more c.args.sites.now c.loop-site.site in
      looks-then g.met.L.Look.goes_on c.loop-site.invariant.looks c.broken_at.ensures.looks (omega arith) (omega arith);
  unbroken = λ words told.
      more-sites (IsUnbroken c.args.shape words) c.args.sites.now c.args.from c.loop-site.site (c.loop-site.invariant.unbroken words told)
      (none-by (IfSome (plan_at c.args.sites.now c.loop-site.site) (IsUnbroken c.args.shape words))
      (λ (dep : Dep). IsSomeAnd (plan_at c.args.sites.now c.loop-site.site) (λ (plan : Plan). IsFirstBroken (HoldsButValue c.args.shape words) plan.deps dep))
      c.broken_at.result c.in_default.not-Some (c.broken_at.ensures.broken words (c.loop-site.invariant.looks.same ∙ told)));
}

pub returns-clause-broken : goal.returns-clause-broken
returns-clause-broken g c = λ words told.
    all-sites (IsUnbroken c.args.shape words) c.args.sites.now c.args.from c.loop-site.site (omega arith) (c.loop-site.invariant.unbroken words told)

pub returns-clause-looks : goal.returns-clause-looks
returns-clause-looks g c =
    let all = count-all c.args.sites.now c.loop-site.site in
    looks-then g.met.L.Look.goes_on c.loop-site.invariant.looks (looks-none g.met.L.Look.stays c.loop-site.look) (omega arith) (omega arith)
