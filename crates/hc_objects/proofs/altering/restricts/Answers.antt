use Rattle.std.proofs.Common.{◌≡◌, ℕ, arith, sym, ◌∙◌, subst, true≢false}
use Rattle.hc_objects.proofs.Restricting.{AreFixed, fixed-all, fixed-not}
use Rattle.hc_objects.proofs.altering.restricts.Goals as goal

pub returns-then-not-is_restricted-clause-other : goal.returns-then-not-is_restricted-clause-other
returns-then-not-is_restricted-clause-other g c = λ t.
    fixed-not c.args.inside.now c.loop-i.inside c.args.o c.args.frozen c.len-i-end.result c.loop-i.i c.prop_at-p.result c.loop-i.invariant c.prop_at-p.ensures.prop
    (λ is. true≢false (sym (c.is_restricted.ensures.1 is) ∙ c.if-not-is_restricted.true))

pub returns-clause-same : goal.returns-clause-same
returns-clause-same g c = λ t.
    let n = c.len-i-end.result in
    let past = c.loop-i-test.false in
    let upto = c.loop-i.auto.i-end in
    let same : c.loop-i.i ≡ n = omega (arith, past, upto) in
    fixed-all c.args.inside.now c.loop-i.inside c.args.o c.args.frozen n (subst (λ (k : ℕ). AreFixed c.args.inside.now c.loop-i.inside c.args.o c.args.frozen k n) same c.loop-i.invariant)
