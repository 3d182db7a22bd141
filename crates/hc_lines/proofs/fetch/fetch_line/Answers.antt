use Rattle.std.proofs.Common.{◌≡◌, ◌<◌, ◌≤◌, ◌-◌, length, ap, ◌∙◌, arith}
use Rattle.hc_lines.specs.declared.limits.TheConstants.{MAX_BYTES}
use Rattle.hc_lines.specs.Outside.{IsAtEnd}
use Rattle.hc_lines.proofs.FirstLine.{whole_some, whole_line, all_line, takes_whole, takes_last, stays_at_end}
use Rattle.hc_lines.proofs.Lines.{whole_too_far, unbroken_too_far}
use Rattle.hc_lines.proofs.fetch.fetch_line.Goals as goal

pub returns-else-n-used-clause-bound : goal.returns-else-n-used-clause-bound
returns-else-n-used-clause-bound g c bound =
    rw (← c.reads.invariant.same) (whole_too_far _ _ c.reads.buffer _ c.requires.used c.in-Some.ensures.within c.in-Some.ensures.found c.if-n-used.false)

pub returns-then-held-used-clause-bound : goal.returns-then-held-used-clause-bound
returns-then-held-used-clause-bound g c bound =
    let long : MAX_BYTES - c.args.used < length c.reads.buffer = omega (arith, ap length c.in_default.ensures.same) in
    rw (← c.reads.invariant.same) (unbroken_too_far _ c.reads.buffer _ c.requires.used c.in_default.ensures.none long)

pub returns-then-n-used-clause-fetched : goal.returns-then-n-used-clause-fetched
returns-then-n-used-clause-fetched g c = record {
  some = whole_some c.in-Some.n c.reads.buffer c.in-Some.ensures.found;
  there = rw c.in-Some.ensures.same c.in-Some.ensures.within;
  within = omega (arith, c.if-n-used.true, c.requires.used);
  line = rw c.in-Some.ensures.same (whole_line _ c.in-Some.ensures.found);
  first = rw c.in-Some.ensures.same (takes_whole c.in-Some.n c.reads.buffer _ c.in-Some.ensures.found);
}

pub returns-else-held-eq0-clause-fetched : goal.returns-else-held-eq0-clause-fetched
returns-else-held-eq0-clause-fetched g c =
    let ended : IsAtEnd (g.S.Source.left c.reads.source) = c.in-Ok.ensures.end c.if-n-eq0.true (omega (arith, c.as_mut_slice.ensures.len, c.reads.invariant.piece)) in
    let end : IsAtEnd (g.S.Source.left c.read.new.self) = stays_at_end _ _ (g.S.Source.left c.read.new.self) ended c.in-Ok.ensures.taken in
    let all : c.len-held.result ≡ length c.reads.buffer = c.len-held.ensures ∙ ap length c.in_default.ensures.same in
    let some : 0 < c.len-held.result = omega (arith, c.if-held-eq0.false) in
    record {
      some = some;
      there = omega (arith, c.len-held.ensures);
      within = omega (arith, c.if-held-used.false, c.requires.used);
      line = rw c.in_default.ensures.same (all_line c.len-held.result c.reads.buffer all c.in_default.ensures.none);
      first = rw c.in_default.ensures.same (takes_last c.len-held.result c.reads.buffer _ some all c.in_default.ensures.none end);
    }
