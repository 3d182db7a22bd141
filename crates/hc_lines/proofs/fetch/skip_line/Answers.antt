use Rattle.std.proofs.Common.{◌≡◌, ◌+◌, ◌<◌, ◌≤◌, take, length, arith}
use Rattle.std.proofs.lemmas.List.{length-take-le}
use Rattle.hc_lines.specs.Lines.{ahead, IsWholeLine}
use Rattle.hc_lines.specs.Outside.{IsAtEnd}
use Rattle.hc_lines.proofs.Skipping.{skipped_end, skipped_long, skipped_far, skipped_past, skipped_more, read_front}
use Rattle.hc_lines.proofs.fetch.skip_line.Goals as goal

pub returns-then-n-eq0-clause-long : goal.returns-then-n-eq0-clause-long
returns-then-n-eq0-clause-long g c long =
    let end : IsAtEnd (g.S.Source.left c.reads.source) = c.in-Ok.ensures.end c.if-n-eq0.true (omega (arith, c.as_mut_slice.ensures.len, c.reads.invariant.piece)) in
    skipped_end _ (g.S.Source.left c.reads.source) c.args.used c.reads.passed c.reads.invariant.skipped end c.reads.invariant.long c.reads.invariant.within

pub returns-then-i-used-clause-long : goal.returns-then-i-used-clause-long
returns-then-i-used-clause-long g c long =
    let there : c.in-Ok.n ≤ length c.read.new.into = omega (arith, c.in-Ok.ensures.count) in
    let small : c.in-Ok.n ≤ c.reads.piece.len = omega (arith, c.in-Ok.ensures.count, c.as_mut_slice.ensures.len) in
    let front : take c.in-Ok.n c.deref.result.now ≡ take c.in-Ok.n c.read.new.into = read_front c.in-Ok.n c.reads.piece.len c.deref.result.now c.read.new.into _ c.deref.ensures.value small there in
    let found : IsWholeLine (take (c.in-Some.i + 1) (take c.in-Ok.n c.read.new.into)) = rw front at c.in-Some.ensures.found in
    let here : c.in-Some.i < length (take c.in-Ok.n c.read.new.into) = rw front at c.in-Some.ensures.within in
    skipped_long _ (g.S.Source.left c.reads.source) (g.S.Source.left c.read.new.self) c.args.used c.reads.passed c.in-Some.i (take c.in-Ok.n c.read.new.into) c.reads.invariant.skipped c.in-Ok.ensures.taken here found c.reads.invariant.long (omega arith)

pub returns-else-i-used-clause-bound : goal.returns-else-i-used-clause-bound
returns-else-i-used-clause-bound g c bound =
    let there : c.in-Ok.n ≤ length c.read.new.into = omega (arith, c.in-Ok.ensures.count) in
    let small : c.in-Ok.n ≤ c.reads.piece.len = omega (arith, c.in-Ok.ensures.count, c.as_mut_slice.ensures.len) in
    let front : take c.in-Ok.n c.deref.result.now ≡ take c.in-Ok.n c.read.new.into = read_front c.in-Ok.n c.reads.piece.len c.deref.result.now c.read.new.into _ c.deref.ensures.value small there in
    let found : IsWholeLine (take (c.in-Some.i + 1) (take c.in-Ok.n c.read.new.into)) = rw front at c.in-Some.ensures.found in
    let here : c.in-Some.i < length (take c.in-Ok.n c.read.new.into) = rw front at c.in-Some.ensures.within in
    skipped_far _ (g.S.Source.left c.reads.source) (g.S.Source.left c.read.new.self) c.args.used c.reads.passed c.in-Some.i (take c.in-Ok.n c.read.new.into) c.reads.invariant.skipped c.in-Ok.ensures.taken here found (omega arith)

pub returns-then-passed-used-clause-bound : goal.returns-then-passed-used-clause-bound
returns-then-passed-used-clause-bound g c bound =
    let there : c.in-Ok.n ≤ length c.read.new.into = omega (arith, c.in-Ok.ensures.count) in
    let small : c.in-Ok.n ≤ c.reads.piece.len = omega (arith, c.in-Ok.ensures.count, c.as_mut_slice.ensures.len) in
    let front : take c.in-Ok.n c.deref.result.now ≡ take c.in-Ok.n c.read.new.into = read_front c.in-Ok.n c.reads.piece.len c.deref.result.now c.read.new.into _ c.deref.ensures.value small there in
    let more = skipped_more (ahead c.args.buffer.now (g.S.Source.left c.args.source.now)) (g.S.Source.left c.reads.source) (g.S.Source.left c.read.new.self) c.reads.passed c.in-Ok.n (take c.in-Ok.n c.read.new.into) c.reads.invariant.skipped c.in-Ok.ensures.taken (rw front at c.in_default.ensures.none) (length-take-le c.in-Ok.n c.read.new.into there) in
    skipped_past _ (g.S.Source.left c.read.new.self) c.args.used (c.reads.passed + c.in-Ok.n) more (omega arith) c.if-passed-used.true

pub reads-preserved : goal.reads-preserved
reads-preserved g c =
    let there : c.in-Ok.n ≤ length c.read.new.into = omega (arith, c.in-Ok.ensures.count) in
    let small : c.in-Ok.n ≤ c.reads.piece.len = omega (arith, c.in-Ok.ensures.count, c.as_mut_slice.ensures.len) in
    let front : take c.in-Ok.n c.deref.result.now ≡ take c.in-Ok.n c.read.new.into = read_front c.in-Ok.n c.reads.piece.len c.deref.result.now c.read.new.into _ c.deref.ensures.value small there in
    record {
      skipped = skipped_more _ (g.S.Source.left c.reads.source) (g.S.Source.left c.read.new.self) c.reads.passed c.in-Ok.n (take c.in-Ok.n c.read.new.into) c.reads.invariant.skipped c.in-Ok.ensures.taken (rw front at c.in_default.ensures.none) (length-take-le c.in-Ok.n c.read.new.into there);
      long = omega arith;
      within = omega arith;
      piece = c.reads.invariant.piece;
      grows = omega (arith, c.in-Ok.ensures.grows);
    }
