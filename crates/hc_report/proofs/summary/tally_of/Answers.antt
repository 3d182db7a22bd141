-- The counts go on with the next line, which fits.
use Rattle.std.proofs.Common.{◌∙◌, ◌<◌, ◌^◌, length, sym, arith}
use Rattle.hc_report.specs.declared.line.Line.TheVariants.{Slow}
use Rattle.hc_report.proofs.Tallies.{tally_next, room_for_next}
use Rattle.hc_report.proofs.summary.tally_of.Goals as goal

pub loop-i-preserved : goal.loop-i-preserved
loop-i-preserved c =
    let there : c.loop-i.i < length c.args.log.now.lines = omega (arith, c.len-i-end.ensures) in
    c.count_nth.ensures ∙ rw c.loop-i.invariant (sym (tally_next c.args.log.now.lines c.loop-i.i (0, Slow 0) there))

pub count_nth-requires : goal.count_nth-requires
count_nth-requires c =
    let there : c.loop-i.i < length c.args.log.now.lines = omega (arith, c.len-i-end.ensures) in
    let fits : length c.args.log.now.lines < 2 ^ 64 = omega (arith, c.len-i-end.ensures) in
    record { there = there; room = rw c.loop-i.invariant (room_for_next c.args.log.now.lines c.loop-i.i there fits) }
