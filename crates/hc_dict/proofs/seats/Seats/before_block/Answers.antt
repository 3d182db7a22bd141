use Rattle.std.proofs.Common.{◌+◌, ◌*◌, ◌<◌, ◌≤◌, length, sym, subst, arith}
use Rattle.std.proofs.lemmas.List.{get_or_read}
use Rattle.hc_dict.proofs.Row.{before-first, before-few}
use Rattle.hc_dict.proofs.seats.Seats.before_block.Goals as goal

pub loop-b-init : goal.loop-b-init
loop-b-init c = sym (before-first c.self.inside.row.items)

pub overflow_add-sum : goal.overflow_add-sum
overflow_add-sum c =
    let covered = c.self.invariant.covered in
    let few = before-few c.self.inside.row.items (64 * (c.loop-b.b + 1)) in
    let gaps = c.self.invariant.gaps in
    let within = subst (λ v. 64 * c.args.block ≤ length v) (sym c.self.view_is) c.requires in
    let block : c.loop-b.b < length c.self.inside.counts.items = omega arith in
    let read = get_or_read c.self.inside.counts.items c.loop-b.b c.index.result.now block c.index.ensures 0 in
    let counted = c.self.invariant.counted c.loop-b.b in
    omega arith

pub loop-b-preserved : goal.loop-b-preserved
loop-b-preserved c =
    let within = subst (λ v. 64 * c.args.block ≤ length v) (sym c.self.view_is) c.requires in
    let covered = c.self.invariant.covered in
    let block : c.loop-b.b < length c.self.inside.counts.items = omega arith in
    let read = get_or_read c.self.inside.counts.items c.loop-b.b c.index.result.now block c.index.ensures 0 in
    let counted = c.self.invariant.counted c.loop-b.b in
    omega arith
