use Rattle.std.proofs.Common.{◌+◌, ◌-◌, ◌/◌, ◌<◌, None, IsSome, length, set, arith, subst, sym}
use Rattle.std.proofs.lemmas.List.{get_or_read}
use Rattle.hc_dict.specs.Dict.{prop_seated, AreCounted}
use Rattle.hc_dict.proofs.Row.{there, prop_seated-within, counted-clear, counted-some}
use Rattle.hc_dict.proofs.seats.Seats.clear.Goals as goal

pub overflow_sub-index_mut : goal.overflow_sub-index_mut
overflow_sub-index_mut c =
    let here = there c.self.inside.row.items c.args.seat (subst (λ v. IsSome (prop_seated v c.args.seat)) (sym c.self.view_is) c.requires) in
    let within = prop_seated-within c.self.inside.row.items c.args.seat here.0 here.1 in
    let covered = c.self.invariant.covered in
    let block : c.args.seat / 64 < length c.self.inside.counts.items = omega arith in
    let read = get_or_read c.self.inside.counts.items (c.args.seat / 64) c.index_mut-2.result.now block c.index_mut-2.ensures.value 0 in
    let some = counted-some c.self.inside.row.items c.self.inside.counts.items c.self.inside.gaps c.args.seat here.0 here.1 c.self.invariant in
    omega arith

pub invariant_of-self : goal.invariant_of-self
invariant_of-self c =
    let here = there c.self.inside.row.items c.args.seat (subst (λ v. IsSome (prop_seated v c.args.seat)) (sym c.self.view_is) c.requires) in
    let within = prop_seated-within c.self.inside.row.items c.args.seat here.0 here.1 in
    let covered = c.self.invariant.covered in
    let block : c.args.seat / 64 < length c.self.inside.counts.items = omega arith in
    let read = get_or_read c.self.inside.counts.items (c.args.seat / 64) c.index_mut-2.result.now block c.index_mut-2.ensures.value 0 in
    subst (λ n. AreCounted (set c.self.inside.row.items c.args.seat None) (set c.self.inside.counts.items (c.args.seat / 64) (n - 1)) (c.self.inside.gaps + 1)) (sym read)
    (counted-clear c.self.inside.row.items c.self.inside.counts.items c.self.inside.gaps c.args.seat here.0 here.1 c.self.invariant block)
