use Rattle.std.proofs.Common.{◌≡◌, ◌<◌, ◌+◌, ◌*◌, ◌/◌, ◌++◌, ◌∷◌, [], Some, length, get_or, set, sym, subst, arith}
use Rattle.std.proofs.lemmas.List.{get_or_read}
use Rattle.hc_dict.specs.Dict.{AreCounted}
use Rattle.hc_dict.proofs.Row.{counted-cover, counted-push, before-within}
use Rattle.hc_dict.proofs.seats.Seats.push.Goals as goal

pub overflow_add-index_mut : goal.overflow_add-index_mut
overflow_add-index_mut c =
    let block : c.len-seat.result / 64 < length c.cover.new.counts.items = (let room = c.in-Ok.ensures.covered in omega arith) in
    let read = get_or_read c.cover.new.counts.items (c.len-seat.result / 64) c.index_mut.result.now block c.index_mut.ensures.value 0 in
    let same = c.in-Ok.ensures.same (c.len-seat.result / 64) in
    let counted = c.self.invariant.counted (c.len-seat.result / 64) in
    let few = before-within c.self.inside.row.items (64 * (c.len-seat.result / 64)) (64 * (c.len-seat.result / 64 + 1)) (omega arith) in
    omega arith

pub invariant_of-self-2 : goal.invariant_of-self-2
invariant_of-self-2 c =
    let room = c.in-Ok.ensures.covered in
    let block : c.len-seat.result / 64 < length c.cover.new.counts.items = omega arith in
    let read = get_or_read c.cover.new.counts.items (c.len-seat.result / 64) c.index_mut.result.now block c.index_mut.ensures.value 0 in
    let covered = counted-cover c.self.inside.row.items c.self.inside.counts.items c.cover.new.counts.items c.self.inside.gaps c.self.invariant c.in-Ok.ensures.same c.in-Ok.ensures.more in
    let as_many : c.len-seat.result ≡ length c.self.inside.row.items = omega arith in
    let pushed = counted-push c.self.inside.row.items c.cover.new.counts.items c.self.inside.gaps c.args.p covered (omega arith) in
    let at_seat = subst (λ n. AreCounted (c.self.inside.row.items ++ Some c.args.p ∷ []) (set c.cover.new.counts.items (n / 64) (get_or c.cover.new.counts.items (n / 64) 0 + 1)) c.self.inside.gaps) (sym as_many) pushed in
    let counted = subst (λ n. AreCounted (c.self.inside.row.items ++ Some c.args.p ∷ []) (set c.cover.new.counts.items (c.len-seat.result / 64) (n + 1)) c.self.inside.gaps) (sym read) at_seat in
    subst (λ row. AreCounted row (set c.cover.new.counts.items (c.len-seat.result / 64) (c.index_mut.result.now + 1)) c.self.inside.gaps) (sym c.in-Ok-push.ensures.items) counted
