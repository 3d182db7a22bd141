use Rattle.std.proofs.Common.{◌<◌, None, length, sym, ap, subst, arith}
use Rattle.std.proofs.lemmas.List.{get_or_read}
use Rattle.hc_dict.specs.Dict.{seated}
use Rattle.hc_dict.proofs.Row.{before-next, before-all, one}
use Rattle.hc_dict.proofs.seats.Seats.find.Goals as goal
use Rattle.hc_dict.proofs.seats.Seats.find.Goals.{in-Some+else-rest-eq0, in_default}

pub loop-seat-preserved : goal.loop-seat-preserved
loop-seat-preserved c =
    let there : c.loop-seat.seat < length c.self.inside.row.items = omega arith in
    let read = get_or_read c.self.inside.row.items c.loop-seat.seat c.index.result.now there c.index.ensures None in
    let next = before-next c.self.inside.row.items c.loop-seat.seat in
    let seen = ap one read in
    elim c.match-index.branch [
      | in-Some+else-rest-eq0 w ↦ (let some = ap one w.in-Some.is in omega arith)
      | in_default w ↦ (let none = ap one w.in_default.is in omega arith)
    ]

pub unreachable-requires : goal.unreachable-requires
unreachable-requires c =
    let few = subst (λ v. c.args.place < length (seated v)) (sym c.self.view_is) c.requires in
    let all = before-all c.self.inside.row.items c.loop-seat.seat (omega arith) in
    omega arith
