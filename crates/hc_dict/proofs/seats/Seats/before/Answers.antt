use Rattle.std.proofs.Common.{◌≡◌, ◌<◌, ◌≤◌, None, length, sym, ap, ◌∙◌, subst, arith}
use Rattle.std.proofs.lemmas.List.{get_or_read}
use Rattle.hc_dict.specs.Dict.{seated, before}
use Rattle.hc_dict.proofs.Row.{before-no_gaps, before-next, before-few, one, one-some, one-none}
use Rattle.hc_dict.proofs.seats.Seats.before.Goals as goal
use Rattle.hc_dict.proofs.seats.Seats.before.Goals.{then-is_some, else-is_some}

pub returns-then-self-eq0 : goal.returns-then-self-eq0
returns-then-self-eq0 c =
    let gaps = c.self.invariant.gaps in
    let none = c.if-self-eq0.true in
    let full : length (seated c.self.inside.row.items) ≡ length c.self.inside.row.items = omega arith in
    let within = subst (λ v. c.args.seat ≤ length v) (sym c.self.view_is) c.requires in
    subst (λ v. c.args.seat ≡ before v c.args.seat) c.self.view_is (sym (before-no_gaps c.self.inside.row.items c.args.seat full within))

pub overflow_add-sum : goal.overflow_add-sum
overflow_add-sum c =
    let few = before-few c.self.inside.row.items c.loop-s.s in
    let gaps = c.self.invariant.gaps in
    let within = subst (λ v. c.args.seat ≤ length v) (sym c.self.view_is) c.requires in
    omega arith

pub loop-s-preserved : goal.loop-s-preserved
loop-s-preserved c =
    let within = subst (λ v. c.args.seat ≤ length v) (sym c.self.view_is) c.requires in
    let there : c.loop-s.s < length c.self.inside.row.items = omega arith in
    let read = get_or_read c.self.inside.row.items c.loop-s.s c.index.result.now there c.index.ensures None in
    let next = before-next c.self.inside.row.items c.loop-s.s in
    let seen = ap one read in
    elim c.if-is_some.branch [
      | then-is_some w ↦ (let some = one-some c.index.result.now (sym c.is_some.ensures ∙ w.if-is_some.true) in omega arith)
      | else-is_some w ↦ (let none = one-none c.index.result.now (sym c.is_some.ensures ∙ w.if-is_some.false) in omega arith)
    ]
