use Rattle.std.proofs.Common.{◌≡◌, ◌+◌, Option, length, is_some, if◌then◌else◌, subst, sym, ap, ◌∙◌}
use Rattle.hc_table.specs.Changes.{removed_at}
use Rattle.hc_table.specs.World.{HaveDistinctNames}
use Rattle.hc_dict.specs.Dict.{seated, AreFound, AreNamed}
use Rattle.hc_dict.proofs.Names.{found-clear, named-removed}
use Rattle.hc_dict.proofs.Row.{seated-clear}
use Rattle.hc_dict.proofs.Dict.remove.Goals as goal

pub invariant_of-self : goal.invariant_of-self
invariant_of-self c =
    let seats = c.self.inside.seats in
    let seat = c.find-seat.result.0 in
    let prop = c.find-seat.result.1 in
    let fewer = subst (λ (o : Option _). length c.swap_remove-seat.new.self.entries + (if is_some o then 1 else 0) ≡ length c.self.inside.names.entries) c.swap_remove-seat.ensures.value c.swap_remove-seat.ensures.len in
    subst (λ row. AreFound row c.swap_remove-seat.new.self.entries) (sym c.clear.ensures)
    (found-clear seats seat prop c.self.inside.names.entries c.swap_remove-seat.new.self.entries c.self.invariant c.find-seat.ensures.prop c.swap_remove-seat.ensures.updates.0 fewer)

pub invariant_of-self-else-is_sparse : goal.invariant_of-self-else-is_sparse
invariant_of-self-else-is_sparse c =
    let seats = c.self.inside.seats in
    let seat = c.find-seat.result.0 in
    let prop = c.find-seat.result.1 in
    let fewer = subst (λ (o : Option _). length c.swap_remove-seat.new.self.entries + (if is_some o then 1 else 0) ≡ length c.self.inside.names.entries) c.swap_remove-seat.ensures.value c.swap_remove-seat.ensures.len in
    subst (λ row. AreFound row c.swap_remove-seat.new.self.entries) (sym c.clear.ensures)
    (found-clear seats seat prop c.self.inside.names.entries c.swap_remove-seat.new.self.entries c.self.invariant c.find-seat.ensures.prop c.swap_remove-seat.ensures.updates.0 fewer)

pub returns-then-is_sparse-clause-removed : goal.returns-then-is_sparse-clause-removed
returns-then-is_sparse-clause-removed c =
    let seats = c.self.inside.seats in
    c.close.ensures
    ∙ ap seated c.clear.ensures
    ∙ seated-clear seats c.find-seat.result.0 c.find-seat.result.1 c.find-seat.ensures.prop
    ∙ ap (removed_at (seated seats)) c.find-seat.ensures.place
    ∙ ap (λ ps. removed_at ps c.args.i) c.self.view_is

pub returns-then-is_sparse-clause-distinct : goal.returns-then-is_sparse-clause-distinct
returns-then-is_sparse-clause-distinct c =
    let named = subst AreNamed c.self.view_is c.self.invariant.named in
    subst HaveDistinctNames (sym (returns-then-is_sparse-clause-removed c)) (named-removed c.args.self.now c.args.i named).distinct

pub returns-else-is_sparse-clause-removed : goal.returns-else-is_sparse-clause-removed
returns-else-is_sparse-clause-removed c =
    let seats = c.self.inside.seats in
    ap seated c.clear.ensures
    ∙ seated-clear seats c.find-seat.result.0 c.find-seat.result.1 c.find-seat.ensures.prop
    ∙ ap (removed_at (seated seats)) c.find-seat.ensures.place
    ∙ ap (λ ps. removed_at ps c.args.i) c.self.view_is

pub returns-else-is_sparse-clause-distinct : goal.returns-else-is_sparse-clause-distinct
returns-else-is_sparse-clause-distinct c = (invariant_of-self-else-is_sparse c).named.distinct
