use Rattle.std.proofs.Common.{◌≡◌, ℕ, ◌+◌, ◌++◌, ◌∷◌, [], None, Option, Some, eqb, cond, is_some, if◌then◌else◌, length, subst, sym, ap, ◌∙◌, arith}
use Rattle.std.specs.Map.{lookup}
use Rattle.hc_table.specs.World.{place_of}
use Rattle.hc_dict.specs.Dict.{seated, AreFound}
use Rattle.hc_dict.proofs.Names.{found-push, found-undone, seat_of-none}
use Rattle.hc_dict.proofs.Row.{seated-push}
use Rattle.hc_dict.proofs.Dict.insert.Goals as goal

pub invariant_of-self-in-Ok-push : goal.invariant_of-self-in-Ok-push
invariant_of-self-in-Ok-push c =
    let seats = c.self.inside.seats in
    let old = c.self.inside.names.entries in
    let new = c.insert.new.self.entries in
    let p = c.args.p in
    let absent : place_of (seated seats) p.name ≡ None = subst (λ ps. place_of ps p.name ≡ None) (sym c.self.view_is) c.requires.absent in
    let updates : (q : ℕ) → lookup (eqb q) new ≡ cond (eqb p.name q) (Some (length seats)) (lookup (eqb q) old) =
    subst (λ n. (q : ℕ) → lookup (eqb q) new ≡ cond (eqb p.name q) (Some n) (lookup (eqb q) old)) c.len.ensures c.in-Ok.ensures.updates.0 in
    let none : c.in-Ok._replaced ≡ None = c.in-Ok.ensures.old ∙ c.self.invariant.found p.name ∙ seat_of-none seats p.name absent in
    let more = subst (λ (o : Option ℕ). length new ≡ length old + (if is_some o then 0 else 1)) none c.in-Ok.ensures.len in
    subst (λ row. AreFound row new) (sym c.in-Ok-push.ensures.added) (found-push seats p old new c.self.invariant absent c.requires.number updates more)

pub invariant_of-self-in_default-push : goal.invariant_of-self-in_default-push
invariant_of-self-in_default-push c =
    let seats = c.self.inside.seats in
    let old = c.self.inside.names.entries in
    let between = c.insert.new.self.entries in
    let new = c.swap_remove-seat.new.self.entries in
    let p = c.args.p in
    let absent : place_of (seated seats) p.name ≡ None = subst (λ ps. place_of ps p.name ≡ None) (sym c.self.view_is) c.requires.absent in
    let none : c.in-Ok._replaced ≡ None = c.in-Ok.ensures.old ∙ c.self.invariant.found p.name ∙ seat_of-none seats p.name absent in
    let more = subst (λ (o : Option ℕ). length between ≡ length old + (if is_some o then 0 else 1)) none c.in-Ok.ensures.len in
    let there = c.swap_remove-seat.ensures.value ∙ c.in-Ok.ensures.updates.1 in
    let fewer = subst (λ (o : Option ℕ). length new + (if is_some o then 1 else 0) ≡ length between) there c.swap_remove-seat.ensures.len in
    subst (λ row. AreFound row new) (sym c.in_default-push.ensures.err)
    (found-undone seats p c.len.result old between new c.self.invariant absent c.in-Ok.ensures.updates.0 c.swap_remove-seat.ensures.updates.0 (omega arith))

pub returns-clause-added : goal.returns-clause-added
returns-clause-added c =
    ap seated c.in-Ok-push.ensures.added ∙ seated-push c.self.inside.seats c.args.p ∙ ap (λ ps. ps ++ c.args.p ∷ []) c.self.view_is

pub returns-clause-distinct : goal.returns-clause-distinct
returns-clause-distinct c = (invariant_of-self-in-Ok-push c).named.distinct
