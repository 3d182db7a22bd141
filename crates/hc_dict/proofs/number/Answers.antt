use Rattle.std.proofs.Common.{◌≡◌, ℕ, ◌+◌, ◌++◌, ◌∷◌, [], None, Option, Some, eqb, cond, length, take, is_some, if◌then◌else◌, subst, sym, ap, ◌∙◌, arith}
use Rattle.std.specs.Map.{lookup}
use Rattle.std.proofs.lemmas.List.{take_more, length-take-le}
use Rattle.hc_dict.specs.Dict.{LeadToSeats, prop_seated}
use Rattle.hc_dict.proofs.Names.{lead-push, no_gap_in, seat_of-before}
use Rattle.hc_dict.proofs.Row.{there}
use Rattle.hc_dict.proofs.number.Goals as goal

pub unreachable-requires : goal.unreachable-requires
unreachable-requires c =
    let stands = there c.args.seats.now c.loop-seat.seat (no_gap_in c.args.seats.now c.loop-seat.seat c.requires.full (omega arith)) in
    c.in_default.not-Some stands.0 (c.prop.ensures ∙ stands.1)

pub loop-seat-preserved : goal.loop-seat-preserved
loop-seat-preserved c =
    let seats = c.args.seats.now in
    let seat = c.loop-seat.seat in
    let p = c.in-Some.prop in
    let stands : prop_seated seats seat ≡ Some p = sym c.prop.ensures ∙ c.in-Some.is in
    let absent = seat_of-before seats seat p stands c.requires.distinct in
    let within = length-take-le seat seats (omega arith) in
    let next : take (seat + 1) seats ≡ take seat seats ++ Some p ∷ [] = take_more seats seat None (omega arith) ∙ ap (λ o. take seat seats ++ o ∷ []) stands in
    let updates : (q : ℕ) → lookup (eqb q) c.insert.new.self.entries ≡ cond (eqb p.name q) (Some (length (take seat seats))) (lookup (eqb q) c.loop-seat.names.entries) =
    subst (λ n. (q : ℕ) → lookup (eqb q) c.insert.new.self.entries ≡ cond (eqb p.name q) (Some n) (lookup (eqb q) c.loop-seat.names.entries)) (sym within) c.in-Ok.ensures.updates.0 in
    let none : c.in-Ok._replaced ≡ None = c.in-Ok.ensures.old ∙ c.loop-seat.invariant.found p.name ∙ absent in
    let more = subst (λ (o : Option ℕ). length c.insert.new.self.entries ≡ length c.loop-seat.names.entries + (if is_some o then 0 else 1)) none c.in-Ok.ensures.len in
    record {
      found = subst (LeadToSeats c.insert.new.self.entries) (sym next) (lead-push (take seat seats) p c.loop-seat.names.entries c.insert.new.self.entries c.loop-seat.invariant.found absent updates);
      as_many = let k = c.loop-seat.invariant.as_many in omega arith;
      room = let k = c.loop-seat.invariant.room in let s = c.in-Ok.ensures.spare in omega arith;
    }
