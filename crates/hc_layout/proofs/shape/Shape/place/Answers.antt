use Rattle.std.proofs.Common.{◌∙◌, sym, arith}
use Rattle.hc_layout.proofs.Places.{region_lies, no_place, found}
use Rattle.hc_layout.proofs.shape.Shape.place.Goals as goal

pub overflow_sub-rest : goal.overflow_sub-rest
overflow_sub-rest c = omega (arith, (region_lies _ c.args.i _ (sym c.in_ok-region.ensures)).from)

pub returns-in_err-region-clause-value : goal.returns-in_err-region-clause-value
returns-in_err-region-clause-value c =
    c.from_residual.ensures ∙ sym (no_place c.args.self.now c.args.i (sym c.in_err-region.ensures)).1

pub returns-in_err-region-clause-there : goal.returns-in_err-region-clause-there
returns-in_err-region-clause-there c =
    let none = no_place c.args.self.now c.args.i (sym c.in_err-region.ensures) in
    rw c.from_residual.ensures (λ h. cc, λ h. absurd (omega (arith, none.0)))

pub returns-clause-value : goal.returns-clause-value
returns-clause-value c = sym (found _ _ _ _ _ c.start.ensures c.item_words-words.ensures c.in_ok-region.ensures).value

pub returns-clause-there : goal.returns-clause-there
returns-clause-there c =
    let at = found _ _ _ _ _ c.start.ensures c.item_words-words.ensures c.in_ok-region.ensures in
    (λ h. at.within, λ h. cc)

pub returns-clause-back : goal.returns-clause-back
returns-clause-back c = (found _ _ _ _ _ c.start.ensures c.item_words-words.ensures c.in_ok-region.ensures).place

pub returns-clause-index : goal.returns-clause-index
returns-clause-index c = (found _ _ _ _ _ c.start.ensures c.item_words-words.ensures c.in_ok-region.ensures).index
