use Rattle.std.proofs.Common.{◌≡◌, Some, length, subst, sym, ap, ◌∙◌}
use Rattle.std.proofs.lemmas.List.{length-map}
use Rattle.hc_table.specs.World.{HaveDistinctNames}
use Rattle.hc_dict.specs.Dict.{seated, AreNamed}
use Rattle.hc_dict.proofs.Row.{seated-full}
use Rattle.hc_dict.proofs.Dict.close.Goals as goal

pub number-requires-clause-full : goal.number-requires-clause-full
number-requires-clause-full c =
    let ps = seated c.self.inside.seats in
    subst (λ row. length (seated row) ≡ length row) (sym c.close.ensures) (ap length (seated-full ps) ∙ sym (length-map ps Some))

pub number-requires-clause-distinct : goal.number-requires-clause-distinct
number-requires-clause-distinct c =
    subst HaveDistinctNames (sym (ap seated c.close.ensures ∙ seated-full (seated c.self.inside.seats))) c.self.invariant.named.distinct

pub invariant_of-self : goal.invariant_of-self
invariant_of-self c =
    let ps = seated c.self.inside.seats in
    let same = ap seated c.close.ensures ∙ seated-full ps in
    record {
      named = subst AreNamed (sym same) c.self.invariant.named;
      found = c.number.ensures.found;
      as_many = c.number.ensures.as_many ∙ ap length c.close.ensures ∙ length-map ps Some ∙ sym (ap length same);
    }

pub returns-then-has_gaps : goal.returns-then-has_gaps
returns-then-has_gaps c = ap seated c.close.ensures ∙ seated-full (seated c.self.inside.seats) ∙ c.self.view_is
