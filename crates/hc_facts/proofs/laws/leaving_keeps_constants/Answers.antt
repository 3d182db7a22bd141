use Rattle.std.proofs.Common.{◌≡◌, ℕ, Option, Some, sym, subst, ◌∙◌, true≢false}
use Rattle.std.specs.Prelude.{IsTrue}
use Rattle.hc_heap.specs.Readings.{bits_in, map_in}
use Rattle.hc_facts.proofs.laws.leaving_keeps_constants.Goals as goal

same : (a b : ℕ) (o : Option ℕ) → o ≡ Some a → o ≡ Some b → a ≡ b
same a b o p q = cc

pub returns : goal.returns
returns c = record { law = λ old new o m has gone x k f d datum admits const stable. absurd (true≢false (sym (subst (λ (y : ℕ). IsTrue (bits_in new y).unstable) (same m x (map_in old o) has datum.has) gone) ∙ stable)) }
