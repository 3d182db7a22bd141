use Rattle.std.proofs.Common.{◌≡◌, ℕ, Bool, true, false, eqb, eqb-true, eq-eqb, refl, sym, subst, true≢false, ◌∙◌}
use Rattle.hc_heap.specs.Writes.{Trail}
use Rattle.hc_facts.specs.Constants.{ConstantsStayFor, WordsStay}
use Rattle.hc_facts.proofs.laws.constants_after.Goals as goal

after : (old new : Trail) (o : ℕ) → WordsStay old new o → ConstantsStayFor old new o → (p : ℕ) → ConstantsStayFor old new p
after old new o words own p = by (eqb p o) refl
  where
    by : (b : Bool) → eqb p o ≡ b → ConstantsStayFor old new p
    by true e = subst (ConstantsStayFor old new) (sym (eqb-true p o e)) own
    by false e = λ m k f d datum admits const stable. words p k (λ is. true≢false (sym (eq-eqb p o is) ∙ e))

pub returns : goal.returns
returns c = record { law = after }
