-- A text begins with what stood there before.
use Rattle.std.proofs.Common.{◌≡◌, ℕ, ◌≤◌, List, ◌++◌, length, take, refl, ap, sym, ◌∙◌, length-take, take_all, subst, arith}
use Rattle.std.proofs.lemmas.List.{take-take, take_at}
use Rattle.hc_report.specs.Front.{BeginsWith}

short : (text front : List ℕ) → take (length front) text ≡ front → length front ≤ length text
short text front e = omega (arith, length-take (length front) text, ap length e)

pub begins_more : (text middle front : List ℕ) → BeginsWith text middle → BeginsWith middle front → BeginsWith text front
begins_more text middle front late early =
    record {
      same =
          sym (take-take (length front) (length middle) text (short middle front early.same))
          ∙ ap (take (length front)) late.same ∙ early.same;
    }

pub begins_append : (text front rest : List ℕ) → text ≡ front ++ rest → BeginsWith text front
begins_append text front rest e = record { same = ap (take (length front)) e ∙ take_at front rest (length front) refl }

pub begins_self : (text front : List ℕ) → text ≡ front → BeginsWith text front
begins_self text front e = record { same = ap (take (length front)) e ∙ take_all (length front) front (omega arith) }

-- the same where the middle stands under another name
pub begins_with_more : (text now middle front : List ℕ) → now ≡ middle → BeginsWith text now → BeginsWith middle front → BeginsWith text front
begins_with_more text now middle front e late early =
    begins_more text middle front (subst (λ (xs : List ℕ). BeginsWith text xs) e late) early

pub ruleset fronts = (begins_more, begins_append, begins_self)
