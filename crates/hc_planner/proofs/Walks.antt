-- The walk along a chain, one object on.
use Rattle.std.proofs.Common.{◌≡◌, ℕ, suc, zero, ◌-◌, ◌<◌, List, refl, arith}
use Rattle.std.specs.Prelude.{Some}
use Rattle.hc_layout.specs.declared.words.GateWord.{GateWord}
use Rattle.hc_plan.specs.Chains.{Hop}
use Rattle.hc_plan.specs.declared.case.Site.{Site}
use Rattle.hc_question.specs.Ask.{ask_object_map}
use Rattle.hc_question.specs.Question.{Then, of_object, walk}

pub walk-on : (what : Site) (most map : ℕ) (gate : GateWord) (left : ℕ) (next : Then) (chain : List Hop) (object : ℕ) → 0 < left
    → walk what most map gate left next chain (Some object) ≡ ask_object_map object (of_object what most map gate object chain next (walk what most map gate (left - 1) next))
unfolding walk
walk-on what most map gate zero next chain object h = grind (arith, h)
walk-on what most map gate (suc left) next chain object h = let e : suc left - 1 ≡ left = omega arith in rw e refl
