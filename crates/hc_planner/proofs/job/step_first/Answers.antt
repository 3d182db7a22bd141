use Rattle.std.proofs.Common.{◌≡◌, ◌<◌, ◌≤◌, length, sym, ap, ◌∙◌, not, refl, inl, inr, arith}
use Rattle.std.proofs.Math.Seq.{map-set_same}
use Rattle.hc_planner.proofs.Asking.{asks-stuck, asks-no-more, at-first, looked-on}
use Rattle.hc_planner.proofs.job.step_first.Goals as goal

pub returns-then-i-len-clause-turn : goal.returns-then-i-len-clause-turn
returns-then-i-len-clause-turn c =
    let ended = rw c.as_slice.ensures.value at c.first_asking-i.ensures.ended in
    let count : length c.args.seekers.now.items ≡ c.len.result = ap length (sym c.as_slice.ensures.value) ∙ c.as_slice.ensures.len ∙ sym c.len.ensures in
    let past : length c.args.seekers.now.items ≤ c.first_asking-i.result = omega (arith, count, c.if-i-len.true) in
    inr (record { done = asks-no-more c.args.seekers.now.items c.first_asking-i.result ended past; seekers = refl; reader = refl })

pub returns-then-not-is_looking-clause-turn : goal.returns-then-not-is_looking-clause-turn
returns-then-not-is_looking-clause-turn c =
    let xs = c.args.seekers.now.items in
    let i = c.first_asking-i.result in
    let x = c.index.result.now in
    let ended = rw c.as_slice.ensures.value at c.first_asking-i.ensures.ended in
    let first = rw c.as_slice.ensures.value at c.first_asking-i.ensures.first in
    let count : length xs ≡ c.len.result = ap length (sym c.as_slice.ensures.value) ∙ c.as_slice.ensures.len ∙ sym c.len.ensures in
    let here : i < length xs = omega (arith, count, c.if-i-len.false) in
    inr (record {
      done = asks-stuck xs i x ended here c.index.ensures (at-first xs i x here c.index.ensures first) ∙ ap not (sym c.is_looking.ensures ∙ c.if-not-is_looking.true);
      seekers = refl;
      reader = refl;
    })

pub returns-clause-turn : goal.returns-clause-turn
returns-clause-turn c =
    let xs = c.args.seekers.now.items in
    let ended = rw c.as_slice.ensures.value at c.first_asking-i.ensures.ended in
    let count : length xs ≡ c.len.result = ap length (sym c.as_slice.ensures.value) ∙ c.as_slice.ensures.len ∙ sym c.len.ensures in
    let here : c.first_asking-i.result < length xs = omega (arith, count, c.if-i-len.false) in
    inl (looked-on xs c.first_asking-i.result c.index_mut.result.now c.step.new.self ended here c.index_mut.ensures.value c.step.ensures.same c.step.ensures.fewer c.step.ensures.steps)

pub returns-clause-maps : goal.returns-clause-maps
returns-clause-maps c =
    map-set_same (λ x. x.search.map) c.args.seekers.now.items c.first_asking-i.result c.step.new.self c.index_mut.result.now
    (c.step.ensures.same ∙ ap (λ x. x.search.map) c.index_mut.ensures.value)
