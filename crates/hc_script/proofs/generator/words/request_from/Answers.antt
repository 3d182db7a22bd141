-- Another word, or a count out of range.
use Rattle.std.proofs.Common.{◌≡◌, ◌∙◌, ◌<◌, ◌^◌, true, false, sym, arith}
use Rattle.std.proofs.lemmas.Fmt.{decimal_injective}
use Rattle.hc_script.proofs.generator.words.request_from.Goals as goal
use Rattle.hc_script.proofs.generator.words.request_from.Goals.{else-eq-via-then-eq+then-count-ge-FEWEST+else-count-le-MOST, else-eq-via-then-eq+else-count-ge-FEWEST, else-eq-via-else-eq}

pub returns-else-eq-clause-none : goal.returns-else-eq-clause-none
returns-else-eq-clause-none c = λ n asked.
    let fits : c.in_ok-count.count < 2 ^ 64 = omega arith in
    let small : n < 2 ^ 64 = omega (arith, asked.few) in
    let same : c.in_ok-count.count ≡ n = decimal_injective c.in_ok-count.count n fits small (sym c.in_ok-count.ensures.written ∙ asked.count_is) in
    elim c.else-eq.branch [
      | else-eq-via-then-eq+then-count-ge-FEWEST+else-count-le-MOST w ↦ omega (arith, same, asked.few, w.if-count-le-MOST.false)
      | else-eq-via-then-eq+else-count-ge-FEWEST w ↦ omega (arith, same, asked.enough, w.if-count-ge-FEWEST.false)
      | else-eq-via-else-eq w ↦ let same_word : false ≡ true = rw asked.verb_is at w.if-eq.ensures in cc
    ]
