use Rattle.std.proofs.Common.{subst, arith}
use Rattle.std.proofs.lemmas.Int.{ints}
use Rattle.hc_value.specs.Num.{IsSafeInteger}
use Rattle.hc_value.proofs.Words.{wide_form, wide_alone}
use Rattle.hc_value.proofs.word.wide.Goals as goal

pub returns-clause-form : goal.returns-clause-form
returns-clause-form c =
    wide_form c.args.n _ (subst IsSafeInteger c.get.ensures.value c.get.ensures.range) (omega (arith, ints))

pub returns-clause-alone : goal.returns-clause-alone
returns-clause-alone c w h = wide_alone c.args.n w _ (omega (arith, ints)) h
