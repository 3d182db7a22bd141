use Rattle.std.proofs.Common.{⊎_elim}
use Rattle.hc_question.specs.Told.{IsTold, TellsNothing}
use Rattle.hc_answers.proofs.laws.reads_tell.Goals as goal

pub returns : goal.returns
returns c = record {
  law = λ s stores from upto site what maps mega reads outcome begins fit told.
      ⊎_elim (λ (h : IsTold s site what maps mega reads outcome). h)
      (λ (h : TellsNothing s what maps mega reads). absurd (c.no_job_stops.ensures.law s stores from upto what maps mega reads begins fit h)) told;
}
