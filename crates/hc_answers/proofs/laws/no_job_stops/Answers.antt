use Rattle.hc_layout.specs.Shape.{words_of}
use Rattle.hc_question.specs.Question.{question}
use Rattle.hc_answers.proofs.laws.no_job_stops.Goals as goal

pub returns : goal.returns
returns c = record {
  law = λ s stores from upto what maps mega reads begins fit.
      c.fits_never_stop.ensures.law s (words_of s) stores from upto reads (question s what maps mega) (c.questions_are_safe.ensures.law s stores from upto what maps mega begins) fit;
}
