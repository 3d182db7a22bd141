use Rattle.hc_question.proofs.Positions.{position-answers}
use Rattle.hc_question.proofs.laws.one_position_answers.Goals as goal

pub returns : goal.returns
returns c = record { law = position-answers }
