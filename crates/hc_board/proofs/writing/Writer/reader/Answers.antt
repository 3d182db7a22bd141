use Rattle.std.proofs.Common.{rules, ap, sym, ◌∙◌}
use Rattle.hc_board.specs.Parts.{start_of}
use Rattle.hc_board.specs.States.{counted}
use Rattle.hc_board.proofs.Keeps.{begins}
use Rattle.hc_board.proofs.writing.Writer.reader.Goals as goal

pub split_seat-seat-requires : goal.split_seat-seat-requires
split_seat-seat-requires c = (search rules, search rules, begins _ _ c.self.invariant.writer)

pub seated-requires-clause-start : goal.seated-requires-clause-start
unfolding start_of
seated-requires-clause-start c =
    c.self.invariant.writes_is ∙ sym (ap (λ m. counted (start_of m.0.parts m.0.begin)) c.split_seat-seat.ensures.4)
