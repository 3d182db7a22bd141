use Rattle.std.proofs.Common.{◌≤◌, rules, arith, ap, sym}
use Rattle.hc_board.proofs.Trails.{image-past}
use Rattle.hc_board.proofs.Keeps.{loads}
use Rattle.hc_board.proofs.writing.Writer.load.Goals as goal

pub load-requires : goal.load-requires
load-requires c = (search rules, search rules, loads _ _ _ _ c.self.invariant.writer)

pub load-requires-else-index-self : goal.load-requires-else-index-self
load-requires-else-index-self c = (search rules, search rules, loads _ _ _ _ c.self.invariant.writer)

pub returns-else-index-self-clause-value : goal.returns-else-index-self-clause-value
returns-else-index-self-clause-value c =
    let board = ap (λ t. t.words) c.self.invariant.table in
    let past : c.self.inside.seat.table_id.words ≤ c.args.index = omega arith in
    rw (← c.self.view_is) (sym (image-past _ _ _ past))
