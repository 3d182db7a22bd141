use Rattle.std.proofs.Common.{rules}
use Rattle.hc_board.proofs.Keeps.{notes}
use Rattle.hc_board.proofs.reading.ReaderLook.look.Goals as goal

pub load-requires : goal.load-requires
load-requires c = (search rules, search rules, notes _ _ _ _ c.self.invariant.reader)
