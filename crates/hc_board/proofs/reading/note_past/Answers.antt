use Rattle.std.proofs.Common.{rules, arith}
use Rattle.hc_board.proofs.Keeps.{notes_past}
use Rattle.hc_board.proofs.reading.note_past.Goals as goal

pub load-requires : goal.load-requires
load-requires g c = (search rules, search rules, notes_past _ _ _ g.I.Asked.index c.requires.reader (omega (arith, c.requires.asked, c.requires.past)))
