use Rattle.hc_board.proofs.Entries.{look-reads}
use Rattle.hc_board.proofs.laws.look_adds_reads.Goals as goal

pub returns : goal.returns
returns c = record { law = look-reads }
