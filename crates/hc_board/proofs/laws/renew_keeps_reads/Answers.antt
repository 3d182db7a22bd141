use Rattle.hc_board.proofs.Entries.{renew-reads}
use Rattle.hc_board.proofs.laws.renew_keeps_reads.Goals as goal

pub returns : goal.returns
returns c = record { law = renew-reads }
