use Rattle.hc_board.proofs.Entries.{entry-longer}
use Rattle.hc_board.proofs.laws.longer_keeps_entries.Goals as goal

pub returns : goal.returns
returns c = record { law = entry-longer }
