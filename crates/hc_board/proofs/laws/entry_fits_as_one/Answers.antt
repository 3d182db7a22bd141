use Rattle.hc_board.proofs.Entries.{entry-as-one}
use Rattle.hc_board.proofs.laws.entry_fits_as_one.Goals as goal

pub returns : goal.returns
returns c = record { law = entry-as-one }
