use Rattle.hc_board.proofs.Entries.{entry-last, entry-reads}
use Rattle.hc_board.proofs.writing.Writer.meet.Goals as goal

pub returns-clause-last : goal.returns-clause-last
returns-clause-last c = entry-last _ _ c.args.reader.parts _ _ _ c.take_in-table.ensures.fits

pub returns-clause-reads : goal.returns-clause-reads
returns-clause-reads c = entry-reads _ _ c.args.reader.parts _ _ c.take_in-table.ensures.fits
