use Rattle.hc_board.proofs.Entries.{entry-last, entry-reads}
use Rattle.std.proofs.Common.{rules, ap, sym, ◌∙◌, length}
use Rattle.hc_board.specs.Parts.{start_of}
use Rattle.hc_board.specs.States.{counted, position_of}
use Rattle.hc_board.specs.Steps.{newest}
use Rattle.hc_board.proofs.Entries.{newest-more, start-ended}
use Rattle.hc_board.proofs.Keeps.{goes_on, begins}
use Rattle.hc_board.proofs.writing.Writer.renew.Goals as goal

-- `begins` is not needed: with it a body that begins anew is refused by the contract, and not here
pub split_seat-seat-requires : goal.split_seat-seat-requires
split_seat-seat-requires c = let writer = c.self.invariant.writer in (search rules, search rules, search (rules, goes_on, begins))

pub seated-requires-clause-start : goal.seated-requires-clause-start
seated-requires-clause-start c =
    let now = c.self.view_is ∙ c.take_in-table.ensures.new in
    let seat = c.split_seat-seat.ensures.4 in
    let parts = ap (λ m. m.0.parts) seat ∙ (ap (λ w. newest w.met) now ∙ newest-more _ _) in
    let start = start-ended c.args.reader.parts c.args.reader.begin c.args.reader.last (position_of c.args.self.now) c.split_seat-seat.result.me.0.begin in
    c.start-start.ensures.start ∙ sym (ap (λ e. counted (start_of e c.split_seat-seat.result.me.0.begin)) parts ∙ ap counted start)

pub returns-clause-reader : goal.returns-clause-reader
returns-clause-reader c =
    let now = c.self.view_is ∙ c.take_in-table.ensures.new in
    let seat = c.split_seat-seat.ensures.4 in
    let board = c.split_seat-seat.ensures.3 ∙ (ap (λ w. w.board) now ∙ sym c.requires.board) in
    let parts = ap (λ m. m.0.parts) seat ∙ (ap (λ w. newest w.met) now ∙ newest-more _ _) in
    let begin = ap (λ m. m.0.begin) seat ∙ ap (λ w. length w.trail) now in
    let last = ap (λ m. m.0.last) seat in
    c.seated.ensures ∙ (λ i. record { board = board i; parts = parts i; begin = begin i; last = last i })

pub returns-clause-last : goal.returns-clause-last
returns-clause-last c = entry-last _ _ c.args.reader.parts _ _ _ c.take_in-table.ensures.fits

pub returns-clause-reads : goal.returns-clause-reads
returns-clause-reads c = entry-reads _ _ c.args.reader.parts _ _ c.take_in-table.ensures.fits
