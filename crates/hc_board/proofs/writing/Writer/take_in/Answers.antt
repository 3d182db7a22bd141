use Rattle.std.proofs.Common.{rules, ap, sym, ◌∙◌, subst, ◌≡◌, ℕ, length}
use Rattle.atomic_table.specs.Table.{Me}
use Rattle.hc_board.specs.Parts.{EntryFits, MetFit, ended}
use Rattle.hc_board.specs.declared.rule.View.{View}
use Rattle.hc_board.proofs.Entries.{met-last}
use Rattle.hc_board.proofs.Keeps.{meets, checks}
use Rattle.hc_board.proofs.writing.Writer.take_in.Goals as goal

pub join_seat-requires : goal.join_seat-requires
join_seat-requires c = (search rules, search rules, search rules, search rules, meets _ _ _ _ c.self.invariant.writer c.reader.invariant.reader)

pub load-self-inside-requires : goal.load-self-inside-requires
load-self-inside-requires c = (search rules, search rules, checks _ _ _ (search rules))

pub returns-clause-fits : goal.returns-clause-fits
returns-clause-fits c =
    let v = c.self.inside.seat.me.0 in
    let r = c.reader.inside.seat.me.0 in
    let all = subst (λ (m : Me (Unit {0}) View). MetFit m.0.width m.0.trail m.0.met) c.join_seat.ensures.2 c.load-self-inside.ensures.2.1 in
    let entry = met-last v.width v.trail v.met (ended r.parts r.begin r.last (length v.trail)) all in
    let width : v.width ≡ c.self.inside.seat.table_id.words = c.self.invariant.width ∙ sym (ap (λ t. t.words) c.self.invariant.table) in
    rw (← c.self.view_is, ← c.reader.view_is) (subst (λ (n : ℕ). EntryFits n v.trail (ended r.parts r.begin r.last (length v.trail))) width entry)
