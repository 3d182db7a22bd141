use Rattle.std.proofs.Common.{sym, ap, ◌∙◌, not}
use Rattle.hc_planner.proofs.Asking.{asks-stuck, asks-no-more, at-first}
use Rattle.hc_planner.proofs.job.asks_nothing.Goals as goal

pub returns-in-Some : goal.returns-in-Some
returns-in-Some c =
    let h = c.in-Some.ensures.lookup in
    let xs = c.args.seekers.now in
    let i = c.first_asking-i.result in
    let x = c.in-Some.seeker.now in
    ap not c.is_looking.ensures ∙ sym (asks-stuck xs i x c.first_asking-i.ensures.ended h.3.0 h.1 (at-first xs i x h.3.0 h.1 c.first_asking-i.ensures.first))

pub returns-in-None : goal.returns-in-None
returns-in-None c = sym (asks-no-more c.args.seekers.now c.first_asking-i.result c.first_asking-i.ensures.ended c.in-None.ensures.lookup.3)
