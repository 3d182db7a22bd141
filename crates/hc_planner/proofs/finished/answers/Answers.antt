use Rattle.std.proofs.Common.{◌≡◌, [], sym, ◌∙◌, vec_len}
use Rattle.hc_planner.proofs.Asking.{told-end, nil-by}
use Rattle.hc_planner.proofs.finished.answers.Goals as goal

pub returns-clause-told : goal.returns-clause-told
returns-clause-told c = λ told passed e.
    let none : c.loop-seekers.seekers.items ≡ [] =
    nil-by c.loop-seekers.seekers.items (vec_len c.loop-seekers.seekers) (sym c.loop-seekers.seekers.ok.0) (sym c.is_empty.ensures ∙ c.loop-seekers-test.false) in
    told-end c.loop-seekers.seekers.items c.loop-seekers.cases.items c.loop-seekers.skips told passed none (c.loop-seekers.invariant.0 told passed e)
