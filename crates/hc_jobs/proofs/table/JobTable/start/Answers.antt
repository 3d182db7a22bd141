use Rattle.std.proofs.Common.{◌≡◌, ◌≤◌, ◌+◌, ℕ, List, [], ◌∷◌, ◌++◌, length, length-append, vec_capacity, sym, ap, ◌∙◌, subst, arith}
use Rattle.hc_jobs.specs.declared.table.OpenJob.{OpenJob}
use Rattle.hc_jobs.specs.Opened.{IsTable, AreOthers, AreOpen, is_open, open_at}
use Rattle.hc_jobs.proofs.Opening.{others-of, one-more, found-last}
use Rattle.hc_jobs.proofs.table.JobTable.start.Goals as goal

one-more-table : (xs : List OpenJob) (x : OpenJob) (room now : ℕ) (ys : List OpenJob) → IsTable xs room → now ≡ room → ys ≡ xs ++ x ∷ [] → length xs ≤ 63 → AreOpen (xs ++ x ∷ []) → IsTable ys now
one-more-table xs x room now ys h same e few pairs =
    let count : length ys ≡ length xs + 1 = ap length e ∙ length-append xs (x ∷ []) in
    record { few = omega (arith, count, few); room = subst (λ (n : ℕ). 64 ≤ n) (sym same) h.room; pairs = subst AreOpen (sym e) pairs }

pub invariant_of-self : goal.invariant_of-self
invariant_of-self c =
    let x : OpenJob = record { job = c.args.job; reader = c.args.reader } in
    let xs = c.self.inside.jobs.items in
    let fresh : AreOthers x.job.id xs = others-of x.job.id xs (ap (λ (jobs : List OpenJob). is_open jobs x.job.id) c.self.view_is ∙ c.requires.fresh) in
    let few : length xs ≤ 63 = let count : length xs ≡ length c.args.self.now = ap length c.self.view_is in omega (arith, count, c.requires.room) in
    one-more-table xs x (vec_capacity c.self.inside.jobs) (vec_capacity c.push_reserved.new.self) c.push_reserved.new.self.items c.self.invariant c.push_reserved.ensures.capacity c.push_reserved.ensures.items few
    (one-more xs x c.self.invariant.pairs c.requires.own fresh)

pub returns-clause-started : goal.returns-clause-started
returns-clause-started c =
    let x : OpenJob = record { job = c.args.job; reader = c.args.reader } in
    let xs = c.self.inside.jobs.items in
    let fresh : AreOthers x.job.id xs = others-of x.job.id xs (ap (λ (jobs : List OpenJob). is_open jobs x.job.id) c.self.view_is ∙ c.requires.fresh) in
    ap (λ (jobs : List OpenJob). open_at jobs x.job.id) c.push_reserved.ensures.items ∙ found-last xs x fresh
