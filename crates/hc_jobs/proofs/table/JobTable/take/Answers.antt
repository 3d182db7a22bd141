use Rattle.std.proofs.Common.{◌≡◌, ◌<◌, ◌≤◌, ◌+◌, ℕ, Some, IfSome, List, ◌++◌, length, take, drop, get_or, slice_get, vec_len, vec_capacity, true, sym, ap, ◌∙◌, subst, arith}
use Rattle.std.proofs.lemmas.Option.{slice_get-get_or}
use Rattle.std.proofs.lemmas.List.Edits.{length-remove}
use Rattle.hc_jobs.specs.declared.table.OpenJob.{OpenJob}
use Rattle.hc_jobs.specs.Opened.{IsTable, AreOthers, AreOpen, has_number, is_open, open_at, without}
use Rattle.hc_jobs.proofs.Opening.{found-at, without-at, still-open, not-there, own-at, place-there}
use Rattle.hc_jobs.proofs.table.JobTable.take.Goals as goal

-- the job at the place that was found
record IsFound (number i : ℕ) (xs : List OpenJob) : Type 0 where
  others : AreOthers number (take i xs)
  first : IfSome (slice_get xs i) (λ y. has_number number y ≡ true)
  there : i < length xs

found : (number i : ℕ) (items xs : List OpenJob) → items ≡ xs → is_open xs number ≡ true → AreOthers number (take i items) → IfSome (slice_get items i) (λ y. has_number number y ≡ true) → IsFound number i xs
found number i items xs same here others first =
    let o = subst (λ (ys : List OpenJob). AreOthers number (take i ys)) same others in
    let f = subst (λ (ys : List OpenJob). IfSome (slice_get ys i) (λ y. has_number number y ≡ true)) same first in
    record { others = o; first = f; there = place-there number xs i o f here }

-- what is taken out, and what is left
record IsTaken (number : ℕ) (xs : List OpenJob) (x : OpenJob) (rest : List OpenJob) : Type 0 where
  pair : open_at xs number ≡ Some x
  rest_is : rest ≡ without number xs

taken : (number i : ℕ) (xs : List OpenJob) (x : OpenJob) (rest : List OpenJob) → IsFound number i xs → x ≡ get_or xs i x → rest ≡ take i xs ++ drop (i + 1) xs → IsTaken number xs x rest
taken number i xs x rest h value left = record {
  pair = found-at number xs i h.others h.first ∙ (slice_get-get_or xs i x h.there ∙ ap Some (sym value));
  rest_is = left ∙ sym (without-at number xs i h.others h.there h.first);
}

fewer-table : (number : ℕ) (xs rest : List OpenJob) (room now : ℕ) → IsTable xs room → now ≡ room → length rest + 1 ≡ length xs → rest ≡ without number xs → IsTable rest now
fewer-table number xs rest room now h same count e = record {
  few = let most = h.few in omega (arith, count, most);
  room = subst (λ (n : ℕ). 64 ≤ n) (sym same) h.room;
  pairs = subst AreOpen (sym e) (still-open number xs h.pairs);
}

pub remove-job-requires : goal.remove-job-requires
remove-job-requires c =
    let f = found c.args.number c.place_of-place.result c.as_slice.result.now c.args.self.now (c.as_slice.ensures.value ∙ c.self.view_is) c.requires.there c.place_of-place.ensures.others c.place_of-place.ensures.first in
    let there = f.there in
    let count : length c.args.self.now ≡ vec_len c.self.inside.jobs = ap length (sym c.self.view_is) ∙ (ap length (sym c.as_slice.ensures.value) ∙ c.as_slice.ensures.len) in
    omega (arith, there, count)

here : (c : goal.After-remove-job) → IsTaken c.args.number c.args.self.now c.remove-job.result c.remove-job.new.self.items
here c =
    let f = found c.args.number c.place_of-place.result c.as_slice.result.now c.args.self.now (c.as_slice.ensures.value ∙ c.self.view_is) c.requires.there c.place_of-place.ensures.others c.place_of-place.ensures.first in
    let i = c.place_of-place.result in
    let x = c.remove-job.result in
    taken c.args.number i c.args.self.now x c.remove-job.new.self.items f
    (subst (λ (xs : List OpenJob). x ≡ get_or xs i x) c.self.view_is c.remove-job.ensures.value)
    (subst (λ (xs : List OpenJob). c.remove-job.new.self.items ≡ take i xs ++ drop (i + 1) xs) c.self.view_is c.remove-job.ensures.by_index.2)

open-jobs : (c : goal.After-remove-job) → AreOpen c.args.self.now
open-jobs c = subst AreOpen c.self.view_is c.self.invariant.pairs

one-fewer : (c : goal.After-remove-job) → length c.remove-job.new.self.items + 1 ≡ length c.self.inside.jobs.items
one-fewer c =
    let f = found c.args.number c.place_of-place.result c.as_slice.result.now c.self.inside.jobs.items c.as_slice.ensures.value (subst (λ (xs : List OpenJob). is_open xs c.args.number ≡ true) (sym c.self.view_is) c.requires.there)
    c.place_of-place.ensures.others c.place_of-place.ensures.first in
    ap (λ (xs : List OpenJob). length xs + 1) c.remove-job.ensures.items ∙ length-remove c.self.inside.jobs.items c.place_of-place.result f.there

pub returns-clause-room : goal.returns-clause-room
returns-clause-room c =
    let count = one-fewer c in
    let few : length c.self.inside.jobs.items ≤ 64 = c.self.invariant.few in
    omega (arith, count, few)

pub invariant_of-self : goal.invariant_of-self
invariant_of-self c =
    let count : length c.remove-job.new.self.items + 1 ≡ length c.self.inside.jobs.items = one-fewer c in
    fewer-table c.args.number c.self.inside.jobs.items c.remove-job.new.self.items (vec_capacity c.self.inside.jobs) (vec_capacity c.remove-job.new.self) c.self.invariant c.remove-job.ensures.capacity count
    (subst (λ (xs : List OpenJob). c.remove-job.new.self.items ≡ without c.args.number xs) (sym c.self.view_is) (here c).rest_is)

pub returns-clause-number : goal.returns-clause-number
returns-clause-number c = (own-at c.args.number c.args.self.now c.remove-job.result (open-jobs c) (here c).pair).1

pub returns-clause-own : goal.returns-clause-own
returns-clause-own c = (own-at c.args.number c.args.self.now c.remove-job.result (open-jobs c) (here c).pair).0

pub returns-clause-pair : goal.returns-clause-pair
returns-clause-pair c = (here c).pair

pub returns-clause-rest : goal.returns-clause-rest
returns-clause-rest c = (here c).rest_is

pub returns-clause-gone : goal.returns-clause-gone
returns-clause-gone c = ap (λ (xs : List OpenJob). is_open xs c.args.number) (here c).rest_is ∙ not-there c.args.number c.args.self.now (open-jobs c)
