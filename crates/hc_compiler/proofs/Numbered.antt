-- Open jobs, found by their numbers.
use Rattle.std.proofs.Common.{◌≡◌, ◌≢◌, ℕ, ◌+◌, ◌<◌, ◌≤◌, Bool, true, false, eqb, eqb-true, true≢false, Option, Some, None, is_some, List, [], ◌∷◌, ◌++◌, length, length-append, refl, sym, ap, ◌∙◌, subst, arith}
use Rattle.std.specs.Prelude.{if◌then◌else◌}
use Rattle.hc_jobs.specs.Opened.{OthersStayOpen, has_number, is_open, open_at, without}
use Rattle.hc_jobs.specs.declared.table.OpenJob.{OpenJob}
use Rattle.hc_compiler.specs.Jobs.{AreNumbered, Compiling, Opening, OthersStay, OthersStayLent, is_lent}

-- what holds of the job of a number and of all others holds of each
pub each-of : (Q : OpenJob → Type 0) (old new : List OpenJob) (j : ℕ) → OthersStay old new j → ((x : OpenJob) → open_at new j ≡ Some x → Q x)
    → ((k : ℕ) (x : OpenJob) → open_at old k ≡ Some x → Q x) → (k : ℕ) (x : OpenJob) → open_at new k ≡ Some x → Q x
each-of Q old new j others here there k x e = each-case (eqb k j) refl where
  each-case : (test : Bool) → eqb k j ≡ test → Q x
  each-case true same = here x (subst (λ (n : ℕ). open_at new n ≡ Some x) (eqb-true k j same) e)
  each-case false differ = let apart : k ≢ j = grind (arith, differ) in there k x (sym (others k apart) ∙ e)

-- a job that is open is there
pub some-open : (jobs : List OpenJob) (j : ℕ) → is_open jobs j ≡ true → (x : OpenJob) × (open_at jobs j ≡ Some x)
some-open jobs j h = some-case (open_at jobs j) refl h where
  some-case : (found : Option OpenJob) → open_at jobs j ≡ found → is_some found ≡ true → (x : OpenJob) × (open_at jobs j ≡ Some x)
  some-case (Some x) e k = (x, e)
  some-case None e k = absurd (true≢false (sym k))

module _ (started later : ℕ) (old new : List OpenJob) (lent : List Opening) (j : ℕ) (others : OthersStay old new j) (more : started ≤ later) (below : j < later) (free : is_lent lent j ≡ false) (h : AreNumbered (record { started = started; jobs = old; lent = lent })) where
  was-open : (k : ℕ) → k ≢ j → is_open new k ≡ true → is_open old k ≡ true
  was-open k apart there = sym (ap is_some (others k apart)) ∙ there

  open-after : (k : ℕ) (test : Bool) → eqb k j ≡ test → is_open new k ≡ true → k < later
  open-after k true same there = subst (λ (n : ℕ). n < later) (sym (eqb-true k j same)) below
  open-after k false differ there =
      let apart : k ≢ j = grind (arith, differ) in
      let before : k < started = h.open_below k (was-open k apart there) in
      omega (arith, before, more)

  lent-after : (k : ℕ) → is_lent lent k ≡ true → k < later
  lent-after k there = let before : k < started = h.lent_below k there in omega (arith, before, more)

  apart-after : (k : ℕ) (test : Bool) → eqb k j ≡ test → is_open new k ≡ true → is_lent lent k ≡ false
  apart-after k true same there = subst (λ (n : ℕ). is_lent lent n ≡ false) (sym (eqb-true k j same)) free
  apart-after k false differ there = let apart : k ≢ j = grind (arith, differ) in h.apart k (was-open k apart there)

  -- numbers stay below the number of jobs that were started, and no job comes to be with a caller
  pub numbered-after : AreNumbered (record { started = later; jobs = new; lent = lent })
  numbered-after = record {
    open_below = λ k there. open-after k (eqb k j) refl there;
    lent_below = lent-after;
    apart = λ k there. apart-after k (eqb k j) refl there;
  }

-- the same where the job of a number goes to a caller, or comes back
module _ (started later : ℕ) (jobs : List OpenJob) (old new : List Opening) (j : ℕ) (others : OthersStayLent old new j) (more : started ≤ later) (here : is_lent new j ≡ true → (j < later) × (is_open jobs j ≡ false)) (h : AreNumbered (record { started = started; jobs = jobs; lent = old })) where
  was-lent : (k : ℕ) → k ≢ j → is_lent new k ≡ is_lent old k
  was-lent k apart = ap is_some (others k apart)

  below-lent : (k : ℕ) (test : Bool) → eqb k j ≡ test → is_lent new k ≡ true → k < later
  below-lent k true same there =
      let is : k ≡ j = eqb-true k j same in
      subst (λ (n : ℕ). n < later) (sym is) (here (subst (λ (n : ℕ). is_lent new n ≡ true) is there)).0
  below-lent k false differ there =
      let apart : k ≢ j = grind (arith, differ) in
      let before : k < started = h.lent_below k (sym (was-lent k apart) ∙ there) in
      omega (arith, before, more)

  not-both : (now : Bool) → is_lent new j ≡ now → is_open jobs j ≡ true → now ≡ false
  not-both false e there = refl
  not-both true e there = absurd (true≢false (sym there ∙ (here e).1))

  apart-lent : (k : ℕ) (test : Bool) → eqb k j ≡ test → is_open jobs k ≡ true → is_lent new k ≡ false
  apart-lent k true same there =
      let is : k ≡ j = eqb-true k j same in
      subst (λ (n : ℕ). is_lent new n ≡ false) (sym is) (not-both (is_lent new j) refl (subst (λ (n : ℕ). is_open jobs n ≡ true) is there))
  apart-lent k false differ there = let apart : k ≢ j = grind (arith, differ) in was-lent k apart ∙ h.apart k there

  pub numbered-lent : AreNumbered (record { started = later; jobs = jobs; lent = new })
  numbered-lent = record {
    open_below = λ k there. let before : k < started = h.open_below k there in omega (arith, before, more);
    lent_below = λ k there. below-lent k (eqb k j) refl there;
    apart = λ k there. apart-lent k (eqb k j) refl there;
  }

-- no job has the next number
pub next-is-free : (c : Compiling) → AreNumbered c → is_open c.jobs c.started ≡ false
next-is-free c h = free-case (is_open c.jobs c.started) refl where
  free-case : (test : Bool) → is_open c.jobs c.started ≡ test → test ≡ false
  free-case false e = refl
  free-case true e = let below : c.started < c.started = h.open_below c.started e in absurd (omega (arith, below))

pub next-is-kept : (c : Compiling) → AreNumbered c → is_lent c.lent c.started ≡ false
next-is-kept c h = free-case (is_lent c.lent c.started) refl where
  free-case : (test : Bool) → is_lent c.lent c.started ≡ test → test ≡ false
  free-case false e = refl
  free-case true e = let below : c.started < c.started = h.lent_below c.started e in absurd (omega (arith, below))

module _ (j : ℕ) where
  count-case : (x : OpenJob) (xs : List OpenJob) (test : Bool) → (is_some (open_at xs j) ≡ true → length (without j xs) + 1 ≡ length xs)
      → is_some (if test then Some x else open_at xs j) ≡ true → length (if test then xs else x ∷ without j xs) + 1 ≡ length (x ∷ xs)
  count-case x xs true rest h = omega arith
  count-case x xs false rest h = let less : length (without j xs) + 1 ≡ length xs = rest h in omega (arith, less)

  -- one that is taken out is one job less
  pub count-without : (jobs : List OpenJob) → is_open jobs j ≡ true → length (without j jobs) + 1 ≡ length jobs
  count-without [] h = absurd (true≢false (sym h))
  count-without (x ∷ xs) h = count-case x xs (has_number j x) (count-without xs) h

-- one that is put in is one job more
pub count-with : (jobs : List OpenJob) (x : OpenJob) → length (jobs ++ x ∷ []) ≡ length jobs + 1
count-with jobs x = length-append jobs (x ∷ [])

module _ (law : OthersStayOpen) (jobs : List OpenJob) (x y : OpenJob) (j : ℕ) where
  -- the others stay where one is taken out, where one is put in, and where one is taken out and put in again
  pub others-taken : OthersStay jobs (without j jobs) j
  others-taken other differ = (law jobs x j other differ).0

  pub others-put : x.job.id ≡ j → OthersStay jobs (jobs ++ x ∷ []) j
  others-put is other differ = (law jobs x j other differ).1 is

  pub others-again : y.job.id ≡ j → OthersStay jobs (without j jobs ++ y ∷ []) j
  others-again is other differ = (law (without j jobs) y j other differ).1 is ∙ others-taken other differ
