-- Jobs by their numbers.
use Rattle.std.proofs.Common.{◌≡◌, ◌≢◌, ℕ, ◌+◌, Bool, true, false, ◌&&◌, ◌||◌, eqb, eqb-true, Option, Some, None, List, [], ◌∷◌, ◌++◌, length, length-append, map, refl, sym, ap, ◌∙◌, subst, arith}
use Rattle.std.specs.Prelude.{IsSomeAnd, if◌then◌else◌, is_some, not}
use Rattle.std.proofs.lemmas.List.{length-map}
use Rattle.hc_compiler.specs.Jobs.{Compiling, Opening, OthersStay, is_lent, lent_at, open_count}
use Rattle.hc_jobs.specs.Opened.{is_open, open_at}
use Rattle.hc_jobs.specs.declared.reads.Reads.{Reads}
use Rattle.hc_jobs.specs.declared.table.OpenJob.{OpenJob}
use Rattle.hc_modes.specs.State.{ObjectsState}
use Rattle.hc_question.specs.declared.outcome.Outcome.{Outcome}
use Rattle.hc_sites.specs.declared.state.SiteState.{SiteState}
use Rattle.hc_session.specs.Jobs.{HasFinished, HasStarted, HasStepped}
use Rattle.hc_session.specs.Plain.{AreSameJobs, IsOneFinished, IsOneStarted, is_opened}
use Rattle.hc_session.specs.Standing.{jobs_of}

-- Bools

or-none : (b : Bool) → (b || false) ≡ b
or-none true = refl
or-none false = refl

or-on : (a b c : Bool) → ((a || b) || c) ≡ (a || (b || c))
or-on true b c = refl
or-on false b c = refl

-- The open jobs

reads-here : (jobs : List OpenJob) (j : ℕ) → is_opened (map (λ (x : OpenJob). x.job.id) jobs) j ≡ is_open jobs j
reads-here [] j = refl
reads-here (x ∷ xs) j = by (eqb x.job.id j) (is_opened (map (λ (y : OpenJob). y.job.id) xs) j) (open_at xs j) (reads-here xs j)
  where
    by : (b rest : Bool) (found : Option OpenJob) → rest ≡ is_some found → (b || rest) ≡ is_some (if b then Some x else found)
    by true rest found e = refl
    by false rest found e = e

had-by-callers : (lent : List Opening) (j : ℕ) → is_opened (map (λ (x : Opening). x.job) lent) j ≡ is_lent lent j
had-by-callers [] j = refl
had-by-callers (x ∷ xs) j = by (eqb x.job j) (is_opened (map (λ (y : Opening). y.job) xs) j) (lent_at xs j) (had-by-callers xs j)
  where
    by : (b rest : Bool) (found : Option Opening) → rest ≡ is_some found → (b || rest) ≡ is_some (if b then Some x else found)
    by true rest found e = refl
    by false rest found e = e

opened-both : (xs ys : List ℕ) (j : ℕ) → is_opened (xs ++ ys) j ≡ (is_opened xs j || is_opened ys j)
opened-both [] ys j = refl
opened-both (x ∷ xs) ys j = ap (λ (b : Bool). eqb x j || b) (opened-both xs ys j) ∙ sym (or-on (eqb x j) (is_opened xs j) (is_opened ys j))

opened-in : (c : Compiling) (j : ℕ) → is_opened (jobs_of c).opened j ≡ (is_open c.jobs j || is_lent c.lent j)
opened-in c j =
    opened-both (map (λ (x : OpenJob). x.job.id) c.jobs) (map (λ (x : Opening). x.job) c.lent) j
    ∙ (ap (λ (b : Bool). b || is_opened (map (λ (x : Opening). x.job) c.lent) j) (reads-here c.jobs j)
    ∙ ap (λ (b : Bool). is_open c.jobs j || b) (had-by-callers c.lent j))

-- a job that no caller has is open where it reads here
pub opened-here : (c : Compiling) (j : ℕ) → is_lent c.lent j ≡ false → is_opened (jobs_of c).opened j ≡ is_open c.jobs j
opened-here c j own = opened-in c j ∙ (ap (λ (b : Bool). is_open c.jobs j || b) own ∙ or-none (is_open c.jobs j))

pub opened-count : (c : Compiling) → length (jobs_of c).opened ≡ open_count c
opened-count c =
    length-append (map (λ (x : OpenJob). x.job.id) c.jobs) (map (λ (x : Opening). x.job) c.lent)
    ∙ (ap (λ (n : ℕ). n + length (map (λ (x : Opening). x.job) c.lent)) (length-map c.jobs (λ (x : OpenJob). x.job.id))
    ∙ ap (λ (n : ℕ). length c.jobs + n) (length-map c.lent (λ (x : Opening). x.job)))

-- After a command

-- callers have the jobs that they had
opened-now : (c now : Compiling) (j : ℕ) (b : Bool) → now.lent ≡ c.lent → is_open now.jobs j ≡ b → is_opened (jobs_of now).opened j ≡ (b || is_lent c.lent j)
opened-now c now j b lent e = opened-in now j ∙ (ap (λ (x : Bool). x || is_lent now.lent j) e ∙ ap (λ (xs : List Opening). b || is_lent xs j) lent)

some-then : (Q : OpenJob → Type 0) (x : Option OpenJob) → IsSomeAnd x Q → is_some x ≡ true
some-then Q (Some v) h = refl
some-then Q None h = absurd h

count-now : (c now : Compiling) → now.lent ≡ c.lent → length (jobs_of now).opened ≡ length now.jobs + length c.lent
count-now c now lent = opened-count now ∙ ap (λ (xs : List Opening). length now.jobs + length xs) lent

other-open : (old new : List OpenJob) (k j : ℕ) → OthersStay old new k → eqb k j ≡ false → is_open new j ≡ is_open old j
other-open old new k j others differ = let apart : j ≢ k = grind (arith, differ) in ap (λ (x : Option OpenJob). is_some x) (others j apart)

pub same-jobs : (c now : Compiling) → now ≡ c → AreSameJobs (jobs_of c) (jobs_of now)
same-jobs c now same = subst (λ (x : Compiling). AreSameJobs (jobs_of c) (jobs_of x)) (sym same) (record { started = refl; opened = λ j. refl; count = refl })

module _ {P : Type 0} (a : ObjectsState P) (c : Compiling) (b : ObjectsState P) (now : Compiling) where
  pub started-jobs : (sites : List SiteState) (s : ℕ) → HasStarted a sites c s b now → IsOneStarted (jobs_of c) (jobs_of now)
  started-jobs sites s h = record {
    started = h.started;
    opened = λ j. by j (eqb c.started j) refl;
    count = omega (arith, count-now c now h.lent, opened-count c, h.starts.count);
  }
    where
      by : (j : ℕ) (test : Bool) → eqb c.started j ≡ test → is_opened (jobs_of now).opened j ≡ (test || is_opened (jobs_of c).opened j)
      by j true same =
          opened-now c now j true h.lent (subst (λ (n : ℕ). is_open now.jobs n ≡ true) (eqb-true c.started j same) (some-then _ (open_at now.jobs c.started) h.starts.now))
      by j false differ =
          opened-now c now j (is_open c.jobs j) h.lent (other-open c.jobs now.jobs c.started j h.starts.others differ) ∙ sym (opened-in c j)

  pub stepped-jobs : (n : Reads) (k : ℕ) → HasStepped n a c k b now → AreSameJobs (jobs_of c) (jobs_of now)
  stepped-jobs n k h = record {
    started = h.started;
    opened = λ j. by j (eqb k j) refl;
    count = omega (arith, count-now c now h.lent, opened-count c, h.steps.count);
  }
    where
      by : (j : ℕ) (test : Bool) → eqb k j ≡ test → is_opened (jobs_of now).opened j ≡ is_opened (jobs_of c).opened j
      by j true same =
          opened-now c now j (is_open c.jobs j) h.lent
          (subst (λ (n : ℕ). is_open now.jobs n ≡ is_open c.jobs n) (eqb-true k j same) (ap (λ (x : Option OpenJob). is_some x) h.steps.now ∙ sym (ap (λ (x : Option OpenJob). is_some x) h.steps.was)))
          ∙ sym (opened-in c j)
      by j false differ =
          opened-now c now j (is_open c.jobs j) h.lent (other-open c.jobs now.jobs k j h.steps.others differ) ∙ sym (opened-in c j)

  pub finished-jobs : (k : ℕ) (outcome : Outcome) → is_lent c.lent k ≡ false → HasFinished a c k outcome b now → IsOneFinished k (jobs_of c) (jobs_of now)
  finished-jobs k outcome own h = record {
    started = h.started;
    opened = λ j. by j (eqb k j) refl;
    count = omega (arith, count-now c now h.lent, opened-count c, h.finishes.count);
  }
    where
      by : (j : ℕ) (test : Bool) → eqb k j ≡ test → is_opened (jobs_of now).opened j ≡ (not test && is_opened (jobs_of c).opened j)
      by j true same =
          opened-now c now j false h.lent (subst (λ (n : ℕ). is_open now.jobs n ≡ false) (eqb-true k j same) h.finishes.gone)
          ∙ subst (λ (n : ℕ). is_lent c.lent n ≡ false) (eqb-true k j same) own
      by j false differ =
          opened-now c now j (is_open c.jobs j) h.lent (other-open c.jobs now.jobs k j h.finishes.others differ) ∙ sym (opened-in c j)
