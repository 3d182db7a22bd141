-- The reads of a job, one look after another.
use Rattle.std.proofs.Common.{◌≡◌, ◌⊎◌, inl, inr, ℕ, ◌+◌, false, true≢false, List, [], ◌∷◌, ◌++◌, length, length-append, refl, sym, ap, ◌∙◌, subst}
use Rattle.hc_board.specs.Trail.{Access}
use Rattle.hc_board.specs.States.{ReaderState}
use Rattle.hc_board.specs.Looked.{reader_stays, reader_goes_on}
use Rattle.hc_layout.specs.declared.shape.Shape.{Shape}
use Rattle.hc_question.specs.Ask.{Ask, heard, LeadsTo}
use Rattle.hc_planner.specs.Jobs.{JobState, asks, IsOwn, is_done, LooksOn, Rests}
use Rattle.hc_jobs.specs.Reading.{Makes}

-- a job made so many reads, and its reader is still its own
pub record IsRun (old new : JobState) (before after : ReaderState) (made : ℕ) : Type 0 where
  pub own : IsOwn new after
  pub same : new ≡ record old { seekers = new.seekers }
  pub reads : List Access
  pub makes : Makes old new before after reads
  pub count : length reads ≡ made

leads-append : (s : Shape) (a b c : Ask) (reads more : List Access) → LeadsTo s a reads b → LeadsTo s b more c → LeadsTo s a (reads ++ more) c
unfolding LeadsTo
leads-append s a b c [] more h k = rw h k
leads-append s a b c (read ∷ reads) more h k = (h.0, leads-append s (heard s a read) b c reads more h.1 k)

leads-none : (s : Shape) (a : Ask) → LeadsTo s a [] a
unfolding LeadsTo
leads-none s a = refl

pub run-none : (job : JobState) (reader : ReaderState) → IsOwn job reader → IsRun job job reader reader 0
run-none job reader own = record {
  own = own;
  same = refl;
  reads = [];
  makes = record { looked = reader_stays reader; leads = leads-none job.shape (asks job) };
  count = refl;
}

module _ (old mid new : JobState) (before now after : ReaderState) (made : ℕ) (run : IsRun old mid before now made) where
  same-job : new ≡ record mid { seekers = new.seekers } → new ≡ record old { seekers = new.seekers }
  same-job same = same ∙ ap (λ (j : JobState). record j { seekers = new.seekers }) run.same

  same-shape : mid.shape ≡ old.shape
  same-shape = ap (λ (j : JobState). j.shape) run.same

  pub run-more : is_done (asks mid) ≡ false → IsOwn new after → (LooksOn mid new now after) ⊎ (Rests mid new now after) → new ≡ record mid { seekers = new.seekers } → IsRun old new before after (made + 1)
  run-more busy own (inl h) same = record {
    own = own;
    same = same-job same;
    reads = run.reads ++ h.read ∷ [];
    makes = record {
      looked = reader_goes_on before now after run.reads (h.read ∷ []) run.makes.looked h.looked;
      leads = leads-append old.shape (asks old) (asks mid) (asks new) run.reads (h.read ∷ []) run.makes.leads (subst (λ (s : Shape). LeadsTo s (asks mid) (h.read ∷ []) (asks new)) same-shape h.leads);
    };
    count = length-append run.reads (h.read ∷ []) ∙ ap (λ (n : ℕ). n + 1) run.count;
  }
  run-more busy own (inr h) same = absurd (true≢false (sym h.done ∙ busy))
