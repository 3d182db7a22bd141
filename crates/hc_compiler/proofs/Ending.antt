-- A job that ends.
use Rattle.std.proofs.Common.{◌≡◌, ◌⊎◌, ℕ, List, [], ◌∷◌, ◌++◌, append-nil, refl, sym, ◌∙◌, subst}
use Rattle.hc_board.specs.Fits.{ReadsFit}
use Rattle.hc_board.specs.Laws.{RenewKeepsReads}
use Rattle.hc_board.specs.Parts.{EntryFits, MetEntry, Part, reads_of, start_of}
use Rattle.hc_board.specs.States.{ReaderState, beginning, entry_of, position_of, reads_made}
use Rattle.hc_board.specs.Steps.{newest}
use Rattle.hc_heap.specs.Decode.{typed}
use Rattle.hc_heap.specs.Kept.{at}
use Rattle.hc_heap.specs.Lawful.{Lawful}
use Rattle.hc_heap.specs.States.{IsDesk, IsHeap}
use Rattle.hc_answers.specs.Laws.{AreWritten, ReadsTell}
use Rattle.hc_jobs.specs.declared.table.OpenJob.{OpenJob}
use Rattle.hc_modes.specs.State.{ObjectsState}
use Rattle.hc_question.specs.Told.{IsTold, TellsNothing}
use Rattle.hc_question.specs.declared.outcome.Outcome.{Outcome}
use Rattle.hc_compiler.specs.Ends.{EndsWith}
use Rattle.hc_compiler.specs.Jobs.{IsReading, opening_of}

pub newest-last : (met : List MetEntry) (e : MetEntry) → newest (met ++ e ∷ []) ≡ e
unfolding newest
newest-last [] e = refl
newest-last (x ∷ []) e = refl
newest-last (x ∷ y ∷ met) e = newest-last (y ∷ met) e

start-ended : (parts : MetEntry) (last : Part) (one other : ℕ) → start_of (parts ++ last ∷ []) one ≡ start_of (parts ++ last ∷ []) other
unfolding start_of
start-ended [] last one other = refl
start-ended (part ∷ parts) last one other = refl

-- the parts of a reader that is met have its reads, and begin where it began
module _ (law : RenewKeepsReads) (r : ReaderState) (position : ℕ) where
  pub reads-kept : reads_of (entry_of r position) ≡ reads_made r
  reads-kept = sym (append-nil (reads_of (entry_of r position))) ∙ (law r position).0

  pub start-kept : (begin : ℕ) → start_of (entry_of r position) begin ≡ beginning r
  start-kept begin = start-ended r.parts (record { begin = r.begin; reads = r.last; end = position }) begin position ∙ (law r position).1

-- the reads of a job that reads the words of objects tell its outcome
module _ {P : Type 0} (a : ObjectsState P) (x : OpenJob) (tell : ReadsTell) (heap : IsHeap a.heap.view) (desk : IsDesk a.heap.view a.heap.desk) (reading : IsReading a x) where
  lawful : Lawful a.heap.view.shape (typed a.heap.view.shape a.heap.desk.trail)
  lawful = subst (Lawful a.heap.view.shape) desk.trail heap.lawful

  written : AreWritten (at (beginning x.reader) (typed a.heap.view.shape a.heap.desk.trail)) x.job.maps
  written = subst (λ (t : _). AreWritten (at (beginning x.reader) t) x.job.maps) desk.trail reading.written

  pub told-of : (reader : ReaderState) (outcome : Outcome) → beginning reader ≡ beginning x.reader
      → ReadsFit a.heap.desk.board.words a.heap.desk.trail (beginning reader) (position_of a.heap.desk) (reads_made reader)
      → IsTold x.job.shape x.job.site x.job.what x.job.maps x.job.mega (reads_made reader) outcome ⊎ TellsNothing x.job.shape x.job.what x.job.maps x.job.mega (reads_made reader)
      → IsTold a.heap.view.shape x.job.site x.job.what x.job.maps x.job.mega (reads_made reader) outcome
  told-of reader outcome start fit told =
      tell a.heap.view.shape a.heap.desk.trail (beginning x.reader) (position_of a.heap.desk) x.job.site x.job.what x.job.maps x.job.mega (reads_made reader) outcome
      (record { lawful = lawful; written = written })
      (subst (λ (w : ℕ). ReadsFit w a.heap.desk.trail (beginning x.reader) (position_of a.heap.desk) (reads_made reader)) desk.width
      (subst (λ (p : ℕ). ReadsFit a.heap.desk.board.words a.heap.desk.trail p (position_of a.heap.desk) (reads_made reader)) start fit))
      (subst (λ (s : _). IsTold s x.job.site x.job.what x.job.maps x.job.mega (reads_made reader) outcome ⊎ TellsNothing s x.job.what x.job.maps x.job.mega (reads_made reader)) reading.shape told)

  pub ends-with : RenewKeepsReads → (reader : ReaderState) (outcome : Outcome) → beginning reader ≡ beginning x.reader
      → ReadsFit a.heap.desk.board.words a.heap.desk.trail (beginning reader) (position_of a.heap.desk) (reads_made reader)
      → EntryFits a.heap.desk.board.words a.heap.desk.trail (entry_of reader (position_of a.heap.desk))
      → IsTold x.job.shape x.job.site x.job.what x.job.maps x.job.mega (reads_made reader) outcome ⊎ TellsNothing x.job.shape x.job.what x.job.maps x.job.mega (reads_made reader)
      → EndsWith a (opening_of x) (entry_of reader (position_of a.heap.desk)) outcome
  ends-with law reader outcome start fit fits told = record {
    start = λ begin. start-kept law reader (position_of a.heap.desk) begin ∙ start;
    fits = fits;
    told = rw (reads-kept law reader (position_of a.heap.desk)) (told-of reader outcome start fit told);
  }
