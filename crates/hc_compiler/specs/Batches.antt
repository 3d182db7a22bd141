-- Reads that a job makes within one command.
use Rattle.std.specs.Prelude.{◌≡◌, ℕ, List, [], ◌∷◌, ◌++◌, length}
use Rattle.hc_board.specs.Fits.{AreOf}
use Rattle.hc_board.specs.Parts.{MetEntry, Part}
use Rattle.hc_board.specs.States.{ReaderState, entry_of, position_of}
use Rattle.hc_board.specs.Trail.{Access}
use Rattle.hc_question.specs.Ask.{LeadsTo}
use Rattle.hc_planner.specs.Jobs.{JobState, asks, is_done}
use Rattle.hc_jobs.specs.Reading.{IsEnough}
use Rattle.hc_jobs.specs.declared.reads.Reads.{Reads}
use Rattle.hc_jobs.specs.declared.table.OpenJob.{OpenJob}
use Rattle.hc_modes.specs.Readers.{with_entries}
use Rattle.hc_modes.specs.State.{ObjectsState}

-- a part that begins and ends at one position
abbrev pub part_at : ℕ → List Access → Part
part_at position made = record { begin = position; reads = made; end = position }

-- the parts of a reader, the last ended at this position, and then such a part
abbrev pub entry_with : ReaderState → ℕ → List Access → MetEntry
entry_with r position made = entry_of r position ++ part_at position made ∷ []

-- the reader with such a part more, which goes on from there
abbrev pub after_batch : ReaderState → ℕ → List Access → ReaderState
after_batch r position made = record { board = r.board; parts = entry_with r position made; begin = position; last = [] }

-- a job made so many reads, or all that were left, each the look that it asked for, and each with the word of the position at
-- which they all were made. They are a part of their own, which begins and ends there: the reader was met before them and
-- after them, and nothing else was done to the objects
pub record MakesBatch {P : Type 0} (n : Reads) (a : ObjectsState P) (x : OpenJob) (made : List Access) (job : JobState) (b : ObjectsState P) : Type 0 where
  pub same : job ≡ record x.job { seekers = job.seekers }
  pub leads : LeadsTo x.job.shape (asks x.job) made (asks job)
  pub enough : IsEnough n (length made) (is_done (asks job))
  pub words : AreOf a.heap.desk.board.words a.heap.desk.trail (position_of a.heap.desk) made
  pub objects : b ≡ with_entries a (entry_of x.reader (position_of a.heap.desk) ∷ entry_with x.reader (position_of a.heap.desk) made ∷ [])
