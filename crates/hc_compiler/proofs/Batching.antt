-- A batch of reads, between two meetings of its reader at one position.
use Rattle.std.proofs.Common.{◌≡◌, ℕ, List, [], ◌∷◌, append_assoc, sym, ap, ◌∙◌, subst}
use Rattle.hc_board.specs.Fits.{ReadsFit}
use Rattle.hc_board.specs.Laws.{OnePosition, RenewKeepsReads}
use Rattle.hc_board.specs.Parts.{MetEntry}
use Rattle.hc_board.specs.States.{ReaderState, beginning, entry_of, position_of, renewed}
use Rattle.hc_planner.specs.Jobs.{JobState}
use Rattle.hc_jobs.specs.Batches.{BatchIsAPart, IsAPart}
use Rattle.hc_jobs.specs.Reading.{MakesReads}
use Rattle.hc_jobs.specs.declared.reads.Reads.{Reads}
use Rattle.hc_jobs.specs.declared.table.OpenJob.{OpenJob}
use Rattle.hc_modes.specs.Readers.{HasMet, with_entries}
use Rattle.hc_modes.specs.State.{ObjectsState}
use Rattle.hc_compiler.specs.Batches.{MakesBatch, after_batch, entry_with}
use Rattle.hc_compiler.specs.Jobs.{IsReading}

-- two readers met, one after the other
pub met-twice : {P : Type 0} (a mid b : ObjectsState P) (first second : MetEntry) → mid ≡ with_entries a (first ∷ []) → b ≡ with_entries mid (second ∷ []) → b ≡ with_entries a (first ∷ second ∷ [])
met-twice a mid b first second e f =
    f ∙ (ap (λ (s : _). with_entries s (second ∷ [])) e
    ∙ ap (λ (met : List MetEntry). record a { heap = record a.heap { desk = record a.heap.desk { met = met } } }) (append_assoc a.heap.desk.met (first ∷ []) (second ∷ [])))

-- a job reads the words of objects too after a reader was met
pub reads-still : {P : Type 0} (a b : ObjectsState P) (entries : List MetEntry) (x : OpenJob) → b ≡ with_entries a entries → IsReading a x → IsReading b x
reads-still a b entries x e h = subst (λ (s : ObjectsState _). IsReading s x) (sym e) (record { shape = h.shape; board = h.board; start = h.start; written = h.written })

reads-by : {P : Type 0} (a : ObjectsState P) (x : OpenJob) (job : JobState) (reader : ReaderState) → job ≡ record x.job { seekers = job.seekers } → reader.board ≡ x.reader.board → beginning reader ≡ beginning x.reader
    → IsReading a x → IsReading a (record { job = job; reader = reader })
reads-by a x job reader same board start h =
    let maps : job.maps ≡ x.job.maps = ap (λ (k : JobState). k.maps) same in
    record {
      shape = ap (λ (k : JobState). k.shape) same ∙ h.shape;
      board = board ∙ h.board;
      start = rw start h.start;
      written = rw (start, maps) h.written;
    }

-- the reader of a batch is of the board still
pub board-after : {P : Type 0} (part : BatchIsAPart) (n : Reads) (a mid : ObjectsState P) (x : OpenJob) (job : JobState) (reader : ReaderState) → HasMet a x.reader mid → MakesReads n x.job job (renewed x.reader (position_of a.heap.desk)) reader
    → IsReading a x → reader.board ≡ mid.heap.desk.board
board-after part n a mid x job reader met reads h =
    (part x.reader reader (position_of a.heap.desk) reads.reads reads.makes.looked).board ∙ (h.board ∙ ap (λ (s : ObjectsState _). s.heap.desk.board) (sym met))

module _ {P : Type 0} (part : BatchIsAPart) (one : OnePosition) (n : Reads) (a mid b : ObjectsState P) (x : OpenJob) (job : JobState) (reader : ReaderState)
    (met : HasMet a x.reader mid) (reads : MakesReads n x.job job (renewed x.reader (position_of a.heap.desk)) reader) (again : HasMet mid reader b) where
  pub is-part : IsAPart x.reader reader (position_of a.heap.desk) reads.reads
  is-part = part x.reader reader (position_of a.heap.desk) reads.reads reads.makes.looked

  pub batch-of : job ≡ record x.job { seekers = job.seekers } → ReadsFit a.heap.desk.board.words a.heap.desk.trail reader.begin (position_of a.heap.desk) reader.last → MakesBatch n a x reads.reads job b
  batch-of same fit = record {
    same = same;
    leads = reads.makes.leads;
    enough = reads.enough;
    words = (one a.heap.desk.board.words a.heap.desk.trail (position_of a.heap.desk) reads.reads).0
        (rw (← is-part.last) (subst (λ (p : ℕ). ReadsFit a.heap.desk.board.words a.heap.desk.trail p (position_of a.heap.desk) reader.last) is-part.begin fit));
    objects = met-twice a mid b (entry_of x.reader (position_of a.heap.desk)) (entry_with x.reader (position_of a.heap.desk) reads.reads) met
        (subst (λ (e : MetEntry). b ≡ with_entries mid (e ∷ [])) is-part.entry (subst (λ (s : ObjectsState P). b ≡ with_entries mid (entry_of reader (position_of s.heap.desk) ∷ [])) met again));
  }

  -- the reader that goes on after a batch
  pub goes-on : renewed reader (position_of a.heap.desk) ≡ after_batch x.reader (position_of a.heap.desk) reads.reads
  goes-on =
      ap (λ (e : MetEntry). record { board = reader.board; parts = e; begin = position_of a.heap.desk; last = [] }) is-part.entry
      ∙ ap (λ (board : _). record { board = board; parts = entry_with x.reader (position_of a.heap.desk) reads.reads; begin = position_of a.heap.desk; last = [] }) is-part.board

  -- the job that goes on reads the words of the objects as they are then
  pub reads-on : RenewKeepsReads → job ≡ record x.job { seekers = job.seekers } → IsReading a x → IsReading b (record { job = job; reader = renewed reader (position_of a.heap.desk) })
  reads-on keeps same h =
      reads-still mid b (entry_of reader (position_of mid.heap.desk) ∷ []) (record { job = job; reader = renewed reader (position_of a.heap.desk) }) again
      (reads-still a mid (entry_of x.reader (position_of a.heap.desk) ∷ []) (record { job = job; reader = renewed reader (position_of a.heap.desk) }) met
      (reads-by a x job (renewed reader (position_of a.heap.desk)) same is-part.board ((keeps reader (position_of a.heap.desk)).1 ∙ is-part.start) h))

  -- and so do the others
  pub others-read : (y : OpenJob) → IsReading a y → IsReading b y
  others-read y h =
      reads-still mid b (entry_of reader (position_of mid.heap.desk) ∷ []) y again
      (reads-still a mid (entry_of x.reader (position_of a.heap.desk) ∷ []) y met h)
