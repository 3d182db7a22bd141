-- Jobs that read the words of objects, while more is stored.
use Rattle.std.proofs.Common.{◌≡◌, ℕ, ◌+◌, ◌-◌, ◌≤◌, ◌++◌, length, length-append, sym, ap, ◌∙◌, arith}
use Rattle.std.proofs.Math.Seq.{drop-append-add}
use Rattle.hc_board.specs.States.{WriterState, beginning}
use Rattle.hc_heap.specs.Kept.{GoesOn, StoresAreWrites, at}
use Rattle.hc_heap.specs.States.{Goes, IsDesk, IsHeap, View}
use Rattle.hc_heap.specs.Writes.{Trail}
use Rattle.hc_jobs.specs.declared.table.OpenJob.{OpenJob}
use Rattle.hc_modes.specs.State.{ObjectsState}
use Rattle.hc_compiler.specs.Jobs.{IsReading}
use Rattle.hc_compiler.specs.Laws.{JobsReadOn}

-- what the first writes are doesn't change
pub at-longer : (more t : Trail) (position : ℕ) → position ≤ length t → at position (more ++ t) ≡ at position t
at-longer more t position h =
    let count : length (more ++ t) - position ≡ length more + (length t - position) = omega (arith, length-append more t, h) in
    rw count (drop-append-add more t (length t - position))

module _ {P : Type 0} (go : (v w : View) (d e : WriterState) → IsDesk v d → IsDesk w e → IsHeap w → w.shape ≡ v.shape → Goes d e → GoesOn w.shape v.trail w.trail) (writes : StoresAreWrites) where
  reads-on : (a b : ObjectsState P) (x : OpenJob) → IsDesk a.heap.view a.heap.desk → IsDesk b.heap.view b.heap.desk → IsHeap b.heap.view
      → b.heap.view.shape ≡ a.heap.view.shape → Goes a.heap.desk b.heap.desk → IsReading a x → IsReading b x
  reads-on a b x was now heap shape goes h =
      let on = go a.heap.view b.heap.view a.heap.desk b.heap.desk was now heap shape goes in
      let count : length a.heap.view.trail ≡ length a.heap.desk.trail = ap length was.trail ∙ writes a.heap.view.shape a.heap.desk.trail in
      let longer : length b.heap.desk.trail ≡ length a.heap.desk.trail + length goes.trail.more = ap length goes.trail.is ∙ length-append a.heap.desk.trail goes.trail.more in
      let before : beginning x.reader ≤ length a.heap.view.trail = omega (arith, count, h.start) in
      let same : at (beginning x.reader) b.heap.view.trail ≡ at (beginning x.reader) a.heap.view.trail = ap (at (beginning x.reader)) on.is ∙ at-longer on.more a.heap.view.trail (beginning x.reader) before in
      record {
        shape = h.shape ∙ sym shape;
        board = h.board ∙ sym goes.board;
        start = omega (arith, longer, h.start);
        written = rw same h.written;
      }

  pub jobs-read-on : JobsReadOn P
  jobs-read-on a b jobs was now heap shape goes h j x e = reads-on a b x was now heap shape goes (h j x e)
