-- What holds of open jobs while other things are done, each law the contract of a function of `laws.rt`.
use Rattle.std.specs.Prelude.{◌≡◌, List}
use Rattle.hc_heap.specs.States.{Goes, IsDesk, IsHeap}
use Rattle.hc_jobs.specs.declared.table.OpenJob.{OpenJob}
use Rattle.hc_modes.specs.State.{ObjectsState}
use Rattle.hc_compiler.specs.Jobs.{AreReading}

-- jobs that read the words of objects do so whatever is stored later on
abbrev pub JobsReadOn : Type 0 → Type 0
JobsReadOn P = (a b : ObjectsState P) (jobs : List OpenJob) → IsDesk a.heap.view a.heap.desk → IsDesk b.heap.view b.heap.desk → IsHeap b.heap.view
    → b.heap.view.shape ≡ a.heap.view.shape → Goes a.heap.desk b.heap.desk → AreReading a jobs → AreReading b jobs
