-- What contracts see of a writer and of a reader.
use Rattle.std.specs.Prelude.{ℕ, ◌-◌, ◌^◌, min, List, [], ◌++◌, length}
pub use Rattle.atomic_table.specs.Seated.{TableId}
use Rattle.hc_board.specs.Trail.{Access, image_of}
use Rattle.hc_board.specs.Parts.{MetEntry, MetFit, reads_of, start_of, ended}

-- a writer: its board, all stores so far, the number of its loads, and the readers that it met
pub record WriterState : Type 0 where
  pub board : TableId
  pub trail : List Access
  pub loads : ℕ
  pub met : List MetEntry

-- a reader: its board, the parts that ended, and where its last part began, with that part's reads
pub record ReaderState : Type 0 where
  pub board : TableId
  pub parts : MetEntry
  pub begin : ℕ
  pub last : List Access

-- the words of the writer's board
abbrev pub words_of : WriterState → List ℕ
words_of w = image_of w.board.words w.trail

-- the position of the writer's board: the number of its stores
abbrev pub position_of : WriterState → ℕ
position_of w = length w.trail

-- each reader that was met has reads that fit the writer's trail
abbrev pub AllFit : WriterState → Type 0
AllFit w = MetFit w.board.words w.trail w.met

-- the entry of a reader that is met at this position
abbrev pub entry_of : ReaderState → ℕ → MetEntry
entry_of r position = ended r.parts r.begin r.last position

-- a reader that begins at this position
abbrev pub new_reader : TableId → ℕ → ReaderState
new_reader board position = record { board = board; parts = []; begin = position; last = [] }

-- a reader that was met at this position, and goes on there in a new part
abbrev pub renewed : ReaderState → ℕ → ReaderState
renewed r position = record { board = r.board; parts = entry_of r position; begin = position; last = [] }

-- all reads of a reader, in order
abbrev pub reads_made : ReaderState → List Access
reads_made r = reads_of r.parts ++ r.last

-- the position at which a reader's first part began
abbrev pub beginning : ReaderState → ℕ
beginning r = start_of r.parts r.begin

-- a count, which stands still at the end of its type
abbrev pub counted : ℕ → ℕ
counted n = min n (2 ^ 64 - 1)
