-- The board's rule, which holds between any two steps of any threads.
use Rattle.std.specs.Prelude.{◌≡◌, ℕ, ◌<◌, true, false, List, [], length}
use mathlib.Core.Option.{some}
use lib.ListN.{get_elem?}
use Rattle.atomic_table.specs.Table.{State}
use Rattle.atomic_table.specs.declared.shared.Seat.{Seat}
use Rattle.hc_board.specs.Trail.{Access, image_of}
use Rattle.hc_board.specs.Fits.{ReadsFit}
use Rattle.hc_board.specs.Parts.{MetEntry, InOrder, MetFit, start_of}
use Rattle.hc_board.specs.States.{TableId, counted}
use Rattle.hc_board.specs.declared.rule.View.{View}

-- a writer that has stored nothing
abbrev pub first_view : ℕ → View
first_view width = record { writes = true; reads = false; width = width; trail = []; loads = 0; met = []; parts = []; begin = 0; last = [] }

-- a reader whose last part begins here, after these parts
abbrev pub reader_view : ℕ → MetEntry → ℕ → View
reader_view width parts begin = record { writes = false; reads = true; width = width; trail = []; loads = 0; met = []; parts = parts; begin = begin; last = [] }

-- the seat of a reader that was met: it knows nothing
abbrev pub spent_view : View
spent_view = record { writes = false; reads = false; width = 0; trail = []; loads = 0; met = []; parts = []; begin = 0; last = [] }

-- a reader's parts fit the trail so far, and so do the reads of its last part, up to now
pub record TrackFits (width : ℕ) (trail : List Access) (parts : MetEntry) (begin : ℕ) (last : List Access) : Type 0 where
  pub ended : InOrder width trail 0 begin parts
  pub open_part : ReadsFit width trail begin (length trail) last

-- one seat writes; a seat that reads has the board's width, and reads that fit the writer's trail
pub record Knows (writer : View) (seat at : ℕ) (v : View) : Type 0 where
  pub is_writer : v.writes ≡ true → at ≡ seat
  pub is_reader : v.reads ≡ true → (v.width ≡ writer.width) × TrackFits writer.width writer.trail v.parts v.begin v.last

-- this seat has the writer's view: the words are the image of its trail, and each view and each met entry agrees with it
pub record RuledBy {S : Type 0} (s : State S View) (seat : ℕ) (writer : View) : Type 0 where
  pub place : get_elem? s.views seat ≡ some writer
  pub writes : writer.writes ≡ true
  pub reads : writer.reads ≡ false
  pub words : s.words ≡ image_of writer.width writer.trail
  pub views : (at : ℕ) (v : View) → get_elem? s.views at ≡ some v → Knows writer seat at v
  pub met : MetFit writer.width writer.trail writer.met

-- the rule: exactly one seat writes
abbrev pub Ruled : {S : Type 0} → State S View → Type 0
Ruled s = (seat : ℕ) × (writer : View) × RuledBy s seat writer

-- what a `Writer` keeps of its seat and its counts
pub record IsWriter {S : Type 0} (seat : Seat S View) (board : TableId) (words writes met : ℕ) : Type 0 where
  pub table : seat.table_id ≡ board
  pub writer : seat.me.0.writes ≡ true
  pub slots : seat.me.1 ≡ []
  pub width : seat.me.0.width ≡ board.words
  pub words_is : words ≡ board.words
  pub some_words : 0 < words
  pub writes_is : writes ≡ counted (length seat.me.0.trail)
  pub met_is : met ≡ counted (length seat.me.0.met)
  pub fits : MetFit board.words seat.me.0.trail seat.me.0.met

-- what a `Reader` keeps of its seat and its counts
pub record IsReader {S : Type 0} (seat : Seat S View) (board : TableId) (words start : ℕ) : Type 0 where
  pub table : seat.table_id ≡ board
  pub reader : seat.me.0.reads ≡ true
  pub slots : seat.me.1 ≡ []
  pub width : seat.me.0.width ≡ board.words
  pub words_is : words ≡ board.words
  pub some_words : 0 < words
  pub start_is : start ≡ counted (start_of seat.me.0.parts seat.me.0.begin)
