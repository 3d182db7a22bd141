-- What it is to objects that a reader is met.
use Rattle.std.specs.Prelude.{◌≡◌, List, [], ◌∷◌, ◌++◌}
use Rattle.hc_board.specs.Parts.{MetEntry}
use Rattle.hc_board.specs.States.{ReaderState, entry_of, position_of}
use Rattle.hc_modes.specs.State.{ObjectsState}

-- the objects, whose writer met these readers last, and nothing else
abbrev pub with_entries : {P : Type 0} → ObjectsState P → List MetEntry → ObjectsState P
with_entries s entries = record s { heap = record s.heap { desk = record s.heap.desk { met = s.heap.desk.met ++ entries } } }

-- a reader was met: its parts, the last ended here, are the newest entry, and nothing else was done
abbrev pub HasMet : {P : Type 0} → ObjectsState P → ReaderState → ObjectsState P → Type 0
HasMet a reader b = b ≡ with_entries a (entry_of reader (position_of a.heap.desk) ∷ [])
