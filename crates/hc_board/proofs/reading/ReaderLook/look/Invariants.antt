use Rattle.hc_board.proofs.reading.ReaderLook.look.Given as goal

-- the read is noted under the index asked
abbrev pub ghosts-note_past : goal.ghosts-note_past
ghosts-note_past a = record { index = a.index }
