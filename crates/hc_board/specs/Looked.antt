-- What `looked` says of a writer and of a reader, and that no read, and one run of reads after another, are such runs too.
use Rattle.std.specs.Prelude.{◌≡◌, ℕ, ◌+◌, List, [], ◌++◌, length}
use Rattle.std.proofs.Common.{sym, ap, ◌∙◌, append_assoc, append-nil, length-append, add-zero, add_assoc}
use Rattle.hc_board.specs.Trail.{Access}
use Rattle.hc_board.specs.States.{WriterState, ReaderState}

-- the writer, with this number of loads
abbrev with_loads : WriterState → ℕ → WriterState
with_loads w n = record w { loads = n }

-- the reader, whose last part has these reads
abbrev with_last : ReaderState → List Access → ReaderState
with_last r reads = record r { last = reads }

-- as many loads more, and nothing else
abbrev pub writer_looked : WriterState → List Access → WriterState → Type 0
writer_looked a reads b = b ≡ record a { loads = a.loads + length reads }

-- the last part got these reads, and nothing else
abbrev pub reader_looked : ReaderState → List Access → ReaderState → Type 0
reader_looked a reads b = b ≡ record a { last = a.last ++ reads }

pub writer_stays : (a : WriterState) → writer_looked a [] a
writer_stays a = ap (with_loads a) (sym (add-zero a.loads))

pub writer_goes_on : (a b c : WriterState) (reads later : List Access) → writer_looked a reads b → writer_looked b later c → writer_looked a (reads ++ later) c
writer_goes_on a b c reads later p q =
    q ∙ (ap (λ (x : WriterState). with_loads x (x.loads + length later)) p
    ∙ ap (with_loads a) (add_assoc a.loads (length reads) (length later) ∙ ap (λ (n : ℕ). a.loads + n) (sym (length-append reads later))))

pub reader_stays : (a : ReaderState) → reader_looked a [] a
reader_stays a = ap (with_last a) (sym (append-nil a.last))

pub reader_goes_on : (a b c : ReaderState) (reads later : List Access) → reader_looked a reads b → reader_looked b later c → reader_looked a (reads ++ later) c
reader_goes_on a b c reads later p q =
    q ∙ (ap (λ (x : ReaderState). with_last x (x.last ++ later)) p ∙ ap (with_last a) (append_assoc a.last reads later))
