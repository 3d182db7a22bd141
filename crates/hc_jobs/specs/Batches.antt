-- A batch of reads, between two renewals of a reader at one position.
use Rattle.std.specs.Prelude.{◌≡◌, ℕ, List, [], ◌∷◌, ◌++◌}
use Rattle.hc_board.specs.Trail.{Access}
use Rattle.hc_board.specs.Looked.{reader_looked}
use Rattle.hc_board.specs.States.{ReaderState, beginning, entry_of, reads_made, renewed}

-- reads that are made after a renewal are, once the reader is renewed or met at the same position, a part of their own,
-- which begins and ends there; before it stand the parts of the reader as it was
pub record IsAPart (old after : ReaderState) (position : ℕ) (made : List Access) : Type 0 where
  pub entry : entry_of after position ≡ entry_of old position ++ record { begin = position; reads = made; end = position } ∷ []
  pub begin : after.begin ≡ position
  pub last : after.last ≡ made
  pub reads : reads_made after ≡ reads_made old ++ made
  pub start : beginning after ≡ beginning old
  pub board : after.board ≡ old.board

abbrev pub BatchIsAPart : Type 0
BatchIsAPart = (old after : ReaderState) (position : ℕ) (reads : List Access) → reader_looked (renewed old position) reads after → IsAPart old after position reads
