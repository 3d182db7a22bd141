-- Laws of trails and of reads that fit, each the contract of a function of `laws.rt`.
use Rattle.std.specs.Prelude.{◌≡◌, ℕ, ◌≤◌, ◌↔◌, List, [], ◌∷◌, ◌++◌, length, slice_index, slice_set, IsSome}
use Rattle.hc_board.specs.Trail.{Access, image_of, word_at}
use Rattle.hc_board.specs.Fits.{ReadsFit, AreOf, earliest}
use Rattle.hc_board.specs.Parts.{MetEntry, EntryFits, reads_of, start_of}
use Rattle.hc_board.specs.States.{ReaderState, renewed, reads_made, beginning}
use Rattle.hc_board.specs.Looked.{reader_looked}

-- a board has as many words as its width, whatever was stored
abbrev pub ImageIsWide : Type 0
ImageIsWide = (width : ℕ) (trail : List Access) → length (image_of width trail) ≡ width

-- a store sets one word of the image
abbrev pub StoreSetsImage : Type 0
StoreSetsImage = (width : ℕ) (trail : List Access) (index word : ℕ) → image_of width (trail ++ (index, word) ∷ []) ≡ slice_set (image_of width trail) index word

-- the words at the trail's length are those of the image
abbrev pub NowIsImage : Type 0
NowIsImage = (width : ℕ) (trail : List Access) (index : ℕ) → word_at width trail (length trail) index ≡ slice_index (image_of width trail) index

-- at each position an index past the board's end has 0
abbrev pub PastIsZero : Type 0
PastIsZero = (width : ℕ) (trail : List Access) (position index : ℕ) → width ≤ index → word_at width trail position index ≡ 0

-- a longer trail keeps the words of each position
abbrev pub LongerKeepsWords : Type 0
LongerKeepsWords = (width : ℕ) (trail more : List Access) (position index : ℕ) → position ≤ length trail → word_at width (trail ++ more) position index ≡ word_at width trail position index

-- a longer trail keeps every fit
abbrev pub LongerKeepsFits : Type 0
LongerKeepsFits = (width : ℕ) (trail more : List Access) (from upto : ℕ) (reads : List Access) → upto ≤ length trail → ReadsFit width trail from upto reads → ReadsFit width (trail ++ more) from upto reads

-- a longer trail keeps the fit of each met entry
abbrev pub LongerKeepsEntries : Type 0
LongerKeepsEntries = (width : ℕ) (trail more : List Access) (entry : MetEntry) → EntryFits width trail entry → EntryFits width (trail ++ more) entry

-- reads fit only from an earlier position to a later one, or at one position
abbrev pub FitsGoOnward : Type 0
FitsGoOnward = (width : ℕ) (trail : List Access) (from upto : ℕ) (reads : List Access) → ReadsFit width trail from upto reads → from ≤ upto

-- reads that fit between two positions fit between wider ones
abbrev pub WiderKeepsFits : Type 0
WiderKeepsFits = (width : ℕ) (trail : List Access) (from upto before after : ℕ) (reads : List Access) → before ≤ from → upto ≤ after → ReadsFit width trail from upto reads → ReadsFit width trail before after reads

-- reads and the reads after them fit together exactly where they meet at some position
abbrev pub FitsMeet : Type 0
FitsMeet = (width : ℕ) (trail : List Access) (from upto : ℕ) (reads later : List Access) → ReadsFit width trail from upto (reads ++ later) ↔ ((position : ℕ) × ReadsFit width trail from position reads × ReadsFit width trail position upto later)

-- reads fit exactly where the earliest positions serve
abbrev pub EarliestServes : Type 0
EarliestServes = (width : ℕ) (trail : List Access) (from upto : ℕ) (reads : List Access) → ReadsFit width trail from upto reads ↔ IsSome (earliest width trail from upto reads)

-- a part that begins and ends at one position has the words of that position, and only those
abbrev pub OnePosition : Type 0
OnePosition = (width : ℕ) (trail : List Access) (position : ℕ) (reads : List Access) → ReadsFit width trail position position reads ↔ AreOf width trail position reads

-- the reads of an entry that fits, one after another, fit from where its first part began
abbrev pub EntryFitsAsOne : Type 0
EntryFitsAsOne = (width : ℕ) (trail : List Access) (entry : MetEntry) (begin : ℕ) → begin ≤ length trail → EntryFits width trail entry → ReadsFit width trail (start_of entry begin) (length trail) (reads_of entry)

-- a reader that goes on in a new part has the reads that it had, and began where it began
abbrev pub RenewKeepsReads : Type 0
RenewKeepsReads = (r : ReaderState) (position : ℕ) → (reads_made (renewed r position) ≡ reads_made r) × (beginning (renewed r position) ≡ beginning r)

-- a look adds its read to all reads, and the reader began where it began
abbrev pub LookAddsReads : Type 0
LookAddsReads = (a b : ReaderState) (reads : List Access) → reader_looked a reads b → (reads_made b ≡ reads_made a ++ reads) × (beginning b ≡ beginning a)
