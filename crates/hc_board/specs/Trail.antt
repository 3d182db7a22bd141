-- The trail of the writer's stores, and the words that it leaves.
use Rattle.std.specs.Prelude.{ℕ, List, [], ◌∷◌, take, replicate, slice_index, slice_set}

-- a store or a read: the index, and the word that was stored or read there
abbrev pub Access : Type 0
Access = ℕ × ℕ

-- the words after these stores, the oldest first
unfoldable pub replayed : List ℕ → List Access → List ℕ
replayed words [] = words
replayed words (store ∷ rest) = replayed (slice_set words store.0 store.1) rest

-- the words of a board after its trail: it begins with zeros
unfoldable pub image_of : ℕ → List Access → List ℕ
image_of width trail = replayed (replicate width 0) trail

-- the word at an index after the first stores of the trail, as many as the position says; 0 past the board's end
unfoldable pub word_at : ℕ → List Access → ℕ → ℕ → ℕ
word_at width trail position index = slice_index (image_of width (take position trail)) index
