-- The six kinds of step: of each, what it tells of the seat before, the number found and the seat after.
use Rattle.std.specs.Prelude.{◌≡◌, ℕ, ◌+◌, List, [], ◌∷◌, ◌++◌, length, slice_index}
use Rattle.atomic_table.specs.Table.{Me, Step}
use Rattle.hc_board.specs.Trail.{image_of}
use Rattle.hc_board.specs.Parts.{MetEntry, MetFit, ended}
use Rattle.hc_board.specs.Rule.{reader_view}
use Rattle.hc_board.specs.declared.rule.View.{View}

module _ {S : Type 0} where
  -- the writer's load: the word of its image, and one load more
  abbrev pub loaded : Step S → Me S View → ℕ → Me S View → Type 0
  loaded st m n m' = (n ≡ slice_index (image_of m.0.width m.0.trail) st.word) × (m' ≡ (record m.0 { loads = m.0.loads + 1 }, m.1))

  -- the writer's store: the trail has it
  abbrev pub stored : Step S → Me S View → ℕ → Me S View → Type 0
  stored st m n m' = m' ≡ (record m.0 { trail = m.0.trail ++ (st.word, st.first) ∷ [] }, m.1)

  -- a reader's load: the last part has the word that was found
  abbrev pub noted : Step S → Me S View → ℕ → Me S View → Type 0
  noted st m n m' = m' ≡ (record m.0 { last = m.0.last ++ (st.word, n) ∷ [] }, m.1)

  -- a reader's load past the board's end: the last part has 0, at the index asked
  abbrev pub noted_past : ℕ → Step S → Me S View → ℕ → Me S View → Type 0
  noted_past index st m n m' = m' ≡ (record m.0 { last = m.0.last ++ (index, 0) ∷ [] }, m.1)

  -- the load after a join: each met entry fits
  abbrev pub checked : Step S → Me S View → ℕ → Me S View → Type 0
  checked st m n m' = (m' ≡ m) × MetFit m.0.width m.0.trail m.0.met

-- the entry that was met last
unfoldable pub newest : List MetEntry → MetEntry
newest [] = []
newest (entry ∷ []) = entry
newest (entry ∷ next ∷ rest) = newest (next ∷ rest)

-- the split that makes a reader, which begins here
abbrev pub begun : View → View
begun v = reader_view v.width [] (length v.trail)

-- the split that lets the reader met last go on from here
abbrev pub gone_on : View → View
gone_on v = reader_view v.width (newest v.met) (length v.trail)

-- the join that takes a reader back: its parts, the last ended here, are one entry more
abbrev pub met_with : View → View → View
met_with v r = record v { met = v.met ++ ended r.parts r.begin r.last (length v.trail) ∷ [] }
