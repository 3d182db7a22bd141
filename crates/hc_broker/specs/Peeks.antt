-- One look at the word of an item.
use Rattle.std.specs.Prelude.{◌≡◌, ℕ, nat_lt, if◌then◌else◌, Option, None, IfSome, List, [], ◌∷◌, slice_index}
use Rattle.hc_board.specs.Trail.{Access}
use Rattle.hc_layout.specs.Place.{index_of}
use Rattle.hc_layout.specs.Shape.{items_of, words_of}
use Rattle.hc_layout.specs.declared.shape.Shape.{Shape}
use Rattle.hc_heap.specs.Kinds.{region_of, place_at}
use Rattle.hc_heap.specs.declared.kind.Kind.{Kind}

-- the index of the word of an item; the board's end where the board has no such item
abbrev pub index_asked : Shape → Kind → ℕ → ℕ
index_asked s kind item = if nat_lt item (items_of s (region_of kind)) then index_of s (place_at kind item) else words_of s

-- what is said of an item; nothing where the board has no such item
abbrev pub where_there : {T : Type 0} → Shape → Kind → ℕ → Option T → Option T
where_there s kind item said = if nat_lt item (items_of s (region_of kind)) then said else None

-- one look was made, at the word of an item, and the word's form says this
pub record Peeked {L T : Type 0} (image : L → Option (List ℕ)) (looked : L → List Access → L → Type 0) (s : Shape) (kind : Kind) (item : ℕ) (form : ℕ → Option T) (old new : L) (said : Option T) : Type 0 where
  pub word : ℕ
  pub looks : looked old ((index_asked s kind item, word) ∷ []) new
  pub value : IfSome (image old) (λ words. word ≡ slice_index words (index_asked s kind item))
  pub same : image new ≡ image old
  pub says : said ≡ where_there s kind item (form word)
