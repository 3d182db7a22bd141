use Rattle.std.specs.Prelude.{◌≡◌, ℕ, ◌+◌, ◌-◌, ◌*◌, ◌/◌, ◌%◌, ◌<◌, nat_lt, if◌then◌else◌, Option, Some, None}
use Rattle.hc_layout.specs.declared.place.Place.{Place}
use Rattle.hc_layout.specs.declared.shape.Region.{Region}
use Rattle.hc_layout.specs.declared.shape.Region.TheVariants.{Maps, Entries, Fields, Links, Objects, Slots, Cells}
use Rattle.hc_layout.specs.declared.shape.Shape.{Shape}
use Rattle.hc_layout.specs.Shape.{item_words, items_of, start_of, words_of}

-- a place is on a board of this shape
pub record IsPlace (s : Shape) (p : Place) : Type 0 where
  pub item : p.item < items_of s p.region
  pub word : p.word < item_words p.region

-- the index of a place: the start of its region, the items before it, and its word
abbrev pub index_of : Shape → Place → ℕ
index_of s p = start_of s p.region + p.item * item_words p.region + p.word

-- the region in which the word at an index lies
unfoldable pub region_of : Shape → ℕ → Option Region
region_of s i =
    if nat_lt i (start_of s Entries) then Some Maps else (
    if nat_lt i (start_of s Fields) then Some Entries else (
    if nat_lt i (start_of s Links) then Some Fields else (
    if nat_lt i (start_of s Objects) then Some Links else (
    if nat_lt i (start_of s Slots) then Some Objects else (
    if nat_lt i (start_of s Cells) then Some Slots else (
    if nat_lt i (words_of s) then Some Cells else None))))))

-- the place that a word has in its region
abbrev pub place_in : Shape → ℕ → Region → Place
place_in s i r = record { region = r; item = (i - start_of s r) / item_words r; word = (i - start_of s r) % item_words r }

-- the place at an index
unfoldable pub place_of : Shape → ℕ → Option Place
place_of s i = elim (region_of s i) [ Some r ↦ Some (place_in s i r) | None ↦ None ]

-- a place and its index
pub record IsAt (s : Shape) (i : ℕ) (p : Place) : Type 0 where
  pub place : IsPlace s p
  pub index : index_of s p ≡ i
  pub within : i < words_of s
  pub value : place_of s i ≡ Some p

-- the place that is found at an index has that index
abbrev pub PlacesLie : Type 0
PlacesLie = (s : Shape) (i : ℕ) (p : Place) → place_of s i ≡ Some p → IsAt s i p

-- a place on the board is found at its index
abbrev pub PlacesAreFound : Type 0
PlacesAreFound = (s : Shape) (p : Place) → IsPlace s p → IsAt s (index_of s p) p
