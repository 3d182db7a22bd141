use Rattle.std.specs.Prelude.{ℕ, ◌+◌, ◌*◌, ◌<◌, ◌≤◌, List, [], ◌∷◌}
use Rattle.hc_layout.specs.declared.shape.Region.{Region}
use Rattle.hc_layout.specs.declared.shape.Region.TheVariants.{Maps, Entries, Fields, Links, Objects, Slots, Cells}
use Rattle.hc_layout.specs.declared.shape.Shape.{Shape}
use Rattle.hc_layout.specs.declared.shape.TheConstants.{USUAL}

-- how many words an item of a region has
abbrev pub item_words : Region → ℕ
item_words Maps = 7
item_words Entries = 2
item_words Fields = 2
item_words Links = 3
item_words Objects = 4
item_words Slots = 1
item_words Cells = 1

-- how many items of a region a board of this shape has
abbrev pub items_of : Shape → Region → ℕ
items_of s Maps = s.maps
items_of s Entries = s.entries
items_of s Fields = s.fields
items_of s Links = s.links
items_of s Objects = s.objects
items_of s Slots = s.slots
items_of s Cells = s.cells

-- how many words these regions have together
abbrev pub words_in : Shape → List Region → ℕ
words_in s [] = 0
words_in s (r ∷ rs) = items_of s r * item_words r + words_in s rs

-- the regions that lie before a region
abbrev pub before : Region → List Region
before Maps = []
before Entries = Maps ∷ []
before Fields = Maps ∷ Entries ∷ []
before Links = Maps ∷ Entries ∷ Fields ∷ []
before Objects = Maps ∷ Entries ∷ Fields ∷ Links ∷ []
before Slots = Maps ∷ Entries ∷ Fields ∷ Links ∷ Objects ∷ []
before Cells = Maps ∷ Entries ∷ Fields ∷ Links ∷ Objects ∷ Slots ∷ []

-- the index of the first word of a region
abbrev pub start_of : Shape → Region → ℕ
start_of s r = words_in s (before r)

-- how many words a board of this shape has
abbrev pub words_of : Shape → ℕ
words_of s = start_of s Cells + items_of s Cells * item_words Cells

-- a shape fits: it has an object, and no region has more items than in the usual shape
pub record IsShape (s : Shape) : Type 0 where
  pub object : 0 < s.objects
  pub maps : s.maps ≤ USUAL.maps
  pub entries : s.entries ≤ USUAL.entries
  pub fields : s.fields ≤ USUAL.fields
  pub links : s.links ≤ USUAL.links
  pub objects : s.objects ≤ USUAL.objects
  pub slots : s.slots ≤ USUAL.slots
  pub cells : s.cells ≤ USUAL.cells
