use Rattle.std.specs.Prelude.{◌≡◌}
use Rattle.hc_layout.specs.declared.layout.Starts.{Starts}
use Rattle.hc_layout.specs.declared.shape.Region.TheVariants.{Entries, Fields, Links, Objects, Slots, Cells}
use Rattle.hc_layout.specs.declared.shape.Shape.{Shape}
use Rattle.hc_layout.specs.Shape.{IsShape, start_of, words_of}

-- these are the starts of the regions of a shape that fits
pub record AreStarts (s : Shape) (t : Starts) : Type 0 where
  pub shape : IsShape s
  pub entries : t.entries ≡ start_of s Entries
  pub fields : t.fields ≡ start_of s Fields
  pub links : t.links ≡ start_of s Links
  pub objects : t.objects ≡ start_of s Objects
  pub slots : t.slots ≡ start_of s Slots
  pub cells : t.cells ≡ start_of s Cells
  pub end : t.end ≡ words_of s
