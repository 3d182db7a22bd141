-- Fields that are made, and details that rise.
use Rattle.std.specs.Prelude.{ℕ, if◌then◌else◌, Option, Some, None, ◌∷◌}
use Rattle.hc_value.specs.Field.{is_detail_within, joined_detail}
use Rattle.hc_value.specs.declared.field.Detail.{Detail}
use Rattle.hc_heap.specs.Writes.{Trail, Owner, FieldDetail}
use Rattle.hc_heap.specs.Readings.{detail_in}

-- the trail after a field was made for a map
abbrev pub with_field : Trail → ℕ → ℕ → Detail → Trail
with_field t f owner detail = FieldDetail f detail ∷ Owner f owner ∷ t

-- the trail after a field of one detail was joined with another, where that isn't within it
abbrev pub raised_from : Option Detail → Trail → ℕ → Detail → Trail
raised_from (Some e) t f d = if is_detail_within d e then t else FieldDetail f (joined_detail e d) ∷ t
raised_from None t f d = t

-- the trail after a field's detail was joined with another
abbrev pub raised : Trail → ℕ → Detail → Trail
raised t f d = raised_from (detail_in t f) t f d
