-- What a plan knows of an object before it stores to it.
use Rattle.std.specs.Prelude.{◌≡◌, ℕ, false, Some}
use Rattle.hc_value.specs.declared.field.Constness.TheVariants.{Mutable}
use Rattle.hc_value.specs.declared.field.Detail.{Detail}
use Rattle.hc_value.specs.declared.value.Value.{Value}
use Rattle.hc_heap.specs.Readings.{bits_in, detail_in}
use Rattle.hc_heap.specs.Writes.{Trail}
use Rattle.hc_facts.specs.Honest.{HasDatum}
use Rattle.hc_modes.specs.Admitting.{AdmitsAsIs}
pub use Rattle.hc_modes.specs.Planned.{MayCome}

-- an object has a map that isn't deprecated, whose entry at a place is a data property, and its field isn't constant, and admits a
-- value as it is
pub record MayStore (t : Trail) (o i : ℕ) (v : Value) : Type 0 where
  pub map : ℕ
  pub field : ℕ
  pub datum : HasDatum t o map i field
  pub live : (bits_in t map).deprecated ≡ false
  pub detail : Detail
  pub is_detail : detail_in t field ≡ Some detail
  pub mutable : detail.constness ≡ Mutable
  pub admits : AdmitsAsIs t detail v
