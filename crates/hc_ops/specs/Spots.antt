-- What a walk along prototypes finds.
use Rattle.hc_ops.specs.declared.walk.Spot.{Spot}
use Rattle.hc_ops.specs.Nearest.{Nearest}

-- the nearest property, without its place
abbrev pub nearest_of : Spot → Nearest
nearest_of spot = record { holder = spot.holder; property = spot.property }
