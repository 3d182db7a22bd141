use Rattle.hc_modes.proofs.Alive.{stays-live}
use Rattle.hc_modes.proofs.laws.alike_objects_stay_live.Goals as goal

pub returns : goal.returns
returns g c = record {
  law = λ s t u w a b hs ht hu live_a made_b cells made_a.
      stays-live c.unused_says_nothing.ensures.law c.deprecated_are_unstable.ensures.law c.roots_stand.ensures.law c.owners_stand.ensures.law c.live_stand_high.ensures.law c.one_is_live.ensures.law c.maps_are_kept.ensures.law g.P.Pace.went
      s t u w a b hs hu live_a made_b cells made_a;
}
