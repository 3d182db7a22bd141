-- What happens at a site.
use Rattle.std.specs.Prelude.{ℕ}
use Rattle.hc_plan.specs.declared.plan.Plan.{Plan}
use Rattle.hc_sites.specs.declared.cached.Cached.{Cached}

-- an access notes its receiver's map, and forgets a deprecated one; it fills the inline cache; a plan is installed, and
-- discarded
pub data Event : Type 0 where
  noted : ℕ → Event
  forgotten : ℕ → Event
  filled : Cached → Event
  installed : Plan → Event
  discarded : Event
