-- The state of a site: the fold of its events.
use Rattle.std.specs.Prelude.{ℕ, zero, suc, ◌||◌, false, List, [], ◌∷◌, Option, Some, None, slice_get}
use Rattle.hc_plan.specs.declared.case.Site.{Site}
use Rattle.hc_plan.specs.declared.plan.Plan.{Plan}
use Rattle.hc_sites.specs.declared.cached.Cached.{Cached}
use Rattle.hc_sites.specs.declared.feedback.Feedback.{Feedback}
use Rattle.hc_sites.specs.declared.state.SiteState.{SiteState}
use Rattle.hc_sites.specs.Events.{Event, noted, forgotten, filled, installed, discarded}
use Rattle.hc_sites.specs.Maps.{is_one_too_many, with_map, without_map, places}

-- a site at which nothing happened yet
abbrev pub new_site : Site → SiteState
new_site site = record { site = site; maps = []; mega = false; cache = None; plan = None }

-- a site that found too many maps is megamorphic, and keeps the four that it has
abbrev pub after_event : SiteState → Event → SiteState
after_event state (noted map) =
    record state { maps = with_map state.maps map; mega = state.mega || is_one_too_many state.maps map }
after_event state (forgotten map) = record state { maps = without_map state.maps map }
after_event state (filled entry) = record state { cache = Some entry }
after_event state (installed plan) = record state { plan = Some plan }
after_event state discarded = record state { plan = None }

-- events one after another
abbrev pub state_after : SiteState → List Event → SiteState
state_after state [] = state
state_after state (event ∷ events) = state_after (after_event state event) events

-- an event at one site: all others stay as they are
abbrev pub with_event : List SiteState → ℕ → Event → List SiteState
with_event [] s event = []
with_event (state ∷ states) zero event = after_event state event ∷ states
with_event (state ∷ states) (suc s) event = state ∷ with_event states s event

-- what a job is told of a site
abbrev pub feedback_of : SiteState → Feedback
feedback_of state = record { maps = places state.maps; mega = state.mega }

abbrev pub cache_in : Option SiteState → Option Cached
cache_in None = None
cache_in (Some state) = state.cache

-- the inline cache of the site of a number
abbrev pub cache_at : List SiteState → ℕ → Option Cached
cache_at states s = cache_in (slice_get states s)

abbrev pub plan_in : Option SiteState → Option Plan
plan_in None = None
plan_in (Some state) = state.plan

-- the plan of the site of a number
abbrev pub plan_at : List SiteState → ℕ → Option Plan
plan_at states s = plan_in (slice_get states s)
