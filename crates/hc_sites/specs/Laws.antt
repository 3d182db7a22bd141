-- What events at many sites make of each.
use Rattle.std.specs.Prelude.{◌≡◌, ℕ, true, if◌then◌else◌, List, [], ◌∷◌, option_map, slice_get, ◌==◌}
use Rattle.hc_sites.specs.declared.state.SiteState.{SiteState}
use Rattle.hc_sites.specs.Events.{Event}
use Rattle.hc_sites.specs.State.{state_after, with_event}

-- events, each at the site of its number
abbrev pub states_after : List SiteState → List (ℕ × Event) → List SiteState
states_after states [] = states
states_after states (event ∷ events) = states_after (with_event states event.0 event.1) events

-- those at one site
abbrev pub events_at : ℕ → List (ℕ × Event) → List Event
events_at s [] = []
events_at s (event ∷ events) = if event.0 == s then event.1 ∷ events_at s events else events_at s events

-- after any events a site's state is the fold of its own
abbrev pub FoldOfItsEvents : Type 0
FoldOfItsEvents = (states : List SiteState) (events : List (ℕ × Event)) (s : ℕ) →
    slice_get (states_after states events) s ≡ option_map (λ state. state_after state (events_at s events)) (slice_get states s)

-- a megamorphic site stays megamorphic, whatever happens at it
abbrev pub MegamorphicForGood : Type 0
MegamorphicForGood = (state : SiteState) (events : List Event) → state.mega ≡ true → (state_after state events).mega ≡ true
