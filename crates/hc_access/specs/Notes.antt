-- What an access notes of maps at its site.
use Rattle.std.specs.Prelude.{ℕ, if◌then◌else◌, List, [], ◌∷◌, ◌++◌, Option, Some, None, slice_get}
use Rattle.hc_heap.specs.Readings.{bits_in}
use Rattle.hc_heap.specs.Writes.{Trail}
use Rattle.hc_sites.specs.Events.{Event, forgotten, noted}
use Rattle.hc_sites.specs.Maps.{has_map}
use Rattle.hc_sites.specs.declared.state.SiteState.{SiteState}

abbrev pub maps_of : Option SiteState → List ℕ
maps_of None = []
maps_of (Some state) = state.maps

-- the maps that a site has seen
abbrev pub maps_at : List SiteState → ℕ → List ℕ
maps_at sites s = maps_of (slice_get sites s)

-- a map is forgotten where it is deprecated
abbrev pub forgets : Trail → ℕ → List Event
forgets t m = if (bits_in t m).deprecated then forgotten m ∷ [] else []

-- the one in a place, if there is one
abbrev pub forgets_at : Trail → Option ℕ → List Event
forgets_at t None = []
forgets_at t (Some m) = forgets t m

-- of maps each that is deprecated, the first in front
abbrev pub forgets_of : Trail → List ℕ → List Event
forgets_of t [] = []
forgets_of t (m ∷ maps) = forgets t m ++ forgets_of t maps

-- before a map is noted: nothing where it is there, and else each that is deprecated is forgotten
abbrev pub forgets_before : Trail → List ℕ → ℕ → List Event
forgets_before t maps m = if has_map maps m then [] else forgets_of t maps

abbrev pub notes : Trail → List ℕ → ℕ → List Event
notes t maps m = forgets_before t maps m ++ noted m ∷ []
