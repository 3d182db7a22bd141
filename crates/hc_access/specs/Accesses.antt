-- What an access makes of its site, and of the objects beside the operation itself.
use Rattle.std.specs.Prelude.{◌≡◌, ◌⊎◌, ℕ, Bool, true, false, not, ◌&&◌, if◌then◌else◌, nat_lt, List, [], ◌∷◌, ◌++◌, Option, Some, None, option_map, slice_get}
use Rattle.hc_board.specs.Trail.{Access}
use Rattle.hc_value.specs.Attrs.{is_read_only}
use Rattle.hc_value.specs.declared.prop.Prop.{Prop}
use Rattle.hc_heap.specs.Readings.{map_in}
use Rattle.hc_heap.specs.States.{View}
use Rattle.hc_cells.specs.Cells.{named_cell, with_cell}
use Rattle.hc_table.specs.Attributes.{is_datum}
use Rattle.hc_table.specs.World.{World, object, place_of, property_of, props_at}
use Rattle.hc_slots.specs.Meaning.{Dictionary}
use Rattle.hc_modes.specs.Came.{IsStill, world_of}
use Rattle.hc_modes.specs.Meaning.{kept_of}
use Rattle.hc_modes.specs.State.{ObjectsState}
use Rattle.hc_modes.specs.Validity.{OnlyCells}
use Rattle.hc_plan.specs.declared.case.Op.{Op}
use Rattle.hc_plan.specs.declared.case.Op.TheVariants.{Load, Store}
use Rattle.hc_plan.specs.declared.case.Site.{Site}
use Rattle.hc_sites.specs.Events.{Event, filled}
use Rattle.hc_sites.specs.State.{with_event}
use Rattle.hc_sites.specs.declared.cached.CacheWay.{CacheWay}
use Rattle.hc_sites.specs.declared.cached.CacheWay.TheVariants.{Own, Holder, Absent}
use Rattle.hc_sites.specs.declared.state.SiteState.{SiteState}
use Rattle.hc_access.specs.Entries.{is_cached}
use Rattle.hc_access.specs.Notes.{maps_at, notes}
use Rattle.hc_access.specs.Spots.{Place, place_from}

-- the site of a number
abbrev pub site_at : List SiteState → ℕ → Option Site
site_at sites s = option_map (λ state. state.site) (slice_get sites s)

-- events at one site, one after another
abbrev pub with_events : List SiteState → ℕ → List Event → List SiteState
with_events sites s [] = sites
with_events sites s (event ∷ events) = with_events (with_event sites s event) s events

-- How full lookup finds a property

-- where an object is fast
abbrev pub where_fast : Option Dictionary → CacheWay → Option CacheWay
where_fast None way = Some way
where_fast (Some d) way = None

-- a property on the chain may be filled where its holder is fast, and none at all always
abbrev pub way_behind : List (Option Dictionary) → Option Place → Option CacheWay
way_behind kept None = Some Absent
way_behind kept (Some at) = where_fast (kept_of kept at.holder) (Holder at.holder at.place)

abbrev pub own_or_behind : Option ℕ → Option CacheWay → Option CacheWay
own_or_behind (Some i) way = Some (Own i)
own_or_behind None way = way

-- how a load finds a property: the object's own, one of the chain, or none; and none of these where the holder is slow
abbrev pub load_way : {P : Type 0} → ObjectsState P → ℕ → ℕ → Option CacheWay
load_way a o name =
    own_or_behind (place_of (props_at (world_of a) o) name) (way_behind a.kept (place_from a (object (world_of a) o).proto name))

-- a property that holds a value, and is writable
abbrev pub is_writable : Prop → Bool
is_writable p = is_datum p.held && not (is_read_only p.attrs)

abbrev pub if_writable : Option ℕ → Option Prop → Option ℕ
if_writable place (Some p) = if is_writable p then place else None
if_writable place None = None

-- where an object has such a property of its own
abbrev pub writable_place : World → ℕ → ℕ → Option ℕ
writable_place w o name = if_writable (place_of (props_at w o) name) (property_of (props_at w o) name)

-- What full lookup fills

-- an own property needs no cell
abbrev pub fills_own : ℕ → ℕ → List Event
fills_own m i = filled (record { map = m; way = Own i; cell = None }) ∷ []

-- the cell of a prototype: the valid one that it has, and else a new one, as long as there is room
abbrev pub or_new : View → Option ℕ → Option ℕ
or_new v (Some c) = Some c
or_new v None = if nat_lt v.used.cells v.shape.cells then Some v.used.cells else None

abbrev pub cell_given : View → ℕ → Option ℕ
cell_given v p = or_new v (named_cell v.trail p)

-- where there is no cell left the entry stays as it was
abbrev pub fills_with : ℕ → CacheWay → Option ℕ → List Event
fills_with m way None = []
fills_with m way (Some c) = filled (record { map = m; way = way; cell = Some c }) ∷ []

-- behind a map with this prototype, and with none
abbrev pub fills_behind : View → ℕ → Option ℕ → CacheWay → List Event
fills_behind v m None way = filled (record { map = m; way = way; cell = None }) ∷ []
fills_behind v m (Some p) way = fills_with m way (cell_given v p)

abbrev pub fills_by : View → ℕ → Option ℕ → Option CacheWay → List Event
fills_by v m proto None = []
fills_by v m proto (Some (Own i)) = fills_own m i
fills_by v m proto (Some (Holder h i)) = fills_behind v m proto (Holder h i)
fills_by v m proto (Some Absent) = fills_behind v m proto Absent

-- a load
abbrev pub load_fills : {P : Type 0} → ObjectsState P → ℕ → ℕ → ℕ → List Event
load_fills a o name m = fills_by a.heap.view m (object (world_of a) o).proto (load_way a o name)

abbrev pub fills_at : ℕ → Option ℕ → List Event
fills_at m (Some i) = fills_own m i
fills_at m None = []

-- a store: a writable property of the object's own, as it was before
abbrev pub store_fills : {P : Type 0} → ObjectsState P → ℕ → ℕ → ℕ → List Event
store_fills a o name m = fills_at m (writable_place (world_of a) o name)

-- What happens at the site

-- the receiver's map is noted. At a slow receiver nothing happens
abbrev pub notes_for : Option ℕ → (ℕ → List Event) → List Event
notes_for None noting = []
notes_for (Some m) noting = noting m

abbrev pub note_events : {P : Type 0} → ObjectsState P → List SiteState → ℕ → ℕ → List Event
note_events a sites s o = notes_for (map_in a.heap.view.trail o) (notes a.heap.view.trail (maps_at sites s))

-- the inline cache stays as it is where it answers
abbrev pub unless_cached : Bool → List Event → List Event
unless_cached true events = []
unless_cached false events = events

-- and else it is filled. At a slow receiver it stays as it is too
abbrev pub fills_for : Option ℕ → Bool → (ℕ → List Event) → List Event
fills_for None cached fills = []
fills_for (Some m) cached fills = unless_cached cached (fills m)

abbrev pub load_events : {P : Type 0} → ObjectsState P → List SiteState → ℕ → ℕ → ℕ → List Event
load_events a sites s o name =
    note_events a sites s o ++ fills_for (map_in a.heap.view.trail o) (is_cached a.heap.view.trail sites s o) (load_fills a o name)

abbrev pub store_events : {P : Type 0} → ObjectsState P → List SiteState → ℕ → ℕ → ℕ → List Event
store_events a sites s o name =
    note_events a sites s o ++ fills_for (map_in a.heap.view.trail o) (is_cached a.heap.view.trail sites s o) (store_fills a o name)

-- by the site's operation
abbrev pub events_at : {P : Type 0} → ObjectsState P → List SiteState → ℕ → ℕ → Op → ℕ → List Event
events_at a sites s o Load name = load_events a sites s o name
events_at a sites s o Store name = store_events a sites s o name

-- What becomes of the objects

-- a cell was asked for: it was there, or one was made, and nothing else was written
pub record AskedCell {P : Type 0} (went : P → List Access → List Access → P → Type 0) (a b : ObjectsState P) : Type 0 where
  pub only : OnlyCells went a b
  pub proto : ℕ
  pub view : (b.heap.view ≡ a.heap.view) ⊎ (b.heap.view ≡ with_cell a.heap.view proto)

-- nothing was done but loads, and for a cell
abbrev pub Asked : {P : Type 0} → (P → List Access → List Access → P → Type 0) → ObjectsState P → ObjectsState P → Type 0
Asked went a b = IsStill a b ⊎ AskedCell went a b
