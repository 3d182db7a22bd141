-- The maps that sites have seen are written.
use Rattle.std.proofs.Common.{◌≡◌, ℕ, zero, suc, Bool, true, false, List, [], ◌∷◌, ◌++◌, Option, Some, None, refl, sym, subst}
use Rattle.std.specs.Prelude.{IsSome, IsSomeAnd, if◌then◌else◌, not, ◌==◌, slice_get, length, nat_le}
use Rattle.std.proofs.lemmas.List.Elements.{All-filter, All-nil, All-push, All-weaker}
use Rattle.hc_board.specs.Trail.{Access}
use Rattle.hc_layout.specs.declared.shape.Shape.{Shape}
use Rattle.hc_layout.specs.declared.words.GateWord.{GateWord}
use Rattle.hc_access.specs.Accesses.{Asked, cell_given, events_at, fills_at, fills_behind, fills_by, fills_for, fills_with, load_fills, load_way, note_events, notes_for, store_fills, unless_cached, with_events, writable_place}
use Rattle.hc_access.specs.Entries.{is_cached}
use Rattle.hc_access.specs.Notes.{forgets, forgets_before, forgets_of, maps_at, notes}
use Rattle.hc_answers.specs.Laws.{AreWritten}
use Rattle.hc_heap.specs.Kept.{FormsAreKept, GoesOn, WrittenIsKept}
use Rattle.hc_heap.specs.Lawful.{Lawful}
use Rattle.hc_heap.specs.Readings.{bits_in, gate_in, map_in}
use Rattle.hc_heap.specs.States.{View}
use Rattle.hc_heap.specs.Writes.{Trail}
use Rattle.hc_modes.specs.Admitting.{FactsStay}
use Rattle.hc_modes.specs.Came.{world_of}
use Rattle.hc_modes.specs.State.{ObjectsState}
use Rattle.hc_modes.specs.Validity.{OnlyCells}
use Rattle.hc_plan.specs.declared.case.Op.{Op}
use Rattle.hc_plan.specs.declared.case.Op.TheVariants.{Load, Store}
use Rattle.hc_plan.specs.declared.case.Site.{Site}
use Rattle.hc_sites.specs.Events.{Event, noted, forgotten, filled, installed, discarded}
use Rattle.hc_sites.specs.Maps.{has_map, with_map}
use Rattle.hc_sites.specs.State.{after_event, new_site, with_event}
use Rattle.hc_sites.specs.declared.cached.CacheWay.{CacheWay}
use Rattle.hc_sites.specs.declared.cached.CacheWay.TheVariants.{Own, Holder, Absent}
use Rattle.hc_sites.specs.declared.state.SiteState.{SiteState}
use Rattle.hc_slots.specs.Cases.{some-is}
use Rattle.hc_table.specs.World.{object}
use Rattle.hc_session.specs.Jobs.{AreSeen}
use mathlib.Core.Logic.{inl, inr}

-- While more is stored

still-some : (x y : Option GateWord) → ((v : GateWord) → x ≡ Some v → y ≡ Some v) → IsSome x → IsSome y
still-some (Some v) y f h = subst (λ (o : Option GateWord). IsSome o) (sym (f v refl)) h
still-some None y f h = let f : ⊥ = cc in absurd f

written-on : (s : Shape) (old new : Trail) (maps : List ℕ) → WrittenIsKept → GoesOn s old new → AreWritten old maps → AreWritten new maps
written-on s old new maps law goes written =
    All-weaker (λ m. IsSome (gate_in old m)) (λ m. IsSome (gate_in new m)) (λ m h. still-some (gate_in old m) (gate_in new m) ((law s old new goes).gate m) h) maps written

pub seen-on : (s : Shape) (old new : Trail) (sites : List SiteState) → WrittenIsKept → GoesOn s old new → AreSeen old sites → AreSeen new sites
seen-on s old new sites law goes seen n state is = written-on s old new state.maps law goes (seen n state is)

-- Events

-- an event that notes a map notes one that is written, and none installs a plan
abbrev pub IsFine : Trail → Event → Type 0
IsFine t (noted m) = IsSome (gate_in t m)
IsFine t (forgotten m) = Unit {0}
IsFine t (filled entry) = Unit {0}
IsFine t (installed plan) = ⊥
IsFine t discarded = Unit {0}

abbrev pub AreFine : Trail → List Event → Type 0
AreFine t [] = Unit {0}
AreFine t (event ∷ events) = IsFine t event × AreFine t events

either-written : (t : Trail) (b : Bool) (xs ys : List ℕ) → AreWritten t xs → AreWritten t ys → AreWritten t (if b then xs else ys)
either-written t true xs ys first second = first
either-written t false xs ys first second = second

map-written : (t : Trail) (maps : List ℕ) (m : ℕ) → AreWritten t maps → IsSome (gate_in t m) → AreWritten t (with_map maps m)
map-written t maps m written h =
    either-written t (has_map maps m) maps (if nat_le 4 (length maps) then maps else maps ++ m ∷ []) written
    (either-written t (nat_le 4 (length maps)) maps (maps ++ m ∷ []) written (All-push (λ k. IsSome (gate_in t k)) maps m written h))

event-written : (t : Trail) (state : SiteState) (event : Event) → IsFine t event → AreWritten t state.maps → AreWritten t (after_event state event).maps
event-written t state (noted m) fine written = map-written t state.maps m written fine
event-written t state (forgotten m) fine written = All-filter (λ other. not (other == m)) (λ k. IsSome (gate_in t k)) state.maps written
event-written t state (filled entry) fine written = written
event-written t state (installed plan) fine written = absurd fine
event-written t state discarded fine written = written

event-seen : (t : Trail) (sites : List SiteState) (s : ℕ) (event : Event) → IsFine t event → AreSeen t sites → (n : ℕ) (state : SiteState) → slice_get (with_event sites s event) n ≡ Some state → AreWritten t state.maps
event-seen t [] s event fine seen n state is = seen n state is
event-seen t (x ∷ xs) zero event fine seen zero state is =
    subst (λ (y : SiteState). AreWritten t y.maps) (some-is (after_event x event) state is) (event-written t x event fine (seen zero x refl))
event-seen t (x ∷ xs) zero event fine seen (suc n) state is = seen (suc n) state is
event-seen t (x ∷ xs) (suc s) event fine seen zero state is = seen zero state is
event-seen t (x ∷ xs) (suc s) event fine seen (suc n) state is = event-seen t xs s event fine (λ k y e. seen (suc k) y e) n state is

pub events-seen : (t : Trail) (sites : List SiteState) (s : ℕ) (events : List Event) → AreFine t events → AreSeen t sites → AreSeen t (with_events sites s events)
events-seen t sites s [] fine seen = seen
events-seen t sites s (event ∷ events) fine seen = events-seen t (with_event sites s event) s events fine.1 (event-seen t sites s event fine.0 seen)

-- a site more, at which nothing happened yet
pub seen-more : (t : Trail) (sites : List SiteState) (site : Site) → AreSeen t sites → AreSeen t (sites ++ new_site site ∷ [])
seen-more t [] site seen zero state is = subst (λ (y : SiteState). AreWritten t y.maps) (some-is (new_site site) state is) (All-nil (λ m. IsSome (gate_in t m)))
seen-more t [] site seen (suc n) state is = let f : ⊥ = cc in absurd f
seen-more t (x ∷ xs) site seen zero state is = seen zero state is
seen-more t (x ∷ xs) site seen (suc n) state is = seen-more t xs site (λ k y e. seen (suc k) y e) n state is

pub seen-where-none : (t : Trail) (sites : List SiteState) → sites ≡ [] → AreSeen t sites
seen-where-none t sites none = subst (λ (xs : List SiteState). AreSeen t xs) (sym none) (λ n state is. let f : ⊥ = cc in absurd f)

-- The events of an access

both-fine : (t : Trail) (xs ys : List Event) → AreFine t xs → AreFine t ys → AreFine t (xs ++ ys)
both-fine t [] ys first second = second
both-fine t (x ∷ xs) ys first second = (first.0, both-fine t xs ys first.1 second)

either-fine : (t : Trail) (b : Bool) (xs ys : List Event) → AreFine t xs → AreFine t ys → AreFine t (if b then xs else ys)
either-fine t true xs ys first second = first
either-fine t false xs ys first second = second

forgets-fine : (t : Trail) (maps : List ℕ) → AreFine t (forgets_of t maps)
forgets-fine t [] = tt
forgets-fine t (m ∷ maps) = both-fine t (forgets t m) (forgets_of t maps) (either-fine t (bits_in t m).deprecated (forgotten m ∷ []) [] (tt, tt) tt) (forgets-fine t maps)

notes-fine : (t : Trail) (maps : List ℕ) (m : ℕ) → IsSome (gate_in t m) → AreFine t (notes t maps m)
notes-fine t maps m written = both-fine t (forgets_before t maps m) (noted m ∷ []) (either-fine t (has_map maps m) [] (forgets_of t maps) tt (forgets-fine t maps)) (written, tt)

behind-fine : (t : Trail) (v : View) (m : ℕ) (proto : Option ℕ) (way : CacheWay) → AreFine t (fills_behind v m proto way)
behind-fine t v m None way = (tt, tt)
behind-fine t v m (Some p) way = by (cell_given v p)
  where
    by : (cell : Option ℕ) → AreFine t (fills_with m way cell)
    by None = tt
    by (Some c) = (tt, tt)

by-fine : (t : Trail) (v : View) (m : ℕ) (proto : Option ℕ) (way : Option CacheWay) → AreFine t (fills_by v m proto way)
by-fine t v m proto None = tt
by-fine t v m proto (Some (Own i)) = (tt, tt)
by-fine t v m proto (Some (Holder h i)) = behind-fine t v m proto (Holder h i)
by-fine t v m proto (Some Absent) = behind-fine t v m proto Absent

at-fine : (t : Trail) (m : ℕ) (place : Option ℕ) → AreFine t (fills_at m place)
at-fine t m (Some i) = (tt, tt)
at-fine t m None = tt

unless-fine : (t : Trail) (cached : Bool) (events : List Event) → AreFine t events → AreFine t (unless_cached cached events)
unless-fine t true events fine = tt
unless-fine t false events fine = fine

fills-fine : (t : Trail) (map : Option ℕ) (cached : Bool) (fills : ℕ → List Event) → ((m : ℕ) → AreFine t (fills m)) → AreFine t (fills_for map cached fills)
fills-fine t None cached fills fine = tt
fills-fine t (Some m) cached fills fine = unless-fine t cached (fills m) (fine m)

-- each map that an object has is written
abbrev pub HaveGates : Trail → Type 0
HaveGates t = (o m : ℕ) → map_in t o ≡ Some m → IsSome (gate_in t m)

some-and : (P : GateWord → Type 0) (x : Option GateWord) → IsSomeAnd x P → IsSome x
some-and P (Some g) h = refl
some-and P None h = absurd h

pub have-gates : FormsAreKept → (s : Shape) (t : Trail) → Lawful s t → HaveGates t
have-gates forms s t lawful o m is = some-and _ (gate_in t m) ((forms s t lawful).object_map o m is).is_open

module _ {P : Type 0} (a : ObjectsState P) (written : HaveGates a.heap.view.trail) (sites : List SiteState) (s o : ℕ) where
  note-fine : AreFine a.heap.view.trail (note_events a sites s o)
  note-fine = by (map_in a.heap.view.trail o) refl
    where
      by : (map : Option ℕ) → map_in a.heap.view.trail o ≡ map → AreFine a.heap.view.trail (notes_for map (notes a.heap.view.trail (maps_at sites s)))
      by None is = tt
      by (Some m) is = notes-fine a.heap.view.trail (maps_at sites s) m (written o m is)

  pub events-fine : (op : Op) (name : ℕ) → AreFine a.heap.view.trail (events_at a sites s o op name)
  events-fine Load name =
      both-fine a.heap.view.trail (note_events a sites s o) (fills_for (map_in a.heap.view.trail o) (is_cached a.heap.view.trail sites s o) (load_fills a o name)) note-fine
      (fills-fine a.heap.view.trail (map_in a.heap.view.trail o) (is_cached a.heap.view.trail sites s o) (load_fills a o name) (λ m. by-fine a.heap.view.trail a.heap.view m (object (world_of a) o).proto (load_way a o name)))
  events-fine Store name =
      both-fine a.heap.view.trail (note_events a sites s o) (fills_for (map_in a.heap.view.trail o) (is_cached a.heap.view.trail sites s o) (store_fills a o name)) note-fine
      (fills-fine a.heap.view.trail (map_in a.heap.view.trail o) (is_cached a.heap.view.trail sites s o) (store_fills a o name) (λ m. at-fine a.heap.view.trail m (writable_place (world_of a) o name)))

  -- once the access is done, and where it lacked memory
  pub access-seen : (op : Op) (name : ℕ) (now : List SiteState) → AreSeen a.heap.view.trail sites → now ≡ with_events sites s (events_at a sites s o op name) → AreSeen a.heap.view.trail now
  access-seen op name now seen is = subst (λ (xs : List SiteState). AreSeen a.heap.view.trail xs) (sym is) (events-seen a.heap.view.trail sites s (events_at a sites s o op name) (events-fine op name) seen)

  pub note-seen : (now : List SiteState) → AreSeen a.heap.view.trail sites → now ≡ with_events sites s (note_events a sites s o) → AreSeen a.heap.view.trail now
  note-seen now seen is = subst (λ (xs : List SiteState). AreSeen a.heap.view.trail xs) (sym is) (events-seen a.heap.view.trail sites s (note_events a sites s o) note-fine seen)

-- a cell may have been asked for
pub asked-seen : {P : Type 0} (went : P → List Access → List Access → P → Type 0) (law : WrittenIsKept) (cells : (x y : ObjectsState P) → OnlyCells went x y → FactsStay x.heap.view.shape x.heap.view.trail y.heap.view.trail) (a b : ObjectsState P) (sites : List SiteState) → Asked went a b → AreSeen a.heap.view.trail sites → AreSeen b.heap.view.trail sites
asked-seen {P} went law cells a b sites (inl still) seen = subst (λ (x : ObjectsState P). AreSeen x.heap.view.trail sites) (sym still.is) seen
asked-seen {P} went law cells a b sites (inr asked) seen = seen-on a.heap.view.shape a.heap.view.trail b.heap.view.trail sites law (cells a b asked.only).goes seen
