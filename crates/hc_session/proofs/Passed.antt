-- An access that a plan, the inline cache or full lookup answers, up to the discards of its end.
use Rattle.std.proofs.Common.{◌≡◌, ℕ, zero, suc, ◌+◌, ◌<◌, ◌≤◌, Ok, Err, Bool, true, false, List, [], ◌∷◌, ◌++◌, length, length-append, append-nil, Option, Some, None, refl, sym, ap, ◌∙◌, subst, arith, min}
use Rattle.std.specs.Prelude.{◌⊎◌, ◌↔◌, OnOk, OnErr, IfOk, IfSome, IsSome, IsSomeAnd, Result, if◌then◌else◌, option_map, slice_get}
use Rattle.hc_board.specs.States.{WriterState, counted, words_of}
use Rattle.hc_board.specs.Trail.{Access}
use Rattle.hc_heap.specs.Kept.{GoesOn, StoresAreWrites}
use Rattle.hc_heap.specs.Readings.{bits_in, map_in}
use Rattle.hc_heap.specs.States.{IsDesk, OnlyLoads, View}
use Rattle.hc_heap.specs.Writes.{Trail, Write}
use Rattle.hc_layout.specs.declared.shape.Shape.{Shape}
use Rattle.hc_cells.specs.Cells.{with_cell}
use Rattle.hc_modes.specs.Came.{world_of}
use Rattle.hc_modes.specs.State.{ObjectsState}
use Rattle.hc_objects.specs.Came.{Came, IsStill, Moves}
use Rattle.hc_objects.specs.Onward.{HasGoneOn}
use Rattle.hc_ops.specs.Act.{Act}
use Rattle.hc_ops.specs.Get.{get_reply}
use Rattle.hc_ops.specs.Set.{set_act}
use Rattle.hc_plan.specs.declared.case.Op.{Op}
use Rattle.hc_plan.specs.declared.case.Op.TheVariants.{Load, Store}
use Rattle.hc_plan.specs.declared.case.Site.{Site}
use Rattle.hc_sites.specs.Events.{Event, noted, forgotten, filled, installed, discarded}
use Rattle.hc_sites.specs.Maps.{has_map}
use Rattle.hc_sites.specs.State.{with_event}
use Rattle.hc_sites.specs.declared.cached.CacheWay.{CacheWay}
use Rattle.hc_sites.specs.declared.cached.CacheWay.TheVariants.{Own, Holder, Absent}
use Rattle.hc_sites.specs.declared.state.SiteState.{SiteState}
use Rattle.hc_soundness.specs.Breaks.{breaks}
use Rattle.hc_table.specs.Changes.{Did, Nothing}
use Rattle.hc_table.specs.Kept.{Kept as Tables}
use Rattle.hc_table.specs.World.{object}
use Rattle.hc_value.specs.declared.memory.Memory.{Memory}
use Rattle.hc_value.specs.declared.reply.Reply.{Reply}
use Rattle.hc_value.specs.declared.value.Value.{Value}
use Rattle.hc_access.specs.Accesses.{Asked, AskedCell, cell_given, events_at, fills_at, fills_behind, fills_by, fills_for, fills_with, load_fills, load_way, note_events, notes_for, site_at, store_fills, unless_cached, with_events, writable_place}
use Rattle.hc_access.specs.Entries.{is_cached}
use Rattle.hc_access.specs.Notes.{forgets, forgets_before, forgets_of, maps_at, notes}
use Rattle.hc_installed.specs.Answers.{IsGiven}
use Rattle.hc_installed.specs.Discards.{plan_count, unbroken_sites}
use Rattle.hc_installed.specs.Installed.{AreInstalled}
use Rattle.hc_installed.specs.Laws.{InstallsNone, OtherEventsAddNoPlan, OtherEventsKeepPlans}
use Rattle.hc_commands.specs.declared.command.Command.TheVariants.{Exec}
use Rattle.hc_report.specs.declared.line.Line.{Line}
use Rattle.hc_session.specs.Asking.{HasAccessed, HasAnswered, HasHit, HasMissed, HasPassed, IsQuick, IsReady}
use Rattle.hc_session.specs.Plans.{Chosen, by_plan, by_cache, by_lookup}
use Rattle.hc_session.specs.Serving.{way_line}
use Rattle.hc_session.specs.Standing.{tables_of}
use Rattle.hc_session.specs.State.{NotedInWant}
use Rattle.hc_session.specs.Tables.{names_among, says}
use Rattle.hc_session.specs.Using.{MovesInWant}
use Rattle.hc_session.proofs.Asked.{left-at, loads-on, loads-within}
use Rattle.hc_session.proofs.Answering.{noted-by, store-accepted}
use Rattle.hc_session.proofs.Readied.{live-tables}
use Rattle.hc_session.proofs.Uses.{moves-last}
use mathlib.Core.Logic.{inl, inr}

-- The events of an access install no plan

abbrev AreOther : List Event → Type 0
AreOther [] = Unit {0}
AreOther (event ∷ events) = InstallsNone event × AreOther events

both-other : (xs ys : List Event) → AreOther xs → AreOther ys → AreOther (xs ++ ys)
both-other [] ys first second = second
both-other (x ∷ xs) ys first second = (first.0, both-other xs ys first.1 second)

either-other : (b : Bool) (xs ys : List Event) → AreOther xs → AreOther ys → AreOther (if b then xs else ys)
either-other true xs ys first second = first
either-other false xs ys first second = second

forgets-other : (t : Trail) (maps : List ℕ) → AreOther (forgets_of t maps)
forgets-other t [] = tt
forgets-other t (m ∷ maps) = both-other (forgets t m) (forgets_of t maps) (either-other (bits_in t m).deprecated (forgotten m ∷ []) [] (tt, tt) tt) (forgets-other t maps)

notes-other : (t : Trail) (maps : List ℕ) (m : ℕ) → AreOther (notes t maps m)
notes-other t maps m = both-other (forgets_before t maps m) (noted m ∷ []) (either-other (has_map maps m) [] (forgets_of t maps) tt (forgets-other t maps)) (tt, tt)

with-other : (m : ℕ) (way : CacheWay) (cell : Option ℕ) → AreOther (fills_with m way cell)
with-other m way None = tt
with-other m way (Some c) = (tt, tt)

behind-other : (v : View) (m : ℕ) (proto : Option ℕ) (way : CacheWay) → AreOther (fills_behind v m proto way)
behind-other v m None way = (tt, tt)
behind-other v m (Some p) way = with-other m way (cell_given v p)

by-other : (v : View) (m : ℕ) (proto : Option ℕ) (way : Option CacheWay) → AreOther (fills_by v m proto way)
by-other v m proto None = tt
by-other v m proto (Some (Own i)) = (tt, tt)
by-other v m proto (Some (Holder h i)) = behind-other v m proto (Holder h i)
by-other v m proto (Some Absent) = behind-other v m proto Absent

at-other : (m : ℕ) (place : Option ℕ) → AreOther (fills_at m place)
at-other m (Some i) = (tt, tt)
at-other m None = tt

unless-other : (cached : Bool) (events : List Event) → AreOther events → AreOther (unless_cached cached events)
unless-other true events other = tt
unless-other false events other = other

fills-other : (map : Option ℕ) (cached : Bool) (fills : ℕ → List Event) → ((m : ℕ) → AreOther (fills m)) → AreOther (fills_for map cached fills)
fills-other None cached fills other = tt
fills-other (Some m) cached fills other = unless-other cached (fills m) (other m)

noting-other : (t : Trail) (maps : List ℕ) (map : Option ℕ) → AreOther (notes_for map (notes t maps))
noting-other t maps None = tt
noting-other t maps (Some m) = notes-other t maps m

pub note-other : {P : Type 0} (a : ObjectsState P) (sites : List SiteState) (s o : ℕ) → AreOther (note_events a sites s o)
note-other {P} a sites s o = noting-other a.heap.view.trail (maps_at sites s) (map_in a.heap.view.trail o)

pub events-other : {P : Type 0} (a : ObjectsState P) (sites : List SiteState) (s o : ℕ) (op : Op) (name : ℕ) → AreOther (events_at a sites s o op name)
events-other {P} a sites s o Load name =
    both-other (note_events a sites s o) (fills_for (map_in a.heap.view.trail o) (is_cached a.heap.view.trail sites s o) (load_fills a o name)) (note-other a sites s o)
    (fills-other (map_in a.heap.view.trail o) (is_cached a.heap.view.trail sites s o) (load_fills a o name) (λ m. by-other a.heap.view m (object (world_of a) o).proto (load_way a o name)))
events-other {P} a sites s o Store name =
    both-other (note_events a sites s o) (fills_for (map_in a.heap.view.trail o) (is_cached a.heap.view.trail sites s o) (store_fills a o name)) (note-other a sites s o)
    (fills-other (map_in a.heap.view.trail o) (is_cached a.heap.view.trail sites s o) (store_fills a o name) (λ m. at-other m (writable_place (world_of a) o name)))

others-keep : OtherEventsKeepPlans → (sh : Shape) (t : Trail) (sites : List SiteState) (s : ℕ) (events : List Event) → AreOther events → AreInstalled sh t sites → AreInstalled sh t (with_events sites s events)
others-keep law sh t sites s [] other are = are
others-keep law sh t sites s (event ∷ events) other are = others-keep law sh t (with_event sites s event) s events other.1 (law sh t sites s event other.0 are)

others-add : OtherEventsAddNoPlan → (sites : List SiteState) (s : ℕ) (events : List Event) → AreOther events → plan_count (with_events sites s events) ≤ plan_count sites
others-add law sites s [] other = omega arith
others-add law sites s (event ∷ events) other = omega (arith, law sites s event other.0, others-add law (with_event sites s event) s events other.1)

-- plans are borne still after an access, and there are no more of them
pub access-keeps : {P : Type 0} (law : OtherEventsKeepPlans) (a : ObjectsState P) (sites now : List SiteState) (s o : ℕ) (op : Op) (name : ℕ) → now ≡ with_events sites s (events_at a sites s o op name) → AreInstalled a.heap.view.shape a.heap.view.trail sites → AreInstalled a.heap.view.shape a.heap.view.trail now
access-keeps {P} law a sites now s o op name is are =
    subst (λ (xs : List SiteState). AreInstalled a.heap.view.shape a.heap.view.trail xs) (sym is) (others-keep law a.heap.view.shape a.heap.view.trail sites s (events_at a sites s o op name) (events-other a sites s o op name) are)

pub access-adds : {P : Type 0} (law : OtherEventsAddNoPlan) (a : ObjectsState P) (sites now : List SiteState) (s o : ℕ) (op : Op) (name : ℕ) → now ≡ with_events sites s (events_at a sites s o op name) → plan_count now ≤ plan_count sites
access-adds {P} law a sites now s o op name is =
    subst (λ (xs : List SiteState). plan_count xs ≤ plan_count sites) (sym is) (others-add law sites s (events_at a sites s o op name) (events-other a sites s o op name))

-- The site

given-at : (Q : Site → Type 0) (state : Option SiteState) (site : Site) → option_map (λ (x : SiteState). x.site) state ≡ Some site → IsSomeAnd state (λ (x : SiteState). Q x.site) → Q site
given-at Q None site is given = absurd given
given-at Q (Some x) site is given = let e : x.site ≡ site = cc in subst Q e given

-- what is true of what it does
pub if-at : (Q : Site → Type 0) (state : Option SiteState) (site : Site) → option_map (λ (x : SiteState). x.site) state ≡ Some site → Q site → IfSome state (λ (x : SiteState). Q x.site)
if-at Q None site is q = tt
if-at Q (Some x) site is q = let e : x.site ≡ site = cc in subst Q (sym e) q

-- a site that loads takes no value, and one that stores takes one
pub takes-none : (op : Op) → op ≡ Load → IsSome {T = Value} None ↔ (op ≡ Store)
takes-none op loads = (λ some. let f : ⊥ = cc in absurd f, λ same. let f : ⊥ = cc in absurd f)

pub takes-some : (op : Op) (v : Value) → op ≡ Store → IsSome (Some v) ↔ (op ≡ Store)
takes-some op v stores = (λ some. stores, λ same. refl)

-- What comes to an access

module _ {P : Type 0} (went : P → List Access → List Access → P → Type 0) where
  ready-world : (a ready : ObjectsState P) (sites now : List SiteState) (log log_now : List (ℕ × Line)) (o : ℕ) → IsReady went a sites log o ready now log_now → world_of ready ≡ world_of a
  ready-world a ready sites now log log_now o is_ready = ap (λ (t : Tables). t.world) (live-tables went a ready o is_ready.made)

  -- By a plan

  module _ (a b : ObjectsState P) (sites now : List SiteState) (log log_now : List (ℕ × Line)) (s o name : ℕ) (reply : Reply) where
    given-to : (site : Site) (value : Option Value) → site_at sites s ≡ Some site → (h : HasAnswered went a sites log s o value reply b now log_now) → IsGiven went h.ready o site.name value reply b
    given-to site value there h =
        given-at (λ (x : Site). IsGiven went h.ready o x.name value reply b) (slice_get now s) site
        (ap (λ (xs : List SiteState). site_at xs s) h.is_ready.sites_are ∙ (left-at h.ready.heap.view.shape (words_of h.ready.heap.desk) sites s ∙ there)) h.hit.given

    pub answered-load : site_at sites s ≡ Some (record { op = Load; name = name }) → HasAnswered went a sites log s o None reply b now log_now → IsQuick 4 a b
        → HasAccessed went a sites log s o (record { op = Load; name = name }) None (says (get_reply (world_of a) o name)) reply b now log_now
    answered-load there h quick =
        let given = given-to (record { op = Load; name = name }) None there h in
        record {
          ready = h.ready;
          sites_ready = now;
          log_ready = h.log_ready;
          is_ready = h.is_ready;
          chosen = by_plan h.hit.number;
          is_chosen = h.hit.is_hit;
          reply_is = given.reply ∙ ap (λ w. get_reply w o name) (ready-world a h.ready sites now log h.log_ready o h.is_ready);
          became = inl given.still;
          sites_are = refl;
          lines_are = h.hit.lines_are;
          installed = h.installed;
          goes = h.goes;
          cheap = λ none. quick;
        }

    pub answered-store : (v : Value) → site_at sites s ≡ Some (record { op = Store; name = name }) → HasAnswered went a sites log s o (Some v) reply b now log_now
        → HasAccessed went a sites log s o (record { op = Store; name = name }) (Some v) (set_act (world_of a) o name v) reply b now log_now
    answered-store v there h =
        let given = given-to (record { op = Store; name = name }) (Some v) there h in
        let same = ready-world a h.ready sites now log h.log_ready o h.is_ready in
        record {
          ready = h.ready;
          sites_ready = now;
          log_ready = h.log_ready;
          is_ready = h.is_ready;
          chosen = by_plan h.hit.number;
          is_chosen = h.hit.is_hit;
          reply_is = given.reply ∙ ap (λ w. (set_act w o name v).reply) same;
          became = inl (subst (λ w. Came went h.ready (set_act w o name v).did b) same given.came);
          sites_are = refl;
          lines_are = h.hit.lines_are;
          installed = h.installed;
          goes = h.goes;
          cheap = λ none. let f : ⊥ = cc in absurd f;
        }

    pub found-load : (found : Option Reply) → found ≡ Some reply → site_at sites s ≡ Some (record { op = Load; name = name }) → IfSome found (λ (r : Reply). HasAnswered went a sites log s o None r b now log_now) → (IsSome found → ◌≡◌ {A = Option Value} None None → IsQuick 4 a b)
        → HasAccessed went a sites log s o (record { op = Load; name = name }) None (says (get_reply (world_of a) o name)) reply b now log_now
    found-load found is there answered quick = answered-load there (subst (λ (x : Option Reply). IfSome x (λ (r : Reply). HasAnswered went a sites log s o None r b now log_now)) is answered) (quick (subst (λ (x : Option Reply). IsSome x) (sym is) refl) refl)

    pub found-store : (given : Option Value) (v : Value) (found : Option Reply) → given ≡ Some v → found ≡ Some reply → site_at sites s ≡ Some (record { op = Store; name = name }) → IfSome found (λ (r : Reply). HasAnswered went a sites log s o given r b now log_now)
        → HasAccessed went a sites log s o (record { op = Store; name = name }) (Some v) (set_act (world_of a) o name v) reply b now log_now
    found-store given v found gives is there answered =
        answered-store v there (subst (λ (y : Option Value). HasAnswered went a sites log s o y reply b now log_now) gives
        (subst (λ (x : Option Reply). IfSome x (λ (r : Reply). HasAnswered went a sites log s o given r b now log_now)) is answered))

  -- By the inline cache, or full lookup

  cheap-cached : (a ready b : WriterState) → (ready.trail ≡ a.trail → OnlyLoads 5 a ready) → OnlyLoads 16 ready b → b.trail ≡ a.trail → OnlyLoads 24 a b
  cheap-cached a ready b first second same =
      loads-within 21 24 a b (omega arith) (loads-on 5 16 a ready b (first (sym (ap (λ (w : WriterState). w.trail) second.is) ∙ same)) second)

  module _ (a ready b : ObjectsState P) (sites mid now : List SiteState) (log log_mid log_now : List (ℕ × Line)) (s o : ℕ) (site : Site) (value : Option Value) (act : Act) (reply : Reply) (miss : HasMissed went a sites log s o value ready mid log_mid) (quick : value ≡ None → IsQuick 5 a ready) (loads : value ≡ None → site.op ≡ Load) where
    passed-by : (cached : Bool) → cached ≡ is_cached ready.heap.view.trail mid s o → (p : HasPassed went ready mid log_mid s o site act reply b now log_now) → p.by_cache ≡ cached → HasAccessed went a sites log s o site value act reply b now log_now
    passed-by true is p same = record {
      ready = ready;
      sites_ready = mid;
      log_ready = log_mid;
      is_ready = miss.is_ready;
      chosen = by_cache;
      is_chosen = (miss.miss, sym is);
      reply_is = p.reply_is;
      became = p.became;
      sites_are = p.sites_are;
      lines_are = p.lines_are ∙ ap (λ (c : Bool). log_mid ++ (counted (length ready.heap.desk.trail), way_line c s) ∷ []) same;
      installed = p.installed;
      goes = p.goes;
      cheap = λ none. cheap-cached a.heap.desk ready.heap.desk b.heap.desk (quick none) (p.quick (loads none) same);
    }
    passed-by false is p same = record {
      ready = ready;
      sites_ready = mid;
      log_ready = log_mid;
      is_ready = miss.is_ready;
      chosen = by_lookup;
      is_chosen = (miss.miss, sym is);
      reply_is = p.reply_is;
      became = p.became;
      sites_are = p.sites_are;
      lines_are = p.lines_are ∙ ap (λ (c : Bool). log_mid ++ (counted (length ready.heap.desk.trail), way_line c s) ∷ []) same;
      installed = p.installed;
      goes = p.goes;
      cheap = λ none. tt;
    }

    passed : HasPassed went ready mid log_mid s o site act reply b now log_now → HasAccessed went a sites log s o site value act reply b now log_now
    passed p = passed-by p.by_cache p.by_is p refl

    pub passed-accessed : (act_then : Act) → act_then ≡ act → HasPassed went ready mid log_mid s o site act_then reply b now log_now → HasAccessed went a sites log s o site value act reply b now log_now
    passed-accessed act_then same p = passed (subst (λ (x : Act). HasPassed went ready mid log_mid s o site x reply b now log_now) same p)

  pub missed-world : (a ready : ObjectsState P) (sites mid : List SiteState) (log log_mid : List (ℕ × Line)) (s o : ℕ) (value : Option Value) → HasMissed went a sites log s o value ready mid log_mid → world_of ready ≡ world_of a
  missed-world a ready sites mid log log_mid s o value miss = ready-world a ready sites mid log log_mid o miss.is_ready

  pub missed-site : (a ready : ObjectsState P) (sites mid : List SiteState) (log log_mid : List (ℕ × Line)) (s o : ℕ) (value : Option Value) → HasMissed went a sites log s o value ready mid log_mid → site_at mid s ≡ site_at sites s
  missed-site a ready sites mid log log_mid s o value miss = ap (λ (xs : List SiteState). site_at xs s) miss.is_ready.sites_are ∙ left-at ready.heap.view.shape (words_of ready.heap.desk) sites s

  -- what a result says of a store that no plan answered

  module _ (a ready b : ObjectsState P) (sites mid now : List SiteState) (log log_mid log_now : List (ℕ × Line)) (s o name : ℕ) (v : Value) (given : Option Value) (gives : given ≡ Some v) (miss : HasMissed went a sites log s o given ready mid log_mid) where
    missed_some : HasMissed went a sites log s o (Some v) ready mid log_mid
    missed_some = subst (λ (y : Option Value). HasMissed went a sites log s o y ready mid log_mid) gives miss

    pub stored-accessed : (r : Result Reply Memory) → IfOk r (λ (reply : Reply). HasPassed went ready mid log_mid s o (record { op = Store; name = name }) (set_act (world_of ready) o name v) reply b now log_now)
        → IfOk r (λ (reply : Reply). HasAccessed went a sites log s o (record { op = Store; name = name }) (Some v) (set_act (world_of a) o name v) reply b now log_now)
    stored-accessed (Ok reply) p =
        passed-accessed a ready b sites mid now log log_mid log_now s o (record { op = Store; name = name }) (Some v) (set_act (world_of a) o name v) reply missed_some (λ none. let f : ⊥ = cc in absurd f) (λ none. let f : ⊥ = cc in absurd f)
        (set_act (world_of ready) o name v) (ap (λ w. set_act w o name v) (missed-world a ready sites mid log log_mid s o given miss)) p
    stored-accessed (Err fault) p = tt

    -- and of want of memory
    pub stored-wants : {R : Type 0} (r : Result R Memory) → OnErr r (Moves went ready b) → OnErr r (MovesInWant went a (o ∷ []) b)
    stored-wants {R} (Ok x) moves = tt
    stored-wants {R} (Err fault) moves = moves-last went a ready b (o ∷ []) (ready, miss.is_ready.made, refl) moves

    pub stored-noted : {R : Type 0} (r : Result R Memory) → site_at sites s ≡ Some (record { op = Store; name = name }) → o < length (world_of a) → names_among (length (world_of a)) v ≡ true → OnErr r (now ≡ with_events mid s (note_events ready mid s o)) → OnErr r (log_now ≡ log_mid)
        → OnErr r (NotedInWant went a sites log (Exec s o (Some v)) now log_now)
    stored-noted {R} (Ok x) there within named sited lined = tt
    stored-noted {R} (Err fault) there within named sited lined =
        noted-by went a sites s o (Some v) (record { op = Store; name = name }) ready mid now log log_mid log_now there (store-accepted a o name v within named) miss.is_ready sited lined

-- A cell that may have been asked for

pub asked-either : {P : Type 0} (went : P → List Access → List Access → P → Type 0) (C : Type 0) (a b : ObjectsState P) → (IsStill a b → C) → (AskedCell went a b → C) → Asked went a b → C
asked-either {P} went C a b first second (inl still) = first still
asked-either {P} went C a b first second (inr asked) = second asked

pub asked-came : {P : Type 0} (went : P → List Access → List Access → P → Type 0) (a b : ObjectsState P) → Asked went a b → Came went a Nothing b ⊎ ((true ≡ true) × (Nothing ≡ Nothing) × AskedCell went a b)
asked-came {P} went a b (inl still) = inl still
asked-came {P} went a b (inr asked) = inr (refl, refl, asked)
