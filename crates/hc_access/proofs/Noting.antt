-- What notes leave of sites.
use Rattle.std.proofs.Common.{◌≡◌, ◌≤◌, ◌+◌, ℕ, zero, suc, ◌<◌, Bool, true, false, cond, eqb, ◌||◌, List, [], ◌∷◌, ◌++◌, append-nil, get_or, length, take, Option, Some, None, refl, sym, ap, ◌∙◌, subst, arith, inl, inr}
use Rattle.std.specs.List.{list_any}
use Rattle.std.specs.Prelude.{◌⊎◌, IfSome, option_map, slice_get}
use Rattle.std.proofs.Math.Seq.{take-suc}
use Rattle.std.proofs.lemmas.List.{append_assoc}
use Rattle.hc_board.specs.States.{WriterState}
use Rattle.hc_heap.specs.Readings.{bits_in, map_in}
use Rattle.hc_heap.specs.States.{OnlyLoads}
use Rattle.hc_heap.specs.Writes.{Trail}
use Rattle.hc_modes.specs.Came.{IsStill}
use Rattle.hc_modes.specs.State.{ObjectsState}
use Rattle.hc_sites.specs.Events.{Event, noted, forgotten, filled, installed, discarded}
use Rattle.hc_sites.specs.Maps.{AreMaps, has_map, places}
use Rattle.hc_sites.specs.State.{after_event, feedback_of, with_event}
use Rattle.hc_sites.specs.declared.feedback.Feedback.{Feedback}
use Rattle.hc_sites.specs.declared.state.SiteState.{SiteState}
use Rattle.hc_slots.specs.Cases.{some-is}
use Rattle.hc_access.specs.Accesses.{fills_for, note_events, notes_for, site_at, with_events}
use Rattle.hc_access.specs.Entries.{AreGood, IsGoodEntry, is_cached}
use Rattle.hc_access.specs.Laws.{event-site}
use Rattle.hc_access.specs.Notes.{forgets, forgets_at, forgets_before, forgets_of, maps_at, maps_of, notes}
use Rattle.hc_access.proofs.Happening.{came-by}

-- Events one after another

-- events, and then others
pub events-on : (sites : List SiteState) (k : ℕ) (xs ys : List Event) → with_events sites k (xs ++ ys) ≡ with_events (with_events sites k xs) k ys
events-on sites k [] ys = refl
events-on sites k (x ∷ xs) ys = events-on (with_event sites k x) k xs ys

-- they make no site
event-length : (sites : List SiteState) (k : ℕ) (event : Event) → length (with_event sites k event) ≡ length sites
event-length [] k event = refl
event-length (x ∷ xs) zero event = refl
event-length (x ∷ xs) (suc k) event = ap suc (event-length xs k event)

pub events-length : (sites : List SiteState) (k : ℕ) (events : List Event) → length (with_events sites k events) ≡ length sites
events-length sites k [] = refl
events-length sites k (event ∷ events) = events-length (with_event sites k event) k events ∙ event-length sites k event

-- and leave what each does
pub site-after : (sites : List SiteState) (k n : ℕ) (events : List Event) → site_at (with_events sites k events) n ≡ site_at sites n
site-after sites k n [] = refl
site-after sites k n (event ∷ events) = site-after (with_event sites k event) k n events ∙ event-site sites k n event

-- Notes

-- a map is noted, or forgotten
abbrev IsNote : Event → Type 0
IsNote (noted m) = Unit {0}
IsNote (forgotten m) = Unit {0}
IsNote (filled entry) = ⊥
IsNote (installed plan) = ⊥
IsNote discarded = ⊥

abbrev AreNotes : List Event → Type 0
AreNotes [] = Unit {0}
AreNotes (event ∷ events) = IsNote event × AreNotes events

and-more : (xs ys : List Event) → AreNotes xs → AreNotes ys → AreNotes (xs ++ ys)
and-more [] ys all more = more
and-more (x ∷ xs) ys all more = (all.0, and-more xs ys all.1 more)

forgets-notes : (t : Trail) (m : ℕ) → AreNotes (forgets t m)
forgets-notes t m = by (bits_in t m).deprecated
  where
    by : (b : Bool) → AreNotes (cond b (forgotten m ∷ []) [])
    by true = (tt, tt)
    by false = tt

forgotten-notes : (t : Trail) (maps : List ℕ) → AreNotes (forgets_of t maps)
forgotten-notes t [] = tt
forgotten-notes t (m ∷ maps) = and-more (forgets t m) (forgets_of t maps) (forgets-notes t m) (forgotten-notes t maps)

pub are-notes : (t : Trail) (maps : List ℕ) (m : ℕ) → AreNotes (notes t maps m)
are-notes t maps m = and-more (forgets_before t maps m) (noted m ∷ []) (by (has_map maps m)) (tt, tt)
  where
    by : (b : Bool) → AreNotes (cond b [] (forgets_of t maps))
    by true = tt
    by false = forgotten-notes t maps

-- they leave the entries
module _ {P : Type 0} (s : ObjectsState P) where
  note-leaves : (sites : List SiteState) (k : ℕ) (event : Event) → IsNote event → AreGood s sites → AreGood s (with_event sites k event)
  note-leaves sites k event note good n state entry at is =
      let came = came-by sites k event n state at in
      by event note came.old came.was came.now
    where
      by : (e : Event) → IsNote e → (old : SiteState) → slice_get sites n ≡ Some old → (state ≡ old) ⊎ ((n ≡ k) × (state ≡ after_event old e)) → IsGoodEntry s state.site entry
      by e this old was (inl same) = subst (λ (x : SiteState). IsGoodEntry s x.site entry) (sym same) (good n old entry was (ap (λ (x : SiteState). x.cache) (sym same) ∙ is))
      by (noted m) this old was (inr h) = subst (λ (x : SiteState). IsGoodEntry s x.site entry) (sym h.1) (good n old entry was (ap (λ (x : SiteState). x.cache) (sym h.1) ∙ is))
      by (forgotten m) this old was (inr h) = subst (λ (x : SiteState). IsGoodEntry s x.site entry) (sym h.1) (good n old entry was (ap (λ (x : SiteState). x.cache) (sym h.1) ∙ is))
      by (filled x) this old was (inr h) = absurd this
      by (installed plan) this old was (inr h) = absurd this
      by discarded this old was (inr h) = absurd this

  notes-leave : (sites : List SiteState) (k : ℕ) (events : List Event) → AreNotes events → AreGood s sites → AreGood s (with_events sites k events)
  notes-leave sites k [] all good = good
  notes-leave sites k (event ∷ events) all good = notes-leave (with_event sites k event) k events all.1 (note-leaves sites k event all.0 good)

  pub notes-good : (sites new : List SiteState) (k m : ℕ) (t : Trail) (maps : List ℕ) → new ≡ with_events sites k (notes t maps m) → AreGood s sites → AreGood s new
  notes-good sites new k m t maps is good = subst (λ (xs : List SiteState). AreGood s xs) (sym is) (notes-leave sites k (notes t maps m) (are-notes t maps m) good)

-- Maps in places

-- of a feedback's places those whose maps are deprecated
abbrev pub forgets_in : Trail → List (Option ℕ) → List Event
forgets_in t [] = []
forgets_in t (place ∷ at) = forgets_at t place ++ forgets_in t at

pub in-places : (t : Trail) (maps : List ℕ) → length maps ≤ 4 → forgets_in t (places maps) ≡ forgets_of t maps
in-places t [] le = refl
in-places t (a ∷ []) le = refl
in-places t (a ∷ b ∷ []) le = refl
in-places t (a ∷ b ∷ c ∷ []) le = refl
in-places t (a ∷ b ∷ c ∷ d ∷ []) le = refl
in-places t (a ∷ b ∷ c ∷ d ∷ e ∷ rest) le = absurd (omega (arith, le))

-- the maps that stand in places
abbrev listed : List (Option ℕ) → List ℕ
listed [] = []
listed (None ∷ at) = listed at
listed (Some m ∷ at) = m ∷ listed at

listed-places : (maps : List ℕ) → length maps ≤ 4 → listed (places maps) ≡ maps
listed-places [] le = refl
listed-places (a ∷ []) le = refl
listed-places (a ∷ b ∷ []) le = refl
listed-places (a ∷ b ∷ c ∷ []) le = refl
listed-places (a ∷ b ∷ c ∷ d ∷ []) le = refl
listed-places (a ∷ b ∷ c ∷ d ∷ e ∷ rest) le = absurd (omega (arith, le))

-- a map stands there where the list has it
seen-listed : (f : Option ℕ → Bool) (m : ℕ) → f None ≡ false → ((x : ℕ) → f (Some x) ≡ eqb x m) → (at : List (Option ℕ)) → list_any f at ≡ has_map (listed at) m
seen-listed f m off is [] = refl
seen-listed f m off is (None ∷ at) = ap (λ (b : Bool). b || list_any f at) off ∙ seen-listed f m off is at
seen-listed f m off is (Some x ∷ at) = ap (λ (b : Bool). b || list_any f at) (is x) ∙ ap (λ (b : Bool). eqb x m || b) (seen-listed f m off is at)

pub seen-in : (f : Option ℕ → Bool) (m : ℕ) → f None ≡ false → ((x : ℕ) → f (Some x) ≡ eqb x m) → (maps : List ℕ) → length maps ≤ 4 → list_any f (places maps) ≡ has_map maps m
seen-in f m off is maps le = seen-listed f m off is (places maps) ∙ ap (λ (xs : List ℕ). has_map xs m) (listed-places maps le)

-- the feedback of a site has its maps in places
pub record HasMaps (sites : List SiteState) (s : ℕ) (f : Feedback) : Type 0 where
  pub few : length (maps_at sites s) ≤ 4
  pub are : f.maps ≡ places (maps_at sites s)

pub has-maps : (sites : List SiteState) (s : ℕ) (f : Feedback) → option_map feedback_of (slice_get sites s) ≡ Some f → IfSome (slice_get sites s) (λ state. AreMaps state.maps) → HasMaps sites s f
has-maps sites s f is maps = by (slice_get sites s) refl is maps
  where
    by : (x : Option SiteState) → slice_get sites s ≡ x → option_map feedback_of x ≡ Some f → IfSome x (λ state. AreMaps state.maps) → HasMaps sites s f
    by None at is maps = let n : ⊥ = cc in absurd n
    by (Some state) at is maps =
        let there : maps_at sites s ≡ state.maps = ap maps_of at in
        let same : feedback_of state ≡ f = some-is (feedback_of state) f is in
        record {
          few = subst (λ (xs : List ℕ). length xs ≤ 4) (sym there) maps.few;
          are = sym (ap (λ (x : Feedback). x.maps) same) ∙ ap places (sym there);
        }

-- a place more
forgets-more : (t : Trail) (xs ys : List (Option ℕ)) → forgets_in t (xs ++ ys) ≡ forgets_in t xs ++ forgets_in t ys
forgets-more t [] ys = refl
forgets-more t (x ∷ xs) ys =
    ap (λ (events : List Event). forgets_at t x ++ events) (forgets-more t xs ys) ∙ sym (append_assoc (forgets_at t x) (forgets_in t xs) (forgets_in t ys))

pub place-on : (t : Trail) (sites : List SiteState) (k : ℕ) (xs : List (Option ℕ)) (j : ℕ) (d : Option ℕ) → j < length xs → with_events (with_events sites k (forgets_in t (take j xs))) k (forgets_at t (get_or xs j d)) ≡ with_events sites k (forgets_in t (take (j + 1) xs))
place-on t sites k xs j d lt =
    let one : forgets_in t (get_or xs j d ∷ []) ≡ forgets_at t (get_or xs j d) = append-nil (forgets_at t (get_or xs j d)) in
    let next : j + 1 ≡ suc j = omega arith in
    sym (ap (λ (at : List (Option ℕ)). with_events sites k (forgets_in t at)) (ap (λ (n : ℕ). take n xs) next ∙ take-suc xs j d lt)
    ∙ (ap (with_events sites k) (forgets-more t (take j xs) (get_or xs j d ∷ []))
    ∙ (events-on sites k (forgets_in t (take j xs)) (forgets_in t (get_or xs j d ∷ []))
    ∙ ap (with_events (with_events sites k (forgets_in t (take j xs))) k) one)))

-- a test of the places for a map
pub seen-by : (f : Option ℕ → Bool) (r : Bool) (sites : List SiteState) (s : ℕ) (feedback : Feedback) (m : ℕ) → r ≡ list_any f feedback.maps → HasMaps sites s feedback → f None ≡ false → ((x : ℕ) → f (Some x) ≡ eqb x m) → r ≡ has_map (maps_at sites s) m
seen-by f r sites s feedback m value has off is = value ∙ (ap (list_any f) has.are ∙ seen-in f m off is (maps_at sites s) has.few)

-- loads, and then others
pub loads-on : (n m : ℕ) (a b c : WriterState) → OnlyLoads n a b → OnlyLoads m b c → OnlyLoads (n + m) a c
loads-on n m a b c x y = record {
  is = y.is ∙ ap (λ (d : WriterState). record d { loads = c.loads }) x.is;
  least = omega (arith, x.least, y.least);
  most = omega (arith, x.most, y.most);
}

-- where the inline cache didn't answer, the map is noted, and then the cache is filled
pub events-looked : {P : Type 0} (a b : ObjectsState P) (sites mid new : List SiteState) (s o m : ℕ) (fills : ℕ → List Event) → IsStill a b → map_in a.heap.view.trail o ≡ Some m → is_cached a.heap.view.trail sites s o ≡ false
    → mid ≡ with_events sites s (notes b.heap.view.trail (maps_at sites s) m) → new ≡ with_events mid s (fills m) → new ≡ with_events sites s (note_events a sites s o ++ fills_for (map_in a.heap.view.trail o) (is_cached a.heap.view.trail sites s o) fills)
events-looked {P} a b sites mid new s o m fills still has cached is more =
    more
    ∙ (ap (λ (xs : List SiteState). with_events xs s (fills m)) (is ∙ ap (λ (x : ObjectsState P). with_events sites s (notes x.heap.view.trail (maps_at sites s) m)) still.is)
    ∙ by (map_in a.heap.view.trail o) (is_cached a.heap.view.trail sites s o) has cached)
  where
    noting : ℕ → List Event
    noting = notes a.heap.view.trail (maps_at sites s)

    by : (x : Option ℕ) (b : Bool) → x ≡ Some m → b ≡ false → with_events (with_events sites s (noting m)) s (fills m) ≡ with_events sites s (notes_for x noting ++ fills_for x b fills)
    by None b e c = let n : ⊥ = cc in absurd n
    by (Some y) true e c = let n : ⊥ = cc in absurd n
    by (Some y) false e c =
        ap (λ (x : ℕ). with_events (with_events sites s (noting x)) s (fills x)) (sym (some-is y m e)) ∙ sym (events-on sites s (noting y) (fills y))
