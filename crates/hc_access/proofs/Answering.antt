-- What an inline cache's entry answers is what full lookup answers.
use Rattle.std.proofs.Common.{◌≡◌, ℕ, ◌<◌, ◌≤◌, Bool, true, false, cond, eqb, eqb-true, ◌&&◌, Option, Some, None, List, length, refl, sym, ap, ◌∙◌, subst, inl, inr}
use Rattle.std.specs.Prelude.{◌⊎◌, option_map, slice_get}
use Rattle.std.proofs.Math.ListN.{get_or-eq_default}
use Rattle.std.proofs.lemmas.Bool.{cases_lt}
use Rattle.std.proofs.lemmas.Option.{slice_get_within}
use Rattle.hc_value.specs.declared.prop.Prop.{Prop}
use Rattle.hc_heap.specs.Kept.{GatesAreOpen, UnusedSaysNothing}
use Rattle.hc_heap.specs.Readings.{map_in}
use Rattle.hc_heap.specs.Writes.{Trail}
use Rattle.hc_cells.specs.Chains.{chain_from}
use Rattle.hc_table.specs.World.{Object, World, new_object, object, props_at}
use Rattle.hc_ops.specs.Get.{get_reply, read_nearest}
use Rattle.hc_plan.specs.declared.case.Op.TheVariants.{Load, Store}
use Rattle.hc_plan.specs.declared.case.Site.{Site}
use Rattle.hc_sites.specs.State.{cache_at, cache_in}
use Rattle.hc_sites.specs.declared.cached.Cached.{Cached}
use Rattle.hc_sites.specs.declared.cached.CacheWay.{CacheWay}
use Rattle.hc_sites.specs.declared.cached.CacheWay.TheVariants.{Own, Holder, Absent}
use Rattle.hc_sites.specs.declared.state.SiteState.{SiteState}
use Rattle.hc_slots.specs.Cases.{some-is}
use Rattle.hc_modes.specs.Came.{world_of}
use Rattle.hc_modes.specs.State.{IsObjects, ObjectsState}
use Rattle.hc_modes.specs.Validity.{protos_of}
use Rattle.hc_access.specs.Accesses.{site_at}
use Rattle.hc_access.specs.Entries.{AreGood, IsGoodEntry, IsGoodWay, is_unbroken, names_map}
use Rattle.hc_access.specs.Ways.{IsWayThere, IsWritableAt, read_property, reply_by, way_for}
use Rattle.hc_access.proofs.Chained.{among-placed}
use Rattle.hc_access.proofs.Keeping.{AreTold}
use Rattle.hc_access.proofs.Places.{place-stands}
use Rattle.hc_access.proofs.Uses.{found-now, lacks-at, nearest-holder, nearest-nowhere, nearest-own, own-at}
use Rattle.hc_access.proofs.Writing.{own-writable}

-- an object that has a property is there
pub holder-there : (w : World) (h i : ℕ) (p : Prop) → slice_get (props_at w h) i ≡ Some p → h < length w
holder-there w h i p at = by (cases_lt h (length w))
  where
    by : (h < length w) ⊎ (length w ≤ h) → h < length w
    by (inl lt) = lt
    by (inr le) =
        let none : object w h ≡ new_object None = get_or-eq_default w (new_object None) le in
        let n : None ≡ Some p = sym (ap (λ (x : Object). slice_get x.props i) none) ∙ at in
        let f : ⊥ = cc in absurd f

-- When an entry may be used

-- an entry that may be used names the map, and its cell isn't broken
pub record IsUsable (t : Trail) (entry : Option Cached) (m : ℕ) (way : CacheWay) : Type 0 where
  pub cached : Cached
  pub is : entry ≡ Some cached
  pub map : cached.map ≡ m
  pub unbroken : is_unbroken t cached.cell ≡ true
  pub way_is : cached.way ≡ way

both-true : (a b : Bool) → (a && b) ≡ true → (a ≡ true) × (b ≡ true)
both-true true true e = (refl, refl)
both-true true false e = let f : ⊥ = cc in absurd f
both-true false b e = let f : ⊥ = cc in absurd f

pub usable : (t : Trail) (entry : Option Cached) (m : ℕ) (way : CacheWay) → way_for t entry m ≡ Some way → IsUsable t entry m way
usable t None m way e = let f : ⊥ = cc in absurd f
usable t (Some c) m way e = by (eqb c.map m && is_unbroken t c.cell) refl e
  where
    by : (b : Bool) → (eqb c.map m && is_unbroken t c.cell) ≡ b → cond b (Some c.way) None ≡ Some way → IsUsable t (Some c) m way
    by true is e = let parts = both-true (eqb c.map m) (is_unbroken t c.cell) is in record { cached = c; is = refl; map = eqb-true c.map m parts.0; unbroken = parts.1; way_is = some-is c.way way e }
    by false is e = let f : ⊥ = cc in absurd f

-- there is a way exactly where the inline cache answers
pub way-cached : (t : Trail) (entry : Option Cached) (m : ℕ) (way : CacheWay) → way_for t entry m ≡ Some way → names_map t entry (Some m) ≡ true
way-cached t None m way e = let f : ⊥ = cc in absurd f
way-cached t (Some c) m way e = by (eqb c.map m && is_unbroken t c.cell) refl e
  where
    by : (b : Bool) → (eqb c.map m && is_unbroken t c.cell) ≡ b → cond b (Some c.way) None ≡ Some way → (eqb c.map m && is_unbroken t c.cell) ≡ true
    by true is e = is
    by false is e = let f : ⊥ = cc in absurd f

pub way-uncached : (t : Trail) (entry : Option Cached) (m : ℕ) → way_for t entry m ≡ None → names_map t entry (Some m) ≡ false
way-uncached t None m e = refl
way-uncached t (Some c) m e = by (eqb c.map m && is_unbroken t c.cell) refl e
  where
    by : (b : Bool) → (eqb c.map m && is_unbroken t c.cell) ≡ b → cond b (Some c.way) None ≡ None → (eqb c.map m && is_unbroken t c.cell) ≡ false
    by false is e = is
    by true is e = let f : ⊥ = cc in absurd f

-- the entry of a site's inline cache is a good one
pub entry-good : {P : Type 0} (s : ObjectsState P) (sites : List SiteState) (k : ℕ) (site : Site) (entry : Cached) → AreGood s sites → site_at sites k ≡ Some site → cache_at sites k ≡ Some entry → IsGoodEntry s site entry
entry-good {P} s sites k site entry good there at = by (slice_get sites k) refl there at
  where
    by : (x : Option SiteState) → slice_get sites k ≡ x → option_map (λ (state : SiteState). state.site) x ≡ Some site → cache_in x ≡ Some entry → IsGoodEntry s site entry
    by None is there at = let f : ⊥ = cc in absurd f
    by (Some state) is there at = subst (λ (x : Site). IsGoodEntry s x entry) (some-is state.site site there) (good k state entry is at)

-- a way leads to a property that is there, and reads what full lookup reads
pub record Answers {P : Type 0} (s : ObjectsState P) (o name : ℕ) (way : CacheWay) : Type 0 where
  pub there : IsWayThere (world_of s) o way
  pub reply : reply_by (world_of s) o way ≡ get_reply (world_of s) o name

module _ {P : Type 0} (gates : GatesAreOpen) (unused : UnusedSaysNothing) (told : AreTold P) (s : ObjectsState P) (sound : IsObjects s.heap.view s.kept s.of_null) where
  way-answers : (o name m : ℕ) (cell : Option ℕ) (way : CacheWay) → o < length (world_of s) → map_in s.heap.view.trail o ≡ Some m → is_unbroken s.heap.view.trail cell ≡ true
      → IsGoodWay s (record { op = Load; name = name }) m cell way → Answers s o name way
  way-answers o name m cell (Own i) lt is ok h =
      let place = own-at gates unused told s sound (record { op = Load; name = name }) o m i is h.first in
      let stands = place-stands (props_at (world_of s) o) name i place in
      record {
        there = slice_get_within (props_at (world_of s) o) i stands.property stands.at;
        reply = ap (read_property o) stands.at ∙ sym (ap (read_nearest o) (nearest-own gates unused told s sound o name i stands.property lt place stands.at));
      }
  way-answers o name m cell (Holder h i) lt is ok found =
      let none = lacks-at gates unused told s sound name o m is found.lacks in
      let on = found-now gates unused told s sound (record { op = Load; name = name }) o m cell (Some (record { holder = h; place = i })) is ok found in
      let placed = among-placed (world_of s) (chain_from s.heap.view.trail (protos_of s) (object (world_of s) o).proto) name (record { holder = h; place = i }) on in
      let stands = place-stands (props_at (world_of s) h) name i placed in
      record {
        there = (holder-there (world_of s) h i stands.property stands.at, slice_get_within (props_at (world_of s) h) i stands.property stands.at);
        reply = ap (read_property o) stands.at ∙ sym (ap (read_nearest o) (nearest-holder gates unused told s sound o name i h stands.property lt none on stands.at));
      }
  way-answers o name m cell Absent lt is ok found =
      let none = lacks-at gates unused told s sound name o m is found.lacks in
      let on = found-now gates unused told s sound (record { op = Load; name = name }) o m cell None is ok found in
      record { there = tt; reply = sym (ap (read_nearest o) (nearest-nowhere gates unused told s sound o name lt none on)) }

  -- the way that the inline cache of a load gives
  pub cached-answers : (sites : List SiteState) (k o name m : ℕ) (way : CacheWay) → o < length (world_of s) → map_in s.heap.view.trail o ≡ Some m → AreGood s sites → site_at sites k ≡ Some (record { op = Load; name = name })
      → way_for s.heap.view.trail (cache_at sites k) m ≡ Some way → Answers s o name way
  cached-answers sites k o name m way lt is good there e =
      let u = usable s.heap.view.trail (cache_at sites k) m way e in
      let fine = entry-good s sites k (record { op = Load; name = name }) u.cached good there u.is in
      subst (λ (x : CacheWay). Answers s o name x) u.way_is
      (way-answers o name m u.cached.cell u.cached.way lt is u.unbroken (subst (λ (x : ℕ). IsGoodWay s (record { op = Load; name = name }) x u.cached.cell u.cached.way) u.map fine))

  -- and of a store: a writable property of the receiver's own
  pub cached-writes : (sites : List SiteState) (k o name m : ℕ) (way : CacheWay) → map_in s.heap.view.trail o ≡ Some m → AreGood s sites → site_at sites k ≡ Some (record { op = Store; name = name })
      → way_for s.heap.view.trail (cache_at sites k) m ≡ Some way → (i : ℕ) × (way ≡ Own i) × IsWritableAt (world_of s) o name i
  cached-writes sites k o name m way is good there e =
      let u = usable s.heap.view.trail (cache_at sites k) m way e in
      let fine = entry-good s sites k (record { op = Store; name = name }) u.cached good there u.is in
      by u.cached.cell way (subst (λ (x : CacheWay). IsGoodWay s (record { op = Store; name = name }) m u.cached.cell x) u.way_is
      (subst (λ (x : ℕ). IsGoodWay s (record { op = Store; name = name }) x u.cached.cell u.cached.way) u.map fine))
    where
      by : (cell : Option ℕ) (x : CacheWay) → IsGoodWay s (record { op = Store; name = name }) m cell x → (i : ℕ) × (x ≡ Own i) × IsWritableAt (world_of s) o name i
      by cell (Own i) h = (i, refl, own-writable gates unused told s sound name o m i is h)
      by cell (Holder h i) found = let e : Store ≡ Load = found.loads in let f : ⊥ = cc in absurd f
      by cell Absent found = let e : Store ≡ Load = found.loads in let f : ⊥ = cc in absurd f
