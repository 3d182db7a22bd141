-- What follows where only loads came first.
use Rattle.std.proofs.Common.{◌≡◌, ℕ, zero, suc, ◌<◌, Bool, Option, Some, None, Ok, Err, List, [], ◌∷◌, length, refl, sym, ap, ◌∙◌, subst, inl, inr, arith}
use Rattle.std.specs.Prelude.{◌⊎◌, IsSome, OnOk, OnErr, Result, if◌then◌else◌, slice_get}
use Rattle.hc_board.specs.Trail.{Access}
use Rattle.hc_value.specs.declared.memory.Memory.{Memory}
use Rattle.hc_value.specs.declared.prop.Prop.{Prop}
use Rattle.hc_value.specs.declared.reply.Reply.{Reply}
use Rattle.hc_value.specs.declared.value.Value.{Value}
use Rattle.hc_heap.specs.Kept.{GatesAreOpen, UnusedSaysNothing}
use Rattle.hc_heap.specs.Readings.{map_in, prototype_in}
use Rattle.hc_ops.specs.Set.{set_act}
use Rattle.hc_plan.specs.declared.case.Op.TheVariants.{Load}
use Rattle.hc_plan.specs.declared.case.Site.{Site}
use Rattle.hc_sites.specs.declared.cached.CacheWay.{CacheWay}
use Rattle.hc_sites.specs.declared.cached.CacheWay.TheVariants.{Own, Holder, Absent}
use Rattle.hc_sites.specs.declared.state.SiteState.{SiteState}
use Rattle.hc_slots.specs.Cases.{some-is}
use Rattle.hc_slots.specs.Meaning.{Dictionary, proto_of}
use Rattle.hc_table.specs.Changes.{Did, IsThere, Moved}
use Rattle.hc_table.specs.World.{LeadsToNull, Object, World, object, place_of, props_at}
use Rattle.hc_modes.specs.Laws.{with_loads}
use Rattle.hc_modes.specs.Meaning.{kept_of}
use Rattle.hc_modes.specs.State.{IsObjects, ObjectsState}
use Rattle.hc_objects.specs.Came.{Came, IsStill, world_of}
use Rattle.hc_objects.specs.Laws.{came-before}
use Rattle.hc_access.specs.Accesses.{if_writable, is_writable, load_way, own_or_behind, site_at, way_behind, where_fast, writable_place}
use Rattle.hc_access.specs.Entries.{IsOwn}
use Rattle.hc_access.specs.Spots.{Place, place_from}
use Rattle.hc_access.specs.Ways.{IsSeen, IsWayTo}
use Rattle.hc_access.proofs.Keeping.{AreTold}
use Rattle.hc_access.proofs.Places.{property-at}
use Rattle.hc_access.proofs.Standing.{fast-is, opened}
use Rattle.hc_access.proofs.Uses.{first-at, none-at}

pub still-world : {P : Type 0} (a b : ObjectsState P) → IsStill a b → world_of b ≡ world_of a
still-world {P} a b still = ap (λ (s : ObjectsState P). world_of s) still.is

-- a store
pub set-came : {P : Type 0} (went : P → List Access → List Access → P → Type 0) (a b c : ObjectsState P) (o name : ℕ) (value : Value) → IsStill a b → Came went b (set_act (world_of b) o name value).did c → Came went a (set_act (world_of a) o name value).did c
set-came {P} went a b c o name value still came =
    came-before went a b c (set_act (world_of a) o name value).did still (subst (λ (w : World). Came went b (set_act w o name value).did c) (still-world a b still) came)

pub result-came : {P : Type 0} (went : P → List Access → List Access → P → Type 0) (a b c : ObjectsState P) (o name : ℕ) (value : Value) (r : Result Reply Memory) → IsStill a b → OnOk r (Came went b (set_act (world_of b) o name value).did c) → OnOk r (Came went a (set_act (world_of a) o name value).did c)
result-came {P} went a b c o name value (Ok reply) still came = set-came went a b c o name value still came
result-came {P} went a b c o name value (Err fault) still came = tt

pub moved-came : {P : Type 0} (went : P → List Access → List Access → P → Type 0) (a b c : ObjectsState P) → IsStill a b → Came went b Moved c → Came went a Moved c
moved-came {P} went a b c still came = came-before went a b c Moved still came

pub result-moved : {P : Type 0} (went : P → List Access → List Access → P → Type 0) (a b c : ObjectsState P) (r : Result Reply Memory) → IsStill a b → OnErr r (Came went b Moved c) → OnErr r (Came went a Moved c)
result-moved {P} went a b c (Ok reply) still came = tt
result-moved {P} went a b c (Err fault) still came = moved-came went a b c still came

-- where an own property is writable
pub writable-is : (w : World) (o name i : ℕ) (p : Prop) (b : Bool) → place_of (props_at w o) name ≡ Some i → slice_get (props_at w o) i ≡ Some p → is_writable p ≡ b → writable_place w o name ≡ (if b then Some i else None)
writable-is w o name i p b place at is =
    ap (λ (x : Option Prop). if_writable (place_of (props_at w o) name) x) (property-at (props_at w o) name i p place at)
    ∙ (ap (λ (x : Option ℕ). if is_writable p then x else None) place ∙ ap (λ (x : Bool). if x then Some i else None) is)

-- What full lookup saw

pub seen-loaded : {P : Type 0} (a b : ObjectsState P) (site : Site) (m : ℕ) (proto : Option ℕ) (way : CacheWay) → IsStill a b → IsSeen a site m proto way → IsSeen b site m proto way
seen-loaded {P} a b site m proto way still seen = subst (λ (s : ObjectsState P). IsSeen s site m proto way) (sym still.is) (by way seen.found)
  where
    by : (x : CacheWay) → IsWayTo (place_from a proto site.name) x → IsSeen (with_loads a b.heap.desk.loads) site m proto x
    by (Own i) found = absurd found
    by (Holder h i) found = record { loads = seen.loads; opened = seen.opened; lacks = seen.lacks; prototype = seen.prototype; there = seen.there; found = found }
    by Absent found = record { loads = seen.loads; opened = seen.opened; lacks = seen.lacks; prototype = seen.prototype; there = seen.there; found = found }

there-by : (n : ℕ) (w : World) (p : Option ℕ) → LeadsToNull n w p → IsThere w p
there-by n w None leads = tt
there-by zero w (Some q) leads = absurd leads
there-by (suc n) w (Some q) leads = leads.0

proto-there : (n : ℕ) (w : World) (o : ℕ) → LeadsToNull n w (Some o) → IsThere w (object w o).proto
proto-there zero w o leads = absurd leads
proto-there (suc n) w o leads = there-by n w (object w o).proto leads.1

module _ {P : Type 0} (gates : GatesAreOpen) (unused : UnusedSaysNothing) (told : AreTold P) (s : ObjectsState P) (sound : IsObjects s.heap.view s.kept s.of_null) (o name m : ℕ) (there : o < length (world_of s)) (has : map_in s.heap.view.trail o ≡ Some m) where
  proto-said : (proto : Option (Option ℕ)) → prototype_in s.heap.view.trail m ≡ proto → IsSome proto → prototype_in s.heap.view.trail m ≡ Some (object (world_of s) o).proto
  proto-said None is some = let f : ⊥ = cc in absurd f
  proto-said (Some p) is some = is ∙ ap (λ (x : Option ℕ). Some x) (sym (ap (λ (x : Object). x.proto) (fast-is unused s sound o m has) ∙ ap proto_of is))

  seen-by : (way : CacheWay) → place_of (props_at (world_of s) o) name ≡ None → IsWayTo (place_from s (object (world_of s) o).proto name) way → IsSeen s (record { op = Load; name = name }) m (object (world_of s) o).proto way
  seen-by way none found =
      let open_map = opened unused s sound o m has in
      record {
        loads = refl;
        opened = subst IsSome (sym open_map.is_gate) refl;
        lacks = none-at gates unused told s sound name o m has none;
        prototype = proto-said (prototype_in s.heap.view.trail m) refl (gates s.heap.view.shape s.heap.view.trail m open_map.gate sound.heap.lawful open_map.is_gate).prototype;
        there = proto-there (length (world_of s)) (world_of s) o (sound.sound.sound.chains o there);
        found = found;
      }

  -- the way is the own property, or it was seen behind the map
  pub own-or-seen : (way : CacheWay) → load_way s o name ≡ Some way → ((i : ℕ) × (way ≡ Own i) × (place_of (props_at (world_of s) o) name ≡ Some i)) ⊎ IsSeen s (record { op = Load; name = name }) m (object (world_of s) o).proto way
  own-or-seen way is = by (place_of (props_at (world_of s) o) name) refl is
    where
      fast-by : (d : Option Dictionary) (x y : CacheWay) → where_fast d x ≡ Some y → x ≡ y
      fast-by None x y e = some-is x y e
      fast-by (Some d) x y e = let f : ⊥ = cc in absurd f

      behind-by : place_of (props_at (world_of s) o) name ≡ None → (at : Option Place) → place_from s (object (world_of s) o).proto name ≡ at → way_behind s.kept at ≡ Some way → IsSeen s (record { op = Load; name = name }) m (object (world_of s) o).proto way
      behind-by none None on e = subst (λ (x : CacheWay). IsSeen s (record { op = Load; name = name }) m (object (world_of s) o).proto x) (some-is Absent way e) (seen-by Absent none on)
      behind-by none (Some at) on e = subst (λ (x : CacheWay). IsSeen s (record { op = Load; name = name }) m (object (world_of s) o).proto x) (fast-by (kept_of s.kept at.holder) (Holder at.holder at.place) way e) (seen-by (Holder at.holder at.place) none on)

      by : (x : Option ℕ) → place_of (props_at (world_of s) o) name ≡ x → own_or_behind x (way_behind s.kept (place_from s (object (world_of s) o).proto name)) ≡ Some way
          → ((i : ℕ) × (way ≡ Own i) × (place_of (props_at (world_of s) o) name ≡ Some i)) ⊎ IsSeen s (record { op = Load; name = name }) m (object (world_of s) o).proto way
      by None none e = inr (behind-by none (place_from s (object (world_of s) o).proto name) refl e)
      by (Some i) place e = inl (i, sym (some-is (Own i) way e), place)

  own-same : (i j : ℕ) → Own i ≡ Own j → i ≡ j
  own-same i j e = cc

  -- an own property is an entry of the map
  pub own-way : (i : ℕ) → load_way s o name ≡ Some (Own i) → IsOwn s.heap.view.trail (record { op = Load; name = name }) m i
  own-way i is = by (own-or-seen (Own i) is)
    where
      by : ((j : ℕ) × (Own i ≡ Own j) × (place_of (props_at (world_of s) o) name ≡ Some j)) ⊎ IsSeen s (record { op = Load; name = name }) m (object (world_of s) o).proto (Own i) → IsOwn s.heap.view.trail (record { op = Load; name = name }) m i
      by (inl h) =
          let open_map = opened unused s sound o m has in
          record {
            opened = subst IsSome (sym open_map.is_gate) refl;
            first = first-at gates unused told s sound name o m i has (h.2 ∙ ap Some (sym (own-same i h.0 h.1)));
            key = tt;
          }
      by (inr seen) = absurd seen.found

  -- another way was seen behind it
  pub holder-way : (h i : ℕ) → load_way s o name ≡ Some (Holder h i) → IsSeen s (record { op = Load; name = name }) m (object (world_of s) o).proto (Holder h i)
  holder-way h i is = by (own-or-seen (Holder h i) is)
    where
      by : ((j : ℕ) × (Holder h i ≡ Own j) × (place_of (props_at (world_of s) o) name ≡ Some j)) ⊎ IsSeen s (record { op = Load; name = name }) m (object (world_of s) o).proto (Holder h i) → IsSeen s (record { op = Load; name = name }) m (object (world_of s) o).proto (Holder h i)
      by (inl x) = let e : Holder h i ≡ Own x.0 = x.1 in let f : ⊥ = cc in absurd f
      by (inr seen) = seen

  pub absent-way : load_way s o name ≡ Some Absent → IsSeen s (record { op = Load; name = name }) m (object (world_of s) o).proto Absent
  absent-way is = by (own-or-seen Absent is)
    where
      by : ((j : ℕ) × (Absent ≡ Own j) × (place_of (props_at (world_of s) o) name ≡ Some j)) ⊎ IsSeen s (record { op = Load; name = name }) m (object (world_of s) o).proto Absent → IsSeen s (record { op = Load; name = name }) m (object (world_of s) o).proto Absent
      by (inl x) = let e : Absent ≡ Own x.0 = x.1 in let f : ⊥ = cc in absurd f
      by (inr seen) = seen

-- What results say

pub result-good : {P R : Type 0} (went : P → List Access → List Access → P → Type 0) (a b : ObjectsState P) (did : Did) (C : Type 0) (r : Result R Memory) → ((d : Did) → Came went a d b → C) → OnOk r (Came went a did b) → OnErr r (Came went a Moved b) → C
result-good {P} {R} went a b did C (Ok x) law came moved = law did came
result-good {P} {R} went a b did C (Err fault) law came moved = law Moved moved

pub site-there : (sites : List SiteState) (k : ℕ) (site : Site) → site_at sites k ≡ Some site → k < length sites
site-there [] k site e = let f : ⊥ = cc in absurd f
site-there (x ∷ xs) zero site e = omega arith
site-there (x ∷ xs) (suc k) site e = let lt = site-there xs k site e in omega arith

pub on-err : {R E : Type 0} (r : Result R E) (X : Type 0) → X → OnErr r X
on-err {R} {E} (Ok x) X h = tt
on-err {R} {E} (Err e) X h = h
