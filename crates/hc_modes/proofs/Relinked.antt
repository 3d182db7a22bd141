-- An object with a shared map comes to the one with another prototype and the same keys.
use Rattle.std.proofs.Common.{◌≡◌, ◌≢◌, ℕ, ◌<◌, [], ◌++◌, Bool, true, false, cond, eqb, Option, Some, None, refl, sym, ap, ◌∙◌, subst, inl, inr, ⊎_elim}
use Rattle.std.specs.Prelude.{IsSome}
use Rattle.hc_layout.specs.declared.shape.Shape.{Shape}
use Rattle.hc_layout.specs.declared.words.GateWord.{GateWord}
use Rattle.hc_layout.specs.declared.words.MapBits.{MapBits}
use Rattle.hc_value.specs.declared.field.Detail.{Detail}
use Rattle.hc_heap.specs.Writes.{Trail}
use Rattle.hc_heap.specs.Readings.{gate_in, map_in, prototype_in, root_in}
use Rattle.hc_heap.specs.Lawful.{Lawful}
use Rattle.hc_heap.specs.Kept.{DetailsRise, GatesAreOpen, SetIsKept}
use Rattle.hc_heap.specs.Frames.{adds-on, adds-wider, goes-on-of}
use Rattle.hc_heap.specs.States.{View, IsHeap}
use Rattle.hc_descs.specs.Entries.{detail_at, key_at}
use Rattle.hc_links.specs.Chains.{links_in}
use Rattle.hc_tree.specs.Details.{NoMap}
use Rattle.hc_tree.specs.Dying.{IsDead}
use Rattle.hc_tree.specs.Tree.{gate_with}
use Rattle.hc_tree.specs.Kept.{MapsAreKept}
use Rattle.hc_tree.specs.Growth.{marked, root_of, root_need, with_named_root, with_root}
use Rattle.hc_tree.specs.Walking.{with_root_for}
use Rattle.hc_update.specs.Renewing.{IsDoomed}
use Rattle.hc_update.specs.Retargeting.{HasMapFor, rooted}
use Rattle.hc_update.specs.Updating.{UpdateGets}
use Rattle.hc_modes.specs.Resettled.{HasCome, IsRemade, marked_view}
use Rattle.hc_modes.specs.State.{AreRoots}
use Rattle.hc_slots.specs.Fast.{IsFast}
use Rattle.hc_modes.specs.Changes.{ChangedBut}
use Rattle.hc_modes.specs.Linking.{IsRelinked, shared_need}
use Rattle.hc_modes.specs.Modes.{IsWithin, both, walk_need}
use Rattle.hc_modes.proofs.Found.{reshapes-touches}
use Rattle.hc_modes.proofs.Left.{marked-same}
use Rattle.hc_slots.specs.Cases.{not-both, some-is, some-of}
use Rattle.hc_modes.proofs.Marking.{bits-marked}
use Rattle.hc_modes.proofs.Remade.{came-begins, came-changed, came-dead, came-linked, came-protos, came-resettled, came-roots, came-unstable}
use Rattle.hc_modes.specs.Rest.{DeathsAre}
use Rattle.hc_modes.proofs.Sound.{is-later, roots-stay}
use Rattle.hc_modes.proofs.Sparing.{deaths-of}
use Rattle.hc_modes.proofs.Staying.{IsLater, later}
use Rattle.hc_modes.proofs.Touching.{map-marked}

-- A map that is made unstable

root-bits : (t : Trail) (m : ℕ) (proto null : Option ℕ) → root_of (marked t m) proto null ≡ root_of t proto null
root-bits t m None null = refl
root-bits t m (Some q) null = marked-same t m (λ (x : Trail). (root_in x q).map) (λ b. refl)

pub marked-need : (t : Trail) (m n : ℕ) (proto null : Option ℕ) → shared_need (marked t m) n proto null ≡ shared_need t n proto null
marked-need t m n proto null = ap (λ (r : Option ℕ). both (walk_need n) (root_need r)) (root-bits t m proto null)

pub marked-roots : MapsAreKept → DetailsRise → (v : View) (m : ℕ) (null : Option ℕ) → IsHeap v → IsHeap (marked_view v m) → AreRoots v.trail null → AreRoots (marked v.trail m) null
marked-roots maps details v m null heap then_heap roots =
    let touches = map-marked NoMap v 0 v.trail m in
    let on : IsLater v.trail (marked v.trail m) = later maps details v.shape v.trail (marked v.trail m) heap.lawful (goes-on-of v.shape touches then_heap.lawful) in
    roots-stay v (marked v.trail m) 0 null on touches
    (λ k g none is shared parent. not-both (gate_in v.trail k) g none (sym (marked-same v.trail m (λ (t : Trail). gate_in t k) (λ b. refl)) ∙ is)) roots

-- after the root of a prototype was made, the maps are there that were
gate-there : (r x : ℕ) (was : Option GateWord) → IsSome was → (b : Bool) → IsSome (cond b (Some (gate_with 0 false)) was)
gate-there r x was there true = refl
gate-there r x was there false = there

root-there : (t : Trail) (known proto : Option ℕ) (r x : ℕ) → IsSome (gate_in t x) → IsSome (gate_in (with_root_for known t proto r) x)
root-there t (Some k) proto r x there = there
root-there t None proto r x there = by proto
  where
    made : (p : Option ℕ) → IsSome (gate_in (with_root t p r) x)
    made p = gate-there r x (gate_in t x) there (eqb r x)

    by : (p : Option ℕ) → IsSome (gate_in (with_named_root t p r) x)
    by (Some o) = made (Some o)
    by None = made None

-- The other map is there, and the object comes to it

module _ (maps : MapsAreKept) (details : DetailsRise) (set : SetIsKept) (v w : View) (null then_null proto : Option ℕ) (m c n : ℕ) (heap : IsHeap v) (is_open : gate_in v.trail m ≡ Some (gate_with n false)) (found : HasMapFor (marked_view v m) w null then_null m c n proto) where
  abbrev Dies : ℕ → Type 0
  Dies = IsDoomed (rooted (marked_view v m) null proto found.root) found.found.end found.found.count found.found.stop

  abbrev Gets : ℕ → Detail → Type 0
  Gets = UpdateGets (rooted (marked_view v m) null proto found.root) found.found.end m found.found.count found.found.stop n v.used.fields

  found-later : IsLater v.trail w.trail
  found-later = later maps details v.shape v.trail w.trail heap.lawful
      (goes-on-of v.shape (adds-on (map-marked Dies v 0 v.trail m) (adds-wider (reshapes-touches v 0 v.used Dies Gets) found.found.writes))
      (subst (λ (s : Shape). Lawful s w.trail) found.found.shape found.found.heap.lawful))

  kept-key : (k : ℕ) → k < n → key_at w.trail m k ≡ key_at v.trail m k
  kept-key k lt = (found-later.maps.entry m k (gate_with n false) is_open lt).key

  rooted-there : (x : ℕ) → IsSome (gate_in v.trail x) → IsSome (gate_in (rooted (marked_view v m) null proto found.root) x)
  rooted-there x there = root-there (marked v.trail m) (root_of (marked v.trail m) proto null) proto found.root x (subst IsSome (sym (marked-same v.trail m (λ (t : Trail). gate_in t x) (λ b. refl))) there)

  pub found-remade : IsRemade Dies Gets v w m c n false proto
  found-remade = record {
    writes = found.found.writes;
    shape = found.found.shape;
    objects = found.found.objects;
    slots = found.found.slots;
    dead = λ x dies there. found.found.dead x dies (rooted-there x there);
    marks = λ x other stable now. ⊎_elim
        (λ (links : links_in w.trail x ≢ []). inl links)
        (λ (dead : IsDead Dies w.trail x). inr (record { shared = found.found.spares x dead.0; dead = dead.1 }))
        (found.found.linked x (ap (λ (b : MapBits). b.unstable) (bits-marked v.trail m x other) ∙ stable) now);
    gate = found.found.like.gate;
    stable = λ no. let f : ⊥ = cc in absurd f;
    fresh = λ no. let f : ⊥ = cc in absurd f;
    prototype = found.found.like.prototype;
    keys = λ k lt. found.found.like.keys k lt ∙ kept-key k lt;
    admits = λ k was now lt is then. found.found.admits k was now lt (marked-same v.trail m (λ (t : Trail). detail_at t m k) (λ b. refl) ∙ is) then;
    tree = found.found.tree;
    heap = found.found.heap;
  }

  module _ (o : ℕ) (has : map_in v.trail o ≡ Some m) (fast : IsFast v.trail o m (gate_with n false)) (x : View) (come : HasCome w x o m c n) where
    pub relinked : IsRelinked v x null then_null o m n proto
    relinked = record {
      map = c;
      root = found.root;
      end = found.found.end;
      count = found.found.count;
      stop = found.found.stop;
      changed = came-changed maps details set v w o m c n false proto heap has fast found-remade x come;
      roots = came-roots maps details set v w o m c n false proto heap has fast found-remade x come then_null found.found.roots;
      needs = subst (λ (s : Shape). IsWithin (shared_need v.trail n proto null) v.used s) (sym (ap (λ (y : View). y.used) come.view))
          (subst (λ k. IsWithin k v.used w.used) (marked-need v.trail m n proto null) found.found.needs);
      objects = ap (λ (y : View). y.used.objects) come.view ∙ found.found.objects;
      slots = ap (λ (y : View). y.used.slots) come.view ∙ found.found.slots;
      resettled = came-resettled maps details set v w o m c n false proto heap has fast found-remade x come;
      unstable = came-unstable maps details set v w o m c n false proto heap has fast found-remade x come;
      protos = came-protos maps details set v w o m c n false proto heap has fast found-remade x come;
      more = come.marks.more ++ found-remade.writes.more;
      after = came-begins maps details set v w o m c n false proto heap has fast found-remade x come;
      dead = came-dead maps details set v w o m c n false proto heap has fast found-remade x come;
      marks = came-linked maps details set v w o m c n false proto heap has fast found-remade x come;
    }

    -- exactly those maps died
    pub relinked-deaths : DeathsAre Dies v.trail x.trail
    relinked-deaths = deaths-of v x o
        (came-changed maps details set v w o m c n false proto heap has fast found-remade x come)
        (came-dead maps details set v w o m c n false proto heap has fast found-remade x come)

-- the prototype of a map that the object comes back to
pub proto-before : {Dies : ℕ → Type 0} → MapsAreKept → DetailsRise → GatesAreOpen → (v w : View) (o m k : ℕ) (proto : Option ℕ) (g : GateWord) → IsHeap v → gate_in v.trail m ≡ Some g → ChangedBut Dies v w o → k ≡ m → prototype_in w.trail k ≡ Some proto → prototype_in v.trail m ≡ Some proto
proto-before maps details gates v w o m k proto g heap gate changed is named =
    let was = some-of (prototype_in v.trail m) (gates v.shape v.trail m g heap.lawful gate).prototype in
    let now : prototype_in w.trail m ≡ Some was.0 = (is-later maps details v w o heap changed).maps.written.prototype m was.0 was.1 in
    let same : was.0 ≡ proto = some-is was.0 proto (sym now ∙ subst (λ (x : ℕ). prototype_in w.trail x ≡ Some proto) is named) in
    was.1 ∙ ap (λ (x : Option ℕ). Some x) same
