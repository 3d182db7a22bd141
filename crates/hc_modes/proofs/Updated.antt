-- A shared map that is dead, and the live one that stands in its place under the same root.
use Rattle.std.proofs.Common.{◌≡◌, ◌≢◌, ℕ, ◌+◌, ◌≤◌, [], false, Option, Some, None, refl, sym, ap, ◌∙◌, subst, arith, true≢false, inl, inr, ⊎_elim}
use Rattle.std.specs.Prelude.{IsTrue}
use Rattle.hc_layout.specs.declared.shape.Shape.{Shape}
use Rattle.hc_heap.specs.Kept.{Adds, DetailsRise}
use Rattle.hc_heap.specs.Lawful.{Lawful, field_from}
use Rattle.hc_heap.specs.Frames.{adds-wider, goes-on-of}
use Rattle.hc_heap.specs.Readings.{bits_in, prototype_in}
use Rattle.hc_heap.specs.States.{View, IsHeap}
use Rattle.hc_heap.specs.Writes.{Trail}
use Rattle.hc_descs.specs.Entries.{count_of}
use Rattle.hc_links.specs.Chains.{links_in}
use Rattle.hc_tree.specs.Details.{DetailsAre, Reshapes}
use Rattle.hc_tree.specs.Dying.{IsDead}
use Rattle.hc_tree.specs.Growth.{root_of}
use Rattle.hc_tree.specs.Kept.{MapsAreKept}
use Rattle.hc_tree.specs.Needs.{IsWithin, arrays_upto, walk_need}
use Rattle.hc_tree.specs.Walking.{IsLiveEnd, with_root_for}
use Rattle.hc_update.specs.Renewing.{IsDoomed}
use Rattle.hc_update.specs.Retargeting.{rooted}
use Rattle.hc_update.specs.Updating.{IsStop, IsUpdated, UpdateGets}
use Rattle.hc_modes.specs.Details.{IsRewalked}
use Rattle.hc_modes.specs.Replaced.{IsInPlace}
use Rattle.hc_modes.specs.Resettled.{HasMovedOn, IsRemade, IsUpdatedFor, marked_view}
use Rattle.hc_modes.specs.Rest.{DeathsAre, MarksBut}
use Rattle.hc_modes.specs.State.{AreRoots}
use Rattle.hc_modes.proofs.Found.{reshapes-touches}
use Rattle.hc_modes.proofs.Gets.{details-on}
use Rattle.hc_modes.proofs.Marking.{marked-already}
use Rattle.hc_modes.proofs.Needing.{arrays-rise}
use Rattle.hc_modes.proofs.Sound.{roots-stay}
use Rattle.hc_modes.proofs.Staying.{later}

-- the map that is live stands in the place of the other
pub updated-remade : (v w : View) (m c n root : ℕ) (proto : Option ℕ) → IsTrue (bits_in v.trail m).unstable → prototype_in v.trail root ≡ Some proto → (it : IsUpdated v w root m n c)
    → IsRemade (IsDoomed v.trail it.end it.count it.stop) (UpdateGets v.trail it.end m it.count it.stop n v.used.fields) v w m c n false proto
updated-remade v w m c n root proto unstable named it = record {
  writes = subst (λ (t : Trail). Adds (Reshapes v.used (IsDoomed v.trail it.end it.count it.stop) (UpdateGets v.trail it.end m it.count it.stop n v.used.fields)) t w.trail) (sym (marked-already v.trail m unstable)) it.renewed.writes;
  shape = it.renewed.shape;
  objects = it.renewed.objects;
  slots = it.renewed.slots;
  dead = it.renewed.dead;
  marks = λ x other stable now. ⊎_elim
      (λ (links : links_in w.trail x ≢ []). inl links)
      (λ (dead : IsDead (IsDoomed v.trail it.end it.count it.stop) w.trail x). inr (record { shared = it.renewed.spares x dead.0; dead = dead.1 }))
      (it.renewed.linked x stable now);
  gate = it.renewed.gate;
  stable = λ no. let f : ⊥ = cc in absurd f;
  fresh = λ no. let f : ⊥ = cc in absurd f;
  prototype = it.renewed.prototype ∙ (it.ended.path.prototype ∙ named);
  keys = it.renewed.keys;
  admits = it.admits;
  tree = it.renewed.tree;
  heap = it.renewed.heap;
}

-- the roots that are named are those of the maps that stand
pub updated-roots : MapsAreKept → DetailsRise → (v w : View) (m c n root : ℕ) (null : Option ℕ) → IsHeap v → IsUpdated v w root m n c → AreRoots v.trail null → AreRoots w.trail null
updated-roots maps details v w m c n root null heap it roots =
    let touches = adds-wider (reshapes-touches v 0 v.used (IsDoomed v.trail it.end it.count it.stop) (UpdateGets v.trail it.end m it.count it.stop n v.used.fields)) it.renewed.writes in
    roots-stay v w.trail 0 null
    (later maps details v.shape v.trail w.trail heap.lawful (goes-on-of v.shape touches (subst (λ (s : Shape). Lawful s w.trail) it.renewed.shape it.renewed.heap.lawful)))
    touches it.renewed.opens roots

-- no more items were handed out than a map for each entry needs
pub updated-needs : (v w : View) (m c n root : ℕ) → IsUpdated v w root m n c → IsWithin (walk_need n) v.used w.used
updated-needs v w m c n root it =
    let few : it.stop ≤ n = omega (arith, it.stopped.within, it.ended.within) in
    let rise : arrays_upto it.stop ≤ arrays_upto n = arrays-rise it.stop n few in
    record {
      maps = omega (arith, it.renewed.maps);
      entries = omega (arith, it.renewed.entries);
      fields = omega (arith, it.renewed.fields);
      links = omega (arith, it.renewed.links);
      slots = omega (arith, it.renewed.slots);
      cells = it.renewed.cells;
      rises = record {
        maps = omega (arith, it.renewed.maps, few);
        entries = omega (arith, it.renewed.entries, rise);
        fields = omega (arith, it.renewed.fields, few);
        links = omega (arith, it.renewed.links, few);
        slots = omega (arith, it.renewed.slots);
      };
    }

-- a map that is unstable stays so, and its root is known: nothing is stored before the walk
pub rooted-same : (v : View) (m root : ℕ) (proto null : Option ℕ) → IsTrue (bits_in v.trail m).unstable → root_of v.trail proto null ≡ Some root → rooted (marked_view v m) null proto root ≡ v.trail
rooted-same v m root proto null unstable known =
    ap (λ (t : Trail). with_root_for (root_of t proto null) t proto root) (marked-already v.trail m unstable)
    ∙ ap (λ (r : Option ℕ). with_root_for r v.trail proto root) known

module _ (v x : View) (o m n root : ℕ) (proto null : Option ℕ) (unstable : IsTrue (bits_in v.trail m).unstable) (known : root_of v.trail proto null ≡ Some root) (named : prototype_in v.trail root ≡ Some proto) (count : count_of v.trail m ≡ n)
    (it : IsUpdatedFor v x o m n root) where
  abbrev pub before : Trail
  before = rooted (marked_view v m) null proto root

  pub same : before ≡ v.trail
  same = rooted-same v m root proto null unstable known

  abbrev pub updated-moved : HasMovedOn (IsDoomed v.trail it.made.end it.made.count it.made.stop) (UpdateGets v.trail it.made.end m it.made.count it.made.stop n v.used.fields) v x o m n false proto
  updated-moved = record { mid = it.mid; map = it.map; made = updated-remade v it.mid m it.map n root proto unstable named it.made; come = it.come }

  abbrev pub updated-walked : DeathsAre (IsDoomed v.trail it.made.end it.made.count it.made.stop) v.trail x.trail → IsRewalked v null m proto x.trail
  updated-walked deaths = record {
    root = root;
    end = it.made.end;
    count = it.made.count;
    stop = it.made.stop;
    ended = subst (λ (t : Trail). IsLiveEnd t root m (count_of v.trail m) it.made.end it.made.count) (sym same) (subst (λ (k : ℕ). IsLiveEnd v.trail root m k it.made.end it.made.count) (sym count) it.made.ended);
    stopped = subst (λ (t : Trail). IsStop t it.made.end m it.made.count it.made.stop) (sym same) it.made.stopped;
    details = subst (λ (t : Trail). DetailsAre (UpdateGets t it.made.end m it.made.count it.made.stop (count_of v.trail m) v.used.fields) v.trail x.trail) (sym same)
        (subst (λ (k : ℕ). DetailsAre (UpdateGets v.trail it.made.end m it.made.count it.made.stop k v.used.fields) v.trail x.trail) (sym count) (details-on it.made.renewed.details it.come.same.details));
    deaths = subst (λ (t : Trail). DeathsAre (IsDoomed t it.made.end it.made.count it.made.stop) v.trail x.trail) (sym same) deaths;
  }

  pub updated-marks : MarksBut (IsDoomed v.trail it.made.end it.made.count it.made.stop) v.trail x.trail o → MarksBut (IsDoomed before it.made.end it.made.count it.made.stop) v.trail x.trail o
  updated-marks marks = subst (λ (t : Trail). MarksBut (IsDoomed t it.made.end it.made.count it.made.stop) v.trail x.trail o) (sym same) marks

  base-same : (b : Option ℕ) (k : ℕ) → field_from x.trail b k ≡ field_from it.mid.trail b k
  base-same (Some e) k = it.come.same.references (e + k)
  base-same None k = refl

  pub updated-place : IsInPlace v.trail x.trail m (count_of v.trail m) it.made.end it.made.count it.made.stop proto it.map
  updated-place = subst (λ (k : ℕ). IsInPlace v.trail x.trail m k it.made.end it.made.count it.made.stop proto it.map) (sym count) (record {
    gate = it.come.same.gates it.map ∙ it.made.renewed.gate;
    live = it.come.same.lives it.map ∙ it.made.renewed.live;
    prototype = it.come.prototypes it.map ∙ (it.made.renewed.prototype ∙ (it.made.ended.path.prototype ∙ named));
    keys = λ k lt. it.come.keys it.map k ∙ it.made.renewed.keys k lt;
    shared = λ k lt. ap (λ (b : Option ℕ). field_from x.trail b k) (it.come.same.bases it.map) ∙ (base-same _ k ∙ it.made.renewed.shared k lt);
    made = λ k lt. it.come.details it.map k ∙ it.made.details k lt;
  })

  pub updated-within : IsWithin (walk_need (count_of v.trail m)) v.used x.used
  updated-within = subst (λ (k : ℕ). IsWithin (walk_need k) v.used x.used) (sym count)
      (subst (λ (s : Shape). IsWithin (walk_need n) v.used s) (sym (ap (λ (y : View). y.used) it.come.view)) (updated-needs v it.mid m it.map n root it.made))

  -- it is another map: the first one is dead
  pub updated-other : IsTrue (bits_in v.trail m).deprecated → (IsTrue (bits_in v.trail m).deprecated → IsTrue (bits_in x.trail m).deprecated) → it.map ≢ m
  updated-other dead stays is = true≢false (sym (stays dead) ∙ (ap (λ (k : ℕ). (bits_in x.trail k).deprecated) (sym is) ∙ (it.come.same.lives it.map ∙ it.made.renewed.live)))
