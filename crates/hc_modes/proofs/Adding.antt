-- A fast object that gets one property more: what its growth asks, and what becomes of the objects.
use Rattle.std.proofs.Common.{◌≡◌, ◌≢◌, ℕ, ◌<◌, Bool, true, false, List, [], ◌∷◌, ◌++◌, Option, Some, None, length, set, refl, sym, ap, ◌∙◌, subst, arith}
use Rattle.std.specs.Prelude.{IsSomeAnd, IsTrue, ◌↔◌}
use Rattle.hc_layout.specs.declared.capacity.TheConstants.{MAX_FAST}
use Rattle.hc_layout.specs.declared.words.GateWord.{GateWord}
use Rattle.hc_value.specs.declared.field.Detail.{Detail}
use Rattle.hc_value.specs.declared.key.Key.{Key}
use Rattle.hc_value.specs.declared.prop.Prop.{Prop}
use Rattle.hc_heap.specs.Readings.{gate_in, map_in, root_in, detail_in}
use Rattle.hc_heap.specs.Lawful.{IsFormOf, HoldsEntries}
use Rattle.hc_heap.specs.Kept.{DetailsRise, UnusedSaysNothing}
use Rattle.hc_heap.specs.States.{View}
use Rattle.hc_descs.specs.Entries.{key_at, field_at, LacksName, detail_of, detail_at}
use Rattle.hc_tree.specs.Tree.{gate_with}
use Rattle.hc_tree.specs.Kept.{MapsAreKept, TreesStay}
use Rattle.hc_tree.specs.Needs.{HasSpace}
use Rattle.hc_table.specs.Attributes.{IsProper}
use Rattle.hc_table.specs.World.{Object, object, props_at, place_of, with_list, with_added}
use Rattle.hc_table.specs.Changes.{Added}
use Rattle.hc_table.specs.Kept.{ChangesKeep}
use Rattle.hc_slots.specs.Listed.{listed, length-listed, place-absent}
use Rattle.hc_slots.specs.Meaning.{Dictionary, prop_in, prop_of, slot_word}
use Rattle.hc_modes.specs.Meaning.{kept_of, world}
use Rattle.hc_modes.specs.Came.{world_of}
use Rattle.hc_modes.specs.State.{ObjectsState, IsObjects, tables_of}
use Rattle.hc_modes.specs.Changes.{SteppedBut, key_of}
use Rattle.hc_modes.specs.Filling.{GrowthKills, IsMoved, MayGrowBy, with_growth}
use Rattle.hc_modes.specs.Modes.{IsWithin, add_need}
use Rattle.hc_modes.proofs.Operations.{grown-step}
use Rattle.hc_modes.proofs.Shown.{within}
use Rattle.hc_modes.proofs.Needing.{space-of, may-of, within-of, within-same}
use Rattle.hc_slots.specs.Cases.{some-is, some-and}
use Rattle.hc_modes.proofs.Sound.{protos-stay}
use Rattle.hc_modes.proofs.Stepping.{stepped-world, stepped-sound, set-same}
use Rattle.hc_modes.proofs.Writing.{has-map, is-fast, props-are, count-is}

-- what a growth asks of an object
pub record IsReady (v : View) (o m n name : ℕ) : Type 0 where
  pub few : n < MAX_FAST
  pub is_open : gate_in v.trail m ≡ Some (gate_with n false)
  pub holds : HoldsEntries v.trail o m (gate_with n false)
  pub lacks : LacksName v.trail m n name
  pub handed : o < v.used.objects

module _ (v : View) (kept : List (Option Dictionary)) (of_null : Option ℕ) (h : IsObjects v kept of_null) (o : ℕ) (there : o < length kept) (fast : kept_of kept o ≡ None) where
  pub map-is : (m : ℕ) → map_in v.trail o ≡ Some m → (has-map v kept of_null h o there fast).map ≡ m
  map-is m is = some-is (has-map v kept of_null h o there fast).map m (sym (has-map v kept of_null h o there fast).is_map ∙ is)

  pub gate-is : (g : GateWord) (m : ℕ) → map_in v.trail o ≡ Some m → gate_in v.trail m ≡ Some g → (has-map v kept of_null h o there fast).gate ≡ g
  gate-is g m is gate = some-is (has-map v kept of_null h o there fast).gate g (sym (has-map v kept of_null h o there fast).fast.is_open ∙ ap (gate_in v.trail) (map-is m is) ∙ gate)

  -- the map is private exactly where the object is or was a prototype, and isn't locked
  pub its-gate : (own : Bool) → (root_in v.trail o).is_proto ≡ own → gate_in v.trail (has-map v kept of_null h o there fast).map ≡ Some (gate_with (has-map v kept of_null h o there fast).gate.entries own)
  its-gate own is =
      let so = has-map v kept of_null h o there fast in
      let locked : so.gate.is_locked ≡ false = (h.tree.maps so.map so.gate so.fast.is_open).unlocked in
      so.fast.is_open
      ∙ ap (λ (b : Bool). let x : GateWord = record { entries = so.gate.entries; is_private = b; is_locked = so.gate.is_locked } in Some x) (so.fast.private ∙ is)
      ∙ ap (λ (b : Bool). let x : GateWord = record { entries = so.gate.entries; is_private = own; is_locked = b } in Some x) locked

  pub few-entries : length (props_at (world v.trail kept) o) < MAX_FAST → (has-map v kept of_null h o there fast).gate.entries < MAX_FAST
  few-entries few =
      let so = has-map v kept of_null h o there fast in
      let count : length (props_at (world v.trail kept) o) ≡ so.gate.entries =
      ap (λ (ps : List Prop). length ps) (props-are v kept of_null h o there fast)
      ∙ ap (λ (n : ℕ). length (listed (prop_in v.trail o so.map) n)) (count-is v kept of_null h o there fast)
      ∙ length-listed (prop_in v.trail o so.map) so.gate.entries in
      omega (arith, few, count)

  -- no entry has the name
  pub lacks-name : (name : ℕ) → place_of (props_at (world v.trail kept) o) name ≡ None → LacksName v.trail (has-map v kept of_null h o there fast).map (has-map v kept of_null h o there fast).gate.entries name
  lacks-name name absent k lt =
      let so = has-map v kept of_null h o there fast in
      let is : place_of (listed (prop_in v.trail o so.map) so.gate.entries) name ≡ None =
      sym (ap (λ (n : ℕ). place_of (listed (prop_in v.trail o so.map) n) name) (count-is v kept of_null h o there fast))
      ∙ sym (ap (λ (ps : List Prop). place_of ps name) (props-are v kept of_null h o there fast)) ∙ absent in
      let key = some-and (key_at v.trail so.map k) (λ key. IsSomeAnd (field_at v.trail so.map k) (λ f. IsSomeAnd (detail_in v.trail f) (λ d. IsFormOf key.kind d.rep (slot_word v.trail o k)))) (so.fast.holds.slots k lt) in
      let field = some-and (field_at v.trail so.map k) (λ f. IsSomeAnd (detail_in v.trail f) (λ d. IsFormOf key.0.kind d.rep (slot_word v.trail o k))) key.1.1 in
      let d = some-and (detail_in v.trail field.0) (λ d. IsFormOf key.0.kind d.rep (slot_word v.trail o k)) field.1.1 in
      let admits : detail_at v.trail so.map k ≡ Some d.0 = ap (detail_of v.trail) field.1.0 ∙ d.1.0 in
      let named : (prop_in v.trail o so.map k).name ≡ key.0.name =
      ap (λ (x : Option Key). (prop_of x (detail_at v.trail so.map k) (slot_word v.trail o k)).name) key.1.0
      ∙ ap (λ (d : Option Detail). (prop_of (Some key.0) d (slot_word v.trail o k)).name) admits in
      subst (λ (x : Option Key). IsSomeAnd x (λ y. y.name ≢ name)) (sym key.1.0) (λ e. place-absent (prop_in v.trail o so.map) so.gate.entries k name lt is (named ∙ e))

  ready-here : (root_in v.trail o).is_proto ≡ false → length (props_at (world v.trail kept) o) < MAX_FAST → (name : ℕ) → place_of (props_at (world v.trail kept) o) name ≡ None
      → IsReady v o (has-map v kept of_null h o there fast).map (has-map v kept of_null h o there fast).gate.entries name
  ready-here shared few name absent =
      let so = has-map v kept of_null h o there fast in
      record {
        few = few-entries few;
        is_open = its-gate false shared;
        holds = record { capacity = so.fast.holds.capacity; slots = so.fast.holds.slots };
        lacks = lacks-name name absent;
        handed = omega (arith, there, h.items);
      }

  -- its map and gate were read
  module _ (w : View) (m : ℕ) (g : GateWord) (read : w ≡ v) (is : map_in v.trail o ≡ Some m) (gate : gate_in v.trail m ≡ Some g) where
    pub ready : (root_in v.trail o).is_proto ≡ false → length (props_at (world v.trail kept) o) < MAX_FAST → (name : ℕ) → place_of (props_at (world v.trail kept) o) name ≡ None → IsReady w o m g.entries name
    ready shared few name absent =
        subst (λ (x : View). IsReady x o m g.entries name) (sym read)
        (subst (λ (x : GateWord). IsReady v o m x.entries name) (gate-is g m is gate)
        (subst (λ (x : ℕ). IsReady v o x (has-map v kept of_null h o there fast).gate.entries name) (map-is m is) (ready-here shared few name absent)))

    pub moved-there : (x : View) (p : Prop) → IsMoved w x o m g.entries p → IsMoved v x o (has-map v kept of_null h o there fast).map (has-map v kept of_null h o there fast).gate.entries p
    moved-there x p moved =
        subst (λ (y : GateWord). IsMoved v x o (has-map v kept of_null h o there fast).map y.entries p) (sym (gate-is g m is gate))
        (subst (λ (y : ℕ). IsMoved v x o y g.entries p) (sym (map-is m is))
        (subst (λ (y : View). IsMoved y x o m g.entries p) read moved))

  -- the object was moved to a map with one entry more
  module _ (maps : MapsAreKept) (details : DetailsRise) (trees : TreesStay) (unused : UnusedSaysNothing) (keeps : ChangesKeep) (x : View) (p : Prop) (shared : (root_in v.trail o).is_proto ≡ false)
      (moved : IsMoved v x o (has-map v kept of_null h o there fast).map (has-map v kept of_null h o there fast).gate.entries p) where
    alone : (q k : ℕ) (g : GateWord) → q ≢ o → map_in x.trail o ≡ Some k → map_in v.trail q ≡ Some k → gate_in x.trail k ≡ Some g → g.is_private ≡ false
    alone q k g other is was gate =
        let same : moved.child ≡ k = some-is moved.child k (sym moved.moved ∙ is) in
        let gates : moved.grown.gate ≡ g = some-is moved.grown.gate g (sym moved.grown.is_open ∙ ap (gate_in x.trail) same ∙ gate) in
        sym (ap (λ (y : GateWord). y.is_private) gates) ∙ moved.shared

    step : SteppedBut (GrowthKills v.trail (has-map v kept of_null h o there fast).map p) v x None o (with_list (object (world v.trail kept) o) (props_at (world v.trail kept) o ++ p ∷ []))
    step =
        let so = has-map v kept of_null h o there fast in
        subst (λ (y : Object). SteppedBut (GrowthKills v.trail so.map p) v x None o (with_list y (y.props ++ p ∷ []))) (sym (is-fast v kept of_null h o there fast))
        (grown-step maps details trees unused v kept of_null h o so x moved.child (key_of p) moved.detail p.held moved.changed moved.opens
        (h.tree.maps so.map so.gate so.fast.is_open).unlocked moved.grown moved.moved (moved.shared ∙ sym (moved.proto ∙ shared)) moved.room moved.words
        moved.form moved.holds moved.store moved.owns alone)

    same-kept : set kept o None ≡ kept
    same-kept = set-same kept o None there fast

    -- the world has the property
    pub add-world : world x.trail kept ≡ with_added (world v.trail kept) o p
    add-world = subst (λ (ks : List (Option Dictionary)). world x.trail ks ≡ with_added (world v.trail kept) o p) same-kept
        (stepped-world maps details v x kept of_null h None o (with_list (object (world v.trail kept) o) (props_at (world v.trail kept) o ++ p ∷ [])) there step)

    -- what holds of objects holds again
    pub add-sound : place_of (props_at (world v.trail kept) o) p.name ≡ None → IsProper p → IsObjects x kept of_null
    add-sound absent proper = subst (λ (ks : List (Option Dictionary)). IsObjects x ks of_null) same-kept
        (stepped-sound maps details v x kept of_null h None o (with_list (object (world v.trail kept) o) (props_at (world v.trail kept) o ++ p ∷ [])) there step moved.objects
        (keeps (tables_of v kept) (Added o p) h.sound (absent, proper)))

-- a call that adds a property: the object's map and gate were read, and the object grew, or there was no room
module _ {P : Type 0} (a b : ObjectsState P) (o : ℕ) (p : Prop) (same : a ≡ b) (h : IsObjects a.heap.view a.kept a.of_null) (object : o < length (world_of b)) (fast : kept_of b.kept o ≡ None) (shared : (root_in b.heap.view.trail o).is_proto ≡ false)
    (w y : View) (m : ℕ) (g : GateWord) (read : w ≡ a.heap.view) (again : y ≡ w) (is : map_in a.heap.view.trail o ≡ Some m) (gate : gate_in w.trail m ≡ Some g) where
  there : o < length a.kept
  there = within a b o same object

  fast-there : kept_of a.kept o ≡ None
  fast-there = subst (λ (s : ObjectsState P). kept_of s.kept o ≡ None) (sym same) fast

  shared-there : (root_in a.heap.view.trail o).is_proto ≡ false
  shared-there = subst (λ (s : ObjectsState P). (root_in s.heap.view.trail o).is_proto ≡ false) (sym same) shared

  gate-there : gate_in a.heap.view.trail m ≡ Some g
  gate-there = subst (λ (x : View). gate_in x.trail m ≡ Some g) read gate

  absent-there : place_of (props_at (world_of b) o) p.name ≡ None → place_of (props_at (world a.heap.view.trail a.kept) o) p.name ≡ None
  absent-there absent = subst (λ (s : ObjectsState P). place_of (props_at (world_of s) o) p.name ≡ None) (sym same) absent

  pub call-ready : length (props_at (world_of b) o) < MAX_FAST → place_of (props_at (world_of b) o) p.name ≡ None → IsReady y o m g.entries p.name
  call-ready few absent = ready a.heap.view a.kept a.of_null h o there fast-there y m g (again ∙ read) is gate-there shared-there (subst (λ (s : ObjectsState P). length (props_at (world_of s) o) < MAX_FAST) (sym same) few) p.name (absent-there absent)

  -- what holds of objects holds again, and the world has the property where there was room
  module _ (maps : MapsAreKept) (details : DetailsRise) (trees : TreesStay) (unused : UnusedSaysNothing) (keeps : ChangesKeep) (x : View) where
    moved-here : IsMoved y x o m g.entries p → IsMoved a.heap.view x o (has-map a.heap.view a.kept a.of_null h o there fast-there).map (has-map a.heap.view a.kept a.of_null h o there fast-there).gate.entries p
    moved-here moved = moved-there a.heap.view a.kept a.of_null h o there fast-there y m g (again ∙ read) is gate-there x p moved

    pub call-sound : place_of (props_at (world_of b) o) p.name ≡ None → IsProper p → (done : Bool) → (IsTrue done → IsMoved y x o m g.entries p) → (done ≡ false → x ≡ y) → IsObjects x a.kept a.of_null
    call-sound absent proper true moved still = add-sound a.heap.view a.kept a.of_null h o there fast-there maps details trees unused keeps x p shared-there (moved-here (moved refl)) (absent-there absent) proper
    call-sound absent proper false moved still = subst (λ (v : View). IsObjects v a.kept a.of_null) (sym (still refl ∙ again ∙ read)) h

    pub call-world : IsMoved y x o m g.entries p → world x.trail a.kept ≡ with_added (world a.heap.view.trail a.kept) o p
    call-world moved = add-world a.heap.view a.kept a.of_null h o there fast-there maps details trees unused keeps x p shared-there (moved-here moved)

    -- there was room exactly where the need says so, no more was handed out, and no object became a prototype
    module _ (done : Bool) where
      pub call-room : (IsTrue done ↔ MayGrowBy y o m g.entries p) → IsTrue done ↔ HasSpace b.heap.view (add_need b.heap.view.trail o p)
      call-room room = subst (λ (s : ObjectsState P). IsTrue done ↔ HasSpace s.heap.view (add_need s.heap.view.trail o p)) same (
        λ yes. space-of a.heap.view o m g p is gate-there shared-there (subst (λ (v : View). MayGrowBy v o m g.entries p) (again ∙ read) (room.0 yes)),
        λ space. room.1 (subst (λ (v : View). MayGrowBy v o m g.entries p) (sym (again ∙ read)) (may-of a.heap.view o m g p is gate-there shared-there space)),
      )

      pub call-needs : (IsTrue done → x.used ≡ with_growth y.trail o m g.entries p y.used) → (done ≡ false → x ≡ y) → IsWithin (add_need b.heap.view.trail o p) b.heap.view.used x.used
      call-needs grown still = subst (λ (s : ObjectsState P). IsWithin (add_need s.heap.view.trail o p) s.heap.view.used x.used) same (by done grown still)
        where
          by : (d : Bool) → (IsTrue d → x.used ≡ with_growth y.trail o m g.entries p y.used) → (d ≡ false → x ≡ y) → IsWithin (add_need a.heap.view.trail o p) a.heap.view.used x.used
          by true grew stay = within-of a.heap.view o m g p is gate-there shared-there x.used (subst (λ (v : View). x.used ≡ with_growth v.trail o m g.entries p v.used) (again ∙ read) (grew refl))
          by false grew stay = within-same (add_need a.heap.view.trail o p) a.heap.view.used x.used (ap (λ (v : View). v.used) (stay refl ∙ again ∙ read))

      pub call-protos : (IsTrue done → IsMoved y x o m g.entries p) → (done ≡ false → x ≡ y) → (q : ℕ) → (root_in x.trail q).is_proto ≡ (root_in b.heap.view.trail q).is_proto
      call-protos moved still q = subst (λ (s : ObjectsState P). (root_in x.trail q).is_proto ≡ (root_in s.heap.view.trail q).is_proto) same (by done moved still)
        where
          by : (d : Bool) → (IsTrue d → IsMoved y x o m g.entries p) → (d ≡ false → x ≡ y) → (root_in x.trail q).is_proto ≡ (root_in a.heap.view.trail q).is_proto
          by true went stay = let there = moved-here (went refl) in protos-stay a.heap.view x.trail o there.changed.writes there.proto q
          by false went stay = ap (λ (v : View). (root_in v.trail q).is_proto) (stay refl ∙ again ∙ read)
