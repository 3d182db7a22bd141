-- Two objects that are made live, one after the other: what keeps one live keeps the other.
use Rattle.std.proofs.Common.{◌≡◌, ◌≢◌, ℕ, zero, suc, ◌+◌, ◌<◌, ◌≤◌, ◌∷◌, ◌⊎◌, Bool, true, false, cond, Option, Some, None, List, refl, sym, ap, ◌∙◌, subst, arith, true≢false, inl, inr, ⊎_elim}
use Rattle.std.specs.Prelude.{IsTrue, nat_lt}
use Rattle.std.proofs.lemmas.Bool.Decides.{nat_tests}
use Rattle.hc_board.specs.Trail.{Access}
use Rattle.hc_layout.specs.declared.shape.Shape.{Shape}
use Rattle.hc_layout.specs.declared.words.CellWord.{CellWord}
use Rattle.hc_layout.specs.declared.words.GateWord.{GateWord}
use Rattle.hc_value.specs.Field.{in_place_of, join_of, joined_detail}
use Rattle.hc_value.specs.declared.field.Detail.{Detail}
use Rattle.hc_value.specs.declared.field.Rep.{Rep}
use Rattle.hc_value.specs.declared.field.Rep.TheVariants.{HeapObject, Smi, Tagged, Wide}
use Rattle.hc_value.specs.declared.key.Key.{Key}
use Rattle.hc_heap.specs.declared.kind.Kind.TheVariants.{DetailOfField}
use Rattle.hc_heap.specs.Kept.{DeprecatedAreUnstable, IsOpen, UnusedSaysNothing}
use Rattle.hc_heap.specs.Frames.{same-after}
use Rattle.hc_heap.specs.Lawful.{IsField, Lawful}
use Rattle.hc_heap.specs.Readings.{bits_in, detail_in, gate_in, map_in, owner_in, parent_in, prototype_in, root_in}
use Rattle.hc_heap.specs.States.{View}
use Rattle.hc_heap.specs.Writes.{ObjectCell, Trail, Validity}
use Rattle.hc_descs.specs.Copies.{HasEntriesOf}
use Rattle.hc_descs.specs.Entries.{count_of, detail_at, detail_of, entries_in, field_at, key_at}
use Rattle.hc_tree.specs.Details.{DetailsAre, fits_at, joins_in_place}
use Rattle.hc_tree.specs.Dying.{IsHigh, IsOwnerOf, LiveStandHigh, OneIsLive, OwnersStand}
use Rattle.hc_tree.specs.Growth.{live_child, root_of}
use Rattle.hc_tree.specs.Kept.{MapsAreKept, MapsStay}
use Rattle.hc_tree.specs.Tree.{IsTree, gate_with}
use Rattle.hc_tree.specs.Walking.{GetsJoin, GetsWanted, IsLiveEnd, RootsStand, above, ancestor, both_details, joined_at, parent_of, with_root_for}
use Rattle.hc_update.specs.Renewing.{IsDoomed}
use Rattle.hc_update.specs.Retargeting.{rooted}
use Rattle.hc_update.specs.Updating.{IsStop, UpdateGets, updated_at}
use Rattle.hc_slots.specs.Cases.{not-both, same-or, some-and, some-is, some-of}
use Rattle.hc_modes.specs.Came.{HasMigrated, IsMadeLive, LeftDead, WasLive}
use Rattle.hc_modes.specs.Resettled.{marked_view}
use Rattle.hc_modes.specs.Rest.{DeathsAre}
use Rattle.hc_modes.specs.State.{AreRoots, IsLive, IsObjects, ObjectsState}
use Rattle.hc_modes.specs.Validity.{OnlyCells}
use Rattle.hc_modes.proofs.Calm.{has-one}
use Rattle.hc_modes.proofs.Celled.{by-cells}
use Rattle.hc_modes.proofs.Marking.{marked-already}
use Rattle.hc_modes.proofs.Sharing.{one-map, up}
use Rattle.hc_modes.proofs.Sound.{below-or}

-- Representations

join-self : (a : Rep) → in_place_of a (join_of a a) ≡ true
join-self Smi = refl
join-self Wide = refl
join-self HeapObject = refl
join-self Tagged = refl

join-first : (a b : Rep) → in_place_of (join_of a b) (join_of (join_of a b) a) ≡ true
join-first Smi Smi = refl
join-first Smi Wide = refl
join-first Smi HeapObject = refl
join-first Smi Tagged = refl
join-first Wide Smi = refl
join-first Wide Wide = refl
join-first Wide HeapObject = refl
join-first Wide Tagged = refl
join-first HeapObject Smi = refl
join-first HeapObject Wide = refl
join-first HeapObject HeapObject = refl
join-first HeapObject Tagged = refl
join-first Tagged Smi = refl
join-first Tagged Wide = refl
join-first Tagged HeapObject = refl
join-first Tagged Tagged = refl

-- a field joins in place with itself
fits-self : (o : Option Detail) (d : Detail) → o ≡ Some d → joins_in_place o o ≡ true
fits-self o d is = subst (λ (x : Option Detail). joins_in_place x x ≡ true) (sym is) (join-self d.rep)

-- and a join with what was joined
fits-first : (o p : Option Detail) (d e : Detail) → o ≡ Some (joined_detail d e) → p ≡ Some d → joins_in_place o p ≡ true
fits-first o p d e is was = ap (λ (x : Option Detail). joins_in_place x p) is ∙ ap (λ (x : Option Detail). joins_in_place (Some (joined_detail d e)) x) was ∙ join-first d.rep e.rep

-- Above a map

-- so many steps above a shared map with n entries stands one that has its first entries
record IsAbove (t : Trail) (x y d n : ℕ) : Type 0 where
  gate : GateWord
  is_open : gate_in t y ≡ Some gate
  shared : gate.is_private ≡ false
  entries : gate.entries + d ≡ n
  has : HasEntriesOf t x y gate.entries

module _ (t : Trail) (of_null : Option ℕ) (tree : IsTree t) (roots : AreRoots t of_null) (opened : (m : ℕ) (g : GateWord) → gate_in t m ≡ Some g → IsOpen t m g) where
  step : (d x y z n : ℕ) → IsAbove t x z d n → parent_of (parent_in t z) ≡ Some y → IsAbove t x y (suc d) n
  step d x y z n it parent = up t of_null tree roots opened z it.gate it.is_open it.shared (IsAbove t x y (suc d) n)
      (λ top none. let f : None ≡ Some y = sym (ap parent_of top) ∙ parent in let g : ⊥ = cc in absurd g)
      (λ under.
      let same : under.parent ≡ y = some-is under.parent y (sym (ap parent_of under.child.parent) ∙ parent) in
      subst (λ (q : ℕ). IsAbove t x q (suc d) n) same (record {
        gate = under.gate;
        is_open = under.is_open;
        shared = under.shared;
        entries = omega (arith, it.entries, under.entries);
        has = record {
          keys = λ k lt. it.has.keys k (omega (arith, lt, under.entries)) ∙ under.child.entries.keys k lt;
          fields = λ k lt. it.has.fields k (omega (arith, lt, under.entries)) ∙ under.child.entries.fields k lt;
        };
      }))

  above-is : (d x y : ℕ) (g : GateWord) → gate_in t x ≡ Some g → g.is_private ≡ false → ancestor t d x ≡ Some y → IsAbove t x y d g.entries
  above-is zero x y g is shared leads =
      let same : x ≡ y = some-is x y leads in
      subst (λ (z : ℕ). IsAbove t x z 0 g.entries) same (record { gate = g; is_open = is; shared = shared; entries = omega arith; has = record { keys = λ k lt. refl; fields = λ k lt. refl } })
  above-is (suc d) x y g is shared leads = by (λ z e. above-is d x z g is shared e) (ancestor t d x) refl leads
    where
      by : ((z : ℕ) → ancestor t d x ≡ Some z → IsAbove t x z d g.entries) → (k : Option ℕ) → ancestor t d x ≡ k → above t k ≡ Some y → IsAbove t x y (suc d) g.entries
      by before (Some z) e parent = step d x y z g.entries (before z e) parent
      by before None e parent = let n : None ≡ Some y = parent in let f : ⊥ = cc in absurd f

  -- Live maps with one prototype and the same first keys
  module _ (s : Shape) (lawful : Lawful s t) (owners : OwnersStand) (high : LiveStandHigh) (x y n k : ℕ) (gate_x : gate_in t x ≡ Some (gate_with n false)) (gate_y : gate_in t y ≡ Some (gate_with k false)) (live_x : (bits_in t x).deprecated ≡ false) (live_y : (bits_in t y).deprecated ≡ false)
      (proto : prototype_in t x ≡ prototype_in t y) where
    -- have the same fields
    same-field : (i : ℕ) → i < n → i < k → ((j : ℕ) → j < suc i → key_at t x j ≡ key_at t y j) → field_at t x i ≡ field_at t y i
    same-field i in_x in_y keys =
        let p = owners s t x n i lawful tree gate_x in_x in
        let q = owners s t y k i lawful tree gate_y in_y in
        let hp : IsHigh t x p.0 = high t x p.0 p.1.depth (gate_with n false) tree gate_x live_x p.1.high in
        let hq : IsHigh t y q.0 = high t y q.0 q.1.depth (gate_with k false) tree gate_y live_y q.1.high in
        let same : p.0 ≡ q.0 =
        one-map t of_null tree roots opened (suc i) p.0 q.0 (gate_with (i + 1) false) (gate_with (i + 1) false) hp.live hq.live p.1.child.gate q.1.child.gate refl refl (omega arith) (omega arith) (hp.prototype ∙ (proto ∙ sym hq.prototype))
        (λ j lt. p.1.entries.keys j lt ∙ (keys j lt ∙ sym (q.1.entries.keys j lt))) in
        sym (p.1.entries.fields i (omega arith)) ∙ (ap (λ (z : ℕ). field_at t z i) same ∙ q.1.entries.fields i (omega arith))

    -- and where the first has more, the second has a live child for the next key
    next-child : OneIsLive → k < n → ((j : ℕ) → j < k → key_at t x j ≡ key_at t y j) → (key : Key) → key_at t x k ≡ Some key → (c : ℕ) × (live_child t y key ≡ Some c)
    next-child one more keys key is =
        let p = owners s t x n k lawful tree gate_x more in
        let hp : IsHigh t x p.0 = high t x p.0 p.1.depth (gate_with n false) tree gate_x live_x p.1.high in
        let higher : ancestor t (suc p.1.depth) x ≡ Some p.1.parent = ap (above t) p.1.high ∙ ap parent_of p.1.child.parent in
        let hq : IsHigh t x p.1.parent = high t x p.1.parent (suc p.1.depth) (gate_with n false) tree gate_x live_x higher in
        let same : p.1.parent ≡ y =
        one-map t of_null tree roots opened k p.1.parent y (gate_with k false) (gate_with k false) hq.live live_y p.1.gate gate_y refl refl refl refl (hq.prototype ∙ proto)
        (λ j lt. sym (p.1.child.entries.keys j lt) ∙ (p.1.entries.keys j (omega (arith, lt)) ∙ keys j lt)) in
        let last : p.1.key ≡ key = some-is p.1.key key (sym p.1.child.last ∙ (p.1.entries.keys k (omega arith) ∙ is)) in
        (p.0, subst (λ (z : ℕ). live_child t z key ≡ Some p.0) same (subst (λ (z : Key). live_child t p.1.parent z ≡ Some p.0) last (one t p.1.parent p.0 (gate_with k false) p.1.key tree p.1.gate p.1.child hp.live)))

-- the gate of a shared map
gate-shared : (t : Trail) (m : ℕ) (g : GateWord) → IsTree t → gate_in t m ≡ Some g → g.is_private ≡ false → gate_in t m ≡ Some (gate_with g.entries false)
gate-shared t m g tree is shared =
    let gates : g ≡ gate_with g.entries false =
    ap (λ (b : Bool). let h : GateWord = record { entries = g.entries; is_private = b; is_locked = g.is_locked } in h) shared
    ∙ ap (λ (b : Bool). let h : GateWord = record { entries = g.entries; is_private = false; is_locked = b } in h) (tree.maps m g is).unlocked in
    is ∙ ap (λ (h : GateWord). Some h) gates

-- nothing is stored before the walk from the root of an unstable map
rooted-none : (v : View) (m r root : ℕ) (proto null : Option ℕ) → IsTrue (bits_in v.trail m).unstable → root_of v.trail proto null ≡ Some r → rooted (marked_view v m) null proto root ≡ v.trail
rooted-none v m r root proto null unstable known =
    ap (λ (t : Trail). with_root_for (root_of t proto null) t proto root) (marked-already v.trail m unstable)
    ∙ ap (λ (x : Option ℕ). with_root_for x v.trail proto root) known

-- an object that has a shared map
record HasShared (t : Trail) (m : ℕ) : Type 0 where
  count : ℕ
  gate : gate_in t m ≡ Some (gate_with count false)
  is_count : count_of t m ≡ count

module _ (unused : UnusedSaysNothing) {P : Type 0} (s : ObjectsState P) (h : IsObjects s.heap.view s.kept s.of_null) where
  abbrev T : Trail
  T = s.heap.view.trail

  has-shared : (o m : ℕ) → map_in T o ≡ Some m → (root_in T o).is_proto ≡ false → HasShared T m
  has-shared o m has shared =
      let one = has-one unused s.heap.view s.kept s.of_null h o m has in
      let gate = gate-shared T m one.gate h.tree one.is_open (one.private ∙ shared) in
      record { count = one.gate.entries; gate = gate; is_count = ap entries_in gate }

  -- the trail from which a migration walks is that before it
  walks-here : DeprecatedAreUnstable → RootsStand → (o m root : ℕ) (proto : Option ℕ) → map_in T o ≡ Some m → (root_in T o).is_proto ≡ false → IsTrue (bits_in T m).deprecated → prototype_in T m ≡ Some proto → rooted (marked_view s.heap.view m) s.of_null proto root ≡ T
  walks-here dead stand o m root proto has shared died is =
      let it = has-shared o m has shared in
      let r = stand s.heap.view.shape T s.of_null m it.count proto h.heap.lawful h.tree h.roots it.gate is in
      rooted-none s.heap.view m r.0 root proto s.of_null (dead s.heap.view.shape T m h.heap.lawful died) r.1.0

-- The detail of an open map's field
detail-there : (t : Trail) (m k : ℕ) (g : GateWord) → IsOpen t m g → k < g.entries → (f : ℕ) × (d : Detail) × ((field_at t m k ≡ Some f) × (detail_in t f ≡ Some d))
detail-there t m k g opened lt =
    let field = some-and (field_at t m k) (λ f. IsField t f) (opened.entries.fields k lt) in
    let detail = some-of (detail_in t field.0) field.1.1.detail in
    (field.0, detail.0, (field.1.0, detail.1))

module _ (unused : UnusedSaysNothing) (died : DeprecatedAreUnstable) (stand : RootsStand) (owners : OwnersStand) (high : LiveStandHigh) (one : OneIsLive) (maps : MapsAreKept) {P : Type 0} (went : P → List Access → List Access → P → Type 0)
    (s t u w : ObjectsState P) (a b : ℕ) (hs : IsObjects s.heap.view s.kept s.of_null) (hu : IsObjects u.heap.view u.kept u.of_null) (other : b ≢ a) (live_a : IsLive s.heap.view.trail a) (cells : OnlyCells went t u) (mb : HasMigrated went s b t) (ma : HasMigrated went u a w) where
  abbrev S : Trail
  S = s.heap.view.trail

  abbrev Mid : Trail
  Mid = t.heap.view.trail

  abbrev U : Trail
  U = u.heap.view.trail

  abbrev W : Trail
  W = w.heap.view.trail

  cells-same : {R : Type 0} (reading : Trail → R) → ((x : Trail) (p : ℕ) (c : Option ℕ) → reading (ObjectCell p c ∷ x) ≡ reading x) → ((x : Trail) (c : ℕ) (v : CellWord) → reading (Validity c v ∷ x) ≡ reading x) → reading U ≡ reading Mid
  cells-same reading named cell = same-after reading (by-cells reading named cell) cells.writes

  detail-cells : (f : ℕ) → detail_in U f ≡ detail_in Mid f
  detail-cells f = cells-same (λ (x : Trail). detail_in x f) (λ x p c. refl) (λ x c v. refl)

  bits-cells : (m : ℕ) → (bits_in U m).deprecated ≡ (bits_in Mid m).deprecated
  bits-cells m = cells-same (λ (x : Trail). (bits_in x m).deprecated) (λ x p c. refl) (λ x c v. refl)

  map-cells : (q : ℕ) → map_in U q ≡ map_in Mid q
  map-cells q = cells-same (λ (x : Trail). map_in x q) (λ x p c. refl) (λ x c v. refl)

  proto-cells : (q : ℕ) → (root_in U q).is_proto ≡ (root_in Mid q).is_proto
  proto-cells q = cells-same (λ (x : Trail). (root_in x q).is_proto) (λ x p c. refl) (λ x c v. refl)

  first : MapsStay S Mid
  first = maps s.heap.view.shape S Mid hs.heap.lawful mb.replaced.steps.keeps.goes

  second : MapsStay Mid U
  second = maps t.heap.view.shape Mid U mb.replaced.lawful cells.steps.keeps.goes

  third : MapsStay U W
  third = maps u.heap.view.shape U W hu.heap.lawful ma.replaced.steps.keeps.goes

  -- the first object's map
  had : map_in S a ≡ Some ma.map
  had = sym (mb.replaced.marks.maps a (λ e. other (sym e))) ∙ (sym (map-cells a) ∙ ma.has)

  its : HasShared S ma.map
  its = has-shared unused s hs a ma.map had (sym (mb.replaced.protos a) ∙ (sym (proto-cells a) ∙ ma.shared))

  was-live : (bits_in S ma.map).deprecated ≡ false
  was-live = live_a ma.map had

  gate-then : gate_in U ma.map ≡ Some (gate_with its.count false)
  gate-then = second.written.gate ma.map (gate_with its.count false) (first.written.gate ma.map (gate_with its.count false) its.gate)

  count-then : count_of U ma.map ≡ its.count
  count-then = ap entries_in gate-then

  -- the second one's, and the walk of its migration
  its_b : HasShared S mb.map
  its_b = has-shared unused s hs b mb.map mb.has mb.shared

  abbrev n : ℕ
  n = count_of S mb.map

  abbrev e : ℕ
  e = mb.walked.end

  abbrev many : ℕ
  many = mb.walked.count

  abbrev stop : ℕ
  stop = mb.walked.stop

  here : rooted (marked_view s.heap.view mb.map) s.of_null mb.proto mb.walked.root ≡ S
  here = walks-here unused s hs died stand b mb.map mb.walked.root mb.proto mb.has mb.shared mb.dead mb.prototype

  ended : IsLiveEnd S mb.walked.root mb.map n e many
  ended = subst (λ (x : Trail). IsLiveEnd x mb.walked.root mb.map n e many) here mb.walked.ended

  details : DetailsAre (UpdateGets S e mb.map many stop n s.heap.view.used.fields) S Mid
  details = subst (λ (x : Trail). DetailsAre (UpdateGets x e mb.map many stop n s.heap.view.used.fields) S Mid) here mb.walked.details

  deaths : DeathsAre (IsDoomed S e many stop) S Mid
  deaths = subst (λ (x : Trail). DeathsAre (IsDoomed x e many stop) S Mid) here mb.replaced.marks.deaths

  open_e : IsOpen S e (gate_with many false)
  open_e = first.opened e (gate_with many false) ended.path.gate

  -- the walk of the first one's migration
  abbrev end : ℕ
  end = ma.walked.end

  abbrev far : ℕ
  far = ma.walked.count

  abbrev k : ℕ
  k = ma.walked.stop

  there : rooted (marked_view u.heap.view ma.map) u.of_null ma.proto ma.walked.root ≡ U
  there = walks-here unused u hu died stand a ma.map ma.walked.root ma.proto ma.has ma.shared ma.dead ma.prototype

  walked : IsLiveEnd U ma.walked.root ma.map (count_of U ma.map) end far
  walked = subst (λ (x : Trail). IsLiveEnd x ma.walked.root ma.map (count_of U ma.map) end far) there ma.walked.ended

  stopped : IsStop U end ma.map far k
  stopped = subst (λ (x : Trail). IsStop x end ma.map far k) there ma.walked.stopped

  deaths-then : DeathsAre (IsDoomed U end far k) U W
  deaths-then = subst (λ (x : Trail). DeathsAre (IsDoomed x end far k) U W) there ma.replaced.marks.deaths

  gate-now : gate_in U mb.now ≡ Some (gate_with n false)
  gate-now = second.written.gate mb.now (gate_with n false) mb.place.gate

  -- if the first object's map died, and the second's map is to die
  module _ (gone : IsDoomed S e many stop ma.map) (doomed : IsDoomed U end far k mb.now) where
    owner : (o : ℕ) × IsOwnerOf S e many stop o
    owner = owners s.heap.view.shape S e many stop hs.heap.lawful hs.tree ended.path.gate gone.within

    same-owner : owner.0 ≡ gone.owner
    same-owner = some-is owner.0 gone.owner (sym owner.1.owner ∙ (ap (owner_in S) (some-is owner.1.field gone.field (sym owner.1.is_field ∙ gone.is_field)) ∙ gone.owns))

    proto-same : prototype_in S ma.map ≡ prototype_in S e
    proto-same =
        let of_a : IsHigh S ma.map gone.owner = high S ma.map gone.owner gone.under.depth (gate_with its.count false) hs.tree its.gate was-live gone.under.leads in
        let of_e : IsHigh S e owner.0 = high S e owner.0 owner.1.depth (gate_with many false) hs.tree ended.path.gate ended.path.live owner.1.high in
        sym of_a.prototype ∙ (ap (prototype_in S) (sym same-owner) ∙ of_e.prototype)

    owner-then : (o : ℕ) × IsOwnerOf U end far k o
    owner-then = owners u.heap.view.shape U end far k hu.heap.lawful hu.tree walked.path.gate doomed.within

    same-then : owner-then.0 ≡ doomed.owner
    same-then = some-is owner-then.0 doomed.owner (sym owner-then.1.owner ∙ (ap (owner_in U) (some-is owner-then.1.field doomed.field (sym owner-then.1.is_field ∙ doomed.is_field)) ∙ doomed.owns))

    over : IsAbove U mb.now doomed.owner doomed.under.depth n
    over = above-is U u.of_null hu.tree hu.roots third.opened doomed.under.depth mb.now doomed.owner (gate_with n false) gate-now refl doomed.under.leads

    size : over.gate.entries ≡ k + 1
    size = ap (λ (g : GateWord). g.entries) (some-is over.gate (gate_with (k + 1) false) (sym over.is_open ∙ (ap (gate_in U) (sym same-then) ∙ owner-then.1.child.gate)))

    in-now : k < n
    in-now = omega (arith, size, over.entries)

    in-map : k < its.count
    in-map = omega (arith, doomed.within, walked.within, count-then)

    -- the second's map has the fields and keys of the first's walk
    field-now : field_at U mb.now k ≡ field_at U end k
    field-now = over.has.fields k (omega (arith, size)) ∙ (ap (λ (z : ℕ). field_at U z k) (sym same-then) ∙ owner-then.1.entries.fields k (omega arith))

    key-now : (j : ℕ) → j < suc k → key_at U mb.now j ≡ key_at U ma.map j
    key-now j lt =
        over.has.keys j (omega (arith, size, lt)) ∙ (ap (λ (z : ℕ). key_at U z j) (sym same-then) ∙ (owner-then.1.entries.keys j lt ∙ walked.path.keys j (omega (arith, lt, doomed.within))))

    key-map : (j : ℕ) → j < suc k → key_at U ma.map j ≡ key_at S ma.map j
    key-map j lt =
        (second.entry ma.map j (gate_with its.count false) (first.written.gate ma.map (gate_with its.count false) its.gate) (omega (arith, lt, in-map))).key
        ∙ (first.entry ma.map j (gate_with its.count false) its.gate (omega (arith, lt, in-map))).key

    field-map : field_at U ma.map k ≡ field_at S ma.map k
    field-map =
        (second.entry ma.map k (gate_with its.count false) (first.written.gate ma.map (gate_with its.count false) its.gate) in-map).field
        ∙ (first.entry ma.map k (gate_with its.count false) its.gate in-map).field

    keys-both : (j : ℕ) → j < suc k → key_at S ma.map j ≡ key_at S mb.map j
    keys-both j lt =
        sym (key-map j lt)
        ∙ (sym (key-now j lt)
        ∙ ((second.entry mb.now j (gate_with n false) mb.place.gate (omega (arith, lt, in-now))).key
        ∙ mb.place.keys j (omega (arith, lt, in-now))))

    -- the first's map can't go further than the live maps went
    past : many ≤ k → ⊥
    past le =
        let key = some-of (key_at S mb.map many) ((first.opened mb.map (gate_with its_b.count false) its_b.gate).entries.keys many (omega (arith, le, in-now, its_b.is_count))) in
        let next = next-child S s.of_null hs.tree hs.roots first.opened s.heap.view.shape hs.heap.lawful owners high ma.map e its.count many its.gate ended.path.gate was-live ended.path.live proto-same one (omega (arith, le, in-map))
        (λ j lt. keys-both j (omega (arith, lt, le)) ∙ sym (ended.path.keys j lt)) key.0 (keys-both many (omega (arith, le)) ∙ key.1) in
        not-both (live_child S e key.0) next.0 (ended.ends key.0 (omega (arith, le, in-now)) key.1) next.1

    module _ (below : k < many) where
      field-both : field_at S ma.map k ≡ field_at S e k
      field-both = same-field S s.of_null hs.tree hs.roots first.opened s.heap.view.shape hs.heap.lawful owners high ma.map e its.count many its.gate ended.path.gate was-live ended.path.live proto-same k in-map below
          (λ j lt. keys-both j lt ∙ sym (ended.path.keys j (omega (arith, lt, below))))

      detail-map : detail_at U ma.map k ≡ detail_of U (field_at S e k)
      detail-map = ap (detail_of U) (field-map ∙ field-both)

      detail-end : detail_at U end k ≡ detail_at U mb.now k
      detail-end = ap (detail_of U) (sym field-now)

      field-mid : field_at U mb.now k ≡ field_at Mid mb.now k
      field-mid = (second.entry mb.now k (gate_with n false) mb.place.gate in-now).field

      -- before the stop the field is one
      before : k < stop → fits_at U end ma.map k ≡ true
      before lt =
          let one_field : detail_at U end k ≡ detail_at U ma.map k = detail-end ∙ (ap (detail_of U) (field-mid ∙ mb.place.shared k lt) ∙ sym detail-map) in
          let has = detail-there U ma.map k (gate_with its.count false) (third.opened ma.map (gate_with its.count false) gate-then) in-map in
          let is : detail_at U ma.map k ≡ Some has.1 = ap (detail_of U) has.2.0 ∙ has.2.1 in
          ap (λ (x : Option Detail). joins_in_place x (detail_at U ma.map k)) one_field ∙ fits-self (detail_at U ma.map k) has.1 is

      -- from there on the field of the second's map admits the join, and that of the first's is as it was
      after : stop ≤ k → fits_at U end ma.map k ≡ true
      after le =
          let of_e = detail-there S e k (gate_with many false) open_e below in
          let of_m = detail-there S mb.map k (gate_with its_b.count false) (first.opened mb.map (gate_with its_b.count false) its_b.gate) (omega (arith, in-now, its_b.is_count)) in
          let f = of_e.0 in
          let at_e : detail_at S e k ≡ Some of_e.1 = ap (detail_of S) of_e.2.0 ∙ of_e.2.1 in
          let at_m : detail_at S mb.map k ≡ Some of_m.1 = ap (detail_of S) of_m.2.0 ∙ of_m.2.1 in
          let chosen : nat_lt k many ≡ true = grind (arith, nat_tests, below) in
          let wanted : updated_at S e mb.map many k ≡ Some (joined_detail of_e.1 of_m.1) =
          ap (λ (c : Bool). cond c (joined_at S e mb.map k) (detail_at S mb.map k)) chosen
          ∙ (ap (λ (x : Option Detail). both_details x (detail_at S mb.map k)) at_e ∙ ap (both_details (Some of_e.1)) at_m) in
          let made : detail_at Mid mb.now k ≡ Some (joined_detail of_e.1 of_m.1) = mb.place.made k in-now ∙ wanted in
          let now : detail_at U end k ≡ Some (joined_detail of_e.1 of_m.1) = detail-end ∙ (ap (detail_of U) field-mid ∙ (detail-of-cells (field_at Mid mb.now k) ∙ made)) in
          let kept : detail_in Mid f ≡ detail_in S f = details.rest f (λ d got. ⊎_elim (λ (g : GetsJoin S e mb.map stop f d). not-joined g) (λ (g : GetsWanted (updated_at S e mb.map many) stop n s.heap.view.used.fields f d). not-new of_e.1 of_e.2.1 g) got) in
          let was : detail_at U ma.map k ≡ Some of_e.1 = detail-map ∙ (ap (detail_of U) of_e.2.0 ∙ (detail-cells f ∙ (kept ∙ of_e.2.1))) in
          fits-first (detail_at U end k) (detail_at U ma.map k) of_e.1 of_m.1 now was
        where
          detail-of-cells : (o : Option ℕ) → detail_of U o ≡ detail_of Mid o
          detail-of-cells (Some x) = detail-cells x
          detail-of-cells None = refl

          not-joined : {d : Detail} → GetsJoin S e mb.map stop (detail-there S e k (gate_with many false) open_e below).0 d → ⊥
          not-joined g =
              let of_e = detail-there S e k (gate_with many false) open_e below in
              let few : stop ≤ many = mb.walked.stopped.within in
              let within : g.place < many = omega (arith, g.within, few) in
              let same : g.place ≡ k = hs.tree.places e e (gate_with many false) (gate_with many false) g.place k of_e.0 ended.path.gate ended.path.gate within below g.field of_e.2.0 in
              omega (arith, same, g.within, le)

          not-new : {f : ℕ} {d : Detail} (was : Detail) → detail_in S f ≡ Some was → GetsWanted (updated_at S e mb.map many) stop n s.heap.view.used.fields f d → ⊥
          not-new {f} was is g =
              let new : s.heap.view.used.fields ≤ f = omega (arith, g.field, g.from) in
              not-both (detail_in S f) was (unused s.heap.view.used S DetailOfField f hs.heap.used new) is

    never : ⊥
    never = below-or k many ⊥
        (λ below. true≢false (sym (below-or k stop (fits_at U end ma.map k ≡ true) (before below) (after below)) ∙ stopped.stops doomed.within))
        past

  -- so the second's map doesn't die
  spared : IsDoomed U end far k mb.now → ⊥
  spared doomed = true≢false (sym ma.dead ∙ (bits-cells ma.map ∙ (deaths.rest ma.map (λ gone. never gone doomed) ∙ was-live)))

  both-live : IsLive W b
  both-live m is =
      let has : map_in Mid b ≡ Some m = sym (map-cells b) ∙ (sym (ma.replaced.marks.maps b other) ∙ is) in
      let same : mb.now ≡ m = some-is mb.now m (sym mb.comes ∙ has) in
      subst (λ (x : ℕ). (bits_in W x).deprecated ≡ false) same (deaths-then.rest mb.now spared ∙ (bits-cells mb.now ∙ mb.place.live))

-- However they were made live
module _ (unused : UnusedSaysNothing) (died : DeprecatedAreUnstable) (stand : RootsStand) (owners : OwnersStand) (high : LiveStandHigh) (one : OneIsLive) (maps : MapsAreKept) {P : Type 0} (went : P → List Access → List Access → P → Type 0)
    (s t u w : ObjectsState P) (a b : ℕ) (hs : IsObjects s.heap.view s.kept s.of_null) (hu : IsObjects u.heap.view u.kept u.of_null) (live_a : IsLive s.heap.view.trail a) (made_b : IsMadeLive went s b t) (cells : OnlyCells went t u) (made_a : IsMadeLive went u a w) where
  same-cells : {R : Type 0} (reading : Trail → R) → ((x : Trail) (p : ℕ) (c : Option ℕ) → reading (ObjectCell p c ∷ x) ≡ reading x) → ((x : Trail) (c : ℕ) (v : CellWord) → reading (Validity c v ∷ x) ≡ reading x) → reading u.heap.view.trail ≡ reading t.heap.view.trail
  same-cells reading named cell = same-after reading (by-cells reading named cell) cells.writes

  map-still : (q : ℕ) → map_in u.heap.view.trail q ≡ map_in t.heap.view.trail q
  map-still q = same-cells (λ (x : Trail). map_in x q) (λ x p c. refl) (λ x c v. refl)

  life-still : (m : ℕ) → (bits_in u.heap.view.trail m).deprecated ≡ (bits_in t.heap.view.trail m).deprecated
  life-still m = same-cells (λ (x : Trail). (bits_in x m).deprecated) (λ x p c. refl) (λ x c v. refl)

  live-then : IsLive u.heap.view.trail b
  live-then m is = life-still m ∙ made_b.live m (sym (map-still b) ∙ is)

  -- the first object's map was live, and died only if the second one's walk had it die
  not-dead : map_in t.heap.view.trail a ≡ map_in s.heap.view.trail a → ((m : ℕ) → (bits_in t.heap.view.trail m).deprecated ≡ (bits_in s.heap.view.trail m).deprecated) → HasMigrated went u a w → ⊥
  not-dead same lives ma =
      let had : map_in s.heap.view.trail a ≡ Some ma.map = sym same ∙ (sym (map-still a) ∙ ma.has) in
      true≢false (sym ma.dead ∙ (life-still ma.map ∙ (lives ma.map ∙ live_a ma.map had)))

  by-second : b ≢ a → HasMigrated went u a w → WasLive s b t ⊎ (HasMigrated went s b t ⊎ LeftDead went s b t) → IsLive w.heap.view.trail b
  by-second other ma (inl was) =
      let same : t.heap.view.trail ≡ s.heap.view.trail = ap (λ (x : ObjectsState P). x.heap.view.trail) was.still.is in
      absurd (not-dead (ap (λ (x : Trail). map_in x a) same) (λ m. ap (λ (x : Trail). (bits_in x m).deprecated) same) ma)
  by-second other ma (inr (inl mb)) = both-live unused died stand owners high one maps went s t u w a b hs hu other live_a cells mb ma
  by-second other ma (inr (inr left)) = absurd (not-dead (left.left.marks.maps a (λ e. other (sym e))) (λ m. left.left.marks.deaths.rest m (λ none. none)) ma)

  by-first : b ≢ a → WasLive u a w ⊎ (HasMigrated went u a w ⊎ LeftDead went u a w) → IsLive w.heap.view.trail b
  by-first other (inl was) = subst (λ (x : Trail). IsLive x b) (sym (ap (λ (x : ObjectsState P). x.heap.view.trail) was.still.is)) live-then
  by-first other (inr (inl ma)) = by-second other ma made_b.came
  by-first other (inr (inr left)) = λ m is. left.left.marks.deaths.rest m (λ none. none) ∙ live-then m (sym (left.left.marks.maps b other) ∙ is)

  pub stays-live : IsLive w.heap.view.trail b
  stays-live = same-or b a (IsLive w.heap.view.trail b)
      (λ same. subst (IsLive w.heap.view.trail) (sym same) made_a.live)
      (λ other. by-first other made_a.came)
