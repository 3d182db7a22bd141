-- The child of an object's map for a property is known: what follows from the words, and that nothing is stored before the object comes
-- to it.
use Rattle.std.proofs.Common.{◌≡◌, ◌≢◌, ℕ, zero, suc, ◌+◌, ◌<◌, ◌≤◌, Bool, true, false, cond, eqb, eqb-true, true≢false, List, Option, Some, None, length, option_map, refl, sym, ap, ◌∙◌, subst, arith, ⊎_elim}
use Rattle.std.specs.Prelude.{IsSomeAnd, IfSome, nat_lt, not}
use Rattle.std.proofs.lemmas.Bool.Decides.{nat_tests}
use Rattle.hc_layout.specs.Capacity.{cap_of}
use Rattle.hc_layout.specs.declared.capacity.TheConstants.{MAX_FAST}
use Rattle.hc_layout.specs.declared.shape.Region.TheVariants.{Entries, Fields, Links, Maps, Slots}
use Rattle.hc_layout.specs.declared.words.GateWord.{GateWord}
use Rattle.hc_value.specs.Field.{in_place_of, join_of, joined_class, joined_constness, joined_detail, rep_of}
use Rattle.hc_value.specs.declared.field.Class.{Class}
use Rattle.hc_value.specs.declared.field.Constness.{Constness}
use Rattle.hc_value.specs.declared.field.Constness.TheVariants.{Const, Mutable}
use Rattle.hc_value.specs.declared.field.Detail.{Detail}
use Rattle.hc_value.specs.declared.field.Rep.{Rep}
use Rattle.hc_value.specs.declared.field.Rep.TheVariants.{HeapObject, Smi, Tagged, Wide}
use Rattle.hc_value.specs.declared.key.Key.{Key}
use Rattle.hc_value.specs.Attrs.{bits_of, no_attributes}
use Rattle.hc_value.specs.declared.attrs.Attrs.{Attrs}
use Rattle.hc_value.specs.declared.prop.Held.TheVariants.{Datum}
use Rattle.hc_value.specs.declared.prop.Prop.{Prop}
use Rattle.hc_value.specs.declared.value.Value.{Value}
use Rattle.hc_heap.specs.Frames.{adds-none}
use Rattle.hc_heap.specs.Kept.{GatesAreOpen}
use Rattle.hc_heap.specs.Lawful.{IsFormOf, slot_word}
use Rattle.hc_heap.specs.Readings.{bits_in, detail_in, gate_in, map_in, owner_in, root_in, store_in}
use Rattle.hc_heap.specs.States.{HasRoom, IsHeap, View}
use Rattle.hc_heap.specs.Writes.{Trail}
use Rattle.hc_descs.specs.Entries.{count_of, detail_at, detail_of, entries_in, field_at, key_at}
use Rattle.hc_facts.specs.Honest.{class_of, detail_for}
use Rattle.hc_links.specs.Chains.{newest_of}
use Rattle.hc_table.specs.World.{Object, object, place_of, props_at}
use Rattle.hc_tree.specs.Details.{ChildGets, DetailsAre, child_detail, joined_with, joins_in_place}
use Rattle.hc_tree.specs.Dying.{LiveIsChild, OutgrownFor}
use Rattle.hc_tree.specs.Growth.{AskGets, EndsWith, asked_detail, child_need, fit_of, fitting_child, live_child, live_of}
use Rattle.hc_tree.specs.Needs.{HasSpace, with_need}
use Rattle.hc_tree.specs.Tree.{IsChildFor, IsTree, gate_with}
use Rattle.hc_slots.specs.Cases.{not-both, some-and, some-is}
use Rattle.hc_slots.specs.Fast.{HasMap}
use Rattle.hc_slots.specs.Listed.{length-listed, listed}
use Rattle.hc_slots.specs.Meaning.{Dictionary, is_extensible, prop_in, prop_of}
use Rattle.hc_slots.specs.Slots.{slots_need}
use Rattle.hc_modes.specs.Admitting.{AdmitsAsIs, added, held_detail}
use Rattle.hc_modes.specs.Changes.{key_of}
use Rattle.hc_modes.specs.Filling.{FitsAsIs, HasChildFor, MayGrowBy, free_slots}
use Rattle.hc_modes.specs.Meaning.{kept_of, world}
use Rattle.hc_modes.specs.Modes.{add_need}
use Rattle.hc_modes.specs.Planned.{MayCome, MayGet}
use Rattle.hc_modes.specs.State.{IsKeptSo, IsLive, IsObjects, ObjectsState}
use Rattle.hc_modes.specs.Steps.{world_of}
use Rattle.hc_modes.proofs.Adding.{gate-is, map-is}
use Rattle.hc_modes.proofs.Become.{with-none}
use Rattle.hc_modes.proofs.Childed.{IsChilded, fit-live}
use Rattle.hc_modes.proofs.Needing.{space-of}
use Rattle.hc_modes.proofs.Shown.{within}
use Rattle.hc_modes.proofs.Writing.{count-is, has-map, is-fast, props-are}

-- Details

join-turned : (a b : Rep) → join_of a b ≡ join_of b a
join-turned Smi Smi = refl
join-turned Smi Wide = refl
join-turned Smi HeapObject = refl
join-turned Smi Tagged = refl
join-turned Wide Smi = refl
join-turned Wide Wide = refl
join-turned Wide HeapObject = refl
join-turned Wide Tagged = refl
join-turned HeapObject Smi = refl
join-turned HeapObject Wide = refl
join-turned HeapObject HeapObject = refl
join-turned HeapObject Tagged = refl
join-turned Tagged Smi = refl
join-turned Tagged Wide = refl
join-turned Tagged HeapObject = refl
join-turned Tagged Tagged = refl

in-place-same : (a : Rep) → in_place_of a a ≡ true
in-place-same Smi = refl
in-place-same Wide = refl
in-place-same HeapObject = refl
in-place-same Tagged = refl

constant-joined : (c : Constness) → joined_constness c Const ≡ c
constant-joined Const = refl
constant-joined Mutable = refl

-- a field that admits a value as it is, is left so by the join
rep-left : (t : Trail) (d : Detail) (v : Value) → AdmitsAsIs t d v → join_of d.rep (rep_of v) ≡ d.rep
rep-left t d v h = join-turned d.rep (rep_of v) ∙ h.rep

detail-left : (t : Trail) (d : Detail) (v : Value) → AdmitsAsIs t d v → joined_detail d (detail_for t v Const) ≡ d
detail-left t d v h =
    ap (λ (r : Rep). let x : Detail = record { rep = r; constness = joined_constness d.constness Const; class = joined_class d.class (class_of t v) } in x) (rep-left t d v h)
    ∙ (ap (λ (c : Constness). let x : Detail = record { rep = d.rep; constness = c; class = joined_class d.class (class_of t v) } in x) (constant-joined d.constness)
    ∙ ap (λ (c : Class). let x : Detail = record { rep = d.rep; constness = d.constness; class = c } in x) h.class)

fits-left : (t : Trail) (d : Detail) (v : Value) → AdmitsAsIs t d v → joins_in_place (Some d) (Some (detail_for t v Const)) ≡ true
fits-left t d v h = ap (in_place_of d.rep) (rep-left t d v h) ∙ in-place-same d.rep

-- A child that is known

-- a child that fits joins in place
fit-joins : (t : Trail) (l : Option ℕ) (x n : ℕ) (d : Detail) → fit_of t l n d ≡ Some x → joins_in_place (detail_at t x n) (Some d) ≡ true
fit-joins t None x n d is = let e : None ≡ Some x = is in let f : ⊥ = cc in absurd f
fit-joins t (Some c) x n d is = by (joins_in_place (detail_at t c n) (Some d)) refl is
  where
    by : (b : Bool) → joins_in_place (detail_at t c n) (Some d) ≡ b → cond b (Some c) None ≡ Some x → joins_in_place (detail_at t x n) (Some d) ≡ true
    by true here e = ap (λ (y : ℕ). joins_in_place (detail_at t y n) (Some d)) (sym (some-is c x e)) ∙ here
    by false here e = let f : ⊥ = cc in absurd f

module _ (law : LiveIsChild) (v : View) (m n child : ℕ) (p : Prop) (heap : IsHeap v) (tree : IsTree v.trail) (is_open : gate_in v.trail m ≡ Some (gate_with n false)) (knows : FitsAsIs v.trail m child n p) where
  abbrev asks : Detail
  asks = held_detail v.trail p.held Const

  count : count_of v.trail m ≡ n
  count = ap entries_in is_open

  live-here : live_child v.trail m (key_of p) ≡ Some child
  live-here = fit-live v.trail (live_child v.trail m (key_of p)) child (count_of v.trail m) asks knows.fits

  its-child : IsChildFor v.trail m (gate_with n false) child (key_of p)
  its-child = law v.trail m child (gate_with n false) (key_of p) tree is_open live-here

  joins-here : joins_in_place (detail_at v.trail child n) (Some asks) ≡ true
  joins-here = ap (λ (k : ℕ). joins_in_place (detail_at v.trail child k) (Some asks)) (sym count) ∙ fit-joins v.trail (live_child v.trail m (key_of p)) child (count_of v.trail m) asks knows.fits

  none-dies : (x : ℕ) → OutgrownFor v.trail m (key_of p) asks x → ⊥
  none-dies x out =
      let same : child ≡ out.child = some-is child out.child (sym live-here ∙ out.is) in
      let other : joins_in_place (detail_at v.trail child n) (Some asks) ≡ false = ap (λ (k : ℕ). joins_in_place (detail_at v.trail child k) (Some asks)) (sym count) ∙ (ap (λ (k : ℕ). joins_in_place (detail_at v.trail k (count_of v.trail m)) (Some asks)) same ∙ out.outgrown) in
      true≢false (sym joins-here ∙ other)

  ends-here : EndsWith v.trail child n (key_of p) (asked_detail v.trail m (key_of p) asks)
  ends-here =
      let field = some-and (field_at v.trail child n) (λ f. owner_in v.trail f ≡ Some child) its-child.field in
      let admits : detail_in v.trail field.0 ≡ Some (asked_detail v.trail m (key_of p) asks) = ap (detail_of v.trail) (sym field.1.0) ∙ knows.stays in
      record {
        last = its-child.last;
        field = subst (λ (f : Option ℕ). IsSomeAnd f (λ x. (owner_in v.trail x ≡ Some child) × (detail_in v.trail x ≡ Some (asked_detail v.trail m (key_of p) asks)))) (sym field.1.0) (field.1.1, admits);
      }

  -- it is there as a child is that was found, and nothing was stored
  pub known-childed : IsChilded v v m n child (key_of p) (held_detail v.trail p.held Const)
  known-childed = record {
    writes = adds-none v.trail;
    shape = refl;
    used = with-none v.used ∙ ap (λ (l : Option ℕ). with_need (child_need l n) v.used) (sym knows.fits);
    number = λ none. absurd (not-both (fitting_child v.trail m (key_of p) asks) child none knows.fits);
    found = λ x is. some-is child x (sym knows.fits ∙ is);
    live = live-here;
    child = subst (λ (g : Option GateWord). IsSomeAnd g (λ y. IsChildFor v.trail m y child (key_of p))) (sym is_open) its-child;
    ends = ends-here;
    dead = λ x dies there. absurd (none-dies x dies);
    marks = λ x stable now. absurd (true≢false (sym now ∙ stable));
    tree = tree;
    heap = heap;
  }

  -- its field has what it gets
  pub known-details : DetailsAre (AskGets v.trail m (key_of p) (held_detail v.trail p.held Const) v.used.fields) v.trail v.trail
  known-details = record { gets = by (fitting_child v.trail m (key_of p) asks) knows.fits; rest = λ f none. refl }
    where
      by : (l : Option ℕ) → l ≡ Some child → (f : ℕ) (e : Detail) → ChildGets v.trail l (count_of v.trail m) (asked_detail v.trail m (key_of p) asks) v.used.fields f e → detail_in v.trail f ≡ Some e
      by (Some c) is f e got =
          let field : field_at v.trail child n ≡ Some f = ap (field_at v.trail child) (sym count) ∙ (ap (λ (k : ℕ). field_at v.trail k (count_of v.trail m)) (sym (some-is c child is)) ∙ got.0) in
          ap (detail_of v.trail) (sym field) ∙ (knows.stays ∙ ap (λ (d : Detail). Some d) (sym got.1))
      by None is f e got = let n : None ≡ Some child = is in let f : ⊥ = cc in absurd f

  -- there is room where there is for the slots
  pub known-room : (o : ℕ) → HasRoom v Slots (slots_need n (store_in v.trail o).capacity) → MayGrowBy v o m n p
  known-room o room = record {
    slots = room;
    child = subst (λ (l : Option ℕ). HasSpace v (child_need l n)) (sym knows.fits) (record {
      maps = let most = heap.most Maps in omega (arith, most);
      entries = let most = heap.most Entries in omega (arith, most);
      fields = let most = heap.most Fields in omega (arith, most);
      links = let most = heap.most Links in omega (arith, most);
      slots = let most = heap.most Slots in omega (arith, most);
    });
  }

-- What follows of what a plan knows

pub no-attributes : (a : Attrs) → bits_of a ≡ 0 → a ≡ no_attributes
no-attributes a e = ap (λ (n : ℕ). let x : Attrs = record { 0 = n } in x) e

pub added-is : (name : ℕ) (a : Attrs) (value : Value) → bits_of a ≡ 0 → record { name = name; attrs = a; held = Datum value } ≡ added name value
added-is name a value e = ap (λ (x : Attrs). let p : Prop = record { name = name; attrs = x; held = Datum value } in p) (no-attributes a e)

-- no property has a name that differs from all of theirs
place-none : (f : ℕ → Prop) (n name : ℕ) → ((k : ℕ) → k < n → (f k).name ≢ name) → place_of (listed f n) name ≡ None
place-none f zero name other = refl
place-none f (suc n) name other =
    ap (λ (r : Option ℕ). cond (eqb (f 0).name name) (Some 0) (option_map suc r)) (place-none (λ k. f (suc k)) n name (λ k lt. other (suc k) (omega (arith, lt))))
    ∙ by (eqb (f 0).name name) refl
  where
    by : (b : Bool) → eqb (f 0).name name ≡ b → cond b (Some 0) (option_map suc None) ≡ None
    by true e = absurd (other 0 (omega arith) (eqb-true (f 0).name name e))
    by false e = refl

-- an object that has a map is fast
pub map-fast : (v : View) (kept : List (Option Dictionary)) (of_null : Option ℕ) → IsObjects v kept of_null → (o m : ℕ) → o < length kept → map_in v.trail o ≡ Some m → kept_of kept o ≡ None
map-fast v kept of_null h o m there is = by (kept_of kept o) refl (h.each o there)
  where
    by : (d : Option Dictionary) → kept_of kept o ≡ d → IsKeptSo v.trail o d → kept_of kept o ≡ None
    by None e so = e
    by (Some d) e so = let n : None ≡ Some m = sym so ∙ is in let f : ⊥ = cc in absurd f

module _ (gates : GatesAreOpen) (law : LiveIsChild) (v : View) (kept : List (Option Dictionary)) (of_null : Option ℕ) (h : IsObjects v kept of_null) (o child name : ℕ) (value : Value) (there : o < length kept) (may : MayCome v o child name value) where
  abbrev t : Trail
  t = v.trail

  abbrev m : ℕ
  m = may.map

  abbrev key : Key
  key = key_of (added name value)

  pub come-fast : kept_of kept o ≡ None
  come-fast = map-fast v kept of_null h o may.map there may.has

  abbrev so : HasMap v.trail o
  so = has-map v kept of_null h o there come-fast

  map-here : so.map ≡ m
  map-here = map-is v kept of_null h o there come-fast m may.has

  gate-here : gate_in t m ≡ Some so.gate
  gate-here = ap (gate_in t) (sym map-here) ∙ so.fast.is_open

  count-here : count_of t m ≡ so.gate.entries
  count-here = ap entries_in gate-here

  live-is : live_child t m key ≡ Some child
  live-is = ap (live_of t) may.grows.newest ∙ ap (λ (b : Bool). cond b None (Some child)) may.grows.live

  child-here : IsChildFor t m so.gate child key
  child-here = law t m child so.gate key h.tree gate-here live-is

  slot-is : may.grows.slot ≡ so.gate.entries
  slot-is =
      let same : may.grows.gate ≡ gate_with (so.gate.entries + 1) false = some-is may.grows.gate (gate_with (so.gate.entries + 1) false) (sym may.grows.is_open ∙ child-here.gate) in
      let size = ap (λ (g : GateWord). g.entries) same in
      let last = may.grows.last in
      omega (arith, size, last)

  not-private : so.gate.is_private ≡ false
  not-private = by so.gate.is_private refl
    where
      by : (b : Bool) → so.gate.is_private ≡ b → so.gate.is_private ≡ false
      by false e = e
      by true e =
          let none : live_child t m key ≡ None = ap (λ (ls : List ℕ). live_of t (newest_of t ls key)) ((h.tree.maps m so.gate gate-here).unlinked e) in
          absurd (not-both (live_child t m key) child none live-is)

  pub come-shared : (root_in v.trail o).is_proto ≡ false
  come-shared = sym so.fast.private ∙ not-private

  pub come-live : IsLive v.trail o
  come-live k is = subst (λ (x : ℕ). (bits_in t x).deprecated ≡ false) (some-is m k (sym may.has ∙ is)) may.live

  props-length : length (props_at (world v.trail kept) o) ≡ so.gate.entries
  props-length =
      ap (λ (ps : List Prop). length ps) (props-are v kept of_null h o there come-fast)
      ∙ ap (λ (n : ℕ). length (listed (prop_in v.trail o so.map) n)) (count-is v kept of_null h o there come-fast)
      ∙ length-listed (prop_in v.trail o so.map) so.gate.entries

  pub come-few : length (props_at (world v.trail kept) o) < MAX_FAST
  come-few =
      let few : so.gate.entries + 1 ≤ MAX_FAST = (gates v.shape t child (gate_with (so.gate.entries + 1) false) h.heap.lawful child-here.gate).few in
      omega (arith, few, props-length)

  -- no entry has the name
  names-differ : (k : ℕ) → k < so.gate.entries → (prop_in t o so.map k).name ≢ name
  names-differ k lt is =
      let entry = some-and (key_at t so.map k) (λ y. IsSomeAnd (field_at t so.map k) (λ f. IsSomeAnd (detail_in t f) (λ d. IsFormOf y.kind d.rep (slot_word t o k)))) (so.fast.holds.slots k lt) in
      let field = some-and (field_at t so.map k) (λ f. IsSomeAnd (detail_in t f) (λ d. IsFormOf entry.0.kind d.rep (slot_word t o k))) entry.1.1 in
      let d = some-and (detail_in t field.0) (λ d. IsFormOf entry.0.kind d.rep (slot_word t o k)) field.1.1 in
      let admits : detail_at t so.map k ≡ Some d.0 = ap (detail_of t) field.1.0 ∙ d.1.0 in
      let named : (prop_in t o so.map k).name ≡ entry.0.name =
      ap (λ (x : Option Key). (prop_of x (detail_at t so.map k) (slot_word t o k)).name) entry.1.0
      ∙ ap (λ (e : Option Detail). (prop_of (Some entry.0) e (slot_word t o k)).name) admits in
      let at : key_at t child k ≡ Some entry.0 = child-here.entries.keys k lt ∙ (ap (λ (x : ℕ). key_at t x k) (sym map-here) ∙ entry.1.0) in
      let apart = (h.tree.maps child (gate_with (so.gate.entries + 1) false) child-here.gate).distinct k so.gate.entries lt (omega arith) entry.0 key at child-here.last in
      apart (sym named ∙ is)

  pub come-gets : MayGet (world v.trail kept) o name
  come-gets = record {
    absent =
        ap (λ (ps : List Prop). place_of ps name) (props-are v kept of_null h o there come-fast)
        ∙ ap (λ (n : ℕ). place_of (listed (prop_in t o so.map) n) name) (count-is v kept of_null h o there come-fast)
        ∙ place-none (prop_in t o so.map) so.gate.entries name names-differ;
    extensible =
        ap (λ (x : Object). x.extensible) (is-fast v kept of_null h o there come-fast)
        ∙ ap is_extensible so.fast.is_open
        ∙ ap not (h.tree.maps so.map so.gate so.fast.is_open).unlocked;
  }

  detail-here : detail_at t child so.gate.entries ≡ Some may.grows.detail
  detail-here = ap (detail_at t child) (sym slot-is) ∙ (ap (detail_of t) may.grows.is_field ∙ may.grows.is_detail)

  abbrev asked : Detail
  asked = held_detail t (added name value).held Const

  fits-here : FitsAsIs t m child so.gate.entries (added name value)
  fits-here = record {
    fits =
        ap (λ (l : Option ℕ). fit_of t l (count_of t m) asked) live-is
        ∙ (ap (λ (n : ℕ). fit_of t (Some child) n asked) count-here
        ∙ (ap (λ (d : Option Detail). cond (joins_in_place d (Some asked)) (Some child) None) detail-here
        ∙ ap (λ (b : Bool). cond b (Some child) None) (fits-left t may.grows.detail value may.grows.admits)));
    stays =
        detail-here
        ∙ sym (ap (λ (l : Option ℕ). Some (child_detail t l (count_of t m) asked)) live-is
        ∙ (ap (λ (n : ℕ). Some (child_detail t (Some child) n asked)) count-here
        ∙ (ap (λ (d : Option Detail). Some (joined_with d asked)) detail-here
        ∙ ap (λ (d : Detail). Some d) (detail-left t may.grows.detail value may.grows.admits))));
  }

  -- the child is known
  pub come-known : HasChildFor v.trail o child (length (props_at (world v.trail kept) o)) (added name value)
  come-known = subst (λ (x : Option ℕ). IfSome x (λ k. FitsAsIs t k child (length (props_at (world v.trail kept) o)) (added name value))) (sym may.has)
      (subst (λ (n : ℕ). FitsAsIs t m child n (added name value)) (sym props-length) fits-here)

  slots-there : slots_need so.gate.entries (store_in t o).capacity ≤ free_slots v
  slots-there = by (nat_lt so.gate.entries (store_in t o).capacity) refl
    where
      by : (b : Bool) → nat_lt so.gate.entries (store_in t o).capacity ≡ b → cond b 0 (cap_of (so.gate.entries + 1)) ≤ free_slots v
      by true e = omega arith
      by false e = ⊎_elim
          (λ lt. let past : (store_in t o).capacity ≤ so.gate.entries = grind (arith, nat_tests, e) in omega (arith, lt, past, slot-is))
          (λ le. subst (λ (k : ℕ). cap_of (k + 1) ≤ free_slots v) slot-is le) may.room

  pub come-room : HasSpace v (add_need v.trail o (added name value))
  come-room =
      let most = h.heap.most Slots in
      let room : HasRoom v Slots (slots_need so.gate.entries (store_in t o).capacity) = omega (arith, slots-there, most) in
      let is_open : gate_in t m ≡ Some (gate_with so.gate.entries false) = gate-here ∙ gate-with in
      space-of v o m so.gate (added name value) may.has gate-here come-shared (known-room law v m so.gate.entries child (added name value) h.heap h.tree is_open fits-here o room)
    where
      gate-with : Some so.gate ≡ Some (gate_with so.gate.entries false)
      gate-with =
          ap (λ (b : Bool). let x : GateWord = record { entries = so.gate.entries; is_private = b; is_locked = so.gate.is_locked } in Some x) not-private
          ∙ ap (λ (b : Bool). let x : GateWord = record { entries = so.gate.entries; is_private = false; is_locked = b } in Some x) (h.tree.maps m so.gate gate-here).unlocked

-- a fast object's map and gate were read, and its child is known, if one is
pub call-known : {P : Type 0} (a b : ObjectsState P) (o : ℕ) (p : Prop) (same : a ≡ b) (h : IsObjects a.heap.view a.kept a.of_null) (object : o < length (world_of b)) (fast : kept_of b.kept o ≡ None)
    (y : View) (m : ℕ) (g : GateWord) → y ≡ a.heap.view → map_in a.heap.view.trail o ≡ Some m → gate_in a.heap.view.trail m ≡ Some g → (known : Option ℕ)
    → IfSome known (λ child. HasChildFor b.heap.view.trail o child (length (props_at (world_of b) o)) p) → IfSome known (λ child. FitsAsIs y.trail m child g.entries p)
call-known a b o p same h object fast y m g read is gate None it = tt
call-known {P} a b o p same h object fast y m g read is gate (Some child) it =
    let v = a.heap.view in
    let there : o < length a.kept = within a b o same object in
    let fast_there : kept_of a.kept o ≡ None = subst (λ (s : ObjectsState P). kept_of s.kept o ≡ None) (sym same) fast in
    let so = has-map v a.kept a.of_null h o there fast_there in
    let count : length (props_at (world_of a) o) ≡ g.entries =
    ap (λ (ps : List Prop). length ps) (props-are v a.kept a.of_null h o there fast_there)
    ∙ ap (λ (n : ℕ). length (listed (prop_in v.trail o so.map) n)) (count-is v a.kept a.of_null h o there fast_there)
    ∙ length-listed (prop_in v.trail o so.map) so.gate.entries
    ∙ ap (λ (x : GateWord). x.entries) (gate-is v a.kept a.of_null h o there fast_there g m is gate) in
    let has : HasChildFor v.trail o child (length (props_at (world_of a) o)) p = subst (λ (s : ObjectsState P). HasChildFor s.heap.view.trail o child (length (props_at (world_of s) o)) p) (sym same) it in
    let fits : FitsAsIs v.trail m child (length (props_at (world_of a) o)) p = subst (λ (x : Option ℕ). IfSome x (λ k. FitsAsIs v.trail k child (length (props_at (world_of a) o)) p)) is has in
    subst (λ (x : View). FitsAsIs x.trail m child g.entries p) (sym read) (subst (λ (n : ℕ). FitsAsIs v.trail m child n p) count fits)
