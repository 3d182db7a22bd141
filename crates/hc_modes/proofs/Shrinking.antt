-- A fast object that loses its last property: it comes back to the parent of its map.
use Rattle.hc_tree.specs.Details.{NoMap}
use Rattle.std.proofs.Common.{◌≡◌, ◌≢◌, ℕ, zero, suc, ◌+◌, ◌<◌, ◌≤◌, Bool, true, false, not, cond, eq-eqb, List, ◌∷◌, Option, Some, None, length, set, IfSome, refl, sym, ap, ◌∙◌, subst, true≢false, add-one, arith, inl}
use Rattle.std.specs.Prelude.{IsSomeAnd, IsTrue, ◌&&◌, if◌then◌else◌, ⊤}
use Rattle.std.proofs.Math.Nat.{le_refl}
use Rattle.hc_layout.specs.declared.shape.Region.TheVariants.{Maps}
use Rattle.hc_layout.specs.declared.shape.Shape.{Shape}
use Rattle.hc_layout.specs.declared.words.GateWord.{GateWord}
use Rattle.hc_layout.specs.declared.words.StoreWord.{StoreWord}
use Rattle.hc_value.specs.declared.key.Key.{Key}
use Rattle.hc_value.specs.declared.prop.Prop.{Prop}
use Rattle.hc_value.specs.declared.reply.Cause.{Cause}
use Rattle.hc_value.specs.declared.reply.Cause.TheVariants.{Deleted}
use Rattle.hc_layout.specs.declared.words.MapBits.{MapBits}
use Rattle.hc_heap.specs.Writes.{Trail, Bits, ObjectMap}
use Rattle.hc_heap.specs.Readings.{gate_in, parent_in, prototype_in, bits_in, map_in, root_in, store_in, detail_in}
use Rattle.hc_heap.specs.Kept.{FormsAreKept, StableIsKept}
use Rattle.hc_heap.specs.Lawful.{LawfulObjectMap, HoldsEntries, IsFormOf, RisesTo}
use Rattle.hc_heap.specs.Frames.{adds-on, goes-on-of}
use Rattle.hc_heap.specs.States.{View, IsHeap}
use Rattle.hc_descs.specs.Entries.{key_at, field_at, entries_in, count_of, detail_of}
use Rattle.hc_tree.specs.Growth.{marked}
use Rattle.hc_tree.specs.Tree.{IsTree}
use Rattle.hc_table.specs.Changes.{Removed, removed_at, with_removed}
use Rattle.hc_table.specs.Kept.{IsKept, with_world}
use Rattle.hc_table.specs.World.{Object, World, object, props_at, with_list}
use Rattle.hc_slots.specs.Listed.{listed, length-listed, listed-same}
use Rattle.hc_modes.specs.Came.{world_of}
use Rattle.hc_modes.specs.Modes.{IsOne, Becomes, if_deleted}
use Rattle.hc_slots.specs.Meaning.{Dictionary, fast_object, fast_props, is_extensible, object_shown, prop_in, prop_of, proto_of, slot_word}
use Rattle.hc_modes.specs.Meaning.{cause_in, kept_of, world}
use Rattle.hc_slots.specs.Fast.{HasMap, IsFast}
use Rattle.hc_slots.specs.Slots.{IsIn, AreHandedOut}
use Rattle.hc_modes.specs.State.{IsObjects, ObjectsState, tables_of}
use Rattle.hc_facts.specs.Honest.{HasDatum, IsFilled, value_in}
use Rattle.hc_facts.specs.Laws.{HonestAfter, KeptIsCarried, MovedIsCarried}
use Rattle.hc_modes.specs.Admitting.{FactsStay}
use Rattle.hc_modes.specs.Changes.{Changed, Stepped}
use Rattle.hc_modes.proofs.Facts.{at-some, goes, gone-constants, one-constants, one-honest}
use Rattle.hc_modes.proofs.Adding.{map-is}
use Rattle.hc_modes.proofs.Composing.{all-stay, no-cause}
use Rattle.hc_modes.proofs.Left.{marked-same}
use Rattle.hc_modes.proofs.Owning.{open-used}
use Rattle.hc_slots.specs.Cases.{not-both, some-is}
use Rattle.hc_modes.proofs.Sharing.{IsUnder, is-under}
use Rattle.hc_modes.proofs.Sound.{is-later}
use Rattle.hc_modes.proofs.Staying.{IsLater, fast-stays, holds-still}
use Rattle.hc_modes.proofs.Stepping.{stepped-world, stepped-sound, set-same}
use Rattle.hc_modes.proofs.Steps.{move-tree, marked-unstable}
use Rattle.hc_modes.proofs.Touching.{map-marked, map-moved}
use Rattle.hc_modes.proofs.Writing.{Laws, has-map, is-fast, props-are, count-is}

-- a list by index without its last item
listed-removed : (f : ℕ → Prop) (n : ℕ) → removed_at (listed f (suc n)) n ≡ listed f n
listed-removed f zero = refl
listed-removed f (suc n) = ap (λ (ps : List Prop). f 0 ∷ ps) (listed-removed (λ k. f (suc k)) n)

-- an object's slots hold what the parent of its map asks
abbrev Holds : Trail → Option Key → Option ℕ → ℕ → Type 0
Holds t key field w = IsSomeAnd key (λ x. IsSomeAnd field (λ y. IsSomeAnd (detail_in t y) (λ d. IsFormOf x.kind d.rep w)))

module _ (t : Trail) (o m : ℕ) (g : GateWord) (holds : HoldsEntries t o m g) (under : IsUnder t m g) where
  pub holds-parent : HoldsEntries t o under.parent under.gate
  holds-parent = record {
    capacity = omega (arith, holds.capacity, under.entries);
    slots = λ k lt.
        let within : k < g.entries = omega (arith, lt, under.entries) in
        subst (λ (f : Option ℕ). Holds t (key_at t under.parent k) f (slot_word t o k)) (under.child.entries.fields k lt)
        (subst (λ (x : Option Key). Holds t x (field_at t m k) (slot_word t o k)) (under.child.entries.keys k lt) (holds.slots k within));
  }

  -- with that map the object has one property less
  pub parent-object : (n : ℕ) → gate_in t m ≡ Some g → under.gate.entries ≡ n → g.is_locked ≡ false → under.gate.is_locked ≡ false → fast_object t o under.parent ≡ with_list (fast_object t o m) (removed_at (fast_props t o m) n)
  parent-object n is few unlocked up_unlocked =
      let q = under.parent in
      let extensible : is_extensible (gate_in t q) ≡ is_extensible (gate_in t m) =
      ap (λ (x : Option GateWord). is_extensible x) under.is_open ∙ ap not up_unlocked ∙ sym (ap not unlocked) ∙ sym (ap (λ (x : Option GateWord). is_extensible x) is) in
      let count_q : count_of t q ≡ n = ap entries_in under.is_open ∙ few in
      let entries = under.entries in
      let count_m : count_of t m ≡ suc n = ap entries_in is ∙ omega (arith, entries, few) in
      let same : listed (prop_in t o q) n ≡ listed (prop_in t o m) n = listed-same (prop_in t o m) (prop_in t o q) n (λ k lt.
      let within : k < under.gate.entries = omega (arith, lt, few) in
      sym (ap (λ (x : Option Key). prop_of x (detail_of t (field_at t m k)) (slot_word t o k)) (under.child.entries.keys k within)
      ∙ ap (λ (f : Option ℕ). prop_of (key_at t q k) (detail_of t f) (slot_word t o k)) (under.child.entries.fields k within))) in
      let props : fast_props t o q ≡ removed_at (fast_props t o m) n =
      ap (λ (k : ℕ). listed (prop_in t o q) k) count_q ∙ same ∙ sym (listed-removed (prop_in t o m) n) ∙ sym (ap (λ (k : ℕ). removed_at (listed (prop_in t o m) k) n) count_m) in
      ap (λ (p : Option (Option ℕ)). let x : Object = record { proto = proto_of p; extensible = is_extensible (gate_in t q); props = fast_props t o q } in x) (sym under.child.prototype)
      ∙ ap (λ (b : Bool). let x : Object = record { proto = proto_of (prototype_in t m); extensible = b; props = fast_props t o q } in x) extensible
      ∙ ap (λ (ps : List Prop). let x : Object = record { proto = proto_of (prototype_in t m); extensible = is_extensible (gate_in t m); props = ps } in x) props

-- a map that is made unstable is filled as before
marked-filled : (t : Trail) (o m q : ℕ) (b : Bool) (bits : MapBits) → IsSomeAnd (gate_in t q) (λ g. HoldsEntries t o q g) → (let u = cond b t (Bits m bits ∷ t) in IsSomeAnd (gate_in u q) (λ g. HoldsEntries u o q g))
marked-filled t o m q true bits h = h
marked-filled t o m q false bits h = by (gate_in t q) h
  where
    by : (x : Option GateWord) → IsSomeAnd x (λ g. HoldsEntries t o q g) → IsSomeAnd x (λ g. HoldsEntries (Bits m bits ∷ t) o q g)
    by (Some g) k = record { capacity = k.capacity; slots = k.slots }
    by None k = k

-- the object may have that map, once its own is unstable
pub parent-lawful : (s : Shape) (t : Trail) (o m q : ℕ) → map_in t o ≡ Some m → (root_in t o).is_proto ≡ false → q < s.maps → IsSomeAnd (gate_in t q) (λ g. HoldsEntries t o q g) → LawfulObjectMap s (marked t m) o (Some q)
parent-lawful s t o m q has shared there filled = record {
  leaves = subst (λ (h : Option ℕ). IfSome h (λ x. IsTrue (bits_in (marked t m) x).unstable)) (sym (marked-same t m (λ u. map_in u o) (λ b. refl) ∙ has)) (marked-unstable t m);
  gets = record {
    there = there;
    filled = marked-filled t o m q (bits_in t m).unstable (record { unstable = true; deprecated = (bits_in t m).deprecated }) filled;
    own = λ is. absurd (true≢false (sym is ∙ marked-same t m (λ u. (root_in u o).is_proto) (λ b. refl) ∙ shared));
  };
}

module _ (laws : Laws) (old : View) (kept : List (Option Dictionary)) (of_null : Option ℕ) (h : IsObjects old kept of_null) (o : ℕ) (there : o < length kept) (fast : kept_of kept o ≡ None)
    (shared : (root_in old.trail o).is_proto ≡ false) (some : 0 < length (props_at (world old.trail kept) o)) where
  abbrev so : HasMap old.trail o
  so = has-map old kept of_null h o there fast

  is_so : object (world old.trail kept) o ≡ fast_object old.trail o so.map
  is_so = is-fast old kept of_null h o there fast

  -- the object has as many properties as its map has entries
  pub count : length (props_at (world old.trail kept) o) ≡ so.gate.entries
  count = ap (λ (ps : List Prop). length ps) (props-are old kept of_null h o there fast) ∙ length-listed (prop_in old.trail o so.map) (count_of old.trail so.map) ∙ count-is old kept of_null h o there fast

  under : IsUnder old.trail so.map so.gate
  under = is-under old.trail of_null h.tree h.roots (λ m g is. laws.gates old.shape old.trail m g h.heap.lawful is) so.map so.gate so.fast.is_open (so.fast.private ∙ shared) (omega (arith, some, count))

  -- its map has a parent
  parent-is : (m : ℕ) → map_in old.trail o ≡ Some m → parent_in old.trail m ≡ Some (Some under.parent)
  parent-is m is = subst (λ (x : ℕ). parent_in old.trail x ≡ Some (Some under.parent)) (map-is old kept of_null h o there fast m is) under.child.parent

  pub map-there : (m : ℕ) → map_in old.trail o ≡ Some m → m < old.used.maps
  map-there m is = subst (λ (x : ℕ). x < old.used.maps) (map-is old kept of_null h o there fast m is) (open-used laws.unused old h.heap so.map so.gate so.fast.is_open)

  -- which is another map
  pub parent-other : (m q : ℕ) → map_in old.trail o ≡ Some m → parent_in old.trail m ≡ Some (Some q) → Some q ≢ Some m
  parent-other m q is up same =
      let one : q ≡ m = some-is q m same in
      let here : so.map ≡ m = map-is old kept of_null h o there fast m is in
      let top : Some q ≡ Some under.parent = some-is (Some q) (Some under.parent) (sym up ∙ parent-is m is) in
      let parent : q ≡ under.parent = some-is q under.parent top in
      omega (arith, one, here, parent, under.child.younger)

  pub has-parent : (m : ℕ) → map_in old.trail o ≡ Some m → (q : ℕ) × (parent_in old.trail m ≡ Some (Some q))
  has-parent m is = (under.parent, parent-is m is)

  module _ (heap : IsHeap (record old { trail = ObjectMap o (Some under.parent) ∷ marked old.trail so.map })) (marked_tree : IsTree (marked old.trail so.map)) (marked_heap : IsHeap (record old { trail = marked old.trail so.map })) where
    abbrev back : View
    back = record old { trail = ObjectMap o (Some under.parent) ∷ marked old.trail so.map }

    stays : {T : Type 0} (reading : Trail → T) → ((b : MapBits) → reading (Bits so.map b ∷ old.trail) ≡ reading old.trail) → reading (marked old.trail so.map) ≡ reading old.trail
    stays {T} reading same = marked-same old.trail so.map reading same

    changed : Changed old back o
    changed = record {
      writes = adds-on (map-marked NoMap old o old.trail so.map) (map-moved NoMap old o (marked old.trail so.map) (Some under.parent));
      shape = refl;
      slots = le_refl old.used.slots;
      tree = laws.trees old.shape (marked old.trail so.map) back.trail marked_heap.lawful (goes-on-of old.shape (map-moved NoMap old o (marked old.trail so.map) (Some under.parent)) heap.lawful) (move-tree (marked old.trail so.map) o (Some under.parent)) marked_tree;
      heap = heap;
    }

    after : IsLater old.trail back.trail
    after = is-later laws.maps laws.details old back o h.heap changed

    words : (k : ℕ) → k < under.gate.entries → slot_word back.trail o k ≡ slot_word old.trail o k
    words k lt = stays (λ (t : Trail). slot_word t o k) (λ b. refl)

    store-same : store_in back.trail o ≡ store_in old.trail o
    store-same = stays (λ (t : Trail). store_in t o) (λ b. refl)

    map-here : map_in back.trail o ≡ Some under.parent
    map-here = ap (λ (b : Bool). cond b (Some under.parent) (map_in (marked old.trail so.map) o)) (eq-eqb o o refl)

    gate-here : gate_in back.trail under.parent ≡ Some under.gate
    gate-here = after.maps.written.gate under.parent under.gate under.is_open

    fits : IsFast back.trail o under.parent under.gate
    fits =
        let holds = holds-parent old.trail o so.map so.gate so.fast.holds under in
        record {
          is_open = gate-here;
          holds = record {
            capacity = subst (λ (w : StoreWord). under.gate.entries ≤ w.capacity) (sym store-same) holds.capacity;
            slots = λ k lt. holds-still old.trail back.trail after o under.parent k under.gate under.is_open lt (words k lt) (holds.slots k lt);
          };
          private = under.shared ∙ sym (stays (λ (t : Trail). (root_in t o).is_proto) (λ b. refl) ∙ shared);
        }

    alone : (p m : ℕ) (g : GateWord) → map_in back.trail o ≡ Some m → gate_in back.trail m ≡ Some g → g.is_private ≡ false
    alone p m g is gate =
        let same : m ≡ under.parent = some-is m under.parent (sym is ∙ map-here) in
        let gates : g ≡ under.gate = some-is g under.gate (sym gate ∙ ap (gate_in back.trail) same ∙ gate-here) in
        ap (λ (x : GateWord). x.is_private) gates ∙ under.shared

    -- fields stay honest, and constants stay
    back-filled : MovedIsCarried → IsFilled old.trail back.trail o
    back-filled carries m k f d datum admits =
        let same : m ≡ under.parent = some-is m under.parent (sym datum.has ∙ map-here) in
        let here : HasDatum back.trail o under.parent k f = subst (λ (y : ℕ). HasDatum back.trail o y k f) same datum in
        let gates : here.gate ≡ under.gate = some-is here.gate under.gate (sym here.is_open ∙ gate-here) in
        let lt : k < under.gate.entries = subst (λ (y : GateWord). k < y.entries) gates here.within in
        let was : detail_in old.trail f ≡ Some d = sym (stays (λ (t : Trail). detail_in t f) (λ b. refl)) ∙ admits in
        inl (carries old.trail back.trail o under.parent k f d here (record {
          map = so.map;
          gate = so.gate;
          field = f;
          detail = d;
          had = so.is_map;
          is_open = so.fast.is_open;
          within = omega (arith, lt, under.entries);
          same_key = under.child.entries.keys k lt ∙ sym (stays (λ (t : Trail). key_at t under.parent k) (λ b. refl));
          is_field = under.child.entries.fields k lt ∙ (sym (stays (λ (t : Trail). field_at t under.parent k) (λ b. refl)) ∙ here.field);
          admits = was;
          inside = (at-some (RisesTo d) (detail_in back.trail f) d admits (after.details f d was)).within;
          same = ap (value_in d.rep) (words k lt);
        }))

    back-facts : FormsAreKept → StableIsKept → HonestAfter → KeptIsCarried → MovedIsCarried → FactsStay old.shape old.trail back.trail
    back-facts forms stable honest carried carries = record {
      goes = goes laws.maps laws.details forms old back kept of_null h o changed;
      constants = one-constants laws.maps laws.details forms old back kept of_null h o changed
          (gone-constants laws.maps laws.details forms old back kept of_null h o changed stable so.map under.parent so.is_map map-here (λ is. let lt = under.child.younger in omega (arith, is, lt)));
      honest = one-honest laws.maps laws.details forms old back kept of_null h o changed honest carried (back-filled carries);
    }

    module _ (n : ℕ) (last : length (props_at (world old.trail kept) o) ≡ n + 1) where
      abbrev less : Object
      less = with_list (fast_object old.trail o so.map) (removed_at (fast_props old.trail o so.map) n)

      shrunk : fast_object old.trail o under.parent ≡ less
      shrunk =
          let entries = under.entries in
          parent-object old.trail o so.map so.gate so.fast.holds under n so.fast.is_open (omega (arith, entries, count, last)) (h.tree.maps so.map so.gate so.fast.is_open).unlocked (h.tree.maps under.parent under.gate under.is_open).unlocked

      step : Stepped old back None o less
      step = record {
        changed = changed;
        well = record {
          as_kept = record { map = under.parent; gate = under.gate; is_map = map-here; fast = fits };
          store = subst (λ (w : StoreWord). AreHandedOut old.used.slots w) (sym store-same) (h.stores o);
          owns = λ s owns used. subst (λ (w : StoreWord). IsIn w s) store-same owns;
          alone = λ p m g other is was gate. alone p m g is gate;
        };
        opens = λ m g none gate shared parent. not-both (gate_in old.trail m) g none (sym (stays (λ (t : Trail). gate_in t m) (λ b. refl)) ∙ gate);
        value =
            ap (λ (x : Option ℕ). object_shown back.trail o None x) map-here
            ∙ fast-stays old.trail back.trail after o under.parent under.gate under.is_open words
            ∙ shrunk;
      }

  -- from the map and its parent on
  module _ (m q : ℕ) (is_map : map_in old.trail o ≡ Some m) (is_parent : parent_in old.trail m ≡ Some (Some q)) where
    same : so.map ≡ m
    same = map-is old kept of_null h o there fast m is_map

    up : under.parent ≡ q
    up = some-is under.parent q (some-is (Some under.parent) (Some q) (sym (parent-is m is_map) ∙ is_parent))

    pub parent-there : q < old.shape.maps
    parent-there =
        let used = open-used laws.unused old h.heap under.parent under.gate under.is_open in
        let most : old.used.maps ≤ old.shape.maps = h.heap.most Maps in
        subst (λ (x : ℕ). x < old.shape.maps) up (omega (arith, used, most))

    -- the object's slots fill the parent
    pub parent-filled : IsSomeAnd (gate_in old.trail q) (λ g. HoldsEntries old.trail o q g)
    parent-filled =
        subst (λ (x : ℕ). IsSomeAnd (gate_in old.trail x) (λ g. HoldsEntries old.trail o x g)) up
        (subst (λ (x : Option GateWord). IsSomeAnd x (λ g. HoldsEntries old.trail o under.parent g)) (sym under.is_open) (holds-parent old.trail o so.map so.gate so.fast.holds under))

    module _ (n : ℕ) (last : length (props_at (world old.trail kept) o) ≡ n + 1)
        (new : View) (is : new ≡ record old { trail = ObjectMap o (Some q) ∷ marked old.trail m }) (marked_tree : IsTree (marked old.trail m)) (marked_heap : IsHeap (record old { trail = marked old.trail m })) (heap : IsHeap new) where
      is_back : new ≡ record old { trail = ObjectMap o (Some under.parent) ∷ marked old.trail so.map }
      is_back =
          subst (λ (x : ℕ). new ≡ record old { trail = ObjectMap o (Some under.parent) ∷ marked old.trail x }) (sym same)
          (subst (λ (x : ℕ). new ≡ record old { trail = ObjectMap o (Some x) ∷ marked old.trail m }) (sym up) is)

      abbrev rest : Object
      rest = with_list (fast_object old.trail o so.map) (removed_at (fast_props old.trail o so.map) n)

      step-here : Stepped old new None o rest
      step-here =
          subst (λ (v : View). Stepped old v None o rest) (sym is_back)
          (step (subst IsHeap is_back heap)
          (subst (λ (x : ℕ). IsTree (marked old.trail x)) (sym same) marked_tree)
          (subst (λ (x : ℕ). IsHeap (record old { trail = marked old.trail x })) (sym same) marked_heap)
          n last)

      pub shrunk-facts : FormsAreKept → StableIsKept → HonestAfter → KeptIsCarried → MovedIsCarried → FactsStay old.shape old.trail new.trail
      shrunk-facts forms stable honest carried carries =
          subst (λ (v : View). FactsStay old.shape old.trail v.trail) (sym is_back)
          (back-facts (subst IsHeap is_back heap)
          (subst (λ (x : ℕ). IsTree (marked old.trail x)) (sym same) marked_tree)
          (subst (λ (x : ℕ). IsHeap (record old { trail = marked old.trail x })) (sym same) marked_heap)
          forms stable honest carried carries)

      -- the world is the one where the object lacks the property
      pub shrunk-world : world new.trail kept ≡ with_removed (world old.trail kept) o n
      shrunk-world =
          ap (world new.trail) (sym (set-same kept o None there fast))
          ∙ stepped-world laws.maps laws.details old new kept of_null h None o rest there step-here
          ∙ ap (λ (y : Object). set (world old.trail kept) o (with_list y (removed_at y.props n))) (sym is_so)

      -- and what holds of objects holds
      pub shrunk-sound : IsObjects new kept of_null
      shrunk-sound =
          subst (λ (k : List (Option Dictionary)). IsObjects new k of_null) (set-same kept o None there fast)
          (stepped-sound laws.maps laws.details old new kept of_null h None o rest there step-here (ap (λ (v : View). v.used.objects) is)
          (subst (λ (w : World). IsKept (with_world (tables_of old kept) w))
          (ap (λ (y : Object). set (world old.trail kept) o (with_list y (removed_at y.props n))) is_so)
          (laws.changes (tables_of old kept) (Removed o n) h.sound tt)))

-- Modes

deleted-none : (is_proto : Bool) (n i : ℕ) → is_proto ≡ false → n ≡ i + 1 → if_deleted is_proto n i ≡ None
deleted-none is_proto n i shared last =
    ap (λ (b : Bool). if_deleted b n i) shared
    ∙ ap (λ (k : ℕ). if_deleted false k i) (last ∙ add-one i)
    ∙ ap (λ (b : Bool). let r : Option Cause = if b && true then None else Some Deleted in r) (eq-eqb (suc i) (suc i) refl)

-- an object that loses its last property stays fast
pub shrunk-one : {P : Type 0} (a b : ObjectsState P) (o i : ℕ) → kept_of a.kept o ≡ None → b.kept ≡ a.kept → (root_in a.heap.view.trail o).is_proto ≡ false → length (props_at (world_of a) o) ≡ i + 1
    → IsOne a o (if_deleted (root_in a.heap.view.trail o).is_proto (length (props_at (world_of a) o)) i) ⊤ b
shrunk-one {P} a b o i fast kept shared last =
    let was = no-cause a.kept o fast in
    let now : cause_in b.kept o ≡ None = all-stay a b kept o ∙ was in
    let given = deleted-none (root_in a.heap.view.trail o).is_proto (length (props_at (world_of a) o)) i shared last in
    let none : Option Cause = None in
    let stays : Becomes none none ⊤ none = record { stays = (λ e. tt, λ t. refl); leaves = tt } in
    record {
      this =
          subst (λ (x : Option Cause). Becomes x (if_deleted (root_in a.heap.view.trail o).is_proto (length (props_at (world_of a) o)) i) ⊤ (cause_in b.kept o)) (sym was)
          (subst (λ (x : Option Cause). Becomes none x ⊤ (cause_in b.kept o)) (sym given)
          (subst (λ (x : Option Cause). Becomes none none ⊤ x) (sym now) stays));
      others = λ p other. all-stay a b kept p;
    }
