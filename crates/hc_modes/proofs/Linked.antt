-- A fast object that gets another prototype: what it asks, and what becomes of the objects.
use Rattle.std.proofs.Common.{◌≡◌, ℕ, ◌<◌, Bool, true, false, List, Option, Some, None, IfSome, length, refl, sym, ap, ◌∙◌, subst, arith}
use Rattle.std.specs.Prelude.{IsTrue, ◌↔◌, if◌then◌else◌}
use Rattle.hc_layout.specs.declared.words.GateWord.{GateWord}
use Rattle.hc_layout.specs.declared.words.StoreWord.{StoreWord}
use Rattle.hc_heap.specs.Writes.{Trail}
use Rattle.hc_heap.specs.Readings.{gate_in, map_in, root_in, store_in}
use Rattle.hc_heap.specs.Lawful.{HoldsEntries}
use Rattle.hc_heap.specs.Kept.{DetailsRise}
use Rattle.hc_heap.specs.States.{View}
use Rattle.hc_descs.specs.Entries.{entries_in}
use Rattle.hc_tree.specs.declared.need.Need.{Need}
use Rattle.hc_tree.specs.Copying.{copy_need}
use Rattle.hc_tree.specs.Tree.{gate_with}
use Rattle.hc_tree.specs.Kept.{MapsAreKept}
use Rattle.hc_tree.specs.Growth.{MayBePrototype, root_of, root_need}
use Rattle.hc_tree.specs.Needs.{HasSpace}
use Rattle.hc_table.specs.Changes.{IsThere, Linked, reaches, with_link, with_proto}
use Rattle.hc_table.specs.Kept.{ChangesKeep}
use Rattle.hc_table.specs.World.{Object, World, object}
use Rattle.hc_slots.specs.Meaning.{Dictionary, object_shown}
use Rattle.hc_modes.specs.Meaning.{kept_of, object_at, world}
use Rattle.hc_modes.specs.Came.{world_of}
use Rattle.hc_modes.specs.State.{ObjectsState, AreRoots, IsObjects, tables_of}
use Rattle.hc_slots.specs.Slots.{AreHandedOut, IsIn}
use Rattle.hc_slots.specs.Fast.{IsFast}
use Rattle.hc_modes.specs.Changes.{IsWell, KeptBut}
use Rattle.hc_modes.specs.Linking.{IsRelinked, shared_need}
use Rattle.hc_modes.specs.Modes.{IsWithin, both, link_need, need_by, walk_need}
use Rattle.hc_modes.proofs.Adding.{its-gate, map-is}
use Rattle.hc_modes.proofs.Likeness.{like-object}
use Rattle.hc_modes.proofs.Needing.{within-same}
use Rattle.hc_modes.proofs.Operations.{object-fast}
use Rattle.hc_modes.proofs.Shown.{within}
use Rattle.hc_modes.proofs.Sound.{others-same, sound-after, tables-after}
use Rattle.hc_slots.specs.Cases.{some-is}
use Rattle.hc_modes.proofs.Worlds.{length-world, world-set}
use Rattle.hc_modes.proofs.Writing.{has-map}

-- what it asks of an object
pub record IsLinkable (v : View) (o m n : ℕ) : Type 0 where
  pub is_open : gate_in v.trail m ≡ Some (gate_with n false)
  pub holds : HoldsEntries v.trail o m (gate_with n false)
  pub handed : o < v.used.objects

-- a prototype that is there and was made one
may-be : (v : View) (w : World) (proto : Option ℕ) → length w ≡ v.used.objects → IsThere w proto → IfSome proto (λ p. IsTrue (root_in v.trail p).is_proto) → MayBePrototype v.used v.trail proto
may-be v w (Some p) count there named = (omega (arith, there, count), named)
may-be v w None count there named = tt

-- what it needs
pub need-shared : (t : Trail) (o m : ℕ) (g : GateWord) (proto null : Option ℕ) → map_in t o ≡ Some m → gate_in t m ≡ Some g → (root_in t o).is_proto ≡ false → link_need t o proto null ≡ shared_need t g.entries proto null
need-shared t o m g proto null has is shared =
    ap (λ (h : Option ℕ). need_by h (λ x. if (root_in t o).is_proto then copy_need false None (entries_in (gate_in t x)) else both (walk_need (entries_in (gate_in t x))) (root_need (root_of t proto null)))) has
    ∙ ap (λ (b : Bool). if b then copy_need false None (entries_in (gate_in t m)) else both (walk_need (entries_in (gate_in t m))) (root_need (root_of t proto null))) shared
    ∙ ap (λ (x : Option GateWord). both (walk_need (entries_in x)) (root_need (root_of t proto null))) is

module _ (v : View) (kept : List (Option Dictionary)) (null : Option ℕ) (h : IsObjects v kept null) (o : ℕ) (there : o < length kept) (fast : kept_of kept o ≡ None) (shared : (root_in v.trail o).is_proto ≡ false) (m : ℕ) (g : GateWord) (is : map_in v.trail o ≡ Some m) (gate : gate_in v.trail m ≡ Some g) where
  gates-are : (has-map v kept null h o there fast).gate ≡ g
  gates-are = some-is (has-map v kept null h o there fast).gate g (sym (has-map v kept null h o there fast).fast.is_open ∙ ap (gate_in v.trail) (map-is v kept null h o there fast m is) ∙ gate)

  linkable-here : IsLinkable v o (has-map v kept null h o there fast).map (has-map v kept null h o there fast).gate.entries
  linkable-here =
      let so = has-map v kept null h o there fast in
      record {
        is_open = its-gate v kept null h o there fast false shared;
        holds = record { capacity = so.fast.holds.capacity; slots = so.fast.holds.slots };
        handed = omega (arith, there, h.items);
      }

  pub linkable : IsLinkable v o m g.entries
  linkable =
      subst (λ (x : GateWord). IsLinkable v o m x.entries) gates-are
      (subst (λ (x : ℕ). IsLinkable v o x (has-map v kept null h o there fast).gate.entries) (map-is v kept null h o there fast m is) linkable-here)

  is-fast : IsFast v.trail o m (gate_with g.entries false)
  is-fast = record { is_open = linkable.is_open; holds = record { capacity = linkable.holds.capacity; slots = linkable.holds.slots }; private = sym shared }

  -- it came to another map
  module _ (maps : MapsAreKept) (details : DetailsRise) (keeps : ChangesKeep) (x : View) (then_null proto : Option ℕ) (it : IsRelinked v x null then_null o m g.entries proto) where
    well : IsWell v x None o
    well = record {
      as_kept = record {
        map = it.map;
        gate = gate_with g.entries false;
        is_map = it.resettled.moved;
        fast = record {
          is_open = it.resettled.gate;
          holds = record { capacity = it.resettled.holds.capacity; slots = it.resettled.holds.slots };
          private = sym (it.protos o ∙ shared);
        };
      };
      store = subst (λ (s : ℕ). AreHandedOut s (store_in x.trail o)) (sym it.slots) (subst (λ (y : StoreWord). AreHandedOut v.used.slots y) (sym it.resettled.store) (h.stores o));
      owns = λ s owns lt. subst (λ (y : StoreWord). IsIn y s) it.resettled.store owns;
      alone = λ q k y other is_k was open_k.
          let same : it.map ≡ k = some-is it.map k (sym it.resettled.moved ∙ is_k) in
          let both_gates : gate_with g.entries false ≡ y = some-is (gate_with g.entries false) y (sym it.resettled.gate ∙ ap (gate_in x.trail) same ∙ open_k) in
          sym (ap (λ (z : GateWord). z.is_private) both_gates);
    }

    but : KeptBut o kept kept
    but = record { others = λ p other. refl; there = λ p other lt. lt }

    value : object_at x.trail kept o ≡ with_link (object (world v.trail kept) o) proto
    value =
        ap (λ (d : Option Dictionary). object_shown x.trail o d (map_in x.trail o)) fast
        ∙ ap (λ (k : Option ℕ). object_shown x.trail o None k) it.resettled.moved
        ∙ like-object v.trail x.trail o m it.map g.entries false is-fast proto it.resettled
        ∙ ap (λ (y : Object). with_link y proto) (sym (object-fast v.trail kept o m there fast is))

    -- the world has the prototype
    pub link-world : world x.trail kept ≡ with_proto (world v.trail kept) o proto
    link-world = world-set v.trail x.trail kept kept o (with_link (object (world v.trail kept) o) proto) refl
        (others-same maps details v x o h.heap it.changed kept kept null h but) value

    -- what holds of objects holds again
    pub link-sound : IsThere (world v.trail kept) proto → reaches (world v.trail kept) proto o ≡ false → IsObjects x kept then_null
    link-sound is_there no_cycle = sound-after maps details v x o h.heap it.changed kept kept null h then_null but (h.items ∙ sym it.objects)
        (subst (λ (d : Option Dictionary). IsWell v x d o) (sym fast) well) it.roots
        (tables-after v x kept kept (with_proto (world v.trail kept) o proto) it.changed.shape link-world
        (keeps (tables_of v kept) (Linked o proto) h.sound (subst (λ (n : ℕ). o < n) (sym (length-world v.trail kept)) there, is_there, no_cycle)))

-- a call that gives another prototype: the object's map and gate were read, and the object came to another map, or there was
-- no room
module _ {P : Type 0} (a b : ObjectsState P) (o : ℕ) (proto : Option ℕ) (same : a ≡ b) (h : IsObjects a.heap.view a.kept a.of_null) (is_object : o < length (world_of b)) (fast : kept_of b.kept o ≡ None) (shared : (root_in b.heap.view.trail o).is_proto ≡ false)
    (w y : View) (m : ℕ) (g : GateWord) (read : w ≡ a.heap.view) (again : y ≡ w) (is : map_in a.heap.view.trail o ≡ Some m) (gate : gate_in w.trail m ≡ Some g) where
  there : o < length a.kept
  there = within a b o same is_object

  fast-there : kept_of a.kept o ≡ None
  fast-there = subst (λ (s : ObjectsState P). kept_of s.kept o ≡ None) (sym same) fast

  shared-there : (root_in a.heap.view.trail o).is_proto ≡ false
  shared-there = subst (λ (s : ObjectsState P). (root_in s.heap.view.trail o).is_proto ≡ false) (sym same) shared

  gate-there : gate_in a.heap.view.trail m ≡ Some g
  gate-there = subst (λ (x : View). gate_in x.trail m ≡ Some g) read gate

  back : (Q : View → Type 0) → Q a.heap.view → Q y
  back Q q = subst Q (sym (again ∙ read)) q

  pub call-linkable : IsLinkable y o m g.entries
  call-linkable = back (λ x. IsLinkable x o m g.entries) (linkable a.heap.view a.kept a.of_null h o there fast-there shared-there m g is gate-there)

  pub call-roots : AreRoots y.trail a.of_null
  call-roots = back (λ x. AreRoots x.trail a.of_null) h.roots

  pub call-may : IsThere (world_of b) proto → IfSome proto (λ p. IsTrue (root_in b.heap.view.trail p).is_proto) → MayBePrototype y.used y.trail proto
  call-may is_there named = back (λ x. MayBePrototype x.used x.trail proto)
      (may-be a.heap.view (world a.heap.view.trail a.kept) proto (length-world a.heap.view.trail a.kept ∙ h.items)
      (subst (λ (s : ObjectsState P). IsThere (world_of s) proto) (sym same) is_there)
      (subst (λ (s : ObjectsState P). IfSome proto (λ p. IsTrue (root_in s.heap.view.trail p).is_proto)) (sym same) named))

  need-here : link_need b.heap.view.trail o proto b.of_null ≡ shared_need a.heap.view.trail g.entries proto a.of_null
  need-here = ap (λ (s : ObjectsState P). link_need s.heap.view.trail o proto s.of_null) (sym same) ∙ need-shared a.heap.view.trail o m g proto a.of_null is gate-there shared-there

  pub call-room : (done : Bool) → (IsTrue done ↔ HasSpace y (shared_need y.trail g.entries proto a.of_null)) → IsTrue done ↔ HasSpace b.heap.view (link_need b.heap.view.trail o proto b.of_null)
  call-room done room =
      subst (λ (k : Need). IsTrue done ↔ HasSpace b.heap.view k) (sym need-here)
      (subst (λ (s : ObjectsState P). IsTrue done ↔ HasSpace s.heap.view (shared_need a.heap.view.trail g.entries proto a.of_null)) same
      (subst (λ (x : View). IsTrue done ↔ HasSpace x (shared_need x.trail g.entries proto a.of_null)) (again ∙ read) room))

  module _ (maps : MapsAreKept) (details : DetailsRise) (keeps : ChangesKeep) (x : View) (then_null : Option ℕ) where
    from : IsRelinked y x a.of_null then_null o m g.entries proto → IsRelinked a.heap.view x a.of_null then_null o m g.entries proto
    from it = subst (λ (v : View). IsRelinked v x a.of_null then_null o m g.entries proto) (again ∙ read) it

    pub call-world : IsRelinked y x a.of_null then_null o m g.entries proto → world x.trail a.kept ≡ with_proto (world a.heap.view.trail a.kept) o proto
    call-world it = link-world a.heap.view a.kept a.of_null h o there fast-there shared-there m g is gate-there maps details keeps x then_null proto (from it)

    -- what holds of objects holds again
    pub call-sound : IsThere (world_of b) proto → reaches (world_of b) proto o ≡ false → (done : Bool) → (IsTrue done → IsRelinked y x a.of_null then_null o m g.entries proto) → (done ≡ false → x ≡ y) → (done ≡ false → then_null ≡ a.of_null) → IsObjects x a.kept then_null
    call-sound is_there no_cycle true it still null_still = link-sound a.heap.view a.kept a.of_null h o there fast-there shared-there m g is gate-there maps details keeps x then_null proto (from (it refl))
        (subst (λ (s : ObjectsState P). IsThere (world_of s) proto) (sym same) is_there)
        (subst (λ (s : ObjectsState P). reaches (world_of s) proto o ≡ false) (sym same) no_cycle)
    call-sound is_there no_cycle false it still null_still =
        subst (λ (n : Option ℕ). IsObjects x a.kept n) (sym (null_still refl)) (subst (λ (v : View). IsObjects v a.kept a.of_null) (sym (still refl ∙ again ∙ read)) h)

    -- no more was handed out than is needed
    pub call-needs : (done : Bool) → (IsTrue done → IsRelinked y x a.of_null then_null o m g.entries proto) → (done ≡ false → x ≡ y) → IsWithin (link_need b.heap.view.trail o proto b.of_null) b.heap.view.used x.used
    call-needs done it still =
        subst (λ (k : Need). IsWithin k b.heap.view.used x.used) (sym need-here)
        (subst (λ (s : ObjectsState P). IsWithin (shared_need a.heap.view.trail g.entries proto a.of_null) s.heap.view.used x.used) same (by done it still))
      where
        by : (d : Bool) → (IsTrue d → IsRelinked y x a.of_null then_null o m g.entries proto) → (d ≡ false → x ≡ y) → IsWithin (shared_need a.heap.view.trail g.entries proto a.of_null) a.heap.view.used x.used
        by true relinks stays = (from (relinks refl)).needs
        by false relinks stays = within-same (shared_need a.heap.view.trail g.entries proto a.of_null) a.heap.view.used x.used (ap (λ (v : View). v.used) (stays refl ∙ again ∙ read))

    -- no object became a prototype
    pub call-protos : (done : Bool) → (IsTrue done → IsRelinked y x a.of_null then_null o m g.entries proto) → (done ≡ false → x ≡ y) → (q : ℕ) → (root_in x.trail q).is_proto ≡ (root_in b.heap.view.trail q).is_proto
    call-protos done it still q = subst (λ (s : ObjectsState P). (root_in x.trail q).is_proto ≡ (root_in s.heap.view.trail q).is_proto) same (by done it still)
      where
        by : (d : Bool) → (IsTrue d → IsRelinked y x a.of_null then_null o m g.entries proto) → (d ≡ false → x ≡ y) → (root_in x.trail q).is_proto ≡ (root_in a.heap.view.trail q).is_proto
        by true relinks stays = (from (relinks refl)).protos q
        by false relinks stays = ap (λ (v : View). (root_in v.trail q).is_proto) (stays refl ∙ again ∙ read)
