-- A fast object that is or was a prototype gets another prototype: what that asks, and what becomes of the objects.
use Rattle.std.proofs.Common.{◌≡◌, ℕ, ◌<◌, Bool, true, false, List, Option, Some, None, IfSome, length, set, refl, sym, ap, ◌∙◌, subst, arith}
use Rattle.std.specs.Prelude.{IsTrue}
use Rattle.hc_layout.specs.declared.shape.Shape.{Shape}
use Rattle.hc_layout.specs.declared.words.GateWord.{GateWord}
use Rattle.hc_layout.specs.declared.words.RootWord.{RootWord}
use Rattle.hc_heap.specs.Readings.{gate_in, map_in, root_in}
use Rattle.hc_heap.specs.Lawful.{HoldsEntries}
use Rattle.hc_heap.specs.Kept.{DetailsRise, UnusedSaysNothing}
use Rattle.hc_heap.specs.States.{View}
use Rattle.hc_tree.specs.Growth.{MayBePrototype}
use Rattle.hc_tree.specs.Kept.{MapsAreKept}
use Rattle.hc_tree.specs.Tree.{gate_with}
use Rattle.hc_table.specs.Changes.{IsThere, Linked, reaches, with_link, with_proto}
use Rattle.hc_table.specs.Kept.{ChangesKeep}
use Rattle.hc_table.specs.World.{Object, object}
use Rattle.hc_slots.specs.Meaning.{Dictionary}
use Rattle.hc_modes.specs.Meaning.{kept_of, world}
use Rattle.hc_modes.specs.Came.{world_of}
use Rattle.hc_slots.specs.Fast.{HasMap}
use Rattle.hc_modes.specs.State.{IsObjects, ObjectsState, tables_of}
use Rattle.hc_modes.specs.Changes.{Stepped}
use Rattle.hc_modes.specs.Privates.{IsMovedToCopy}
use Rattle.hc_modes.proofs.Adding.{gate-is, its-gate, map-is}
use Rattle.hc_modes.proofs.Alike.{alike-step}
use Rattle.hc_modes.proofs.Shown.{within}
use Rattle.hc_modes.proofs.Stepping.{set-same, stepped-sound, stepped-world}
use Rattle.hc_modes.proofs.Worlds.{length-world}
use Rattle.hc_modes.proofs.Writing.{has-map, is-fast}

-- an object that is there has a private map with n entries
pub record IsOwner (v : View) (o m n : ℕ) : Type 0 where
  pub is_open : gate_in v.trail m ≡ Some (gate_with n true)
  pub holds : HoldsEntries v.trail o m (gate_with n true)
  pub handed : o < v.used.objects

module _ (v : View) (kept : List (Option Dictionary)) (of_null : Option ℕ) (h : IsObjects v kept of_null) where
  -- a prototype that may be given to a map
  pub may-be : (proto : Option ℕ) → IsThere (world v.trail kept) proto → IfSome proto (λ p. IsTrue (root_in v.trail p).is_proto) → MayBePrototype v.used v.trail proto
  may-be None there marked = tt
  may-be (Some p) there marked = (omega (arith, there, length-world v.trail kept, h.items), marked)

  module _ (o : ℕ) (there : o < length kept) (fast : kept_of kept o ≡ None) (private : IsTrue (root_in v.trail o).is_proto) where
    abbrev so : HasMap v.trail o
    so = has-map v kept of_null h o there fast

    owner-here : IsOwner v o so.map so.gate.entries
    owner-here = record {
      is_open = its-gate v kept of_null h o there fast true private;
      holds = record { capacity = so.fast.holds.capacity; slots = so.fast.holds.slots };
      handed = omega (arith, there, h.items);
    }

    -- its map and gate were read
    pub owner : (w : View) (m : ℕ) (g : GateWord) → w ≡ v → map_in v.trail o ≡ Some m → gate_in v.trail m ≡ Some g → IsOwner w o m g.entries
    owner w m g read is gate =
        subst (λ (x : View). IsOwner x o m g.entries) (sym read)
        (subst (λ (x : GateWord). IsOwner v o m x.entries) (gate-is v kept of_null h o there fast g m is gate)
        (subst (λ (x : ℕ). IsOwner v o x so.gate.entries) (map-is v kept of_null h o there fast m is) owner-here))

    -- the object came to a private copy of its map, with another prototype
    module _ (maps : MapsAreKept) (details : DetailsRise) (unused : UnusedSaysNothing) (x : View) (proto : Option ℕ) (moved : IsMovedToCopy false v x o so.map so.gate.entries proto) where
      step : Stepped v x None o (with_link (object (world v.trail kept) o) proto)
      step = subst (λ (y : Object). Stepped v x None o (with_link y proto)) (sym (is-fast v kept of_null h o there fast))
          (alike-step maps details unused v kept of_null h o so x proto moved.changed moved.opens moved.alike moved.moved
          (subst (λ (r : RootWord). IsTrue r.is_proto) (sym (moved.roots o)) private) moved.store moved.words)

      same-kept : set kept o None ≡ kept
      same-kept = set-same kept o None there fast

      -- the world has the prototype
      pub link-world : world x.trail kept ≡ with_proto (world v.trail kept) o proto
      link-world = subst (λ (ks : List (Option Dictionary)). world x.trail ks ≡ with_proto (world v.trail kept) o proto) same-kept
          (stepped-world maps details v x kept of_null h None o (with_link (object (world v.trail kept) o) proto) there step)

      -- what holds of objects holds again
      pub link-sound : ChangesKeep → IsThere (world v.trail kept) proto → reaches (world v.trail kept) proto o ≡ false → IsObjects x kept of_null
      link-sound keeps named no_cycle = subst (λ (ks : List (Option Dictionary)). IsObjects x ks of_null) same-kept
          (stepped-sound maps details v x kept of_null h None o (with_link (object (world v.trail kept) o) proto) there step (ap (λ (s : Shape). s.objects) moved.used)
          (keeps (tables_of v kept) (Linked o proto) h.sound (subst (λ (n : ℕ). o < n) (sym (length-world v.trail kept)) there, named, no_cycle)))

-- a call that gives a prototype: the object's map and gate were read, and the object came to a copy, or there was no room
module _ {P : Type 0} (a b : ObjectsState P) (o : ℕ) (same : a ≡ b) (h : IsObjects a.heap.view a.kept a.of_null) (object : o < length (world_of b)) (fast : kept_of b.kept o ≡ None) (private : IsTrue (root_in b.heap.view.trail o).is_proto)
    (w y : View) (m : ℕ) (g : GateWord) (read : w ≡ a.heap.view) (again : y ≡ w) (is : map_in a.heap.view.trail o ≡ Some m) (gate : gate_in w.trail m ≡ Some g) where
  pub call-there : o < length a.kept
  call-there = within a b o same object

  pub call-fast : kept_of a.kept o ≡ None
  call-fast = subst (λ (s : ObjectsState P). kept_of s.kept o ≡ None) (sym same) fast

  pub call-private : IsTrue (root_in a.heap.view.trail o).is_proto
  call-private = subst (λ (s : ObjectsState P). IsTrue (root_in s.heap.view.trail o).is_proto) (sym same) private

  pub call-gate : gate_in a.heap.view.trail m ≡ Some g
  call-gate = subst (λ (x : View). gate_in x.trail m ≡ Some g) read gate

  pub call-owner : IsOwner y o m g.entries
  call-owner = owner a.heap.view a.kept a.of_null h o call-there call-fast call-private y m g (again ∙ read) is call-gate

  pub call-may-be : (proto : Option ℕ) → IsThere (world_of b) proto → IfSome proto (λ p. IsTrue (root_in b.heap.view.trail p).is_proto) → MayBePrototype y.used y.trail proto
  call-may-be proto named marked = subst (λ (x : View). MayBePrototype x.used x.trail proto) (sym (again ∙ read))
      (may-be a.heap.view a.kept a.of_null h proto (subst (λ (s : ObjectsState P). IsThere (world_of s) proto) (sym same) named)
      (subst (λ (s : ObjectsState P). IfSome proto (λ p. IsTrue (root_in s.heap.view.trail p).is_proto)) (sym same) marked))

  module _ (maps : MapsAreKept) (details : DetailsRise) (unused : UnusedSaysNothing) (x : View) (proto : Option ℕ) where
    moved-here : IsMovedToCopy false y x o m g.entries proto
        → IsMovedToCopy false a.heap.view x o (has-map a.heap.view a.kept a.of_null h o call-there call-fast).map (has-map a.heap.view a.kept a.of_null h o call-there call-fast).gate.entries proto
    moved-here moved =
        subst (λ (z : GateWord). IsMovedToCopy false a.heap.view x o (has-map a.heap.view a.kept a.of_null h o call-there call-fast).map z.entries proto) (sym (gate-is a.heap.view a.kept a.of_null h o call-there call-fast g m is call-gate))
        (subst (λ (z : ℕ). IsMovedToCopy false a.heap.view x o z g.entries proto) (sym (map-is a.heap.view a.kept a.of_null h o call-there call-fast m is))
        (subst (λ (z : View). IsMovedToCopy false z x o m g.entries proto) (again ∙ read) moved))

    pub call-link-sound : ChangesKeep → IsThere (world_of b) proto → reaches (world_of b) proto o ≡ false → (done : Bool) → (IsTrue done → IsMovedToCopy false y x o m g.entries proto) → (done ≡ false → x ≡ y) → IsObjects x a.kept a.of_null
    call-link-sound keeps named no_cycle true moved still = link-sound a.heap.view a.kept a.of_null h o call-there call-fast call-private maps details unused x proto (moved-here (moved refl)) keeps
        (subst (λ (s : ObjectsState P). IsThere (world_of s) proto) (sym same) named)
        (subst (λ (s : ObjectsState P). reaches (world_of s) proto o ≡ false) (sym same) no_cycle)
    call-link-sound keeps named no_cycle false moved still = subst (λ (v : View). IsObjects v a.kept a.of_null) (sym (still refl ∙ again ∙ read)) h

    pub call-link-world : IsMovedToCopy false y x o m g.entries proto → world x.trail a.kept ≡ with_proto (world a.heap.view.trail a.kept) o proto
    call-link-world moved = link-world a.heap.view a.kept a.of_null h o call-there call-fast call-private maps details unused x proto (moved-here moved)
