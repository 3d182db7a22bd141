-- An object without properties that is made slow: what becomes of the objects, and whether there is room for it.
use Rattle.std.proofs.Common.{◌≡◌, ℕ, ◌+◌, ◌<◌, ◌≤◌, false, List, [], ◌∷◌, ◌++◌, Option, Some, None, length, refl, sym, ap, ◌∙◌, subst, arith}
use Rattle.std.proofs.Math.Nat.{le_refl}
use Rattle.std.specs.Prelude.{Result, Ok, Err, IsErrAnd, IsErrOf}
use Rattle.hc_layout.specs.declared.shape.Region.TheVariants.{Objects}
use Rattle.hc_layout.specs.declared.words.RootWord.{RootWord}
use Rattle.hc_heap.specs.Readings.{map_in, root_in}
use Rattle.hc_heap.specs.Kept.{DetailsRise, UnusedSaysNothing}
use Rattle.hc_heap.specs.Frames.{adds-none}
use Rattle.hc_heap.specs.States.{View, IsHeap, HasRoom}
use Rattle.hc_heap.specs.declared.kind.Kind.TheVariants.{RootOfObject}
use Rattle.hc_tree.specs.Kept.{MapsAreKept}
use Rattle.hc_table.specs.Changes.{Created, IsThere}
use Rattle.hc_table.specs.Kept.{ChangesKeep}
use Rattle.hc_table.specs.declared.fault.TableFault.{TableFault}
use Rattle.hc_table.specs.declared.fault.TableFault.TheVariants.{Memory, Full}
use Rattle.hc_table.specs.World.{new_object, object, with_object}
use Rattle.hc_slots.specs.Meaning.{Dictionary, dictionary_object, object_shown}
use Rattle.hc_modes.specs.Meaning.{world}
use Rattle.hc_modes.specs.State.{ObjectsState, IsObjects, tables_of}
use Rattle.hc_modes.specs.Changes.{Changed, IsWell}
use Rattle.hc_modes.specs.Came.{world_of}
use Rattle.hc_modes.proofs.Items.{kept-push_here, length-push}
use Rattle.hc_modes.proofs.Owning.{map-none}
use Rattle.hc_modes.proofs.Stepping.{made-world, made-sound}
use Rattle.hc_modes.proofs.Worlds.{length-world, object-world}

-- An object that is not there yet

module _ (unused : UnusedSaysNothing) (v : View) (heap : IsHeap v) (o : ℕ) (le : v.used.objects ≤ o) where
  pub proto-none : (root_in v.trail o).is_proto ≡ false
  proto-none = ap (λ (r : RootWord). r.is_proto) (unused v.used v.trail RootOfObject o heap.used le)

-- A new slow object

module _ (maps : MapsAreKept) (details : DetailsRise) (unused : UnusedSaysNothing) (old new : View) (kept : List (Option Dictionary)) (null : Option ℕ) (h : IsObjects old kept null) (d : Dictionary)
    (same : new ≡ record old { used = record old.used { objects = old.used.objects + 1 } }) (heap : IsHeap new) (proto : Option ℕ) (is : dictionary_object d ≡ new_object proto) where
  abbrev more : View
  more = record old { used = record old.used { objects = old.used.objects + 1 } }

  not-made : old.used.objects ≤ length kept
  not-made = omega (arith, h.items)

  slow-changed : Changed old more (length kept)
  slow-changed = record { writes = adds-none old.trail; shape = refl; slots = le_refl old.used.slots; tree = h.tree; heap = subst IsHeap same heap }

  slow-well : IsWell old more (Some d) (length kept)
  slow-well =
      let no_map = map-none unused old h.heap (length kept) not-made in
      record {
        as_kept = no_map;
        store = h.stores (length kept);
        owns = λ s owns lt. owns;
        alone = λ p m g other is was gate. let n : None ≡ Some m = sym no_map ∙ is in let f : ⊥ = cc in absurd f;
      }

  -- the world has it
  pub slow-world : world new.trail (kept ++ Some d ∷ []) ≡ with_object (world old.trail kept) proto
  slow-world = subst (λ (v : View). world v.trail (kept ++ Some d ∷ []) ≡ with_object (world old.trail kept) proto) (sym same)
      (made-world maps details old more kept null h (Some d) proto null slow-changed slow-well is)

  -- what holds of objects holds again
  pub slow-sound : ChangesKeep → IsThere (world old.trail kept) proto → length kept < old.shape.objects → IsObjects new (kept ++ Some d ∷ []) null
  slow-sound keeps there room = subst (λ (v : View). IsObjects v (kept ++ Some d ∷ []) null) (sym same)
      (made-sound maps details old more kept null h (Some d) proto null slow-changed slow-well is refl h.roots
      (keeps (tables_of old kept) (Created proto) h.sound (there, omega (arith, room, length-world old.trail kept))))

  -- what it is there
  pub slow-value : object (world new.trail (kept ++ Some d ∷ [])) (length kept) ≡ new_object proto
  slow-value =
      object-world new.trail (kept ++ Some d ∷ []) (length kept) (omega (arith, length-push kept (Some d)))
      ∙ ap (λ (i : Option Dictionary). object_shown new.trail (length kept) i (map_in new.trail (length kept))) (kept-push_here kept (Some d))
      ∙ is

-- Whether there is room for an object

module _ {P : Type 0} (a b : ObjectsState P) (same : a ≡ b) (h : IsObjects a.heap.view a.kept a.of_null) where
  pub count-of : length (world_of b) ≡ length a.kept
  count-of = ap (λ (s : ObjectsState P). length (world_of s)) (sym same) ∙ length-world a.heap.view.trail a.kept

  limit-of : b.heap.view.shape.objects ≡ a.heap.view.shape.objects
  limit-of = ap (λ (s : ObjectsState P). s.heap.view.shape.objects) (sym same)

  pub is-full : (HasRoom a.heap.view Objects 1 → ⊥) → length (world_of b) ≡ b.heap.view.shape.objects
  is-full lacks =
      let most = h.heap.most Objects in
      let more : (a.heap.view.used.objects + 1 ≤ a.heap.view.shape.objects) → ⊥ = lacks in
      omega (arith, count-of, limit-of, h.items, most, more)

  pub not-full : HasRoom a.heap.view Objects 1 → length (world_of b) ≡ b.heap.view.shape.objects → ⊥
  not-full room full =
      let more : a.heap.view.used.objects + 1 ≤ a.heap.view.shape.objects = room in
      omega (arith, count-of, limit-of, h.items, more, full)

-- want of memory isn't want of room
pub memory-not-full : (r : Result ℕ TableFault) → IsErrAnd r (λ f. f ≡ Memory) → IsErrOf r Full → ⊥
memory-not-full (Err Memory) e full = let n : ⊥ = cc in n
memory-not-full (Err Full) e full = let n : ⊥ = cc in n
memory-not-full (Ok o) e full = e

pub ok-not-full : (o : ℕ) → IsErrOf {T = ℕ} {E = TableFault} (Ok o) Full → ⊥
ok-not-full o full = let n : ⊥ = cc in n
