-- Objects after a step of one of them, and after one was made.
use Rattle.std.proofs.Common.{◌≡◌, ℕ, zero, suc, ◌+◌, ◌<◌, List, [], ◌∷◌, ◌++◌, Option, Some, None, length, set, refl, sym, ap, ◌∙◌, subst, arith}
use Rattle.std.proofs.Math.Nat.{le_refl}
use Rattle.std.proofs.lemmas.List.{length-set}
use Rattle.hc_heap.specs.Readings.{map_in}
use Rattle.hc_heap.specs.Kept.{DetailsRise}
use Rattle.hc_heap.specs.Frames.{adds-none}
use Rattle.hc_heap.specs.States.{View}
use Rattle.hc_tree.specs.Kept.{MapsAreKept}
use Rattle.hc_table.specs.Kept.{IsKept, with_world}
use Rattle.hc_table.specs.World.{Object, new_object, with_object}
use Rattle.hc_slots.specs.Meaning.{Dictionary, dictionary_object, object_shown}
use Rattle.hc_modes.specs.Meaning.{kept_of, world}
use Rattle.hc_modes.specs.State.{IsObjects, AreRoots, tables_of}
use Rattle.hc_modes.specs.Changes.{Changed, IsWell, Stepped, SteppedBut}
use Rattle.hc_modes.proofs.Items.{kept-set, kept-set_here, kept-push, kept-push_here, length-push}
use Rattle.hc_modes.proofs.Sound.{is-later, others-same, sound-after, roots-stay, tables-after}
use Rattle.hc_modes.proofs.Worlds.{world-set, world-push}

module _ (maps : MapsAreKept) (details : DetailsRise) (old new : View) (kept : List (Option Dictionary)) (of_null : Option ℕ) (h : IsObjects old kept of_null) where
  -- after a step of an object
  module _ {Dies : ℕ → Type 0} (item : Option Dictionary) (o : ℕ) (x : Object) (there : o < length kept) (step : SteppedBut Dies old new item o x) where
    item-is : kept_of (set kept o item) o ≡ item
    item-is = kept-set_here kept o item there

    pub stepped-world : world new.trail (set kept o item) ≡ set (world old.trail kept) o x
    stepped-world = world-set old.trail new.trail kept (set kept o item) o x (length-set kept o item)
        (others-same maps details old new o h.heap step.changed kept (set kept o item) of_null h (kept-set kept o item))
        (ap (λ (i : Option Dictionary). object_shown new.trail o i (map_in new.trail o)) item-is ∙ step.value)

    pub stepped-sound : new.used.objects ≡ old.used.objects → IsKept (with_world (tables_of old kept) (set (world old.trail kept) o x)) → IsObjects new (set kept o item) of_null
    stepped-sound same sound = sound-after maps details old new o h.heap step.changed kept (set kept o item) of_null h of_null
        (kept-set kept o item)
        (length-set kept o item ∙ h.items ∙ sym same)
        (subst (λ (i : Option Dictionary). IsWell old new i o) (sym item-is) step.well)
        (roots-stay old new.trail o of_null (is-later maps details old new o h.heap step.changed) step.changed.writes step.opens h.roots)
        (tables-after old new kept (set kept o item) (set (world old.trail kept) o x) step.changed.shape stepped-world sound)

  -- after an object was made
  module _ (item : Option Dictionary) (proto : Option ℕ) (null : Option ℕ) (changed : Changed old new (length kept)) (well : IsWell old new item (length kept)) (value : object_shown new.trail (length kept) item (map_in new.trail (length kept)) ≡ new_object proto) where
    made-is : kept_of (kept ++ item ∷ []) (length kept) ≡ item
    made-is = kept-push_here kept item

    pub made-world : world new.trail (kept ++ item ∷ []) ≡ with_object (world old.trail kept) proto
    made-world = world-push old.trail new.trail kept (kept ++ item ∷ []) proto (length-push kept item)
        (λ p lt. others-same maps details old new (length kept) h.heap changed kept (kept ++ item ∷ []) of_null h (kept-push kept item) p lt (λ e. omega (arith, lt, e)))
        (ap (λ (i : Option Dictionary). object_shown new.trail (length kept) i (map_in new.trail (length kept))) made-is ∙ value)

    pub made-sound : new.used.objects ≡ old.used.objects + 1 → AreRoots new.trail null → IsKept (with_world (tables_of old kept) (with_object (world old.trail kept) proto)) → IsObjects new (kept ++ item ∷ []) null
    made-sound more roots sound = sound-after maps details old new (length kept) h.heap changed kept (kept ++ item ∷ []) of_null h null
        (kept-push kept item)
        (length-push kept item ∙ ap (λ n. n + 1) h.items ∙ sym more)
        (subst (λ (i : Option Dictionary). IsWell old new i (length kept)) (sym made-is) well)
        roots
        (tables-after old new kept (kept ++ item ∷ []) (with_object (world old.trail kept) proto) changed.shape made-world sound)

-- an item that stays the same
pub set-same : (kept : List (Option Dictionary)) (o : ℕ) (item : Option Dictionary) → o < length kept → kept_of kept o ≡ item → set kept o item ≡ kept
set-same [] o item lt is = refl
set-same (x ∷ xs) zero item lt is = ap (λ (y : Option Dictionary). y ∷ xs) (sym is)
set-same (x ∷ xs) (suc o) item lt is = ap (λ (ys : List (Option Dictionary)). x ∷ ys) (set-same xs o item (omega arith) is)

-- nothing was written: a slow object has another dictionary
pub slow-step : (v : View) (kept : List (Option Dictionary)) (of_null : Option ℕ) (h : IsObjects v kept of_null) (o : ℕ) (d : Dictionary) → map_in v.trail o ≡ None → Stepped v v (Some d) o (dictionary_object d)
slow-step v kept of_null h o d none = record {
  changed = record { writes = adds-none v.trail; shape = refl; slots = le_refl v.used.slots; tree = h.tree; heap = h.heap };
  well = record {
    as_kept = none;
    store = h.stores o;
    owns = λ s owns lt. owns;
    alone = λ p m g other is was gate. let n : None ≡ Some m = sym none ∙ is in let f : ⊥ = cc in absurd f;
  };
  opens = λ m g none gate shared parent. let n : None ≡ Some g = sym none ∙ gate in let f : ⊥ = cc in f;
  value = refl;
}
