-- An object with a private map comes to a copy of it, with another prototype.
use Rattle.hc_tree.specs.Details.{NoMap}
use Rattle.std.proofs.Common.{◌≡◌, ℕ, ◌≤◌, Bool, cond, Option, Some, None, IfSome, refl, sym, ap, ◌∙◌, subst, eq-eqb}
use Rattle.std.specs.Prelude.{IsSomeAnd, IsTrue}
use Rattle.hc_layout.specs.declared.words.GateWord.{GateWord}
use Rattle.hc_layout.specs.declared.words.StoreWord.{StoreWord}
use Rattle.hc_heap.specs.Writes.{ObjectMap}
use Rattle.hc_heap.specs.Readings.{bits_in, map_in, store_in}
use Rattle.hc_heap.specs.Lawful.{HoldsEntries, LawfulObjectMap}
use Rattle.hc_heap.specs.Kept.{DetailsRise, GoesOn, UnusedSaysNothing}
use Rattle.hc_heap.specs.Frames.{adds-on, goes-on-of, adds-one}
use Rattle.hc_heap.specs.States.{View, IsHeap, with_write}
use Rattle.hc_descs.specs.Entries.{count_of, entries_in}
use Rattle.hc_tree.specs.Kept.{MapsAreKept, TreesStay}
use Rattle.hc_tree.specs.Copying.{copy_need}
use Rattle.hc_tree.specs.Needs.{with_need}
use Rattle.hc_slots.specs.Fast.{IsFast}
use Rattle.hc_modes.specs.Privates.{IsAlike, IsCopied, IsMovedToCopy}
use Rattle.hc_modes.proofs.Alike.{alike-copy, alike-holds}
use Rattle.hc_modes.proofs.Copied.{copy-changed, copy-later, copy-opens, copy-there, map-same, root-same, store-same, word-same}
use Rattle.hc_modes.proofs.Owning.{open-used}
use Rattle.hc_modes.proofs.Steps.{move-tree}
use Rattle.hc_modes.proofs.Touching.{map-moved}

module _ (maps : MapsAreKept) (details : DetailsRise) (trees : TreesStay) (unused : UnusedSaysNothing) (fresh : Bool) (proto : Option ℕ) (v w : View) (o m : ℕ) (g : GateWord)
    (heap : IsHeap v) (it : IsCopied fresh None proto v w m) (has : map_in v.trail o ≡ Some m) (fast : IsFast v.trail o m g) where
  count : count_of v.trail m ≡ g.entries
  count = ap entries_in fast.is_open

  alike : IsAlike w.trail v.used.maps m g.entries proto
  alike = subst (λ (k : ℕ). IsAlike w.trail v.used.maps m k proto) count (alike-copy fresh proto w.trail v.used.maps m (count_of v.trail m) v.used.fields it.copy)

  room : g.entries ≤ (store_in w.trail o).capacity
  room = subst (λ (x : StoreWord). g.entries ≤ x.capacity) (sym (store-same maps details unused fresh None proto v w m heap it o)) fast.holds.capacity

  -- the object may have the copy
  pub copy-lawful : LawfulObjectMap w.shape w.trail o (Some v.used.maps)
  copy-lawful = record {
    leaves = subst (λ (y : Option ℕ). IfSome y (λ k. IsTrue (bits_in w.trail k).unstable)) (sym (map-same maps details unused fresh None proto v w m heap it o ∙ has)) it.unstable;
    gets = record {
      there = copy-there maps details unused fresh None proto v w m heap it;
      filled = subst (λ (y : Option GateWord). IsSomeAnd y (λ x. HoldsEntries w.trail o v.used.maps x)) (sym alike.gate)
          (alike-holds v.trail w.trail (copy-later maps details unused fresh None proto v w m heap it) o m g fast v.used.maps proto alike room (λ k lt. word-same maps details unused fresh None proto v w m heap it o k));
      own = λ yes. it.own;
    };
  }

  -- and has it
  module _ (moved_heap : IsHeap (with_write w (ObjectMap o (Some v.used.maps)))) where
    abbrev new : View
    new = with_write w (ObjectMap o (Some v.used.maps))

    on : GoesOn w.shape w.trail new.trail
    on = goes-on-of w.shape (map-moved NoMap v o w.trail (Some v.used.maps)) moved_heap.lawful

    pub moved-to-copy : IsMovedToCopy fresh v (with_write w (ObjectMap o (Some v.used.maps))) o m g.entries proto
    moved-to-copy =
        let changed = copy-changed maps details unused fresh None proto v w m heap it o in
        let opens = copy-opens maps details unused fresh None proto v w m heap it in
        record {
          changed = record {
            writes = adds-on changed.writes (map-moved NoMap v o w.trail (Some v.used.maps));
            shape = changed.shape;
            slots = changed.slots;
            tree = trees w.shape w.trail new.trail it.heap.lawful on (move-tree w.trail o (Some v.used.maps)) it.tree;
            heap = moved_heap;
          };
          opens = λ k x none gate shared parent. opens k x none gate shared parent;
          alike = record { gate = alike.gate; prototype = alike.prototype; keys = alike.keys; details = alike.details };
          moved = ap (λ (b : Bool). cond b (Some v.used.maps) (map_in w.trail o)) (eq-eqb o o refl);
          roots = λ q. root-same maps details unused fresh None proto v w m heap it q;
          store = store-same maps details unused fresh None proto v w m heap it o;
          words = λ k lt. word-same maps details unused fresh None proto v w m heap it o k;
          used = subst (λ (k : ℕ). w.used ≡ with_need (copy_need fresh None k) v.used) count it.used;
          younger = open-used unused v heap m g fast.is_open;
          stable = it.own.stable;
          after = adds-on it.after (adds-one w.trail (ObjectMap o (Some v.used.maps)) tt);
        }
