-- The map of a fast object is made unstable: the objects are as they were.
use Rattle.hc_tree.specs.Details.{NoMap}
use Rattle.std.proofs.Common.{◌≡◌, ℕ, ◌<◌, List, Option, None, length, refl, sym, ap, ◌∙◌, subst}
use Rattle.std.proofs.Math.Nat.{le_refl}
use Rattle.hc_layout.specs.declared.words.StoreWord.{StoreWord}
use Rattle.hc_heap.specs.Writes.{Trail}
use Rattle.hc_heap.specs.Readings.{gate_in, map_in, root_in, store_in, slot_in}
use Rattle.hc_heap.specs.Kept.{DetailsRise, FormsAreKept, UnusedSaysNothing}
use Rattle.hc_facts.specs.Laws.{HonestAfter, KeptIsCarried}
use Rattle.hc_heap.specs.Frames.{goes-on-of}
use Rattle.hc_heap.specs.States.{View, IsHeap}
use Rattle.hc_tree.specs.Tree.{IsTree}
use Rattle.hc_tree.specs.Kept.{MapsAreKept}
use Rattle.hc_tree.specs.Growth.{marked}
use Rattle.hc_slots.specs.Meaning.{Dictionary, object_shown, slot_word}
use Rattle.hc_modes.specs.Meaning.{kept_of, world}
use Rattle.hc_slots.specs.Slots.{AreHandedOut, IsIn}
use Rattle.hc_slots.specs.Fast.{HasMap}
use Rattle.hc_modes.specs.State.{IsObjects}
use Rattle.hc_modes.specs.Admitting.{FactsStay}
use Rattle.hc_modes.specs.Changes.{Stepped, WordsStay}
use Rattle.hc_modes.proofs.Facts.{same-facts}
use Rattle.hc_modes.proofs.Left.{marked-same}
use Rattle.hc_modes.proofs.Owning.{alone-still}
use Rattle.hc_modes.proofs.Prototypes.{same-world, same-sound}
use Rattle.hc_slots.specs.Cases.{not-both}
use Rattle.hc_modes.proofs.Staying.{IsLater, later, object-stays, kept-still}
use Rattle.hc_modes.proofs.Touching.{map-marked}
use Rattle.hc_modes.proofs.Writing.{has-map}

module _ (maps : MapsAreKept) (details : DetailsRise) (unused : UnusedSaysNothing) (v : View) (kept : List (Option Dictionary)) (null : Option ℕ) (h : IsObjects v kept null) (o : ℕ) (there : o < length kept) (fast : kept_of kept o ≡ None) (m : ℕ)
    (tree : IsTree (marked v.trail m)) (heap : IsHeap (record v { trail = marked v.trail m })) where
  abbrev then : View
  then = record v { trail = marked v.trail m }

  after : IsLater v.trail then.trail
  after = later maps details v.shape v.trail then.trail h.heap.lawful (goes-on-of v.shape (map-marked NoMap v o v.trail m) heap.lawful)

  so : HasMap v.trail o
  so = has-map v kept null h o there fast

  store-same : store_in then.trail o ≡ store_in v.trail o
  store-same = marked-same v.trail m (λ (t : Trail). store_in t o) (λ b. refl)

  map-same : map_in then.trail o ≡ map_in v.trail o
  map-same = marked-same v.trail m (λ (t : Trail). map_in t o) (λ b. refl)

  gate-same : (k : ℕ) → gate_in then.trail k ≡ gate_in v.trail k
  gate-same k = marked-same v.trail m (λ (t : Trail). gate_in t k) (λ b. refl)

  stay : WordsStay v.trail then.trail o
  stay = record {
    map = map-same;
    store = store-same;
    slots = λ s owns. marked-same v.trail m (λ (t : Trail). slot_in t s) (λ b. refl);
    proto = marked-same v.trail m (λ (t : Trail). (root_in t o).is_proto) (λ b. refl);
  }

  step : Stepped v then None o (object_shown v.trail o (kept_of kept o) (map_in v.trail o))
  step = record {
    changed = record { writes = map-marked NoMap v o v.trail m; shape = refl; slots = le_refl v.used.slots; tree = tree; heap = heap };
    well = record {
      as_kept = kept-still v.trail then.trail after o None stay so;
      store = subst (λ (w : StoreWord). AreHandedOut v.used.slots w) (sym store-same) (h.stores o);
      owns = λ s owns lt. subst (λ (w : StoreWord). IsIn w s) store-same owns;
      alone = λ p k g other is was gate. alone-still unused v h.heap kept null h o p k g other (sym map-same ∙ is) was (sym (gate-same k) ∙ gate);
    };
    opens = λ k g none gate shared parent. not-both (gate_in v.trail k) g none (sym (gate-same k) ∙ gate);
    value = object-stays v.trail then.trail after o None stay so ∙ ap (λ (d : Option Dictionary). object_shown v.trail o d (map_in v.trail o)) (sym fast);
  }

  pub mark-world : world (marked v.trail m) kept ≡ world v.trail kept
  mark-world = same-world maps details v then kept null h None o there step fast

  pub mark-sound : IsObjects (record v { trail = marked v.trail m }) kept null
  mark-sound = same-sound maps details v then kept null h None o there step fast refl

  -- fields stay honest, and constants stay
  pub mark-facts : FormsAreKept → HonestAfter → KeptIsCarried → FactsStay v.shape v.trail then.trail
  mark-facts forms honest carried = same-facts maps details forms v then kept null h o step.changed honest carried map-same (λ k. marked-same v.trail m (λ (t : Trail). slot_word t o k) (λ b. refl))
