-- An object that came to a map in the place of its own is what it was, and so are all others.
use Rattle.std.proofs.Common.{◌≡◌, ◌≢◌, ℕ, ◌<◌, Bool, true, false, ◌++◌, List, Option, Some, None, length, refl, sym, ap, ◌∙◌, subst}
use Rattle.std.specs.Prelude.{IsTrue}
use Rattle.hc_layout.specs.declared.words.GateWord.{GateWord}
use Rattle.hc_layout.specs.declared.words.StoreWord.{StoreWord}
use Rattle.hc_heap.specs.Kept.{DetailsRise, FormsAreKept, StableIsKept, UnusedSaysNothing}
use Rattle.hc_heap.specs.Readings.{bits_in, gate_in, map_in, prototype_in, root_in, store_in}
use Rattle.hc_heap.specs.States.{View}
use Rattle.hc_heap.specs.Writes.{Write}
use Rattle.hc_facts.specs.Laws.{HonestAfter, KeptIsCarried, MovedIsCarried}
use Rattle.hc_tree.specs.Growth.{marked}
use Rattle.hc_tree.specs.Kept.{MapsAreKept}
use Rattle.hc_tree.specs.Tree.{gate_with}
use Rattle.hc_slots.specs.Cases.{same-or, some-is}
use Rattle.hc_slots.specs.Fast.{IsFast}
use Rattle.hc_slots.specs.Meaning.{Dictionary, object_shown}
use Rattle.hc_slots.specs.Slots.{AreHandedOut, IsIn}
use Rattle.hc_modes.specs.Admitting.{FactsStay}
use Rattle.hc_modes.specs.Changes.{ChangedBut, KeptBut, IsWell}
use Rattle.hc_modes.specs.Meaning.{kept_of, object_at, world}
use Rattle.hc_modes.specs.Resettled.{IsResettled}
use Rattle.hc_tree.specs.Dying.{HaveDied}
use Rattle.hc_modes.specs.Rest.{IsLinkedOrDead, MarksBut}
use Rattle.hc_modes.proofs.Sparing.{deaths-of}
use Rattle.hc_modes.specs.State.{AreRoots, IsObjects}
use Rattle.hc_modes.proofs.Facts.{resettled-facts}
use Rattle.hc_modes.proofs.Likeness.{same-object}
use Rattle.hc_modes.proofs.Marking.{came-marks, cells-kept, maps-kept}
use Rattle.hc_modes.proofs.Owning.{nobody-has}
use Rattle.hc_modes.proofs.Sound.{others-same, sound-after, tables-after}
use Rattle.hc_modes.proofs.Worlds.{world-same}

module _ {Dies : ℕ → Type 0} (maps : MapsAreKept) (details : DetailsRise) (unused : UnusedSaysNothing) (v x : View) (kept : List (Option Dictionary)) (null : Option ℕ) (h : IsObjects v kept null) (o : ℕ) (there : o < length kept) (still : kept_of kept o ≡ None)
    (m c n : ℕ) (own : Bool) (proto : Option ℕ) (has : map_in v.trail o ≡ Some m) (fast : IsFast v.trail o m (gate_with n own)) (is : prototype_in v.trail m ≡ Some proto)
    (changed : ChangedBut Dies v x o) (settled : IsResettled v.trail x.trail o m c n own proto) (protos : (q : ℕ) → (root_in x.trail q).is_proto ≡ (root_in v.trail q).is_proto)
    (fresh : IsTrue own → c ≡ v.used.maps) (objects : x.used.objects ≡ v.used.objects) (slots : x.used.slots ≡ v.used.slots) (unstable : IsTrue (bits_in x.trail m).unstable) where
  alone-by : (b : Bool) → own ≡ b → (p k : ℕ) (g : GateWord) → p ≢ o → map_in x.trail o ≡ Some k → map_in v.trail p ≡ Some k → gate_in x.trail k ≡ Some g → g.is_private ≡ false
  alone-by false e p k g other is_k was open_k =
      let same : c ≡ k = some-is c k (sym settled.moved ∙ is_k) in
      let gates : gate_with n own ≡ g = some-is (gate_with n own) g (sym settled.gate ∙ ap (gate_in x.trail) same ∙ open_k) in
      sym (ap (λ (z : GateWord). z.is_private) gates) ∙ e
  alone-by true e p k g other is_k was open_k =
      let same : v.used.maps ≡ k = sym (fresh e) ∙ some-is c k (sym settled.moved ∙ is_k) in
      absurd (nobody-has unused v h.heap kept null h p (subst (λ (y : ℕ). map_in v.trail p ≡ Some y) (sym same) was))

  well : IsWell v x None o
  well = record {
    as_kept = record {
      map = c;
      gate = gate_with n own;
      is_map = settled.moved;
      fast = record {
        is_open = settled.gate;
        holds = record { capacity = settled.holds.capacity; slots = settled.holds.slots };
        private = fast.private ∙ sym (protos o);
      };
    };
    store = subst (λ (s : ℕ). AreHandedOut s (store_in x.trail o)) (sym slots) (subst (λ (y : StoreWord). AreHandedOut v.used.slots y) (sym settled.store) (h.stores o));
    owns = λ s owns lt. subst (λ (y : StoreWord). IsIn y s) settled.store owns;
    alone = λ p k g other is_k was open_k. alone-by own refl p k g other is_k was open_k;
  }

  but : KeptBut o kept kept
  but = record { others = λ p other. refl; there = λ p other lt. lt }

  value : object_at x.trail kept o ≡ object_at v.trail kept o
  value =
      ap (λ (d : Option Dictionary). object_shown x.trail o d (map_in x.trail o)) still
      ∙ ap (λ (k : Option ℕ). object_shown x.trail o None k) settled.moved
      ∙ same-object v.trail x.trail o m c n own fast proto settled is
      ∙ sym (ap (λ (d : Option Dictionary). object_shown v.trail o d (map_in v.trail o)) still ∙ ap (λ (k : Option ℕ). object_shown v.trail o None k) has)

  -- the tables are as they were
  pub on-world : world x.trail kept ≡ world v.trail kept
  on-world = world-same v.trail x.trail kept kept refl (λ p lt. same-or p o (object_at x.trail kept p ≡ object_at v.trail kept p)
      (λ same. subst (λ (q : ℕ). object_at x.trail kept q ≡ object_at v.trail kept q) (sym same) value)
      (λ other. others-same maps details v x o h.heap changed kept kept null h but p lt other))

  -- and what holds of objects holds again
  pub on-sound : (then_null : Option ℕ) → AreRoots x.trail then_null → IsObjects x kept then_null
  on-sound then_null roots = sound-after maps details v x o h.heap changed kept kept null h then_null but (h.items ∙ sym objects)
      (subst (λ (d : Option Dictionary). IsWell v x d o) (sym still) well) roots
      (tables-after v x kept kept (world v.trail kept) changed.shape on-world h.sound)

  pub on-facts : FormsAreKept → StableIsKept → HonestAfter → KeptIsCarried → MovedIsCarried → FactsStay v.shape v.trail x.trail
  on-facts forms stable honest carried carries =
      resettled-facts maps details forms stable honest carried carries v x kept null h o m n (gate_with n own) has fast.is_open refl c own proto changed unstable settled

  -- the map that the object left was made unstable first
  pub on-marks : c ≢ m → (more : List Write) → x.trail ≡ more ++ marked v.trail m → ((y : ℕ) → y ≢ m → (bits_in v.trail y).unstable ≡ false → IsTrue (bits_in x.trail y).unstable → IsLinkedOrDead v.trail x.trail y)
      → (IsTrue own → (bits_in x.trail c).unstable ≡ false) → HaveDied Dies v.trail x.trail → MarksBut Dies v.trail x.trail o
  on-marks other more begins linked stable dead = came-marks v.trail x.trail o m more has begins
      (λ same. other (some-is c m (sym settled.moved ∙ same)))
      linked
      (maps-kept v x o changed)
      (λ k to private.
      let same : c ≡ k = some-is c k (sym settled.moved ∙ to) in
      let yes : IsTrue own = fast.private ∙ (sym (protos o) ∙ private) in
      subst (λ (y : ℕ). (bits_in x.trail y).unstable ≡ false) same (stable yes))
      (cells-kept v x o changed)
      (deaths-of v x o changed dead)
