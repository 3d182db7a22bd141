-- An object becomes a prototype: the write of its root word, and the step of a slow object.
use Rattle.std.proofs.Common.{◌≡◌, ◌≢◌, ℕ, ◌<◌, Bool, true, false, cond, eqb, eqb-true, eq-eqb, List, Option, Some, None, IfSome, length, set, refl, sym, ap, ◌∙◌, subst, arith}
use Rattle.std.proofs.Math.Nat.{le_refl}
use Rattle.hc_layout.specs.declared.shape.Region.TheVariants.{Maps}
use Rattle.hc_layout.specs.declared.words.RootWord.{RootWord}
use Rattle.hc_heap.specs.Writes.{Trail, Root}
use Rattle.hc_heap.specs.Readings.{gate_in, map_in, root_in}
use Rattle.hc_heap.specs.Lawful.{Lawful, LawfulRoot, IsOwnMap}
use Rattle.hc_heap.specs.Kept.{Adds, DetailsRise, UnusedSaysNothing}
use Rattle.hc_heap.specs.Frames.{adds-one, goes-on-of}
use Rattle.hc_heap.specs.States.{View, IsHeap}
use Rattle.hc_tree.specs.Kept.{MapsAreKept, TreesStay}
use Rattle.hc_tree.specs.Tree.{IsTree, gate_with}
use Rattle.hc_table.specs.Kept.{IsKept, with_world}
use Rattle.hc_table.specs.World.{World}
use Rattle.hc_heap.specs.Kept.{FormsAreKept, StableIsKept}
use Rattle.hc_facts.specs.Laws.{HonestAfter, KeptIsCarried}
use Rattle.hc_modes.specs.Admitting.{FactsStay}
use Rattle.hc_modes.proofs.Facts.{none-facts}
use Rattle.hc_modes.specs.Becoming.{HasBecome, with_proto}
use Rattle.hc_modes.specs.Changes.{Touches, Stepped, SteppedBut}
use Rattle.hc_slots.specs.Meaning.{Dictionary, dictionary_object, object_shown}
use Rattle.hc_modes.specs.Meaning.{kept_of, world}
use Rattle.hc_modes.specs.State.{IsKeptSo, IsObjects, tables_of}
use Rattle.hc_modes.proofs.Left.{set-object}
use Rattle.hc_modes.proofs.Owning.{open-used}
use Rattle.hc_slots.specs.Cases.{not-both, cond-other}
use Rattle.hc_modes.proofs.Stepping.{set-same, stepped-world, stepped-sound}
use Rattle.hc_modes.proofs.Steps.{proto-tree}
use Rattle.hc_modes.proofs.Worlds.{length-world, object-world}

-- The write

abbrev pub proto_word : Trail → ℕ → RootWord
proto_word t o = record { is_proto = true; map = (root_in t o).map }

pub proto-touches : (v : View) (o : ℕ) (t : Trail) → Adds (Touches v o) t (with_proto t o)
proto-touches v o t = adds-one t (Root o (proto_word t o)) (record { proto = λ ne. absurd (ne refl); map = λ m is. is })

-- the root that an object names is there
root-there : UnusedSaysNothing → (v : View) → IsHeap v → IsTree v.trail → (o : ℕ) → IfSome (root_in v.trail o).map (λ r. r < v.shape.maps)
root-there unused v heap tree o = by (root_in v.trail o).map refl
  where
    by : (root : Option ℕ) → (root_in v.trail o).map ≡ root → IfSome root (λ r. r < v.shape.maps)
    by (Some r) is =
        let lt = open-used unused v heap r (gate_with 0 false) (tree.roots o r is).gate in
        let most = heap.most Maps in
        omega (arith, lt, most)
    by None is = tt

pub proto-lawful : UnusedSaysNothing → (v : View) → IsHeap v → IsTree v.trail → (o : ℕ) → IfSome (map_in v.trail o) (λ m. IsOwnMap v.trail m) → LawfulRoot v.shape v.trail o (proto_word v.trail o)
proto-lawful unused v heap tree o own = record { stays = λ yes. refl; marks = λ no yes. own; there = root-there unused v heap tree o }

pub proto-tree-on : TreesStay → (v : View) → IsHeap v → (o : ℕ) → Lawful v.shape (with_proto v.trail o) → IsTree v.trail → IsTree (with_proto v.trail o)
proto-tree-on trees v heap o lawful tree =
    trees v.shape v.trail (with_proto v.trail o) heap.lawful (goes-on-of v.shape (proto-touches v o v.trail) lawful) (proto-tree v.trail o (proto_word v.trail o) refl) tree

-- What it says

pub became-proto : (t : Trail) (o : ℕ) → HasBecome o t (with_proto t o)
became-proto t o = record {
  proto = ap (λ (b : Bool). (cond b (proto_word t o) (root_in t o)).is_proto) (eq-eqb o o refl);
  protos = λ q other. ap (λ (r : RootWord). r.is_proto) (cond-other o q (proto_word t o) (root_in t q) (λ is. other (sym is)));
  roots = λ q. by q (eqb o q) refl;
  maps = λ q other. refl;
}
  where
    by : (q : ℕ) (b : Bool) → eqb o q ≡ b → (cond b (proto_word t o) (root_in t q)).map ≡ (root_in t q).map
    by q true e = ap (λ (x : ℕ). (root_in t x).map) (eqb-true o q e)
    by q false e = refl

-- before it no root word changed, and no map of another object
pub became-from : (p : ℕ) (a b c : Trail) → ((q : ℕ) → root_in b q ≡ root_in a q) → ((q : ℕ) → q ≢ p → map_in b q ≡ map_in a q) → HasBecome p b c → HasBecome p a c
became-from p a b c roots maps h = record {
  proto = h.proto;
  protos = λ q other. h.protos q other ∙ ap (λ (r : RootWord). r.is_proto) (roots q);
  roots = λ q. h.roots q ∙ ap (λ (r : RootWord). r.map) (roots q);
  maps = λ q other. h.maps q other ∙ maps q other;
}

-- A step after which an object is as it was

module _ {Dies : ℕ → Type 0} (maps : MapsAreKept) (details : DetailsRise) (old new : View) (kept : List (Option Dictionary)) (of_null : Option ℕ) (h : IsObjects old kept of_null) (item : Option Dictionary) (o : ℕ) (there : o < length kept)
    (step : SteppedBut Dies old new item o (object_shown old.trail o (kept_of kept o) (map_in old.trail o))) (is : kept_of kept o ≡ item) where
  still : set (world old.trail kept) o (object_shown old.trail o (kept_of kept o) (map_in old.trail o)) ≡ world old.trail kept
  still = set-object (world old.trail kept) o (object_shown old.trail o (kept_of kept o) (map_in old.trail o)) (subst (λ (n : ℕ). o < n) (sym (length-world old.trail kept)) there) (object-world old.trail kept o there)

  pub same-world : world new.trail kept ≡ world old.trail kept
  same-world =
      ap (world new.trail) (sym (set-same kept o item there is))
      ∙ stepped-world maps details old new kept of_null h item o (object_shown old.trail o (kept_of kept o) (map_in old.trail o)) there step
      ∙ still

  pub same-sound : new.used.objects ≡ old.used.objects → IsObjects new kept of_null
  same-sound count = subst (λ (ks : List (Option Dictionary)). IsObjects new ks of_null) (set-same kept o item there is)
      (stepped-sound maps details old new kept of_null h item o (object_shown old.trail o (kept_of kept o) (map_in old.trail o)) there step count
      (subst (λ (w : World). IsKept (with_world (tables_of old kept) w)) (sym still) h.sound))

-- A slow object

-- a slow object has no map
pub slow-none : (v : View) (kept : List (Option Dictionary)) (of_null : Option ℕ) → IsObjects v kept of_null → (o : ℕ) → o < length kept → (d : Dictionary) → kept_of kept o ≡ Some d → map_in v.trail o ≡ None
slow-none v kept of_null h o there d slow = subst (λ (i : Option Dictionary). IsKeptSo v.trail o i) slow (h.each o there)

module _ (maps : MapsAreKept) (details : DetailsRise) (v : View) (kept : List (Option Dictionary)) (of_null : Option ℕ) (h : IsObjects v kept of_null) (o : ℕ) (there : o < length kept) (d : Dictionary) (slow : kept_of kept o ≡ Some d)
    (tree : IsTree (with_proto v.trail o)) (heap : IsHeap (record v { trail = with_proto v.trail o })) where
  abbrev marked : View
  marked = record v { trail = with_proto v.trail o }

  none : map_in v.trail o ≡ None
  none = slow-none v kept of_null h o there d slow

  slow-step : Stepped v marked (Some d) o (dictionary_object d)
  slow-step = record {
    changed = record { writes = proto-touches v o v.trail; shape = refl; slots = le_refl v.used.slots; tree = tree; heap = heap };
    well = record {
      as_kept = none;
      store = h.stores o;
      owns = λ s owns lt. owns;
      alone = λ p m g other is was gate. absurd (not-both (map_in v.trail o) m none is);
    };
    opens = λ m g no gate shared parent. not-both (gate_in v.trail m) g no gate;
    value = refl;
  }

  step : Stepped v marked (Some d) o (object_shown v.trail o (kept_of kept o) (map_in v.trail o))
  step = subst (λ (i : Option Dictionary). Stepped v marked (Some d) o (object_shown v.trail o i (map_in v.trail o))) (sym slow) slow-step

  -- fields stay honest, and constants stay
  pub slow-proto-facts : FormsAreKept → StableIsKept → HonestAfter → KeptIsCarried → FactsStay v.shape v.trail marked.trail
  slow-proto-facts forms stable honest carried = none-facts maps details forms v marked kept of_null h o slow-step.changed stable honest carried none

  pub slow-proto-world : world (with_proto v.trail o) kept ≡ world v.trail kept
  slow-proto-world = same-world maps details v marked kept of_null h (Some d) o there step slow

  pub slow-proto-sound : IsObjects marked kept of_null
  slow-proto-sound = same-sound maps details v marked kept of_null h (Some d) o there step slow refl
