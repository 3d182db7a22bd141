-- An object comes to another map with the same keys.
use Rattle.hc_tree.specs.Details.{NoMap}
use Rattle.std.proofs.Common.{◌≡◌, ℕ, ◌<◌, ◌≤◌, Bool, cond, ◌∷◌, Option, Some, IfSome, refl, sym, ap, ◌∙◌, subst, arith, eq-eqb}
use Rattle.std.specs.Prelude.{IsSomeAnd, IsTrue}
use Rattle.hc_layout.specs.declared.shape.Shape.{Shape}
use Rattle.hc_layout.specs.declared.shape.Region.TheVariants.{Maps}
use Rattle.hc_layout.specs.declared.words.GateWord.{GateWord}
use Rattle.hc_layout.specs.declared.words.MapBits.{MapBits}
use Rattle.hc_layout.specs.declared.words.RootWord.{RootWord}
use Rattle.hc_layout.specs.declared.words.StoreWord.{StoreWord}
use Rattle.hc_heap.specs.Writes.{Write, Trail, ObjectMap, Slot}
use Rattle.hc_heap.specs.Readings.{array_in, base_in, bits_in, detail_in, entry_key_in, gate_in, map_in, parent_in, prototype_in, reference_in, root_in, store_in}
use Rattle.hc_heap.specs.Lawful.{HoldsEntries, IsOwnMap, Lawful, LawfulObjectMap}
use Rattle.hc_heap.specs.Kept.{Adds, UnusedSaysNothing}
use Rattle.hc_heap.specs.Frames.{adds-on, adds-one, adds-wider, goes-on-of, same-after}
use Rattle.hc_heap.specs.States.{View, IsHeap, with_write}
use Rattle.hc_links.specs.Chains.{links_in}
use Rattle.hc_tree.specs.Kept.{TreeIsSame, TreesStay}
use Rattle.hc_tree.specs.Tree.{IsTree}
use Rattle.hc_slots.specs.Anew.{AreMoved, MovesSlots}
use Rattle.hc_slots.specs.Cases.{cond-other, some-and}
use Rattle.hc_descs.specs.Entries.{detail_at, key_at}
use Rattle.hc_slots.specs.Slots.{Owns, owns-index}
use Rattle.hc_modes.specs.Changes.{Touches}
use Rattle.hc_modes.specs.Resettled.{HasCome}
use Rattle.hc_modes.specs.Rest.{MarksAt}
use Rattle.hc_modes.proofs.Owning.{open-used}
use Rattle.hc_modes.proofs.Touching.{map-moved}

module _ (trees : TreesStay) (unused : UnusedSaysNothing) (v w : View) (o m c n : ℕ) (heap : IsHeap v) (tree : IsTree v.trail) (within : n ≤ (store_in v.trail o).capacity) (it : AreMoved v w o m c n) where
  moves-touch : (t : Trail) (x : Write) → MovesSlots v.trail o m c n t x → Touches v o t x
  moves-touch t (Slot s x) e = λ used. subst (Owns v.trail o) (sym e.at) (owns-index (store_in v.trail o) e.first e.place e.is_first (omega (arith, e.within, within)))
  moves-touch t _ e = absurd e

  moves-mark : (t : Trail) (x : Write) → MovesSlots v.trail o m c n t x → MarksAt m t x
  moves-mark t (Slot s x) e = tt
  moves-mark t _ e = absurd e

  -- a reading that no slot changes is the same
  pub moved-same : {T : Type 0} (reading : Trail → T) → ((t : Trail) (s x : ℕ) → reading (Slot s x ∷ t) ≡ reading t) → reading w.trail ≡ reading v.trail
  moved-same {T} reading h = same-after reading step it.writes
    where
      step : (t : Trail) (x : Write) → MovesSlots v.trail o m c n t x → reading (x ∷ t) ≡ reading t
      step t (Slot s x) e = h t s x
      step t _ e = absurd e

  store-same : store_in w.trail o ≡ store_in v.trail o
  store-same = moved-same (λ (t : Trail). store_in t o) (λ t s x. refl)

  map-same : (q : ℕ) → map_in w.trail q ≡ map_in v.trail q
  map-same q = moved-same (λ (t : Trail). map_in t q) (λ t s x. refl)

  bits-same : (x : ℕ) → bits_in w.trail x ≡ bits_in v.trail x
  bits-same x = moved-same (λ (t : Trail). bits_in t x) (λ t s y. refl)

  gate-same : (x : ℕ) → gate_in w.trail x ≡ gate_in v.trail x
  gate-same x = moved-same (λ (t : Trail). gate_in t x) (λ t s y. refl)

  root-same : (q : ℕ) → root_in w.trail q ≡ root_in v.trail q
  root-same q = moved-same (λ (t : Trail). root_in t q) (λ t s y. refl)

  pub objects-same : w.used.objects ≡ v.used.objects
  objects-same = ap (λ (x : View). x.used.objects) it.view

  shape-same : w.shape ≡ v.shape
  shape-same = ap (λ (x : View). x.shape) it.view

  -- the object may have the other map
  pub come-lawful : map_in v.trail o ≡ Some m → IsTrue (bits_in v.trail m).unstable → IsSomeAnd (gate_in v.trail c) (λ g. g.entries ≡ n) → (IsTrue (root_in v.trail o).is_proto → IsOwnMap v.trail c) → LawfulObjectMap w.shape w.trail o (Some c)
  come-lawful has unstable other own =
      let gate = some-and (gate_in v.trail c) (λ g. g.entries ≡ n) other in
      record {
        leaves = subst (λ (y : Option ℕ). IfSome y (λ k. IsTrue (bits_in w.trail k).unstable)) (sym (map-same o ∙ has))
            (subst (λ (b : MapBits). IsTrue b.unstable) (sym (bits-same m)) unstable);
        gets = record {
          there = let used : c < v.used.maps = open-used unused v heap c gate.0 gate.1.0 in
              let most = heap.most Maps in
              subst (λ (s : Shape). c < s.maps) (sym shape-same) (omega (arith, used, most));
          filled = subst (λ (y : Option GateWord). IsSomeAnd y (λ g. HoldsEntries w.trail o c g)) (sym (gate-same c ∙ gate.1.0)) (record {
            capacity = subst (λ (y : StoreWord). gate.0.entries ≤ y.capacity) (sym store-same) (omega (arith, gate.1.1, within));
            slots = λ k lt. it.holds k (omega (arith, lt, gate.1.1));
          });
          own = λ yes.
              let was = own (sym (ap (λ (r : RootWord). r.is_proto) (root-same o)) ∙ yes) in
              record {
                private = subst (λ (y : Option GateWord). IsSomeAnd y (λ g. IsTrue g.is_private)) (sym (gate-same c)) was.private;
                stable = ap (λ (b : MapBits). b.unstable) (bits-same c) ∙ was.stable;
              };
        };
      }

  -- and has it
  module _ (after : IsHeap (with_write w (ObjectMap o (Some c)))) where
    abbrev new : View
    new = with_write w (ObjectMap o (Some c))

    touches : Adds (Touches v o) v.trail new.trail
    touches = adds-on (adds-wider moves-touch it.writes) (map-moved NoMap v o w.trail (Some c))

    tree-same : TreeIsSame v.trail new.trail
    tree-same = record {
      links = λ x. moved-same (λ (t : Trail). links_in t x) (λ t s y. refl);
      gates = λ x. gate-same x;
      lives = λ x. ap (λ (b : MapBits). b.deprecated) (bits-same x);
      roots = λ q. ap (λ (r : RootWord). r.map) (root-same q);
      details = λ f. moved-same (λ (t : Trail). detail_in t f) (λ t s y. refl);
      arrays = λ x. moved-same (λ (t : Trail). array_in t x) (λ t s y. refl);
      bases = λ x. moved-same (λ (t : Trail). base_in t x) (λ t s y. refl);
      keys = λ e. moved-same (λ (t : Trail). entry_key_in t e) (λ t s y. refl);
      references = λ e. moved-same (λ (t : Trail). reference_in t e) (λ t s y. refl);
    }

    pub has-come : HasCome v (with_write w (ObjectMap o (Some c))) o m c n
    has-come = record {
      view = ap (λ (x : View). with_write x (ObjectMap o (Some c))) it.view;
      writes = touches;
      marks = adds-on (adds-wider moves-mark it.writes) (adds-one w.trail (ObjectMap o (Some c)) tt);
      same = tree-same;
      roots = root-same;
      bits = bits-same;
      parents = λ x. moved-same (λ (t : Trail). parent_in t x) (λ t s y. refl);
      prototypes = λ x. moved-same (λ (t : Trail). prototype_in t x) (λ t s y. refl);
      maps = λ q other. cond-other o q (Some c) (map_in w.trail q) (λ is. other (sym is)) ∙ map-same q;
      keys = λ x k. moved-same (λ (t : Trail). key_at t x k) (λ t s y. refl);
      details = λ x k. moved-same (λ (t : Trail). detail_at t x k) (λ t s y. refl);
      props = λ k lt. it.props k lt;
      holds = λ k lt. it.holds k lt;
      moved = ap (λ (b : Bool). cond b (Some c) (map_in w.trail o)) (eq-eqb o o refl);
      store = store-same;
      tree = trees v.shape v.trail new.trail heap.lawful (goes-on-of v.shape touches (subst (λ (s : Shape). Lawful s new.trail) shape-same after.lawful)) tree-same tree;
      heap = after;
    }
