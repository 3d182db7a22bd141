-- An object comes to the child of its map.
use Rattle.std.proofs.Common.{◌≡◌, ℕ, ◌+◌, ◌<◌, Bool, false, cond, ◌∷◌, ◌++◌, Option, Some, None, IfSome, refl, sym, ap, ◌∙◌, subst, arith, eq-eqb, true≢false}
use Rattle.std.specs.Prelude.{IsSomeAnd, IsTrue}
use Rattle.hc_layout.specs.declared.shape.Shape.{Shape}
use Rattle.hc_layout.specs.declared.shape.Region.TheVariants.{Maps}
use Rattle.hc_layout.specs.declared.words.GateWord.{GateWord}
use Rattle.hc_layout.specs.declared.words.MapBits.{MapBits}
use Rattle.hc_layout.specs.declared.words.RootWord.{RootWord}
use Rattle.hc_value.specs.Prop.{kind_of}
use Rattle.hc_value.specs.declared.key.Key.{Key}
use Rattle.hc_value.specs.declared.prop.Prop.{Prop}
use Rattle.hc_heap.specs.Writes.{Write, Trail, ObjectMap, Store, Slot}
use Rattle.hc_heap.specs.Readings.{gate_in, bits_in, detail_in, map_in, root_in}
use Rattle.hc_heap.specs.Lawful.{Lawful, LawfulObjectMap, HoldsEntries, IsFormOf}
use Rattle.hc_heap.specs.Kept.{Adds, DetailsRise, UnusedSaysNothing, GoesOn}
use Rattle.hc_heap.specs.Frames.{same-after, adds-on, adds-wider, goes-on-of}
use Rattle.hc_heap.specs.States.{View, IsHeap, with_write}
use Rattle.hc_descs.specs.Entries.{field_at, detail_of}
use Rattle.hc_tree.specs.Tree.{IsTree, gate_with}
use Rattle.hc_tree.specs.Kept.{MapsAreKept, TreesStay, TreeIsSame}
use Rattle.hc_slots.specs.Meaning.{held_in, slot_word}
use Rattle.hc_slots.specs.Fast.{IsFast}
use Rattle.hc_modes.specs.Admitting.{IsGrownBy}
use Rattle.hc_modes.specs.Changes.{Touches, IsGrown, key_of}
use Rattle.hc_value.specs.declared.field.Detail.{Detail}
use Rattle.hc_slots.specs.Slots.{FillsStore, IsFitted}
use Rattle.hc_tree.specs.Details.{NoMap}
use Rattle.hc_modes.specs.Filling.{IsMovedBut}
use Rattle.hc_modes.proofs.Holding.{holds-grown}
use Rattle.hc_modes.proofs.Marking.{marked-already, other-gate}
use Rattle.hc_modes.proofs.Owning.{open-used}
use Rattle.hc_slots.specs.Cases.{not-both, some-is}
use Rattle.hc_modes.proofs.Sparing.{kept-after}
use Rattle.hc_modes.proofs.Staying.{IsLater, later, proto-stays}
use Rattle.hc_modes.proofs.Touching.{map-moved}

detail-same : (a b : Trail) → ((f : ℕ) → detail_in b f ≡ detail_in a f) → (f : Option ℕ) → detail_of b f ≡ detail_of a f
detail-same a b same (Some f) = same f
detail-same a b same None = refl

-- a map that has one entry more keeps it
pub grown-later : (a b : Trail) → IsLater a b → ((f : ℕ) → detail_in b f ≡ detail_in a f) → (m c n : ℕ) (g : GateWord) (key : Key) (d : Detail) → gate_in a m ≡ Some g → g.entries ≡ n → IsGrown a m c n key d → IsGrown b m c n key d
grown-later a b after same m c n g key d is count grown =
    let last : n < grown.gate.entries = omega (arith, grown.count) in
    let end = after.maps.entry c n grown.gate grown.is_open last in
    record {
      gate = grown.gate;
      is_open = after.maps.written.gate c grown.gate grown.is_open;
      count = grown.count;
      unlocked = grown.unlocked;
      prototype = proto-stays a b after c grown.gate grown.is_open ∙ grown.prototype ∙ sym (proto-stays a b after m g is);
      entries = record {
        keys = λ k lt.
            let in_c : k < grown.gate.entries = omega (arith, lt, grown.count) in
            let in_m : k < g.entries = omega (arith, lt, count) in
            (after.maps.entry c k grown.gate grown.is_open in_c).key ∙ grown.entries.keys k lt ∙ sym (after.maps.entry m k g is in_m).key;
        fields = λ k lt.
            let in_c : k < grown.gate.entries = omega (arith, lt, grown.count) in
            let in_m : k < g.entries = omega (arith, lt, count) in
            (after.maps.entry c k grown.gate grown.is_open in_c).field ∙ grown.entries.fields k lt ∙ sym (after.maps.entry m k g is in_m).field;
      };
      last = end.key ∙ grown.last;
      admits = ap (detail_of b) end.field ∙ detail-same a b same (field_at a c n) ∙ grown.admits;
    }

-- What filling leaves as it was

module _ (old : View) (o : ℕ) where
  pub gate-by : (m : ℕ) (t : Trail) (w : Write) → FillsStore old o t w → gate_in (w ∷ t) m ≡ gate_in t m
  gate-by m t (Store p v) e = refl
  gate-by m t (Slot s v) e = refl
  gate-by m t _ e = absurd e

  pub bits-by : (m : ℕ) (t : Trail) (w : Write) → FillsStore old o t w → bits_in (w ∷ t) m ≡ bits_in t m
  bits-by m t (Store p v) e = refl
  bits-by m t (Slot s v) e = refl
  bits-by m t _ e = absurd e

  pub detail-by : (f : ℕ) (t : Trail) (w : Write) → FillsStore old o t w → detail_in (w ∷ t) f ≡ detail_in t f
  detail-by f t (Store p v) e = refl
  detail-by f t (Slot s v) e = refl
  detail-by f t _ e = absurd e

  pub map-by : (p : ℕ) (t : Trail) (w : Write) → FillsStore old o t w → map_in (w ∷ t) p ≡ map_in t p
  map-by p t (Store q v) e = refl
  map-by p t (Slot s v) e = refl
  map-by p t _ e = absurd e

  pub root-by : (p : ℕ) (t : Trail) (w : Write) → FillsStore old o t w → root_in (w ∷ t) p ≡ root_in t p
  root-by p t (Store q v) e = refl
  root-by p t (Slot s v) e = refl
  root-by p t _ e = absurd e

  pub tree-by : (first : Trail) (t : Trail) (w : Write) → FillsStore old o t w → TreeIsSame first t → TreeIsSame first (w ∷ t)
  tree-by first t (Store q v) e same = record { links = same.links; gates = same.gates; lives = same.lives; roots = same.roots; details = same.details; arrays = same.arrays; bases = same.bases; keys = same.keys; references = same.references }
  tree-by first t (Slot s v) e same = record { links = same.links; gates = same.gates; lives = same.lives; roots = same.roots; details = same.details; arrays = same.arrays; bases = same.bases; keys = same.keys; references = same.references }
  tree-by first t _ e same = absurd e

  pub touches-by : (t : Trail) (w : Write) → FillsStore old o t w → Touches old o t w
  touches-by t (Store q v) e = e
  touches-by t (Slot s v) e = e
  touches-by t _ e = absurd e

-- an object's slot is filled, and it comes to a map with one entry more
module _ (maps : MapsAreKept) (details : DetailsRise) (trees : TreesStay) (unused : UnusedSaysNothing) (v w : View) (o m c n x : ℕ) (p : Prop) (heap : IsHeap v) (filled : IsHeap w) (fitted : IsFitted v w o n)
    (has : map_in v.trail o ≡ Some m) (unstable : IsTrue (bits_in v.trail m).unstable) (is_open : gate_in v.trail m ≡ Some (gate_with n false)) (holds : HoldsEntries v.trail o m (gate_with n false))
    (shared : (root_in v.trail o).is_proto ≡ false) (child : gate_in v.trail c ≡ Some (gate_with (n + 1) false)) (by : IsGrownBy v.trail m c n p)
    (last : slot_word w.trail o n ≡ x) (form : IsFormOf (kind_of p.held) by.detail.rep x) (is : held_in (kind_of p.held) by.detail.rep x ≡ p.held) where
  lawful-later : Lawful v.shape w.trail
  lawful-later = subst (λ (s : Shape). Lawful s w.trail) fitted.shape filled.lawful

  is-after : IsLater v.trail w.trail
  is-after = later maps details v.shape v.trail w.trail heap.lawful (goes-on-of v.shape fitted.writes lawful-later)

  fast : IsFast v.trail o m (gate_with n false)
  fast = record { is_open = is_open; holds = holds; private = sym shared }

  pub details-same : (f : ℕ) → detail_in w.trail f ≡ detail_in v.trail f
  details-same f = same-after (λ (t : Trail). detail_in t f) (detail-by v o f) fitted.writes

  grown-there : IsGrown w.trail m c n (key_of p) by.detail
  grown-there = grown-later v.trail w.trail is-after details-same m c n (gate_with n false) (key_of p) by.detail is_open refl by.grown

  form-there : IsFormOf (kind_of p.held) by.detail.rep (slot_word w.trail o n)
  form-there = subst (λ (y : ℕ). IsFormOf (kind_of p.held) by.detail.rep y) (sym last) form

  map-same : map_in w.trail o ≡ map_in v.trail o
  map-same = same-after (λ (t : Trail). map_in t o) (map-by v o o) fitted.writes

  root-same : root_in w.trail o ≡ root_in v.trail o
  root-same = same-after (λ (t : Trail). root_in t o) (root-by v o o) fitted.writes

  -- the object may have the map
  pub move-lawful : LawfulObjectMap w.shape w.trail o (Some c)
  move-lawful = record {
    leaves = subst (λ (y : Option ℕ). IfSome y (λ k. IsTrue (bits_in w.trail k).unstable)) (sym (map-same ∙ has))
        (subst (λ (b : MapBits). IsTrue b.unstable) (sym (same-after (λ (t : Trail). bits_in t m) (bits-by v o m) fitted.writes)) unstable);
    gets = record {
      there = let used : c < v.used.maps = open-used unused v heap c (gate_with (n + 1) false) child in
          let most = heap.most Maps in
          subst (λ (s : Shape). c < s.maps) (sym fitted.shape) (omega (arith, used, most));
      filled = subst (λ (g : Option GateWord). IsSomeAnd g (λ y. HoldsEntries w.trail o c y)) (sym grown-there.is_open)
          (holds-grown v.trail w.trail is-after o m (gate_with n false) fast c (key_of p) by.detail grown-there fitted.room fitted.words form-there);
      own = λ is_proto. absurd (true≢false (sym is_proto ∙ ap (λ (r : RootWord). r.is_proto) root-same ∙ shared));
    };
  }

  -- and has it
  module _ (moved_heap : IsHeap (with_write w (ObjectMap o (Some c)))) where
    abbrev new : View
    new = with_write w (ObjectMap o (Some c))

    writes : Adds (Touches v o) v.trail new.trail
    writes = adds-on (adds-wider (touches-by v o) fitted.writes) (map-moved NoMap v o w.trail (Some c))

    moved-lawful : Lawful v.shape new.trail
    moved-lawful = subst (λ (s : Shape). Lawful s new.trail) fitted.shape moved_heap.lawful

    on : GoesOn v.shape v.trail new.trail
    on = goes-on-of v.shape writes moved-lawful

    after : IsLater v.trail new.trail
    after = later maps details v.shape v.trail new.trail heap.lawful on

    tree-same : TreeIsSame v.trail new.trail
    tree-same =
        let same : TreeIsSame v.trail w.trail = kept-after (λ (t : Trail). TreeIsSame v.trail t) (tree-by v o v.trail) fitted.writes (record { links = λ k. refl; gates = λ k. refl; lives = λ k. refl; roots = λ k. refl; details = λ f. refl; arrays = λ n. refl; bases = λ n. refl; keys = λ e. refl; references = λ e. refl }) in
        record { links = same.links; gates = same.gates; lives = same.lives; roots = same.roots; details = same.details; arrays = same.arrays; bases = same.bases; keys = same.keys; references = same.references }

    grown-then : IsGrown new.trail m c n (key_of p) by.detail
    grown-then = grown-later v.trail new.trail after details-same m c n (gate_with n false) (key_of p) by.detail is_open refl by.grown

    pub move-made : IsTree v.trail → IsMovedBut NoMap v (with_write w (ObjectMap o (Some c))) o m n p
    move-made tree = record {
      child = c;
      changed = record {
        writes = writes;
        shape = fitted.shape;
        slots = fitted.slots;
        tree = trees v.shape v.trail new.trail heap.lawful on tree-same tree;
        heap = moved_heap;
      };
      opens = λ k g none gate private parent. not-both (gate_in v.trail k) g none (sym (tree-same.gates k) ∙ gate);
      detail = by.detail;
      grown = grown-then;
      shared = ap (λ (g : GateWord). g.is_private) (some-is grown-then.gate (gate_with (n + 1) false) (sym grown-then.is_open ∙ tree-same.gates c ∙ child));
      moved = ap (λ (b : Bool). cond b (Some c) (map_in w.trail o)) (eq-eqb o o refl);
      proto = ap (λ (r : RootWord). r.is_proto) root-same;
      room = fitted.room;
      words = fitted.words;
      form = form-there;
      holds = ap (held_in (kind_of p.held) by.detail.rep) last ∙ is;
      store = fitted.store;
      owns = fitted.owns;
      objects = ap (λ (s : Shape). s.objects) fitted.used;
      dead = λ x dies there. absurd dies;
      other = other-gate v.trail c m n child is_open;
      more = ObjectMap o (Some c) ∷ fitted.writes.more;
      after = ap (λ (t : Trail). ObjectMap o (Some c) ∷ t) fitted.writes.is ∙ ap (λ (t : Trail). (ObjectMap o (Some c) ∷ fitted.writes.more) ++ t) (sym (marked-already v.trail m unstable));
      marks = λ x other stable now. absurd (true≢false (sym now ∙ ap (λ (b : MapBits). b.unstable) (same-after (λ (t : Trail). bits_in t x) (bits-by v o x) fitted.writes) ∙ stable));
    }
