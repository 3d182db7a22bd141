-- An object comes to a map that was made, or found, in the place of its own: its properties stay.
use Rattle.std.proofs.Common.{◌≡◌, ◌≢◌, ℕ, ◌+◌, ◌<◌, ◌≤◌, Bool, false, ◌++◌, Option, Some, None, refl, sym, ap, ◌∙◌, subst, arith, [], inl, inr, ⊎_elim}
use Rattle.std.specs.Prelude.{IsSomeAnd, IsTrue}
use Rattle.hc_layout.specs.declared.shape.Shape.{Shape}
use Rattle.hc_layout.specs.declared.words.GateWord.{GateWord}
use Rattle.hc_layout.specs.declared.words.MapBits.{MapBits}
use Rattle.hc_layout.specs.declared.words.RootWord.{RootWord}
use Rattle.hc_layout.specs.declared.words.StoreWord.{StoreWord}
use Rattle.hc_value.specs.Field.{is_class_within, is_constness_within, is_detail_within, is_within, rep_of}
use Rattle.hc_value.specs.declared.field.Detail.{Detail}
use Rattle.hc_value.specs.declared.field.Rep.{Rep}
use Rattle.hc_value.specs.declared.field.Rep.TheVariants.{Smi, Wide, HeapObject, Tagged}
use Rattle.hc_value.specs.declared.prop.Kind.{Kind}
use Rattle.hc_value.specs.declared.prop.Kind.TheVariants.{AccessorProp, DataProp}
use Rattle.hc_value.specs.Word.{unpair_of}
use Rattle.hc_heap.specs.Writes.{Trail}
use Rattle.hc_heap.specs.Readings.{bits_in, detail_in, gate_in, map_in, root_in, slot_in, store_in}
use Rattle.hc_heap.specs.Lawful.{HoldsEntry, IsField, IsOwnMap, Lawful, RisesTo, word_from}
use Rattle.hc_heap.specs.Kept.{Adds, DetailsRise, SetIsKept}
use Rattle.hc_heap.specs.Frames.{adds-on, adds-wider, goes-on-of, same-after}
use Rattle.hc_heap.specs.States.{View, IsHeap}
use Rattle.hc_descs.specs.Entries.{detail_at, detail_of, field_at, key_at}
use Rattle.hc_facts.specs.Honest.{IsHonest, value_in}
use Rattle.hc_tree.specs.Dying.{HaveDied}
use Rattle.hc_tree.specs.Growth.{marked}
use Rattle.hc_tree.specs.Kept.{MapsAreKept}
use Rattle.hc_tree.specs.Tree.{gate_with}
use Rattle.hc_slots.specs.Anew.{FitsEntry}
use Rattle.hc_slots.specs.Cases.{not-both, some-and, some-of}
use Rattle.hc_slots.specs.Fast.{IsFast}
use Rattle.hc_slots.specs.Meaning.{MayHold, held_in, pair_of, slot_word}
use Rattle.hc_slots.specs.Slots.{AreHandedOut, IsIn}
use Rattle.hc_links.specs.Chains.{links_in}
use Rattle.hc_modes.specs.Changes.{ChangedBut, TouchesBut, WordsStay}
use Rattle.hc_modes.specs.Rest.{HasDied, IsLinkedOrDead}
use Rattle.hc_modes.specs.Resettled.{HasCome, IsRemade, IsResettled}
use Rattle.hc_modes.proofs.Fitting.{parts}
use Rattle.hc_modes.proofs.Childed.{append-assoc}
use Rattle.hc_modes.proofs.Facts.{held-value}
use Rattle.hc_modes.proofs.Found.{map-grown, proto-grown, reshapes-touches, slot-grown, store-grown}
use Rattle.hc_modes.proofs.Left.{marked-same}
use Rattle.hc_modes.proofs.Rising.{held-rises}
use Rattle.hc_modes.specs.State.{AreRoots}
use Rattle.hc_modes.proofs.Sound.{roots-stay}
use Rattle.hc_modes.proofs.Staying.{IsLater, fits-still, later, prop-stays}
use Rattle.hc_modes.proofs.Steps.{marked-unstable}
use Rattle.hc_modes.proofs.Touching.{changed-on, map-marked}

-- What a field may hold that admits what another one did

within-wide : (a b : Rep) → IsTrue (is_within a b) → IsTrue (is_within b Wide) → IsTrue (is_within a Wide)
within-wide a Wide h k = h
within-wide Smi Smi h k = refl
within-wide Wide Smi h k = refl
within-wide HeapObject Smi h k = let n : ⊥ = cc in absurd n
within-wide Tagged Smi h k = let n : ⊥ = cc in absurd n
within-wide a HeapObject h k = let n : ⊥ = cc in absurd n
within-wide a Tagged h k = let n : ⊥ = cc in absurd n

hold-pair : (r : Rep) (o : Option (Option ℕ × Option ℕ)) → MayHold r (pair_of o)
hold-pair Smi o = tt
hold-pair HeapObject o = tt
hold-pair Tagged o = tt
hold-pair Wide (Some p) = tt
hold-pair Wide None = tt

hold-value : (r e : Rep) (w : ℕ) → IsTrue (is_within (rep_of (value_in r w)) r) → IsTrue (is_within r e) → MayHold e (held_in DataProp r w)
hold-value r Smi w right within = tt
hold-value r HeapObject w right within = tt
hold-value r Tagged w right within = tt
hold-value r Wide w right within = subst (MayHold Wide) (sym (held-value r w)) (within-wide (rep_of (value_in r w)) r right within)

pub hold-within : (kind : Kind) (r e : Rep) (w : ℕ) → (kind ≡ DataProp → IsTrue (is_within (rep_of (value_in r w)) r)) → IsTrue (is_within r e) → MayHold e (held_in kind r w)
hold-within AccessorProp r e w right within = hold-pair e (unpair_of w)
hold-within DataProp r e w right within = hold-value r e w (right refl) within

first-part : (a b : Detail) → IsTrue (is_detail_within a b) → IsTrue (is_within a.rep b.rep)
first-part a b h = (parts (is_within a.rep b.rep) (is_constness_within a.constness b.constness) (is_class_within a.class b.class) h).0

-- The map is made, and then the object comes to it

module _ {Dies : ℕ → Type 0} {Gets : ℕ → Detail → Type 0} (maps : MapsAreKept) (details : DetailsRise) (set : SetIsKept) (v w : View) (o m c n : ℕ) (own : Bool) (proto : Option ℕ) (heap : IsHeap v)
    (has : map_in v.trail o ≡ Some m) (fast : IsFast v.trail o m (gate_with n own)) (made : IsRemade Dies Gets v w m c n own proto) where
  pub remade-touches : Adds (TouchesBut Dies v o) v.trail w.trail
  remade-touches = adds-on (map-marked Dies v o v.trail m) (adds-wider (reshapes-touches v o v.used Dies Gets) made.writes)

  lawful-then : Lawful v.shape w.trail
  lawful-then = subst (λ (s : Shape). Lawful s w.trail) made.shape made.heap.lawful

  pub remade-later : IsLater v.trail w.trail
  remade-later = later maps details v.shape v.trail w.trail heap.lawful (goes-on-of v.shape remade-touches lawful-then)

  map-same : (q : ℕ) → map_in w.trail q ≡ map_in v.trail q
  map-same q = same-after (λ (t : Trail). map_in t q) (map-grown v.used Dies Gets q) made.writes ∙ marked-same v.trail m (λ (t : Trail). map_in t q) (λ b. refl)

  store-same : store_in w.trail o ≡ store_in v.trail o
  store-same = same-after (λ (t : Trail). store_in t o) (store-grown v.used Dies Gets o) made.writes ∙ marked-same v.trail m (λ (t : Trail). store_in t o) (λ b. refl)

  slot-same : (s : ℕ) → slot_in w.trail s ≡ slot_in v.trail s
  slot-same s = same-after (λ (t : Trail). slot_in t s) (slot-grown v.used Dies Gets s) made.writes ∙ marked-same v.trail m (λ (t : Trail). slot_in t s) (λ b. refl)

  pub remade-proto : (q : ℕ) → (root_in w.trail q).is_proto ≡ (root_in v.trail q).is_proto
  remade-proto q = same-after (λ (t : Trail). (root_in t q).is_proto) (proto-grown v.used Dies Gets q) made.writes ∙ marked-same v.trail m (λ (t : Trail). (root_in t q).is_proto) (λ b. refl)

  word-by : (first : Option ℕ) (k : ℕ) → word_from w.trail first k ≡ word_from v.trail first k
  word-by (Some x) k = slot-same (x + k)
  word-by None k = refl

  word-same : (k : ℕ) → slot_word w.trail o k ≡ slot_word v.trail o k
  word-same k = ap (λ (x : StoreWord). word_from w.trail x.first k) store-same ∙ word-by (store_in v.trail o).first k

  stay : WordsStay v.trail w.trail o
  stay = record { map = map-same o; store = store-same; slots = λ s owns. slot-same s; proto = remade-proto o }

  fast-then : IsFast w.trail o m (gate_with n own)
  fast-then = fits-still v.trail w.trail remade-later o m (gate_with n own) stay fast

  pub unstable-then : IsTrue (bits_in w.trail m).unstable
  unstable-then = (set v.shape (marked v.trail m) w.trail (goes-on-of v.shape made.writes lawful-then)).unstable m (marked-unstable v.trail m)

  -- what the object needs to come to the map
  pub record IsComing : Type 0 where
    pub is_at : map_in w.trail o ≡ Some m
    pub unstable : IsTrue (bits_in w.trail m).unstable
    pub map : IsSomeAnd (gate_in w.trail m) (λ g. g.entries ≡ n)
    pub other : IsSomeAnd (gate_in w.trail c) (λ g. g.entries ≡ n)
    pub owned : IsTrue (root_in w.trail o).is_proto → IsOwnMap w.trail c
    pub keys : (k : ℕ) → k < n → key_at w.trail c k ≡ key_at w.trail m k
    pub holds : (k : ℕ) → k < n → HoldsEntry w.trail o m k
    pub within : n ≤ (store_in w.trail o).capacity
    pub fits : (k : ℕ) → k < n → FitsEntry w.trail o m c k
    pub out : AreHandedOut w.used.slots (store_in w.trail o)

  key-then : (k : ℕ) → k < n → key_at w.trail m k ≡ key_at v.trail m k
  key-then k lt = (remade-later.maps.entry m k (gate_with n own) fast.is_open lt).key

  -- the field of the object's own entry: what it admitted, and what it does now
  fits-then : IsHonest v.trail → (k : ℕ) → k < n → FitsEntry w.trail o m c k
  fits-then honest k lt key d e is_key is_d is_e =
      let entry = remade-later.maps.entry m k (gate_with n own) fast.is_open lt in
      let field = some-and (field_at v.trail m k) (λ f. IsField v.trail f) ((remade-later.maps.opened m (gate_with n own) fast.is_open).entries.fields k lt) in
      let was = some-of (detail_in v.trail field.0) field.1.1.detail in
      let now : detail_in w.trail field.0 ≡ Some d = ap (detail_of w.trail) (sym (entry.field ∙ field.1.0)) ∙ is_d in
      let rises : RisesTo was.0 d = subst (λ (x : Option Detail). IsSomeAnd x (RisesTo was.0)) now (remade-later.details field.0 was.0 was.1) in
      let was_key : key_at v.trail m k ≡ Some key = sym entry.key ∙ is_key in
      let was_detail : detail_at v.trail m k ≡ Some was.0 = ap (detail_of v.trail) field.1.0 ∙ was.1 in
      let wider : IsTrue (is_within was.0.rep e.rep) = first-part was.0 e (made.admits k was.0 e lt was_detail is_e) in
      let same : held_in key.kind d.rep (slot_word w.trail o k) ≡ held_in key.kind was.0.rep (slot_word v.trail o k) =
      held-rises key.kind was.0.rep d.rep (slot_word w.trail o k) rises.in_place ∙ ap (held_in key.kind was.0.rep) (word-same k) in
      subst (MayHold e.rep) (sym same)
      (hold-within key.kind was.0.rep e.rep (slot_word v.trail o k)
      (λ datum. (honest o m k field.0 was.0 (record { has = has; gate = gate_with n own; is_open = fast.is_open; within = lt; key = key; is_key = was_key; datum = datum; field = field.1.0 }) was.1).rep)
      wider)

  pub coming : IsHonest v.trail → AreHandedOut v.used.slots (store_in v.trail o) → IsComing
  coming honest out = record {
    is_at = map-same o ∙ has;
    unstable = unstable-then;
    map = subst (λ (x : Option GateWord). IsSomeAnd x (λ g. g.entries ≡ n)) (sym fast-then.is_open) refl;
    other = subst (λ (x : Option GateWord). IsSomeAnd x (λ g. g.entries ≡ n)) (sym made.gate) refl;
    owned = λ yes.
        let private : IsTrue own = fast-then.private ∙ yes in
        record {
          private = subst (λ (x : Option GateWord). IsSomeAnd x (λ g. IsTrue g.is_private)) (sym made.gate) private;
          stable = made.stable private;
        };
    keys = λ k lt. made.keys k lt ∙ sym (key-then k lt);
    holds = λ k lt. fast-then.holds.slots k lt;
    within = fast-then.holds.capacity;
    fits = fits-then honest;
    out = subst (λ (s : ℕ). AreHandedOut s (store_in w.trail o)) (sym made.slots) (subst (λ (x : StoreWord). AreHandedOut v.used.slots x) (sym store-same) out);
  }

  pub handed-then : o < v.used.objects → o < w.used.objects
  handed-then lt = subst (λ (k : ℕ). o < k) (sym made.objects) lt

  -- the object came
  module _ (x : View) (come : HasCome w x o m c n) where
    pub came-changed : ChangedBut Dies v x o
    came-changed = changed-on v w x o (record {
      writes = remade-touches;
      shape = made.shape;
      slots = omega (arith, made.slots);
      tree = made.tree;
      heap = made.heap;
    }) (λ s owns lt. subst (λ (y : StoreWord). IsIn y s) store-same owns) (record {
      writes = come.writes;
      shape = ap (λ (y : View). y.shape) come.view;
      slots = omega (arith, ap (λ (y : View). y.used.slots) come.view);
      tree = come.tree;
      heap = come.heap;
    })

    pub came-resettled : IsResettled v.trail x.trail o m c n own proto
    came-resettled = record {
      gate = come.same.gates c ∙ made.gate;
      prototype = come.prototypes c ∙ made.prototype;
      keys = λ k lt. come.keys c k ∙ (made.keys k lt ∙ (sym (key-then k lt) ∙ sym (come.keys m k)));
      holds = record {
        capacity = subst (λ (y : StoreWord). n ≤ y.capacity) (sym (come.store ∙ store-same)) fast.holds.capacity;
        slots = λ k lt. come.holds k lt;
      };
      props = λ k lt. come.props k lt ∙ prop-stays v.trail w.trail remade-later o m k (gate_with n own) fast.is_open lt (word-same k);
      admits = λ k was now lt is then. made.admits k was now lt is (sym (come.details c k) ∙ then);
      moved = come.moved;
      store = come.store ∙ store-same;
    }

    pub came-unstable : IsTrue (bits_in x.trail m).unstable
    came-unstable = ap (λ (b : MapBits). b.unstable) (come.bits m) ∙ unstable-then

    pub came-protos : (q : ℕ) → (root_in x.trail q).is_proto ≡ (root_in v.trail q).is_proto
    came-protos q = ap (λ (r : RootWord). r.is_proto) (come.roots q) ∙ remade-proto q

    -- the roots that are named are those of the maps that stand
    pub came-roots : (then_null : Option ℕ) → AreRoots w.trail then_null → AreRoots x.trail then_null
    came-roots then_null roots =
        roots-stay w x.trail o then_null
        (later maps details w.shape w.trail x.trail made.heap.lawful (goes-on-of w.shape come.writes (subst (λ (s : Shape). Lawful s x.trail) (ap (λ (y : View). y.shape) come.view) come.heap.lawful)))
        come.writes (λ k g none gate shared parent. not-both (gate_in w.trail k) g none (sym (come.same.gates k) ∙ gate)) roots

    pub came-others : (q : ℕ) → q ≢ o → map_in x.trail q ≡ map_in v.trail q
    came-others q other = come.maps q other ∙ map-same q

    pub came-begins : x.trail ≡ (come.marks.more ++ made.writes.more) ++ marked v.trail m
    came-begins = come.marks.is ∙ (ap (λ (t : Trail). come.marks.more ++ t) made.writes.is ∙ sym (append-assoc come.marks.more made.writes.more (marked v.trail m)))

    pub came-dead : HaveDied Dies v.trail x.trail
    came-dead y dies there = come.same.lives y ∙ made.dead y dies there

    pub came-linked : (y : ℕ) → y ≢ m → (bits_in v.trail y).unstable ≡ false → IsTrue (bits_in x.trail y).unstable → IsLinkedOrDead v.trail x.trail y
    came-linked y other stable now = ⊎_elim
        (λ (links : links_in w.trail y ≢ []). inl (λ none. links (sym (come.same.links y) ∙ none)))
        (λ (died : HasDied v.trail w.trail y). inr (record { shared = λ g gate. died.shared g (sym (come.same.gates y) ∙ gate); dead = come.same.lives y ∙ died.dead }))
        (made.marks y other stable (sym (ap (λ (b : MapBits). b.unstable) (come.bits y)) ∙ now))
