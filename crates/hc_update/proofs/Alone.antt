-- A private map that is generalised: it dies, and another stands in its place.
use Rattle.std.proofs.Common.{◌≡◌, ◌≢◌, ℕ, ◌<◌, Bool, true, false, cond, eqb, eqb-true, eq-eqb, Option, Some, None, ◌∷◌, IsSome, refl, sym, ap, ◌∙◌, subst, arith, inr, true≢false}
use Rattle.std.specs.Prelude.{IsSomeAnd}
use Rattle.hc_layout.specs.declared.shape.Shape.{Shape}
use Rattle.hc_layout.specs.declared.words.GateWord.{GateWord}
use Rattle.hc_layout.specs.declared.words.MapBits.{MapBits}
use Rattle.hc_value.specs.declared.field.Class.{Class}
use Rattle.hc_value.specs.declared.field.Class.TheVariants.{Of, Any}
use Rattle.hc_value.specs.declared.field.Detail.{Detail}
use Rattle.hc_heap.specs.Writes.{Trail, Bits}
use Rattle.hc_heap.specs.Readings.{gate_in, prototype_in, bits_in, owner_in, detail_in}
use Rattle.hc_heap.specs.Kept.{Adds, UnusedSaysNothing}
use Rattle.hc_heap.specs.Lawful.{IsClassThere, IsField, Lawful}
use Rattle.hc_heap.specs.Frames.{adds-on, adds-one, adds-wider, goes-on-of, goes-still}
use Rattle.hc_heap.specs.States.{View, IsHeap}
use Rattle.hc_descs.specs.Entries.{detail_of, detail_at, field_at, key_at}
use Rattle.hc_tree.specs.Kept.{MapsAreKept, MapsStay}
use Rattle.hc_tree.specs.Tree.{IsTree, gate_with}
use Rattle.hc_tree.specs.Needs.{HasSpace, own_need, with_need}
use Rattle.hc_tree.specs.Copying.{IsExchanged}
use Rattle.hc_tree.specs.Details.{DetailsAre, GetsOne, NoMap, Reshapes}
use Rattle.hc_tree.specs.Dying.{IsDeprecated, MayDie, dead_bits}
use Rattle.hc_tree.specs.Frames.{reshapes-dies}
use Rattle.hc_tree.specs.Walking.{IsDetail, OpensNoRoot, both_details}
use Rattle.hc_update.specs.Renewing.{IsGeneralisedAlone, IsThis, OwnGets}
use Rattle.hc_update.proofs.Cuts.{and-then, field-used, of-same, some-of}
use Rattle.hc_update.proofs.Within.{with-admits}

-- a private map may die
pub private-may : (t : Trail) (m n : ℕ) → gate_in t m ≡ Some (gate_with n true) → IsSomeAnd (gate_in t m) (MayDie t m)
private-may t m n gate = subst (λ (o : Option GateWord). IsSomeAnd o (MayDie t m)) (sym gate) (λ shared top. true≢false shared)

module _ (maps : MapsAreKept) (v w : View) (m n i : ℕ) (heap : IsHeap v) (tree : IsTree v.trail) (gate : gate_in v.trail m ≡ Some (gate_with n true)) (dies : IsDeprecated v w m) where
  last : w.trail ≡ Bits m dead_bits ∷ v.trail
  last = dies.alone ((tree.maps m (gate_with n true) gate).unlinked refl)

  pub gone-reading : {T : Type 0} (reading : Trail → T) → ((t : Trail) (c : ℕ) (b : MapBits) → reading (Bits c b ∷ t) ≡ reading t) → reading w.trail ≡ reading v.trail
  gone-reading reading h = ap reading last ∙ h v.trail m dead_bits

  pub gone-gate : gate_in w.trail m ≡ Some (gate_with n true)
  gone-gate = gone-reading (λ (t : Trail). gate_in t m) (λ t c b. refl) ∙ gate

  same-shape : w.shape ≡ v.shape
  same-shape = ap (λ (y : View). y.shape) dies.view

  same-used : w.used ≡ v.used
  same-used = ap (λ (y : View). y.used) dies.view

  pub gone-detail : (d : Detail) → IsDetail v.shape v.trail d → IsDetail w.shape w.trail d
  gone-detail d h = record { form = h.form; there = there-by d.class h.there }
    where
      there-by : (c : Class) → IsClassThere v.shape v.trail c → IsClassThere w.shape w.trail c
      there-by (Of x) y = (subst (λ (s : Shape). x < s.maps) (sym same-shape) y.0, subst (λ (o : Option GateWord). IsSome o) (sym (gone-reading (λ (t : Trail). gate_in t x) (λ t c b. refl))) y.1)
      there-by Any y = tt

  pub gone-space : HasSpace v (own_need n) → HasSpace w (own_need n)
  gone-space h = subst (λ (y : View). HasSpace y (own_need n)) (sym dies.view) (record { maps = h.maps; entries = h.entries; fields = h.fields; links = h.links; slots = h.slots })

  module _ (unused : UnusedSaysNothing) (x : View) (c : ℕ) (d : Detail) (lt : i < n) (number : c ≡ w.used.maps) (it : IsExchanged x.trail c m n i w.used.fields) (used : x.used ≡ with_need (own_need n) w.used)
      (writes : Adds (Reshapes w.used NoMap (GetsOne w.used.fields (both_details (detail_at w.trail m i) (Some d)))) w.trail x.trail) (details : DetailsAre (GetsOne w.used.fields (both_details (detail_at w.trail m i) (Some d))) w.trail x.trail)
      (bits : (y : ℕ) → bits_in x.trail y ≡ bits_in w.trail y) (opens : OpensNoRoot w.trail x.trail) (shape : x.shape ≡ w.shape) (tree_x : IsTree x.trail) (heap_x : IsHeap x) where
    later : MapsStay w.trail x.trail
    later = maps w.shape w.trail x.trail dies.heap.lawful (goes-on-of w.shape writes (subst (λ (s : Shape). Lawful s x.trail) shape heap_x.lawful))

    wanted : both_details (detail_at w.trail m i) (Some d) ≡ both_details (detail_at v.trail m i) (Some d)
    wanted = gone-reading (λ (t : Trail). both_details (detail_at t m i) (Some d)) (λ t c b. refl)

    now-writes : Adds (Reshapes v.used NoMap (OwnGets v m i d)) w.trail x.trail
    now-writes = subst (λ (o : Option Detail). Adds (Reshapes v.used NoMap (GetsOne v.used.fields o)) w.trail x.trail) wanted
        (subst (λ (u : Shape). Adds (Reshapes u NoMap (GetsOne u.fields (both_details (detail_at w.trail m i) (Some d)))) w.trail x.trail) same-used writes)

    first : Adds (Reshapes v.used (IsThis m) (OwnGets v m i d)) v.trail w.trail
    first = subst (λ (t : Trail). Adds (Reshapes v.used (IsThis m) (OwnGets v m i d)) v.trail t) (sym last) (adds-one v.trail (Bits m dead_bits) (inr (refl, refl)))

    now-details : DetailsAre (OwnGets v m i d) w.trail x.trail
    now-details = subst (λ (o : Option Detail). DetailsAre (GetsOne v.used.fields o) w.trail x.trail) wanted
        (subst (λ (u : Shape). DetailsAre (GetsOne u.fields (both_details (detail_at w.trail m i) (Some d))) w.trail x.trail) same-used details)

    entry : (k : ℕ) → k < n → (key_at x.trail m k ≡ key_at v.trail m k) × (field_at x.trail m k ≡ field_at v.trail m k)
    entry k below =
        let stays = later.entry m k (gate_with n true) gone-gate below in
        (stays.key ∙ gone-reading (λ (t : Trail). key_at t m k) (λ t c b. refl), stays.field ∙ gone-reading (λ (t : Trail). field_at t m k) (λ t c b. refl))

    here : field_at x.trail c i ≡ Some v.used.fields
    here = it.entries.fields i lt ∙ self i (Some w.used.fields) (field_at x.trail m i) ∙ ap (λ (u : Shape). Some u.fields) same-used
      where
        self : {T : Type 0} (k : ℕ) (a b : T) → cond (eqb k k) a b ≡ a
        self k a b = ap (λ (t : Bool). cond t a b) (eq-eqb k k refl)

    elsewhere : (k : ℕ) → k < n → eqb k i ≡ false → field_at x.trail c k ≡ field_at v.trail m k
    elsewhere k below e = it.entries.fields k below ∙ ap (λ (t : Bool). cond t (Some w.used.fields) (field_at x.trail m k)) e ∙ (entry k below).1

    other-test : (k j : ℕ) → k ≢ j → eqb k j ≡ false
    other-test k j ne = by (eqb k j) refl
      where
        by : (t : Bool) → eqb k j ≡ t → t ≡ false
        by true e = absurd (ne (eqb-true k j e))
        by false e = refl

    -- the map's fields were there, and admit what they did
    was : (k : ℕ) → k < n → IsSomeAnd (field_at v.trail m k) (λ f. detail_in x.trail f ≡ detail_in v.trail f)
    was k below =
        let still = maps v.shape v.trail v.trail heap.lawful (goes-still v.shape heap.lawful) in
        and-then (λ (f : ℕ). IsField v.trail f) (λ (f : ℕ). detail_in x.trail f ≡ detail_in v.trail f) (field_at v.trail m k) ((still.opened m (gate_with n true) gate).entries.fields k below)
        (λ f made. let there = field-used unused v heap f made in now-details.rest f (λ e got. let at : f ≡ v.used.fields = got.0 in omega (arith, there, at)) ∙ gone-reading (λ (t : Trail). detail_in t f) (λ t c b. refl))

    -- what the new field admits
    new-detail : (o : Option Detail) → detail_at v.trail m i ≡ o → IsSome o → detail_in x.trail v.used.fields ≡ both_details (detail_at v.trail m i) (Some d)
    new-detail (Some e) is some =
        let joined = ap (λ (y : Option Detail). both_details y (Some d)) is in
        now-details.gets v.used.fields _ (refl, joined) ∙ sym joined
    new-detail None is some = let no : ⊥ = cc in absurd no

    detail-there : (k : ℕ) → k < n → IsSome (detail_at v.trail m k)
    detail-there k below =
        let still = maps v.shape v.trail v.trail heap.lawful (goes-still v.shape heap.lawful) in
        by (field_at v.trail m k) ((still.opened m (gate_with n true) gate).entries.fields k below)
      where
        by : (o : Option ℕ) → IsSomeAnd o (λ f. IsField v.trail f) → IsSome (detail_of v.trail o)
        by (Some f) made = made.detail
        by None made = absurd made

    admits : (k : ℕ) (t : Bool) → eqb k i ≡ t → k < n → detail_at x.trail c k ≡ cond t (both_details (detail_at v.trail m k) (Some d)) (detail_at v.trail m k)
    admits k true e below =
        let same : k ≡ i = eqb-true k i e in
        subst (λ (j : ℕ). detail_at x.trail c j ≡ both_details (detail_at v.trail m j) (Some d)) (sym same) (ap (detail_of x.trail) here ∙ new-detail (detail_at v.trail m i) refl (detail-there i lt))
    admits k false e below = ap (detail_of x.trail) (elsewhere k below e) ∙ of-same v.trail x.trail (field_at v.trail m k) (was k below)

    pub generalised-alone : IsGeneralisedAlone v x m n i c d
    generalised-alone = record {
      number = number ∙ ap (λ (u : Shape). u.maps) same-used;
      writes = adds-on first (adds-wider (reshapes-dies v.used NoMap (IsThis m) (λ y h. absurd h) (OwnGets v m i d)) now-writes);
      dead = ap (λ (b : MapBits). b.deprecated) (bits m) ∙ dies.dead;
      others = λ y ne. bits y ∙ ap (λ (t : Trail). bits_in t y) last ∙ ap (λ (t : Bool). cond t dead_bits (bits_in v.trail y)) (other-test m y (λ is. ne (sym is)));
      opens = λ y g none gate shared parent. opens y g (gone-reading (λ (t : Trail). gate_in t y) (λ t c b. refl) ∙ none) gate shared parent;
      used = used ∙ ap (λ (u : Shape). with_need (own_need n) u) same-used;
      shape = shape ∙ same-shape;
      gate = it.gate;
      parent = it.parent;
      prototype = it.prototype ∙ prototype-was;
      stable = it.bits;
      keys = λ k below. it.entries.keys k below ∙ (entry k below).0;
      shared = λ k below ne. elsewhere k below (other-test k i ne);
      field = here;
      owner = ap (λ (u : Shape). owner_in x.trail u.fields) (sym same-used) ∙ it.owner;
      made = λ k below. admits k (eqb k i) refl below;
      admits = λ k then now below is at. with-admits (eqb k i) (detail_at v.trail m k) (detail_at x.trail c k) d then now (admits k (eqb k i) refl below) is at;
      details = record { gets = now-details.gets; rest = λ f none. now-details.rest f none ∙ gone-reading (λ (t : Trail). detail_in t f) (λ t c b. refl) };
      tree = tree_x;
      heap = heap_x;
    }
      where
        prototype-was : prototype_in x.trail m ≡ prototype_in v.trail m
        prototype-was =
            let p = some-of (prototype_in w.trail m) (later.opened m (gate_with n true) gone-gate).prototype in
            later.written.prototype m p.0 p.1 ∙ sym p.1 ∙ gone-reading (λ (t : Trail). prototype_in t m) (λ t c b. refl)

-- A map of either kind

-- the gate of an open map is one of these
pub gate-is : (t : Trail) (m : ℕ) (g : GateWord) (private : Bool) → IsTree t → gate_in t m ≡ Some g → g.is_private ≡ private → gate_in t m ≡ Some (gate_with g.entries private)
gate-is t m g private tree is same = is ∙ ap (λ (x : GateWord). Some x) (parts g.entries g.is_private g.is_locked same (tree.maps m g is).unlocked)
  where
    parts : (n : ℕ) (p l : Bool) → p ≡ private → l ≡ false → (let x : GateWord = record { entries = n; is_private = p; is_locked = l } in x) ≡ gate_with n private
    parts n p l a b = ap (λ (y : Bool). let x : GateWord = record { entries = n; is_private = y; is_locked = l } in x) a ∙ ap (λ (y : Bool). let x : GateWord = record { entries = n; is_private = private; is_locked = y } in x) b
