-- Objects that share a map, as their properties say.
use Rattle.std.proofs.Common.{◌≡◌, ◌≢◌, ℕ, zero, suc, ◌<◌, Bool, true, false, nat_eq, eqb-true, eq-eqb, List, ◌∷◌, Option, Some, None, length, refl, sym, ap, ◌∙◌, subst, arith}
use Rattle.std.specs.Prelude.{IsTrue, IsSomeAnd, ◌↔◌, map, slice_get}
use Rattle.hc_layout.specs.declared.words.GateWord.{GateWord}
use Rattle.hc_value.specs.declared.field.Detail.{Detail}
use Rattle.hc_value.specs.declared.key.Key.{Key}
use Rattle.hc_value.specs.declared.prop.Kind.{Kind}
use Rattle.hc_value.specs.declared.prop.Prop.{Prop}
use Rattle.hc_heap.specs.Writes.{Trail}
use Rattle.hc_heap.specs.Readings.{gate_in, prototype_in, map_in}
use Rattle.hc_heap.specs.Kept.{GatesAreOpen}
use Rattle.hc_heap.specs.Lawful.{key_from, field_from}
use Rattle.hc_heap.specs.States.{View}
use Rattle.hc_descs.specs.Entries.{key_at, count_of, detail_at, detail_of}
use Rattle.hc_table.specs.World.{Object, props_at}
use Rattle.hc_slots.specs.Listed.{listed, length-listed, listed-same, slice_get-listed}
use Rattle.hc_slots.specs.Meaning.{Dictionary, prop_of, prop_in, proto_of, slot_word}
use Rattle.hc_modes.specs.Meaning.{kept_of, world}
use Rattle.hc_modes.specs.State.{ObjectsState, IsKeptSo, IsLive, IsObjects}
use Rattle.hc_slots.specs.Fast.{HasMap}
use Rattle.hc_modes.specs.Changes.{key_of}
use Rattle.hc_modes.specs.Came.{world_of}
use Rattle.hc_modes.specs.Modes.{AreAlike}
use Rattle.hc_modes.proofs.Composing.{no-cause}
use Rattle.hc_modes.proofs.Places.{held-kind}
use Rattle.hc_slots.specs.Entries.{entry-is}
use Rattle.hc_slots.specs.Cases.{some-of, not-both, some-is}
use Rattle.hc_modes.proofs.Sharing.{one-map}
use Rattle.hc_modes.proofs.Worlds.{length-world}
use Rattle.hc_modes.proofs.Writing.{has-map, is-fast, props-are, count-is}

map-listed : (f : ℕ → Prop) (n : ℕ) → map key_of (listed f n) ≡ listed (λ k. key_of (f k)) n
map-listed f zero = refl
map-listed f (suc n) = ap (λ (ks : List Key). key_of (f 0) ∷ ks) (map-listed (λ k. f (suc k)) n)

-- lists by index that are the same have the same at each place
listed-at : (f g : ℕ → Key) (n m k : ℕ) → listed f n ≡ listed g m → k < n → k < m → f k ≡ g k
listed-at f g n m k e lt within = some-is (f k) (g k) (sym (slice_get-listed f n k lt) ∙ ap (λ (ks : List Key). slice_get ks k) e ∙ slice_get-listed g m k within)

-- the key of a property that an entry with this key shows
key-shown : (t : Trail) (o m k : ℕ) (key : Key) (d : Detail) → key_at t m k ≡ Some key → detail_at t m k ≡ Some d → key_of (prop_in t o m k) ≡ key
key-shown t o m k key d is_key admits =
    ap (λ (x : Option Key). key_of (prop_of x (detail_at t m k) (slot_word t o k))) is_key
    ∙ ap (λ (x : Option Detail). key_of (prop_of (Some key) x (slot_word t o k))) admits
    ∙ ap (λ (kind : Kind). let x : Key = record { name = key.name; kind = kind; attrs = key.attrs } in x) (held-kind key.kind d.rep (slot_word t o k))

module _ (gates : GatesAreOpen) (v : View) (kept : List (Option Dictionary)) (of_null : Option ℕ) (h : IsObjects v kept of_null) where
  -- each entry of an open map has a key, which its property shows, whatever object has the map
  entry-shown : (o m : ℕ) (g : GateWord) (k : ℕ) → gate_in v.trail m ≡ Some g → k < g.entries → Some (key_of (prop_in v.trail o m k)) ≡ key_at v.trail m k
  entry-shown o m g k is lt =
      let entry = entry-is gates v m k h.heap (subst (λ (x : Option GateWord). IsSomeAnd x (λ y. k < y.entries)) (sym is) lt) in
      let is_key : key_at v.trail m k ≡ Some entry.key = ap (λ (b : Option ℕ). key_from v.trail b k) entry.is_base ∙ entry.is_key in
      let admits : detail_at v.trail m k ≡ Some entry.detail = ap (λ (b : Option ℕ). detail_of v.trail (field_from v.trail b k)) entry.is_base ∙ ap (detail_of v.trail) entry.is_field ∙ entry.admits in
      ap (λ (x : Key). Some x) (key-shown v.trail o m k entry.key entry.detail is_key admits) ∙ sym is_key

  module _ (o : ℕ) (there : o < length kept) (fast : kept_of kept o ≡ None) where
    so : HasMap v.trail o
    so = has-map v kept of_null h o there fast

    keys-are : map key_of (props_at (world v.trail kept) o) ≡ listed (λ k. key_of (prop_in v.trail o (has-map v kept of_null h o there fast).map k)) (has-map v kept of_null h o there fast).gate.entries
    keys-are =
        ap (map key_of) (props-are v kept of_null h o there fast)
        ∙ map-listed (prop_in v.trail o (has-map v kept of_null h o there fast).map) (count_of v.trail (has-map v kept of_null h o there fast).map)
        ∙ ap (λ (n : ℕ). listed (λ k. key_of (prop_in v.trail o (has-map v kept of_null h o there fast).map k)) n) (count-is v kept of_null h o there fast)

  module _ (a b : ℕ) (in_a : a < length kept) (in_b : b < length kept) (fast_a : kept_of kept a ≡ None) (fast_b : kept_of kept b ≡ None) where
    abbrev one : HasMap v.trail a
    one = has-map v kept of_null h a in_a fast_a

    abbrev two : HasMap v.trail b
    two = has-map v kept of_null h b in_b fast_b

    -- with one map they are alike
    pub alike-of : (m : ℕ) → a ≢ b → map_in v.trail a ≡ Some m → map_in v.trail b ≡ Some m → AreAlike v.trail kept a b
    alike-of m other is_a is_b = record {
      fast_a = no-cause kept a fast_a;
      fast_b = no-cause kept b fast_b;
      shared_a = sym one.fast.private ∙ shared one.gate.is_private refl;
      shared_b = sym two.fast.private ∙ ap (λ (g : GateWord). g.is_private) (sym gates_same) ∙ shared one.gate.is_private refl;
      proto =
          ap (λ (x : Object). x.proto) (is-fast v kept of_null h a in_a fast_a)
          ∙ ap (λ (x : ℕ). proto_of (prototype_in v.trail x)) maps_same
          ∙ sym (ap (λ (x : Object). x.proto) (is-fast v kept of_null h b in_b fast_b));
      keys =
          keys-are a in_a fast_a
          ∙ listed-same (λ k. key_of (prop_in v.trail b two.map k)) (λ k. key_of (prop_in v.trail a one.map k)) one.gate.entries
          (λ k lt. some-is (key_of (prop_in v.trail a one.map k)) (key_of (prop_in v.trail b two.map k))
          (entry-shown a one.map one.gate k one.fast.is_open lt
          ∙ ap (λ (x : ℕ). key_at v.trail x k) maps_same
          ∙ sym (entry-shown b two.map two.gate k two.fast.is_open (subst (λ (g : GateWord). k < g.entries) gates_same lt))))
          ∙ ap (λ (g : GateWord). listed (λ k. key_of (prop_in v.trail b two.map k)) g.entries) gates_same
          ∙ sym (keys-are b in_b fast_b);
    }
      where
        maps_same : one.map ≡ two.map
        maps_same = some-is one.map two.map (sym one.is_map ∙ is_a ∙ sym is_b ∙ two.is_map)

        gates_same : one.gate ≡ two.gate
        gates_same = some-is one.gate two.gate (sym one.fast.is_open ∙ ap (gate_in v.trail) maps_same ∙ two.fast.is_open)

        shared : (p : Bool) → one.gate.is_private ≡ p → one.gate.is_private ≡ false
        shared false e = e
        shared true e = absurd (other (h.alone a b one.map one.gate in_a in_b one.is_map (two.is_map ∙ ap (λ (x : ℕ). Some x) (sym maps_same)) one.fast.is_open e))

    -- and where they are alike they have one map
    pub map-of : IsLive v.trail a → IsLive v.trail b → AreAlike v.trail kept a b → (m n : ℕ) → map_in v.trail a ≡ Some m → map_in v.trail b ≡ Some n → m ≡ n
    map-of live_a live_b alike m n is_a is_b =
        let mine : m ≡ one.map = some-is m one.map (sym is_a ∙ one.is_map) in
        let yours : n ≡ two.map = some-is n two.map (sym is_b ∙ two.is_map) in
        mine
        ∙ one-map v.trail of_null h.tree h.roots (λ x g is. gates v.shape v.trail x g h.heap.lawful is) one.gate.entries one.map two.map one.gate two.gate (live_a one.map one.is_map) (live_b two.map two.is_map) one.fast.is_open two.fast.is_open (one.fast.private ∙ alike.shared_a) (two.fast.private ∙ alike.shared_b) refl (sym counts) prototypes keys
        ∙ sym yours
      where
        lists : listed (λ k. key_of (prop_in v.trail a one.map k)) one.gate.entries ≡ listed (λ k. key_of (prop_in v.trail b two.map k)) two.gate.entries
        lists = sym (keys-are a in_a fast_a) ∙ alike.keys ∙ keys-are b in_b fast_b

        counts : one.gate.entries ≡ two.gate.entries
        counts = sym (length-listed (λ k. key_of (prop_in v.trail a one.map k)) one.gate.entries) ∙ ap (λ (ks : List Key). length ks) lists ∙ length-listed (λ k. key_of (prop_in v.trail b two.map k)) two.gate.entries

        keys : (k : ℕ) → k < one.gate.entries → key_at v.trail one.map k ≡ key_at v.trail two.map k
        keys k lt =
            let within : k < two.gate.entries = omega (arith, lt, counts) in
            sym (entry-shown a one.map one.gate k one.fast.is_open lt)
            ∙ ap (λ (x : Key). Some x) (listed-at (λ i. key_of (prop_in v.trail a one.map i)) (λ i. key_of (prop_in v.trail b two.map i)) one.gate.entries two.gate.entries k lists lt within)
            ∙ entry-shown b two.map two.gate k two.fast.is_open within

        protos : proto_of (prototype_in v.trail one.map) ≡ proto_of (prototype_in v.trail two.map)
        protos =
            sym (ap (λ (x : Object). x.proto) (is-fast v kept of_null h a in_a fast_a))
            ∙ alike.proto
            ∙ ap (λ (x : Object). x.proto) (is-fast v kept of_null h b in_b fast_b)

        prototypes : prototype_in v.trail one.map ≡ prototype_in v.trail two.map
        prototypes =
            let p = some-of (prototype_in v.trail one.map) (gates v.shape v.trail one.map one.gate h.heap.lawful one.fast.is_open).prototype in
            let q = some-of (prototype_in v.trail two.map) (gates v.shape v.trail two.map two.gate h.heap.lawful two.fast.is_open).prototype in
            p.1
            ∙ ap (λ (x : Option ℕ). Some x) (sym (ap proto_of p.1) ∙ protos ∙ ap proto_of q.1)
            ∙ sym q.1

-- a call that compares the maps of two objects
module _ {P : Type 0} (gates : GatesAreOpen) (s : ObjectsState P) (h : IsObjects s.heap.view s.kept s.of_null) (a b m n : ℕ) (in_a : a < length (world_of s)) (in_b : b < length (world_of s))
    (is_a : map_in s.heap.view.trail a ≡ Some m) (is_b : map_in s.heap.view.trail b ≡ Some n) where
  fast : (o k : ℕ) → o < length s.kept → map_in s.heap.view.trail o ≡ Some k → kept_of s.kept o ≡ None
  fast o k there is = by (kept_of s.kept o) refl
    where
      by : (i : Option Dictionary) → kept_of s.kept o ≡ i → kept_of s.kept o ≡ None
      by None e = e
      by (Some d) e =
          let none : map_in s.heap.view.trail o ≡ None = subst (λ (i : Option Dictionary). IsKeptSo s.heap.view.trail o i) e (h.each o there) in
          absurd (not-both (map_in s.heap.view.trail o) k none is)

  there_a : a < length s.kept
  there_a = subst (λ (k : ℕ). a < k) (length-world s.heap.view.trail s.kept) in_a

  there_b : b < length s.kept
  there_b = subst (λ (k : ℕ). b < k) (length-world s.heap.view.trail s.kept) in_b

  pub compared : IsLive s.heap.view.trail a → IsLive s.heap.view.trail b → a ≢ b → IsTrue (nat_eq m n) ↔ AreAlike s.heap.view.trail s.kept a b
  compared live_a live_b other = (
    (λ yes. alike-of gates s.heap.view s.kept s.of_null h a b there_a there_b (fast a m there_a is_a) (fast b n there_b is_b) m other is_a (is_b ∙ ap (λ (k : ℕ). Some k) (sym (eqb-true m n yes)))),
    (λ alike. eq-eqb m n (map-of gates s.heap.view s.kept s.of_null h a b there_a there_b (fast a m there_a is_a) (fast b n there_b is_b) live_a live_b alike m n is_a is_b)),
  )
