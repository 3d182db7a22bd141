-- A fast object at rest, as a property table: what its map's entries say.
use Rattle.std.proofs.Common.{◌≡◌, ◌≢◌, ℕ, ◌<◌, ◌≤◌, List, Option, Some, None, IsSome, length, sym, ap, ◌∙◌, subst, arith}
use Rattle.std.specs.Prelude.{IsSomeAnd}
use Rattle.hc_layout.specs.declared.words.GateWord.{GateWord}
use Rattle.hc_value.specs.declared.field.Detail.{Detail}
use Rattle.hc_value.specs.declared.key.Key.{Key}
use Rattle.hc_value.specs.declared.prop.Prop.{Prop}
use Rattle.hc_heap.specs.declared.kind.Kind.TheVariants.{MapOfObject}
use Rattle.hc_heap.specs.Writes.{Trail}
use Rattle.hc_heap.specs.Readings.{gate_in, map_in}
use Rattle.hc_heap.specs.Lawful.{IsField, slot_word}
use Rattle.hc_heap.specs.Kept.{GatesAreOpen, UnusedSaysNothing}
use Rattle.hc_heap.specs.States.{View}
use Rattle.hc_descs.specs.Entries.{key_at, field_at, entries_in, count_of, detail_of, detail_at}
use Rattle.hc_table.specs.World.{object, new_object, place_of, property_of}
use Rattle.hc_slots.specs.Listed.{listed, length-listed, get_or-listed}
use Rattle.hc_modes.specs.Meaning.{object_at}
use Rattle.hc_slots.specs.Meaning.{object_shown, fast_object, fast_props, prop_in, prop_of, held_in}
use Rattle.hc_soundness.specs.Finding.{Finds, Lacks}
use Rattle.hc_soundness.specs.Meaning.{Dictionary, kept_of, world, IsKeptSo}
use Rattle.hc_soundness.specs.Rest.{IsRest}
use Rattle.hc_soundness.proofs.Lists.{property-lacks, property-found, place-found}

-- the property of an entry with this key
abbrev pub prop_with : Key → Detail → ℕ → Prop
prop_with key d w = record { name = key.name; attrs = key.attrs; held = held_in key.kind d.rep w }

other-name : (key : Option Key) (d : Option Detail) (w name : ℕ) → IsSomeAnd key (λ k. k.name ≢ name) → IsSome d → (prop_of key d w).name ≢ name
other-name (Some key) (Some d) w name other there = other
other-name (Some key) None w name other there = let no : ⊥ = cc in absurd no
other-name None d w name other there = absurd other

prop-is : (key : Option Key) (d : Option Detail) (k : Key) (e : Detail) (w : ℕ) → key ≡ Some k → d ≡ Some e → prop_of key d w ≡ prop_with k e w
prop-is key d k e w is admits = ap (λ x. prop_of x d w) is ∙ ap (λ x. prop_of (Some k) x w) admits

detail-some : (t : Trail) (f : Option ℕ) → IsSomeAnd f (λ x. IsField t x) → IsSome (detail_of t f)
detail-some t (Some f) made = made.detail
detail-some t None made = absurd made

-- Entries

module _ (gates : GatesAreOpen) (v : View) (kept : List (Option Dictionary)) (rest : IsRest v kept) where
  -- what a written entry of an open map has
  pub entry-detail : (m k : ℕ) (g : GateWord) → gate_in v.trail m ≡ Some g → k < g.entries → IsSome (detail_at v.trail m k)
  entry-detail m k g is lt = detail-some v.trail (field_at v.trail m k) ((gates v.shape v.trail m g rest.heap.lawful is).entries.fields k lt)

  counted : (m : ℕ) (g : GateWord) → gate_in v.trail m ≡ Some g → count_of v.trail m ≡ g.entries
  counted m g is = ap entries_in is

  -- an object whose map lacks a name has no property of it
  pub lacks-property : (o m name : ℕ) → Lacks v.trail m name → property_of (fast_props v.trail o m) name ≡ None
  lacks-property o m name h =
      ap (λ n. property_of (listed (prop_in v.trail o m) n) name) (counted m h.gate h.is_open)
      ∙ property-lacks (prop_in v.trail o m) h.gate.entries name
      (λ k lt. other-name (key_at v.trail m k) (detail_at v.trail m k) (slot_word v.trail o k) name (h.none k lt) (entry-detail m k h.gate h.is_open lt))

  module _ (o m name k : ℕ) (key : Key) (d : Detail) (h : Finds v.trail m name k key) (admits : detail_at v.trail m k ≡ Some d) where
    here : prop_in v.trail o m k ≡ prop_with key d (slot_word v.trail o k)
    here = prop-is (key_at v.trail m k) (detail_at v.trail m k) key d (slot_word v.trail o k) h.is_key admits

    before : (j : ℕ) → j < k → (prop_in v.trail o m j).name ≢ name
    before j lt =
        let within = h.within in
        other-name (key_at v.trail m j) (detail_at v.trail m j) (slot_word v.trail o j) name (h.before j lt) (entry-detail m j h.gate h.is_open (omega arith))

    -- an object whose map finds a name has its property
    pub finds-property : property_of (fast_props v.trail o m) name ≡ Some (prop_with key d (slot_word v.trail o k))
    finds-property =
        ap (λ n. property_of (listed (prop_in v.trail o m) n) name) (counted m h.gate h.is_open)
        ∙ property-found (prop_in v.trail o m) h.gate.entries k name h.within (ap (λ (p : Prop). p.name) here ∙ h.named) before
        ∙ ap (λ p. Some p) here

    pub finds-place : place_of (fast_props v.trail o m) name ≡ Some k
    finds-place =
        ap (λ n. place_of (listed (prop_in v.trail o m) n) name) (counted m h.gate h.is_open)
        ∙ place-found (prop_in v.trail o m) h.gate.entries k name h.within (ap (λ (p : Prop). p.name) here ∙ h.named) before

-- Objects

module _ (unused : UnusedSaysNothing) (v : View) (kept : List (Option Dictionary)) (rest : IsRest v kept) where
  -- an object that has a map is one of those that are there
  pub is-there : (o m : ℕ) → map_in v.trail o ≡ Some m → o < length kept
  is-there o m has = by o (length kept) (λ le.
      let none : map_in v.trail o ≡ None = unused v.used v.trail MapOfObject o rest.heap.used (subst (λ n. n ≤ o) rest.items le) in
      let no : None ≡ Some m = sym none ∙ has in let f : ⊥ = cc in f)
    where
      by : (a b : ℕ) → (b ≤ a → ⊥) → a < b
      by a b h = omega (arith, h)

  not-slow : (o m : ℕ) (item : Option Dictionary) → map_in v.trail o ≡ Some m → IsKeptSo v.trail o item → object_shown v.trail o item (map_in v.trail o) ≡ fast_object v.trail o m
  not-slow o m (Some d) has none = let no : None ≡ Some m = sym none ∙ has in let f : ⊥ = cc in absurd f
  not-slow o m None has so = ap (object_shown v.trail o None) has

  pub length-world : length (world v.trail kept) ≡ length kept
  length-world = length-listed (object_at v.trail kept) (length kept)

  -- and is what its map says
  pub shown : (o m : ℕ) → map_in v.trail o ≡ Some m → object (world v.trail kept) o ≡ fast_object v.trail o m
  shown o m has =
      let lt = is-there o m has in
      get_or-listed (object_at v.trail kept) (length kept) o (new_object None) lt ∙ not-slow o m (kept_of kept o) has (rest.each o lt)
