-- The properties of an object that has a map have the names of the map's keys.
use Rattle.std.proofs.Common.{◌≡◌, ◌≢◌, ℕ, ◌<◌, Option, Some, None, sym, ap, ◌∙◌, subst, arith}
use Rattle.std.specs.Prelude.{IsSomeAnd}
use Rattle.hc_layout.specs.declared.words.GateWord.{GateWord}
use Rattle.hc_value.specs.declared.field.Detail.{Detail}
use Rattle.hc_value.specs.declared.key.Key.{Key}
use Rattle.hc_value.specs.declared.prop.Prop.{Prop}
use Rattle.hc_heap.specs.Writes.{Trail}
use Rattle.hc_heap.specs.Readings.{gate_in, base_in}
use Rattle.hc_heap.specs.Lawful.{field_from, key_from, slot_word}
use Rattle.hc_heap.specs.Kept.{GatesAreOpen}
use Rattle.hc_heap.specs.States.{View, IsHeap}
use Rattle.hc_descs.specs.Entries.{HasName, HasOtherName, IsFirstNamed, LacksName, count_of, detail_at, detail_of, entries_in, key_at}
use Rattle.hc_table.specs.World.{place_of}
use Rattle.hc_slots.specs.Cases.{some-and, some-is}
use Rattle.hc_slots.specs.Entries.{EntryIs, entry-is}
use Rattle.hc_slots.specs.Meaning.{fast_props, prop_in, prop_of}
use Rattle.hc_access.proofs.Places.{place-first, place-found, place-none}
use Rattle.hc_slots.specs.Listed.{listed, place-absent}

-- the name of a property, by its key
pub record IsNamed (t : Trail) (o m k : ℕ) : Type 0 where
  pub key : Key
  pub is_key : key_at t m k ≡ Some key
  pub detail : Detail
  pub property : prop_in t o m k ≡ prop_of (Some key) (Some detail) (slot_word t o k)
  pub named : (prop_in t o m k).name ≡ key.name

named-by : (t : Trail) (o m k : ℕ) → EntryIs t m k → IsNamed t o m k
named-by t o m k e =
    let is : key_at t m k ≡ Some e.key = ap (λ (b : Option ℕ). key_from t b k) e.is_base ∙ e.is_key in
    let field : field_from t (base_in t m) k ≡ Some e.field = ap (λ (b : Option ℕ). field_from t b k) e.is_base ∙ e.is_field in
    let detail : detail_at t m k ≡ Some e.detail = ap (detail_of t) field ∙ e.admits in
    let property : prop_in t o m k ≡ prop_of (Some e.key) (Some e.detail) (slot_word t o k) =
    ap (λ (key : Option Key). prop_of key (detail_at t m k) (slot_word t o k)) is ∙ ap (λ (d : Option Detail). prop_of (Some e.key) d (slot_word t o k)) detail in
    record { key = e.key; is_key = is; detail = e.detail; property = property; named = ap (λ (p : Prop). p.name) property }

module _ (gates : GatesAreOpen) (v : View) (heap : IsHeap v) (m : ℕ) (g : GateWord) (gate : gate_in v.trail m ≡ Some g) where
  pub named : (o k : ℕ) → k < g.entries → IsNamed v.trail o m k
  named o k lt = named-by v.trail o m k (entry-is gates v m k heap (subst (λ (x : Option GateWord). IsSomeAnd x (λ y. k < y.entries)) (sym gate) lt))

  count : count_of v.trail m ≡ g.entries
  count = ap entries_in gate

  -- the name is the key's, and the other way round
  has-name : (o k name : ℕ) → k < g.entries → HasName v.trail m k name → (prop_in v.trail o m k).name ≡ name
  has-name o k name lt has =
      let n = named o k lt in
      let it = some-and (key_at v.trail m k) (λ key. key.name ≡ name) has in
      let same : n.key ≡ it.0 = some-is n.key it.0 (sym n.is_key ∙ it.1.0) in
      n.named ∙ (ap (λ (key : Key). key.name) same ∙ it.1.1)

  has-other : (o k name : ℕ) → k < g.entries → HasOtherName v.trail m k name → (prop_in v.trail o m k).name ≢ name
  has-other o k name lt has =
      let n = named o k lt in
      let it = some-and (key_at v.trail m k) (λ key. key.name ≢ name) has in
      let same : it.0 ≡ n.key = some-is it.0 n.key (sym it.1.0 ∙ n.is_key) in
      λ e. it.1.1 (ap (λ (key : Key). key.name) same ∙ (sym n.named ∙ e))

  of-name : (o k name : ℕ) → k < g.entries → (prop_in v.trail o m k).name ≡ name → HasName v.trail m k name
  of-name o k name lt is =
      let n = named o k lt in
      subst (λ (x : Option Key). IsSomeAnd x (λ key. key.name ≡ name)) (sym n.is_key) (sym n.named ∙ is)

  of-other : (o k name : ℕ) → k < g.entries → (prop_in v.trail o m k).name ≢ name → HasOtherName v.trail m k name
  of-other o k name lt other =
      let n = named o k lt in
      subst (λ (x : Option Key). IsSomeAnd x (λ key. key.name ≢ name)) (sym n.is_key) (λ e. other (n.named ∙ e))

  -- a map's own entry is the place of the name in each object that has the map
  pub own-place : (o name i : ℕ) → IsFirstNamed v.trail m name i → place_of (fast_props v.trail o m) name ≡ Some i
  own-place o name i first =
      let within : i < g.entries = omega (arith, first.within, count) in
      ap (λ (n : ℕ). place_of (listed (prop_in v.trail o m) n) name) count
      ∙ place-found (prop_in v.trail o m) g.entries i name within (has-name o i name within first.here)
      (λ k lower. has-other o k name (omega (arith, within)) (first.before k lower))

  pub lacks-place : (o name : ℕ) → LacksName v.trail m (count_of v.trail m) name → place_of (fast_props v.trail o m) name ≡ None
  lacks-place o name lacks =
      ap (λ (n : ℕ). place_of (listed (prop_in v.trail o m) n) name) count
      ∙ place-none (prop_in v.trail o m) g.entries name (λ k lt. has-other o k name lt (lacks k (omega (arith, count))))

  -- and the other way round
  pub place-own : (o name i : ℕ) → place_of (fast_props v.trail o m) name ≡ Some i → IsFirstNamed v.trail m name i
  place-own o name i e =
      let first = place-first (prop_in v.trail o m) g.entries i name (sym (ap (λ (n : ℕ). place_of (listed (prop_in v.trail o m) n) name) count) ∙ e) in
      record {
        within = let w = first.within in omega (arith, count);
        here = of-name o i name first.within first.here;
        before = λ k lower. let w = first.within in of-other o k name (omega arith) (first.before k lower);
      }

  pub place-lacks : (o name : ℕ) → place_of (fast_props v.trail o m) name ≡ None → LacksName v.trail m (count_of v.trail m) name
  place-lacks o name e k lt =
      let within : k < g.entries = omega (arith, count) in
      of-other o k name within (place-absent (prop_in v.trail o m) g.entries k name within (sym (ap (λ (n : ℕ). place_of (listed (prop_in v.trail o m) n) name) count) ∙ e))
