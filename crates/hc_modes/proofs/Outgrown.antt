-- What a store asks of the field of its place, and that a field that admits it besides may hold it.
use Rattle.std.proofs.Common.{◌≡◌, ◌∙◌, ℕ, ◌<◌, Bool, cond, eq-eqb, List, Option, Some, None, length, refl, sym, ap, subst}
use Rattle.std.specs.Prelude.{IsSomeAnd, IsTrue, slice_get}
use Rattle.hc_layout.specs.declared.words.GateWord.{GateWord}
use Rattle.hc_value.specs.Field.{in_place_of, join_of, joined_detail}
use Rattle.hc_value.specs.Prop.{kind_of}
use Rattle.hc_value.specs.declared.field.Constness.{Constness}
use Rattle.hc_value.specs.declared.field.Detail.{Detail}
use Rattle.hc_value.specs.declared.field.Rep.{Rep}
use Rattle.hc_value.specs.declared.field.Rep.TheVariants.{Smi, Wide, HeapObject, Tagged}
use Rattle.hc_value.specs.declared.key.Key.{Key}
use Rattle.hc_value.specs.declared.prop.Held.{Held}
use Rattle.hc_value.specs.declared.prop.Kind.{Kind}
use Rattle.hc_value.specs.declared.prop.Prop.{Prop}
use Rattle.hc_heap.specs.Kept.{GatesAreOpen}
use Rattle.hc_heap.specs.Lawful.{key_from}
use Rattle.hc_heap.specs.Readings.{gate_in, map_in}
use Rattle.hc_heap.specs.States.{View}
use Rattle.hc_heap.specs.Writes.{Trail}
use Rattle.hc_descs.specs.Entries.{count_of, detail_at, entries_in, key_at}
use Rattle.hc_tree.specs.Walking.{both_details}
use Rattle.hc_update.specs.Renewing.{generalised_at}
use Rattle.hc_table.specs.Changes.{kind_at}
use Rattle.hc_table.specs.World.{props_at}
use Rattle.hc_slots.specs.Cases.{some-is}
use Rattle.hc_slots.specs.Entries.{EntryIs, entry-is}
use Rattle.hc_slots.specs.Fast.{HasMap}
use Rattle.hc_slots.specs.Listed.{slice_get-listed}
use Rattle.hc_slots.specs.Meaning.{Dictionary, IsConstnessFor, fast_props, held_in, prop_in, prop_of, slot_word}
use Rattle.hc_modes.specs.Admitting.{FitsField, held_detail, held_rep}
use Rattle.hc_modes.specs.Meaning.{kept_of, world}
use Rattle.hc_modes.specs.Replaced.{IsAskedFor}
use Rattle.hc_modes.specs.State.{IsObjects, ObjectsState}
use Rattle.hc_modes.proofs.Fitting.{rep-asked}
use Rattle.hc_modes.proofs.Places.{kind-fast, place-fast}
use Rattle.hc_modes.proofs.Writing.{has-map, props-are}

join-again : (a b : Rep) → IsTrue (in_place_of (join_of a b) (join_of (join_of a b) b))
join-again Smi Smi = refl
join-again Smi Wide = refl
join-again Smi HeapObject = refl
join-again Smi Tagged = refl
join-again Wide Smi = refl
join-again Wide Wide = refl
join-again Wide HeapObject = refl
join-again Wide Tagged = refl
join-again HeapObject Smi = refl
join-again HeapObject Wide = refl
join-again HeapObject HeapObject = refl
join-again HeapObject Tagged = refl
join-again Tagged Smi = refl
join-again Tagged Wide = refl
join-again Tagged HeapObject = refl
join-again Tagged Tagged = refl

-- a field that admits besides what is asked may hold it in place
pub fits-joined : (s t : Trail) (o c i : ℕ) (held : Held) (before : Detail) (constness : Constness) → map_in t o ≡ Some c → detail_at t c i ≡ Some (joined_detail before (held_detail s held constness)) → FitsField t o i held
fits-joined s t o c i held before constness comes admits m d has at =
    let same : m ≡ c = some-is m c (sym has ∙ comes) in
    let is : d ≡ joined_detail before (held_detail s held constness) = some-is d (joined_detail before (held_detail s held constness)) (sym at ∙ (ap (λ (x : ℕ). detail_at t x i) same ∙ admits)) in
    let rep : d.rep ≡ join_of before.rep (held_rep held) = ap (λ (x : Detail). x.rep) is ∙ ap (join_of before.rep) (rep-asked s held constness) in
    subst (λ (r : Rep). IsTrue (in_place_of r (join_of r (held_rep held)))) (sym rep) (join-again before.rep (held_rep held))

-- what stands at the place of a store
module _ (gates : GatesAreOpen) (v : View) (kept : List (Option Dictionary)) (null : Option ℕ) (h : IsObjects v kept null) (o : ℕ) (there : o < length kept) (fast : kept_of kept o ≡ None) (i : ℕ) (held : Held)
    (kind : kind_at (props_at (world v.trail kept) o) i ≡ Some (kind_of held)) where
  abbrev so : HasMap v.trail o
  so = has-map v kept null h o there fast

  kind-here : kind_at (fast_props v.trail o so.map) i ≡ Some (kind_of held)
  kind-here = ap (λ (ps : List Prop). kind_at ps i) (sym (props-are v kept null h o there fast)) ∙ kind

  within : i < count_of v.trail so.map
  within = place-fast v.trail o so.map i (kind_of held) kind-here

  property-is : slice_get (props_at (world v.trail kept) o) i ≡ Some (prop_in v.trail o so.map i)
  property-is = ap (λ (ps : List Prop). slice_get ps i) (props-are v kept null h o there fast) ∙ slice_get-listed (prop_in v.trail o so.map) (count_of v.trail so.map) i within

  opened : IsSomeAnd (gate_in v.trail so.map) (λ g. i < g.entries)
  opened = by (gate_in v.trail so.map) refl
    where
      by : (g : Option GateWord) → gate_in v.trail so.map ≡ g → IsSomeAnd g (λ x. i < x.entries)
      by (Some g) e = subst (λ (x : Option GateWord). i < entries_in x) e within
      by None e = let n : None ≡ Some so.gate = sym e ∙ so.fast.is_open in let f : ⊥ = cc in absurd f

  entry : EntryIs v.trail so.map i
  entry = entry-is gates v so.map i h.heap opened

  key-here : key_at v.trail so.map i ≡ Some entry.key
  key-here = ap (λ (b : Option ℕ). key_from v.trail b i) entry.is_base ∙ entry.is_key

  held-here : (d : Detail) → detail_at v.trail so.map i ≡ Some d → (prop_in v.trail o so.map i).held ≡ held_in (kind_of held) d.rep (slot_word v.trail o i)
  held-here d admits =
      let prop : prop_in v.trail o so.map i ≡ prop_of (Some entry.key) (Some d) (slot_word v.trail o i) =
      ap (λ (y : Option Key). prop_of y (detail_at v.trail so.map i) (slot_word v.trail o i)) key-here ∙ ap (λ (y : Option Detail). prop_of (Some entry.key) y (slot_word v.trail o i)) admits in
      ap (λ (p : Prop). p.held) prop ∙ ap (λ (k : Kind). held_in k d.rep (slot_word v.trail o i)) (kind-fast v.trail o so.map i (kind_of held) entry.key d key-here admits kind-here)

  -- the constness that the word of the slot asks for is that which the property does
  pub right-here : (m : ℕ) (d : Detail) (constness : Constness) → map_in v.trail o ≡ Some m → detail_at v.trail m i ≡ Some d → IsConstnessFor d.constness (held_in (kind_of held) d.rep (slot_word v.trail o i)) held constness
      → IsConstnessFor d.constness (prop_in v.trail o so.map i).held held constness
  right-here m d constness has admits right =
      let same : m ≡ so.map = some-is m so.map (sym has ∙ so.is_map) in
      subst (λ (y : Held). IsConstnessFor d.constness y held constness) (sym (held-here d (ap (λ (x : ℕ). detail_at v.trail x i) (sym same) ∙ admits))) right

pub asked-for : GatesAreOpen → {P : Type 0} (a : ObjectsState P) → IsObjects a.heap.view a.kept a.of_null → (o m i : ℕ) → o < length a.kept → kept_of a.kept o ≡ None → (held : Held) → kind_at (props_at (world a.heap.view.trail a.kept) o) i ≡ Some (kind_of held) → (before : Detail) (constness : Constness)
    → map_in a.heap.view.trail o ≡ Some m → detail_at a.heap.view.trail m i ≡ Some before → IsConstnessFor before.constness (held_in (kind_of held) before.rep (slot_word a.heap.view.trail o i)) held constness → IsAskedFor a o m i held (held_detail a.heap.view.trail held constness)
asked-for gates {P} a h o m i there fast held kind before constness has admits right = record {
  before = before;
  admitted = admits;
  was = prop_in a.heap.view.trail o (has-map a.heap.view a.kept a.of_null h o there fast).map i;
  property = property-is gates a.heap.view a.kept a.of_null h o there fast i held kind;
  constness = constness;
  right = right-here gates a.heap.view a.kept a.of_null h o there fast i held kind m before constness has admits right;
  asked = refl;
}

-- the place of a property is one of the map's entries
pub entry-of : (v : View) (kept : List (Option Dictionary)) (null : Option ℕ) → IsObjects v kept null → (o : ℕ) → o < length kept → kept_of kept o ≡ None → (i : ℕ) (held : Held) → kind_at (props_at (world v.trail kept) o) i ≡ Some (kind_of held) → (m : ℕ) → map_in v.trail o ≡ Some m → IsSomeAnd (gate_in v.trail m) (λ g. i < g.entries)
entry-of v kept null h o there fast i held kind m has =
    let so : HasMap v.trail o = has-map v kept null h o there fast in
    let here : kind_at (fast_props v.trail o so.map) i ≡ Some (kind_of held) = ap (λ (ps : List Prop). kind_at ps i) (sym (props-are v kept null h o there fast)) ∙ kind in
    let lt : i < so.gate.entries = subst (λ (g : Option GateWord). i < entries_in g) so.fast.is_open (place-fast v.trail o so.map i (kind_of held) here) in
    subst (λ (x : ℕ). IsSomeAnd (gate_in v.trail x) (λ g. i < g.entries)) (some-is so.map m (sym so.is_map ∙ has))
    (subst (λ (g : Option GateWord). IsSomeAnd g (λ x. i < x.entries)) (sym so.fast.is_open) lt)

-- what is wanted at the place that is generalised
pub wanted-here : (t : Trail) (m i : ℕ) (d before : Detail) → detail_at t m i ≡ Some before → generalised_at t m i d i ≡ Some (joined_detail before d)
wanted-here t m i d before is =
    ap (λ (b : Bool). cond b (both_details (detail_at t m i) (Some d)) (detail_at t m i)) (eq-eqb i i refl)
    ∙ ap (λ (x : Option Detail). both_details x (Some d)) is
