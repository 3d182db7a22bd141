-- A write to a property of a fast object, as what objects are before and after it.
use Rattle.std.proofs.Common.{◌≡◌, ℕ, ◌+◌, ◌<◌, List, Option, Some, None, length, set, refl, sym, ap, ◌∙◌, subst, arith}
use Rattle.std.specs.Prelude.{IsSomeAnd}
use Rattle.hc_value.specs.Prop.{kind_of}
use Rattle.hc_value.specs.declared.field.Rep.{Rep}
use Rattle.hc_value.specs.declared.prop.Held.{Held}
use Rattle.hc_value.specs.declared.prop.Kind.{Kind}
use Rattle.hc_heap.specs.Writes.{Slot}
use Rattle.hc_heap.specs.Readings.{store_in}
use Rattle.hc_heap.specs.Lawful.{IsFormOf, key_from, field_from}
use Rattle.hc_heap.specs.Kept.{DetailsRise, GatesAreOpen, UnusedSaysNothing}
use Rattle.hc_heap.specs.States.{View, IsHeap, with_write}
use Rattle.hc_descs.specs.Entries.{key_at, field_at, entries_in, count_of, detail_of, detail_at}
use Rattle.hc_tree.specs.Kept.{MapsAreKept, TreesStay}
use Rattle.hc_table.specs.Changes.{Wrote, kind_at}
use Rattle.hc_table.specs.Ranges.{IsHeldInRange}
use Rattle.hc_table.specs.Kept.{IsKept, ChangesKeep, with_world}
use Rattle.hc_table.specs.World.{Object, World, object, props_at, with_list, held_at, with_written}
use Rattle.hc_slots.specs.Meaning.{Dictionary, held_in, fast_object, fast_props}
use Rattle.hc_modes.specs.Meaning.{kept_of, world}
use Rattle.hc_slots.specs.Fast.{HasMap}
use Rattle.hc_modes.specs.State.{IsKeptSo, IsObjects, tables_of}
use Rattle.hc_modes.specs.Changes.{Changed, Stepped}
use Rattle.hc_slots.specs.Entries.{EntryIs, entry-is}
use Rattle.hc_modes.proofs.Places.{place-fast, kind-fast}
use Rattle.hc_modes.proofs.Operations.{object-fast, written-step}
use Rattle.hc_modes.specs.Admitting.{HasRep}
use Rattle.hc_modes.proofs.Fitting.{rep-at}
use Rattle.hc_modes.proofs.Stepping.{stepped-world, stepped-sound, set-same}

-- a fast object has a map, which says what it is
module _ (old : View) (kept : List (Option Dictionary)) (of_null : Option ℕ) (h : IsObjects old kept of_null) (o : ℕ) (there : o < length kept) (fast : kept_of kept o ≡ None) where
  pub has-map : HasMap old.trail o
  has-map = subst (λ (i : Option Dictionary). IsKeptSo old.trail o i) fast (h.each o there)

  pub is-fast : object (world old.trail kept) o ≡ fast_object old.trail o has-map.map
  is-fast = object-fast old.trail kept o has-map.map there fast has-map.is_map

  pub props-are : props_at (world old.trail kept) o ≡ fast_props old.trail o has-map.map
  props-are = ap (λ (x : Object). x.props) is-fast

  pub count-is : count_of old.trail has-map.map ≡ has-map.gate.entries
  count-is = ap entries_in has-map.fast.is_open

-- the laws that are used here
pub record Laws : Type 0 where
  pub maps : MapsAreKept
  pub details : DetailsRise
  pub trees : TreesStay
  pub unused : UnusedSaysNothing
  pub gates : GatesAreOpen
  pub changes : ChangesKeep

module _ (laws : Laws) (old : View) (kept : List (Option Dictionary)) (of_null : Option ℕ) (h : IsObjects old kept of_null) (o : ℕ) (there : o < length kept) (fast : kept_of kept o ≡ None) where
  abbrev so : HasMap old.trail o
  so = has-map old kept of_null h o there fast

  is_so : object (world old.trail kept) o ≡ fast_object old.trail o so.map
  is_so = is-fast old kept of_null h o there fast

  module _ (i : ℕ) (held : Held) (kind : kind_at (props_at (world old.trail kept) o) i ≡ Some (kind_of held)) where
    kind-here : kind_at (fast_props old.trail o so.map) i ≡ Some (kind_of held)
    kind-here = ap (λ (x : Object). kind_at x.props i) (sym is_so) ∙ kind

    place : i < so.gate.entries
    place = subst (λ (n : ℕ). i < n) (ap entries_in so.fast.is_open) (place-fast old.trail o so.map i (kind_of held) kind-here)

    pub slot-there : i < (store_in old.trail o).capacity
    slot-there = omega (arith, place, so.fast.holds.capacity)

    entry : EntryIs old.trail so.map i
    entry = entry-is laws.gates old so.map i h.heap (subst (λ g. IsSomeAnd g (λ x. i < x.entries)) (sym so.fast.is_open) place)

    key-here : key_at old.trail so.map i ≡ Some entry.key
    key-here = ap (λ (b : Option ℕ). key_from old.trail b i) entry.is_base ∙ entry.is_key

    field-here : field_at old.trail so.map i ≡ Some entry.field
    field-here = ap (λ (b : Option ℕ). field_from old.trail b i) entry.is_base ∙ entry.is_field

    admits-so : detail_at old.trail so.map i ≡ Some entry.detail
    admits-so = ap (detail_of old.trail) field-here ∙ entry.admits

    kinds : entry.key.kind ≡ kind_of held
    kinds = kind-fast old.trail o so.map i (kind_of held) entry.key entry.detail key-here admits-so kind-here

    module _ (rep : Rep) (has : HasRep old.trail o i rep) (word : ℕ) (form : IsFormOf (kind_of held) rep word) (holds : held_in (kind_of held) rep word ≡ held) where
      rep-is : entry.detail.rep ≡ rep
      rep-is = rep-at old.trail o so.map i rep entry.detail has so.is_map admits-so

      step-by : (new : View) (first : ℕ) → (store_in old.trail o).first ≡ Some first → new ≡ with_write old (Slot (first + i) word) → IsHeap new
          → Stepped old new None o (with_list (fast_object old.trail o so.map) (held_at (fast_props old.trail o so.map) i held))
      step-by new first is e heap =
          let x : Object = with_list (fast_object old.trail o so.map) (held_at (fast_props old.trail o so.map) i held) in
          subst (λ (v : View). Stepped old v None o x) (sym e)
          (written-step laws.maps laws.details laws.trees laws.unused old kept of_null h o so i first word entry.key entry.detail held (subst IsHeap e heap) place is key-here admits-so
          (subst (λ (r : Rep). IsFormOf entry.key.kind r word) (sym rep-is) (subst (λ (k : Kind). IsFormOf k rep word) (sym kinds) form))
          (ap (λ (r : Rep). held_in entry.key.kind r word) rep-is ∙ subst (λ (k : Kind). held_in k rep word ≡ held) (sym kinds) holds))

      pub write-steps : (new : View) → IsSomeAnd (store_in old.trail o).first (λ first. new ≡ with_write old (Slot (first + i) word)) → IsHeap new
          → Stepped old new None o (with_list (fast_object old.trail o so.map) (held_at (fast_props old.trail o so.map) i held))
      write-steps new e heap = by (store_in old.trail o).first refl e
        where
          by : (first : Option ℕ) → (store_in old.trail o).first ≡ first → IsSomeAnd first (λ x. new ≡ with_write old (Slot (x + i) word))
              → Stepped old new None o (with_list (fast_object old.trail o so.map) (held_at (fast_props old.trail o so.map) i held))
          by (Some first) is e = step-by new first is e heap
          by None is e = absurd e

      -- the world is the one where the property holds something else
      pub write-world : (new : View) → IsSomeAnd (store_in old.trail o).first (λ first. new ≡ with_write old (Slot (first + i) word)) → IsHeap new → world new.trail kept ≡ with_written (world old.trail kept) o i held
      write-world new e heap =
          let x : Object = with_list (fast_object old.trail o so.map) (held_at (fast_props old.trail o so.map) i held) in
          ap (world new.trail) (sym (set-same kept o None there fast))
          ∙ stepped-world laws.maps laws.details old new kept of_null h None o x there (write-steps new e heap)
          ∙ ap (λ (y : Object). set (world old.trail kept) o (with_list y (held_at y.props i held))) (sym is_so)

      -- and what holds of objects holds
      pub write-sound : IsHeldInRange held → (new : View) → new.used.objects ≡ old.used.objects → IsSomeAnd (store_in old.trail o).first (λ first. new ≡ with_write old (Slot (first + i) word)) → IsHeap new → IsObjects new kept of_null
      write-sound range new same e heap =
          let x : Object = with_list (fast_object old.trail o so.map) (held_at (fast_props old.trail o so.map) i held) in
          subst (λ (k : List (Option Dictionary)). IsObjects new k of_null) (set-same kept o None there fast)
          (stepped-sound laws.maps laws.details old new kept of_null h None o x there (write-steps new e heap) same
          (subst (λ (w : World). IsKept (with_world (tables_of old kept) w))
          (ap (λ (y : Object). set (world old.trail kept) o (with_list y (held_at y.props i held))) is_so)
          (laws.changes (tables_of old kept) (Wrote o i held) h.sound (kind, range))))

      pub write-changed : (new : View) → IsSomeAnd (store_in old.trail o).first (λ first. new ≡ with_write old (Slot (first + i) word)) → IsHeap new → Changed old new o
      write-changed new e heap = (write-steps new e heap).changed
