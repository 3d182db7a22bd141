-- A store to a property of a fast object, after its field was asked: what holds of the objects.
use Rattle.std.proofs.Common.{◌≡◌, ◌∙◌, ℕ, ◌+◌, ◌<◌, List, Option, Some, None, length, refl, ap, sym, subst}
use Rattle.std.specs.Prelude.{IsSomeAnd}
use Rattle.hc_value.specs.Prop.{kind_of}
use Rattle.hc_value.specs.declared.field.Detail.{Detail}
use Rattle.hc_value.specs.declared.field.Rep.{Rep}
use Rattle.hc_value.specs.declared.prop.Held.{Held}
use Rattle.hc_heap.specs.Kept.{Adds, FormsAreKept}
use Rattle.hc_heap.specs.Lawful.{IsFormOf}
use Rattle.hc_facts.specs.Laws.{HonestAfter, KeptIsCarried, StoredIsGiven, StoringKeepsConstants}
use Rattle.hc_heap.specs.Readings.{bits_in, map_in, root_in, store_in}
use Rattle.hc_heap.specs.States.{View, IsHeap, with_write}
use Rattle.hc_heap.specs.Writes.{Slot}
use Rattle.hc_fields.specs.Fields.{raised}
use Rattle.hc_tree.specs.Details.{WritesDetails}
use Rattle.hc_tree.specs.Tree.{IsTree}
use Rattle.hc_table.specs.Changes.{kind_at}
use Rattle.hc_table.specs.Ranges.{IsHeldInRange}
use Rattle.hc_table.specs.World.{World, props_at, with_written}
use Rattle.hc_slots.specs.Meaning.{Dictionary, held_in}
use Rattle.hc_modes.specs.Admitting.{FactsStay, HasRep, IsAsked, IsStored, held_detail}
use Rattle.hc_modes.specs.Cells.{CellsStay}
use Rattle.hc_modes.specs.Changes.{Changed}
use Rattle.hc_modes.specs.Details.{DetailsAre, DetailsFirst, WroteGets}
use Rattle.hc_modes.specs.Meaning.{kept_of, world}
use Rattle.hc_modes.specs.State.{IsObjects}
use Rattle.hc_modes.proofs.Admitted.{admit-changed, admit-sound, admit-world, admitted-bits, admitted-maps, admitted-owns, admitted-roots, raised-writes}
use Rattle.hc_modes.proofs.Marking.{cells-kept}
use Rattle.hc_modes.proofs.Stores.{store-details, store-facts}
use Rattle.hc_modes.proofs.Touching.{changed-on}
use Rattle.hc_modes.proofs.Writing.{Laws, slot-there, write-changed, write-sound, write-world}

stored-by : (old new : View) (o i w : ℕ) (held : Held) (rep : Rep) → held_in (kind_of held) rep w ≡ held → ((x : ℕ) → IsFormOf (kind_of held) rep x → held_in (kind_of held) rep x ≡ held → x ≡ w)
    → (first : Option ℕ) → (store_in old.trail o).first ≡ first → IsSomeAnd first (λ y. new ≡ with_write old (Slot (y + i) w)) → IsStored old new o i held rep
stored-by old new o i w held rep holds alone (Some y) is e = record { word = w; first = y; is_first = is; view = e; holds = holds; alone = alone }
stored-by old new o i w held rep holds alone None is e = absurd e

-- the property holds it now
pub record IsWritten (v x : View) (kept : List (Option Dictionary)) (null : Option ℕ) (o i : ℕ) (held : Held) : Type 0 where
  pub world_is : world x.trail kept ≡ with_written (world v.trail kept) o i held
  pub shape : x.shape ≡ v.shape
  pub used : x.used ≡ v.used
  pub sound : IsObjects x kept null
  pub roots : (q : ℕ) → root_in x.trail q ≡ root_in v.trail q
  pub bits : (m : ℕ) → bits_in x.trail m ≡ bits_in v.trail m
  pub maps : (q : ℕ) → map_in x.trail q ≡ map_in v.trail q
  pub cells : CellsStay v.trail x.trail
  pub details : DetailsAre (WroteGets v.trail kept o i held) v.trail x.trail
  pub order : DetailsFirst v.trail x.trail
  pub facts : HonestAfter → KeptIsCarried → StoredIsGiven → StoringKeepsConstants → FactsStay v.shape v.trail x.trail

module _ (laws : Laws) (v w : View) (kept : List (Option Dictionary)) (null : Option ℕ) (h : IsObjects v kept null) (o : ℕ) (there : o < length kept) (fast : kept_of kept o ≡ None) (i : ℕ) (held : Held)
    (kind : kind_at (props_at (world v.trail kept) o) i ≡ Some (kind_of held)) (it : IsAsked v w o i held) (tree : IsTree w.trail) (heap : IsHeap w) where
  abbrev asks : Detail
  asks = held_detail v.trail held it.constness

  abbrev then : View
  then = record v { trail = raised v.trail it.admitted.field (held_detail v.trail held it.constness) }

  then-tree : IsTree (raised v.trail it.admitted.field (held_detail v.trail held it.constness))
  then-tree = subst (λ (x : View). IsTree x.trail) it.admitted.view tree

  then-heap : IsHeap (record v { trail = raised v.trail it.admitted.field (held_detail v.trail held it.constness) })
  then-heap = subst IsHeap it.admitted.view heap

  pub asked-sound : IsObjects w kept null
  asked-sound = subst (λ (x : View). IsObjects x kept null) (sym it.admitted.view) (admit-sound laws.maps laws.details laws.unused v kept null h o there fast it.admitted.field asks then-tree then-heap)

  asked-world : world w.trail kept ≡ world v.trail kept
  asked-world = ap (λ (x : View). world x.trail kept) it.admitted.view ∙ admit-world laws.maps laws.details laws.unused v kept null h o there fast it.admitted.field asks then-tree then-heap

  asked-changed : Changed v w o
  asked-changed = subst (λ (x : View). Changed v x o) (sym it.admitted.view) (admit-changed laws.maps laws.details laws.unused v kept null h o there fast it.admitted.field asks then-tree then-heap)

  asked-kind : kind_at (props_at (world w.trail kept) o) i ≡ Some (kind_of held)
  asked-kind = subst (λ (x : World). kind_at (props_at x o) i ≡ Some (kind_of held)) (sym asked-world) kind

  pub asked-slot : i < (store_in w.trail o).capacity
  asked-slot = slot-there laws w kept null asked-sound o there fast i held asked-kind

  pub is-written : FormsAreKept → IsHeldInRange held → (x : View) (rep : Rep) → HasRep w.trail o i rep → (word : ℕ) → IsFormOf (kind_of held) rep word → held_in (kind_of held) rep word ≡ held
      → ((y : ℕ) → IsFormOf (kind_of held) rep y → held_in (kind_of held) rep y ≡ held → y ≡ word) → IsSomeAnd (store_in w.trail o).first (λ first. x ≡ with_write w (Slot (first + i) word)) → IsHeap x → IsWritten v x kept null o i held
  is-written forms range x rep has word form holds alone stores after =
      let st : IsStored w x o i held rep = stored-by w x o i word held rep holds alone (store_in w.trail o).first refl stores in
      let changed : Changed v x o = changed-on v w x o asked-changed (admitted-owns v w o i held it.constness it.admitted) (write-changed laws w kept null asked-sound o there fast i held asked-kind rep has word form holds x stores after) in
      record {
        world_is = write-world laws w kept null asked-sound o there fast i held asked-kind rep has word form holds x stores after ∙ ap (λ (y : World). with_written y o i held) asked-world;
        shape = ap (λ (y : View). y.shape) st.view ∙ ap (λ (y : View). y.shape) it.admitted.view;
        used = ap (λ (y : View). y.used) st.view ∙ ap (λ (y : View). y.used) it.admitted.view;
        sound = write-sound laws w kept null asked-sound o there fast i held asked-kind rep has word form holds range x (ap (λ (y : View). y.used.objects) st.view) stores after;
        roots = λ q. ap (λ (y : View). root_in y.trail q) st.view ∙ admitted-roots v w o i held it.constness it.admitted q;
        bits = λ m. ap (λ (y : View). bits_in y.trail m) st.view ∙ admitted-bits v w o i held it.constness it.admitted m;
        maps = λ q. ap (λ (y : View). map_in y.trail q) st.view ∙ admitted-maps v w o i held it.constness it.admitted q;
        cells = cells-kept v x o changed;
        details = store-details laws.maps laws.details forms v w x kept null h o there fast i held kind it rep has st changed;
        order = record {
          before = w.trail;
          slot = st.first + i;
          word = st.word;
          details = subst (λ (y : View). Adds WritesDetails v.trail y.trail) (sym it.admitted.view) (raised-writes v.trail it.admitted.field asks);
          last = ap (λ (y : View). y.trail) st.view;
        };
        facts = store-facts laws.maps laws.details forms v w x kept null h o there fast i held kind it rep has st changed;
      }
