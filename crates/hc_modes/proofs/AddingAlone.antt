-- A fast object that is or was a prototype gets one property more: what that asks, and what becomes of the objects.
use Rattle.std.proofs.Common.{◌≡◌, ℕ, ◌<◌, Bool, true, false, List, [], ◌∷◌, ◌++◌, Option, Some, None, length, set, refl, sym, ◌∙◌, subst}
use Rattle.std.specs.Prelude.{IsTrue}
use Rattle.hc_layout.specs.declared.capacity.TheConstants.{MAX_FAST}
use Rattle.hc_layout.specs.declared.words.GateWord.{GateWord}
use Rattle.hc_layout.specs.declared.words.RootWord.{RootWord}
use Rattle.hc_value.specs.declared.prop.Prop.{Prop}
use Rattle.hc_heap.specs.Readings.{gate_in, map_in, root_in}
use Rattle.hc_heap.specs.Kept.{DetailsRise, UnusedSaysNothing}
use Rattle.hc_heap.specs.States.{View}
use Rattle.hc_descs.specs.Entries.{LacksName}
use Rattle.hc_tree.specs.Kept.{MapsAreKept, TreesStay}
use Rattle.hc_table.specs.Attributes.{IsProper}
use Rattle.hc_table.specs.Changes.{Added}
use Rattle.hc_table.specs.Kept.{ChangesKeep}
use Rattle.hc_table.specs.World.{Object, object, place_of, props_at, with_added, with_list}
use Rattle.hc_modes.specs.Came.{world_of}
use Rattle.hc_modes.specs.Changes.{Stepped, key_of}
use Rattle.hc_slots.specs.Meaning.{Dictionary}
use Rattle.hc_modes.specs.Meaning.{kept_of, world}
use Rattle.hc_modes.specs.Privates.{IsGrownAlone}
use Rattle.hc_slots.specs.Fast.{HasMap}
use Rattle.hc_modes.specs.State.{IsObjects, ObjectsState, tables_of}
use Rattle.hc_modes.proofs.Adding.{few-entries, gate-is, lacks-name, map-is}
use Rattle.hc_modes.proofs.Alike.{new-alone}
use Rattle.hc_modes.proofs.Linking.{call-fast, call-gate, call-private, call-there}
use Rattle.hc_modes.proofs.Operations.{grown-step}
use Rattle.hc_modes.proofs.Stepping.{set-same, stepped-sound, stepped-world}
use Rattle.hc_modes.proofs.Writing.{has-map, is-fast}

-- a map has room for one entry more, of a name that it lacks
pub record MayTake (v : View) (m n name : ℕ) : Type 0 where
  pub few : n < MAX_FAST
  pub lacks : LacksName v.trail m n name

module _ (v : View) (kept : List (Option Dictionary)) (of_null : Option ℕ) (h : IsObjects v kept of_null) (o : ℕ) (there : o < length kept) (fast : kept_of kept o ≡ None) where
  abbrev so : HasMap v.trail o
  so = has-map v kept of_null h o there fast

  -- its map and gate were read
  pub may-take : (w : View) (m : ℕ) (g : GateWord) (name : ℕ) → w ≡ v → map_in v.trail o ≡ Some m → gate_in v.trail m ≡ Some g
      → length (props_at (world v.trail kept) o) < MAX_FAST → place_of (props_at (world v.trail kept) o) name ≡ None → MayTake w m g.entries name
  may-take w m g name read is gate few absent =
      let here : MayTake v so.map so.gate.entries name = record { few = few-entries v kept of_null h o there fast few; lacks = lacks-name v kept of_null h o there fast name absent } in
      subst (λ (x : View). MayTake x m g.entries name) (sym read)
      (subst (λ (x : GateWord). MayTake v m x.entries name) (gate-is v kept of_null h o there fast g m is gate)
      (subst (λ (x : ℕ). MayTake v x so.gate.entries name) (map-is v kept of_null h o there fast m is) here))

  -- the object came to a copy of its map that has one entry more
  module _ (private : IsTrue (root_in v.trail o).is_proto) (maps : MapsAreKept) (details : DetailsRise) (trees : TreesStay) (unused : UnusedSaysNothing) (x : View) (p : Prop) (grown : IsGrownAlone v x o so.map so.gate.entries p) where
    step : Stepped v x None o (with_list (object (world v.trail kept) o) (props_at (world v.trail kept) o ++ p ∷ []))
    step =
        let own : IsTrue (root_in x.trail o).is_proto = subst (λ (r : RootWord). IsTrue r.is_proto) (sym (grown.roots o)) private in
        subst (λ (y : Object). Stepped v x None o (with_list y (y.props ++ p ∷ []))) (sym (is-fast v kept of_null h o there fast))
        (grown-step maps details trees unused v kept of_null h o so x v.used.maps (key_of p) grown.detail p.held grown.changed grown.opens
        (h.tree.maps so.map so.gate so.fast.is_open).unlocked grown.grown grown.moved (grown.private ∙ sym own) grown.room grown.words
        grown.form grown.holds grown.store grown.owns
        (new-alone maps details unused v kept of_null h o x grown.moved))

    same-kept : set kept o None ≡ kept
    same-kept = set-same kept o None there fast

    -- the world has the property
    pub alone-world : world x.trail kept ≡ with_added (world v.trail kept) o p
    alone-world = subst (λ (ks : List (Option Dictionary)). world x.trail ks ≡ with_added (world v.trail kept) o p) same-kept
        (stepped-world maps details v x kept of_null h None o (with_list (object (world v.trail kept) o) (props_at (world v.trail kept) o ++ p ∷ [])) there step)

    -- what holds of objects holds again
    pub alone-sound : ChangesKeep → place_of (props_at (world v.trail kept) o) p.name ≡ None → IsProper p → IsObjects x kept of_null
    alone-sound keeps absent proper = subst (λ (ks : List (Option Dictionary)). IsObjects x ks of_null) same-kept
        (stepped-sound maps details v x kept of_null h None o (with_list (object (world v.trail kept) o) (props_at (world v.trail kept) o ++ p ∷ [])) there step grown.objects
        (keeps (tables_of v kept) (Added o p) h.sound (absent, proper)))

-- a call that adds a property: the object's map and gate were read, and the object grew, or there was no room
module _ {P : Type 0} (a b : ObjectsState P) (o : ℕ) (same : a ≡ b) (h : IsObjects a.heap.view a.kept a.of_null) (object : o < length (world_of b)) (fast : kept_of b.kept o ≡ None) (private : IsTrue (root_in b.heap.view.trail o).is_proto)
    (w y : View) (m : ℕ) (g : GateWord) (read : w ≡ a.heap.view) (again : y ≡ w) (is : map_in a.heap.view.trail o ≡ Some m) (gate : gate_in w.trail m ≡ Some g) (p : Prop) where
  there : o < length a.kept
  there = call-there a b o same h object fast private w y m g read again is gate

  fast-there : kept_of a.kept o ≡ None
  fast-there = call-fast a b o same h object fast private w y m g read again is gate

  gate-there : gate_in a.heap.view.trail m ≡ Some g
  gate-there = call-gate a b o same h object fast private w y m g read again is gate

  absent-there : place_of (props_at (world_of b) o) p.name ≡ None → place_of (props_at (world a.heap.view.trail a.kept) o) p.name ≡ None
  absent-there absent = subst (λ (s : ObjectsState P). place_of (props_at (world_of s) o) p.name ≡ None) (sym same) absent

  pub call-may-take : length (props_at (world_of b) o) < MAX_FAST → place_of (props_at (world_of b) o) p.name ≡ None → MayTake y m g.entries p.name
  call-may-take few absent = may-take a.heap.view a.kept a.of_null h o there fast-there y m g p.name (again ∙ read) is gate-there
      (subst (λ (s : ObjectsState P). length (props_at (world_of s) o) < MAX_FAST) (sym same) few) (absent-there absent)

  module _ (maps : MapsAreKept) (details : DetailsRise) (trees : TreesStay) (unused : UnusedSaysNothing) (x : View) where
    grown-here : IsGrownAlone y x o m g.entries p → IsGrownAlone a.heap.view x o (has-map a.heap.view a.kept a.of_null h o there fast-there).map (has-map a.heap.view a.kept a.of_null h o there fast-there).gate.entries p
    grown-here grown =
        subst (λ (z : GateWord). IsGrownAlone a.heap.view x o (has-map a.heap.view a.kept a.of_null h o there fast-there).map z.entries p) (sym (gate-is a.heap.view a.kept a.of_null h o there fast-there g m is gate-there))
        (subst (λ (z : ℕ). IsGrownAlone a.heap.view x o z g.entries p) (sym (map-is a.heap.view a.kept a.of_null h o there fast-there m is))
        (subst (λ (z : View). IsGrownAlone z x o m g.entries p) (again ∙ read) grown))

    pub call-alone-sound : ChangesKeep → place_of (props_at (world_of b) o) p.name ≡ None → IsProper p → (done : Bool) → (IsTrue done → IsGrownAlone y x o m g.entries p) → (done ≡ false → x ≡ y) → IsObjects x a.kept a.of_null
    call-alone-sound keeps absent proper true grown still = alone-sound a.heap.view a.kept a.of_null h o there fast-there (call-private a b o same h object fast private w y m g read again is gate) maps details trees unused x p (grown-here (grown refl)) keeps (absent-there absent) proper
    call-alone-sound keeps absent proper false grown still = subst (λ (v : View). IsObjects v a.kept a.of_null) (sym (still refl ∙ again ∙ read)) h

    pub call-alone-world : IsGrownAlone y x o m g.entries p → world x.trail a.kept ≡ with_added (world a.heap.view.trail a.kept) o p
    call-alone-world grown = alone-world a.heap.view a.kept a.of_null h o there fast-there (call-private a b o same h object fast private w y m g read again is gate) maps details trees unused x p (grown-here grown)
