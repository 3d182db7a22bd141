-- An object with a private map gets one property more: it comes to a copy of the map that has one entry more.
use Rattle.hc_tree.specs.Details.{NoMap}
use Rattle.std.proofs.Common.{◌≡◌, ℕ, ◌+◌, ◌<◌, ◌≤◌, Bool, true, false, cond, Option, Some, None, IfSome, refl, sym, ap, ◌∙◌, subst, arith, eq-eqb, true≢false}
use Rattle.std.specs.Prelude.{IsSomeAnd, IsTrue}
use Rattle.hc_layout.specs.declared.shape.Region.TheVariants.{Slots}
use Rattle.hc_layout.specs.declared.shape.Shape.{Shape}
use Rattle.hc_layout.specs.declared.words.GateWord.{GateWord}
use Rattle.hc_layout.specs.declared.words.MapBits.{MapBits}
use Rattle.hc_layout.specs.declared.words.StoreWord.{StoreWord}
use Rattle.hc_value.specs.Prop.{kind_of}
use Rattle.hc_value.specs.declared.prop.Prop.{Prop}
use Rattle.hc_heap.specs.Writes.{Write, Trail, ObjectMap}
use Rattle.hc_heap.specs.Readings.{bits_in, detail_in, gate_in, map_in, parent_in, prototype_in, root_in, store_in}
use Rattle.hc_heap.specs.Lawful.{HoldsEntries, IsFormOf, Lawful, LawfulObjectMap}
use Rattle.hc_heap.specs.Kept.{Adds, DetailsRise, FormsAreKept, GoesOn, UnusedSaysNothing}
use Rattle.hc_heap.specs.Frames.{adds-on, adds-one, adds-wider, goes-on-of, same-after}
use Rattle.hc_heap.specs.States.{View, HasRoom, IsHeap, with_write}
use Rattle.hc_descs.specs.Entries.{detail_at, entries_in}
use Rattle.hc_value.specs.Field.{is_detail_within}
use Rattle.hc_value.specs.declared.field.Constness.TheVariants.{Const}
use Rattle.hc_modes.specs.Admitting.{held_detail}
use Rattle.hc_modes.proofs.Asked.{detail-same}
use Rattle.hc_tree.specs.Copying.{IsPrivateCopy, copy_need}
use Rattle.hc_tree.specs.Growth.{MayBePrototype}
use Rattle.hc_tree.specs.Kept.{MapsAreKept, TreeIsSame, TreesStay}
use Rattle.hc_tree.specs.Needs.{HasSpace, with_need}
use Rattle.hc_tree.specs.Tree.{gate_with}
use Rattle.hc_modes.specs.Changes.{Changed, IsGrown, OpensNoRoot, Touches, key_of}
use Rattle.hc_slots.specs.Slots.{SlotsStay, FillsStore, IsFitted, slots_need, AreHandedOut}
use Rattle.hc_slots.specs.Meaning.{held_in, slot_word}
use Rattle.hc_modes.specs.Modes.{IsWithin}
use Rattle.hc_modes.specs.Privates.{IsCopied, IsGrownAlone, private_need}
use Rattle.hc_slots.specs.Fast.{IsFast}
use Rattle.hc_modes.proofs.Copied.{copy-changed, copy-later, copy-opens, copy-owns, copy-there, map-same, objects-same, root-same, slots-same, store-same, word-same}
use Rattle.hc_modes.proofs.Creating.{proto-none}
use Rattle.hc_modes.proofs.Holding.{holds-grown}
use Rattle.hc_modes.proofs.Marking.{fills-at}
use Rattle.hc_modes.proofs.Owning.{open-used}
use Rattle.hc_value.specs.declared.field.Detail.{Detail}
use Rattle.hc_modes.proofs.Joining.{bits-by, detail-by, grown-later, map-by, root-by, touches-by, tree-by}
use Rattle.hc_slots.specs.Cases.{some-of, some-is}
use Rattle.hc_modes.proofs.Sparing.{kept-after}
use Rattle.hc_modes.proofs.Staying.{IsLater, later}
use Rattle.hc_modes.proofs.Steps.{grown-copy}
use Rattle.hc_modes.proofs.Touching.{changed-on, map-moved}

-- the prototype of a map is an object that is there, and is or was a prototype
pub may-be-prototype : FormsAreKept → UnusedSaysNothing → (v : View) → IsHeap v → (m : ℕ) (proto : Option ℕ) → prototype_in v.trail m ≡ Some proto → MayBePrototype v.used v.trail proto
may-be-prototype forms unused v heap m None is = tt
may-be-prototype forms unused v heap m (Some q) is =
    let marked : IsTrue (root_in v.trail q).is_proto = ((forms v.shape v.trail heap.lawful).prototype m q is).1 in
    let there : v.used.objects ≤ q → ⊥ = λ le. true≢false (sym marked ∙ proto-none unused v heap q le) in
    (omega (arith, there), marked)

-- maps that are opened before no map is
opens-before : (v w x : View) → OpensNoRoot v.trail w.trail → IsLater w.trail x.trail → ((m : ℕ) → gate_in x.trail m ≡ gate_in w.trail m) → OpensNoRoot v.trail x.trail
opens-before v w x opens after same m g none gate shared parent =
    let before : gate_in w.trail m ≡ Some g = sym (same m) ∙ gate in
    let up = some-of (parent_in w.trail m) (after.maps.opened m g before).parent in
    opens m g none before shared (up.1 ∙ sym (after.maps.written.parent m up.0 up.1) ∙ parent)

-- a copy with one entry more was made
module _ (maps : MapsAreKept) (details : DetailsRise) (trees : TreesStay) (unused : UnusedSaysNothing) (proto : Option ℕ) (v w : View) (o m n : ℕ) (p : Prop) (d : Detail)
    (heap : IsHeap v) (it : IsCopied false (Some (key_of p, d)) proto v w m) (has : map_in v.trail o ≡ Some m) (fast : IsFast v.trail o m (gate_with n true)) (is_proto : prototype_in v.trail m ≡ Some proto) (asked : d ≡ held_detail v.trail p.held Const) where
  after : IsLater v.trail w.trail
  after = copy-later maps details unused false (Some (key_of p, d)) proto v w m heap it

  map-then : map_in w.trail o ≡ map_in v.trail o
  map-then = map-same maps details unused false (Some (key_of p, d)) proto v w m heap it o

  store-then : store_in w.trail o ≡ store_in v.trail o
  store-then = store-same maps details unused false (Some (key_of p, d)) proto v w m heap it o

  slots-then : w.used.slots ≡ v.used.slots
  slots-then = slots-same maps details unused false (Some (key_of p, d)) proto v w m heap it

  pub capacity-then : n ≤ (store_in w.trail o).capacity
  capacity-then = subst (λ (x : StoreWord). n ≤ x.capacity) (sym store-then) fast.holds.capacity

  pub out-then : AreHandedOut v.used.slots (store_in v.trail o) → AreHandedOut w.used.slots (store_in w.trail o)
  out-then out = subst (λ (s : ℕ). AreHandedOut s (store_in w.trail o)) (sym slots-then) (subst (λ (x : StoreWord). AreHandedOut v.used.slots x) (sym store-then) out)

  pub handed-then : o < v.used.objects → o < w.used.objects
  handed-then lt = subst (λ (k : ℕ). o < k) (sym (objects-same maps details unused false (Some (key_of p, d)) proto v w m heap it)) lt

  pub unstable-then : IfSome (map_in w.trail o) (λ k. IsTrue (bits_in w.trail k).unstable)
  unstable-then = subst (λ (y : Option ℕ). IfSome y (λ k. IsTrue (bits_in w.trail k).unstable)) (sym (map-then ∙ has)) it.unstable

  pub room-then : HasSpace v (private_need (key_of p) n (store_in v.trail o).capacity) → HasRoom w Slots (slots_need n (store_in w.trail o).capacity)
  room-then space =
      let room : v.used.slots + slots_need n (store_in v.trail o).capacity ≤ v.shape.slots = omega (arith, space.slots) in
      subst (λ (x : StoreWord). w.used.slots + slots_need n x.capacity ≤ w.shape.slots) (sym store-then)
      (subst (λ (s : ℕ). s + slots_need n (store_in v.trail o).capacity ≤ w.shape.slots) (sym slots-then)
      (subst (λ (s : Shape). v.used.slots + slots_need n (store_in v.trail o).capacity ≤ s.slots) (sym it.shape) room))

  open-then : gate_in w.trail m ≡ Some (gate_with n true)
  open-then = after.maps.written.gate m (gate_with n true) fast.is_open

  copy : IsPrivateCopy false (Some (key_of p, d)) proto w.trail v.used.maps m n v.used.fields
  copy = subst (λ (k : ℕ). IsPrivateCopy false (Some (key_of p, d)) proto w.trail v.used.maps m k v.used.fields) (ap entries_in fast.is_open) it.copy

  used-then : w.used ≡ with_need (copy_need false (Some (key_of p, d)) n) v.used
  used-then = subst (λ (k : ℕ). w.used ≡ with_need (copy_need false (Some (key_of p, d)) k) v.used) (ap entries_in fast.is_open) it.used

  grown-then : IsGrown w.trail m v.used.maps n (key_of p) d
  grown-then = grown-copy w.trail proto m v.used.maps n v.used.fields (key_of p) d (after.maps.written.prototype m proto is_proto) copy

  -- the slot of the property was filled
  module _ (x : View) (word : ℕ) (filled : IsHeap x) (fitted : IsFitted w x o n) (most : x.used.slots ≤ w.used.slots + slots_need n (store_in w.trail o).capacity)
      (last : slot_word x.trail o n ≡ word) (form : IsFormOf (kind_of p.held) d.rep word) (is : held_in (kind_of p.held) d.rep word ≡ p.held) where
    fill-later : IsLater w.trail x.trail
    fill-later = later maps details w.shape w.trail x.trail it.heap.lawful (goes-on-of w.shape fitted.writes (subst (λ (s : Shape). Lawful s x.trail) fitted.shape filled.lawful))

    fill-changes : Adds (Touches w o) w.trail x.trail
    fill-changes = adds-wider (touches-by w o) fitted.writes

    any : (P : Trail → Write → Type 0) (a b : Trail) → Adds P a b → Adds (λ t y. Unit {0}) a b
    any P a b adds = adds-wider (λ t y e. tt) adds

    whole-later : IsLater v.trail x.trail
    whole-later =
        let changed = copy-changed maps details unused false (Some (key_of p, d)) proto v w m heap it o in
        let writes : Adds (λ t y. Unit {0}) v.trail x.trail = adds-on (any (Touches v o) v.trail w.trail changed.writes) (any (FillsStore w o) w.trail x.trail fitted.writes) in
        later maps details v.shape v.trail x.trail heap.lawful
        (goes-on-of v.shape writes
        (subst (λ (s : Shape). Lawful s x.trail) (fitted.shape ∙ it.shape) filled.lawful))

    words-then : SlotsStay v.trail x.trail o n
    words-then k lt = fitted.words k lt ∙ word-same maps details unused false (Some (key_of p, d)) proto v w m heap it o k

    form-then : IsFormOf (kind_of p.held) d.rep (slot_word x.trail o n)
    form-then = subst (λ (y : ℕ). IsFormOf (kind_of p.held) d.rep y) (sym last) form

    filled-details : (f : ℕ) → detail_in x.trail f ≡ detail_in w.trail f
    filled-details f = same-after (λ (t : Trail). detail_in t f) (detail-by w o f) fitted.writes

    filled-grown : IsGrown x.trail m v.used.maps n (key_of p) d
    filled-grown = grown-later w.trail x.trail fill-later filled-details m v.used.maps n (gate_with n true) (key_of p) d open-then refl grown-then

    -- the object may have the copy
    pub grow-lawful : LawfulObjectMap x.shape x.trail o (Some v.used.maps)
    grow-lawful =
        let there = copy-there maps details unused false (Some (key_of p, d)) proto v w m heap it in
        record {
          leaves = subst (λ (y : Option ℕ). IfSome y (λ k. IsTrue (bits_in x.trail k).unstable)) (sym (same-after (λ (t : Trail). map_in t o) (map-by w o o) fitted.writes ∙ map-then ∙ has))
              (subst (λ (b : MapBits). IsTrue b.unstable) (sym (same-after (λ (t : Trail). bits_in t m) (bits-by w o m) fitted.writes)) it.unstable);
          gets = record {
            there = subst (λ (s : Shape). v.used.maps < s.maps) (sym fitted.shape) there;
            filled = subst (λ (y : Option GateWord). IsSomeAnd y (λ z. HoldsEntries x.trail o v.used.maps z)) (sym filled-grown.is_open)
                (holds-grown v.trail x.trail whole-later o m (gate_with n true) fast v.used.maps (key_of p) d filled-grown fitted.room words-then form-then);
            own = λ yes. record {
              private = subst (λ (y : Option GateWord). IsSomeAnd y (λ z. IsTrue z.is_private)) (sym (fill-later.maps.written.gate v.used.maps (gate_with (n + 1) true) copy.gate)) refl;
              stable = ap (λ (b : MapBits). b.unstable) (same-after (λ (t : Trail). bits_in t v.used.maps) (bits-by w o v.used.maps) fitted.writes) ∙ it.own.stable;
            };
          };
        }

    -- and has it
    module _ (moved_heap : IsHeap (with_write x (ObjectMap o (Some v.used.maps)))) where
      abbrev new : View
      new = with_write x (ObjectMap o (Some v.used.maps))

      tree-same : TreeIsSame w.trail new.trail
      tree-same =
          let same : TreeIsSame w.trail x.trail = kept-after (λ (t : Trail). TreeIsSame w.trail t) (tree-by w o w.trail) fitted.writes (record { links = λ k. refl; gates = λ k. refl; lives = λ k. refl; roots = λ k. refl; details = λ f. refl; arrays = λ n. refl; bases = λ n. refl; keys = λ e. refl; references = λ e. refl }) in
          record { links = same.links; gates = same.gates; lives = same.lives; roots = same.roots; details = same.details; arrays = same.arrays; bases = same.bases; keys = same.keys; references = same.references }

      moved-writes : Adds (Touches w o) w.trail new.trail
      moved-writes = adds-on fill-changes (map-moved NoMap w o x.trail (Some v.used.maps))

      moved-on : GoesOn w.shape w.trail new.trail
      moved-on = goes-on-of w.shape moved-writes (subst (λ (s : Shape). Lawful s new.trail) fitted.shape moved_heap.lawful)

      moved-later : IsLater w.trail new.trail
      moved-later = later maps details w.shape w.trail new.trail it.heap.lawful moved-on

      moved-changed : Changed w new o
      moved-changed = record {
        writes = moved-writes;
        shape = fitted.shape;
        slots = fitted.slots;
        tree = trees w.shape w.trail new.trail it.heap.lawful moved-on tree-same it.tree;
        heap = moved_heap;
      }

      new-grown : IsGrown new.trail m v.used.maps n (key_of p) d
      new-grown = grown-later w.trail new.trail moved-later filled-details m v.used.maps n (gate_with n true) (key_of p) d open-then refl grown-then

      needs-then : IsWithin (private_need (key_of p) n (store_in v.trail o).capacity) v.used new.used
      needs-then =
          let maps_then : new.used.maps ≡ w.used.maps = ap (λ (s : Shape). s.maps) fitted.used in
          let entries_then : new.used.entries ≡ w.used.entries = ap (λ (s : Shape). s.entries) fitted.used in
          let fields_then : new.used.fields ≡ w.used.fields = ap (λ (s : Shape). s.fields) fitted.used in
          let links_then : new.used.links ≡ w.used.links = ap (λ (s : Shape). s.links) fitted.used in
          let maps_here = ap (λ (s : Shape). s.maps) used-then in
          let entries_here = ap (λ (s : Shape). s.entries) used-then in
          let fields_here = ap (λ (s : Shape). s.fields) used-then in
          let links_here = ap (λ (s : Shape). s.links) used-then in
          let slots_here : new.used.slots ≤ w.used.slots + slots_need n (store_in v.trail o).capacity = subst (λ (y : StoreWord). new.used.slots ≤ w.used.slots + slots_need n y.capacity) store-then most in
          record {
            maps = omega (arith, maps_then, maps_here);
            entries = omega (arith, entries_then, entries_here);
            fields = omega (arith, fields_then, fields_here);
            links = omega (arith, links_then, links_here);
            slots = omega (arith, slots_here, slots-then);
            cells = ap (λ (s : Shape). s.cells) fitted.used ∙ ap (λ (s : Shape). s.cells) used-then;
            rises = record {
              maps = omega (arith, maps_then, maps_here);
              entries = omega (arith, entries_then, entries_here);
              fields = omega (arith, fields_then, fields_here);
              links = omega (arith, links_then, links_here);
              slots = omega (arith, fitted.slots, slots-then);
            };
          }

      pub grown-alone : IsGrownAlone v (with_write x (ObjectMap o (Some v.used.maps))) o m n p
      grown-alone =
          let changed = copy-changed maps details unused false (Some (key_of p, d)) proto v w m heap it o in
          let owns = copy-owns maps details unused false (Some (key_of p, d)) proto v w m heap it o in
          let opens = copy-opens maps details unused false (Some (key_of p, d)) proto v w m heap it in
          record {
            changed = changed-on v w new o changed owns moved-changed;
            opens = opens-before v w new opens moved-later tree-same.gates;
            detail = d;
            asks = λ k y to admits.
                let came : map_in new.trail o ≡ Some v.used.maps = ap (λ (b : Bool). cond b (Some v.used.maps) (map_in x.trail o)) (eq-eqb o o refl) in
                let is : k ≡ v.used.maps = some-is k v.used.maps (sym to ∙ came) in
                let same : d ≡ y = some-is d y (sym new-grown.admits ∙ (ap (λ (z : ℕ). detail_at new.trail z n) (sym is) ∙ admits)) in
                subst (λ (z : Detail). IsTrue (is_detail_within z y)) asked (subst (λ (z : Detail). IsTrue (is_detail_within d z)) same (detail-same d));
            grown = new-grown;
            private = ap (λ (y : GateWord). y.is_private) (some-is new-grown.gate (gate_with (n + 1) true) (sym new-grown.is_open ∙ tree-same.gates v.used.maps ∙ copy.gate));
            moved = ap (λ (b : Bool). cond b (Some v.used.maps) (map_in x.trail o)) (eq-eqb o o refl);
            roots = λ q. same-after (λ (t : Trail). root_in t q) (root-by w o q) fitted.writes ∙ root-same maps details unused false (Some (key_of p, d)) proto v w m heap it q;
            room = fitted.room;
            words = words-then;
            form = form-then;
            holds = ap (held_in (kind_of p.held) d.rep) last ∙ is;
            store = fitted.store;
            owns = λ s mine lt. let later_lt : s < w.used.slots = omega (arith, lt, slots-then) in owns s (fitted.owns s mine later_lt) lt;
            needs = needs-then;
            younger = open-used unused v heap m (gate_with n true) fast.is_open;
            stable = ap (λ (b : MapBits). b.unstable) (same-after (λ (t : Trail). bits_in t v.used.maps) (bits-by w o v.used.maps) fitted.writes) ∙ it.own.stable;
            after = adds-on it.after (adds-on (adds-wider (fills-at w o m) fitted.writes) (adds-one x.trail (ObjectMap o (Some v.used.maps)) tt));
            objects = ap (λ (s : Shape). s.objects) fitted.used ∙ objects-same maps details unused false (Some (key_of p, d)) proto v w m heap it;
          }
