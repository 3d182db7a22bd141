-- Cells were written, and nothing else: the objects are as they were.
use Rattle.std.proofs.Common.{◌≡◌, ℕ, zero, suc, ◌<◌, ◌≤◌, Bool, true, false, List, ◌∷◌, Option, Some, None, length, refl, sym, ap, ◌∙◌, subst, arith, inl, inr}
use Rattle.std.specs.Prelude.{◌⊎◌, IfSome, nat_lt, slice_index_or}
use Rattle.std.proofs.Math.ListN.{get_or-eq_default}
use Rattle.std.proofs.lemmas.Bool.Decides.{nat_tests}
use Rattle.hc_layout.specs.declared.shape.Region.TheVariants.{Cells}
use Rattle.hc_layout.specs.declared.shape.Shape.{Shape}
use Rattle.hc_layout.specs.declared.words.CellWord.{CellWord}
use Rattle.hc_layout.specs.declared.words.StoreWord.{StoreWord}
use Rattle.hc_heap.specs.Writes.{Write, Trail, ObjectCell, Validity}
use Rattle.hc_heap.specs.Readings.{gate_in, map_in, parent_in, prototype_in, root_in, slot_in, store_in}
use Rattle.hc_heap.specs.Kept.{Adds, DetailsRise, GoesOn, UnusedSaysNothing}
use Rattle.hc_heap.specs.Lawful.{Lawful}
use Rattle.hc_heap.specs.Frames.{adds-none, adds-on, adds-one, goes-on-of, same-after}
use Rattle.hc_heap.specs.States.{HasRoom, View, IsHeap}
use Rattle.hc_cells.specs.Cells.{Invalidates, named_cell, valid_cell, with_cell}
use Rattle.hc_cells.specs.Chains.{Ends, HaveEnds, proto_at, proto_by, proto_said}
use Rattle.hc_facts.specs.Laws.{HonestAfter, KeptIsCarried}
use Rattle.hc_tree.specs.Growth.{root_of}
use Rattle.hc_tree.specs.Kept.{MapsAreKept, TreeIsSame, TreesStay}
use Rattle.hc_tree.specs.Tree.{IsTree}
use Rattle.hc_table.specs.Kept.{Kept, IsKept}
use Rattle.hc_table.specs.World.{LeadsToNull, Object, World, new_object, object}
use Rattle.hc_slots.specs.Listed.{get_or-listed, length-listed, listed-same}
use Rattle.hc_slots.specs.Meaning.{Dictionary, object_shown, proto_of}
use Rattle.hc_slots.specs.Slots.{AreHandedOut, IsIn}
use Rattle.hc_modes.specs.Admitting.{FactsStay}
use Rattle.hc_modes.specs.Changes.{WordsStay}
use Rattle.hc_modes.specs.Meaning.{kept_of, object_at, world}
use Rattle.hc_modes.specs.State.{AreRoots, IsKeptSo, IsObjects}
use Rattle.hc_modes.specs.Validity.{WritesCells, proto_kept, protos_in, slow_proto}
use Rattle.hc_modes.proofs.Facts.{words-same}
use Rattle.hc_modes.proofs.Owning.{map-none}
use Rattle.hc_modes.proofs.Sound.{null-stays}
use Rattle.hc_modes.proofs.Sparing.{kept-after}
use Rattle.hc_modes.proofs.Staying.{IsLater, later, kept-still, object-stays}
use Rattle.hc_modes.proofs.Worlds.{length-world, object-world}

-- What such writes leave

pub by-cells : {T : Type 0} (reading : Trail → T) → ((t : Trail) (p : ℕ) (c : Option ℕ) → reading (ObjectCell p c ∷ t) ≡ reading t) → ((t : Trail) (c : ℕ) (v : CellWord) → reading (Validity c v ∷ t) ≡ reading t)
    → (t : Trail) (w : Write) → WritesCells t w → reading (w ∷ t) ≡ reading t
by-cells reading named cell t (ObjectCell p c) e = named t p c
by-cells reading named cell t (Validity c v) e = cell t c v
by-cells reading named cell t _ e = absurd e

tree-by : (first : Trail) (t : Trail) (w : Write) → WritesCells t w → TreeIsSame first t → TreeIsSame first (w ∷ t)
tree-by first t (ObjectCell p c) e same = record { links = same.links; gates = same.gates; lives = same.lives; roots = same.roots; details = same.details; arrays = same.arrays; bases = same.bases; keys = same.keys; references = same.references }
tree-by first t (Validity c v) e same = record { links = same.links; gates = same.gates; lives = same.lives; roots = same.roots; details = same.details; arrays = same.arrays; bases = same.bases; keys = same.keys; references = same.references }
tree-by first t _ e same = absurd e

tree-none : (t : Trail) → TreeIsSame t t
tree-none t = record { links = λ m. refl; gates = λ m. refl; lives = λ m. refl; roots = λ o. refl; details = λ f. refl; arrays = λ n. refl; bases = λ n. refl; keys = λ e. refl; references = λ e. refl }

module _ (maps : MapsAreKept) (details : DetailsRise) (trees : TreesStay) (v x : View) (kept : List (Option Dictionary)) (null : Option ℕ) (h : IsObjects v kept null) (writes : Adds WritesCells v.trail x.trail) (heap : IsHeap x) (shape : x.shape ≡ v.shape)
    (used : x.used ≡ record v.used { cells = x.used.cells }) where
  same : {T : Type 0} (reading : Trail → T) → ((t : Trail) (p : ℕ) (c : Option ℕ) → reading (ObjectCell p c ∷ t) ≡ reading t) → ((t : Trail) (c : ℕ) (w : CellWord) → reading (Validity c w ∷ t) ≡ reading t) → reading x.trail ≡ reading v.trail
  same reading named cell = same-after reading (by-cells reading named cell) writes

  pub celled-map : (o : ℕ) → map_in x.trail o ≡ map_in v.trail o
  celled-map o = same (λ (t : Trail). map_in t o) (λ t p c. refl) (λ t c w. refl)

  celled-store : (o : ℕ) → store_in x.trail o ≡ store_in v.trail o
  celled-store o = same (λ (t : Trail). store_in t o) (λ t p c. refl) (λ t c w. refl)

  celled-slot : (s : ℕ) → slot_in x.trail s ≡ slot_in v.trail s
  celled-slot s = same (λ (t : Trail). slot_in t s) (λ t p c. refl) (λ t c w. refl)

  celled-gate : (m : ℕ) → gate_in x.trail m ≡ gate_in v.trail m
  celled-gate m = same (λ (t : Trail). gate_in t m) (λ t p c. refl) (λ t c w. refl)

  words : (o : ℕ) → WordsStay v.trail x.trail o
  words o = record {
    map = celled-map o;
    store = celled-store o;
    slots = λ s owns. celled-slot s;
    proto = same (λ (t : Trail). (root_in t o).is_proto) (λ t p c. refl) (λ t c w. refl);
  }

  goes : GoesOn v.shape v.trail x.trail
  goes = goes-on-of v.shape writes (subst (λ (s : Shape). Lawful s x.trail) shape heap.lawful)

  after : IsLater v.trail x.trail
  after = later maps details v.shape v.trail x.trail h.heap.lawful goes

  pub celled-tree : IsTree x.trail
  celled-tree = trees v.shape v.trail x.trail h.heap.lawful goes (kept-after (TreeIsSame v.trail) (tree-by v.trail) writes (tree-none v.trail)) h.tree

  pub celled-world : world x.trail kept ≡ world v.trail kept
  celled-world = listed-same (object_at v.trail kept) (object_at x.trail kept) (length kept) (λ o lt. object-stays v.trail x.trail after o (kept_of kept o) (words o) (h.each o lt))

  -- fields stay honest, and constants stay
  pub celled-facts : HonestAfter → KeptIsCarried → FactsStay v.shape v.trail x.trail
  celled-facts honest carried = record {
    goes = goes;
    constants = λ o m k f d datum admits const stable. words-same v.trail x.trail o k (celled-store o) celled-slot;
    honest = λ before. honest v.shape v.trail x.trail goes before (λ o m k f d datum admits. inl (carried v.shape v.trail x.trail o m k f d h.heap.lawful goes (celled-map o) (words-same v.trail x.trail o k (celled-store o) celled-slot) datum admits));
  }

  root-still : (p : Option ℕ) (m : ℕ) → root_of v.trail p null ≡ Some m → root_of x.trail p null ≡ Some m
  root-still None m is = is
  root-still (Some q) m is = same (λ (t : Trail). (root_in t q).map) (λ t p c. refl) (λ t c w. refl) ∙ is

  celled-roots : AreRoots x.trail null
  celled-roots = record {
    null = null-stays v.trail x.trail after null h.roots.null;
    named = λ m g p gate shared parent prototype. root-still p m (h.roots.named m g p (sym (celled-gate m) ∙ gate) shared
        (sym (same (λ (t : Trail). parent_in t m) (λ t p c. refl) (λ t c w. refl)) ∙ parent)
        (sym (same (λ (t : Trail). prototype_in t m) (λ t p c. refl) (λ t c w. refl)) ∙ prototype));
  }

  -- what holds of objects holds afterwards
  pub celled-sound : IsObjects x kept null
  celled-sound = record {
    heap = heap;
    tree = celled-tree;
    roots = celled-roots;
    items = h.items ∙ sym (ap (λ (s : Shape). s.objects) used);
    each = λ o lt. kept-still v.trail x.trail after o (kept_of kept o) (words o) (h.each o lt);
    stores = λ o. subst (λ (n : ℕ). AreHandedOut n (store_in x.trail o)) (sym (ap (λ (s : Shape). s.slots) used)) (subst (λ (w : StoreWord). AreHandedOut v.used.slots w) (sym (celled-store o)) (h.stores o));
    owners = λ o p s a b. h.owners o p s (subst (λ (w : StoreWord). IsIn w s) (celled-store o) a) (subst (λ (w : StoreWord). IsIn w s) (celled-store p) b);
    alone = λ a b m g in_a in_b is_a is_b gate private. h.alone a b m g in_a in_b (sym (celled-map a) ∙ is_a) (sym (celled-map b) ∙ is_b) (sym (celled-gate m) ∙ gate) private;
    sound = subst IsKept (sym (ap (λ (w : World). let k : Kept = record { world = w; limit = x.shape.objects } in k) celled-world ∙ ap (λ (s : Shape). let k : Kept = record { world = world v.trail kept; limit = s.objects } in k) shape)) h.sound;
  }

-- Cells that were made invalid

pub invalid-cells : (old : Trail) (ps : List (Option ℕ)) (o : ℕ) (t : Trail) (w : Write) → Invalidates old ps o t w → WritesCells t w
invalid-cells old ps o t (Validity c v) e = tt
invalid-cells old ps o t w e = absurd e

pub used-kept : (v x : View) → x.used ≡ v.used → x.used ≡ record v.used { cells = x.used.cells }
used-kept v x e = e ∙ sym (ap (λ (n : ℕ). let s : Shape = record v.used { cells = n } in s) (ap (λ (s : Shape). s.cells) e))

-- A cell that was handed out

pub record IsCelled (v x : View) : Type 0 where
  pub writes : Adds WritesCells v.trail x.trail
  pub shape : x.shape ≡ v.shape
  pub used : x.used ≡ record v.used { cells = x.used.cells }

made-or : (v x : View) (o : ℕ) (r named : Option ℕ) → IfSome named (λ c. (r ≡ Some c) × (x ≡ v)) → (named ≡ None → HasRoom v Cells 1 → (r ≡ Some v.used.cells) × (x ≡ with_cell v o))
    → (named ≡ None → (HasRoom v Cells 1 → ⊥) → (r ≡ None) × (x ≡ v)) → (x ≡ v) ⊎ (x ≡ with_cell v o)
made-or v x o r (Some c) same made none = inl same.1
made-or v x o r None same made none = by (nat_lt v.used.cells v.shape.cells) refl
  where
    by : (test : Bool) → nat_lt v.used.cells v.shape.cells ≡ test → (x ≡ v) ⊎ (x ≡ with_cell v o)
    by true e = let lt : v.used.cells < v.shape.cells = grind (arith, nat_tests, e) in inr (made refl (omega (arith, lt))).1
    by false e = let le : v.shape.cells ≤ v.used.cells = grind (arith, nat_tests, e) in inl (none refl (λ room. omega (arith, le, room))).1

celled-by : (v x : View) (o : ℕ) → (x ≡ v) ⊎ (x ≡ with_cell v o) → IsCelled v x
celled-by v x o (inl same) = subst (λ (y : View). IsCelled v y) (sym same) (record { writes = adds-none v.trail; shape = refl; used = refl })
celled-by v x o (inr made) = subst (λ (y : View). IsCelled v y) (sym made) (record {
  writes = adds-on (adds-one v.trail (Validity v.used.cells (valid_cell o)) tt) (adds-one (Validity v.used.cells (valid_cell o) ∷ v.trail) (ObjectCell o (Some v.used.cells)) tt);
  shape = refl;
  used = refl;
})

pub is-celled : (v x : View) (o : ℕ) (r : Option ℕ) → IfSome (named_cell v.trail o) (λ c. (r ≡ Some c) × (x ≡ v)) → (named_cell v.trail o ≡ None → HasRoom v Cells 1 → (r ≡ Some v.used.cells) × (x ≡ with_cell v o))
    → (named_cell v.trail o ≡ None → (HasRoom v Cells 1 → ⊥) → (r ≡ None) × (x ≡ v)) → IsCelled v x
is-celled v x o r same made none = celled-by v x o (made-or v x o r (named_cell v.trail o) same made none)

-- The chains of objects come to their ends

module _ (unused : UnusedSaysNothing) (v : View) (kept : List (Option Dictionary)) (null : Option ℕ) (h : IsObjects v kept null) where
  abbrev pub protos : List (Option ℕ)
  protos = protos_in v.shape.objects kept

  pub length-protos : length protos ≡ v.shape.objects
  length-protos = length-listed (slow_proto kept) v.shape.objects

  said-same : (said : Option (Option ℕ)) → proto_said said ≡ proto_of said
  said-same (Some p) = refl
  said-same None = refl

  proto-by : (o : ℕ) (item : Option Dictionary) → o < v.shape.objects → kept_of kept o ≡ item → IsKeptSo v.trail o item → proto_at v.trail protos o ≡ (object_shown v.trail o item (map_in v.trail o)).proto
  proto-by o (Some d) lt is so = ap (proto_by v.trail protos o) so ∙ get_or-listed (slow_proto kept) v.shape.objects o None lt ∙ ap proto_kept is
  proto-by o None lt is so =
      ap (proto_by v.trail protos o) so.is_map ∙ said-same (prototype_in v.trail so.map)
      ∙ ap (λ (m : Option ℕ). (object_shown v.trail o None m).proto) (sym so.is_map)

  pub few : length kept ≤ v.shape.objects
  few = let room = h.sound.room in let count = length-world v.trail kept in omega (arith, room, count)

  -- the prototype of an object is the one that its words say, or that is kept for it
  pub proto-is : (o : ℕ) → o < length kept → proto_at v.trail protos o ≡ (object (world v.trail kept) o).proto
  proto-is o lt =
      proto-by o (kept_of kept o) (omega (arith, lt, few)) refl (h.each o lt)
      ∙ sym (ap (λ (x : Object). x.proto) (object-world v.trail kept o lt))

  ends-none : (n : ℕ) → Ends n v.trail protos None
  ends-none zero = tt
  ends-none (suc n) = tt

  leads-end : (n m : ℕ) (at : Option ℕ) → n ≤ m → LeadsToNull n (world v.trail kept) at → Ends m v.trail protos at
  leads-end n m None le leads = ends-none m
  leads-end zero m (Some o) le leads = absurd leads
  leads-end (suc n) zero (Some o) le leads = absurd (omega (arith, le))
  leads-end (suc n) (suc m) (Some o) le leads =
      let lt : o < length kept = subst (λ (k : ℕ). o < k) (length-world v.trail kept) leads.0 in
      let size = length-protos in
      (omega (arith, lt, few, size), subst (λ (p : Option ℕ). Ends m v.trail protos p) (sym (proto-is o lt)) (leads-end n m (object (world v.trail kept) o).proto (omega (arith, le)) leads.1))

  -- of a number that no object has yet
  spare-by : (o n : ℕ) → o < length protos → length kept ≤ o → length protos ≡ n → Ends n v.trail protos (Some o)
  spare-by o zero lt le is = absurd (omega (arith, lt, is))
  spare-by o (suc n) lt le is =
      let none = map-none unused v h.heap o (let items = h.items in omega (arith, le, items)) in
      let size = length-protos in
      let at : proto_at v.trail protos o ≡ None =
      ap (proto_by v.trail protos o) none
      ∙ get_or-listed (slow_proto kept) v.shape.objects o None (omega (arith, lt, size))
      ∙ ap proto_kept (get_or-eq_default kept None le) in
      (lt, subst (λ (p : Option ℕ). Ends n v.trail protos p) (sym at) (ends-none n))

  there-or : (o : ℕ) (test : Bool) → nat_lt o (length kept) ≡ test → (o < length kept → Ends (length protos) v.trail protos (Some o)) → (length kept ≤ o → Ends (length protos) v.trail protos (Some o)) → Ends (length protos) v.trail protos (Some o)
  there-or o true e here spare = here (grind (arith, nat_tests, e))
  there-or o false e here spare = spare (grind (arith, nat_tests, e))

  pub have-ends : HaveEnds v.trail protos
  have-ends o lt = there-or o (nat_lt o (length kept)) refl
      (λ there. let size = length-protos in let count = length-world v.trail kept in
      leads-end (length (world v.trail kept)) (length protos) (Some o) (omega (arith, count, few, size)) (h.sound.sound.chains o (subst (λ (k : ℕ). o < k) (sym count) there)))
      (λ le. spare-by o (length protos) lt le refl)

  kept-none : (o : ℕ) → length kept ≤ o → slow_proto kept o ≡ None
  kept-none o le = ap proto_kept (get_or-eq_default kept None le)

  listed-none : (o : ℕ) (test : Bool) → nat_lt o v.shape.objects ≡ test → length kept ≤ o → slice_index_or protos o None ≡ None
  listed-none o true e le = get_or-listed (slow_proto kept) v.shape.objects o None (grind (arith, nat_tests, e)) ∙ kept-none o le
  listed-none o false e le = get_or-eq_default protos None (let past : v.shape.objects ≤ o = grind (arith, nat_tests, e) in let size = length-protos in omega (arith, past, size))

  proto-or : (o : ℕ) (test : Bool) → nat_lt o (length kept) ≡ test → proto_at v.trail protos o ≡ (object (world v.trail kept) o).proto
  proto-or o true e = proto-is o (grind (arith, nat_tests, e))
  proto-or o false e =
      let le : length kept ≤ o = grind (arith, nat_tests, e) in
      let none = map-none unused v h.heap o (let items = h.items in omega (arith, le, items)) in
      let count = length-world v.trail kept in
      let past : object (world v.trail kept) o ≡ new_object None = get_or-eq_default (world v.trail kept) (new_object None) (omega (arith, le, count)) in
      ap (proto_by v.trail protos o) none ∙ listed-none o (nat_lt o v.shape.objects) refl le ∙ sym (ap (λ (x : Object). x.proto) past)

  -- what is told of each object is its prototype
  pub proto-told : (o : ℕ) → proto_at v.trail protos o ≡ (object (world v.trail kept) o).proto
  proto-told o = proto-or o (nat_lt o (length kept)) refl
