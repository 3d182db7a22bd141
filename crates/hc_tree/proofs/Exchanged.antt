-- A private map that is made in place of another, with a new field at one place.
use Rattle.std.proofs.Common.{◌≡◌, ℕ, ◌<◌, ◌≤◌, Bool, true, false, cond, eqb, eqb-true, Option, Some, None, ◌∷◌, is_some, refl, sym, ap, ◌∙◌, subst, arith, true≢false}
use Rattle.std.specs.Prelude.{IsSomeAnd}
use Rattle.hc_layout.specs.declared.shape.Shape.{Shape}
use Rattle.hc_layout.specs.declared.words.GateWord.{GateWord}
use Rattle.hc_layout.specs.declared.words.RootWord.{RootWord}
use Rattle.hc_value.specs.declared.field.Class.{Class}
use Rattle.hc_value.specs.declared.field.Class.TheVariants.{Of, Any}
use Rattle.hc_value.specs.declared.field.Detail.{Detail}
use Rattle.hc_value.specs.declared.key.Key.{Key}
use Rattle.hc_value.specs.declared.prop.Kind.TheVariants.{AccessorProp}
use Rattle.hc_heap.specs.declared.kind.Kind.TheVariants.{RootOfObject}
use Rattle.hc_heap.specs.Writes.{Trail, Write, Gate, Parent, Prototype, Base, Array, EntryKey, Reference, Owner, FieldDetail}
use Rattle.hc_heap.specs.Readings.{no_bits, gate_in, prototype_in, bits_in, owner_in, detail_in}
use Rattle.hc_heap.specs.Lawful.{IsClassThere, IsField, Lawful}
use Rattle.hc_heap.specs.Kept.{Adds, FormsHold, UnusedSaysNothing}
use Rattle.hc_heap.specs.Frames.{adds-on, adds-one, adds-wider, goes-on-of}
use Rattle.hc_heap.specs.States.{AreArraysThere, View, IsHeap}
use Rattle.hc_descs.specs.Entries.{key_at, field_at}
use Rattle.hc_descs.specs.Copies.{FillsArray, HasEntriesBut}
use Rattle.hc_tree.specs.Kept.{MapsAreKept, MapsStay}
use Rattle.hc_tree.specs.Tree.{gate_with, tagged_field, IsTree}
use Rattle.hc_tree.specs.Growth.{MayBePrototype}
use Rattle.hc_tree.specs.Copying.{FillsCopy, FillsOne, IsClosed, IsExchanged, IsWhole, with_closed, with_field}
use Rattle.hc_tree.specs.Details.{GetsOne, NoMap, Reshapes}
use Rattle.hc_tree.specs.Walking.{OpensNoRoot}
use Rattle.hc_tree.proofs.Fresh.{self}
use Rattle.hc_tree.proofs.Filled.{owner-same, detail-same}
use Rattle.hc_tree.proofs.Whole.{MapReadings, fill-closed, fill-prototype, fill-tree, like-whole, maps-same, open-whole}

same-some : {T : Type 0} (a b : T) (o : Option T) → o ≡ Some a → o ≡ Some b → a ≡ b
same-some a b o x y = cc

-- The writes that fill it

array-one : (c e f : ℕ) (d : Detail) (t : Trail) (w : Write) → FillsArray c e t w → FillsOne c e f d t w
array-one c e f d t (EntryKey x key) h = h
array-one c e f d t (Reference x y) h = h
array-one c e f d t (Base m b) h = h
array-one c e f d t (Array m a) h = h
array-one c e f d t _ h = absurd h

-- a field, and then an array
pub field-fills : (a b : Trail) (c e f : ℕ) (d : Detail) → Adds (FillsArray c e) (with_field a f c d) b → Adds (FillsOne c e f d) a b
field-fills a b c e f d h =
    adds-on (adds-on (adds-one a (Owner f c) refl) (adds-one (Owner f c ∷ a) (FieldDetail f d) (refl, refl))) (adds-wider (array-one c e f d) h)

pub field-owner : (a b : Trail) (c e f : ℕ) (d : Detail) → Adds (FillsArray c e) (with_field a f c d) b → owner_in b f ≡ Some c
field-owner a b c e f d h = owner-same c e f (with_field a f c d) b h ∙ self f (Some c) (owner_in a f)

pub field-detail : (a b : Trail) (c e f : ℕ) (d : Detail) → Adds (FillsArray c e) (with_field a f c d) b → detail_in b f ≡ Some d
field-detail a b c e f d h = detail-same c e f (with_field a f c d) b h ∙ self f (Some d) (detail_in a f)

one-copy : (c e f : ℕ) (d : Detail) (t : Trail) (w : Write) → FillsOne c e f d t w → FillsCopy c e f t w
one-copy c e f d t (EntryKey x key) h = h
one-copy c e f d t (Reference x y) h = h
one-copy c e f d t (Base m b) h = h
one-copy c e f d t (Array m a) h = h
one-copy c e f d t (Owner x m) h = omega (arith, h)
one-copy c e f d t (FieldDetail x y) h = let is = h.0 in omega (arith, is)
one-copy c e f d t _ h = absurd h

-- they fill a new map
pub one-fills : {a b : Trail} (c e f : ℕ) (d : Detail) → Adds (FillsOne c e f d) a b → Adds (FillsCopy c e f) a b
one-fills c e f d h = adds-wider (one-copy c e f d) h

one-reshapes : (used : Shape) (c : ℕ) (d : Detail) → used.maps ≤ c → (t : Trail) (w : Write) → FillsOne c used.entries used.fields d t w → Reshapes used NoMap (GetsOne used.fields (Some d)) t w
one-reshapes used c d le t (EntryKey x key) h = h
one-reshapes used c d le t (Reference x y) h = h
one-reshapes used c d le t (Base m b) h = omega (arith, h, le)
one-reshapes used c d le t (Array m a) h = omega (arith, h, le)
one-reshapes used c d le t (Owner x m) h = omega (arith, h)
one-reshapes used c d le t (FieldDetail x y) h = (h.0, ap (λ (z : Detail). Some z) (sym h.1))
one-reshapes used c d le t _ h = absurd h

-- all writes of the new map
pub exchanged-writes : (used : Shape) (t b : Trail) (c n : ℕ) (p : Option ℕ) (d : Detail) → used.maps ≤ c → Adds (FillsOne c used.entries used.fields d) (with_closed t p c) b → Adds (Reshapes used NoMap (GetsOne used.fields (Some d))) t (Gate c (gate_with n true) ∷ b)
exchanged-writes used t b c n p d le h =
    adds-on (adds-on (adds-on
    (adds-one t (Parent c None) le)
    (adds-one (Parent c None ∷ t) (Prototype c p) le))
    (adds-wider (one-reshapes used c d le) h))
    (adds-one b (Gate c (gate_with n true)) le)

-- a prototype that a map has is one that was made so
pub proto-may : UnusedSaysNothing → (v : View) → IsHeap v → FormsHold v.shape v.trail → (m : ℕ) (p : Option ℕ) → prototype_in v.trail m ≡ Some p → MayBePrototype v.used v.trail p
proto-may unused v heap forms m None is = tt
proto-may unused v heap forms m (Some q) is =
    let yes = (forms.prototype m q is).1 in
    let no : v.used.objects ≤ q → ⊥ = λ le. true≢false (sym yes ∙ ap (λ (r : RootWord). r.is_proto) (unused v.used v.trail RootOfObject q heap.used le)) in
    (omega (arith, no), yes)

-- the map of a class is there still while a new map is closed
pub class-closed : (s : Shape) (t : Trail) (p : Option ℕ) (c : ℕ) (k : Class) → IsClassThere s t k → IsClassThere s (with_closed t p c) k
class-closed s t p c (Of x) h = h
class-closed s t p c Any h = h

-- The new map

module _ (law : MapsAreKept) (s : Shape) (a b : Trail) (c m n place : ℕ) (used : Shape) (d : Detail) (before : Lawful s a) (after : Lawful s b) (fills : Adds (FillsOne c used.entries used.fields d) a b) (there : AreArraysThere used.entries a)
    (closed : IsClosed a c) (tree : IsTree a) (gate : gate_in a m ≡ Some (gate_with n true)) (entries : HasEntriesBut b c m n place used.fields) (owner : owner_in b used.fields ≡ Some c) (detail : detail_in b used.fields ≡ Some d)
    (accessor : (key : Key) → key_at a m place ≡ Some key → key.kind ≡ AccessorProp → d ≡ tagged_field) where
  copy : Adds (FillsCopy c used.entries used.fields) a b
  copy = one-fills c used.entries used.fields d fills

  kept : MapsStay a b
  kept = law s a b before (goes-on-of s copy after)

  later : IsSomeAnd (gate_in b m) (λ g. g.entries ≡ n)
  later = subst (λ (o : Option GateWord). IsSomeAnd o (λ g. g.entries ≡ n)) (sym (kept.written.gate m (gate_with n true) gate)) refl

  whole : IsWhole b m n
  whole = open-whole law s b m n after later (fill-tree law s a b c used.entries used.fields before after copy there closed tree)

  made : (k : ℕ) (t : Bool) → eqb k place ≡ t → k < n → IsSomeAnd (field_at b c k) (λ f. IsField b f)
  made k true e lt = subst (λ (o : Option ℕ). IsSomeAnd o (λ f. IsField b f)) (sym (entries.fields k lt ∙ ap (λ (t : Bool). cond t (Some used.fields) (field_at b m k)) e)) (record { owner = ap is_some owner; detail = ap is_some detail })
  made k false e lt = subst (λ (o : Option ℕ). IsSomeAnd o (λ f. IsField b f)) (sym (entries.fields k lt ∙ ap (λ (t : Bool). cond t (Some used.fields) (field_at b m k)) e)) (whole.fields k lt)

  tagged : (t : Bool) (k f : ℕ) (key : Key) → eqb k place ≡ t → k < n → key_at b c k ≡ Some key → key.kind ≡ AccessorProp → field_at b c k ≡ Some f → detail_in b f ≡ Some tagged_field
  tagged true k f key e lt is kind at =
      let here : k ≡ place = eqb-true k place e in
      let was : key_at a m k ≡ Some key = sym (kept.entry m k (gate_with n true) gate lt).key ∙ (sym (entries.keys k lt) ∙ is) in
      let field : used.fields ≡ f = same-some used.fields f (field_at b c k) (entries.fields k lt ∙ ap (λ (t : Bool). cond t (Some used.fields) (field_at b m k)) e) at in
      subst (λ (x : ℕ). detail_in b x ≡ Some tagged_field) field (detail ∙ ap (λ (x : Detail). Some x) (accessor key (subst (λ (x : ℕ). key_at a m x ≡ Some key) here was) kind))
  tagged false k f key e lt is kind at = whole.tagged k f key lt (sym (entries.keys k lt) ∙ is) kind (sym (entries.fields k lt ∙ ap (λ (t : Bool). cond t (Some used.fields) (field_at b m k)) e) ∙ at)

  -- it may be opened
  pub exchanged-whole : IsWhole b c n
  exchanged-whole = like-whole b c m n whole entries.keys (λ k lt. made k (eqb k place) refl lt) (λ k f key lt is kind at. tagged (eqb k place) k f key refl lt is kind at)

-- what it is, once it is opened
pub is-exchanged : (t b : Trail) (c m n place field e f : ℕ) (p : Option ℕ) → Adds (FillsCopy c e f) (with_closed t p c) b → IsClosed (with_closed t p c) c → bits_in t c ≡ no_bits → prototype_in (Gate c (gate_with n true) ∷ b) m ≡ Some p → HasEntriesBut b c m n place field → owner_in b field ≡ Some c
    → IsExchanged (Gate c (gate_with n true) ∷ b) c m n place field
is-exchanged t b c m n place field e f p fills closed bits proto entries owner = record {
  gate = self c (Some (gate_with n true)) (gate_in b c);
  parent = (fill-closed (with_closed t p c) b c e f fills closed).parent;
  prototype = fill-prototype t b c e f p fills ∙ sym proto;
  entries = record { keys = entries.keys; fields = entries.fields };
  owner = owner;
  bits = ap (λ (r : MapReadings). r.bits c) (maps-same c e f (with_closed t p c) b fills) ∙ bits;
}

-- the bits of all maps stay
pub exchanged-bits : (t b : Trail) (c n e f x : ℕ) (p : Option ℕ) → Adds (FillsCopy c e f) (with_closed t p c) b → bits_in (Gate c (gate_with n true) ∷ b) x ≡ bits_in t x
exchanged-bits t b c n e f x p fills = ap (λ (r : MapReadings). r.bits x) (maps-same c e f (with_closed t p c) b fills)

-- no root is opened
pub exchanged-opens : (t b : Trail) (c n e f : ℕ) (p : Option ℕ) → Adds (FillsCopy c e f) (with_closed t p c) b → OpensNoRoot t (Gate c (gate_with n true) ∷ b)
exchanged-opens t b c n e f p fills = λ m g none is shared top. by m g (eqb c m) none is shared
  where
    by : (m : ℕ) (g : GateWord) (test : Bool) → gate_in t m ≡ None → cond test (Some (gate_with n true)) (gate_in b m) ≡ Some g → g.is_private ≡ false → ⊥
    by m g true none is shared = let same : gate_with n true ≡ g = cc in true≢false (ap (λ (x : GateWord). x.is_private) same ∙ shared)
    by m g false none is shared = let was : gate_in b m ≡ None = ap (λ (r : MapReadings). r.gates m) (maps-same c e f (with_closed t p c) b fills) ∙ none in let n : ⊥ = cc in n
