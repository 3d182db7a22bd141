-- A new child: the map as it is before it is opened, the gate that opens it, and the live child of a key.
use Rattle.std.proofs.Common.{◌≡◌, ℕ, ◌+◌, ◌<◌, ◌≤◌, ◌≢◌, Bool, false, Option, Some, None, List, [], ◌∷◌, ◌++◌, append_assoc, refl, sym, ap, ◌∙◌, subst, arith, below_more, IsSome, is_some}
use Rattle.std.proofs.Math.Nat.{le_trans, lt_of_not-le}
use Rattle.std.specs.Prelude.{IsSomeAnd, All}
use Rattle.hc_layout.specs.declared.shape.Shape.{Shape}
use Rattle.hc_layout.specs.declared.shape.Region.TheVariants.{Maps}
use Rattle.hc_layout.specs.declared.words.GateWord.{GateWord}
use Rattle.hc_layout.specs.declared.words.MapBits.{MapBits}
use Rattle.hc_layout.specs.declared.words.RootWord.{RootWord}
use Rattle.hc_value.specs.declared.key.Key.{Key}
use Rattle.hc_value.specs.declared.prop.Kind.TheVariants.{AccessorProp}
use Rattle.hc_value.specs.declared.field.Detail.{Detail}
use Rattle.hc_heap.specs.Writes.{Write, Trail, Parent, Prototype, Base, Array, EntryKey, Reference, Owner, FieldDetail}
use Rattle.hc_heap.specs.Readings.{gate_in, parent_in, prototype_in, bits_in, owner_in, detail_in, root_in}
use Rattle.hc_heap.specs.declared.kind.Kind.TheVariants.{GateOfMap}
use Rattle.hc_heap.specs.Lawful.{IsField, Lawful, LawfulPrototype}
use Rattle.hc_heap.specs.States.{View, AreArraysThere, IsHeap, with_items}
use Rattle.hc_heap.specs.Kept.{Adds, GoesOn, UnusedSaysNothing, GatesAreOpen, FormsHold}
use Rattle.hc_heap.specs.Frames.{same-after, adds-one, adds-on, adds-wider}
use Rattle.hc_descs.specs.Entries.{AreFree, key_at, field_at, count_of, entries_in, LacksName}
use Rattle.hc_descs.specs.Copies.{FillsArray, HasArray, HasOwnArray, HasEntriesOf, IsEntry}
use Rattle.hc_links.specs.Chains.{links_in}
use Rattle.hc_links.specs.Laws.{LinksAreChained}
use Rattle.hc_tree.specs.Kept.{MapsStay, MapsAreKept}
use Rattle.hc_tree.specs.Tree.{gate_with, tagged_field, IsProperKey, IsDeadFor, IsSoundMap, IsTree}
use Rattle.hc_tree.specs.Details.{NoMap, Reshapes}
use Rattle.hc_tree.specs.Growth.{MayGrow, MakesMap, IsReadyChild}
use Rattle.hc_tree.specs.Copying.{with_field}
use Rattle.hc_tree.proofs.Arrays.{filled-array, own-has}
use Rattle.hc_tree.proofs.Filled.{array-wider}
use Rattle.hc_tree.proofs.Keeping.{SameLives, same-lives, array-kept, tree-kept, dead-all}
use Rattle.hc_tree.proofs.Fresh.{IsNewMap, no-links, self}

-- what an array's writes leave as it was
record Rest : Type 0 where
  gate : Option GateWord
  parent : Option (Option ℕ)
  prototype : Option (Option ℕ)
  bits : MapBits
  links : List ℕ
  owner : Option ℕ
  detail : Option Detail
  root : RootWord

rest_of : Trail → ℕ → Rest
rest_of t x = record {
  gate = gate_in t x;
  parent = parent_in t x;
  prototype = prototype_in t x;
  bits = bits_in t x;
  links = links_in t x;
  owner = owner_in t x;
  detail = detail_in t x;
  root = root_in t x;
}

rest-step : (c first x : ℕ) (t : Trail) (w : Write) → FillsArray c first t w → rest_of (w ∷ t) x ≡ rest_of t x
unfolding rest_of
rest-step c first x t (EntryKey e k) h = refl
rest-step c first x t (Reference e f) h = refl
rest-step c first x t (Base m b) h = refl
rest-step c first x t (Array m a) h = refl
rest-step c first x t _ h = absurd h

rest-same : (c first x : ℕ) (old new : Trail) → Adds (FillsArray c first) old new → rest_of new x ≡ rest_of old x
rest-same c first x old new h = same-after (λ (t : Trail). rest_of t x) (rest-step c first x) h

some-is : {T : Type 0} (a b : T) (o : Option T) → o ≡ Some a → o ≡ Some b → a ≡ b
some-is a b o p q = cc

and-is : {T : Type 0} (P : T → Type 0) (o : Option T) (v : T) → IsSomeAnd o P → o ≡ Some v → P v
and-is P (Some w) v h e = let same : w ≡ v = cc in subst P same h
and-is P None v h e = absurd h

-- the trail after a child got its field, its parent and its prototype
abbrev pub begun : Trail → ℕ → ℕ → ℕ → Option ℕ → Detail → Trail
begun t m c f p d = Prototype c p ∷ Parent c (Some m) ∷ FieldDetail f d ∷ Owner f c ∷ t

-- a child was begun, and its array was filled
pub record IsFilledChild (s : Shape) (old new : Trail) (m c n f first : ℕ) (p : Option ℕ) (key : Key) (d : Detail) : Type 0 where
  pub lawful : Lawful s old
  pub after : Lawful s new
  pub filled : Adds (FillsArray c first) (begun old m c f p d) new
  pub arrays : AreArraysThere first old
  pub array : HasArray new c (n + 1)
  pub tree : IsTree old
  pub fresh : IsNewMap old c
  pub is_open : gate_in old m ≡ Some (gate_with n false)
  pub prototype : prototype_in old m ≡ Some p
  pub younger : m < c
  pub live : (bits_in old m).deprecated ≡ false
  pub dead : All (IsDeadFor old (Some key)) (links_in old m)
  pub entries : HasEntriesOf new c m n
  pub last : IsEntry new c n key f
  pub proper : IsProperKey key
  pub accessor : key.kind ≡ AccessorProp → d ≡ tagged_field
  pub unwritten : owner_in old f ≡ None
  pub lacks : LacksName old m n key.name

module _ (s : Shape) (old new : Trail) (m c n f first : ℕ) (p : Option ℕ) (key : Key) (d : Detail) (law : MapsAreKept) (h : IsFilledChild s old new m c n f first p key d) where
  four : List Write
  four = Prototype c p ∷ Parent c (Some m) ∷ FieldDetail f d ∷ Owner f c ∷ []

  goes : GoesOn s old new
  unfolding four
  goes = record { more = h.filled.more ++ four; is = h.filled.is ∙ sym (append_assoc h.filled.more four old); lawful = h.after }

  pub child-kept-all : MapsStay old new
  child-kept-all = law s old new h.lawful goes

  rest : (x : ℕ) → rest_of new x ≡ rest_of (begun old m c f p d) x
  rest x = rest-same c first x (begun old m c f p d) new h.filled

  lives : SameLives old new
  unfolding rest_of
  lives x = ap (λ (r : Rest). r.bits.deprecated) (rest x)

  links : (x : ℕ) → links_in new x ≡ links_in old x
  unfolding rest_of
  links x = ap (λ (r : Rest). r.links) (rest x)

  gates : (x : ℕ) → gate_in new x ≡ gate_in old x
  unfolding rest_of
  gates x = ap (λ (r : Rest). r.gate) (rest x)

  roots : (o : ℕ) → (root_in new o).map ≡ (root_in old o).map
  unfolding rest_of
  roots o = ap (λ (r : Rest). r.root.map) (rest o)

  arrays : (x : ℕ) (k : GateWord) → gate_in old x ≡ Some k → HasArray old x k.entries → HasArray new x k.entries
  arrays x k e a =
      let apart : c ≡ x → ⊥ = λ is. no-gate k (gate_in old c) h.fresh.gate (ap (gate_in old) is ∙ e) in
      filled-array c first f x apart (begun old m c f p d) new k.entries (adds-wider (array-wider c first f) h.filled) h.arrays
      (array-kept old (begun old m c f p d) x k.entries refl refl (λ y. refl) (λ y. refl) a)
    where
      no-gate : (k : GateWord) (o : Option GateWord) → o ≡ None → o ≡ Some k → ⊥
      no-gate k o a b = cc

  pub filled-tree : IsTree new
  filled-tree = tree-kept old new child-kept-all (same-lives old new lives) links gates roots arrays h.tree

  abbrev g : GateWord
  g = gate_with n false

  sound : IsSoundMap old m g
  sound = h.tree.maps m g h.is_open

  old-key : (k : ℕ) (a : Key) → k < n → key_at new c k ≡ Some a → key_at old m k ≡ Some a
  old-key k a lt e = sym (child-kept-all.entry m k g h.is_open lt).key ∙ (sym (h.entries.keys k lt) ∙ e)

  old-field : (k x : ℕ) → k < n → field_at new c k ≡ Some x → field_at old m k ≡ Some x
  old-field k x lt e = sym (child-kept-all.entry m k g h.is_open lt).field ∙ (sym (h.entries.fields k lt) ∙ e)

  -- the names differ, for two entries of which the second is this one
  differs : (j : ℕ) → j < n + 1 → (i : ℕ) → i < j → (a b : Key) → key_at new c i ≡ Some a → key_at new c j ≡ Some b → a.name ≢ b.name
  differs = below_more (λ (j : ℕ). (i : ℕ) → i < j → (a b : Key) → key_at new c i ≡ Some a → key_at new c j ≡ Some b → a.name ≢ b.name) n
      (λ j jn i ij a b ia jb. sound.distinct i j ij jn a b (old-key i a (omega arith) ia) (old-key j b jn jb))
      (λ i ij a b ia jb.
      let same : key ≡ b = some-is key b (key_at new c n) h.last.key jb in
      subst (λ (x : Key). a.name ≢ x.name) same (and-is (λ (k : Key). k.name ≢ key.name) (key_at old m i) a (h.lacks i ij) (old-key i a ij ia)))

  proper-all : (k : ℕ) → k < n + 1 → (a : Key) → key_at new c k ≡ Some a → IsProperKey a
  proper-all = below_more (λ (k : ℕ). (a : Key) → key_at new c k ≡ Some a → IsProperKey a) n
      (λ k lt a e. sound.proper k a lt (old-key k a lt e))
      (λ a e. subst IsProperKey (some-is key a (key_at new c n) h.last.key e) h.proper)

  pub filled-detail : detail_in new f ≡ Some d
  unfolding rest_of
  filled-detail = ap (λ (r : Rest). r.detail) (rest f) ∙ self f (Some d) (detail_in (Owner f c ∷ old) f)

  tagged-all : (k : ℕ) → k < n + 1 → (x : ℕ) (a : Key) → key_at new c k ≡ Some a → a.kind ≡ AccessorProp → field_at new c k ≡ Some x → detail_in new x ≡ Some tagged_field
  tagged-all = below_more (λ (k : ℕ). (x : ℕ) (a : Key) → key_at new c k ≡ Some a → a.kind ≡ AccessorProp → field_at new c k ≡ Some x → detail_in new x ≡ Some tagged_field) n
      (λ k lt x a is kind e. child-kept-all.tagged x (sound.tagged k x a lt (old-key k a lt is) kind (old-field k x lt e)))
      (λ x a is kind e.
      let same : key ≡ a = some-is key a (key_at new c n) h.last.key is in
      let admits : d ≡ tagged_field = h.accessor (subst (λ (y : Key). y.kind ≡ AccessorProp) (sym same) kind) in
      subst (λ (y : ℕ). detail_in new y ≡ Some tagged_field) (some-is f x (field_at new c n) h.last.field e) (filled-detail ∙ ap (λ (y : Detail). Some y) admits))

  -- no open map has the new field
  is-new : (x : ℕ) (k : GateWord) (j y : ℕ) → gate_in old x ≡ Some k → j < k.entries → field_at old x j ≡ Some y → y ≡ f → ⊥
  is-new x k j y e lt at is =
      let made = (child-kept-all.opened x k e).entries.fields j lt in
      no-owner (owner_in old f) h.unwritten (subst (λ (z : ℕ). IsSome (owner_in old z)) is (and-is (λ (z : ℕ). IsField old z) (field_at old x j) y made at).owner)
    where
      no-owner : (o : Option ℕ) → o ≡ None → IsSome o → ⊥
      no-owner (Some z) none some = cc
      no-owner None none some = cc

  other-place : (i : ℕ) → i < n + 1 → (x : ℕ) (k : GateWord) (j y : ℕ) → gate_in new x ≡ Some k → j < k.entries → field_at new c i ≡ Some y → field_at new x j ≡ Some y → i ≡ j
  other-place = below_more (λ (i : ℕ). (x : ℕ) (k : GateWord) (j y : ℕ) → gate_in new x ≡ Some k → j < k.entries → field_at new c i ≡ Some y → field_at new x j ≡ Some y → i ≡ j) n
      (λ i lt x k j y e lj fi fj. let was = sym (gates x) ∙ e in h.tree.places m x g k i j y h.is_open was lt lj (old-field i y lt fi) (sym (child-kept-all.entry x j k was lj).field ∙ fj))
      (λ x k j y e lj fi fj. let was = sym (gates x) ∙ e in absurd (is-new x k j y was lj (sym (child-kept-all.entry x j k was lj).field ∙ fj) (some-is y f (field_at new c n) fi h.last.field)))

  own-place : (i : ℕ) → i < n + 1 → (j : ℕ) → j < n + 1 → (y : ℕ) → field_at new c i ≡ Some y → field_at new c j ≡ Some y → i ≡ j
  own-place = below_more (λ (i : ℕ). (j : ℕ) → j < n + 1 → (y : ℕ) → field_at new c i ≡ Some y → field_at new c j ≡ Some y → i ≡ j) n
      (λ i lt. below_more (λ (j : ℕ). (y : ℕ) → field_at new c i ≡ Some y → field_at new c j ≡ Some y → i ≡ j) n
      (λ j lj y fi fj. h.tree.places m m g g i j y h.is_open h.is_open lt lj (old-field i y lt fi) (old-field j y lj fj))
      (λ y fi fj. absurd (is-new m g i y h.is_open lt (old-field i y lt fi) (some-is y f (field_at new c n) fj h.last.field))))
      (below_more (λ (j : ℕ). (y : ℕ) → field_at new c n ≡ Some y → field_at new c j ≡ Some y → n ≡ j) n
      (λ j lj y fi fj. absurd (is-new m g j y h.is_open lj (old-field j y lj fj) (some-is y f (field_at new c n) fi h.last.field)))
      (λ y fi fj. refl))

  parent : parent_in new c ≡ Some (Some m)
  unfolding rest_of
  parent = ap (λ (r : Rest). r.parent) (rest c) ∙ self c (Some (Some m)) (parent_in old c)

  prototype : prototype_in new c ≡ Some p
  unfolding rest_of
  prototype = ap (λ (r : Rest). r.prototype) (rest c) ∙ self c (Some p) (prototype_in old c)

  owner : owner_in new f ≡ Some c
  unfolding rest_of
  owner = ap (λ (r : Rest). r.owner) (rest f) ∙ self f (Some c) (owner_in old f)

  -- a child that was begun and filled is ready to be opened
  pub filled-ready : LinksAreChained → IsReadyChild new m c n f key
  filled-ready chains = record {
    ready = record {
      unwritten = gates c ∙ h.fresh.gate;
      unlinked = links c ∙ no-links chains s old c h.lawful h.fresh.head;
      distinct = λ i j ij jn a b ia jb. differs j jn i ij a b ia jb;
      proper = λ k a lt e. proper-all k lt a e;
      tagged = λ k x a lt is kind e. tagged-all k lt x a is kind e;
      placed = record { own = λ i j x li lj fi fj. own-place i li j lj x fi fj; others = λ x k i j y e li lj fi fj. other-place i li x k j y e lj fi fj };
      array = h.array;
    };
    is_open = child-kept-all.written.gate m g h.is_open;
    younger = h.younger;
    parent = parent;
    prototype = prototype ∙ sym (child-kept-all.written.prototype m p h.prototype);
    entries = h.entries;
    last = h.last.key;
    field = h.last.field;
    owner = owner;
    described = ap is_some filled-detail;
    live = lives m ∙ h.live;
    young = lives c ∙ ap (λ (b : MapBits). b.deprecated) h.fresh.bits;
    dead = subst (λ (ls : List ℕ). All (IsDeadFor new (Some key)) ls) (sym (links m)) (dead-all old new child-kept-all (same-lives old new lives) m g key (links_in old m) sound.links h.dead);
  }

-- How a child is begun, over views

-- a map was handed out
abbrev pub with_map : ℕ → View → View
with_map c v = record v { used = with_items Maps (c + 1) v.used }

-- a field was made for it
abbrev pub with_new_field : ℕ → ℕ → Detail → View → View
with_new_field f c d v = record v { trail = with_field v.trail f c d; used = record v.used { fields = v.used.fields + 1 } }

abbrev gate_is : ℕ → Bool → Bool → GateWord
gate_is n a b = record { entries = n; is_private = a; is_locked = b }

-- a map that may grow has this gate
pub grow-gate : (o : Option GateWord) → IsSomeAnd o MayGrow → o ≡ Some (gate_with (entries_in o) false)
grow-gate (Some g) h = ap Some (gate-of g.entries g.is_private g.is_locked h.shared h.unlocked)
  where
    gate-of : (n : ℕ) (a b : Bool) → a ≡ false → b ≡ false → gate_is n a b ≡ gate_with n false
    gate-of n a b p q = ap (λ (x : Bool). gate_is n x b) p ∙ ap (λ (x : Bool). gate_is n false x) q
grow-gate None h = absurd h

is-there : {T : Type 0} (P : T → Type 0) (o : Option T) → IsSomeAnd o P → o ≡ None → ⊥
is-there P (Some v) h e = cc
is-there P None h e = h

-- an open map was handed out
pub open-handed : (P : GateWord → Type 0) → UnusedSaysNothing → (v : View) (m : ℕ) → IsHeap v → IsSomeAnd (gate_in v.trail m) P → m < v.used.maps
open-handed P law v m h there = lt_of_not-le (λ le. is-there P (gate_in v.trail m) there (law v.used v.trail GateOfMap m h.used le))

-- an open map has a prototype
pub open-proto : (P : GateWord → Type 0) → GatesAreOpen → (v : View) (m : ℕ) → IsHeap v → IsSomeAnd (gate_in v.trail m) P → IsSome (prototype_in v.trail m)
open-proto P law v m h there = found (gate_in v.trail m) refl there
  where
    found : (o : Option GateWord) → gate_in v.trail m ≡ o → IsSomeAnd o P → IsSome (prototype_in v.trail m)
    found (Some g) e h' = (law v.shape v.trail m g h.lawful e).prototype
    found None e h' = absurd h'

-- the prototype of an open map may be another's
pub proto-lawful : (v : View) (t : Trail) (m c : ℕ) (p : Option ℕ) → FormsHold v.shape v.trail → prototype_in v.trail m ≡ Some p → prototype_in t c ≡ None → ((o : ℕ) → (root_in t o).is_proto ≡ (root_in v.trail o).is_proto) → LawfulPrototype v.shape t c p
proto-lawful v t m c (Some o) forms is none same = record { unwritten = none; there = (forms.prototype m o is).0; marked = same o ∙ (forms.prototype m o is).1 }
proto-lawful v t m c None forms is none same = record { unwritten = none; there = tt; marked = tt }

-- a child that was begun is filled
pub filled-child : (v v4 v5 : View) (m c n f : ℕ) (p : Option ℕ) (key : Key) (d : Detail) → v4 ≡ record v { trail = begun v.trail m c f p d; used = v4.used } → v4.used.entries ≡ v.used.entries → IsHeap v → IsHeap v5 → v5.shape ≡ v4.shape
    → Adds (FillsArray c v4.used.entries) v4.trail v5.trail → HasEntriesOf v5.trail c m (count_of v4.trail m) → IsEntry v5.trail c (count_of v4.trail m) key f
    → HasOwnArray v5.trail c (count_of v4.trail m + 1) v4.used.entries → AreFree v5.trail (v4.used.entries + (count_of v4.trail m + 1))
    → IsTree v.trail → IsNewMap v.trail c → gate_in v.trail m ≡ Some (gate_with n false) → gate_in v4.trail m ≡ Some (gate_with n false) → prototype_in v.trail m ≡ Some p → m < c → (bits_in v.trail m).deprecated ≡ false
    → All (IsDeadFor v.trail (Some key)) (links_in v.trail m) → IsProperKey key → (key.kind ≡ AccessorProp → d ≡ tagged_field) → owner_in v.trail f ≡ None → LacksName v.trail m n key.name
    → IsFilledChild v.shape v.trail v5.trail m c n f v4.used.entries p key d
filled-child v v4 v5 m c n f p key d e counts h h5 shape writes entries last own spare tree fresh gate gate4 proto younger live dead proper accessor unwritten lacks =
    let count : count_of v4.trail m ≡ n = ap entries_in gate4 in
    record {
      lawful = h.lawful;
      after = subst (λ (s : Shape). Lawful s v5.trail) (shape ∙ ap (λ (w : View). w.shape) e) h5.lawful;
      filled = subst (λ (t : Trail). Adds (FillsArray c v4.used.entries) t v5.trail) (ap (λ (w : View). w.trail) e) writes;
      tree = tree;
      fresh = fresh;
      is_open = gate;
      prototype = proto;
      younger = younger;
      live = live;
      dead = dead;
      entries = subst (λ (x : ℕ). HasEntriesOf v5.trail c m x) count entries;
      last = subst (λ (x : ℕ). IsEntry v5.trail c x key f) count last;
      proper = proper;
      accessor = accessor;
      unwritten = unwritten;
      lacks = lacks;
      arrays = subst (λ (x : ℕ). AreArraysThere x v.trail) (sym counts) h.arrays;
      array = own-has v5.trail c (n + 1) v4.used.entries (omega arith) (subst (λ (x : ℕ). HasOwnArray v5.trail c (x + 1) v4.used.entries) count own) (subst (λ (x : ℕ). AreFree v5.trail (v4.used.entries + (x + 1))) count spare);
    }

-- all its writes make a new map
fills-wider : (used : Shape) (m c first : ℕ) → used.maps ≤ c → used.entries ≤ first → (t : Trail) (w : Write) → FillsArray c first t w → MakesMap used (Some m) t w
fills-wider used m c first above there t (EntryKey e k) h = le_trans there h
fills-wider used m c first above there t (Reference e f) h = le_trans there h
fills-wider used m c first above there t (Base x b) h = subst (λ (y : ℕ). used.maps ≤ y) (sym h) above
fills-wider used m c first above there t (Array x a) h = subst (λ (y : ℕ). used.maps ≤ y) (sym h) above
fills-wider used m c first above there t _ h = absurd h

begun-writes : (used : Shape) (t : Trail) (m c f : ℕ) (p : Option ℕ) (d : Detail) → used.maps ≤ c → used.fields ≤ f → Adds (MakesMap used (Some m)) t (begun t m c f p d)
begun-writes used t m c f p d above there =
    adds-on (adds-on (adds-on
    (adds-one t (Owner f c) there)
    (adds-one (Owner f c ∷ t) (FieldDetail f d) there))
    (adds-one (FieldDetail f d ∷ Owner f c ∷ t) (Parent c (Some m)) above))
    (adds-one (Parent c (Some m) ∷ FieldDetail f d ∷ Owner f c ∷ t) (Prototype c p) above)

pub filled-writes : (s : Shape) (used : Shape) (old new : Trail) (m c n f first : ℕ) (p : Option ℕ) (key : Key) (d : Detail) → IsFilledChild s old new m c n f first p key d → used.maps ≤ c → used.fields ≤ f → used.entries ≤ first → Adds (MakesMap used (Some m)) old new
filled-writes s used old new m c n f first p key d h a b e = adds-on (begun-writes used old m c f p d a b) (adds-wider (fills-wider used m c first a e) h.filled)

pub filled-bits : (s : Shape) (old new : Trail) (m c n f first : ℕ) (p : Option ℕ) (key : Key) (d : Detail) → IsFilledChild s old new m c n f first p key d → (x : ℕ) → bits_in new x ≡ bits_in old x
unfolding rest_of
filled-bits s old new m c n f first p key d h x = ap (λ (r : Rest). r.bits) (rest-same c first x (begun old m c f p d) new h.filled)

-- and its field gets the detail

fills-reshape : (used : Shape) (G : ℕ → Detail → Type 0) (c first : ℕ) → used.maps ≤ c → used.entries ≤ first → (t : Trail) (w : Write) → FillsArray c first t w → Reshapes used NoMap G t w
fills-reshape used G c first above there t (EntryKey e k) h = le_trans there h
fills-reshape used G c first above there t (Reference e f) h = le_trans there h
fills-reshape used G c first above there t (Base x b) h = subst (λ (y : ℕ). used.maps ≤ y) (sym h) above
fills-reshape used G c first above there t (Array x a) h = subst (λ (y : ℕ). used.maps ≤ y) (sym h) above
fills-reshape used G c first above there t _ h = absurd h

pub filled-gets : (s : Shape) (used : Shape) (old new : Trail) (m c n f first : ℕ) (p : Option ℕ) (key : Key) (d : Detail) (G : ℕ → Detail → Type 0) → IsFilledChild s old new m c n f first p key d → used.maps ≤ c → used.fields ≤ f → used.entries ≤ first → G f d → Adds (Reshapes used NoMap G) old new
filled-gets s used old new m c n f first p key d G h above there b gets =
    adds-on (adds-on (adds-on (adds-on
    (adds-one old (Owner f c) there)
    (adds-one (Owner f c ∷ old) (FieldDetail f d) gets))
    (adds-one (FieldDetail f d ∷ Owner f c ∷ old) (Parent c (Some m)) above))
    (adds-one (Parent c (Some m) ∷ FieldDetail f d ∷ Owner f c ∷ old) (Prototype c p) above))
    (adds-wider (fills-reshape used G c first above b) h.filled)
