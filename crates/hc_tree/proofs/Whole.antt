-- Private copies that are whole: all their entries are written, and may be opened.
use Rattle.std.proofs.Common.{◌≡◌, ◌≢◌, ℕ, ◌+◌, ◌<◌, ◌≤◌, Bool, true, false, Option, Some, None, List, [], ◌∷◌, refl, sym, ap, ◌∙◌, subst, arith, nat_le, IfSome, IsSome, is_some, ⊎_elim, inl, inr, ◌⊎◌}
use Rattle.std.specs.Prelude.{IsSomeAnd}
use Rattle.std.proofs.lemmas.Bool.Decides.{nat_tests}
use Rattle.hc_layout.specs.declared.shape.Shape.{Shape}
use Rattle.hc_layout.specs.declared.words.GateWord.{GateWord}
use Rattle.hc_layout.specs.declared.words.MapBits.{MapBits}
use Rattle.hc_layout.specs.declared.words.RootWord.{RootWord}
use Rattle.hc_value.specs.declared.key.Key.{Key}
use Rattle.hc_value.specs.declared.field.Class.{Class}
use Rattle.hc_value.specs.declared.field.Class.TheVariants.{Of, Any}
use Rattle.hc_value.specs.declared.field.Detail.{Detail}
use Rattle.hc_value.specs.declared.prop.Kind.TheVariants.{AccessorProp}
use Rattle.hc_heap.specs.Writes.{Trail, Write, Gate, Parent, Prototype, Base, Array, EntryKey, Reference, Owner, FieldDetail}
use Rattle.hc_heap.specs.Readings.{gate_in, parent_in, prototype_in, bits_in, base_in, root_in, owner_in, detail_in}
use Rattle.hc_heap.specs.Lawful.{IsClassThere, IsField, Lawful, HaveEntries}
use Rattle.hc_heap.specs.States.{AreArraysThere}
use Rattle.hc_heap.specs.Kept.{Adds, GoesOn}
use Rattle.hc_heap.specs.Frames.{adds-one, adds-on, adds-wider, same-after, goes-on-of}
use Rattle.hc_descs.specs.Entries.{key_at, field_at, count_of, entries_in, LacksName}
use Rattle.hc_links.specs.Chains.{links_in}
use Rattle.hc_tree.specs.Kept.{MapsAreKept, MapsStay}
use Rattle.hc_tree.specs.Tree.{gate_with, tagged_field, HaveTaggedAccessors, IsProperKey, IsTree}
use Rattle.hc_tree.specs.Growth.{EndsWith, MakesMap}
use Rattle.hc_tree.specs.Copying.{More, MayBeLast, detail_of, copied_count, FillsCopy, IsClosed, IsWhole, IsLikeField, HasCopied, HasMore, IsPrivateCopy, with_closed}
use Rattle.hc_tree.proofs.Arrays.{filled-array}
use Rattle.hc_tree.proofs.Keeping.{same-lives, tree-kept}
use Rattle.hc_tree.proofs.Fresh.{self}
use Rattle.hc_tree.proofs.Made.{some-with, and-then}

-- What filling a new map leaves as it was

pub record MapReadings : Type 0 where
  pub gates : ℕ → Option GateWord
  pub parents : ℕ → Option (Option ℕ)
  pub prototypes : ℕ → Option (Option ℕ)
  pub bits : ℕ → MapBits
  pub links : ℕ → List ℕ
  pub roots : ℕ → RootWord

abbrev pub maps_in : Trail → MapReadings
maps_in t = record { gates = gate_in t; parents = parent_in t; prototypes = prototype_in t; bits = bits_in t; links = links_in t; roots = root_in t }

maps-step : (c e f : ℕ) (t : Trail) (w : Write) → FillsCopy c e f t w → maps_in (w ∷ t) ≡ maps_in t
maps-step c e f t (EntryKey x key) h = refl
maps-step c e f t (Reference x y) h = refl
maps-step c e f t (Base m b) h = refl
maps-step c e f t (Array m a) h = refl
maps-step c e f t (Owner x m) h = refl
maps-step c e f t (FieldDetail x d) h = refl
maps-step c e f t _ h = absurd h

pub maps-same : (c e f : ℕ) (a b : Trail) → Adds (FillsCopy c e f) a b → maps_in b ≡ maps_in a
maps-same c e f a b h = same-after maps_in (maps-step c e f) h

-- the tree stays sound while a new map is filled
pub fill-tree : MapsAreKept → (s : Shape) (a b : Trail) (c e f : ℕ) → Lawful s a → Lawful s b → Adds (FillsCopy c e f) a b → AreArraysThere e a → IsClosed a c → IsTree a → IsTree b
fill-tree law s a b c e f before after h there closed tree =
    let same = maps-same c e f a b h in
    tree-kept a b (law s a b before (goes-on-of s h after)) (same-lives a b (λ x. ap (λ (r : MapReadings). (r.bits x).deprecated) same)) (λ x. ap (λ (r : MapReadings). r.links x) same)
    (λ x. ap (λ (r : MapReadings). r.gates x) same) (λ o. ap (λ (r : MapReadings). (r.roots o).map) same)
    (λ m g is has. filled-array c e f m (λ e'. no-gate g (gate_in a c) closed.gate (ap (gate_in a) e' ∙ is)) a b g.entries h there has) tree
  where
    no-gate : (g : GateWord) (o : Option GateWord) → o ≡ None → o ≡ Some g → ⊥
    no-gate g o x y = cc

-- a map stays closed while it is filled
pub fill-closed : (a b : Trail) (c e f : ℕ) → Adds (FillsCopy c e f) a b → IsClosed a c → IsClosed b c
fill-closed a b c e f h closed =
    let same = maps-same c e f a b h in
    record {
      gate = ap (λ (r : MapReadings). r.gates c) same ∙ closed.gate;
      links = ap (λ (r : MapReadings). r.links c) same ∙ closed.links;
      parent = ap (λ (r : MapReadings). r.parents c) same ∙ closed.parent;
      prototype = subst IsSome (sym (ap (λ (r : MapReadings). r.prototypes c) same)) closed.prototype;
    }

-- What the entries of a map keep to

-- an open map of a sound tree is whole
pub open-whole : MapsAreKept → (s : Shape) (t : Trail) (m n : ℕ) → Lawful s t → IsSomeAnd (gate_in t m) (λ g. g.entries ≡ n) → IsTree t → IsWhole t m n
open-whole law s t m n lawful some tree =
    let w = some-with (λ (g : GateWord). g.entries ≡ n) (gate_in t m) some in
    let g = w.0 in
    let is = w.1.0 in
    let same : g.entries ≡ n = w.1.1 in
    let goes : GoesOn s t t = record { more = []; is = refl; lawful = lawful } in
    let has = (law s t t lawful goes).opened m g is in
    let sound = tree.maps m g is in
    subst (λ (k : ℕ). IsWhole t m k) same (record {
      keys = has.entries.keys;
      fields = has.entries.fields;
      distinct = sound.distinct;
      proper = sound.proper;
      tagged = sound.tagged;
    })

same-some : {T : Type 0} (a b : T) (o : Option T) → o ≡ Some a → o ≡ Some b → a ≡ b
same-some a b o x y = cc

-- entries with the keys of a whole map, and with fields of their own
pub like-whole : (t : Trail) (c m n : ℕ) → IsWhole t m n → ((k : ℕ) → k < n → key_at t c k ≡ key_at t m k) → ((k : ℕ) → k < n → IsSomeAnd (field_at t c k) (λ f. IsField t f)) → HaveTaggedAccessors t c n → IsWhole t c n
like-whole t c m n h keys fields tagged = record {
  keys = λ k lt. subst IsSome (sym (keys k lt)) (h.keys k lt);
  fields = fields;
  distinct = λ i j ij jn a b ia jb. h.distinct i j ij jn a b (sym (keys i (omega arith)) ∙ ia) (sym (keys j jn) ∙ jb);
  proper = λ k key lt is. h.proper k key lt (sym (keys k lt) ∙ is);
  tagged = tagged;
}

-- a field like that of a whole map's entry
like-made : (t : Trail) (c m k f : ℕ) → IsSomeAnd (field_at t m k) (λ x. IsField t x) → IsLikeField t c m k f → IsField t f
like-made t c m k f some like =
    let w = some-with (λ (x : ℕ). IsField t x) (field_at t m k) some in
    record { owner = ap is_some like.owner; detail = subst IsSome (sym (like.detail ∙ ap (λ (o : Option ℕ). detail_of t o) w.1.0)) w.1.1.detail }

-- a field of an accessor that is like that of a whole map's entry
like-tagged : (t : Trail) (c m k n f : ℕ) (key : Key) → IsWhole t m n → k < n → key_at t m k ≡ Some key → key.kind ≡ AccessorProp → IsLikeField t c m k f → detail_in t f ≡ Some tagged_field
like-tagged t c m k n f key h lt is kind like =
    let w = some-with (λ (x : ℕ). IsField t x) (field_at t m k) (h.fields k lt) in
    like.detail ∙ (ap (λ (o : Option ℕ). detail_of t o) w.1.0 ∙ h.tagged k w.0 key lt is kind w.1.0)

-- the copied entries of a whole map
pub copied-whole : (fresh : Bool) (t : Trail) (c m n first : ℕ) → IsWhole t m n → HasCopied fresh t c m n first → IsWhole t c n
copied-whole true t c m n first h copied = like-whole t c m n h copied.entries.keys
    (λ k lt. subst (λ (o : Option ℕ). IsSomeAnd o (λ f. IsField t f)) (sym (copied.entries.fields k lt)) (like-made t c m k (first + k) (h.fields k lt) (copied.made k lt)))
    (λ k f key lt is kind at.
    subst (λ (x : ℕ). detail_in t x ≡ Some tagged_field) (same-some (first + k) f (field_at t c k) (copied.entries.fields k lt) at)
    (like-tagged t c m k n (first + k) key h lt (sym (copied.entries.keys k lt) ∙ is) kind (copied.made k lt)))
copied-whole false t c m n first h copied = like-whole t c m n h copied.keys
    (λ k lt. subst (λ (o : Option ℕ). IsSomeAnd o (λ f. IsField t f)) (sym (copied.fields k lt)) (h.fields k lt))
    (λ k f key lt is kind at. h.tagged k f key lt (sym (copied.keys k lt) ∙ is) kind (sym (copied.fields k lt) ∙ at))

pub copied-keys : (fresh : Bool) (t : Trail) (c m n first : ℕ) → HasCopied fresh t c m n first → (k : ℕ) → k < n → key_at t c k ≡ key_at t m k
copied-keys true t c m n first h k lt = h.entries.keys k lt
copied-keys false t c m n first h k lt = h.keys k lt

-- below one more: below, or the last
pub last-or : (k n : ℕ) → k < n + 1 → (k < n) ⊎ (k ≡ n)
last-or k n lt = which (nat_le n k) refl
  where
    which : (b : Bool) → nat_le n k ≡ b → (k < n) ⊎ (k ≡ n)
    which true e = inr (grind (arith, nat_tests, e, lt))
    which false e = inl (grind (arith, nat_tests, e, lt))

other-name : (o : Option Key) (name : ℕ) (a : Key) → IsSomeAnd o (λ key. key.name ≢ name) → o ≡ Some a → a.name ≢ name
other-name (Some x) name a h e = let same : x ≡ a = cc in subst (λ (y : Key). y.name ≢ name) same h
other-name None name a h e = absurd h

-- a whole map with one entry more
pub one-more : (t : Trail) (c n : ℕ) (key : Key) → IsWhole t c n → key_at t c n ≡ Some key → IsProperKey key → LacksName t c n key.name → IsSomeAnd (field_at t c n) (λ f. IsField t f)
    → (key.kind ≡ AccessorProp → (f : ℕ) → field_at t c n ≡ Some f → detail_in t f ≡ Some tagged_field) → IsWhole t c (n + 1)
one-more t c n key h last proper lacks field tagged = record {
  keys = λ k lt. ⊎_elim (λ (below : k < n). h.keys k below) (λ (is : k ≡ n). subst (λ (x : ℕ). IsSome (key_at t c x)) (sym is) (ap is_some last)) (last-or k n lt);
  fields = λ k lt. ⊎_elim (λ (below : k < n). h.fields k below) (λ (is : k ≡ n). subst (λ (x : ℕ). IsSomeAnd (field_at t c x) (λ f. IsField t f)) (sym is) field) (last-or k n lt);
  distinct = λ i j ij jn a b ia jb. ⊎_elim (λ (below : j < n). h.distinct i j ij below a b ia jb)
      (λ (is : j ≡ n).
      let same : b ≡ key = same-some b key (key_at t c n) (ap (λ (x : ℕ). key_at t c x) (sym is) ∙ jb) last in
      let apart = other-name (key_at t c i) key.name a (lacks i (omega arith)) ia in
      subst (λ (x : Key). a.name ≢ x.name) (sym same) apart) (last-or j n jn);
  proper = λ k x lt is. ⊎_elim (λ (below : k < n). h.proper k x below is)
      (λ (end : k ≡ n).
      let same : x ≡ key = same-some x key (key_at t c n) (ap (λ (y : ℕ). key_at t c y) (sym end) ∙ is) last in
      subst IsProperKey (sym same) proper) (last-or k n lt);
  tagged = λ k f x lt is kind at. ⊎_elim (λ (below : k < n). h.tagged k f x below is kind at)
      (λ (end : k ≡ n).
      let same : x ≡ key = same-some x key (key_at t c n) (ap (λ (y : ℕ). key_at t c y) (sym end) ∙ is) last in
      tagged (subst (λ (y : Key). y.kind ≡ AccessorProp) same kind) f (ap (λ (y : ℕ). field_at t c y) (sym end) ∙ at)) (last-or k n lt);
}

-- what opens a whole map

pub whole-entries : (t : Trail) (c n : ℕ) → IsWhole t c n → HaveEntries t (base_in t c) n
whole-entries t c n h = record {
  keys = h.keys;
  fields = h.fields;
}

-- a filled map is whole

ends-made : (t : Trail) (c n : ℕ) (key : Key) (d : Detail) → EndsWith t c n key d → IsSomeAnd (field_at t c n) (λ f. IsField t f)
ends-made t c n key d h = and-then (λ (f : ℕ). (owner_in t f ≡ Some c) × (detail_in t f ≡ Some d)) (λ (f : ℕ). IsField t f) (field_at t c n) h.field
    (λ f is. record { owner = ap is_some is.0; detail = ap is_some is.1 })

ends-tagged : (t : Trail) (c n f : ℕ) (key : Key) (d : Detail) → d ≡ tagged_field → EndsWith t c n key d → field_at t c n ≡ Some f → detail_in t f ≡ Some tagged_field
ends-tagged t c n f key d tagged h is =
    let owned = subst (λ (o : Option ℕ). IsSomeAnd o (λ x. (owner_in t x ≡ Some c) × (detail_in t x ≡ Some d))) is h.field in
    owned.1 ∙ ap (λ (x : Detail). Some x) tagged

-- an entry of the copied map has the name that it had
lacks-kept : (a b : Trail) (c m n name : ℕ) → ((k : ℕ) → k < n → key_at b c k ≡ key_at a m k) → LacksName a m n name → LacksName b c n name
lacks-kept a b c m n name keys h = λ k lt. subst (λ (o : Option Key). IsSomeAnd o (λ key. key.name ≢ name)) (sym (keys k lt)) (h k lt)

pub more-whole : (s : Shape) (more : More) (a b : Trail) (c m n : ℕ) → IsWhole b c n → ((k : ℕ) → k < n → key_at b c k ≡ key_at a m k) → count_of a m ≡ n → IfSome more (λ e. MayBeLast s a m e.0 e.1) → HasMore more b c n → IsWhole b c (copied_count more n)
more-whole s None a b c m n h keys count may last = h
more-whole s (Some e) a b c m n h keys count may last =
    one-more b c n e.0 h last.last may.proper (lacks-kept a b c m n e.0.name keys (subst (λ (k : ℕ). LacksName a m k e.0.name) count may.lacks)) (ends-made b c n e.0 e.1 last)
    (λ kind f is. ends-tagged b c n f e.0 e.1 (may.accessor kind) last is)

-- a last entry may still come after those of a map while a new map is closed
pub may-still : (s : Shape) (more : More) (t : Trail) (m c : ℕ) (p : Option ℕ) → IfSome more (λ e. MayBeLast s t m e.0 e.1) → IfSome more (λ e. MayBeLast s (with_closed t p c) m e.0 e.1)
may-still s None t m c p h = tt
may-still s (Some e) t m c p h = record { form = h.form; proper = h.proper; lacks = h.lacks; accessor = h.accessor; class = h.class; there = class-still e.1.class h.there }
  where
    class-still : (k : Class) → IsClassThere s t k → IsClassThere s (with_closed t p c) k
    class-still (Of x) h = h
    class-still Any h = h

-- a filled map may be opened
pub filled-whole : MapsAreKept → (s : Shape) (fresh : Bool) (more : More) (a b : Trail) (c e f m n first : ℕ) → Lawful s a → Lawful s b → Adds (FillsCopy c e f) a b → IsSomeAnd (gate_in a m) (λ g. g.entries ≡ n)
    → AreArraysThere e a → IsClosed a c → IsTree a → IfSome more (λ x. MayBeLast s a m x.0 x.1) → HasCopied fresh b c m n first → HasMore more b c n → IsWhole b c (copied_count more n)
filled-whole law s fresh more a b c e f m n first before after h some there closed tree may copied last =
    let w = some-with (λ (g : GateWord). g.entries ≡ n) (gate_in a m) some in
    let is = w.1.0 in
    let same : w.0.entries ≡ n = w.1.1 in
    let kept : MapsStay a b = law s a b before (goes-on-of s h after) in
    let later : IsSomeAnd (gate_in b m) (λ g. g.entries ≡ n) = subst (λ (o : Option GateWord). IsSomeAnd o (λ g. g.entries ≡ n)) (sym (kept.written.gate m w.0 is)) same in
    let whole = copied-whole fresh b c m n first (open-whole law s b m n after later (fill-tree law s a b c e f before after h there closed tree)) copied in
    let count : count_of a m ≡ n = ap entries_in is ∙ same in
    more-whole s more a b c m n whole (λ k lt. copied-keys fresh b c m n first copied k lt ∙ (kept.entry m k w.0 is (omega arith)).key) count may last

-- What a private copy is, once it is opened

gate-copied : (fresh : Bool) (t : Trail) (g : GateWord) (c m n first : ℕ) → HasCopied fresh t c m n first → HasCopied fresh (Gate c g ∷ t) c m n first
gate-copied true t g c m n first h = record {
  entries = record { keys = h.entries.keys; fields = h.entries.fields };
  made = λ k lt. (let like = h.made k lt in record { owner = like.owner; detail = like.detail });
}
gate-copied false t g c m n first h = record { keys = h.keys; fields = h.fields }

gate-more : (more : More) (t : Trail) (g : GateWord) (c n : ℕ) → HasMore more t c n → HasMore more (Gate c g ∷ t) c n
gate-more None t g c n h = h
gate-more (Some e) t g c n h = record { last = h.last; field = h.field }

pub private-copy : (fresh : Bool) (more : More) (p : Option ℕ) (t : Trail) (c m n first : ℕ) → parent_in t c ≡ Some None → prototype_in t c ≡ Some p → HasCopied fresh t c m n first → HasMore more t c n
    → IsPrivateCopy fresh more p (Gate c (gate_with (copied_count more n) true) ∷ t) c m n first
private-copy fresh more p t c m n first parent prototype copied last =
    let g : GateWord = gate_with (copied_count more n) true in
    record {
      gate = self c (Some g) (gate_in t c);
      parent = parent;
      prototype = prototype;
      entries = gate-copied fresh t g c m n first copied;
      last = gate-more more t g c n last;
    }

-- the prototype of a closed map stays while it is filled
pub fill-prototype : (a b : Trail) (c e f : ℕ) (p : Option ℕ) → Adds (FillsCopy c e f) (with_closed a p c) b → prototype_in b c ≡ Some p
fill-prototype a b c e f p h = ap (λ (r : MapReadings). r.prototypes c) (maps-same c e f (with_closed a p c) b h) ∙ self c (Some p) (prototype_in a c)

-- its writes make a new map

makes-map : (used : Shape) (c : ℕ) → used.maps ≤ c → (t : Trail) (w : Write) → FillsCopy c used.entries used.fields t w → MakesMap used None t w
makes-map used c le t (EntryKey x key) h = h
makes-map used c le t (Reference x y) h = h
makes-map used c le t (Base m b) h = omega (arith, h, le)
makes-map used c le t (Array m a) h = omega (arith, h, le)
makes-map used c le t (Owner x m) h = h
makes-map used c le t (FieldDetail x d) h = h
makes-map used c le t _ h = absurd h

pub makes-copy : (used : Shape) (t b : Trail) (c n : ℕ) (p : Option ℕ) → used.maps ≤ c → Adds (FillsCopy c used.entries used.fields) (with_closed t p c) b → Adds (MakesMap used None) t (Gate c (gate_with n true) ∷ b)
makes-copy used t b c n p le h =
    let parent : Adds (MakesMap used None) t (Parent c None ∷ t) = adds-one t (Parent c None) le in
    let closed : Adds (MakesMap used None) t (with_closed t p c) = adds-on parent (adds-one (Parent c None ∷ t) (Prototype c p) le) in
    let filled : Adds (MakesMap used None) t b = adds-on closed (adds-wider (makes-map used c le) h) in
    adds-on filled (adds-one b (Gate c (gate_with n true)) le)
