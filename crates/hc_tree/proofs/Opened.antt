-- A child that is opened and linked to its parent, and the live child of a key.
use Rattle.std.proofs.Common.{◌≡◌, ℕ, ◌+◌, ◌<◌, ◌≤◌, Bool, true, false, cond, Option, Some, None, List, [], ◌∷◌, get_or, suc, refl, sym, ap, ◌∙◌, subst, arith, below_more, eqb, eqb-true, eq-eqb, true≢false, IfSome, IsSome, is_some, inl}
use Rattle.std.specs.Prelude.{IsTrue, IsSomeAnd, All}
use Rattle.hc_layout.specs.declared.shape.Shape.{Shape}
use Rattle.hc_layout.specs.declared.capacity.TheConstants.{MAX_FAST}
use Rattle.hc_layout.specs.declared.shape.Region.TheVariants.{Maps, Entries, Fields, Links, Slots}
use Rattle.hc_layout.specs.declared.words.GateWord.{GateWord}
use Rattle.hc_value.specs.declared.field.Detail.{Detail}
use Rattle.hc_value.specs.declared.key.Key.{Key}
use Rattle.hc_heap.specs.Writes.{Trail, Gate, Bits, Head, LinkKey, LinkChild, LinkNext}
use Rattle.hc_heap.specs.Readings.{gate_in, bits_in, head_in, owner_in, detail_in, link_key_in, link_child_in}
use Rattle.hc_heap.specs.Lawful.{Lawful, LawfulGate, IsField, IsChildBy, HasEntryFor}
use Rattle.hc_heap.specs.States.{View, IsHeap}
use Rattle.hc_heap.specs.Kept.{Adds, GoesOn, GatesAreOpen, IsOpen}
use Rattle.hc_heap.specs.Frames.{adds-none, adds-one, adds-on}
use Rattle.hc_descs.specs.Entries.{key_at, field_at, count_of, entries_in, LacksName}
use Rattle.hc_links.specs.Chains.{links_in, newest_of, child_of, is_key, same_key, linked}
use Rattle.hc_links.specs.Laws.{SameKeysAreEqual}
use Rattle.hc_tree.specs.Kept.{MapsAreKept}
use Rattle.hc_tree.specs.Tree.{gate_with, IsChildFor, IsSoundLink, IsDeadFor, HaveOneLive, IsTree}
use Rattle.hc_tree.specs.Details.{NoMap, Reshapes}
use Rattle.std.proofs.lemmas.Bool.Decides.{nat_tests}
use Rattle.hc_tree.specs.Growth.{MayGrow, MakesMap, EndsWith, IsReadyChild, live_of, live_child, child_need, marked}
use Rattle.hc_tree.specs.Needs.{HasSpace}
use Rattle.hc_tree.proofs.Begun.{grow-gate}
use Rattle.hc_tree.proofs.Keeping.{lives-case}
use Rattle.hc_tree.proofs.Growing.{all-put, is-child, link-tree, new-key, new-child, head-links, other-links}

-- The parent is made unstable

marked-case : (P : Trail → Type 0) (t u : Trail) (b : Bool) → P t → P u → P (cond b t u)
marked-case P t u true h k = h
marked-case P t u false h k = k

-- what holds of a trail, and after the bit is set, holds of the trail after the map was made unstable
pub marked-keeps : (P : Trail → Type 0) (t : Trail) (m : ℕ) → P t → P (Bits m (record { unstable = true; deprecated = (bits_in t m).deprecated }) ∷ t) → P (marked t m)
marked-keeps P t m h k = marked-case P t (Bits m (record { unstable = true; deprecated = (bits_in t m).deprecated }) ∷ t) (bits_in t m).unstable h k

-- what a child asks of its parent
pub record MayGetChild (t : Trail) (m n : ℕ) (key : Key) : Type 0 where
  pub grows : IsSomeAnd (gate_in t m) MayGrow
  pub count : n ≡ count_of t m
  pub live : (bits_in t m).deprecated ≡ false
  pub lacks : LacksName t m n key.name
  pub dead : All (IsDeadFor t (Some key)) (links_in t m)

pub same-life : (t : Trail) (m x : ℕ) → (bits_in (Bits m (record { unstable = true; deprecated = (bits_in t m).deprecated }) ∷ t) x).deprecated ≡ (bits_in t x).deprecated
same-life t m x = lives-case (record { unstable = true; deprecated = (bits_in t m).deprecated }) m x (bits_in t x) (eqb m x) refl (λ e. ap (λ (y : ℕ). (bits_in t y).deprecated) (eqb-true m x e))

dead-after : (t : Trail) (m : ℕ) (o : Option ℕ) → IfSome o (λ c. IsTrue (bits_in t c).deprecated) → IfSome o (λ c. IsTrue (bits_in (Bits m (record { unstable = true; deprecated = (bits_in t m).deprecated }) ∷ t) c).deprecated)
dead-after t m (Some c) h = same-life t m c ∙ h
dead-after t m None h = tt

pub marked-may : (t : Trail) (m n : ℕ) (key : Key) → MayGetChild t m n key → MayGetChild (marked t m) m n key
marked-may t m n key h = marked-keeps (λ (u : Trail). MayGetChild u m n key) t m h (record {
  grows = h.grows;
  count = h.count;
  live = same-life t m m ∙ h.live;
  lacks = h.lacks;
  dead = λ k d lt same. dead-after t m (link_child_in t (get_or (links_in t m) k d)) (h.dead k d lt same);
})

-- a map that was made unstable is
pub marked-unstable : (t : Trail) (m : ℕ) → IsTrue (bits_in (marked t m) m).unstable
marked-unstable t m = marked-is t m (bits_in t m).unstable refl
  where
    marked-is : (t : Trail) (m : ℕ) (b : Bool) → (bits_in t m).unstable ≡ b → IsTrue (bits_in (cond b t (Bits m (record { unstable = true; deprecated = (bits_in t m).deprecated }) ∷ t)) m).unstable
    marked-is t m true e = e
    marked-is t m false e = ap (λ (x : Bool). (cond x (record { unstable = true; deprecated = (bits_in t m).deprecated }) (bits_in t m)).unstable) (eq-eqb m m refl)

pub marked-writes : (used : Shape) (t : Trail) (m : ℕ) → Adds (MakesMap used (Some m)) t (marked t m)
marked-writes used t m = marked-keeps (λ (u : Trail). Adds (MakesMap used (Some m)) t u) t m (adds-none t) (adds-one t (Bits m (record { unstable = true; deprecated = (bits_in t m).deprecated })) (refl, refl))

pub marked-gets : (used : Shape) (G : ℕ → Detail → Type 0) (t : Trail) (m : ℕ) → Adds (Reshapes used NoMap G) t (marked t m)
marked-gets used G t m = marked-keeps (λ (u : Trail). Adds (Reshapes used NoMap G) t u) t m (adds-none t) (adds-one t (Bits m (record { unstable = true; deprecated = (bits_in t m).deprecated })) (inl refl))

-- The gate

some-field : (t : Trail) (o n : Option ℕ) → n ≡ o → IsSomeAnd o (λ f. IsField t f) → IsSomeAnd n (λ f. IsField t f)
some-field t o n e h = subst (λ (x : Option ℕ). IsSomeAnd x (λ f. IsField t f)) (sym e) h

-- the gate of a child that is ready
pub child-gate : GatesAreOpen → (s : Shape) (t : Trail) (m c n f : ℕ) (key : Key) → Lawful s t → n < MAX_FAST → IsReadyChild t m c n f key → LawfulGate s t c (gate_with (n + 1) false)
child-gate law s t m c n f key lawful few h =
    let whole : IsOpen t m (gate_with n false) = law s t m (gate_with n false) lawful h.is_open in
    let field : IsField t f = record { owner = ap is_some h.owner; detail = h.described } in
    record {
      unwritten = h.ready.unwritten;
      parent = ap is_some h.parent;
      prototype = subst (λ (o : Option (Option ℕ)). IsSome o) (sym h.prototype) whole.prototype;
      few = omega arith;
      entries = record {
        keys = below_more (λ (k : ℕ). IsSome (key_at t c k)) n
            (λ k lt. subst (λ (o : Option Key). IsSome o) (sym (h.entries.keys k lt)) (whole.entries.keys k lt))
            (ap is_some h.last);
        fields = below_more (λ (k : ℕ). IsSomeAnd (field_at t c k) (λ x. IsField t x)) n
            (λ k lt. some-field t (field_at t m k) (field_at t c k) (h.entries.fields k lt) (whole.entries.fields k lt))
            (subst (λ (o : Option ℕ). IsSomeAnd o (λ x. IsField t x)) (sym h.field) field);
      };
    }

self : {T : Type 0} (x : ℕ) (a b : T) → cond (eqb x x) a b ≡ a
self x a b = ap (λ (v : Bool). cond v a b) (eq-eqb x x refl)

-- an open child may be linked to its parent
pub child-by : (t : Trail) (m c n f : ℕ) (key : Key) → IsReadyChild t m c n f key → IsChildBy (Gate c (gate_with (n + 1) false) ∷ t) m c key
child-by t m c n f key h = record {
  gate = subst (λ (o : Option GateWord). IsSomeAnd o (λ g. HasEntryFor key g)) (sym (self c (Some (gate_with (n + 1) false)) (gate_in t c))) (λ is. omega arith);
  parent = h.parent;
}

-- The link

same-itself : SameKeysAreEqual → (key : Key) → same_key key key ≡ true
same-itself law key = (law key key).1 refl

-- the new child is the live one
pub linked-live : SameKeysAreEqual → (t : Trail) (m c n l f : ℕ) (key : Key) → IsReadyChild t m c n f key → live_child (linked (Gate c (gate_with (n + 1) false) ∷ t) m l key c) m key ≡ Some c
linked-live law t m c n l f key h = ap (live_of new) found ∙ alive
  where
    new : Trail
    new = linked (Gate c (gate_with (n + 1) false) ∷ t) m l key c

    found : child_of new m key ≡ Some c
    found = ap (λ (ls : List ℕ). newest_of new ls key) (head-links t m c n l f key) ∙ (ap (λ (b : Bool). cond b (link_child_in new l) (newest_of new (links_in t m) key)) (ap (λ (o : Option Key). is_key o key) (new-key t m c n l f key) ∙ same-itself law key) ∙ new-child t m c n l f key)

    alive : live_of new (Some c) ≡ Some c
    alive = ap (λ (b : Bool). cond b None (Some c)) h.young

-- what the new child ends with
pub child-ends : (t : Trail) (m c n l f : ℕ) (key : Key) (d : Detail) → IsReadyChild t m c n f key → detail_in t f ≡ Some d → EndsWith (linked (Gate c (gate_with (n + 1) false) ∷ t) m l key c) c n key d
child-ends t m c n l f key d h is = record {
  last = h.last;
  field = subst (λ (o : Option ℕ). IsSomeAnd o (λ x. (owner_in t x ≡ Some c) × (detail_in t x ≡ Some d))) (sym h.field) (h.owner, is);
}

pub linked-writes : (used : Shape) (t : Trail) (m c l : ℕ) (g : GateWord) (key : Key) → used.maps ≤ c → used.links ≤ l → Adds (MakesMap used (Some m)) t (linked (Gate c g ∷ t) m l key c)
linked-writes used t m c l g key above there =
    adds-on (adds-on (adds-on (adds-on
    (adds-one t (Gate c g) above)
    (adds-one (Gate c g ∷ t) (LinkKey l key) there))
    (adds-one (LinkKey l key ∷ Gate c g ∷ t) (LinkChild l c) there))
    (adds-one (LinkChild l c ∷ LinkKey l key ∷ Gate c g ∷ t) (LinkNext l (head_in t m)) there))
    (adds-one (LinkNext l (head_in t m) ∷ LinkChild l c ∷ LinkKey l key ∷ Gate c g ∷ t) (Head m (Some l)) refl)

pub linked-gets : (used : Shape) (G : ℕ → Detail → Type 0) (t : Trail) (m c l : ℕ) (g : GateWord) (key : Key) → used.maps ≤ c → used.links ≤ l → Adds (Reshapes used NoMap G) t (linked (Gate c g ∷ t) m l key c)
linked-gets used G t m c l g key above there =
    adds-on (adds-on (adds-on (adds-on
    (adds-one t (Gate c g) above)
    (adds-one (Gate c g ∷ t) (LinkKey l key) there))
    (adds-one (LinkKey l key ∷ Gate c g ∷ t) (LinkChild l c) there))
    (adds-one (LinkChild l c ∷ LinkKey l key ∷ Gate c g ∷ t) (LinkNext l (head_in t m)) there))
    (adds-one (LinkNext l (head_in t m) ∷ LinkChild l c ∷ LinkKey l key ∷ Gate c g ∷ t) (Head m (Some l)) tt)

-- the new child has no link
pub child-bare : (t : Trail) (m c n l f : ℕ) (key : Key) → IsReadyChild t m c n f key → links_in (linked (Gate c (gate_with (n + 1) false) ∷ t) m l key c) c ≡ []
child-bare t m c n l f key h = other-links t m c n l f key c (apart m c h.younger) ∙ h.ready.unlinked
  where
    apart : (m c : ℕ) → m < c → eqb m c ≡ false
    apart m c lt = grind (arith, nat_tests, lt)

-- The newest child of a sound map

pub key-of : SameKeysAreEqual → (o : Option Key) (k key : Key) → o ≡ Some k → is_key o key ≡ true → k ≡ key
key-of law (Some x) k key e test = let same : x ≡ k = cc in sym same ∙ (law x key).0 test
key-of law None k key e test = absurd (true≢false (sym test))

pub not-key : SameKeysAreEqual → (o : Option Key) (key : Key) → is_key o key ≡ false → o ≡ Some key → ⊥
not-key law o key test e = true≢false (sym (ap (λ (x : Option Key). is_key x key) e ∙ same-itself law key) ∙ test)

newest-case : SameKeysAreEqual → (t : Trail) (m : ℕ) (g : GateWord) (l : ℕ) (key : Key) (c : ℕ) (rest : Option ℕ) (b : Bool) → is_key (link_key_in t l) key ≡ b → IsSoundLink t m g l → cond b (link_child_in t l) rest ≡ Some c → (rest ≡ Some c → IsChildFor t m g c key) → IsChildFor t m g c key
newest-case law t m g l key c rest true test h e below =
    let child : h.child ≡ c = child-of (link_child_in t l) h.child c h.is_child e in
    subst (λ (x : Key). IsChildFor t m g c x) (key-of law (link_key_in t l) h.key key h.is_key test) (subst (λ (x : ℕ). IsChildFor t m g x h.key) child h.sound)
  where
    child-of : (o : Option ℕ) (x y : ℕ) → o ≡ Some x → o ≡ Some y → x ≡ y
    child-of o x y p q = cc
newest-case law t m g l key c rest false test h e below = below e

-- the newest child for a key is a child for it
pub newest-sound : SameKeysAreEqual → (t : Trail) (m : ℕ) (g : GateWord) (ls : List ℕ) (key : Key) (c : ℕ) → All (IsSoundLink t m g) ls → newest_of t ls key ≡ Some c → IsChildFor t m g c key
newest-sound law t m g [] key c h e = let n : ⊥ = cc in absurd n
newest-sound law t m g (l ∷ ls) key c h e =
    newest-case law t m g l key c (newest_of t ls key) (is_key (link_key_in t l) key) refl (h 0 l (omega arith)) e
    (λ (is : newest_of t ls key ≡ Some c). newest-sound law t m g ls key c (λ k d lt. h (suc k) d (omega arith)) is)

is-dead : (t : Trail) (x : ℕ) (b : Bool) → (bits_in t x).deprecated ≡ b → cond b None (Some x) ≡ None → IsTrue (bits_in t x).deprecated
is-dead t x true e h = e
is-dead t x false e h = let n : ⊥ = cc in absurd n

dead-case : SameKeysAreEqual → (t : Trail) (m : ℕ) (g : GateWord) (l : ℕ) (ls : List ℕ) (key : Key) (b : Bool) → is_key (link_key_in t l) key ≡ b → IsSoundLink t m g l → All (IsDeadFor t (link_key_in t l)) ls
    → live_of t (cond b (link_child_in t l) (newest_of t ls key)) ≡ None → (live_of t (newest_of t ls key) ≡ None → All (IsDeadFor t (Some key)) ls) → All (IsDeadFor t (Some key)) (l ∷ ls)
dead-case law t m g l ls key true test h others e below =
    let same = key-of law (link_key_in t l) h.key key h.is_key test in
    let gone : IsTrue (bits_in t h.child).deprecated = is-dead t h.child (bits_in t h.child).deprecated refl (ap (live_of t) (sym h.is_child) ∙ e) in
    all-put (IsDeadFor t (Some key)) l ls
    (λ _. subst (λ (o : Option ℕ). IfSome o (λ c. IsTrue (bits_in t c).deprecated)) (sym h.is_child) gone)
    (subst (λ (o : Option Key). All (IsDeadFor t o) ls) (h.is_key ∙ ap (λ (k : Key). Some k) same) others)
dead-case law t m g l ls key false test h others e below =
    all-put (IsDeadFor t (Some key)) l ls (λ is. absurd (not-key law (link_key_in t l) key test is)) (below e)

-- where no child for a key is live, all are dead
pub all-dead : SameKeysAreEqual → (t : Trail) (m : ℕ) (g : GateWord) (ls : List ℕ) (key : Key) → All (IsSoundLink t m g) ls → HaveOneLive t ls → live_of t (newest_of t ls key) ≡ None → All (IsDeadFor t (Some key)) ls
all-dead law t m g [] key h one e = λ k d lt. absurd (omega arith)
all-dead law t m g (l ∷ ls) key h one e =
    dead-case law t m g l ls key (is_key (link_key_in t l) key) refl (h 0 l (omega arith)) one.0 e
    (λ (is : live_of t (newest_of t ls key) ≡ None). all-dead law t m g ls key (λ k d lt. h (suc k) d (omega arith)) one.1 is)

pub live-is : (t : Trail) (o : Option ℕ) (c : ℕ) → live_of t o ≡ Some c → o ≡ Some c
live-is t (Some x) c e = live-case (bits_in t x).deprecated e
  where
    live-case : (b : Bool) → cond b None (Some x) ≡ Some c → Some x ≡ Some c
    live-case true h = let n : ⊥ = cc in absurd n
    live-case false h = h
live-is t None c e = let n : ⊥ = cc in absurd n

-- a live child is a child for its key
pub live-child : SameKeysAreEqual → (t : Trail) (m : ℕ) (g : GateWord) (key : Key) (c : ℕ) → IsTree t → gate_in t m ≡ Some g → live_child t m key ≡ Some c → IsChildFor t m g c key
live-child law t m g key c tree gate e = newest-sound law t m g (links_in t m) key c (tree.maps m g gate).links (live-is t (child_of t m key) c e)

-- the tree with the new child, and the child in it
pub linked-tree : MapsAreKept → (s : Shape) (t : Trail) (m c n l f : ℕ) (key : Key) → Lawful s t → Lawful s (linked (Gate c (gate_with (n + 1) false) ∷ t) m l key c) → IsReadyChild t m c n f key → IsTree t
    → IsTree (linked (Gate c (gate_with (n + 1) false) ∷ t) m l key c) × IsSomeAnd (gate_in (linked (Gate c (gate_with (n + 1) false) ∷ t) m l key c) m) (λ g. IsChildFor (linked (Gate c (gate_with (n + 1) false) ∷ t) m l key c) m g c key)
linked-tree law s t m c n l f key before after h tree =
    let goes : GoesOn s t (linked (Gate c (gate_with (n + 1) false) ∷ t) m l key c) = record { more = Head m (Some l) ∷ LinkNext l (head_in t m) ∷ LinkChild l c ∷ LinkKey l key ∷ Gate c (gate_with (n + 1) false) ∷ []; is = refl; lawful = after } in
    let kept = law s t (linked (Gate c (gate_with (n + 1) false) ∷ t) m l key c) before goes in
    let gate = kept.written.gate m (gate_with n false) h.is_open in (
      link-tree t m c n l f key kept h tree,
      subst (λ (o : Option GateWord). IsSomeAnd o (λ g. IsChildFor (linked (Gate c (gate_with (n + 1) false) ∷ t) m l key c) m g c key)) (sym gate) (is-child t m c n l f key h),
    )

-- a map that may grow has few entries
pub few-of : (o : Option GateWord) (n : ℕ) → IsSomeAnd o MayGrow → n ≡ entries_in o → n < MAX_FAST
few-of (Some g) n h e = subst (λ (x : ℕ). x < MAX_FAST) (sym e) h.few
few-of None n h e = absurd h

-- the live child of a map that may grow
pub found-child : SameKeysAreEqual → (t : Trail) (m : ℕ) (key : Key) (c : ℕ) → IsTree t → IsSomeAnd (gate_in t m) MayGrow → live_child t m key ≡ Some c → IsSomeAnd (gate_in t m) (λ g. IsChildFor t m g c key)
found-child law t m key c tree grows live =
    let gate = grow-gate (gate_in t m) grows in
    subst (λ (o : Option GateWord). IsSomeAnd o (λ g. IsChildFor t m g c key)) (sym gate) (live-child law t m (gate_with (count_of t m) false) key c tree gate live)

pub found-dead : SameKeysAreEqual → (t : Trail) (m : ℕ) (key : Key) → IsTree t → IsSomeAnd (gate_in t m) MayGrow → live_child t m key ≡ None → All (IsDeadFor t (Some key)) (links_in t m)
found-dead law t m key tree grows live =
    let g : GateWord = gate_with (count_of t m) false in
    let sound = tree.maps m g (grow-gate (gate_in t m) grows) in
    all-dead law t m g (links_in t m) key sound.links sound.live live

-- a child that is there needs nothing
pub child-space : (v : View) → IsHeap v → (known : Option ℕ) (c n : ℕ) → known ≡ Some c → HasSpace v (child_need known n)
child-space v h (Some q) c n e = let a = h.most Maps in let b = h.most Entries in let d = h.most Fields in let f = h.most Links in let k = h.most Slots in
    record { maps = omega arith; entries = omega arith; fields = omega arith; links = omega arith; slots = omega arith }
child-space v h None c n e = let x : ⊥ = cc in absurd x
