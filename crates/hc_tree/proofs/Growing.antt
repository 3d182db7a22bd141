-- The tree stays sound where a map is opened, alone or as a new child.
use Rattle.std.proofs.Common.{◌≡◌, ℕ, zero, suc, ◌+◌, ◌<◌, Bool, true, false, cond, Option, Some, None, List, [], ◌∷◌, refl, sym, ap, ◌∙◌, subst, arith, eqb, eqb-true, eq-eqb, true≢false}
use Rattle.std.specs.Prelude.{IsSomeAnd, All, Contains}
use Rattle.std.proofs.lemmas.Bool.Decides.{nat_tests}
use Rattle.hc_layout.specs.declared.words.GateWord.{GateWord}
use Rattle.hc_value.specs.declared.key.Key.{Key}
use Rattle.hc_heap.specs.Writes.{Trail, Gate, Root}
use Rattle.hc_heap.specs.Readings.{gate_in, parent_in, owner_in, link_key_in, link_child_in, root_in}
use Rattle.hc_links.specs.Chains.{links_in, linked}
use Rattle.hc_tree.specs.Kept.{MapsStay}
use Rattle.hc_descs.specs.Entries.{field_at}
use Rattle.hc_tree.specs.Tree.{gate_with, HaveOnePlace, IsRoot, IsChildFor, IsSoundLink, IsDeadFor, HaveOneLive, IsLedTo, IsBare, IsSoundMap, IsTree}
use Rattle.hc_tree.specs.Growth.{IsPlaced, IsReady, IsReadyChild}
use Rattle.hc_tree.proofs.Keeping.{Lives, same-lives, array-kept, map-kept, links-kept, live-kept, dead-all, root-kept}

none-some : {T : Type 0} (v : T) → None ≡ Some v → ⊥
none-some v e = cc

no-links : (P : ℕ → Type 0) (ls : List ℕ) → ls ≡ [] → All P ls
no-links P ls e = subst (All P) (sym e) (λ k d lt. absurd (omega arith))

-- a gate that is read after one more was written is that one, or was there before
gate-case : (P : ℕ → GateWord → Type 0) (old : Option GateWord) (c m : ℕ) (g h : GateWord) (b : Bool) → eqb c m ≡ b → cond b (Some g) old ≡ Some h → P c g → (eqb c m ≡ false → old ≡ Some h → P m h) → P m h
gate-case P old c m g h true e is here there =
    let same : g ≡ h = cc in
    subst (P m) same (subst (λ (x : ℕ). P x g) (eqb-true c m e) here)
gate-case P old c m g h false e is here there = there e is

-- each field has one place, also after a map was opened whose fields stand at theirs
places-opened : (t : Trail) (c : ℕ) (g : GateWord) → HaveOnePlace t → IsPlaced t c g.entries → (m n : ℕ) (a b : GateWord) (i j f : ℕ) → gate_in (Gate c g ∷ t) m ≡ Some a → gate_in (Gate c g ∷ t) n ≡ Some b
    → i < a.entries → j < b.entries → field_at t m i ≡ Some f → field_at t n j ≡ Some f → i ≡ j
places-opened t c g places placed m n a b i j f em en li lj fi fj =
    gate-case (λ (x : ℕ) (k : GateWord). i < k.entries → field_at t x i ≡ Some f → i ≡ j) (gate_in t m) c m g a (eqb c m) refl em
    (λ li' fi'. gate-case (λ (x : ℕ) (k : GateWord). j < k.entries → field_at t x j ≡ Some f → i ≡ j) (gate_in t n) c n g b (eqb c n) refl en
    (λ lj' fj'. placed.own i j f li' lj' fi' fj')
    (λ _ was lj' fj'. placed.others n b i j f was li' lj' fi' fj') lj fj)
    (λ _ had li' fi'. gate-case (λ (x : ℕ) (k : GateWord). j < k.entries → field_at t x j ≡ Some f → i ≡ j) (gate_in t n) c n g b (eqb c n) refl en
    (λ lj' fj'. sym (placed.others m a j i f had lj' li' fj' fi'))
    (λ _ was lj' fj'. places m n a b i j f had was li' lj' fi' fj') lj fj) li fi

-- a map that is nobody's child is opened
pub open-tree : (t : Trail) (c : ℕ) (g : GateWord) → MapsStay t (Gate c g ∷ t) → IsSoundMap (Gate c g ∷ t) c g → IsPlaced t c g.entries → IsTree t → IsTree (Gate c g ∷ t)
open-tree t c g kept here placed h =
    let new : Trail = Gate c g ∷ t in
    let lives : Lives t new = same-lives t new (λ x. refl) in
    record {
      maps = λ m k e. gate-case (IsSoundMap new) (gate_in t m) c m g k (eqb c m) refl e here
          (λ other was.
          let sound = h.maps m k was in
          map-kept t new kept lives (λ x l there. there) m k was sound sound.unlinked
          (links-kept t new kept lives m k (links_in t m) was sound.links)
          (live-kept t new kept lives m k (links_in t m) sound.links sound.live)
          (array-kept t new m k.entries refl refl (λ x. refl) (λ x. refl) sound.array));
      roots = λ o r is. root-kept t new kept lives (Some o) r (h.roots o r is);
      places = places-opened t c g h.places placed;
    }

-- a private map, or one without an entry, is sound when it is opened
pub alone-sound : (t : Trail) (c n : ℕ) (private : Bool) → IsReady t c n → parent_in t c ≡ Some None → (private ≡ false → IsBare t c (gate_with n private)) → IsSoundMap (Gate c (gate_with n private) ∷ t) c (gate_with n private)
alone-sound t c n private h parent bare = record {
  distinct = h.distinct;
  proper = h.proper;
  tagged = h.tagged;
  array = array-kept t (Gate c (gate_with n private) ∷ t) c n refl refl (λ x. refl) (λ x. refl) h.array;
  unlocked = refl;
  alone = λ is. parent;
  unlinked = λ is. h.unlinked;
  links = no-links (IsSoundLink (Gate c (gate_with n private) ∷ t) c (gate_with n private)) (links_in t c) h.unlinked;
  live = subst (λ (ls : List ℕ). HaveOneLive (Gate c (gate_with n private) ∷ t) ls) (sym h.unlinked) tt;
  child = λ p is. let n : ⊥ = cc in absurd n;
  root = λ shared is. let b = bare shared in record { entries = b.entries; live = b.live };
}

-- a root is named by its prototype
pub named-root : (t : Trail) (o r : ℕ) (mark : Bool) → MapsStay t (Root o (record { is_proto = mark; map = Some r }) ∷ t) → IsRoot t (Some o) r → IsTree t → IsTree (Root o (record { is_proto = mark; map = Some r }) ∷ t)
named-root t o r mark kept root h =
    let new : Trail = Root o (record { is_proto = mark; map = Some r }) ∷ t in
    let lives : Lives t new = same-lives t new (λ x. refl) in
    record {
      maps = λ m k e.
          let sound = h.maps m k e in
          map-kept t new kept lives (λ x l there. there) m k e sound sound.unlinked
          (links-kept t new kept lives m k (links_in t m) e sound.links)
          (live-kept t new kept lives m k (links_in t m) sound.links sound.live)
          (array-kept t new m k.entries refl refl (λ x. refl) (λ x. refl) sound.array);
      places = h.places;
      roots = λ p q is. root-case t o r mark p q (eqb o p) refl is (root-kept t new kept lives (Some o) r root) (λ was. root-kept t new kept lives (Some p) q (h.roots p q was));
    }
  where
    root-case : (t : Trail) (o r : ℕ) (mark : Bool) (p q : ℕ) (b : Bool) → eqb o p ≡ b → (cond b (record { is_proto = mark; map = Some r }) (root_in t p)).map ≡ Some q → IsRoot (Root o (record { is_proto = mark; map = Some r }) ∷ t) (Some o) r
        → ((root_in t p).map ≡ Some q → IsRoot (Root o (record { is_proto = mark; map = Some r }) ∷ t) (Some p) q) → IsRoot (Root o (record { is_proto = mark; map = Some r }) ∷ t) (Some p) q
    root-case t o r mark p q true e is here before = let same : r ≡ q = cc in subst (λ (x : ℕ). IsRoot (Root o (record { is_proto = mark; map = Some r }) ∷ t) (Some p) x) same (subst (λ (x : ℕ). IsRoot (Root o (record { is_proto = mark; map = Some r }) ∷ t) (Some x) r) (eqb-true o p e) here)
    root-case t o r mark p q false e is here before = before is

-- a list with one element in front
pub all-put : (P : ℕ → Type 0) (l : ℕ) (ls : List ℕ) → P l → All P ls → All P (l ∷ ls)
all-put P l ls here rest zero d lt = here
all-put P l ls here rest (suc k) d lt = rest k d (omega arith)

contains-put : (l x : ℕ) (ls : List ℕ) → Contains ls x → Contains (l ∷ ls) x
contains-put l x ls h = (suc h.0, omega arith, h.2)

cond-true : {T : Type 0} (b : Bool) (x y : T) → b ≡ true → cond b x y ≡ x
cond-true b x y e = ap (λ (v : Bool). cond v x y) e

cond-false : {T : Type 0} (b : Bool) (x y : T) → b ≡ false → cond b x y ≡ y
cond-false b x y e = ap (λ (v : Bool). cond v x y) e

test-case : (P : Bool → Type 0) (b : Bool) → (b ≡ true → P true) → (b ≡ false → P false) → P b
test-case P true h k = h refl
test-case P false h k = k refl

module _ (t : Trail) (m c n l f : ℕ) (key : Key) where
  abbrev new : Trail
  new = linked (Gate c (gate_with (n + 1) false) ∷ t) m l key c

  same-self : (x : ℕ) → eqb x x ≡ true
  same-self x = eq-eqb x x refl

  pub head-links : links_in new m ≡ l ∷ links_in t m
  head-links = cond-true (eqb m m) (l ∷ links_in t m) (links_in t m) (same-self m)

  pub other-links : (x : ℕ) → eqb m x ≡ false → links_in new x ≡ links_in t x
  other-links x e = cond-false (eqb m x) (l ∷ links_in t x) (links_in t x) e

  more-links : (x k : ℕ) → Contains (links_in t x) k → Contains (links_in new x) k
  more-links x k h = test-case (λ (b : Bool). Contains (cond b (l ∷ links_in t x) (links_in t x)) k) (eqb m x) (λ _. contains-put l k (links_in t x) h) (λ _. h)

  pub new-key : link_key_in new l ≡ Some key
  new-key = cond-true (eqb l l) (Some key) (link_key_in t l) (same-self l)

  pub new-child : link_child_in new l ≡ Some c
  new-child = cond-true (eqb l l) (Some c) (link_child_in t l) (same-self l)

  new-gate : gate_in new c ≡ Some (gate_with (n + 1) false)
  new-gate = cond-true (eqb c c) (Some (gate_with (n + 1) false)) (gate_in t c) (same-self c)

  pub is-child : IsReadyChild t m c n f key → IsChildFor new m (gate_with n false) c key
  is-child h = record {
    younger = h.younger;
    gate = new-gate;
    parent = h.parent;
    prototype = h.prototype;
    entries = record { keys = h.entries.keys; fields = h.entries.fields };
    last = h.last;
    field = subst (λ (o : Option ℕ). IsSomeAnd o (λ x. owner_in t x ≡ Some c)) (sym h.field) h.owner;
    deprecated = λ d. absurd (true≢false (sym d ∙ h.live));
  }

  child-sound : IsReadyChild t m c n f key → gate_in new m ≡ Some (gate_with n false) → eqb m c ≡ false → IsSoundMap new c (gate_with (n + 1) false)
  child-sound h opened other =
      let none : links_in new c ≡ [] = other-links c other ∙ h.ready.unlinked in
      record {
        distinct = h.ready.distinct;
        proper = h.ready.proper;
        tagged = h.ready.tagged;
        array = array-kept t new c (n + 1) refl refl (λ x. refl) (λ x. refl) h.ready.array;
        unlocked = refl;
        alone = λ is. absurd (true≢false (sym is));
        unlinked = λ is. absurd (true≢false (sym is));
        links = no-links (IsSoundLink new c (gate_with (n + 1) false)) (links_in new c) none;
        live = subst (λ (ls : List ℕ). HaveOneLive new ls) (sym none) tt;
        child = λ p is.
            let same : m ≡ p = parent-is m p (parent_in t c) h.parent is in
            subst (λ (q : ℕ). IsLedTo new q c) same (record {
              link = l;
              there = subst (λ (ls : List ℕ). Contains ls l) (sym head-links) (0, omega arith, refl);
              leads = new-child;
              gate = gate_with n false;
              is_open = opened;
            });
        root = λ shared is. absurd (some-none m (parent_in t c) h.parent is);
      }
    where
      parent-is : (m p : ℕ) (o : Option (Option ℕ)) → o ≡ Some (Some m) → o ≡ Some (Some p) → m ≡ p
      parent-is m p o a b = cc

      some-none : (m : ℕ) (o : Option (Option ℕ)) → o ≡ Some (Some m) → o ≡ Some None → ⊥
      some-none m o a b = cc

  -- a map that is ready is opened, and linked to its parent
  pub link-tree : MapsStay t new → IsReadyChild t m c n f key → IsTree t → IsTree new
  link-tree kept h tree =
      let lives : Lives t new = same-lives t new (λ x. refl) in
      let g : GateWord = gate_with n false in
      let apart : eqb m c ≡ false = grind (arith, nat_tests, h.younger) in
      let opened = kept.written.gate m g h.is_open in
      let sound = tree.maps m g h.is_open in
      let parent : IsSoundMap new m g = map-kept t new kept lives more-links m g h.is_open sound
      (λ is. absurd (true≢false (sym is)))
      (subst (λ (ls : List ℕ). All (IsSoundLink new m g) ls) (sym head-links)
      (all-put (IsSoundLink new m g) l (links_in t m) (record { key = key; child = c; is_key = new-key; is_child = new-child; sound = is-child h })
      (links-kept t new kept lives m g (links_in t m) h.is_open sound.links)))
      (subst (λ (ls : List ℕ). HaveOneLive new ls) (sym head-links) (
        subst (λ (o : Option Key). All (IsDeadFor new o) (links_in t m)) (sym new-key) (dead-all t new kept lives m g key (links_in t m) sound.links h.dead),
        live-kept t new kept lives m g (links_in t m) sound.links sound.live,
      ))
      (array-kept t new m n refl refl (λ x. refl) (λ x. refl) sound.array) in
      record {
        places = places-opened t c (gate_with (n + 1) false) tree.places h.ready.placed;
        maps = λ x k e. gate-case (IsSoundMap new) (gate_in t x) c x (gate_with (n + 1) false) k (eqb c x) refl e (child-sound h opened apart)
            (λ _ was. other-case x k was (tree.maps x k was) parent kept);
        roots = λ o r is. root-kept t new kept lives (Some o) r (tree.roots o r is);
      }
    where
      same-gate : (a b : GateWord) (o : Option GateWord) → o ≡ Some a → o ≡ Some b → a ≡ b
      same-gate a b o p q = cc

      other-map : (x : ℕ) (k : GateWord) → eqb m x ≡ false → gate_in t x ≡ Some k → IsSoundMap t x k → MapsStay t new → IsSoundMap new x k
      other-map x k other was sound kept =
          let lives : Lives t new = same-lives t new (λ y. refl) in
          map-kept t new kept lives more-links x k was sound
          (λ private. other-links x other ∙ sound.unlinked private)
          (subst (λ (ls : List ℕ). All (IsSoundLink new x k) ls) (sym (other-links x other)) (links-kept t new kept lives x k (links_in t x) was sound.links))
          (subst (λ (ls : List ℕ). HaveOneLive new ls) (sym (other-links x other)) (live-kept t new kept lives x k (links_in t x) sound.links sound.live))
          (array-kept t new x k.entries refl refl (λ y. refl) (λ y. refl) sound.array)

      other-case : (x : ℕ) (k : GateWord) → gate_in t x ≡ Some k → IsSoundMap t x k → IsSoundMap new m (gate_with n false) → MapsStay t new → IsSoundMap new x k
      other-case x k was sound parent kept = which (eqb m x) refl
        where
          which : (b : Bool) → eqb m x ≡ b → IsSoundMap new x k
          which true e =
              let same = eqb-true m x e in
              let gates : gate_with n false ≡ k = same-gate (gate_with n false) k (gate_in t x) (subst (λ (y : ℕ). gate_in t y ≡ Some (gate_with n false)) same h.is_open) was in
              subst (IsSoundMap new x) gates (subst (λ (y : ℕ). IsSoundMap new y (gate_with n false)) same parent)
          which false e = other-map x k e was sound kept
