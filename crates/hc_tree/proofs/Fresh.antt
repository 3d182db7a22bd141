-- Maps that were just handed out, and the tree with a new root.
use Rattle.std.proofs.Common.{◌≡◌, ℕ, ◌<◌, ◌≤◌, Bool, false, cond, Option, Some, None, List, [], ◌∷◌, refl, ap, arith, eqb, eq-eqb, IfSome, is_some}
use Rattle.std.specs.Prelude.{IsTrue}
use Rattle.hc_layout.specs.declared.shape.Region.TheVariants.{Maps, Entries, Fields, Links, Objects, Slots}
use Rattle.hc_layout.specs.declared.shape.Shape.{Shape}
use Rattle.hc_layout.specs.declared.words.RootWord.{RootWord}
use Rattle.hc_heap.specs.declared.kind.Kind.TheVariants.{GateOfMap, ParentOfMap, PrototypeOfMap, BitsOfMap, ArrayOfMap, HeadOfMap}
use Rattle.hc_heap.specs.Writes.{Trail, Write, Gate, Parent, Prototype, Root}
use Rattle.hc_heap.specs.Readings.{no_bits, no_array, gate_in, parent_in, prototype_in, bits_in, array_in, root_in, head_in}
use Rattle.hc_heap.specs.Lawful.{Lawful, AllWithin, LawfulGate}
use Rattle.hc_heap.specs.States.{View, IsHeap}
use Rattle.hc_heap.specs.Kept.{GoesOn, UnusedSaysNothing}
use Rattle.hc_links.specs.Chains.{links_in}
use Rattle.hc_links.specs.Laws.{AreChained, LinksAreChained}
use Rattle.hc_tree.specs.Kept.{MapsAreKept}
use Rattle.hc_tree.specs.Tree.{gate_with, IsBare, IsTree, IsRoot}
use Rattle.hc_tree.specs.Growth.{IsPlaced, IsReady, MayBePrototype, root_need, with_root}
use Rattle.hc_tree.specs.Needs.{HasSpace}
use Rattle.hc_tree.proofs.Keeping.{same-lives, array-kept, tree-kept, goes-by, root-kept}
use Rattle.hc_tree.proofs.Arrays.{no-has}
use Rattle.hc_tree.proofs.Growing.{alone-sound, open-tree}

-- nothing was said of a map
pub record IsNewMap (t : Trail) (m : ℕ) : Type 0 where
  pub gate : gate_in t m ≡ None
  pub parent : parent_in t m ≡ None
  pub prototype : prototype_in t m ≡ None
  pub bits : bits_in t m ≡ no_bits
  pub head : head_in t m ≡ None
  pub array : array_in t m ≡ no_array

pub new-map : UnusedSaysNothing → (used : Shape) (t : Trail) (m : ℕ) → AllWithin used t → used.maps ≤ m → IsNewMap t m
new-map law used t m h lt = record {
  gate = law used t GateOfMap m h lt;
  parent = law used t ParentOfMap m h lt;
  prototype = law used t PrototypeOfMap m h lt;
  bits = law used t BitsOfMap m h lt;
  head = law used t HeadOfMap m h lt;
  array = law used t ArrayOfMap m h lt;
}

no-chain : (t : Trail) (h : Option ℕ) (ls : List ℕ) → AreChained t h ls → h ≡ None → ls ≡ []
no-chain t None [] c e = refl
no-chain t None (l ∷ ls) c e = absurd c
no-chain t (Some x) ls c e = let n : ⊥ = cc in absurd n

-- a map without a head has no link
pub no-links : LinksAreChained → (s : Shape) (t : Trail) (m : ℕ) → Lawful s t → head_in t m ≡ None → links_in t m ≡ []
no-links law s t m h e = no-chain t (head_in t m) (links_in t m) (law s t m h) e

pub before : (s : Shape) (t : Trail) (w : Write) → Lawful s (w ∷ t) → Lawful s t
unfolding Lawful
before s t w h = h.0

pub self : {T : Type 0} (x : ℕ) (a b : T) → cond (eqb x x) a b ≡ a
self x a b = ap (λ (v : Bool). cond v a b) (eq-eqb x x refl)

-- the tree stays sound with a new root
pub root-tree : MapsAreKept → LinksAreChained → (s : Shape) (t : Trail) (p : Option ℕ) (r : ℕ) → Lawful s (with_root t p r) → IsNewMap t r → IsTree t → IsTree (with_root t p r)
root-tree law chains s t p r lawful new tree =
    let t2 : Trail = Prototype r p ∷ Parent r None ∷ t in
    let l2 : Lawful s t2 = before s t2 (Gate r (gate_with 0 false)) lawful in
    let l0 : Lawful s t = before s t (Parent r None) (before s (Parent r None ∷ t) (Prototype r p) l2) in
    let goes : GoesOn s t t2 = record { more = Prototype r p ∷ Parent r None ∷ []; is = refl; lawful = l2 } in
    let tree2 = tree-kept t t2 (law s t t2 l0 goes) (same-lives t t2 (λ x. refl)) (λ x. refl) (λ x. refl) (λ o. refl) (λ m g e a. array-kept t t2 m g.entries refl refl (λ x. refl) (λ x. refl) a) tree in
    let none : IsPlaced t2 r 0 = record { own = λ i j f lt. absurd (omega arith); others = λ x g i j f is lt. absurd (omega arith) } in
    let ready : IsReady t2 r 0 = record {
      unwritten = new.gate;
      unlinked = no-links chains s t r l0 new.head;
      distinct = λ i j ij jn. absurd (omega arith);
      proper = λ k key lt. absurd (omega arith);
      tagged = λ k f key lt. absurd (omega arith);
      placed = none;
      array = no-has t2 r 0 refl new.array;
    } in
    let parent : parent_in t2 r ≡ Some None = self r (Some None) (parent_in t r) in
    let bare : IsBare t2 r (gate_with 0 false) = record { entries = refl; live = ap (λ b. b.deprecated) new.bits } in
    open-tree t2 r (gate_with 0 false) (law s t2 (with_root t p r) l2 (goes-by s t2 (Gate r (gate_with 0 false)) lawful)) (alone-sound t2 r 0 false ready parent (λ _. bare)) none tree2

-- a prototype that may be one is an object of the board, and was made a prototype
pub may-there : (v : View) (p : Option ℕ) → IsHeap v → MayBePrototype v.used v.trail p → IfSome p (λ o. o < v.shape.objects)
may-there v (Some o) h may = let most = h.most Objects in omega arith
may-there v None h may = tt

pub may-marked : (used : Shape) (t : Trail) (p : Option ℕ) → MayBePrototype used t p → IfSome p (λ o. IsTrue (root_in t o).is_proto)
may-marked used t (Some o) may = may.1
may-marked used t None may = tt

abbrev no_parent : Option (Option ℕ)
no_parent = Some None

-- the gate of a new root
pub root-gate : (s : Shape) (t : Trail) (p : Option ℕ) (r : ℕ) → IsNewMap t r → LawfulGate s (Prototype r p ∷ Parent r None ∷ t) r (gate_with 0 false)
root-gate s t p r new = record {
  unwritten = new.gate;
  parent = ap is_some (self r no_parent (parent_in t r));
  prototype = ap is_some (self r (Some p) (prototype_in t r));
  few = omega arith;
  entries = record { keys = λ k lt. absurd (omega arith); fields = λ k lt. absurd (omega arith) };
}

-- a root that is there needs nothing
pub known-space : (v : View) → IsHeap v → (known : Option ℕ) (r : ℕ) → known ≡ Some r → HasSpace v (root_need known)
known-space v h (Some q) r e = let a = h.most Maps in let b = h.most Entries in let c = h.most Fields in let d = h.most Links in let f = h.most Slots in
    record { maps = omega arith; entries = omega arith; fields = omega arith; links = omega arith; slots = omega arith }
known-space v h None r e = let n : ⊥ = cc in absurd n

-- what was a root is one after a root was made and named
pub roots-kept : MapsAreKept → (s : Shape) (t : Trail) (p : Option ℕ) (o r : ℕ) (w : RootWord) → Lawful s t → Lawful s (Root o w ∷ with_root t p r) → (q : Option ℕ) (x : ℕ) → IsRoot t q x → IsRoot (Root o w ∷ with_root t p r) q x
roots-kept law s t p o r w lawful after q x h =
    let goes : GoesOn s t (Root o w ∷ with_root t p r) = record { more = Root o w ∷ Gate r (gate_with 0 false) ∷ Prototype r p ∷ Parent r None ∷ []; is = refl; lawful = after } in
    root-kept t (Root o w ∷ with_root t p r) (law s t (Root o w ∷ with_root t p r) lawful goes) (same-lives t (Root o w ∷ with_root t p r) (λ y. refl)) q x h
