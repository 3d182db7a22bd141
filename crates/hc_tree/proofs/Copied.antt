-- Private copies: the fields, the entries and the gate of a map that is made as a copy.
use Rattle.std.proofs.Common.{ℕ, ◌≤◌, true, Option, Some, None, [], ◌∷◌, refl, ap, true≢false, is_some}
use Rattle.hc_layout.specs.declared.shape.Shape.{Shape}
use Rattle.hc_layout.specs.declared.capacity.TheConstants.{MAX_FAST}
use Rattle.hc_layout.specs.declared.words.GateWord.{GateWord}
use Rattle.hc_heap.specs.Writes.{Trail, Gate, Parent, Prototype}
use Rattle.hc_heap.specs.Readings.{parent_in, prototype_in, base_in}
use Rattle.hc_heap.specs.Lawful.{Lawful, LawfulGate, HaveEntries}
use Rattle.hc_heap.specs.Kept.{GoesOn}
use Rattle.hc_descs.specs.Copies.{HasArray}
use Rattle.hc_links.specs.Laws.{LinksAreChained}
use Rattle.hc_tree.specs.Kept.{MapsAreKept}
use Rattle.hc_tree.specs.Tree.{gate_with, HaveDistinctNames, HaveProperKeys, HaveTaggedAccessors, IsTree}
use Rattle.hc_tree.specs.Copying.{IsClosed, with_closed}
use Rattle.hc_tree.proofs.Keeping.{same-lives, array-kept, tree-kept, goes-by}
use Rattle.hc_tree.specs.Growth.{IsPlaced, IsReady}
use Rattle.hc_tree.proofs.Growing.{alone-sound, open-tree}
use Rattle.hc_tree.proofs.Fresh.{IsNewMap, no-links, before, self}

abbrev no_parent : Option (Option ℕ)
no_parent = Some None

-- a new map is closed after its parent and prototype were written
pub closed-map : LinksAreChained → (s : Shape) (t : Trail) (p : Option ℕ) (c : ℕ) → Lawful s t → IsNewMap t c → IsClosed (with_closed t p c) c
closed-map chains s t p c lawful new = record {
  gate = new.gate;
  links = no-links chains s t c lawful new.head;
  parent = self c no_parent (parent_in t c);
  prototype = ap is_some (self c (Some p) (prototype_in t c));
}

-- the tree stays sound with a map that is closed
pub closed-tree : MapsAreKept → (s : Shape) (t : Trail) (p : Option ℕ) (c : ℕ) → Lawful s (with_closed t p c) → IsTree t → IsTree (with_closed t p c)
closed-tree law s t p c lawful tree =
    let new : Trail = with_closed t p c in
    let l0 : Lawful s t = before s t (Parent c None) (before s (Parent c None ∷ t) (Prototype c p) lawful) in
    let goes : GoesOn s t new = record { more = Prototype c p ∷ Parent c None ∷ []; is = refl; lawful = lawful } in
    tree-kept t new (law s t new l0 goes) (same-lives t new (λ x. refl)) (λ x. refl) (λ x. refl) (λ o. refl) (λ m g e a. array-kept t new m g.entries refl refl (λ x. refl) (λ x. refl) a) tree

-- the gate of a map that has its entries
pub private-gate : (s : Shape) (t : Trail) (c n : ℕ) → IsClosed t c → n ≤ MAX_FAST → HaveEntries t (base_in t c) n → LawfulGate s t c (gate_with n true)
private-gate s t c n closed few entries = record {
  unwritten = closed.gate;
  parent = ap is_some closed.parent;
  prototype = closed.prototype;
  few = few;
  entries = record { keys = entries.keys; fields = entries.fields };
}

-- the tree stays sound with a private map that is opened
pub private-tree : MapsAreKept → (s : Shape) (t : Trail) (c n : ℕ) → Lawful s (Gate c (gate_with n true) ∷ t) → IsClosed t c → HaveDistinctNames t c n → HaveProperKeys t c n → HaveTaggedAccessors t c n → IsPlaced t c n → HasArray t c n → IsTree t → IsTree (Gate c (gate_with n true) ∷ t)
private-tree law s t c n lawful closed distinct proper tagged placed array tree =
    let g : GateWord = gate_with n true in
    let kept = law s t (Gate c g ∷ t) (before s t (Gate c g) lawful) (goes-by s t (Gate c g) lawful) in
    let ready : IsReady t c n = record { unwritten = closed.gate; unlinked = closed.links; distinct = distinct; proper = proper; tagged = tagged; placed = placed; array = array } in
    open-tree t c g kept (alone-sound t c n true ready closed.parent (λ shared. absurd (true≢false shared))) placed tree
