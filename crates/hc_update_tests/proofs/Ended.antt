-- Branches that go on by a child of their last map.
use Rattle.std.proofs.Common.{◌≡◌, ℕ, ◌+◌, ◌<◌, ◌≤◌, ◌≢◌, Bool, true, false, cond, Option, Some, None, refl, sym, ap, ◌∙◌, subst, arith, below_more}
use Rattle.std.specs.Prelude.{IsSomeAnd}
use Rattle.hc_layout.specs.declared.shape.Shape.{Shape}
use Rattle.hc_layout.specs.declared.capacity.TheConstants.{MAX_FAST}
use Rattle.hc_layout.specs.declared.words.GateWord.{GateWord}
use Rattle.hc_value.specs.declared.key.Key.{Key}
use Rattle.hc_value.specs.declared.prop.Kind.TheVariants.{DataProp, AccessorProp}
use Rattle.hc_value.specs.Field.{IsClassInRange}
use Rattle.hc_value.specs.declared.field.Class.{Class}
use Rattle.hc_value.specs.declared.field.Class.TheVariants.{Any}
use Rattle.hc_value.specs.declared.field.Detail.{Detail}
use Rattle.hc_heap.specs.Lawful.{IsClassThere}
use Rattle.hc_tree.specs.Walking.{IsDetail}
use Rattle.hc_heap.specs.Writes.{Write, Trail}
use Rattle.hc_heap.specs.Readings.{gate_in, bits_in, parent_in}
use Rattle.hc_heap.specs.Lawful.{Lawful}
use Rattle.hc_heap.specs.States.{View, IsHeap}
use Rattle.hc_heap.specs.Kept.{Adds}
use Rattle.hc_heap.specs.Frames.{goes-on-of}
use Rattle.hc_descs.specs.Entries.{key_at, HasName, LacksName, count_of, entries_in}
use Rattle.hc_tree.specs.Kept.{MapsAreKept, MapsStay}
use Rattle.hc_tree.specs.Tree.{IsTree, IsRoot, IsChildFor, gate_with}
use Rattle.hc_tree.specs.Dying.{MayDie}
use Rattle.hc_tree.specs.Growth.{MayGrow, live_of, live_child}
use Rattle.hc_update_tests.specs.Branches.{ChildrenStay, IsEnd, IsPlain, IsUnderOf, RootsStay}

-- a root begins one
pub end-begins : (v : View) (r : ℕ) (p : Option ℕ) → IsHeap v → IsTree v.trail → IsRoot v.trail p r → IsEnd v r 0
end-begins v r p heap tree root = record {
  heap = heap;
  tree = tree;
  gate = root.gate;
  live = ((tree.maps r (gate_with 0 false) root.gate).root refl root.parent).live;
  names = λ k lt. absurd (omega arith);
}

-- the end of a branch may grow
pub end-grows : (v : View) (m n : ℕ) → IsEnd v m n → n < MAX_FAST → IsSomeAnd (gate_in v.trail m) MayGrow
end-grows v m n h lt = subst (λ (o : Option GateWord). IsSomeAnd o MayGrow) (sym h.gate) (record { few = lt; shared = refl; unlocked = refl })

other-name : (o : Option Key) (k name : ℕ) → IsSomeAnd o (λ (key : Key). key.name ≡ k) → k ≢ name → IsSomeAnd o (λ (key : Key). key.name ≢ name)
other-name (Some key) k name h other = λ e. other (sym h ∙ e)
other-name None k name h other = h

pub end-lacks : (v : View) (m n name : ℕ) → IsEnd v m n → n ≤ name → LacksName v.trail m (count_of v.trail m) name
end-lacks v m n name h e k lt =
    let count : count_of v.trail m ≡ n = ap entries_in h.gate in
    let below : k < n = subst (λ (x : ℕ). k < x) count lt in
    other-name (key_at v.trail m k) k name (h.names k below) (λ (same : k ≡ name). absurd (omega arith))

live-case : (t : Trail) (x c : ℕ) (b : Bool) → (bits_in t x).deprecated ≡ b → cond b None (Some x) ≡ Some c → (bits_in t c).deprecated ≡ false
live-case t x c true is h = let n : ⊥ = cc in absurd n
live-case t x c false is h = let same : x ≡ c = cc in subst (λ (y : ℕ). (bits_in t y).deprecated ≡ false) same is

live-bits : (t : Trail) (o : Option ℕ) (c : ℕ) → live_of t o ≡ Some c → (bits_in t c).deprecated ≡ false
live-bits t (Some x) c e = live-case t x c (bits_in t x).deprecated refl e
live-bits t None c e = let n : ⊥ = cc in absurd n

child-at : (P : GateWord → Type 0) (o : Option GateWord) (g : GateWord) → o ≡ Some g → IsSomeAnd o P → P g
child-at P (Some h) g e p = let same : h ≡ g = cc in subst P same p
child-at P None g e p = absurd p

has-name : (o : Option Key) (key : Key) (n : ℕ) → o ≡ Some key → key.name ≡ n → IsSomeAnd o (λ (k : Key). k.name ≡ n)
has-name (Some k) key n e name = let same : k ≡ key = cc in subst (λ (x : Key). x.name ≡ n) (sym same) name
has-name None key n e name = let x : ⊥ = cc in absurd x

-- a child of its end goes on with it
pub end-goes : MapsAreKept → {P : Trail → Write → Type 0} (old new : View) (m n c : ℕ) (key : Key) → new.shape ≡ old.shape → Adds P old.trail new.trail → IsHeap new → IsTree new.trail → IsEnd old m n
    → IsSomeAnd (gate_in new.trail m) (λ g. IsChildFor new.trail m g c key) → key.name ≡ n → live_child new.trail m key ≡ Some c → IsEnd new c (n + 1)
end-goes law {P} old new m n c key shape writes heap tree h child name live =
    let after : Lawful old.shape new.trail = subst (λ (s : Shape). Lawful s new.trail) shape heap.lawful in
    let kept = law old.shape old.trail new.trail h.heap.lawful (goes-on-of old.shape writes after) in
    let is = child-at (λ g. IsChildFor new.trail m g c key) (gate_in new.trail m) (gate_with n false) (kept.written.gate m (gate_with n false) h.gate) child in
    record {
      heap = heap;
      tree = tree;
      gate = is.gate;
      live = live-bits new.trail _ c live;
      names = below_more (λ (k : ℕ). HasName new.trail c k k) n
          (λ k lt. subst (λ (o : Option Key). IsSomeAnd o (λ (x : Key). x.name ≡ k)) (sym (is.entries.keys k lt ∙ (kept.entry m k (gate_with n false) h.gate lt).key)) (h.names k lt))
          (has-name (key_at new.trail c n) key n is.last name);
    }

not-dead : (b c : Bool) → c ≡ false → (b ≡ true → c ≡ true) → b ≡ false
not-dead true c live falls = let n : true ≡ false = sym (falls refl) ∙ live in let z : ⊥ = cc in absurd z
not-dead false c live falls = refl

-- which is under its old end
pub child-under : MapsAreKept → {P : Trail → Write → Type 0} (old new : View) (m n c : ℕ) (key : Key) → new.shape ≡ old.shape → Adds P old.trail new.trail → IsHeap new → IsEnd old m n
    → IsSomeAnd (gate_in new.trail m) (λ g. IsChildFor new.trail m g c key) → IsUnderOf new.trail c (n + 1) m
child-under law {P} old new m n c key shape writes heap h child =
    let after : Lawful old.shape new.trail = subst (λ (s : Shape). Lawful s new.trail) shape heap.lawful in
    let kept = law old.shape old.trail new.trail h.heap.lawful (goes-on-of old.shape writes after) in
    let is = child-at (λ g. IsChildFor new.trail m g c key) (gate_in new.trail m) (gate_with n false) (kept.written.gate m (gate_with n false) h.gate) child in
    record { gate = is.gate; parent = is.parent }

-- a map with a parent may die
pub under-may : (t : Trail) (m n p : ℕ) → IsUnderOf t m n p → IsSomeAnd (gate_in t m) (MayDie t m)
under-may t m n p h = subst (λ (o : Option GateWord). IsSomeAnd o (MayDie t m)) (sym h.gate) (λ shared top. has-parent (parent_in t m) h.parent top)
  where
    has-parent : (o : Option (Option ℕ)) → o ≡ Some (Some p) → o ≡ Some None → ⊥
    has-parent o x y = cc

-- the map that got a child is the end of its branch still
pub end-stays : MapsAreKept → {P : Trail → Write → Type 0} (old new : View) (m n c : ℕ) (key : Key) → new.shape ≡ old.shape → Adds P old.trail new.trail → IsHeap new → IsTree new.trail → IsEnd old m n
    → IsSomeAnd (gate_in new.trail m) (λ g. IsChildFor new.trail m g c key) → live_child new.trail m key ≡ Some c → IsEnd new m n
end-stays law {P} old new m n c key shape writes heap tree h child live =
    let after : Lawful old.shape new.trail = subst (λ (s : Shape). Lawful s new.trail) shape heap.lawful in
    let kept = law old.shape old.trail new.trail h.heap.lawful (goes-on-of old.shape writes after) in
    let gate = kept.written.gate m (gate_with n false) h.gate in
    let is = child-at (λ g. IsChildFor new.trail m g c key) (gate_in new.trail m) (gate_with n false) gate child in
    record {
      heap = heap;
      tree = tree;
      gate = gate;
      live = not-dead (bits_in new.trail m).deprecated (bits_in new.trail c).deprecated (live-bits new.trail _ c live) is.deprecated;
      names = λ k lt. subst (λ (o : Option Key). IsSomeAnd o (λ (x : Key). x.name ≡ k)) (sym (kept.entry m k (gate_with n false) h.gate lt).key) (h.names k lt);
    }

-- nothing was stored
pub end-still : (old new : View) (m n : ℕ) → new ≡ old → IsEnd old m n → IsEnd new m n
end-still old new m n same h = subst (λ (v : View). IsEnd v m n) (sym same) h

-- the key of a data property isn't an accessor's
pub no-accessor : {T : Type 0} (key : Key) → key.kind ≡ DataProp → key.kind ≡ AccessorProp → T
no-accessor key plain accessor = let n : ⊥ = cc in absurd n

class-is : (P : Class → Type 0) (c : Class) → c ≡ Any → P Any → P c
class-is P c is any = subst P (sym is) any

-- fields can be asked to admit a plain detail
pub plain-is : (s : Shape) (t : Trail) (d : Detail) → IsPlain d → IsDetail s t d
plain-is s t d plain = record { form = class-is IsClassInRange d.class plain tt; there = class-is (IsClassThere s t) d.class plain tt }

module _ (law : MapsAreKept) {P : Trail → Write → Type 0} (old new : View) (shape : new.shape ≡ old.shape) (writes : Adds P old.trail new.trail) (heap : IsHeap old) (heap_then : IsHeap new) where
  pub later : MapsStay old.trail new.trail
  later = law old.shape old.trail new.trail heap.lawful (goes-on-of old.shape writes (subst (λ (s : Shape). Lawful s new.trail) shape heap_then.lawful))

  pub children-stay : ChildrenStay old.trail new.trail
  children-stay m n p child = record { gate = later.written.gate m (gate_with n false) child.gate; parent = later.written.parent m (Some p) child.parent }

  pub roots-stay : RootsStay old.trail new.trail
  roots-stay r root = record { gate = later.written.gate r (gate_with 0 false) root.gate; parent = later.written.parent r None root.parent; prototype = later.written.prototype r None root.prototype }

pub shared-of : (o : Option GateWord) (n : ℕ) → o ≡ Some (gate_with n false) → IsSomeAnd o (λ g. g.is_private ≡ false)
shared-of o n is = subst (λ (x : Option GateWord). IsSomeAnd x (λ g. g.is_private ≡ false)) (sym is) refl

-- the end of a branch is shared, later on too
pub end-shared : MapsAreKept → {P : Trail → Write → Type 0} (old new : View) (m n : ℕ) → new.shape ≡ old.shape → Adds P old.trail new.trail → IsHeap new → IsEnd old m n → IsSomeAnd (gate_in new.trail m) (λ g. g.is_private ≡ false)
end-shared law {P} old new m n shape writes heap h = shared-of (gate_in new.trail m) n ((later law old new shape writes h.heap heap).written.gate m (gate_with n false) h.gate)

-- a map with so many entries has each of them
pub entry-of : (o : Option GateWord) (n i : ℕ) (private : Bool) → o ≡ Some (gate_with n private) → i < n → IsSomeAnd o (λ g. i < g.entries)
entry-of o n i private is lt = subst (λ (x : Option GateWord). IsSomeAnd x (λ g. i < g.entries)) (sym is) lt
