-- What holds of objects holds after an operation on one of them.
use Rattle.std.proofs.Common.{◌≡◌, ◌≢◌, ℕ, ◌+◌, ◌<◌, ◌≤◌, Bool, true, false, true≢false, List, Option, Some, None, IfSome, length, refl, sym, ap, ◌∙◌, subst, arith}
use Rattle.std.specs.Prelude.{nat_lt}
use Rattle.std.proofs.lemmas.Bool.Decides.{nat_tests}
use Rattle.hc_layout.specs.declared.words.GateWord.{GateWord}
use Rattle.hc_layout.specs.declared.words.StoreWord.{StoreWord}
use Rattle.hc_heap.specs.Writes.{Trail}
use Rattle.hc_heap.specs.Readings.{gate_in, parent_in, prototype_in, map_in, root_in, store_in}
use Rattle.hc_layout.specs.declared.shape.Shape.{Shape}
use Rattle.hc_heap.specs.Lawful.{Lawful}
use Rattle.hc_heap.specs.Kept.{Adds, DetailsRise}
use Rattle.hc_heap.specs.Frames.{same-after, goes-on-of}
use Rattle.hc_heap.specs.States.{View, IsHeap}
use Rattle.hc_tree.specs.Tree.{IsRoot, gate_with}
use Rattle.hc_tree.specs.Growth.{root_of}
use Rattle.hc_tree.specs.Kept.{MapsAreKept}
use Rattle.hc_table.specs.Kept.{Kept, IsKept, with_world}
use Rattle.hc_table.specs.World.{World}
use Rattle.hc_slots.specs.Meaning.{Dictionary, object_shown}
use Rattle.hc_modes.specs.Meaning.{kept_of, object_at, world}
use Rattle.hc_modes.specs.State.{IsKeptSo, AreRoots, IsObjects, tables_of}
use Rattle.hc_slots.specs.Slots.{IsIn, Owns, AreHandedOut}
use Rattle.hc_modes.specs.Changes.{TouchesBut, ChangedBut, WordsStay, KeptBut, IsWell, OpensNoRoot}
use Rattle.hc_modes.proofs.Staying.{IsLater, later, object-stays, kept-still, proto-stays}
use Rattle.hc_slots.specs.Cases.{some-of, same-or, some-is}
use Rattle.hc_modes.proofs.Sparing.{words-stay, owned-used, named-stays, root-by}

-- a number is below another, or not
pub below-or : (q n : ℕ) (C : Type 0) → (q < n → C) → (n ≤ q → C) → C
below-or q n C below past = by (nat_lt q n) refl
  where
    by : (b : Bool) → nat_lt q n ≡ b → C
    by true e = below (grind (arith, nat_tests, e))
    by false e = past (grind (arith, nat_tests, e))

-- after an operation on an object after which it is a prototype exactly where it was, all others are too
pub protos-stay : {Dies : ℕ → Type 0} (old : View) (new : Trail) (o : ℕ) → Adds (TouchesBut Dies old o) old.trail new → (root_in new o).is_proto ≡ (root_in old.trail o).is_proto → (p : ℕ) → (root_in new p).is_proto ≡ (root_in old.trail p).is_proto
protos-stay {Dies} old new o adds same p = same-or p o ((root_in new p).is_proto ≡ (root_in old.trail p).is_proto)
    (λ is. subst (λ (q : ℕ). (root_in new q).is_proto ≡ (root_in old.trail q).is_proto) (sym is) same)
    (λ other. same-after (λ (t : Trail). (root_in t p).is_proto) (root-by Dies old o p other) adds)

-- more slots were handed out
pub still-out : (slots more : ℕ) (w : StoreWord) → slots ≤ more → AreHandedOut slots w → AreHandedOut more w
still-out slots more w le out = record { first = out.first; there = by w.first out.there }
  where
    by : (first : Option ℕ) → IfSome first (λ x. x + w.capacity ≤ slots) → IfSome first (λ x. x + w.capacity ≤ more)
    by (Some x) h = omega (arith, h, le)
    by None h = h

-- the root of null stays one
pub null-stays : (old new : Trail) → IsLater old new → (of_null : Option ℕ) → IfSome of_null (λ r. IsRoot old None r) → IfSome of_null (λ r. IsRoot new None r)
null-stays old new after None h = h
null-stays old new after (Some r) h = record {
  gate = after.maps.written.gate r (gate_with 0 false) h.gate;
  parent = after.maps.written.parent r None h.parent;
  prototype = after.maps.written.prototype r None h.prototype;
}

-- roots stay the ones that are named, while no root is made
pub roots-stay : {Dies : ℕ → Type 0} (old : View) (new : Trail) (o : ℕ) (of_null : Option ℕ) → IsLater old.trail new → Adds (TouchesBut Dies old o) old.trail new → OpensNoRoot old.trail new → AreRoots old.trail of_null → AreRoots new of_null
roots-stay old new o of_null after adds opens h = record {
  null = null-stays old.trail new after of_null h.null;
  named = λ m g p gate shared parent prototype. by m g p gate shared parent prototype (gate_in old.trail m) refl;
}
  where
    named-still : (p : Option ℕ) (m : ℕ) → root_of old.trail p of_null ≡ Some m → root_of new p of_null ≡ Some m
    named-still None m is = is
    named-still (Some q) m is = named-stays old new o q m adds is

    by : (m : ℕ) (g : GateWord) (p : Option ℕ) → gate_in new m ≡ Some g → g.is_private ≡ false → parent_in new m ≡ Some None → prototype_in new m ≡ Some p → (was : Option GateWord) → gate_in old.trail m ≡ was → root_of new p of_null ≡ Some m
    by m g p gate shared parent prototype None none = absurd (opens m g none gate shared parent)
    by m g p gate shared parent prototype (Some k) is =
        let same : k ≡ g = some-is k g (sym (after.maps.written.gate m k is) ∙ gate) in
        let up = some-of (parent_in old.trail m) (after.maps.opened m k is).parent in
        let like = proto-stays old.trail new after m k is in
        named-still p m (h.named m k p is (ap (λ (x : GateWord). x.is_private) same ∙ shared) (up.1 ∙ sym (after.maps.written.parent m up.0 up.1) ∙ parent) (sym like ∙ prototype))

module _ {Dies : ℕ → Type 0} (maps : MapsAreKept) (details : DetailsRise) (old new : View) (o : ℕ) (before : IsHeap old) (changed : ChangedBut Dies old new o) where
  -- the trail is a later one
  pub is-later : IsLater old.trail new.trail
  is-later = later maps details old.shape old.trail new.trail before.lawful (goes-on-of old.shape changed.writes (subst (λ (s : Shape). Lawful s new.trail) changed.shape changed.heap.lawful))

  module _ (kept then : List (Option Dictionary)) (of_null : Option ℕ) (h : IsObjects old kept of_null) where
    -- another object's words and slots stay
    pub others-stay : (p : ℕ) → p ≢ o → WordsStay old.trail new.trail p
    others-stay p other = words-stay Dies old o p other new.trail changed.writes (h.stores p) (λ s mine its. other (h.owners p o s its mine))

    -- and so does its value
    pub others-same : KeptBut o kept then → (p : ℕ) → p < length kept → p ≢ o → object_at new.trail then p ≡ object_at old.trail kept p
    others-same but p lt other =
        ap (λ (d : Option Dictionary). object_shown new.trail p d (map_in new.trail p)) (but.others p other)
        ∙ object-stays old.trail new.trail is-later p (kept_of kept p) (others-stay p other) (h.each p lt)

    -- what holds of objects holds afterwards
    pub sound-after : (then_null : Option ℕ) → KeptBut o kept then → length then ≡ new.used.objects → IsWell old new (kept_of then o) o
        → AreRoots new.trail then_null → IsKept (tables_of new then) → IsObjects new then then_null
    sound-after then_null but count well roots sound = record {
      heap = changed.heap;
      tree = changed.tree;
      roots = roots;
      items = count;
      each = λ p lt. same-or p o (IsKeptSo new.trail p (kept_of then p))
          (λ is. subst (λ (q : ℕ). IsKeptSo new.trail q (kept_of then q)) (sym is) well.as_kept)
          (λ other. subst (λ (d : Option Dictionary). IsKeptSo new.trail p d) (sym (but.others p other))
          (kept-still old.trail new.trail is-later p (kept_of kept p) (others-stay p other) (h.each p (but.there p other lt))));
      stores = λ p. same-or p o (AreHandedOut new.used.slots (store_in new.trail p))
          (λ is. subst (λ (q : ℕ). AreHandedOut new.used.slots (store_in new.trail q)) (sym is) well.store)
          (λ other. subst (λ (w : StoreWord). AreHandedOut new.used.slots w) (sym (others-stay p other).store) (still-out old.used.slots new.used.slots (store_in old.trail p) changed.slots (h.stores p)));
      owners = λ p q s a b. same-or p o (p ≡ q)
          (λ is. same-or q o (p ≡ q) (λ same. is ∙ sym same) (λ other. is ∙ mine q s other (subst (λ (x : ℕ). Owns new.trail x s) is a) b))
          (λ other. same-or q o (p ≡ q) (λ same. sym (mine p s other (subst (λ (x : ℕ). Owns new.trail x s) same b) a) ∙ sym same)
          (λ apart. h.owners p q s (was p s other a) (was q s apart b)));
      alone = λ a b m g in_a in_b is_a is_b gate private. same-or a o (a ≡ b)
          (λ is. same-or b o (a ≡ b) (λ same. is ∙ sym same)
          (λ other. absurd (true≢false (sym private ∙ well.alone b m g other (subst (λ (x : ℕ). map_in new.trail x ≡ Some m) is is_a) (sym (others-stay b other).map ∙ is_b) gate))))
          (λ other. same-or b o (a ≡ b)
          (λ is. absurd (true≢false (sym private ∙ well.alone a m g other (subst (λ (x : ℕ). map_in new.trail x ≡ Some m) is is_b) (sym (others-stay a other).map ∙ is_a) gate)))
          (λ apart.
          let was_a = sym (others-stay a other).map ∙ is_a in
          let was_b = sym (others-stay b apart).map ∙ is_b in
          let here = but.there a other in_a in
          h.alone a b m g here (but.there b apart in_b) was_a was_b (gate-was a m g (kept_of kept a) was_a gate (h.each a here)) private));
      sound = sound;
    }
      where
        -- the map of an object was open before
        gate-was : (p m : ℕ) (g : GateWord) (item : Option Dictionary) → map_in old.trail p ≡ Some m → gate_in new.trail m ≡ Some g → IsKeptSo old.trail p item → gate_in old.trail m ≡ Some g
        gate-was p m g (Some d) is gate so = let n : None ≡ Some m = sym so ∙ is in let f : ⊥ = cc in absurd f
        gate-was p m g None is gate so =
            let same : so.map ≡ m = some-is so.map m (sym so.is_map ∙ is) in
            let was : gate_in old.trail m ≡ Some so.gate = subst (λ (x : ℕ). gate_in old.trail x ≡ Some so.gate) same so.fast.is_open in
            was ∙ sym (is-later.maps.written.gate m so.gate was) ∙ gate

        was : (p s : ℕ) → p ≢ o → Owns new.trail p s → Owns old.trail p s
        was p s other a = subst (λ (w : StoreWord). IsIn w s) (others-stay p other).store a

        -- nobody else has a slot of the object
        mine : (q s : ℕ) → q ≢ o → Owns new.trail o s → Owns new.trail q s → o ≡ q
        mine q s other a b =
            let b' = was q s other b in
            h.owners o q s (well.owns s a (owned-used old.used.slots (store_in old.trail q) s (h.stores q) b')) b'

-- the tables after an operation, by the world that it makes
pub tables-after : (old new : View) (kept then : List (Option Dictionary)) (w : World) → new.shape ≡ old.shape → world new.trail then ≡ w → IsKept (with_world (tables_of old kept) w) → IsKept (tables_of new then)
tables-after old new kept then w shape is sound =
    subst (λ (n : ℕ). let k : Kept = record { world = world new.trail then; limit = n } in IsKept k) (ap (λ (s : Shape). s.objects) (sym shape))
    (subst (λ (x : World). let k : Kept = record { world = x; limit = old.shape.objects } in IsKept k) (sym is) sound)
