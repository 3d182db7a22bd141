-- The root of a prototype, or of null, is there: it was found, or made. Then a map is updated from it.
use Rattle.std.proofs.Common.{◌≡◌, ◌≢◌, ℕ, zero, suc, ◌≤◌, Bool, true, false, true≢false, cond, eqb, eqb-true, eq-eqb, ◌∷◌, Option, Some, None, IfSome, refl, sym, ap, ◌∙◌, subst, arith}
use Rattle.std.specs.Prelude.{Ok}
use Rattle.hc_layout.specs.declared.shape.Shape.{Shape}
use Rattle.hc_layout.specs.declared.words.GateWord.{GateWord}
use Rattle.hc_layout.specs.declared.words.MapBits.{MapBits}
use Rattle.hc_layout.specs.declared.words.RootWord.{RootWord}
use Rattle.hc_value.specs.declared.field.Detail.{Detail}
use Rattle.hc_heap.specs.Writes.{Trail, Write, Gate, Parent, Prototype, Root}
use Rattle.hc_heap.specs.Readings.{gate_in, parent_in, prototype_in, bits_in, detail_in, root_in}
use Rattle.hc_heap.specs.Lawful.{Lawful}
use Rattle.hc_heap.specs.Kept.{Adds}
use Rattle.hc_heap.specs.Frames.{adds-none, adds-one, adds-on, adds-wider, goes-on-of}
use Rattle.hc_heap.specs.States.{View, HeapState, IsHeap}
use Rattle.hc_descs.specs.Entries.{field_at}
use Rattle.hc_tree.specs.declared.need.Need.{Need}
use Rattle.hc_tree.specs.Details.{NoMap, Reshapes, detail_of, detail_at}
use Rattle.hc_tree.specs.Frames.{details-by, kept-after, reshapes-dies, reshapes-later}
use Rattle.hc_tree.specs.Tree.{IsTree, IsRoot, gate_with}
use Rattle.hc_tree.specs.Needs.{HasSpace, IsNoLess, IsWithin, arrays_upto, walk_need, with_need}
use Rattle.hc_tree.specs.Growth.{IsStill, IsUnmoved, root_of, root_need, with_root, with_named_root, of_null_after}
use Rattle.hc_tree.specs.Kept.{MapsAreKept, MapsStay}
use Rattle.hc_tree.specs.Walking.{AreRoots, OpensNoRoot, shared_need, with_root_for}
use Rattle.hc_update.specs.Renewing.{IsDoomed}
use Rattle.hc_update.specs.Retargeting.{HasMapFor, IsFoundFrom}
use Rattle.hc_update.specs.Updating.{IsUpdated, UpdateGets}
use Rattle.hc_update.proofs.Cuts.{some-of}

cond-other : {T : Type 0} (i x : ℕ) (a b : T) → i ≢ x → cond (eqb i x) a b ≡ b
cond-other i x a b ne = by (eqb i x) refl
  where
    by : (c : Bool) → eqb i x ≡ c → cond c a b ≡ b
    by true e = absurd (ne (eqb-true i x e))
    by false e = refl

same-or : (p o : ℕ) (C : Type 0) → (p ≡ o → C) → (p ≢ o → C) → C
same-or p o C same other = by (eqb p o) refl
  where
    by : (b : Bool) → eqb p o ≡ b → C
    by true e = same (eqb-true p o e)
    by false e = other (λ is. true≢false (sym (eq-eqb p o is) ∙ e))

some-is : {T : Type 0} (a b : T) → Some a ≡ Some b → a ≡ b
some-is a b e = cc

proto-stays : (old new : Trail) → MapsStay old new → (m : ℕ) (g : GateWord) → gate_in old m ≡ Some g → prototype_in new m ≡ prototype_in old m
proto-stays old new after m g is = let p = some-of (prototype_in old m) (after.opened m g is).prototype in after.written.prototype m p.0 p.1 ∙ sym p.1

-- the root of null then
abbrev pub null_after : Option ℕ → Option ℕ → Option ℕ → ℕ → Option ℕ
null_after (Some m) proto null r = null
null_after None proto null r = of_null_after proto null r

-- the root was found or made
pub record IsRooted (v w : View) (null then_null proto : Option ℕ) (r : ℕ) : Type 0 where
  pub root : IsRoot w.trail proto r
  pub trail : w.trail ≡ with_root_for (root_of v.trail proto null) v.trail proto r
  pub number : root_of v.trail proto null ≡ None → r ≡ v.used.maps
  pub named : then_null ≡ null_after (root_of v.trail proto null) proto null r
  pub null_root : IfSome then_null (λ x. IsRoot w.trail None x)
  pub used : w.used ≡ with_need (root_need (root_of v.trail proto null)) v.used
  pub shape : w.shape ≡ v.shape
  pub tree : IsTree w.trail
  pub heap : IsHeap w

pub is-rooted : {P : Type 0} (a b : HeapState P) (null then_null proto : Option ℕ) (r : ℕ) → IsRoot b.view.trail proto r
    → (IsStill (root_of a.view.trail proto null) (Ok r) → IsUnmoved a b) → (IsStill (root_of a.view.trail proto null) (Ok r) → then_null ≡ null)
    → (root_of a.view.trail proto null ≡ None → r ≡ a.view.used.maps) → (root_of a.view.trail proto null ≡ None → b.view.trail ≡ with_named_root a.view.trail proto r) → (root_of a.view.trail proto null ≡ None → then_null ≡ of_null_after proto null r)
    → IfSome then_null (λ x. IsRoot b.view.trail None x) → b.view.used ≡ with_need (root_need (root_of a.view.trail proto null)) a.view.used → b.view.shape ≡ a.view.shape → IsTree b.view.trail → IsHeap b.view
    → IsRooted a.view b.view null then_null proto r
is-rooted {P} a b null then_null proto r root still null_still number made null_made null_root used shape tree heap =
    let both = by (root_of a.view.trail proto null) refl in
    record {
      root = root;
      trail = both.0;
      named = both.1;
      number = number;
      null_root = null_root;
      used = used;
      shape = shape;
      tree = tree;
      heap = heap;
    }
  where
    by : (x : Option ℕ) → root_of a.view.trail proto null ≡ x → (b.view.trail ≡ with_root_for x a.view.trail proto r) × (then_null ≡ null_after x proto null r)
    by (Some m) e =
        let there : IsStill (root_of a.view.trail proto null) (Ok r) = subst (λ (x : Option ℕ). IsStill x (Ok r)) (sym e) tt in
        (ap (λ (s : HeapState P). s.view.trail) (still there), null_still there)
    by None e = (made e, null_made e)

-- The writes

root-writes : (used : Shape) (G : ℕ → Detail → Type 0) (t : Trail) (p : Option ℕ) (r : ℕ) → used.maps ≤ r → Adds (Reshapes used NoMap G) t (with_root t p r)
root-writes used G t p r le = adds-on (adds-on (adds-one t (Parent r None) le) (adds-one (Parent r None ∷ t) (Prototype r p) le)) (adds-one (Prototype r p ∷ Parent r None ∷ t) (Gate r (gate_with 0 false)) le)

named-writes : (used : Shape) (G : ℕ → Detail → Type 0) (t : Trail) (proto null : Option ℕ) (r : ℕ) → used.maps ≤ r → root_of t proto null ≡ None → Adds (Reshapes used NoMap G) t (with_named_root t proto r)
named-writes used G t None null r le none = root-writes used G t None r le
named-writes used G t (Some q) null r le none = adds-on (root-writes used G t (Some q) r le) (adds-one (with_root t (Some q) r) (Root q (record { is_proto = (root_in t q).is_proto; map = Some r }))
    (refl, λ m is. let n : None ≡ Some m = sym none ∙ is in let f : ⊥ = cc in absurd f))

-- What a root that is made leaves as it was

module _ (t : Trail) (r m : ℕ) (other : m ≢ r) where
  apart : r ≢ m
  apart is = other (sym is)

  gate-same : (proto : Option ℕ) → gate_in (with_named_root t proto r) m ≡ gate_in t m
  gate-same None = cond-other r m (Some (gate_with 0 false)) (gate_in t m) apart
  gate-same (Some q) = cond-other r m (Some (gate_with 0 false)) (gate_in t m) apart

  parent-same : (proto : Option ℕ) → parent_in (with_named_root t proto r) m ≡ parent_in t m
  parent-same None = cond-other r m (Some None) (parent_in t m) apart
  parent-same (Some q) = cond-other r m (Some None) (parent_in t m) apart

  prototype-same : (proto : Option ℕ) → prototype_in (with_named_root t proto r) m ≡ prototype_in t m
  prototype-same None = cond-other r m (Some None) (prototype_in t m) apart
  prototype-same (Some q) = cond-other r m (Some (Some q)) (prototype_in t m) apart

-- the root that is made is named
named-here : (t : Trail) (proto null : Option ℕ) (r : ℕ) → root_of (with_named_root t proto r) proto (of_null_after proto null r) ≡ Some r
named-here t None null r = refl
named-here t (Some q) null r = ap (λ (b : Bool). let x : RootWord = record { is_proto = (root_in t q).is_proto; map = Some r } in (cond b x (root_in t q)).map) (eq-eqb q q refl)

-- and the others stay so
named-other : (t : Trail) (proto null : Option ℕ) (r : ℕ) → root_of t proto null ≡ None → (p : Option ℕ) (m : ℕ) → root_of t p null ≡ Some m → root_of (with_named_root t proto r) p (of_null_after proto null r) ≡ Some m
named-other t None null r none None m is = let n : None ≡ Some m = sym none ∙ is in let f : ⊥ = cc in absurd f
named-other t None null r none (Some p) m is = is
named-other t (Some q) null r none None m is = is
named-other t (Some q) null r none (Some p) m is = by (eqb q p) refl
  where
    word : RootWord
    word = record { is_proto = (root_in t q).is_proto; map = Some r }

    by : (b : Bool) → eqb q p ≡ b → (cond b word (root_in t p)).map ≡ Some m
    by true e =
        let same : q ≡ p = eqb-true q p e in
        let here : (root_in t q).map ≡ Some m = ap (λ (x : ℕ). (root_in t x).map) same ∙ is in
        let n : None ≡ Some m = sym none ∙ here in let f : ⊥ = cc in absurd f
    by false e = is

made-roots : (t : Trail) (proto null : Option ℕ) (r : ℕ) → root_of t proto null ≡ None → IsRoot (with_named_root t proto r) proto r → IfSome (of_null_after proto null r) (λ x. IsRoot (with_named_root t proto r) None x) → AreRoots t null → AreRoots (with_named_root t proto r) (of_null_after proto null r)
made-roots t proto null r none root null_root h = record {
  null = null_root;
  named = λ m g p gate shared parent prototype. same-or m r (root_of (with_named_root t proto r) p (of_null_after proto null r) ≡ Some m)
      (λ is.
      let like : proto ≡ p = some-is proto p (sym root.prototype ∙ ap (prototype_in (with_named_root t proto r)) (sym is) ∙ prototype) in
      ap (λ (x : Option ℕ). root_of (with_named_root t proto r) x (of_null_after proto null r)) (sym like) ∙ named-here t proto null r ∙ ap (λ (x : ℕ). Some x) (sym is))
      (λ other. named-other t proto null r none p m
      (h.named m g p (sym (gate-same t r m other proto) ∙ gate) shared (sym (parent-same t r m other proto) ∙ parent) (sym (prototype-same t r m other proto) ∙ prototype)));
}

module _ (v w : View) (null then_null proto : Option ℕ) (r : ℕ) (it : IsRooted v w null then_null proto r) where
  trail-by : (was : Option ℕ) → root_of v.trail proto null ≡ was → w.trail ≡ with_root_for was v.trail proto r
  trail-by was is = it.trail ∙ ap (λ (x : Option ℕ). with_root_for x v.trail proto r) is

  null-by : (was : Option ℕ) → root_of v.trail proto null ≡ was → then_null ≡ null_after was proto null r
  null-by was is = it.named ∙ ap (λ (x : Option ℕ). null_after x proto null r) is

  pub rooted-writes : (G : ℕ → Detail → Type 0) → Adds (Reshapes v.used NoMap G) v.trail w.trail
  rooted-writes G = by (root_of v.trail proto null) refl
    where
      by : (was : Option ℕ) → root_of v.trail proto null ≡ was → Adds (Reshapes v.used NoMap G) v.trail w.trail
      by (Some x) e = subst (λ (t : Trail). Adds (Reshapes v.used NoMap G) v.trail t) (sym (trail-by (Some x) e)) (adds-none v.trail)
      by None e = subst (λ (t : Trail). Adds (Reshapes v.used NoMap G) v.trail t) (sym (trail-by None e)) (named-writes v.used G v.trail proto null r (omega (arith, it.number e)) e)

  -- what a root that is made leaves of entries, of fields and of bits
  same-by : {T : Type 0} (reading : Trail → T) → (reading (with_root_for (root_of v.trail proto null) v.trail proto r) ≡ reading v.trail) → reading w.trail ≡ reading v.trail
  same-by reading same = ap reading it.trail ∙ same

  pub rooted-fields : (m k : ℕ) → field_at w.trail m k ≡ field_at v.trail m k
  rooted-fields m k = same-by (λ (t : Trail). field_at t m k) (by (root_of v.trail proto null) proto)
    where
      by : (x p : Option ℕ) → field_at (with_root_for x v.trail p r) m k ≡ field_at v.trail m k
      by (Some y) p = refl
      by None None = refl
      by None (Some q) = refl

  pub detail-same : (f : ℕ) → detail_in w.trail f ≡ detail_in v.trail f
  detail-same f = same-by (λ (t : Trail). detail_in t f) (by (root_of v.trail proto null) proto)
    where
      by : (x p : Option ℕ) → detail_in (with_root_for x v.trail p r) f ≡ detail_in v.trail f
      by (Some y) p = refl
      by None None = refl
      by None (Some q) = refl

  pub rooted-bits : (m : ℕ) → bits_in w.trail m ≡ bits_in v.trail m
  rooted-bits m = same-by (λ (t : Trail). bits_in t m) (by (root_of v.trail proto null) proto)
    where
      by : (x p : Option ℕ) → bits_in (with_root_for x v.trail p r) m ≡ bits_in v.trail m
      by (Some y) p = refl
      by None None = refl
      by None (Some q) = refl

  pub rooted-details : (m k : ℕ) → detail_at w.trail m k ≡ detail_at v.trail m k
  rooted-details m k = ap (detail_of w.trail) (rooted-fields m k) ∙ by (field_at v.trail m k)
    where
      by : (o : Option ℕ) → detail_of w.trail o ≡ detail_of v.trail o
      by (Some f) = detail-same f
      by None = refl

  pub rooted-roots : AreRoots v.trail null → AreRoots w.trail then_null
  rooted-roots h = by (root_of v.trail proto null) refl
    where
      by : (was : Option ℕ) → root_of v.trail proto null ≡ was → AreRoots w.trail then_null
      by (Some x) e =
          subst (λ (t : Trail). AreRoots t then_null) (sym (trail-by (Some x) e)) (subst (λ (n : Option ℕ). AreRoots v.trail n) (sym (null-by (Some x) e)) h)
      by None e =
          let trail = trail-by None e in
          let named = null-by None e in
          subst (λ (t : Trail). AreRoots t then_null) (sym trail)
          (subst (λ (n : Option ℕ). AreRoots (with_named_root v.trail proto r) n) (sym named)
          (made-roots v.trail proto null r e
          (subst (λ (t : Trail). IsRoot t proto r) trail it.root)
          (subst (λ (n : Option ℕ). IfSome n (λ x. IsRoot (with_named_root v.trail proto r) None x)) named
          (subst (λ (t : Trail). IfSome then_null (λ x. IsRoot t None x)) trail it.null_root)) h))

  -- there is room for the walk
  pub rooted-space : (n : ℕ) → HasSpace v (shared_need v.trail n proto null) → HasSpace w (walk_need n)
  rooted-space n space =
      subst (λ (s : Shape). HasSpace (record { shape = s; trail = w.trail; used = w.used }) (walk_need n)) (sym it.shape)
      (subst (λ (u : Shape). HasSpace (record { shape = v.shape; trail = w.trail; used = u }) (walk_need n)) (sym it.used) (record {
        maps = omega (arith, space.maps);
        entries = omega (arith, space.entries);
        fields = omega (arith, space.fields);
        links = omega (arith, space.links);
        slots = omega (arith, space.slots);
      }))

-- there is room for the root
pub root-space : (v : View) (n : ℕ) (proto null : Option ℕ) → HasSpace v (shared_need v.trail n proto null) → HasSpace v (root_need (root_of v.trail proto null))
root-space v n proto null space = record {
  maps = omega (arith, space.maps);
  entries = omega (arith, space.entries);
  fields = omega (arith, space.fields);
  links = omega (arith, space.links);
  slots = omega (arith, space.slots);
}

-- Roots stay the ones that are named, while no root is made

null-stays : (old new : Trail) → MapsStay old new → (of_null : Option ℕ) → IfSome of_null (λ r. IsRoot old None r) → IfSome of_null (λ r. IsRoot new None r)
null-stays old new after None h = h
null-stays old new after (Some r) h = record {
  gate = after.written.gate r (gate_with 0 false) h.gate;
  parent = after.written.parent r None h.parent;
  prototype = after.written.prototype r None h.prototype;
}

module _ (used : Shape) (Dies : ℕ → Type 0) (Gets : ℕ → Detail → Type 0) where
  named-by : (p m : ℕ) (t : Trail) (w : Write) → Reshapes used Dies Gets t w → (root_in t p).map ≡ Some m → (root_in (w ∷ t) p).map ≡ Some m
  named-by p m t (Root i r) e is = by (eqb i p) refl
    where
      by : (b : Bool) → eqb i p ≡ b → (cond b r (root_in t p)).map ≡ Some m
      by true same = e.1 m (ap (λ (x : ℕ). (root_in t x).map) (eqb-true i p same) ∙ is)
      by false same = is
  named-by p m t _ e is = is

  pub roots-stay : (old new : Trail) (of_null : Option ℕ) → MapsStay old new → Adds (Reshapes used Dies Gets) old new → OpensNoRoot old new → AreRoots old of_null → AreRoots new of_null
  roots-stay old new of_null after adds opens h = record {
    null = null-stays old new after of_null h.null;
    named = λ m g p gate shared parent prototype. by m g p gate shared parent prototype (gate_in old m) refl;
  }
    where
      named-still : (p : Option ℕ) (m : ℕ) → root_of old p of_null ≡ Some m → root_of new p of_null ≡ Some m
      named-still None m is = is
      named-still (Some q) m is = kept-after (λ (t : Trail). (root_in t q).map ≡ Some m) (named-by q m) adds is

      by : (m : ℕ) (g : GateWord) (p : Option ℕ) → gate_in new m ≡ Some g → g.is_private ≡ false → parent_in new m ≡ Some None → prototype_in new m ≡ Some p → (was : Option GateWord) → gate_in old m ≡ was → root_of new p of_null ≡ Some m
      by m g p gate shared parent prototype None none = absurd (opens m g none gate shared parent)
      by m g p gate shared parent prototype (Some k) is =
          let same : k ≡ g = some-is k g (sym (after.written.gate m k is) ∙ gate) in
          let up = some-of (parent_in old m) (after.opened m k is).parent in
          let like = proto-stays old new after m k is in
          named-still p m (h.named m k p is (ap (λ (x : GateWord). x.is_private) same ∙ shared) (up.1 ∙ sym (after.written.parent m up.0 up.1) ∙ parent) (sym like ∙ prototype))

-- a root is live
pub root-live : (t : Trail) (p : Option ℕ) (r : ℕ) → IsTree t → IsRoot t p r → (bits_in t r).deprecated ≡ false
root-live t p r tree h = ((tree.maps r (gate_with 0 false) h.gate).root refl h.parent).live

-- A root, and an update from it

slots-of : (found : Option ℕ) (used : Shape) → (with_need (root_need found) used).slots ≡ used.slots
slots-of (Some r) used = omega arith
slots-of None used = omega arith

fields-of : (found : Option ℕ) (used : Shape) → (with_need (root_need found) used).fields ≡ used.fields
fields-of (Some r) used = omega arith
fields-of None used = omega arith

arrays-rise : (k n : ℕ) → k ≤ n → arrays_upto k ≤ arrays_upto n
arrays-rise k zero le = let is : k ≡ 0 = omega (arith, le) in subst (λ (x : ℕ). arrays_upto x ≤ arrays_upto 0) (sym is) (omega arith)
arrays-rise k (suc n) le = same-or k (suc n) (arrays_upto k ≤ arrays_upto (suc n))
    (λ is. subst (λ (x : ℕ). arrays_upto k ≤ arrays_upto x) is (omega arith))
    (λ other. let before : k ≤ n = omega (arith, le, other) in let risen : arrays_upto k ≤ arrays_upto n = arrays-rise k n before in omega (arith, risen))

no-less-need : (k : Need) (s : Shape) → IsNoLess s (with_need k s)
no-less-need k s = record { maps = omega arith; entries = omega arith; fields = omega arith; links = omega arith; slots = omega arith }

no-less-on : (a b c : Shape) → IsNoLess a b → IsNoLess b c → IsNoLess a c
no-less-on a b c x y = record {
  maps = omega (arith, x.maps, y.maps);
  entries = omega (arith, x.entries, y.entries);
  fields = omega (arith, x.fields, y.fields);
  links = omega (arith, x.links, y.links);
  slots = omega (arith, x.slots, y.slots);
}

module _ (maps : MapsAreKept) (v w : View) (null then_null proto : Option ℕ) (r : ℕ) (heap : IsHeap v) (it : IsRooted v w null then_null proto r) where
  lawful-then : Lawful v.shape w.trail
  lawful-then = subst (λ (s : Shape). Lawful s w.trail) it.shape it.heap.lawful

  after : MapsStay v.trail w.trail
  after = maps v.shape v.trail w.trail heap.lawful (goes-on-of v.shape (rooted-writes v w null then_null proto r it (λ f d. Unit {0})) lawful-then)

  -- the map that it is about stays open
  pub open-rooted : (m n : ℕ) → gate_in v.trail m ≡ Some (gate_with n false) → gate_in w.trail m ≡ Some (gate_with n false)
  open-rooted m n is = after.written.gate m (gate_with n false) is

  fields-same : w.used.fields ≡ v.used.fields
  fields-same = ap (λ (u : Shape). u.fields) it.used ∙ fields-of (root_of v.trail proto null) v.used

  module _ (x : View) (m c n : ℕ) (at_map : gate_in v.trail m ≡ Some (gate_with n false)) (roots : AreRoots v.trail null) (up : IsUpdated w x r m n c) where
    abbrev Dies : ℕ → Type 0
    Dies y = IsDoomed w.trail up.end up.count up.stop y

    abbrev Gets : ℕ → Detail → Type 0
    Gets f d = UpdateGets w.trail up.end m up.count up.stop n v.used.fields f d

    lawful-x : Lawful w.shape x.trail
    lawful-x = subst (λ (s : Shape). Lawful s x.trail) up.renewed.shape up.renewed.heap.lawful

    on : MapsStay w.trail x.trail
    on = maps w.shape w.trail x.trail it.heap.lawful (goes-on-of w.shape up.renewed.writes lawful-x)

    less : IsNoLess v.used w.used
    less = subst (IsNoLess v.used) (sym it.used) (no-less-need (root_need (root_of v.trail proto null)) v.used)

    later-writes : Adds (Reshapes v.used (IsDoomed w.trail up.end up.count up.stop) (UpdateGets w.trail up.end m up.count up.stop n v.used.fields)) w.trail x.trail
    later-writes = adds-wider (reshapes-later v.used w.used less Dies (UpdateGets w.trail up.end m up.count up.stop n w.used.fields) Gets
        (λ f d got. subst (λ (k : ℕ). UpdateGets w.trail up.end m up.count up.stop n k f d) fields-same got)) up.renewed.writes

    writes : Adds (Reshapes v.used (IsDoomed w.trail up.end up.count up.stop) (UpdateGets w.trail up.end m up.count up.stop n v.used.fields)) v.trail x.trail
    writes = adds-on (adds-wider (reshapes-dies v.used NoMap Dies (λ y no. absurd no) Gets) (rooted-writes v w null then_null proto r it Gets)) later-writes

    stop-least : up.stop ≤ n
    stop-least = let a = up.stopped.within in let b = up.ended.within in omega (arith, a, b)

    needs-then : IsWithin (walk_need n) (with_need (root_need (root_of v.trail proto null)) v.used) x.used
    needs-then = subst (λ (u : Shape). IsWithin (walk_need n) u x.used) it.used (
        let le = stop-least in
        let sums = arrays-rise up.stop n stop-least in
        let a = up.renewed.maps in
        let b = up.renewed.entries in
        let c = up.renewed.fields in
        let d = up.renewed.links in
        let e = up.renewed.slots in
        record {
          maps = omega (arith, a);
          entries = omega (arith, b);
          fields = omega (arith, c);
          links = omega (arith, d);
          slots = omega (arith, e);
          cells = up.renewed.cells;
          rises = record { maps = omega (arith, a, le); entries = omega (arith, b, sums); fields = omega (arith, c, le); links = omega (arith, d, le); slots = omega (arith, e) };
        })

    found : IsFoundFrom w.trail v x then_null r m c n proto (shared_need v.trail n proto null)
    found = record {
      end = up.end;
      count = up.count;
      stop = up.stop;
      ended = up.ended;
      stopped = up.stopped;
      writes = writes;
      details = details-by v.used Dies Gets writes (λ f d got. up.renewed.details.gets f d (subst (λ (k : ℕ). UpdateGets w.trail up.end m up.count up.stop n k f d) (sym fields-same) got));
      dead = up.renewed.dead;
      linked = λ y stable marked. up.renewed.linked y (ap (λ (b : MapBits). b.unstable) (rooted-bits v w null then_null proto r it y) ∙ stable) marked;
      spares = up.renewed.spares;
      roots = roots-stay w.used (IsDoomed w.trail up.end up.count up.stop) (UpdateGets w.trail up.end m up.count up.stop n w.used.fields) w.trail x.trail then_null on up.renewed.writes up.renewed.opens (rooted-roots v w null then_null proto r it roots);
      needs = (
          let from = needs-then in
          record {
            maps = omega (arith, from.maps);
            entries = omega (arith, from.entries);
            fields = omega (arith, from.fields);
            links = omega (arith, from.links);
            slots = omega (arith, from.slots);
            cells = from.cells;
            rises = no-less-on v.used (with_need (root_need (root_of v.trail proto null)) v.used) x.used (no-less-need (root_need (root_of v.trail proto null)) v.used) from.rises;
          });
      objects = up.renewed.objects ∙ ap (λ (u : Shape). u.objects) it.used;
      slots = up.renewed.slots ∙ ap (λ (u : Shape). u.slots) it.used ∙ slots-of (root_of v.trail proto null) v.used;
      shape = up.renewed.shape ∙ it.shape;
      like = record {
        gate = up.renewed.gate;
        prototype = up.renewed.prototype ∙ up.ended.path.prototype ∙ it.root.prototype;
        keys = λ k lt. up.renewed.keys k lt ∙ sym (on.entry m k (gate_with n false) (open-rooted m n at_map) lt).key;
      };
      live = up.renewed.live;
      made = up.details;
      admits = λ k was now lt is at. up.admits k was now lt (rooted-details v w null then_null proto r it m k ∙ is) at;
      tree = up.renewed.tree;
      heap = up.renewed.heap;
    }

    pub map-found : HasMapFor v x null then_null m c n proto
    map-found = record { root = r; found = subst (λ (t : Trail). IsFoundFrom t v x then_null r m c n proto (shared_need v.trail n proto null)) it.trail found }
