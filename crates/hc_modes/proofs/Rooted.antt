-- The root of a prototype, or of null, is there: it was found, or made.
use Rattle.std.proofs.Common.{◌≡◌, ◌≢◌, ℕ, Bool, true, false, cond, eqb, eqb-true, eq-eqb, Option, Some, None, IfSome, refl, sym, ap, ◌∙◌, subst}
use Rattle.std.specs.Prelude.{Ok}
use Rattle.hc_layout.specs.declared.words.RootWord.{RootWord}
use Rattle.hc_heap.specs.Writes.{Trail}
use Rattle.hc_heap.specs.Readings.{gate_in, parent_in, prototype_in, root_in}
use Rattle.hc_heap.specs.States.{View, HeapState, IsHeap}
use Rattle.hc_tree.specs.Tree.{IsTree, IsRoot, gate_with}
use Rattle.hc_tree.specs.Needs.{with_need}
use Rattle.hc_tree.specs.Growth.{IsStill, IsUnmoved, root_of, root_need, with_named_root, of_null_after}
use Rattle.hc_modes.specs.State.{AreRoots}
use Rattle.hc_slots.specs.Cases.{same-or, some-is, cond-other}

-- the trail after the root was made, where there was none
abbrev pub rooted : Option ℕ → Trail → Option ℕ → ℕ → Trail
rooted (Some m) t proto r = t
rooted None t proto r = with_named_root t proto r

-- the root of null then
abbrev pub null_after : Option ℕ → Option ℕ → Option ℕ → ℕ → Option ℕ
null_after (Some m) proto null r = null
null_after None proto null r = of_null_after proto null r

-- the root was found or made
pub record IsRooted (v w : View) (null then_null proto : Option ℕ) (r : ℕ) : Type 0 where
  pub root : IsRoot w.trail proto r
  pub trail : w.trail ≡ rooted (root_of v.trail proto null) v.trail proto r
  pub named : then_null ≡ null_after (root_of v.trail proto null) proto null r
  pub null_root : IfSome then_null (λ x. IsRoot w.trail None x)
  pub used : w.used ≡ with_need (root_need (root_of v.trail proto null)) v.used
  pub shape : w.shape ≡ v.shape
  pub tree : IsTree w.trail
  pub heap : IsHeap w

pub is-rooted : {P : Type 0} (a b : HeapState P) (null then_null proto : Option ℕ) (r : ℕ) → IsRoot b.view.trail proto r
    → (IsStill (root_of a.view.trail proto null) (Ok r) → IsUnmoved a b) → (IsStill (root_of a.view.trail proto null) (Ok r) → then_null ≡ null)
    → (root_of a.view.trail proto null ≡ None → b.view.trail ≡ with_named_root a.view.trail proto r) → (root_of a.view.trail proto null ≡ None → then_null ≡ of_null_after proto null r)
    → IfSome then_null (λ x. IsRoot b.view.trail None x) → b.view.used ≡ with_need (root_need (root_of a.view.trail proto null)) a.view.used → b.view.shape ≡ a.view.shape → IsTree b.view.trail → IsHeap b.view
    → IsRooted a.view b.view null then_null proto r
is-rooted {P} a b null then_null proto r root still null_still made null_made null_root used shape tree heap =
    let both = by (root_of a.view.trail proto null) refl in
    record {
      root = root;
      trail = both.0;
      named = both.1;
      null_root = null_root;
      used = used;
      shape = shape;
      tree = tree;
      heap = heap;
    }
  where
    by : (x : Option ℕ) → root_of a.view.trail proto null ≡ x → (b.view.trail ≡ rooted x a.view.trail proto r) × (then_null ≡ null_after x proto null r)
    by (Some m) e =
        let there : IsStill (root_of a.view.trail proto null) (Ok r) = subst (λ (x : Option ℕ). IsStill x (Ok r)) (sym e) tt in
        (ap (λ (s : HeapState P). s.view.trail) (still there), null_still there)
    by None e = (made e, null_made e)

-- What a root that is made leaves as it was

module _ (t : Trail) (r m : ℕ) (other : m ≢ r) where
  apart : r ≢ m
  apart is = other (sym is)

  gate-same : (proto : Option ℕ) → gate_in (with_named_root t proto r) m ≡ gate_in t m
  gate-same None = cond-other r m (Some (gate_with 0 false)) (gate_in t m) apart
  gate-same (Some q) = cond-other r m (Some (gate_with 0 false)) (gate_in t m) apart

  parent-same : (proto : Option ℕ) → parent_in (with_named_root t proto r) m ≡ parent_in t m
  parent-same None = cond-other r m (Some None) (parent_in t m) apart
  parent-same (Some q) = cond-other r m (Some None) (parent_in t m) apart

  prototype-same : (proto : Option ℕ) → prototype_in (with_named_root t proto r) m ≡ prototype_in t m
  prototype-same None = cond-other r m (Some None) (prototype_in t m) apart
  prototype-same (Some q) = cond-other r m (Some (Some q)) (prototype_in t m) apart

-- the root that is made is named
named-here : (t : Trail) (proto null : Option ℕ) (r : ℕ) → root_of (with_named_root t proto r) proto (of_null_after proto null r) ≡ Some r
named-here t None null r = refl
named-here t (Some q) null r = ap (λ (b : Bool). let x : RootWord = record { is_proto = (root_in t q).is_proto; map = Some r } in (cond b x (root_in t q)).map) (eq-eqb q q refl)

-- and the others stay so
named-other : (t : Trail) (proto null : Option ℕ) (r : ℕ) → root_of t proto null ≡ None → (p : Option ℕ) (m : ℕ) → root_of t p null ≡ Some m → root_of (with_named_root t proto r) p (of_null_after proto null r) ≡ Some m
named-other t None null r none None m is = let n : None ≡ Some m = sym none ∙ is in let f : ⊥ = cc in absurd f
named-other t None null r none (Some p) m is = is
named-other t (Some q) null r none None m is = is
named-other t (Some q) null r none (Some p) m is = by (eqb q p) refl
  where
    word : RootWord
    word = record { is_proto = (root_in t q).is_proto; map = Some r }

    by : (b : Bool) → eqb q p ≡ b → (cond b word (root_in t p)).map ≡ Some m
    by true e =
        let same : q ≡ p = eqb-true q p e in
        let here : (root_in t q).map ≡ Some m = ap (λ (x : ℕ). (root_in t x).map) same ∙ is in
        let n : None ≡ Some m = sym none ∙ here in let f : ⊥ = cc in absurd f
    by false e = is

made-roots : (t : Trail) (proto null : Option ℕ) (r : ℕ) → root_of t proto null ≡ None → IsRoot (with_named_root t proto r) proto r → IfSome (of_null_after proto null r) (λ x. IsRoot (with_named_root t proto r) None x) → AreRoots t null → AreRoots (with_named_root t proto r) (of_null_after proto null r)
made-roots t proto null r none root null_root h = record {
  null = null_root;
  named = λ m g p gate shared parent prototype. same-or m r (root_of (with_named_root t proto r) p (of_null_after proto null r) ≡ Some m)
      (λ is.
      let like : proto ≡ p = some-is proto p (sym root.prototype ∙ ap (prototype_in (with_named_root t proto r)) (sym is) ∙ prototype) in
      ap (λ (x : Option ℕ). root_of (with_named_root t proto r) x (of_null_after proto null r)) (sym like) ∙ named-here t proto null r ∙ ap (λ (x : ℕ). Some x) (sym is))
      (λ other. named-other t proto null r none p m
      (h.named m g p (sym (gate-same t r m other proto) ∙ gate) shared (sym (parent-same t r m other proto) ∙ parent) (sym (prototype-same t r m other proto) ∙ prototype)));
}

module _ (v w : View) (null then_null proto : Option ℕ) (r : ℕ) (it : IsRooted v w null then_null proto r) where
  trail-by : (was : Option ℕ) → root_of v.trail proto null ≡ was → w.trail ≡ rooted was v.trail proto r
  trail-by was is = it.trail ∙ ap (λ (x : Option ℕ). rooted x v.trail proto r) is

  null-by : (was : Option ℕ) → root_of v.trail proto null ≡ was → then_null ≡ null_after was proto null r
  null-by was is = it.named ∙ ap (λ (x : Option ℕ). null_after x proto null r) is

  pub rooted-roots : AreRoots v.trail null → AreRoots w.trail then_null
  rooted-roots h = by (root_of v.trail proto null) refl
    where
      by : (was : Option ℕ) → root_of v.trail proto null ≡ was → AreRoots w.trail then_null
      by (Some x) e =
          subst (λ (t : Trail). AreRoots t then_null) (sym (trail-by (Some x) e)) (subst (λ (n : Option ℕ). AreRoots v.trail n) (sym (null-by (Some x) e)) h)
      by None e =
          let trail = trail-by None e in
          let named = null-by None e in
          subst (λ (t : Trail). AreRoots t then_null) (sym trail)
          (subst (λ (n : Option ℕ). AreRoots (with_named_root v.trail proto r) n) (sym named)
          (made-roots v.trail proto null r e
          (subst (λ (t : Trail). IsRoot t proto r) trail it.root)
          (subst (λ (n : Option ℕ). IfSome n (λ x. IsRoot (with_named_root v.trail proto r) None x)) named
          (subst (λ (t : Trail). IfSome then_null (λ x. IsRoot t None x)) trail it.null_root)) h))
