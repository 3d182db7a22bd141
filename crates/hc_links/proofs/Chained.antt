-- The links of a lawful trail: along them its words lead, and each to a child.
use Rattle.std.proofs.Common.{◌≡◌, ℕ, ◌<◌, Bool, true, false, cond, eqb, eqb-true, Option, Some, None, List, [], ◌∷◌, refl, sym, subst, IfSome}
use Rattle.std.specs.Prelude.{IsTrue, IsSomeAnd, All}
use Rattle.std.proofs.lemmas.List.Elements.{All-nil, All-cons, All-weaker}
use Rattle.hc_layout.specs.declared.shape.Shape.{Shape}
use Rattle.hc_value.specs.declared.key.Key.{Key}
use Rattle.hc_heap.specs.Writes.{Write, Trail, Head}
use Rattle.hc_heap.specs.Readings.{gate_in, bits_in, head_in, link_key_in, link_child_in, link_next_in}
use Rattle.hc_heap.specs.Lawful.{Lawful, IsChildBy, HasEntryFor}
use Rattle.hc_heap.specs.Kept.{GoesOn, WrittenStays, WrittenIsKept, SetIsKept}
use Rattle.hc_links.specs.Chains.{links_in}
use Rattle.hc_links.specs.Laws.{AreChained, LeadsToChild}

pub and-on : {T : Type 0} (P Q : T → Type 0) (old new : Option T) → ((v : T) → old ≡ Some v → new ≡ Some v) → ((v : T) → P v → Q v) → IsSomeAnd old P → IsSomeAnd new Q
and-on P Q (Some v) new stays to h = subst (λ o. IsSomeAnd o Q) (sym (stays v refl)) (to v h)
and-on P Q None new stays to h = absurd h

-- words that are written once keep a chain, and where its links lead
module _ (old new : Trail) (stays : WrittenStays old new) where
  pub chain-on : (at : Option ℕ) (ls : List ℕ) → AreChained old at ls → AreChained new at ls
  chain-on None [] h = tt
  chain-on None (k ∷ ks) h = absurd h
  chain-on (Some l) [] h = absurd h
  chain-on (Some l) (k ∷ ks) h =
      (h.0, and-on (λ n. AreChained old n ks) (λ n. AreChained new n ks) (link_next_in old l) (link_next_in new l) (stays.link_next l) (λ n c. chain-on n ks c) h.1)

  child-on : (m c : ℕ) (key : Key) → IsChildBy old m c key → IsChildBy new m c key
  child-on m c key h = record {
    gate = and-on (HasEntryFor key) (HasEntryFor key) (gate_in old c) (gate_in new c) (stays.gate c) (λ g e. e) h.gate;
    parent = stays.parent c (Some m) h.parent;
  }

  pub lead-on : (s : Shape) (m l : ℕ) → LeadsToChild s old m l → LeadsToChild s new m l
  lead-on s m l h = record {
    there = h.there;
    child = and-on
        (λ key. IsSomeAnd (link_child_in old l) (λ c. IsChildBy old m c key))
        (λ key. IsSomeAnd (link_child_in new l) (λ c. IsChildBy new m c key))
        (link_key_in old l) (link_key_in new l) (stays.link_key l)
        (λ key. and-on (λ c. IsChildBy old m c key) (λ c. IsChildBy new m c key) (link_child_in old l) (link_child_in new l) (stays.link_child l) (λ c. child-on m c key))
        h.child;
  }

module _ (s : Shape) where
  one-more : (t : Trail) (w : Write) → Lawful s (w ∷ t) → GoesOn s t (w ∷ t)
  one-more t w h = record { more = w ∷ []; is = refl; lawful = h }

  there-case : (t : Trail) (n m l : ℕ) (test : Bool) → l < s.links → IfSome (head_in t m) (λ k. k < s.links) → IfSome (cond test (Some l) (head_in t m)) (λ k. k < s.links)
  there-case t n m l true there before = there
  there-case t n m l false there before = before

  pub head-there : (t : Trail) (m : ℕ) → Lawful s t → IfSome (head_in t m) (λ k. k < s.links)
  unfolding Lawful
  head-there [] m h = tt
  head-there (Head n (Some l) ∷ t) m h = there-case t n m l (eqb n m) h.1.lawful.there (head-there t m h.0)
  head-there (Head n None ∷ t) m h = absurd h.1.lawful
  head-there (w ∷ t) m h = head-there t m h.0

  module _ (keeps : WrittenIsKept) where
    stays : (t : Trail) (w : Write) → Lawful s (w ∷ t) → WrittenStays t (w ∷ t)
    stays t w h = keeps s t (w ∷ t) (one-more t w h)

    chained-case : (t : Trail) (n m l : ℕ) (test : Bool) → eqb n m ≡ test → Lawful s (Head n (Some l) ∷ t) → AreChained t (head_in t m) (links_in t m)
        → AreChained (Head n (Some l) ∷ t) (cond test (Some l) (head_in t m)) (cond test (l ∷ links_in t m) (links_in t m))
    unfolding Lawful
    chained-case t n m l true e h before =
        let on = chain-on t (Head n (Some l) ∷ t) (stays t (Head n (Some l)) h) (head_in t m) (links_in t m) before in
        let next : link_next_in t l ≡ Some (head_in t m) = subst (λ x. link_next_in t l ≡ Some (head_in t x)) (eqb-true n m e) h.1.lawful.next in
        (refl, subst (λ o. IsSomeAnd o (λ k. AreChained (Head n (Some l) ∷ t) k (links_in t m))) (sym next) on)
    chained-case t n m l false e h before = chain-on t (Head n (Some l) ∷ t) (stays t (Head n (Some l)) h) (head_in t m) (links_in t m) before

    pub links-chained : (t : Trail) (m : ℕ) → Lawful s t → AreChained t (head_in t m) (links_in t m)
    unfolding Lawful
    links-chained [] m h = tt
    links-chained (Head n (Some l) ∷ t) m h = chained-case t n m l (eqb n m) refl h (links-chained t m h.0)
    links-chained (Head n None ∷ t) m h = absurd h.1.lawful
    links-chained (w ∷ t) m h = chain-on t (w ∷ t) (stays t w h) (head_in t m) (links_in t m) (links-chained t m h.0)

    lead-case : (t : Trail) (n m l : ℕ) (test : Bool) → eqb n m ≡ test → Lawful s (Head n (Some l) ∷ t) → All (LeadsToChild s (Head n (Some l) ∷ t) m) (links_in t m)
        → All (LeadsToChild s (Head n (Some l) ∷ t) m) (cond test (l ∷ links_in t m) (links_in t m))
    unfolding Lawful
    lead-case t n m l true e h before =
        let law = h.1.lawful in
        let here : LeadsToChild s t n l = record { there = law.there; child = law.child } in
        let on = lead-on t (Head n (Some l) ∷ t) (stays t (Head n (Some l)) h) s n l here in
        All-cons (LeadsToChild s (Head n (Some l) ∷ t) m) l (links_in t m)
        (subst (λ x. LeadsToChild s (Head n (Some l) ∷ t) x l) (eqb-true n m e) on)
        before
    lead-case t n m l false e h before = before

    leads-on : (t : Trail) (w : Write) (m : ℕ) → Lawful s (w ∷ t) → All (LeadsToChild s t m) (links_in t m) → All (LeadsToChild s (w ∷ t) m) (links_in t m)
    leads-on t w m h before = All-weaker (LeadsToChild s t m) (LeadsToChild s (w ∷ t) m) (λ l. lead-on t (w ∷ t) (stays t w h) s m l) (links_in t m) before

    pub links-lead : (t : Trail) (m : ℕ) → Lawful s t → All (LeadsToChild s t m) (links_in t m)
    unfolding Lawful
    links-lead [] m h = All-nil (LeadsToChild s [] m)
    links-lead (Head n (Some l) ∷ t) m h = lead-case t n m l (eqb n m) refl h (leads-on t (Head n (Some l)) m h (links-lead t m h.0))
    links-lead (Head n None ∷ t) m h = absurd h.1.lawful
    links-lead (w ∷ t) m h = leads-on t w m h (links-lead t m h.0)

  module _ (keeps : SetIsKept) where
    unstable-on : (t : Trail) (w : Write) (m : ℕ) → Lawful s (w ∷ t) → IsTrue (bits_in t m).unstable → IsTrue (bits_in (w ∷ t) m).unstable
    unstable-on t w m h before =
        let set = keeps s t (w ∷ t) (one-more t w h) in
        set.unstable m before

    unstable-case : (t : Trail) (n m l k : ℕ) (ks : List ℕ) (test : Bool) → eqb n m ≡ test → IsTrue (bits_in t n).unstable → (links_in t m ≡ k ∷ ks → IsTrue (bits_in t m).unstable)
        → cond test (l ∷ links_in t m) (links_in t m) ≡ k ∷ ks → IsTrue (bits_in t m).unstable
    unstable-case t n m l k ks true e now before some = subst (λ x. IsTrue (bits_in t x).unstable) (eqb-true n m e) now
    unstable-case t n m l k ks false e now before some = before some

    pub linked-unstable : (t : Trail) (m k : ℕ) (ks : List ℕ) → Lawful s t → links_in t m ≡ k ∷ ks → IsTrue (bits_in t m).unstable
    unfolding Lawful
    linked-unstable [] m k ks h some = let no : ⊥ = cc in absurd no
    linked-unstable (Head n (Some l) ∷ t) m k ks h some = unstable-case t n m l k ks (eqb n m) refl h.1.lawful.unstable (λ e. linked-unstable t m k ks h.0 e) some
    linked-unstable (Head n None ∷ t) m k ks h some = absurd h.1.lawful
    linked-unstable (w ∷ t) m k ks h some = unstable-on t w m h (linked-unstable t m k ks h.0 some)
