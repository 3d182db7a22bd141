-- The links of a map are all different, and so no more than the board has.
use Rattle.std.proofs.Common.{◌≡◌, ℕ, ◌<◌, ◌≤◌, ◌||◌, Bool, true, false, cond, eqb, eqb-true, true≢false, Option, Some, None, List, [], ◌∷◌, length, refl, sym, ap, ◌∙◌, subst, arith}
use Rattle.std.specs.Prelude.{IsSomeAnd, All}
use Rattle.std.specs.List.{IsDistinct, AllByRecursion, list_any}
use Rattle.std.proofs.lemmas.List.Elements.{All-head, All-tail}
use Rattle.std.proofs.lemmas.Map.Steps.{length-le_from_distinct_below}
use Rattle.hc_layout.specs.declared.shape.Shape.{Shape}
use Rattle.hc_heap.specs.Writes.{Trail, Head}
use Rattle.hc_heap.specs.Readings.{head_in, link_next_in}
use Rattle.hc_heap.specs.Lawful.{Lawful}
use Rattle.hc_links.specs.Chains.{links_in}
use Rattle.hc_links.specs.Laws.{AreChained, LinksAreChained, LinksLead, LeadsToChild}

pub some-and : {T : Type 0} (P : T → Type 0) (o : Option T) → IsSomeAnd o P → (v : T) × (o ≡ Some v) × P v
some-and P (Some v) h = (v, refl, h)
some-and P None h = absurd h

pub and-by : {T : Type 0} (P : T → Type 0) (o : Option T) (v : T) → o ≡ Some v → IsSomeAnd o P → P v
and-by P o v e h = subst (λ x. IsSomeAnd x P) e h

-- one link leads to one list of links
module _ (t : Trail) where
  same-chain : (at : Option ℕ) (xs ys : List ℕ) → AreChained t at xs → AreChained t at ys → xs ≡ ys
  same-chain None [] [] h k = refl
  same-chain None [] (y ∷ ys) h k = absurd k
  same-chain None (x ∷ xs) ys h k = absurd h
  same-chain (Some l) [] ys h k = absurd h
  same-chain (Some l) (x ∷ xs) [] h k = absurd k
  same-chain (Some l) (x ∷ xs) (y ∷ ys) h k =
      let n = some-and (λ n. AreChained t n xs) (link_next_in t l) h.1 in
      let rest : xs ≡ ys = same-chain n.0 xs ys n.2 (and-by (λ n. AreChained t n ys) (link_next_in t l) n.0 n.1 k.1) in
      let first : x ≡ y = sym h.0 ∙ k.0 in
      cc

  -- a link whose next is the head of a list isn't in it
  module _ (l : ℕ) (head : Option ℕ) (ls : List ℕ) (chained : AreChained t head ls) (next : link_next_in t l ≡ Some head) where
    other : (y : ℕ) (n : Option ℕ) (ys : List ℕ) (test : Bool) → eqb l y ≡ test → link_next_in t y ≡ Some n → AreChained t n ys → length ys < length ls → test ≡ false
    other y n ys true e leads rest less =
        let same : link_next_in t l ≡ Some n = ap (link_next_in t) (eqb-true l y e) ∙ leads in
        let is : head ≡ n = cc in
        let equal : length ls ≡ length ys = ap length (same-chain n ls ys (subst (λ o. AreChained t o ls) is chained) rest) in
        absurd (omega (arith, equal, less))
    other y n ys false e leads rest less = refl

    others : (at : Option ℕ) (ys : List ℕ) → AreChained t at ys → length ys ≤ length ls → AllByRecursion (λ y. eqb l y ≡ false) ys
    others at [] h less = tt
    others None (y ∷ ys) h less = absurd h
    others (Some a) (y ∷ ys) h less =
        let n = some-and (λ n. AreChained t n ys) (link_next_in t a) h.1 in
        let leads : link_next_in t y ≡ Some n.0 = ap (link_next_in t) (sym h.0) ∙ n.1 in
        let shorter : length ys < length ls = omega (arith, less) in
        let here : eqb l y ≡ false = other y n.0 ys (eqb l y) refl leads n.2 shorter in
        (here, others n.0 ys n.2 (omega (arith, less)))

  pub fresh : (l : ℕ) (head : Option ℕ) (ls : List ℕ) → AreChained t head ls → link_next_in t l ≡ Some head → AllByRecursion (λ y. eqb l y ≡ false) ls
  fresh l head ls h e = others l head ls h e head ls h (omega arith)

module _ (s : Shape) (chained : LinksAreChained) where
  distinct-case : (t : Trail) (n m l : ℕ) (test : Bool) → eqb n m ≡ test → Lawful s t → link_next_in t l ≡ Some (head_in t n) → IsDistinct eqb (links_in t m)
      → IsDistinct eqb (cond test (l ∷ links_in t m) (links_in t m))
  unfolding IsDistinct
  distinct-case t n m l true e h next before =
      let here : link_next_in t l ≡ Some (head_in t m) = subst (λ x. link_next_in t l ≡ Some (head_in t x)) (eqb-true n m e) next in
      (fresh t l (head_in t m) (links_in t m) (chained s t m h) here, before)
  distinct-case t n m l false e h next before = before

  distinct : (t : Trail) (m : ℕ) → Lawful s t → IsDistinct eqb (links_in t m)
  unfolding Lawful IsDistinct
  distinct [] m h = tt
  distinct (Head n (Some l) ∷ t) m h = distinct-case t n m l (eqb n m) refl h.0 h.1.lawful.next (distinct t m h.0)
  distinct (Head n None ∷ t) m h = absurd h.1.lawful
  distinct (w ∷ t) m h = distinct t m h.0

  there-case : (t : Trail) (m x q : ℕ) (test : Bool) (rest : Bool) → eqb q x ≡ test → LeadsToChild s t m x → (rest ≡ true → q < s.links) → (test || rest) ≡ true → q < s.links
  there-case t m x q true rest e lead later h = subst (λ n. n < s.links) (sym (eqb-true q x e)) lead.there
  there-case t m x q false rest e lead later h = later h

  there : (t : Trail) (m : ℕ) (ls : List ℕ) → All (LeadsToChild s t m) ls → (q : ℕ) → list_any (eqb q) ls ≡ true → q < s.links
  there t m [] h q e = absurd (true≢false (sym e))
  there t m (l ∷ ls) h q e =
      there-case t m l q (eqb q l) (list_any (eqb q) ls) refl (All-head (LeadsToChild s t m) l ls h) (λ k. there t m ls (All-tail (LeadsToChild s t m) l ls h) q k) e

  pub few : LinksLead → (t : Trail) (m : ℕ) → Lawful s t → length (links_in t m) ≤ s.links
  few lead t m h = length-le_from_distinct_below (links_in t m) s.links (distinct t m h) (there t m (links_in t m) (lead s t m h))
