-- A link is written, and put before the links of a map, lawfully.
use Rattle.std.proofs.Common.{◌≡◌, ℕ, ◌<◌, ◌≤◌, List, Option, Some, None, ◌∷◌, sym, ap, ◌∙◌, subst, arith, IfSome}
use Rattle.std.specs.Prelude.{IsSomeAnd}
use Rattle.hc_board.specs.Trail.{Access}
use Rattle.hc_layout.specs.declared.shape.Region.TheVariants.{Maps}
use Rattle.hc_layout.specs.declared.shape.Shape.{Shape}
use Rattle.hc_value.specs.declared.key.Key.{Key}
use Rattle.hc_heap.specs.declared.kind.Kind.TheVariants.{GateOfMap, KeyOfLink, ChildOfLink, NextOfLink}
use Rattle.hc_heap.specs.Writes.{Head, LinkKey, LinkChild, LinkNext}
use Rattle.hc_heap.specs.Readings.{gate_in, head_in}
use Rattle.hc_heap.specs.Lawful.{Lawful, IsKey, IsChildBy, LawfulLinkKey, LawfulLinkChild, LawfulLinkNext}
use Rattle.hc_heap.specs.Kept.{UnusedSaysNothing}
use Rattle.hc_heap.specs.States.{View, HeapState, IsHeap, one_load, with_write}
use Rattle.hc_links.specs.Chains.{linked}
use Rattle.hc_links.specs.Laws.{HeadsAreThere, LinkedIsNewest, IsLinked}

some-none : {T : Type 0} (P : T → Type 0) (o : Option T) → IsSomeAnd o P → o ≡ None → ⊥
some-none P (Some v) h e = cc
some-none P None h e = h

-- what came after an item was handed out came from the heap before
pub went-begun : {P : Type 0} (went : P → List Access → List Access → P → Type 0) (a f : HeapState P) (used : Shape) → f ≡ record a { view = record a.view { used = used } }
    → (stores : List Access) (p : P) → went f.pace f.desk.trail stores p → went a.pace a.desk.trail stores p
went-begun {P} went a f used handed stores p h =
    subst (λ t. went a.pace t stores p) (ap (λ (h : HeapState P). h.desk.trail) handed)
    (subst (λ b. went b f.desk.trail stores p) (ap (λ (h : HeapState P). h.pace) handed) h)

-- from a heap a link was handed out
module _ {P : Type 0} (a f : HeapState P) (used : Shape) (handed : f ≡ record a { view = record a.view { used = used } }) (heap : IsHeap a.view) (law : UnusedSaysNothing) (l : ℕ) (fresh : l ≡ a.view.used.links) (key : Key) where
  trail-begun : f.view.trail ≡ a.view.trail
  trail-begun = ap (λ (h : HeapState P). h.view.trail) handed

  shape-begun : f.view.shape ≡ a.view.shape
  shape-begun = ap (λ (h : HeapState P). h.view.shape) handed

  unused : a.view.used.links ≤ l
  unused = omega arith

  pub key-lawful : IsKey key → LawfulLinkKey f.view.shape f.view.trail l key
  key-lawful form =
      subst (λ t. LawfulLinkKey f.view.shape t l key) (sym trail-begun)
      (record { unwritten = law a.view.used a.view.trail KeyOfLink l heap.used unused; form = form })

  -- its key was written
  module _ (k : View) (first : k ≡ with_write f.view (LinkKey l key)) (m child : ℕ) (by : IsChildBy a.view.trail m child key) where
    trail-with_key : k.trail ≡ LinkKey l key ∷ a.view.trail
    trail-with_key = ap (λ (v : View). v.trail) first ∙ ap (λ t. LinkKey l key ∷ t) trail-begun

    child-there : child < a.view.shape.maps
    child-there =
        let handed_out : a.view.used.maps ≤ child → ⊥ = λ le. some-none _ (gate_in a.view.trail child) by.gate (law a.view.used a.view.trail GateOfMap child heap.used le) in
        omega (arith, heap.most Maps, handed_out)

    pub child-lawful : LawfulLinkChild k.shape k.trail l child
    child-lawful =
        subst (λ s. LawfulLinkChild s k.trail l child) (sym (ap (λ (v : View). v.shape) first ∙ shape-begun))
        (subst (λ t. LawfulLinkChild a.view.shape t l child) (sym trail-with_key)
        (record { unwritten = law a.view.used a.view.trail ChildOfLink l heap.used unused; there = child-there }))

    -- its child was written, and the head was read
    module _ (d r : HeapState P) (second : d.view ≡ with_write k (LinkChild l child)) (loaded : r ≡ record d { desk = one_load d.desk }) (head : Option ℕ) (read : head ≡ head_in d.view.trail m) where
      trail-with_child : d.view.trail ≡ LinkChild l child ∷ LinkKey l key ∷ a.view.trail
      trail-with_child = ap (λ (v : View). v.trail) second ∙ ap (λ t. LinkChild l child ∷ t) trail-with_key

      trail-read : r.view.trail ≡ LinkChild l child ∷ LinkKey l key ∷ a.view.trail
      trail-read = ap (λ (h : HeapState P). h.view.trail) loaded ∙ trail-with_child

      shape-read : r.view.shape ≡ a.view.shape
      shape-read = ap (λ (h : HeapState P). h.view.shape) loaded ∙ ap (λ (v : View). v.shape) second ∙ ap (λ (v : View). v.shape) first ∙ shape-begun

      head-before : head ≡ head_in a.view.trail m
      head-before = read ∙ ap (λ t. head_in t m) trail-with_child

      pub next-lawful : HeadsAreThere → LawfulLinkNext r.view.shape r.view.trail l head
      next-lawful heads =
          subst (λ s. LawfulLinkNext s r.view.trail l head) (sym shape-read)
          (subst (λ t. LawfulLinkNext a.view.shape t l head) (sym trail-read)
          (record {
            unwritten = law a.view.used a.view.trail NextOfLink l heap.used unused;
            there = subst (λ o. IfSome o (λ x. x < a.view.shape.links)) (sym head-before) (heads a.view.shape a.view.trail m heap.lawful);
          }))

      -- its next was written, and it was put before the links of the map
      module _ (n e : View) (third : n ≡ with_write r.view (LinkNext l head)) (fourth : e ≡ with_write n (Head m (Some l))) where
        trail-linked : e.trail ≡ linked a.view.trail m l key child
        trail-linked =
            ap (λ (v : View). v.trail) fourth ∙ ap (λ (v : View). Head m (Some l) ∷ v.trail) third ∙ ap (λ t. Head m (Some l) ∷ LinkNext l head ∷ t) trail-read
            ∙ ap (λ o. Head m (Some l) ∷ LinkNext l o ∷ LinkChild l child ∷ LinkKey l key ∷ a.view.trail) head-before

        pub is-linked : LinkedIsNewest → IsHeap e → IsLinked a.view.trail e.trail m a.view.used.links key child
        is-linked newest whole =
            subst (λ x. IsLinked a.view.trail e.trail m x key child) fresh
            (subst (λ t. IsLinked a.view.trail t m l key child) (sym trail-linked)
            (newest e.shape a.view.trail m l key child (subst (λ t. Lawful e.shape t) trail-linked whole.lawful)))
