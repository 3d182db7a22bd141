-- Two shared maps with one prototype and the same keys are one map.
use Rattle.std.proofs.Common.{◌≡◌, ℕ, zero, suc, ◌+◌, ◌<◌, Bool, true, false, List, [], ◌∷◌, Option, Some, None, IfSome, length, get_or, refl, sym, ap, ◌∙◌, subst, arith, true≢false}
use Rattle.std.specs.Prelude.{IsTrue, Contains}
use Rattle.hc_layout.specs.declared.words.GateWord.{GateWord}
use Rattle.hc_value.specs.declared.key.Key.{Key}
use Rattle.hc_heap.specs.Writes.{Trail}
use Rattle.hc_heap.specs.Readings.{gate_in, parent_in, prototype_in, bits_in, link_key_in, link_child_in}
use Rattle.hc_heap.specs.Kept.{IsOpen}
use Rattle.hc_descs.specs.Entries.{key_at}
use Rattle.hc_links.specs.Chains.{links_in}
use Rattle.hc_tree.specs.Tree.{IsTree, IsChildFor, IsSoundLink, HaveOneLive, gate_with}
use Rattle.hc_modes.specs.State.{AreRoots}
use Rattle.hc_slots.specs.Cases.{some-of, some-is}

get_or-any : (ls : List ℕ) (k a b : ℕ) → k < length ls → get_or ls k a ≡ get_or ls k b
get_or-any [] k a b lt = absurd (omega arith)
get_or-any (l ∷ ls) zero a b lt = refl
get_or-any (l ∷ ls) (suc k) a b lt = get_or-any ls k a b (omega arith)

dead-is : (t : Trail) (o : Option ℕ) (c : ℕ) → o ≡ Some c → IfSome o (λ x. IsTrue (bits_in t x).deprecated) → IsTrue (bits_in t c).deprecated
dead-is t o c is h = subst (λ (x : Option ℕ). IfSome x (λ y. IsTrue (bits_in t y).deprecated)) is h

-- two links of one key don't both lead to live maps
one-live : (t : Trail) (ls : List ℕ) (i j d c : ℕ) → (bits_in t c).deprecated ≡ false → HaveOneLive t ls → i < j → j < length ls → link_key_in t (get_or ls j d) ≡ link_key_in t (get_or ls i d) → link_child_in t (get_or ls j d) ≡ Some c → ⊥
one-live t [] i j d c live one lt within same leads = omega arith
one-live t (l ∷ ls) zero zero d c live one lt within same leads = omega arith
one-live t (l ∷ ls) zero (suc j) d c live one lt within same leads = true≢false (sym (dead-is t (link_child_in t (get_or ls j d)) c leads (one.0 j d (omega arith) same)) ∙ live)
one-live t (l ∷ ls) (suc i) zero d c live one lt within same leads = omega arith
one-live t (l ∷ ls) (suc i) (suc j) d c live one lt within same leads = one-live t ls i j d c live one.1 (omega arith) (omega arith) same leads

-- two live children of a map for one key are one
two-children : (t : Trail) (ls : List ℕ) (a b m c : ℕ) → (bits_in t m).deprecated ≡ false → (bits_in t c).deprecated ≡ false → HaveOneLive t ls → Contains ls a → Contains ls b → link_key_in t a ≡ link_key_in t b → link_child_in t a ≡ Some m → link_child_in t b ≡ Some c → m ≡ c
two-children t ls a b m c live_m live_c one in_a in_b same leads_a leads_b = some-is m c (sym leads_a ∙ ap (link_child_in t) links ∙ leads_b)
  where
    at_b : get_or ls in_b.0 a ≡ b
    at_b = get_or-any ls in_b.0 a b in_b.1 ∙ in_b.2

    below : in_a.0 < in_b.0 → ⊥
    below lt = one-live t ls in_a.0 in_b.0 a c live_c one lt in_b.1 (ap (link_key_in t) at_b ∙ sym same ∙ sym (ap (link_key_in t) in_a.2)) (ap (link_child_in t) at_b ∙ leads_b)

    above : in_b.0 < in_a.0 → ⊥
    above lt = one-live t ls in_b.0 in_a.0 a m live_m one lt in_a.1 (ap (link_key_in t) in_a.2 ∙ same ∙ sym (ap (link_key_in t) at_b)) (ap (link_child_in t) in_a.2 ∙ leads_a)

    places : in_a.0 ≡ in_b.0
    places = omega (arith, below, above)

    links : a ≡ b
    links = sym in_a.2 ∙ ap (λ (k : ℕ). get_or ls k a) places ∙ at_b

-- a shared map is the child of a shared one
pub record IsUnder (t : Trail) (m : ℕ) (g : GateWord) : Type 0 where
  pub parent : ℕ
  pub gate : GateWord
  pub is_open : gate_in t parent ≡ Some gate
  pub shared : gate.is_private ≡ false
  pub link : ℕ
  pub there : Contains (links_in t parent) link
  pub key : Key
  pub is_key : link_key_in t link ≡ Some key
  pub leads : link_child_in t link ≡ Some m
  pub child : IsChildFor t parent gate m key
  pub entries : g.entries ≡ gate.entries + 1

module _ (t : Trail) (of_null : Option ℕ) (tree : IsTree t) (roots : AreRoots t of_null) (opened : (m : ℕ) (g : GateWord) → gate_in t m ≡ Some g → IsOpen t m g) where
  shared-parent : (q : ℕ) (h : GateWord) (l : ℕ) → gate_in t q ≡ Some h → Contains (links_in t q) l → h.is_private ≡ false
  shared-parent q h l is there = by h.is_private refl
    where
      by : (b : Bool) → h.is_private ≡ b → h.is_private ≡ false
      by false e = e
      by true e =
          let none = (tree.maps q h is).unlinked e in
          let few : there.0 < 0 = subst (λ (ls : List ℕ). there.0 < length ls) none there.1 in
          absurd (omega (arith, few))

  -- where a shared map stands
  pub up : (m : ℕ) (g : GateWord) → gate_in t m ≡ Some g → g.is_private ≡ false → (C : Type 0) → (parent_in t m ≡ Some None → g.entries ≡ 0 → C) → (IsUnder t m g → C) → C
  up m g is shared C top under = by p.0 p.1
    where
      p : (v : Option ℕ) × (parent_in t m ≡ Some v)
      p = some-of (parent_in t m) (opened m g is).parent

      by : (q : Option ℕ) → parent_in t m ≡ Some q → C
      by None e = top e ((tree.maps m g is).root shared e).entries
      by (Some q) e =
          let led = (tree.maps m g is).child q e in
          let all = (tree.maps q led.gate led.is_open).links in
          let link : IsSoundLink t q led.gate led.link = subst (λ (l : ℕ). IsSoundLink t q led.gate l) led.there.2 (all led.there.0 led.link led.there.1) in
          let same : link.child ≡ m = some-is link.child m (sym link.is_child ∙ led.leads) in
          let child : IsChildFor t q led.gate m link.key = subst (λ (c : ℕ). IsChildFor t q led.gate c link.key) same link.sound in
          let gates : g ≡ gate_with (led.gate.entries + 1) false = some-is g (gate_with (led.gate.entries + 1) false) (sym is ∙ child.gate) in
          under (record {
            parent = q;
            gate = led.gate;
            is_open = led.is_open;
            shared = shared-parent q led.gate led.link led.is_open led.there;
            link = led.link;
            there = led.there;
            key = link.key;
            is_key = link.is_key;
            leads = led.leads;
            child = child;
            entries = ap (λ (x : GateWord). x.entries) gates;
          })

  -- a shared map that has an entry is the child of a shared one
  pub is-under : (m : ℕ) (g : GateWord) → gate_in t m ≡ Some g → g.is_private ≡ false → 0 < g.entries → IsUnder t m g
  is-under m g is shared some = up m g is shared (IsUnder t m g) (λ top none. absurd (omega (arith, none, some))) (λ under. under)

  -- what stands above a live map is live
  above-live : (m : ℕ) (g : GateWord) (a : IsUnder t m g) → (bits_in t m).deprecated ≡ false → (bits_in t a.parent).deprecated ≡ false
  above-live m g a live = by (bits_in t a.parent).deprecated refl
    where
      by : (b : Bool) → (bits_in t a.parent).deprecated ≡ b → (bits_in t a.parent).deprecated ≡ false
      by false e = e
      by true e = absurd (true≢false (sym (a.child.deprecated e) ∙ live))

  -- live shared maps with one prototype and the same keys are one
  pub one-map : (n m c : ℕ) (g h : GateWord) → (bits_in t m).deprecated ≡ false → (bits_in t c).deprecated ≡ false → gate_in t m ≡ Some g → gate_in t c ≡ Some h → g.is_private ≡ false → h.is_private ≡ false → g.entries ≡ n → h.entries ≡ n
      → prototype_in t m ≡ prototype_in t c → ((k : ℕ) → k < n → key_at t m k ≡ key_at t c k) → m ≡ c
  one-map zero m c g h live_m live_c is_m is_c shared_m shared_c few_m few_c proto keys =
      up m g is_m shared_m (m ≡ c)
      (λ top_m none_m. up c h is_c shared_c (m ≡ c)
      (λ top_c none_c.
      let p = some-of (prototype_in t m) (opened m g is_m).prototype in
      some-is m c (sym (roots.named m g p.0 is_m shared_m top_m p.1) ∙ roots.named c h p.0 is_c shared_c top_c (sym proto ∙ p.1)))
      (λ under. absurd (omega (arith, under.entries, few_c))))
      (λ under. absurd (omega (arith, under.entries, few_m)))
  one-map (suc n) m c g h live_m live_c is_m is_c shared_m shared_c few_m few_c proto keys =
      up m g is_m shared_m (m ≡ c)
      (λ top none. absurd (omega (arith, none, few_m)))
      (λ a. up c h is_c shared_c (m ≡ c)
      (λ top none. absurd (omega (arith, none, few_c)))
      (λ b.
      let n_a : a.gate.entries ≡ n = omega (arith, a.entries, few_m) in
      let n_b : b.gate.entries ≡ n = omega (arith, b.entries, few_c) in
      let parents : a.parent ≡ b.parent = one-map n a.parent b.parent a.gate b.gate (above-live m g a live_m) (above-live c h b live_c) a.is_open b.is_open a.shared b.shared n_a n_b (sym a.child.prototype ∙ proto ∙ b.child.prototype)
      (λ k lt.
      let in_a : k < a.gate.entries = omega (arith, lt, n_a) in
      let in_b : k < b.gate.entries = omega (arith, lt, n_b) in
      let within : k < suc n = omega (arith, lt) in
      sym (a.child.entries.keys k in_a) ∙ keys k within ∙ b.child.entries.keys k in_b) in
      let last_a : key_at t m n ≡ Some a.key = subst (λ (k : ℕ). key_at t m k ≡ Some a.key) n_a a.child.last in
      let last_b : key_at t c n ≡ Some b.key = subst (λ (k : ℕ). key_at t c k ≡ Some b.key) n_b b.child.last in
      let last : n < suc n = omega arith in
      let same : link_key_in t a.link ≡ link_key_in t b.link = a.is_key ∙ sym last_a ∙ keys n last ∙ last_b ∙ sym b.is_key in
      let there : Contains (links_in t a.parent) b.link = subst (λ (q : ℕ). Contains (links_in t q) b.link) (sym parents) b.there in
      two-children t (links_in t a.parent) a.link b.link m c live_m live_c (tree.maps a.parent a.gate a.is_open).live a.there there same a.leads b.leads))
