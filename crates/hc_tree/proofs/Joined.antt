-- The fields of a map, joined one after another with those of another map.
use Rattle.std.proofs.Common.{◌≡◌, ◌≢◌, ℕ, ◌+◌, ◌<◌, ◌≤◌, false, Option, Some, None, refl, sym, ap, ◌∙◌, subst, arith, IsSome}
use Rattle.std.specs.Prelude.{IsSomeAnd}
use Rattle.hc_layout.specs.declared.shape.Shape.{Shape}
use Rattle.hc_layout.specs.declared.words.GateWord.{GateWord}
use Rattle.hc_value.specs.Field.{joined_detail}
use Rattle.hc_value.specs.declared.field.Detail.{Detail}
use Rattle.hc_heap.specs.Writes.{Trail, FieldDetail}
use Rattle.hc_heap.specs.Readings.{gate_in, detail_in}
use Rattle.hc_heap.specs.Lawful.{IsField, Lawful}
use Rattle.hc_heap.specs.Kept.{Adds}
use Rattle.hc_heap.specs.Frames.{adds-none, adds-one, adds-on, goes-on-of, goes-still}
use Rattle.hc_heap.specs.States.{View, IsHeap}
use Rattle.hc_descs.specs.Entries.{field_at}
use Rattle.hc_fields.specs.Fields.{raised}
use Rattle.hc_tree.specs.Kept.{MapsAreKept, MapsStay}
use Rattle.hc_tree.specs.Tree.{IsTree, gate_with}
use Rattle.hc_tree.specs.Growth.{live_child}
use Rattle.hc_tree.specs.Details.{NoMap, Reshapes, WritesDetails, detail_of, detail_at, joined_with}
use Rattle.hc_tree.specs.Walking.{AreJoined, GetsJoin, both_details, joined_at}
use Rattle.hc_tree.proofs.Joins.{Raised, live-same, raised-case, raised-writes}
use Rattle.hc_tree.proofs.Opening.{cond-other, same-or}

pub joined-none : (v : View) (end m stop count n : ℕ) → IsHeap v → IsTree v.trail → AreJoined v v end m stop count n 0
joined-none v end m stop count n heap tree = record {
  view = refl;
  writes = adds-none v.trail;
  only = adds-none v.trail;
  lives = λ x key. refl;
  joined = λ j lt. absurd (omega (arith, lt));
  rest = λ j le lt. refl;
  others = λ j le lt. refl;
  tree = tree;
  heap = heap;
}

raised-other : (t : Trail) (f : ℕ) (d : Detail) (y : ℕ) → f ≢ y → detail_in (raised t f d) y ≡ detail_in t y
raised-other t f d y other = raised-case (λ (u : Trail). detail_in u y ≡ detail_in t y) t f d refl (λ e is. cond-other f y (Some (joined_detail e d)) (detail_in t y) other)

of-other : (t : Trail) (f : ℕ) (d : Detail) (o : Option ℕ) → (o ≡ Some f → ⊥) → detail_of (raised t f d) o ≡ detail_of t o
of-other t f d (Some y) other = raised-other t f d y (λ is. other (ap (λ (x : ℕ). Some x) (sym is)))
of-other t f d None other = refl

-- what another field admits stays
at-other : (t : Trail) (f : ℕ) (d : Detail) (x j : ℕ) → (field_at t x j ≡ Some f → ⊥) → detail_at (raised t f d) x j ≡ detail_at t x j
at-other t f d x j other =
    ap (detail_of (raised t f d)) (raised-case (λ (u : Trail). field_at u x j ≡ field_at t x j) t f d refl (λ e is. refl)) ∙ of-other t f d (field_at t x j) other

some-detail : (t : Trail) (o : Option ℕ) → IsSomeAnd o (λ f. IsField t f) → IsSome (detail_of t o)
some-detail t (Some f) made = made.detail
some-detail t None made = absurd made

join-both : (o a b : Option Detail) (d : Detail) → IsSome o → o ≡ a → Some d ≡ b → Some (joined_with o d) ≡ both_details a b
join-both (Some e) a b d some is same = ap (λ (x : Option Detail). both_details (Some e) x) same ∙ ap (λ (x : Option Detail). both_details x b) is
join-both None a b d some is same = let n : ⊥ = cc in absurd n

module _ (law : MapsAreKept) (a b c : View) (end m stop count n k : ℕ) (d : Detail) (heap : IsHeap a) (at_end : gate_in a.trail end ≡ Some (gate_with count false)) (at_map : gate_in a.trail m ≡ Some (gate_with n false)) (within : count ≤ n) (upto : stop ≤ count) (below_stop : k < stop)
    (it : AreJoined a b end m stop count n k) (up : Raised b c end k d) (is : detail_at b.trail m k ≡ Some d) (joins : detail_at c.trail end k ≡ Some (joined_with (detail_at b.trail end k) d)) (tree : IsTree c.trail) (heap_c : IsHeap c) where
  lt : k < count
  lt = omega (arith, upto, below_stop)

  same-shape : b.shape ≡ a.shape
  same-shape = ap (λ (v : View). v.shape) it.view

  lawful-b : Lawful a.shape b.trail
  lawful-b = subst (λ (s : Shape). Lawful s b.trail) same-shape it.heap.lawful

  kept : MapsStay a.trail b.trail
  kept = law a.shape a.trail b.trail heap.lawful (goes-on-of a.shape it.only lawful-b)

  end-b : gate_in b.trail end ≡ Some (gate_with count false)
  end-b = kept.written.gate end (gate_with count false) at_end

  map-b : gate_in b.trail m ≡ Some (gate_with n false)
  map-b = kept.written.gate m (gate_with n false) at_map

  trail-c : c.trail ≡ raised b.trail up.field d
  trail-c = ap (λ (v : View). v.trail) up.view

  some-here : IsSome (detail_at b.trail end k)
  some-here =
      let still = law a.shape b.trail b.trail lawful-b (goes-still a.shape lawful-b) in
      some-detail b.trail (field_at b.trail end k) ((still.opened end (gate_with count false) end-b).entries.fields k lt)

  here : joined_at a.trail end m k ≡ Some (joined_with (detail_at b.trail end k) d)
  here = sym (join-both (detail_at b.trail end k) (detail_at a.trail end k) (detail_at a.trail m k) d some-here (it.rest k (omega arith) lt) (sym is ∙ it.others k (omega arith) (omega (arith, lt, within))))

  apart : (x j : ℕ) (g : GateWord) → gate_in b.trail x ≡ Some g → j < g.entries → j ≢ k → detail_at c.trail x j ≡ detail_at b.trail x j
  apart x j g gate below other = subst (λ (t : Trail). detail_at t x j ≡ detail_at b.trail x j) (sym trail-c)
      (at-other b.trail up.field d x j (λ at. other (it.tree.places x end g (gate_with count false) j k up.field gate end-b below lt at up.at)))

  gets : (e : Detail) → detail_in b.trail up.field ≡ Some e → GetsJoin a.trail end m stop up.field (joined_detail e d)
  gets e was = record {
    place = k;
    within = below_stop;
    field = sym (kept.entry end k (gate_with count false) at_end lt).field ∙ up.at;
    joined = here ∙ ap (λ (o : Option Detail). Some (joined_with o d)) (ap (detail_of b.trail) up.at ∙ was);
  }

  pub joined-more : AreJoined a c end m stop count n (k + 1)
  joined-more = record {
    view = up.view ∙ ap (λ (v : View). record v { trail = raised b.trail up.field d }) it.view ∙ ap (λ (t : Trail). record a { trail = t }) (sym trail-c);
    writes = adds-on it.writes (subst (λ (t : Trail). Adds (Reshapes a.used NoMap (GetsJoin a.trail end m stop)) b.trail t) (sym trail-c)
        (raised-case (Adds (Reshapes a.used NoMap (GetsJoin a.trail end m stop)) b.trail) b.trail up.field d (adds-none b.trail) (λ e was. adds-one b.trail (FieldDetail up.field (joined_detail e d)) (gets e was))));
    only = adds-on it.only (subst (λ (t : Trail). Adds WritesDetails b.trail t) (sym trail-c) (raised-writes b.trail up.field d));
    lives = λ x key. ap (λ (t : Trail). live_child t x key) trail-c ∙ live-same b.trail (raised b.trail up.field d) (raised-writes b.trail up.field d) x key ∙ it.lives x key;
    joined = λ j below. same-or j k (detail_at c.trail end j ≡ joined_at a.trail end m j)
        (λ same. ap (detail_at c.trail end) same ∙ joins ∙ sym here ∙ ap (joined_at a.trail end m) (sym same))
        (λ other. let before : j < k = omega (arith, below, other) in apart end j (gate_with count false) end-b (omega (arith, before, lt)) other ∙ it.joined j before);
    rest = λ j above below. apart end j (gate_with count false) end-b below (λ same. omega (arith, same, above)) ∙ it.rest j (omega (arith, above)) below;
    others = λ j above below. apart m j (gate_with n false) map-b below (λ same. omega (arith, same, above)) ∙ it.others j (omega (arith, above)) below;
    tree = tree;
    heap = heap_c;
  }
