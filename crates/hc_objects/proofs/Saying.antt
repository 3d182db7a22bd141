-- What a valid cell says over several steps.
use Rattle.std.proofs.Common.{◌≡◌, ℕ, zero, suc, ◌<◌, Bool, true, false, cond, eqb, eq-eqb, true≢false, List, ◌∷◌, Option, Some, None, IsSome, length, refl, sym, ap, ◌∙◌, subst, arith, inl}
use Rattle.std.specs.Prelude.{IsSomeAnd}
use Rattle.hc_board.specs.Trail.{Access}
use Rattle.hc_layout.specs.declared.words.CellWord.{CellWord}
use Rattle.hc_heap.specs.Readings.{validity_in}
use Rattle.hc_heap.specs.Writes.{Trail}
use Rattle.hc_cells.specs.Chains.{chain_among, has, proto_at}
use Rattle.hc_table.specs.Changes.{Did}
use Rattle.hc_slots.specs.Cases.{some-and}
use Rattle.hc_slots.specs.Meaning.{Dictionary}
use Rattle.hc_modes.specs.Laws.{with_loads}
use Rattle.hc_modes.specs.Meaning.{kept_of}
use Rattle.hc_modes.specs.State.{IsObjects, ObjectsState}
use Rattle.hc_modes.specs.Validity.{CellFollows, StaysPut, goes_through, protos_of}
use Rattle.hc_objects.specs.Came.{Came, IsStill, SaysStill}
use Rattle.hc_objects.specs.Laws.{by-steps, followed-shape}
use Rattle.hc_objects.specs.State.{IsStanding}
use Rattle.hc_objects.proofs.Beside.{chain-there}
use Rattle.hc_objects.proofs.Told.{Told, count-told, count-world, fast-map, slow-mapless}

-- A chain whose objects keep their prototypes

has-next : (q r : ℕ) (qs : List ℕ) → has qs r ≡ true → has (q ∷ qs) r ≡ true
has-next q r qs h = by (eqb q r)
  where
    by : (test : Bool) → cond test true (has qs r) ≡ true
    by true = refl
    by false = h

has-first : (q : ℕ) (qs : List ℕ) → has (q ∷ qs) q ≡ true
has-first q qs = ap (λ (test : Bool). cond test true (has qs q)) (eq-eqb q q refl)

chain-same : (old new : Trail) (protos later : List (Option ℕ)) (n : ℕ) (at : Option ℕ) → ((q : ℕ) → has (chain_among n old protos at) q ≡ true → proto_at new later q ≡ proto_at old protos q) → chain_among n new later at ≡ chain_among n old protos at
chain-same old new protos later zero None keep = refl
chain-same old new protos later (suc n) None keep = refl
chain-same old new protos later zero (Some q) keep = refl
chain-same old new protos later (suc n) (Some q) keep =
    let next = proto_at old protos q in
    let same = keep q (has-first q (chain_among n old protos next)) in
    ap (λ (qs : List ℕ). q ∷ qs)
    (ap (λ (at : Option ℕ). chain_among n new later at) same
    ∙ chain-same old new protos later n next (λ r h. keep r (has-next q r (chain_among n old protos next) h)))

module _ {P : Type 0} (a b : ObjectsState P) (told_a : Told a) (told_b : Told b) (shape : b.heap.view.shape ≡ a.heap.view.shape) (p : ℕ)
    (put : (q : ℕ) → goes_through a p q → StaysPut a b q) where
  sizes : length (protos_of b) ≡ length (protos_of a)
  sizes = count-told b ∙ ap (λ s. s.objects) shape ∙ sym (count-told a)

  pub way-put : (q : ℕ) → goes_through a p q → goes_through b p q
  way-put q through =
      ap (λ (n : ℕ). has (chain_among n b.heap.view.trail (protos_of b) (Some p)) q) sizes
      ∙ ap (λ (qs : List ℕ). has qs q)
      (chain-same a.heap.view.trail b.heap.view.trail (protos_of a) (protos_of b) (length (protos_of a)) (Some p)
      (λ r h. told_b.proto r ∙ (put r h).proto ∙ sym (told_a.proto r)))
      ∙ through

-- An object that stays put twice

put-on : {P : Type 0} (a b c : ObjectsState P) (sa : IsObjects a.heap.view a.kept a.of_null) (sb : IsObjects b.heap.view b.kept b.of_null) (q : ℕ) → q < length b.kept → StaysPut a b q → StaysPut b c q → StaysPut a c q
put-on {P} a b c sa sb q there x y = record {
  map = y.map ∙ x.map;
  proto = y.proto ∙ x.proto;
  props = λ slow. y.props (still-slow slow) ∙ x.props slow;
}
  where
    still-slow : IsSome (kept_of a.kept q) → IsSome (kept_of b.kept q)
    still-slow slow = by (kept_of a.kept q) (kept_of b.kept q) refl refl slow
      where
        by : (was now : Option Dictionary) → kept_of a.kept q ≡ was → kept_of b.kept q ≡ now → IsSome was → IsSome now
        by (Some d) (Some e) is_a is_b h = refl
        by (Some d) None is_a is_b h = absurd (fast-map b sb q there is_b (x.map ∙ slow-mapless a sa q d is_a))
        by None now is_a is_b h = let n : ⊥ = cc in absurd n

-- Cells

says-by : {P : Type 0} (a b : ObjectsState P) (was now : CellWord) → CellFollows a b was now → SaysStill a b was now
says-by {P} a b was now h = record { object = h.object; valid = λ valid. by was.invalid refl valid; put = h.put }
  where
    by : (i : Bool) → was.invalid ≡ i → now.invalid ≡ false → was.invalid ≡ false
    by false is valid = is
    by true is valid = absurd (true≢false (sym (h.invalid.1 (inl is)) ∙ valid))

says-some : {P : Type 0} (a b : ObjectsState P) (was : CellWord) (v : Option CellWord) → IsSomeAnd v (λ now. CellFollows a b was now) → IsSomeAnd v (λ now. SaysStill a b was now)
says-some {P} a b was (Some now) h = says-by a b was now h
says-some {P} a b was None h = absurd h

-- each cell that was handed out says so
abbrev CellsSay : {P : Type 0} → ObjectsState P → ObjectsState P → Type 0
CellsSay a b = (c : ℕ) (was : CellWord) → validity_in a.heap.view.trail c ≡ Some was → IsSomeAnd (validity_in b.heap.view.trail c) (λ now. SaysStill a b was now)

says-same : {P : Type 0} (a b : ObjectsState P) → IsStill a b → CellsSay a b
says-same {P} a b still c was e = subst (λ (s : ObjectsState P). IsSomeAnd (validity_in s.heap.view.trail c) (λ now. SaysStill a s was now)) (sym still.is)
    (subst (λ (v : Option CellWord). IsSomeAnd v (λ now. SaysStill a (with_loads a b.heap.desk.loads) was now)) (sym e)
    (record { object = refl; valid = λ valid. valid; put = λ valid q through. record { map = refl; proto = refl; props = λ slow. refl } }))

module _ {P : Type 0} (tell : (s : ObjectsState P) → IsObjects s.heap.view s.kept s.of_null → Told s) where
  module _ (a b c : ObjectsState P) (sa : IsStanding a) (sb : IsStanding b) (shape : b.heap.view.shape ≡ a.heap.view.shape) where
    says-then : (k : ℕ) (was mid now : CellWord) → validity_in b.heap.view.trail k ≡ Some mid → SaysStill a b was mid → SaysStill b c mid now → SaysStill a c was now
    says-then k was mid now at x y = record {
      object = y.object ∙ x.object;
      valid = λ valid. x.valid (y.valid valid);
      put = λ valid q through.
          let way = way-put a b (tell a sa.objects) (tell b sb.objects) shape was.object (x.put (y.valid valid)) q through in
          let on = subst (λ (p : ℕ). goes_through b p q) (sym x.object) way in
          let lt = sb.cells.objects k mid at in
          let items = sb.objects.items in
          let count = count-world b in
          let there = chain-there b (tell b sb.objects) q sb.objects mid.object (omega (arith, lt, items, count)) on in
          put-on a b c sa.objects sb.objects q (omega (arith, there, count)) (x.put (y.valid valid) q through) (y.put valid q on);
    }

    says-on : CellsSay a b → CellsSay b c → CellsSay a c
    says-on x y k was e =
        let one = some-and (validity_in b.heap.view.trail k) (λ now. SaysStill a b was now) (x k was e) in
        let two = some-and (validity_in c.heap.view.trail k) (λ now. SaysStill b c one.0 now) (y k one.0 one.1.0) in
        subst (λ (v : Option CellWord). IsSomeAnd v (λ now. SaysStill a c was now)) (sym two.1.0) (says-then k was one.0 two.0 one.1.0 one.1.1 two.1.1)

-- a valid cell says so of all that was done
module _ {P : Type 0} (went : P → List Access → List Access → P → Type 0) (tell : (s : ObjectsState P) → IsObjects s.heap.view s.kept s.of_null → Told s) where
  record CellsSaySo (a b : ObjectsState P) : Type 0 where
    pub say : CellsSay a b
    pub shape : b.heap.view.shape ≡ a.heap.view.shape

  pub says-still : (a b : ObjectsState P) (did : Did) (c : ℕ) (was : CellWord) → IsStanding a → Came went a did b → validity_in a.heap.view.trail c ≡ Some was → IsSomeAnd (validity_in b.heap.view.trail c) (λ now. SaysStill a b was now)
  says-still a b did c was sound came e = (by-steps went CellsSaySo
      (λ x y still. record { say = says-same x y still; shape = ap (λ (s : ObjectsState P). s.heap.view.shape) still.is })
      (λ x y z sx sy sz h k. record { say = says-on tell x y z sx sy h.shape h.say k.say; shape = k.shape ∙ h.shape })
      (λ x y d sx sy f. record { say = λ k w is. says-some x y w (validity_in y.heap.view.trail k) (f.cells.cells k w is); shape = followed-shape went x y d f })
      a b did sound came).say c was e
