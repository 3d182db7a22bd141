-- The fields of a private copy stand at their places.
use Rattle.std.proofs.Common.{◌≡◌, ℕ, ◌+◌, ◌<◌, Bool, true, false, cond, eqb, eqb-true, Option, Some, None, refl, sym, ap, ◌∙◌, subst, arith, ⊎_elim}
use Rattle.std.specs.Prelude.{IsSomeAnd, IsTrue}
use Rattle.hc_layout.specs.declared.words.GateWord.{GateWord}
use Rattle.hc_heap.specs.Readings.{gate_in}
use Rattle.hc_heap.specs.Lawful.{IsField, Lawful}
use Rattle.hc_heap.specs.Kept.{Adds, UnusedSaysNothing}
use Rattle.hc_heap.specs.Frames.{goes-on-of}
use Rattle.hc_heap.specs.States.{View, IsHeap}
use Rattle.hc_descs.specs.Entries.{field_at}
use Rattle.hc_descs.specs.Copies.{HasEntriesBut}
use Rattle.hc_tree.specs.Kept.{MapsAreKept, MapsStay}
use Rattle.hc_tree.specs.Tree.{IsTree}
use Rattle.hc_tree.specs.Growth.{IsPlaced}
use Rattle.hc_tree.specs.Copying.{More, FillsCopy, HasCopied, copied_count}
use Rattle.hc_tree.proofs.Made.{field-used, some-with}
use Rattle.hc_tree.proofs.Whole.{MapReadings, maps-same, last-or}

some-is : {T : Type 0} (a b : T) (o : Option T) → o ≡ Some a → o ≡ Some b → a ≡ b
some-is a b o p q = cc

and-is : {T : Type 0} (P : T → Type 0) (o : Option T) (v : T) → IsSomeAnd o P → o ≡ Some v → P v
and-is P (Some w) v h e = let same : w ≡ v = cc in subst P same h
and-is P None v h e = absurd h

module _ (law : MapsAreKept) (unused : UnusedSaysNothing) (a b : View) (c e f m n : ℕ) (heap : IsHeap a) (after : Lawful a.shape b.trail) (h : Adds (FillsCopy c e f) a.trail b.trail)
    (some : IsSomeAnd (gate_in a.trail m) (λ g. g.entries ≡ n)) (tree : IsTree b.trail) where
  kept : MapsStay a.trail b.trail
  kept = law a.shape a.trail b.trail heap.lawful (goes-on-of a.shape h after)

  gates : (x : ℕ) → gate_in b.trail x ≡ gate_in a.trail x
  gates x = ap (λ (r : MapReadings). r.gates x) (maps-same c e f a.trail b.trail h)

  -- an open map's fields were handed out before
  below : (x : ℕ) (g : GateWord) (j y : ℕ) → gate_in b.trail x ≡ Some g → j < g.entries → field_at b.trail x j ≡ Some y → y < a.used.fields
  below x g j y is lt at =
      let was : gate_in a.trail x ≡ Some g = sym (gates x) ∙ is in
      let there : field_at a.trail x j ≡ Some y = sym (kept.entry x j g was lt).field ∙ at in
      field-used a y unused heap (and-is (λ (z : ℕ). IsField a.trail z) (field_at a.trail x j) y ((kept.opened x g was).entries.fields j lt) there)

  -- the gate of the map that is copied
  gate_of_map : (g : GateWord) × ((gate_in b.trail m ≡ Some g) × (g.entries ≡ n))
  gate_of_map = let w = some-with (λ (g : GateWord). g.entries ≡ n) (gate_in a.trail m) some in (w.0, (gates m ∙ w.1.0, w.1.1))

  same-place : (x : ℕ) (k : GateWord) (i j y : ℕ) → gate_in b.trail x ≡ Some k → i < n → j < k.entries → field_at b.trail m i ≡ Some y → field_at b.trail x j ≡ Some y → i ≡ j
  same-place x k i j y is li lj fi fj =
      let g = gate_of_map in
      let size : g.0.entries ≡ n = g.1.1 in
      tree.places m x g.0 k i j y g.1.0 is (omega (arith, size, li)) lj fi fj

  like-place : (i j y : ℕ) → i < n → j < n → field_at b.trail m i ≡ Some y → field_at b.trail m j ≡ Some y → i ≡ j
  like-place i j y li lj fi fj =
      let g = gate_of_map in
      let size : g.0.entries ≡ n = g.1.1 in
      tree.places m m g.0 g.0 i j y g.1.0 g.1.0 (omega (arith, size, li)) (omega (arith, size, lj)) fi fj

  -- a copy with the map's own fields, but for a new one at one place
  pub but-placed : (place : ℕ) → HasEntriesBut b.trail c m n place a.used.fields → IsPlaced b.trail c n
  but-placed place entries = record { own = λ i j y li lj fi fj. both (eqb i place) (eqb j place) i j y refl refl li lj fi fj; others = λ x k i j y is li lj fi fj. other (eqb i place) x k i j y refl is li lj fi fj }
    where
      new-is : (i y : ℕ) → eqb i place ≡ true → i < n → field_at b.trail c i ≡ Some y → a.used.fields ≡ y
      new-is i y e li fi = some-is a.used.fields y (field_at b.trail c i) (entries.fields i li ∙ ap (λ (t : Bool). cond t (Some a.used.fields) (field_at b.trail m i)) e) fi

      old-is : (i y : ℕ) → eqb i place ≡ false → i < n → field_at b.trail c i ≡ Some y → field_at b.trail m i ≡ Some y
      old-is i y e li fi = sym (entries.fields i li ∙ ap (λ (t : Bool). cond t (Some a.used.fields) (field_at b.trail m i)) e) ∙ fi

      apart : (i y : ℕ) → i < n → field_at b.trail m i ≡ Some y → a.used.fields ≡ y → ⊥
      apart i y li fi same =
          let g = gate_of_map in
          let size : g.0.entries ≡ n = g.1.1 in
          let there = below m g.0 i y g.1.0 (omega (arith, size, li)) fi in
          omega (arith, there, same)

      both : (s t : Bool) (i j y : ℕ) → eqb i place ≡ s → eqb j place ≡ t → i < n → j < n → field_at b.trail c i ≡ Some y → field_at b.trail c j ≡ Some y → i ≡ j
      both true true i j y ei ej li lj fi fj = eqb-true i place ei ∙ sym (eqb-true j place ej)
      both true false i j y ei ej li lj fi fj = absurd (apart j y lj (old-is j y ej lj fj) (new-is i y ei li fi))
      both false true i j y ei ej li lj fi fj = absurd (apart i y li (old-is i y ei li fi) (new-is j y ej lj fj))
      both false false i j y ei ej li lj fi fj = like-place i j y li lj (old-is i y ei li fi) (old-is j y ej lj fj)

      other : (s : Bool) (x : ℕ) (k : GateWord) (i j y : ℕ) → eqb i place ≡ s → gate_in b.trail x ≡ Some k → i < n → j < k.entries → field_at b.trail c i ≡ Some y → field_at b.trail x j ≡ Some y → i ≡ j
      other true x k i j y e is li lj fi fj =
          let here : a.used.fields ≡ y = new-is i y e li fi in
          let there = below x k j y is lj fj in absurd (omega (arith, here, there))
      other false x k i j y e is li lj fi fj = same-place x k i j y is li lj (old-is i y e li fi) fj

  -- a copy with the map's own fields, and one more
  last-placed : ((k : ℕ) → k < n → field_at b.trail c k ≡ field_at b.trail m k) → field_at b.trail c n ≡ Some a.used.fields → IsPlaced b.trail c (n + 1)
  last-placed same last = record {
    own = λ i j y li lj fi fj. ⊎_elim
        (λ (bi : i < n). ⊎_elim
        (λ (bj : j < n). like-place i j y bi bj (sym (same i bi) ∙ fi) (sym (same j bj) ∙ fj))
        (λ (ej : j ≡ n). absurd (is-new i y bi fi (subst (λ (x : ℕ). field_at b.trail c x ≡ Some y) ej fj))) (last-or j n lj))
        (λ (ei : i ≡ n). ⊎_elim
        (λ (bj : j < n). absurd (is-new j y bj fj (subst (λ (x : ℕ). field_at b.trail c x ≡ Some y) ei fi)))
        (λ (ej : j ≡ n). ei ∙ sym ej) (last-or j n lj)) (last-or i n li);
    others = λ x k i j y is li lj fi fj. ⊎_elim
        (λ (bi : i < n). same-place x k i j y is bi lj (sym (same i bi) ∙ fi) fj)
        (λ (ei : i ≡ n).
        let here : a.used.fields ≡ y = some-is a.used.fields y (field_at b.trail c n) last (subst (λ (z : ℕ). field_at b.trail c z ≡ Some y) ei fi) in
        let there = below x k j y is lj fj in absurd (omega (arith, here, there))) (last-or i n li);
  }
    where
      is-new : (i y : ℕ) → i < n → field_at b.trail c i ≡ Some y → field_at b.trail c n ≡ Some y → ⊥
      is-new i y lt fi fn =
          let g = gate_of_map in
          let size : g.0.entries ≡ n = g.1.1 in
          let here : a.used.fields ≡ y = some-is a.used.fields y (field_at b.trail c n) last fn in
          let there = below m g.0 i y g.1.0 (omega (arith, size, lt)) (sym (same i lt) ∙ fi) in
          omega (arith, here, there)

  pub copied-placed : (fresh : Bool) (more : More) → (IsTrue fresh → more ≡ None) → HasCopied fresh b.trail c m n a.used.fields → ((x : _) → more ≡ Some x → field_at b.trail c n ≡ Some a.used.fields) → IsPlaced b.trail c (copied_count more n)
  copied-placed true (Some x) alone copied last = let is = alone refl in let n : ⊥ = cc in absurd n
  copied-placed true None alone copied last = record {
    own = λ i j y li lj fi fj.
        let si = some-is (a.used.fields + i) y (field_at b.trail c i) (copied.entries.fields i li) fi in
        let sj = some-is (a.used.fields + j) y (field_at b.trail c j) (copied.entries.fields j lj) fj in omega (arith, si, sj);
    others = λ x k i j y is li lj fi fj.
        let si = some-is (a.used.fields + i) y (field_at b.trail c i) (copied.entries.fields i li) fi in
        let there = below x k j y is lj fj in absurd (omega (arith, si, there));
  }
  copied-placed false None alone copied last = record {
    own = λ i j y li lj fi fj. like-place i j y li lj (sym (copied.fields i li) ∙ fi) (sym (copied.fields j lj) ∙ fj);
    others = λ x k i j y is li lj fi fj. same-place x k i j y is li lj (sym (copied.fields i li) ∙ fi) fj;
  }
  copied-placed false (Some x) alone copied last = last-placed copied.fields (last x refl)
