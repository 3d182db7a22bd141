-- Two objects at most changed, and the cells follow.
use Rattle.std.proofs.Common.{◌≡◌, ◌≢◌, ℕ, ◌<◌, ◌≤◌, Bool, true, false, cond, true≢false, List, Option, Some, None, length, refl, sym, ap, ◌∙◌, subst, arith, inl, inr}
use Rattle.std.specs.Prelude.{◌⊎◌, IsTrue, IsSomeAnd, option_map}
use Rattle.hc_board.specs.Trail.{Access}
use Rattle.hc_layout.specs.declared.words.CellWord.{CellWord}
use Rattle.hc_heap.specs.Readings.{validity_in}
use Rattle.hc_heap.specs.Writes.{Trail}
use Rattle.hc_cells.specs.Cells.{AreCells, changed, invalid_cell, valid_cell}
use Rattle.hc_cells.specs.Chains.{has, passes}
use Rattle.hc_cells.specs.Laws.{ChainsStay, MarksStay, OthersKeep, WaysStay}
use Rattle.hc_cells.specs.Watched.{AreWatched, AreWatchedBut}
use Rattle.hc_table.specs.World.{World, object}
use Rattle.hc_slots.specs.Cases.{same-or, some-is}
use Rattle.hc_modes.specs.Came.{world_of}
use Rattle.hc_modes.specs.Cells.{CellsStay}
use Rattle.hc_modes.specs.State.{IsObjects, ObjectsState}
use Rattle.hc_modes.specs.Validity.{CellFollows, CellsFollow, ChangesOn, StaysPut, protos_of}
use Rattle.hc_objects.specs.Following.{AreInvalidatedAt, WatchedBut, cell_then}
use Rattle.hc_objects.proofs.Alone.{alone-back, alone-on}
use Rattle.hc_objects.proofs.Told.{Told, count-told}

-- Chains from one state to another

module _ {P : Type 0} (chains : ChainsStay) (ways : WaysStay) (a x : ObjectsState P) (told_a : Told a) (told_x : Told x) (shape : x.heap.view.shape ≡ a.heap.view.shape) where
  pub more : length (protos_of a) ≤ length (protos_of x)
  more = let before = count-told a in let after = count-told x in let same = ap (λ s. s.objects) shape in omega (arith, before, after, same)

  module _ (o : ℕ) (but : (q : ℕ) → q ≢ o → (object (world_of x) q).proto ≡ (object (world_of a) q).proto) where
    pub others-keep : OthersKeep o a.heap.view.trail x.heap.view.trail (protos_of a) (protos_of x)
    others-keep = record {
      more = more;
      same = λ q lt other. told_x.proto q ∙ but q other ∙ sym (told_a.proto q);
    }

    pub way-at : (p : ℕ) → p < length (protos_of a) → passes x.heap.view.trail (protos_of x) p o ≡ passes a.heap.view.trail (protos_of a) p o
    way-at p lt = let grown = more in ways o p a.heap.view.trail x.heap.view.trail (protos_of a) (protos_of x) others-keep (told_a.ends p lt) (told_x.ends p (omega (arith, lt, grown)))

    pub way-beside : (p : ℕ) → p < length (protos_of a) → passes a.heap.view.trail (protos_of a) p o ≡ false → (q : ℕ) → passes x.heap.view.trail (protos_of x) p q ≡ passes a.heap.view.trail (protos_of a) p q
    way-beside p lt missed q = ap (λ qs. has qs q) (chains o p a.heap.view.trail x.heap.view.trail (protos_of a) (protos_of x) others-keep (told_a.ends p lt) missed)

  pub way-same : ((q : ℕ) → (object (world_of x) q).proto ≡ (object (world_of a) q).proto) → (p : ℕ) → p < length (protos_of a) → (q : ℕ) → passes x.heap.view.trail (protos_of x) p q ≡ passes a.heap.view.trail (protos_of a) p q
  way-same all p lt q = way-at q (λ r other. all r) p lt

-- A change

module _ {P : Type 0} (chains : ChainsStay) (ways : WaysStay) (marks_stay : MarksStay) (a x : ObjectsState P) (told_a : Told a) (told_x : Told x) (shape : x.heap.view.shape ≡ a.heap.view.shape)
    (o : ℕ) (but : (q : ℕ) → q ≢ o → (object (world_of x) q).proto ≡ (object (world_of a) q).proto)
    (cells : AreCells a.heap.view.trail a.heap.view.used) (most : a.heap.view.used.objects ≤ a.heap.view.shape.objects) (stay : CellsStay a.heap.view.trail x.heap.view.trail)
    (here : Option ℕ) (first_moved : (q : ℕ) → here ≡ Some q → (q ≡ o) × (StaysPut a x o → ⊥))
    (first_kept : (c p : ℕ) → validity_in a.heap.view.trail c ≡ Some (valid_cell p) → IsTrue (passes a.heap.view.trail (protos_of a) p o) → here ≡ None → StaysPut a x o) where
  there-is : (c : ℕ) (was : CellWord) → validity_in a.heap.view.trail c ≡ Some was → was.object < length (protos_of a)
  there-is c was e = let lt = cells.objects c was e in let size = count-told a in omega (arith, lt, most, size)

  -- where nothing is to be told, the chains of valid cells are as they were
  kept-way : (c p : ℕ) → validity_in a.heap.view.trail c ≡ Some (valid_cell p) → here ≡ None → (q : ℕ) → passes x.heap.view.trail (protos_of x) p q ≡ passes a.heap.view.trail (protos_of a) p q
  kept-way c p e none q = by (passes a.heap.view.trail (protos_of a) p o) refl
    where
      lt : p < length (protos_of a)
      lt = there-is c (valid_cell p) e

      all : StaysPut a x o → (r : ℕ) → (object (world_of x) r).proto ≡ (object (world_of a) r).proto
      all put r = same-or r o ((object (world_of x) r).proto ≡ (object (world_of a) r).proto) (λ is. subst (λ (k : ℕ). (object (world_of x) k).proto ≡ (object (world_of a) k).proto) (sym is) put.proto) (λ other. but r other)

      by : (test : Bool) → passes a.heap.view.trail (protos_of a) p o ≡ test → passes x.heap.view.trail (protos_of x) p q ≡ passes a.heap.view.trail (protos_of a) p q
      by true through = way-same chains ways a x told_a told_x shape (all (first_kept c p e through none)) p lt q
      by false missed = way-beside chains ways a x told_a told_x shape o but p lt missed q

  -- the marks of before serve to make cells invalid
  pub still-watched : (marks : List Bool) → AreWatched a.heap.view.trail (protos_of a) marks → WatchedBut here x.heap.view.trail (protos_of x) marks
  still-watched marks watched = by here refl
    where
      by : (h : Option ℕ) → here ≡ h → WatchedBut h x.heap.view.trail (protos_of x) marks
      by None e = λ c p q valid through.
          let was : validity_in a.heap.view.trail c ≡ Some (valid_cell p) = sym (stay.validity c) ∙ valid in
          watched c p q was (sym (kept-way c p was e q) ∙ through)
      by (Some r) e =
          let size = count-told a in
          subst (λ (k : ℕ). AreWatchedBut k x.heap.view.trail (protos_of x) marks) (sym (first_moved r e).0)
          (marks_stay o a.heap.view x.heap.view.trail (protos_of a) (protos_of x) marks (others-keep chains ways a x told_a told_x shape o but) told_a.ends told_x.ends (omega (arith, most, size)) cells stay.validity watched)

  -- something changed at an object of a chain
  record IsAt (q p : ℕ) : Type 0 where
    pub through : IsTrue (passes a.heap.view.trail (protos_of a) p q)
    pub moved : StaysPut a x q → ⊥

  -- a cell after the first object's was told
  record IsFirst (was w : CellWord) : Type 0 where
    pub object : w.object ≡ was.object
    pub upto : IsTrue w.invalid → IsTrue was.invalid ⊎ IsAt o was.object
    pub stays : IsTrue was.invalid → IsTrue w.invalid
    pub at : IsAt o was.object → IsTrue w.invalid
    pub put : w.invalid ≡ false → IsTrue (passes a.heap.view.trail (protos_of a) was.object o) → StaysPut a x o
    pub way : w.invalid ≡ false → (q : ℕ) → passes x.heap.view.trail (protos_of x) was.object q ≡ passes a.heap.view.trail (protos_of a) was.object q

  module _ (c : ℕ) (was : CellWord) (e : validity_in a.heap.view.trail c ≡ Some was) where
    valid-so : was.invalid ≡ false → validity_in a.heap.view.trail c ≡ Some (valid_cell was.object)
    valid-so valid = e ∙ ap (λ (i : Bool). let w : CellWord = record { invalid = i; object = was.object } in Some w) valid

    by-valid : (C : Type 0) → (was.invalid ≡ true → C) → (was.invalid ≡ false → C) → C
    by-valid C if_true if_false = by was.invalid refl
      where
        by : (i : Bool) → was.invalid ≡ i → C
        by true is = if_true is
        by false is = if_false is

    untold : here ≡ None → IsFirst was was
    untold none = record {
      object = refl;
      upto = λ is. inl is;
      stays = λ is. is;
      at = λ at. by-valid (IsTrue was.invalid) (λ is. is) (λ valid. absurd (at.moved (first_kept c was.object (valid-so valid) at.through none)));
      put = λ valid through. first_kept c was.object (valid-so valid) through none;
      way = λ valid q. kept-way c was.object (valid-so valid) none q;
    }

    told-by : (moved : StaysPut a x o → ⊥) (test : Bool) → passes x.heap.view.trail (protos_of x) was.object o ≡ test → IsFirst was (cond test (invalid_cell was) was)
    told-by moved true is = record {
      object = refl;
      upto = λ invalid. inr (record { through = sym (way-at chains ways a x told_a told_x shape o but was.object (there-is c was e)) ∙ is; moved = moved });
      stays = λ invalid. refl;
      at = λ at. refl;
      put = λ valid through. absurd (true≢false valid);
      way = λ valid q. absurd (true≢false valid);
    }
    told-by moved false is = record {
      object = refl;
      upto = λ invalid. inl invalid;
      stays = λ invalid. invalid;
      at = λ at. absurd (true≢false (sym at.through ∙ sym (way-at chains ways a x told_a told_x shape o but was.object (there-is c was e)) ∙ is));
      put = λ valid through. absurd (true≢false (sym through ∙ sym (way-at chains ways a x told_a told_x shape o but was.object (there-is c was e)) ∙ is));
      way = λ valid q. way-beside chains ways a x told_a told_x shape o but was.object (there-is c was e) (sym (way-at chains ways a x told_a told_x shape o but was.object (there-is c was e)) ∙ is) q;
    }

    first-by : (h : Option ℕ) → here ≡ h → (w : CellWord) × ((cell_then x.heap.view.trail (protos_of x) h c ≡ Some w) × IsFirst was w)
    first-by None is = (was, (stay.validity c ∙ e, untold is))
    first-by (Some r) is = (
      cond (passes x.heap.view.trail (protos_of x) was.object r) (invalid_cell was) was,
      (
        ap (λ (v : Option CellWord). option_map (changed x.heap.view.trail (protos_of x) r) v) (stay.validity c ∙ e),
        subst (λ (k : ℕ). IsFirst was (cond (passes x.heap.view.trail (protos_of x) was.object k) (invalid_cell was) was)) (sym (first_moved r is).0)
            (told-by (first_moved r is).1 (passes x.heap.view.trail (protos_of x) was.object o) refl),
      ),
    )

  -- then another object's, which was named
  module _ (went : P → List Access → List Access → P → Type 0) (tell : (s : ObjectsState P) → IsObjects s.heap.view s.kept s.of_null → Told s) (named there : Option ℕ) (b : ObjectsState P) (follows : AreInvalidatedAt went x here there b)
      (others : (q : ℕ) → q ≢ o → (named ≡ Some q → ⊥) → StaysPut a x q)
      (second_moved : (p : ℕ) → there ≡ Some p → (named ≡ Some p) × (StaysPut a x p → ⊥))
      (second_kept : (p : ℕ) → named ≡ Some p → there ≡ None → StaysPut a x p) where
    abbrev y : ObjectsState P
    y = follows.mid

    way-on : (p : ℕ) → p < length (protos_of a) → (q : ℕ) → passes y.heap.view.trail (protos_of y) p q ≡ passes x.heap.view.trail (protos_of x) p q
    way-on p lt q =
        let grown = more chains ways a x told_a told_x shape in
        way-same chains ways x y told_x (tell y follows.first.sound) follows.first.only.steps.shape
        (λ r. ap (λ (w : World). (object w r).proto) follows.first.only.steps.world) p (omega (arith, lt, grown)) q

    onward : (q : ℕ) → StaysPut a x q → StaysPut a b q
    onward q h = alone-on went y b follows.second.only a q (alone-on went x y follows.first.only a q h)

    backward : (q : ℕ) → StaysPut a b q → StaysPut a x q
    backward q h = alone-back went x y follows.first.only a q (alone-back went y b follows.second.only a q h)

    changes : (q p : ℕ) → IsAt q p → ChangesOn a b p
    changes q p at = record { object = q; through = at.through; changed = λ put. at.moved (backward q put) }

    either-at : (was w : CellWord) → IsFirst was w → IsTrue w.invalid → IsTrue was.invalid ⊎ ChangesOn a b was.object
    either-at was w first is = by (first.upto is)
      where
        by : IsTrue was.invalid ⊎ IsAt o was.object → IsTrue was.invalid ⊎ ChangesOn a b was.object
        by (inl invalid) = inl invalid
        by (inr at) = inr (changes o was.object at)

    -- what changed is the object or the one that was named
    where-changed : (C : Type 0) (p : ℕ) → ChangesOn a b p → (IsAt o p → C) → ((q : ℕ) → named ≡ Some q → IsAt q p → C) → C
    where-changed C p on first second = same-or on.object o C
        (λ is. first (subst (λ (k : ℕ). IsAt k p) is at))
        (λ apart. by named refl apart)
      where
        at : IsAt on.object p
        at = record { through = on.through; moved = λ put. on.changed (onward on.object put) }

        by : (n : Option ℕ) → named ≡ n → on.object ≢ o → C
        by None is apart = absurd (on.changed (onward on.object (others on.object apart (λ e. let n : None ≡ Some on.object = sym is ∙ e in let f : ⊥ = cc in f))))
        by (Some p_named) is apart = same-or on.object p_named C
            (λ same. second on.object (is ∙ ap (λ (k : ℕ). Some k) (sym same)) at)
            (λ other. absurd (on.changed (onward on.object (others on.object apart (λ e. other (sym (some-is p_named on.object (sym is ∙ e))))))))

    from-either : (C : Type 0) (was w : CellWord) → IsFirst was w → IsTrue was.invalid ⊎ ChangesOn a b was.object → (IsTrue w.invalid → C) → ((q : ℕ) → named ≡ Some q → IsAt q was.object → C) → C
    from-either C was w first (inl invalid) done second = done (first.stays invalid)
    from-either C was w first (inr on) done second = where-changed C was.object on (λ at. done (first.at at)) second

    -- an object stays put that is neither, or of which nothing is told
    put-or : (q : ℕ) → (q ≡ o → StaysPut a x q) → (named ≡ Some q → StaysPut a x q) → StaysPut a b q
    put-or q first second = onward q (same-or q o (StaysPut a x q) first (λ apart. by named refl apart))
      where
        by : (n : Option ℕ) → named ≡ n → q ≢ o → StaysPut a x q
        by None is apart = others q apart (λ e. let n : None ≡ Some q = sym is ∙ e in let f : ⊥ = cc in f)
        by (Some p_named) is apart = same-or q p_named (StaysPut a x q)
            (λ same. second (is ∙ ap (λ (k : ℕ). Some k) (sym same)))
            (λ other. others q apart (λ e. other (sym (some-is p_named q (sym is ∙ e)))))

    invalid-or : (w : CellWord) (C : Type 0) → (w.invalid ≡ true → C) → (w.invalid ≡ false → C) → C
    invalid-or w C if_true if_false = by w.invalid refl
      where
        by : (i : Bool) → w.invalid ≡ i → C
        by true is = if_true is
        by false is = if_false is

    module _ (c : ℕ) (was w : CellWord) (lt : was.object < length (protos_of a)) (first : IsFirst was w) where
      first-put : w.invalid ≡ false → (q : ℕ) → IsTrue (passes a.heap.view.trail (protos_of a) was.object q) → q ≡ o → StaysPut a x q
      first-put valid q through is = subst (λ (k : ℕ). StaysPut a x k) (sym is) (first.put valid (subst (λ (k : ℕ). IsTrue (passes a.heap.view.trail (protos_of a) was.object k)) is through))

      last-none : there ≡ None → CellFollows a b was w
      last-none none = record {
        object = first.object;
        invalid = (
          λ is. either-at was w first is,
          λ any. from-either (IsTrue w.invalid) was w first any (λ is. is) (λ q is at. absurd (at.moved (second_kept q is none))),
        );
        put = λ valid q through. put-or q (first-put valid q through) (λ is. second_kept q is none);
      }

      -- the chain of a cell that is valid so far
      way-valid : w.invalid ≡ false → (q : ℕ) → passes y.heap.view.trail (protos_of y) w.object q ≡ passes a.heap.view.trail (protos_of a) was.object q
      way-valid valid q = ap (λ (k : ℕ). passes y.heap.view.trail (protos_of y) k q) first.object ∙ way-on was.object lt q ∙ first.way valid q

      last-by : (p : ℕ) → there ≡ Some p → (test : Bool) → passes y.heap.view.trail (protos_of y) w.object p ≡ test → CellFollows a b was (cond test (invalid_cell w) w)
      last-by p is true through = record {
        object = first.object;
        invalid = (
          λ invalid. invalid-or w (IsTrue was.invalid ⊎ ChangesOn a b was.object) (λ if_true. either-at was w first if_true)
              (λ valid. inr (changes p was.object (record { through = sym (way-valid valid p) ∙ through; moved = (second_moved p is).1 }))),
          λ any. refl,
        );
        put = λ valid q on. absurd (true≢false valid);
      }
      last-by p is false missed = record {
        object = first.object;
        invalid = (
          λ invalid. either-at was w first invalid,
          λ any. from-either (IsTrue w.invalid) was w first any (λ if_true. if_true)
              (λ q named_so at. invalid-or w (IsTrue w.invalid) (λ if_true. if_true)
              (λ valid. absurd (true≢false (sym at.through ∙ sym (way-valid valid q)
              ∙ ap (λ (k : ℕ). passes y.heap.view.trail (protos_of y) w.object k) (some-is q p (sym named_so ∙ (second_moved p is).0)) ∙ missed)))),
        );
        put = λ valid q through. put-or q (first-put valid q through)
            (λ named_so. absurd (true≢false (sym through ∙ sym (way-valid valid q)
            ∙ ap (λ (k : ℕ). passes y.heap.view.trail (protos_of y) w.object k) (some-is q p (sym named_so ∙ (second_moved p is).0)) ∙ missed)));
      }

      last-at : (t : Option ℕ) → there ≡ t → validity_in y.heap.view.trail c ≡ Some w → IsSomeAnd (cell_then y.heap.view.trail (protos_of y) t c) (λ now. CellFollows a b was now)
      last-at None is e = subst (λ (v : Option CellWord). IsSomeAnd v (λ now. CellFollows a b was now)) (sym e) (last-none is)
      last-at (Some p) is e = subst (λ (v : Option CellWord). IsSomeAnd v (λ now. CellFollows a b was now)) (sym (ap (λ (v : Option CellWord). option_map (changed y.heap.view.trail (protos_of y) p) v) e))
          (last-by p is (passes y.heap.view.trail (protos_of y) w.object p) refl)

    cell-follows : (c : ℕ) (was : CellWord) → validity_in a.heap.view.trail c ≡ Some was → IsSomeAnd (validity_in b.heap.view.trail c) (λ now. CellFollows a b was now)
    cell-follows c was e =
        let it = first-by c was e here refl in
        subst (λ (v : Option CellWord). IsSomeAnd v (λ now. CellFollows a b was now)) (sym (follows.second.cells c))
        (last-at c was it.0 (there-is c was e) it.1.1 there refl (follows.first.cells c ∙ it.1.0))

    none-then : (t : Trail) (protos : List (Option ℕ)) (at : Option ℕ) (c : ℕ) → validity_in t c ≡ None → cell_then t protos at c ≡ None
    none-then t protos None c e = e
    none-then t protos (Some q) c e = ap (λ (v : Option CellWord). option_map (changed t protos q) v) e

    pub cells-follow : x.heap.view.used.cells ≡ a.heap.view.used.cells → CellsFollow a b
    cells-follow used = record {
      cells = cell-follows;
      none = λ c e. follows.second.cells c ∙ none-then y.heap.view.trail (protos_of y) there c (follows.first.cells c ∙ none-then x.heap.view.trail (protos_of x) here c (stay.validity c ∙ e));
      named = λ q. follows.second.named q ∙ follows.first.named q ∙ stay.named q;
      used = ap (λ s. s.cells) follows.second.used ∙ ap (λ s. s.cells) follows.first.used ∙ used;
    }
