-- What asking for a cell leaves, and what may be filled with it.
use Rattle.std.proofs.Common.{◌≡◌, ℕ, ◌+◌, ◌<◌, ◌≤◌, Bool, cond, Option, Some, None, List, length, refl, sym, ap, ◌∙◌, subst, arith, inl, inr}
use Rattle.std.specs.Prelude.{◌⊎◌, IfSome, IsSome, IsSomeAnd}
use Rattle.std.proofs.lemmas.Bool.{cases_lt, ne_eqb}
use Rattle.hc_board.specs.Trail.{Access}
use Rattle.hc_layout.specs.declared.shape.Region.TheVariants.{Cells}
use Rattle.hc_layout.specs.declared.words.CellWord.{CellWord}
use Rattle.hc_heap.specs.Kept.{GatesAreOpen, UnusedSaysNothing}
use Rattle.hc_heap.specs.Readings.{gate_in, map_in, validity_in}
use Rattle.hc_heap.specs.States.{HasRoom, View}
use Rattle.hc_heap.specs.declared.kind.Kind.TheVariants.{StateOfCell}
use Rattle.hc_cells.specs.Cells.{AreCells, named_cell, valid_cell, with_cell}
use Rattle.hc_descs.specs.Entries.{LacksName, count_of, entries_in}
use Rattle.hc_tree.specs.Kept.{MapsStay}
use Rattle.hc_table.specs.World.{World, object, props_at}
use Rattle.hc_slots.specs.Cases.{some-of}
use Rattle.hc_slots.specs.Meaning.{Dictionary}
use Rattle.hc_modes.specs.Came.{world_of}
use Rattle.hc_modes.specs.State.{IsObjects, ObjectsState}
use Rattle.hc_modes.specs.Validity.{OnlyCells, StaysPut, protos_of}
use Rattle.hc_plan.specs.declared.case.Site.{Site}
use Rattle.hc_sites.specs.declared.cached.CacheWay.{CacheWay}
use Rattle.hc_sites.specs.declared.cached.CacheWay.TheVariants.{Own, Holder, Absent}
use Rattle.hc_access.specs.Accesses.{AskedCell}
use Rattle.hc_access.specs.Entries.{IsFound, IsGoodEntry, IsWatched}
use Rattle.hc_access.specs.Spots.{Place, place_among, place_from}
use Rattle.hc_access.proofs.Uses.{chain-none}
use Rattle.hc_access.specs.Ways.{IsSeen}
use Rattle.hc_access.proofs.Keeping.{AreTold, StayValid, StaysValid, count-then, lacks-stays, place-from-stays}

-- Cells

same-by : {P : Type 0} (a b : ObjectsState P) (was : CellWord) (v : Option CellWord) → ((q : ℕ) → StaysPut a b q) → v ≡ Some was → IsSomeAnd v (StaysValid a b was)
same-by {P} a b was v put is = subst (λ (x : Option CellWord). IsSomeAnd x (StaysValid a b was)) (sym is)
    (record { object = refl; valid = λ off. off; put = λ off q through changed. changed (put q) })

-- a cell that was written is as it was
pub asked-valid : {P : Type 0} (unused : UnusedSaysNothing) (a b : ObjectsState P) → IsObjects a.heap.view a.kept a.of_null → (p : ℕ) → ((q : ℕ) → StaysPut a b q) → (b.heap.view ≡ a.heap.view) ⊎ (b.heap.view ≡ with_cell a.heap.view p) → StayValid a b
asked-valid {P} unused a b sound p put (inl same) c was is = same-by a b was (validity_in b.heap.view.trail c) put (ap (λ (v : View). validity_in v.trail c) same ∙ is)
asked-valid {P} unused a b sound p put (inr made) c was is =
    same-by a b was (validity_in b.heap.view.trail c) put
    (ap (λ (v : View). validity_in v.trail c) made
    ∙ (ap (λ (x : Bool). cond x (Some (valid_cell p)) (validity_in a.heap.view.trail c)) (ne_eqb a.heap.view.used.cells c other) ∙ is))
  where
    other : a.heap.view.used.cells ≡ c → ⊥
    other e =
        let none : validity_in a.heap.view.trail c ≡ None = unused a.heap.view.used a.heap.view.trail StateOfCell c sound.heap.used (omega (arith, e)) in
        let n : None ≡ Some was = sym none ∙ is in
        let f : ⊥ = cc in f

-- where no object changed
pub put-all : {P : Type 0} (a b : ObjectsState P) → world_of b ≡ world_of a → ((o : ℕ) → map_in b.heap.view.trail o ≡ map_in a.heap.view.trail o) → (q : ℕ) → StaysPut a b q
put-all {P} a b world maps q = record {
  map = maps q;
  proto = ap (λ (w : World). (object w q).proto) world;
  props = λ slow. ap (λ (w : World). props_at w q) world;
}

-- Entries

module _ {P : Type 0} (gates : GatesAreOpen) (unused : UnusedSaysNothing) (told : AreTold P) (a b : ObjectsState P)
    (sa : IsObjects a.heap.view a.kept a.of_null) (sb : IsObjects b.heap.view b.kept b.of_null) (shape : b.heap.view.shape ≡ a.heap.view.shape) (stay : MapsStay a.heap.view.trail b.heap.view.trail)
    (kept : b.kept ≡ a.kept) (put : (q : ℕ) → StaysPut a b q) (cells : AreCells b.heap.view.trail b.heap.view.used) where
  -- what full lookup saw behind a map may be filled with the cell of the map's prototype
  found-filled : (site : Site) (m p c : ℕ) (at : Option Place) (way : CacheWay) → IsSeen a site m (Some p) way → place_from a (Some p) site.name ≡ at → validity_in b.heap.view.trail c ≡ Some (valid_cell p) → IsFound b site m (Some c) at
  found-filled site m p c at way seen on valid =
      let gate = some-of (gate_in a.heap.view.trail m) seen.opened in
      let count : count_of a.heap.view.trail m ≡ gate.0.entries = ap entries_in gate.1 in
      let lt : p < b.heap.view.used.objects = cells.objects c (valid_cell p) valid in
      let items : length a.kept ≡ b.heap.view.used.objects = sym (ap (λ (xs : List (Option Dictionary)). length xs) kept) ∙ sb.items in
      record {
        loads = seen.loads;
        opened = subst IsSome (sym (stay.written.gate m gate.0 gate.1)) refl;
        lacks = subst (λ (n : ℕ). LacksName b.heap.view.trail m n site.name) (count ∙ sym (count-then gates unused told a b sa sb shape stay m gate.0 gate.1))
            (lacks-stays gates unused told a b sa sb shape stay m (count_of a.heap.view.trail m) site.name gate.0 gate.1 (omega (arith, count)) seen.lacks);
        proto = Some p;
        prototype = stay.written.prototype m (Some p) seen.prototype;
        behind = subst (λ (x : Option CellWord). IsSomeAnd x (IsWatched b site.name p at)) (sym valid)
            (record { object = refl; found = λ off. place-from-stays gates unused told a b sa sb shape stay p site.name (omega (arith, lt, items)) (λ q through changed. changed (put q)) ∙ on });
      }

  pub filled-fine : (site : Site) (m p c : ℕ) (way : CacheWay) → IsSeen a site m (Some p) way → validity_in b.heap.view.trail c ≡ Some (valid_cell p) → IsGoodEntry b site (record { map = m; way = way; cell = Some c })
  filled-fine site m p c (Own i) seen valid = absurd seen.found
  filled-fine site m p c (Holder h i) seen valid = found-filled site m p c (Some (record { holder = h; place = i })) (Holder h i) seen seen.found valid
  filled-fine site m p c Absent seen valid = found-filled site m p c None Absent seen seen.found valid

none-holder : (h i : ℕ) → ◌≡◌ {A = Option Place} None (Some (record { holder = h; place = i })) → ⊥
none-holder h i e = cc

place-bare : {P : Type 0} (s : ObjectsState P) (name : ℕ) → place_from s None name ≡ None
place-bare {P} s name = ap (λ (qs : List ℕ). place_among (world_of s) qs name) (chain-none (length (protos_of s)) s.heap.view.trail (protos_of s))

bare-by : {P : Type 0} (s : ObjectsState P) (site : Site) (m : ℕ) (way : CacheWay) → IsSeen s site m None way → IsGoodEntry s site (record { map = m; way = way; cell = None })
bare-by {P} s site m (Own i) seen = absurd seen.found
bare-by {P} s site m (Holder h i) seen = absurd (none-holder h i (sym (place-bare s site.name) ∙ seen.found))
bare-by {P} s site m Absent seen = record { loads = seen.loads; opened = seen.opened; lacks = seen.lacks; proto = None; prototype = seen.prototype; behind = refl }

-- and with none, behind a map that has no prototype
pub filled-bare : {P : Type 0} (s : ObjectsState P) (site : Site) (m : ℕ) (proto : Option ℕ) (way : CacheWay) → proto ≡ None → IsSeen s site m proto way → IsGoodEntry s site (record { map = m; way = way; cell = None })
filled-bare {P} s site m proto way none seen = bare-by s site m way (subst (λ (p : Option ℕ). IsSeen s site m p way) none seen)

-- What a question for a cell did

pub cell-asked : {P : Type 0} (went : P → List Access → List Access → P → Type 0) (a b : ObjectsState P) (p : ℕ) (r : Option ℕ) → IfSome (named_cell a.heap.view.trail p) (λ c. (r ≡ Some c) × (b.heap.view ≡ a.heap.view))
    → (named_cell a.heap.view.trail p ≡ None → HasRoom a.heap.view Cells 1 → (r ≡ Some a.heap.view.used.cells) × (b.heap.view ≡ with_cell a.heap.view p))
    → (named_cell a.heap.view.trail p ≡ None → (HasRoom a.heap.view Cells 1 → ⊥) → (r ≡ None) × (b.heap.view ≡ a.heap.view)) → OnlyCells went a b → AskedCell went a b
cell-asked {P} went a b p r named made none only = record { only = only; proto = p; view = by (named_cell a.heap.view.trail p) refl named }
  where
    room : named_cell a.heap.view.trail p ≡ None → (a.heap.view.used.cells < a.heap.view.shape.cells) ⊎ (a.heap.view.shape.cells ≤ a.heap.view.used.cells) → (b.heap.view ≡ a.heap.view) ⊎ (b.heap.view ≡ with_cell a.heap.view p)
    room is (inl lt) = inr (made is (omega (arith, lt))).1
    room is (inr le) = inl (none is (λ has. omega (arith, has, le))).1

    by : (x : Option ℕ) → named_cell a.heap.view.trail p ≡ x → IfSome x (λ c. (r ≡ Some c) × (b.heap.view ≡ a.heap.view)) → (b.heap.view ≡ a.heap.view) ⊎ (b.heap.view ≡ with_cell a.heap.view p)
    by (Some c) is h = inl h.1
    by None is h = room is (cases_lt a.heap.view.used.cells a.heap.view.shape.cells)

-- at most one cell was handed out
pub few-cells : {P : Type 0} (went : P → List Access → List Access → P → Type 0) (a b : ObjectsState P) → AskedCell went a b → b.heap.view.used.cells ≤ a.heap.view.used.cells + 1
few-cells {P} went a b asked = by asked.view
  where
    by : (b.heap.view ≡ a.heap.view) ⊎ (b.heap.view ≡ with_cell a.heap.view asked.proto) → b.heap.view.used.cells ≤ a.heap.view.used.cells + 1
    by (inl same) = omega (arith, ap (λ (v : View). v.used.cells) same)
    by (inr made) = omega (arith, ap (λ (v : View). v.used.cells) made)
