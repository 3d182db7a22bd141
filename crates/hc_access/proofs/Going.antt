-- What the entries of inline caches say stays true over an operation, and over a question for a cell.
use Rattle.std.proofs.Common.{◌≡◌, ℕ, Option, Some, None, List, [], sym, subst}
use Rattle.std.specs.Prelude.{IsSomeAnd}
use Rattle.hc_board.specs.Trail.{Access}
use Rattle.hc_layout.specs.declared.words.CellWord.{CellWord}
use Rattle.hc_heap.specs.Kept.{GatesAreOpen, UnusedSaysNothing}
use Rattle.hc_heap.specs.Readings.{map_in, validity_in}
use Rattle.hc_cells.specs.Cells.{AreCells}
use Rattle.hc_table.specs.Changes.{Did}
use Rattle.hc_tree.specs.Kept.{MapsAreKept, MapsStay}
use Rattle.hc_modes.specs.Admitting.{FactsStay}
use Rattle.hc_modes.specs.Came.{IsStill, world_of}
use Rattle.hc_modes.specs.Laws.{with_loads}
use Rattle.hc_modes.specs.State.{IsObjects, ObjectsState}
use Rattle.hc_plan.specs.declared.case.Site.{Site}
use Rattle.hc_sites.specs.declared.cached.CacheWay.{CacheWay}
use Rattle.hc_sites.specs.declared.cached.CacheWay.TheVariants.{Own, Holder, Absent}
use Rattle.hc_objects.specs.Came.{Came, SaysStill}
use Rattle.hc_objects.specs.Laws.{came-shape}
use Rattle.hc_objects.specs.State.{IsStanding}
use Rattle.hc_sites.specs.declared.state.SiteState.{SiteState}
use Rattle.hc_access.specs.Accesses.{AskedCell}
use Rattle.hc_access.specs.Entries.{AreGood, IsBehind, IsFound, IsGoodWay, IsWatched}
use Rattle.hc_access.specs.Spots.{Place}
use Rattle.hc_access.proofs.Asking.{asked-valid, put-all}
use Rattle.hc_access.proofs.Keeping.{AreTold, and-then, good-stays, said-valid}

-- Loads

behind-loaded : {P : Type 0} (a : ObjectsState P) (n name : ℕ) (proto cell : Option ℕ) (at : Option Place) → IsBehind a name proto cell at → IsBehind (with_loads a n) name proto cell at
behind-loaded {P} a n name None None at h = h
behind-loaded {P} a n name None (Some c) at h = absurd h
behind-loaded {P} a n name (Some p) None at h = absurd h
behind-loaded {P} a n name (Some p) (Some c) at h =
    and-then (validity_in a.heap.view.trail c) (IsWatched a name p at) (IsWatched (with_loads a n) name p at) (λ w is x. record { object = x.object; found = x.found }) h

found-loaded : {P : Type 0} (a : ObjectsState P) (n : ℕ) (site : Site) (m : ℕ) (cell : Option ℕ) (at : Option Place) → IsFound a site m cell at → IsFound (with_loads a n) site m cell at
found-loaded {P} a n site m cell at h = record {
  loads = h.loads;
  opened = h.opened;
  lacks = h.lacks;
  proto = h.proto;
  prototype = h.prototype;
  behind = behind-loaded a n site.name h.proto cell at h.behind;
}

way-loaded : {P : Type 0} (a : ObjectsState P) (n : ℕ) (site : Site) (m : ℕ) (cell : Option ℕ) (way : CacheWay) → IsGoodWay a site m cell way → IsGoodWay (with_loads a n) site m cell way
way-loaded {P} a n site m cell (Own i) h = h
way-loaded {P} a n site m cell (Holder q i) h = found-loaded a n site m cell (Some (record { holder = q; place = i })) h
way-loaded {P} a n site m cell Absent h = found-loaded a n site m cell None h

pub still-good : {P : Type 0} (a b : ObjectsState P) (sites : List SiteState) → IsStill a b → AreGood a sites → AreGood b sites
still-good {P} a b sites still good = subst (λ (s : ObjectsState P). AreGood s sites) (sym still.is)
    (λ k state entry at is. way-loaded a b.heap.desk.loads state.site entry.map entry.cell entry.way (good k state entry at is))

-- Operations

pub good-none : {P : Type 0} (a : ObjectsState P) → AreGood a []
good-none {P} a n state entry at is = let f : ⊥ = cc in absurd f

-- open maps are as they were
pub maps-stay : {P : Type 0} → MapsAreKept → (a b : ObjectsState P) → IsObjects a.heap.view a.kept a.of_null → FactsStay a.heap.view.shape a.heap.view.trail b.heap.view.trail → MapsStay a.heap.view.trail b.heap.view.trail
maps-stay {P} maps a b sound facts = maps a.heap.view.shape a.heap.view.trail b.heap.view.trail sound.heap.lawful facts.goes

module _ {P : Type 0} (went : P → List Access → List Access → P → Type 0) (gates : GatesAreOpen) (unused : UnusedSaysNothing) (told : AreTold P) (maps : MapsAreKept)
    (facts : (a b : ObjectsState P) (did : Did) → IsObjects a.heap.view a.kept a.of_null → Came went a did b → FactsStay a.heap.view.shape a.heap.view.trail b.heap.view.trail)
    (say : (a b : ObjectsState P) (did : Did) (c : ℕ) (was : CellWord) → IsStanding a → Came went a did b → validity_in a.heap.view.trail c ≡ Some was → IsSomeAnd (validity_in b.heap.view.trail c) (λ now. SaysStill a b was now)) where
  pub came-good : (a b : ObjectsState P) (did : Did) (sites : List SiteState) → IsObjects a.heap.view a.kept a.of_null → IsObjects b.heap.view b.kept b.of_null → AreCells a.heap.view.trail a.heap.view.used → Came went a did b → AreGood a sites → AreGood b sites
  came-good a b did sites sa sb cells came good =
      good-stays gates unused told a b sa sb (came-shape went a b did came) (maps-stay maps a b sa (facts a b did sa came)) cells
      (said-valid a b (λ c was is. say a b did c was (record { objects = sa; cells = cells }) came is)) sites good

module _ {P : Type 0} (went : P → List Access → List Access → P → Type 0) (gates : GatesAreOpen) (unused : UnusedSaysNothing) (told : AreTold P) (maps : MapsAreKept) (a b : ObjectsState P)
    (same : world_of b ≡ world_of a) (still : (o : ℕ) → map_in b.heap.view.trail o ≡ map_in a.heap.view.trail o) (facts : FactsStay a.heap.view.shape a.heap.view.trail b.heap.view.trail) where
  pub asked-good : (sites : List SiteState) → IsObjects a.heap.view a.kept a.of_null → IsObjects b.heap.view b.kept b.of_null → AreCells a.heap.view.trail a.heap.view.used → AskedCell went a b → AreGood a sites → AreGood b sites
  asked-good sites sa sb cells asked good =
      good-stays gates unused told a b sa sb asked.only.steps.shape (maps-stay maps a b sa facts) cells
      (asked-valid unused a b sa asked.proto (put-all a b same still) asked.view) sites good

-- only loads between
pub still-back : {P : Type 0} (a b : ObjectsState P) (sites : List SiteState) → IsStill a b → AreGood b sites → AreGood a sites
still-back {P} a b sites still good =
    let loaded : AreGood (with_loads a b.heap.desk.loads) sites = subst (λ (s : ObjectsState P). AreGood s sites) still.is good in
    λ k state entry at is. way-loaded (with_loads a b.heap.desk.loads) a.heap.desk.loads state.site entry.map entry.cell entry.way (loaded k state entry at is)
