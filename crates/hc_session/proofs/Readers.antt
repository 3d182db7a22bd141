-- What inline caches say is as true once readers were met.
use Rattle.std.proofs.Common.{◌≡◌, ℕ, List, [], ◌++◌, Option, Some, None, refl, sym, ap, ◌∙◌, subst, append-nil, arith}
use Rattle.std.specs.Prelude.{IsSomeAnd}
use Rattle.hc_access.specs.Entries.{AreGood, IsBehind, IsFound, IsGoodWay, IsWatched}
use Rattle.hc_access.specs.Spots.{Place}
use Rattle.hc_board.specs.Parts.{MetEntry}
use Rattle.hc_heap.specs.Readings.{validity_in}
use Rattle.hc_layout.specs.declared.words.CellWord.{CellWord}
use Rattle.hc_modes.specs.Readers.{with_entries}
use Rattle.hc_modes.specs.State.{ObjectsState}
use Rattle.hc_objects.specs.Came.{IsStill}
use Rattle.hc_plan.specs.declared.case.Site.{Site}
use Rattle.hc_sites.specs.declared.cached.CacheWay.{CacheWay}
use Rattle.hc_sites.specs.declared.cached.CacheWay.TheVariants.{Own, Holder, Absent}
use Rattle.hc_sites.specs.declared.state.SiteState.{SiteState}
use Rattle.hc_session.specs.Jobs.{HaveMet, AreSeen}

and-then : (x : Option CellWord) (A B : CellWord → Type 0) → ((w : CellWord) → A w → B w) → IsSomeAnd x A → IsSomeAnd x B
and-then (Some w) A B f h = f w h
and-then None A B f h = absurd h

-- the objects, whose writer met these readers last, and made so many loads
abbrev pub looked_at : {P : Type 0} → ObjectsState P → List MetEntry → ℕ → ObjectsState P
looked_at a entries n = record a { heap = record a.heap { desk = record a.heap.desk { met = a.heap.desk.met ++ entries; loads = n } } }

-- what is so of these
pub met-by : {P : Type 0} (a b : ObjectsState P) (K : ObjectsState P → Type 0) → ((entries : List MetEntry) (n : ℕ) → K (looked_at a entries n)) → HaveMet a b → K b
met-by {P} a b K each met = subst K (sym met.1.is) (each met.0 b.heap.desk.loads)

-- the readers of a batch
pub met-batch : {P : Type 0} (a b : ObjectsState P) (entries : List MetEntry) → b ≡ with_entries a entries → HaveMet a b
met-batch {P} a b entries is = (entries, subst (λ (s : ObjectsState P). IsStill (with_entries a entries) s) (sym is) (record { is = refl; loads = omega arith }))

pub met-none : {P : Type 0} (a b : ObjectsState P) → b ≡ a → HaveMet a b
met-none {P} a b same = met-batch a b [] (same ∙ ap (λ (xs : List MetEntry). record a { heap = record a.heap { desk = record a.heap.desk { met = xs } } }) (sym (append-nil a.heap.desk.met)))

-- loads alone
pub met-still : {P : Type 0} (a b : ObjectsState P) → IsStill a b → HaveMet a b
met-still {P} a b still = ([], subst (λ (s : ObjectsState P). IsStill s b) (ap (λ (xs : List MetEntry). record a { heap = record a.heap { desk = record a.heap.desk { met = xs } } }) (sym (append-nil a.heap.desk.met))) still)

module _ {P : Type 0} (a : ObjectsState P) (entries : List MetEntry) (n : ℕ) where
  behind-met : (name : ℕ) (proto cell : Option ℕ) (at : Option Place) → IsBehind a name proto cell at → IsBehind (looked_at a entries n) name proto cell at
  behind-met name None None at h = h
  behind-met name None (Some c) at h = absurd h
  behind-met name (Some p) None at h = absurd h
  behind-met name (Some p) (Some c) at h =
      and-then (validity_in a.heap.view.trail c) (IsWatched a name p at) (IsWatched (looked_at a entries n) name p at) (λ w x. record { object = x.object; found = x.found }) h

  found-met : (site : Site) (m : ℕ) (cell : Option ℕ) (at : Option Place) → IsFound a site m cell at → IsFound (looked_at a entries n) site m cell at
  found-met site m cell at h = record {
    loads = h.loads;
    opened = h.opened;
    lacks = h.lacks;
    proto = h.proto;
    prototype = h.prototype;
    behind = behind-met site.name h.proto cell at h.behind;
  }

  way-met : (site : Site) (m : ℕ) (cell : Option ℕ) (way : CacheWay) → IsGoodWay a site m cell way → IsGoodWay (looked_at a entries n) site m cell way
  way-met site m cell (Own i) h = h
  way-met site m cell (Holder q i) h = found-met site m cell (Some (record { holder = q; place = i })) h
  way-met site m cell Absent h = found-met site m cell None h

pub good-met : {P : Type 0} (a b : ObjectsState P) (sites : List SiteState) → HaveMet a b → AreGood a sites → AreGood b sites
good-met {P} a b sites met good =
    met-by a b (λ (s : ObjectsState P). AreGood s sites) (λ entries n k state entry at is. way-met a entries n state.site entry.map entry.cell entry.way (good k state entry at is)) met

pub seen-met : {P : Type 0} (a b : ObjectsState P) (sites : List SiteState) → HaveMet a b → AreSeen a.heap.view.trail sites → AreSeen b.heap.view.trail sites
seen-met {P} a b sites met seen = met-by a b (λ (s : ObjectsState P). AreSeen s.heap.view.trail sites) (λ entries n. seen) met
