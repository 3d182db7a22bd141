-- Marks of the objects on chains.
use Rattle.std.proofs.Common.{◌≡◌, ◌≢◌, ℕ, suc, ◌+◌, ◌*◌, ◌<◌, ◌≤◌, Bool, true, false, ◌||◌, cond, eqb, Option, Some, None, List, ◌∷◌, length, slice_set, length-set, refl, sym, ap, ◌∙◌, subst, arith}
use Rattle.std.proofs.lemmas.List.{get_or-set_same, get_or-set_other}
use Rattle.std.proofs.lemmas.Bool.Decides.{nat_tests}
use Rattle.hc_layout.specs.declared.words.CellWord.{CellWord}
use Rattle.hc_heap.specs.Writes.{Trail}
use Rattle.hc_heap.specs.Readings.{map_in, validity_in}
use Rattle.hc_heap.specs.Kept.{Adds}
use Rattle.hc_heap.specs.States.{View, HeapState, Goes, OnlyLoads}
use Rattle.hc_cells.specs.Chains.{Ends, chain, chain_from, has, passes, proto_at, proto_by}
use Rattle.hc_cells.specs.Cells.{Invalidates, cell_after, valid_cell, with_cell}
use Rattle.hc_cells.specs.Watched.{AreWatched, AreWatchedBut, is_watched}
use Rattle.hc_cells.proofs.Chained.{Step, step, chain-none}
use Rattle.hc_cells.proofs.Frames.{ends-on}
use Rattle.hc_cells.proofs.Invalid.{after-valid, chain-alike, passes-kept-at}
use Rattle.hc_cells.proofs.Loads.{AreLoads, loads-none, loads-on, only-loads, loads-go, loads-same, trail-same}

-- Marks that are set along a chain

pub or-right : (a b : Bool) → b ≡ true → a || b ≡ true
or-right true b h = refl
or-right false b h = h

or-true : (b : Bool) → b || true ≡ true
or-true true = refl
or-true false = refl

-- a walk came here: what is left of the chain, and the marks so far, are the whole chain and the marks before
pub record Marked {P : Type 0} (a b : HeapState P) (ps : List (Option ℕ)) (p : ℕ) (marks now : List Bool) (at : Option ℕ) : Type 0 where
  pub same : AreLoads a b
  pub ends : Ends (length ps) a.view.trail ps at
  pub rest : (o : ℕ) → (has (chain_from a.view.trail ps at) o || is_watched now o) ≡ (passes a.view.trail ps p o || is_watched marks o)
  pub size : length now ≡ length marks
  pub least : a.desk.loads ≤ b.desk.loads
  pub loads : b.desk.loads + 2 * length (chain_from a.view.trail ps at) ≤ a.desk.loads + 2 * length (chain a.view.trail ps p)

pub marked-first : {P : Type 0} (a : HeapState P) (ps : List (Option ℕ)) (p : ℕ) (marks : List Bool) → Ends (length ps) a.view.trail ps (Some p) → Marked a a ps p marks marks (Some p)
marked-first a ps p marks ends = record { same = loads-none a; ends = ends; rest = λ o. refl; size = refl; least = omega arith; loads = omega arith }

module _ {P : Type 0} (a b : HeapState P) (ps : List (Option ℕ)) (p : ℕ) (marks now : List Bool) (at : Option ℕ) (came : Marked a b ps p marks now at) where
  abbrev pub t : Trail
  t = a.view.trail

  pub marked-same : b ≡ record a { desk = b.desk }
  marked-same = loads-same a b came.same

  pub marked-goes : Goes a.desk b.desk
  marked-goes = loads-go a b came.same came.least

  pub marked-loads : OnlyLoads (2 * length (chain t ps p)) a.desk b.desk
  marked-loads = let h = came.loads in only-loads a b came.same (2 * length (chain t ps p)) came.least (omega (arith, h))

  pub marked-ends : at ≡ None → (o : ℕ) → is_watched now o ≡ (passes t ps p o || is_watched marks o)
  marked-ends is o = ap (λ qs. has qs o || is_watched now o) (sym (ap (chain_from t ps) is ∙ chain-none t ps (length ps))) ∙ came.rest o

  module _ (q : ℕ) (is : at ≡ Some q) where
    here : Step t ps q
    here = step t ps q (subst (λ (x : Option ℕ). Ends (length ps) t ps x) is came.ends)

    chained : chain_from t ps at ≡ q ∷ chain_from t ps (proto_at t ps q)
    chained = ap (chain_from t ps) is ∙ here.is

    pub marked-there : q < length ps
    marked-there = here.there

    module _ (x : HeapState P) (next : Option ℕ) (same : x ≡ record b { desk = x.desk }) (loads : OnlyLoads 2 b.desk x.desk) (read : next ≡ proto_at b.view.trail ps q) where
      onward : next ≡ proto_at t ps q
      onward = read ∙ ap (λ (u : Trail). proto_at u ps q) (trail-same a b came.same)

      pub marked-fewer : length (chain_from t ps next) < length (chain_from t ps at)
      marked-fewer =
          let one : length (chain_from t ps at) ≡ suc (length (chain_from t ps (proto_at t ps q))) = ap length chained in
          let to : length (chain_from t ps next) ≡ length (chain_from t ps (proto_at t ps q)) = ap (λ n. length (chain_from t ps n)) onward in
          omega (arith, one, to)

      mark-case : (test : Bool) (o : ℕ) (qs : List ℕ) → eqb q o ≡ test → q < length now
          → (has qs o || is_watched (slice_set now q true) o) ≡ (cond test true (has qs o) || is_watched now o)
      mark-case true o qs e room =
          let equal : q ≡ o = grind (arith, nat_tests, e) in
          let set : is_watched (slice_set now q true) o ≡ true = ap (is_watched (slice_set now q true)) (sym equal) ∙ get_or-set_same now q true false room in
          ap (λ b. has qs o || b) set ∙ or-true (has qs o)
      mark-case false o qs e room =
          let other : o ≢ q = grind (arith, nat_tests, e) in
          ap (λ b. has qs o || b) (get_or-set_other now q o true false other)

      pub marked-on : length ps ≤ length marks → Marked a x ps p marks (slice_set now q true) next
      marked-on room =
          let one : length (chain_from t ps at) ≡ suc (length (chain_from t ps (proto_at t ps q))) = ap length chained in
          let far : length (chain_from t ps next) ≡ length (chain_from t ps (proto_at t ps q)) = ap (λ n. length (chain_from t ps n)) onward in
          let so_far = came.loads in
          let least = came.least in
          let more = loads.most in
          let fewer = loads.least in
          let size = came.size in
          let there = here.there in
          let within : q < length now = omega (arith, there, room, size) in
          record {
            same = loads-on a b came.same 2 x same loads;
            ends = subst (λ (n : Option ℕ). Ends (length ps) t ps n) (sym onward) here.ends;
            rest = λ o. ap (λ n. has (chain_from t ps n) o || is_watched (slice_set now q true) o) onward
                ∙ mark-case (eqb q o) o (chain_from t ps (proto_at t ps q)) refl within
                ∙ sym (ap (λ qs. has qs o || is_watched now o) chained) ∙ came.rest o;
            size = length-set now q true ∙ size;
            least = omega (arith, least, fewer);
            loads = omega (arith, one, far, so_far, more);
          }

-- Marks that are taken away

module _ (old : Trail) (ps : List (Option ℕ)) (o : ℕ) where
  pub marks-taken : (new : Trail) (marks : List Bool) → Adds (Invalidates old ps o) old new → ((c : ℕ) → validity_in new c ≡ cell_after old ps o c)
      → AreWatchedBut o old ps marks → AreWatched new ps (slice_set marks o false)
  marks-taken new marks writes after watched c p x e h =
      let found = after-valid old ps o (validity_in old c) p (sym (after c) ∙ e) in
      let through : passes old ps p x ≡ true = sym (passes-kept-at old ps o new writes p x) ∙ h in
      let other : x ≢ o = λ is. let clash : true ≡ false = sym through ∙ ap (passes old ps p) is ∙ found.1 in cc in
      get_or-set_other marks o x false false other ∙ watched.others c p x found.0 found.1 through

-- A cell that was made

module _ (v : View) (o : ℕ) (ps : List (Option ℕ)) where
  abbrev made : Trail
  made = (with_cell v o).trail

  by-same : (q : ℕ) (m : Option ℕ) → proto_by made ps q m ≡ proto_by v.trail ps q m
  by-same q (Some m) = refl
  by-same q None = refl

  made-same : (q : ℕ) → proto_at made ps q ≡ proto_at v.trail ps q
  made-same q = by-same q (map_in v.trail q)

  pub made-chain : (p : ℕ) → chain made ps p ≡ chain v.trail ps p
  made-chain p = chain-alike v.trail made ps made-same (length ps) (Some p)

  pub made-ends : (p : ℕ) → Ends (length ps) v.trail ps (Some p) → Ends (length ps) made ps (Some p)
  made-ends p ends = ends-on v.trail ps made ps (omega arith) (length ps) (Some p) ends (λ q h. made-same q)

  module _ (marks later : List Bool) (set : (x : ℕ) → is_watched later x ≡ (passes made ps o x || is_watched marks x)) (watched : AreWatched v.trail ps marks) where
    watched-case : (test : Bool) (c p x : ℕ) → cond test (Some (valid_cell o)) (validity_in v.trail c) ≡ Some (valid_cell p) → passes made ps p x ≡ true → is_watched later x ≡ true
    watched-case true c p x e h =
        let is : valid_cell o ≡ valid_cell p = cc in
        let same : o ≡ p = ap (λ (w : CellWord). w.object) is in
        set x ∙ ap (λ b. b || is_watched marks x) (ap (λ k. passes made ps k x) same ∙ h)
    watched-case false c p x e h =
        let through : passes v.trail ps p x ≡ true = sym (ap (λ qs. has qs x) (made-chain p)) ∙ h in
        set x ∙ ap (λ b. passes made ps o x || b) (watched c p x e through) ∙ or-true (passes made ps o x)

    pub made-watched : AreWatched made ps later
    made-watched c p x e h = watched-case (eqb v.used.cells c) c p x e h
