-- A walk along the chain of a prototype.
use Rattle.std.proofs.Common.{◌≡◌, ℕ, suc, ◌+◌, ◌*◌, ◌<◌, ◌≤◌, true, false, cond, eqb, Option, Some, None, List, ◌∷◌, length, refl, sym, ap, ◌∙◌, subst, arith}
use Rattle.hc_heap.specs.Writes.{Trail}
use Rattle.hc_heap.specs.States.{HeapState, Goes, OnlyLoads}
use Rattle.hc_cells.specs.Chains.{Ends, before, chain, chain_from, has, passes, proto_at}
use Rattle.hc_cells.proofs.Chained.{Step, step, chain-none}
use Rattle.hc_cells.proofs.Loads.{AreLoads, loads-none, loads-on, only-loads, loads-go, loads-same, trail-same}

-- a walk came here: what is left of the chain has the object exactly where the whole chain does, and two loads were made for each
-- object that was passed
pub record Walk (t : Trail) (ps : List (Option ℕ)) (p o : ℕ) (at : Option ℕ) (start now : ℕ) : Type 0 where
  pub ends : Ends (length ps) t ps at
  pub rest : has (chain_from t ps at) o ≡ passes t ps p o
  pub least : start ≤ now
  pub loads : now + 2 * before (chain_from t ps at) o ≤ start + 2 * before (chain t ps p) o

-- the walk came from a heap to another, and to an object or the end
pub record Came {P : Type 0} (a b : HeapState P) (ps : List (Option ℕ)) (p o : ℕ) (at : Option ℕ) : Type 0 where
  pub same : AreLoads a b
  pub walk : Walk a.view.trail ps p o at a.desk.loads b.desk.loads

pub came-first : {P : Type 0} (a : HeapState P) (ps : List (Option ℕ)) (p o : ℕ) → Ends (length ps) a.view.trail ps (Some p) → Came a a ps p o (Some p)
came-first a ps p o ends = record {
  same = loads-none a;
  walk = record { ends = ends; rest = refl; least = omega arith; loads = omega arith };
}

module _ {P : Type 0} (a b : HeapState P) (ps : List (Option ℕ)) (p o : ℕ) (at : Option ℕ) (came : Came a b ps p o at) where
  abbrev pub t : Trail
  t = a.view.trail

  pub walk-same : b ≡ record a { desk = b.desk }
  walk-same = loads-same a b came.same

  pub walk-goes : Goes a.desk b.desk
  walk-goes = loads-go a b came.same came.walk.least

  pub walk-loads : OnlyLoads (2 * before (chain t ps p) o) a.desk b.desk
  walk-loads = let h = came.walk.loads in only-loads a b came.same (2 * before (chain t ps p) o) came.walk.least (omega (arith, h))

  pub walk-ends : at ≡ None → false ≡ passes t ps p o
  walk-ends is = ap (λ qs. has qs o) (sym (ap (chain_from t ps) is ∙ chain-none t ps (length ps))) ∙ came.walk.rest

  module _ (q : ℕ) (is : at ≡ Some q) where
    here : Step t ps q
    here = step t ps q (subst (λ (x : Option ℕ). Ends (length ps) t ps x) is came.walk.ends)

    chained : chain_from t ps at ≡ q ∷ chain_from t ps (proto_at t ps q)
    chained = ap (chain_from t ps) is ∙ here.is

    pub walk-there : q < length ps
    walk-there = here.there

    pub walk-finds : eqb q o ≡ true → true ≡ passes t ps p o
    walk-finds e = sym (ap (λ c. cond c true (has (chain_from t ps (proto_at t ps q)) o)) e) ∙ sym (ap (λ qs. has qs o) chained) ∙ came.walk.rest

    module _ (x : HeapState P) (next : Option ℕ) (same : x ≡ record b { desk = x.desk }) (loads : OnlyLoads 2 b.desk x.desk) (read : next ≡ proto_at b.view.trail ps q) where
      onward : next ≡ proto_at t ps q
      onward = read ∙ ap (λ (u : Trail). proto_at u ps q) (trail-same a b came.same)

      pub walk-fewer : length (chain_from t ps next) < length (chain_from t ps at)
      walk-fewer =
          let one : length (chain_from t ps at) ≡ suc (length (chain_from t ps (proto_at t ps q))) = ap length chained in
          let to : length (chain_from t ps next) ≡ length (chain_from t ps (proto_at t ps q)) = ap (λ n. length (chain_from t ps n)) onward in
          omega (arith, one, to)

      pub walk-on : eqb q o ≡ false → Came a x ps p o next
      walk-on e =
          let one : before (chain_from t ps at) o ≡ suc (before (chain_from t ps (proto_at t ps q)) o) =
          ap (λ qs. before qs o) chained ∙ ap (λ c. cond c 0 (suc (before (chain_from t ps (proto_at t ps q)) o))) e in
          let far : before (chain_from t ps next) o ≡ before (chain_from t ps (proto_at t ps q)) o = ap (λ n. before (chain_from t ps n) o) onward in
          let so_far = came.walk.loads in
          let least = came.walk.least in
          let more = loads.most in
          let fewer = loads.least in
          record {
            same = loads-on a b came.same 2 x same loads;
            walk = record {
              ends = subst (λ (n : Option ℕ). Ends (length ps) t ps n) (sym onward) here.ends;
              rest = ap (λ n. has (chain_from t ps n) o) onward
                  ∙ sym (ap (λ c. cond c true (has (chain_from t ps (proto_at t ps q)) o)) e)
                  ∙ sym (ap (λ qs. has qs o) chained) ∙ came.walk.rest;
              least = omega (arith, least, fewer);
              loads = omega (arith, one, far, so_far, more);
            };
          }
