-- A walk over the properties of an object, each of which stays when the object is sealed, or frozen.
use Rattle.std.proofs.Common.{◌≡◌, ◌≢◌, ℕ, zero, suc, ◌+◌, ◌<◌, Bool, List, [], ◌∷◌, length, map, Some, sym, ap, ◌∙◌, arith}
use Rattle.std.specs.Prelude.{slice_get}
use Rattle.hc_value.specs.declared.prop.Prop.{Prop}
use Rattle.hc_table.specs.Attributes.{restricted}
use Rattle.hc_table.specs.World.{World, props_at}
use Rattle.hc_slots.specs.Cases.{same-or, some-is}
use Rattle.hc_modes.specs.Came.{IsStill, world_of}
use Rattle.hc_modes.specs.Laws.{still-on}
use Rattle.hc_modes.specs.State.{ObjectsState}
use Rattle.hc_objects.proofs.Altered.{map-other, map-same}

-- the properties at the first places stay so
pub record AreFixed {P : Type 0} (a b : ObjectsState P) (o : ℕ) (frozen : Bool) (i n : ℕ) : Type 0 where
  pub still : IsStill a b
  pub size : n ≡ length (props_at (world_of a) o)
  pub fixed : (k : ℕ) (p : Prop) → k < i → slice_get (props_at (world_of a) o) k ≡ Some p → restricted frozen p ≡ p

pub world-still : {P : Type 0} (a b : ObjectsState P) → IsStill a b → world_of b ≡ world_of a
world-still {P} a b still = ap (λ (s : ObjectsState P). world_of s) still.is

get-lt : (ps : List Prop) (k : ℕ) (p : Prop) → slice_get ps k ≡ Some p → k < length ps
get-lt [] k p e = let f : ⊥ = cc in absurd f
get-lt (q ∷ ps) zero p e = omega arith
get-lt (q ∷ ps) (suc k) p e = let lt = get-lt ps k p e in omega (arith, lt)

module _ {P : Type 0} (a b : ObjectsState P) (o : ℕ) (frozen : Bool) (n : ℕ) where
  pub fixed-first : IsStill a b → n ≡ length (props_at (world_of a) o) → AreFixed a b o frozen 0 n
  fixed-first still size = record { still = still; size = size; fixed = λ k p lt e. absurd (omega (arith, lt)) }

  pub fixed-next : (i : ℕ) (c : ObjectsState P) (p : Prop) → AreFixed a b o frozen i n → IsStill b c → slice_get (props_at (world_of b) o) i ≡ Some p → restricted frozen p ≡ p → AreFixed a c o frozen (i + 1) n
  fixed-next i c p h still at is = record {
    still = still-on a b c h.still still;
    size = h.size;
    fixed = λ k q lt e. same-or k i (restricted frozen q ≡ q)
        (λ same.
        let there : slice_get (props_at (world_of a) o) i ≡ Some p = ap (λ (w : World). slice_get (props_at w o) i) (sym (world-still a b h.still)) ∙ at in
        let one : q ≡ p = some-is q p (sym e ∙ ap (λ (j : ℕ). slice_get (props_at (world_of a) o) j) same ∙ there) in
        ap (λ (x : Prop). restricted frozen x) one ∙ is ∙ sym one)
        (λ other. h.fixed k q (omega (arith, lt, other)) e);
  }

  pub fixed-all : AreFixed a b o frozen n n → map (restricted frozen) (props_at (world_of a) o) ≡ props_at (world_of a) o
  fixed-all h = map-same (restricted frozen) (props_at (world_of a) o) (λ k p e. h.fixed k p (let size = h.size in let lt = get-lt (props_at (world_of a) o) k p e in omega (arith, lt, size)) e)

  pub fixed-not : (i : ℕ) (p : Prop) → AreFixed a b o frozen i n → slice_get (props_at (world_of b) o) i ≡ Some p → restricted frozen p ≢ p → map (restricted frozen) (props_at (world_of a) o) ≢ props_at (world_of a) o
  fixed-not i p h at ne = map-other (restricted frozen) (props_at (world_of a) o) i p (ap (λ (w : World). slice_get (props_at w o) i) (sym (world-still a b h.still)) ∙ at) ne
