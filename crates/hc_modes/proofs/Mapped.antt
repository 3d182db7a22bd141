-- Objects that have a map.
use Rattle.std.proofs.Common.{◌≡◌, ℕ, ◌≤◌, Option, Some, None, List, length, sym, ◌∙◌, arith}
use Rattle.hc_heap.specs.Kept.{UnusedSaysNothing}
use Rattle.hc_heap.specs.States.{View}
use Rattle.hc_slots.specs.Fast.{HasMap}
use Rattle.hc_slots.specs.Meaning.{Dictionary}
use Rattle.hc_modes.specs.Meaning.{kept_of}
use Rattle.hc_modes.specs.State.{IsKeptSo, IsObjects}
use Rattle.hc_modes.specs.Looks.{AreFast}
use Rattle.hc_modes.proofs.Owning.{map-none}

module _ (unused : UnusedSaysNothing) (v : View) (kept : List (Option Dictionary)) (of_null : Option ℕ) (h : IsObjects v kept of_null) where
  -- an object that has a map is there, and no dictionary is kept of it
  pub mapped-fast : AreFast v.trail
  mapped-fast o m is = by (kept_of kept o) (h.each o (omega (arith, there)))
    where
      there : length kept ≤ o → ⊥
      there le = let none = map-none unused v h.heap o (omega (arith, le, h.items)) in let n : None ≡ Some m = sym none ∙ is in let f : ⊥ = cc in f

      by : (item : Option Dictionary) → IsKeptSo v.trail o item → HasMap v.trail o
      by (Some d) so = let n : None ≡ Some m = sym so ∙ is in let f : ⊥ = cc in absurd f
      by None so = so
