-- What a look at the words is to objects, and that no look, and looks one after another, are such too.
use Rattle.std.specs.Prelude.{◌≡◌, ℕ, ◌+◌, Some, List, [], ◌++◌, length}
use Rattle.std.proofs.Common.{sym, ap, ◌∙◌, length-append, add-zero, add_assoc}
use Rattle.hc_board.specs.Trail.{Access}
use Rattle.hc_heap.specs.Writes.{Trail}
use Rattle.hc_heap.specs.Readings.{map_in}
use Rattle.hc_slots.specs.Fast.{HasMap}
use Rattle.hc_modes.specs.Came.{IsStill}
use Rattle.hc_modes.specs.Laws.{still-refl, still-on}
use Rattle.hc_modes.specs.State.{ObjectsState}

-- these reads were made, each by one load, and nothing was done
pub record HasLooked {P : Type 0} (a : ObjectsState P) (reads : List Access) (b : ObjectsState P) : Type 0 where
  pub still : IsStill a b
  pub loads : b.heap.desk.loads ≡ a.heap.desk.loads + length reads

pub looked-stays : {P : Type 0} (a : ObjectsState P) → HasLooked a [] a
looked-stays a = record { still = still-refl a; loads = sym (add-zero a.heap.desk.loads) }

pub looked-goes_on : {P : Type 0} (a b c : ObjectsState P) (reads later : List Access) → HasLooked a reads b → HasLooked b later c → HasLooked a (reads ++ later) c
looked-goes_on a b c reads later x y = record {
  still = still-on a b c x.still y.still;
  loads = y.loads ∙ (ap (λ (n : ℕ). n + length later) x.loads
      ∙ (add_assoc a.heap.desk.loads (length reads) (length later) ∙ ap (λ (n : ℕ). a.heap.desk.loads + n) (sym (length-append reads later))));
}

-- each object that has a map is fast with it
abbrev pub AreFast : Trail → Type 0
AreFast t = (o m : ℕ) → map_in t o ≡ Some m → HasMap t o
