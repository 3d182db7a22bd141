-- Where the nearest property of a name stands on a chain of prototypes.
use Rattle.std.specs.Prelude.{ℕ, List, [], ◌∷◌, Option, Some, None}
use Rattle.hc_cells.specs.Chains.{chain_from}
use Rattle.hc_table.specs.World.{World, props_at, place_of}
use Rattle.hc_modes.specs.Came.{world_of}
use Rattle.hc_modes.specs.State.{ObjectsState}
use Rattle.hc_modes.specs.Validity.{protos_of}

-- a property's holder, and its place there
pub record Place : Type 0 where
  pub holder : ℕ
  pub place : ℕ

-- an object's own property comes before what is further on
abbrev pub own_or_on : ℕ → Option ℕ → Option Place → Option Place
own_or_on q (Some i) on = Some (record { holder = q; place = i })
own_or_on q None on = on

-- the first property of a name among the objects of a list
abbrev pub place_among : World → List ℕ → ℕ → Option Place
place_among w [] name = None
place_among w (q ∷ qs) name = own_or_on q (place_of (props_at w q) name) (place_among w qs name)

-- the first property of a name on the chain that begins here
abbrev pub place_from : {P : Type 0} → ObjectsState P → Option ℕ → ℕ → Option Place
place_from s at name = place_among (world_of s) (chain_from s.heap.view.trail (protos_of s) at) name
