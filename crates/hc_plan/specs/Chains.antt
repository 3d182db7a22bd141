-- The objects passed on the way to a property.
use Rattle.std.specs.Prelude.{ℕ, nat_lt, if◌then◌else◌, List, [], ◌∷◌, ◌++◌, length}
use Rattle.hc_plan.specs.declared.lists.TheConstants.{MAX_CHAIN}

-- an object of a chain, and its map
abbrev pub Hop : Type 0
Hop = ℕ × ℕ

-- a chain with one object more, as long as there is room for it
abbrev pub with_hop : List Hop → ℕ → ℕ → List Hop
with_hop chain object map = if nat_lt (length chain) MAX_CHAIN then chain ++ (object, map) ∷ [] else chain
