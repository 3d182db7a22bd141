-- What a site has seen of maps, as jobs take it.
use Rattle.std.specs.Prelude.{ℕ, Option, Some, None, List, [], ◌∷◌}

-- the maps in the places of a feedback
abbrev pub listed : List (Option ℕ) → List ℕ
listed [] = []
listed (None ∷ places) = listed places
listed (Some map ∷ places) = map ∷ listed places
