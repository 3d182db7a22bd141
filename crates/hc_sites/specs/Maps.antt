-- The maps that a site has seen.
use Rattle.std.specs.Prelude.{◌≡◌, ℕ, ◌≤◌, Bool, false, not, ◌&&◌, if◌then◌else◌, List, [], ◌∷◌, ◌++◌, length, filter, Option, slice_get, nat_le, ◌==◌}
use Rattle.std.specs.List.{list_any}

abbrev pub has_map : List ℕ → ℕ → Bool
has_map maps map = list_any (λ other. other == map) maps

-- no map stands there twice
abbrev pub AreDistinct : List ℕ → Type 0
AreDistinct [] = Unit {0}
AreDistinct (map ∷ maps) = (has_map maps map ≡ false) × AreDistinct maps

-- at most four, and all different
pub record AreMaps (maps : List ℕ) : Type 0 where
  pub few : length maps ≤ 4
  pub distinct : AreDistinct maps

-- a map that isn't there finds four others
abbrev pub is_one_too_many : List ℕ → ℕ → Bool
is_one_too_many maps map = not (has_map maps map) && nat_le 4 (length maps)

-- the maps when one is noted: it goes last, unless it is there or finds four others
abbrev pub with_map : List ℕ → ℕ → List ℕ
with_map maps map = if has_map maps map then maps else (if nat_le 4 (length maps) then maps else maps ++ map ∷ [])

-- the other maps, in their order
abbrev pub without_map : List ℕ → ℕ → List ℕ
without_map maps map = filter (λ other. not (other == map)) maps

-- the maps in four places, the first in front
abbrev pub places : List ℕ → List (Option ℕ)
places maps = slice_get maps 0 ∷ slice_get maps 1 ∷ slice_get maps 2 ∷ slice_get maps 3 ∷ []
