use Rattle.std.specs.Prelude.{ℕ, nat_le, if◌then◌else◌, List, [], ◌∷◌}
use Rattle.hc_layout.specs.declared.capacity.TheConstants.{CAPACITIES}

-- the first number of a list that is at least k
abbrev pub first_from : ℕ → List ℕ → ℕ
first_from k [] = 0
first_from k (c ∷ cs) = if nat_le k c then c else first_from k cs

-- the least capacity that has room for k
unfoldable pub cap_of : ℕ → ℕ
cap_of k = first_from k CAPACITIES
