-- Integers that a Number of the language holds exactly.
use Rattle.std.specs.Prelude.{ℤ, pos, negsuc, ◌≤ℤ◌}

-- from -(2^53 - 1) to 2^53 - 1
pub record IsSafeInteger (z : ℤ) : Type 0 where
  pub low : negsuc 9007199254740990 ≤ℤ z
  pub high : z ≤ℤ pos 9007199254740991
