-- Numbers of names.
use Rattle.std.specs.Prelude.{ℕ, ◌<◌}

-- names have numbers below 2^20
abbrev pub IsNameNumber : ℕ → Type 0
IsNameNumber name = name < 1048576
