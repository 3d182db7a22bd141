use Rattle.std.specs.Prelude.{ℕ, ◌+◌, ◌/◌, ◌%◌, ◌^◌, ◌≤◌, ◌⊎◌}

-- the number that `width` bits of a word are, from bit `shift` on
abbrev pub field_of : ℕ → ℕ → ℕ → ℕ
field_of shift width word = word / 2 ^ shift % 2 ^ width

-- two fields, each by its first bit and its width, have no bit in common
abbrev pub AreApart : ℕ → ℕ → ℕ → ℕ → Type 0
AreApart s t shift width = (s + t ≤ shift) ⊎ (shift + width ≤ s)
