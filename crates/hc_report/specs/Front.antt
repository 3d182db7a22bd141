-- A text behind which more may stand.
use Rattle.std.specs.Prelude.{◌≡◌, ℕ, List, length, take}

-- a text begins with another
pub record BeginsWith (text front : List ℕ) : Type 0 where
  pub same : take (length front) text ≡ front
