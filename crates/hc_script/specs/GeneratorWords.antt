-- The words of the program that ask for a script that is made from a number.
use Rattle.std.specs.Prelude.{◌≡◌, ◌⊎◌, ℕ, ◌<◌, ◌≤◌, ◌^◌, List, [], ◌∷◌, codes}
use Rattle.std.specs.Fmt.{decimal}

-- the words ask for a script of n commands from this number: `gen`, how many commands, and the number, which may be left out
-- where it is 1
pub record AskForScript (words : List (List ℕ)) (n start : ℕ) : Type 0 where
  pub enough : 16 ≤ n
  pub few : n ≤ 200000
  pub small : start < 2 ^ 64
  pub words_are : (words ≡ codes "gen" ∷ decimal n ∷ decimal start ∷ []) ⊎ ((words ≡ codes "gen" ∷ decimal n ∷ []) × (start ≡ 1))

-- the first two of these words
pub record AskForCount (verb count : List ℕ) (n : ℕ) : Type 0 where
  pub enough : 16 ≤ n
  pub few : n ≤ 200000
  pub verb_is : verb ≡ codes "gen"
  pub count_is : count ≡ decimal n
