-- What contracts say of a list of names: the bytes of each text, in the order in which the texts were first interned.
use Rattle.std.specs.Prelude.{◌≡◌, ℕ, Bool, if◌then◌else◌, List, [], ◌∷◌, ◌++◌, Some, slice_get}
use Rattle.std.specs.List.{list_any, position_or_len}
use Rattle.std.specs.Str.{bytes_eq}

-- whether the text is among the names
abbrev pub has_text : List (List ℕ) → List ℕ → Bool
has_text names text = list_any (bytes_eq text) names

-- the number of a text: the place of the first name that is equal to it, or the number of names where there is none
abbrev pub number_of : List (List ℕ) → List ℕ → ℕ
number_of names text = position_or_len (bytes_eq text) names

-- the names once the text is interned: a new text goes last
abbrev pub with_text : List (List ℕ) → List ℕ → List (List ℕ)
with_text names text = if has_text names text then names else names ++ text ∷ []

-- no text stands at two places
abbrev pub HasNoRepeats : List (List ℕ) → Type 0
HasNoRepeats names = (i j : ℕ) (text : List ℕ) → slice_get names i ≡ Some text → slice_get names j ≡ Some text → i ≡ j

-- each number of the old names names the same text among the new ones
abbrev pub KeepsNumbers : List (List ℕ) → List (List ℕ) → Type 0
KeepsNumbers old new = (n : ℕ) (text : List ℕ) → slice_get old n ≡ Some text → slice_get new n ≡ Some text
