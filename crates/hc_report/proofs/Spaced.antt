-- One more word of a list is behind the text.
use Rattle.std.proofs.Common.{◌≡◌, ◌<◌, ◌++◌, ℕ, ◌+◌, List, [], ◌∷◌, length, map, take, get_or, refl, sym, ap, ◌∙◌, append_assoc, arith}
use Rattle.std.specs.Prelude.{codes}
use Rattle.std.proofs.lemmas.List.{take_more, length-take-le, length-map, map-append}
use Rattle.hc_report.specs.Text.{spaced}

-- a word after others stands behind a space
spaced_more : (x : List ℕ) (xs : List (List ℕ)) (word : List ℕ) → spaced (x ∷ (xs ++ word ∷ [])) ≡ spaced (x ∷ xs) ++ (codes " " ++ word)
spaced_more x [] word = append_assoc x (codes " ") word
spaced_more x (y ∷ xs) word =
    ap (λ (rest : List ℕ). (x ++ codes " ") ++ rest) (spaced_more y xs word)
    ∙ sym (append_assoc (x ++ codes " ") (spaced (y ∷ xs)) (codes " " ++ word))

spaced_on : (xs : List (List ℕ)) (word : List ℕ) → 0 < length xs → spaced (xs ++ word ∷ []) ≡ spaced xs ++ (codes " " ++ word)
spaced_on [] word some = absurd (omega arith)
spaced_on (x ∷ xs) word some = spaced_more x xs word

module _ {X : Type 0} (f : X → List ℕ) (list : List X) (i : ℕ) (d : X) (there : i < length list) where
  taken : map f (take (i + 1) list) ≡ map f (take i list) ++ f (get_or list i d) ∷ []
  taken = ap (map f) (take_more list i d there) ∙ map-append f (take i list) (get_or list i d ∷ [])

  -- the words so far, and the next
  pub spaced_next : 0 < i → spaced (map f (take (i + 1) list)) ≡ spaced (map f (take i list)) ++ (codes " " ++ f (get_or list i d))
  spaced_next later =
      ap spaced taken
      ∙ spaced_on (map f (take i list)) (f (get_or list i d))
      (omega (arith, length-map (take i list) f, length-take-le i list (omega arith)))

  pub spaced_first : i ≡ 0 → spaced (map f (take (i + 1) list)) ≡ spaced (map f (take i list)) ++ f (get_or list i d)
  spaced_first first = ap spaced taken ∙ rw first refl

-- a text behind which two more pieces were put
pub two_behind : (start before so_far space mid word now whole : List ℕ) → before ≡ start ++ so_far → mid ≡ before ++ space → now ≡ mid ++ word → whole ≡ so_far ++ (space ++ word) → now ≡ start ++ whole
two_behind start before so_far space mid word now whole e1 e2 e3 e4 = rw (e3, e2, e1, e4) (simp append_assoc)

pub one_behind : (start before so_far word now whole : List ℕ) → before ≡ start ++ so_far → now ≡ before ++ word → whole ≡ so_far ++ word → now ≡ start ++ whole
one_behind start before so_far word now whole e1 e2 e3 = rw (e2, e1, e3) (simp append_assoc)
