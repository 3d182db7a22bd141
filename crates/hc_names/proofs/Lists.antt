-- Lemmas on places in a list of texts, and on the same places under `map`.
use Rattle.std.proofs.Common.{◌≡◌, ℕ, zero, suc, ◌+◌, ◌<◌, Bool, true, false, cond, ◌||◌, not, if◌then◌else◌, List, [], ◌∷◌, ◌++◌, None, Some, length, map, get_or, slice_get, position, refl, sym, ap, subst, ◌∙◌, true≢false, ◌⊎◌, inl, inr, arith, nat_lt}
use Rattle.std.specs.List.{list_any, position_or_len}
use Rattle.std.specs.Str.{bytes_eq}
use Rattle.std.specs.Prelude.{String}
use Rattle.std.specs.String.{string_bytes, string_eq}
use Rattle.std.proofs.lemmas.List.{map-append}
use Rattle.indexmap.specs.IndexSet.{insert_key}
use Rattle.std.proofs.lemmas.Bool.Decides.{nat_tests}
use Rattle.std.proofs.lemmas.Slice.Eq.{bytes_eq-Decides}
use Rattle.std.proofs.lemmas.List.Folds.{list_any_at}
use Rattle.std.proofs.lemmas.List.Sums.{passes_at_first}
use Rattle.std.proofs.lemmas.Option.{slice_get-get_or, slice_get_within, get_or_from_slice_get, same_Some}
use Rattle.hc_names.specs.Names.{has_text, number_of, with_text, HasNoRepeats}

module _ {X Y : Type 0} (p : Y → Bool) (f : X → Y) where
  pub list_any-map : (xs : List X) → list_any p (map f xs) ≡ list_any (λ x. p (f x)) xs
  list_any-map [] = refl
  list_any-map (x ∷ xs) = ap (λ b. p (f x) || b) (list_any-map xs)

  pub position_or_len-map : (xs : List X) → position_or_len p (map f xs) ≡ position_or_len (λ x. p (f x)) xs
  position_or_len-map [] = refl
  position_or_len-map (x ∷ xs) = ap (λ n. cond (not (p (f x))) (1 + n) 0) (position_or_len-map xs)

module _ {X : Type 0} (p : X → Bool) where
  -- the first place that passes is within the list exactly where some place passes
  pub position_or_len-found : (xs : List X) → nat_lt (position_or_len p xs) (length xs) ≡ list_any p xs
  position_or_len-found [] = refl
  position_or_len-found (x ∷ xs) = by (p x) (position_or_len-found xs)
    where
      by : (b : Bool) → nat_lt (position_or_len p xs) (length xs) ≡ list_any p xs → nat_lt (cond (not b) (1 + position_or_len p xs) 0) (length (x ∷ xs)) ≡ (b || list_any p xs)
      by true e = grind (arith, nat_tests)
      by false e = grind (arith, nat_tests)

  -- and is the length where none does
  pub position_or_len-none : (xs : List X) → list_any p xs ≡ false → position_or_len p xs ≡ length xs
  position_or_len-none [] h = refl
  position_or_len-none (x ∷ xs) h = by (p x) (position_or_len-none xs) h
    where
      by : (b : Bool) → (list_any p xs ≡ false → position_or_len p xs ≡ length xs) → (b || list_any p xs) ≡ false → cond (not b) (1 + position_or_len p xs) 0 ≡ length (x ∷ xs)
      by true rest k = absurd (true≢false k)
      by false rest k = ap (λ n. 1 + n) (rest k) ∙ omega arith

  pub position-found : (xs : List X) → position p xs ≡ (if list_any p xs then Some (position_or_len p xs) else None)
  position-found xs = ap (λ b. cond b (Some (position_or_len p xs)) None) (position_or_len-found xs)

module _ {X : Type 0} where
  -- what stands in a list stands at the same place once there is more
  pub slice_get-more : (xs ys : List X) (i : ℕ) (x : X) → slice_get xs i ≡ Some x → slice_get (xs ++ ys) i ≡ Some x
  slice_get-more [] ys i x h = absurd (grind arith)
  slice_get-more (y ∷ xs) ys zero x h = h
  slice_get-more (y ∷ xs) ys (suc i) x h = slice_get-more xs ys i x h

  -- the last of a list
  pub slice_get-last : (xs : List X) (y : X) → slice_get (xs ++ y ∷ []) (length xs) ≡ Some y
  slice_get-last [] y = refl
  slice_get-last (x ∷ xs) y = slice_get-last xs y

  -- what stands in a list with one more stood there, or is the last
  pub slice_get-push : (xs : List X) (y : X) (i : ℕ) (x : X) → slice_get (xs ++ y ∷ []) i ≡ Some x → (slice_get xs i ≡ Some x) ⊎ ((i ≡ length xs) × (y ≡ x))
  slice_get-push [] y zero x h = inr (refl, same_Some y x h)
  slice_get-push [] y (suc i) x h = absurd (grind arith)
  slice_get-push (z ∷ xs) y zero x h = inl h
  slice_get-push (z ∷ xs) y (suc i) x h = elim (slice_get-push xs y i x h) [ inl k ↦ inl k | inr k ↦ inr (ap (λ n. suc n) k.0, k.1) ]

-- a text that is there has its number below the length
pub number_of-below : (names : List (List ℕ)) (text : List ℕ) → has_text names text ≡ true → number_of names text < length names
number_of-below names text h =
    let e : nat_lt (number_of names text) (length names) ≡ true = position_or_len-found (bytes_eq text) names ∙ h in
    grind (arith, nat_tests)

-- and its number names it
pub number_of-names : (names : List (List ℕ)) (text : List ℕ) → has_text names text ≡ true → slice_get names (number_of names text) ≡ Some text
number_of-names names text h =
    let below = number_of-below names text h in
    let same = (bytes_eq-Decides text (get_or names (number_of names text) [])).0 (passes_at_first (bytes_eq text) names [] below) in
    slice_get-get_or names (number_of names text) [] below ∙ ap Some (sym same)

-- what a number names is there
pub has_text-named : (names : List (List ℕ)) (n : ℕ) (text : List ℕ) → slice_get names n ≡ Some text → has_text names text ≡ true
has_text-named names n text h =
    list_any_at (bytes_eq text) names n [] (slice_get_within names n text h)
    ((bytes_eq-Decides text (get_or names n [])).1 (sym (get_or_from_slice_get names n text [] h)))

-- a number that names a text is the text's number, where no text repeats
pub number_of-named : (names : List (List ℕ)) (n : ℕ) (text : List ℕ) → HasNoRepeats names → slice_get names n ≡ Some text → number_of names text ≡ n
number_of-named names n text distinct h =
    distinct (number_of names text) n text (number_of-names names text (has_text-named names n text h)) h

module _ (names : List (List ℕ)) (text : List ℕ) where
  -- a new text repeats none
  pub HasNoRepeats-push : has_text names text ≡ false → HasNoRepeats names → HasNoRepeats (names ++ text ∷ [])
  HasNoRepeats-push absent distinct i j t at_i at_j =
      let other : (k : ℕ) (u : List ℕ) → slice_get names k ≡ Some u → text ≡ u → ⊥ = λ k u h e. true≢false (sym (has_text-named names k u h) ∙ ap (has_text names) (sym e) ∙ absent) in
      elim (slice_get-push names text i t at_i) [
        | inl a ↦ elim (slice_get-push names text j t at_j) [
          | inl b ↦ distinct i j t a b
          | inr b ↦ absurd (other i t a b.1)
        ]
        | inr a ↦ elim (slice_get-push names text j t at_j) [
          | inl b ↦ absurd (other j t b a.1)
          | inr b ↦ a.0 ∙ sym b.0
        ]
      ]

  pub with_text-absent : has_text names text ≡ false → with_text names text ≡ names ++ text ∷ []
  with_text-absent h = ap (λ b. if b then names else names ++ text ∷ []) h

  pub with_text-present : has_text names text ≡ true → with_text names text ≡ names
  with_text-present h = ap (λ b. if b then names else names ++ text ∷ []) h

  pub with_text-HasNoRepeats : HasNoRepeats names → HasNoRepeats (with_text names text)
  with_text-HasNoRepeats distinct = by (has_text names text) refl
    where
      by : (b : Bool) → has_text names text ≡ b → HasNoRepeats (with_text names text)
      by true e = subst HasNoRepeats (sym (with_text-present e)) distinct
      by false e = subst HasNoRepeats (sym (with_text-absent e)) (HasNoRepeats-push e distinct)

  -- once the text is interned its number names it
  pub with_text-named : slice_get (with_text names text) (number_of names text) ≡ Some text
  with_text-named = by (has_text names text) refl
    where
      by : (b : Bool) → has_text names text ≡ b → slice_get (with_text names text) (number_of names text) ≡ Some text
      by true e = rw (with_text-present e) (number_of-names names text e)
      by false e = rw (with_text-absent e, position_or_len-none (bytes_eq text) names e) (slice_get-last names text)

-- the same of the texts of a list of strings, by which a set of strings is looked up
module _ {Z : Type 0} (strings : List (String Z)) (text : List ℕ) where
  pub has_text-strings : has_text (map string_bytes strings) text ≡ list_any (λ s. bytes_eq text (string_bytes s)) strings
  has_text-strings = list_any-map (bytes_eq text) string_bytes strings

  pub position-strings : position (λ s. bytes_eq text (string_bytes s)) strings ≡ (if has_text (map string_bytes strings) text then Some (number_of (map string_bytes strings) text) else None)
  position-strings =
      position-found (λ s. bytes_eq text (string_bytes s)) strings
      ∙ (λ i. cond (sym has_text-strings i) (Some (sym (position_or_len-map (bytes_eq text) string_bytes strings) i)) None)

  -- the names once a string with a new text goes last
  pub strings-insert_key : (new : String Z) → string_bytes new ≡ text → has_text (map string_bytes strings) text ≡ false → map string_bytes (insert_key string_eq strings new) ≡ map string_bytes strings ++ text ∷ []
  strings-insert_key new same absent =
      let e : list_any (string_eq new) strings ≡ false = ap (λ t. list_any (λ s. bytes_eq t (string_bytes s)) strings) same ∙ sym has_text-strings ∙ absent in
      ap (λ b. map string_bytes (if b then strings else strings ++ new ∷ [])) e
      ∙ map-append string_bytes strings (new ∷ [])
      ∙ ap (λ t. map string_bytes strings ++ t ∷ []) same
