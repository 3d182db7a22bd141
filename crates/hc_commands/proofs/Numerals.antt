-- What the digits of a number are.
use Rattle.std.proofs.Common.{◌≡◌, ℕ, zero, suc, ◌+◌, ◌-◌, ◌*◌, ◌<◌, ◌≤◌, ◌^◌, true, false, List, [], ◌∷◌, length, get_or, drop, refl, sym, ◌∙◌, ap, arith, rules, Option, Some, None, IfSome, IfNone}
use Rattle.std.specs.Fmt.{decimal}
use Rattle.std.proofs.Math.Seq.{drop-cons}
use Rattle.std.proofs.lemmas.Fmt.{digits_decimal, digits_value-decimal, decimal-digits_value, decimal_nonempty, first_decimal, decimal_digit}
use Rattle.std.proofs.lemmas.Grind.{common_steps}
use Rattle.std.proofs.lemmas.Str.Parse.{IsNumeralModel, numerals_by_fold}
use Rattle.std.proofs.lemmas.Fmt.{decimal_injective}
use Rattle.std.specs.Fmt.{signed_decimal}
use Rattle.std.specs.Prelude.{ℤ, pos, negsuc}
use Rattle.std.proofs.lemmas.Int.{ints}
use Rattle.hc_value.specs.Num.{IsSafeInteger}
use Rattle.hc_commands.specs.Numeral.{begins_plainly, all_digits, value_after}

pub own : IsNumeralModel (λ ds. all_digits ds ≡ true) (value_after 0)
own = numerals_by_fold _ (search rules) value_after (search rules)

-- more digits don't write less
pub value_after_grows : (n : ℕ) (bytes : List ℕ) → n ≤ value_after n bytes
value_after_grows n [] = omega arith
value_after_grows n (byte ∷ bytes) = omega (arith, value_after_grows (10 * n + (byte - 48)) bytes)

-- what stands behind a digit that is too much is too much
pub passes_most : (most n i : ℕ) (word : List ℕ) → i < length word → value_after n (drop i word) ≡ value_after 0 word → most < 10 * n + (get_or word i 0 - 48) → most < value_after 0 word
passes_most most n i word here goes_on more =
    let step : value_after n (drop i word) ≡ value_after (10 * n + (get_or word i 0 - 48)) (drop (suc i) word) = rw (drop-cons word i 0) refl in
    omega (arith, goes_on, step, value_after_grows (10 * n + (get_or word i 0 - 48)) (drop (suc i) word))

-- a number's text has no zero in front
pub decimal_begins_plainly : (n : ℕ) (word : List ℕ) → n < 2 ^ 64 → word ≡ decimal n → begins_plainly word ≡ true
decimal_begins_plainly n [] small e =
    let same : 0 ≡ length (decimal n) = ap length e in absurd (omega (arith, same, decimal_nonempty n small))
decimal_begins_plainly n (byte ∷ []) small e = refl
decimal_begins_plainly zero (byte ∷ next ∷ bytes) small e =
    let one : length (byte ∷ next ∷ bytes) ≡ 1 = ap length (e ∙ decimal_digit 0 (omega arith)) in absurd (omega (arith, one))
decimal_begins_plainly (suc n) (byte ∷ next ∷ bytes) small e =
    let same : byte ≡ get_or (decimal (suc n)) 0 0 = ap (λ (xs : List ℕ). get_or xs 0 0) e in
    let more : 48 < byte = omega (arith, same, first_decimal (suc n) (omega arith) small) in
    grind (arith, common_steps)

-- digits that begin so are the text of their value
pub digits_are_decimal : (word : List ℕ) → begins_plainly word ≡ true → all_digits word ≡ true → value_after 0 word < 2 ^ 64 → word ≡ decimal (value_after 0 word)
digits_are_decimal [] plain digits small = absurd (cc)
digits_are_decimal (byte ∷ []) plain digits small = sym (decimal-digits_value own (byte ∷ []) digits (omega arith) (λ _. refl) small)
digits_are_decimal (byte ∷ next ∷ bytes) plain digits small =
    sym (decimal-digits_value own (byte ∷ next ∷ bytes) digits (omega arith) (λ zero_first. absurd (grind (arith, common_steps))) small)

-- a number's text is digits, of its value
pub decimal_is_digits : (n : ℕ) (word : List ℕ) → n < 2 ^ 64 → word ≡ decimal n → all_digits word ≡ true
decimal_is_digits n word small e = rw e (digits_decimal own n small)

pub decimal_has_value : (n : ℕ) (word : List ℕ) → n < 2 ^ 64 → word ≡ decimal n → value_after 0 word ≡ n
decimal_has_value n word small e = rw e (digits_value-decimal own n small)

-- the value that was found is the number that the word writes
pub found_is_written : (found : Option ℕ) (word : List ℕ) (most : ℕ) → most < 10 ^ 16 → begins_plainly word ≡ true → IfSome found (λ n. all_digits word ≡ true) → IfSome found (λ n. value_after 0 word ≡ n) → IfSome found (λ n. n ≤ most) → IfSome found (λ n. word ≡ decimal n)
found_is_written None word most bound plain digits value small = tt
found_is_written (Some n) word most bound plain digits value small =
    let fits : value_after 0 word < 2 ^ 64 = omega (arith, value, small, bound) in
    digits_are_decimal word plain digits fits ∙ ap decimal value

-- where nothing was found no number is written
pub none_is_written : (found : Option ℕ) (word : List ℕ) (most : ℕ) → most < 10 ^ 16 → IfNone found (all_digits word ≡ true → most < value_after 0 word) → IfNone found ((n : ℕ) → n ≤ most → word ≡ decimal n → ⊥)
none_is_written (Some n) word most bound none = tt
none_is_written None word most bound none = λ n small e.
    let fits : n < 2 ^ 64 = omega (arith, small, bound) in
    omega (arith, none (decimal_is_digits n word fits e), decimal_has_value n word fits e, small)

-- a word that doesn't begin so is no number's text
pub unplain_is_not_written : (word : List ℕ) (most : ℕ) → most < 10 ^ 16 → begins_plainly word ≡ false → (n : ℕ) → n ≤ most → word ≡ decimal n → ⊥
unplain_is_not_written word most bound unplain n small e =
    let fits : n < 2 ^ 64 = omega (arith, small, bound) in
    let plain : begins_plainly word ≡ true = decimal_begins_plainly n word fits e in
    cc

-- a minus and digits write a number below zero
pub record WritesNegative (digits : List ℕ) : Type 0 where
  pub n : ℕ
  pub some : 0 < n
  pub small : n ≤ 9007199254740991
  pub written : digits ≡ decimal n

pub minus_is_negative : (digits : List ℕ) (z : ℤ) → IsSafeInteger z → 45 ∷ digits ≡ signed_decimal z → WritesNegative digits
minus_is_negative digits (pos n) safe e =
    let small : n ≤ 9007199254740991 = omega (arith, ints, safe.high) in
    let digit : all_digits (45 ∷ digits) ≡ true = decimal_is_digits n (45 ∷ digits) (omega (arith, small)) e in
    absurd (cc)
minus_is_negative digits (negsuc n) safe e =
    record { n = suc n; some = omega arith; small = omega (arith, ints, safe.low); written = cc }

-- no integer is written by a minus and what is no number
pub no_negative : (digits : List ℕ) → ((n : ℕ) → n ≤ 9007199254740991 → digits ≡ decimal n → ⊥) → (z : ℤ) → IsSafeInteger z → 45 ∷ digits ≡ signed_decimal z → ⊥
no_negative digits none z safe e =
    let found : WritesNegative digits = minus_is_negative digits z safe e in none found.n found.small found.written

-- no integer is written by a minus and a zero
pub no_minus_zero : (digits : List ℕ) → digits ≡ decimal 0 → (z : ℤ) → IsSafeInteger z → 45 ∷ digits ≡ signed_decimal z → ⊥
no_minus_zero digits zero_written z safe e =
    let found : WritesNegative digits = minus_is_negative digits z safe e in
    let same : 0 ≡ found.n = decimal_injective 0 found.n (omega arith) (omega (arith, found.small)) (sym zero_written ∙ found.written) in
    omega (arith, same, found.some)
