use Rattle.std.proofs.Common.{◌≡◌, ℕ, ℤ, pos, ◌+ℤ◌, ◌-ℤ◌, ◌<◌, ◌≤◌, ◌^◌, ◌↔◌, Option, Some, None, IsSome, IfSome, refl, sym, ◌∙◌, ap, arith}
use Rattle.std.proofs.lemmas.Bool.Decides.{nat_tests}
use Rattle.std.proofs.lemmas.Int.{ints}
use Rattle.hc_value.specs.Num.{IsSafeInteger}
use Rattle.hc_value.specs.Word.{unwide_of}

in_range : (w : ℕ) → 0 < w → w < 2 ^ 54 → unwide_of w ≡ Some (pos w -ℤ pos (2 ^ 53))
unfolding unwide_of
in_range w h k = grind (arith, nat_tests)

out_of_range : (w : ℕ) → (0 < w → w < 2 ^ 54 → ⊥) → unwide_of w ≡ None
unfolding unwide_of
out_of_range w h = grind (arith, nat_tests)

from_word : (w : ℕ) (z : ℤ) → unwide_of w ≡ Some z → z ≡ pos w -ℤ pos (2 ^ 53)
unfolding unwide_of
from_word w z h = grind (arith, nat_tests)

-- the number that is 2 ^ 53 above an integer is its wide word
pub wide_form : (z : ℤ) (n : ℕ) → IsSafeInteger z → pos n ≡ z +ℤ pos (2 ^ 53) → unwide_of n ≡ Some z
wide_form z n h e =
    in_range n (omega (arith, ints)) (omega (arith, ints)) ∙ ap Some (omega (arith, ints))

pub wide_alone : (z : ℤ) (w n : ℕ) → pos n ≡ z +ℤ pos (2 ^ 53) → unwide_of w ≡ Some z → w ≡ n
wide_alone z w n e h =
    let is : z ≡ pos w -ℤ pos (2 ^ 53) = from_word w z h in
    omega (arith, ints)

unwide_some : (w : ℕ) (z : ℤ) → IsSafeInteger z → z ≡ pos w -ℤ pos (2 ^ 53) → Some z ≡ unwide_of w
unwide_some w z h e = sym (wide_form z w h (omega (arith, ints)))

unwide_none : (w : ℕ) (z : ℤ) → (IsSafeInteger z → ⊥) → z ≡ pos w -ℤ pos (2 ^ 53) → None ≡ unwide_of w
unwide_none w z h e =
    sym (out_of_range w (λ low high. h (record { low = omega (arith, ints); high = omega (arith, ints) })))

pub unwide_over : (w : ℕ) → 2 ^ 54 ≤ w → None ≡ unwide_of w
unwide_over w h = sym (out_of_range w (λ low high. omega arith))

-- what the test of an integer's range answers is what the word stands for
pub unwide_from : (r : Option ℤ) (z : ℤ) (w : ℕ) → IsSome r ↔ IsSafeInteger z → IfSome r (λ n. n ≡ z) → z ≡ pos w -ℤ pos (2 ^ 53) → r ≡ unwide_of w
unwide_from (Some n) z w range value e = ap Some value ∙ unwide_some w z (range.0 refl) e
unwide_from None z w range value e = unwide_none w z (λ safe. let no = range.1 safe in cc) e
