-- A word is that of one value at most.
use Rattle.std.proofs.Common.{◌≡◌, ℕ, suc, ◌<◌, ◌≤◌, ◌^◌, true, false, List, [], ◌∷◌, ◌++◌, length, refl, sym, ap, ◌∙◌, arith, if◌then◌else◌, ◌==◌}
use Rattle.std.specs.Prelude.{ℤ, pos, negsuc}
use Rattle.std.specs.Int.Signed.{mag}
use Rattle.std.specs.Fmt.{decimal, signed_decimal}
use Rattle.std.proofs.lemmas.Fmt.{decimal_injective, signed_decimal_injective}
use Rattle.std.proofs.lemmas.Int.{ints}
use Rattle.std.proofs.lemmas.Bool.Decides.{nat_tests}
use Rattle.hc_value.specs.Num.{IsSafeInteger}
use Rattle.hc_commands.specs.Numeral.{all_digits}
use Rattle.hc_commands.specs.Values.{WrittenValue, written_undefined, written_null, written_boolean, written_integer, written_text, written_object, IsWrittenValue, value_word, object_word, text_word}
use Rattle.hc_commands.proofs.Numerals.{decimal_is_digits}

abbrev pub first_byte : List ℕ → ℕ
first_byte [] = 0
first_byte (byte ∷ bytes) = byte

pub differ : (a b : ℕ) → a ≡ b → (a == b) ≡ false → ⊥
differ a b e other = grind (arith, nat_tests)

-- which kind of value it is
abbrev kind : WrittenValue → ℕ
kind written_undefined = 1
kind written_null = 2
kind (written_boolean b) = 3
kind (written_text text) = 5
kind (written_object o) = 6
kind (written_integer integer) = 0

-- as the first byte of its word tells: `u`, `n`, `t`, `f`, a quote, `#`, or another
abbrev kind_of_byte : ℕ → ℕ
kind_of_byte byte =
    if byte == 117 then 1
    else if byte == 110 then 2
    else if byte == 116 then 3
    else if byte == 102 then 3
    else if byte == 34 then 5
    else if byte == 35 then 6
    else 0

abbrev kind_of_word : List ℕ → ℕ
kind_of_word [] = 0
kind_of_word (byte ∷ bytes) = kind_of_byte byte

digit_kind : (byte : ℕ) → 36 ≤ byte → byte ≤ 57 → kind_of_byte byte ≡ 0
digit_kind byte low high = grind (arith, nat_tests)

digits_kind : (word : List ℕ) → all_digits word ≡ true → kind_of_word word ≡ 0
digits_kind [] digits = refl
digits_kind (byte ∷ bytes) digits = digit_kind byte (grind (arith, nat_tests)) (grind (arith, nat_tests))

integer_kind : (z : ℤ) → IsSafeInteger z → kind_of_word (signed_decimal z) ≡ 0
integer_kind (pos n) safe = digits_kind (decimal n) (decimal_is_digits n (decimal n) (omega (arith, ints, safe.high)) refl)
integer_kind (negsuc n) safe = refl

word_kind : (v : WrittenValue) → IsWrittenValue v → kind_of_word (value_word v) ≡ kind v
word_kind written_undefined is = refl
word_kind written_null is = refl
word_kind (written_boolean true) is = refl
word_kind (written_boolean false) is = refl
word_kind (written_text text) is = refl
word_kind (written_object o) is = refl
word_kind (written_integer z) is = integer_kind z is

same_kind : (v w : WrittenValue) → IsWrittenValue v → IsWrittenValue w → value_word v ≡ value_word w → kind v ≡ kind w
same_kind v w is_v is_w e = sym (word_kind v is_v) ∙ ap kind_of_word e ∙ word_kind w is_w

pub same_object : (o p : ℕ) → o < 2 ^ 32 → p < 2 ^ 32 → object_word o ≡ object_word p → o ≡ p
same_object o p small_o small_p e = let digits : decimal o ≡ decimal p = cc in decimal_injective o p (omega arith) (omega arith) digits

-- what stands before one more byte
same_front : (a b : List ℕ) (byte : ℕ) → a ++ byte ∷ [] ≡ b ++ byte ∷ [] → a ≡ b
same_front [] [] byte e = refl
same_front [] (y ∷ b) byte e = absurd (let len : 1 ≡ suc (length (b ++ byte ∷ [])) = ap length e in one_more b byte len) where
  one_more : (b : List ℕ) (byte : ℕ) → 1 ≡ suc (length (b ++ byte ∷ [])) → ⊥
  one_more [] byte e = omega arith
  one_more (z ∷ b) byte e = omega arith
same_front (x ∷ a) [] byte e = absurd (let len : suc (length (a ++ byte ∷ [])) ≡ 1 = ap length e in one_more a byte len) where
  one_more : (b : List ℕ) (byte : ℕ) → suc (length (b ++ byte ∷ [])) ≡ 1 → ⊥
  one_more [] byte e = omega arith
  one_more (z ∷ b) byte e = omega arith
same_front (x ∷ a) (y ∷ b) byte e =
    let head : x ≡ y = cc in
    let tail : a ++ byte ∷ [] ≡ b ++ byte ∷ [] = cc in
    rw (head, same_front a b byte tail) refl

same_text : (a b : List ℕ) → text_word a ≡ text_word b → a ≡ b
same_text a b e = same_front a b 34 (let tail : a ++ 34 ∷ [] ≡ b ++ 34 ∷ [] = cc in tail)

safe_size : (z : ℤ) → IsSafeInteger z → mag z < 2 ^ 63
safe_size (pos n) safe = omega (arith, ints, safe.high)
safe_size (negsuc n) safe = omega (arith, ints, safe.low)

same_integer : (y z : ℤ) → IsSafeInteger y → IsSafeInteger z → signed_decimal y ≡ signed_decimal z → y ≡ z
same_integer y z safe_y safe_z e = signed_decimal_injective y z (safe_size y safe_y) (safe_size z safe_z) e

pub values_apart : (v w : WrittenValue) → IsWrittenValue v → IsWrittenValue w → value_word v ≡ value_word w → v ≡ w
values_apart written_undefined written_undefined is_v is_w e = refl
values_apart written_null written_null is_v is_w e = refl
values_apart (written_boolean true) (written_boolean true) is_v is_w e = refl
values_apart (written_boolean false) (written_boolean false) is_v is_w e = refl
values_apart (written_boolean true) (written_boolean false) is_v is_w e = absurd (differ 116 102 (ap first_byte e) refl)
values_apart (written_boolean false) (written_boolean true) is_v is_w e = absurd (differ 102 116 (ap first_byte e) refl)
values_apart (written_integer y) (written_integer z) is_v is_w e = ap written_integer (same_integer y z is_v is_w e)
values_apart (written_text a) (written_text b) is_v is_w e = ap written_text (same_text a b e)
values_apart (written_object o) (written_object p) is_v is_w e = ap written_object (same_object o p is_v is_w e)
values_apart v w is_v is_w e = absurd (let k : kind v ≡ kind w = same_kind v w is_v is_w e in omega arith)
