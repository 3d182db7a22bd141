-- Names and texts are text.
use Rattle.std.proofs.Common.{◌≡◌, ℕ, zero, suc, ◌<◌, Bool, true, false, List, [], ◌∷◌, arith, refl, ◌&&◌}
use Rattle.std.specs.List.{list_all}
use Rattle.std.specs.Str.{IsAscii, IsUtf8}
use Rattle.std.proofs.lemmas.Str.{IsUtf8-from_ascii}
use Rattle.std.proofs.lemmas.Grind.{common_steps}
use Rattle.std.proofs.lemmas.Bool.Decides.{nat_tests}
use Rattle.hc_commands.specs.Values.{begins_name, continues_name, IsName, is_text_byte, IsText}

continues_ascii : (byte : ℕ) → continues_name byte ≡ true → byte < 128
continues_ascii byte h = grind (arith, nat_tests)

pub begins_continues : (byte : ℕ) → begins_name byte ≡ true → continues_name byte ≡ true
begins_continues byte h = rw h refl

text_ascii : (byte : ℕ) → is_text_byte byte ≡ true → byte < 128
text_ascii byte h = grind (arith, nat_tests)

texts_ascii : (bytes : List ℕ) → list_all is_text_byte bytes ≡ true → IsAscii bytes
texts_ascii [] h i = omega arith
texts_ascii (byte ∷ bytes) h zero = grind (arith, common_steps, text_ascii)
texts_ascii (byte ∷ bytes) h (suc i) = texts_ascii bytes (grind (arith, common_steps)) i

-- what stands between quotes is text
pub text_is_text : (text : List ℕ) → IsText text → IsUtf8 text
text_is_text text h = IsUtf8-from_ascii text (texts_ascii text h.spelling)

all_ascii : (bytes : List ℕ) → list_all continues_name bytes ≡ true → IsAscii bytes
all_ascii [] h i = omega arith
all_ascii (byte ∷ bytes) h zero = grind (arith, common_steps, continues_ascii)
all_ascii (byte ∷ bytes) h (suc i) = all_ascii bytes (grind (arith, common_steps)) i

split : (a b : Bool) → a && b ≡ true → (a ≡ true) × (b ≡ true)
split true b h = (refl, h)
split false b h = absurd (cc)

ascii_behind : (byte : ℕ) (bytes : List ℕ) → byte < 128 → IsAscii bytes → IsAscii (byte ∷ bytes)
ascii_behind byte bytes first others zero = first
ascii_behind byte bytes first others (suc i) = others i

-- a name is text
pub name_is_text : (name : List ℕ) → IsName name → IsUtf8 name
name_is_text [] h = absurd (let no : false ≡ true = h.spelling in cc)
name_is_text (byte ∷ bytes) h =
    let parts : (begins_name byte ≡ true) × (list_all continues_name bytes ≡ true) = split (begins_name byte) (list_all continues_name bytes) h.spelling in
    IsUtf8-from_ascii (byte ∷ bytes) (ascii_behind byte bytes (continues_ascii byte (begins_continues byte parts.0)) (all_ascii bytes parts.1))
