-- A line whose words have plain bytes has no others.
use Rattle.std.proofs.Common.{◌≡◌, ◌≢◌, ℕ, suc, ◌-◌, Bool, true, false, List, [], ◌∷◌, take, length, refl, ap, ◌∙◌, arith, ◌&&◌, if◌then◌else◌, ◌==◌, inl, inr, Option, Some, None, IfSome, IfNone}
use Rattle.std.specs.Prelude.{slice_index}
use Rattle.std.specs.List.{list_all}
use Rattle.std.proofs.lemmas.Bool.{cases_Bool}
use Rattle.std.proofs.lemmas.Bool.Decides.{nat_tests}
use Rattle.hc_lines.specs.Lines.{content, IsLine}
use Rattle.hc_commands.specs.Words.{is_plain_byte, IsPlain, ArePlain, parts, quoted_behind, continues, onto_word, words_from, words_of}
use Rattle.hc_commands.specs.Grammar.{Form, IsForm, IsSpelled, HaveNoForm}
use Rattle.hc_commands.specs.Request.{form_of}
use Rattle.hc_commands.specs.declared.grammar.Request.{Request}
use Rattle.hc_script.specs.Line.{is_plain, HasNoForm}
use mathlib.Core.Logic.{◌⊎◌}

split : (a b : Bool) → a && b ≡ true → (a ≡ true) × (b ≡ true)
split true b h = (refl, h)
split false b h = absurd (cc)

-- a line without its newline, byte by byte
abbrev body : List ℕ → List ℕ
body [] = []
body (byte ∷ []) = if byte == 10 then [] else byte ∷ []
body (byte ∷ next ∷ bytes) = byte ∷ body (next ∷ bytes)

pulled : (test : Bool) (byte : ℕ) (a b : List ℕ) → (if test then byte ∷ a else byte ∷ b) ≡ byte ∷ (if test then a else b)
pulled true byte a b = refl
pulled false byte a b = refl

content_body : (line : List ℕ) → content line ≡ body line
content_body [] = refl
content_body (byte ∷ []) = refl
content_body (byte ∷ next ∷ bytes) =
    let e : length (byte ∷ next ∷ bytes) - 1 ≡ suc (length (next ∷ bytes) - 1) = omega arith in
    rw e (pulled (slice_index (next ∷ bytes) (length (next ∷ bytes) - 1) == 10) byte (take (length (next ∷ bytes) - 1) (next ∷ bytes)) (next ∷ bytes) ∙ ap (λ rest. byte ∷ rest) (content_body (next ∷ bytes)))

-- a byte that parts words and is no newline is a space
parting_plain : (quoted : Bool) (byte : ℕ) → byte ≢ 10 → parts quoted byte ≡ true → is_plain_byte byte ≡ true
parting_plain true byte other h = absurd (other (grind (arith, nat_tests)))
parting_plain false byte other h = grind (arith, nat_tests)

onto_plain : (byte : ℕ) (words : List (List ℕ)) → ArePlain (onto_word byte words) → (is_plain_byte byte ≡ true) × ArePlain words
onto_plain byte [] h =
    let parts = split (is_plain_byte byte) true (split (is_plain_byte byte && true) true h).0 in (parts.0, refl)
onto_plain byte (word ∷ words) h =
    let parts = split (is_plain_byte byte && list_all is_plain_byte word) (list_all (list_all is_plain_byte) words) h in
    let bytes = split (is_plain_byte byte) (list_all is_plain_byte word) parts.0 in
    (bytes.0, rw bytes.1 parts.1)

-- the first byte is plain, and so are the words of the others, inside of quotes or outside
pub record GoesOn (byte : ℕ) (bytes : List ℕ) : Type 0 where
  pub plain : is_plain_byte byte ≡ true
  pub quoted : Bool
  pub others : ArePlain (words_from quoted bytes)

goes_on : (quoted : Bool) (byte : ℕ) (bytes : List ℕ) → byte ≢ 10 → ArePlain (words_from quoted (byte ∷ bytes)) → GoesOn byte bytes
goes_on quoted byte bytes other h = by_parting (cases_Bool (parts quoted byte)) where
  by_going : parts quoted byte ≡ false → (continues (quoted_behind quoted byte) bytes ≡ true) ⊎ (continues (quoted_behind quoted byte) bytes ≡ false) → GoesOn byte bytes
  by_going inside (inl on) =
      let found = onto_plain byte (words_from (quoted_behind quoted byte) bytes) (simp (inside, on) at h) in
      record { plain = found.0; quoted = quoted_behind quoted byte; others = found.1 }
  by_going inside (inr last) =
      let found = split (is_plain_byte byte && true) (list_all (list_all is_plain_byte) (words_from (quoted_behind quoted byte) bytes)) (simp (inside, last) at h) in
      record { plain = (split (is_plain_byte byte) true found.0).0; quoted = quoted_behind quoted byte; others = found.1 }

  by_parting : (parts quoted byte ≡ true) ⊎ (parts quoted byte ≡ false) → GoesOn byte bytes
  by_parting (inl parting) = record { plain = parting_plain quoted byte other parting; quoted = false; others = simp parting at h }
  by_parting (inr inside) = by_going inside (cases_Bool (continues (quoted_behind quoted byte) bytes))

is_other : (byte : ℕ) → (byte == 10) ≡ false → byte ≢ 10
is_other byte e same = absurd (grind (arith, nat_tests))

last_plain : (quoted : Bool) (byte : ℕ) → ArePlain (words_from quoted (byte ∷ [])) → IsPlain (body (byte ∷ []))
last_plain quoted byte h = by_case (cases_Bool (byte == 10)) where
  by_case : ((byte == 10) ≡ true) ⊎ ((byte == 10) ≡ false) → IsPlain (body (byte ∷ []))
  by_case (inl newline) = rw newline refl
  by_case (inr other) = rw other (let found = goes_on quoted byte [] (is_other byte other) h in rw found.plain refl)

body_plain : (quoted : Bool) (line : List ℕ) → IsLine line → ArePlain (words_from quoted line) → IsPlain (body line)
body_plain quoted [] is h = refl
body_plain quoted (byte ∷ []) is h = last_plain quoted byte h
body_plain quoted (byte ∷ next ∷ bytes) is h =
    let found = goes_on quoted byte (next ∷ bytes) is.0 h in
    rw found.plain (body_plain found.quoted (next ∷ bytes) is.1 found.others)

pub plain_line : (line : List ℕ) → IsLine line → ArePlain (words_of line) → is_plain line ≡ true
plain_line line is h = rw (content_body line) (body_plain false line is h)

-- the words of a command have plain bytes
abbrev pub FormsArePlain : Type 0
FormsArePlain = (form : Form) (words : List (List ℕ)) → IsForm form → IsSpelled form words → ArePlain words

pub found_plain : FormsArePlain → (line : List ℕ) (found : Option Request) → IsLine line → IfSome found (λ request. IsForm (form_of request)) → IfSome found (λ request. IsSpelled (form_of request) (words_of line)) → IfSome found (λ request. is_plain line ≡ true)
found_plain plain line None is form spelled = tt
found_plain plain line (Some request) is form spelled = plain_line line is (plain (form_of request) (words_of line) form spelled)

none_has_no_form : (line : List ℕ) → HaveNoForm (words_of line) → (is_plain line ≡ true) ⊎ (is_plain line ≡ false) → HasNoForm line
none_has_no_form line none (inl plain) = inr (plain, none)
none_has_no_form line none (inr unplain) = inl unplain

pub not_found : (line : List ℕ) (found : Option Request) → IfNone found (HaveNoForm (words_of line)) → IfNone found (HasNoForm line)
not_found line None none = none_has_no_form line none (cases_Bool (is_plain line))
not_found line (Some request) none = tt
