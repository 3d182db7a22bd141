-- The first word of a line, and what stands behind it.
use Rattle.std.proofs.Common.{◌≡◌, ℕ, ◌-◌, Bool, true, false, List, [], ◌∷◌, take, drop, length, refl, ap, arith}
use Rattle.std.proofs.lemmas.List.{take_rest}
use Rattle.std.proofs.lemmas.Bool.Decides.{nat_tests}
use Rattle.hc_commands.specs.Words.{is_blank, parts, quoted_behind, words_from, words_of, is_empty, onto_word, word_end, BeginsWithWord}

-- the bytes are their first word and then the words behind it
abbrev pub AreParted : Bool → List ℕ → Type 0
AreParted quoted bytes = words_from quoted bytes ≡ take (word_end quoted bytes) bytes ∷ words_of (drop (word_end quoted bytes) bytes)

-- what parts words inside of quotes parts them outside
parts_outside : (quoted : Bool) (byte : ℕ) → parts quoted byte ≡ true → is_blank byte ≡ true
parts_outside true byte h = grind (arith, nat_tests)
parts_outside false byte h = h

-- a byte before bytes that begin with one that parts, or go on with the word
parted_at : (quoted : Bool) (byte next : ℕ) (bytes : List ℕ) (parting : Bool) → parts (quoted_behind quoted byte) next ≡ parting → parts quoted byte ≡ false → (parts (quoted_behind quoted byte) next ≡ false → AreParted (quoted_behind quoted byte) (next ∷ bytes)) → AreParted quoted (byte ∷ next ∷ bytes)
parted_at quoted byte next bytes true e h further =
    let o : is_blank next ≡ true = parts_outside (quoted_behind quoted byte) next e in simp (h, e, o)
parted_at quoted byte next bytes false e h further = simp (h, e) (ap (onto_word byte) (simp e at (further e)))

-- bytes that begin with a word
pub are_parted : (quoted : Bool) (byte : ℕ) (bytes : List ℕ) → parts quoted byte ≡ false → AreParted quoted (byte ∷ bytes)
are_parted quoted byte [] h = simp h
are_parted quoted byte (next ∷ bytes) h = parted_at quoted byte next bytes (parts (quoted_behind quoted byte) next) refl h (are_parted (quoted_behind quoted byte) next bytes)

-- what a first word is, and what stands behind it
pub first_word_is : (bytes : List ℕ) → BeginsWithWord bytes → (length bytes ≡ 0 → ⊥) → words_of bytes ≡ take (word_end false bytes) bytes ∷ words_of (take (length bytes - word_end false bytes) (drop (word_end false bytes) bytes))
first_word_is [] begins some = absurd (some refl)
first_word_is (byte ∷ bytes) begins some = rw take_rest (are_parted false byte bytes begins)

-- bytes that begin with a word have one
pub has_word : (bytes : List ℕ) (none : Bool) → BeginsWithWord bytes → (none ≡ true → length bytes ≡ 0) → (length bytes ≡ 0 → none ≡ true) → none ≡ is_empty (words_of bytes)
has_word [] none begins some all = all refl
has_word (byte ∷ bytes) true begins some all = absurd (let e : length (byte ∷ bytes) ≡ 0 = some refl in omega arith)
has_word (byte ∷ bytes) false begins some all = rw (are_parted false byte bytes begins) refl
