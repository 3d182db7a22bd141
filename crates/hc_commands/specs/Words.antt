-- The words of a line: the longest runs of bytes that no blank parts. Between two quotes a space parts nothing.
use Rattle.std.specs.Prelude.{◌≡◌, ℕ, suc, Bool, true, false, not, ◌&&◌, ◌||◌, nat_le, List, [], ◌∷◌, if◌then◌else◌, ◌==◌}
use Rattle.std.specs.List.{list_all}

-- a space, or the newline that ends a line
abbrev pub is_blank : ℕ → Bool
is_blank byte = (byte == 32) || (byte == 10)

-- whether a byte parts words, inside of quotes or outside: a space doesn't inside
abbrev pub parts : Bool → ℕ → Bool
parts true byte = byte == 10
parts false byte = is_blank byte

-- whether what follows a byte of a word stands inside of quotes: a quote goes in or out
abbrev pub quoted_behind : Bool → ℕ → Bool
quoted_behind quoted byte = if byte == 34 then not quoted else quoted

-- a word goes on here
abbrev pub continues : Bool → List ℕ → Bool
continues quoted [] = false
continues quoted (byte ∷ bytes) = not (parts quoted byte)

-- a byte goes onto the first word of the rest
abbrev pub onto_word : ℕ → List (List ℕ) → List (List ℕ)
onto_word byte [] = (byte ∷ []) ∷ []
onto_word byte (word ∷ words) = (byte ∷ word) ∷ words

-- a byte that parts nothing goes onto the word behind it, or is a word by itself
abbrev pub words_from : Bool → List ℕ → List (List ℕ)
words_from quoted [] = []
words_from quoted (byte ∷ bytes) =
    if parts quoted byte
    then words_from false bytes
    else if continues (quoted_behind quoted byte) bytes
    then onto_word byte (words_from (quoted_behind quoted byte) bytes)
    else (byte ∷ []) ∷ words_from (quoted_behind quoted byte) bytes

-- a line begins outside of quotes
abbrev pub words_of : List ℕ → List (List ℕ)
words_of line = words_from false line

-- no word
abbrev pub is_empty : List (List ℕ) → Bool
is_empty [] = true
is_empty (word ∷ words) = false

-- a comment begins with a semicolon
abbrev pub is_comment : List ℕ → Bool
is_comment [] = false
is_comment (byte ∷ bytes) = byte == 59

-- a line that asks for nothing: a comment, or no word
abbrev pub is_skipped : List ℕ → Bool
is_skipped line = is_comment line || is_empty (words_of line)

-- how many bytes stand before the first that parts
abbrev pub word_end : Bool → List ℕ → ℕ
word_end quoted [] = 0
word_end quoted (byte ∷ bytes) = if parts quoted byte then 0 else suc (word_end (quoted_behind quoted byte) bytes)

-- there is nothing, or a byte of a word first
abbrev pub BeginsWithWord : List ℕ → Type 0
BeginsWithWord [] = Unit {0}
BeginsWithWord (byte ∷ bytes) = is_blank byte ≡ false

-- a byte that a command may have
abbrev pub is_plain_byte : ℕ → Bool
is_plain_byte byte = nat_le 32 byte && nat_le byte 126

abbrev pub IsPlain : List ℕ → Type 0
IsPlain bytes = list_all is_plain_byte bytes ≡ true

-- words of such bytes
abbrev pub ArePlain : List (List ℕ) → Type 0
ArePlain words = list_all (list_all is_plain_byte) words ≡ true
