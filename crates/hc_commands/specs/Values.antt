-- Names, texts and values, and their words.
use Rattle.std.specs.Prelude.{◌≡◌, ℕ, suc, if◌then◌else◌, ◌<◌, ◌≤◌, ◌^◌, ℤ, Bool, true, false, not, ◌&&◌, ◌||◌, List, [], ◌∷◌, ◌++◌, length, Option, Some, None, codes, nat_le, ◌==◌}
use Rattle.std.specs.List.{list_all}
use Rattle.std.specs.Fmt.{decimal, signed_decimal}
use Rattle.hc_value.specs.Num.{IsSafeInteger}
use Rattle.hc_value.specs.declared.value.Value.{Value}
use Rattle.hc_value.specs.declared.value.Value.TheVariants.{Undefined, Null, Bool as Boolean, Int, Text, Obj}
use Rattle.hc_names.specs.Names.{number_of, with_text}

-- a letter, `_` or `$`
abbrev pub begins_name : ℕ → Bool
begins_name byte =
    (nat_le 65 byte && nat_le byte 90) || ((nat_le 97 byte && nat_le byte 122) || ((byte == 95) || (byte == 36)))

-- one of these or a digit
abbrev pub continues_name : ℕ → Bool
continues_name byte = begins_name byte || (nat_le 48 byte && nat_le byte 57)

-- how many bytes stand in front with which a name may go on
abbrev pub name_run : List ℕ → ℕ
name_run [] = 0
name_run (byte ∷ bytes) = if continues_name byte then suc (name_run bytes) else 0

abbrev pub is_name_text : List ℕ → Bool
is_name_text [] = false
is_name_text (byte ∷ bytes) = begins_name byte && list_all continues_name bytes

-- a property's name: 1 to 64 such bytes, the first no digit
pub record IsName (text : List ℕ) : Type 0 where
  pub spelling : is_name_text text ≡ true
  pub short : length text ≤ 64

-- a printable byte other than a quote and a backslash
abbrev pub is_text_byte : ℕ → Bool
is_text_byte byte = (nat_le 32 byte && nat_le byte 126) && (not (byte == 34) && not (byte == 92))

-- what stands between the quotes of a text: at most 1,024 such bytes
pub record IsText (text : List ℕ) : Type 0 where
  pub spelling : list_all is_text_byte text ≡ true
  pub short : length text ≤ 1024

-- a value as its word has it, with a text as its bytes
pub data WrittenValue : Type 0 where
  written_undefined : WrittenValue
  written_null : WrittenValue
  written_boolean : Bool → WrittenValue
  written_integer : ℤ → WrittenValue
  written_text : List ℕ → WrittenValue
  written_object : ℕ → WrittenValue

-- texts, and numbers in their ranges
abbrev pub IsWrittenValue : WrittenValue → Type 0
IsWrittenValue written_undefined = Unit {0}
IsWrittenValue written_null = Unit {0}
IsWrittenValue (written_boolean b) = Unit {0}
IsWrittenValue (written_integer integer) = IsSafeInteger integer
IsWrittenValue (written_text text) = IsText text
IsWrittenValue (written_object o) = o < 2 ^ 32

-- the same of a value that may be given
abbrev pub IsGivenValue : Option WrittenValue → Type 0
IsGivenValue None = Unit {0}
IsGivenValue (Some value) = IsWrittenValue value

-- `#` and the number of an object
abbrev pub object_word : ℕ → List ℕ
object_word o = 35 ∷ decimal o

-- a text between quotes
abbrev pub text_word : List ℕ → List ℕ
text_word text = 34 ∷ (text ++ 34 ∷ [])

abbrev pub boolean_word : Bool → List ℕ
boolean_word true = codes "true"
boolean_word false = codes "false"

-- the word of a value
abbrev pub value_word : WrittenValue → List ℕ
value_word written_undefined = codes "undefined"
value_word written_null = codes "null"
value_word (written_boolean b) = boolean_word b
value_word (written_integer integer) = signed_decimal integer
value_word (written_text text) = text_word text
value_word (written_object o) = object_word o

-- the word of no value
abbrev pub WritesNoValue : List ℕ → Type 0
WritesNoValue word = (value : WrittenValue) → IsWrittenValue value → word ≡ value_word value → ⊥

-- the value, with its text as its number
abbrev pub value_of : List (List ℕ) → WrittenValue → Value
value_of names written_undefined = Undefined
value_of names written_null = Null
value_of names (written_boolean b) = Boolean b
value_of names (written_integer integer) = Int integer
value_of names (written_text text) = Text (number_of names text)
value_of names (written_object o) = Obj o

-- the names after it
abbrev pub names_behind : List (List ℕ) → WrittenValue → List (List ℕ)
names_behind names written_undefined = names
names_behind names written_null = names
names_behind names (written_boolean b) = names
names_behind names (written_integer integer) = names
names_behind names (written_text text) = with_text names text
names_behind names (written_object o) = names

-- the same of a value that may be given
abbrev pub maybe_value_of : List (List ℕ) → Option WrittenValue → Option Value
maybe_value_of names None = None
maybe_value_of names (Some value) = Some (value_of names value)

abbrev pub names_behind_maybe : List (List ℕ) → Option WrittenValue → List (List ℕ)
names_behind_maybe names None = names
names_behind_maybe names (Some value) = names_behind names value
