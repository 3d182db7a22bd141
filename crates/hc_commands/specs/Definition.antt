-- What a definition of a property gives (ECMA-262, 6.2.6), and its words.
use Rattle.std.specs.Prelude.{◌≡◌, ℕ, Bool, false, ◌&&◌, ◌||◌, List, [], ◌∷◌, ◌++◌, Option, Some, None, is_some, codes}
use Rattle.hc_value.specs.declared.prop.PropDesc.{PropDesc}
use Rattle.hc_commands.specs.Values.{WrittenValue, IsWrittenValue, IsGivenValue, value_word, boolean_word, maybe_value_of}
use Rattle.hc_commands.specs.Token.{IsAccessor, accessor_word}
use Rattle.hc_commands.specs.declared.definition.Key.{Key}
use Rattle.hc_commands.specs.declared.definition.Key.TheVariants.{Value, Writable, Getter, Setter, Enumerable, Configurable}

-- one field
pub data Given : Type 0 where
  given_value : WrittenValue → Given
  given_writable : Bool → Given
  given_getter : Option ℕ → Given
  given_setter : Option ℕ → Given
  given_enumerable : Bool → Given
  given_configurable : Bool → Given

abbrev pub IsGiven : Given → Type 0
IsGiven (given_value value) = IsWrittenValue value
IsGiven (given_writable b) = Unit {0}
IsGiven (given_getter f) = IsAccessor f
IsGiven (given_setter f) = IsAccessor f
IsGiven (given_enumerable b) = Unit {0}
IsGiven (given_configurable b) = Unit {0}

abbrev pub key_of : Given → Key
key_of (given_value value) = Value
key_of (given_writable b) = Writable
key_of (given_getter f) = Getter
key_of (given_setter f) = Setter
key_of (given_enumerable b) = Enumerable
key_of (given_configurable b) = Configurable

-- a field's word begins with this
abbrev pub key_word : Key → List ℕ
key_word Value = codes "value="
key_word Writable = codes "writable="
key_word Getter = codes "get="
key_word Setter = codes "set="
key_word Enumerable = codes "enumerable="
key_word Configurable = codes "configurable="

-- and ends with this
abbrev pub given_word : Given → List ℕ
given_word (given_value value) = value_word value
given_word (given_writable b) = boolean_word b
given_word (given_getter f) = accessor_word f
given_word (given_setter f) = accessor_word f
given_word (given_enumerable b) = boolean_word b
given_word (given_configurable b) = boolean_word b

abbrev pub field_word : Given → List ℕ
field_word given = key_word (key_of given) ++ given_word given

-- all fields, each of which may be absent
pub record Description : Type 0 where
  pub value : Option WrittenValue
  pub writable : Option Bool
  pub getter : Option (Option ℕ)
  pub setter : Option (Option ℕ)
  pub enumerable : Option Bool
  pub configurable : Option Bool

abbrev pub no_fields : Description
no_fields = record { value = None; writable = None; getter = None; setter = None; enumerable = None; configurable = None }

-- the field of a key is given
abbrev pub gives : Description → Key → Bool
gives d Value = is_some d.value
gives d Writable = is_some d.writable
gives d Getter = is_some d.getter
gives d Setter = is_some d.setter
gives d Enumerable = is_some d.enumerable
gives d Configurable = is_some d.configurable

abbrev pub with_given : Description → Given → Description
with_given d (given_value value) = record d { value = Some value }
with_given d (given_writable b) = record d { writable = Some b }
with_given d (given_getter f) = record d { getter = Some f }
with_given d (given_setter f) = record d { setter = Some f }
with_given d (given_enumerable b) = record d { enumerable = Some b }
with_given d (given_configurable b) = record d { configurable = Some b }

-- what stands behind a key gives its field
pub record Fills (before : Description) (key : Key) (rest : List ℕ) (after : Description) : Type 0 where
  pub given : Given
  pub key_is : key_of given ≡ key
  pub is_given : IsGiven given
  pub rest_is : rest ≡ given_word given
  pub after_is : after ≡ with_given before given

-- a word gives a field that wasn't given
pub record TakesField (before : Description) (word : List ℕ) (after : Description) : Type 0 where
  pub given : Given
  pub is_given : IsGiven given
  pub spelling : word ≡ field_word given
  pub new : gives before (key_of given) ≡ false
  pub after_is : after ≡ with_given before given

-- the words give one field after another, and with those before them these
abbrev pub Gives : Description → List (List ℕ) → Description → Type 0
Gives before [] all = all ≡ before
Gives before (word ∷ words) all = (next : Description) × TakesField before word next × Gives next words all

abbrev pub IsGivenAccessor : Option (Option ℕ) → Type 0
IsGivenAccessor None = Unit {0}
IsGivenAccessor (Some f) = IsAccessor f

-- values and functions in their ranges
pub record IsDescription (d : Description) : Type 0 where
  pub value : IsGivenValue d.value
  pub getter : IsGivenAccessor d.getter
  pub setter : IsGivenAccessor d.setter

-- a data property's field beside an accessor's
abbrev pub mixes_kinds : Description → Bool
mixes_kinds d = (is_some d.value || is_some d.writable) && (is_some d.getter || is_some d.setter)

-- the definition, with its text as its number
abbrev pub descriptor_of : List (List ℕ) → Description → PropDesc
descriptor_of names d = record {
  value = maybe_value_of names d.value;
  writable = d.writable;
  getter = d.getter;
  setter = d.setter;
  enumerable = d.enumerable;
  configurable = d.configurable;
}
