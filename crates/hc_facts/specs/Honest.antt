-- What the detail of a field says of each object whose map has an entry on it.
use Rattle.std.specs.Prelude.{◌≡◌, ◌⊎◌, ℕ, ◌<◌, false, IsTrue, if◌then◌else◌, Option, Some, None}
use Rattle.hc_layout.specs.declared.words.GateWord.{GateWord}
use Rattle.hc_value.specs.Field.{is_class_within, is_detail_within, is_within, rep_of}
use Rattle.hc_value.specs.Word.{integer_of, untagged_of, unwide_of}
use Rattle.hc_value.specs.declared.field.Class.{Class}
use Rattle.hc_value.specs.declared.field.Class.TheVariants.{Of, Any}
use Rattle.hc_value.specs.declared.field.Constness.{Constness}
use Rattle.hc_value.specs.declared.field.Detail.{Detail}
use Rattle.hc_value.specs.declared.field.Rep.{Rep}
use Rattle.hc_value.specs.declared.field.Rep.TheVariants.{Smi, Wide, HeapObject, Tagged}
use Rattle.hc_value.specs.declared.key.Key.{Key}
use Rattle.hc_value.specs.declared.prop.Kind.TheVariants.{DataProp}
use Rattle.hc_value.specs.declared.value.Value.{Value}
use Rattle.hc_value.specs.declared.value.Value.TheVariants.{Undefined, Obj}
use Rattle.hc_heap.specs.Lawful.{slot_word}
use Rattle.hc_heap.specs.Readings.{gate_in, bits_in, detail_in, map_in}
use Rattle.hc_heap.specs.Writes.{Trail}
use Rattle.hc_descs.specs.Entries.{key_at, field_at}

-- Values

-- the class of an object with this map, or with none: its map, where that isn't unstable
abbrev pub class_by : Trail → Option ℕ → Class
class_by t (Some m) = if (bits_in t m).unstable then Any else Of m
class_by t None = Any

-- the class of a value: that of an object, and else any
abbrev pub class_of : Trail → Value → Class
class_of t (Obj o) = class_by t (map_in t o)
class_of t _ = Any

-- what a field has to admit for a value to be held there
abbrev pub detail_for : Trail → Value → Constness → Detail
detail_for t v c = record { rep = rep_of v; constness = c; class = class_of t v }

-- a value, and undefined where a word gives none
abbrev pub value_or : Option Value → Value
value_or (Some v) = v
value_or None = Undefined

-- the value that a slot's word has in a field of this representation
abbrev pub value_in : Rep → ℕ → Value
value_in Wide w = value_or (integer_of (unwide_of w))
value_in Smi w = value_or (untagged_of w)
value_in HeapObject w = value_or (untagged_of w)
value_in Tagged w = value_or (untagged_of w)

-- Fields

-- an object has a map, whose k-th entry is a data property with this field
pub record HasDatum (t : Trail) (o m k f : ℕ) : Type 0 where
  pub has : map_in t o ≡ Some m
  pub gate : GateWord
  pub is_open : gate_in t m ≡ Some gate
  pub within : k < gate.entries
  pub key : Key
  pub is_key : key_at t m k ≡ Some key
  pub datum : key.kind ≡ DataProp
  pub field : field_at t m k ≡ Some f

-- a value is an object with this map
abbrev pub IsObjectOf : Trail → ℕ → Value → Type 0
IsObjectOf t c (Obj q) = map_in t q ≡ Some c
IsObjectOf t c _ = ⊥

-- a field's detail says true of a value: the value is of the representation, and an object of the class as long as the class's
-- map isn't unstable
pub record IsTrueOf (t : Trail) (d : Detail) (v : Value) : Type 0 where
  pub rep : IsTrue (is_within (rep_of v) d.rep)
  pub class : (c : ℕ) → d.class ≡ Of c → (bits_in t c).unstable ≡ false → IsObjectOf t c v

-- the details of the fields of an object's map say true of the object's values
abbrev pub IsHonestFor : Trail → ℕ → Type 0
IsHonestFor t o = (m k f : ℕ) (d : Detail) → HasDatum t o m k f → detail_in t f ≡ Some d → IsTrueOf t d (value_in d.rep (slot_word t o k))

-- the details of all fields say true of all objects
abbrev pub IsHonest : Trail → Type 0
IsHonest t = (o : ℕ) → IsHonestFor t o

-- Changes

-- a value was there before, at an entry of the object whose field admitted no more
pub record IsCarried (old new : Trail) (o k : ℕ) (d : Detail) : Type 0 where
  pub map : ℕ
  pub place : ℕ
  pub field : ℕ
  pub detail : Detail
  pub was : HasDatum old o map place field
  pub admits : detail_in old field ≡ Some detail
  pub within : IsTrue (is_detail_within detail d)
  pub same : value_in d.rep (slot_word new o k) ≡ value_in detail.rep (slot_word old o place)

-- a value was given, and the field admits what the value was before
pub record IsGiven (old new : Trail) (o k : ℕ) (d : Detail) : Type 0 where
  pub value : Value
  pub is : value_in d.rep (slot_word new o k) ≡ value
  pub rep : IsTrue (is_within (rep_of value) d.rep)
  pub class : IsTrue (is_class_within (class_of old value) d.class)

-- each value of an object was there before, or was given
abbrev pub IsFilled : Trail → Trail → ℕ → Type 0
IsFilled old new o = (m k f : ℕ) (d : Detail) → HasDatum new o m k f → detail_in new f ≡ Some d → IsCarried old new o k d ⊎ IsGiven old new o k d
