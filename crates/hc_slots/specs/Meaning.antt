-- What the words of an object with a map, and the dictionary of a slow one, say of it.
use Rattle.std.specs.Prelude.{◌≡◌, ◌≢◌, ◌⊎◌, ℕ, Bool, true, not, IsTrue, Option, Some, None, List}
use Rattle.hc_layout.specs.declared.words.GateWord.{GateWord}
use Rattle.hc_value.specs.declared.value.Value.{Value}
use Rattle.hc_value.specs.declared.value.Value.TheVariants.{Undefined}
use Rattle.hc_value.specs.declared.field.Constness.{Constness}
use Rattle.hc_value.specs.declared.field.Constness.TheVariants.{Const, Mutable}
use Rattle.hc_value.specs.declared.field.Rep.{Rep}
use Rattle.hc_value.specs.declared.field.Rep.TheVariants.{Smi, Wide, HeapObject, Tagged}
use Rattle.hc_value.specs.declared.field.Detail.{Detail}
use Rattle.hc_value.specs.declared.key.Key.{Key}
use Rattle.hc_value.specs.declared.prop.Held.{Held}
use Rattle.hc_value.specs.declared.prop.Held.TheVariants.{Datum, Pair}
use Rattle.hc_value.specs.declared.prop.Kind.{Kind}
use Rattle.hc_value.specs.declared.prop.Kind.TheVariants.{DataProp, AccessorProp}
use Rattle.hc_value.specs.declared.prop.Prop.{Prop}
use Rattle.hc_value.specs.Field.{is_within, rep_of}
use Rattle.hc_value.specs.Word.{unwide_of, untagged_of, unpair_of, integer_of}
use Rattle.hc_heap.specs.Writes.{Trail}
use Rattle.hc_heap.specs.Readings.{gate_in, prototype_in}
use Rattle.hc_descs.specs.Entries.{key_at, count_of, detail_at}
use Rattle.hc_table.specs.World.{Object, new_object}
use Rattle.hc_slots.specs.Listed.{listed}
pub use Rattle.hc_dict.specs.declared.dictionary.Dictionary.{Dictionary}
pub use Rattle.hc_heap.specs.Lawful.{slot_word}

-- a slow object
abbrev pub dictionary_object : Dictionary → Object
dictionary_object d = record { proto = d.proto; extensible = d.extensible; props = d.props }

-- a value, and undefined where a word gives none
abbrev pub datum_of : Option Value → Held
datum_of (Some value) = Datum value
datum_of None = Datum Undefined

-- a getter and a setter, and neither where a word gives no pair
abbrev pub pair_of : Option (Option ℕ × Option ℕ) → Held
pair_of (Some p) = Pair p.0 p.1
pair_of None = Pair None None

-- what the word of a slot holds: a pair for an accessor, an integer alone for a wide field, and else a value
abbrev pub held_in : Kind → Rep → ℕ → Held
held_in AccessorProp r w = pair_of (unpair_of w)
held_in DataProp Wide w = datum_of (integer_of (unwide_of w))
held_in DataProp Smi w = datum_of (untagged_of w)
held_in DataProp HeapObject w = datum_of (untagged_of w)
held_in DataProp Tagged w = datum_of (untagged_of w)

-- a field of this representation can hold so much: a wide one integers alone
abbrev pub MayHold : Rep → Held → Type 0
MayHold Wide (Datum v) = IsTrue (is_within (rep_of v) Wide)
MayHold Wide (Pair getter setter) = Unit {0}
MayHold Smi held = Unit {0}
MayHold HeapObject held = Unit {0}
MayHold Tagged held = Unit {0}

-- the constness that a field of a constness is asked for, where so much is held and this is to be: a constant field stays so
-- exactly where this is held already
abbrev pub IsConstnessFor : Constness → Held → Held → Constness → Type 0
IsConstnessFor so_far was held Const = was ≡ held
IsConstnessFor so_far was held Mutable = (so_far ≡ Mutable) ⊎ (was ≢ held)

-- a property without a key, which no open map has
abbrev pub no_property : Prop
no_property = record { name = 0; attrs = record { 0 = 0 }; held = Datum Undefined }

-- the property of an entry with this key, whose field admits so much, and whose slot has this word
abbrev pub prop_of : Option Key → Option Detail → ℕ → Prop
prop_of (Some key) (Some d) w = record { name = key.name; attrs = key.attrs; held = held_in key.kind d.rep w }
prop_of _ _ w = no_property

-- the property of a map's k-th entry, with the word of an object's k-th slot
abbrev pub prop_in : Trail → ℕ → ℕ → ℕ → Prop
prop_in t o m k = prop_of (key_at t m k) (detail_at t m k) (slot_word t o k)

-- the prototype that a map says
abbrev pub proto_of : Option (Option ℕ) → Option ℕ
proto_of (Some p) = p
proto_of None = None

-- whether objects of a map may get properties
abbrev pub is_extensible : Option GateWord → Bool
is_extensible (Some g) = not g.is_locked
is_extensible None = true

-- the properties of an object that has a map
abbrev pub fast_props : Trail → ℕ → ℕ → List Prop
fast_props t o m = listed (prop_in t o m) (count_of t m)

-- an object that has a map
abbrev pub fast_object : Trail → ℕ → ℕ → Object
fast_object t o m = record { proto = proto_of (prototype_in t m); extensible = is_extensible (gate_in t m); props = fast_props t o m }

-- an object with this map word that is kept so
abbrev pub object_shown : Trail → ℕ → Option Dictionary → Option ℕ → Object
object_shown t o (Some d) m = dictionary_object d
object_shown t o None (Some m) = fast_object t o m
object_shown t o None None = new_object None
