-- The text of a reply, as the script's user reads it.
use Rattle.std.specs.Prelude.{ℕ, Bool, true, false, not, List, [], ◌∷◌, ◌++◌, Option, Some, None, codes, map, slice_index_or, ◌==◌}
use Rattle.std.specs.Fmt.{decimal, signed_decimal}
use Rattle.std.specs.Int.RustNames.{bit_and}
use Rattle.hc_value.specs.Attrs.{bits_of}
use Rattle.hc_value.specs.declared.attrs.Attrs.{Attrs}
use Rattle.hc_value.specs.declared.value.Value.{Value}
use Rattle.hc_value.specs.declared.value.Value.TheVariants.{Undefined, Null, Bool as Boolean, Int, Text, Obj}
use Rattle.hc_value.specs.declared.prop.Held.{Held}
use Rattle.hc_value.specs.declared.prop.Held.TheVariants.{Datum, Pair}
use Rattle.hc_value.specs.declared.prop.Prop.{Prop}
use Rattle.hc_value.specs.declared.reply.Cause.{Cause}
use Rattle.hc_value.specs.declared.reply.Cause.TheVariants.{Deleted, Many, Reconfigured, Space}
use Rattle.hc_value.specs.declared.reply.Mode.{Mode}
use Rattle.hc_value.specs.declared.reply.Mode.TheVariants.{Fast, Slow}
use Rattle.hc_value.specs.declared.reply.Reply.{Reply}
use Rattle.hc_value.specs.declared.reply.Reply.TheVariants.{Object, Val, Call, CallWith, Flag, Property, NameList, Proto, Shape, Site, Job, Fine, Finished, NoObject, NoSite, NoJob, WrongSite, NoRoom, Full}

-- the text of a name's or a text's number
abbrev pub named : List (List ℕ) → ℕ → List ℕ
named names n = slice_index_or names n []

abbrev pub bool_text : Bool → List ℕ
bool_text true = codes "true"
bool_text false = codes "false"

-- an object by its number
abbrev pub object_text : ℕ → List ℕ
object_text o = codes "#" ++ decimal o

-- a value as a script writes it: a text stands in quotes
abbrev pub value_text : List (List ℕ) → Value → List ℕ
value_text names Undefined = codes "undefined"
value_text names Null = codes "null"
value_text names (Boolean b) = bool_text b
value_text names (Int integer) = signed_decimal integer
value_text names (Text text) = codes "\"" ++ named names text ++ codes "\""
value_text names (Obj o) = object_text o

-- a getter or a setter, if there is one
abbrev pub function_text : Option ℕ → List ℕ
function_text None = codes "undefined"
function_text (Some f) = codes "f" ++ decimal f

abbrev pub held_text : List (List ℕ) → Attrs → Held → List ℕ
held_text names attrs (Datum value) =
    codes "value=" ++ value_text names value ++ codes " writable=" ++ bool_text (not (bit_and (bits_of attrs) 1 == 1))
held_text names attrs (Pair getter setter) = codes "get=" ++ function_text getter ++ codes " set=" ++ function_text setter

-- a property as `own` shows it
abbrev pub property_text : List (List ℕ) → Option Prop → List ℕ
property_text names None = codes "undefined"
property_text names (Some p) =
    codes "{" ++ held_text names p.attrs p.held
    ++ codes " enumerable=" ++ bool_text (not (bit_and (bits_of p.attrs) 2 == 2))
    ++ codes " configurable=" ++ bool_text (not (bit_and (bits_of p.attrs) 4 == 4)) ++ codes "}"

-- words parted by spaces
abbrev pub spaced : List (List ℕ) → List ℕ
spaced [] = []
spaced (word ∷ []) = word
spaced (word ∷ next ∷ others) = word ++ codes " " ++ spaced (next ∷ others)

abbrev pub proto_text : Option ℕ → List ℕ
proto_text None = codes "null"
proto_text (Some o) = object_text o

abbrev pub cause_text : Cause → List ℕ
cause_text Deleted = codes "deleted"
cause_text Many = codes "many"
cause_text Reconfigured = codes "reconfigured"
cause_text Space = codes "space"

abbrev pub mode_text : Mode → List ℕ
mode_text (Fast n) = codes "fast " ++ decimal n
mode_text (Slow cause) = codes "slow " ++ cause_text cause

abbrev pub reply_text : List (List ℕ) → Reply → List ℕ
reply_text names (Object o) = object_text o
reply_text names (Val value) = value_text names value
reply_text names (Call f o) = codes "call f" ++ decimal f ++ codes " " ++ object_text o
reply_text names (CallWith f o value) =
    codes "call f" ++ decimal f ++ codes " " ++ object_text o ++ codes " " ++ value_text names value
reply_text names (Flag b) = bool_text b
reply_text names (Property property) = property_text names property
reply_text names (NameList list) = codes "[" ++ spaced (map (named names) list) ++ codes "]"
reply_text names (Proto proto) = proto_text proto
reply_text names (Shape mode) = mode_text mode
reply_text names (Site site) = codes "site " ++ decimal site
reply_text names (Job job) = codes "job " ++ decimal job
reply_text names Fine = codes "ok"
reply_text names Finished = codes "done"
reply_text names NoObject = codes "no object"
reply_text names NoSite = codes "no site"
reply_text names NoJob = codes "no job"
reply_text names WrongSite = codes "wrong site"
reply_text names NoRoom = codes "no room"
reply_text names Full = codes "full"

-- a reply line, with its newline
abbrev pub reply_line : List (List ℕ) → Reply → List ℕ
reply_line names reply = codes "= " ++ reply_text names reply ++ 10 ∷ []
