-- Each name and each text in a reply has its number among the names.
use Rattle.std.specs.Prelude.{ℕ, ◌<◌, All, IfSome}
use Rattle.hc_value.specs.declared.value.Value.{Value}
use Rattle.hc_value.specs.declared.value.Value.TheVariants.{Undefined, Null, Bool as Boolean, Int, Text, Obj}
use Rattle.hc_value.specs.declared.prop.Held.{Held}
use Rattle.hc_value.specs.declared.prop.Held.TheVariants.{Datum, Pair}
use Rattle.hc_value.specs.declared.reply.Reply.{Reply}
use Rattle.hc_value.specs.declared.reply.Reply.TheVariants.{Object, Val, Call, CallWith, Flag, Property, NameList, Proto, Shape, Site, Job, Fine, Finished, NoObject, NoSite, NoJob, WrongSite, NoRoom, Full}

-- the value's text has a number below this one
abbrev pub IsNamedValue : ℕ → Value → Type 0
IsNamedValue count (Text text) = text < count
IsNamedValue count Undefined = Unit {0}
IsNamedValue count Null = Unit {0}
IsNamedValue count (Boolean b) = Unit {0}
IsNamedValue count (Int integer) = Unit {0}
IsNamedValue count (Obj o) = Unit {0}

abbrev pub IsNamedHeld : ℕ → Held → Type 0
IsNamedHeld count (Datum value) = IsNamedValue count value
IsNamedHeld count (Pair getter setter) = Unit {0}

abbrev pub IsNamedReply : ℕ → Reply → Type 0
IsNamedReply count (Object o) = Unit {0}
IsNamedReply count (Val value) = IsNamedValue count value
IsNamedReply count (Call f o) = Unit {0}
IsNamedReply count (CallWith f o value) = IsNamedValue count value
IsNamedReply count (Flag b) = Unit {0}
IsNamedReply count (Property property) = IfSome property (λ p. IsNamedHeld count p.held)
IsNamedReply count (NameList list) = All (λ name. name < count) list
IsNamedReply count (Proto proto) = Unit {0}
IsNamedReply count (Shape mode) = Unit {0}
IsNamedReply count (Site site) = Unit {0}
IsNamedReply count (Job job) = Unit {0}
IsNamedReply count Fine = Unit {0}
IsNamedReply count Finished = Unit {0}
IsNamedReply count NoObject = Unit {0}
IsNamedReply count NoSite = Unit {0}
IsNamedReply count NoJob = Unit {0}
IsNamedReply count WrongSite = Unit {0}
IsNamedReply count NoRoom = Unit {0}
IsNamedReply count Full = Unit {0}
