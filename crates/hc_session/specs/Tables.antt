-- What commands do to property tables.
use Rattle.std.specs.Prelude.{◌≡◌, ℕ, Bool, true, false, ◌&&◌, length, Option, Some, None, if◌then◌else◌, ◌==◌, nat_lt}
use Rattle.hc_value.specs.declared.reply.Reply.{Reply}
use Rattle.hc_value.specs.declared.reply.Reply.TheVariants.{Object, Flag, NoObject, Full, Proto as Prototype, Shape as HowKept}
use Rattle.hc_value.specs.declared.value.Value.{Value}
use Rattle.hc_value.specs.declared.value.Value.TheVariants.{Undefined, Null, Bool as Boolean, Int, Text, Obj}
use Rattle.hc_value.specs.declared.word.TheConstants.{TEXT_LIMIT}
use Rattle.hc_table.specs.Changes.{Did, Nothing, Created, after}
use Rattle.hc_table.specs.Kept.{Kept as Tables, with_world}
use Rattle.hc_table.specs.World.{World, object}
use Rattle.hc_ops.specs.Act.{Act}
use Rattle.hc_ops.specs.Define.{define_act}
use Rattle.hc_ops.specs.Delete.{delete_act}
use Rattle.hc_ops.specs.Found.{own_reply}
use Rattle.hc_ops.specs.Get.{get_reply}
use Rattle.hc_ops.specs.Has.{has_reply}
use Rattle.hc_ops.specs.Integrity.{set_proto_act, lock_act, seal_act, freeze_act}
use Rattle.hc_ops.specs.Keys.{keys_reply}
use Rattle.hc_ops.specs.Set.{set_act}
use Rattle.hc_commands.specs.Numbers.{IsCommandBelow}
use Rattle.hc_commands.specs.Verbs.{is_built}
use Rattle.hc_commands.specs.declared.command.Command.{Command}
use Rattle.hc_commands.specs.declared.command.Command.TheVariants.{New, Get, Set, Define, Has, Own, Delete, Keys, Proto, SetProto, Extensible, Lock, Seal, Freeze, Shape, Same, Declare, Exec, Compile, Step, Finish}

-- Which objects are there

-- an object of this number is one of so many
abbrev pub is_among : ℕ → ℕ → Bool
is_among count o = nat_lt o count

-- the object that a value names is, if it names one
abbrev pub names_among : ℕ → Value → Bool
names_among count Undefined = true
names_among count Null = true
names_among count (Boolean b) = true
names_among count (Int integer) = true
names_among count (Text text) = true
names_among count (Obj o) = is_among count o

-- the same of a value that a definition may give, and of a prototype
abbrev pub given_among : ℕ → Option Value → Bool
given_among count None = true
given_among count (Some value) = names_among count value

abbrev pub proto_among : ℕ → Option ℕ → Bool
proto_among count None = true
proto_among count (Some o) = is_among count o

-- each object that a command names is one of so many
abbrev pub all_among : ℕ → Command → Bool
all_among count (New proto) = proto_among count proto
all_among count (Get o name) = is_among count o
all_among count (Set o name value) = is_among count o && names_among count value
all_among count (Define o name d) = is_among count o && given_among count d.value
all_among count (Has o name) = is_among count o
all_among count (Own o name) = is_among count o
all_among count (Delete o name) = is_among count o
all_among count (Keys o) = is_among count o
all_among count (Proto o) = is_among count o
all_among count (SetProto o proto) = is_among count o && proto_among count proto
all_among count (Extensible o) = is_among count o
all_among count (Lock o) = is_among count o
all_among count (Seal o) = is_among count o
all_among count (Freeze o) = is_among count o
all_among count (Shape o) = is_among count o
all_among count (Same a b) = is_among count a && is_among count b
all_among count command = true

-- the objects and the limit of tables
abbrev pub tables_in : {T : Type 0} → (T → World) → (T → ℕ) → T → Tables
tables_in world limit tables = record { world = world tables; limit = limit tables }

-- each object that a command names is there
abbrev pub all_there : Tables → Command → Bool
all_there tables command = all_among (length tables.world) command

-- What a command comes to

-- a reply, and nothing is done
abbrev pub says : Reply → Act
says reply = record { reply = reply; did = Nothing }

-- a new object of the next number, as long as the limit isn't reached
abbrev pub new_act : Tables → Option ℕ → Act
new_act tables proto =
    if length tables.world == tables.limit
    then says Full
    else record { reply = Object (length tables.world); did = Created proto }

-- what a command comes to where each object that it names is there, by the standard's operations. How an object is kept is
-- nothing that tables tell
abbrev pub act_there : Tables → Command → Option Act
act_there tables (New proto) = Some (new_act tables proto)
act_there tables (Get o name) = Some (says (get_reply tables.world o name))
act_there tables (Set o name value) = Some (set_act tables.world o name value)
act_there tables (Define o name d) = Some (define_act tables.world o name d)
act_there tables (Has o name) = Some (says (has_reply tables.world o name))
act_there tables (Own o name) = Some (says (own_reply tables.world o name))
act_there tables (Delete o name) = Some (delete_act tables.world o name)
act_there tables (Keys o) = Some (says (keys_reply tables.world o))
act_there tables (Proto o) = Some (says (Prototype (object tables.world o).proto))
act_there tables (SetProto o proto) = Some (set_proto_act tables.world o proto)
act_there tables (Extensible o) = Some (says (Flag (object tables.world o).extensible))
act_there tables (Lock o) = Some (lock_act tables.world o)
act_there tables (Seal o) = Some (seal_act o)
act_there tables (Freeze o) = Some (freeze_act o)
act_there tables command = None

-- what a command comes to: the reply says so where an object isn't there
abbrev pub act_of : Tables → Command → Option Act
act_of tables command = if all_there tables command then act_there tables command else Some (says NoObject)

-- a reply of how objects are kept
abbrev pub IsHowKept : Command → Reply → Type 0
IsHowKept (Shape o) (HowKept mode) = Unit {0}
IsHowKept (Same a b) (Flag same) = Unit {0}
IsHowKept command reply = ⊥

abbrev pub IsReplyOf : Command → Option Act → Reply → Type 0
IsReplyOf command (Some act) reply = reply ≡ act.reply
IsReplyOf command None reply = IsHowKept command reply

-- the one change that is made, if any
abbrev pub did_in : Option Act → Did
did_in None = Nothing
did_in (Some act) = act.did

abbrev pub did_by : Tables → Command → Did
did_by tables command = did_in (act_of tables command)

-- a command may be answered so by property tables, and leave these
pub record AnswersOnTables (old : Tables) (command : Command) (reply : Reply) (new : Tables) : Type 0 where
  pub reply_is : IsReplyOf command (act_of old command) reply
  pub tables_are : new ≡ with_world old (after (did_by old command) old.world)

-- the commands that tables tell all of: those that are built, but for those that ask how objects are kept, and of sites and jobs
abbrev pub is_on_tables : Command → Bool
is_on_tables (Shape o) = false
is_on_tables (Same a b) = false
is_on_tables (Declare op name) = false
is_on_tables (Exec s o value) = false
is_on_tables (Compile s) = false
is_on_tables (Step j reads) = false
is_on_tables (Finish j) = false
is_on_tables command = is_built command

abbrev pub IsOnTables : Command → Type 0
IsOnTables command = is_on_tables command ≡ true

-- names and texts have numbers that a word can hold, and a definition is one that may be made
abbrev pub HasNumbers : Command → Type 0
HasNumbers command = IsCommandBelow TEXT_LIMIT command
