-- Commands keep that each name and each text in the objects has its number among the names, and so have their replies.
use Rattle.std.proofs.Common.{◌≡◌, ℕ, ◌<◌, ◌≤◌, Bool, true, false, ◌&&◌, List, [], ◌∷◌, length, refl, ap, arith, Option, Some, None}
use Rattle.std.specs.Prelude.{◌==◌, if◌then◌else◌, IfSome, is_some, slice_get}
use Rattle.hc_names.specs.declared.TheConstants.{MAX_NAMES}
use Rattle.hc_value.specs.declared.prop.Held.{Held}
use Rattle.hc_value.specs.declared.prop.Held.TheVariants.{Datum, Pair}
use Rattle.hc_value.specs.declared.prop.Prop.{Prop}
use Rattle.hc_value.specs.declared.reply.Reply.{Reply}
use Rattle.hc_value.specs.declared.reply.Reply.TheVariants.{Fine, Finished, Flag, Job, NoJob, NoObject, NoRoom, NoSite, WrongSite, Shape as HowKept}
use Rattle.hc_value.specs.declared.value.Value.{Value}
use Rattle.hc_value.specs.declared.value.Value.TheVariants.{Undefined, Null, Bool as Boolean, Int, Text, Obj}
use Rattle.hc_value.specs.declared.word.TheConstants.{TEXT_LIMIT}
use Rattle.hc_table.specs.Changes.{after}
use Rattle.hc_table.specs.Kept.{Kept as Tables}
use Rattle.hc_table.specs.World.{World, props_at}
use Rattle.hc_ops.specs.Act.{Act}
use Rattle.hc_commands.specs.Numbers.{IsValueBelow, IsGivenBelow, IsCommandBelow}
use Rattle.hc_commands.specs.declared.command.Command.{Command}
use Rattle.hc_commands.specs.declared.command.Command.TheVariants.{New, Get, Set, Define, Has, Own, Delete, Keys, Proto, SetProto, Extensible, Lock, Seal, Freeze, Shape, Same, Declare, Exec, Compile, Step, Finish}
use Rattle.hc_report.specs.Named.{IsNamedHeld, IsNamedReply}
use Rattle.hc_session.specs.Named.{AreNamedProps, IsNamedWorld}
use Rattle.hc_plan.specs.declared.case.Op.{Op}
use Rattle.hc_plan.specs.declared.case.Op.TheVariants.{Load, Store}
use Rattle.hc_plan.specs.declared.case.Site.{Site}
use Rattle.hc_session.specs.Plain.{Answer, AnswersPlainly, PlainState, access_act, act_in, exec_act, has_room, is_opened}
use Rattle.hc_session.specs.Serving.{AreNamedSites}
use Rattle.hc_session.specs.Tables.{HasNumbers, IsHowKept, IsReplyOf, act_of, act_there, all_there, did_in, is_among, names_among, says}
use Rattle.hc_session.proofs.NamedActs.{IsNamedAct, either_act, defined_named, deleted_named, linked_named, locked_named}
use Rattle.hc_session.proofs.NamedChanges.{after_named}
use Rattle.hc_session.proofs.NamedReplies.{get_named, own_named, keys_named}
use Rattle.hc_session.proofs.NamedValues.{named_kept}
use Rattle.hc_session.proofs.NamedWrites.{set_named}

-- more names keep it
pub value_kept : (count more : ℕ) (value : Value) → count ≤ more → IsValueBelow count value → IsValueBelow more value
value_kept count more (Text text) grows named = omega (arith, grows, named)
value_kept count more Undefined grows named = tt
value_kept count more Null grows named = tt
value_kept count more (Boolean b) grows named = tt
value_kept count more (Int integer) grows named = tt
value_kept count more (Obj o) grows named = tt

given_kept : (count more : ℕ) (value : Option Value) → count ≤ more → IsGivenBelow count value → IsGivenBelow more value
given_kept count more None grows named = tt
given_kept count more (Some value) grows named = value_kept count more value grows named

-- among the names there are, numbers are such that a word can hold them
command_kept : (count more : ℕ) (command : Command) → count ≤ more → IsCommandBelow count command → IsCommandBelow more command
command_kept count more (Get o name) grows named = omega arith
command_kept count more (Set o name value) grows named = (omega (arith, named.0), value_kept count more value grows named.1)
command_kept count more (Define o name d) grows named = (
  omega (arith, named.0),
  record {
    value = given_kept count more d.value grows named.1.value;
    getter = named.1.getter;
    setter = named.1.setter;
    one_kind = named.1.one_kind;
  },
)
command_kept count more (Has o name) grows named = omega arith
command_kept count more (Own o name) grows named = omega arith
command_kept count more (Delete o name) grows named = omega arith
command_kept count more (Declare op name) grows named = omega arith
command_kept count more (Exec s o value) grows named = given_kept count more value grows named
command_kept count more command grows named = tt

pub numbers_held : (count : ℕ) (command : Command) → count ≤ MAX_NAMES → IsCommandBelow count command → HasNumbers command
numbers_held count command few named = command_kept count TEXT_LIMIT command (omega arith) named

held_kept : (count more : ℕ) (held : Held) → count ≤ more → IsNamedHeld count held → IsNamedHeld more held
held_kept count more (Datum value) grows named = named_kept count more value grows named
held_kept count more (Pair getter setter) grows named = tt

props_kept : (count more : ℕ) (ps : List Prop) → count ≤ more → AreNamedProps count ps → AreNamedProps more ps
props_kept count more [] grows named = tt
props_kept count more (p ∷ ps) grows named = (
  record { name = omega (arith, named.0.name); held = held_kept count more p.held grows named.0.held },
  props_kept count more ps grows named.1,
)

pub world_kept : (count more : ℕ) (w : World) → count ≤ more → IsNamedWorld count w → IsNamedWorld more w
world_kept count more w grows named o = props_kept count more (props_at w o) grows (named o)

-- what a command comes to has such names and texts alone
abbrev AreNamedActs : ℕ → Option Act → Type 0
AreNamedActs count act = IfSome act (λ a. IsNamedAct count a)

either_asked : (count : ℕ) (b : Bool) (x y : Option Act) → AreNamedActs count x → AreNamedActs count y → AreNamedActs count (if b then x else y)
either_asked count true x y first second = first
either_asked count false x y first second = second

there_named : (count : ℕ) (tables : Tables) (command : Command) → IsNamedWorld count tables.world → IsCommandBelow count command → AreNamedActs count (act_there tables command)
there_named count tables (New proto) named of_command = either_act count (length tables.world == tables.limit) _ _ (tt, tt) (tt, tt)
there_named count tables (Get o name) named of_command = (get_named count tables.world o name named, tt)
there_named count tables (Set o name value) named of_command = set_named count tables.world o name value of_command.0 of_command.1
there_named count tables (Define o name d) named of_command = defined_named count tables.world o name d named of_command.0 of_command.1.value
there_named count tables (Has o name) named of_command = (tt, tt)
there_named count tables (Own o name) named of_command = (own_named count tables.world o name named, tt)
there_named count tables (Delete o name) named of_command = deleted_named count tables.world o name
there_named count tables (Keys o) named of_command = (keys_named count tables.world o named, tt)
there_named count tables (Proto o) named of_command = (tt, tt)
there_named count tables (SetProto o proto) named of_command = linked_named count tables.world o proto
there_named count tables (Extensible o) named of_command = (tt, tt)
there_named count tables (Lock o) named of_command = locked_named count tables.world o
there_named count tables (Seal o) named of_command = (tt, tt)
there_named count tables (Freeze o) named of_command = (tt, tt)
there_named count tables command named of_command = tt

act_named : (count : ℕ) (tables : Tables) (command : Command) → IsNamedWorld count tables.world → IsCommandBelow count command → AreNamedActs count (act_of tables command)
act_named count tables command named of_command =
    either_asked count (all_there tables command) _ _ (there_named count tables command named of_command) (tt, tt)

-- a reply that says how objects are kept shows no name
kept_shown : (count : ℕ) (command : Command) (reply : Reply) → IsHowKept command reply → IsNamedReply count reply
kept_shown count (Shape o) (HowKept mode) how = tt
kept_shown count (Same a b) (Flag same) how = tt
kept_shown count command reply how = absurd how

reply_shown : (count : ℕ) (command : Command) (act : Option Act) (reply : Reply) → AreNamedActs count act → IsReplyOf command act reply → IsNamedReply count reply
reply_shown count command (Some act) reply named is = rw is named.0
reply_shown count command None reply named is = kept_shown count command reply is

change_named : (count : ℕ) (act : Option Act) (w : World) → AreNamedActs count act → IsNamedWorld count w → IsNamedWorld count (after (did_in act) w)
change_named count (Some act) w of_act named = after_named count act.did w of_act.1 named
change_named count None w of_act named = named

-- an access
says_named : (count : ℕ) (reply : Reply) → IsNamedReply count reply → IsNamedAct count (says reply)
says_named count reply named = (named, tt)

access_named : (count : ℕ) (tables : Tables) (op : Op) (name o : ℕ) (value : Option Value) → IsNamedWorld count tables.world → name < count → IsGivenBelow count value → IsNamedAct count (access_act tables op name o value)
access_named count tables Load name o None named of_name of_value = either_act count (is_among (length tables.world) o) _ _ (says_named count _ (get_named count tables.world o name named)) (says_named count NoObject tt)
access_named count tables Store name o (Some v) named of_name of_value = either_act count (is_among (length tables.world) o && names_among (length tables.world) v) _ _ (set_named count tables.world o name v of_name of_value) (says_named count NoObject tt)
access_named count tables Load name o (Some v) named of_name of_value = says_named count WrongSite tt
access_named count tables Store name o None named of_name of_value = says_named count WrongSite tt

exec_named : (count : ℕ) (tables : Tables) (o : ℕ) (value : Option Value) (site : Option Site) → IsNamedWorld count tables.world → IfSome site (λ x. x.name < count) → IsGivenBelow count value → IsNamedAct count (exec_act tables site o value)
exec_named count tables o value None named of_site of_value = says_named count NoSite tt
exec_named count tables o value (Some site) named of_site of_value = access_named count tables site.op site.name o value named of_site of_value

site_named : (count : ℕ) (sites : List Site) (s : ℕ) (site : Option Site) → slice_get sites s ≡ site → AreNamedSites count sites → IfSome site (λ x. x.name < count)
site_named count sites s None is named = tt
site_named count sites s (Some site) is named = named s site is

-- a command of jobs
compile_shown : (count n : ℕ) (there room : Bool) → IsNamedReply count (if there then (if room then Job n else NoRoom) else NoSite)
compile_shown count n true true = tt
compile_shown count n true false = tt
compile_shown count n false room = tt

job_shown : (count : ℕ) (there : Bool) (reply : Reply) → IsNamedReply count reply → IsNamedReply count (if there then reply else NoJob)
job_shown count true reply named = named
job_shown count false reply named = tt

in_named : (count : ℕ) (plain : PlainState) (command : Command) → IsNamedWorld count plain.tables.world → AreNamedSites count plain.sites → IsCommandBelow count command → AreNamedActs count (act_in plain command)
in_named count plain (Declare op name) named sites of_command = (tt, tt)
in_named count plain (Exec s o value) named sites of_command = exec_named count plain.tables o value (slice_get plain.sites s) named (site_named count plain.sites s (slice_get plain.sites s) refl sites) of_command
in_named count plain (Compile s) named sites of_command = says_named count _ (compile_shown count plain.jobs.started (is_some (slice_get plain.sites s)) (has_room plain.jobs))
in_named count plain (Step j reads) named sites of_command = says_named count _ (job_shown count (is_opened plain.jobs.opened j) Fine tt)
in_named count plain (Finish j) named sites of_command = says_named count _ (job_shown count (is_opened plain.jobs.opened j) Finished tt)
in_named count plain command named sites of_command = act_named count plain.tables command named of_command

-- a command whose names and texts are among the names: its reply can be shown, and the objects keep such names and texts
pub replies_show : (count : ℕ) (old : PlainState) (command : Command) (answer : Answer) (new : PlainState) → AnswersPlainly old command answer new → IsNamedWorld count old.tables.world → AreNamedSites count old.sites → IsCommandBelow count command → IsNamedReply count answer.reply
replies_show count old command answer new answers named sites of_command =
    reply_shown count command (act_in old command) answer.reply (in_named count old command named sites of_command) answers.reply_is

pub tables_keep : (count : ℕ) (old : PlainState) (command : Command) (answer : Answer) (new : PlainState) → AnswersPlainly old command answer new → IsNamedWorld count old.tables.world → AreNamedSites count old.sites → IsCommandBelow count command → IsNamedWorld count new.tables.world
tables_keep count old command answer new answers named sites of_command =
    rw (ap (λ (t : Tables). t.world) answers.tables_are) (change_named count (act_in old command) old.tables.world (in_named count old command named sites of_command) named)

-- more names keep the names of sites
pub sites_kept : (count more : ℕ) (sites : List Site) → count ≤ more → AreNamedSites count sites → AreNamedSites more sites
sites_kept count more sites grows named n site is = omega (arith, grows, named n site is)
