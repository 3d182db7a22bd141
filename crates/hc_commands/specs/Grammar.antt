-- The forms of a command line, each with its words.
use Rattle.std.specs.Prelude.{◌≡◌, ℕ, ◌<◌, ◌^◌, Bool, true, false, List, [], ◌∷◌, Option, Some, None}
use Rattle.std.specs.Fmt.{decimal}
use Rattle.hc_names.specs.Names.{number_of, with_text}
use Rattle.hc_commands.specs.Values.{IsName, WrittenValue, IsWrittenValue, IsGivenValue, object_word, value_word, value_of, names_behind, maybe_value_of, names_behind_maybe}
use Rattle.hc_commands.specs.Token.{IsPrototype, prototype_word, op_word, AreReads, reads_word, IsDistance}
use Rattle.hc_commands.specs.Definition.{Description, IsDescription, mixes_kinds, no_fields, Gives, descriptor_of}
use Rattle.hc_commands.specs.Verbs.{verb_word}
use Rattle.hc_plan.specs.declared.case.Op.{Op}
use Rattle.hc_commands.specs.declared.command.Reads.{Reads}
use Rattle.hc_commands.specs.declared.command.Reads.TheVariants.{Count}
use Rattle.hc_commands.specs.declared.command.Command.{Command}
use Rattle.hc_commands.specs.declared.command.Command.TheVariants.{New as NewCommand, Get as GetCommand, Set as SetCommand, Define as DefineCommand, Has as HasCommand, Own as OwnCommand, Delete as DeleteCommand, Keys as KeysCommand, Proto as ProtoCommand, SetProto as SetProtoCommand, Extensible as ExtensibleCommand, Lock as LockCommand, Seal as SealCommand, Freeze as FreezeCommand, Shape as ShapeCommand, Same as SameCommand, Declare as DeclareCommand, Exec as ExecCommand, Compile as CompileCommand, Step as StepCommand, During as DuringCommand, Finish as FinishCommand}
use Rattle.hc_commands.specs.declared.verb.PropertyVerb.{PropertyVerb}
use Rattle.hc_commands.specs.declared.verb.PropertyVerb.TheVariants.{Get, Has, Own, Delete}
use Rattle.hc_commands.specs.declared.verb.ObjectVerb.{ObjectVerb}
use Rattle.hc_commands.specs.declared.verb.ObjectVerb.TheVariants.{Keys, Proto, Extensible, Lock, Seal, Freeze, Shape}
use Rattle.hc_commands.specs.declared.verb.Verb.{Verb}
use Rattle.hc_commands.specs.declared.verb.Verb.TheVariants.{New, SetProto, OfProperty, Set, Define, OfObject, Same, Site, Exec, Compile, Step, During, Finish}

-- a command as its line has it, with names as their texts
pub data Form : Type 0 where
  new_object : Option ℕ → Form
  link_prototype : ℕ → Option ℕ → Form
  ask_property : PropertyVerb → ℕ → List ℕ → Form
  set_value : ℕ → List ℕ → WrittenValue → Form
  define_property : ℕ → List ℕ → Description → Form
  ask_object : ObjectVerb → ℕ → Form
  compare_objects : ℕ → ℕ → Form
  declare_site : Op → List ℕ → Form
  execute_site : ℕ → ℕ → Option WrittenValue → Form
  compile_site : ℕ → Form
  step_job : ℕ → Reads → Form
  step_during : ℕ → ℕ → Reads → Form
  finish_job : ℕ → Form

abbrev pub verb_of : Form → Verb
verb_of (new_object proto) = New
verb_of (link_prototype o proto) = SetProto
verb_of (ask_property verb o name) = OfProperty verb
verb_of (set_value o name value) = Set
verb_of (define_property o name d) = Define
verb_of (ask_object verb o) = OfObject verb
verb_of (compare_objects o p) = Same
verb_of (declare_site op name) = Site
verb_of (execute_site s o value) = Exec
verb_of (compile_site s) = Compile
verb_of (step_job j reads) = Step
verb_of (step_during c j reads) = During
verb_of (finish_job j) = Finish

-- the command of this form is built
abbrev pub is_built_form : Form → Bool
is_built_form (step_job j (Count n)) = false
is_built_form (step_during c j reads) = false
is_built_form form = true

-- numbers, names and values in their ranges; a definition is of one kind at most
abbrev pub IsForm : Form → Type 0
IsForm (new_object proto) = IsPrototype proto
IsForm (link_prototype o proto) = (o < 2 ^ 32) × IsPrototype proto
IsForm (ask_property verb o name) = (o < 2 ^ 32) × IsName name
IsForm (set_value o name value) = (o < 2 ^ 32) × IsName name × IsWrittenValue value
IsForm (define_property o name d) = (o < 2 ^ 32) × IsName name × IsDescription d × (mixes_kinds d ≡ false)
IsForm (ask_object verb o) = o < 2 ^ 32
IsForm (compare_objects o p) = (o < 2 ^ 32) × (p < 2 ^ 32)
IsForm (declare_site op name) = IsName name
IsForm (execute_site s o value) = (s < 2 ^ 32) × (o < 2 ^ 32) × IsGivenValue value
IsForm (compile_site s) = s < 2 ^ 32
IsForm (step_job j reads) = (j < 2 ^ 32) × AreReads reads
IsForm (step_during c j reads) = IsDistance c × (j < 2 ^ 32) × AreReads reads
IsForm (finish_job j) = j < 2 ^ 32

-- the words of a value that may be given
abbrev pub given_words : Option WrittenValue → List (List ℕ)
given_words None = []
given_words (Some value) = value_word value ∷ []

-- the words behind the first one; a definition's fields stand in any order
abbrev pub AreParts : Form → List (List ℕ) → Type 0
AreParts (new_object proto) words = words ≡ prototype_word proto ∷ []
AreParts (link_prototype o proto) words = words ≡ object_word o ∷ prototype_word proto ∷ []
AreParts (ask_property verb o name) words = words ≡ object_word o ∷ name ∷ []
AreParts (set_value o name value) words = words ≡ object_word o ∷ name ∷ value_word value ∷ []
AreParts (define_property o name d) words =
    (fields : List (List ℕ)) × (words ≡ object_word o ∷ name ∷ fields) × Gives no_fields fields d
AreParts (ask_object verb o) words = words ≡ object_word o ∷ []
AreParts (compare_objects o p) words = words ≡ object_word o ∷ object_word p ∷ []
AreParts (declare_site op name) words = words ≡ op_word op ∷ name ∷ []
AreParts (execute_site s o value) words = words ≡ decimal s ∷ object_word o ∷ given_words value
AreParts (compile_site s) words = words ≡ decimal s ∷ []
AreParts (step_job j reads) words = words ≡ decimal j ∷ reads_word reads ∷ []
AreParts (step_during c j reads) words = words ≡ decimal c ∷ decimal j ∷ reads_word reads ∷ []
AreParts (finish_job j) words = words ≡ decimal j ∷ []

-- the words of a command
pub record IsSpelled (form : Form) (words : List (List ℕ)) : Type 0 where
  pub parts : List (List ℕ)
  pub words_are : words ≡ verb_word (verb_of form) ∷ parts
  pub are_parts : AreParts form parts

-- the words of no command
abbrev pub HaveNoForm : List (List ℕ) → Type 0
HaveNoForm words = (form : Form) → IsForm form → IsSpelled form words → ⊥

abbrev pub property_command : PropertyVerb → ℕ → ℕ → Command
property_command Get o name = GetCommand o name
property_command Has o name = HasCommand o name
property_command Own o name = OwnCommand o name
property_command Delete o name = DeleteCommand o name

abbrev pub object_command : ObjectVerb → ℕ → Command
object_command Keys o = KeysCommand o
object_command Proto o = ProtoCommand o
object_command Extensible o = ExtensibleCommand o
object_command Lock o = LockCommand o
object_command Seal o = SealCommand o
object_command Freeze o = FreezeCommand o
object_command Shape o = ShapeCommand o

-- the command, with its names as their numbers: they are interned from left to right
abbrev pub command_of : List (List ℕ) → Form → Command
command_of names (new_object proto) = NewCommand proto
command_of names (link_prototype o proto) = SetProtoCommand o proto
command_of names (ask_property verb o name) = property_command verb o (number_of names name)
command_of names (set_value o name value) = SetCommand o (number_of names name) (value_of (with_text names name) value)
command_of names (define_property o name d) =
    DefineCommand o (number_of names name) (descriptor_of (with_text names name) d)
command_of names (ask_object verb o) = object_command verb o
command_of names (compare_objects o p) = SameCommand o p
command_of names (declare_site op name) = DeclareCommand op (number_of names name)
command_of names (execute_site s o value) = ExecCommand s o (maybe_value_of names value)
command_of names (compile_site s) = CompileCommand s
command_of names (step_job j reads) = StepCommand j reads
command_of names (step_during c j reads) = DuringCommand c j reads
command_of names (finish_job j) = FinishCommand j

-- the names after it
abbrev pub names_after : List (List ℕ) → Form → List (List ℕ)
names_after names (ask_property verb o name) = with_text names name
names_after names (set_value o name value) = names_behind (with_text names name) value
names_after names (define_property o name d) = names_behind_maybe (with_text names name) d.value
names_after names (declare_site op name) = with_text names name
names_after names (execute_site s o value) = names_behind_maybe names value
names_after names (new_object proto) = names
names_after names (link_prototype o proto) = names
names_after names (ask_object verb o) = names
names_after names (compare_objects o p) = names
names_after names (compile_site s) = names
names_after names (step_job j reads) = names
names_after names (step_during c j reads) = names
names_after names (finish_job j) = names
