-- What the code keeps of a line, as a form.
use Rattle.std.specs.Prelude.{◌≡◌, ℕ, ◌<◌, ◌^◌, List, [], ◌∷◌, Option, Some, None, false}
use Rattle.std.specs.Fmt.{decimal}
use Rattle.hc_plan.specs.declared.case.Op.{Op}
use Rattle.hc_commands.specs.declared.command.Reads.{Reads}
use Rattle.hc_commands.specs.declared.definition.Definition.{Definition}
use Rattle.hc_commands.specs.declared.grammar.Request.{Request}
use Rattle.hc_commands.specs.declared.grammar.Request.TheVariants.{NewObject, LinkPrototype, AskProperty, SetValue, DefineProperty, AskObject, CompareObjects, DeclareSite, ExecuteSite, CompileSite, StepJob, StepDuring, FinishJob}
use Rattle.hc_commands.specs.declared.written.Written.{Written}
use Rattle.hc_commands.specs.declared.written.Written.TheVariants.{Undefined, Null, Boolean, Integer, Text, Object}
use Rattle.hc_commands.specs.declared.verb.Verb.{Verb}
use Rattle.hc_commands.specs.declared.verb.Verb.TheVariants.{New, SetProto, OfProperty, Set, Define, OfObject, Same, Site, Exec, Compile, Step, During, Finish}
use Rattle.hc_commands.specs.Values.{IsName, WrittenValue, IsWrittenValue, IsGivenValue, written_undefined, written_null, written_boolean, written_integer, written_text, written_object, object_word, value_word}
use Rattle.hc_commands.specs.Token.{IsPrototype, prototype_word, op_word, AreReads, reads_word, IsDistance}
use Rattle.hc_commands.specs.Definition.{Description, mixes_kinds, no_fields, Gives}
use Rattle.hc_commands.specs.Grammar.{Form, new_object, link_prototype, ask_property, set_value, define_property, ask_object, compare_objects, declare_site, execute_site, compile_site, step_job, step_during, finish_job, verb_of, IsForm, AreParts, given_words}

abbrev pub written_of : Written → WrittenValue
written_of Undefined = written_undefined
written_of Null = written_null
written_of (Boolean b) = written_boolean b
written_of (Integer integer) = written_integer integer
written_of (Text text) = written_text text.now
written_of (Object o) = written_object o

abbrev pub maybe_written : Option Written → Option WrittenValue
maybe_written None = None
maybe_written (Some value) = Some (written_of value)

abbrev pub description_of : Definition → Description
description_of d = record {
  value = maybe_written d.value;
  writable = d.writable;
  getter = d.getter;
  setter = d.setter;
  enumerable = d.enumerable;
  configurable = d.configurable;
}

abbrev pub form_of : Request → Form
form_of (NewObject proto) = new_object proto
form_of (LinkPrototype o proto) = link_prototype o proto
form_of (AskProperty verb o name) = ask_property verb o name.now
form_of (SetValue o name value) = set_value o name.now (written_of value)
form_of (DefineProperty o name d) = define_property o name.now (description_of d)
form_of (AskObject verb o) = ask_object verb o
form_of (CompareObjects o p) = compare_objects o p
form_of (DeclareSite op name) = declare_site op name.now
form_of (ExecuteSite s o value) = execute_site s o (maybe_written value)
form_of (CompileSite s) = compile_site s
form_of (StepJob j reads) = step_job j reads
form_of (StepDuring c j reads) = step_during c j reads
form_of (FinishJob j) = finish_job j

-- the words behind a first word are those of this request
pub record AreAsked (verb : Verb) (words : List (List ℕ)) (request : Request) : Type 0 where
  pub verb_is : verb_of (form_of request) ≡ verb
  pub is_form : IsForm (form_of request)
  pub parts : AreParts (form_of request) words

-- the words behind a first word are those of no command, by the command that begins with it
abbrev pub HaveNoParts : Verb → List (List ℕ) → Type 0
HaveNoParts New words = (proto : Option ℕ) → IsPrototype proto → words ≡ prototype_word proto ∷ [] → ⊥
HaveNoParts SetProto words =
    (o : ℕ) (proto : Option ℕ) → o < 2 ^ 32 → IsPrototype proto → words ≡ object_word o ∷ prototype_word proto ∷ [] → ⊥
HaveNoParts (OfProperty verb) words =
    (o : ℕ) (name : List ℕ) → o < 2 ^ 32 → IsName name → words ≡ object_word o ∷ name ∷ [] → ⊥
HaveNoParts Set words =
    (o : ℕ) (name : List ℕ) (value : WrittenValue) → o < 2 ^ 32 → IsName name → IsWrittenValue value
    → words ≡ object_word o ∷ name ∷ value_word value ∷ [] → ⊥
HaveNoParts Define words =
    (o : ℕ) (name : List ℕ) (fields : List (List ℕ)) (d : Description) → o < 2 ^ 32 → IsName name → mixes_kinds d ≡ false
    → words ≡ object_word o ∷ name ∷ fields → Gives no_fields fields d → ⊥
HaveNoParts (OfObject verb) words = (o : ℕ) → o < 2 ^ 32 → words ≡ object_word o ∷ [] → ⊥
HaveNoParts Same words = (o p : ℕ) → o < 2 ^ 32 → p < 2 ^ 32 → words ≡ object_word o ∷ object_word p ∷ [] → ⊥
HaveNoParts Site words = (op : Op) (name : List ℕ) → IsName name → words ≡ op_word op ∷ name ∷ [] → ⊥
HaveNoParts Exec words =
    (s o : ℕ) (value : Option WrittenValue) → s < 2 ^ 32 → o < 2 ^ 32 → IsGivenValue value
    → words ≡ decimal s ∷ object_word o ∷ given_words value → ⊥
HaveNoParts Compile words = (s : ℕ) → s < 2 ^ 32 → words ≡ decimal s ∷ [] → ⊥
HaveNoParts Step words =
    (j : ℕ) (reads : Reads) → j < 2 ^ 32 → AreReads reads → words ≡ decimal j ∷ reads_word reads ∷ [] → ⊥
HaveNoParts During words =
    (c j : ℕ) (reads : Reads) → IsDistance c → j < 2 ^ 32 → AreReads reads
    → words ≡ decimal c ∷ decimal j ∷ reads_word reads ∷ [] → ⊥
HaveNoParts Finish words = (j : ℕ) → j < 2 ^ 32 → words ≡ decimal j ∷ [] → ⊥
