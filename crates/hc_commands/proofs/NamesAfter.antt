-- The names after a command, and its numbers among them.
use Rattle.std.proofs.Common.{◌≡◌, ℕ, ◌<◌, ◌≤◌, true, false, List, [], ◌∷◌, ◌++◌, length, refl, arith, length-append, if◌then◌else◌, Option, Some, None, slice_get}
use Rattle.std.specs.Prelude.{is_some}
use Rattle.std.proofs.lemmas.Option.{slice_get_within}
use Rattle.hc_names.specs.Names.{has_text, number_of, with_text}
use Rattle.hc_commands.specs.Values.{WrittenValue, written_undefined, written_null, written_boolean, written_integer, written_text, written_object, value_of, names_behind, maybe_value_of, names_behind_maybe}
use Rattle.hc_commands.specs.Definition.{Description, IsDescription, mixes_kinds, descriptor_of}
use Rattle.hc_commands.specs.Verbs.{IsBuilt}
use Rattle.hc_commands.specs.Numbers.{IsValueBelow, IsGivenBelow, IsDescriptorBelow, IsCommandBelow}
use Rattle.hc_commands.specs.Grammar.{Form, new_object, link_prototype, ask_property, set_value, define_property, ask_object, compare_objects, declare_site, execute_site, compile_site, step_job, step_during, finish_job, is_built_form, IsForm, command_of, names_after}
use Rattle.hc_commands.specs.declared.command.Reads.TheVariants.{Count, All}
use Rattle.hc_commands.specs.declared.verb.PropertyVerb.TheVariants.{Get, Has, Own, Delete}
use Rattle.hc_commands.specs.declared.verb.ObjectVerb.TheVariants.{Keys, Proto, Extensible, Lock, Seal, Freeze, Shape}

pub with_text_grows : (names : List (List ℕ)) (text : List ℕ) → length names ≤ length (with_text names text)
with_text_grows names text = elim (has_text names text) as (λ there. length names ≤ length (if there then names else names ++ text ∷ [])) [
  | true ↦ omega arith
  | false ↦ omega (arith, length-append names (text ∷ []))
]

-- a text that is refused where no more fit would have been one more
pub one_too_many : (names : List (List ℕ)) (text : List ℕ) (most : ℕ) → has_text names text ≡ false → length names ≡ most → most < length (with_text names text)
one_too_many names text most new full = rw new (omega (arith, length-append names (text ∷ [])))

pub names_behind_grow : (names : List (List ℕ)) (value : WrittenValue) → length names ≤ length (names_behind names value)
names_behind_grow names (written_text text) = with_text_grows names text
names_behind_grow names value = omega arith

pub names_behind_maybe_grow : (names : List (List ℕ)) (value : Option WrittenValue) → length names ≤ length (names_behind_maybe names value)
names_behind_maybe_grow names None = omega arith
names_behind_maybe_grow names (Some value) = names_behind_grow names value

pub names_after_grow : (names : List (List ℕ)) (form : Form) → length names ≤ length (names_after names form)
names_after_grow names (ask_property verb o name) = with_text_grows names name
names_after_grow names (set_value o name value) = omega (arith, with_text_grows names name, names_behind_grow (with_text names name) value)
names_after_grow names (define_property o name d) = omega (arith, with_text_grows names name, names_behind_maybe_grow (with_text names name) d.value)
names_after_grow names (declare_site op name) = with_text_grows names name
names_after_grow names (execute_site s o value) = names_behind_maybe_grow names value
names_after_grow names form = omega arith

-- each text that is interned has a number among the names then
abbrev pub AreNumbered : Type 0
AreNumbered = (names : List (List ℕ)) (text : List ℕ) → slice_get (with_text names text) (number_of names text) ≡ Some text

number_below : AreNumbered → (names : List (List ℕ)) (text : List ℕ) → number_of names text < length (with_text names text)
number_below numbered names text = slice_get_within (with_text names text) (number_of names text) text (numbered names text)

value_below : AreNumbered → (names : List (List ℕ)) (value : WrittenValue) → IsValueBelow (length (names_behind names value)) (value_of names value)
value_below numbered names (written_text text) = number_below numbered names text
value_below numbered names written_undefined = tt
value_below numbered names written_null = tt
value_below numbered names (written_boolean b) = tt
value_below numbered names (written_integer integer) = tt
value_below numbered names (written_object o) = tt

maybe_below : AreNumbered → (names : List (List ℕ)) (value : Option WrittenValue) → IsGivenBelow (length (names_behind_maybe names value)) (maybe_value_of names value)
maybe_below numbered names None = tt
maybe_below numbered names (Some value) = value_below numbered names value

-- a value is given where it was written
still_given : (names : List (List ℕ)) (value : Option WrittenValue) → is_some (maybe_value_of names value) ≡ is_some value
still_given names None = refl
still_given names (Some value) = refl

descriptor_below : AreNumbered → (names : List (List ℕ)) (d : Description) → IsDescription d → mixes_kinds d ≡ false → IsDescriptorBelow (length (names_behind_maybe names d.value)) (descriptor_of names d)
descriptor_below numbered names d is one = record {
  value = maybe_below numbered names d.value;
  getter = is.getter;
  setter = is.setter;
  one_kind = rw (still_given names d.value) one;
}

pub command_below : AreNumbered → (names : List (List ℕ)) (form : Form) → IsForm form → IsCommandBelow (length (names_after names form)) (command_of names form)
command_below numbered names (ask_property Get o name) is = number_below numbered names name
command_below numbered names (ask_property Has o name) is = number_below numbered names name
command_below numbered names (ask_property Own o name) is = number_below numbered names name
command_below numbered names (ask_property Delete o name) is = number_below numbered names name
command_below numbered names (set_value o name value) is =
    (omega (arith, number_below numbered names name, names_behind_grow (with_text names name) value), value_below numbered (with_text names name) value)
command_below numbered names (define_property o name d) is =
    (omega (arith, number_below numbered names name, names_behind_maybe_grow (with_text names name) d.value), descriptor_below numbered (with_text names name) d is.2 is.3)
command_below numbered names (declare_site op name) is = number_below numbered names name
command_below numbered names (execute_site s o value) is = maybe_below numbered names value
command_below numbered names (new_object proto) is = tt
command_below numbered names (link_prototype o proto) is = tt
command_below numbered names (ask_object Keys o) is = tt
command_below numbered names (ask_object Proto o) is = tt
command_below numbered names (ask_object Extensible o) is = tt
command_below numbered names (ask_object Lock o) is = tt
command_below numbered names (ask_object Seal o) is = tt
command_below numbered names (ask_object Freeze o) is = tt
command_below numbered names (ask_object Shape o) is = tt
command_below numbered names (compare_objects o p) is = tt
command_below numbered names (compile_site s) is = tt
command_below numbered names (step_job j reads) is = tt
command_below numbered names (step_during c j reads) is = tt
command_below numbered names (finish_job j) is = tt

-- a built form asks for a built command
pub command_built : (names : List (List ℕ)) (form : Form) → is_built_form form ≡ true → IsBuilt (command_of names form)
command_built names (ask_property Get o name) built = built
command_built names (ask_property Has o name) built = built
command_built names (ask_property Own o name) built = built
command_built names (ask_property Delete o name) built = built
command_built names (ask_object Keys o) built = built
command_built names (ask_object Proto o) built = built
command_built names (ask_object Extensible o) built = built
command_built names (ask_object Lock o) built = built
command_built names (ask_object Seal o) built = built
command_built names (ask_object Freeze o) built = built
command_built names (ask_object Shape o) built = built
command_built names (set_value o name value) built = built
command_built names (define_property o name d) built = built
command_built names (declare_site op name) built = built
command_built names (execute_site s o value) built = built
command_built names (new_object proto) built = built
command_built names (link_prototype o proto) built = built
command_built names (compare_objects o p) built = built
command_built names (compile_site s) built = built
command_built names (step_job j All) built = built
command_built names (step_job j (Count n)) built = built
command_built names (step_during c j reads) built = built
command_built names (finish_job j) built = built
