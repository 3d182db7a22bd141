-- Words are those of one form at most.
use Rattle.std.proofs.Common.{◌≡◌, ℕ, List, ◌∷◌, refl, sym, ap, ◌∙◌, arith, Option, Some, None, IfNone}
use Rattle.std.specs.Fmt.{decimal}
use Rattle.hc_commands.specs.Values.{WrittenValue, IsGivenValue, value_word, object_word}
use Rattle.hc_commands.specs.Token.{prototype_word, op_word, reads_word}
use Rattle.hc_commands.specs.Definition.{no_fields, Gives}
use Rattle.hc_commands.specs.Verbs.{verb_word}
use Rattle.hc_commands.specs.Grammar.{Form, new_object, link_prototype, ask_property, set_value, define_property, ask_object, compare_objects, declare_site, execute_site, compile_site, step_job, step_during, finish_job, verb_of, IsForm, given_words, AreParts, IsSpelled, HaveNoForm}
use Rattle.hc_commands.specs.Request.{HaveNoParts}
use Rattle.hc_commands.specs.declared.grammar.Request.{Request}
use Rattle.hc_commands.specs.declared.verb.Verb.{Verb}
use Rattle.hc_commands.proofs.Apart.{values_apart, same_object}
use Rattle.hc_commands.proofs.WordsApart.{verbs_apart, same_number, prototypes_apart, ops_apart, reads_apart}
use Rattle.hc_commands.proofs.FieldsApart.{gives_apart}

-- a value that may be given
given_apart : (v w : Option WrittenValue) → IsGivenValue v → IsGivenValue w → given_words v ≡ given_words w → v ≡ w
given_apart None None is_v is_w e = refl
given_apart (Some v) (Some w) is_v is_w e = let word : value_word v ≡ value_word w = cc in ap Some (values_apart v w is_v is_w word)
given_apart None (Some w) is_v is_w e = absurd (cc)
given_apart (Some v) None is_v is_w e = absurd (cc)

parts_apart : (f g : Form) (words : List (List ℕ)) → verb_of f ≡ verb_of g → IsForm f → IsForm g → AreParts f words → AreParts g words → f ≡ g
parts_apart (new_object p) (new_object q) words e is_f is_g a b =
    let word : prototype_word p ≡ prototype_word q = cc in ap new_object (prototypes_apart p q is_f is_g word)
parts_apart (link_prototype o p) (link_prototype x q) words e is_f is_g a b =
    let objects : object_word o ≡ object_word x = cc in
    let word : prototype_word p ≡ prototype_word q = cc in
    let object : o ≡ x = same_object o x is_f.0 is_g.0 objects in
    let proto : p ≡ q = prototypes_apart p q is_f.1 is_g.1 word in
    rw (object, proto) refl
parts_apart (ask_property v o name) (ask_property w x title) words e is_f is_g a b =
    let verb : v ≡ w = cc in
    let objects : object_word o ≡ object_word x = cc in
    let names : name ≡ title = cc in
    let object : o ≡ x = same_object o x is_f.0 is_g.0 objects in
    rw (verb, object, names) refl
parts_apart (set_value o name v) (set_value x title w) words e is_f is_g a b =
    let objects : object_word o ≡ object_word x = cc in
    let names : name ≡ title = cc in
    let word : value_word v ≡ value_word w = cc in
    let object : o ≡ x = same_object o x is_f.0 is_g.0 objects in
    let value : v ≡ w = values_apart v w is_f.2 is_g.2 word in
    rw (object, names, value) refl
parts_apart (define_property o name d) (define_property x title e) words verbs is_f is_g a b =
    let all : object_word o ∷ name ∷ a.0 ≡ object_word x ∷ title ∷ b.0 = sym a.1 ∙ b.1 in
    let objects : object_word o ≡ object_word x = cc in
    let names : name ≡ title = cc in
    let fields : a.0 ≡ b.0 = cc in
    let object : o ≡ x = same_object o x is_f.0 is_g.0 objects in
    let given : Gives no_fields b.0 d = rw (← fields) a.2 in
    let same : d ≡ e = gives_apart no_fields b.0 d e given b.2 in
    rw (object, names, same) refl
parts_apart (ask_object v o) (ask_object w x) words e is_f is_g a b =
    let verb : v ≡ w = cc in
    let objects : object_word o ≡ object_word x = cc in
    let object : o ≡ x = same_object o x is_f is_g objects in
    rw (verb, object) refl
parts_apart (compare_objects o p) (compare_objects x y) words e is_f is_g a b =
    let objects : object_word o ≡ object_word x = cc in
    let others : object_word p ≡ object_word y = cc in
    let object : o ≡ x = same_object o x is_f.0 is_g.0 objects in
    let other : p ≡ y = same_object p y is_f.1 is_g.1 others in
    rw (object, other) refl
parts_apart (declare_site op name) (declare_site other title) words e is_f is_g a b =
    let word : op_word op ≡ op_word other = cc in
    let names : name ≡ title = cc in
    let same : op ≡ other = ops_apart op other word in
    rw (same, names) refl
parts_apart (execute_site s o v) (execute_site t x w) words e is_f is_g a b =
    let numbers : decimal s ≡ decimal t = cc in
    let objects : object_word o ≡ object_word x = cc in
    let word : given_words v ≡ given_words w = cc in
    let site : s ≡ t = same_number s t is_f.0 is_g.0 numbers in
    let object : o ≡ x = same_object o x is_f.1 is_g.1 objects in
    let value : v ≡ w = given_apart v w is_f.2 is_g.2 word in
    rw (site, object, value) refl
parts_apart (compile_site s) (compile_site t) words e is_f is_g a b =
    let numbers : decimal s ≡ decimal t = cc in ap compile_site (same_number s t is_f is_g numbers)
parts_apart (step_job j r) (step_job k s) words e is_f is_g a b =
    let numbers : decimal j ≡ decimal k = cc in
    let word : reads_word r ≡ reads_word s = cc in
    let job : j ≡ k = same_number j k is_f.0 is_g.0 numbers in
    let reads : r ≡ s = reads_apart r s is_f.1 is_g.1 word in
    rw (job, reads) refl
parts_apart (step_during c j r) (step_during d k s) words e is_f is_g a b =
    let distances : decimal c ≡ decimal d = cc in
    let numbers : decimal j ≡ decimal k = cc in
    let word : reads_word r ≡ reads_word s = cc in
    let distance : c ≡ d = same_number c d (omega (arith, is_f.0.small)) (omega (arith, is_g.0.small)) distances in
    let job : j ≡ k = same_number j k is_f.1 is_g.1 numbers in
    let reads : r ≡ s = reads_apart r s is_f.2 is_g.2 word in
    rw (distance, job, reads) refl
parts_apart (finish_job j) (finish_job k) words e is_f is_g a b =
    let numbers : decimal j ≡ decimal k = cc in ap finish_job (same_number j k is_f is_g numbers)
parts_apart f g words e is_f is_g a b = absurd (cc)

pub forms_apart : (f g : Form) (words : List (List ℕ)) → IsForm f → IsForm g → IsSpelled f words → IsSpelled g words → f ≡ g
forms_apart f g words is_f is_g a b =
    let all : verb_word (verb_of f) ∷ a.parts ≡ verb_word (verb_of g) ∷ b.parts = sym a.words_are ∙ b.words_are in
    let first : verb_word (verb_of f) ≡ verb_word (verb_of g) = cc in
    let parts : a.parts ≡ b.parts = cc in
    let given : AreParts f b.parts = rw (← parts) a.are_parts in
    parts_apart f g b.parts (verbs_apart (verb_of f) (verb_of g) first) is_f is_g given b.are_parts

-- where the words behind a verb are those of no command that begins with it, they have no form with it
none_of_form : (form : Form) (words : List (List ℕ)) → IsForm form → AreParts form words → HaveNoParts (verb_of form) words → ⊥
none_of_form (new_object proto) words is parts none = none proto is parts
none_of_form (link_prototype o proto) words is parts none = none o proto is.0 is.1 parts
none_of_form (ask_property verb o name) words is parts none = none o name is.0 is.1 parts
none_of_form (set_value o name value) words is parts none = none o name value is.0 is.1 is.2 parts
none_of_form (define_property o name d) words is parts none = none o name parts.0 d is.0 is.1 is.3 parts.1 parts.2
none_of_form (ask_object verb o) words is parts none = none o is parts
none_of_form (compare_objects o p) words is parts none = none o p is.0 is.1 parts
none_of_form (declare_site op name) words is parts none = none op name is parts
none_of_form (execute_site s o value) words is parts none = none s o value is.0 is.1 is.2 parts
none_of_form (compile_site s) words is parts none = none s is parts
none_of_form (step_job j reads) words is parts none = none j reads is.0 is.1 parts
none_of_form (step_during c j reads) words is parts none = none c j reads is.0 is.1 is.2 parts
none_of_form (finish_job j) words is parts none = none j is parts

pub no_form : (verb : Verb) (words all : List (List ℕ)) → all ≡ verb_word verb ∷ words → HaveNoParts verb words → HaveNoForm all
no_form verb words all e none form is spelled =
    let same : verb_word verb ∷ words ≡ verb_word (verb_of form) ∷ spelled.parts = sym e ∙ spelled.words_are in
    let first : verb_word verb ≡ verb_word (verb_of form) = cc in
    let parts : words ≡ spelled.parts = cc in
    let verbs : verb ≡ verb_of form = verbs_apart verb (verb_of form) first in
    let given : HaveNoParts (verb_of form) spelled.parts = rw (← verbs, ← parts) none in
    none_of_form form spelled.parts is spelled.are_parts given

pub found_or_none : (found : Option Request) (verb : Verb) (word : List ℕ) (words all : List (List ℕ)) → all ≡ word ∷ words → word ≡ verb_word verb → IfNone found (HaveNoParts verb words) → IfNone found (HaveNoForm all)
found_or_none (Some request) verb word words all e spelled none = tt
found_or_none None verb word words all e spelled none = no_form verb words all (e ∙ ap (λ (first : List ℕ). first ∷ words) spelled) none
