-- What was read behind a key gives its field.
use Rattle.std.proofs.Common.{◌≡◌, ℕ, true, List, refl, Option, Some, None, IfSome}
use Rattle.std.specs.Prelude.{Bool}
use Rattle.hc_commands.specs.Values.{IsWrittenValue, value_word, boolean_word}
use Rattle.hc_commands.specs.Token.{IsAccessor, accessor_word}
use Rattle.hc_commands.specs.Definition.{given_value, given_writable, given_getter, given_setter, given_enumerable, given_configurable, gives, Fills}
use Rattle.hc_commands.specs.Request.{written_of, description_of}
use Rattle.hc_commands.specs.declared.definition.Definition.{Definition}
use Rattle.hc_commands.specs.declared.definition.Key.TheVariants.{Value, Writable, Getter, Setter, Enumerable, Configurable}
use Rattle.hc_commands.specs.declared.written.Written.{Written}

pub fills_value : (d : Definition) (found : Option Written) (rest : List ℕ) → IfSome found (λ v. IsWrittenValue (written_of v)) → IfSome found (λ v. rest ≡ value_word (written_of v)) → gives (description_of (record d { value = found })) Value ≡ true → Fills (description_of d) Value rest (description_of (record d { value = found }))
fills_value d None rest is e some = absurd (cc)
fills_value d (Some v) rest is e some = record { given = given_value (written_of v); key_is = refl; is_given = is; rest_is = e; after_is = refl }

pub fills_writable : (d : Definition) (found : Option Bool) (rest : List ℕ) → IfSome found (λ b. rest ≡ boolean_word b) → gives (description_of (record d { writable = found })) Writable ≡ true → Fills (description_of d) Writable rest (description_of (record d { writable = found }))
fills_writable d None rest e some = absurd (cc)
fills_writable d (Some b) rest e some = record { given = given_writable b; key_is = refl; is_given = tt; rest_is = e; after_is = refl }

pub fills_getter : (d : Definition) (found : Option (Option ℕ)) (rest : List ℕ) → IfSome found (λ f. IsAccessor f) → IfSome found (λ f. rest ≡ accessor_word f) → gives (description_of (record d { getter = found })) Getter ≡ true → Fills (description_of d) Getter rest (description_of (record d { getter = found }))
fills_getter d None rest is e some = absurd (cc)
fills_getter d (Some f) rest is e some = record { given = given_getter f; key_is = refl; is_given = is; rest_is = e; after_is = refl }

pub fills_setter : (d : Definition) (found : Option (Option ℕ)) (rest : List ℕ) → IfSome found (λ f. IsAccessor f) → IfSome found (λ f. rest ≡ accessor_word f) → gives (description_of (record d { setter = found })) Setter ≡ true → Fills (description_of d) Setter rest (description_of (record d { setter = found }))
fills_setter d None rest is e some = absurd (cc)
fills_setter d (Some f) rest is e some = record { given = given_setter f; key_is = refl; is_given = is; rest_is = e; after_is = refl }

pub fills_enumerable : (d : Definition) (found : Option Bool) (rest : List ℕ) → IfSome found (λ b. rest ≡ boolean_word b) → gives (description_of (record d { enumerable = found })) Enumerable ≡ true → Fills (description_of d) Enumerable rest (description_of (record d { enumerable = found }))
fills_enumerable d None rest e some = absurd (cc)
fills_enumerable d (Some b) rest e some = record { given = given_enumerable b; key_is = refl; is_given = tt; rest_is = e; after_is = refl }

pub fills_configurable : (d : Definition) (found : Option Bool) (rest : List ℕ) → IfSome found (λ b. rest ≡ boolean_word b) → gives (description_of (record d { configurable = found })) Configurable ≡ true → Fills (description_of d) Configurable rest (description_of (record d { configurable = found }))
fills_configurable d None rest e some = absurd (cc)
fills_configurable d (Some b) rest e some = record { given = given_configurable b; key_is = refl; is_given = tt; rest_is = e; after_is = refl }
