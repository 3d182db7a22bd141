-- Operations whose names and texts are among the names put no others in.
use Rattle.std.proofs.Common.{ℕ, ◌<◌, Bool, true, false, List, [], ◌∷◌, Option, Some, None, option_map}
use Rattle.std.specs.Prelude.{IfSome, if◌then◌else◌, ◌==◌}
use Rattle.hc_value.specs.declared.prop.Held.{Held}
use Rattle.hc_value.specs.declared.prop.Held.TheVariants.{Datum, Pair}
use Rattle.hc_value.specs.declared.prop.Prop.{Prop}
use Rattle.hc_value.specs.declared.prop.PropDesc.{PropDesc}
use Rattle.hc_value.specs.declared.value.Value.{Value}
use Rattle.hc_table.specs.Attributes.{is_dont_delete}
use Rattle.hc_table.specs.Changes.{reaches}
use Rattle.hc_table.specs.World.{World, object, props_at}
use Rattle.hc_ops.specs.Act.{Act}
use Rattle.hc_ops.specs.Define.{given, is_data, is_accessor, held_after, changed, blank, is_refused, define_found, define_act}
use Rattle.hc_ops.specs.Delete.{delete_found, delete_act}
use Rattle.hc_ops.specs.Found.{further, found_in}
use Rattle.hc_ops.specs.Integrity.{same_proto, set_proto_act, lock_act}
use Rattle.hc_ops.specs.declared.walk.Found.{Found}
use Rattle.hc_commands.specs.Numbers.{IsGivenBelow}
use Rattle.hc_report.specs.Named.{IsNamedHeld, IsNamedReply, IsNamedValue}
use Rattle.hc_session.specs.Named.{IsNamedProp, AreNamedProps, IsNamedWorld}
use Rattle.hc_session.proofs.NamedValues.{value_named}
use Rattle.hc_session.proofs.NamedChanges.{IsNamedDid}

-- the reply can be shown, and what is put in has such a name, and such a text
abbrev pub IsNamedAct : ℕ → Act → Type 0
IsNamedAct count act = IsNamedReply count act.reply × IsNamedDid count act.did

pub either_act : (count : ℕ) (b : Bool) (x y : Act) → IsNamedAct count x → IsNamedAct count y → IsNamedAct count (if b then x else y)
either_act count true x y first second = first
either_act count false x y first second = second

-- the property that was found
abbrev IsNamedFound : ℕ → Option Found → Type 0
IsNamedFound count found = IfSome found (λ f. IsNamedProp count f.property)

either_found : (count : ℕ) (b : Bool) (x y : Option Found) → IsNamedFound count x → IsNamedFound count y → IsNamedFound count (if b then x else y)
either_found count true x y first second = first
either_found count false x y first second = second

further_named : (count : ℕ) (found : Option Found) → IsNamedFound count found → IsNamedFound count (option_map further found)
further_named count None named = tt
further_named count (Some found) named = named

found_named : (count : ℕ) (ps : List Prop) (name : ℕ) → AreNamedProps count ps → IsNamedFound count (found_in ps name)
found_named count [] name named = tt
found_named count (p ∷ ps) name named =
    either_found count (p.name == name) _ _ named.0 (further_named count (found_in ps name) (found_named count ps name named.1))

-- what a property holds after a definition
given_named : (count : ℕ) (asked : Option Value) (value : Value) → IsGivenBelow count asked → IsNamedValue count value → IsNamedValue count (given asked value)
given_named count None value of_asked of_value = of_value
given_named count (Some new) value of_asked of_value = value_named count new of_asked

either_held : (count : ℕ) (b : Bool) (x y : Held) → IsNamedHeld count x → IsNamedHeld count y → IsNamedHeld count (if b then x else y)
either_held count true x y first second = first
either_held count false x y first second = second

held_named : (count : ℕ) (held : Held) (d : PropDesc) → IsNamedHeld count held → IsGivenBelow count d.value → IsNamedHeld count (held_after held d)
held_named count (Datum value) d named of_value = either_held count (is_accessor d) _ _ tt (given_named count d.value value of_value named)
held_named count (Pair getter setter) d named of_value = either_held count (is_data d) _ _ (given_named count d.value _ of_value tt) tt

changed_named : (count : ℕ) (p : Prop) (d : PropDesc) → IsNamedProp count p → IsGivenBelow count d.value → IsNamedProp count (changed p d)
changed_named count p d named of_value = record { name = named.name; held = held_named count p.held d named.held of_value }

definition_named : (count : ℕ) (w : World) (o name : ℕ) (d : PropDesc) (found : Option Found) → IsNamedFound count found → name < count → IsGivenBelow count d.value → IsNamedAct count (define_found w o name d found)
definition_named count w o name d None of_found of_name of_value =
    either_act count (object w o).extensible _ _
    (tt, changed_named count (blank name) d (record { name = of_name; held = tt }) of_value) (tt, tt)
definition_named count w o name d (Some found) of_found of_name of_value =
    either_act count (is_refused found.property d) _ _ (tt, tt) (tt, changed_named count found.property d of_found of_value)

pub defined_named : (count : ℕ) (w : World) (o name : ℕ) (d : PropDesc) → IsNamedWorld count w → name < count → IsGivenBelow count d.value → IsNamedAct count (define_act w o name d)
defined_named count w o name d named of_name of_value =
    definition_named count w o name d (found_in (props_at w o) name) (found_named count (props_at w o) name (named o)) of_name of_value

deletion_named : (count o : ℕ) (found : Option Found) → IsNamedAct count (delete_found o found)
deletion_named count o None = (tt, tt)
deletion_named count o (Some found) = either_act count (is_dont_delete found.property.attrs) _ _ (tt, tt) (tt, tt)

pub deleted_named : (count : ℕ) (w : World) (o name : ℕ) → IsNamedAct count (delete_act w o name)
deleted_named count w o name = deletion_named count o (found_in (props_at w o) name)

pub linked_named : (count : ℕ) (w : World) (o : ℕ) (proto : Option ℕ) → IsNamedAct count (set_proto_act w o proto)
linked_named count w o proto =
    either_act count (same_proto proto (object w o).proto) _ _ (tt, tt)
    (either_act count (object w o).extensible _ _
    (either_act count (reaches w proto o) _ _ (tt, tt) (tt, tt))
    (tt, tt))

pub locked_named : (count : ℕ) (w : World) (o : ℕ) → IsNamedAct count (lock_act w o)
locked_named count w o = either_act count (object w o).extensible _ _ (tt, tt) (tt, tt)
