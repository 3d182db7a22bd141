-- A write of a value whose text is among the names, to a name among them.
use Rattle.std.proofs.Common.{ℕ, ◌<◌, Option, Some, None}
use Rattle.std.specs.Prelude.{◌==◌}
use Rattle.hc_value.specs.Attrs.{is_read_only}
use Rattle.hc_value.specs.declared.attrs.Attrs.{Attrs}
use Rattle.hc_value.specs.declared.prop.Held.{Held}
use Rattle.hc_value.specs.declared.prop.Held.TheVariants.{Datum, Pair}
use Rattle.hc_value.specs.declared.value.Value.{Value}
use Rattle.hc_table.specs.World.{World, object, props_at, place_of}
use Rattle.hc_ops.specs.Nearest.{Nearest, nearest}
use Rattle.hc_ops.specs.Set.{create_act, write_act, writable_act, nearest_act, act_at, set_act}
use Rattle.hc_commands.specs.Numbers.{IsValueBelow}
use Rattle.hc_report.specs.Named.{IsNamedValue}
use Rattle.hc_session.proofs.NamedValues.{value_named}
use Rattle.hc_session.proofs.NamedActs.{IsNamedAct, either_act}

create_named : (count : ℕ) (w : World) (o name : ℕ) (value : Value) → name < count → IsNamedValue count value → IsNamedAct count (create_act w o name value)
create_named count w o name value of_name of_value =
    either_act count (object w o).extensible _ _ (tt, record { name = of_name; held = of_value }) (tt, tt)

write_named : (count o : ℕ) (value : Value) (i : Option ℕ) → IsNamedValue count value → IsNamedAct count (write_act o value i)
write_named count o value None of_value = (tt, tt)
write_named count o value (Some i) of_value = (tt, of_value)

writable_named : (count : ℕ) (w : World) (o name : ℕ) (value : Value) (holder : ℕ) → name < count → IsNamedValue count value → IsNamedAct count (writable_act w o name value holder)
writable_named count w o name value holder of_name of_value =
    either_act count (holder == o) _ _
    (write_named count o value (place_of (props_at w o) name) of_value) (create_named count w o name value of_name of_value)

nearest_named : (count : ℕ) (w : World) (o name : ℕ) (value : Value) (holder : ℕ) (attrs : Attrs) (held : Held) → name < count → IsNamedValue count value → IsNamedAct count (nearest_act w o name value holder attrs held)
nearest_named count w o name value holder attrs (Datum old) of_name of_value =
    either_act count (is_read_only attrs) _ _ (tt, tt) (writable_named count w o name value holder of_name of_value)
nearest_named count w o name value holder attrs (Pair getter None) of_name of_value = (tt, tt)
nearest_named count w o name value holder attrs (Pair getter (Some setter)) of_name of_value = (of_value, tt)

found_named : (count : ℕ) (w : World) (o name : ℕ) (value : Value) (found : Option Nearest) → name < count → IsNamedValue count value → IsNamedAct count (act_at w o name value found)
found_named count w o name value None of_name of_value = create_named count w o name value of_name of_value
found_named count w o name value (Some found) of_name of_value =
    nearest_named count w o name value found.holder found.property.attrs found.property.held of_name of_value

pub set_named : (count : ℕ) (w : World) (o name : ℕ) (value : Value) → name < count → IsValueBelow count value → IsNamedAct count (set_act w o name value)
set_named count w o name value of_name of_value = found_named count w o name value (nearest w o name) of_name (value_named count value of_value)
