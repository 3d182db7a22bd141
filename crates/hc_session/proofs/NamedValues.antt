-- A value whose text is among the names.
use Rattle.std.proofs.Common.{ℕ, ◌≤◌, arith}
use Rattle.hc_value.specs.declared.value.Value.{Value}
use Rattle.hc_value.specs.declared.value.Value.TheVariants.{Undefined, Null, Bool as Boolean, Int, Text, Obj}
use Rattle.hc_commands.specs.Numbers.{IsValueBelow}
use Rattle.hc_report.specs.Named.{IsNamedValue}

-- as a command has it
pub value_named : (count : ℕ) (value : Value) → IsValueBelow count value → IsNamedValue count value
value_named count (Text text) below = below
value_named count Undefined below = tt
value_named count Null below = tt
value_named count (Boolean b) below = tt
value_named count (Int integer) below = tt
value_named count (Obj o) below = tt

-- more names keep it
pub named_kept : (count more : ℕ) (value : Value) → count ≤ more → IsNamedValue count value → IsNamedValue more value
named_kept count more (Text text) grows named = omega (arith, grows, named)
named_kept count more Undefined grows named = tt
named_kept count more Null grows named = tt
named_kept count more (Boolean b) grows named = tt
named_kept count more (Int integer) grows named = tt
named_kept count more (Obj o) grows named = tt
