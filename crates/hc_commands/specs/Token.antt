-- Words that stand behind the first word of a command, other than names and values.
use Rattle.std.specs.Prelude.{ℕ, ◌<◌, ◌≤◌, ◌^◌, List, ◌∷◌, Option, Some, None, codes}
use Rattle.std.specs.Fmt.{decimal}
use Rattle.hc_commands.specs.Values.{object_word}
use Rattle.hc_plan.specs.declared.case.Op.{Op}
use Rattle.hc_plan.specs.declared.case.Op.TheVariants.{Load, Store}
use Rattle.hc_commands.specs.declared.command.Reads.{Reads}
use Rattle.hc_commands.specs.declared.command.Reads.TheVariants.{Count, All}

-- no prototype, or an object
abbrev pub IsPrototype : Option ℕ → Type 0
IsPrototype None = Unit {0}
IsPrototype (Some o) = o < 2 ^ 32

abbrev pub prototype_word : Option ℕ → List ℕ
prototype_word None = codes "null"
prototype_word (Some o) = object_word o

-- a function's number
abbrev pub IsFunction : ℕ → Type 0
IsFunction f = f ≤ 1048575

-- `f` and the number of a function
abbrev pub function_word : ℕ → List ℕ
function_word f = 102 ∷ decimal f

-- no getter or setter, or a function
abbrev pub IsAccessor : Option ℕ → Type 0
IsAccessor None = Unit {0}
IsAccessor (Some f) = IsFunction f

abbrev pub accessor_word : Option ℕ → List ℕ
accessor_word None = codes "undefined"
accessor_word (Some f) = function_word f

abbrev pub op_word : Op → List ℕ
op_word Load = codes "load"
op_word Store = codes "store"

-- all, or a million at most
abbrev pub AreReads : Reads → Type 0
AreReads All = Unit {0}
AreReads (Count n) = n ≤ 1000000

abbrev pub reads_word : Reads → List ℕ
reads_word All = codes "all"
reads_word (Count n) = decimal n

-- the number of a command whose end jobs wait for: 1 to a million
pub record IsDistance (n : ℕ) : Type 0 where
  pub some : 0 < n
  pub small : n ≤ 1000000
