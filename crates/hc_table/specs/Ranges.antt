-- What a word can hold.
use Rattle.std.specs.Prelude.{ℕ, ◌<◌, Option, IfSome}
use Rattle.hc_value.specs.Word.{IsInRange}
use Rattle.hc_value.specs.declared.word.TheConstants.{NUMBER_LIMIT}
use Rattle.hc_value.specs.declared.prop.Held.{Held}
use Rattle.hc_value.specs.declared.prop.Held.TheVariants.{Datum, Pair}

-- a function's number may be given to a word
abbrev pub IsFunctionInRange : Option ℕ → Type 0
IsFunctionInRange f = IfSome f (λ n. n < NUMBER_LIMIT)

-- what a property holds may be given to a word
abbrev pub IsHeldInRange : Held → Type 0
IsHeldInRange (Datum value) = IsInRange value
IsHeldInRange (Pair getter setter) = IsFunctionInRange getter × IsFunctionInRange setter
