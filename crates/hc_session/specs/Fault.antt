-- The lines that end an output.
use Rattle.std.specs.Prelude.{ℕ, List, [], ◌∷◌, ◌++◌, codes}
use Rattle.std.specs.Fmt.{decimal}
use Rattle.hc_script.specs.declared.fault.What.{What}
use Rattle.hc_script.specs.declared.fault.What.TheVariants.{Form, Long, Size, Names, Unbuilt}

abbrev pub what_text : What → List ℕ
what_text Form = codes "form"
what_text Long = codes "long"
what_text Size = codes "size"
what_text Names = codes "names"
what_text Unbuilt = codes "unbuilt"

-- the line of this number is refused
abbrev pub refusal_line : ℕ → What → List ℕ
refusal_line n what = codes "! line " ++ decimal n ++ codes " " ++ what_text what ++ 10 ∷ []

-- a read failed
abbrev pub read_line : List ℕ
read_line = codes "! read" ++ 10 ∷ []

-- the words of the program are of no stated form
abbrev pub usage_line : List ℕ
usage_line = codes "! usage" ++ 10 ∷ []
