-- How a table of verbs is searched.
use Rattle.std.specs.Prelude.{List, ℕ, [], ◌∷◌, Option, Some, None, if◌then◌else◌}
use Rattle.std.specs.Str.{bytes_eq}
use Rattle.hc_commands.specs.declared.verb.Verb.{Verb}

-- the verb of the first entry with this word
abbrev pub look_up : List (List ℕ × Verb) → List ℕ → Option Verb
look_up [] word = None
look_up (entry ∷ table) word = if bytes_eq entry.0 word then Some entry.1 else look_up table word
