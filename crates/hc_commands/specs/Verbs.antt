-- The first words of commands.
use Rattle.std.specs.Prelude.{◌≡◌, ℕ, Bool, true, false, List, codes}
use Rattle.hc_commands.specs.declared.command.Command.{Command}
use Rattle.hc_commands.specs.declared.command.Command.TheVariants.{Step as StepCommand, During as DuringCommand}
use Rattle.hc_commands.specs.declared.command.Reads.TheVariants.{Count}
use Rattle.hc_commands.specs.declared.verb.PropertyVerb.{PropertyVerb}
use Rattle.hc_commands.specs.declared.verb.PropertyVerb.TheVariants.{Get, Has, Own, Delete}
use Rattle.hc_commands.specs.declared.verb.ObjectVerb.{ObjectVerb}
use Rattle.hc_commands.specs.declared.verb.ObjectVerb.TheVariants.{Keys, Proto, Extensible, Lock, Seal, Freeze, Shape}
use Rattle.hc_commands.specs.declared.verb.Verb.{Verb}
use Rattle.hc_commands.specs.declared.verb.Verb.TheVariants.{New, SetProto, OfProperty, Set, Define, OfObject, Same, Site, Exec, Compile, Step, During, Finish}

abbrev pub property_word : PropertyVerb → List ℕ
property_word Get = codes "get"
property_word Has = codes "has"
property_word Own = codes "own"
property_word Delete = codes "delete"

abbrev pub query_word : ObjectVerb → List ℕ
query_word Keys = codes "keys"
query_word Proto = codes "proto"
query_word Extensible = codes "extensible"
query_word Lock = codes "lock"
query_word Seal = codes "seal"
query_word Freeze = codes "freeze"
query_word Shape = codes "shape"

abbrev pub verb_word : Verb → List ℕ
verb_word New = codes "new"
verb_word SetProto = codes "setproto"
verb_word (OfProperty verb) = property_word verb
verb_word Set = codes "set"
verb_word Define = codes "define"
verb_word (OfObject verb) = query_word verb
verb_word Same = codes "same"
verb_word Site = codes "site"
verb_word Exec = codes "exec"
verb_word Compile = codes "compile"
verb_word Step = codes "step"
verb_word During = codes "during"
verb_word Finish = codes "finish"

-- the command is built
abbrev pub is_built : Command → Bool
is_built (StepCommand j (Count reads)) = false
is_built (DuringCommand c j reads) = false
is_built command = true

-- the commands that are built
abbrev pub IsBuilt : Command → Type 0
IsBuilt command = is_built command ≡ true
