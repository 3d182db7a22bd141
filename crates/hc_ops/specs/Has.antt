-- Whether an object or one of its prototypes has a property (ECMA-262, 10.1.7.1, OrdinaryHasProperty).
use Rattle.std.specs.Prelude.{ℕ, Bool, true, false, Option, Some, None}
use Rattle.hc_value.specs.declared.reply.Reply.{Reply}
use Rattle.hc_value.specs.declared.reply.Reply.TheVariants.{Flag}
use Rattle.hc_table.specs.World.{World}
use Rattle.hc_ops.specs.Nearest.{Nearest, nearest}

abbrev pub is_found : Option Nearest → Bool
is_found None = false
is_found (Some found) = true

-- whether there is a nearest property
abbrev pub has_reply : World → ℕ → ℕ → Reply
has_reply w o name = Flag (is_found (nearest w o name))
