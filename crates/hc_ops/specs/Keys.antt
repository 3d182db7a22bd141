-- The names of an object's own properties (ECMA-262, 10.1.11.1, OrdinaryOwnPropertyKeys).
use Rattle.std.specs.Prelude.{ℕ, map}
use Rattle.hc_value.specs.declared.reply.Reply.{Reply}
use Rattle.hc_value.specs.declared.reply.Reply.TheVariants.{NameList}
use Rattle.hc_table.specs.World.{World, props_at}

-- in the order of their making, enumerable or not
abbrev pub keys_reply : World → ℕ → Reply
keys_reply w o = NameList (map (λ p. p.name) (props_at w o))
