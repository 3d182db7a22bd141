-- What an operation comes to: its reply, and the one changing call that it makes, if any.
use Rattle.std.specs.Prelude.{Bool, true}
use Rattle.hc_value.specs.declared.reply.Reply.{Reply}
use Rattle.hc_value.specs.declared.reply.Reply.TheVariants.{Flag}
use Rattle.hc_table.specs.Changes.{Did, Nothing}

-- the next world is the one after what was done
pub record Act : Type 0 where
  pub reply : Reply
  pub did : Did

-- true or false, and nothing is done
abbrev pub answers : Bool → Act
answers answer = record { reply = Flag answer; did = Nothing }

-- true, and this is done
abbrev pub does : Did → Act
does did = record { reply = Flag true; did = did }
