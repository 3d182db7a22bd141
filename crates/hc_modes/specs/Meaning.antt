-- What the words, and what the main thread keeps of slow objects, say of the objects.
use Rattle.std.specs.Prelude.{ℕ, Option, None, option_map, List, length, slice_index_or}
use Rattle.hc_value.specs.declared.reply.Cause.{Cause}
use Rattle.hc_heap.specs.Writes.{Trail}
use Rattle.hc_heap.specs.Readings.{map_in}
use Rattle.hc_table.specs.World.{Object, World}
use Rattle.hc_slots.specs.Listed.{listed}
use Rattle.hc_slots.specs.Meaning.{Dictionary, object_shown}

-- what is kept of an object: its dictionary where it is slow, and none where it is fast
abbrev pub kept_of : List (Option Dictionary) → ℕ → Option Dictionary
kept_of kept o = slice_index_or kept o None

-- why an object is slow, where it is
abbrev pub cause_in : List (Option Dictionary) → ℕ → Option Cause
cause_in kept o = option_map (λ d. d.cause) (kept_of kept o)

-- an object
abbrev pub object_at : Trail → List (Option Dictionary) → ℕ → Object
object_at t kept o = object_shown t o (kept_of kept o) (map_in t o)

-- the objects: as many as there are items kept
abbrev pub world : Trail → List (Option Dictionary) → World
world t kept = listed (object_at t kept) (length kept)
