-- Sources and sinks in memory, as contracts see them.
use Rattle.std.specs.Prelude.{ℕ, ◌+◌, ◌-◌, ◌^◌, min, max, List, Option, Some, None, length, slice_get}

-- the bytes to come, the most bytes of each call, the calls that fail, and the calls and failures so far
pub record MemoryReads : Type 0 where
  pub left : List ℕ
  pub cuts : List ℕ
  pub fails : List ℕ
  pub calls : ℕ
  pub failed : ℕ

-- the bytes so far, the calls that fail, and the calls and failures so far
pub record MemoryWrites : Type 0 where
  pub taken : List ℕ
  pub fails : List ℕ
  pub calls : ℕ
  pub failed : ℕ

-- one more, up to the end of the type
abbrev pub one_more : ℕ → ℕ
one_more n = min (n + 1) (2 ^ 64 - 1)

-- the most bytes under a cut, of which 0 counts as 1
abbrev pub cut_to : ℕ → Option ℕ → ℕ
cut_to most None = most
cut_to most (Some cut) = min most (max cut 1)

-- how many bytes a call reads into so much room
abbrev pub read_size : MemoryReads → ℕ → ℕ
read_size memory room = min (cut_to room (slice_get memory.cuts memory.calls)) (length memory.left)
