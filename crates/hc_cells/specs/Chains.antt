-- Chains of prototypes, as the words of fast objects and what is kept of slow ones tell them.
use Rattle.std.specs.Prelude.{ℕ, zero, suc, ◌<◌, Bool, true, false, if◌then◌else◌, ◌==◌, Option, Some, None, List, [], ◌∷◌, length, slice_index_or}
use Rattle.hc_heap.specs.Writes.{Trail}
use Rattle.hc_heap.specs.Readings.{prototype_in, map_in}

-- the prototype that a map says, and none where it says nothing
abbrev pub proto_said : Option (Option ℕ) → Option ℕ
proto_said (Some p) = p
proto_said None = None

-- the prototype of an object with this map word
abbrev pub proto_by : Trail → List (Option ℕ) → ℕ → Option ℕ → Option ℕ
proto_by t protos o (Some m) = proto_said (prototype_in t m)
proto_by t protos o None = slice_index_or protos o None

-- the prototype of an object: a fast one's is its map's, a slow one's is the one that is kept for it
abbrev pub proto_at : Trail → List (Option ℕ) → ℕ → Option ℕ
proto_at t protos o = proto_by t protos o (map_in t o)

-- the objects of the chain that begins here, so many at most
abbrev pub chain_among : ℕ → Trail → List (Option ℕ) → Option ℕ → List ℕ
chain_among n t protos None = []
chain_among zero t protos (Some q) = []
chain_among (suc n) t protos (Some q) = q ∷ chain_among n t protos (proto_at t protos q)

-- the objects of the chain that begins here
abbrev pub chain_from : Trail → List (Option ℕ) → Option ℕ → List ℕ
chain_from t protos at = chain_among (length protos) t protos at

-- the objects of the chain of a prototype, from it on
abbrev pub chain : Trail → List (Option ℕ) → ℕ → List ℕ
chain t protos p = chain_from t protos (Some p)

-- an object is one of these
abbrev pub has : List ℕ → ℕ → Bool
has [] o = false
has (q ∷ qs) o = if q == o then true else has qs o

-- how many of these come before an object; all of them, where it is none
abbrev pub before : List ℕ → ℕ → ℕ
before [] o = 0
before (q ∷ qs) o = if q == o then 0 else suc (before qs o)

-- the chain of a prototype goes through an object
abbrev pub passes : Trail → List (Option ℕ) → ℕ → ℕ → Bool
passes t protos p o = has (chain t protos p) o

-- the chain that begins here comes to its end past so many objects at most, each of which is there
abbrev pub Ends : ℕ → Trail → List (Option ℕ) → Option ℕ → Type 0
Ends n t protos None = Unit {0}
Ends zero t protos (Some q) = ⊥
Ends (suc n) t protos (Some q) = (q < length protos) × Ends n t protos (proto_at t protos q)

-- the chain of each object comes to its end
abbrev pub HaveEnds : Trail → List (Option ℕ) → Type 0
HaveEnds t protos = (o : ℕ) → o < length protos → Ends (length protos) t protos (Some o)
