-- The links of a map, each to the child of a key.
use Rattle.std.specs.Prelude.{ℕ, Bool, true, false, ◌&&◌, ◌==◌, if◌then◌else◌, Option, Some, None, List, [], ◌∷◌}
use Rattle.hc_value.specs.Attrs.{bits_of}
use Rattle.hc_value.specs.declared.key.Key.{Key}
use Rattle.hc_value.specs.declared.prop.Kind.{Kind}
use Rattle.hc_value.specs.declared.prop.Kind.TheVariants.{DataProp, AccessorProp}
use Rattle.hc_heap.specs.Writes.{Trail, Head, LinkKey, LinkChild, LinkNext}
use Rattle.hc_heap.specs.Readings.{head_in, link_key_in, link_child_in}

abbrev pub same_kind : Kind → Kind → Bool
same_kind DataProp DataProp = true
same_kind AccessorProp AccessorProp = true
same_kind _ _ = false

-- two keys are the same: in name, kind and attributes
abbrev pub same_key : Key → Key → Bool
same_key a b = a.name == b.name && same_kind a.kind b.kind && bits_of a.attrs == bits_of b.attrs

-- a key that is written is this one
abbrev pub is_key : Option Key → Key → Bool
is_key None key = false
is_key (Some k) key = same_key k key

-- the links that a map put in, the newest first
abbrev pub links_in : Trail → ℕ → List ℕ
links_in [] m = []
links_in (Head i (Some l) ∷ t) m = if i == m then l ∷ links_in t m else links_in t m
links_in (_ ∷ t) m = links_in t m

-- of some links, the newest first, the child of the first one with the key
abbrev pub newest_of : Trail → List ℕ → Key → Option ℕ
newest_of t [] key = None
newest_of t (l ∷ ls) key = if is_key (link_key_in t l) key then link_child_in t l else newest_of t ls key

-- the newest child of a map for a key
abbrev pub child_of : Trail → ℕ → Key → Option ℕ
child_of t m key = newest_of t (links_in t m) key

-- the link after a link; none after the last, and after one whose next wasn't written
abbrev pub next_of : Option (Option ℕ) → Option ℕ
next_of None = None
next_of (Some next) = next

-- the trail after a link to a child was written, and put before the links of a map
abbrev pub linked : Trail → ℕ → ℕ → Key → ℕ → Trail
linked t m l key child = Head m (Some l) ∷ LinkNext l (head_in t m) ∷ LinkChild l child ∷ LinkKey l key ∷ t
