-- How an object gets another prototype, which becomes one first: what that needs, and what was done.
use Rattle.std.specs.Prelude.{◌≡◌, ◌≢◌, ℕ, IsTrue, Option, Some, None, IsSome, IfSome, List}
use Rattle.hc_board.specs.Trail.{Access}
use Rattle.hc_value.specs.declared.reply.Cause.TheVariants.{Space}
use Rattle.hc_heap.specs.Readings.{map_in, root_in}
use Rattle.hc_tree.specs.declared.need.Need.{Need}
use Rattle.hc_tree.specs.Needs.{HasSpace, no_need, with_need}
use Rattle.hc_table.specs.Changes.{Moved, Linked}
use Rattle.hc_table.specs.World.{Object}
use Rattle.hc_modes.specs.Becoming.{IsSpare}
use Rattle.hc_modes.specs.Came.{Steps}
use Rattle.hc_modes.specs.Changes.{KeptBut}
use Rattle.hc_modes.specs.Details.{LinkedDetails}
use Rattle.hc_slots.specs.Meaning.{Dictionary, dictionary_object}
use Rattle.hc_modes.specs.Meaning.{cause_in, kept_of}
use Rattle.hc_modes.specs.Modes.{Becomes, IsWithin, if_fast, link_need, proto_need}
use Rattle.hc_modes.specs.Rest.{Relinks}
use Rattle.hc_modes.specs.State.{ObjectsState}

-- the prototype that an operation names
abbrev pub if_named : Option ℕ → (ℕ → Need) → Need
if_named (Some p) need = need p
if_named None need = no_need

-- what the prototype that an operation names became: fast where there is room for its private map
abbrev pub IsNamed : {P : Type 0} → ObjectsState P → Option ℕ → ObjectsState P → Type 0
IsNamed a proto b = IfSome proto (λ p. Becomes (cause_in a.kept p) None (HasSpace a.heap.view (proto_need a.heap.view.trail p)) (cause_in b.kept p))

-- what it needed
abbrev pub named_need : {P : Type 0} → ObjectsState P → Option ℕ → ObjectsState P → Need
named_need a proto b = if_named proto (λ p. if_fast (cause_in b.kept p) (proto_need a.heap.view.trail p))

-- the dictionary of what is named as prototype
abbrev pub IsSpareOf : {P : Type 0} → ObjectsState P → Option ℕ → Option Dictionary → Type 0
IsSpareOf s (Some p) d = IsSpare s p d
IsSpareOf s None d = d ≡ None

-- what an object needs to be a prototype for which it makes this dictionary: nothing where it is slow, or is to be
abbrev pub spared_need : {P : Type 0} → ObjectsState P → ℕ → Option Dictionary → Need
spared_need s p (Some d) = no_need
spared_need s p None = if_fast (cause_in s.kept p) (proto_need s.heap.view.trail p)

-- what the prototype that is named needs
abbrev pub spared_named : {P : Type 0} → ObjectsState P → Option ℕ → Option Dictionary → Need
spared_named s (Some p) d = spared_need s p d
spared_named s None d = no_need

-- the dictionary of an object that stays fast where there is room
pub record IsFull (room : Type 0) (x : Object) (d : Dictionary) : Type 0 where
  pub full : room → ⊥
  pub cause : d.cause ≡ Space
  pub value : dictionary_object d ≡ x

abbrev pub IsSpareFor : Type 0 → Object → Option Dictionary → Type 0
IsSpareFor room x (Some d) = IsFull room x d
IsSpareFor room x None = room

-- a slow object is named as prototype
pub record NamesSlow {P : Type 0} (s : ObjectsState P) (proto : Option ℕ) : Type 0 where
  pub number : ℕ
  pub is : proto ≡ Some number
  pub slow : IsSome (kept_of s.kept number)

-- what was named as prototype is one now
pub record IsNamedNow {P : Type 0} (goes_with : P → List Access → List Access → P → Type 0) (a : ObjectsState P) (proto : Option ℕ) (b : ObjectsState P) : Type 0 where
  pub steps : Steps goes_with a Moved b
  pub mode : IsNamed a proto b
  pub used : b.heap.view.used ≡ with_need (named_need a proto b) a.heap.view.used
  pub named : IfSome proto (λ p. IsTrue (root_in b.heap.view.trail p).is_proto)
  pub protos : (q : ℕ) → proto ≢ Some q → (root_in b.heap.view.trail q).is_proto ≡ (root_in a.heap.view.trail q).is_proto
  pub roots : (q : ℕ) → (root_in b.heap.view.trail q).map ≡ (root_in a.heap.view.trail q).map
  pub maps : (q : ℕ) → proto ≢ Some q → map_in b.heap.view.trail q ≡ map_in a.heap.view.trail q
  pub others : (q : ℕ) → proto ≢ Some q → kept_of b.kept q ≡ kept_of a.kept q
  pub null : b.of_null ≡ a.of_null

-- an object got another prototype, which was one already
pub record IsLinkedNow {P : Type 0} (goes_with : P → List Access → List Access → P → Type 0) (a : ObjectsState P) (o : ℕ) (proto : Option ℕ) (b : ObjectsState P) : Type 0 where
  pub steps : Steps goes_with a (Linked o proto) b
  pub mode : Becomes (cause_in a.kept o) None (HasSpace a.heap.view (link_need a.heap.view.trail o proto a.of_null)) (cause_in b.kept o)
  pub needs : IsWithin (link_need a.heap.view.trail o proto a.of_null) a.heap.view.used b.heap.view.used
  pub protos : (q : ℕ) → (root_in b.heap.view.trail q).is_proto ≡ (root_in a.heap.view.trail q).is_proto
  pub others : KeptBut o a.kept b.kept
  pub relinks : Relinks a.heap.view.trail b.heap.view.trail o proto
  pub details : LinkedDetails a.heap.view a.kept a.of_null o proto b.heap.view.trail
