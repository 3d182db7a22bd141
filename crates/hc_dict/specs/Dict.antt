-- What `Dict` keeps: seats, some of them empty, and the seat of each name.
use Rattle.std.specs.Prelude.{◌≡◌, ℕ, zero, suc, ◌+◌, ◌-◌, ◌*◌, min, ◌<◌, ◌≤◌, List, [], ◌∷◌, length, Option, Some, None, option_map, if◌then◌else◌, ◌==◌, nat_eq, slice_index_or}
use Rattle.std.specs.List.{AllByRecursion}
use Rattle.std.specs.Map.{lookup}
use Rattle.hc_value.specs.declared.prop.Prop.{Prop}
use Rattle.hc_table.specs.Numbers.{IsNameNumber}
use Rattle.hc_table.specs.World.{HaveDistinctNames}

-- the properties that stand in seats, in order
abbrev pub seated : List (Option Prop) → List Prop
seated [] = []
seated (None ∷ seats) = seated seats
seated (Some p ∷ seats) = p ∷ seated seats

-- how many properties stand before a seat
abbrev pub before : List (Option Prop) → ℕ → ℕ
before [] n = 0
before (seat ∷ seats) zero = 0
before (None ∷ seats) (suc n) = before seats n
before (Some p ∷ seats) (suc n) = suc (before seats n)

-- the property that stands in a seat
abbrev pub prop_seated : List (Option Prop) → ℕ → Option Prop
prop_seated seats n = slice_index_or seats n None

-- the seat in which the property of a name stands
abbrev pub seat_of : List (Option Prop) → ℕ → Option ℕ
seat_of [] name = None
seat_of (None ∷ seats) name = option_map suc (seat_of seats name)
seat_of (Some p ∷ seats) name = if p.name == name then Some 0 else option_map suc (seat_of seats name)

-- the empty seats are counted, and so are the properties in each block of 64 seats
pub record AreCounted (seats : List (Option Prop)) (counts : List ℕ) (empty : ℕ) : Type 0 where
  pub gaps : empty + length (seated seats) ≡ length seats
  pub covered : length seats ≤ 64 * length counts
  pub counted : (b : ℕ) → slice_index_or counts b 0 + before seats (64 * b) ≡ before seats (64 * (b + 1))

-- names differ, and each is a number that a name may have
pub record AreNamed (props : List Prop) : Type 0 where
  pub distinct : HaveDistinctNames props
  pub numbers : AllByRecursion (λ p. IsNameNumber p.name) props

-- each name leads to the seat of its property, and no other name leads anywhere
abbrev pub LeadToSeats : List (ℕ × ℕ) → List (Option Prop) → Type 0
LeadToSeats entries seats = (name : ℕ) → lookup (nat_eq name) entries ≡ seat_of seats name

-- the properties have names of their own, and are found by them
pub record AreFound (seats : List (Option Prop)) (entries : List (ℕ × ℕ)) : Type 0 where
  pub named : AreNamed (seated seats)
  pub found : LeadToSeats entries seats
  pub as_many : length entries ≡ length (seated seats)

-- the counts of so many seats of which none is empty
abbrev pub FullCounts : List ℕ → ℕ → Type 0
FullCounts counts len = (b : ℕ) → b < length counts → slice_index_or counts b 0 ≡ min 64 (len - 64 * b)
