-- What is read from objects has its names and texts among the names.
use Rattle.std.proofs.Common.{ℕ, zero, suc, ◌<◌, Bool, true, false, List, [], ◌∷◌, length, map, Option, Some, None}
use Rattle.std.specs.Prelude.{All, IfSome, if◌then◌else◌, ◌==◌}
use Rattle.std.proofs.lemmas.List.Elements.{All-nil, All-cons}
use Rattle.hc_value.specs.declared.prop.Held.{Held}
use Rattle.hc_value.specs.declared.prop.Held.TheVariants.{Datum, Pair}
use Rattle.hc_value.specs.declared.prop.Prop.{Prop}
use Rattle.hc_table.specs.World.{World, object, props_at, property_of}
use Rattle.hc_ops.specs.Found.{own_reply}
use Rattle.hc_ops.specs.Get.{read_of, read_nearest, get_reply}
use Rattle.hc_ops.specs.Keys.{keys_reply}
use Rattle.hc_ops.specs.Nearest.{Nearest, own_or_further, nearest_among, nearest}
use Rattle.hc_report.specs.Named.{IsNamedHeld, IsNamedReply}
use Rattle.hc_session.specs.Named.{AreNamedProps, IsNamedWorld}

-- what was found holds such a text alone
abbrev IsNamedProperty : ℕ → Option Prop → Type 0
IsNamedProperty count property = IfSome property (λ p. IsNamedHeld count p.held)

abbrev IsNamedNearest : ℕ → Option Nearest → Type 0
IsNamedNearest count found = IfSome found (λ f. IsNamedHeld count f.property.held)

either_property : (count : ℕ) (b : Bool) (p q : Option Prop) → IsNamedProperty count p → IsNamedProperty count q → IsNamedProperty count (if b then p else q)
either_property count true p q first second = first
either_property count false p q first second = second

property_named : (count : ℕ) (ps : List Prop) (name : ℕ) → AreNamedProps count ps → IsNamedProperty count (property_of ps name)
property_named count [] name named = tt
property_named count (p ∷ ps) name named =
    either_property count (p.name == name) _ _ named.0.held (property_named count ps name named.1)

-- an own property, or one of a prototype
own_or_named : (count o : ℕ) (own : Option Prop) (further : Option Nearest) → IsNamedProperty count own → IsNamedNearest count further → IsNamedNearest count (own_or_further o own further)
own_or_named count o None further first second = second
own_or_named count o (Some p) further first second = first

among_named : (count n : ℕ) (w : World) (o : Option ℕ) (name : ℕ) → IsNamedWorld count w → IsNamedNearest count (nearest_among n w o name)
among_named count n w None name named = tt
among_named count zero w (Some o) name named = tt
among_named count (suc n) w (Some o) name named =
    own_or_named count o (property_of (object w o).props name) _
    (property_named count (object w o).props name (named o)) (among_named count n w (object w o).proto name named)

read_named : (count o : ℕ) (held : Held) → IsNamedHeld count held → IsNamedReply count (read_of o held)
read_named count o (Datum value) named = named
read_named count o (Pair None setter) named = tt
read_named count o (Pair (Some getter) setter) named = tt

reading_named : (count o : ℕ) (found : Option Nearest) → IsNamedNearest count found → IsNamedReply count (read_nearest o found)
reading_named count o None named = tt
reading_named count o (Some found) named = read_named count o found.property.held named

pub get_named : (count : ℕ) (w : World) (o name : ℕ) → IsNamedWorld count w → IsNamedReply count (get_reply w o name)
get_named count w o name named = reading_named count o (nearest w o name) (among_named count (length w) w (Some o) name named)

pub own_named : (count : ℕ) (w : World) (o name : ℕ) → IsNamedWorld count w → IsNamedReply count (own_reply w o name)
own_named count w o name named = property_named count (props_at w o) name (named o)

names_named : (count : ℕ) (ps : List Prop) → AreNamedProps count ps → All (λ name. name < count) (map (λ (p : Prop). p.name) ps)
names_named count [] named = All-nil (λ (name : ℕ). name < count)
names_named count (p ∷ ps) named = All-cons (λ (name : ℕ). name < count) p.name _ named.0.name (names_named count ps named.1)

pub keys_named : (count : ℕ) (w : World) (o : ℕ) → IsNamedWorld count w → IsNamedReply count (keys_reply w o)
keys_named count w o named = names_named count (props_at w o) (named o)
