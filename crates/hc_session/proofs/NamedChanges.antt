-- Changes keep that each name and each text in the objects has its number among the names, where it holds of what they put in.
use Rattle.std.proofs.Common.{ℕ, zero, suc, Bool, List, [], ◌∷◌, ◌++◌, map}
use Rattle.std.specs.Prelude.{slice_set}
use Rattle.hc_value.specs.declared.prop.Held.{Held}
use Rattle.hc_value.specs.declared.prop.Prop.{Prop}
use Rattle.hc_table.specs.Attributes.{restricted}
use Rattle.hc_table.specs.Changes.{Did, Nothing, Moved, Created, Added, Wrote, Reconfigured, Removed, Linked, Locked, Restricted, after, removed_at}
use Rattle.hc_table.specs.World.{Object, World, props_at, held_at}
use Rattle.hc_report.specs.Named.{IsNamedHeld}
use Rattle.hc_session.specs.Named.{IsNamedProp, AreNamedProps, IsNamedWorld}

-- a world with one more object, or with another object in a place
pub object_added : (count : ℕ) (w : World) (new : Object) → IsNamedWorld count w → AreNamedProps count new.props → IsNamedWorld count (w ++ new ∷ [])
object_added count [] new named of_new zero = of_new
object_added count [] new named of_new (suc o) = tt
object_added count (x ∷ w) new named of_new zero = named 0
object_added count (x ∷ w) new named of_new (suc o) = object_added count w new (λ i. named (suc i)) of_new o

pub object_set : (count : ℕ) (w : World) (o : ℕ) (new : Object) → IsNamedWorld count w → AreNamedProps count new.props → IsNamedWorld count (slice_set w o new)
object_set count [] o new named of_new i = named i
object_set count (x ∷ w) zero new named of_new zero = of_new
object_set count (x ∷ w) zero new named of_new (suc i) = named (suc i)
object_set count (x ∷ w) (suc o) new named of_new zero = named 0
object_set count (x ∷ w) (suc o) new named of_new (suc i) = object_set count w o new (λ k. named (suc k)) of_new i

-- properties with one more, another, or one less, and restricted ones
pub props_added : (count : ℕ) (ps : List Prop) (p : Prop) → AreNamedProps count ps → IsNamedProp count p → AreNamedProps count (ps ++ p ∷ [])
props_added count [] p named of_new = (of_new, tt)
props_added count (q ∷ ps) p named of_new = (named.0, props_added count ps p named.1 of_new)

props_written : (count : ℕ) (ps : List Prop) (i : ℕ) (held : Held) → AreNamedProps count ps → IsNamedHeld count held → AreNamedProps count (held_at ps i held)
props_written count [] i held named of_new = tt
props_written count (p ∷ ps) zero held named of_new = (record { name = named.0.name; held = of_new }, named.1)
props_written count (p ∷ ps) (suc i) held named of_new = (named.0, props_written count ps i held named.1 of_new)

props_set : (count : ℕ) (ps : List Prop) (i : ℕ) (p : Prop) → AreNamedProps count ps → IsNamedProp count p → AreNamedProps count (slice_set ps i p)
props_set count [] i p named of_new = tt
props_set count (q ∷ ps) zero p named of_new = (of_new, named.1)
props_set count (q ∷ ps) (suc i) p named of_new = (named.0, props_set count ps i p named.1 of_new)

props_removed : (count : ℕ) (ps : List Prop) (i : ℕ) → AreNamedProps count ps → AreNamedProps count (removed_at ps i)
props_removed count [] i named = tt
props_removed count (p ∷ ps) zero named = named.1
props_removed count (p ∷ ps) (suc i) named = (named.0, props_removed count ps i named.1)

props_restricted : (count : ℕ) (frozen : Bool) (ps : List Prop) → AreNamedProps count ps → AreNamedProps count (map (restricted frozen) ps)
props_restricted count frozen [] named = tt
props_restricted count frozen (p ∷ ps) named =
    (record { name = named.0.name; held = named.0.held }, props_restricted count frozen ps named.1)

-- what a change puts in has such a name, and such a text
abbrev pub IsNamedDid : ℕ → Did → Type 0
IsNamedDid count (Added o p) = IsNamedProp count p
IsNamedDid count (Wrote o i held) = IsNamedHeld count held
IsNamedDid count (Reconfigured o i p) = IsNamedProp count p
IsNamedDid count did = Unit {0}

pub after_named : (count : ℕ) (did : Did) (w : World) → IsNamedDid count did → IsNamedWorld count w → IsNamedWorld count (after did w)
after_named count Nothing w of_did named = named
after_named count Moved w of_did named = named
after_named count (Created proto) w of_did named = object_added count w _ named tt
after_named count (Added o p) w of_did named = object_set count w o _ named (props_added count (props_at w o) p (named o) of_did)
after_named count (Wrote o i held) w of_did named = object_set count w o _ named (props_written count (props_at w o) i held (named o) of_did)
after_named count (Reconfigured o i p) w of_did named = object_set count w o _ named (props_set count (props_at w o) i p (named o) of_did)
after_named count (Removed o i) w of_did named = object_set count w o _ named (props_removed count (props_at w o) i (named o))
after_named count (Linked o proto) w of_did named = object_set count w o _ named (named o)
after_named count (Locked o) w of_did named = object_set count w o _ named (named o)
after_named count (Restricted o frozen) w of_did named = object_set count w o _ named (props_restricted count frozen (props_at w o) (named o))
