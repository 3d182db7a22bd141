use Rattle.std.proofs.Common.{ℕ, Option, length, refl, sym, ap, subst, arith}
use Rattle.hc_objects.specs.Following.{IsInvalidatedAt}
use Rattle.hc_objects.proofs.Alone.{alone-faithful, alone-none}
use Rattle.hc_objects.proofs.Standing.{invalidated-some}
use Rattle.hc_objects.proofs.Told.{count-told}
use Rattle.hc_objects.proofs.following.invalidate_at.Goals as goal

pub returns-in_default-clause-invalidated : goal.returns-in_default-clause-invalidated
returns-in_default-clause-invalidated g c =
    let a = c.args.inside.now in
    let none = c.in_default.is in
    subst (λ (at : Option ℕ). IsInvalidatedAt g.P.Pace.went a at a) (sym none)
    (record { only = alone-none g.P.Pace.went g.met.P.Pace.stays a c.stands.ensures.sound; sound = c.stands.ensures.sound; cells = λ k. refl; named = λ q. refl; used = refl })

pub invalidate-requires-clause-room : goal.invalidate-requires-clause-room
invalidate-requires-clause-room g c =
    let size = c.requires.size in
    let told = ap length c.requires.told in
    let count = count-told c.args.inside.now in
    omega (arith, size, told, count)

pub returns-clause-invalidated : goal.returns-clause-invalidated
returns-clause-invalidated g c =
    let a = c.args.inside.now in
    let b = c.invalidate.new.self in
    subst (λ (at : Option ℕ). IsInvalidatedAt g.P.Pace.went a at b) (sym c.in-Some.is)
    (invalidated-some g.P.Pace.went a b c.in-Some.o c.args.protos.now c.requires.told c.invalidate.ensures.only c.stands-2.ensures.sound c.invalidate.ensures.after c.invalidate.ensures.writes c.invalidate.ensures.view)

pub returns-clause-faithful : goal.returns-clause-faithful
returns-clause-faithful g c = alone-faithful g.P.Pace.went c.args.inside.now c.invalidate.new.self c.invalidate.ensures.only c.requires.faithful
