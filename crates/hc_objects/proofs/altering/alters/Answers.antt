use Rattle.std.proofs.Common.{◌≡◌, true, sym, subst}
use Rattle.std.specs.Prelude.{not}
use Rattle.hc_modes.specs.Came.{world_of}
use Rattle.hc_objects.specs.Changes.{Alters, MayChange}
use Rattle.hc_objects.specs.declared.change.Change.{Change}
use Rattle.hc_objects.proofs.Altered.{alters-put, alters-remove, alters-write, not-not, not-so}
use Rattle.hc_objects.proofs.altering.alters.Goals as goal

pub returns-in-Write-clause-alters : goal.returns-in-Write-clause-alters
returns-in-Write-clause-alters g c =
    let w = world_of c.args.inside.now in
    let r = c.holds.result in
    subst (λ (k : Change). Alters w c.args.o k (not r)) (sym c.in-Write.is)
    (alters-write w c.args.o c.requires.object c.in-Write.i c.in-Write.held c.prop_at.result (not r) c.prop_at.ensures.prop
    (not-so r (c.prop_at.result.held ≡ c.in-Write.held) c.holds.ensures.1) (not-not r (c.prop_at.result.held ≡ c.in-Write.held) c.holds.ensures.0))

pub returns-in-Put-clause-alters : goal.returns-in-Put-clause-alters
returns-in-Put-clause-alters g c =
    let w = world_of c.args.inside.now in
    let r = c.is_same.result in
    subst (λ (k : Change). Alters w c.args.o k (not r)) (sym c.in-Put.is)
    (alters-put w c.args.o c.requires.object c.in-Put.i c.in-Put.p c.prop_at-in-Put.result (not r) c.prop_at-in-Put.ensures.prop
    (not-so r (c.prop_at-in-Put.result ≡ c.in-Put.p) c.is_same.ensures.1) (not-not r (c.prop_at-in-Put.result ≡ c.in-Put.p) c.is_same.ensures.0))

pub returns-in-Remove-clause-alters : goal.returns-in-Remove-clause-alters
returns-in-Remove-clause-alters g c =
    let w = world_of c.args.inside.now in
    let may = subst (λ (k : Change). MayChange w c.args.o k) c.in-Remove.is c.requires.may in
    subst (λ (k : Change). Alters w c.args.o k true) (sym c.in-Remove.is) (alters-remove w c.args.o c.requires.object c.in-Remove.field-0 may)
