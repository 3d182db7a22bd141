use Rattle.std.proofs.Common.{◌≡◌, Some, None, ap, sym, ◌∙◌}
use Rattle.hc_table.specs.World.{Object}
use Rattle.hc_modes.specs.Meaning.{kept_of}
use Rattle.hc_modes.proofs.Shown.{slow-shown, fast-shown, fast-has}
use Rattle.hc_modes.proofs.objects.Objects.extensible.Goals as goal

pub returns-in-Some-clause-extensible : goal.returns-in-Some-clause-extensible
returns-in-Some-clause-extensible g c =
    let d = c.in-Some.slow.now in
    let is : kept_of c.args.self.now.kept c.args.o ≡ Some d = sym c.in-Some.ensures in
    sym (ap (λ (x : Object). x.extensible) (slow-shown _ _ c.args.o c.self.view_is c.requires d is))

pub extensible-requires : goal.extensible-requires
extensible-requires g c =
    let is : kept_of c.args.self.now.kept c.args.o ≡ None = sym c.in_default.ensures in
    record { fast = fast-has _ _ c.args.o c.self.view_is c.requires c.self.invariant is }

pub returns-clause-extensible : goal.returns-clause-extensible
returns-clause-extensible g c =
    let is : kept_of c.args.self.now.kept c.args.o ≡ None = sym c.in_default.ensures in
    c.extensible.ensures.extensible ∙ sym (ap (λ (x : Object). x.extensible) (fast-shown _ _ c.args.o c.self.view_is c.requires is))
