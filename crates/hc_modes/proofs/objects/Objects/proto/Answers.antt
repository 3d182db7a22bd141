use Rattle.std.proofs.Common.{◌≡◌, Some, None, ap, sym, ◌∙◌}
use Rattle.hc_table.specs.World.{Object}
use Rattle.hc_modes.specs.Meaning.{kept_of}
use Rattle.hc_modes.proofs.Shown.{slow-shown, fast-shown, fast-has}
use Rattle.hc_modes.proofs.objects.Objects.proto.Goals as goal

pub returns-in-Some-clause-proto : goal.returns-in-Some-clause-proto
returns-in-Some-clause-proto g c =
    let d = c.in-Some.slow.now in
    let is : kept_of c.args.self.now.kept c.args.o ≡ Some d = sym c.in-Some.ensures in
    sym (ap (λ (x : Object). x.proto) (slow-shown _ _ c.args.o c.self.view_is c.requires d is))

pub proto-requires : goal.proto-requires
proto-requires g c =
    let is : kept_of c.args.self.now.kept c.args.o ≡ None = sym c.in_default.ensures in
    record { fast = fast-has _ _ c.args.o c.self.view_is c.requires c.self.invariant is }

pub returns-clause-proto : goal.returns-clause-proto
returns-clause-proto g c =
    let is : kept_of c.args.self.now.kept c.args.o ≡ None = sym c.in_default.ensures in
    c.proto.ensures.proto ∙ sym (ap (λ (x : Object). x.proto) (fast-shown _ _ c.args.o c.self.view_is c.requires is))
