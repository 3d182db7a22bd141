use Rattle.std.proofs.Common.{◌≡◌, ◌<◌, length, subst, Some, None, ap, sym, ◌∙◌}
use Rattle.std.specs.Prelude.{slice_get}
use Rattle.hc_table.specs.World.{Object}
use Rattle.hc_modes.specs.Meaning.{kept_of}
use Rattle.hc_modes.proofs.Shown.{slow-shown, fast-shown, fast-has, proper-shown}
use Rattle.hc_modes.proofs.objects.Objects.prop_at.Goals as goal

pub prop-requires : goal.prop-requires
prop-requires g c =
    let d = c.in-Some.slow.now in
    let is : kept_of c.args.self.now.kept c.args.o ≡ Some d = sym c.in-Some.ensures in
    subst (λ (x : Object). c.args.i < length x.props) (slow-shown _ _ c.args.o c.self.view_is c.requires.object d is) c.requires.place

pub returns-in-Some-clause-prop : goal.returns-in-Some-clause-prop
returns-in-Some-clause-prop g c =
    let d = c.in-Some.slow.now in
    let is : kept_of c.args.self.now.kept c.args.o ≡ Some d = sym c.in-Some.ensures in
    ap (λ (x : Object). slice_get x.props c.args.i) (slow-shown _ _ c.args.o c.self.view_is c.requires.object d is) ∙ c.prop.ensures.prop

pub returns-in-Some-clause-proper : goal.returns-in-Some-clause-proper
returns-in-Some-clause-proper g c =
    let d = c.in-Some.slow.now in
    let is : kept_of c.args.self.now.kept c.args.o ≡ Some d = sym c.in-Some.ensures in
    proper-shown _ _ c.args.o c.self.view_is c.requires.object c.args.i c.prop.result c.self.invariant (ap (λ (x : Object). slice_get x.props c.args.i) (slow-shown _ _ c.args.o c.self.view_is c.requires.object d is) ∙ c.prop.ensures.prop)

pub prop_at-requires-clause-fast : goal.prop_at-requires-clause-fast
prop_at-requires-clause-fast g c =
    let is : kept_of c.args.self.now.kept c.args.o ≡ None = sym c.in_default.ensures in
    fast-has _ _ c.args.o c.self.view_is c.requires.object c.self.invariant is

pub prop_at-requires-clause-place : goal.prop_at-requires-clause-place
prop_at-requires-clause-place g c =
    let is : kept_of c.args.self.now.kept c.args.o ≡ None = sym c.in_default.ensures in
    subst (λ (x : Object). c.args.i < length x.props) (fast-shown _ _ c.args.o c.self.view_is c.requires.object is) c.requires.place

pub returns-clause-prop : goal.returns-clause-prop
returns-clause-prop g c =
    let is : kept_of c.args.self.now.kept c.args.o ≡ None = sym c.in_default.ensures in
    ap (λ (x : Object). slice_get x.props c.args.i) (fast-shown _ _ c.args.o c.self.view_is c.requires.object is) ∙ c.prop_at.ensures.prop

pub returns-clause-proper : goal.returns-clause-proper
returns-clause-proper g c =
    let is : kept_of c.args.self.now.kept c.args.o ≡ None = sym c.in_default.ensures in
    proper-shown _ _ c.args.o c.self.view_is c.requires.object c.args.i c.prop_at.result c.self.invariant (ap (λ (x : Object). slice_get x.props c.args.i) (fast-shown _ _ c.args.o c.self.view_is c.requires.object is) ∙ c.prop_at.ensures.prop)
