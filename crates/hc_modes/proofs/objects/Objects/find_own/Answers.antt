use Rattle.std.proofs.Common.{◌≡◌, ◌+◌, length, Some, None, ap, sym, ◌∙◌, subst}
use Rattle.hc_table.specs.World.{Object, place_of, props_at}
use Rattle.hc_heap.specs.States.{OnlyLoads}
use Rattle.hc_modes.specs.Came.{world_of}
use Rattle.hc_modes.specs.Meaning.{kept_of}
use Rattle.hc_modes.specs.State.{ObjectsState}
use Rattle.hc_modes.proofs.Shown.{slow-shown, fast-shown, fast-has}
use Rattle.hc_modes.proofs.objects.Objects.find_own.Goals as goal

pub returns-in-Some-clause-place : goal.returns-in-Some-clause-place
returns-in-Some-clause-place g c =
    let d = c.in-Some.slow.now in
    let is : kept_of c.args.self.now.kept c.args.o ≡ Some d = sym c.in-Some.ensures in
    c.find.ensures.place ∙ sym (ap (λ (x : Object). place_of x.props c.args.name) (slow-shown _ _ c.args.o c.self.view_is c.requires d is))

pub find-requires-2 : goal.find-requires-2
find-requires-2 g c =
    let is : kept_of c.args.self.now.kept c.args.o ≡ None = sym c.in_default.ensures in
    record { fast = fast-has _ _ c.args.o c.self.view_is c.requires c.self.invariant is }

pub returns-clause-place : goal.returns-clause-place
returns-clause-place g c =
    let is : kept_of c.args.self.now.kept c.args.o ≡ None = sym c.in_default.ensures in
    subst (λ (x : Object). c.find-2.result ≡ place_of x.props c.args.name) (sym (fast-shown _ _ c.args.o c.self.view_is c.requires is)) c.find-2.ensures.place

pub returns-clause-loads : goal.returns-clause-loads
returns-clause-loads g c =
    let is : kept_of c.args.self.now.kept c.args.o ≡ None = sym c.in_default.ensures in
    subst (λ (s : ObjectsState g.row.P.Denot). OnlyLoads (length (props_at (world_of c.args.self.now) c.args.o) + 3) s.heap.desk c.find-2.new.h.desk) c.self.view_is
    (subst (λ (x : Object). OnlyLoads (length x.props + 3) c.self.inside.heap.desk c.find-2.new.h.desk) (sym (fast-shown _ _ c.args.o c.self.view_is c.requires is)) c.find-2.ensures.loads)
