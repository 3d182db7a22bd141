use Rattle.std.proofs.Common.{◌≡◌, ◌∙◌, true, false, sym, subst}
use Rattle.hc_heap.specs.Readings.{root_in}
use Rattle.hc_tree.specs.Needs.{HasSpace}
use Rattle.hc_facts.specs.Honest.{IsHonest}
use Rattle.hc_modes.specs.Details.{DetailsAre, GetsNothing, HasRewalked}
use Rattle.hc_tree.specs.Details.{NoMap}
use Rattle.hc_modes.specs.Modes.{link_need}
use Rattle.hc_modes.specs.Rest.{DeathsAre}
use Rattle.hc_modes.specs.State.{ObjectsState}
use Rattle.hc_modes.proofs.Gets.{private-details, shared-details}
use Rattle.hc_modes.proofs.Inherited.{fast-linked}
use Rattle.hc_modes.proofs.objects.Objects.link_fast.Goals as goal

pub returns-then-is_proto : goal.returns-then-is_proto
returns-then-is_proto g c =
    let a = c.args.self.now in
    let b = c.is_proto.new.self in
    let o = c.args.o in
    let proto = c.args.proto in
    let still = c.is_proto.ensures.still in
    let space : HasSpace b.heap.view (link_need b.heap.view.trail o proto b.of_null) = subst (λ (s : ObjectsState g.row.P.Denot). HasSpace s.heap.view (link_need s.heap.view.trail o proto s.of_null)) (sym still.is) c.requires.space in
    let yes = c.link_private.ensures.room.1 space in
    let is : (root_in a.heap.view.trail o).is_proto ≡ true = sym c.is_proto.ensures.value ∙ c.if-is_proto.true in
    let details = private-details a.heap.view a.kept a.of_null o proto c.link_private.new.self.heap.view.trail is
    (subst (λ (s : ObjectsState g.row.P.Denot). DetailsAre GetsNothing s.heap.view.trail c.link_private.new.self.heap.view.trail) still.is (c.link_private.ensures.details yes))
    (subst (λ (s : ObjectsState g.row.P.Denot). DeathsAre NoMap s.heap.view.trail c.link_private.new.self.heap.view.trail) still.is (c.link_private.ensures.deaths yes)) in
    record {
      linked = fast-linked g.P.Pace.went a b c.link_private.new.self o proto still c.requires.fast c.requires.space (c.link_private.ensures.linked yes) c.link_private.ensures.needs c.link_private.ensures.protos c.link_private.ensures.kept (c.link_private.ensures.relinks yes) details;
    }

pub returns : goal.returns
returns g c =
    let a = c.args.self.now in
    let b = c.is_proto.new.self in
    let o = c.args.o in
    let proto = c.args.proto in
    let still = c.is_proto.ensures.still in
    let space : HasSpace b.heap.view (link_need b.heap.view.trail o proto b.of_null) = subst (λ (s : ObjectsState g.row.P.Denot). HasSpace s.heap.view (link_need s.heap.view.trail o proto s.of_null)) (sym still.is) c.requires.space in
    let yes = c.link_shared.ensures.room.1 space in
    let is : (root_in a.heap.view.trail o).is_proto ≡ false = sym c.is_proto.ensures.value ∙ c.if-is_proto.false in
    let details = shared-details a.heap.view a.kept a.of_null o proto c.link_shared.new.self.heap.view.trail c.requires.fast c.requires.space is
    (subst (λ (s : ObjectsState g.row.P.Denot). HasRewalked s.heap.view s.of_null o proto c.link_shared.new.self.heap.view.trail) still.is (c.link_shared.ensures.details yes)) in
    record {
      linked = fast-linked g.P.Pace.went a b c.link_shared.new.self o proto still c.requires.fast c.requires.space (c.link_shared.ensures.linked yes) c.link_shared.ensures.needs c.link_shared.ensures.protos c.link_shared.ensures.kept (c.link_shared.ensures.relinks yes) details;
    }

pub link_shared-requires-clause-honest : goal.link_shared-requires-clause-honest
link_shared-requires-clause-honest g c = subst (λ (s : ObjectsState g.row.P.Denot). IsHonest s.heap.view.trail) (sym c.is_proto.ensures.still.is) c.requires.honest
