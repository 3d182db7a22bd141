use Rattle.std.proofs.Common.{◌≡◌, None, true, ap, sym, ◌∙◌, subst}
use Rattle.hc_layout.specs.declared.words.RootWord.{RootWord}
use Rattle.hc_heap.specs.Readings.{root_in}
use Rattle.hc_tree.specs.Needs.{HasSpace}
use Rattle.hc_modes.specs.Meaning.{kept_of}
use Rattle.hc_modes.specs.Modes.{proto_need}
use Rattle.hc_modes.specs.State.{ObjectsState}
use Rattle.hc_modes.proofs.Become.{proto-none, space-none}
use Rattle.hc_modes.proofs.objects.Objects.spare.Goals as goal

pub returns-then-object_root-clause-spare : goal.returns-then-object_root-clause-spare
returns-then-object_root-clause-spare g c =
    let v = c.self.inside.heap.view in
    let p = c.args.p in
    let marked : (root_in v.trail p).is_proto ≡ true = sym (ap (λ (r : RootWord). r.is_proto) c.object_root.ensures.value) ∙ c.if-object_root.true in
    subst (λ (s : ObjectsState g.row.P.Denot). kept_of s.kept p ≡ None → HasSpace s.heap.view (proto_need s.heap.view.trail p)) c.self.view_is
    (λ fast. subst (HasSpace v) (sym (proto-none v p marked)) (space-none v c.self.invariant.heap))
