use Rattle.std.proofs.Common.{◌≡◌, Bool, true, false, cond, Some, refl, sym, ap, ◌∙◌}
use Rattle.std.specs.Map.{lookup}
use Rattle.hc_index.specs.Links.{child_known, edge_of, same_edge}
use Rattle.hc_index.proofs.Edges.{one_edge, when_ok}
use Rattle.hc_index.proofs.links.LinkIndex.tell.Goals as goal

pub returns-else-is_err-clause-others : goal.returns-else-is_err-clause-others
returns-else-is_err-clause-others c = λ m k apart.
    let updates = when_ok c.insert.result _ (sym c.is_err.ensures.value ∙ c.if-is_err.false) c.insert.ensures.updates in
    let old = child_known c.args.self.now m k in
    let told : (b : Bool) → same_edge (edge_of c.args.map c.args.key) (edge_of m k) ≡ b → cond b (Some c.args.child) old ≡ old =
    λ b. elim b as (λ b. same_edge (edge_of c.args.map c.args.key) (edge_of m k) ≡ b → cond b (Some c.args.child) old ≡ old)
    [ true ↦ (λ e. let one = one_edge c.args.map m c.args.key k e in absurd (apart (sym one.0, sym one.1))) | false ↦ (λ e. refl) ] in
    let first : lookup (same_edge (edge_of m k)) c.insert.new.self.entries ≡ cond (same_edge c.told_by-edge.result (edge_of m k)) (Some c.args.child) (lookup (same_edge (edge_of m k)) c.self.inside.children.entries) =
    updates.0 (edge_of m k) in
    first
    ∙ ap (λ edge. cond (same_edge edge (edge_of m k)) (Some c.args.child) (lookup (same_edge (edge_of m k)) c.self.inside.children.entries)) c.told_by-edge.ensures
    ∙ ap (λ v. cond (same_edge (edge_of c.args.map c.args.key) (edge_of m k)) (Some c.args.child) (child_known v m k)) c.self.view_is
    ∙ told _ refl
