use Rattle.std.proofs.Common.{◌≡◌, ℕ, List, Some, [], ◌∷◌, ◌++◌, ap, subst, ◌∙◌}
use Rattle.std.specs.Prelude.{slice_get}
use Rattle.hc_table.specs.Changes.{Nothing}
use Rattle.hc_table.specs.World.{World, props_at}
use Rattle.hc_ops.proofs.Places.{names-next}
use Rattle.hc_ops.proofs.read.keys.Goals as goal

pub loop-i-preserved : goal.loop-i-preserved
loop-i-preserved g c =
    let w = g.T.Tables.world c.args.t.now in
    let i = c.loop-i.invariant in
    let p = c.prop_at-p.result in
    let at = subst (λ (v : World). slice_get (props_at v c.args.o) c.loop-i.i ≡ Some p) i.same c.prop_at-p.ensures.prop in
    let pushed : c.push.new.self.items ≡ c.loop-i.names.items ++ p.name ∷ [] = c.in_ok-push.ensures.items in
    record {
      same = c.prop_at-p.ensures.same ∙ i.same;
      same_limit = c.prop_at-p.ensures.same_limit ∙ i.same_limit;
      still = g.met.T.Tables.nothing_before c.args.t.now c.loop-i.t c.prop_at-p.new.self Nothing i.still c.prop_at-p.ensures.still;
      names = pushed ∙ ap (λ (ns : List ℕ). ns ++ p.name ∷ []) i.names ∙ names-next (props_at w c.args.o) c.loop-i.i p at;
    }
