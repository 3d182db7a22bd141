use Rattle.std.proofs.Common.{◌≡◌, ℕ, Option, length, sym, ap, subst, ◌∙◌, eqb, false, arith}
use Rattle.std.proofs.lemmas.Bool.Decides.{nat_tests}
use Rattle.hc_table.specs.Changes.{Nothing, IsThere, reaches, reaches_among}
use Rattle.hc_table.specs.World.{World, IsWorld, object}
use Rattle.hc_ops.proofs.Walks.{walk-other, walk-there, walk-fewer}
use Rattle.hc_ops.proofs.walk.comes_to.Goals as goal

pub loop-at-smaller : goal.loop-at-smaller
loop-at-smaller g c =
    let w = g.T.Tables.world c.args.t.now in
    let i = c.loop-at.invariant in
    let sound : IsWorld w = subst IsWorld i.same c.proto-next.ensures.sound in
    let next = c.proto-next.ensures.proto ∙ ap (λ (v : World). (object v c.in-Some.q).proto) i.same in
    walk-fewer w c.loop-at.at c.in-Some.q c.in-Some.is i.there sound
    (g.T.Tables.world c.proto-next.new.self) (g.T.Tables.world c.loop-at.t) (c.proto-next.ensures.same ∙ i.same) i.same c.proto-next.result next

pub loop-at-preserved : goal.loop-at-preserved
loop-at-preserved g c =
    let w = g.T.Tables.world c.args.t.now in
    let i = c.loop-at.invariant in
    let sound : IsWorld w = subst IsWorld i.same c.proto-next.ensures.sound in
    let next = c.proto-next.ensures.proto ∙ ap (λ (v : World). (object v c.in-Some.q).proto) i.same in
    let other : eqb c.in-Some.q c.args.o ≡ false = grind (arith, nat_tests, c.if-q-o.false) in
    record {
      same = c.proto-next.ensures.same ∙ i.same;
      same_limit = c.proto-next.ensures.same_limit ∙ i.same_limit;
      still = g.met.T.Tables.nothing_before c.args.t.now c.loop-at.t c.proto-next.new.self Nothing i.still c.proto-next.ensures.still;
      there = subst (IsThere w) (sym next) (walk-there w c.loop-at.at c.in-Some.q c.in-Some.is i.there sound);
      rest = ap (λ (p : Option ℕ). reaches_among (length w) w p c.args.o) next
          ∙ walk-other w c.loop-at.at c.in-Some.q c.in-Some.is i.there sound c.args.o (reaches w c.args.proto c.args.o) i.rest other;
    }
