use Rattle.std.proofs.Common.{inl, sym, subst}
use Rattle.std.proofs.lemmas.Result.{on_ok_weaker}
use Rattle.hc_facts.specs.Honest.{IsHonest}
use Rattle.hc_modes.specs.Laws.{fit-before}
use Rattle.hc_modes.specs.State.{ObjectsState}
use Rattle.hc_modes.proofs.objects.Objects.fit_other.Goals as goal

pub fit-requires-clause-honest : goal.fit-requires-clause-honest
fit-requires-clause-honest g c = subst (λ (s : ObjectsState g.row.P.Denot). IsHonest s.heap.view.trail) (sym c.is_other.ensures.still.is) c.requires.honest

pub returns-then-is_other-clause-made : goal.returns-then-is_other-clause-made
returns-then-is_other-clause-made g c = on_ok_weaker c.fit.result
    (λ made. inl (record {
      other = c.is_other.ensures.other.0 c.if-is_other.true;
      fit = fit-before g.P.Pace.went c.args.self.now c.is_other.new.self c.fit.new.self c.args.o c.args.i c.args.p.now.held c.is_other.ensures.still made;
    }))
    c.fit.ensures.made
