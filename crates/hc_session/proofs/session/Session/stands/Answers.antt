use Rattle.std.proofs.Common.{subst}
use Rattle.hc_session.specs.Standing.{Standing}
use Rattle.hc_session.specs.State.{Stands}
use Rattle.hc_session.proofs.session.Session.stands.Goals as goal

pub returns-clause-stands : goal.returns-clause-stands
returns-clause-stands g c = subst (λ (s : Standing _). Stands s.objects) c.self.view_is
    (record { sound = c.stands.ensures.sound; cells = c.stands.ensures.cells; desk = c.stands.ensures.desk; calm = c.self.invariant.calm; honest = c.self.invariant.honest })
