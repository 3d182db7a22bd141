use Rattle.hc_session.proofs.session.Session.begin.Goals as goal

pub invariant_of-self-2 : goal.invariant_of-self-2
invariant_of-self-2 g c = record {
  fresh = λ fresh. absurd (cc);
  shape_is = rw c.begin-begun.ensures.same c.self.invariant.shape_is;
  few = rw c.begin-begun.ensures.same c.self.invariant.few;
  calm = rw c.begin-begun.ensures.same c.self.invariant.calm;
  honest = rw c.begin-begun.ensures.same c.self.invariant.honest;
  names = c.self.invariant.names;
  good = rw c.begin-begun.ensures.same c.self.invariant.good;
  seen = rw c.begin-begun.ensures.same c.self.invariant.seen;
  reading = rw c.begin-begun.ensures.same (rw c.begin-begun.ensures.jobs c.self.invariant.reading);
  opened = rw c.begin-begun.ensures.jobs c.self.invariant.opened;
  planned = λ going. rw c.begin-begun.ensures.same (rw c.begin-begun.ensures.jobs (c.self.invariant.planned going));
}

pub returns-clause-stands : goal.returns-clause-stands
returns-clause-stands g c =
    record {
      sound = c.stands-2.ensures.sound;
      cells = c.stands-2.ensures.cells;
      desk = c.stands-2.ensures.desk;
      calm = rw c.begin-begun.ensures.same c.self.invariant.calm;
      honest = rw c.begin-begun.ensures.same c.self.invariant.honest;
    }
