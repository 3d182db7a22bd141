use Rattle.hc_slots.proofs.Fitting.{filled-fits, filled-holds}
use Rattle.hc_slots.proofs.stores.fill_next.Goals as goal

pub returns-clause-fitted : goal.returns-clause-fitted
returns-clause-fitted g c = filled-fits c.args.h.now.view c.make_room.new.h.view c.put_slot.new.h.view c.args.object c.args.n c.args.word c.make_room.ensures.fitted c.put_slot.ensures.view

pub returns-clause-last : goal.returns-clause-last
returns-clause-last g c = filled-holds c.args.h.now.view c.make_room.new.h.view c.put_slot.new.h.view c.args.object c.args.n c.args.word c.make_room.ensures.fitted c.put_slot.ensures.view
