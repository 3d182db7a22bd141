use Rattle.std.proofs.Common.{sym, subst}
use Rattle.hc_facts.specs.Honest.{IsHonest}
use Rattle.hc_heap.specs.States.{HeapState}
use Rattle.hc_modes.proofs.relinks.link_object.Goals as goal

pub of_retarget-requires : goal.of_retarget-requires
of_retarget-requires g c = record { few = (c.gates_are_open.ensures.law c.args.h.now.view.shape c.args.h.now.view.trail c.args.map _ c.stands.ensures.heap.lawful c.requires.open).few }

pub relink-requires-clause-honest : goal.relink-requires-clause-honest
relink-requires-clause-honest g c = subst (λ (s : HeapState g.row.P.Denot). IsHonest s.view.trail) (sym c.known_root-known.ensures.still) c.requires.honest
