use Rattle.hc_table.specs.Changes.{Nothing}
use Rattle.hc_session.proofs.Asked.{agree-still}
use Rattle.hc_session.proofs.asking.is_dead_receiver.Goals as goal

pub returns-clause-agree : goal.returns-clause-agree
returns-clause-agree g c =
    agree-still c.args.objects.now c.has_dead_map-dead.new.objects c.args.sites.now c.has_dead_map-dead.ensures.still
    (c.entries_stay_good.ensures.law c.args.objects.now c.has_dead_map-dead.new.objects Nothing c.args.sites.now c.stands.ensures.sound c.stands-2.ensures.sound c.stands.ensures.cells c.has_dead_map-dead.ensures.still c.requires.agree.good)
    c.requires.agree
