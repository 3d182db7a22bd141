use Rattle.hc_access.specs.Entries.{AreGood}
use Rattle.hc_modes.specs.State.{ObjectsState}
use Rattle.hc_value.specs.declared.reply.Reply.{Reply}
use Rattle.hc_session.specs.Jobs.{AreSeen}
use Rattle.hc_session.specs.Standing.{tables_of}
use Rattle.hc_session.specs.Tables.{all_there, did_by}
use Rattle.hc_session.proofs.Keeps.{Laws, objects-keep-on}
use Rattle.hc_session.proofs.Readers.{good-met, seen-met}
use Rattle.hc_session.proofs.Readied.{not-asking, result-keeps}
use Rattle.hc_session.proofs.Seen.{seen-on}
use Rattle.hc_session.proofs.serve.perform_whole.Goals as goal

pub returns-clause-keeps : goal.returns-clause-keeps
returns-clause-keeps g c =
    let laws : Laws g.P.Pace.went = record {
      constants = c.constants_stay_on.ensures.law;
      facts = c.fields_stay_honest.ensures.law;
      calm = c.prototypes_stay_calm.ensures.law;
      asked_facts = c.cells_stand_alone.ensures.facts;
      asked_calm = c.cells_stand_alone.ensures.calm;
    } in
    objects-keep-on g.P.Pace.went laws c.args.objects.now c.perform-reply.new.objects (all_there (tables_of c.args.objects.now) c.args.command.now) c.args.command.now (did_by (tables_of c.args.objects.now) c.args.command.now) c.perform-reply.result c.requires.objects
    (record { objects = c.stands.ensures.sound; cells = c.stands.ensures.cells }) (record { objects = c.stands-2.ensures.sound; cells = c.stands-2.ensures.cells })
    c.perform-reply.ensures.used c.perform-reply.ensures.want

pub returns-clause-good : goal.returns-clause-good
returns-clause-good g c =
    result-keeps g.P.Pace.went Reply (λ (s : ObjectsState _). AreGood s c.args.sites.now)
    (λ x y did first second came good. c.entries_stay_good.ensures.law x y did c.args.sites.now first.objects second.objects first.cells came good)
    (λ x y met good. good-met x y c.args.sites.now met good)
    c.args.objects.now c.perform-reply.new.objects (all_there (tables_of c.args.objects.now) c.args.command.now) c.args.command.now (did_by (tables_of c.args.objects.now) c.args.command.now) c.perform-reply.result
    (not-asking g.P.Pace.went (λ (s : ObjectsState _). AreGood s c.args.sites.now) c.args.command.now c.requires.objects)
    (record { objects = c.stands.ensures.sound; cells = c.stands.ensures.cells }) (record { objects = c.stands-2.ensures.sound; cells = c.stands-2.ensures.cells })
    c.perform-reply.ensures.used c.perform-reply.ensures.want c.requires.good

pub returns-clause-seen : goal.returns-clause-seen
returns-clause-seen g c =
    result-keeps g.P.Pace.went Reply (λ (s : ObjectsState _). AreSeen s.heap.view.trail c.args.sites.now)
    (λ x y did first second came seen. seen-on x.heap.view.shape x.heap.view.trail y.heap.view.trail c.args.sites.now c.written_is_kept.ensures.law (c.fields_stay_honest.ensures.law x y did first.objects came).goes seen)
    (λ x y met seen. seen-met x y c.args.sites.now met seen)
    c.args.objects.now c.perform-reply.new.objects (all_there (tables_of c.args.objects.now) c.args.command.now) c.args.command.now (did_by (tables_of c.args.objects.now) c.args.command.now) c.perform-reply.result
    (not-asking g.P.Pace.went (λ (s : ObjectsState _). AreSeen s.heap.view.trail c.args.sites.now) c.args.command.now c.requires.objects)
    (record { objects = c.stands.ensures.sound; cells = c.stands.ensures.cells }) (record { objects = c.stands-2.ensures.sound; cells = c.stands-2.ensures.cells })
    c.perform-reply.ensures.used c.perform-reply.ensures.want c.requires.seen
