use Rattle.hc_session.proofs.Keeps.{Laws, result-keeps-on}
use Rattle.hc_session.proofs.Obeys.{result_names, result_seen}
use Rattle.hc_session.proofs.Settled.{sites-grow}
use Rattle.hc_session.proofs.Rested.{result-planned}
use Rattle.hc_session.proofs.serve.serve_beside.Goals as goal

pub returns-clause-keeps : goal.returns-clause-keeps
returns-clause-keeps g c =
    let laws : Laws g.P.Pace.went = record {
      constants = c.constants_stay_on.ensures.law;
      facts = c.fields_stay_honest.ensures.law;
      calm = c.prototypes_stay_calm.ensures.law;
      asked_facts = c.cells_stand_alone.ensures.facts;
      asked_calm = c.cells_stand_alone.ensures.calm;
    } in
    result-keeps-on g.P.Pace.went laws c.args.objects.now c.serve-reply.new.objects c.args.sites.now c.serve-reply.new.sites c.args.log.now.lines c.serve-reply.new.log.lines c.args.command.now c.serve-reply.result
    (record { objects = c.stands.ensures.sound; cells = c.stands.ensures.cells }) (record { objects = c.stands-2.ensures.sound; cells = c.stands-2.ensures.cells })
    c.serve-reply.ensures.serves c.serve-reply.ensures.wants

pub returns-clause-reading : goal.returns-clause-reading
returns-clause-reading g c =
    let keeps = returns-clause-keeps g c in
    c.jobs_read_on.ensures.law c.args.objects.now c.serve-reply.new.objects c.args.compiler.now.jobs c.stands.ensures.desk c.stands-2.ensures.desk c.stands-2.ensures.sound.heap keeps.shape keeps.goes c.requires.reading

pub returns-clause-names : goal.returns-clause-names
returns-clause-names g c =
    result_names c.args.objects.now c.args.sites.now c.serve-reply.new.sites c.args.log.now.lines c.serve-reply.new.log.lines g.P.Pace.went c.serve-reply.new.objects c.args.command.now c.serve-reply.result c.requires.numbers c.serve-reply.ensures.serves c.serve-reply.ensures.noted c.requires.names

pub returns-clause-opened : goal.returns-clause-opened
returns-clause-opened g c =
    sites-grow c.args.sites.now c.serve-reply.new.sites c.args.compiler.now.jobs c.args.command.now
    (result_seen c.args.objects.now c.args.sites.now c.serve-reply.new.sites c.args.log.now.lines c.serve-reply.new.log.lines g.P.Pace.went c.serve-reply.new.objects c.args.command.now c.serve-reply.result c.serve-reply.ensures.serves c.serve-reply.ensures.noted)
    c.requires.opened

pub returns-clause-planned : goal.returns-clause-planned
returns-clause-planned g c =
    let keeps = returns-clause-keeps g c in
    result-planned c.resting_stays.ensures.law c.args.objects.now c.serve-reply.new.objects c.args.sites.now c.serve-reply.new.sites c.args.compiler.now.jobs c.serve-reply.result c.stands.ensures.desk c.stands-2.ensures.desk keeps.shape keeps.goes c.requires.planned c.serve-reply.ensures.installed
