use Rattle.std.proofs.Common.{ℕ, [], ◌∷◌, ◌++◌, sym, ap, ◌∙◌, subst}
use Rattle.hc_modes.specs.Rest.{AreCalm}
use Rattle.hc_modes.specs.State.{ObjectsState}
use Rattle.hc_objects.specs.Onward.{HasGoneOn}
use Rattle.hc_plan.specs.declared.case.Op.TheVariants.{Load}
use Rattle.hc_session.specs.Serving.{way_line}
use Rattle.hc_session.proofs.Passed.{access-keeps, asked-came, asked-either}
use Rattle.hc_session.proofs.Seen.{access-seen, asked-seen, have-gates}
use Rattle.hc_session.proofs.exec.load_past.Goals as goal

pub returns-clause-passed : goal.returns-clause-passed
returns-clause-passed g c =
    let a = c.args.objects.now in
    let b = c.load-done.new.objects in
    record {
      by_cache = c.load-done.result.by_cache;
      by_is = c.load-done.ensures.by;
      reply_is = c.load-done.ensures.reply;
      became = asked-came g.P.Pace.went a b c.load-done.ensures.asked;
      sites_are = c.load-done.ensures.sites;
      lines_are = c.put_line.ensures.lines ∙ ap (λ (n : ℕ). c.args.log.now.lines ++ (n, way_line c.load-done.result.by_cache c.args.s) ∷ []) c.writes-at.ensures.count;
      installed = access-keeps c.other_events_keep_plans.ensures.law a c.args.sites.now c.load-done.new.sites c.args.s c.args.o Load c.args.name c.load-done.ensures.sites c.requires.agree.installed;
      goes = asked-either g.P.Pace.went (HasGoneOn a b) a b (λ still. c.operations_go_on.ensures.still a b c.stands.ensures.sound.heap.lawful still) (λ asked. c.asking_is_little.ensures.goes a b asked) c.load-done.ensures.asked;
      quick = λ loads cached. c.load-done.ensures.loads cached;
    }

pub returns-clause-seen : goal.returns-clause-seen
returns-clause-seen g c =
    let a = c.args.objects.now in
    let b = c.load-done.new.objects in
    asked-seen g.P.Pace.went c.written_is_kept.ensures.law c.cells_stand_alone.ensures.facts a b c.load-done.new.sites c.load-done.ensures.asked
    (access-seen a (have-gates c.forms_are_kept.ensures.law a.heap.view.shape a.heap.view.trail c.stands.ensures.sound.heap.lawful) c.args.sites.now c.args.s c.args.o Load c.args.name c.load-done.new.sites c.requires.agree.seen c.load-done.ensures.sites)

pub returns-clause-calm : goal.returns-clause-calm
returns-clause-calm g c =
    let a = c.args.objects.now in
    let b = c.load-done.new.objects in
    asked-either g.P.Pace.went (AreCalm b.heap.view.trail) a b (λ still. subst (λ (x : ObjectsState g.row.P.Denot). AreCalm x.heap.view.trail) (sym still.is) c.requires.agree.calm) (λ asked. c.cells_stand_alone.ensures.calm a b asked.only c.requires.agree.calm) c.load-done.ensures.asked
