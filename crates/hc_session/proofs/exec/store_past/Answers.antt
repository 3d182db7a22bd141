use Rattle.std.proofs.Common.{ℕ, [], ◌∷◌, ◌++◌, ap, ◌∙◌, arith}
use Rattle.hc_ops.specs.Set.{set_act}
use Rattle.hc_objects.specs.Came.{world_of}
use Rattle.hc_plan.specs.declared.case.Op.TheVariants.{Store}
use Rattle.hc_table.specs.Changes.{Moved}
use Rattle.hc_session.specs.Serving.{way_line}
use Rattle.hc_session.proofs.Passed.{access-adds, access-keeps}
use Rattle.hc_session.proofs.Seen.{access-seen, have-gates, note-seen, seen-on}
use Rattle.hc_session.proofs.exec.store_past.Goals as goal
use mathlib.Core.Logic.{inl}

pub returns-clause-passed : goal.returns-clause-passed
returns-clause-passed g c =
    let a = c.args.objects.now in
    let b = c.store.new.objects in
    record {
      by_cache = c.in_ok-done.done.by_cache;
      by_is = c.in_ok-done.ensures.by;
      reply_is = c.in_ok-done.ensures.reply;
      became = inl c.in_ok-done.ensures.came;
      sites_are = c.in_ok-done.ensures.sites;
      lines_are = c.put_line.ensures.lines ∙ ap (λ (n : ℕ). c.args.log.now.lines ++ (n, way_line c.in_ok-done.done.by_cache c.args.s) ∷ []) c.writes-at.ensures.count;
      installed = access-keeps c.other_events_keep_plans.ensures.law a c.args.sites.now c.store.new.sites c.args.s c.args.o Store c.args.name c.in_ok-done.ensures.sites c.requires.agree.installed;
      goes = c.operations_go_on.ensures.law a b (set_act (world_of a) c.args.o c.args.name c.args.value).did c.stands.ensures.sound.heap.lawful c.in_ok-done.ensures.came;
      quick = λ loads cached. let f : ⊥ = cc in absurd f;
    }

pub returns-clause-room : goal.returns-clause-room
returns-clause-room g c =
    omega (arith, c.put_line.ensures.room, c.requires.room, access-adds c.other_events_add_no_plan.ensures.law c.args.objects.now c.args.sites.now c.store.new.sites c.args.s c.args.o Store c.args.name c.in_ok-done.ensures.sites)

pub returns-clause-seen : goal.returns-clause-seen
returns-clause-seen g c =
    let a = c.args.objects.now in
    let b = c.store.new.objects in
    seen-on b.heap.view.shape a.heap.view.trail b.heap.view.trail c.store.new.sites c.written_is_kept.ensures.law
    (c.operations_go_on.ensures.law a b (set_act (world_of a) c.args.o c.args.name c.args.value).did c.stands.ensures.sound.heap.lawful c.in_ok-done.ensures.came).goes
    (access-seen a (have-gates c.forms_are_kept.ensures.law a.heap.view.shape a.heap.view.trail c.stands.ensures.sound.heap.lawful) c.args.sites.now c.args.s c.args.o Store c.args.name c.store.new.sites c.requires.agree.seen c.in_ok-done.ensures.sites)

pub returns-in_err-done-clause-seen : goal.returns-in_err-done-clause-seen
returns-in_err-done-clause-seen g c =
    let a = c.args.objects.now in
    let b = c.store.new.objects in
    seen-on b.heap.view.shape a.heap.view.trail b.heap.view.trail c.store.new.sites c.written_is_kept.ensures.law
    (c.operations_go_on.ensures.law a b Moved c.stands.ensures.sound.heap.lawful c.in_err-done.ensures.moved).goes
    (note-seen a (have-gates c.forms_are_kept.ensures.law a.heap.view.shape a.heap.view.trail c.stands.ensures.sound.heap.lawful) c.args.sites.now c.args.s c.args.o c.store.new.sites c.requires.agree.seen c.in_err-done.ensures.noted)

pub returns-clause-calm : goal.returns-clause-calm
returns-clause-calm g c =
    let a = c.args.objects.now in
    let b = c.store.new.objects in
    c.prototypes_stay_calm.ensures.law a b (set_act (world_of a) c.args.o c.args.name c.args.value).did c.stands.ensures.sound c.stands-2.ensures.sound c.in_ok-done.ensures.came c.requires.agree.calm
