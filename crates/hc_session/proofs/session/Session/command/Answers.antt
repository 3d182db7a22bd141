use Rattle.std.proofs.Common.{◌≡◌, List, ℕ, true, false, refl, sym, ap, ◌∙◌, subst}
use Rattle.std.specs.Prelude.{IfOk, OnOk, OnErr, Result}
use Rattle.hc_modes.specs.Admitting.{ConstantsStay}
use Rattle.hc_modes.specs.State.{ObjectsState}
use Rattle.hc_report.specs.declared.line.Line.{Line}
use Rattle.hc_value.specs.declared.memory.Memory.{Memory}
use Rattle.hc_value.specs.declared.reply.Reply.{Reply}
use Rattle.hc_session.specs.Jobs.{IsNotLent}
use Rattle.hc_session.specs.Plans.{ArePlanned}
use Rattle.hc_session.specs.Serving.{Attends}
use Rattle.hc_session.specs.Standing.{Standing, plain_of}
use Rattle.hc_session.specs.State.{Does, NotedInWant, Stands, Wants, answer_since}
use Rattle.hc_session.specs.Using.{MovesInWant, is_accepted, uses_if}
use Rattle.hc_session.proofs.Broken.{PlanLaws, all-upheld}
use Rattle.hc_session.proofs.Obeys.{on_err}
use Rattle.hc_session.proofs.Worked.{attends-done}
use Rattle.hc_session.proofs.session.Session.command.Goals as goal
use mathlib.Core.Logic.{inl, inr}

pub returns-in_err-reply-clause-stands : goal.returns-in_err-reply-clause-stands
returns-in_err-reply-clause-stands g c =
    record {
      sound = c.stands-2.ensures.sound;
      cells = c.stands-2.ensures.cells;
      desk = c.stands-2.ensures.desk;
      calm = c.attend-served.ensures.keeps.calm c.self.invariant.calm;
      honest = c.attend-served.ensures.keeps.facts.honest c.self.invariant.honest;
    }

pub returns-clause-stands : goal.returns-clause-stands
returns-clause-stands g c =
    record {
      sound = c.stands-2.ensures.sound;
      cells = c.stands-2.ensures.cells;
      desk = c.stands-2.ensures.desk;
      calm = c.attend-served.ensures.keeps.calm c.self.invariant.calm;
      honest = c.attend-served.ensures.keeps.facts.honest c.self.invariant.honest;
    }

pub invariant_of-self-in_err-reply : goal.invariant_of-self-in_err-reply
invariant_of-self-in_err-reply g c = record {
  fresh = λ fresh. absurd (cc);
  shape_is = rw c.attend-served.ensures.keeps.shape c.self.invariant.shape_is;
  few = rw c.attend-served.ensures.keeps.shape c.self.invariant.few;
  calm = c.attend-served.ensures.keeps.calm c.self.invariant.calm;
  honest = c.attend-served.ensures.keeps.facts.honest c.self.invariant.honest;
  names = c.attend-served.ensures.names;
  good = c.attend-served.ensures.good;
  seen = c.attend-served.ensures.seen;
  reading = c.attend-served.ensures.reading;
  opened = c.attend-served.ensures.opened;
  planned = λ going. absurd (cc);
}

pub invariant_of-self-2 : goal.invariant_of-self-2
invariant_of-self-2 g c = record {
  fresh = λ fresh. absurd (cc);
  shape_is = rw c.attend-served.ensures.keeps.shape c.self.invariant.shape_is;
  few = rw c.attend-served.ensures.keeps.shape c.self.invariant.few;
  calm = c.attend-served.ensures.keeps.calm c.self.invariant.calm;
  honest = c.attend-served.ensures.keeps.facts.honest c.self.invariant.honest;
  names = c.attend-served.ensures.names;
  good = c.attend-served.ensures.good;
  seen = c.attend-served.ensures.seen;
  reading = c.attend-served.ensures.reading;
  opened = c.attend-served.ensures.opened;
  planned = λ going. subst (λ (r : Result Reply Memory). OnOk r (ArePlanned c.attend-served.new.objects c.attend-served.new.sites c.attend-served.new.compiler.jobs)) c.in_ok-reply.was c.attend-served.ensures.planned;
}

pub returns-clause-done : goal.returns-clause-done
returns-clause-done g c =
    let went = g.P.Pace.went in
    let old : Standing _ = record { objects = c.self.inside.objects; sites = c.self.inside.sites; compiler = c.self.inside.compiler; log = c.self.inside.log.lines; marks = c.self.inside.marks; fresh = c.self.inside.fresh; lacking = c.self.inside.lacking } in
    let new : Standing _ = record { objects = c.attend-served.new.objects; sites = c.attend-served.new.sites; compiler = c.attend-served.new.compiler; log = c.attend-served.new.log.lines; marks = c.put_mark.new.marks; fresh = false; lacking = false } in
    let command = c.args.command.now in
    let laws : PlanLaws went = record {
      first = c.breaks_are_first.ensures.law;
      quiet = c.quiet_breaks_no_plan.ensures.law;
      rest = c.objects_rest.ensures.law;
      live = c.borne_names_live.ensures.law;
      right = c.installed_are_right.ensures.law;
      forms = c.forms_are_kept.ensures.law;
      more = c.new_sites_have_no_plan.ensures.law;
      calm = c.prototypes_stay_calm.ensures.law;
    } in
    let going = ap (λ (s : Standing _). s.lacking) c.self.view_is ∙ c.requires.going in
    let planned = subst (λ (r : Result Reply Memory). OnOk r (ArePlanned new.objects new.sites new.compiler.jobs)) c.in_ok-reply.was c.attend-served.ensures.planned in
    let attends = subst (λ (xs : List (ℕ × Line)). Attends went old.objects old.sites old.compiler xs command c.in_ok-reply.reply new.objects new.sites new.compiler new.log) c.put_mark.ensures.lines
    (subst (λ (r : Result Reply Memory). IfOk r (λ reply. Attends went old.objects old.sites old.compiler c.put_mark.new.log.lines command reply new.objects new.sites new.compiler new.log)) c.in_ok-reply.was c.attend-served.ensures.attends) in
    let calm = c.attend-served.ensures.keeps.calm c.self.invariant.calm in
    subst (λ (s : Standing _). Does went s command (answer_since s c.in_ok-reply.reply new) new) c.self.view_is
    (attends-done went laws old new command c.in_ok-reply.reply
    (record { standing = record { objects = c.stands.ensures.sound; cells = c.stands.ensures.cells }; desk = c.stands.ensures.desk; calm = c.self.invariant.calm; installed = (c.self.invariant.planned going).installed })
    c.requires.served (subst (λ (s : Standing _). IsNotLent s.compiler.lent command) (sym c.self.view_is) c.requires.own) c.self.invariant.opened attends c.in_ok-put_mark.ensures.ok
    (record { sound = c.stands-2.ensures.sound; cells = c.stands-2.ensures.cells; desk = c.stands-2.ensures.desk; calm = calm; honest = c.attend-served.ensures.keeps.facts.honest c.self.invariant.honest })
    (all-upheld went laws new.objects (record { objects = c.stands-2.ensures.sound; cells = c.stands-2.ensures.cells }) calm new.sites planned.installed) refl)

pub returns-in_err-reply-clause-wants : goal.returns-in_err-reply-clause-wants
returns-in_err-reply-clause-wants g c =
    let went = g.P.Pace.went in
    let old : Standing _ = record { objects = c.self.inside.objects; sites = c.self.inside.sites; compiler = c.self.inside.compiler; log = c.self.inside.log.lines; marks = c.self.inside.marks; fresh = c.self.inside.fresh; lacking = c.self.inside.lacking } in
    let new : Standing _ = record { objects = c.attend-served.new.objects; sites = c.attend-served.new.sites; compiler = c.attend-served.new.compiler; log = c.attend-served.new.log.lines; marks = c.put_mark.new.marks; fresh = false; lacking = true } in
    let command = c.args.command.now in
    on_err c.from_residual-in_err-reply.result
    (subst (λ (s : Standing _). Wants went s command new) c.self.view_is
    (inr (record {
      moves = subst (λ (r : Result Reply Memory). OnErr r (MovesInWant went old.objects (uses_if (is_accepted (plain_of old) command) command) new.objects)) c.in_err-reply.was c.attend-served.ensures.wants;
      noted = subst (λ (xs : List (ℕ × Line)). NotedInWant went old.objects old.sites xs command new.sites new.log) c.put_mark.ensures.lines
          (subst (λ (r : Result Reply Memory). OnErr r (NotedInWant went old.objects old.sites c.put_mark.new.log.lines command new.sites new.log)) c.in_err-reply.was c.attend-served.ensures.noted);
      compiler = subst (λ (r : Result Reply Memory). OnErr r (new.compiler ≡ old.compiler)) c.in_err-reply.was c.attend-served.ensures.idle;
      mark = c.in_ok-put_mark.ensures.ok;
    })))

pub returns-in_err-reply-clause-constants : goal.returns-in_err-reply-clause-constants
returns-in_err-reply-clause-constants g c =
    subst (λ (o : ObjectsState _). ConstantsStay o.heap.view.trail c.attend-served.new.objects.heap.view.trail) (ap (λ (s : Standing _). s.objects) c.self.view_is)
    c.attend-served.ensures.keeps.facts.constants

pub returns-clause-constants : goal.returns-clause-constants
returns-clause-constants g c =
    subst (λ (o : ObjectsState _). ConstantsStay o.heap.view.trail c.attend-served.new.objects.heap.view.trail) (ap (λ (s : Standing _). s.objects) c.self.view_is)
    c.attend-served.ensures.keeps.facts.constants
