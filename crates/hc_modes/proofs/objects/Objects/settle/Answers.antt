use Rattle.std.proofs.Common.{◌≡◌, ◌∙◌, List, Option, Some, None, ap, refl, sym, subst}
use Rattle.hc_layout.specs.declared.words.RootWord.{RootWord}
use Rattle.hc_value.specs.declared.reply.Cause.{Cause}
use Rattle.hc_value.specs.declared.reply.Cause.TheVariants.{Space}
use Rattle.hc_tree.specs.Needs.{HasSpace, with_need}
use Rattle.hc_table.specs.Changes.{Moved}
use Rattle.hc_modes.specs.Becoming.{HasSpare, IsSettled, IsSpare}
use Rattle.hc_modes.specs.Changes.{KeptBut}
use Rattle.std.specs.Prelude.{IsTrue}
use Rattle.hc_heap.specs.Readings.{root_in}
use Rattle.hc_modes.specs.State.{ObjectsState}
use Rattle.hc_slots.specs.Meaning.{Dictionary}
use Rattle.hc_modes.specs.Meaning.{cause_in}
use Rattle.hc_modes.specs.Modes.{Becomes, StaysFast, if_fast, proto_need}
use Rattle.hc_modes.proofs.Become.{settled-still, still-read, with-none}
use Rattle.hc_modes.proofs.Composing.{no-cause, steps-on}
use Rattle.hc_modes.proofs.Marking.{how-left}
use Rattle.hc_modes.proofs.objects.Objects.settle.Goals as goal

pub returns-in-Some-clause-settled : goal.returns-in-Some-clause-settled
returns-in-Some-clause-settled g c =
    let a = c.args.self.now in
    let b = c.leave_with.new.self in
    let d = c.mark_slow.new.self in
    let p = c.args.p in
    let left = c.leave_with.ensures in
    let marked = c.mark_slow.ensures in
    let need = proto_need a.heap.view.trail p in
    let spare : HasSpare a p c.in-Some.slow = subst (λ (x : Option Dictionary). IsSpare a p x) c.in-Some.is c.requires.spare in
    let now : cause_in d.kept p ≡ Some Space = ap (λ (kept : List (Option Dictionary)). cause_in kept p) marked.kept ∙ left.cause ∙ ap (λ (x : Cause). Some x) spare.cause in
    record {
      steps = steps-on g.P.Pace.went g.met.P.Pace.goes_on c.constants_stay_on.ensures.law a b d Moved left.moved marked.moved;
      mode = subst (λ (x : Option Cause). Becomes x None (HasSpace a.heap.view need) (cause_in d.kept p)) (sym (no-cause a.kept p spare.fast))
          (subst (StaysFast (HasSpace a.heap.view need)) (sym now) (record { stays = (λ e. let f : ⊥ = cc in absurd f, λ r. absurd (spare.full r)); leaves = refl }));
      used = marked.used ∙ left.used ∙ with-none a.heap.view.used ∙ ap (λ (x : Option Cause). with_need (if_fast x need) a.heap.view.used) (sym now);
      became = record {
        proto = marked.became.proto;
        protos = λ q other. marked.became.protos q other ∙ ap (λ (r : RootWord). r.is_proto) (left.roots q);
        roots = λ q. marked.became.roots q ∙ ap (λ (r : RootWord). r.map) (left.roots q);
        maps = λ q other. marked.became.maps q other ∙ left.maps q other;
      };
      others = subst (KeptBut p a.kept) (sym marked.kept) left.others;
      null = marked.null ∙ left.null;
    }

pub returns-in-Some-clause-how : goal.returns-in-Some-clause-how
returns-in-Some-clause-how g c =
    how-left c.args.self.now c.leave_with.new.self c.mark_slow.new.self c.args.p _ c.leave_with.ensures.gone c.leave_with.ensures.marks c.leave_with.ensures.details c.mark_slow.ensures.trail
    (ap (λ (kept : List (Option Dictionary)). cause_in kept c.args.p) c.mark_slow.ensures.kept ∙ c.leave_with.ensures.cause)

pub returns-then-object_root-clause-settled : goal.returns-then-object_root-clause-settled
returns-then-object_root-clause-settled g c =
    let first : ObjectsState g.row.P.Denot = record { heap = c.self.inside.heap; kept = c.self.inside.kept.items; of_null = c.self.inside.of_null } in
    let then : ObjectsState g.row.P.Denot = record { heap = c.object_root.new.self; kept = c.self.inside.kept.items; of_null = c.self.inside.of_null } in
    let proto : IsTrue (root_in first.heap.view.trail c.args.p).is_proto = ap (λ (r : RootWord). r.is_proto) (sym c.object_root.ensures.value) ∙ c.if-object_root.true in
    subst (λ (s : ObjectsState g.row.P.Denot). IsSettled g.P.Pace.went s c.args.p then) c.self.view_is
    (settled-still g.P.Pace.went g.met.P.Pace.stays first then c.args.p c.self.invariant (still-read first then c.object_root.ensures.new refl refl) proto)
