use Rattle.std.proofs.Common.{◌≡◌, ◌∙◌, ◌<◌, Option, Some, refl, ap, sym, subst}
use Rattle.std.specs.Prelude.{IsSomeAnd}
use Rattle.hc_layout.specs.declared.words.GateWord.{GateWord}
use Rattle.hc_heap.specs.Readings.{bits_in, gate_in, prototype_in, root_in}
use Rattle.hc_heap.specs.States.{View}
use Rattle.hc_heap.specs.Writes.{Trail}
use Rattle.hc_tree.specs.Growth.{marked}
use Rattle.hc_layout.specs.declared.shape.Shape.{Shape}
use Rattle.hc_heap.specs.Lawful.{Lawful}
use Rattle.hc_tree.specs.Needs.{IsWithin}
use Rattle.hc_tree.specs.Tree.{IsTree, gate_with}
use Rattle.hc_tree.specs.Walking.{IsDetail}
use Rattle.hc_update.specs.Renewing.{HasGeneralised, generalise_need}
use Rattle.hc_slots.specs.Cases.{some-and, some-of}
use Rattle.hc_modes.specs.Resettled.{marked_view}
use Rattle.hc_modes.proofs.Generalised.{generalised-details, generalised-live, generalised-needs, generalised-opens, generalised-other, generalised-remade, generalised-wanted, its-map, marked-detail}
use Rattle.hc_modes.proofs.Gets.{details-on}
use Rattle.hc_modes.proofs.Marking.{marked-dead}
use Rattle.hc_modes.proofs.Left.{marked-same}
use Rattle.hc_modes.proofs.Owning.{open-used}
use Rattle.hc_modes.proofs.Remade.{coming, handed-then}
use Rattle.hc_modes.proofs.moving.generalise_object.Goals as goal

pub mark_unstable-requires-clause-handed : goal.mark_unstable-requires-clause-handed
mark_unstable-requires-clause-handed g c =
    let gate = some-and (gate_in c.args.h.now.view.trail c.args.map) (λ x. x.entries ≡ c.args.n) c.requires.open in
    open-used c.unused_says_nothing.ensures.law c.args.h.now.view c.stands.ensures.heap c.args.map gate.0 gate.1.0

pub generalise-requires-clause-entry : goal.generalise-requires-clause-entry
generalise-requires-clause-entry g c =
    let v = c.args.h.now.view in
    let its = its-map v.trail c.args.object c.args.map c.args.n c.requires.tree c.requires.fast c.requires.has c.requires.open in
    subst (λ (x : View). IsSomeAnd (gate_in x.trail c.args.map) (λ y. c.args.i < y.entries)) (sym c.mark_unstable.ensures.view)
    (subst (λ (x : Option GateWord). IsSomeAnd x (λ y. c.args.i < y.entries)) (sym (marked-same v.trail c.args.map (λ (t : Trail). gate_in t c.args.map) (λ b. refl) ∙ its.is_open)) c.requires.entry)

pub generalise-requires-clause-live : goal.generalise-requires-clause-live
generalise-requires-clause-live g c =
    ap (λ (x : View). (bits_in x.trail c.args.map).deprecated) c.mark_unstable.ensures.view ∙ (marked-dead c.args.h.now.view.trail c.args.map ∙ c.requires.live)

pub generalise-requires-clause-detail : goal.generalise-requires-clause-detail
generalise-requires-clause-detail g c =
    subst (λ (x : View). IsDetail x.shape x.trail c.args.detail) (sym c.mark_unstable.ensures.view) (marked-detail c.args.h.now.view c.args.map c.args.detail c.requires.detail)

pub come_to-requires : goal.come_to-requires
come_to-requires g c =
    let v = c.args.h.now.view in
    let w = c.generalise.new.h.view in
    let o = c.args.object in
    let m = c.args.map in
    let n = c.args.n in
    let i = c.args.i in
    let d = c.args.detail in
    let other = c.in-Ok.other in
    let own = (root_in v.trail o).is_proto in
    let its = its-map v.trail o m n c.requires.tree c.requires.fast c.requires.has c.requires.open in
    let heap = c.stands.ensures.heap in
    let p = some-of (prototype_in v.trail m) (c.gates_are_open.ensures.law v.shape v.trail m (gate_with n own) heap.lawful its.is_open).prototype in
    let gate : gate_in (marked v.trail m) m ≡ Some (gate_with n own) = marked-same v.trail m (λ (t : Trail). gate_in t m) (λ b. refl) ∙ its.is_open in
    let found : HasGeneralised own (marked_view v m) w m n i other d =
    subst (λ (x : View). (g : GateWord) → gate_in x.trail m ≡ Some g → HasGeneralised g.is_private x w m g.entries i other d) c.mark_unstable.ensures.view c.in-Ok.ensures.made (gate_with n own) gate in
    let made = generalised-remade v w m other n i d p.0 own p.1 found in
    let so = coming c.maps_are_kept.ensures.law c.details_rise.ensures.law c.set_is_kept.ensures.law v w o m other n own p.0 heap c.requires.has its.fast made c.requires.honest c.requires.out in
    record {
      tree = made.tree;
      has = so.is_at;
      unstable = so.unstable;
      map = so.map;
      other = so.other;
      own = so.owned;
      keys = so.keys;
      holds = so.holds;
      within = so.within;
      fits = so.fits;
      out = so.out;
      handed = handed-then c.maps_are_kept.ensures.law c.details_rise.ensures.law c.set_is_kept.ensures.law v w o m other n own p.0 heap c.requires.has its.fast made c.requires.handed;
    }

pub returns-clause-generalised : goal.returns-clause-generalised
returns-clause-generalised g c =
    let v = c.args.h.now.view in
    let w = c.generalise.new.h.view in
    let o = c.args.object in
    let m = c.args.map in
    let n = c.args.n in
    let i = c.args.i in
    let d = c.args.detail in
    let other = c.in-Ok.other in
    let own = (root_in v.trail o).is_proto in
    let its = its-map v.trail o m n c.requires.tree c.requires.fast c.requires.has c.requires.open in
    let heap = c.stands.ensures.heap in
    let p = some-of (prototype_in v.trail m) (c.gates_are_open.ensures.law v.shape v.trail m (gate_with n own) heap.lawful its.is_open).prototype in
    let gate : gate_in (marked v.trail m) m ≡ Some (gate_with n own) = marked-same v.trail m (λ (t : Trail). gate_in t m) (λ b. refl) ∙ its.is_open in
    let found : HasGeneralised own (marked_view v m) w m n i other d =
    subst (λ (x : View). (g : GateWord) → gate_in x.trail m ≡ Some g → HasGeneralised g.is_private x w m g.entries i other d) c.mark_unstable.ensures.view c.in-Ok.ensures.made (gate_with n own) gate in
    let made = generalised-remade v w m other n i d p.0 own p.1 found in
    let come = c.come_to.ensures.come in
    record {
      own = own;
      proto = p.0;
      is_own = refl;
      prototype = p.1;
      on = record { mid = w; map = other; made = made; come = come };
      opens = generalised-opens v w m other n i d own found;
      needs = subst (λ (s : Shape). IsWithin (generalise_need (gate_with n own) i) v.used s) (sym (ap (λ (y : View). y.used) come.view)) (generalised-needs v w m other n i d own c.requires.entry found);
      other = generalised-other v w m other n i d c.owners_stand.ensures.law own (open-used c.unused_says_nothing.ensures.law v heap m (gate_with n own) its.is_open)
          (subst (λ (x : View). Lawful x.shape x.trail) c.mark_unstable.ensures.view c.mark_unstable.ensures.heap.lawful) (subst (λ (x : View). IsTree x.trail) c.mark_unstable.ensures.view c.mark_unstable.ensures.tree) its.is_open c.requires.entry found;
      live = come.same.lives other ∙ generalised-live v w m other n i d own found;
      wanted = come.details other i ∙ generalised-wanted v w m other n i d own c.requires.entry found;
      details = details-on (generalised-details v w m other n i d own found) come.same.details;
    }
