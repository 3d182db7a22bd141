use Rattle.std.proofs.Common.{◌≡◌, ◌≤◌, ℕ, false, true, arith, ap, sym, subst, None, Some}
use Rattle.hc_layout.specs.declared.capacity.TheConstants.{MAX_FAST}
use Rattle.hc_heap.specs.Writes.{ObjectMap}
use Rattle.hc_heap.specs.Lawful.{LawfulObjectMap}
use Rattle.hc_heap.specs.States.{View, IsHeap, with_write}
use Rattle.hc_descs.specs.Entries.{entries_in}
use Rattle.hc_tree.specs.Tree.{gate_with}
use Rattle.hc_slots.specs.Fast.{IsFast}
use Rattle.hc_modes.specs.Privates.{IsMovedToCopy}
use Rattle.hc_heap.specs.Readings.{detail_in}
use Rattle.hc_descs.specs.Entries.{count_of}
use Rattle.hc_tree.specs.Copying.{CopyGets}
use Rattle.hc_modes.specs.Details.{GetsNothing}
use Rattle.hc_modes.proofs.Gets.{details-as, details-on}
use Rattle.hc_modes.proofs.Relinking.{copy-lawful, moved-to-copy}
use Rattle.hc_modes.proofs.privates.link_alone.Goals as goal

pub of_copy-requires : goal.of_copy-requires
of_copy-requires g c = record { few = (c.gates_are_open.ensures.law c.args.h.now.view.shape c.args.h.now.view.trail c.args.map (gate_with c.args.n true) c.stands.ensures.heap.lawful c.requires.open).few }

pub copy_map-copy-requires-clause-few : goal.copy_map-copy-requires-clause-few
copy_map-copy-requires-clause-few g c =
    subst (λ (k : ℕ). k ≤ MAX_FAST) (sym (ap entries_in c.requires.open)) (c.gates_are_open.ensures.law c.args.h.now.view.shape c.args.h.now.view.trail c.args.map (gate_with c.args.n true) c.stands.ensures.heap.lawful c.requires.open).few

pub set_object_map-requires-clause-lawful : goal.set_object_map-requires-clause-lawful
set_object_map-requires-clause-lawful g c =
    let v = c.args.h.now.view in
    let w = c.copy_map-copy.new.h.view in
    let fast : IsFast v.trail c.args.object c.args.map (gate_with c.args.n true) = record { is_open = c.requires.open; holds = c.requires.holds; private = sym c.requires.private } in
    subst (λ (x : ℕ). LawfulObjectMap w.shape w.trail c.args.object (Some x)) (sym c.copy_map-copy.ensures.number)
    (copy-lawful c.maps_are_kept.ensures.law c.details_rise.ensures.law c.trees_stay.ensures.law c.unused_says_nothing.ensures.law false c.args.proto v w c.args.object c.args.map (gate_with c.args.n true) c.stands.ensures.heap c.copy_map-copy.ensures.copied c.requires.has fast)

pub returns-clause-linked : goal.returns-clause-linked
returns-clause-linked g c = λ yes.
    let v = c.args.h.now.view in
    let w = c.copy_map-copy.new.h.view in
    let fast : IsFast v.trail c.args.object c.args.map (gate_with c.args.n true) = record { is_open = c.requires.open; holds = c.requires.holds; private = sym c.requires.private } in
    let is : c.set_object_map.new.self.view ≡ with_write w (ObjectMap c.args.object (Some v.used.maps)) =
    subst (λ (x : ℕ). c.set_object_map.new.self.view ≡ with_write w (ObjectMap c.args.object (Some x))) c.copy_map-copy.ensures.number c.set_object_map.ensures.view in
    subst (λ (x : View). IsMovedToCopy false v x c.args.object c.args.map c.args.n c.args.proto) (sym is)
    (moved-to-copy c.maps_are_kept.ensures.law c.details_rise.ensures.law c.trees_stay.ensures.law c.unused_says_nothing.ensures.law false c.args.proto v w c.args.object c.args.map (gate_with c.args.n true) c.stands.ensures.heap c.copy_map-copy.ensures.copied c.requires.has fast (subst IsHeap is c.set_object_map.ensures.heap))

pub returns-clause-details : goal.returns-clause-details
returns-clause-details g c =
    let v = c.args.h.now.view in
    λ yes. details-on (details-as (CopyGets false None v.trail c.args.map (count_of v.trail c.args.map) v.used.fields) GetsNothing
    (λ f d got. absurd got) (λ f d got. omega (arith, got.from, got.within)) c.copy_map-copy.ensures.details)
    (λ f. ap (λ (y : View). detail_in y.trail f) c.set_object_map.ensures.view)
