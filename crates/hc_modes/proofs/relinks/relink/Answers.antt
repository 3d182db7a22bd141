use Rattle.std.proofs.Common.{false, ap, sym, subst}
use Rattle.hc_heap.specs.States.{View, IsHeap}
use Rattle.hc_tree.specs.Tree.{gate_with}
use Rattle.hc_update.specs.Retargeting.{HasMapFor}
use Rattle.hc_slots.specs.Fast.{IsFast}
use Rattle.hc_modes.specs.Resettled.{marked_view}
use Rattle.hc_modes.specs.State.{AreRoots}
use Rattle.hc_descs.specs.Entries.{entries_in}
use Rattle.hc_modes.proofs.Gets.{rewalked}
use Rattle.hc_modes.proofs.Owning.{open-used}
use Rattle.hc_modes.proofs.Relinked.{found-remade, marked-roots, relinked, relinked-deaths}
use Rattle.hc_modes.proofs.Remade.{coming, handed-then}
use Rattle.hc_modes.proofs.relinks.relink.Goals as goal

pub mark_unstable-requires-clause-handed : goal.mark_unstable-requires-clause-handed
mark_unstable-requires-clause-handed g c = open-used c.unused_says_nothing.ensures.law c.args.h.now.view c.stands.ensures.heap c.args.map _ c.requires.open

pub map_for-found-requires-clause-roots : goal.map_for-found-requires-clause-roots
map_for-found-requires-clause-roots g c =
    let v = c.args.h.now.view in
    let is = c.mark_unstable.ensures.view in
    subst (λ (w : View). AreRoots w.trail c.args.of_null.now) (sym is)
    (marked-roots c.maps_are_kept.ensures.law c.details_rise.ensures.law v c.args.map c.args.of_null.now c.stands.ensures.heap (subst IsHeap is c.mark_unstable.ensures.heap) c.requires.roots)

pub come_to-requires : goal.come_to-requires
come_to-requires g c =
    let v = c.args.h.now.view in
    let w = c.map_for-found.new.h.view in
    let o = c.args.object in
    let m = c.args.map in
    let n = c.args.n in
    let other = c.map_for-found.result in
    let null = c.args.of_null.now in
    let then = c.map_for-found.new.of_null in
    let proto = c.args.proto in
    let maps = c.maps_are_kept.ensures.law in
    let details = c.details_rise.ensures.law in
    let set = c.set_is_kept.ensures.law in
    let heap = c.stands.ensures.heap in
    let found : HasMapFor (marked_view v m) w null then m other n proto = subst (λ (x : View). HasMapFor x w null then m other n proto) c.mark_unstable.ensures.view c.map_for-found.ensures.found in
    let fast : IsFast v.trail o m (gate_with n false) = record { is_open = c.requires.open; holds = c.requires.holds; private = sym c.requires.shared } in
    let made = found-remade maps details set v w null then proto m other n heap c.requires.open found in
    let so = coming maps details set v w o m other n false proto heap c.requires.has fast made c.requires.honest c.requires.out in
    record {
      tree = found.found.tree;
      has = so.is_at;
      unstable = so.unstable;
      map = so.map;
      other = so.other;
      own = so.owned;
      keys = so.keys;
      holds = so.holds;
      within = so.within;
      fits = so.fits;
      out = so.out;
      handed = handed-then maps details set v w o m other n false proto heap c.requires.has fast made c.requires.handed;
    }

pub returns-clause-relinked : goal.returns-clause-relinked
returns-clause-relinked g c =
    let v = c.args.h.now.view in
    let w = c.map_for-found.new.h.view in
    let m = c.args.map in
    let n = c.args.n in
    let null = c.args.of_null.now in
    let then = c.map_for-found.new.of_null in
    let found : HasMapFor (marked_view v m) w null then m c.map_for-found.result n c.args.proto = subst (λ (x : View). HasMapFor x w null then m c.map_for-found.result n c.args.proto) c.mark_unstable.ensures.view c.map_for-found.ensures.found in
    let fast : IsFast v.trail c.args.object m (gate_with n false) = record { is_open = c.requires.open; holds = c.requires.holds; private = sym c.requires.shared } in
    relinked c.maps_are_kept.ensures.law c.details_rise.ensures.law c.set_is_kept.ensures.law v w null then c.args.proto m c.map_for-found.result n c.stands.ensures.heap c.requires.open found c.args.object c.requires.has fast c.come_to.new.h.view c.come_to.ensures.come

pub returns-clause-details : goal.returns-clause-details
returns-clause-details g c =
    let v = c.args.h.now.view in
    let w = c.map_for-found.new.h.view in
    let null = c.args.of_null.now in
    let then = c.map_for-found.new.of_null in
    let found : HasMapFor (marked_view v c.args.map) w null then c.args.map c.map_for-found.result c.args.n c.args.proto =
    subst (λ (x : View). HasMapFor x w null then c.args.map c.map_for-found.result c.args.n c.args.proto) c.mark_unstable.ensures.view c.map_for-found.ensures.found in
    let fast : IsFast v.trail c.args.object c.args.map (gate_with c.args.n false) = record { is_open = c.requires.open; holds = c.requires.holds; private = sym c.requires.shared } in
    rewalked v w c.come_to.new.h.view null then c.args.map c.map_for-found.result c.args.n c.args.proto (ap entries_in c.requires.open) found c.come_to.ensures.come.same.details
    (relinked-deaths c.maps_are_kept.ensures.law c.details_rise.ensures.law c.set_is_kept.ensures.law v w null then c.args.proto c.args.map c.map_for-found.result c.args.n c.stands.ensures.heap c.requires.open found c.args.object c.requires.has fast c.come_to.new.h.view c.come_to.ensures.come)
