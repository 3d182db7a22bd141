use Rattle.std.proofs.Common.{◌≡◌, ℕ, false, ap, sym, subst}
use Rattle.std.specs.Prelude.{IsTrue}
use Rattle.hc_heap.specs.Readings.{bits_in}
use Rattle.hc_descs.specs.Entries.{count_of, entries_in}
use Rattle.hc_tree.specs.Tree.{gate_with}
use Rattle.hc_update.specs.Updating.{IsUpdated}
use Rattle.hc_slots.specs.Fast.{IsFast}
use Rattle.hc_modes.proofs.Remade.{coming, handed-then}
use Rattle.hc_modes.proofs.Updated.{updated-remade}
use Rattle.hc_modes.proofs.migrating.update_object.Goals as goal

pub come_to-requires : goal.come_to-requires
come_to-requires g c =
    let v = c.args.h.now.view in
    let w = c.updated.new.h.view in
    let o = c.args.object in
    let m = c.args.map in
    let n = c.args.n in
    let root = c.args.root in
    let other = c.in-Ok.other in
    let proto = c.requires.root.prototype in
    let maps = c.maps_are_kept.ensures.law in
    let details = c.details_rise.ensures.law in
    let set = c.set_is_kept.ensures.law in
    let heap = c.stands.ensures.heap in
    let unstable : IsTrue (bits_in v.trail m).unstable = c.deprecated_are_unstable.ensures.law v.shape v.trail m heap.lawful c.requires.dead in
    let count : count_of v.trail m ≡ n = ap entries_in c.requires.open in
    let found : IsUpdated v w root m n other = subst (λ (k : ℕ). IsUpdated v w root m k other) count c.in-Ok.ensures.updated in
    let fast : IsFast v.trail o m (gate_with n false) = record { is_open = c.requires.open; holds = c.requires.holds; private = sym c.requires.shared } in
    let made = updated-remade v w m other n root proto unstable c.requires.root.root.prototype found in
    let so = coming maps details set v w o m other n false proto heap c.requires.has fast made c.requires.honest c.requires.out in
    record {
      tree = made.tree;
      has = so.is_at;
      unstable = so.unstable;
      map = so.map;
      other = so.other;
      own = so.owned;
      keys = so.keys;
      holds = so.holds;
      within = so.within;
      fits = so.fits;
      out = so.out;
      handed = handed-then maps details set v w o m other n false proto heap c.requires.has fast made c.requires.handed;
    }

pub returns-clause-updated : goal.returns-clause-updated
returns-clause-updated g c = λ yes.
    let v = c.args.h.now.view in
    let w = c.updated.new.h.view in
    let count : count_of v.trail c.args.map ≡ c.args.n = ap entries_in c.requires.open in
    record {
      mid = w;
      map = c.in-Ok.other;
      made = subst (λ (k : ℕ). IsUpdated v w c.args.root c.args.map k c.in-Ok.other) count c.in-Ok.ensures.updated;
      come = c.come_to.ensures.come;
    }
