use Rattle.std.proofs.Common.{◌≡◌, ◌<◌, Some, length, set, sym, subst}
use Rattle.hc_modes.specs.Came.{world_of}
use Rattle.hc_modes.specs.Meaning.{kept_of, world}
use Rattle.hc_modes.specs.Slow.{MayBeSlow, did_of}
use Rattle.hc_modes.specs.State.{ObjectsState}
use Rattle.hc_modes.proofs.Shown.{within}
use Rattle.hc_modes.proofs.Slowed.{item-is, may-change, may-do, change-is, slow-world, slow-sound, slow-steps}
use Rattle.hc_modes.proofs.objects.Objects.change_slow.Goals as goal

pub change-requires : goal.change-requires
change-requires g c =
    let v = c.self.inside.heap.view in
    let kept = c.self.inside.kept.items in
    let null = c.self.inside.of_null in
    let o = c.args.o in
    let there : o < length kept = within _ _ o c.self.view_is c.requires.object in
    let d = c.unwrap-slow.result.now in
    let is : kept_of kept o ≡ Some d = item-is kept o c.index_mut.result.now c.as_mut.result c.unwrap-slow.result there c.index_mut.ensures.value c.as_mut.ensures.value c.unwrap-slow.ensures in
    let may : MayBeSlow (world v.trail kept) o c.args.change = subst (λ (s : ObjectsState g.row.P.Denot). MayBeSlow (world_of s) c.args.o c.args.change) (sym c.self.view_is) c.requires.may in
    record { may = may-change v kept null c.self.invariant o there d is c.args.change may }

pub invariant_of-self : goal.invariant_of-self
invariant_of-self g c =
    let v = c.self.inside.heap.view in
    let kept = c.self.inside.kept.items in
    let null = c.self.inside.of_null in
    let o = c.args.o in
    let there : o < length kept = within _ _ o c.self.view_is c.requires.object in
    let d = c.unwrap-slow.result.now in
    let is : kept_of kept o ≡ Some d = item-is kept o c.index_mut.result.now c.as_mut.result c.unwrap-slow.result there c.index_mut.ensures.value c.as_mut.ensures.value c.unwrap-slow.ensures in
    let may : MayBeSlow (world v.trail kept) o c.args.change = subst (λ (s : ObjectsState g.row.P.Denot). MayBeSlow (world_of s) c.args.o c.args.change) (sym c.self.view_is) c.requires.may in
    slow-sound v kept null c.self.invariant o there d is c.maps_are_kept.ensures.law c.details_rise.ensures.law c.changes_keep.ensures.law c.change.new.self (did_of o c.args.change)
    (change-is v kept null c.self.invariant o there d is c.args.change c.change.new.self c.change.ensures.changed) (may-do v kept null c.self.invariant o there d is c.args.change may)

pub returns-clause-steps : goal.returns-clause-steps
returns-clause-steps g c =
    let v = c.self.inside.heap.view in
    let kept = c.self.inside.kept.items in
    let null = c.self.inside.of_null in
    let o = c.args.o in
    let there : o < length kept = within _ _ o c.self.view_is c.requires.object in
    let d = c.unwrap-slow.result.now in
    let is : kept_of kept o ≡ Some d = item-is kept o c.index_mut.result.now c.as_mut.result c.unwrap-slow.result there c.index_mut.ensures.value c.as_mut.ensures.value c.unwrap-slow.ensures in
    slow-steps g.P.Pace.went g.met.P.Pace.stays _ _ c.self.view_is c.self.invariant.heap.lawful (did_of o c.args.change) (set kept o (Some c.change.new.self))
    (slow-world v kept null c.self.invariant o there d is c.maps_are_kept.ensures.law c.details_rise.ensures.law c.changes_keep.ensures.law c.change.new.self (did_of o c.args.change)
    (change-is v kept null c.self.invariant o there d is c.args.change c.change.new.self c.change.ensures.changed))
