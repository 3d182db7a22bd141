use Rattle.std.proofs.Common.{◌≡◌, ◌<◌, length, map, set, subst, sym}
use Rattle.hc_table.specs.Changes.{Removed, removed_at, with_removed}
use Rattle.hc_table.specs.Kept.{Kept, IsKept, with_world}
use Rattle.hc_table.specs.Plain.{object_of, kept_by}
use Rattle.hc_table.specs.World.{Object, World, props_at, with_list}
use Rattle.hc_table.proofs.Objects.{props_at-kept, world-changed}
use Rattle.hc_table.proofs.Worlds.{IsKept-with_removed, came-made}
use Rattle.hc_table.proofs.plain.PlainTables.remove.Goals as goal

changed : (c : goal.After-self-1) → map object_of (set c.self.inside.objects.items c.args.o c.take_away.new.self) ≡ with_removed (map object_of c.self.inside.objects.items) c.args.o c.args.i
changed c =
    let there = subst (λ (k : Kept). c.args.o < length k.world) (sym c.self.view_is) c.requires.object in
    world-changed c.self.inside.objects.items c.args.o c.index_mut-object.result.now c.index_mut-object.ensures.value there c.take_away.new.self
    (λ (z : Object). with_list z (removed_at z.props c.args.i)) c.take_away.ensures

pub take_away-requires : goal.take_away-requires
take_away-requires c =
    let objects = c.self.inside.objects.items in
    let there = subst (λ (k : Kept). c.args.o < length k.world) (sym c.self.view_is) c.requires.object in
    let within : c.args.i < length (props_at (map object_of objects) c.args.o) = subst (λ (k : Kept). c.args.i < length (props_at k.world c.args.o)) (sym c.self.view_is) c.requires.place in
    subst (λ ps. c.args.i < length ps) (props_at-kept objects c.args.o c.index_mut-object.result.now c.index_mut-object.ensures.value there) within

pub invariant_of-self : goal.invariant_of-self
invariant_of-self c =
    let kept = kept_by c.self.inside.objects.items c.self.inside.limit in
    subst (λ (w : World). IsKept (with_world kept w)) (sym (changed c)) (IsKept-with_removed kept c.self.invariant c.args.o c.args.i)

pub returns-clause-did : goal.returns-clause-did
returns-clause-did c =
    let kept = kept_by c.self.inside.objects.items c.self.inside.limit in
    came-made kept _ c.self.view_is (Removed c.args.o c.args.i) (map object_of (set c.self.inside.objects.items c.args.o c.take_away.new.self)) (changed c)

pub returns-clause-removed : goal.returns-clause-removed
returns-clause-removed c = (returns-clause-did c).world
