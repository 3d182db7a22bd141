use Rattle.std.proofs.Common.{◌≡◌, ◌<◌, Some, length, map, set, subst, sym}
use Rattle.hc_value.specs.Prop.{kind_of}
use Rattle.hc_table.specs.Changes.{Wrote, kind_at}
use Rattle.hc_table.specs.Kept.{Kept, IsKept, with_world}
use Rattle.hc_table.specs.Plain.{object_of, kept_by}
use Rattle.hc_table.specs.World.{Object, World, props_at, with_list, with_written, held_at}
use Rattle.hc_table.proofs.Edits.{within-kind}
use Rattle.hc_table.proofs.Objects.{props_at-kept, world-changed}
use Rattle.hc_table.proofs.Worlds.{IsKept-with_written, came-made}
use Rattle.hc_table.proofs.plain.PlainTables.write.Goals as goal

changed : (c : goal.After-self-1) → map object_of (set c.self.inside.objects.items c.args.o c.put.new.self) ≡ with_written (map object_of c.self.inside.objects.items) c.args.o c.args.i c.args.held
changed c =
    let there = subst (λ (k : Kept). c.args.o < length k.world) (sym c.self.view_is) c.requires.object in
    world-changed c.self.inside.objects.items c.args.o c.index_mut-object.result.now c.index_mut-object.ensures.value there c.put.new.self
    (λ (z : Object). with_list z (held_at z.props c.args.i c.args.held)) c.put.ensures

pub put-requires : goal.put-requires
put-requires c =
    let objects = c.self.inside.objects.items in
    let there = subst (λ (k : Kept). c.args.o < length k.world) (sym c.self.view_is) c.requires.object in
    let within : c.args.i < length (props_at (map object_of objects) c.args.o) = within-kind (props_at (map object_of objects) c.args.o) c.args.i c.args.held (subst (λ (k : Kept). kind_at (props_at k.world c.args.o) c.args.i ≡ Some (kind_of c.args.held)) (sym c.self.view_is) c.requires.kind) in
    subst (λ ps. c.args.i < length ps) (props_at-kept objects c.args.o c.index_mut-object.result.now c.index_mut-object.ensures.value there) within

pub invariant_of-self : goal.invariant_of-self
invariant_of-self c =
    let kept = kept_by c.self.inside.objects.items c.self.inside.limit in
    let kind = subst (λ (k : Kept). kind_at (props_at k.world c.args.o) c.args.i ≡ Some (kind_of c.args.held)) (sym c.self.view_is) c.requires.kind in
    subst (λ (w : World). IsKept (with_world kept w)) (sym (changed c)) (IsKept-with_written kept c.self.invariant c.args.o c.args.i c.args.held kind c.requires.range)

pub returns-clause-did : goal.returns-clause-did
returns-clause-did c =
    let kept = kept_by c.self.inside.objects.items c.self.inside.limit in
    came-made kept _ c.self.view_is (Wrote c.args.o c.args.i c.args.held) (map object_of (set c.self.inside.objects.items c.args.o c.put.new.self)) (changed c)

pub returns-clause-written : goal.returns-clause-written
returns-clause-written c = (returns-clause-did c).world
