use Rattle.std.proofs.Common.{◌≡◌, ◌<◌, Some, length, map, set, subst, sym}
use Rattle.std.specs.Prelude.{slice_set}
use Rattle.hc_table.specs.Changes.{Reconfigured, name_at, with_property}
use Rattle.hc_table.specs.Kept.{Kept, IsKept, with_world}
use Rattle.hc_table.specs.Plain.{object_of, kept_by}
use Rattle.hc_table.specs.World.{Object, World, props_at, with_list}
use Rattle.hc_table.proofs.Edits.{within-name}
use Rattle.hc_table.proofs.Objects.{props_at-kept, world-changed}
use Rattle.hc_table.proofs.Worlds.{IsKept-with_property, came-made}
use Rattle.hc_table.proofs.plain.PlainTables.reconfigure.Goals as goal

changed : (c : goal.After-self-1) → map object_of (set c.self.inside.objects.items c.args.o c.replace.new.self) ≡ with_property (map object_of c.self.inside.objects.items) c.args.o c.args.i c.args.p
changed c =
    let there = subst (λ (k : Kept). c.args.o < length k.world) (sym c.self.view_is) c.requires.object in
    world-changed c.self.inside.objects.items c.args.o c.index_mut-object.result.now c.index_mut-object.ensures.value there c.replace.new.self
    (λ (z : Object). with_list z (slice_set z.props c.args.i c.args.p)) c.replace.ensures

pub replace-requires : goal.replace-requires
replace-requires c =
    let objects = c.self.inside.objects.items in
    let there = subst (λ (k : Kept). c.args.o < length k.world) (sym c.self.view_is) c.requires.object in
    let within : c.args.i < length (props_at (map object_of objects) c.args.o) = within-name (props_at (map object_of objects) c.args.o) c.args.i c.args.p.name (subst (λ (k : Kept). name_at (props_at k.world c.args.o) c.args.i ≡ Some c.args.p.name) (sym c.self.view_is) c.requires.name) in
    subst (λ ps. c.args.i < length ps) (props_at-kept objects c.args.o c.index_mut-object.result.now c.index_mut-object.ensures.value there) within

pub invariant_of-self : goal.invariant_of-self
invariant_of-self c =
    let kept = kept_by c.self.inside.objects.items c.self.inside.limit in
    let name = subst (λ (k : Kept). name_at (props_at k.world c.args.o) c.args.i ≡ Some c.args.p.name) (sym c.self.view_is) c.requires.name in
    subst (λ (w : World). IsKept (with_world kept w)) (sym (changed c)) (IsKept-with_property kept c.self.invariant c.args.o c.args.i c.args.p name c.requires.proper)

pub returns-clause-did : goal.returns-clause-did
returns-clause-did c =
    let kept = kept_by c.self.inside.objects.items c.self.inside.limit in
    came-made kept _ c.self.view_is (Reconfigured c.args.o c.args.i c.args.p) (map object_of (set c.self.inside.objects.items c.args.o c.replace.new.self)) (changed c)

pub returns-clause-reconfigured : goal.returns-clause-reconfigured
returns-clause-reconfigured c = (returns-clause-did c).world
