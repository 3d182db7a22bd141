use Rattle.std.proofs.Common.{◌≡◌, ◌<◌, length, map, set, subst, sym}
use Rattle.hc_table.specs.Changes.{Restricted, restricted_object, with_integrity}
use Rattle.hc_table.specs.Kept.{Kept, IsKept, with_world}
use Rattle.hc_table.specs.Plain.{object_of, kept_by}
use Rattle.hc_table.specs.World.{Object, World}
use Rattle.hc_table.proofs.Objects.{world-changed}
use Rattle.hc_table.proofs.Worlds.{IsKept-with_integrity, came-made}
use Rattle.hc_table.proofs.plain.PlainTables.restrict.Goals as goal

changed : (c : goal.After-self-1) → map object_of (set c.self.inside.objects.items c.args.o c.restrict.new.self) ≡ with_integrity (map object_of c.self.inside.objects.items) c.args.o c.args.frozen
changed c =
    let there = subst (λ (k : Kept). c.args.o < length k.world) (sym c.self.view_is) c.requires in
    world-changed c.self.inside.objects.items c.args.o c.index_mut-object.result.now c.index_mut-object.ensures.value there c.restrict.new.self
    (λ (z : Object). restricted_object z c.args.frozen) c.restrict.ensures

pub invariant_of-self : goal.invariant_of-self
invariant_of-self c =
    let kept = kept_by c.self.inside.objects.items c.self.inside.limit in
    subst (λ (w : World). IsKept (with_world kept w)) (sym (changed c)) (IsKept-with_integrity kept c.self.invariant c.args.o c.args.frozen)

pub returns-clause-did : goal.returns-clause-did
returns-clause-did c =
    let kept = kept_by c.self.inside.objects.items c.self.inside.limit in
    came-made kept _ c.self.view_is (Restricted c.args.o c.args.frozen) (map object_of (set c.self.inside.objects.items c.args.o c.restrict.new.self)) (changed c)

pub returns-clause-restricted : goal.returns-clause-restricted
returns-clause-restricted c = (returns-clause-did c).world
