use Rattle.std.proofs.Common.{◌≡◌, ◌<◌, false, length, map, set, subst, sym}
use Rattle.hc_table.specs.Changes.{Linked, IsThere, reaches, with_link, with_proto}
use Rattle.hc_table.specs.Kept.{Kept, IsKept, with_world}
use Rattle.hc_table.specs.Plain.{object_of, kept_by}
use Rattle.hc_table.specs.World.{Object, World}
use Rattle.hc_table.proofs.Objects.{world-changed}
use Rattle.hc_table.proofs.Worlds.{IsKept-with_proto, came-made}
use Rattle.hc_table.proofs.plain.PlainTables.set_proto.Goals as goal

changed : (c : goal.After-self-1) → map object_of (set c.self.inside.objects.items c.args.o c.link.new.self) ≡ with_proto (map object_of c.self.inside.objects.items) c.args.o c.args.proto
changed c =
    let there = subst (λ (k : Kept). c.args.o < length k.world) (sym c.self.view_is) c.requires.object in
    world-changed c.self.inside.objects.items c.args.o c.index_mut-object.result.now c.index_mut-object.ensures.value there c.link.new.self
    (λ (z : Object). with_link z c.args.proto) c.link.ensures

pub invariant_of-self : goal.invariant_of-self
invariant_of-self c =
    let kept = kept_by c.self.inside.objects.items c.self.inside.limit in
    let here = subst (λ (k : Kept). c.args.o < length k.world) (sym c.self.view_is) c.requires.object in
    let there = subst (λ (k : Kept). IsThere k.world c.args.proto) (sym c.self.view_is) c.requires.there in
    let free = subst (λ (k : Kept). reaches k.world c.args.proto c.args.o ≡ false) (sym c.self.view_is) c.requires.no_cycle in
    subst (λ (w : World). IsKept (with_world kept w)) (sym (changed c)) (IsKept-with_proto kept c.self.invariant c.args.o c.args.proto here there free)

pub returns-clause-did : goal.returns-clause-did
returns-clause-did c =
    let kept = kept_by c.self.inside.objects.items c.self.inside.limit in
    came-made kept _ c.self.view_is (Linked c.args.o c.args.proto) (map object_of (set c.self.inside.objects.items c.args.o c.link.new.self)) (changed c)

pub returns-clause-linked : goal.returns-clause-linked
returns-clause-linked c = (returns-clause-did c).world
