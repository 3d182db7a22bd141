use Rattle.std.proofs.Common.{◌≡◌, ◌<◌, length, map, set, subst, sym}
use Rattle.hc_table.specs.Changes.{Locked, locked, with_lock}
use Rattle.hc_table.specs.Kept.{Kept, IsKept, with_world}
use Rattle.hc_table.specs.Plain.{object_of, kept_by}
use Rattle.hc_table.specs.World.{World}
use Rattle.hc_table.proofs.Objects.{world-changed}
use Rattle.hc_table.proofs.Worlds.{IsKept-with_lock, came-made}
use Rattle.hc_table.proofs.plain.PlainTables.lock.Goals as goal

changed : (c : goal.After-self-1) → map object_of (set c.self.inside.objects.items c.args.o c.lock.new.self) ≡ with_lock (map object_of c.self.inside.objects.items) c.args.o
changed c =
    let there = subst (λ (k : Kept). c.args.o < length k.world) (sym c.self.view_is) c.requires.object in
    world-changed c.self.inside.objects.items c.args.o c.index_mut-object.result.now c.index_mut-object.ensures.value there c.lock.new.self
    (locked) c.lock.ensures

pub invariant_of-self : goal.invariant_of-self
invariant_of-self c =
    let kept = kept_by c.self.inside.objects.items c.self.inside.limit in
    subst (λ (w : World). IsKept (with_world kept w)) (sym (changed c)) (IsKept-with_lock kept c.self.invariant c.args.o)

pub returns-clause-did : goal.returns-clause-did
returns-clause-did c =
    let kept = kept_by c.self.inside.objects.items c.self.inside.limit in
    came-made kept _ c.self.view_is (Locked c.args.o) (map object_of (set c.self.inside.objects.items c.args.o c.lock.new.self)) (changed c)

pub returns-clause-locked : goal.returns-clause-locked
returns-clause-locked c = (returns-clause-did c).world
