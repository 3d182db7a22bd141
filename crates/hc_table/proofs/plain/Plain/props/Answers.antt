use Rattle.std.proofs.Common.{◌<◌, length, map, subst, ap, sym, ◌∙◌, arith}
use Rattle.std.specs.List.{AllByRecursion}
use Rattle.hc_table.specs.Attributes.{IsProper}
use Rattle.hc_table.specs.Kept.{Kept}
use Rattle.hc_table.specs.Plain.{object_of, kept_by}
use Rattle.hc_table.specs.World.{IsWorld}
use Rattle.hc_table.proofs.Objects.{props_at-kept}
use Rattle.hc_table.proofs.Worlds.{few_properties}
use Rattle.hc_table.proofs.plain.Plain.props.Goals as goal

pub returns-clause-short : goal.returns-clause-short
returns-clause-short c =
    let objects = c.self.inside.objects.items in
    let there : c.args.o < length (map object_of objects) = subst (λ (k : Kept). c.args.o < length k.world) (sym c.self.view_is) c.requires in
    let few = few_properties (kept_by objects c.self.inside.limit) c.self.invariant c.args.o in
    let items = c.deref.ensures.value ∙ sym (props_at-kept objects c.args.o c.index.result.now c.index.ensures there) in
    omega (arith, few, ap length items)

pub returns-clause-sound : goal.returns-clause-sound
returns-clause-sound c = subst (λ (k : Kept). IsWorld k.world) c.self.view_is c.self.invariant.sound

pub returns-clause-proper : goal.returns-clause-proper
returns-clause-proper c =
    let objects = c.self.inside.objects.items in
    let there : c.args.o < length (map object_of objects) = subst (λ (k : Kept). c.args.o < length k.world) (sym c.self.view_is) c.requires in
    let items = c.deref.ensures.value ∙ sym (props_at-kept objects c.args.o c.index.result.now c.index.ensures there) in
    subst (AllByRecursion IsProper) (sym items) (c.self.invariant.proper c.args.o)
