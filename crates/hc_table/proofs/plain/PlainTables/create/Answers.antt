use Rattle.std.proofs.Common.{◌≡◌, ◌<◌, true, List, [], ◌∷◌, ◌++◌, length, map, subst, sym, ap, ◌∙◌, arith}
use Rattle.std.proofs.lemmas.List.{map-append, length-map}
use Rattle.hc_value.specs.declared.prop.Prop.{Prop}
use Rattle.hc_table.specs.Changes.{IsThere}
use Rattle.hc_table.specs.Kept.{Kept, IsKept, with_world}
use Rattle.hc_table.specs.Plain.{object_of, kept_by}
use Rattle.hc_table.specs.World.{Object, World, with_object}
use Rattle.hc_table.proofs.Worlds.{IsKept-with_object}
use Rattle.hc_table.proofs.plain.PlainTables.create.Goals as goal

pub invariant_of-self-2 : goal.invariant_of-self-2
invariant_of-self-2 c =
    let objects = c.self.inside.objects.items in
    let kept = kept_by objects c.self.inside.limit in
    let there = subst (λ (k : Kept). IsThere k.world c.args.proto) (sym c.self.view_is) c.requires in
    let new_with : List Prop → Object = λ ps. record { proto = c.args.proto; extensible = true; props = ps } in
    let room : length (map object_of objects) < c.self.inside.limit = omega (arith, length-map objects object_of, c.if-number-self.false, c.len-number.ensures) in
    let new : map object_of c.push.new.self.items ≡ with_object (map object_of objects) c.args.proto =
    ap (map object_of) c.in_ok-push.ensures.items ∙ map-append object_of objects _
    ∙ ap (λ (ps : List Prop). map object_of objects ++ new_with ps ∷ []) c.new.ensures.items in
    subst (λ (w : World). IsKept (with_world kept w)) (sym new) (IsKept-with_object kept c.self.invariant c.args.proto there room)
