use Rattle.std.proofs.Common.{◌≡◌, ◌<◌, [], ◌∷◌, ◌++◌, None, length, map, set, subst, sym, ap, ◌∙◌}
use Rattle.std.proofs.lemmas.Result.{on_ok_weaker, on_err_weaker}
use Rattle.hc_table.specs.Changes.{Added, Moved}
use Rattle.hc_table.specs.Kept.{Kept, IsKept, with_world}
use Rattle.hc_table.specs.Plain.{object_of, kept_by}
use Rattle.hc_table.specs.World.{Object, World, with_added, with_list, place_of, props_at}
use Rattle.hc_table.proofs.Objects.{either, world-changed, world-same}
use Rattle.hc_table.proofs.Worlds.{IsKept-with_added, came-made}
use Rattle.hc_table.proofs.plain.PlainTables.add.Goals as goal

there : (c : goal.After-self-1) → c.args.o < length (map object_of c.self.inside.objects.items)
there c = subst (λ (k : Kept). c.args.o < length k.world) (sym c.self.view_is) c.requires.object

added : (c : goal.After-self-1) → object_of c.append.new.self ≡ with_list (object_of c.index_mut-object.result.now) (c.index_mut-object.result.now.props.items ++ c.args.p ∷ []) → map object_of (set c.self.inside.objects.items c.args.o c.append.new.self) ≡ with_added (map object_of c.self.inside.objects.items) c.args.o c.args.p
added c =
    world-changed c.self.inside.objects.items c.args.o c.index_mut-object.result.now c.index_mut-object.ensures.value (there c) c.append.new.self
    (λ (z : Object). with_list z (z.props ++ c.args.p ∷ []))

same : (c : goal.After-self-1) → object_of c.append.new.self ≡ object_of c.index_mut-object.result.now → map object_of (set c.self.inside.objects.items c.args.o c.append.new.self) ≡ map object_of c.self.inside.objects.items
same c = world-same c.self.inside.objects.items c.args.o c.index_mut-object.result.now c.index_mut-object.ensures.value (there c) c.append.new.self

pub invariant_of-self : goal.invariant_of-self
invariant_of-self c =
    let kept = kept_by c.self.inside.objects.items c.self.inside.limit in
    let absent = subst (λ (k : Kept). place_of (props_at k.world c.args.o) c.args.p.name ≡ None) (sym c.self.view_is) c.requires.absent in
    let is_kept : World → Type 0 = λ w. IsKept (with_world kept w) in
    either c.append.result c.append.ensures.added c.append.ensures.err
    (λ e. subst is_kept (sym (added c e)) (IsKept-with_added kept c.self.invariant c.args.o c.args.p absent c.requires.proper))
    (λ e. subst is_kept (sym (same c e)) c.self.invariant)

pub returns-clause-added : goal.returns-clause-added
returns-clause-added c =
    on_ok_weaker c.append.result (λ e. added c e ∙ ap (λ (k : Kept). with_added k.world c.args.o c.args.p) c.self.view_is) c.append.ensures.added

pub returns-clause-did : goal.returns-clause-did
returns-clause-did c =
    let kept = kept_by c.self.inside.objects.items c.self.inside.limit in
    let new = map object_of (set c.self.inside.objects.items c.args.o c.append.new.self) in
    on_ok_weaker c.append.result (λ e. came-made kept _ c.self.view_is (Added c.args.o c.args.p) new (added c e)) c.append.ensures.added

pub returns-clause-err : goal.returns-clause-err
returns-clause-err c =
    on_err_weaker c.append.result (λ e. same c e ∙ ap (λ (k : Kept). k.world) c.self.view_is) c.append.ensures.err

pub returns-clause-moved : goal.returns-clause-moved
returns-clause-moved c =
    let kept = kept_by c.self.inside.objects.items c.self.inside.limit in
    let new = map object_of (set c.self.inside.objects.items c.args.o c.append.new.self) in
    on_err_weaker c.append.result (λ e. came-made kept _ c.self.view_is Moved new (same c e)) c.append.ensures.err
