use Rattle.std.proofs.Common.{◌≡◌, ◌∙◌, ℕ, ◌<◌, Option, None, Some, List, length, set, ap, sym, subst}
use Rattle.std.proofs.lemmas.List.{set-get_or}
use Rattle.hc_value.specs.declared.prop.Prop.{Prop}
use Rattle.hc_slots.specs.Meaning.{Dictionary}
use Rattle.hc_modes.specs.Meaning.{kept_of}
use Rattle.hc_modes.specs.State.{ObjectsState, IsObjects}
use Rattle.hc_modes.proofs.Shown.{within}
use Rattle.hc_modes.proofs.Slowed.{item-is}
use Rattle.hc_modes.proofs.objects.Objects.close_slow.Goals as goal

-- a slow object whose properties are the same is the same
same-kept : (kept : List (Option Dictionary)) (o : ℕ) (d : Dictionary) (props : List Prop) → kept_of kept o ≡ Some d → props ≡ d.props → set kept o (Some (record d { props = props })) ≡ kept
same-kept kept o d props is e =
    ap (λ (ps : List Prop). set kept o (Some (record d { props = ps }))) e ∙ ap (λ (x : Option Dictionary). set kept o x) (sym is) ∙ set-get_or kept o None

pub invariant_of-self : goal.invariant_of-self
invariant_of-self g c =
    let v = c.self.inside.heap.view in
    let kept = c.self.inside.kept.items in
    let null = c.self.inside.of_null in
    let o = c.args.o in
    let there : o < length kept = within _ _ o c.self.view_is c.requires.object in
    let d = c.unwrap-slow.result.now in
    let is : kept_of kept o ≡ Some d = item-is kept o c.index_mut.result.now c.as_mut.result c.unwrap-slow.result there c.index_mut.ensures.value c.as_mut.ensures.value c.unwrap-slow.ensures in
    subst (λ (ks : List (Option Dictionary)). IsObjects v ks null) (sym (same-kept kept o d c.close.new.self is c.close.ensures)) c.self.invariant

pub returns : goal.returns
returns g c =
    let kept = c.self.inside.kept.items in
    let o = c.args.o in
    let there : o < length kept = within _ _ o c.self.view_is c.requires.object in
    let d = c.unwrap-slow.result.now in
    let is : kept_of kept o ≡ Some d = item-is kept o c.index_mut.result.now c.as_mut.result c.unwrap-slow.result there c.index_mut.ensures.value c.as_mut.ensures.value c.unwrap-slow.ensures in
    ap (λ (ks : List (Option Dictionary)). let s : ObjectsState g.row.P.Denot = record { heap = c.self.inside.heap; kept = ks; of_null = c.self.inside.of_null } in s) (same-kept kept o d c.close.new.self is c.close.ensures)
    ∙ c.self.view_is
