use Rattle.std.proofs.Common.{◌≡◌, ◌∙◌, ◌∷◌, ◌+◌, ℕ, Option, ap, sym, subst, Some}
use Rattle.hc_layout.specs.declared.words.RootWord.{RootWord}
use Rattle.hc_heap.specs.Writes.{Root}
use Rattle.hc_heap.specs.States.{View, IsHeap, with_write}
use Rattle.hc_tree.specs.Tree.{IsRoot, IsTree}
use Rattle.hc_tree.specs.Growth.{with_root}
use Rattle.hc_tree.proofs.Keeping.{goes-by}
use Rattle.hc_tree.proofs.Growing.{named-root}
use Rattle.hc_tree.proofs.Fresh.{known-space, roots-kept}
use Rattle.hc_tree.proofs.roots.root_of_object.Goals as goal

pub returns-in-Some-clause-root : goal.returns-in-Some-clause-root
returns-in-Some-clause-root g c =
    let same = ap (λ s. s.view) c.object_root-word.ensures.new in
    subst (λ (v : View). IsRoot v.trail (Some c.args.object) c.in-Some.root) (sym same)
    (c.requires.tree.roots c.args.object c.in-Some.root (sym (ap (λ w. w.map) c.object_root-word.ensures.value) ∙ c.in-Some.is))

pub returns-in-Some-clause-space : goal.returns-in-Some-clause-space
returns-in-Some-clause-space g c = known-space c.args.h.now.view c.stands.ensures.heap _ c.in-Some.root (sym (ap (λ w. w.map) c.object_root-word.ensures.value) ∙ c.in-Some.is)

pub returns-clause-tree : goal.returns-clause-tree
returns-clause-tree g c =
    let v = c.make_root-root.new.h.view in
    let word : RootWord = record { is_proto = c.object_root-word.result.is_proto; map = Some c.make_root-root.result } in
    let whole = subst IsHeap c.set_object_root.ensures.view c.set_object_root.ensures.heap in
    let before = c.make_root-root.ensures.heap in
    let kept = c.maps_are_kept.ensures.law v.shape v.trail (Root c.args.object word ∷ v.trail) before.lawful (goes-by v.shape v.trail (Root c.args.object word) whole.lawful) in
    subst (λ (w : View). IsTree w.trail) (sym c.set_object_root.ensures.view)
    (named-root v.trail c.args.object c.make_root-root.result c.object_root-word.result.is_proto kept c.make_root-root.ensures.root c.make_root-root.ensures.tree)

pub returns-clause-roots : goal.returns-clause-roots
returns-clause-roots g c q x root =
    let v = c.args.h.now.view in
    let o = c.args.object in
    let r = c.make_root-root.result in
    let word : RootWord = record { is_proto = c.object_root-word.result.is_proto; map = Some r } in
    let read : c.object_root-word.new.self.view ≡ v = ap (λ s. s.view) c.object_root-word.ensures.new in
    let made : c.make_root-root.new.h.view ≡ record v { trail = with_root v.trail (Some o) r; used = c.make_root-root.new.h.view.used } = made-is c.object_root-word.new.self.view v c.make_root-root.new.h.view (Some o) r read c.make_root-root.ensures.view in
    let last : c.set_object_root.new.self.view ≡ with_write (record v { trail = with_root v.trail (Some o) r; used = c.make_root-root.new.h.view.used }) (Root o word) = c.set_object_root.ensures.view ∙ ap (λ (w : View). with_write w (Root o word)) made in
    let whole = subst IsHeap last c.set_object_root.ensures.heap in
    subst (λ (w : View). IsRoot w.trail q x) (sym last) (roots-kept c.maps_are_kept.ensures.law v.shape v.trail (Some o) o r word c.stands.ensures.heap.lawful whole.lawful q x root)
  where
    made-is : (a v w : View) (p : Option ℕ) (r : ℕ) → a ≡ v → w ≡ record a { trail = with_root a.trail p r; used = record a.used { maps = a.used.maps + 1 } } → w ≡ record v { trail = with_root v.trail p r; used = w.used }
    made-is a v w p r e is = is ∙ (ap (λ (y : View). record y { trail = with_root y.trail p r; used = record a.used { maps = a.used.maps + 1 } }) e ∙ ap (λ (y : View). record v { trail = with_root v.trail p r; used = y.used }) (sym is))
