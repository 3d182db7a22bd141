use Rattle.std.proofs.Common.{◌≡◌, ℕ, true, ◌∷◌, Option, ap, sym, ◌∙◌, subst}
use Rattle.hc_layout.specs.declared.words.RootWord.{RootWord}
use Rattle.hc_heap.specs.Writes.{Root}
use Rattle.hc_heap.specs.Lawful.{LawfulRoot}
use Rattle.hc_heap.specs.Readings.{root_in}
use Rattle.hc_heap.specs.States.{View, HeapState, IsHeap}
use Rattle.hc_tree.specs.Tree.{IsTree}
use Rattle.hc_modes.specs.Becoming.{with_proto}
use Rattle.hc_modes.proofs.Prototypes.{proto-lawful, proto-tree-on}
use Rattle.hc_modes.proofs.becoming.set_is_proto.Goals as goal

pub set_object_root-requires-clause-lawful : goal.set_object_root-requires-clause-lawful
set_object_root-requires-clause-lawful g c =
    let v = c.args.h.now.view in
    let o = c.args.object in
    let read : c.object_root-root.new.self.view ≡ v = ap (λ (s : HeapState g.row.P.Denot). s.view) c.object_root-root.ensures.new in
    let word : c.object_root-root.result.map ≡ (root_in v.trail o).map = ap (λ (r : RootWord). r.map) c.object_root-root.ensures.value in
    subst (λ (w : View). LawfulRoot w.shape w.trail o (record { is_proto = true; map = c.object_root-root.result.map })) (sym read)
    (subst (λ (m : Option ℕ). LawfulRoot v.shape v.trail o (record { is_proto = true; map = m })) (sym word)
    (proto-lawful c.unused_says_nothing.ensures.law v c.stands.ensures.heap c.requires.tree o c.requires.own))

pub returns-clause-tree : goal.returns-clause-tree
returns-clause-tree g c =
    let v = c.args.h.now.view in
    let o = c.args.object in
    let is : c.set_object_root.new.self.view ≡ record v { trail = with_proto v.trail o } =
    c.set_object_root.ensures.view
    ∙ ap (λ (s : HeapState g.row.P.Denot). let w : View = record s.view { trail = Root o (record { is_proto = true; map = c.object_root-root.result.map }) ∷ s.view.trail } in w) c.object_root-root.ensures.new
    ∙ ap (λ (r : RootWord). let w : View = record v { trail = Root o (record { is_proto = true; map = r.map }) ∷ v.trail } in w) c.object_root-root.ensures.value in
    let heap = subst IsHeap is c.set_object_root.ensures.heap in
    subst (λ (w : View). IsTree w.trail) (sym is) (proto-tree-on c.trees_stay.ensures.law v c.stands.ensures.heap o heap.lawful c.requires.tree)
