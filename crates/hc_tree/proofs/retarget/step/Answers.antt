use Rattle.std.proofs.Common.{◌≡◌, ap, sym, subst, false, Some}
use Rattle.std.specs.Prelude.{IsSomeAnd, All}
use Rattle.hc_heap.specs.Readings.{gate_in}
use Rattle.hc_heap.specs.States.{HeapState, View}
use Rattle.hc_descs.specs.Entries.{LacksName}
use Rattle.hc_links.specs.Chains.{links_in}
use Rattle.hc_tree.specs.Tree.{IsDeadFor, gate_with}
use Rattle.hc_tree.specs.Growth.{MayGrow}
use Rattle.hc_tree.proofs.Opened.{found-dead}
use Rattle.hc_tree.proofs.Walked.{IsMadeUnder, IsNext, built-step, next-grows, next-lacks, next-proper}
use Rattle.hc_tree.proofs.retarget.step.Goals as goal

pub make_child-requires-clause-open : goal.make_child-requires-clause-open
make_child-requires-clause-open g c =
    let v = c.args.h.now.view in
    let read : c.key_at-key.new.h.view ≡ v = ap (λ (s : HeapState g.row.P.Denot). s.view) c.key_at-key.ensures.same in
    let key = c.key_at-key.result in
    let next : IsNext v c.args.map c.args.k key = record { gate = gate_with c.args.n false; is_open = c.requires.map; within = c.requires.entry; is_key = c.key_at-key.ensures.key } in
    subst (λ (w : View). IsSomeAnd (gate_in w.trail c.args.at) MayGrow) (sym read)
    (next-grows c.gates_are_open.ensures.law c.forms_are_kept.ensures.law v c.args.at c.args.map c.args.k key c.stands.ensures.heap c.requires.tree next c.requires.open)

pub make_child-requires-clause-proper : goal.make_child-requires-clause-proper
make_child-requires-clause-proper g c =
    let v = c.args.h.now.view in
    let key = c.key_at-key.result in
    let next : IsNext v c.args.map c.args.k key = record { gate = gate_with c.args.n false; is_open = c.requires.map; within = c.requires.entry; is_key = c.key_at-key.ensures.key } in
    next-proper c.gates_are_open.ensures.law c.forms_are_kept.ensures.law v c.args.at c.args.map c.args.k key c.stands.ensures.heap c.requires.tree next

pub make_child-requires-clause-lacks : goal.make_child-requires-clause-lacks
make_child-requires-clause-lacks g c =
    let v = c.args.h.now.view in
    let read : c.key_at-key.new.h.view ≡ v = ap (λ (s : HeapState g.row.P.Denot). s.view) c.key_at-key.ensures.same in
    let key = c.key_at-key.result in
    let next : IsNext v c.args.map c.args.k key = record { gate = gate_with c.args.n false; is_open = c.requires.map; within = c.requires.entry; is_key = c.key_at-key.ensures.key } in
    subst (λ (w : View). LacksName w.trail c.args.at c.args.k key.name) (sym read)
    (next-lacks c.gates_are_open.ensures.law c.forms_are_kept.ensures.law v c.args.at c.args.map c.args.k key c.stands.ensures.heap c.requires.tree next c.requires.keys)

pub make_child-requires-clause-accessor : goal.make_child-requires-clause-accessor
make_child-requires-clause-accessor g c = c.requires.admits.accessor c.key_at-key.result c.key_at-key.ensures.key

pub make_child-requires-clause-dead : goal.make_child-requires-clause-dead
make_child-requires-clause-dead g c =
    let v = c.args.h.now.view in
    let read : c.key_at-key.new.h.view ≡ v = ap (λ (s : HeapState g.row.P.Denot). s.view) c.key_at-key.ensures.same in
    let key = c.key_at-key.result in
    let next : IsNext v c.args.map c.args.k key = record { gate = gate_with c.args.n false; is_open = c.requires.map; within = c.requires.entry; is_key = c.key_at-key.ensures.key } in
    subst (λ (w : View). All (IsDeadFor w.trail (Some key)) (links_in w.trail c.args.at)) (sym read)
    (found-dead c.same_keys_are_equal.ensures.law v.trail c.args.at key c.requires.tree
    (next-grows c.gates_are_open.ensures.law c.forms_are_kept.ensures.law v c.args.at c.args.map c.args.k key c.stands.ensures.heap c.requires.tree next c.requires.open)
    (c.requires.ends key c.requires.entry c.key_at-key.ensures.key))

pub returns-clause-built : goal.returns-clause-built
returns-clause-built g c =
    let v = c.args.h.now.view in
    let w = c.make_child.new.h.view in
    let read : c.key_at-key.new.h.view ≡ v = ap (λ (s : HeapState g.row.P.Denot). s.view) c.key_at-key.ensures.same in
    let key = c.key_at-key.result in
    let d = c.args.detail in
    let it : IsMadeUnder v w c.args.at c.args.k c.make_child.result key d = subst (λ (x : View). IsMadeUnder x w c.args.at c.args.k c.make_child.result key d) read (record {
      number = c.make_child.ensures.number;
      live = c.make_child.ensures.live;
      child = c.make_child.ensures.child;
      last = c.make_child.ensures.ends;
      detail = c.make_child.ensures.detail;
      bare = c.make_child.ensures.bare;
      used = c.make_child.ensures.used;
      gets = c.make_child.ensures.gets;
      writes = c.make_child.ensures.writes;
      shape = c.make_child.ensures.shape;
      tree = c.make_child.ensures.tree;
      heap = c.make_child.ensures.heap;
    }) in
    built-step c.maps_are_kept.ensures.law c.unused_says_nothing.ensures.law v w c.args.at c.args.map c.args.k c.args.n c.make_child.result key d c.stands.ensures.heap it c.requires.open c.requires.map c.requires.entry c.key_at-key.ensures.key c.requires.keys
