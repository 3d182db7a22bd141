use Rattle.std.proofs.Common.{◌≡◌, ◌∙◌, ℕ, ◌+◌, ◌≤◌, [], ◌∷◌, ap, sym, subst, arith, false, Some, None}
use Rattle.hc_value.specs.declared.field.Detail.{Detail}
use Rattle.hc_links.specs.Chains.{links_in}
use Rattle.hc_tree.specs.Details.{ChildGets, NoMap, Reshapes}
use Rattle.std.specs.Prelude.{IsSomeAnd}
use Rattle.hc_layout.specs.declared.shape.Shape.{Shape}
use Rattle.hc_heap.specs.Writes.{Trail, Gate}
use Rattle.hc_heap.specs.Readings.{detail_in, gate_in}
use Rattle.hc_heap.specs.Lawful.{Lawful}
use Rattle.hc_heap.specs.States.{View}
use Rattle.hc_heap.specs.Kept.{Adds}
use Rattle.hc_heap.specs.Frames.{adds-on}
use Rattle.hc_descs.specs.Entries.{LacksName}
use Rattle.hc_links.specs.Chains.{linked}
use Rattle.hc_tree.specs.Tree.{IsTree, IsChildFor, gate_with}
use Rattle.hc_tree.specs.Growth.{MayGrow, MakesMap, marked}
use Rattle.hc_tree.proofs.Begun.{open-handed}
use Rattle.hc_tree.proofs.Opened.{marked-may, marked-writes, marked-gets, child-bare, child-gate, few-of, linked-tree, linked-writes, linked-gets}
use Rattle.hc_tree.proofs.children.make_child.Given.{Over}
use Rattle.hc_tree.proofs.children.make_child.Goals as goal

pub mark_unstable-requires-clause-handed : goal.mark_unstable-requires-clause-handed
mark_unstable-requires-clause-handed g c = open-handed MayGrow c.unused_says_nothing.ensures.law c.args.h.now.view c.args.map c.stands.ensures.heap c.requires.open

pub begin_child-child-requires-clause-lacks : goal.begin_child-child-requires-clause-lacks
begin_child-child-requires-clause-lacks g c =
    let may = marked-may c.args.h.now.view.trail c.args.map c.args.n c.args.key (record { grows = c.requires.open; count = c.requires.count; live = c.requires.live; lacks = c.requires.lacks; dead = c.requires.dead }) in
    subst (λ (w : View). LacksName w.trail c.args.map c.args.n c.args.key.name) (sym c.mark_unstable.ensures.view) may.lacks

pub set_gate-requires-clause-lawful : goal.set_gate-requires-clause-lawful
set_gate-requires-clause-lawful g c =
    let w = c.begin_child-child.new.h.view in
    child-gate c.gates_are_open.ensures.law w.shape w.trail c.args.map c.begin_child-child.result c.args.n c.mark_unstable.new.h.view.used.fields c.args.key c.begin_child-child.ensures.heap.lawful
    (few-of (gate_in c.args.h.now.view.trail c.args.map) c.args.n c.requires.open c.requires.count) c.begin_child-child.ensures.ready

-- the trail after the link
trail-is : (g : Over) (c : goal.After-link g) → c.link.new.h.view.trail ≡ linked (Gate c.begin_child-child.result (gate_with (c.args.n + 1) false) ∷ c.begin_child-child.new.h.view.trail) c.args.map c.set_gate.new.self.view.used.links c.args.key c.begin_child-child.result
trail-is g c = c.link.ensures.trail ∙ ap (λ (w : View). linked w.trail c.args.map c.set_gate.new.self.view.used.links c.args.key c.begin_child-child.result) c.set_gate.ensures.view

whole : (g : Over) (c : goal.After-link g) → IsTree c.link.new.h.view.trail × IsSomeAnd (gate_in c.link.new.h.view.trail c.args.map) (λ g. IsChildFor c.link.new.h.view.trail c.args.map g c.begin_child-child.result c.args.key)
whole g c =
    let w = c.begin_child-child.new.h.view in
    let child = c.begin_child-child.result in
    let l = c.set_gate.new.self.view.used.links in
    let trail = trail-is g c in
    let shape : c.link.new.h.view.shape ≡ w.shape = c.link.ensures.shape ∙ ap (λ (x : View). x.shape) c.set_gate.ensures.view in
    let after : Lawful w.shape (linked (Gate child (gate_with (c.args.n + 1) false) ∷ w.trail) c.args.map l c.args.key child) =
    subst (λ (t : Trail). Lawful w.shape t) trail (subst (λ (s : Shape). Lawful s c.link.new.h.view.trail) shape c.link.ensures.heap.lawful) in
    subst (λ (t : Trail). IsTree t × IsSomeAnd (gate_in t c.args.map) (λ g. IsChildFor t c.args.map g child c.args.key)) (sym trail)
    (linked-tree c.maps_are_kept.ensures.law w.shape w.trail c.args.map child c.args.n l c.mark_unstable.new.h.view.used.fields c.args.key c.begin_child-child.ensures.heap.lawful after c.begin_child-child.ensures.ready c.begin_child-child.ensures.tree)

pub returns-clause-child : goal.returns-clause-child
returns-clause-child g c = (whole g c).1

pub returns-clause-tree : goal.returns-clause-tree
returns-clause-tree g c = (whole g c).0

-- the writes after the map was made unstable
pub returns-clause-begins : goal.returns-clause-begins
returns-clause-begins g c =
    let v = c.args.h.now.view in
    let m = c.args.map in
    let child = c.begin_child-child.result in
    let used : c.mark_unstable.new.h.view.used ≡ v.used = ap (λ (w : View). w.used) c.mark_unstable.ensures.view in
    let second : Adds (MakesMap v.used (Some m)) (marked v.trail m) c.begin_child-child.new.h.view.trail =
    subst (λ (w : View). Adds (MakesMap v.used (Some m)) w.trail c.begin_child-child.new.h.view.trail) c.mark_unstable.ensures.view
    (subst (λ (u : Shape). Adds (MakesMap u (Some m)) c.mark_unstable.new.h.view.trail c.begin_child-child.new.h.view.trail) used c.begin_child-child.ensures.writes) in
    let number : v.used.maps ≤ child = subst (λ (u : Shape). u.maps ≤ child) used (omega (arith, c.begin_child-child.ensures.number)) in
    let links : c.set_gate.new.self.view.used.links ≡ v.used.links = ap (λ (w : View). w.used.links) c.set_gate.ensures.view ∙ (ap (λ (u : Shape). u.links) c.begin_child-child.ensures.used ∙ ap (λ (u : Shape). u.links) used) in
    let third = linked-writes v.used c.begin_child-child.new.h.view.trail m child c.set_gate.new.self.view.used.links (gate_with (c.args.n + 1) false) c.args.key number (omega arith) in
    adds-on second (subst (λ (t : Trail). Adds (MakesMap v.used (Some m)) c.begin_child-child.new.h.view.trail t) (sym (trail-is g c)) third)

pub returns-clause-writes : goal.returns-clause-writes
returns-clause-writes g c =
    let v = c.args.h.now.view in
    adds-on (marked-writes v.used v.trail c.args.map) (returns-clause-begins g c)

-- the writes, with what the new field gets
pub returns-clause-first : goal.returns-clause-first
returns-clause-first g c =
    let v = c.args.h.now.view in
    let m = c.args.map in
    let child = c.begin_child-child.result in
    let G : ℕ → Detail → Type 0 = ChildGets v.trail None c.args.n c.args.detail v.used.fields in
    let used : c.mark_unstable.new.h.view.used ≡ v.used = ap (λ (w : View). w.used) c.mark_unstable.ensures.view in
    let second : Adds (Reshapes v.used NoMap G) (marked v.trail m) c.begin_child-child.new.h.view.trail =
    subst (λ (x : View). Adds (Reshapes v.used NoMap G) x.trail c.begin_child-child.new.h.view.trail) c.mark_unstable.ensures.view
    (subst (λ (u : Shape). Adds (Reshapes u NoMap (ChildGets v.trail None c.args.n c.args.detail u.fields)) c.mark_unstable.new.h.view.trail c.begin_child-child.new.h.view.trail) used c.begin_child-child.ensures.gets) in
    let number : v.used.maps ≤ child = subst (λ (u : Shape). u.maps ≤ child) used (omega (arith, c.begin_child-child.ensures.number)) in
    let links : c.set_gate.new.self.view.used.links ≡ v.used.links = ap (λ (w : View). w.used.links) c.set_gate.ensures.view ∙ (ap (λ (u : Shape). u.links) c.begin_child-child.ensures.used ∙ ap (λ (u : Shape). u.links) used) in
    let third = linked-gets v.used G c.begin_child-child.new.h.view.trail m child c.set_gate.new.self.view.used.links (gate_with (c.args.n + 1) false) c.args.key number (omega arith) in
    adds-on second (subst (λ (t : Trail). Adds (Reshapes v.used NoMap G) c.begin_child-child.new.h.view.trail t) (sym (trail-is g c)) third)

pub returns-clause-gets : goal.returns-clause-gets
returns-clause-gets g c =
    let v = c.args.h.now.view in
    adds-on (marked-gets v.used (ChildGets v.trail None c.args.n c.args.detail v.used.fields) v.trail c.args.map) (returns-clause-first g c)

pub returns-clause-bare : goal.returns-clause-bare
returns-clause-bare g c =
    subst (λ (t : Trail). links_in t c.begin_child-child.result ≡ []) (sym (trail-is g c))
    (child-bare c.begin_child-child.new.h.view.trail c.args.map c.begin_child-child.result c.args.n c.set_gate.new.self.view.used.links c.mark_unstable.new.h.view.used.fields c.args.key c.begin_child-child.ensures.ready)

pub returns-clause-detail : goal.returns-clause-detail
returns-clause-detail g c =
    let v = c.args.h.now.view in
    let w = c.begin_child-child.new.h.view in
    let used : c.mark_unstable.new.h.view.used ≡ v.used = ap (λ (x : View). x.used) c.mark_unstable.ensures.view in
    subst (λ (t : Trail). detail_in t v.used.fields ≡ Some c.args.detail) (sym (trail-is g c))
    (subst (λ (u : Shape). detail_in w.trail u.fields ≡ Some c.args.detail) used c.begin_child-child.ensures.detail)
