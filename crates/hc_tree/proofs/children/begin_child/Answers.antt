use Rattle.std.proofs.Common.{◌≡◌, ◌∙◌, ◌≤◌, ◌<◌, ◌∷◌, ℕ, ap, sym, subst, refl, arith, false, Some, None, Option}
use Rattle.hc_value.specs.declared.field.Detail.{Detail}
use Rattle.std.specs.Prelude.{IsSome}
use Rattle.hc_layout.specs.declared.shape.Region.TheVariants.{Maps}
use Rattle.hc_heap.specs.Writes.{Trail, Parent, Prototype}
use Rattle.hc_heap.specs.Readings.{gate_in, prototype_in, array_in, owner_in, detail_in}
use Rattle.hc_heap.specs.declared.kind.Kind.TheVariants.{OwnerOfField}
use Rattle.hc_heap.specs.Lawful.{LawfulParent, LawfulPrototype}
use Rattle.hc_heap.specs.States.{View, IsHeap, with_write}
use Rattle.hc_tree.specs.Tree.{gate_with}
use Rattle.hc_tree.specs.Details.{ChildGets}
use Rattle.hc_tree.specs.Growth.{MayGrow, IsReadyChild}
use Rattle.hc_tree.specs.Copying.{with_field}
use Rattle.hc_tree.proofs.Fresh.{new-map}
use Rattle.hc_tree.proofs.Begun.{begun, with_map, with_new_field, grow-gate, open-handed, open-proto, proto-lawful, IsFilledChild, filled-child, filled-tree, filled-ready, filled-writes, filled-gets, filled-bits, filled-detail}
use Rattle.hc_tree.proofs.children.begin_child.Given.{Over}
use Rattle.hc_tree.proofs.children.begin_child.Goals as goal

pub unwrap-proto-requires : goal.unwrap-proto-requires
unwrap-proto-requires g c =
    subst (λ (o : Option (Option ℕ)). IsSome o) (sym c.proto.ensures.value)
    (open-proto MayGrow c.gates_are_open.ensures.law c.args.h.now.view c.args.map c.stands.ensures.heap c.requires.open)

pub set_parent-requires-clause-lawful : goal.set_parent-requires-clause-lawful
set_parent-requires-clause-lawful g c =
    let v = c.args.h.now.view in
    let m = c.args.map in
    let child = c.fresh-child.result in
    let e0 : c.proto.new.self.view ≡ v = ap (λ s. s.view) c.proto.ensures.new in
    let e1 : c.fresh-child.new.self.view ≡ with_map child v = ap (λ s. s.view) c.fresh-child.ensures.new ∙ ap (with_map child) e0 in
    let e2 = c.new_field-field.ensures.view ∙ ap (with_new_field c.new_field-field.result child c.args.detail) e1 in
    let number : v.used.maps ≤ child = subst (λ (w : View). w.used.maps ≤ child) e0 (omega (arith, c.fresh-child.ensures.first)) in
    let heap : IsHeap v = c.stands.ensures.heap in
    let new = new-map c.unused_says_nothing.ensures.law v.used v.trail child heap.used number in
    let there = open-handed MayGrow c.unused_says_nothing.ensures.law v m heap c.requires.open in
    let most = heap.most Maps in
    subst (λ (w : View). LawfulParent w.shape w.trail child (Some m)) (sym e2) (record { unwritten = new.parent; there = omega arith })

pub set_proto-requires-clause-lawful : goal.set_proto-requires-clause-lawful
set_proto-requires-clause-lawful g c =
    let v = c.args.h.now.view in
    let m = c.args.map in
    let p = c.unwrap-proto.result in
    let child = c.fresh-child.result in
    let f = c.new_field-field.result in
    let e0 : c.proto.new.self.view ≡ v = ap (λ s. s.view) c.proto.ensures.new in
    let e1 : c.fresh-child.new.self.view ≡ with_map child v = ap (λ s. s.view) c.fresh-child.ensures.new ∙ ap (with_map child) e0 in
    let e2 = c.new_field-field.ensures.view ∙ ap (with_new_field f child c.args.detail) e1 in
    let e3 = c.set_parent.ensures.view ∙ ap (λ (w : View). with_write w (Parent child (Some m))) e2 in
    let number : v.used.maps ≤ child = subst (λ (w : View). w.used.maps ≤ child) e0 (omega (arith, c.fresh-child.ensures.first)) in
    let heap : IsHeap v = c.stands.ensures.heap in
    let new = new-map c.unused_says_nothing.ensures.law v.used v.trail child heap.used number in
    let is : prototype_in v.trail m ≡ Some p = sym c.proto.ensures.value ∙ c.unwrap-proto.ensures in
    let forms = c.forms_are_kept.ensures.law v.shape v.trail heap.lawful in
    let t3 : Trail = Parent child (Some m) ∷ with_field v.trail f child c.args.detail in
    subst (λ (w : View). LawfulPrototype w.shape w.trail child p) (sym e3) (proto-lawful v t3 m child p forms is new.prototype (λ o. refl))

pub copy-requires-clause-closed : goal.copy-requires-clause-closed
copy-requires-clause-closed g c =
    let v = c.args.h.now.view in
    let m = c.args.map in
    let p = c.unwrap-proto.result in
    let child = c.fresh-child.result in
    let e0 : c.proto.new.self.view ≡ v = ap (λ s. s.view) c.proto.ensures.new in
    let e1 : c.fresh-child.new.self.view ≡ with_map child v = ap (λ s. s.view) c.fresh-child.ensures.new ∙ ap (with_map child) e0 in
    let e2 = c.new_field-field.ensures.view ∙ ap (with_new_field c.new_field-field.result child c.args.detail) e1 in
    let e3 = c.set_parent.ensures.view ∙ ap (λ (w : View). with_write w (Parent child (Some m))) e2 in
    let e4 = c.set_proto.ensures.view ∙ ap (λ (w : View). with_write w (Prototype child p)) e3 in
    let number : v.used.maps ≤ child = subst (λ (w : View). w.used.maps ≤ child) e0 (omega (arith, c.fresh-child.ensures.first)) in
    let heap : IsHeap v = c.stands.ensures.heap in
    let new = new-map c.unused_says_nothing.ensures.law v.used v.trail child heap.used number in
    ap (λ (w : View). gate_in w.trail child) e4 ∙ new.gate

pub copy-requires-clause-bare : goal.copy-requires-clause-bare
copy-requires-clause-bare g c =
    let v = c.args.h.now.view in
    let m = c.args.map in
    let p = c.unwrap-proto.result in
    let child = c.fresh-child.result in
    let e0 : c.proto.new.self.view ≡ v = ap (λ s. s.view) c.proto.ensures.new in
    let e1 : c.fresh-child.new.self.view ≡ with_map child v = ap (λ s. s.view) c.fresh-child.ensures.new ∙ ap (with_map child) e0 in
    let e2 = c.new_field-field.ensures.view ∙ ap (with_new_field c.new_field-field.result child c.args.detail) e1 in
    let e3 = c.set_parent.ensures.view ∙ ap (λ (w : View). with_write w (Parent child (Some m))) e2 in
    let e4 = c.set_proto.ensures.view ∙ ap (λ (w : View). with_write w (Prototype child p)) e3 in
    let number : v.used.maps ≤ child = subst (λ (w : View). w.used.maps ≤ child) e0 (omega (arith, c.fresh-child.ensures.first)) in
    let heap : IsHeap v = c.stands.ensures.heap in
    let new = new-map c.unused_says_nothing.ensures.law v.used v.trail child heap.used number in
    ap (λ (w : View). array_in w.trail child) e4 ∙ new.array

-- the child as it is after the copy
whole : (g : Over) (c : goal.After-copy g) → IsFilledChild c.args.h.now.view.shape c.args.h.now.view.trail c.copy.new.h.view.trail c.args.map c.fresh-child.result c.args.n c.new_field-field.result c.set_proto.new.self.view.used.entries c.unwrap-proto.result c.args.key c.args.detail
whole g c =
    let v = c.args.h.now.view in
    let m = c.args.map in
    let n = c.args.n in
    let p = c.unwrap-proto.result in
    let child = c.fresh-child.result in
    let f = c.new_field-field.result in
    let e0 : c.proto.new.self.view ≡ v = ap (λ s. s.view) c.proto.ensures.new in
    let e1 : c.fresh-child.new.self.view ≡ with_map child v = ap (λ s. s.view) c.fresh-child.ensures.new ∙ ap (with_map child) e0 in
    let e2 = c.new_field-field.ensures.view ∙ ap (with_new_field f child c.args.detail) e1 in
    let e3 = c.set_parent.ensures.view ∙ ap (λ (w : View). with_write w (Parent child (Some m))) e2 in
    let e4 = c.set_proto.ensures.view ∙ ap (λ (w : View). with_write w (Prototype child p)) e3 in
    let number : v.used.maps ≤ child = subst (λ (w : View). w.used.maps ≤ child) e0 (omega (arith, c.fresh-child.ensures.first)) in
    let heap : IsHeap v = c.stands.ensures.heap in
    let new = new-map c.unused_says_nothing.ensures.law v.used v.trail child heap.used number in
    let is : prototype_in v.trail m ≡ Some p = sym c.proto.ensures.value ∙ c.unwrap-proto.ensures in
    let there : m < v.used.maps = open-handed MayGrow c.unused_says_nothing.ensures.law v m heap c.requires.open in
    let gate : gate_in v.trail m ≡ Some (gate_with n false) = grow-gate (gate_in v.trail m) c.requires.open ∙ ap (λ (x : ℕ). Some (gate_with x false)) (sym c.requires.count) in
    let gate4 : gate_in c.set_proto.new.self.view.trail m ≡ Some (gate_with n false) = ap (λ (w : View). gate_in w.trail m) e4 ∙ gate in
    let same : c.set_proto.new.self.view ≡ record v { trail = begun v.trail m child f p c.args.detail; used = c.set_proto.new.self.view.used } = begun-is v c.set_proto.new.self.view m child f p c.args.detail e4 in
    let counts : c.set_proto.new.self.view.used.entries ≡ v.used.entries = ap (λ (w : View). w.used.entries) e4 in
    let fresh : f ≡ v.used.fields = c.new_field-field.ensures.fresh ∙ ap (λ (w : View). w.used.fields) e1 in
    let unwritten : owner_in v.trail f ≡ None = c.unused_says_nothing.ensures.law v.used v.trail OwnerOfField f heap.used (omega (arith, fresh)) in
    filled-child v c.set_proto.new.self.view c.copy.new.h.view m child n f p c.args.key c.args.detail same counts heap c.copy.ensures.heap c.copy.ensures.shape
    c.copy.ensures.writes c.copy.ensures.old c.copy.ensures.last c.copy.ensures.array c.copy.ensures.spare c.requires.tree new gate gate4 is (omega arith) c.requires.live c.requires.dead c.requires.proper c.requires.accessor unwritten c.requires.lacks
  where
    begun-is : (v w : View) (m child f : ℕ) (p : Option ℕ) (d : Detail) → w ≡ with_write (with_write (with_new_field f child d (with_map child v)) (Parent child (Some m))) (Prototype child p) → w ≡ record v { trail = begun v.trail m child f p d; used = w.used }
    begun-is v w m child f p d e = e ∙ ap (λ (x : View). record v { trail = begun v.trail m child f p d; used = x.used }) (sym e)

pub returns-clause-ready : goal.returns-clause-ready
returns-clause-ready g c =
    let v = c.args.h.now.view in
    let e0 : c.proto.new.self.view ≡ v = ap (λ s. s.view) c.proto.ensures.new in
    let e1 : c.fresh-child.new.self.view ≡ with_map c.fresh-child.result v = ap (λ s. s.view) c.fresh-child.ensures.new ∙ ap (with_map c.fresh-child.result) e0 in
    let field : c.new_field-field.result ≡ v.used.fields = c.new_field-field.ensures.fresh ∙ ap (λ (w : View). w.used.fields) e1 in
    subst (λ (x : ℕ). IsReadyChild c.copy.new.h.view.trail c.args.map c.fresh-child.result c.args.n x c.args.key) field
    (filled-ready v.shape v.trail c.copy.new.h.view.trail c.args.map c.fresh-child.result c.args.n c.new_field-field.result c.set_proto.new.self.view.used.entries c.unwrap-proto.result c.args.key c.args.detail c.maps_are_kept.ensures.law (whole g c) c.links_are_chained.ensures.law)

pub returns-clause-writes : goal.returns-clause-writes
returns-clause-writes g c =
    let v = c.args.h.now.view in
    let child = c.fresh-child.result in
    let e0 : c.proto.new.self.view ≡ v = ap (λ s. s.view) c.proto.ensures.new in
    let e1 : c.fresh-child.new.self.view ≡ with_map child v = ap (λ s. s.view) c.fresh-child.ensures.new ∙ ap (with_map child) e0 in
    let e2 = c.new_field-field.ensures.view ∙ ap (with_new_field c.new_field-field.result child c.args.detail) e1 in
    let e3 = c.set_parent.ensures.view ∙ ap (λ (w : View). with_write w (Parent child (Some c.args.map))) e2 in
    let e4 = c.set_proto.ensures.view ∙ ap (λ (w : View). with_write w (Prototype child c.unwrap-proto.result)) e3 in
    let number : v.used.maps ≤ child = subst (λ (w : View). w.used.maps ≤ child) e0 (omega (arith, c.fresh-child.ensures.first)) in
    let field : c.new_field-field.result ≡ v.used.fields = c.new_field-field.ensures.fresh ∙ ap (λ (w : View). w.used.fields) e1 in
    let first : c.set_proto.new.self.view.used.entries ≡ v.used.entries = ap (λ (w : View). w.used.entries) e4 in
    filled-writes v.shape v.used v.trail c.copy.new.h.view.trail c.args.map child c.args.n c.new_field-field.result c.set_proto.new.self.view.used.entries c.unwrap-proto.result c.args.key c.args.detail (whole g c) number (omega arith) (omega arith)

pub returns-clause-gets : goal.returns-clause-gets
returns-clause-gets g c =
    let v = c.args.h.now.view in
    let child = c.fresh-child.result in
    let e0 : c.proto.new.self.view ≡ v = ap (λ s. s.view) c.proto.ensures.new in
    let e1 : c.fresh-child.new.self.view ≡ with_map child v = ap (λ s. s.view) c.fresh-child.ensures.new ∙ ap (with_map child) e0 in
    let e2 = c.new_field-field.ensures.view ∙ ap (with_new_field c.new_field-field.result child c.args.detail) e1 in
    let e3 = c.set_parent.ensures.view ∙ ap (λ (w : View). with_write w (Parent child (Some c.args.map))) e2 in
    let e4 = c.set_proto.ensures.view ∙ ap (λ (w : View). with_write w (Prototype child c.unwrap-proto.result)) e3 in
    let number : v.used.maps ≤ child = subst (λ (w : View). w.used.maps ≤ child) e0 (omega (arith, c.fresh-child.ensures.first)) in
    let field : c.new_field-field.result ≡ v.used.fields = c.new_field-field.ensures.fresh ∙ ap (λ (w : View). w.used.fields) e1 in
    let first : c.set_proto.new.self.view.used.entries ≡ v.used.entries = ap (λ (w : View). w.used.entries) e4 in
    filled-gets v.shape v.used v.trail c.copy.new.h.view.trail c.args.map child c.args.n c.new_field-field.result c.set_proto.new.self.view.used.entries c.unwrap-proto.result c.args.key c.args.detail (ChildGets v.trail None c.args.n c.args.detail v.used.fields) (whole g c) number (omega arith) (omega arith) (field, refl)

pub returns-clause-bits : goal.returns-clause-bits
returns-clause-bits g c = filled-bits c.args.h.now.view.shape c.args.h.now.view.trail c.copy.new.h.view.trail c.args.map c.fresh-child.result c.args.n c.new_field-field.result c.set_proto.new.self.view.used.entries c.unwrap-proto.result c.args.key c.args.detail (whole g c) c.args.map

pub returns-clause-tree : goal.returns-clause-tree
returns-clause-tree g c = filled-tree c.args.h.now.view.shape c.args.h.now.view.trail c.copy.new.h.view.trail c.args.map c.fresh-child.result c.args.n c.new_field-field.result c.set_proto.new.self.view.used.entries c.unwrap-proto.result c.args.key c.args.detail c.maps_are_kept.ensures.law (whole g c)

pub returns-clause-detail : goal.returns-clause-detail
returns-clause-detail g c =
    let v = c.args.h.now.view in
    let e0 : c.proto.new.self.view ≡ v = ap (λ s. s.view) c.proto.ensures.new in
    let e1 : c.fresh-child.new.self.view ≡ with_map c.fresh-child.result v = ap (λ s. s.view) c.fresh-child.ensures.new ∙ ap (with_map c.fresh-child.result) e0 in
    let field : c.new_field-field.result ≡ v.used.fields = c.new_field-field.ensures.fresh ∙ ap (λ (w : View). w.used.fields) e1 in
    subst (λ (x : ℕ). detail_in c.copy.new.h.view.trail x ≡ Some c.args.detail) field
    (filled-detail v.shape v.trail c.copy.new.h.view.trail c.args.map c.fresh-child.result c.args.n c.new_field-field.result c.set_proto.new.self.view.used.entries c.unwrap-proto.result c.args.key c.args.detail c.maps_are_kept.ensures.law (whole g c))
