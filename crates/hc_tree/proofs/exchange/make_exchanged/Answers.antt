use Rattle.std.proofs.Common.{◌≡◌, ℕ, ◌+◌, true, Option, Some, ◌∷◌, refl, ap, sym, ◌∙◌, subst, arith}
use Rattle.std.specs.Prelude.{IsSome, IsSomeAnd}
use Rattle.hc_layout.specs.declared.shape.Shape.{Shape}
use Rattle.hc_layout.specs.declared.words.GateWord.{GateWord}
use Rattle.hc_heap.specs.Writes.{Trail, Gate}
use Rattle.hc_heap.specs.Readings.{bits_in, gate_in, owner_in, prototype_in}
use Rattle.hc_heap.specs.Lawful.{Lawful}
use Rattle.hc_heap.specs.Kept.{Adds}
use Rattle.hc_heap.specs.Frames.{goes-on-of}
use Rattle.hc_heap.specs.States.{HeapState, View}
use Rattle.hc_descs.specs.Copies.{HasEntriesBut}
use Rattle.hc_descs.specs.Entries.{key_at}
use Rattle.hc_tree.specs.Tree.{gate_with}
use Rattle.hc_tree.specs.Copying.{FillsCopy, FillsOne, IsClosed, IsExchanged, with_closed}
use Rattle.hc_tree.specs.Details.{GetsOne, NoMap, Reshapes}
use Rattle.hc_tree.specs.Growth.{MayBePrototype}
use Rattle.hc_tree.specs.Walking.{OpensNoRoot}
use Rattle.hc_tree.proofs.Fresh.{new-map}
use Rattle.hc_tree.proofs.Placed.{but-placed}
use Rattle.hc_tree.proofs.Whole.{fill-closed, fill-tree}
use Rattle.hc_tree.proofs.Exchanged.{exchanged-bits, exchanged-opens, exchanged-whole, exchanged-writes, is-exchanged, one-fills, proto-may}
use Rattle.hc_tree.proofs.exchange.make_exchanged.Goals as goal

pub unwrap-proto-requires : goal.unwrap-proto-requires
unwrap-proto-requires g c =
    let v = c.args.h.now.view in
    subst (λ (o : Option (Option ℕ)). IsSome o) (sym c.proto.ensures.value) (c.gates_are_open.ensures.law v.shape v.trail c.args.map (gate_with c.args.n true) c.stands.ensures.heap.lawful c.requires.map).prototype

pub new_closed-copy-requires-clause-proto : goal.new_closed-copy-requires-clause-proto
new_closed-copy-requires-clause-proto g c =
    let v = c.args.h.now.view in
    let read : c.proto.new.self.view ≡ v = ap (λ (s : HeapState g.row.P.Denot). s.view) c.proto.ensures.new in
    subst (λ (x : View). MayBePrototype x.used x.trail c.unwrap-proto.result) (sym read)
    (proto-may c.unused_says_nothing.ensures.law v c.stands.ensures.heap (c.forms_are_kept.ensures.law v.shape v.trail c.stands.ensures.heap.lawful) c.args.map c.unwrap-proto.result (sym c.proto.ensures.value ∙ c.unwrap-proto.ensures))

pub open_private-requires-clause-tree : goal.open_private-requires-clause-tree
open_private-requires-clause-tree g c =
    let a = c.new_closed-copy.new.h.view in
    let b = c.fill_but.new.h.view in
    let copy = c.new_closed-copy.result in
    let after = subst (λ (s : Shape). Lawful s b.trail) c.fill_but.ensures.shape c.fill_but.ensures.heap.lawful in
    fill-tree c.maps_are_kept.ensures.law a.shape a.trail b.trail copy a.used.entries a.used.fields c.new_closed-copy.ensures.heap.lawful after
    (one-fills copy a.used.entries a.used.fields c.args.detail c.fill_but.ensures.writes) c.new_closed-copy.ensures.heap.arrays c.new_closed-copy.ensures.closed c.new_closed-copy.ensures.tree

pub open_private-requires-clause-closed : goal.open_private-requires-clause-closed
open_private-requires-clause-closed g c =
    let a = c.new_closed-copy.new.h.view in
    let copy = c.new_closed-copy.result in
    fill-closed a.trail c.fill_but.new.h.view.trail copy a.used.entries a.used.fields (one-fills copy a.used.entries a.used.fields c.args.detail c.fill_but.ensures.writes) c.new_closed-copy.ensures.closed

pub open_private-requires-clause-few : goal.open_private-requires-clause-few
open_private-requires-clause-few g c =
    let v = c.args.h.now.view in
    (c.gates_are_open.ensures.law v.shape v.trail c.args.map (gate_with c.args.n true) c.stands.ensures.heap.lawful c.requires.map).few

-- the view before the new map was closed is the first one
closed-is : (old read a : View) (copy : ℕ) (p : Option ℕ) → read ≡ old → a ≡ record read { trail = with_closed read.trail p copy; used = record read.used { maps = read.used.maps + 1 } } → a ≡ record old { trail = with_closed old.trail p copy; used = record old.used { maps = old.used.maps + 1 } }
closed-is old read a copy p same is = subst (λ (x : View). a ≡ record x { trail = with_closed x.trail p copy; used = record x.used { maps = x.used.maps + 1 } }) same is

pub open_private-requires-clause-whole : goal.open_private-requires-clause-whole
open_private-requires-clause-whole g c =
    let v = c.args.h.now.view in
    let a = c.new_closed-copy.new.h.view in
    let b = c.fill_but.new.h.view in
    let copy = c.new_closed-copy.result in
    let is = closed-is v c.proto.new.self.view a copy c.unwrap-proto.result (ap (λ (s : HeapState g.row.P.Denot). s.view) c.proto.ensures.new) c.new_closed-copy.ensures.view in
    let after = subst (λ (s : Shape). Lawful s b.trail) c.fill_but.ensures.shape c.fill_but.ensures.heap.lawful in
    let trail : a.trail ≡ with_closed v.trail c.unwrap-proto.result copy = ap (λ (x : View). x.trail) is in
    let gate : gate_in a.trail c.args.map ≡ Some (gate_with c.args.n true) = ap (λ (t : Trail). gate_in t c.args.map) trail ∙ c.requires.map in
    exchanged-whole c.maps_are_kept.ensures.law a.shape a.trail b.trail copy c.args.map c.args.n c.args.place a.used c.args.detail c.new_closed-copy.ensures.heap.lawful after c.fill_but.ensures.writes c.new_closed-copy.ensures.heap.arrays
    c.new_closed-copy.ensures.closed c.new_closed-copy.ensures.tree gate c.fill_but.ensures.entries c.fill_but.ensures.owner c.fill_but.ensures.detail
    (λ key here kind. c.requires.admits.accessor key (sym (ap (λ (t : Trail). key_at t c.args.map c.args.place) trail) ∙ here) kind)

pub open_private-requires-clause-placed : goal.open_private-requires-clause-placed
open_private-requires-clause-placed g c =
    let v = c.args.h.now.view in
    let a = c.new_closed-copy.new.h.view in
    let b = c.fill_but.new.h.view in
    let copy = c.new_closed-copy.result in
    let is = closed-is v c.proto.new.self.view a copy c.unwrap-proto.result (ap (λ (s : HeapState g.row.P.Denot). s.view) c.proto.ensures.new) c.new_closed-copy.ensures.view in
    let after = subst (λ (s : Shape). Lawful s b.trail) c.fill_but.ensures.shape c.fill_but.ensures.heap.lawful in
    let gate : gate_in a.trail c.args.map ≡ Some (gate_with c.args.n true) = ap (λ (x : View). gate_in x.trail c.args.map) is ∙ c.requires.map in
    let some : IsSomeAnd (gate_in a.trail c.args.map) (λ x. x.entries ≡ c.args.n) = subst (λ (o : Option GateWord). IsSomeAnd o (λ x. x.entries ≡ c.args.n)) (sym gate) refl in
    but-placed c.maps_are_kept.ensures.law c.unused_says_nothing.ensures.law a b copy a.used.entries a.used.fields c.args.map c.args.n c.new_closed-copy.ensures.heap after
    (one-fills copy a.used.entries a.used.fields c.args.detail c.fill_but.ensures.writes) some (open_private-requires-clause-tree g c) c.args.place c.fill_but.ensures.entries

pub returns-clause-writes : goal.returns-clause-writes
returns-clause-writes g c =
    let v = c.args.h.now.view in
    let a = c.new_closed-copy.new.h.view in
    let b = c.fill_but.new.h.view in
    let x = c.open_private.new.h.view in
    let copy = c.new_closed-copy.result in
    let p = c.unwrap-proto.result in
    let is = closed-is v c.proto.new.self.view a copy p (ap (λ (s : HeapState g.row.P.Denot). s.view) c.proto.ensures.new) c.new_closed-copy.ensures.view in
    let trail : a.trail ≡ with_closed v.trail p copy = ap (λ (y : View). y.trail) is in
    let fields : a.used.fields ≡ v.used.fields = ap (λ (y : View). y.used.fields) is in
    let entries : a.used.entries ≡ v.used.entries = ap (λ (y : View). y.used.entries) is in
    let number : copy ≡ v.used.maps = c.new_closed-copy.ensures.number ∙ ap (λ (s : HeapState g.row.P.Denot). s.view.used.maps) c.proto.ensures.new in
    let fills : Adds (FillsOne copy v.used.entries v.used.fields c.args.detail) (with_closed v.trail p copy) b.trail =
    subst (λ (t : Trail). Adds (FillsOne copy v.used.entries v.used.fields c.args.detail) t b.trail) trail
    (subst (λ (f : ℕ). Adds (FillsOne copy v.used.entries f c.args.detail) a.trail b.trail) fields
    (subst (λ (e : ℕ). Adds (FillsOne copy e a.used.fields c.args.detail) a.trail b.trail) entries c.fill_but.ensures.writes)) in
    subst (λ (t : Trail). Adds (Reshapes v.used NoMap (GetsOne v.used.fields (Some c.args.detail))) v.trail t) (sym (ap (λ (y : View). y.trail) c.open_private.ensures.view))
    (exchanged-writes v.used v.trail b.trail copy c.args.n p c.args.detail (omega (arith, number)) fills)

pub returns-clause-exchanged : goal.returns-clause-exchanged
returns-clause-exchanged g c =
    let v = c.args.h.now.view in
    let a = c.new_closed-copy.new.h.view in
    let b = c.fill_but.new.h.view in
    let x = c.open_private.new.h.view in
    let copy = c.new_closed-copy.result in
    let p = c.unwrap-proto.result in
    let is = closed-is v c.proto.new.self.view a copy p (ap (λ (s : HeapState g.row.P.Denot). s.view) c.proto.ensures.new) c.new_closed-copy.ensures.view in
    let trail : a.trail ≡ with_closed v.trail p copy = ap (λ (y : View). y.trail) is in
    let fields : a.used.fields ≡ v.used.fields = ap (λ (y : View). y.used.fields) is in
    let last : x.trail ≡ Gate copy (gate_with c.args.n true) ∷ b.trail = ap (λ (y : View). y.trail) c.open_private.ensures.view in
    let fills : Adds (FillsCopy copy a.used.entries a.used.fields) (with_closed v.trail p copy) b.trail = subst (λ (t : Trail). Adds (FillsCopy copy a.used.entries a.used.fields) t b.trail) trail (one-fills copy a.used.entries a.used.fields c.args.detail c.fill_but.ensures.writes) in
    let shape : x.shape ≡ v.shape = ap (λ (y : View). y.shape) c.open_private.ensures.view ∙ (c.fill_but.ensures.shape ∙ ap (λ (y : View). y.shape) is) in
    let whole : Adds (Reshapes v.used NoMap (GetsOne v.used.fields (Some c.args.detail))) v.trail x.trail = returns-clause-writes g c in
    let kept = c.maps_are_kept.ensures.law v.shape v.trail x.trail c.stands.ensures.heap.lawful (goes-on-of v.shape whole (subst (λ (s : Shape). Lawful s x.trail) shape c.open_private.ensures.heap.lawful)) in
    let named : prototype_in v.trail c.args.map ≡ Some p = sym c.proto.ensures.value ∙ c.unwrap-proto.ensures in
    let number : copy ≡ v.used.maps = c.new_closed-copy.ensures.number ∙ ap (λ (s : HeapState g.row.P.Denot). s.view.used.maps) c.proto.ensures.new in
    let new = new-map c.unused_says_nothing.ensures.law v.used v.trail copy c.stands.ensures.heap.used (omega (arith, number)) in
    subst (λ (t : Trail). IsExchanged t copy c.args.map c.args.n c.args.place v.used.fields) (sym last)
    (is-exchanged v.trail b.trail copy c.args.map c.args.n c.args.place v.used.fields a.used.entries a.used.fields p fills (subst (λ (t : Trail). IsClosed t copy) trail c.new_closed-copy.ensures.closed) new.bits
    (subst (λ (t : Trail). prototype_in t c.args.map ≡ Some p) last (kept.written.prototype c.args.map p named))
    (subst (λ (f : ℕ). HasEntriesBut b.trail copy c.args.map c.args.n c.args.place f) fields c.fill_but.ensures.entries)
    (subst (λ (f : ℕ). owner_in b.trail f ≡ Some copy) fields c.fill_but.ensures.owner))

pub returns-clause-bits : goal.returns-clause-bits
returns-clause-bits g c =
    let v = c.args.h.now.view in
    let a = c.new_closed-copy.new.h.view in
    let b = c.fill_but.new.h.view in
    let copy = c.new_closed-copy.result in
    let p = c.unwrap-proto.result in
    let is = closed-is v c.proto.new.self.view a copy p (ap (λ (s : HeapState g.row.P.Denot). s.view) c.proto.ensures.new) c.new_closed-copy.ensures.view in
    let fills : Adds (FillsCopy copy a.used.entries a.used.fields) (with_closed v.trail p copy) b.trail = subst (λ (t : Trail). Adds (FillsCopy copy a.used.entries a.used.fields) t b.trail) (ap (λ (y : View). y.trail) is) (one-fills copy a.used.entries a.used.fields c.args.detail c.fill_but.ensures.writes) in
    λ x. ap (λ (y : View). bits_in y.trail x) c.open_private.ensures.view ∙ exchanged-bits v.trail b.trail copy c.args.n a.used.entries a.used.fields x p fills

pub returns-clause-opens : goal.returns-clause-opens
returns-clause-opens g c =
    let v = c.args.h.now.view in
    let a = c.new_closed-copy.new.h.view in
    let b = c.fill_but.new.h.view in
    let copy = c.new_closed-copy.result in
    let p = c.unwrap-proto.result in
    let is = closed-is v c.proto.new.self.view a copy p (ap (λ (s : HeapState g.row.P.Denot). s.view) c.proto.ensures.new) c.new_closed-copy.ensures.view in
    let fills : Adds (FillsCopy copy a.used.entries a.used.fields) (with_closed v.trail p copy) b.trail = subst (λ (t : Trail). Adds (FillsCopy copy a.used.entries a.used.fields) t b.trail) (ap (λ (y : View). y.trail) is) (one-fills copy a.used.entries a.used.fields c.args.detail c.fill_but.ensures.writes) in
    subst (λ (t : Trail). OpensNoRoot v.trail t) (sym (ap (λ (y : View). y.trail) c.open_private.ensures.view)) (exchanged-opens v.trail b.trail copy c.args.n a.used.entries a.used.fields p fills)

pub returns-clause-went : goal.returns-clause-went
returns-clause-went g c =
    let on = g.met.P.Pace.goes_on in
    on _ _ _ _ _ _ (on _ _ _ _ _ _ (on _ _ _ _ _ _ c.proto.ensures.went c.new_closed-copy.ensures.went) c.fill_but.ensures.went) c.open_private.ensures.went
