use Rattle.std.proofs.Common.{◌<◌, length, refl, sym, subst}
use Rattle.hc_value.specs.declared.prop.Held.TheVariants.{Datum}
use Rattle.hc_value.specs.declared.prop.Prop.{Prop}
use Rattle.hc_table.specs.Changes.{Added}
use Rattle.hc_table.specs.World.{props_at}
use Rattle.hc_tree.specs.Needs.{HasSpace}
use Rattle.hc_modes.specs.Came.{Made, world_of}
use Rattle.hc_modes.specs.Filling.{HasChildFor}
use Rattle.hc_modes.specs.Modes.{add_need}
use Rattle.hc_modes.proofs.Adds.{added-fast}
use Rattle.hc_modes.proofs.Known.{added-is, come-fast, come-few, come-gets, come-known, come-room, come-shared}
use Rattle.hc_modes.proofs.Shown.{within}
use Rattle.hc_modes.proofs.objects.Objects.add_by.Goals as goal

pub add_fast-requires-clause-absent : goal.add_fast-requires-clause-absent
add_fast-requires-clause-absent g c =
    let a = c.args.self.now in
    let there : c.args.o < length a.kept = within a a c.args.o refl c.requires.object in
    (come-gets c.gates_are_open.ensures.law c.live_is_child.ensures.law a.heap.view a.kept a.of_null c.stands.ensures.sound c.args.o c.args.child c.args.name c.args.value there c.requires.may).absent

pub add_fast-requires-clause-few : goal.add_fast-requires-clause-few
add_fast-requires-clause-few g c =
    let a = c.args.self.now in
    let there : c.args.o < length a.kept = within a a c.args.o refl c.requires.object in
    come-few c.gates_are_open.ensures.law c.live_is_child.ensures.law a.heap.view a.kept a.of_null c.stands.ensures.sound c.args.o c.args.child c.args.name c.args.value there c.requires.may

pub add_fast-requires-clause-extensible : goal.add_fast-requires-clause-extensible
add_fast-requires-clause-extensible g c =
    let a = c.args.self.now in
    let there : c.args.o < length a.kept = within a a c.args.o refl c.requires.object in
    (come-gets c.gates_are_open.ensures.law c.live_is_child.ensures.law a.heap.view a.kept a.of_null c.stands.ensures.sound c.args.o c.args.child c.args.name c.args.value there c.requires.may).extensible

pub add_fast-requires-clause-shared : goal.add_fast-requires-clause-shared
add_fast-requires-clause-shared g c =
    let a = c.args.self.now in
    let there : c.args.o < length a.kept = within a a c.args.o refl c.requires.object in
    come-shared c.gates_are_open.ensures.law c.live_is_child.ensures.law a.heap.view a.kept a.of_null c.stands.ensures.sound c.args.o c.args.child c.args.name c.args.value there c.requires.may

pub add_fast-requires-clause-known : goal.add_fast-requires-clause-known
add_fast-requires-clause-known g c =
    let a = c.args.self.now in
    let there : c.args.o < length a.kept = within a a c.args.o refl c.requires.object in
    subst (λ (p : Prop). HasChildFor a.heap.view.trail c.args.o c.args.child (length (props_at (world_of a) c.args.o)) p) (sym (added-is c.args.name c.empty.result c.args.value (c.empty.ensures tt)))
    (come-known c.gates_are_open.ensures.law c.live_is_child.ensures.law a.heap.view a.kept a.of_null c.stands.ensures.sound c.args.o c.args.child c.args.name c.args.value there c.requires.may)

pub returns : goal.returns
returns g c =
    let a = c.args.self.now in
    let there : c.args.o < length a.kept = within a a c.args.o refl c.requires.object in
    let o = c.args.o in
    let b = c.add_fast.new.self in
    let p : Prop = record { name = c.args.name; attrs = c.empty.result; held = Datum c.args.value } in
    let is = added-is c.args.name c.empty.result c.args.value (c.empty.ensures tt) in
    let room : HasSpace a.heap.view (add_need a.heap.view.trail o p) = subst (λ (x : Prop). HasSpace a.heap.view (add_need a.heap.view.trail o x)) (sym is) (come-room c.gates_are_open.ensures.law c.live_is_child.ensures.law a.heap.view a.kept a.of_null c.stands.ensures.sound c.args.o c.args.child c.args.name c.args.value there c.requires.may) in
    let yes = c.add_fast.ensures.room.1 room in
    record {
      did = subst (λ (x : Prop). Made g.P.Pace.went a (Added o x) b) is
          (added-fast g.P.Pace.went a b o p (c.add_fast.ensures.added yes) c.add_fast.ensures.protos (c.add_fast.ensures.marks yes) (come-few c.gates_are_open.ensures.law c.live_is_child.ensures.law a.heap.view a.kept a.of_null c.stands.ensures.sound c.args.o c.args.child c.args.name c.args.value there c.requires.may) room
          (come-fast c.gates_are_open.ensures.law c.live_is_child.ensures.law a.heap.view a.kept a.of_null c.stands.ensures.sound c.args.o c.args.child c.args.name c.args.value there c.requires.may) c.add_fast.ensures.kept (c.add_fast.ensures.details yes) c.add_fast.ensures.needs);
    }
