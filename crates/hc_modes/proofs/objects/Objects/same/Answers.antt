use Rattle.std.proofs.Common.{◌≡◌, ◌∙◌, Some, ap, sym}
use Rattle.hc_heap.specs.Readings.{map_in}
use Rattle.hc_modes.specs.State.{ObjectsState}
use Rattle.hc_modes.proofs.OneMap.{compared}
use Rattle.hc_modes.proofs.objects.Objects.same.Goals as goal

pub returns-clause-others : goal.returns-clause-others
returns-clause-others g c =
    let first : map_in c.args.self.now.heap.view.trail c.args.a ≡ Some c.in-Some-Some.map = sym c.map_of.ensures.value ∙ c.in-Some-Some.is-0 in
    let read = ap (λ (s : ObjectsState g.row.P.Denot). map_in s.heap.view.trail c.args.b) c.map_of.ensures.still.is in
    let second : map_in c.args.self.now.heap.view.trail c.args.b ≡ Some c.in-Some-Some.other = sym read ∙ sym c.map_of-2.ensures.value ∙ c.in-Some-Some.is-1 in
    compared c.gates_are_open.ensures.law c.args.self.now c.stands.ensures.sound c.args.a c.args.b c.in-Some-Some.map c.in-Some-Some.other c.requires.a c.requires.b first second c.requires.live_a c.requires.live_b
