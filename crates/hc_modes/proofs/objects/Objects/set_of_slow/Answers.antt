use Rattle.std.proofs.Common.{◌≡◌, ◌∙◌, List, Option, Some, ap, subst, IfSome}
use Rattle.std.specs.Prelude.{option_map}
use Rattle.hc_table.specs.Changes.{Linked}
use Rattle.hc_slots.specs.Meaning.{Dictionary}
use Rattle.hc_modes.specs.Meaning.{cause_in, kept_of}
use Rattle.hc_modes.specs.State.{ObjectsState}
use Rattle.hc_modes.proofs.Calm.{lone, slow-mapless}
use Rattle.hc_modes.proofs.Inherited.{linked-effect, not-itself, slow-linked, slow-moves}
use Rattle.hc_modes.specs.Came.{AreMoves, Move, moves_to_link, world_of, HowBecame}
use Rattle.hc_modes.specs.Laws.{before-still, moves-before}
use Rattle.hc_slots.specs.Cases.{some-of}
use Rattle.hc_modes.proofs.objects.Objects.set_of_slow.Goals as goal

pub returns-clause-did : goal.returns-clause-did
returns-clause-did g c =
    let first = c.args.self.now in
    let a = c.spare_of.new.self in
    let b = c.settle_named.new.self in
    let o = c.args.o in
    let it = c.settle_named.ensures.named in
    let still = c.spare_of.ensures.still in
    let other = not-itself (world_of first) o c.args.proto c.requires.object c.requires.no_cycle in
    let d = some-of (kept_of first.kept o) c.requires.slow in
    let slow : kept_of b.kept o ≡ Some d.0 = it.others o other ∙ ap (λ (s : ObjectsState g.row.P.Denot). kept_of s.kept o) still.is ∙ d.1 in
    let link = c.change_slow.ensures in
    let cause : cause_in a.kept o ≡ Some d.0.cause = ap (λ (x : Option Dictionary). option_map (λ y. y.cause) x) (ap (λ (s : ObjectsState g.row.P.Denot). kept_of s.kept o) still.is ∙ d.1) in
    let how : IfSome c.args.proto (λ p. HowBecame a p b) = c.settle_named.ensures.how in
    let moves = slow-moves g.P.Pace.went a b o c.args.proto d.0.cause cause it c.settle_named.ensures.none how c.stands-2.ensures.sound.heap.lawful (lone c.unused_says_nothing.ensures.law b.heap.view b.kept b.of_null c.stands-2.ensures.sound) in
    linked-effect g.P.Pace.went first b c.change_slow.new.self o c.args.proto
    (subst (λ (xs : List Move). AreMoves g.P.Pace.went first xs b) (before-still g.P.Pace.went first a (Linked o c.args.proto) still) (moves-before g.P.Pace.went first a b (moves_to_link a o c.args.proto) still moves))
    (slow-linked g.P.Pace.went b c.change_slow.new.self o c.args.proto d.0 slow (slow-mapless c.unused_says_nothing.ensures.law b.heap.view b.kept b.of_null c.stands-2.ensures.sound o d.0 slow) link.steps link.heap link.others link.cause)
