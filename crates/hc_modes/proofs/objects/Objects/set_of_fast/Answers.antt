use Rattle.std.proofs.Common.{◌≡◌, ◌≢◌, ◌∙◌, ◌<◌, ℕ, None, Some, List, length, sym, subst}
use Rattle.hc_table.specs.Changes.{Linked}
use Rattle.hc_tree.specs.declared.need.Need.{Need}
use Rattle.hc_tree.specs.Needs.{HasSpace}
use Rattle.hc_table.specs.World.{World, object}
use Rattle.hc_facts.specs.Honest.{IsHonest}
use Rattle.hc_modes.specs.Came.{AreMoves, IsStill, Move, moves_to_link, world_of}
use Rattle.hc_modes.specs.Inheriting.{IsSpareFor, IsSpareOf, spared_named}
use Rattle.hc_modes.specs.Laws.{before-still, moves-before, still-on}
use Rattle.hc_modes.specs.Meaning.{kept_of}
use Rattle.hc_modes.specs.Modes.{both, link_need}
use Rattle.hc_modes.specs.State.{ObjectsState, IsObjects}
use Rattle.hc_modes.proofs.Inherited.{not-itself, link-same, linked-effect, spare-then, still-spare, still-spared}
use Rattle.hc_modes.proofs.Worlds.{length-world}
use Rattle.hc_modes.proofs.objects.Objects.set_of_fast.Goals as goal

pub link_with-requires-clause-fast : goal.link_with-requires-clause-fast
link_with-requires-clause-fast g c =
    let still : IsStill c.args.self.now c.link_spare.new.self = still-on c.args.self.now c.spare_of.new.self c.link_spare.new.self c.spare_of.ensures.still c.link_spare.ensures.still in
    c.settle_for.ensures.named.others c.args.o (not-itself (world_of c.args.self.now) c.args.o c.args.proto c.requires.object c.requires.no_cycle)
    ∙ subst (λ (s : ObjectsState g.row.P.Denot). kept_of s.kept c.args.o ≡ None) (sym still.is) c.requires.fast

pub link_with-requires-clause-honest : goal.link_with-requires-clause-honest
link_with-requires-clause-honest g c =
    let still : IsStill c.args.self.now c.link_spare.new.self = still-on c.args.self.now c.spare_of.new.self c.link_spare.new.self c.spare_of.ensures.still c.link_spare.ensures.still in
    c.settle_for.ensures.named.steps.keeps.honest (subst (λ (s : ObjectsState g.row.P.Denot). IsHonest s.heap.view.trail) (sym still.is) c.requires.honest)

pub link_with-requires-clause-spare : goal.link_with-requires-clause-spare
link_with-requires-clause-spare g c =
    let first = c.args.self.now in
    let now = c.spare_of.new.self in
    let a = c.link_spare.new.self in
    let b = c.settle_for.new.self in
    let o = c.args.o in
    let proto = c.args.proto in
    let named = c.in_ok-spare.spare in
    let slow = c.in_ok-slow.slow in
    let it = c.settle_for.ensures.named in
    let again : IsStill now a = c.link_spare.ensures.still in
    let still : IsStill first a = still-on first now a c.spare_of.ensures.still again in
    let other : proto ≢ Some o = not-itself (world_of first) o proto c.requires.object c.requires.no_cycle in
    let sound : IsObjects a.heap.view a.kept a.of_null = subst (λ (s : ObjectsState g.row.P.Denot). IsObjects s.heap.view s.kept s.of_null) (sym still.is) c.stands.ensures.sound in
    let object_a : o < length (world_of a) = subst (λ (s : ObjectsState g.row.P.Denot). o < length (world_of s)) (sym still.is) c.requires.object in
    let fast : kept_of a.kept o ≡ None = subst (λ (s : ObjectsState g.row.P.Denot). kept_of s.kept o ≡ None) (sym still.is) c.requires.fast in
    let in_a : o < length a.kept = subst (λ (n : ℕ). o < n) (length-world a.heap.view.trail a.kept) object_a in
    let object_b : o < length (world_of b) = subst (λ (w : World). o < length w) (sym it.steps.world) object_a in
    let in_b : o < length b.kept = subst (λ (n : ℕ). o < n) (length-world b.heap.view.trail b.kept) object_b in
    let same = link-same g.P.Pace.went a b o proto sound c.stands-2.ensures.sound object_a in_a in_b fast other it in
    let spare : IsSpareOf a proto named = still-spare now a again proto named (still-spare first now c.spare_of.ensures.still proto named c.in_ok-spare.ensures.spare) in
    let need : Need = spared_named now proto named in
    let there : IsSpareFor (HasSpace a.heap.view (both need (link_need a.heap.view.trail o proto a.of_null))) (object (world_of a) o) slow =
    subst (λ (s : ObjectsState g.row.P.Denot). IsSpareFor (HasSpace s.heap.view (both need (link_need s.heap.view.trail o proto s.of_null))) (object (world_of s) o) slow) (sym again.is) c.in_ok-slow.ensures.spare in
    spare-then g.P.Pace.went a b o proto it same named slow spare
    (subst (λ (k : Need). IsSpareFor (HasSpace a.heap.view (both k (link_need a.heap.view.trail o proto a.of_null))) (object (world_of a) o) slow) (sym (still-spared now a again proto named)) there)

pub returns-clause-did : goal.returns-clause-did
returns-clause-did g c =
    let first = c.args.self.now in
    let a = c.link_spare.new.self in
    let b = c.settle_for.new.self in
    let still : IsStill first a = still-on first c.spare_of.new.self a c.spare_of.ensures.still c.link_spare.ensures.still in
    linked-effect g.P.Pace.went first b c.link_with.new.self c.args.o c.args.proto
    (subst (λ (xs : List Move). AreMoves g.P.Pace.went first xs b) (before-still g.P.Pace.went first a (Linked c.args.o c.args.proto) still)
    (moves-before g.P.Pace.went first a b (moves_to_link a c.args.o c.args.proto) still c.settle_for.ensures.moves))
    c.link_with.ensures.linked
