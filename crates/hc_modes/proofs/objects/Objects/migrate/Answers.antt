use Rattle.std.proofs.Common.{◌≡◌, ◌∙◌, ◌<◌, ℕ, None, length, ap, sym, subst, inl, inr}
use Rattle.std.specs.Prelude.{IsTrue}
use Rattle.hc_value.specs.declared.reply.Cause.TheVariants.{Space}
use Rattle.hc_layout.specs.declared.words.RootWord.{RootWord}
use Rattle.hc_facts.specs.Honest.{IsHonest}
use Rattle.hc_heap.specs.Readings.{bits_in, map_in}
use Rattle.hc_slots.specs.Cases.{some-and}
use Rattle.hc_modes.specs.Came.{IsStill}
use Rattle.hc_modes.specs.Laws.{still-on}
use Rattle.hc_modes.specs.Meaning.{kept_of}
use Rattle.hc_modes.specs.State.{ObjectsState}
use Rattle.hc_modes.proofs.Adds.{left-lawful}
use Rattle.hc_modes.proofs.Readied.{lacks-on, made-left, made-migrated, mapped-fast, slow-unmapped}
use Rattle.hc_modes.proofs.Worlds.{length-world}
use Rattle.hc_modes.proofs.objects.Objects.migrate.Goals as goal

pub update_map-requires-clause-fast : goal.update_map-requires-clause-fast
update_map-requires-clause-fast g c =
    let a = c.args.self.now in
    let o = c.args.o in
    let there : o < length a.kept = subst (λ (n : ℕ). o < n) (length-world a.heap.view.trail a.kept) c.requires.object in
    let map = some-and (map_in a.heap.view.trail o) (λ m. IsTrue (bits_in a.heap.view.trail m).deprecated) (c.is_deprecated.ensures.dead c.if-not-is_deprecated.false) in
    subst (λ (s : ObjectsState g.row.P.Denot). kept_of s.kept o ≡ None) (sym c.is_deprecated.ensures.still.is) (mapped-fast a c.stands.ensures.sound o map.0 there map.1.0)

pub update_map-requires-clause-honest : goal.update_map-requires-clause-honest
update_map-requires-clause-honest g c = subst (λ (s : ObjectsState g.row.P.Denot). IsHonest s.heap.view.trail) (sym c.is_deprecated.ensures.still.is) c.requires.honest

pub returns-then-update_map-clause-made : goal.returns-then-update_map-clause-made
returns-then-update_map-clause-made g c = made-migrated g.P.Pace.went c.args.self.now c.is_deprecated.new.self c.update_map.new.self c.args.o c.is_deprecated.ensures.still (c.update_map.ensures.migrated c.if-update_map.true)

pub returns-clause-made : goal.returns-clause-made
returns-clause-made g c =
    let a = c.args.self.now in
    let b = c.is_deprecated.new.self in
    let d = c.update_map.new.self in
    let e = c.leave.new.self in
    let o = c.args.o in
    let there : o < length a.kept = subst (λ (n : ℕ). o < n) (length-world a.heap.view.trail a.kept) c.requires.object in
    let map = some-and (map_in a.heap.view.trail o) (λ m. IsTrue (bits_in a.heap.view.trail m).deprecated) (c.is_deprecated.ensures.dead c.if-not-is_deprecated.false) in
    let again : IsStill b d = c.update_map.ensures.still c.if-update_map.false in
    let still : IsStill a d = still-on a b d c.is_deprecated.ensures.still again in
    let why = lacks-on b d o again (c.update_map.ensures.lacks c.if-update_map.false) in
    let fast : kept_of d.kept o ≡ None = subst (λ (s : ObjectsState g.row.P.Denot). kept_of s.kept o ≡ None) (sym still.is) (mapped-fast a c.stands.ensures.sound o map.0 there map.1.0) in
    let used = c.leave.ensures.used in
    let left = left-lawful g.P.Pace.went d e o Space c.in_ok-leave.ensures.moved fast (inr (inl why)) c.in_ok-leave.ensures.cause c.leave.ensures.others used (λ q. ap (λ (r : RootWord). r.is_proto) (c.leave.ensures.roots q)) c.in_ok-leave.ensures.marks c.leave.ensures.details c.stands-2.ensures.sound in
    made-left g.P.Pace.went a d e o still why left
    (slow-unmapped a e c.stands.ensures.sound c.stands-2.ensures.sound (used ∙ ap (λ (s : ObjectsState g.row.P.Denot). s.heap.view.used) still.is) o Space there c.in_ok-leave.ensures.cause)
