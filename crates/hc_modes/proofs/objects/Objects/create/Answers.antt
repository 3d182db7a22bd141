use Rattle.std.proofs.Common.{◌≡◌, ◌≤◌, false, true≢false, length, refl, sym, ap, ◌∙◌, subst, arith}
use Rattle.hc_heap.specs.Readings.{root_in}
use Rattle.hc_modes.specs.State.{ObjectsState}
use Rattle.hc_modes.proofs.Calm.{lone}
use Rattle.hc_modes.proofs.Created.{IsReady, begun-number, created, ready, ready-proto, ready-shared, ready-there, spare-on}
use Rattle.hc_modes.proofs.Creating.{is-full, not-full, ok-not-full, proto-none}
use Rattle.hc_modes.proofs.Worlds.{length-world}
use Rattle.hc_modes.proofs.objects.Objects.create.Goals as goal

pub returns-then-not-room-clause-full : goal.returns-then-not-room-clause-full
returns-then-not-room-clause-full g c =
    (λ e. is-full _ _ c.self.view_is c.self.invariant (λ room. true≢false (sym (c.room.ensures.1 room) ∙ c.if-not-room.true)), λ e. refl)

pub returns-in_default-clause-full : goal.returns-in_default-clause-full
returns-in_default-clause-full g c = (
  λ e. let f : ⊥ = cc in absurd f,
  λ e. absurd (not-full _ _ c.self.view_is c.self.invariant (c.room.ensures.0 c.if-not-room.false) e),
)

pub returns-in_default-create_slow-clause-full : goal.returns-in_default-create_slow-clause-full
returns-in_default-create_slow-clause-full g c = (
  λ e. let f : ⊥ = cc in absurd f,
  λ e. absurd (not-full _ _ c.self.view_is c.self.invariant (c.room.ensures.0 c.if-not-room.false) e),
)

pub returns-clause-full : goal.returns-clause-full
returns-clause-full g c = (
  λ e. absurd (ok-not-full c.in-Ok-create_slow.object e),
  λ e. absurd (not-full _ _ c.self.view_is c.self.invariant (c.room.ensures.0 c.if-not-room.false) e),
)

pub settle_named-requires-clause-spare : goal.settle_named-requires-clause-spare
settle_named-requires-clause-spare g c = spare-on g.P.Pace.went g.met.P.Pace.goes_on c.constants_stay_on.ensures.law c.args.self.now c.create_slow.new.self c.args.proto c.in-Ok-create_slow.object c.spare_of.new.self c.in-Ok.ensures.still c.in-Ok-create_slow.ensures.begun c.in-Ok.spare c.requires c.in-Ok.ensures.spare

pub enter_root-requires-clause-object : goal.enter_root-requires-clause-object
enter_root-requires-clause-object g c =
    let a = c.args.self.now in
    let mid = c.spare_of.new.self in
    let begun = c.create_slow.new.self in
    let o = c.in-Ok-create_slow.object in
    let named = c.settle_named.new.self in
    let it : IsReady g.P.Pace.went g.met.P.Pace.goes_on c.constants_stay_on.ensures.law a c.args.proto o named = ready g.P.Pace.went g.met.P.Pace.goes_on c.constants_stay_on.ensures.law a begun named c.args.proto o mid c.in-Ok.ensures.still c.in-Ok-create_slow.ensures.begun c.requires c.settle_named.ensures.named in
    ready-there g.P.Pace.went g.met.P.Pace.goes_on c.constants_stay_on.ensures.law a named c.args.proto o c.requires it

pub enter_root-requires-clause-shared : goal.enter_root-requires-clause-shared
enter_root-requires-clause-shared g c =
    let a = c.args.self.now in
    let mid = c.spare_of.new.self in
    let begun = c.create_slow.new.self in
    let o = c.in-Ok-create_slow.object in
    let named = c.settle_named.new.self in
    let it : IsReady g.P.Pace.went g.met.P.Pace.goes_on c.constants_stay_on.ensures.law a c.args.proto o named = ready g.P.Pace.went g.met.P.Pace.goes_on c.constants_stay_on.ensures.law a begun named c.args.proto o mid c.in-Ok.ensures.still c.in-Ok-create_slow.ensures.begun c.requires c.settle_named.ensures.named in
    let v = c.self.inside.heap.view in
    let count : length c.self.inside.kept.items ≡ length a.kept = ap (λ (s : ObjectsState g.row.P.Denot). length s.kept) c.self.view_is in
    let unmade : v.used.objects ≤ o = omega (arith, it.number, count, c.self.invariant.items) in
    ready-shared g.P.Pace.went g.met.P.Pace.goes_on c.constants_stay_on.ensures.law a named c.args.proto o c.requires it
    (subst (λ (s : ObjectsState g.row.P.Denot). (root_in s.heap.view.trail o).is_proto ≡ false) c.self.view_is (proto-none c.unused_says_nothing.ensures.law v c.self.invariant.heap o unmade))

pub enter_root-requires-clause-proto : goal.enter_root-requires-clause-proto
enter_root-requires-clause-proto g c =
    let a = c.args.self.now in
    let mid = c.spare_of.new.self in
    let begun = c.create_slow.new.self in
    let o = c.in-Ok-create_slow.object in
    let named = c.settle_named.new.self in
    let it : IsReady g.P.Pace.went g.met.P.Pace.goes_on c.constants_stay_on.ensures.law a c.args.proto o named = ready g.P.Pace.went g.met.P.Pace.goes_on c.constants_stay_on.ensures.law a begun named c.args.proto o mid c.in-Ok.ensures.still c.in-Ok-create_slow.ensures.begun c.requires c.settle_named.ensures.named in
    ready-proto g.P.Pace.went g.met.P.Pace.goes_on c.constants_stay_on.ensures.law a named c.args.proto o c.requires it

pub returns-clause-number : goal.returns-clause-number
returns-clause-number g c =
    let a = c.args.self.now in
    begun-number g.P.Pace.went g.met.P.Pace.goes_on c.constants_stay_on.ensures.law a c.create_slow.new.self c.args.proto c.in-Ok-create_slow.object c.spare_of.new.self c.in-Ok.ensures.still c.in-Ok-create_slow.ensures.begun
    ∙ sym (length-world a.heap.view.trail a.kept)

pub returns-clause-did : goal.returns-clause-did
returns-clause-did g c =
    created g.P.Pace.went g.met.P.Pace.goes_on c.constants_stay_on.ensures.law g.met.P.Pace.stays c.args.self.now c.create_slow.new.self c.settle_named.new.self c.enter_root.new.self c.in-Ok-create_slow.object c.spare_of.new.self c.in-Ok.ensures.still
    c.args.proto c.requires c.in-Ok-create_slow.ensures.begun c.settle_named.ensures.named c.settle_named.ensures.none c.settle_named.ensures.how c.stands.ensures.sound.heap.lawful
    (lone c.unused_says_nothing.ensures.law c.settle_named.new.self.heap.view c.settle_named.new.self.kept c.settle_named.new.self.of_null c.stands.ensures.sound) c.enter_root.ensures.entered
