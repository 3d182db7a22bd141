use Rattle.std.proofs.Common.{inl}
use Rattle.hc_objects.specs.Laws.{named-once, once-moves}
use Rattle.hc_objects.proofs.Made.{moves-two}
use Rattle.hc_objects.proofs.objects.Objects.make.Goals as goal

pub returns-in_default-clause-moved : goal.returns-in_default-clause-moved
returns-in_default-clause-moved g c = λ err. once-moves g.P.Pace.went c.args.self.now c.migrate_named.new.self c.in_default.ensures.moved

pub returns-in_default-make_one-clause-moved : goal.returns-in_default-make_one-clause-moved
returns-in_default-make_one-clause-moved g c = λ err.
    let a = c.args.self.now in
    let s = c.migrate_named.new.self in
    let b = c.make_one.new.self in
    moves-two g.P.Pace.went a s b (named-once g.P.Pace.went a s c.args.proto c.in-Ok.ensures.made) (inl c.in_default-make_one.ensures.still)
