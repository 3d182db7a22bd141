use Rattle.std.proofs.Common.{◌<◌, ◌≤◌, length, refl, arith}
use Rattle.hc_objects.specs.Came.{world_of}
use Rattle.hc_commands.specs.declared.command.Command.TheVariants.{Same}
use Rattle.hc_session.specs.Standing.{tables_of}
use Rattle.hc_session.specs.Tables.{all_there, is_among}
use Rattle.hc_session.proofs.Accessed.{among-is, among-not, both-true, first-false, on-err, second-false}
use Rattle.hc_session.proofs.Readied.{moved-tables}
use Rattle.hc_session.proofs.Uses.{readied-if, readied-not, same-answers}
use Rattle.hc_session.proofs.perform.tell_same.Goals.{then-a-count-via-then-a-count, then-a-count-via-else-a-count+then-b-count}
use Rattle.hc_session.proofs.perform.tell_same.Goals as goal

pub returns-in_err-same-clause-want : goal.returns-in_err-same-clause-want
returns-in_err-same-clause-want g c = on-err c.from_residual.result c.in_err-same.ensures.moved

pub returns-in_err-same-clause-tables : goal.returns-in_err-same-clause-tables
returns-in_err-same-clause-tables g c = moved-tables g.P.Pace.went c.args.objects.now c.same.new.self c.in_err-same.ensures.moved

pub returns-clause-answers : goal.returns-clause-answers
returns-clause-answers g c =
    let first : c.args.a < length (world_of c.args.objects.now) = omega (arith, c.if-a-count.false, c.count-count.ensures.count) in
    let second : c.args.b < length (world_of c.args.objects.now) = omega (arith, c.if-b-count.false, c.count-count.ensures.count) in
    let there = both-true (is_among (length (world_of c.args.objects.now)) c.args.a) (is_among (length (world_of c.args.objects.now)) c.args.b) (among-is (length (world_of c.args.objects.now)) c.args.a first) (among-is (length (world_of c.args.objects.now)) c.args.b second) in
    same-answers g.P.Pace.went c.args.objects.now c.same.new.self c.args.a c.args.b c.in_ok-same.field-0 there c.in_ok-same.ensures.moved

pub returns-then-a-count-clause-readied : goal.returns-then-a-count-clause-readied
returns-then-a-count-clause-readied g c =
    elim c.then-a-count.branch [
      | then-a-count-via-then-a-count w ↦ (
          let past : length (world_of c.args.objects.now) ≤ c.args.a = omega (arith, w.if-a-count.true, c.count-count.ensures.count) in
          readied-not g.P.Pace.went c.args.objects.now (all_there (tables_of c.args.objects.now) (Same c.args.a c.args.b)) (Same c.args.a c.args.b)
          (first-false (is_among (length (world_of c.args.objects.now)) c.args.a) (is_among (length (world_of c.args.objects.now)) c.args.b) (among-not (length (world_of c.args.objects.now)) c.args.a past)))
      | then-a-count-via-else-a-count+then-b-count w ↦ (
          let past : length (world_of c.args.objects.now) ≤ c.args.b = omega (arith, w.if-b-count.true, c.count-count.ensures.count) in
          readied-not g.P.Pace.went c.args.objects.now (all_there (tables_of c.args.objects.now) (Same c.args.a c.args.b)) (Same c.args.a c.args.b)
          (second-false (is_among (length (world_of c.args.objects.now)) c.args.a) (is_among (length (world_of c.args.objects.now)) c.args.b) (among-not (length (world_of c.args.objects.now)) c.args.b past)))
    ]

pub returns-clause-readied : goal.returns-clause-readied
returns-clause-readied g c =
    let first : c.args.a < length (world_of c.args.objects.now) = omega (arith, c.if-a-count.false, c.count-count.ensures.count) in
    let second : c.args.b < length (world_of c.args.objects.now) = omega (arith, c.if-b-count.false, c.count-count.ensures.count) in
    let there = both-true (is_among (length (world_of c.args.objects.now)) c.args.a) (is_among (length (world_of c.args.objects.now)) c.args.b) (among-is (length (world_of c.args.objects.now)) c.args.a first) (among-is (length (world_of c.args.objects.now)) c.args.b second) in
    let made = c.in_ok-same.ensures.made in
    readied-if g.P.Pace.went c.args.objects.now c.same.new.self (all_there (tables_of c.args.objects.now) (Same c.args.a c.args.b)) (Same c.args.a c.args.b) there
    (made.0, made.2, (made.1, made.3, (c.same.new.self, made.4, refl)))

pub returns-clause-tables : goal.returns-clause-tables
returns-clause-tables g c = moved-tables g.P.Pace.went c.args.objects.now c.same.new.self c.in_ok-same.ensures.moved
