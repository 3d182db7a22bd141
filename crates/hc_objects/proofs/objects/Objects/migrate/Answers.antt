use Rattle.std.proofs.Common.{true≢false, sym, ◌∙◌}
use Rattle.std.proofs.lemmas.Result.{on_err_weaker, on_ok_weaker}
use Rattle.hc_objects.specs.Laws.{once-before, once-moves}
use Rattle.hc_objects.proofs.MadeReady.{followed-live}
use Rattle.hc_objects.proofs.Made.{dead-made}
use Rattle.hc_objects.proofs.objects.Objects.migrate.Goals as goal

pub returns-then-is_deprecated-clause-made : goal.returns-then-is_deprecated-clause-made
returns-then-is_deprecated-clause-made g c =
    on_ok_weaker c.ready.result
    (λ f. dead-made g.P.Pace.went c.args.self.now c.is_deprecated.new.self c.ready.new.self c.args.o c.is_deprecated.ensures.still (λ live. true≢false (sym c.if-is_deprecated.true ∙ c.is_deprecated.ensures.live.1 live)) f)
    c.ready.ensures.readied

pub returns-then-is_deprecated-clause-live : goal.returns-then-is_deprecated-clause-live
returns-then-is_deprecated-clause-live g c =
    on_ok_weaker c.ready.result (λ f. followed-live g.P.Pace.went c.is_deprecated.new.self c.ready.new.self c.args.o f) c.ready.ensures.readied

pub returns-then-is_deprecated-clause-moved : goal.returns-then-is_deprecated-clause-moved
returns-then-is_deprecated-clause-moved g c =
    on_err_weaker c.ready.result
    (λ once. once-moves g.P.Pace.went c.args.self.now c.ready.new.self (once-before g.P.Pace.went c.args.self.now c.is_deprecated.new.self c.ready.new.self c.is_deprecated.ensures.still once))
    c.ready.ensures.moved

pub returns-then-is_deprecated-clause-once : goal.returns-then-is_deprecated-clause-once
returns-then-is_deprecated-clause-once g c =
    on_err_weaker c.ready.result
    (λ once. once-before g.P.Pace.went c.args.self.now c.is_deprecated.new.self c.ready.new.self c.is_deprecated.ensures.still once)
    c.ready.ensures.moved
