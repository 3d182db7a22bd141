use Rattle.std.proofs.Common.{List, length, refl, ap, arith}
use Rattle.hc_compiler.specs.Jobs.{Compiling}
use Rattle.hc_sites.specs.declared.state.SiteState.{SiteState}
use Rattle.hc_script.specs.Reader.{Reader}
use Rattle.hc_session.specs.Replay.{the_first_place}
use Rattle.hc_session.specs.State.{Does, any_pace}
use Rattle.hc_session.proofs.Endings.{nothing_held}
use Rattle.hc_session.proofs.Runs.{no_progress, progress_on}
use Rattle.hc_session.proofs.Takes.{command_moves, command_within, command_keeps_names}
use Rattle.hc_session.proofs.NamedWorlds.{sites_kept, world_kept}
use Rattle.hc_session.proofs.Ends.{kept_done, kept_in_want, kept_cut_off, kept_fault}
use Rattle.hc_session.proofs.Spends.{SpendLittle}
use Rattle.hc_session.proofs.replaying.replay_lines.Goals as goal

pub answer-requires-clause-world : goal.answer-requires-clause-world
answer-requires-clause-world g c =
    let took = rw c.in-Ok-Some.field-0-is at (c.in-Ok-Some.ensures.serves c.commands.invariant.going) in
    rw c.names.ensures.names (world_kept _ _ _ (command_keeps_names c.commands_are_named.ensures.grow _ _ _ _ _ took) c.commands.invariant.named)

pub answer-requires-clause-served : goal.answer-requires-clause-served
answer-requires-clause-served g c = rw c.in-Ok-Some.field-0-is at c.in-Ok-Some.ensures.built

pub answer-requires-clause-named : goal.answer-requires-clause-named
answer-requires-clause-named g c =
    let took = rw c.in-Ok-Some.field-0-is at (c.in-Ok-Some.ensures.serves c.commands.invariant.going) in
    rw c.names.ensures.names (sites_kept _ _ _ (command_keeps_names c.commands_are_named.ensures.grow _ _ _ _ _ took) c.commands.invariant.sited)

pub answer-requires-clause-sites : goal.answer-requires-clause-sites
answer-requires-clause-sites g c = omega (arith, c.commands.invariant.sites, c.commands.invariant.within)

pub answer-requires-clause-jobs : goal.answer-requires-clause-jobs
answer-requires-clause-jobs g c = omega (arith, c.commands.invariant.jobs, c.commands.invariant.within)

pub answer-requires-clause-own : goal.answer-requires-clause-own
answer-requires-clause-own g c = c.commands.invariant.own

pub answer-requires-clause-going : goal.answer-requires-clause-going
answer-requires-clause-going g c = c.commands.invariant.enough

pub commands-smaller : goal.commands-smaller
commands-smaller g c =
    let took = rw c.in-Ok-Some.field-0-is at (c.in-Ok-Some.ensures.serves c.commands.invariant.going) in
    omega (arith, command_moves _ _ _ _ _ took, command_within _ _ _ _ _ took)

pub commands-preserved : goal.commands-preserved
commands-preserved g c =
    let took = rw c.in-Ok-Some.field-0-is at (c.in-Ok-Some.ensures.serves c.commands.invariant.going) in
    let answered = rw c.names.ensures.names at c.in-Ok.ensures.ok in
    record {
      going = rw c.in-Ok-Some.field-0-is at (c.in-Ok-Some.ensures.phase c.commands.invariant.going);
      within = command_within _ _ _ _ _ took;
      progress = progress_on _ _ _ _ _ _ _ _ _ _ _ _ _ _ c.commands.invariant.progress took answered.does answered.written;
      named = rw c.names.ensures.names at c.in-Ok.ensures.world;
      sited = rw c.names.ensures.names at c.in-Ok.ensures.named;
      sites = omega (arith, c.commands.invariant.sites, c.in-Ok.ensures.sites, command_moves _ _ _ _ _ took);
      jobs = omega (arith, c.commands.invariant.jobs, c.in-Ok.ensures.jobs, command_moves _ _ _ _ _ took);
      own = c.in-Ok.ensures.own;
      enough = c.in-Ok.ensures.going;
      reads = omega (arith, c.commands.invariant.reads, c.in-Ok-Some.ensures.grows);
      writes = omega (arith, c.commands.invariant.writes, c.in-Ok.ensures.grows);
    }

pub returns-in-Err-Memory-clause-kept : goal.returns-in-Err-Memory-clause-kept
returns-in-Err-Memory-clause-kept g c =
    let took = rw c.in-Ok-Some.field-0-is at (c.in-Ok-Some.ensures.serves c.commands.invariant.going) in
    let same = c.in-Err-Memory.ensures.memory (rw c.in-Err-Memory.field-0-is refl) in
    let lacked = c.in-Err-Memory.ensures.want (rw c.in-Err-Memory.field-0-is refl) in
    let law : SpendLittle _ = record { one = c.operations_spend_little.ensures.one; live = c.operations_spend_little.ensures.live; none = c.operations_spend_little.ensures.none; onward = c.operations_spend_little.ensures.onward; more = c.operations_spend_little.ensures.more } in
    kept_in_want law c.asking_is_little.ensures.cells _ _ c.stands.ensures.stands _ _ _ _ _ _ _ _ (rw same c.commands.invariant.progress) took lacked

pub returns-in-Err-Write-clause-kept : goal.returns-in-Err-Write-clause-kept
returns-in-Err-Write-clause-kept g c =
    let took = rw c.in-Ok-Some.field-0-is at (c.in-Ok-Some.ensures.serves c.commands.invariant.going) in
    let answered = rw c.names.ensures.names at (c.in-Err-Write.ensures.write (rw c.in-Err-Write.field-0-is refl)) in
    let law : SpendLittle _ = record { one = c.operations_spend_little.ensures.one; live = c.operations_spend_little.ensures.live; none = c.operations_spend_little.ensures.none; onward = c.operations_spend_little.ensures.onward; more = c.operations_spend_little.ensures.more } in
    kept_cut_off law c.asking_is_little.ensures.cells _ _ c.stands.ensures.stands _ _ _ _ _ _ _ _ _ c.commands.invariant.progress took answered

pub returns-in-Ok-None-clause-kept : goal.returns-in-Ok-None-clause-kept
returns-in-Ok-None-clause-kept g c =
    let took = rw c.in-Ok-None.field-0-is at (c.in-Ok-None.ensures.serves c.commands.invariant.going) in
    let law : SpendLittle _ = record { one = c.operations_spend_little.ensures.one; live = c.operations_spend_little.ensures.live; none = c.operations_spend_little.ensures.none; onward = c.operations_spend_little.ensures.onward; more = c.operations_spend_little.ensures.more } in
    kept_done law c.asking_is_little.ensures.cells _ _ c.stands.ensures.stands _ _ _ _ _ _ c.commands.invariant.progress took

pub returns-in-Err-clause-kept : goal.returns-in-Err-clause-kept
returns-in-Err-clause-kept g c =
    let law : SpendLittle _ = record { one = c.operations_spend_little.ensures.one; live = c.operations_spend_little.ensures.live; none = c.operations_spend_little.ensures.none; onward = c.operations_spend_little.ensures.onward; more = c.operations_spend_little.ensures.more } in
    kept_fault law c.asking_is_little.ensures.cells _ _ c.stands.ensures.stands _ _ _ _ _ _ _ c.in-Err.fault _ c.commands.invariant.progress (c.in-Err.ensures.serves c.commands.invariant.going)
    (λ read. c.in-Err.ensures.dropped c.commands.invariant.going (rw read refl)) c.end_by_fault.ensures.written

pub commands-init : goal.commands-init
commands-init g c = record {
  going = ap (λ (r : Reader). r.phase) c.requires.reader;
  within = rw c.requires.reader (omega arith);
  progress = rw (c.requires.reader, nothing_held (g.S.Source.left c.args.source.now))
      (no_progress (Does any_pace) (the_first_place c.args.session.now) (g.S.Source.left c.args.source.now) (g.K.Sink.taken c.args.sink.now));
  named = rw c.requires.untouched.objects.world (λ o. tt);
  sited = rw c.requires.untouched.sites (λ n site is. let f : ⊥ = cc in absurd f);
  sites = omega (arith, ap (λ (xs : List SiteState). length xs) c.requires.untouched.sites);
  jobs = omega (arith, ap (λ (x : Compiling). x.started) c.requires.untouched.compiler);
  own = ap (λ (x : Compiling). x.lent) c.requires.untouched.compiler;
  enough = c.requires.untouched.going;
  reads = omega arith;
  writes = omega arith;
}
