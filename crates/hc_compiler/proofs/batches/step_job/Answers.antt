use Rattle.std.proofs.Common.{◌∙◌, ap, sym, subst, List, [], ◌∷◌, ◌++◌}
use Rattle.hc_board.specs.States.{position_of, reads_made}
use Rattle.hc_jobs.specs.declared.table.OpenJob.{OpenJob}
use Rattle.hc_planner.specs.Jobs.{AreOwn}
use Rattle.hc_compiler.proofs.Batching.{board-after}
use Rattle.hc_compiler.proofs.Stepping.{reading, steps}
use Rattle.hc_compiler.proofs.batches.step_job.Goals as goal

pub read_on-reader-requires-clause-board : goal.read_on-reader-requires-clause-board
read_on-reader-requires-clause-board g c = (c.requires.reading c.args.j (record { job = c.take-job.result.0; reader = c.take-job.result.1 }) c.take-job.ensures.pair).board

pub renew-reader-requires : goal.renew-reader-requires
renew-reader-requires g c =
    let x : OpenJob = record { job = c.take-job.result.0; reader = c.take-job.result.1 } in
    record {
      board = board-after c.a_batch_is_a_part.ensures.law c.args.n c.args.objects.now c.read_on-reader.new.objects
          x c.read_on-reader.new.job c.read_on-reader.result c.read_on-reader.ensures.met c.read_on-reader.ensures.reads (c.requires.reading c.args.j x c.take-job.ensures.pair);
    }

pub start-requires-clause-own : goal.start-requires-clause-own
start-requires-clause-own g c =
    subst (AreOwn c.read_on-reader.new.job)
    (sym (c.renew_keeps_reads.ensures.law c.read_on-reader.result (position_of c.read_on-reader.new.objects.heap.desk)).0 ∙ ap reads_made (sym c.renew-reader.ensures.reader))
    c.read_on-reader.ensures.own

pub returns-clause-steps : goal.returns-clause-steps
returns-clause-steps g c =
    let x : OpenJob = record { job = c.take-job.result.0; reader = c.take-job.result.1 } in
    steps c.others_stay_open.ensures.law c.a_batch_is_a_part.ensures.law c.one_position.ensures.law c.renew_keeps_reads.ensures.law c.args.n c.args.objects.now c.read_on-reader.new.objects c.renew-reader.new.self
    c.args.jobs.now c.args.j x c.read_on-reader.new.job c.read_on-reader.result
    c.requires.there c.take-job.ensures.pair c.take-job.ensures.number c.read_on-reader.ensures.met c.read_on-reader.ensures.reads c.read_on-reader.ensures.same c.renew-reader.ensures.met
    c.renew-reader.result c.renew-reader.ensures.reader c.start.new.self
    (c.start.ensures.last ∙ ap (λ (l : List OpenJob). l ++ record { job = c.read_on-reader.new.job; reader = c.renew-reader.result } ∷ []) c.take-job.ensures.rest)
    c.start.ensures.started c.renew-reader.ensures.last

pub returns-clause-reading : goal.returns-clause-reading
returns-clause-reading g c =
    let x : OpenJob = record { job = c.take-job.result.0; reader = c.take-job.result.1 } in
    reading c.others_stay_open.ensures.law c.a_batch_is_a_part.ensures.law c.one_position.ensures.law c.renew_keeps_reads.ensures.law c.args.n c.args.objects.now c.read_on-reader.new.objects c.renew-reader.new.self
    c.args.jobs.now c.args.j x c.read_on-reader.new.job c.read_on-reader.result
    c.requires.there c.take-job.ensures.pair c.take-job.ensures.number c.read_on-reader.ensures.met c.read_on-reader.ensures.reads c.read_on-reader.ensures.same c.renew-reader.ensures.met
    c.renew-reader.result c.renew-reader.ensures.reader c.start.new.self
    (c.start.ensures.last ∙ ap (λ (l : List OpenJob). l ++ record { job = c.read_on-reader.new.job; reader = c.renew-reader.result } ∷ []) c.take-job.ensures.rest)
    c.start.ensures.started c.requires.reading
