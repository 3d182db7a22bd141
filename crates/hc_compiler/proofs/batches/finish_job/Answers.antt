use Rattle.std.proofs.Common.{◌≡◌, ◌∙◌, Option, ap, subst, sym}
use Rattle.std.specs.Prelude.{IsSomeAnd, option_map}
use Rattle.hc_board.specs.States.{ReaderState}
use Rattle.hc_jobs.specs.declared.reads.Reads.TheVariants.{All}
use Rattle.hc_jobs.specs.declared.table.OpenJob.{OpenJob}
use Rattle.hc_planner.specs.Jobs.{JobState}
use Rattle.hc_compiler.specs.Jobs.{opening_of}
use Rattle.hc_compiler.proofs.Batching.{board-after}
use Rattle.hc_compiler.proofs.Stepping.{ended, finishes, reading-left}
use Rattle.hc_compiler.proofs.batches.finish_job.Goals as goal

pub read_on-reader-requires-clause-board : goal.read_on-reader-requires-clause-board
read_on-reader-requires-clause-board g c = (c.requires.reading c.args.j (record { job = c.take-job.result.0; reader = c.take-job.result.1 }) c.take-job.ensures.pair).board

pub meet-requires : goal.meet-requires
meet-requires g c =
    let x : OpenJob = record { job = c.take-job.result.0; reader = c.take-job.result.1 } in
    record {
      board = ap (λ (r : ReaderState). r.board) c.finish-finished.ensures.reader
          ∙ board-after c.a_batch_is_a_part.ensures.law All c.args.objects.now c.read_on-reader.new.objects
          x c.read_on-reader.new.job c.read_on-reader.result c.read_on-reader.ensures.met c.read_on-reader.ensures.reads (c.requires.reading c.args.j x c.take-job.ensures.pair);
    }

pub returns-clause-finishes : goal.returns-clause-finishes
returns-clause-finishes g c =
    let x : OpenJob = record { job = c.take-job.result.0; reader = c.take-job.result.1 } in
    finishes c.others_stay_open.ensures.law c.a_batch_is_a_part.ensures.law c.one_position.ensures.law c.renew_keeps_reads.ensures.law c.reads_tell.ensures.law c.args.objects.now c.read_on-reader.new.objects c.meet.new.self
    c.args.jobs.now c.args.j x c.read_on-reader.new.job c.read_on-reader.result c.requires.there c.take-job.ensures.pair c.read_on-reader.ensures.met c.read_on-reader.ensures.reads c.read_on-reader.ensures.same
    c.finish-finished.result.reader c.finish-finished.ensures.reader c.meet.ensures.met c.take-job.new.self c.take-job.ensures.rest
    c.take-job.ensures.gone c.meet.ensures.last

pub returns-clause-ended : goal.returns-clause-ended
returns-clause-ended g c =
    let x : OpenJob = record { job = c.take-job.result.0; reader = c.take-job.result.1 } in
    ended c.others_stay_open.ensures.law c.a_batch_is_a_part.ensures.law c.one_position.ensures.law c.renew_keeps_reads.ensures.law c.reads_tell.ensures.law c.args.objects.now c.read_on-reader.new.objects c.meet.new.self
    c.args.jobs.now c.args.j x c.read_on-reader.new.job c.read_on-reader.result c.requires.there c.take-job.ensures.pair c.read_on-reader.ensures.met c.read_on-reader.ensures.reads c.read_on-reader.ensures.same
    c.finish-finished.result.reader c.finish-finished.ensures.reader c.meet.ensures.met c.take-job.new.self c.take-job.ensures.rest
    c.stands.ensures.sound.heap c.stands.ensures.desk (c.requires.reading c.args.j x c.take-job.ensures.pair) c.finish-finished.result.outcome
    c.meet.ensures.reads c.meet.ensures.fits c.finish-finished.ensures.told

pub returns-clause-reading : goal.returns-clause-reading
returns-clause-reading g c =
    let x : OpenJob = record { job = c.take-job.result.0; reader = c.take-job.result.1 } in
    reading-left c.others_stay_open.ensures.law c.a_batch_is_a_part.ensures.law c.one_position.ensures.law c.renew_keeps_reads.ensures.law c.reads_tell.ensures.law c.args.objects.now c.read_on-reader.new.objects c.meet.new.self
    c.args.jobs.now c.args.j x c.read_on-reader.new.job c.read_on-reader.result c.requires.there c.take-job.ensures.pair c.read_on-reader.ensures.met c.read_on-reader.ensures.reads c.read_on-reader.ensures.same
    c.finish-finished.result.reader c.finish-finished.ensures.reader c.meet.ensures.met c.take-job.new.self c.take-job.ensures.rest
    c.take-job.ensures.gone c.requires.reading

pub returns-clause-site : goal.returns-clause-site
returns-clause-site g c =
    subst (λ (o : Option OpenJob). IsSomeAnd (option_map opening_of o) (λ given. c.finish-finished.result.site ≡ given.site)) (sym c.take-job.ensures.pair)
    (c.finish-finished.ensures.site ∙ ap (λ (job : JobState). job.site) c.read_on-reader.ensures.same)
