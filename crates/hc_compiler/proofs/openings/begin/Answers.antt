use Rattle.std.proofs.Common.{◌∙◌, ap, sym, subst, slice_get}
use Rattle.hc_board.specs.Parts.{reads_of}
use Rattle.hc_board.specs.States.{reads_made}
use Rattle.hc_planner.specs.Jobs.{AreOwn}
use Rattle.hc_compiler.proofs.Starting.{begun}
use Rattle.hc_compiler.proofs.openings.begin.Goals as goal

pub returns-clause-new : goal.returns-clause-new
returns-clause-new g c =
    begun c.args.objects.now c.args.number c.args.s (slice_get c.args.sites.now c.args.s) c.args.shape (record { job = c.in_ok-job.job; reader = c.in_ok-reader.reader })
    c.in-Some.what c.as_slice.result.now c.feedback-feedback.result c.in_ok-job.job.seekers
    (sym c.in-Some.is ∙ c.site.ensures) c.feedback-feedback.ensures.value c.feedback-feedback.ensures.maps
    (c.as_slice.ensures.value ∙ c.maps_in-maps.ensures) c.in_ok-job.ensures.given c.requires.shape c.in_ok-reader.ensures.reader

pub returns-clause-own : goal.returns-clause-own
unfolding reads_of
returns-clause-own g c = subst (AreOwn c.in_ok-job.job) (sym (ap reads_made c.in_ok-reader.ensures.reader)) c.in_ok-job.ensures.own
