use Rattle.std.proofs.Common.{◌≡◌, ◌≤◌, ◌-◌, [], false, length}
use Rattle.hc_objects.specs.Came.{world_of}
use Rattle.hc_lines.specs.Lines.{ahead}
use Rattle.hc_lines.specs.declared.limits.TheConstants.{MAX_BYTES}
use Rattle.hc_script.specs.declared.reader.Phase.TheVariants.{Going}
use Rattle.hc_session.specs.Named.{IsNamedWorld}
use Rattle.hc_session.specs.Progress.{Progress}
use Rattle.hc_session.specs.Replay.{the_first_place}
use Rattle.hc_session.specs.Serving.{AreNamedSites}
use Rattle.hc_session.specs.Standing.{plain_of}
use Rattle.hc_session.specs.State.{Does, any_pace}
use Rattle.hc_session.proofs.replaying.replay_lines.Given as goal

-- the lines so far were answered, and their text was written
abbrev pub invariant-commands : goal.invariant-commands
invariant-commands g l =
    let left = g.S.Source.left in
    let taken = g.K.Sink.taken in
    record {
      going : l.reader.phase ≡ Going;
      within : l.reader.at.bytes ≤ MAX_BYTES;
      progress : Progress (Does any_pace) (the_first_place l.initial.session) (left l.initial.source) (taken l.initial.sink)
          l.reader.at l.session (ahead l.reader.pending (left l.source)) (taken l.sink);
      named : IsNamedWorld (length l.reader.at.names) (world_of l.session.objects);
      sited : AreNamedSites (length l.reader.at.names) (plain_of l.session).sites;
      sites : length l.session.sites ≤ l.reader.at.bytes;
      jobs : l.session.compiler.started ≤ l.reader.at.bytes;
      own : l.session.compiler.lent ≡ [];
      enough : l.session.lacking ≡ false;
      reads : g.S.Source.faults l.initial.source ≤ g.S.Source.faults l.source;
      writes : g.K.Sink.faults l.initial.sink ≤ g.K.Sink.faults l.sink;
    }

abbrev pub decreases-commands : goal.decreases-commands
decreases-commands g l = MAX_BYTES - l.reader.at.bytes
