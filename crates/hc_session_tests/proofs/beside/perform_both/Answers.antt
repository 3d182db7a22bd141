use Rattle.hc_session_tests.proofs.OnTables.{no_job_number, no_number, of_no_job}
use Rattle.hc_session_tests.proofs.beside.perform_both.Goals as goal

pub command-requires-clause-room : goal.command-requires-clause-room
command-requires-clause-room g c = no_number _ _ c.requires.tables

pub command-requires-clause-jobs : goal.command-requires-clause-jobs
command-requires-clause-jobs g c = no_job_number _ _ c.requires.tables

pub command-requires-clause-own : goal.command-requires-clause-own
command-requires-clause-own g c = of_no_job _ _ c.requires.tables
