-- Commands on property tables declare no site, and are of no job.
use Rattle.std.proofs.Common.{ℕ, List}
use Rattle.hc_commands.specs.declared.command.Command.{Command}
use Rattle.hc_commands.specs.declared.command.Command.TheVariants.{Declare, Compile, Step, Finish}
use Rattle.hc_compiler.specs.Jobs.{Opening}
use Rattle.hc_session.specs.Jobs.{IsNotLent}
use Rattle.hc_session.specs.Plain.{HasJobNumber, HasSiteNumber}
use Rattle.hc_session.specs.Tables.{IsOnTables}

pub no_number : (count : ℕ) (command : Command) → IsOnTables command → HasSiteNumber count command
no_number count (Declare op name) on = absurd (cc)
no_number count command on = tt

pub no_job_number : (started : ℕ) (command : Command) → IsOnTables command → HasJobNumber started command
no_job_number started (Compile s) on = absurd (cc)
no_job_number started command on = tt

pub of_no_job : (lent : List Opening) (command : Command) → IsOnTables command → IsNotLent lent command
of_no_job lent (Step j reads) on = absurd (cc)
of_no_job lent (Finish j) on = absurd (cc)
of_no_job lent command on = tt
