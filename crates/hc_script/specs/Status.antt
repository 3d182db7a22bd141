-- The exit statuses of the program.
use Rattle.std.specs.Prelude.{ℕ}
use Rattle.hc_script.specs.declared.fault.Status.{Status}
use Rattle.hc_script.specs.declared.fault.Status.TheVariants.{Done, BadWords, BadScript, ReadFault, WriteFault, Memory}

-- each status by its number
abbrev pub number_of_status : Status → ℕ
number_of_status Done = 0
number_of_status BadWords = 2
number_of_status (BadScript n what) = 3
number_of_status ReadFault = 4
number_of_status WriteFault = 5
number_of_status Memory = 6
