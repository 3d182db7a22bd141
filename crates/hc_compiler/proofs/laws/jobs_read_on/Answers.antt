use Rattle.hc_compiler.proofs.Reading.{jobs-read-on}
use Rattle.hc_compiler.proofs.laws.jobs_read_on.Goals as goal

pub returns : goal.returns
returns g c = record { law = jobs-read-on c.writes_go_on.ensures.law c.stores_are_writes.ensures.law }
