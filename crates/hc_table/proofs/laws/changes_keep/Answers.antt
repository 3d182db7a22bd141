use Rattle.hc_table.proofs.Worlds.{changes-keep}
use Rattle.hc_table.proofs.laws.changes_keep.Goals as goal

pub returns : goal.returns
returns c = record { law = changes-keep }
