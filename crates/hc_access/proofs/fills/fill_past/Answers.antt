use Rattle.hc_access.proofs.Going.{still-good}
use Rattle.hc_access.proofs.fills.fill_past.Goals as goal

pub fill_behind-requires-clause-good : goal.fill_behind-requires-clause-good
fill_behind-requires-clause-good g c = still-good c.args.objects.now c.proto-proto.new.self c.args.sites.now c.proto-proto.ensures.still c.requires.good
