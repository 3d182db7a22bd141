use Rattle.hc_modes.proofs.Shown.{unmapped-slow}
use Rattle.hc_modes.proofs.objects.Objects.map_of.Goals as goal

pub returns-clause-slow : goal.returns-clause-slow
returns-clause-slow g c = unmapped-slow _ _ c.args.o c.self.view_is c.requires.there c.self.invariant c.object_map.result c.object_map.ensures.value
