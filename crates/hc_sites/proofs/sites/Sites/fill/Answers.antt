use Rattle.hc_sites.specs.Events.{filled}
use Rattle.hc_sites.proofs.Folds.{set-is_event}
use Rattle.hc_sites.proofs.sites.Sites.fill.Goals as goal

pub returns : goal.returns
returns c =
    set-is_event c.self.inside.states.items c.args.self.now c.args.s (filled c.args.entry) c.index_mut-state.result.now c.fill.new.self
    c.self.view_is c.requires.there c.index_mut-state.ensures.value c.fill.ensures
