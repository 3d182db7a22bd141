use Rattle.hc_sites.specs.Events.{forgotten}
use Rattle.hc_sites.proofs.Folds.{set-is_event}
use Rattle.hc_sites.proofs.sites.Sites.forget.Goals as goal

pub returns : goal.returns
returns c =
    set-is_event c.self.inside.states.items c.args.self.now c.args.s (forgotten c.args.map) c.index_mut-state.result.now c.forget.new.self
    c.self.view_is c.requires.there c.index_mut-state.ensures.value c.forget.ensures
