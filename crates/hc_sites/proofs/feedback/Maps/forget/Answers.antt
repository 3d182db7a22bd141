-- What `retain` leaves is the filter.
use Rattle.std.proofs.Common.{◌≡◌, ◌∙◌, ap, subst, sym, rules}
use Rattle.arrayvec.proofs.ArrayVecLemmas.{filter-from_retain}
use Rattle.hc_sites.specs.Maps.{AreMaps, without_map}
use Rattle.hc_sites.proofs.Distinct.{maps-filter}
use Rattle.hc_sites.proofs.feedback.Maps.forget.Goals as goal
use Rattle.hc_sites.proofs.feedback.Maps.forget.Goals.{After-retain}

left : (c : After-retain) → c.retain.new.self.items ≡ without_map c.self.inside.items.items c.args.map
left c = filter-from_retain _ _ _ (λ x b f' y called. search rules) _ _ c.retain.ensures.filtered

pub invariant_of-self : goal.invariant_of-self
invariant_of-self c = subst AreMaps (sym (left c)) (maps-filter _ c.self.inside.items.items c.self.invariant)

pub returns : goal.returns
returns c = left c ∙ ap (λ maps. without_map maps c.args.map) c.self.view_is
