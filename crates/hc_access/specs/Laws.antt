-- What events leave of sites.
use Rattle.std.proofs.Common.{◌≡◌, ℕ, zero, suc, List, [], ◌∷◌, map, Some, refl, ap, ◌∙◌}
use Rattle.hc_plan.specs.declared.case.Site.{Site}
use Rattle.hc_sites.specs.Events.{Event, noted, forgotten, filled, installed, discarded}
use Rattle.hc_sites.specs.State.{after_event, with_event}
use Rattle.hc_sites.specs.declared.state.SiteState.{SiteState}
use Rattle.hc_access.specs.Accesses.{site_at, with_events}

-- no event gives a site another operation or name
same-site : (x : SiteState) (event : Event) → (after_event x event).site ≡ x.site
same-site x (noted m) = refl
same-site x (forgotten m) = refl
same-site x (filled entry) = refl
same-site x (installed plan) = refl
same-site x discarded = refl

event-sites : (sites : List SiteState) (k : ℕ) (event : Event) → map (λ (x : SiteState). x.site) (with_event sites k event) ≡ map (λ (x : SiteState). x.site) sites
event-sites [] k event = refl
event-sites (x ∷ xs) zero event = ap (λ (site : Site). site ∷ map (λ (y : SiteState). y.site) xs) (same-site x event)
event-sites (x ∷ xs) (suc k) event = ap (λ (rest : List Site). x.site ∷ rest) (event-sites xs k event)

pub events-sites : (sites : List SiteState) (k : ℕ) (events : List Event) → map (λ (x : SiteState). x.site) (with_events sites k events) ≡ map (λ (x : SiteState). x.site) sites
events-sites sites k [] = refl
events-sites sites k (event ∷ events) = events-sites (with_event sites k event) k events ∙ event-sites sites k event

pub event-site : (sites : List SiteState) (k n : ℕ) (event : Event) → site_at (with_event sites k event) n ≡ site_at sites n
event-site [] k n event = refl
event-site (x ∷ xs) zero zero event = ap Some (same-site x event)
event-site (x ∷ xs) zero (suc n) event = refl
event-site (x ∷ xs) (suc k) zero event = refl
event-site (x ∷ xs) (suc k) (suc n) event = event-site xs k n event
