-- What events at sites leave of their entries.
use Rattle.std.proofs.Common.{◌≡◌, ℕ, zero, suc, Some, List, [], ◌∷◌, refl, sym, ap, ◌∙◌, subst, inl, inr}
use Rattle.std.specs.Prelude.{◌⊎◌, option_map, slice_get}
use Rattle.hc_modes.specs.State.{ObjectsState}
use Rattle.hc_plan.specs.declared.case.Site.{Site}
use Rattle.hc_sites.specs.Events.{Event, filled}
use Rattle.hc_sites.specs.State.{after_event, with_event}
use Rattle.hc_sites.specs.declared.cached.Cached.{Cached}
use Rattle.hc_sites.specs.declared.state.SiteState.{SiteState}
use Rattle.hc_slots.specs.Cases.{some-is}
use Rattle.hc_access.specs.Accesses.{site_at}
use Rattle.hc_access.specs.Entries.{AreGood, IsGoodEntry}

-- a site is as it was, or the event happened at it
pub record Came (sites : List SiteState) (k : ℕ) (event : Event) (n : ℕ) (new : SiteState) : Type 0 where
  pub old : SiteState
  pub was : slice_get sites n ≡ Some old
  pub now : (new ≡ old) ⊎ ((n ≡ k) × (new ≡ after_event old event))

pub came-by : (sites : List SiteState) (k : ℕ) (event : Event) (n : ℕ) (new : SiteState) → slice_get (with_event sites k event) n ≡ Some new → Came sites k event n new
came-by [] k event n new e = let f : ⊥ = cc in absurd f
came-by (x ∷ xs) zero event zero new e = record { old = x; was = refl; now = inr (refl, sym (some-is (after_event x event) new e)) }
came-by (x ∷ xs) zero event (suc n) new e = record { old = new; was = e; now = inl refl }
came-by (x ∷ xs) (suc k) event zero new e = record { old = x; was = refl; now = inl (sym (some-is x new e)) }
came-by (x ∷ xs) (suc k) event (suc n) new e = let h = came-by xs k event n new e in record { old = h.old; was = h.was; now = on h.now }
  where
    on : {old : SiteState} → (new ≡ old) ⊎ ((n ≡ k) × (new ≡ after_event old event)) → (new ≡ old) ⊎ ((suc n ≡ suc k) × (new ≡ after_event old event))
    on {old} (inl same) = inl same
    on {old} (inr h) = inr (ap suc h.0, h.1)

module _ {P : Type 0} (s : ObjectsState P) where
  good-same : (site : Site) (entry : Cached) (other : Site) → site ≡ other → IsGoodEntry s site entry → IsGoodEntry s other entry
  good-same site entry other e h = subst (λ (x : Site). IsGoodEntry s x entry) e h

  -- a good entry may be filled
  pub filled-good : (sites : List SiteState) (k : ℕ) (site : Site) (entry : Cached) → site_at sites k ≡ Some site → IsGoodEntry s site entry → AreGood s sites → AreGood s (with_event sites k (filled entry))
  filled-good sites k site entry there fine good n state other at is =
      let came = came-by sites k (filled entry) n state at in
      by came.old came.was came.now
    where
      by : (old : SiteState) → slice_get sites n ≡ Some old → (state ≡ old) ⊎ ((n ≡ k) × (state ≡ after_event old (filled entry))) → IsGoodEntry s state.site other
      by old was (inl same) = subst (λ (x : SiteState). IsGoodEntry s x.site other) (sym same) (good n old other was (ap (λ (x : SiteState). x.cache) (sym same) ∙ is))
      by old was (inr h) =
          let entries : entry ≡ other = some-is entry other (ap (λ (x : SiteState). x.cache) (sym h.1) ∙ is) in
          let here : Some old.site ≡ Some site = sym (ap (option_map (λ (x : SiteState). x.site)) (sym (ap (λ (i : ℕ). slice_get sites i) h.0) ∙ was)) ∙ there in
          let same : site ≡ state.site = sym (some-is old.site site here) ∙ sym (ap (λ (x : SiteState). x.site) h.1) in
          subst (λ (x : Cached). IsGoodEntry s state.site x) entries (good-same site entry state.site same fine)
