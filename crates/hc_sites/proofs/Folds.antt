-- One event at one site, and many at many.
use Rattle.std.proofs.Common.{◌≡◌, ℕ, zero, suc, ◌<◌, Bool, true, false, cond, ◌||◌, eqb, List, [], ◌∷◌, length, Option, Some, None, get_or, set, refl, ap, subst, ◌∙◌, arith}
use Rattle.std.specs.List.{slice_get}
use Rattle.std.specs.Option.{option_map}
use Rattle.std.proofs.lemmas.Bool.{eqb-true, eqb-false}
use Rattle.hc_sites.specs.declared.state.SiteState.{SiteState}
use Rattle.hc_sites.specs.Events.{Event, noted, forgotten, filled, installed, discarded}
use Rattle.hc_sites.specs.Laws.{events_at, FoldOfItsEvents, MegamorphicForGood}
use Rattle.hc_sites.specs.Maps.{is_one_too_many}
use Rattle.hc_sites.specs.State.{after_event, state_after, with_event}

at_site : (states : List SiteState) (s : ℕ) (event : Event) (old new : SiteState) → s < length states → old ≡ get_or states s old → new ≡ after_event old event → set states s new ≡ with_event states s event
at_site [] s event old new there e n = absurd (omega arith)
at_site (state ∷ states) zero event old new there e n = ap (λ x. x ∷ states) (n ∙ ap (λ x. after_event x event) e)
at_site (state ∷ states) (suc s) event old new there e n =
    ap (λ xs. state ∷ xs) (at_site states s event old new (omega arith) e n)

-- a state written in its place is the event at its site
pub set-is_event : (items states : List SiteState) (s : ℕ) (event : Event) (old new : SiteState) → items ≡ states → s < length states → old ≡ get_or items s old → new ≡ after_event old event → set items s new ≡ with_event states s event
set-is_event items states s event old new same there e n =
    at_site items s event old new (omega (arith, ap length same)) e n ∙ ap (λ xs. with_event xs s event) same

here : (states : List SiteState) (s : ℕ) (event : Event) → slice_get (with_event states s event) s ≡ option_map (λ state. after_event state event) (slice_get states s)
here [] s event = refl
here (state ∷ states) zero event = refl
here (state ∷ states) (suc s) event = here states s event

elsewhere : (states : List SiteState) (n s : ℕ) (event : Event) → (n ≡ s → ⊥) → slice_get (with_event states n event) s ≡ slice_get states s
elsewhere [] n s event other = refl
elsewhere (state ∷ states) zero zero event other = absurd (other refl)
elsewhere (state ∷ states) zero (suc s) event other = refl
elsewhere (state ∷ states) (suc n) zero event other = refl
elsewhere (state ∷ states) (suc n) (suc s) event other = elsewhere states n s event (λ e. other (ap suc e))

folded : Event → List Event → Option SiteState → Option SiteState
folded event events o = option_map (λ state. state_after state events) (option_map (λ state. after_event state event) o)

map_twice : (event : Event) (events : List Event) (o : Option SiteState) → folded event events o ≡ option_map (λ state. state_after state (event ∷ events)) o
unfolding folded
map_twice event events None = refl
map_twice event events (Some state) = refl

map_none : (o : Option SiteState) → o ≡ option_map (λ state. state_after state []) o
map_none None = refl
map_none (Some state) = refl

one_more : (states : List SiteState) (n s : ℕ) (event : Event) (events : List Event) (b : Bool) → (b ≡ true → n ≡ s) → (b ≡ false → n ≡ s → ⊥)
    → option_map (λ state. state_after state events) (slice_get (with_event states n event) s) ≡ option_map (λ state. state_after state (cond b (event ∷ events) events)) (slice_get states s)
unfolding folded
one_more states n s event events true same other =
    subst (λ k. option_map (λ state. state_after state events) (slice_get (with_event states n event) k) ≡ option_map (λ state. state_after state (event ∷ events)) (slice_get states k)) (same refl)
    (ap (option_map (λ state. state_after state events)) (here states n event) ∙ map_twice event events (slice_get states n))
one_more states n s event events false same other =
    ap (option_map (λ state. state_after state events)) (elsewhere states n s event (other refl))

pub fold-of-events : FoldOfItsEvents
fold-of-events states [] s = map_none (slice_get states s)
fold-of-events states (event ∷ events) s =
    fold-of-events (with_event states event.0 event.1) events s
    ∙ one_more states event.0 s event.1 (events_at s events) (eqb event.0 s) (eqb-true event.0 s) (eqb-false event.0 s)

either-kept : (a b : Bool) → a ≡ true → (a || b) ≡ true
either-kept true b h = h
either-kept false b h = absurd (cc)

mega-kept : (state : SiteState) (event : Event) → state.mega ≡ true → (after_event state event).mega ≡ true
mega-kept state (noted map) h = either-kept state.mega (is_one_too_many state.maps map) h
mega-kept state (forgotten map) h = h
mega-kept state (filled entry) h = h
mega-kept state (installed plan) h = h
mega-kept state discarded h = h

pub mega-for_good : MegamorphicForGood
mega-for_good state [] h = h
mega-for_good state (event ∷ events) h = mega-for_good (after_event state event) events (mega-kept state event h)
