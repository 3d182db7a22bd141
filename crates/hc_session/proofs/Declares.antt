-- How many sites there are, and what their names are.
use Rattle.std.proofs.Common.{◌≡◌, refl, sym, ap, ◌∙◌, subst, ℕ, zero, suc, ◌+◌, ◌-◌, ◌<◌, ◌≤◌, ◌^◌, Bool, true, false, List, ◌∷◌, [], ◌++◌, map, length, length-append, Option, Some, None, arith}
use Rattle.std.specs.Prelude.{if◌then◌else◌}
use Rattle.std.proofs.lemmas.List.{length-map}
use Rattle.hc_access.specs.Accesses.{events_at, note_events, site_at, with_events}
use Rattle.hc_access.specs.Laws.{events-sites}
use Rattle.hc_commands.specs.Numbers.{IsCommandBelow}
use Rattle.hc_commands.specs.declared.command.Command.{Command}
use Rattle.hc_commands.specs.declared.command.Command.TheVariants.{Declare, Exec, Compile, Step, Finish}
use Rattle.hc_modes.specs.State.{ObjectsState}
use Rattle.hc_plan.specs.declared.case.Site.{Site}
use Rattle.hc_sites.specs.Events.{Event}
use Rattle.hc_sites.specs.State.{new_site}
use Rattle.hc_sites.specs.declared.state.SiteState.{SiteState}
use Rattle.hc_slots.specs.Cases.{some-is}
use Rattle.hc_compiler.specs.Jobs.{Opening, is_lent}
use Rattle.hc_session.specs.Jobs.{IsNotLent}
use Rattle.hc_session.specs.Plain.{HasJobNumber, HasSiteNumber, is_access, sites_after}
use Rattle.hc_session.specs.Serving.{AreNamedSites}
use Rattle.hc_session.specs.Standing.{plain_with}
use Rattle.hc_session.specs.Plans.{Chosen, by_plan, by_cache, by_lookup, sites_left}
use Rattle.hc_session.specs.State.{sites_at, sites_by, sites_in_want}
use Rattle.hc_session.proofs.Losing.{left-seen}

-- where there are few there is a number for one more
pub number_left : (count : ℕ) (command : Command) → count < 2 ^ 32 - 1 → HasSiteNumber count command
number_left count (Declare op name) few = few
number_left count command few = tt

pub job_number_left : (started : ℕ) (command : Command) → started < 2 ^ 32 - 1 → HasJobNumber started command
job_number_left started (Compile s) few = few
job_number_left started command few = tt

-- where callers have none
pub none_lent : (lent : List Opening) (command : Command) → lent ≡ [] → IsNotLent lent command
none_lent lent (Step j reads) none = ap (λ (xs : List Opening). is_lent xs j) none
none_lent lent (Finish j) none = ap (λ (xs : List Opening). is_lent xs j) none
none_lent lent command none = tt

-- What tables with sites see of the sites

abbrev seen_of : List SiteState → List Site
seen_of sites = map (λ (x : SiteState). x.site) sites

sites_with : (sites : List SiteState) (site : Site) → seen_of (sites ++ new_site site ∷ []) ≡ seen_of sites ++ site ∷ []
sites_with [] site = refl
sites_with (x ∷ xs) site = ap (λ (rest : List Site). x.site ∷ rest) (sites_with xs site)

if-same : (b : Bool) (xs ys : List SiteState) → seen_of xs ≡ seen_of ys → seen_of (if b then xs else ys) ≡ seen_of ys
if-same true xs ys e = e
if-same false xs ys e = refl

at-same : {P : Type 0} (objects : ObjectsState P) (sites : List SiteState) (s o : ℕ) (site : Option Site) (chosen : Chosen) → seen_of (sites_at objects sites s o site chosen) ≡ seen_of sites
at-same {P} objects sites s o site (by_plan case) = refl
at-same {P} objects sites s o None by_cache = refl
at-same {P} objects sites s o None by_lookup = refl
at-same {P} objects sites s o (Some site) by_cache = events-sites sites s (events_at objects sites s o site.op site.name)
at-same {P} objects sites s o (Some site) by_lookup = events-sites sites s (events_at objects sites s o site.op site.name)

pub sites-seen : {P : Type 0} (ready : ObjectsState P) (sites : List SiteState) (command : Command) (chosen : Chosen) → seen_of (sites_by ready sites command chosen) ≡ sites_after (seen_of sites) command
sites-seen {P} ready sites (Declare op name) chosen = sites_with sites (record { op = op; name = name })
sites-seen {P} ready sites (Exec s o value) chosen =
    if-same (is_access (plain_with ready sites) (Exec s o value)) (sites_at ready (sites_left ready sites) s o (site_at sites s) chosen) sites
    (at-same ready (sites_left ready sites) s o (site_at sites s) chosen ∙ left-seen ready sites)
sites-seen {P} ready sites command chosen = refl

-- once plans are discarded that it broke
pub sites-left-seen : {P : Type 0} (ready now : ObjectsState P) (sites : List SiteState) (command : Command) (chosen : Chosen) → seen_of (sites_left now (sites_by ready sites command chosen)) ≡ sites_after (seen_of sites) command
sites-left-seen {P} ready now sites command chosen = left-seen now (sites_by ready sites command chosen) ∙ sites-seen ready sites command chosen

pub want-seen : {P : Type 0} (objects : ObjectsState P) (sites : List SiteState) (command : Command) → seen_of (sites_in_want objects sites command) ≡ seen_of sites
want-seen {P} objects sites (Exec s o value) =
    if-same (is_access (plain_with objects sites) (Exec s o value)) (with_events (sites_left objects sites) s (note_events objects (sites_left objects sites) s o)) sites
    (events-sites (sites_left objects sites) s (note_events objects (sites_left objects sites) s o) ∙ left-seen objects sites)
want-seen {P} objects sites command = refl

-- a command declares one at most
pub one_more : (sites : List Site) (command : Command) → length (sites_after sites command) ≤ length sites + 1
one_more sites (Declare op name) = omega (arith, length-append sites (record { op = op; name = name } ∷ []))
one_more sites command = omega arith

-- Names of sites

more-named : (count : ℕ) (sites : List Site) (site : Site) → site.name < count → AreNamedSites count sites → AreNamedSites count (sites ++ site ∷ [])
more-named count [] site lt named zero x e = subst (λ (y : Site). y.name < count) (some-is site x e) lt
more-named count [] site lt named (suc n) x e = let f : ⊥ = cc in absurd f
more-named count (y ∷ ys) site lt named zero x e = named zero x e
more-named count (y ∷ ys) site lt named (suc n) x e = more-named count ys site lt (λ k z. named (suc k) z) n x e

-- after a command whose names are among the names
pub after-named : (count : ℕ) (sites : List Site) (command : Command) → IsCommandBelow count command → AreNamedSites count sites → AreNamedSites count (sites_after sites command)
after-named count sites (Declare op name) below named = more-named count sites (record { op = op; name = name }) below named
after-named count sites command below named = named

pub sites-named : {P : Type 0} (count : ℕ) (ready now : ObjectsState P) (sites : List SiteState) (command : Command) (chosen : Chosen) → IsCommandBelow count command → AreNamedSites count (seen_of sites) → AreNamedSites count (seen_of (sites_left now (sites_by ready sites command chosen)))
sites-named {P} count ready now sites command chosen below named =
    subst (AreNamedSites count) (sym (sites-left-seen ready now sites command chosen)) (after-named count (seen_of sites) command below named)

pub want-named : {P : Type 0} (count : ℕ) (objects : ObjectsState P) (sites : List SiteState) (command : Command) → AreNamedSites count (seen_of sites) → AreNamedSites count (seen_of (sites_in_want objects sites command))
want-named {P} count objects sites command named = subst (AreNamedSites count) (sym (want-seen objects sites command)) named
