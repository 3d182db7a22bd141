-- The sites and jobs that a command leaves which was answered.
use Rattle.std.proofs.Common.{◌≡◌, ℕ, zero, suc, ◌+◌, ◌≤◌, Bool, true, false, List, [], ◌∷◌, ◌++◌, length, map, sym, ap, subst, arith}
use Rattle.hc_plan.specs.declared.case.Site.{Site}
use Rattle.hc_sites.specs.State.{new_site}
use Rattle.hc_access.specs.Entries.{AreGood}
use Rattle.hc_board.specs.Trail.{Access}
use Rattle.hc_commands.specs.Numbers.{IsCommandBelow}
use Rattle.hc_commands.specs.declared.command.Command.{Command}
use Rattle.hc_commands.specs.declared.command.Command.TheVariants.{Compile, Step, Finish}
use Rattle.hc_compiler.specs.Jobs.{Compiling}
use Rattle.hc_modes.specs.State.{ObjectsState}
use Rattle.hc_sites.specs.declared.state.SiteState.{SiteState}
use Rattle.hc_report.specs.declared.line.Line.{Line}
use Rattle.hc_session.specs.Jobs.{Works}
use Rattle.hc_session.specs.Logging.{lines_since}
use Rattle.hc_session.specs.Plain.{Answer, is_accepted_job}
use Rattle.hc_session.specs.Serving.{AreNamedSites}
use Rattle.hc_session.specs.Standing.{Standing, plain_of}
use Rattle.hc_session.specs.State.{Does}
use Rattle.std.proofs.lemmas.List.{length-map}
use Rattle.hc_session.proofs.Declares.{after-named, one_more}

one_started : {P : Type 0} (accepted : Bool) (a : ObjectsState P) (sites : List SiteState) (c : Compiling) (command : Command) (b : ObjectsState P) (sites_now : List SiteState) (now : Compiling) (lines : List (ℕ × Line)) → Works accepted a sites c command b sites_now now lines → now.started ≤ c.started + 1
one_started {P} true a sites c (Compile s) b sites_now now lines works = omega (arith, works.0.started)
one_started {P} true a sites c (Step j reads) b sites_now now lines works = omega (arith, works.0.started)
one_started {P} true a sites c (Finish j) b sites_now now lines works = omega (arith, works.2.started)
one_started {P} true a sites c command b sites_now now lines works = omega (arith, ap (λ (x : Compiling). x.started) works)
one_started {P} false a sites c (Finish j) b sites_now now lines works = omega (arith, ap (λ (x : Compiling). x.started) works.0)
one_started {P} false a sites c command b sites_now now lines works = omega (arith, ap (λ (x : Compiling). x.started) works)

same_lent : {P : Type 0} (accepted : Bool) (a : ObjectsState P) (sites : List SiteState) (c : Compiling) (command : Command) (b : ObjectsState P) (sites_now : List SiteState) (now : Compiling) (lines : List (ℕ × Line)) → Works accepted a sites c command b sites_now now lines → now.lent ≡ c.lent
same_lent {P} true a sites c (Compile s) b sites_now now lines works = works.0.lent
same_lent {P} true a sites c (Step j reads) b sites_now now lines works = works.0.lent
same_lent {P} true a sites c (Finish j) b sites_now now lines works = works.2.lent
same_lent {P} true a sites c command b sites_now now lines works = ap (λ (x : Compiling). x.lent) works
same_lent {P} false a sites c (Finish j) b sites_now now lines works = ap (λ (x : Compiling). x.lent) works.0
same_lent {P} false a sites c command b sites_now now lines works = ap (λ (x : Compiling). x.lent) works

module _ {P : Type 0} (went : P → List Access → List Access → P → Type 0) (old : Standing P) (command : Command) (answer : Answer) (new : Standing P) (does : Does went old command answer new) where
  -- at most one more
  pub no_two_more : length new.sites ≤ length old.sites + 1
  no_two_more =
      omega (
        arith,
        length-map new.sites (λ (x : SiteState). x.site),
        length-map old.sites (λ (x : SiteState). x.site),
        ap (λ (xs : List Site). length xs) does.answers.sites_are,
        one_more (plain_of old).sites command,
      )

  -- their names are such as before
  pub names_keep : (count : ℕ) → IsCommandBelow count command → AreNamedSites count (plain_of old).sites → AreNamedSites count (plain_of new).sites
  names_keep count below named = subst (AreNamedSites count) (sym does.answers.sites_are) (after-named count (plain_of old).sites command below named)

  -- at most one job more was started
  pub no_two_started : new.compiler.started ≤ old.compiler.started + 1
  no_two_started = one_started (is_accepted_job (plain_of old) command) old.objects old.sites old.compiler command new.objects new.sites new.compiler (lines_since old new) does.jobs

  -- callers have the jobs that they had
  pub lent_stay : new.compiler.lent ≡ old.compiler.lent
  lent_stay = same_lent (is_accepted_job (plain_of old) command) old.objects old.sites old.compiler command new.objects new.sites new.compiler (lines_since old new) does.jobs

-- Where there is no site

pub named-where-none : (count : ℕ) (sites : List SiteState) → sites ≡ [] → AreNamedSites count (map (λ (x : SiteState). x.site) sites)
named-where-none count sites none = subst (λ (xs : List SiteState). AreNamedSites count (map (λ (x : SiteState). x.site) xs)) (sym none) (λ n site is. let f : ⊥ = cc in absurd f)

pub good-where-none : {P : Type 0} (objects : ObjectsState P) (sites : List SiteState) → AreGood objects [] → sites ≡ [] → AreGood objects sites
good-where-none {P} objects sites good none = subst (λ (xs : List SiteState). AreGood objects xs) (sym none) good

-- a site more, at which nothing happened yet
good-more : {P : Type 0} (objects : ObjectsState P) (sites : List SiteState) (site : Site) → AreGood objects sites → AreGood objects (sites ++ new_site site ∷ [])
good-more {P} objects [] site good zero state entry is cached = let f : ⊥ = cc in absurd f
good-more {P} objects [] site good (suc n) state entry is cached = let f : ⊥ = cc in absurd f
good-more {P} objects (x ∷ xs) site good zero state entry is cached = good zero state entry is cached
good-more {P} objects (x ∷ xs) site good (suc n) state entry is cached = good-more objects xs site (λ k y z first second. good (suc k) y z first second) n state entry is cached

pub good-declared : {P : Type 0} (objects : ObjectsState P) (sites now : List SiteState) (site : Site) → AreGood objects sites → now ≡ sites ++ new_site site ∷ [] → AreGood objects now
good-declared {P} objects sites now site good is = subst (λ (xs : List SiteState). AreGood objects xs) (sym is) (good-more objects sites site good)
