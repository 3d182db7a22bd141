-- Plans that commands break: the lines and the sites that are left.
use Rattle.std.proofs.Common.{◌≡◌, ℕ, zero, suc, ◌+◌, ◌<◌, ◌≤◌, Bool, true, false, Option, Some, None, List, [], ◌∷◌, ◌++◌, length, map, refl, sym, ap, ◌∙◌, append_assoc, arith, subst}
use Rattle.std.specs.Prelude.{IfSome, IsSomeAnd, MatchOption, slice_get}
use Rattle.std.specs.List.{AllByRecursion}
use Rattle.std.proofs.Math.Nat.{le_refl}
use Rattle.hc_layout.specs.declared.shape.Shape.{Shape}
use Rattle.hc_plan.specs.declared.case.Site.{Site}
use Rattle.hc_plan.specs.declared.deps.Dep.{Dep}
use Rattle.hc_plan.specs.declared.plan.Plan.{Plan}
use Rattle.hc_sites.specs.declared.state.SiteState.{SiteState}
use Rattle.hc_modes.specs.State.{ObjectsState}
use Rattle.hc_deps.specs.Holds.{HoldsButValue}
use Rattle.hc_deps.specs.Verdicts.{IsFirstBroken, IsUnbroken}
use Rattle.hc_installed.specs.Laws.{BreaksAreFirst}
use Rattle.hc_installed.specs.Discards.{broken_by, discard_line, lines_from, unbroken_sites, unless_broken}
use Rattle.hc_report.specs.Lines.{log_line}
use Rattle.hc_report.specs.declared.line.Line.{Line}
use Rattle.hc_report.specs.declared.line.Line.TheVariants.{Discard}
use Rattle.hc_session.specs.Logging.{answers_in, log_text}
use Rattle.hc_session.specs.Plain.{AreRising, IsDiscardsText, discards_text}
use Rattle.hc_session.specs.Plans.{lines_lost, sites_left}

-- The text of discards

rising-later : (from count : ℕ) (lost : List (ℕ × Dep)) → AreRising (from + 1) count lost → AreRising from count lost
rising-later from count [] rising = tt
rising-later from count (one ∷ others) rising = let le = rising.0 in (omega (arith, le), rising.1, rising.2)

-- these lines are discards of sites from one on, by rising site
abbrev HasText : ℕ → ℕ → List (ℕ × Line) → Type 0
HasText from count lines = (lost : List (ℕ × Dep)) × AreRising from count lost × (log_text lines ≡ discards_text lost)

add-one : (at from count : ℕ) (broken : Option Dep) (rest : List (ℕ × Line)) → from < count → HasText (from + 1) count rest → HasText from count (discard_line at from broken ++ rest)
add-one at from count None rest lt text = (text.0, rising-later from count text.0 text.1, text.2)
add-one at from count (Some dep) rest lt text =
    ((from, dep) ∷ text.0, (le_refl from, lt, text.1), ap (λ (xs : List ℕ). log_line (Discard from dep) ++ xs) text.2)

text-from : (s : Shape) (words : List ℕ) (at from count : ℕ) (sites : List SiteState) → from + length sites ≡ count → HasText from count (lines_from s words at from sites)
unfolding lines_from
text-from s words at from count [] e = ([], tt, refl)
text-from s words at from count (x ∷ xs) e =
    add-one at from count (broken_by s words x) (lines_from s words at (from + 1) xs) (omega (arith, e)) (text-from s words at (from + 1) count xs (omega (arith, e)))

pub lost-text : {P : Type 0} (now : ObjectsState P) (sites : List SiteState) → IsDiscardsText (length sites) (log_text (lines_lost now sites))
lost-text {P} now sites = text-from now.heap.view.shape _ _ 0 (length sites) sites (omega arith)

pub text-none : (count : ℕ) → IsDiscardsText count []
text-none count = ([], tt, refl)

pub text-append : (xs ys : List (ℕ × Line)) → log_text (xs ++ ys) ≡ log_text xs ++ log_text ys
text-append [] ys = refl
text-append (x ∷ xs) ys = ap (λ (zs : List ℕ). log_line x.1 ++ zs) (text-append xs ys) ∙ sym (append_assoc (log_line x.1) (log_text xs) (log_text ys))

-- They say nothing of what answered

none-one : (at from : ℕ) (broken : Option Dep) (rest : List (ℕ × Line)) → answers_in (discard_line at from broken ++ rest) ≡ answers_in rest
none-one at from None rest = refl
none-one at from (Some dep) rest = refl

none-from : (s : Shape) (words : List ℕ) (at from : ℕ) (sites : List SiteState) → answers_in (lines_from s words at from sites) ≡ 0
unfolding lines_from
none-from s words at from [] = refl
none-from s words at from (x ∷ xs) = none-one at from (broken_by s words x) (lines_from s words at (from + 1) xs) ∙ none-from s words at (from + 1) xs

pub lost-none : {P : Type 0} (now : ObjectsState P) (sites : List SiteState) → answers_in (lines_lost now sites) ≡ 0
lost-none {P} now sites = none-from now.heap.view.shape _ _ 0 sites

-- The sites that are left

same-site : (broken : Option Dep) (x : SiteState) → (unless_broken broken x).site ≡ x.site
same-site None x = refl
same-site (Some dep) x = refl

same-sites : (s : Shape) (words : List ℕ) (sites : List SiteState) → map (λ (x : SiteState). x.site) (unbroken_sites s words sites) ≡ map (λ (x : SiteState). x.site) sites
unfolding unbroken_sites
same-sites s words [] = refl
same-sites s words (x ∷ xs) =
    ap (λ (site : Site). site ∷ map (λ (y : SiteState). y.site) (unbroken_sites s words xs)) (same-site (broken_by s words x) x)
    ∙ ap (λ (rest : List Site). x.site ∷ rest) (same-sites s words xs)

pub left-seen : {P : Type 0} (now : ObjectsState P) (sites : List SiteState) → map (λ (x : SiteState). x.site) (sites_left now sites) ≡ map (λ (x : SiteState). x.site) sites
left-seen {P} now sites = same-sites now.heap.view.shape _ sites

-- What is true of each line

-- a line is a discard of a site for a dependency, of which something holds
abbrev pub IsLost : ℕ → (ℕ → Dep → Type 0) → ℕ × Line → Type 0
IsLost at Q entry = (site : ℕ) × (dep : Dep) × (entry ≡ (at, Discard site dep)) × Q site dep

one-lost : (Q : ℕ → Dep → Type 0) (at from : ℕ) (broken : Option Dep) (rest : List (ℕ × Line)) → ((dep : Dep) → broken ≡ Some dep → Q from dep)
    → AllByRecursion (IsLost at Q) rest → AllByRecursion (IsLost at Q) (discard_line at from broken ++ rest)
one-lost Q at from None rest each others = others
one-lost Q at from (Some dep) rest each others = ((from, dep, refl, each dep refl), others)

pub each-from : (s : Shape) (words : List ℕ) (Q : ℕ → Dep → Type 0) (at from : ℕ) (sites : List SiteState)
    → ((i : ℕ) (x : SiteState) (dep : Dep) → slice_get sites i ≡ Some x → broken_by s words x ≡ Some dep → Q (from + i) dep) → AllByRecursion (IsLost at Q) (lines_from s words at from sites)
unfolding lines_from
each-from s words Q at from [] each = tt
each-from s words Q at from (x ∷ xs) each =
    one-lost Q at from (broken_by s words x) (lines_from s words at (from + 1) xs) (λ dep broken. subst (λ (n : ℕ). Q n dep) (omega arith) (each 0 x dep refl broken))
    (each-from s words Q at (from + 1) xs (λ i y dep here broken. subst (λ (n : ℕ). Q n dep) (omega arith) (each (suc i) y dep here broken)))

-- what breaks a site's plan is its first dependency, other than a value, that doesn't hold
pub first-broken : BreaksAreFirst → (s : Shape) (words : List ℕ) (x : SiteState) (dep : Dep) → broken_by s words x ≡ Some dep → IsSomeAnd x.plan (λ (plan : Plan). IsFirstBroken (HoldsButValue s words) plan.deps dep)
first-broken law s words x dep broken =
    subst (λ (o : Option Dep). MatchOption o (IfSome x.plan (IsUnbroken s words)) (λ (d : Dep). IsSomeAnd x.plan (λ (plan : Plan). IsFirstBroken (HoldsButValue s words) plan.deps d))) broken (law s words x)
