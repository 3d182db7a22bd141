use Rattle.std.proofs.Common.{◌≡◌, ◌++◌, ◌∷◌, [], ap, refl}
use Rattle.hc_board.specs.States.{words_of}
use Rattle.hc_heap.specs.Frames.{goes-still}
use Rattle.hc_heap.specs.States.{IsDesk, IsHeap}
use Rattle.hc_installed.specs.Installed.{AreInstalled}
use Rattle.hc_installed.specs.Laws.{AreUnbroken, NewSitesHaveNoPlan, QuietBreaksNoPlan}
use Rattle.hc_modes.specs.State.{ObjectsState}
use Rattle.hc_plan.specs.declared.case.Site.{Site}
use Rattle.hc_sites.specs.State.{new_site}
use Rattle.hc_value.specs.declared.reply.Reply.TheVariants.{Site as SiteReply}
use Rattle.hc_session.proofs.Obeys.{declares}
use Rattle.hc_session.proofs.Sited.{good-declared}
use Rattle.std.proofs.Common.{sym, subst, List}
use Rattle.hc_sites.specs.declared.state.SiteState.{SiteState}
use Rattle.hc_session.specs.Jobs.{AreSeen}
use Rattle.hc_session.proofs.Seen.{seen-more}
use Rattle.hc_session.proofs.Worked.{attends-done}
use Rattle.hc_session.proofs.serve.declare.Goals as goal

-- no plan of theirs is broken
none-broken : {P : Type 0} (a : ObjectsState P) (sites : List SiteState) → QuietBreaksNoPlan → IsHeap a.heap.view → IsDesk a.heap.view a.heap.desk → AreInstalled a.heap.view.shape a.heap.view.trail sites → AreUnbroken a.heap.view.shape (words_of a.heap.desk) sites
none-broken {P} a sites law heap desk borne = law a.heap.view.trail a.heap.view a.heap.desk sites heap desk (goes-still a.heap.view.shape heap.lawful) refl borne

borne_now : {P : Type 0} (a : ObjectsState P) (sites now : List SiteState) (what : Site) → NewSitesHaveNoPlan → now ≡ sites ++ new_site what ∷ [] → AreInstalled a.heap.view.shape a.heap.view.trail sites → AreInstalled a.heap.view.shape a.heap.view.trail now
borne_now {P} a sites now what law is borne = subst (λ (xs : List SiteState). AreInstalled a.heap.view.shape a.heap.view.trail xs) (sym is) (law a.heap.view.shape a.heap.view.trail sites what borne)

pub returns-clause-serves : goal.returns-clause-serves
returns-clause-serves g c =
    let borne = borne_now c.args.objects.now c.args.sites.now c.declare.new.self _ c.new_sites_have_no_plan.ensures.law c.in_ok-declare.ensures.ok c.requires.installed in
    let none = none-broken c.args.objects.now c.declare.new.self c.quiet_breaks_no_plan.ensures.law c.stands.ensures.sound.heap c.stands.ensures.desk borne in
    declares g.P.Pace.went c.args.objects.now c.args.sites.now c.declare.new.self c.args.op c.args.name _ (ap SiteReply c.in_ok-declare.ensures.number) c.in_ok-declare.ensures.ok none.left (none.none _)

pub returns-clause-installed : goal.returns-clause-installed
returns-clause-installed g c = borne_now c.args.objects.now c.args.sites.now c.declare.new.self _ c.new_sites_have_no_plan.ensures.law c.in_ok-declare.ensures.ok c.requires.installed

pub returns-clause-good : goal.returns-clause-good
returns-clause-good g c = good-declared c.args.objects.now c.args.sites.now c.declare.new.self _ c.requires.good c.in_ok-declare.ensures.ok

pub returns-clause-seen : goal.returns-clause-seen
returns-clause-seen g c =
    subst (λ (xs : List SiteState). AreSeen c.args.objects.now.heap.view.trail xs) (sym c.in_ok-declare.ensures.ok)
    (seen-more c.args.objects.now.heap.view.trail c.args.sites.now _ c.requires.seen)
