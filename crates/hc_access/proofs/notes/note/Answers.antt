use Rattle.std.proofs.Common.{List, ◌∷◌, [], length, sym, ap, ◌∙◌, arith}
use Rattle.hc_sites.specs.Events.{noted}
use Rattle.hc_sites.specs.State.{with_event}
use Rattle.hc_sites.specs.declared.state.SiteState.{SiteState}
use Rattle.hc_access.specs.Notes.{forgets_before, maps_at}
use Rattle.hc_access.proofs.Noting.{events-length, events-on}
use Rattle.hc_access.proofs.notes.note.Goals as goal

pub note-requires : goal.note-requires
note-requires g c = record {
  there = omega (arith, c.requires.there, ap (length {A = SiteState}) c.forget_before.ensures.sites, events-length c.args.sites.now c.args.s (forgets_before c.args.objects.now.heap.view.trail (maps_at c.args.sites.now c.args.s) c.args.map));
}

pub returns-clause-sites : goal.returns-clause-sites
returns-clause-sites g c =
    c.note.ensures
    ∙ (ap (λ (xs : List SiteState). with_event xs c.args.s (noted c.args.map)) c.forget_before.ensures.sites
    ∙ sym (events-on c.args.sites.now c.args.s (forgets_before c.args.objects.now.heap.view.trail (maps_at c.args.sites.now c.args.s) c.args.map) (noted c.args.map ∷ [])))
