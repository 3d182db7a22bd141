use Rattle.std.proofs.Common.{List, sym, ap, ◌∙◌}
use Rattle.hc_modes.specs.Laws.{still-on}
use Rattle.hc_modes.specs.State.{ObjectsState}
use Rattle.hc_plan.specs.declared.case.Op.TheVariants.{Load}
use Rattle.hc_sites.specs.declared.state.SiteState.{SiteState}
use Rattle.hc_access.specs.Accesses.{load_fills, site_at, with_events}
use Rattle.hc_access.specs.Entries.{is_cached}
use Rattle.hc_access.specs.Notes.{maps_at, notes}
use Rattle.hc_access.proofs.Before.{site-there}
use Rattle.hc_access.proofs.Going.{still-good}
use Rattle.hc_access.proofs.Noting.{events-looked, notes-good, site-after}
use Rattle.hc_access.proofs.loads.load.Goals as goal

pub returns-in_default-clause-good : goal.returns-in_default-clause-good
returns-in_default-clause-good g c = still-good c.map_of.new.self c.get.new.t c.args.sites.now c.get.ensures.still (still-good c.args.objects.now c.map_of.new.self c.args.sites.now c.in_default.ensures.still c.requires.good)

pub from_cache-cached-requires-clause-good : goal.from_cache-cached-requires-clause-good
from_cache-cached-requires-clause-good g c = still-good c.args.objects.now c.map_of.new.self c.args.sites.now c.in-Some.ensures.still c.requires.good

pub note-requires : goal.note-requires
note-requires g c = record { there = site-there c.args.sites.now c.args.s (record { op = Load; name = c.args.name }) c.requires.site }

pub look_up-requires-clause-site : goal.look_up-requires-clause-site
look_up-requires-clause-site g c =
    ap (λ (xs : List SiteState). site_at xs c.args.s) c.note.ensures.sites
    ∙ (site-after c.args.sites.now c.args.s c.args.s (notes c.from_cache-cached.new.objects.heap.view.trail (maps_at c.args.sites.now c.args.s) c.in-Some.map) ∙ c.requires.site)

pub look_up-requires-clause-good : goal.look_up-requires-clause-good
look_up-requires-clause-good g c =
    notes-good c.note.new.objects c.args.sites.now c.note.new.sites c.args.s c.in-Some.map c.from_cache-cached.new.objects.heap.view.trail (maps_at c.args.sites.now c.args.s) c.note.ensures.sites
    (still-good c.from_cache-cached.new.objects c.note.new.objects c.args.sites.now c.note.ensures.still
    (still-good c.map_of.new.self c.from_cache-cached.new.objects c.args.sites.now c.from_cache-cached.ensures.still (still-good c.args.objects.now c.map_of.new.self c.args.sites.now c.in-Some.ensures.still c.requires.good)))

pub returns-in-Some-cached-clause-good : goal.returns-in-Some-cached-clause-good
returns-in-Some-cached-clause-good g c =
    notes-good c.note.new.objects c.args.sites.now c.note.new.sites c.args.s c.in-Some.map c.from_cache-cached.new.objects.heap.view.trail (maps_at c.args.sites.now c.args.s) c.note.ensures.sites
    (still-good c.from_cache-cached.new.objects c.note.new.objects c.args.sites.now c.note.ensures.still
    (still-good c.map_of.new.self c.from_cache-cached.new.objects c.args.sites.now c.from_cache-cached.ensures.still (still-good c.args.objects.now c.map_of.new.self c.args.sites.now c.in-Some.ensures.still c.requires.good)))

pub returns-in-None-clause-sites : goal.returns-in-None-clause-sites
returns-in-None-clause-sites g c =
    let a = c.args.objects.now in
    let still = still-on a c.map_of.new.self c.from_cache-cached.new.objects c.in-Some.ensures.still c.from_cache-cached.ensures.still in
    let then = still-on a c.from_cache-cached.new.objects c.note.new.objects still c.note.ensures.still in
    events-looked a c.from_cache-cached.new.objects c.args.sites.now c.note.new.sites c.look_up.new.sites c.args.s c.args.o c.in-Some.map (load_fills a c.args.o c.args.name) still (sym c.in-Some.ensures.value)
    (sym (c.in-None.ensures.by ∙ ap (λ (x : ObjectsState _). is_cached x.heap.view.trail c.args.sites.now c.args.s c.args.o) c.in-Some.ensures.still.is)) c.note.ensures.sites
    (c.look_up.ensures.sites ∙ ap (λ (x : ObjectsState _). with_events c.note.new.sites c.args.s (load_fills x c.args.o c.args.name c.in-Some.map)) then.is)
