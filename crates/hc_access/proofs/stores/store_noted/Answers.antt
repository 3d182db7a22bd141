use Rattle.std.proofs.Common.{List, sym, ap, ◌∙◌}
use Rattle.hc_plan.specs.declared.case.Op.TheVariants.{Store}
use Rattle.hc_sites.specs.declared.state.SiteState.{SiteState}
use Rattle.hc_modes.specs.Laws.{still-on}
use Rattle.hc_modes.specs.State.{ObjectsState}
use Rattle.hc_objects.specs.Came.{Moves}
use Rattle.hc_access.specs.Accesses.{site_at, store_fills, with_events}
use Rattle.hc_access.specs.Entries.{is_cached}
use Rattle.hc_access.specs.Notes.{maps_at, notes}
use Rattle.hc_access.proofs.Before.{moved-came, on-err, set-came, site-there}
use Rattle.hc_access.proofs.Going.{still-back, still-good}
use Rattle.hc_access.proofs.Noting.{events-looked, notes-good, site-after}
use Rattle.hc_access.proofs.stores.store_noted.Goals as goal

pub returns-in_default-clause-came : goal.returns-in_default-clause-came
returns-in_default-clause-came g c = set-came g.P.Pace.went c.args.objects.now c.map_of.new.self c.set.new.t c.args.o c.args.name c.args.value c.in_default.ensures.still c.in_ok-reply.ensures.did

pub returns-in_err-reply-clause-moved : goal.returns-in_err-reply-clause-moved
returns-in_err-reply-clause-moved g c =
    on-err c.from_residual.result (Moves g.P.Pace.went c.args.objects.now c.set.new.t) (moved-came g.P.Pace.went c.args.objects.now c.map_of.new.self c.set.new.t c.in_default.ensures.still c.in_err-reply.ensures.moved)

pub place_in_cache-cached-requires-clause-good : goal.place_in_cache-cached-requires-clause-good
place_in_cache-cached-requires-clause-good g c = still-good c.args.objects.now c.map_of.new.self c.args.sites.now c.in-Some.ensures.still c.requires.good

pub note-requires : goal.note-requires
note-requires g c = record { there = site-there c.args.sites.now c.args.s (record { op = Store; name = c.args.name }) c.requires.site }

pub store_by_lookup-requires-clause-site : goal.store_by_lookup-requires-clause-site
store_by_lookup-requires-clause-site g c =
    ap (λ (xs : List SiteState). site_at xs c.args.s) c.note.ensures.sites
    ∙ (site-after c.args.sites.now c.args.s c.args.s (notes c.place_in_cache-cached.new.objects.heap.view.trail (maps_at c.args.sites.now c.args.s) c.in-Some.map) ∙ c.requires.site)

pub store_by_lookup-requires-clause-good : goal.store_by_lookup-requires-clause-good
store_by_lookup-requires-clause-good g c =
    notes-good c.note.new.objects c.args.sites.now c.note.new.sites c.args.s c.in-Some.map c.place_in_cache-cached.new.objects.heap.view.trail (maps_at c.args.sites.now c.args.s) c.note.ensures.sites
    (still-good c.place_in_cache-cached.new.objects c.note.new.objects c.args.sites.now c.note.ensures.still
    (still-good c.map_of.new.self c.place_in_cache-cached.new.objects c.args.sites.now c.place_in_cache-cached.ensures.still (still-good c.args.objects.now c.map_of.new.self c.args.sites.now c.in-Some.ensures.still c.requires.good)))

pub returns-in_err-reply-in-Some-cached-clause-good : goal.returns-in_err-reply-in-Some-cached-clause-good
returns-in_err-reply-in-Some-cached-clause-good g c =
    notes-good c.args.objects.now c.args.sites.now c.note.new.sites c.args.s c.in-Some.map c.place_in_cache-cached.new.objects.heap.view.trail (maps_at c.args.sites.now c.args.s) c.note.ensures.sites c.requires.good

pub returns-in_err-reply-in-Some-cached-clause-moved : goal.returns-in_err-reply-in-Some-cached-clause-moved
returns-in_err-reply-in-Some-cached-clause-moved g c =
    on-err c.from_residual-in_err-reply-in-Some-cached.result (Moves g.P.Pace.went c.args.objects.now c.write_own.new.objects)
    (moved-came g.P.Pace.went c.args.objects.now c.note.new.objects c.write_own.new.objects
    (still-on c.args.objects.now c.place_in_cache-cached.new.objects c.note.new.objects (still-on c.args.objects.now c.map_of.new.self c.place_in_cache-cached.new.objects c.in-Some.ensures.still c.place_in_cache-cached.ensures.still) c.note.ensures.still)
    c.in_err-reply-in-Some-cached.ensures.moved)

pub returns-in_err-reply-in-None-clause-good : goal.returns-in_err-reply-in-None-clause-good
returns-in_err-reply-in-None-clause-good g c =
    still-back c.args.objects.now c.note.new.objects c.store_by_lookup.new.sites
    (still-on c.args.objects.now c.place_in_cache-cached.new.objects c.note.new.objects (still-on c.args.objects.now c.map_of.new.self c.place_in_cache-cached.new.objects c.in-Some.ensures.still c.place_in_cache-cached.ensures.still) c.note.ensures.still)
    c.store_by_lookup.ensures.good

pub returns-in_err-reply-in-None-clause-moved : goal.returns-in_err-reply-in-None-clause-moved
returns-in_err-reply-in-None-clause-moved g c =
    on-err c.from_residual-in_err-reply-in-None.result (Moves g.P.Pace.went c.args.objects.now c.store_by_lookup.new.objects)
    (moved-came g.P.Pace.went c.args.objects.now c.note.new.objects c.store_by_lookup.new.objects
    (still-on c.args.objects.now c.place_in_cache-cached.new.objects c.note.new.objects (still-on c.args.objects.now c.map_of.new.self c.place_in_cache-cached.new.objects c.in-Some.ensures.still c.place_in_cache-cached.ensures.still) c.note.ensures.still)
    c.in_err-reply-in-None.ensures.moved)

pub returns-in_ok-reply-in-Some-cached-clause-came : goal.returns-in_ok-reply-in-Some-cached-clause-came
returns-in_ok-reply-in-Some-cached-clause-came g c =
    set-came g.P.Pace.went c.args.objects.now c.note.new.objects c.write_own.new.objects c.args.o c.args.name c.args.value
    (still-on c.args.objects.now c.place_in_cache-cached.new.objects c.note.new.objects (still-on c.args.objects.now c.map_of.new.self c.place_in_cache-cached.new.objects c.in-Some.ensures.still c.place_in_cache-cached.ensures.still) c.note.ensures.still)
    c.in_ok-reply-in-Some-cached.ensures.came

pub returns-in_ok-reply-in-Some-cached-clause-good : goal.returns-in_ok-reply-in-Some-cached-clause-good
returns-in_ok-reply-in-Some-cached-clause-good g c =
    notes-good c.args.objects.now c.args.sites.now c.note.new.sites c.args.s c.in-Some.map c.place_in_cache-cached.new.objects.heap.view.trail (maps_at c.args.sites.now c.args.s) c.note.ensures.sites c.requires.good

pub returns-in_ok-reply-in-None-clause-came : goal.returns-in_ok-reply-in-None-clause-came
returns-in_ok-reply-in-None-clause-came g c =
    set-came g.P.Pace.went c.args.objects.now c.note.new.objects c.store_by_lookup.new.objects c.args.o c.args.name c.args.value
    (still-on c.args.objects.now c.place_in_cache-cached.new.objects c.note.new.objects (still-on c.args.objects.now c.map_of.new.self c.place_in_cache-cached.new.objects c.in-Some.ensures.still c.place_in_cache-cached.ensures.still) c.note.ensures.still)
    c.in_ok-reply-in-None.ensures.came

pub returns-in_ok-reply-in-None-clause-good : goal.returns-in_ok-reply-in-None-clause-good
returns-in_ok-reply-in-None-clause-good g c =
    still-back c.args.objects.now c.note.new.objects c.store_by_lookup.new.sites
    (still-on c.args.objects.now c.place_in_cache-cached.new.objects c.note.new.objects (still-on c.args.objects.now c.map_of.new.self c.place_in_cache-cached.new.objects c.in-Some.ensures.still c.place_in_cache-cached.ensures.still) c.note.ensures.still)
    c.store_by_lookup.ensures.good

pub returns-in_ok-reply-in-None-clause-sites : goal.returns-in_ok-reply-in-None-clause-sites
returns-in_ok-reply-in-None-clause-sites g c =
    let a = c.args.objects.now in
    let still = still-on a c.map_of.new.self c.place_in_cache-cached.new.objects c.in-Some.ensures.still c.place_in_cache-cached.ensures.still in
    let then = still-on a c.place_in_cache-cached.new.objects c.note.new.objects still c.note.ensures.still in
    events-looked a c.place_in_cache-cached.new.objects c.args.sites.now c.note.new.sites c.store_by_lookup.new.sites c.args.s c.args.o c.in-Some.map (store_fills a c.args.o c.args.name) still (sym c.in-Some.ensures.value)
    (sym (c.in-None.ensures.by ∙ ap (λ (x : ObjectsState _). is_cached x.heap.view.trail c.args.sites.now c.args.s c.args.o) c.in-Some.ensures.still.is)) c.note.ensures.sites
    (c.in_ok-reply-in-None.ensures.sites ∙ ap (λ (x : ObjectsState _). with_events c.note.new.sites c.args.s (store_fills x c.args.o c.args.name c.in-Some.map)) then.is)
