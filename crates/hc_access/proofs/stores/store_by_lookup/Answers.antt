use Rattle.std.proofs.Common.{None, List, sym, subst}
use Rattle.hc_plan.specs.declared.case.Op.TheVariants.{Store}
use Rattle.hc_sites.specs.declared.cached.CacheWay.TheVariants.{Own}
use Rattle.hc_sites.specs.declared.state.SiteState.{SiteState}
use Rattle.hc_objects.specs.Came.{Moves}
use Rattle.hc_access.specs.Entries.{AreGood}
use Rattle.hc_access.proofs.Before.{moved-came, on-err, result-came, result-moved, set-came, site-there}
use Rattle.hc_access.proofs.Happening.{filled-good}
use Rattle.hc_access.proofs.Writing.{writable-own}
use Rattle.hc_access.proofs.stores.store_by_lookup.Goals as goal

pub returns-in_ok-reply-in-Some-clause-came : goal.returns-in_ok-reply-in-Some-clause-came
returns-in_ok-reply-in-Some-clause-came g c =
    set-came g.P.Pace.went c.args.objects.now c.writable_place.new.objects c.write_own.new.objects c.args.o c.args.name c.args.value c.in-Some.ensures.still c.in_ok-reply-in-Some.ensures.came

pub returns-in_ok-reply-in-Some-clause-good : goal.returns-in_ok-reply-in-Some-clause-good
returns-in_ok-reply-in-Some-clause-good g c =
    subst (λ (xs : List SiteState). AreGood c.args.objects.now xs) (sym c.fill.ensures)
    (filled-good c.args.objects.now c.args.sites.now c.args.s (record { op = Store; name = c.args.name }) (record { map = c.args.map; way = Own c.in-Some.place; cell = None }) c.requires.site
    (writable-own c.gates_are_open.ensures.law c.unused_says_nothing.ensures.law c.chains_are_told.ensures.protos c.args.objects.now c.stands.ensures.sound c.args.name c.args.o c.args.map c.in-Some.place c.requires.has c.in-Some.ensures.own)
    c.requires.good)

pub returns-in-None-clause-came : goal.returns-in-None-clause-came
returns-in-None-clause-came g c =
    result-came g.P.Pace.went c.args.objects.now c.writable_place.new.objects c.set.new.t c.args.o c.args.name c.args.value c.set.result c.in-None.ensures.still c.set.ensures.did

pub returns-in_err-reply-in-Some-clause-moved : goal.returns-in_err-reply-in-Some-clause-moved
returns-in_err-reply-in-Some-clause-moved g c =
    on-err c.from_residual.result (Moves g.P.Pace.went c.args.objects.now c.write_own.new.objects)
    (moved-came g.P.Pace.went c.args.objects.now c.writable_place.new.objects c.write_own.new.objects c.in-Some.ensures.still c.in_err-reply-in-Some.ensures.moved)

pub fill-requires : goal.fill-requires
fill-requires g c = record { there = site-there c.args.sites.now c.args.s (record { op = Store; name = c.args.name }) c.requires.site }

pub returns-in-None-clause-moved : goal.returns-in-None-clause-moved
returns-in-None-clause-moved g c = result-moved g.P.Pace.went c.args.objects.now c.writable_place.new.objects c.set.new.t c.set.result c.in-None.ensures.still c.set.ensures.moved
