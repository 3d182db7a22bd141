use Rattle.std.proofs.Common.{Option, sym, ap, ◌∙◌, subst}
use Rattle.hc_table.specs.World.{World}
use Rattle.hc_sites.specs.declared.cached.Cached.{Cached}
use Rattle.hc_access.specs.Ways.{IsWayThere, reply_by, way_for}
use Rattle.hc_access.proofs.Answering.{cached-answers}
use Rattle.hc_access.proofs.Before.{still-world}
use Rattle.hc_access.proofs.loads.from_cache.Goals as goal

pub read_by-requires-clause-there : goal.read_by-requires-clause-there
read_by-requires-clause-there g c =
    let way = ap (λ (x : Option Cached). way_for c.args.objects.now.heap.view.trail x c.args.map) (sym c.cache.ensures) ∙ sym c.in_ok-way.ensures.way in
    let it = cached-answers c.gates_are_open.ensures.law c.unused_says_nothing.ensures.law c.chains_are_told.ensures.protos c.args.objects.now c.stands.ensures.sound c.args.sites.now c.args.s c.args.o c.args.name c.args.map c.in_ok-way.way c.requires.there c.requires.has c.requires.good c.requires.site way in
    subst (λ (w : World). IsWayThere w c.args.o c.in_ok-way.way) (sym (still-world c.args.objects.now c.way_for.new.objects c.in_ok-way.ensures.still)) it.there

pub returns-clause-reply : goal.returns-clause-reply
returns-clause-reply g c =
    let way = ap (λ (x : Option Cached). way_for c.args.objects.now.heap.view.trail x c.args.map) (sym c.cache.ensures) ∙ sym c.in_ok-way.ensures.way in
    let it = cached-answers c.gates_are_open.ensures.law c.unused_says_nothing.ensures.law c.chains_are_told.ensures.protos c.args.objects.now c.stands.ensures.sound c.args.sites.now c.args.s c.args.o c.args.name c.args.map c.in_ok-way.way c.requires.there c.requires.has c.requires.good c.requires.site way in
    c.read_by.ensures.reply ∙ (ap (λ (w : World). reply_by w c.args.o c.in_ok-way.way) (still-world c.args.objects.now c.way_for.new.objects c.in_ok-way.ensures.still) ∙ it.reply)
