use Rattle.std.proofs.Common.{◌≡◌, ℕ, Option, sym, ap, ◌∙◌, subst}
use Rattle.hc_sites.specs.declared.cached.Cached.{Cached}
use Rattle.hc_sites.specs.declared.cached.CacheWay.TheVariants.{Own}
use Rattle.hc_objects.specs.Came.{world_of}
use Rattle.hc_access.specs.Ways.{IsWritableAt, way_for}
use Rattle.hc_access.proofs.Answering.{cached-writes}
use Rattle.hc_access.proofs.stores.place_in_cache.Goals as goal

own-same : (i j : ℕ) → Own i ≡ Own j → i ≡ j
own-same i j e = cc

pub returns-clause-place : goal.returns-clause-place
returns-clause-place g c =
    let way = ap (λ (x : Option Cached). way_for c.args.objects.now.heap.view.trail x c.args.map) (sym c.cache.ensures) ∙ sym c.in_ok-place.ensures.way in
    let it = cached-writes c.gates_are_open.ensures.law c.unused_says_nothing.ensures.law c.chains_are_told.ensures.protos c.args.objects.now c.stands.ensures.sound c.args.sites.now c.args.s c.args.o c.args.name c.args.map c.in_ok-place.field-0 c.requires.has c.requires.good c.requires.site way in
    subst (λ (i : ℕ). IsWritableAt (world_of c.args.objects.now) c.args.o c.args.name i) (own-same it.0 c.in-Own.place (sym it.1 ∙ c.in-Own.is)) it.2
