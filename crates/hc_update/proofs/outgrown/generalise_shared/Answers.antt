use Rattle.hc_update.proofs.Renewed.{after-cut, cut-ends, cut-keys, detail-after, generalised}
use Rattle.hc_update.proofs.outgrown.generalise_shared.Goals as goal

pub of_build-requires-clause-few : goal.of_build-requires-clause-few
of_build-requires-clause-few g c = (c.gates_are_open.ensures.law c.args.h.now.view.shape c.args.h.now.view.trail c.args.map _ c.stands.ensures.heap.lawful c.requires.map).few

pub build-requires-clause-keys : goal.build-requires-clause-keys
build-requires-clause-keys g c = cut-keys c.maps_are_kept.ensures.law c.args.h.now.view c.cut-base.new.h.view c.args.map c.args.n c.args.i c.cut-base.result c.stands.ensures.heap c.cut-base.ensures.cut

pub build-requires-clause-map : goal.build-requires-clause-map
build-requires-clause-map g c = (after-cut c.maps_are_kept.ensures.law c.args.h.now.view c.cut-base.new.h.view c.args.map c.args.n c.args.i c.cut-base.result c.stands.ensures.heap c.cut-base.ensures.cut).written.gate c.args.map _ c.requires.map

pub build-requires-clause-ends : goal.build-requires-clause-ends
build-requires-clause-ends g c = cut-ends c.maps_are_kept.ensures.law c.args.h.now.view c.cut-base.new.h.view c.args.map c.args.n c.args.i c.cut-base.result c.stands.ensures.heap c.cut-base.ensures.cut

pub build-requires-clause-wanted : goal.build-requires-clause-wanted
build-requires-clause-wanted g c = detail-after c.maps_are_kept.ensures.law c.args.h.now.view c.cut-base.new.h.view c.args.map c.args.n c.args.i c.cut-base.result c.stands.ensures.heap c.cut-base.ensures.cut c.args.detail c.requires.detail

pub returns-clause-made : goal.returns-clause-made
returns-clause-made g c = generalised c.maps_are_kept.ensures.law c.set_is_kept.ensures.law c.unused_says_nothing.ensures.law c.args.h.now.view c.cut-base.new.h.view c.build.new.h.view c.args.map c.args.n c.args.i c.cut-base.result c.build.result c.args.detail c.stands.ensures.heap c.requires.map c.cut-base.ensures.cut c.build.ensures.built
