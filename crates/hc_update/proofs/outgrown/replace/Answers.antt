use Rattle.hc_update.proofs.Alone.{generalised-alone, gone-detail, gone-gate, gone-space, private-may}
use Rattle.hc_update.proofs.outgrown.replace.Goals as goal

pub deprecate-requires-clause-open : goal.deprecate-requires-clause-open
deprecate-requires-clause-open g c = private-may c.args.h.now.view.trail c.args.map c.args.n c.requires.map

pub exchange_field-requires-clause-map : goal.exchange_field-requires-clause-map
exchange_field-requires-clause-map g c = gone-gate c.maps_are_kept.ensures.law c.args.h.now.view c.deprecate.new.h.view c.args.map c.args.n c.args.i c.stands.ensures.heap c.requires.tree c.requires.map c.deprecate.ensures.dies

pub exchange_field-requires-clause-detail : goal.exchange_field-requires-clause-detail
exchange_field-requires-clause-detail g c = gone-detail c.maps_are_kept.ensures.law c.args.h.now.view c.deprecate.new.h.view c.args.map c.args.n c.args.i c.stands.ensures.heap c.requires.tree c.requires.map c.deprecate.ensures.dies c.args.detail c.requires.detail

pub exchange_field-requires-clause-space : goal.exchange_field-requires-clause-space
exchange_field-requires-clause-space g c = gone-space c.maps_are_kept.ensures.law c.args.h.now.view c.deprecate.new.h.view c.args.map c.args.n c.args.i c.stands.ensures.heap c.requires.tree c.requires.map c.deprecate.ensures.dies c.requires.space

pub returns-clause-made : goal.returns-clause-made
returns-clause-made g c =
    let v = c.args.h.now.view in
    let w = c.deprecate.new.h.view in
    let x = c.exchange_field.new.h.view in
    let e = c.exchange_field.ensures in
    generalised-alone c.maps_are_kept.ensures.law v w c.args.map c.args.n c.args.i c.stands.ensures.heap c.requires.tree c.requires.map c.deprecate.ensures.dies c.unused_says_nothing.ensures.law x c.exchange_field.result c.args.detail c.requires.entry
    e.number e.exchanged e.used e.writes e.details e.bits e.opens e.shape e.tree e.heap
