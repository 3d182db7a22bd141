use Rattle.std.proofs.Common.{◌∙◌, sym, arith}
use Rattle.hc_facts.proofs.Facts.{map-there}
use Rattle.hc_facts.proofs.values.class_of_object.Goals as goal

pub returns-clause-form : goal.returns-clause-form
returns-clause-form g c =
    let v = c.args.h.now.view in
    let is = sym c.object_map.ensures.value ∙ c.in-Some.is in
    let there = (map-there c.forms_are_kept.ensures.law v c.stands.ensures.heap c.args.object c.in-Some.map is).0 in
    let most = c.stands.ensures.heap.shape.maps in
    omega (arith, there, most)

pub returns-clause-there : goal.returns-clause-there
returns-clause-there g c =
    let v = c.args.h.now.view in
    let is = sym c.object_map.ensures.value ∙ c.in-Some.is in
    map-there c.forms_are_kept.ensures.law v c.stands.ensures.heap c.args.object c.in-Some.map is
