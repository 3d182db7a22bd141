use Rattle.std.proofs.Common.{◌∙◌, ap, sym, subst, arith, ◌<◌}
use Rattle.hc_heap.specs.Writes.{Owner}
use Rattle.hc_heap.specs.Lawful.{AllWithin, LawfulDetail}
use Rattle.hc_heap.specs.States.{View, with_write}
use Rattle.hc_fields.proofs.Fresh.{new-field, map-in-range, new-detail}
use Rattle.hc_fields.proofs.cells.new_field.Goals as goal

pub set_field_owner-requires-clause-lawful : goal.set_field_owner-requires-clause-lawful
set_field_owner-requires-clause-lawful g c =
    let first = ap (λ s. s.view) c.fresh-field.ensures.new in
    let new = new-field c.unused_says_nothing.ensures.law c.args.h.now.view.used c.fresh-field.new.self.view.trail c.fresh-field.result c.fresh-field.ensures.unused (omega arith) in
    record {
      unwritten = new.owner;
      there = subst (λ (w : View). c.args.owner < w.shape.maps) (sym first) (map-in-range c.args.h.now.view c.args.owner c.stands.ensures.heap c.requires.handed);
    }

pub set_detail-requires-clause-lawful : goal.set_detail-requires-clause-lawful
set_detail-requires-clause-lawful g c =
    let v = c.args.h.now.view in
    let f = c.fresh-field.result in
    let first = ap (λ s. s.view) c.fresh-field.ensures.new in
    let second = c.set_field_owner.ensures.view ∙ ap (λ (w : View). with_write w (Owner f c.args.owner)) first in
    let new = new-field c.unused_says_nothing.ensures.law v.used v.trail f (subst (λ (w : View). AllWithin v.used w.trail) first c.fresh-field.ensures.unused) (omega arith) in
    subst (λ (w : View). LawfulDetail w.shape w.trail f c.args.detail) (sym second) (new-detail v.shape v.trail f c.args.owner c.args.detail new c.requires.form c.requires.there)
