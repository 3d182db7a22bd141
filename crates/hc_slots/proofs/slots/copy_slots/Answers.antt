use Rattle.std.proofs.Common.{◌≡◌, ◌+◌, ◌<◌, ◌∙◌, ◌∷◌, ap, sym, subst, rules, arith, refl}
use Rattle.hc_layout.specs.declared.shape.Region.TheVariants.{Slots}
use Rattle.hc_heap.specs.Writes.{Trail, Slot}
use Rattle.hc_heap.specs.Frames.{goes-none, goes-on}
use Rattle.hc_heap.specs.States.{View, HeapState, with_write}
use Rattle.hc_slots.specs.Slots.{AreCopied}
use Rattle.hc_slots.proofs.Copying.{copied-none, copied-more, with_copy, view-more}
use Rattle.hc_slots.proofs.slots.copy_slots.Goals as goal

pub loop-k-init : goal.loop-k-init
loop-k-init g c = record {
  view = refl;
  copied = copied-none c.args.h.now.view.trail c.args.from c.args.upto;
  heap = c.stands.ensures.heap;
  goes = goes-none c.args.h.now.desk;
  went = search rules;
}

pub overflow_add-upto : goal.overflow_add-upto
overflow_add-upto g c =
    let most = c.stands.ensures.heap.most Slots in
    let shape = c.stands.ensures.heap.shape in
    omega arith

pub loop-k-preserved : goal.loop-k-preserved
loop-k-preserved g c =
    let v = c.args.h.now.view in
    let k = c.loop-k.k in
    let now = c.loop-k.h.view in
    let still : c.slot-word.new.self.view ≡ now = ap (λ (s : HeapState g.row.P.Denot). s.view) c.slot-word.ensures.new in
    let last : c.set_slot.new.self.view ≡ with_write now (Slot (c.args.upto + k) c.slot-word.result) =
    c.set_slot.ensures.view ∙ ap (λ (w : View). with_write w (Slot (c.args.upto + k) c.slot-word.result)) still in
    let is : c.set_slot.new.self.view.trail ≡ with_copy now.trail c.args.from c.args.upto k =
    ap (λ (w : View). w.trail) last ∙ ap (λ x. let t : Trail = Slot (c.args.upto + k) x ∷ now.trail in t) c.slot-word.ensures.value in
    let within : c.args.from + k < c.args.upto = omega arith in
    let on = g.met.P.Pace.goes_on in
    record {
      view = view-more v now c.set_slot.new.self.view (Slot (c.args.upto + k) c.slot-word.result) c.loop-k.invariant.view last;
      copied = subst (λ (t : Trail). AreCopied v.trail t c.args.from c.args.upto (k + 1)) (sym is) (copied-more v.trail now.trail c.args.from c.args.upto k c.loop-k.invariant.copied within);
      heap = c.set_slot.ensures.heap;
      goes = goes-on c.args.h.now.desk c.loop-k.h.desk c.set_slot.new.self.desk c.loop-k.invariant.goes
          (goes-on c.loop-k.h.desk c.slot-word.new.self.desk c.set_slot.new.self.desk c.slot-word.ensures.goes c.set_slot.ensures.goes);
      went = on c.args.h.now.pace c.loop-k.h.pace c.set_slot.new.self.pace c.args.h.now.desk.trail c.loop-k.h.desk.trail c.set_slot.new.self.desk.trail c.loop-k.invariant.went
          (on c.loop-k.h.pace c.slot-word.new.self.pace c.set_slot.new.self.pace c.loop-k.h.desk.trail c.slot-word.new.self.desk.trail c.set_slot.new.self.desk.trail c.slot-word.ensures.went c.set_slot.ensures.went);
    }
