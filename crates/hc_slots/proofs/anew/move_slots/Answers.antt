use Rattle.std.proofs.Common.{rules}
use Rattle.hc_heap.specs.Frames.{goes-none, goes-on}
use Rattle.hc_slots.proofs.Rewritten.{moved-more, moved-none, next-fits, next-holds, next-key, next-open, next-out, next-within}
use Rattle.hc_slots.proofs.anew.move_slots.Goals as goal

pub loop-k-init : goal.loop-k-init
loop-k-init g c = record {
  moved = moved-none c.args.h.now.view c.args.object c.args.map c.args.other c.stands.ensures.heap;
  goes = goes-none c.args.h.now.desk;
  went = search rules;
}

pub move_slot-requires : goal.move_slot-requires
move_slot-requires g c =
    let v = c.args.h.now.view in
    let w = c.loop-k.h.view in
    let o = c.args.object in
    let m = c.args.map in
    let x = c.args.other in
    let k = c.loop-k.k in
    let lt = c.loop-k-test.true in
    let so_far = c.loop-k.invariant.moved in
    record {
      map = next-open v w o m x k so_far m c.args.n lt c.requires.map;
      other = next-open v w o m x k so_far x c.args.n lt c.requires.other;
      key = next-key v w o m x k so_far (c.requires.keys k lt);
      holds = next-holds v w o m x k so_far (c.requires.holds k lt);
      within = next-within v w o m x k so_far c.args.n lt c.requires.within;
      out = next-out v w o m x k so_far c.requires.out;
      fits = next-fits v w o m x k so_far (c.requires.fits k lt);
    }

pub loop-k-preserved : goal.loop-k-preserved
loop-k-preserved g c =
    let on = g.met.P.Pace.goes_on in
    record {
      moved = moved-more c.args.h.now.view c.loop-k.h.view c.args.object c.args.map c.args.other c.loop-k.k c.loop-k.invariant.moved c.move_slot.new.h.view c.move_slot.ensures.moved;
      goes = goes-on c.args.h.now.desk c.loop-k.h.desk c.move_slot.new.h.desk c.loop-k.invariant.goes c.move_slot.ensures.goes;
      went = on c.args.h.now.pace c.loop-k.h.pace c.move_slot.new.h.pace c.args.h.now.desk.trail c.loop-k.h.desk.trail c.move_slot.new.h.desk.trail c.loop-k.invariant.went c.move_slot.ensures.went;
    }
