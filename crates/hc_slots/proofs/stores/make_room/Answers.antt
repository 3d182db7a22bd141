use Rattle.std.proofs.Common.{◌≡◌, ◌+◌, ◌<◌, ◌≤◌, ℕ, ap, sym, subst, arith, IfSome}
use Rattle.std.specs.Prelude.{IsTrue}
use Rattle.hc_layout.specs.Capacity.{cap_of}
use Rattle.hc_layout.specs.declared.words.StoreWord.{StoreWord}
use Rattle.hc_heap.specs.Readings.{store_in, map_in, bits_in}
use Rattle.hc_heap.specs.States.{View, HeapState}
use Rattle.hc_slots.specs.Slots.{AreHandedOut, HasMoved, IsFitted}
use Rattle.hc_slots.proofs.Fitting.{fits-already, need-full}
use Rattle.hc_slots.proofs.Moved.{moved-fits}
use Rattle.hc_slots.proofs.stores.make_room.Goals as goal

pub returns-then-n-store-clause-fitted : goal.returns-then-n-store-clause-fitted
returns-then-n-store-clause-fitted g c =
    let v = c.args.h.now.view in
    let o = c.args.object in
    let read : c.store-store.new.self.view ≡ v = ap (λ (s : HeapState g.row.P.Denot). s.view) c.store-store.ensures.new in
    let room : c.args.n < (store_in v.trail o).capacity = subst (λ (w : StoreWord). c.args.n < w.capacity) c.store-store.ensures.value c.if-n-store.true in
    subst (λ (w : View). IsFitted v w o c.args.n) (sym read) (fits-already v o c.args.n c.requires.out room)

pub move_store-requires : goal.move_store-requires
move_store-requires g c =
    let v = c.args.h.now.view in
    let o = c.args.object in
    let n = c.args.n in
    let read : c.store-store.new.self.view ≡ v = ap (λ (s : HeapState g.row.P.Denot). s.view) c.store-store.ensures.new in
    let least : (store_in v.trail o).capacity ≤ n = subst (λ (w : StoreWord). w.capacity ≤ n) c.store-store.ensures.value c.if-n-store.false in
    let most = c.requires.capacity in
    let full : n ≡ (store_in v.trail o).capacity = omega (arith, least, most) in
    record {
      few = c.requires.few;
      full = subst (λ (w : View). n ≡ (store_in w.trail o).capacity) (sym read) full;
      out = subst (λ (w : View). AreHandedOut w.used.slots (store_in w.trail o)) (sym read) c.requires.out;
      handed = subst (λ (w : View). o < w.used.objects) (sym read) c.requires.handed;
      free = subst (λ (w : View). IfSome (map_in w.trail o) (λ m. IsTrue (bits_in w.trail m).unstable)) (sym read) c.requires.unstable;
      room = subst (λ (w : View). w.used.slots + cap_of (n + 1) ≤ w.shape.slots) (sym read)
          (subst (λ (x : ℕ). v.used.slots + x ≤ v.shape.slots) (need-full n (store_in v.trail o).capacity least) c.requires.room);
    }

pub returns-clause-fitted : goal.returns-clause-fitted
returns-clause-fitted g c =
    let v = c.args.h.now.view in
    let o = c.args.object in
    let n = c.args.n in
    let read : c.store-store.new.self.view ≡ v = ap (λ (s : HeapState g.row.P.Denot). s.view) c.store-store.ensures.new in
    let least : (store_in v.trail o).capacity ≤ n = subst (λ (w : StoreWord). w.capacity ≤ n) c.store-store.ensures.value c.if-n-store.false in
    let moved : HasMoved v c.move_store.new.h.view o n (cap_of (n + 1)) = subst (λ (w : View). HasMoved w c.move_store.new.h.view o n (cap_of (n + 1))) read c.move_store.ensures.moved in
    moved-fits v c.move_store.new.h.view o n (cap_of (n + 1)) (sym (need-full n (store_in v.trail o).capacity least)) moved
