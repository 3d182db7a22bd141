use Rattle.std.proofs.Common.{◌≡◌, ◌∙◌, ◌<◌, ℕ, false, Some, None, Option, refl, ap, sym, subst}
use Rattle.std.specs.Prelude.{IfSome, IsTrue}
use Rattle.hc_value.specs.Field.{is_detail_within}
use Rattle.hc_value.specs.declared.field.Constness.TheVariants.{Const}
use Rattle.hc_layout.specs.declared.shape.Region.TheVariants.{Slots}
use Rattle.hc_layout.specs.declared.words.StoreWord.{StoreWord}
use Rattle.hc_value.specs.declared.field.Detail.{Detail}
use Rattle.hc_value.specs.declared.key.Key.{Key}
use Rattle.hc_value.specs.declared.prop.Kind.{Kind}
use Rattle.hc_heap.specs.Readings.{map_in, store_in}
use Rattle.hc_heap.specs.Kept.{Adds}
use Rattle.hc_heap.specs.States.{View, HeapState, HasRoom}
use Rattle.hc_descs.specs.Entries.{count_of, detail_at, entries_in}
use Rattle.hc_tree.specs.Dying.{OutgrownFor}
use Rattle.hc_tree.specs.Growth.{AskGets, asked_detail, child_need, fitting_child, live_child, marked}
use Rattle.hc_tree.specs.Needs.{HasSpace}
use Rattle.hc_modes.specs.Admitting.{held_detail}
use Rattle.hc_modes.specs.Changes.{key_of}
use Rattle.hc_slots.specs.Slots.{slots_need}
use Rattle.hc_tree.specs.Details.{DetailsAre, Reshapes}
use Rattle.hc_modes.specs.Filling.{FitsAsIs, IsMovedBut}
use Rattle.hc_modes.proofs.Asked.{child-asks}
use Rattle.hc_modes.proofs.Fitting.{may-hold}
use Rattle.hc_modes.proofs.Gets.{details-on}
use Rattle.hc_modes.proofs.Childed.{IsChilded, child-begins, map-same, proto-same, objects-same, open-then, unstable-then, holds-then, child-then, grown-then, out-then, room-then, moved-on, used-on, child-asks-on}
use Rattle.hc_modes.proofs.Known.{known-childed, known-details, known-room}
use Rattle.hc_slots.specs.Cases.{not-both}
use Rattle.hc_modes.proofs.growing.grow_object.Goals as goal

-- The child is known

pub move_to_child-requires : goal.move_to_child-requires
move_to_child-requires g c =
    let v = c.args.h.now.view in
    let w = c.store-store.new.self.view in
    let o = c.args.object in
    let m = c.args.map in
    let n = c.args.n in
    let p = c.args.p in
    let child = c.in-Some.child in
    let first : w ≡ v = ap (λ (s : HeapState g.row.P.Denot). s.view) c.store-store.ensures.new in
    let knows : FitsAsIs v.trail m child n p = subst (λ (x : Option ℕ). IfSome x (λ y. FitsAsIs v.trail m y n p)) c.in-Some.is c.requires.known in
    let d = held_detail v.trail p.held Const in
    let it : IsChilded v w m n child (key_of p) d = subst (λ (x : View). IsChilded v x m n child (key_of p) d) (sym first) (known-childed c.live_is_child.ensures.law v m n child p c.stands.ensures.heap c.requires.tree c.requires.open knows) in
    let test : HasRoom w Slots c.slots_needed.result = c.room.ensures.0 c.if-not-room.false in
    let room : HasRoom v Slots (slots_need n (store_in v.trail o).capacity) =
    subst (λ (s : StoreWord). HasRoom v Slots (slots_need n s.capacity)) c.store-store.ensures.value
    (subst (λ (k : ℕ). HasRoom v Slots k) c.slots_needed.ensures.value
    (subst (λ (x : View). HasRoom x Slots c.slots_needed.result) first test)) in
    record {
      tree = it.tree;
      few = c.requires.few;
      has = map-same c.maps_are_kept.ensures.law c.details_rise.ensures.law c.unused_says_nothing.ensures.law c.linked_are_unstable.ensures.law v w o m n child p d c.stands.ensures.heap it c.requires.open ∙ c.requires.has;
      unstable = unstable-then c.maps_are_kept.ensures.law c.details_rise.ensures.law c.unused_says_nothing.ensures.law c.linked_are_unstable.ensures.law v w o m n child p d c.stands.ensures.heap it c.requires.open;
      «open» = open-then c.maps_are_kept.ensures.law c.details_rise.ensures.law c.unused_says_nothing.ensures.law c.linked_are_unstable.ensures.law v w o m n child p d c.stands.ensures.heap it c.requires.open;
      holds = holds-then c.maps_are_kept.ensures.law c.details_rise.ensures.law c.unused_says_nothing.ensures.law c.linked_are_unstable.ensures.law v w o m n child p d c.stands.ensures.heap it c.requires.open c.requires.holds c.requires.shared;
      shared = proto-same c.maps_are_kept.ensures.law c.details_rise.ensures.law c.unused_says_nothing.ensures.law c.linked_are_unstable.ensures.law v w o m n child p d c.stands.ensures.heap it c.requires.open ∙ c.requires.shared;
      child = child-then c.maps_are_kept.ensures.law c.details_rise.ensures.law c.unused_says_nothing.ensures.law c.linked_are_unstable.ensures.law v w o m n child p d c.stands.ensures.heap it c.requires.open;
      grown = grown-then c.maps_are_kept.ensures.law c.details_rise.ensures.law c.unused_says_nothing.ensures.law c.linked_are_unstable.ensures.law v w o m n child p d c.stands.ensures.heap it c.requires.open
          (may-hold v.trail p.held Const (asked_detail v.trail m (key_of p) d) (child-asks v.trail (live_child v.trail m (key_of p)) (count_of v.trail m) d));
      range = c.requires.range;
      out = out-then c.maps_are_kept.ensures.law c.details_rise.ensures.law c.unused_says_nothing.ensures.law c.linked_are_unstable.ensures.law v w o m n child p d c.stands.ensures.heap it c.requires.open c.requires.out;
      handed = subst (λ (k : ℕ). o < k) (sym (objects-same c.maps_are_kept.ensures.law c.details_rise.ensures.law c.unused_says_nothing.ensures.law c.linked_are_unstable.ensures.law v w o m n child p d c.stands.ensures.heap it c.requires.open)) c.requires.handed;
      room = room-then c.maps_are_kept.ensures.law c.details_rise.ensures.law c.unused_says_nothing.ensures.law c.linked_are_unstable.ensures.law v w o m n child p d c.stands.ensures.heap it c.requires.open room;
    }

pub returns-in-Some-clause-room : goal.returns-in-Some-clause-room
returns-in-Some-clause-room g c =
    let v = c.args.h.now.view in
    let w = c.store-store.new.self.view in
    let o = c.args.object in
    let m = c.args.map in
    let n = c.args.n in
    let p = c.args.p in
    let child = c.in-Some.child in
    let first : w ≡ v = ap (λ (s : HeapState g.row.P.Denot). s.view) c.store-store.ensures.new in
    let knows : FitsAsIs v.trail m child n p = subst (λ (x : Option ℕ). IfSome x (λ y. FitsAsIs v.trail m y n p)) c.in-Some.is c.requires.known in
    let test : HasRoom w Slots c.slots_needed.result = c.room.ensures.0 c.if-not-room.false in
    let room : HasRoom v Slots (slots_need n (store_in v.trail o).capacity) =
    subst (λ (s : StoreWord). HasRoom v Slots (slots_need n s.capacity)) c.store-store.ensures.value
    (subst (λ (k : ℕ). HasRoom v Slots k) c.slots_needed.ensures.value
    (subst (λ (x : View). HasRoom x Slots c.slots_needed.result) first test)) in
    (λ yes. known-room c.live_is_child.ensures.law v m n child p c.stands.ensures.heap c.requires.tree c.requires.open knows o room, λ may. refl)

pub returns-in-Some-clause-moved : goal.returns-in-Some-clause-moved
returns-in-Some-clause-moved g c =
    let v = c.args.h.now.view in
    let w = c.store-store.new.self.view in
    let o = c.args.object in
    let m = c.args.map in
    let n = c.args.n in
    let p = c.args.p in
    let child = c.in-Some.child in
    let first : w ≡ v = ap (λ (s : HeapState g.row.P.Denot). s.view) c.store-store.ensures.new in
    let knows : FitsAsIs v.trail m child n p = subst (λ (x : Option ℕ). IfSome x (λ y. FitsAsIs v.trail m y n p)) c.in-Some.is c.requires.known in
    let d = held_detail v.trail p.held Const in
    let it : IsChilded v w m n child (key_of p) d = subst (λ (x : View). IsChilded v x m n child (key_of p) d) (sym first) (known-childed c.live_is_child.ensures.law v m n child p c.stands.ensures.heap c.requires.tree c.requires.open knows) in
    λ yes. moved-on c.maps_are_kept.ensures.law c.details_rise.ensures.law c.unused_says_nothing.ensures.law c.linked_are_unstable.ensures.law v w o m n child p d c.stands.ensures.heap it c.requires.open c.live_is_child.ensures.law c.requires.tree c.move_to_child.new.h.view c.move_to_child.ensures.moved
    (child-begins c.maps_are_kept.ensures.law c.details_rise.ensures.law c.unused_says_nothing.ensures.law c.linked_are_unstable.ensures.law v w o m n child p d c.stands.ensures.heap it c.requires.open (λ none. absurd (not-both (fitting_child v.trail m (key_of p) d) child none knows.fits)))

pub returns-in-Some-clause-used : goal.returns-in-Some-clause-used
returns-in-Some-clause-used g c =
    let v = c.args.h.now.view in
    let w = c.store-store.new.self.view in
    let o = c.args.object in
    let m = c.args.map in
    let n = c.args.n in
    let p = c.args.p in
    let child = c.in-Some.child in
    let first : w ≡ v = ap (λ (s : HeapState g.row.P.Denot). s.view) c.store-store.ensures.new in
    let knows : FitsAsIs v.trail m child n p = subst (λ (x : Option ℕ). IfSome x (λ y. FitsAsIs v.trail m y n p)) c.in-Some.is c.requires.known in
    let d = held_detail v.trail p.held Const in
    let it : IsChilded v w m n child (key_of p) d = subst (λ (x : View). IsChilded v x m n child (key_of p) d) (sym first) (known-childed c.live_is_child.ensures.law v m n child p c.stands.ensures.heap c.requires.tree c.requires.open knows) in
    λ yes. used-on c.maps_are_kept.ensures.law c.details_rise.ensures.law c.unused_says_nothing.ensures.law c.linked_are_unstable.ensures.law v w o m n child p d c.stands.ensures.heap it c.requires.open c.move_to_child.new.h.view refl c.move_to_child.ensures.used

pub returns-in-Some-clause-asks : goal.returns-in-Some-clause-asks
returns-in-Some-clause-asks g c =
    let v = c.args.h.now.view in
    let w = c.store-store.new.self.view in
    let o = c.args.object in
    let m = c.args.map in
    let n = c.args.n in
    let p = c.args.p in
    let child = c.in-Some.child in
    let first : w ≡ v = ap (λ (s : HeapState g.row.P.Denot). s.view) c.store-store.ensures.new in
    let knows : FitsAsIs v.trail m child n p = subst (λ (x : Option ℕ). IfSome x (λ y. FitsAsIs v.trail m y n p)) c.in-Some.is c.requires.known in
    let d = held_detail v.trail p.held Const in
    let it : IsChilded v w m n child (key_of p) d = subst (λ (x : View). IsChilded v x m n child (key_of p) d) (sym first) (known-childed c.live_is_child.ensures.law v m n child p c.stands.ensures.heap c.requires.tree c.requires.open knows) in
    λ yes. child-asks-on c.maps_are_kept.ensures.law c.details_rise.ensures.law c.unused_says_nothing.ensures.law c.linked_are_unstable.ensures.law v w o m n child p d c.stands.ensures.heap it c.requires.open c.live_is_child.ensures.law c.requires.tree c.move_to_child.new.h.view c.move_to_child.ensures.moved c.move_to_child.ensures.comes c.move_to_child.ensures.details

pub returns-in-Some-clause-details : goal.returns-in-Some-clause-details
returns-in-Some-clause-details g c =
    let v = c.args.h.now.view in
    let w = c.store-store.new.self.view in
    let o = c.args.object in
    let m = c.args.map in
    let n = c.args.n in
    let p = c.args.p in
    let child = c.in-Some.child in
    let first : w ≡ v = ap (λ (s : HeapState g.row.P.Denot). s.view) c.store-store.ensures.new in
    let knows : FitsAsIs v.trail m child n p = subst (λ (x : Option ℕ). IfSome x (λ y. FitsAsIs v.trail m y n p)) c.in-Some.is c.requires.known in
    let had : DetailsAre (AskGets v.trail m (key_of p) (held_detail v.trail p.held Const) v.used.fields) v.trail w.trail =
    subst (λ (x : View). DetailsAre (AskGets v.trail m (key_of p) (held_detail v.trail p.held Const) v.used.fields) v.trail x.trail) (sym first)
    (known-details c.live_is_child.ensures.law v m n child p c.stands.ensures.heap c.requires.tree c.requires.open knows) in
    λ yes. details-on had c.move_to_child.ensures.details

-- The child is found, or made

pub move_to_child-requires-2 : goal.move_to_child-requires-2
move_to_child-requires-2 g c =
    let v = c.args.h.now.view in
    let w = c.child_or_make.new.h.view in
    let o = c.args.object in
    let m = c.args.map in
    let n = c.args.n in
    let p = c.args.p in
    let child = c.in-Ok.child in
    let d = c.detail_for_held-detail.result in
    let first : c.store-store.new.self.view ≡ v = ap (λ (s : HeapState g.row.P.Denot). s.view) c.store-store.ensures.new in
    let read : c.detail_for_held-detail.new.h.view ≡ v = ap (λ (s : HeapState g.row.P.Denot). s.view) c.detail_for_held-detail.ensures.same ∙ first in
    let key : Key = record { name = p.name; kind = c.kind.result; attrs = p.attrs } in
    let same : key ≡ key_of p = ap (λ (k : Kind). let x : Key = record { name = p.name; kind = k; attrs = p.attrs } in x) c.kind.ensures in
    let count : count_of v.trail m ≡ n = ap entries_in c.requires.open in
    let it : IsChilded v w m n child (key_of p) d = subst (λ (k : Key). IsChilded v w m n child k d) same
    (subst (λ (x : ℕ). IsChilded v w m x child key d) count
    (subst (λ (x : View). IsChilded x w m (count_of x.trail m) child key d) read (record {
      writes = c.in-Ok.ensures.writes;
      shape = c.in-Ok.ensures.shape;
      used = c.in-Ok.ensures.used;
      number = c.in-Ok.ensures.number;
      found = λ x e. let f = c.in-Ok.ensures.found x e in let s : child ≡ x = cc in s;
      live = c.in-Ok.ensures.live;
      child = c.in-Ok.ensures.child;
      ends = c.in-Ok.ensures.ends;
      dead = c.in-Ok.ensures.dead;
      marks = c.in-Ok.ensures.marks;
      tree = c.in-Ok.ensures.tree;
      heap = c.in-Ok.ensures.heap;
    }))) in
    let asked : d ≡ held_detail v.trail p.held Const = c.detail_for_held-detail.ensures.detail ∙ ap (λ (y : View). held_detail y.trail p.held Const) first in
    let test : HasRoom c.store-store.new.self.view Slots c.slots_needed.result = c.room.ensures.0 c.if-not-room.false in
    let room : HasRoom v Slots (slots_need n (store_in v.trail o).capacity) =
    subst (λ (s : StoreWord). HasRoom v Slots (slots_need n s.capacity)) c.store-store.ensures.value
    (subst (λ (k : ℕ). HasRoom v Slots k) c.slots_needed.ensures.value
    (subst (λ (x : View). HasRoom x Slots c.slots_needed.result) first test)) in
    record {
      tree = it.tree;
      few = c.requires.few;
      has = map-same c.maps_are_kept.ensures.law c.details_rise.ensures.law c.unused_says_nothing.ensures.law c.linked_are_unstable.ensures.law v w o m n child p d c.stands.ensures.heap it c.requires.open ∙ c.requires.has;
      unstable = unstable-then c.maps_are_kept.ensures.law c.details_rise.ensures.law c.unused_says_nothing.ensures.law c.linked_are_unstable.ensures.law v w o m n child p d c.stands.ensures.heap it c.requires.open;
      «open» = open-then c.maps_are_kept.ensures.law c.details_rise.ensures.law c.unused_says_nothing.ensures.law c.linked_are_unstable.ensures.law v w o m n child p d c.stands.ensures.heap it c.requires.open;
      holds = holds-then c.maps_are_kept.ensures.law c.details_rise.ensures.law c.unused_says_nothing.ensures.law c.linked_are_unstable.ensures.law v w o m n child p d c.stands.ensures.heap it c.requires.open c.requires.holds c.requires.shared;
      shared = proto-same c.maps_are_kept.ensures.law c.details_rise.ensures.law c.unused_says_nothing.ensures.law c.linked_are_unstable.ensures.law v w o m n child p d c.stands.ensures.heap it c.requires.open ∙ c.requires.shared;
      child = child-then c.maps_are_kept.ensures.law c.details_rise.ensures.law c.unused_says_nothing.ensures.law c.linked_are_unstable.ensures.law v w o m n child p d c.stands.ensures.heap it c.requires.open;
      grown = grown-then c.maps_are_kept.ensures.law c.details_rise.ensures.law c.unused_says_nothing.ensures.law c.linked_are_unstable.ensures.law v w o m n child p d c.stands.ensures.heap it c.requires.open
          (may-hold v.trail p.held Const (asked_detail v.trail m (key_of p) d) (subst (λ (e : Detail). IsTrue (is_detail_within e (asked_detail v.trail m (key_of p) d))) asked (child-asks v.trail (live_child v.trail m (key_of p)) (count_of v.trail m) d)));
      range = c.requires.range;
      out = out-then c.maps_are_kept.ensures.law c.details_rise.ensures.law c.unused_says_nothing.ensures.law c.linked_are_unstable.ensures.law v w o m n child p d c.stands.ensures.heap it c.requires.open c.requires.out;
      handed = subst (λ (k : ℕ). o < k) (sym (objects-same c.maps_are_kept.ensures.law c.details_rise.ensures.law c.unused_says_nothing.ensures.law c.linked_are_unstable.ensures.law v w o m n child p d c.stands.ensures.heap it c.requires.open)) c.requires.handed;
      room = room-then c.maps_are_kept.ensures.law c.details_rise.ensures.law c.unused_says_nothing.ensures.law c.linked_are_unstable.ensures.law v w o m n child p d c.stands.ensures.heap it c.requires.open room;
    }

pub returns-clause-moved : goal.returns-clause-moved
returns-clause-moved g c =
    let v = c.args.h.now.view in
    let w = c.child_or_make.new.h.view in
    let o = c.args.object in
    let m = c.args.map in
    let n = c.args.n in
    let p = c.args.p in
    let child = c.in-Ok.child in
    let d = c.detail_for_held-detail.result in
    let first : c.store-store.new.self.view ≡ v = ap (λ (s : HeapState g.row.P.Denot). s.view) c.store-store.ensures.new in
    let read : c.detail_for_held-detail.new.h.view ≡ v = ap (λ (s : HeapState g.row.P.Denot). s.view) c.detail_for_held-detail.ensures.same ∙ first in
    let key : Key = record { name = p.name; kind = c.kind.result; attrs = p.attrs } in
    let same : key ≡ key_of p = ap (λ (k : Kind). let x : Key = record { name = p.name; kind = k; attrs = p.attrs } in x) c.kind.ensures in
    let count : count_of v.trail m ≡ n = ap entries_in c.requires.open in
    let it : IsChilded v w m n child (key_of p) d = subst (λ (k : Key). IsChilded v w m n child k d) same
    (subst (λ (x : ℕ). IsChilded v w m x child key d) count
    (subst (λ (x : View). IsChilded x w m (count_of x.trail m) child key d) read (record {
      writes = c.in-Ok.ensures.writes;
      shape = c.in-Ok.ensures.shape;
      used = c.in-Ok.ensures.used;
      number = c.in-Ok.ensures.number;
      found = λ x e. let f = c.in-Ok.ensures.found x e in let s : child ≡ x = cc in s;
      live = c.in-Ok.ensures.live;
      child = c.in-Ok.ensures.child;
      ends = c.in-Ok.ensures.ends;
      dead = c.in-Ok.ensures.dead;
      marks = c.in-Ok.ensures.marks;
      tree = c.in-Ok.ensures.tree;
      heap = c.in-Ok.ensures.heap;
    }))) in
    let begins : fitting_child v.trail m (key_of p) d ≡ None → Adds (Reshapes v.used (OutgrownFor v.trail m (key_of p) d) (AskGets v.trail m (key_of p) d v.used.fields)) (marked v.trail m) w.trail =
    subst (λ (k : Key). fitting_child v.trail m k d ≡ None → Adds (Reshapes v.used (OutgrownFor v.trail m k d) (AskGets v.trail m k d v.used.fields)) (marked v.trail m) w.trail) same
    (subst (λ (x : View). fitting_child x.trail m key d ≡ None → Adds (Reshapes x.used (OutgrownFor x.trail m key d) (AskGets x.trail m key d x.used.fields)) (marked x.trail m) w.trail) read c.in-Ok.ensures.begins) in
    let asked : d ≡ held_detail v.trail p.held Const = c.detail_for_held-detail.ensures.detail ∙ ap (λ (y : View). held_detail y.trail p.held Const) first in
    λ yes. subst (λ (e : Detail). IsMovedBut (OutgrownFor v.trail m (key_of p) e) v c.move_to_child-2.new.h.view o m n p) asked
    (moved-on c.maps_are_kept.ensures.law c.details_rise.ensures.law c.unused_says_nothing.ensures.law c.linked_are_unstable.ensures.law v w o m n child p d c.stands.ensures.heap it c.requires.open c.live_is_child.ensures.law c.requires.tree c.move_to_child-2.new.h.view c.move_to_child-2.ensures.moved
    (child-begins c.maps_are_kept.ensures.law c.details_rise.ensures.law c.unused_says_nothing.ensures.law c.linked_are_unstable.ensures.law v w o m n child p d c.stands.ensures.heap it c.requires.open begins))

pub returns-clause-used : goal.returns-clause-used
returns-clause-used g c =
    let v = c.args.h.now.view in
    let w = c.child_or_make.new.h.view in
    let o = c.args.object in
    let m = c.args.map in
    let n = c.args.n in
    let p = c.args.p in
    let child = c.in-Ok.child in
    let d = c.detail_for_held-detail.result in
    let first : c.store-store.new.self.view ≡ v = ap (λ (s : HeapState g.row.P.Denot). s.view) c.store-store.ensures.new in
    let read : c.detail_for_held-detail.new.h.view ≡ v = ap (λ (s : HeapState g.row.P.Denot). s.view) c.detail_for_held-detail.ensures.same ∙ first in
    let key : Key = record { name = p.name; kind = c.kind.result; attrs = p.attrs } in
    let same : key ≡ key_of p = ap (λ (k : Kind). let x : Key = record { name = p.name; kind = k; attrs = p.attrs } in x) c.kind.ensures in
    let count : count_of v.trail m ≡ n = ap entries_in c.requires.open in
    let it : IsChilded v w m n child (key_of p) d = subst (λ (k : Key). IsChilded v w m n child k d) same
    (subst (λ (x : ℕ). IsChilded v w m x child key d) count
    (subst (λ (x : View). IsChilded x w m (count_of x.trail m) child key d) read (record {
      writes = c.in-Ok.ensures.writes;
      shape = c.in-Ok.ensures.shape;
      used = c.in-Ok.ensures.used;
      number = c.in-Ok.ensures.number;
      found = λ x e. let f = c.in-Ok.ensures.found x e in let s : child ≡ x = cc in s;
      live = c.in-Ok.ensures.live;
      child = c.in-Ok.ensures.child;
      ends = c.in-Ok.ensures.ends;
      dead = c.in-Ok.ensures.dead;
      marks = c.in-Ok.ensures.marks;
      tree = c.in-Ok.ensures.tree;
      heap = c.in-Ok.ensures.heap;
    }))) in
    let asked : d ≡ held_detail v.trail p.held Const = c.detail_for_held-detail.ensures.detail ∙ ap (λ (y : View). held_detail y.trail p.held Const) first in
    λ yes. used-on c.maps_are_kept.ensures.law c.details_rise.ensures.law c.unused_says_nothing.ensures.law c.linked_are_unstable.ensures.law v w o m n child p d c.stands.ensures.heap it c.requires.open c.move_to_child-2.new.h.view asked c.move_to_child-2.ensures.used

pub returns-clause-asks : goal.returns-clause-asks
returns-clause-asks g c =
    let v = c.args.h.now.view in
    let w = c.child_or_make.new.h.view in
    let o = c.args.object in
    let m = c.args.map in
    let n = c.args.n in
    let p = c.args.p in
    let child = c.in-Ok.child in
    let d = c.detail_for_held-detail.result in
    let first : c.store-store.new.self.view ≡ v = ap (λ (s : HeapState g.row.P.Denot). s.view) c.store-store.ensures.new in
    let read : c.detail_for_held-detail.new.h.view ≡ v = ap (λ (s : HeapState g.row.P.Denot). s.view) c.detail_for_held-detail.ensures.same ∙ first in
    let key : Key = record { name = p.name; kind = c.kind.result; attrs = p.attrs } in
    let same : key ≡ key_of p = ap (λ (k : Kind). let x : Key = record { name = p.name; kind = k; attrs = p.attrs } in x) c.kind.ensures in
    let count : count_of v.trail m ≡ n = ap entries_in c.requires.open in
    let it : IsChilded v w m n child (key_of p) d = subst (λ (k : Key). IsChilded v w m n child k d) same
    (subst (λ (x : ℕ). IsChilded v w m x child key d) count
    (subst (λ (x : View). IsChilded x w m (count_of x.trail m) child key d) read (record {
      writes = c.in-Ok.ensures.writes;
      shape = c.in-Ok.ensures.shape;
      used = c.in-Ok.ensures.used;
      number = c.in-Ok.ensures.number;
      found = λ x e. let f = c.in-Ok.ensures.found x e in let s : child ≡ x = cc in s;
      live = c.in-Ok.ensures.live;
      child = c.in-Ok.ensures.child;
      ends = c.in-Ok.ensures.ends;
      dead = c.in-Ok.ensures.dead;
      marks = c.in-Ok.ensures.marks;
      tree = c.in-Ok.ensures.tree;
      heap = c.in-Ok.ensures.heap;
    }))) in
    let x = c.move_to_child-2.new.h.view in
    let asked : d ≡ held_detail v.trail p.held Const = c.detail_for_held-detail.ensures.detail ∙ ap (λ (y : View). held_detail y.trail p.held Const) first in
    λ yes. subst (λ (e : Detail). (k : ℕ) (y : Detail) → map_in x.trail o ≡ Some k → detail_at x.trail k n ≡ Some y → IsTrue (is_detail_within e y)) asked
    (child-asks-on c.maps_are_kept.ensures.law c.details_rise.ensures.law c.unused_says_nothing.ensures.law c.linked_are_unstable.ensures.law v w o m n child p d c.stands.ensures.heap it c.requires.open c.live_is_child.ensures.law c.requires.tree x c.move_to_child-2.ensures.moved c.move_to_child-2.ensures.comes c.move_to_child-2.ensures.details)

pub returns-clause-details : goal.returns-clause-details
returns-clause-details g c =
    let v = c.args.h.now.view in
    let w = c.child_or_make.new.h.view in
    let m = c.args.map in
    let n = c.args.n in
    let p = c.args.p in
    let d = c.detail_for_held-detail.result in
    let first : c.store-store.new.self.view ≡ v = ap (λ (s : HeapState g.row.P.Denot). s.view) c.store-store.ensures.new in
    let read : c.detail_for_held-detail.new.h.view ≡ v = ap (λ (s : HeapState g.row.P.Denot). s.view) c.detail_for_held-detail.ensures.same ∙ first in
    let key : Key = record { name = p.name; kind = c.kind.result; attrs = p.attrs } in
    let same : key ≡ key_of p = ap (λ (k : Kind). let x : Key = record { name = p.name; kind = k; attrs = p.attrs } in x) c.kind.ensures in
    let count : count_of v.trail m ≡ n = ap entries_in c.requires.open in
    let asked : d ≡ held_detail v.trail p.held Const = c.detail_for_held-detail.ensures.detail ∙ ap (λ (y : View). held_detail y.trail p.held Const) first in
    let got : DetailsAre (AskGets v.trail m (key_of p) (held_detail v.trail p.held Const) v.used.fields) v.trail w.trail =
    subst (λ (e : Detail). DetailsAre (AskGets v.trail m (key_of p) e v.used.fields) v.trail w.trail) asked
    (subst (λ (k : Key). DetailsAre (AskGets v.trail m k d v.used.fields) v.trail w.trail) same
    (subst (λ (y : View). DetailsAre (AskGets y.trail m key d y.used.fields) y.trail w.trail) read c.in-Ok.ensures.details)) in
    λ yes. details-on got c.move_to_child-2.ensures.details

no-yes : {P : Type 0} → IsTrue false → P
no-yes yes-false = let n : ⊥ = cc in absurd n

pub returns-in_default-child_or_make-clause-room : goal.returns-in_default-child_or_make-clause-room
returns-in_default-child_or_make-clause-room g c =
    let v = c.args.h.now.view in
    let m = c.args.map in
    let n = c.args.n in
    let p = c.args.p in
    let d = c.detail_for_held-detail.result in
    let first : c.store-store.new.self.view ≡ v = ap (λ (s : HeapState g.row.P.Denot). s.view) c.store-store.ensures.new in
    let read : c.detail_for_held-detail.new.h.view ≡ v = ap (λ (s : HeapState g.row.P.Denot). s.view) c.detail_for_held-detail.ensures.same ∙ first in
    let key : Key = record { name = p.name; kind = c.kind.result; attrs = p.attrs } in
    let same : key ≡ key_of p = ap (λ (k : Kind). let x : Key = record { name = p.name; kind = k; attrs = p.attrs } in x) c.kind.ensures in
    let count : count_of v.trail m ≡ n = ap entries_in c.requires.open in
    let asked : d ≡ held_detail v.trail p.held Const = c.detail_for_held-detail.ensures.detail ∙ ap (λ (y : View). held_detail y.trail p.held Const) first in (
      λ yes-false. no-yes yes-false,
      λ may. absurd (c.in_default-child_or_make.ensures.space
          (subst (λ (x : View). HasSpace x (child_need (fitting_child x.trail m key d) (count_of x.trail m))) (sym read)
          (subst (λ (i : ℕ). HasSpace v (child_need (fitting_child v.trail m key d) i)) (sym count)
          (subst (λ (k : Key). HasSpace v (child_need (fitting_child v.trail m k d) n)) (sym same)
          (subst (λ (e : Detail). HasSpace v (child_need (fitting_child v.trail m (key_of p) e) n)) (sym asked) may.child))))),
    )
