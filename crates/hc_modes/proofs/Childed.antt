-- The child of an object's map is there, before the object comes to it.
use Rattle.std.proofs.Common.{◌≡◌, ◌≢◌, ◌⊎◌, ℕ, zero, suc, ◌+◌, ◌<◌, ◌≤◌, Bool, true, false, cond, List, [], ◌∷◌, ◌++◌, Option, Some, None, refl, sym, ap, ◌∙◌, subst, arith, inl, inr, ⊎_elim}
use Rattle.std.specs.Prelude.{IsSomeAnd, IsTrue}
use Rattle.hc_layout.specs.declared.shape.Shape.{Shape}
use Rattle.hc_layout.specs.declared.shape.Region.TheVariants.{Slots}
use Rattle.hc_layout.specs.declared.words.GateWord.{GateWord}
use Rattle.hc_layout.specs.declared.words.StoreWord.{StoreWord}
use Rattle.hc_value.specs.declared.key.Key.{Key}
use Rattle.hc_value.specs.declared.prop.Prop.{Prop}
use Rattle.hc_heap.specs.Writes.{Trail, Write}
use Rattle.hc_heap.specs.Readings.{gate_in, parent_in, bits_in, detail_in, map_in, owner_in, root_in, store_in, slot_in}
use Rattle.hc_heap.specs.Lawful.{Lawful, HoldsEntries, word_from}
use Rattle.hc_heap.specs.Kept.{Adds, DetailsRise, UnusedSaysNothing}
use Rattle.hc_heap.specs.Frames.{adds-wider, same-after, goes-on-of}
use Rattle.hc_heap.specs.States.{View, IsHeap, HasRoom}
use Rattle.hc_links.specs.Chains.{links_in, newest_of}
use Rattle.hc_links.specs.Laws.{LinkedAreUnstable}
use Rattle.hc_descs.specs.Entries.{count_of, detail_at, detail_of, field_at}
use Rattle.hc_value.specs.Field.{is_detail_within}
use Rattle.hc_value.specs.declared.field.Constness.TheVariants.{Const}
use Rattle.hc_value.specs.declared.field.Detail.{Detail}
use Rattle.hc_tree.specs.Details.{NoMap, Reshapes, joins_in_place}
use Rattle.hc_tree.specs.Dying.{HaveDied, LiveIsChild, OutgrownFor}
use Rattle.hc_tree.specs.Tree.{IsTree, IsChildFor, gate_with}
use Rattle.hc_tree.specs.Walking.{above, ancestor, parent_of}
use Rattle.hc_tree.specs.Kept.{MapsAreKept}
use Rattle.hc_tree.specs.Needs.{with_need}
use Rattle.hc_tree.specs.Growth.{AskGets, EndsWith, asked_detail, child_need, fit_of, fitting_child, live_of, live_child, marked}
use Rattle.hc_slots.specs.Meaning.{MayHold, slot_word}
use Rattle.hc_slots.specs.Fast.{IsFast}
use Rattle.hc_slots.specs.Slots.{IsIn, Owns, AreHandedOut, slots_need}
use Rattle.hc_modes.specs.Rest.{IsLinkedOrDead}
use Rattle.hc_modes.proofs.Marking.{marked-already}
use Rattle.hc_modes.specs.Changes.{WordsStay, ChangedBut, OpensNoRoot, key_of}
use Rattle.hc_modes.specs.Admitting.{IsGrownBy, held_detail}
use Rattle.hc_modes.specs.Filling.{IsMovedBut, with_growth, with_slots}
use Rattle.hc_slots.specs.Cases.{some-and, some-of, not-both, some-is}
use Rattle.hc_modes.proofs.Asked.{child-asks}
use Rattle.hc_modes.proofs.Sound.{is-later}
use Rattle.hc_modes.proofs.Sparing.{live-stays}
use Rattle.hc_modes.proofs.Staying.{IsLater, later, fits-still}
use Rattle.hc_modes.proofs.Found.{reshapes-touches, map-grown, proto-grown, store-grown, slot-grown}
use Rattle.hc_modes.proofs.Steps.{child-no-root, grown-child, reshapes-none, reshapes-one}
use Rattle.hc_modes.proofs.Touching.{changed-on}

-- the live child of a map for a key was found, or one was made
pub record IsChilded (v w : View) (m n c : ℕ) (key : Key) (d : Detail) : Type 0 where
  pub writes : Adds (Reshapes v.used (OutgrownFor v.trail m key d) (AskGets v.trail m key d v.used.fields)) v.trail w.trail
  pub shape : w.shape ≡ v.shape
  pub used : w.used ≡ with_need (child_need (fitting_child v.trail m key d) n) v.used
  pub number : fitting_child v.trail m key d ≡ None → c ≡ v.used.maps
  pub found : (x : ℕ) → fitting_child v.trail m key d ≡ Some x → c ≡ x
  pub live : live_child w.trail m key ≡ Some c
  pub child : IsSomeAnd (gate_in w.trail m) (λ g. IsChildFor w.trail m g c key)
  pub ends : EndsWith w.trail c n key (asked_detail v.trail m key d)
  pub dead : HaveDied (OutgrownFor v.trail m key d) v.trail w.trail
  pub marks : (x : ℕ) → (bits_in v.trail x).unstable ≡ false → IsTrue (bits_in w.trail x).unstable → (x ≡ m) ⊎ (OutgrownFor v.trail m key d x × IsTrue (bits_in w.trail x).deprecated)
  pub tree : IsTree w.trail
  pub heap : IsHeap w

-- an object's map is made unstable first of all
pub record BeginsMarked (old new : Trail) (m : ℕ) : Type 0 where
  pub more : List Write
  pub is : new ≡ more ++ marked old m

pub append-assoc : (a b : List Write) (c : Trail) → (a ++ b) ++ c ≡ a ++ (b ++ c)
append-assoc [] b c = refl
append-assoc (x ∷ xs) b c = ap (λ (t : Trail). x ∷ t) (append-assoc xs b c)

parent-some : (o : Option (Option ℕ)) (c : ℕ) → parent_of o ≡ Some c → o ≡ Some (Some c)
parent-some (Some p) c is = ap (λ (q : Option ℕ). Some q) is
parent-some None c is = let n : None ≡ Some c = is in let f : ⊥ = cc in absurd f

-- a child that fits is the live one
pub fit-live : (t : Trail) (l : Option ℕ) (x n : ℕ) (d : Detail) → fit_of t l n d ≡ Some x → l ≡ Some x
fit-live t None x n d is = let e : None ≡ Some x = is in let f : ⊥ = cc in absurd f
fit-live t (Some c) x n d is = by (joins_in_place (detail_at t c n) (Some d)) is
  where
    by : (b : Bool) → cond b (Some c) None ≡ Some x → Some c ≡ Some x
    by true e = e
    by false e = let f : ⊥ = cc in absurd f

-- a map that stands under a child isn't private
pub under-shared : (t : Trail) (c d x : ℕ) (g : GateWord) → IsTree t → (p : ℕ) → parent_in t c ≡ Some (Some p) → ancestor t d x ≡ Some c → gate_in t x ≡ Some g → g.is_private ≡ false
under-shared t c zero x g tree p up is gate = not-private g.is_private refl
  where
    same : x ≡ c
    same = some-is x c is

    not-private : (b : Bool) → g.is_private ≡ b → g.is_private ≡ false
    not-private false e = e
    not-private true e = let none : parent_in t x ≡ Some None = (tree.maps x g gate).alone e in let n : Some (Some p) ≡ Some None = sym up ∙ (ap (parent_in t) (sym same) ∙ none) in let f : ⊥ = cc in absurd f
under-shared t c (suc d) x g tree p up is gate = not-private g.is_private refl
  where
    above-none : (k : ℕ) → parent_in t x ≡ Some None → ancestor t (suc k) x ≡ None
    above-none zero e = ap parent_of e
    above-none (suc k) e = ap (above t) (above-none k e)

    not-private : (b : Bool) → g.is_private ≡ b → g.is_private ≡ false
    not-private false e = e
    not-private true e = let n : None ≡ Some c = sym (above-none d ((tree.maps x g gate).alone e)) ∙ is in let f : ⊥ = cc in absurd f

slots-by : (l : Option ℕ) (n : ℕ) (s : Shape) → (with_need (child_need l n) s).slots ≡ s.slots
slots-by (Some c) n s = omega arith
slots-by None n s = omega arith

-- a map that has a live child has a link
linked-by : LinkedAreUnstable → (s : Shape) (t : Trail) (m c : ℕ) (key : Key) → Lawful s t → live_child t m key ≡ Some c → (ls : List ℕ) → links_in t m ≡ ls → IsTrue (bits_in t m).unstable
linked-by linked s t m c key lawful live [] e =
    let none : live_child t m key ≡ None = ap (λ (ls : List ℕ). live_of t (newest_of t ls key)) e in
    absurd (not-both (live_child t m key) c none live)
linked-by linked s t m c key lawful live (l ∷ ls) e = linked s t m l ls lawful e

module _ (maps : MapsAreKept) (details : DetailsRise) (unused : UnusedSaysNothing) (linked : LinkedAreUnstable) (v w : View) (o m n c : ℕ) (p : Prop) (d : Detail) (heap : IsHeap v) (it : IsChilded v w m n c (key_of p) d) (is_open : gate_in v.trail m ≡ Some (gate_with n false)) where
  lawful-then : Lawful v.shape w.trail
  lawful-then = subst (λ (s : Shape). Lawful s w.trail) it.shape it.heap.lawful

  abbrev Dies : ℕ → Type 0
  Dies = OutgrownFor v.trail m (key_of p) d

  abbrev Gets : ℕ → Detail → Type 0
  Gets = AskGets v.trail m (key_of p) d v.used.fields

  after : IsLater v.trail w.trail
  after = later maps details v.shape v.trail w.trail heap.lawful (goes-on-of v.shape it.writes lawful-then)

  pub map-same : map_in w.trail o ≡ map_in v.trail o
  map-same = same-after (λ (t : Trail). map_in t o) (map-grown v.used Dies Gets o) it.writes

  pub store-same : store_in w.trail o ≡ store_in v.trail o
  store-same = same-after (λ (t : Trail). store_in t o) (store-grown v.used Dies Gets o) it.writes

  slot-same : (s : ℕ) → slot_in w.trail s ≡ slot_in v.trail s
  slot-same s = same-after (λ (t : Trail). slot_in t s) (slot-grown v.used Dies Gets s) it.writes

  pub proto-same : (root_in w.trail o).is_proto ≡ (root_in v.trail o).is_proto
  proto-same = same-after (λ (t : Trail). (root_in t o).is_proto) (proto-grown v.used Dies Gets o) it.writes

  pub slots-same : w.used.slots ≡ v.used.slots
  slots-same = ap (λ (s : Shape). s.slots) it.used ∙ slots-by (fitting_child v.trail m (key_of p) d) n v.used

  pub objects-same : w.used.objects ≡ v.used.objects
  objects-same = ap (λ (s : Shape). s.objects) it.used

  word-by : (first : Option ℕ) (k : ℕ) → word_from w.trail first k ≡ word_from v.trail first k
  word-by (Some x) k = slot-same (x + k)
  word-by None k = refl

  word-same : (k : ℕ) → slot_word w.trail o k ≡ slot_word v.trail o k
  word-same k = ap (λ (x : StoreWord). word_from w.trail x.first k) store-same ∙ word-by (store_in v.trail o).first k

  pub open-then : gate_in w.trail m ≡ Some (gate_with n false)
  open-then = after.maps.written.gate m (gate_with n false) is_open

  pub unstable-then : IsTrue (bits_in w.trail m).unstable
  unstable-then = linked-by linked w.shape w.trail m c (key_of p) it.heap.lawful it.live (links_in w.trail m) refl

  its-child : IsChildFor w.trail m (gate_with n false) c (key_of p)
  its-child = subst (λ (g : Option GateWord). IsSomeAnd g (λ y. IsChildFor w.trail m y c (key_of p))) open-then it.child

  pub child-then : gate_in w.trail c ≡ Some (gate_with (n + 1) false)
  child-then = its-child.gate

  -- the writes begin with the mark
  pub child-begins : (fitting_child v.trail m (key_of p) d ≡ None → Adds (Reshapes v.used (OutgrownFor v.trail m (key_of p) d) (AskGets v.trail m (key_of p) d v.used.fields)) (marked v.trail m) w.trail) → BeginsMarked v.trail w.trail m
  child-begins made = by (fitting_child v.trail m (key_of p) d) refl
    where
      by : (l : Option ℕ) → fitting_child v.trail m (key_of p) d ≡ l → BeginsMarked v.trail w.trail m
      by None e = let adds = made e in record { more = adds.more; is = adds.is }
      by (Some x) e = record {
        more = it.writes.more;
        is = it.writes.is ∙ ap (λ (t : Trail). it.writes.more ++ t) (sym (marked-already v.trail m (linked-by linked v.shape v.trail m x (key_of p) heap.lawful (fit-live v.trail (live_child v.trail m (key_of p)) x (count_of v.trail m) d e) (links_in v.trail m) refl)));
      }

  pub holds-then : HoldsEntries v.trail o m (gate_with n false) → (root_in v.trail o).is_proto ≡ false → HoldsEntries w.trail o m (gate_with n false)
  holds-then holds shared =
      let stay : WordsStay v.trail w.trail o = record { map = map-same; store = store-same; slots = λ s owns. slot-same s; proto = proto-same } in
      let fast : IsFast v.trail o m (gate_with n false) = record { is_open = is_open; holds = holds; private = sym shared } in
      (fits-still v.trail w.trail after o m (gate_with n false) stay fast).holds

  pub grown-then : MayHold (asked_detail v.trail m (key_of p) d).rep p.held → IsGrownBy w.trail m c n p
  grown-then fits =
      let e = asked_detail v.trail m (key_of p) d in
      let field = some-and (field_at w.trail c n) (λ f. (owner_in w.trail f ≡ Some c) × (detail_in w.trail f ≡ Some e)) it.ends.field in
      record {
        detail = e;
        fits = fits;
        grown = grown-child w.trail m c (gate_with n false) (key_of p) e open-then it.child it.ends;
      }

  pub out-then : AreHandedOut v.used.slots (store_in v.trail o) → AreHandedOut w.used.slots (store_in w.trail o)
  out-then out = subst (λ (s : ℕ). AreHandedOut s (store_in w.trail o)) (sym slots-same) (subst (λ (x : StoreWord). AreHandedOut v.used.slots x) (sym store-same) out)

  pub room-then : HasRoom v Slots (slots_need n (store_in v.trail o).capacity) → HasRoom w Slots (slots_need n (store_in w.trail o).capacity)
  room-then room =
      subst (λ (x : StoreWord). w.used.slots + slots_need n x.capacity ≤ w.shape.slots) (sym store-same)
      (subst (λ (s : ℕ). s + slots_need n (store_in v.trail o).capacity ≤ w.shape.slots) (sym slots-same)
      (subst (λ (s : Shape). v.used.slots + slots_need n (store_in v.trail o).capacity ≤ s.slots) (sym it.shape) room))

  opens-by : (l : Option ℕ) → fitting_child v.trail m (key_of p) d ≡ l → OpensNoRoot v.trail w.trail
  opens-by (Some x) e =
      let used : w.used.maps ≡ v.used.maps + 0 = ap (λ (s : Shape). s.maps) it.used ∙ ap (λ (l : Option ℕ). (with_need (child_need l n) v.used).maps) e in
      reshapes-none unused v w Dies Gets it.heap it.writes (omega (arith, used))
  opens-by None e =
      let used : w.used.maps ≡ v.used.maps + 1 = ap (λ (s : Shape). s.maps) it.used ∙ ap (λ (l : Option ℕ). (with_need (child_need l n) v.used).maps) e in
      let parent : parent_in w.trail v.used.maps ≡ Some (Some m) = subst (λ (x : ℕ). parent_in w.trail x ≡ Some (Some m)) (it.number e) its-child.parent in
      reshapes-one unused v w Dies Gets it.heap it.writes used (λ g gate shared top. child-no-root w.trail m v.used.maps parent top)

  opens-here : OpensNoRoot v.trail w.trail
  opens-here = opens-by (fitting_child v.trail m (key_of p) d) refl

  changed-here : ChangedBut (OutgrownFor v.trail m (key_of p) d) v w o
  changed-here = record {
    writes = adds-wider (reshapes-touches v o v.used Dies Gets) it.writes;
    shape = it.shape;
    slots = omega (arith, slots-same);
    tree = it.tree;
    heap = it.heap;
  }

  owns-here : (s : ℕ) → Owns w.trail o s → s < v.used.slots → Owns v.trail o s
  owns-here s owns lt = subst (λ (x : StoreWord). IsIn x s) store-same owns

  pub used-on : (x : View) → d ≡ held_detail v.trail p.held Const → x.used ≡ with_slots (store_in w.trail o) n w.used → x.used ≡ with_growth v.trail o m n p v.used
  used-on x asked e =
      e
      ∙ ap (λ (c : StoreWord). with_slots c n w.used) store-same
      ∙ ap (with_slots (store_in v.trail o) n) it.used
      ∙ ap (λ (y : Detail). with_slots (store_in v.trail o) n (with_need (child_need (fitting_child v.trail m (key_of p) y) n) v.used)) asked

  -- from the child on the object was moved
  module _ (law : LiveIsChild) (tree_v : IsTree v.trail) (x : View) (moved : IsMovedBut NoMap w x o m n p) where
    whole-later : IsLater v.trail x.trail
    whole-later = is-later maps details v x o heap (changed-on v w x o changed-here owns-here moved.changed)

    -- written parents stay
    parents-on : (k : ℕ) (up : Option ℕ) → parent_in v.trail k ≡ Some up → parent_in x.trail k ≡ Some up
    parents-on k up is = whole-later.maps.written.parent k up is

    above-on : (k a : Option ℕ) (c : ℕ) → above v.trail k ≡ Some c → a ≡ k → above x.trail a ≡ Some c
    above-on (Some k) a c is same = ap (above x.trail) same ∙ (ap parent_of (parents-on k (Some c) (parent-some (parent_in v.trail k) c is)))
    above-on None a c is same = let n : None ≡ Some c = is in let f : ⊥ = cc in absurd f

    ancestor-on : (depth y c : ℕ) → ancestor v.trail depth y ≡ Some c → ancestor x.trail depth y ≡ Some c
    ancestor-on zero y c is = is
    ancestor-on (suc depth) y c is = by (λ k. ancestor-on depth y k) (ancestor v.trail depth y) refl is
      where
        by : ((k : ℕ) → ancestor v.trail depth y ≡ Some k → ancestor x.trail depth y ≡ Some k) → (k : Option ℕ) → ancestor v.trail depth y ≡ k → above v.trail k ≡ Some c → above x.trail (ancestor x.trail depth y) ≡ Some c
        by before (Some k) e up = above-on (Some k) (ancestor x.trail depth y) c up (before k e)
        by before None e up = let n : None ≡ Some c = up in let f : ⊥ = cc in absurd f

    later-on : IsLater w.trail x.trail
    later-on = is-later maps details w x o it.heap moved.changed

    opens-on : (k : ℕ) (g : GateWord) → gate_in x.trail k ≡ Some g → g.is_private ≡ false → parent_in x.trail k ≡ Some None → gate_in v.trail k ≡ None → (was : Option GateWord) → gate_in w.trail k ≡ was → ⊥
    opens-on k g gate shared parent none None e = moved.opens k g e gate shared parent
    opens-on k g gate shared parent none (Some h) e =
        let same : h ≡ g = some-is h g (sym (later-on.maps.written.gate k h e) ∙ gate) in
        let up = some-of (parent_in w.trail k) (later-on.maps.opened k h e).parent in
        opens-here k h none e (ap (λ (y : GateWord). y.is_private) same ∙ shared) (up.1 ∙ sym (later-on.maps.written.parent k up.0 up.1) ∙ parent)

    -- a map that died stays so
    dead-on : (y : ℕ) → IsTrue (bits_in w.trail y).deprecated → IsTrue (bits_in x.trail y).deprecated
    dead-on y dead = live-stays w x.trail o y (λ none. none) moved.changed.writes ∙ dead

    -- and isn't private
    shared-on : (y : ℕ) → OutgrownFor v.trail m (key_of p) d y → (g : GateWord) → gate_in x.trail y ≡ Some g → g.is_private ≡ false
    shared-on y out g gate =
        let child : IsChildFor v.trail m (gate_with n false) out.child (key_of p) = law v.trail m out.child (gate_with n false) (key_of p) tree_v is_open out.is in
        under-shared x.trail out.child out.under.depth y g moved.changed.tree m
        (parents-on out.child (Some m) child.parent) (ancestor-on out.under.depth y out.child out.under.leads) gate

    either-on : (y : ℕ) → y ≢ m → (bits_in v.trail y).unstable ≡ false → IsTrue (bits_in x.trail y).unstable → (b : Bool) → (bits_in w.trail y).unstable ≡ b → IsLinkedOrDead v.trail x.trail y
    either-on y other stable now false e = ⊎_elim (λ links. inl links) (λ died. inr (record { shared = died.shared; dead = died.dead })) (moved.marks y other e now)
    either-on y other stable now true e = ⊎_elim (λ same. absurd (other same)) (λ out. inr (record { shared = shared-on y out.0; dead = dead-on y out.1 })) (it.marks y stable e)

    pub moved-on : BeginsMarked v.trail w.trail m → IsMovedBut (OutgrownFor v.trail m (key_of p) d) v x o m n p
    moved-on begins = record {
      child = moved.child;
      changed = changed-on v w x o changed-here owns-here moved.changed;
      opens = λ k g none gate shared parent. opens-on k g gate shared parent none (gate_in w.trail k) refl;
      detail = moved.detail;
      grown = moved.grown;
      shared = moved.shared;
      moved = moved.moved;
      proto = moved.proto ∙ proto-same;
      room = moved.room;
      words = λ k lt. moved.words k lt ∙ word-same k;
      form = moved.form;
      holds = moved.holds;
      store = moved.store;
      owns = λ s owns lt. let later_lt : s < w.used.slots = omega (arith, lt, slots-same) in owns-here s (moved.owns s owns later_lt) lt;
      objects = moved.objects ∙ objects-same;
      other = moved.other;
      more = moved.more ++ begins.more;
      after = moved.after ∙ (ap (λ (t : Trail). moved.more ++ t) (marked-already w.trail m unstable-then ∙ begins.is) ∙ sym (append-assoc moved.more begins.more (marked v.trail m)));
      marks = λ y other stable now. either-on y other stable now (bits_in w.trail y).unstable refl;
      dead = λ y dies there. dead-on y (it.dead y dies there);
    }

    -- the field of the last entry admits what was asked
    pub child-asks-on : map_in x.trail o ≡ Some c → ((f : ℕ) → detail_in x.trail f ≡ detail_in w.trail f) → (k : ℕ) (y : Detail) → map_in x.trail o ≡ Some k → detail_at x.trail k n ≡ Some y → IsTrue (is_detail_within d y)
    child-asks-on comes same k y has admits =
        let e = asked_detail v.trail m (key_of p) d in
        let field = some-and (field_at w.trail c n) (λ f. (owner_in w.trail f ≡ Some c) × (detail_in w.trail f ≡ Some e)) it.ends.field in
        let to : k ≡ c = some-is k c (sym has ∙ comes) in
        let entry = later-on.maps.entry c n (gate_with (n + 1) false) child-then (omega arith) in
        let there : detail_at x.trail c n ≡ Some e = ap (detail_of x.trail) (entry.field ∙ field.1.0) ∙ (same field.0 ∙ field.1.1.1) in
        let is : e ≡ y = some-is e y (sym there ∙ (ap (λ (z : ℕ). detail_at x.trail z n) (sym to) ∙ admits)) in
        subst (λ (z : Detail). IsTrue (is_detail_within d z)) is (child-asks v.trail (live_child v.trail m (key_of p)) (count_of v.trail m) d)
