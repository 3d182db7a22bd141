-- A fast object becomes a prototype with a private map: that its writes are lawful, and the step that they make.
use Rattle.hc_tree.specs.Details.{NoMap}
use Rattle.hc_modes.proofs.Marking.{makes-at}
use Rattle.std.proofs.Common.{◌≡◌, ℕ, ◌+◌, ◌<◌, ◌≤◌, Bool, true, false, cond, eq-eqb, true≢false, List, ◌∷◌, Option, Some, None, IfSome, length, refl, sym, ap, ◌∙◌, subst, arith}
use Rattle.std.specs.Prelude.{IsSome, IsSomeAnd, IsTrue}
use Rattle.hc_layout.specs.declared.capacity.TheConstants.{MAX_FAST}
use Rattle.hc_layout.specs.declared.shape.Shape.{Shape}
use Rattle.hc_layout.specs.declared.shape.Region.TheVariants.{Maps}
use Rattle.hc_layout.specs.declared.words.GateWord.{GateWord}
use Rattle.hc_layout.specs.declared.words.MapBits.{MapBits}
use Rattle.hc_layout.specs.declared.words.RootWord.{RootWord}
use Rattle.hc_layout.specs.declared.words.StoreWord.{StoreWord}
use Rattle.hc_heap.specs.Writes.{Write, Trail, Bits, ObjectMap, Root, Store, Slot}
use Rattle.hc_heap.specs.Readings.{gate_in, prototype_in, bits_in, map_in, root_in, store_in, slot_in}
use Rattle.hc_heap.specs.Lawful.{Lawful, LawfulObjectMap, IsOwnMap, HoldsEntries}
use Rattle.hc_heap.specs.Kept.{Adds, DetailsRise, FormsAreKept, GatesAreOpen, UnusedSaysNothing}
use Rattle.hc_heap.specs.Frames.{adds-on, same-after, goes-on-of, adds-one, adds-wider}
use Rattle.hc_heap.specs.States.{View, IsHeap}
use Rattle.hc_heap.specs.declared.kind.Kind.TheVariants.{RootOfObject}
use Rattle.hc_descs.specs.Entries.{count_of, entries_in}
use Rattle.hc_tree.specs.Copying.{IsPrivateCopy, copy_need}
use Rattle.hc_tree.specs.Growth.{MakesMap, MayBePrototype, marked}
use Rattle.hc_tree.specs.Kept.{MapsAreKept, TreesStay}
use Rattle.hc_tree.specs.Needs.{with_need}
use Rattle.hc_tree.specs.Tree.{IsTree, gate_with}
use Rattle.hc_table.specs.World.{Object}
use Rattle.hc_modes.specs.Becoming.{IsOwned, with_proto}
use Rattle.hc_modes.specs.Changes.{Touches, OpensNoRoot, Stepped}
use Rattle.hc_slots.specs.Slots.{SlotsStay, IsIn, AreHandedOut}
use Rattle.hc_slots.specs.Meaning.{Dictionary, fast_object, fast_props, is_extensible, object_shown, proto_of}
use Rattle.hc_modes.specs.Meaning.{kept_of, world}
use Rattle.hc_modes.proofs.Facts.{alike-anew, gone-constants, like-facts, words-same}
use Rattle.hc_modes.specs.Admitting.{FactsStay}
use Rattle.hc_facts.specs.Laws.{HonestAfter, KeptIsCarried, MovedIsCarried}
use Rattle.hc_heap.specs.Kept.{StableIsKept}
use Rattle.hc_modes.specs.Privates.{IsAlike}
use Rattle.hc_slots.specs.Fast.{HasMap, IsFast}
use Rattle.hc_modes.specs.State.{IsObjects}
use Rattle.hc_modes.proofs.Alike.{alike-copy, alike-holds, fast-alike}
use Rattle.hc_modes.proofs.Owning.{nobody-has, open-used}
use Rattle.hc_modes.proofs.Prototypes.{became-from, became-proto, proto-touches, same-sound, same-world}
use Rattle.hc_modes.proofs.Sound.{is-later, still-out}
use Rattle.hc_slots.specs.Cases.{some-is, cond-other}
use Rattle.hc_modes.proofs.Staying.{IsLater, later}
use Rattle.hc_modes.proofs.Steps.{marked-unstable, move-tree, opens-one, own-map, private-no-root}
use Rattle.hc_modes.proofs.Touching.{map-made, map-marked, map-moved}
use Rattle.hc_modes.proofs.Writing.{has-map}

-- What the words say after a map was marked, and another made

pub marked-same : {T : Type 0} (reading : Trail → T) (t : Trail) (m : ℕ) → ((b : MapBits) → reading (Bits m b ∷ t) ≡ reading t) → reading (marked t m) ≡ reading t
marked-same {T} reading t m same = by (bits_in t m).unstable
  where
    by : (b : Bool) → reading (cond b t (Bits m (record { unstable = true; deprecated = (bits_in t m).deprecated }) ∷ t)) ≡ reading t
    by true = refl
    by false = same (record { unstable = true; deprecated = (bits_in t m).deprecated })

map-by : (used : Shape) (o : ℕ) (t : Trail) (w : Write) → MakesMap used None t w → map_in (w ∷ t) o ≡ map_in t o
map-by used o t (ObjectMap i h) e = absurd e
map-by used o t _ e = refl

store-by : (used : Shape) (o : ℕ) (t : Trail) (w : Write) → MakesMap used None t w → store_in (w ∷ t) o ≡ store_in t o
store-by used o t (Store i h) e = absurd e
store-by used o t _ e = refl

slot-by : (used : Shape) (s : ℕ) (t : Trail) (w : Write) → MakesMap used None t w → slot_in (w ∷ t) s ≡ slot_in t s
slot-by used s t (Slot i h) e = absurd e
slot-by used s t _ e = refl

root-by : (used : Shape) (o : ℕ) (t : Trail) (w : Write) → MakesMap used None t w → root_in (w ∷ t) o ≡ root_in t o
root-by used o t (Root i h) e = absurd e
root-by used o t _ e = refl

bits-by : (used : Shape) (m : ℕ) (t : Trail) (w : Write) → MakesMap used None t w → bits_in (w ∷ t) m ≡ bits_in t m
bits-by used m t (Bits i b) e = let n : None ≡ Some i = e.0 in let f : ⊥ = cc in absurd f
bits-by used m t _ e = refl

module _ (old : View) (m : ℕ) (new : Trail) (adds : Adds (MakesMap old.used None) (marked old.trail m) new) where
  pub copied-map : (q : ℕ) → map_in new q ≡ map_in old.trail q
  copied-map q = same-after (λ (t : Trail). map_in t q) (map-by old.used q) adds ∙ marked-same (λ (t : Trail). map_in t q) old.trail m (λ b. refl)

  pub copied-store : (q : ℕ) → store_in new q ≡ store_in old.trail q
  copied-store q = same-after (λ (t : Trail). store_in t q) (store-by old.used q) adds ∙ marked-same (λ (t : Trail). store_in t q) old.trail m (λ b. refl)

  pub copied-slot : (s : ℕ) → slot_in new s ≡ slot_in old.trail s
  copied-slot s = same-after (λ (t : Trail). slot_in t s) (slot-by old.used s) adds ∙ marked-same (λ (t : Trail). slot_in t s) old.trail m (λ b. refl)

  pub copied-root : (q : ℕ) → root_in new q ≡ root_in old.trail q
  copied-root q = same-after (λ (t : Trail). root_in t q) (root-by old.used q) adds ∙ marked-same (λ (t : Trail). root_in t q) old.trail m (λ b. refl)

  pub copied-unstable : IsTrue (bits_in new m).unstable
  copied-unstable = ap (λ (b : MapBits). b.unstable) (same-after (λ (t : Trail). bits_in t m) (bits-by old.used m) adds) ∙ marked-unstable old.trail m

  pub copied-touches : (o : ℕ) → Adds (Touches old o) old.trail new
  copied-touches o = adds-on (map-marked NoMap old o old.trail m) (map-made NoMap old o old.used None (marked old.trail m) new adds)

-- fields stay honest, and constants stay
module _ (maps : MapsAreKept) (details : DetailsRise) (forms : FormsAreKept) (stable : StableIsKept) (honest : HonestAfter) (carried : KeptIsCarried) (carries : MovedIsCarried)
    (v x : View) (kept : List (Option Dictionary)) (null : Option ℕ) (h : IsObjects v kept null) (o : ℕ) (there : o < length kept) (fast : kept_of kept o ≡ None) (m : ℕ) (has : map_in v.trail o ≡ Some m) where
  abbrev its : HasMap v.trail o
  its = has-map v kept null h o there fast

  is_open : gate_in v.trail m ≡ Some its.gate
  is_open = subst (λ (y : ℕ). gate_in v.trail y ≡ Some its.gate) (some-is its.map m (sym its.is_map ∙ has)) its.fast.is_open

  pub own-facts : IsOwned v x o m → FactsStay v.shape v.trail x.trail
  own-facts it =
      let n = count_of v.trail m in
      let after : IsLater v.trail x.trail = is-later maps details v x o h.heap it.changed in
      let alike : IsAlike x.trail v.used.maps m n it.proto = alike-copy true it.proto x.trail v.used.maps m n v.used.fields it.copy in
      like-facts maps details forms stable honest carried carries v x kept null h o m v.used.maps n its.gate (gate_with n true) has is_open (sym (ap entries_in is_open)) it.changed it.moved
      (gone-constants maps details forms v x kept null h o it.changed stable m v.used.maps has it.moved (λ is. let lt = it.younger in omega (arith, is, lt))) alike.gate refl
      alike.keys
      (λ k f key was d lt is_key datum field admits now. alike-anew v.trail x.trail after.details o v.used.maps m k f was d (words-same v.trail x.trail o k it.store it.slots) (alike.details k lt) field admits now)

-- an object with these words may have the copy, where it had the map
module _ (old new : Trail) (after : IsLater old new) (o m c first : ℕ) (p : Option ℕ) (g : GateWord) (fast : IsFast old o m g) (copy : IsPrivateCopy true None p new c m (count_of old m) first)
    (store : store_in new o ≡ store_in old o) (slots : (s : ℕ) → slot_in new s ≡ slot_in old s) where
  count : count_of old m ≡ g.entries
  count = ap entries_in fast.is_open

  alike : IsAlike new c m g.entries p
  alike = subst (λ (n : ℕ). IsAlike new c m n p) count (alike-copy true p new c m (count_of old m) first copy)

  words : SlotsStay old new o g.entries
  words k lt = words-same old new o k store slots

  pub copy-fits : HoldsEntries new o c (gate_with (count_of old m) true)
  copy-fits = subst (λ (n : ℕ). HoldsEntries new o c (gate_with n true)) (sym count)
      (alike-holds old new after o m g fast c p alike (subst (λ (w : StoreWord). g.entries ≤ w.capacity) (sym store) fast.holds.capacity) words)

  -- and it has the value that it had
  pub copy-object : g.is_locked ≡ false → prototype_in old m ≡ Some p → fast_object new o c ≡ fast_object old o m
  copy-object unlocked prototype =
      fast-alike old new after o m g fast c p alike unlocked words
      ∙ ap (λ (q : Option (Option ℕ)). let x : Object = record { proto = proto_of q; extensible = is_extensible (gate_in old m); props = fast_props old o m } in x) (sym prototype)

-- The writes

-- a map was marked, and a private copy of it was made
pub record IsCopied (old mid : View) (m c : ℕ) (p : Option ℕ) : Type 0 where
  pub prototype : prototype_in old.trail m ≡ Some p
  pub marked_heap : IsHeap (record old { trail = marked old.trail m })
  pub heap : IsHeap mid
  pub tree : IsTree mid.trail
  pub shape : mid.shape ≡ old.shape
  pub used : mid.used ≡ with_need (copy_need true None (count_of old.trail m)) old.used
  pub number : c ≡ old.used.maps
  pub copy : IsPrivateCopy true None p mid.trail c m (count_of old.trail m) old.used.fields
  pub writes : Adds (MakesMap old.used None) (marked old.trail m) mid.trail

pub count-marked : (t : Trail) (m : ℕ) → count_of (marked t m) m ≡ count_of t m
count-marked t m = marked-same (λ (u : Trail). count_of u m) t m (λ b. refl)

pub copied-by : (old was mid : View) (m c : ℕ) (p : Option ℕ) → was ≡ record old { trail = marked old.trail m } → prototype_in old.trail m ≡ Some p → IsHeap was → IsHeap mid → IsTree mid.trail → mid.shape ≡ was.shape
    → mid.used ≡ with_need (copy_need true None (count_of was.trail m)) was.used → c ≡ was.used.maps → IsPrivateCopy true None p mid.trail c m (count_of was.trail m) was.used.fields → Adds (MakesMap was.used None) was.trail mid.trail
    → IsCopied old mid m c p
copied-by old was mid m c p is prototype whole heap tree shape used number copy writes = record {
  prototype = prototype;
  marked_heap = subst IsHeap is whole;
  heap = heap;
  tree = tree;
  shape = shape ∙ ap (λ (v : View). v.shape) is;
  used = used ∙ ap (λ (v : View). with_need (copy_need true None (count_of v.trail m)) v.used) is ∙ ap (λ (n : ℕ). with_need (copy_need true None n) old.used) (count-marked old.trail m);
  number = number ∙ ap (λ (v : View). v.used.maps) is;
  copy = subst (λ (n : ℕ). IsPrivateCopy true None p mid.trail c m n old.used.fields) (count-marked old.trail m)
      (subst (λ (v : View). IsPrivateCopy true None p mid.trail c m (count_of v.trail m) v.used.fields) is copy);
  writes = subst (λ (v : View). Adds (MakesMap v.used None) v.trail mid.trail) is writes;
}

-- a prototype that a map has is one that was made so
pub may-proto : FormsAreKept → UnusedSaysNothing → (v : View) → IsHeap v → (m : ℕ) (p : Option ℕ) → prototype_in v.trail m ≡ Some p → MayBePrototype v.used v.trail p
may-proto forms unused v heap m None is = tt
may-proto forms unused v heap m (Some q) is =
    let yes = ((forms v.shape v.trail heap.lawful).prototype m q is).1 in
    let no : v.used.objects ≤ q → ⊥ = λ le. true≢false (sym yes ∙ ap (λ (r : RootWord). r.is_proto) (unused v.used v.trail RootOfObject q heap.used le)) in
    (omega (arith, no), yes)

-- also after the map was marked
pub marked-proto : (v : View) (m : ℕ) (p : Option ℕ) → MayBePrototype v.used v.trail p → MayBePrototype v.used (marked v.trail m) p
marked-proto v m (Some q) h = (h.0, ap (λ (r : RootWord). r.is_proto) (marked-same (λ (t : Trail). root_in t q) v.trail m (λ b. refl)) ∙ h.1)
marked-proto v m None h = tt

module _ (maps : MapsAreKept) (details : DetailsRise) (trees : TreesStay) (unused : UnusedSaysNothing) (old : View) (heap : IsHeap old) (o m : ℕ) (so : HasMap old.trail o) (has : map_in old.trail o ≡ Some m) (shared : (root_in old.trail o).is_proto ≡ false) where
  fast-at : IsFast old.trail o m so.gate
  fast-at = subst (λ (x : ℕ). IsFast old.trail o x so.gate) (some-is so.map m (sym so.is_map ∙ has)) so.fast

  pub has-there : m < old.used.maps
  has-there = open-used unused old heap m so.gate fast-at.is_open

  pub has-proto : GatesAreOpen → IsSome (prototype_in old.trail m)
  has-proto gates = (gates old.shape old.trail m so.gate heap.lawful fast-at.is_open).prototype

  pub few-entries : GatesAreOpen → count_of old.trail m ≤ MAX_FAST
  few-entries gates = let few = (gates old.shape old.trail m so.gate heap.lawful fast-at.is_open).few in omega (arith, few, ap entries_in fast-at.is_open)

  module _ (mid : View) (c : ℕ) (p : Option ℕ) (it : IsCopied old mid m c p) where
    mid-lawful : Lawful old.shape mid.trail
    mid-lawful = subst (λ (s : Shape). Lawful s mid.trail) it.shape it.heap.lawful

    mid-later : IsLater old.trail mid.trail
    mid-later = later maps details old.shape old.trail mid.trail heap.lawful (goes-on-of old.shape (copied-touches old m mid.trail it.writes o) mid-lawful)

    mid-map : map_in mid.trail o ≡ Some m
    mid-map = copied-map old m mid.trail it.writes o ∙ has

    mid-fits : HoldsEntries mid.trail o c (gate_with (count_of old.trail m) true)
    mid-fits = copy-fits old.trail mid.trail mid-later o m c old.used.fields p so.gate fast-at it.copy (copied-store old m mid.trail it.writes o) (copied-slot old m mid.trail it.writes)

    -- the object may get the copy
    pub own-lawful : LawfulObjectMap mid.shape mid.trail o (Some c)
    own-lawful =
        let used : mid.used.maps ≡ old.used.maps + 1 = ap (λ (s : Shape). s.maps) it.used in
        let most = it.heap.most Maps in
        record {
          leaves = subst (λ (h : Option ℕ). IfSome h (λ x. IsTrue (bits_in mid.trail x).unstable)) (sym mid-map) (copied-unstable old m mid.trail it.writes);
          gets = record {
            there = omega (arith, used, most, it.number);
            filled = subst (λ (g : Option GateWord). IsSomeAnd g (λ x. HoldsEntries mid.trail o c x)) (sym it.copy.gate) mid-fits;
            own = λ yes. absurd (true≢false (sym yes ∙ ap (λ (r : RootWord). r.is_proto) (copied-root old m mid.trail it.writes o) ∙ shared));
          };
        }

    moved-map : map_in (ObjectMap o (Some c) ∷ mid.trail) o ≡ Some c
    moved-map = ap (λ (b : Bool). cond b (Some c) (map_in mid.trail o)) (eq-eqb o o refl)

    own-here : IsOwnMap mid.trail c
    own-here = subst (λ (x : ℕ). IsOwnMap mid.trail x) (sym it.number)
        (own-map unused (record old { trail = marked old.trail m }) mid.trail (count_of old.trail m) it.marked_heap it.writes (subst (λ (x : ℕ). gate_in mid.trail x ≡ Some (gate_with (count_of old.trail m) true)) it.number it.copy.gate))

    -- and then the map is its own
    pub own-now : IfSome (map_in (ObjectMap o (Some c) ∷ mid.trail) o) (λ x. IsOwnMap (ObjectMap o (Some c) ∷ mid.trail) x)
    own-now = subst (λ (h : Option ℕ). IfSome h (λ x. IsOwnMap (ObjectMap o (Some c) ∷ mid.trail) x)) (sym moved-map) (record { private = own-here.private; stable = own-here.stable })

    pub own-tree : Lawful mid.shape (ObjectMap o (Some c) ∷ mid.trail) → IsTree (ObjectMap o (Some c) ∷ mid.trail)
    own-tree lawful = trees mid.shape mid.trail (ObjectMap o (Some c) ∷ mid.trail) it.heap.lawful (goes-on-of mid.shape (map-moved NoMap old o mid.trail (Some c)) lawful) (move-tree mid.trail o (Some c)) it.tree

    opens-mid : OpensNoRoot old.trail mid.trail
    opens-mid k g none gate = opens-one unused (record old { trail = marked old.trail m }) mid None it.heap it.writes (ap (λ (s : Shape). s.maps) it.used)
        (λ h is shared top. private-no-root mid.trail old.used.maps (count_of old.trail m) h (subst (λ (x : ℕ). gate_in mid.trail x ≡ Some (gate_with (count_of old.trail m) true)) it.number it.copy.gate) is shared)
        k g (marked-same (λ (t : Trail). gate_in t k) old.trail m (λ b. refl) ∙ none) gate

    -- the object is a prototype with a map of its own
    pub own-done : (new : View) → new ≡ record mid { trail = with_proto (ObjectMap o (Some c) ∷ mid.trail) o } → IsTree new.trail → IsHeap new → IsOwned old new o m
    own-done new is tree whole = subst (λ (v : View). IsOwned old v o m) (sym is) (record {
      proto = p;
      prototype = it.prototype;
      changed = record {
        writes = adds-on (copied-touches old m mid.trail it.writes o) (adds-on (map-moved NoMap old o mid.trail (Some c)) (proto-touches old o (ObjectMap o (Some c) ∷ mid.trail)));
        shape = it.shape;
        slots = let same = ap (λ (s : Shape). s.slots) it.used in omega (arith, same);
        tree = subst (λ (v : View). IsTree v.trail) is tree;
        heap = subst IsHeap is whole;
      };
      opens = opens-mid;
      copy = let copy = subst (λ (x : ℕ). IsPrivateCopy true None p mid.trail x m (count_of old.trail m) old.used.fields) it.number it.copy in record {
        gate = copy.gate;
        parent = copy.parent;
        prototype = copy.prototype;
        entries = record {
          entries = record { keys = copy.entries.entries.keys; fields = copy.entries.entries.fields };
          made = λ k lt. record { owner = (copy.entries.made k lt).owner; detail = (copy.entries.made k lt).detail };
        };
        last = tt;
      };
      moved = moved-map ∙ ap (λ (x : ℕ). Some x) it.number;
      became = became-from o old.trail (ObjectMap o (Some c) ∷ mid.trail) (with_proto (ObjectMap o (Some c) ∷ mid.trail) o)
          (λ q. copied-root old m mid.trail it.writes q)
          (λ q other. cond-other o q (Some c) (map_in mid.trail q) (λ e. other (sym e)) ∙ copied-map old m mid.trail it.writes q)
          (became-proto (ObjectMap o (Some c) ∷ mid.trail) o);
      store = copied-store old m mid.trail it.writes o;
      slots = copied-slot old m mid.trail it.writes;
      used = it.used;
      younger = has-there;
      stable = subst (λ (x : ℕ). (bits_in mid.trail x).unstable ≡ false) it.number own-here.stable;
      after = adds-on (adds-wider (makes-at old.used None m (λ x e. let f : ⊥ = cc in absurd f)) it.writes)
          (adds-on (adds-one mid.trail (ObjectMap o (Some c)) tt) (adds-one (ObjectMap o (Some c) ∷ mid.trail) (Root o (record { is_proto = true; map = (root_in (ObjectMap o (Some c) ∷ mid.trail) o).map })) tt));
    })

-- The step

module _ (maps : MapsAreKept) (details : DetailsRise) (unused : UnusedSaysNothing) (old new : View) (kept : List (Option Dictionary)) (of_null : Option ℕ) (h : IsObjects old kept of_null) (o : ℕ) (there : o < length kept) (fast : kept_of kept o ≡ None)
    (m : ℕ) (has : map_in old.trail o ≡ Some m) (it : IsOwned old new o m) where
  abbrev so : HasMap old.trail o
  so = has-map old kept of_null h o there fast

  fast-here : IsFast old.trail o m so.gate
  fast-here = subst (λ (x : ℕ). IsFast old.trail o x so.gate) (some-is so.map m (sym so.is_map ∙ has)) so.fast

  after : IsLater old.trail new.trail
  after = is-later maps details old new o h.heap it.changed

  value : fast_object new.trail o old.used.maps ≡ fast_object old.trail o m
  value = copy-object old.trail new.trail after o m old.used.maps old.used.fields it.proto so.gate fast-here it.copy it.store it.slots (h.tree.maps m so.gate fast-here.is_open).unlocked it.prototype

  own-step : Stepped old new None o (object_shown old.trail o (kept_of kept o) (map_in old.trail o))
  own-step = record {
    changed = it.changed;
    well = record {
      as_kept = record {
        map = old.used.maps;
        gate = gate_with (count_of old.trail m) true;
        is_map = it.moved;
        fast = record {
          is_open = it.copy.gate;
          holds = copy-fits old.trail new.trail after o m old.used.maps old.used.fields it.proto so.gate fast-here it.copy it.store it.slots;
          private = sym it.became.proto;
        };
      };
      store = subst (λ (w : StoreWord). AreHandedOut new.used.slots w) (sym it.store) (still-out old.used.slots new.used.slots (store_in old.trail o) it.changed.slots (h.stores o));
      owns = λ s owns lt. subst (λ (w : StoreWord). IsIn w s) it.store owns;
      alone = λ p x g other is was gate.
          let same : old.used.maps ≡ x = some-is old.used.maps x (sym it.moved ∙ is) in
          absurd (nobody-has unused old h.heap kept of_null h p (subst (λ (y : ℕ). map_in old.trail p ≡ Some y) (sym same) was));
    };
    opens = it.opens;
    value =
        ap (λ (x : Option ℕ). object_shown new.trail o None x) it.moved
        ∙ value
        ∙ ap (λ (x : Option ℕ). object_shown old.trail o None x) (sym has)
        ∙ ap (λ (i : Option Dictionary). object_shown old.trail o i (map_in old.trail o)) (sym fast);
  }

  pub own-world : world new.trail kept ≡ world old.trail kept
  own-world = same-world maps details old new kept of_null h None o there own-step fast

  pub own-sound : IsObjects new kept of_null
  own-sound = same-sound maps details old new kept of_null h None o there own-step fast (ap (λ (s : Shape). s.objects) it.used)
