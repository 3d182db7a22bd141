-- A map was made unstable and copied to a private one: what became of an object, and of the trail.
use Rattle.hc_tree.specs.Details.{NoMap}
use Rattle.std.proofs.Common.{◌≡◌, ℕ, ◌+◌, ◌<◌, Bool, true, false, cond, ◌∷◌, Option, Some, None, IfSome, refl, sym, ap, ◌∙◌, subst, arith}
use Rattle.std.specs.Prelude.{IsTrue}
use Rattle.hc_layout.specs.declared.shape.Region.TheVariants.{Maps}
use Rattle.hc_layout.specs.declared.shape.Shape.{Shape}
use Rattle.hc_layout.specs.declared.words.MapBits.{MapBits}
use Rattle.hc_layout.specs.declared.words.StoreWord.{StoreWord}
use Rattle.hc_heap.specs.Writes.{Write, Trail, Bits, Head, ObjectMap, Root, Store, Slot}
use Rattle.hc_heap.specs.Readings.{bits_in, map_in, root_in, slot_in, store_in}
use Rattle.hc_value.specs.declared.field.Class.{Class}
use Rattle.hc_value.specs.declared.field.Class.TheVariants.{Of, Any}
use Rattle.hc_heap.specs.Lawful.{IsClassThere, Lawful, word_from}
use Rattle.hc_heap.specs.Kept.{Adds, DetailsRise, UnusedSaysNothing}
use Rattle.hc_heap.specs.Frames.{adds-none, adds-one, adds-on, adds-wider, same-after, goes-on-of}
use Rattle.hc_heap.specs.States.{View, IsHeap}
use Rattle.hc_descs.specs.Entries.{count_of}
use Rattle.hc_tree.specs.Tree.{IsTree}
use Rattle.hc_tree.specs.Kept.{MapsAreKept}
use Rattle.hc_tree.specs.Copying.{IsPrivateCopy, MayBeLast, More, copied_count, copy_need}
use Rattle.hc_tree.specs.Growth.{MakesMap, marked}
use Rattle.hc_tree.specs.Needs.{with_need}
use Rattle.hc_slots.specs.Meaning.{slot_word}
use Rattle.hc_slots.specs.Slots.{IsIn, Owns}
use Rattle.hc_modes.specs.Changes.{Changed, OpensNoRoot}
use Rattle.hc_modes.specs.Privates.{IsCopied}
use Rattle.hc_modes.proofs.Staying.{IsLater, later}
use Rattle.hc_modes.proofs.Marking.{makes-at}
use Rattle.hc_modes.proofs.Steps.{bits-by, marked-unstable, opens-one, own-map, private-no-root}
use Rattle.hc_modes.proofs.Touching.{map-made}

-- A marked map

-- What the writes of a copy leave as it was

map-by : (used : Shape) (q : Option ℕ) (o : ℕ) (t : Trail) (w : Write) → MakesMap used q t w → map_in (w ∷ t) o ≡ map_in t o
map-by used q o t (ObjectMap i h) e = absurd e
map-by used q o t _ e = refl

store-by : (used : Shape) (q : Option ℕ) (o : ℕ) (t : Trail) (w : Write) → MakesMap used q t w → store_in (w ∷ t) o ≡ store_in t o
store-by used q o t (Store i h) e = absurd e
store-by used q o t _ e = refl

slot-by : (used : Shape) (q : Option ℕ) (s : ℕ) (t : Trail) (w : Write) → MakesMap used q t w → slot_in (w ∷ t) s ≡ slot_in t s
slot-by used q s t (Slot i h) e = absurd e
slot-by used q s t _ e = refl

root-by : (used : Shape) (q : Option ℕ) (o : ℕ) (t : Trail) (w : Write) → MakesMap used q t w → root_in (w ∷ t) o ≡ root_in t o
root-by used q o t (Root i h) e = absurd e
root-by used q o t _ e = refl

abbrev unstable_bits : Trail → ℕ → MapBits
unstable_bits t m = record { unstable = true; deprecated = (bits_in t m).deprecated }

marked-is : {T : Type 0} (reading : Trail → T) (t : Trail) (m : ℕ) → ((b : MapBits) → reading (Bits m b ∷ t) ≡ reading t) → reading (marked t m) ≡ reading t
marked-is {T} reading t m same = by (bits_in t m).unstable
  where
    by : (b : Bool) → reading (cond b t (Bits m (unstable_bits t m) ∷ t)) ≡ reading t
    by true = refl
    by false = same (unstable_bits t m)

class-by : (s : Shape) (t : Trail) (m : ℕ) (b : MapBits) (k : Class) → IsClassThere s t k → IsClassThere s (Bits m b ∷ t) k
class-by s t m b (Of x) h = h
class-by s t m b Any h = h

last-by : (s : Shape) (t : Trail) (m : ℕ) (b : MapBits) (more : More) → IfSome more (λ e. MayBeLast s t m e.0 e.1) → IfSome more (λ e. MayBeLast s (Bits m b ∷ t) m e.0 e.1)
last-by s t m b (Some e) h = record { form = h.form; proper = h.proper; lacks = h.lacks; accessor = h.accessor; class = h.class; there = class-by s t m b e.1.class h.there }
last-by s t m b None h = h

-- an entry that may come after those of a map may do so once the map is unstable
pub marked-last : (s : Shape) (t : Trail) (m : ℕ) (more : More) → IfSome more (λ e. MayBeLast s t m e.0 e.1) → IfSome more (λ e. MayBeLast s (marked t m) m e.0 e.1)
marked-last s t m more h = by (bits_in t m).unstable
  where
    by : (b : Bool) → IfSome more (λ e. MayBeLast s (cond b t (Bits m (unstable_bits t m) ∷ t)) m e.0 e.1)
    by true = h
    by false = last-by s t m (unstable_bits t m) more h

marked-makes : (used : Shape) (t : Trail) (m : ℕ) → Adds (MakesMap used (Some m)) t (marked t m)
marked-makes used t m = by (bits_in t m).unstable
  where
    by : (b : Bool) → Adds (MakesMap used (Some m)) t (cond b t (Bits m (unstable_bits t m) ∷ t))
    by true = adds-none t
    by false = adds-one t (Bits m (unstable_bits t m)) (refl, refl)

makes-more : (used : Shape) (m : ℕ) (t : Trail) (w : Write) → MakesMap used None t w → MakesMap used (Some m) t w
makes-more used m t (Bits i b) e = let n : None ≡ Some i = e.0 in let f : ⊥ = cc in absurd f
makes-more used m t (Head i h) e = let n : None ≡ Some i = e in let f : ⊥ = cc in absurd f
makes-more used m t _ e = e

-- a private copy was made, from one view to another
pub record IsMade (fresh : Bool) (more : More) (proto : Option ℕ) (old new : View) (m c : ℕ) : Type 0 where
  pub before : IsHeap old
  pub number : c ≡ old.used.maps
  pub copy : IsPrivateCopy fresh more proto new.trail c m (count_of old.trail m) old.used.fields
  pub used : new.used ≡ with_need (copy_need fresh more (count_of old.trail m)) old.used
  pub writes : Adds (MakesMap old.used None) old.trail new.trail
  pub shape : new.shape ≡ old.shape
  pub tree : IsTree new.trail
  pub heap : IsHeap new

-- and so it was copied from before the mark on
pub copied-from : UnusedSaysNothing → (fresh : Bool) (more : More) (proto : Option ℕ) (v w : View) (m c : ℕ) → IsMade fresh more proto (record v { trail = marked v.trail m }) w m c → IsCopied fresh more proto v w m
copied-from unused fresh more proto v w m c it =
    let count : count_of (marked v.trail m) m ≡ count_of v.trail m = marked-is (λ (t : Trail). count_of t m) v.trail m (λ b. refl) in
    let copy : IsPrivateCopy fresh more proto w.trail v.used.maps m (count_of v.trail m) v.used.fields =
    subst (λ (n : ℕ). IsPrivateCopy fresh more proto w.trail v.used.maps m n v.used.fields) count
    (subst (λ (x : ℕ). IsPrivateCopy fresh more proto w.trail x m (count_of (marked v.trail m) m) v.used.fields) it.number it.copy) in
    record {
      writes = adds-on (marked-makes v.used v.trail m) (adds-wider (makes-more v.used m) it.writes);
      copy = copy;
      own = own-map unused (record v { trail = marked v.trail m }) w.trail (copied_count more (count_of v.trail m)) it.before it.writes copy.gate;
      unstable = subst (λ (b : MapBits). IsTrue b.unstable) (sym (same-after (λ (t : Trail). bits_in t m) (bits-by v.used m) it.writes)) (marked-unstable v.trail m);
      after = adds-wider (makes-at v.used None m (λ x e. let f : ⊥ = cc in absurd f)) it.writes;
      used = subst (λ (n : ℕ). w.used ≡ with_need (copy_need fresh more n) v.used) count it.used;
      shape = it.shape;
      tree = it.tree;
      heap = it.heap;
    }

-- What it leaves

module _ (maps : MapsAreKept) (details : DetailsRise) (unused : UnusedSaysNothing) (fresh : Bool) (more : More) (proto : Option ℕ) (v w : View) (m : ℕ) (heap : IsHeap v) (it : IsCopied fresh more proto v w m) where
  lawful-then : Lawful v.shape w.trail
  lawful-then = subst (λ (s : Shape). Lawful s w.trail) it.shape it.heap.lawful

  pub copy-later : IsLater v.trail w.trail
  copy-later = later maps details v.shape v.trail w.trail heap.lawful (goes-on-of v.shape it.writes lawful-then)

  pub map-same : (o : ℕ) → map_in w.trail o ≡ map_in v.trail o
  map-same o = same-after (λ (t : Trail). map_in t o) (map-by v.used (Some m) o) it.writes

  pub store-same : (o : ℕ) → store_in w.trail o ≡ store_in v.trail o
  store-same o = same-after (λ (t : Trail). store_in t o) (store-by v.used (Some m) o) it.writes

  slot-same : (s : ℕ) → slot_in w.trail s ≡ slot_in v.trail s
  slot-same s = same-after (λ (t : Trail). slot_in t s) (slot-by v.used (Some m) s) it.writes

  pub root-same : (o : ℕ) → root_in w.trail o ≡ root_in v.trail o
  root-same o = same-after (λ (t : Trail). root_in t o) (root-by v.used (Some m) o) it.writes

  word-by : (first : Option ℕ) (k : ℕ) → word_from w.trail first k ≡ word_from v.trail first k
  word-by (Some x) k = slot-same (x + k)
  word-by None k = refl

  pub word-same : (o k : ℕ) → slot_word w.trail o k ≡ slot_word v.trail o k
  word-same o k = ap (λ (x : StoreWord). word_from w.trail x.first k) (store-same o) ∙ word-by (store_in v.trail o).first k

  pub slots-same : w.used.slots ≡ v.used.slots
  slots-same = ap (λ (s : Shape). s.slots) it.used ∙ omega arith

  pub objects-same : w.used.objects ≡ v.used.objects
  objects-same = ap (λ (s : Shape). s.objects) it.used

  pub one-map : w.used.maps ≡ v.used.maps + 1
  one-map = ap (λ (s : Shape). s.maps) it.used

  -- the board has the new map
  pub copy-there : v.used.maps < w.shape.maps
  copy-there = let most = it.heap.most Maps in omega (arith, most, one-map)

  pub copy-opens : OpensNoRoot v.trail w.trail
  copy-opens = opens-one unused v w (Some m) it.heap it.writes one-map
      (λ g gate shared top. private-no-root w.trail v.used.maps (copied_count more (count_of v.trail m)) g it.copy.gate gate shared)

  pub copy-changed : (o : ℕ) → Changed v w o
  copy-changed o = record {
    writes = map-made NoMap v o v.used (Some m) v.trail w.trail it.writes;
    shape = it.shape;
    slots = omega (arith, slots-same);
    tree = it.tree;
    heap = it.heap;
  }

  pub copy-owns : (o s : ℕ) → Owns w.trail o s → s < v.used.slots → Owns v.trail o s
  copy-owns o s owns lt = subst (λ (x : StoreWord). IsIn x s) (store-same o) owns
