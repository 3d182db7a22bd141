-- What a word says is of the form that its write asked.
use Rattle.std.proofs.Common.{◌≡◌, ℕ, ◌+◌, ◌<◌, ◌≤◌, Bool, true, false, cond, Option, Some, None, List, [], ◌∷◌, ◌++◌, refl, sym, ap, subst, arith, eqb, eqb-true, IfSome, IsSome, is_some}
use Rattle.std.specs.Prelude.{IsTrue, IsSomeAnd}
use Rattle.std.proofs.Math.Nat.{le_trans, le_refl}
use Rattle.hc_layout.specs.declared.words.MapBits.{MapBits}
use Rattle.hc_layout.specs.declared.shape.Shape.{Shape}
use Rattle.hc_value.specs.Field.{IsClassInRange}
use Rattle.hc_value.specs.declared.key.Key.{Key}
use Rattle.hc_value.specs.declared.field.Class.{Class}
use Rattle.hc_value.specs.declared.field.Class.TheVariants.{Of, Any}
use Rattle.hc_value.specs.declared.field.Detail.{Detail}
use Rattle.hc_layout.specs.declared.words.GateWord.{GateWord}
use Rattle.hc_layout.specs.declared.words.StoreWord.{StoreWord}
use Rattle.hc_heap.specs.Writes.{Write, Trail, Gate, Parent, Prototype, Bits, Head, EntryKey, Reference, Owner, FieldDetail, LinkKey, LinkChild, LinkNext, ObjectMap, Store}
use Rattle.hc_heap.specs.declared.kind.Kind.TheVariants.{KeyOfEntry}
use Rattle.hc_heap.specs.Readings.{gate_in, parent_in, prototype_in, bits_in, base_in, head_in, entry_key_in, reference_in, owner_in, detail_in, link_key_in, link_child_in, link_next_in, map_in, root_in, store_in}
use Rattle.hc_heap.specs.Lawful.{Lawful, LawfulWrite, AllWithin, IsKey, IsClassThere, AreSlots, MayHave, HoldsEntries, key_from}
use Rattle.hc_heap.specs.Kept.{FormsHold, GoesOn, HasPlacesFor}
use Rattle.hc_heap.proofs.Keeping.{open-of}
use Rattle.hc_heap.proofs.Saying.{says-nothing}
use Rattle.hc_heap.proofs.Stays.{gate-stays, marked-stays, holds-on}

-- a word that was written once is the new one or the one before
read-case : {T : Type 0} (P : T → Type 0) (R : ℕ → Option T) (n x : ℕ) (new v : T) (b : Bool) → eqb n x ≡ b → P new → (R x ≡ Some v → P v) → cond b (Some new) (R x) ≡ Some v → P v
read-case P R n x new v true e here before is = let same : new ≡ v = cc in subst P same here
read-case P R n x new v false e here before is = before is

read-on : {T : Type 0} (P : T → Type 0) (R : ℕ → Option T) (n x : ℕ) (new v : T) → P new → (R x ≡ Some v → P v) → cond (eqb n x) (Some new) (R x) ≡ Some v → P v
read-on P R n x new v here before is = read-case P R n x new v (eqb n x) refl here before is

-- the map of a class keeps its gate

some-of : {T : Type 0} (o : Option T) → IsSome o → (v : T) × (o ≡ Some v)
some-of (Some v) h = (v, refl)
some-of None h = let n : ⊥ = cc in absurd n

there-stays : (s : Shape) (t : Trail) (w : Write) (c : Class) → LawfulWrite s t w → IsClassThere s t c → IsClassThere s (w ∷ t) c
there-stays s t w Any l h = tt
there-stays s t w (Of m) l h = let g = some-of (gate_in t m) h.1 in (h.0, ap is_some (gate-stays s t w m g.0 l g.1))

-- what is asked of a detail, and of a prototype
abbrev IsWhole : Shape → Trail → Detail → Type 0
IsWhole s t d = IsClassInRange d.class × IsClassThere s t d.class

abbrev IsMarked : Shape → Trail → Option ℕ → Type 0
IsMarked s t p = (o : ℕ) → p ≡ Some o → (o < s.objects) × IsTrue (root_in t o).is_proto

marked-on : (s : Shape) (t : Trail) (w : Write) (p : Option ℕ) → LawfulWrite s t w → IsMarked s t p → IsMarked s (w ∷ t) p
marked-on s t w p l h = λ o e. ((h o e).0, marked-stays s t w o l (h o e).1)

marked-of : (s : Shape) (t : Trail) (p : Option ℕ) → IfSome p (λ o. o < s.objects) → IfSome p (λ o. IsTrue (root_in t o).is_proto) → IsMarked s t p
marked-of s t (Some q) there marked = λ o e. let same : q ≡ o = cc in (subst (λ (x : ℕ). x < s.objects) same there, subst (λ (x : ℕ). IsTrue (root_in t x).is_proto) same marked)
marked-of s t None there marked = λ o e. let n : ⊥ = cc in absurd n

key-on : (s : Shape) (t : Trail) (w : Write) (e : ℕ) (key : Key) → LawfulWrite s t w → (entry_key_in t e ≡ Some key → IsKey key) → entry_key_in (w ∷ t) e ≡ Some key → IsKey key
key-on s t (EntryKey n new) e key l before is = read-on IsKey (entry_key_in t) n e new key l.form before is
key-on s t _ e key l before is = before is

link-on : (s : Shape) (t : Trail) (w : Write) (k : ℕ) (key : Key) → LawfulWrite s t w → (link_key_in t k ≡ Some key → IsKey key) → link_key_in (w ∷ t) k ≡ Some key → IsKey key
link-on s t (LinkKey n new) k key l before is = read-on IsKey (link_key_in t) n k new key l.form before is
link-on s t _ k key l before is = before is

reference-on : (s : Shape) (t : Trail) (w : Write) (e f : ℕ) → LawfulWrite s t w → (reference_in t e ≡ Some f → f < s.fields) → reference_in (w ∷ t) e ≡ Some f → f < s.fields
reference-on s t (Reference n new) e f l before is = read-on (λ (x : ℕ). x < s.fields) (reference_in t) n e new f l.there before is
reference-on s t _ e f l before is = before is

class-on : (s : Shape) (t : Trail) (w : Write) (f : ℕ) (d : Detail) → LawfulWrite s t w → (detail_in t f ≡ Some d → IsWhole s t d) → detail_in (w ∷ t) f ≡ Some d → IsWhole s t d
class-on s t (FieldDetail n new) f d l before is = read-on (IsWhole s t) (detail_in t) n f new d (l.form, l.there) before is
class-on s t _ f d l before is = before is

prototype-on : (s : Shape) (t : Trail) (w : Write) (m : ℕ) (p : Option ℕ) → LawfulWrite s t w → (prototype_in t m ≡ Some p → IsMarked s t p) → prototype_in (w ∷ t) m ≡ Some p → IsMarked s t p
prototype-on s t (Prototype n new) m p l before is = read-on (IsMarked s t) (prototype_in t) n m new p (marked-of s t new l.there l.marked) before is
prototype-on s t _ m p l before is = before is

slots-on : (s : Shape) (t : Trail) (w : Write) (o : ℕ) → LawfulWrite s t w → AreSlots s (store_in t o) → AreSlots s (store_in (w ∷ t) o)
slots-on s t (Store n new) o l before = holds-on (store_in t) (AreSlots s) n o new (λ _. l.there) before
slots-on s t _ o l before = before

first-on : (s : Shape) (t : Trail) (w : Write) (o : ℕ) → LawfulWrite s t w → (0 < (store_in t o).capacity → IsSome (store_in t o).first) → 0 < (store_in (w ∷ t) o).capacity → IsSome (store_in (w ∷ t) o).first
first-on s t (Store n new) o l before = holds-on (store_in t) (λ (v : StoreWord). 0 < v.capacity → IsSome v.first) n o new (λ _. l.first) before
first-on s t _ o l before = before

parent-on : (s : Shape) (t : Trail) (w : Write) (m : ℕ) (p : Option ℕ) → LawfulWrite s t w → (parent_in t m ≡ Some p → IfSome p (λ q. q < s.maps)) → parent_in (w ∷ t) m ≡ Some p → IfSome p (λ q. q < s.maps)
parent-on s t (Parent n new) m p l before is = read-on (λ (o : Option ℕ). IfSome o (λ q. q < s.maps)) (parent_in t) n m new p l.there before is
parent-on s t _ m p l before is = before is

owner-on : (s : Shape) (t : Trail) (w : Write) (f m : ℕ) → LawfulWrite s t w → (owner_in t f ≡ Some m → m < s.maps) → owner_in (w ∷ t) f ≡ Some m → m < s.maps
owner-on s t (Owner n new) f m l before is = read-on (λ (x : ℕ). x < s.maps) (owner_in t) n f new m l.there before is
owner-on s t _ f m l before is = before is

head-there : (s : Shape) (t : Trail) (n : ℕ) (new : Option ℕ) → LawfulWrite s t (Head n new) → IfSome new (λ l. l < s.links)
head-there s t n (Some k) l = l.there
head-there s t n None l = absurd l

head-on : (s : Shape) (t : Trail) (w : Write) (m : ℕ) → LawfulWrite s t w → IfSome (head_in t m) (λ l. l < s.links) → IfSome (head_in (w ∷ t) m) (λ l. l < s.links)
head-on s t (Head n new) m l before = holds-on (head_in t) (λ (o : Option ℕ). IfSome o (λ k. k < s.links)) n m new (λ _. head-there s t n new l) before
head-on s t _ m l before = before

link_child-on : (s : Shape) (t : Trail) (w : Write) (k c : ℕ) → LawfulWrite s t w → (link_child_in t k ≡ Some c → c < s.maps) → link_child_in (w ∷ t) k ≡ Some c → c < s.maps
link_child-on s t (LinkChild n new) k c l before is = read-on (λ (x : ℕ). x < s.maps) (link_child_in t) n k new c l.there before is
link_child-on s t _ k c l before is = before is

link_next-on : (s : Shape) (t : Trail) (w : Write) (k : ℕ) (n : Option ℕ) → LawfulWrite s t w → (link_next_in t k ≡ Some n → IfSome n (λ q. q < s.links)) → link_next_in (w ∷ t) k ≡ Some n → IfSome n (λ q. q < s.links)
link_next-on s t (LinkNext n new) k v l before is = read-on (λ (o : Option ℕ). IfSome o (λ q. q < s.links)) (link_next_in t) n k new v l.there before is
link_next-on s t _ k v l before is = before is

-- An object's map

and-of : {T : Type 0} (P : T → Type 0) (o : Option T) → IsSomeAnd o P → (v : T) × ((o ≡ Some v) × P v)
and-of P (Some v) h = (v, (refl, h))
and-of P None h = absurd h

-- these slots are enough for the entries of an open map
abbrev AreEnoughFor : Trail → ℕ → StoreWord → Type 0
AreEnoughFor t m v = IsSomeAnd (gate_in t m) (λ g. g.entries ≤ v.capacity)

enough-on : (s : Shape) (t : Trail) (w : Write) (m : ℕ) (v : StoreWord) → LawfulWrite s t w → AreEnoughFor t m v → AreEnoughFor (w ∷ t) m v
enough-on s t w m v l h =
    let g = and-of (λ (g : GateWord). g.entries ≤ v.capacity) (gate_in t m) h in
    subst (λ (o : Option GateWord). IsSomeAnd o (λ g. g.entries ≤ v.capacity)) (sym (gate-stays s t w m g.0 l g.1.0)) g.1.1

more-enough : (t : Trail) (m : ℕ) (a b : StoreWord) → a.capacity ≤ b.capacity → AreEnoughFor t m a → AreEnoughFor t m b
more-enough t m a b le h = enough (gate_in t m) h
  where
    enough : (o : Option GateWord) → IsSomeAnd o (λ g. g.entries ≤ a.capacity) → IsSomeAnd o (λ g. g.entries ≤ b.capacity)
    enough (Some g) h = omega arith
    enough None h = absurd h

holds-enough : (t : Trail) (o m : ℕ) → IsSomeAnd (gate_in t m) (λ g. HoldsEntries t o m g) → AreEnoughFor t m (store_in t o)
holds-enough t o m h =
    let g = and-of (λ (g : GateWord). HoldsEntries t o m g) (gate_in t m) h in
    subst (λ (x : Option GateWord). IsSomeAnd x (λ g. g.entries ≤ (store_in t o).capacity)) (sym g.1.0) g.1.1.capacity

has-of : (s : Shape) (t : Trail) (o m : ℕ) (new : Option ℕ) → new ≡ Some m → IfSome new (λ x. MayHave s t o x) → HasPlacesFor s t o m
has-of s t o m (Some x) is may = let same : x ≡ m = cc in subst (HasPlacesFor s t o) same (record { there = may.there; is_open = holds-enough t o x may.filled })
has-of s t o m None is may = let n : ⊥ = cc in absurd n

map-case : (s : Shape) (t : Trail) (n o m : ℕ) (new : Option ℕ) (b : Bool) → eqb n o ≡ b → IfSome new (λ x. MayHave s t n x) → (map_in t o ≡ Some m → HasPlacesFor s t o m) → cond b new (map_in t o) ≡ Some m → HasPlacesFor s t o m
map-case s t n o m new true e may before is = subst (λ (x : ℕ). HasPlacesFor s t x m) (eqb-true n o e) (has-of s t n m new is may)
map-case s t n o m new false e may before is = before is

object-on : (s : Shape) (t : Trail) (w : Write) (o m : ℕ) → LawfulWrite s t w → (map_in t o ≡ Some m → HasPlacesFor s t o m) → map_in (w ∷ t) o ≡ Some m → HasPlacesFor s (w ∷ t) o m
object-on s t (ObjectMap n new) o m l before is = let has = map-case s t n o m new (eqb n o) refl l.gets before is in record { there = has.there; is_open = has.is_open }
object-on s t (Store n v) o m l before is = record {
  there = (before is).there;
  is_open = holds-on (store_in t) (λ (x : StoreWord). AreEnoughFor t m x) n o v (λ h. more-enough t m (store_in t n) v l.grows h) (before is).is_open;
}
object-on s t (Gate n g) o m l before is = record { there = (before is).there; is_open = enough-on s t (Gate n g) m (store_in t o) l (before is).is_open }
object-on s t _ o m l before is = let has = before is in record { there = has.there; is_open = has.is_open }

-- The entries of an open map

pub within-board : (s : Shape) (t : Trail) → Lawful s t → AllWithin s t
unfolding Lawful AllWithin
within-board s [] h = tt
within-board s (w ∷ t) h = (within-board s t h.0, h.1.within)

base-of : (s : Shape) (t : Trail) (b : Option ℕ) (k : ℕ) → AllWithin s t → IsSome (key_from t b k) → IsSomeAnd b (λ e. e + k < s.entries)
base-of s t (Some e) k within some =
    let key = some-of (entry_key_in t (e + k)) some in
    let no : s.entries ≤ e + k → ⊥ = λ le. (let none : entry_key_in t (e + k) ≡ None = says-nothing s t within KeyOfEntry (e + k) le in let is = key.1 in cc) in
    omega (arith, no)
base-of s t None k within some = let n : ⊥ = cc in absurd n

base-there : (s : Shape) (t : Trail) (m : ℕ) (g : GateWord) (k : ℕ) → Lawful s t → gate_in t m ≡ Some g → k < g.entries → IsSomeAnd (base_in t m) (λ e. e + k < s.entries)
base-there s t m g k h is lt = base-of s t (base_in t m) k (within-board s t h) ((open-of s t m g h is).entries.keys k lt)

forms-on : (s : Shape) (t : Trail) (w : Write) → Lawful s (w ∷ t) → LawfulWrite s t w → FormsHold s t → FormsHold s (w ∷ t)
forms-on s t w lawful l h = record {
  entry_key = λ e key is. key-on s t w e key l (h.entry_key e key) is;
  reference = λ e f is. reference-on s t w e f l (h.reference e f) is;
  class = λ f d is. let was = class-on s t w f d l (h.class f d) is in (was.0, there-stays s t w d.class l was.1);
  link_key = λ k key is. link-on s t w k key l (h.link_key k key) is;
  prototype = λ m o is. marked-on s t w (Some o) l (prototype-on s t w m (Some o) l (λ e q same. let same' : o ≡ q = cc in subst (λ (x : ℕ). (x < s.objects) × IsTrue (root_in t x).is_proto) same' (h.prototype m o e)) is) o refl;
  slots = λ o. slots-on s t w o l (h.slots o);
  first = λ o. first-on s t w o l (h.first o);
  parent = λ m p is. parent-on s t w m p l (h.parent m p) is;
  owner = λ f m is. owner-on s t w f m l (h.owner f m) is;
  head = λ m. head-on s t w m l (h.head m);
  link_child = λ k c is. link_child-on s t w k c l (h.link_child k c) is;
  link_next = λ k n is. link_next-on s t w k n l (h.link_next k n) is;
  object_map = λ o m is. object-on s t w o m l (h.object_map o m) is;
  base = λ m g k is lt. base-there s (w ∷ t) m g k lawful is lt;
}

pub forms-hold : (s : Shape) (t : Trail) → Lawful s t → FormsHold s t
unfolding Lawful
forms-hold s [] h = record {
  entry_key = λ e key is. let n : ⊥ = cc in absurd n;
  reference = λ e f is. let n : ⊥ = cc in absurd n;
  class = λ f d is. let n : ⊥ = cc in absurd n;
  link_key = λ k key is. let n : ⊥ = cc in absurd n;
  prototype = λ m o is. let n : ⊥ = cc in absurd n;
  slots = λ o. tt;
  first = λ o lt. absurd (omega arith);
  parent = λ m p is. let n : ⊥ = cc in absurd n;
  owner = λ f m is. let n : ⊥ = cc in absurd n;
  head = λ m. tt;
  link_child = λ k c is. let n : ⊥ = cc in absurd n;
  link_next = λ k n is. let x : ⊥ = cc in absurd x;
  object_map = λ o m is. let n : ⊥ = cc in absurd n;
  base = λ m g k is lt. let n : ⊥ = cc in absurd n;
}
forms-hold s (w ∷ t) h = forms-on s t w h h.1.lawful (forms-hold s t h.0)

-- Bits, and slots

dead-on : (s : Shape) (t : Trail) (w : Write) (m : ℕ) → LawfulWrite s t w → (IsTrue (bits_in t m).deprecated → IsTrue (bits_in t m).unstable) → IsTrue (bits_in (w ∷ t) m).deprecated → IsTrue (bits_in (w ∷ t) m).unstable
dead-on s t (Bits n b) m l before = holds-on (bits_in t) (λ (v : MapBits). IsTrue v.deprecated → IsTrue v.unstable) n m b (λ _. l.together) before
dead-on s t _ m l before = before

pub dead-unstable : (s : Shape) (t : Trail) (m : ℕ) → Lawful s t → IsTrue (bits_in t m).deprecated → IsTrue (bits_in t m).unstable
unfolding Lawful
dead-unstable s [] m h d = d
dead-unstable s (w ∷ t) m h d = dead-on s t w m h.1.lawful (dead-unstable s t m h.0) d

grow-on : (s : Shape) (t : Trail) (w : Write) (o c : ℕ) → LawfulWrite s t w → c ≤ (store_in t o).capacity → c ≤ (store_in (w ∷ t) o).capacity
grow-on s t (Store n v) o c l h = holds-on (store_in t) (λ (x : StoreWord). c ≤ x.capacity) n o v (λ k. let grows = l.grows in le_trans k grows) h
grow-on s t _ o c l h = h

grow-over : (s : Shape) (old : Trail) (o : ℕ) (more : List Write) → Lawful s (more ++ old) → (store_in old o).capacity ≤ (store_in (more ++ old) o).capacity
unfolding Lawful
grow-over s old o [] h = le_refl (store_in old o).capacity
grow-over s old o (w ∷ more) h = grow-on s (more ++ old) w o (store_in old o).capacity h.1.lawful (grow-over s old o more h.0)

pub stores-grow : (s : Shape) (old new : Trail) (o : ℕ) → GoesOn s old new → (store_in old o).capacity ≤ (store_in new o).capacity
stores-grow s old new o g = subst (λ (t : Trail). (store_in old o).capacity ≤ (store_in t o).capacity) (sym g.is) (grow-over s old o g.more (subst (Lawful s) g.is g.lawful))
