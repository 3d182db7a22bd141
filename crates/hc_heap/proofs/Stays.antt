-- What one lawful write leaves as it was, and what it only raises.
use Rattle.std.proofs.Common.{◌≡◌, ℕ, ◌⊎◌, inl, inr, Bool, true, false, cond, Option, Some, None, ◌∷◌, refl, sym, ap, ◌∙◌, subst, eqb, eqb-true, eq-eqb, true≢false, IfSome}
use Rattle.std.specs.Prelude.{IsTrue, IsSomeAnd, ◌&&◌}
use Rattle.hc_layout.specs.declared.words.GateWord.{GateWord}
use Rattle.hc_layout.specs.declared.words.MapBits.{MapBits}
use Rattle.hc_layout.specs.declared.words.RootWord.{RootWord}
use Rattle.hc_layout.specs.declared.words.CellWord.{CellWord}
use Rattle.hc_value.specs.declared.key.Key.{Key}
use Rattle.hc_value.specs.declared.field.Detail.{Detail}
use Rattle.hc_layout.specs.declared.shape.Shape.{Shape}
use Rattle.hc_value.specs.Field.{in_place_of, is_within, is_constness_within, is_class_within}
use Rattle.hc_value.specs.declared.field.Rep.{Rep}
use Rattle.hc_value.specs.declared.field.Rep.TheVariants.{Smi, Wide, HeapObject, Tagged}
use Rattle.hc_value.specs.declared.field.Constness.{Constness}
use Rattle.hc_value.specs.declared.field.Constness.TheVariants.{Const, Mutable}
use Rattle.hc_value.specs.declared.field.Class.{Class}
use Rattle.hc_value.specs.declared.field.Class.TheVariants.{Of, Any}
use Rattle.hc_heap.specs.Writes.{Write, Trail, Gate, Parent, Prototype, Bits, EntryKey, Reference, Owner, FieldDetail, LinkKey, LinkChild, LinkNext, ObjectMap, Root, Store, Validity}
use Rattle.hc_heap.specs.Readings.{gate_in, parent_in, prototype_in, bits_in, entry_key_in, reference_in, owner_in, detail_in, link_key_in, link_child_in, link_next_in, map_in, root_in, store_in, validity_in}
use Rattle.hc_heap.specs.Lawful.{LawfulWrite, RisesTo}

-- a test, decided
pub bool-cases : (b : Bool) → (b ≡ true) ⊎ (b ≡ false)
bool-cases true = inl refl
bool-cases false = inr refl

none-some : {T : Type 0} (o : Option T) (v : T) → o ≡ None → o ≡ Some v → ⊥
none-some o v e f = cc

once-case : {T : Type 0} (R : ℕ → Option T) (n x : ℕ) (new v : T) (b : Bool) → eqb n x ≡ b → R n ≡ None → R x ≡ Some v → cond b (Some new) (R x) ≡ Some v
once-case R n x new v true e none some = absurd (none-some (R x) v (ap R (sym (eqb-true n x e)) ∙ none) some)
once-case R n x new v false e none some = some

-- a word that is written once stays
once : {T : Type 0} (R : ℕ → Option T) (n x : ℕ) (new v : T) → R n ≡ None → R x ≡ Some v → cond (eqb n x) (Some new) (R x) ≡ Some v
once R n x new v none some = once-case R n x new v (eqb n x) refl none some

pub gate-stays : (s : Shape) (t : Trail) (w : Write) (x : ℕ) (v : GateWord) → LawfulWrite s t w → gate_in t x ≡ Some v → gate_in (w ∷ t) x ≡ Some v
gate-stays s t (Gate n new) x v l e = once (gate_in t) n x new v l.unwritten e
gate-stays s t _ x v l e = e

pub parent-stays : (s : Shape) (t : Trail) (w : Write) (x : ℕ) (v : Option ℕ) → LawfulWrite s t w → parent_in t x ≡ Some v → parent_in (w ∷ t) x ≡ Some v
parent-stays s t (Parent n new) x v l e = once (parent_in t) n x new v l.unwritten e
parent-stays s t _ x v l e = e

pub prototype-stays : (s : Shape) (t : Trail) (w : Write) (x : ℕ) (v : Option ℕ) → LawfulWrite s t w → prototype_in t x ≡ Some v → prototype_in (w ∷ t) x ≡ Some v
prototype-stays s t (Prototype n new) x v l e = once (prototype_in t) n x new v l.unwritten e
prototype-stays s t _ x v l e = e

pub entry_key-stays : (s : Shape) (t : Trail) (w : Write) (x : ℕ) (v : Key) → LawfulWrite s t w → entry_key_in t x ≡ Some v → entry_key_in (w ∷ t) x ≡ Some v
entry_key-stays s t (EntryKey n new) x v l e = once (entry_key_in t) n x new v l.unwritten e
entry_key-stays s t _ x v l e = e

pub reference-stays : (s : Shape) (t : Trail) (w : Write) (x : ℕ) (v : ℕ) → LawfulWrite s t w → reference_in t x ≡ Some v → reference_in (w ∷ t) x ≡ Some v
reference-stays s t (Reference n new) x v l e = once (reference_in t) n x new v l.unwritten e
reference-stays s t _ x v l e = e

pub owner-stays : (s : Shape) (t : Trail) (w : Write) (x : ℕ) (v : ℕ) → LawfulWrite s t w → owner_in t x ≡ Some v → owner_in (w ∷ t) x ≡ Some v
owner-stays s t (Owner n new) x v l e = once (owner_in t) n x new v l.unwritten e
owner-stays s t _ x v l e = e

pub link_key-stays : (s : Shape) (t : Trail) (w : Write) (x : ℕ) (v : Key) → LawfulWrite s t w → link_key_in t x ≡ Some v → link_key_in (w ∷ t) x ≡ Some v
link_key-stays s t (LinkKey n new) x v l e = once (link_key_in t) n x new v l.unwritten e
link_key-stays s t _ x v l e = e

pub link_child-stays : (s : Shape) (t : Trail) (w : Write) (x : ℕ) (v : ℕ) → LawfulWrite s t w → link_child_in t x ≡ Some v → link_child_in (w ∷ t) x ≡ Some v
link_child-stays s t (LinkChild n new) x v l e = once (link_child_in t) n x new v l.unwritten e
link_child-stays s t _ x v l e = e

pub link_next-stays : (s : Shape) (t : Trail) (w : Write) (x : ℕ) (v : Option ℕ) → LawfulWrite s t w → link_next_in t x ≡ Some v → link_next_in (w ∷ t) x ≡ Some v
link_next-stays s t (LinkNext n new) x v l e = once (link_next_in t) n x new v l.unwritten e
link_next-stays s t _ x v l e = e

-- what is read keeps a property where each lawful write of the word does
holds-case : {T : Type 0} (R : ℕ → T) (P : T → Type 0) (n x : ℕ) (new : T) (b : Bool) → eqb n x ≡ b → (P (R n) → P new) → P (R x) → P (cond b new (R x))
holds-case R P n x new true e step holds = step (subst (λ (y : ℕ). P (R y)) (sym (eqb-true n x e)) holds)
holds-case R P n x new false e step holds = holds

pub holds-on : {T : Type 0} (R : ℕ → T) (P : T → Type 0) (n x : ℕ) (new : T) → (P (R n) → P new) → P (R x) → P (cond (eqb n x) new (R x))
holds-on R P n x new step holds = holds-case R P n x new (eqb n x) refl step holds

pub unstable-stays : (s : Shape) (t : Trail) (w : Write) (m : ℕ) → LawfulWrite s t w → IsTrue (bits_in t m).unstable → IsTrue (bits_in (w ∷ t) m).unstable
unstable-stays s t (Bits n b) m l h = holds-on (bits_in t) (λ (v : MapBits). IsTrue v.unstable) n m b l.unstable h
unstable-stays s t _ m l h = h

pub deprecated-stays : (s : Shape) (t : Trail) (w : Write) (m : ℕ) → LawfulWrite s t w → IsTrue (bits_in t m).deprecated → IsTrue (bits_in (w ∷ t) m).deprecated
deprecated-stays s t (Bits n b) m l h = holds-on (bits_in t) (λ (v : MapBits). IsTrue v.deprecated) n m b l.deprecated h
deprecated-stays s t _ m l h = h

pub marked-stays : (s : Shape) (t : Trail) (w : Write) (o : ℕ) → LawfulWrite s t w → IsTrue (root_in t o).is_proto → IsTrue (root_in (w ∷ t) o).is_proto
marked-stays s t (Root n r) o l h = holds-on (root_in t) (λ (v : RootWord). IsTrue v.is_proto) n o r l.stays h
marked-stays s t _ o l h = h

-- a cell that was this one is this one, and no less invalid
abbrev pub IsCellOf : CellWord → Option CellWord → Type 0
IsCellOf v o = IsSomeAnd o (λ w. (w.object ≡ v.object) × (IsTrue v.invalid → IsTrue w.invalid))

cell-falls : (v new : CellWord) (o : Option CellWord) → IfSome o (λ old. new ≡ record old { invalid = true }) → IsCellOf v o → IsCellOf v (Some new)
cell-falls v new (Some old) e h = (ap (λ (c : CellWord). c.object) e ∙ h.0, λ _. ap (λ (c : CellWord). c.invalid) e)
cell-falls v new None e h = absurd h

pub cell-stays : (s : Shape) (t : Trail) (w : Write) (c : ℕ) (v : CellWord) → LawfulWrite s t w → IsCellOf v (validity_in t c) → IsCellOf v (validity_in (w ∷ t) c)
cell-stays s t (Validity n new) c v l h = holds-on (validity_in t) (IsCellOf v) n c (Some new) (cell-falls v new (validity_in t n) l.falls) h
cell-stays s t _ c v l h = h

-- Details rise, and rise further.
within-on : (a b c : Rep) → IsTrue (is_within a b) → IsTrue (is_within b c) → IsTrue (is_within a c)
within-on Smi Smi Smi h k = refl
within-on Smi Smi Wide h k = refl
within-on Smi Smi HeapObject h k = absurd (true≢false (sym k))
within-on Smi Smi Tagged h k = refl
within-on Smi Wide Smi h k = refl
within-on Smi Wide Wide h k = refl
within-on Smi Wide HeapObject h k = absurd (true≢false (sym k))
within-on Smi Wide Tagged h k = refl
within-on Smi HeapObject Smi h k = refl
within-on Smi HeapObject Wide h k = refl
within-on Smi HeapObject HeapObject h k = absurd (true≢false (sym h))
within-on Smi HeapObject Tagged h k = refl
within-on Smi Tagged Smi h k = refl
within-on Smi Tagged Wide h k = refl
within-on Smi Tagged HeapObject h k = absurd (true≢false (sym k))
within-on Smi Tagged Tagged h k = refl
within-on Wide Smi Smi h k = absurd (true≢false (sym h))
within-on Wide Smi Wide h k = refl
within-on Wide Smi HeapObject h k = absurd (true≢false (sym h))
within-on Wide Smi Tagged h k = refl
within-on Wide Wide Smi h k = absurd (true≢false (sym k))
within-on Wide Wide Wide h k = refl
within-on Wide Wide HeapObject h k = absurd (true≢false (sym k))
within-on Wide Wide Tagged h k = refl
within-on Wide HeapObject Smi h k = absurd (true≢false (sym h))
within-on Wide HeapObject Wide h k = refl
within-on Wide HeapObject HeapObject h k = absurd (true≢false (sym h))
within-on Wide HeapObject Tagged h k = refl
within-on Wide Tagged Smi h k = absurd (true≢false (sym k))
within-on Wide Tagged Wide h k = refl
within-on Wide Tagged HeapObject h k = absurd (true≢false (sym k))
within-on Wide Tagged Tagged h k = refl
within-on HeapObject Smi Smi h k = absurd (true≢false (sym h))
within-on HeapObject Smi Wide h k = absurd (true≢false (sym h))
within-on HeapObject Smi HeapObject h k = refl
within-on HeapObject Smi Tagged h k = refl
within-on HeapObject Wide Smi h k = absurd (true≢false (sym h))
within-on HeapObject Wide Wide h k = absurd (true≢false (sym h))
within-on HeapObject Wide HeapObject h k = refl
within-on HeapObject Wide Tagged h k = refl
within-on HeapObject HeapObject Smi h k = absurd (true≢false (sym k))
within-on HeapObject HeapObject Wide h k = absurd (true≢false (sym k))
within-on HeapObject HeapObject HeapObject h k = refl
within-on HeapObject HeapObject Tagged h k = refl
within-on HeapObject Tagged Smi h k = absurd (true≢false (sym k))
within-on HeapObject Tagged Wide h k = absurd (true≢false (sym k))
within-on HeapObject Tagged HeapObject h k = refl
within-on HeapObject Tagged Tagged h k = refl
within-on Tagged Smi Smi h k = absurd (true≢false (sym h))
within-on Tagged Smi Wide h k = absurd (true≢false (sym h))
within-on Tagged Smi HeapObject h k = absurd (true≢false (sym h))
within-on Tagged Smi Tagged h k = refl
within-on Tagged Wide Smi h k = absurd (true≢false (sym h))
within-on Tagged Wide Wide h k = absurd (true≢false (sym h))
within-on Tagged Wide HeapObject h k = absurd (true≢false (sym h))
within-on Tagged Wide Tagged h k = refl
within-on Tagged HeapObject Smi h k = absurd (true≢false (sym h))
within-on Tagged HeapObject Wide h k = absurd (true≢false (sym h))
within-on Tagged HeapObject HeapObject h k = absurd (true≢false (sym h))
within-on Tagged HeapObject Tagged h k = refl
within-on Tagged Tagged Smi h k = absurd (true≢false (sym k))
within-on Tagged Tagged Wide h k = absurd (true≢false (sym k))
within-on Tagged Tagged HeapObject h k = absurd (true≢false (sym k))
within-on Tagged Tagged Tagged h k = refl

in-place-on : (a b c : Rep) → IsTrue (in_place_of a b) → IsTrue (in_place_of b c) → IsTrue (in_place_of a c)
in-place-on Smi Smi Smi h k = refl
in-place-on Smi Smi Wide h k = absurd (true≢false (sym k))
in-place-on Smi Smi HeapObject h k = absurd (true≢false (sym k))
in-place-on Smi Smi Tagged h k = refl
in-place-on Smi Wide Smi h k = refl
in-place-on Smi Wide Wide h k = absurd (true≢false (sym h))
in-place-on Smi Wide HeapObject h k = absurd (true≢false (sym h))
in-place-on Smi Wide Tagged h k = refl
in-place-on Smi HeapObject Smi h k = refl
in-place-on Smi HeapObject Wide h k = absurd (true≢false (sym h))
in-place-on Smi HeapObject HeapObject h k = absurd (true≢false (sym h))
in-place-on Smi HeapObject Tagged h k = refl
in-place-on Smi Tagged Smi h k = refl
in-place-on Smi Tagged Wide h k = absurd (true≢false (sym k))
in-place-on Smi Tagged HeapObject h k = absurd (true≢false (sym k))
in-place-on Smi Tagged Tagged h k = refl
in-place-on Wide Smi Smi h k = absurd (true≢false (sym h))
in-place-on Wide Smi Wide h k = refl
in-place-on Wide Smi HeapObject h k = absurd (true≢false (sym h))
in-place-on Wide Smi Tagged h k = absurd (true≢false (sym h))
in-place-on Wide Wide Smi h k = absurd (true≢false (sym k))
in-place-on Wide Wide Wide h k = refl
in-place-on Wide Wide HeapObject h k = absurd (true≢false (sym k))
in-place-on Wide Wide Tagged h k = absurd (true≢false (sym k))
in-place-on Wide HeapObject Smi h k = absurd (true≢false (sym h))
in-place-on Wide HeapObject Wide h k = refl
in-place-on Wide HeapObject HeapObject h k = absurd (true≢false (sym h))
in-place-on Wide HeapObject Tagged h k = absurd (true≢false (sym h))
in-place-on Wide Tagged Smi h k = absurd (true≢false (sym h))
in-place-on Wide Tagged Wide h k = refl
in-place-on Wide Tagged HeapObject h k = absurd (true≢false (sym h))
in-place-on Wide Tagged Tagged h k = absurd (true≢false (sym h))
in-place-on HeapObject Smi Smi h k = absurd (true≢false (sym h))
in-place-on HeapObject Smi Wide h k = absurd (true≢false (sym h))
in-place-on HeapObject Smi HeapObject h k = refl
in-place-on HeapObject Smi Tagged h k = refl
in-place-on HeapObject Wide Smi h k = absurd (true≢false (sym h))
in-place-on HeapObject Wide Wide h k = absurd (true≢false (sym h))
in-place-on HeapObject Wide HeapObject h k = refl
in-place-on HeapObject Wide Tagged h k = refl
in-place-on HeapObject HeapObject Smi h k = absurd (true≢false (sym k))
in-place-on HeapObject HeapObject Wide h k = absurd (true≢false (sym k))
in-place-on HeapObject HeapObject HeapObject h k = refl
in-place-on HeapObject HeapObject Tagged h k = refl
in-place-on HeapObject Tagged Smi h k = absurd (true≢false (sym k))
in-place-on HeapObject Tagged Wide h k = absurd (true≢false (sym k))
in-place-on HeapObject Tagged HeapObject h k = refl
in-place-on HeapObject Tagged Tagged h k = refl
in-place-on Tagged Smi Smi h k = absurd (true≢false (sym h))
in-place-on Tagged Smi Wide h k = absurd (true≢false (sym h))
in-place-on Tagged Smi HeapObject h k = absurd (true≢false (sym h))
in-place-on Tagged Smi Tagged h k = refl
in-place-on Tagged Wide Smi h k = absurd (true≢false (sym h))
in-place-on Tagged Wide Wide h k = absurd (true≢false (sym h))
in-place-on Tagged Wide HeapObject h k = absurd (true≢false (sym h))
in-place-on Tagged Wide Tagged h k = refl
in-place-on Tagged HeapObject Smi h k = absurd (true≢false (sym h))
in-place-on Tagged HeapObject Wide h k = absurd (true≢false (sym h))
in-place-on Tagged HeapObject HeapObject h k = absurd (true≢false (sym h))
in-place-on Tagged HeapObject Tagged h k = refl
in-place-on Tagged Tagged Smi h k = absurd (true≢false (sym k))
in-place-on Tagged Tagged Wide h k = absurd (true≢false (sym k))
in-place-on Tagged Tagged HeapObject h k = absurd (true≢false (sym k))
in-place-on Tagged Tagged Tagged h k = refl

constness-on : (a b c : Constness) → IsTrue (is_constness_within a b) → IsTrue (is_constness_within b c) → IsTrue (is_constness_within a c)
constness-on Const b c h k = refl
constness-on Mutable Const c h k = absurd (true≢false (sym h))
constness-on Mutable Mutable Const h k = absurd (true≢false (sym k))
constness-on Mutable Mutable Mutable h k = refl

class-on : (a b c : Class) → IsTrue (is_class_within a b) → IsTrue (is_class_within b c) → IsTrue (is_class_within a c)
class-on a b Any h k = refl
class-on a Any (Of n) h k = absurd (true≢false (sym k))
class-on Any (Of m) (Of n) h k = absurd (true≢false (sym h))
class-on (Of l) (Of m) (Of n) h k = subst (λ (x : ℕ). IsTrue (is_class_within (Of l) (Of x))) (eqb-true m n k) h

all-true : (x y z : Bool) → IsTrue x → IsTrue y → IsTrue z → IsTrue (x && y && z)
all-true true true true a b c = refl
all-true true true false a b c = c
all-true true false z a b c = b
all-true false y z a b c = a

each-true : (x y z : Bool) → IsTrue (x && y && z) → IsTrue x × IsTrue y × IsTrue z
each-true true true z h = (refl, refl, h)
each-true true false z h = absurd (true≢false (sym h))
each-true false y z h = absurd (true≢false (sym h))

pub rises-on : (a b c : Detail) → RisesTo a b → RisesTo b c → RisesTo a c
rises-on a b c h k =
    let p = each-true (is_within a.rep b.rep) (is_constness_within a.constness b.constness) (is_class_within a.class b.class) h.within in
    let q = each-true (is_within b.rep c.rep) (is_constness_within b.constness c.constness) (is_class_within b.class c.class) k.within in
    record {
      in_place = in-place-on a.rep b.rep c.rep h.in_place k.in_place;
      within = all-true _ _ _ (within-on a.rep b.rep c.rep p.0 q.0) (constness-on a.constness b.constness c.constness p.1 q.1) (class-on a.class b.class c.class p.2 q.2);
    }

within-itself : (a : Rep) → IsTrue (is_within a a)
within-itself Smi = refl
within-itself Wide = refl
within-itself HeapObject = refl
within-itself Tagged = refl

in-place-itself : (a : Rep) → IsTrue (in_place_of a a)
in-place-itself Smi = refl
in-place-itself Wide = refl
in-place-itself HeapObject = refl
in-place-itself Tagged = refl

constness-itself : (a : Constness) → IsTrue (is_constness_within a a)
constness-itself Const = refl
constness-itself Mutable = refl

class-itself : (a : Class) → IsTrue (is_class_within a a)
class-itself Any = refl
class-itself (Of m) = eq-eqb m m refl

pub rises-itself : (a : Detail) → RisesTo a a
rises-itself a = record { in_place = in-place-itself a.rep; within = all-true _ _ _ (within-itself a.rep) (constness-itself a.constness) (class-itself a.class) }

-- a detail that rose from this one
abbrev pub HasRisen : Detail → Option Detail → Type 0
HasRisen d o = IsSomeAnd o (λ e. RisesTo d e)

detail-rises : (d new : Detail) (o : Option Detail) → IfSome o (λ e. RisesTo e new) → HasRisen d o → HasRisen d (Some new)
detail-rises d new (Some e) l h = rises-on d e new h l
detail-rises d new None l h = absurd h

pub detail-stays : (s : Shape) (t : Trail) (w : Write) (f : ℕ) (d : Detail) → LawfulWrite s t w → HasRisen d (detail_in t f) → HasRisen d (detail_in (w ∷ t) f)
detail-stays s t (FieldDetail n new) f d l h = holds-on (detail_in t) (HasRisen d) n f (Some new) (detail-rises d new (detail_in t n) l.rises) h
detail-stays s t _ f d l h = h

-- Objects at stable maps

unstable-not : (t : Trail) (h : ℕ) (o : Option ℕ) → IfSome o (λ m. IsTrue (bits_in t m).unstable) → o ≡ Some h → (bits_in t h).unstable ≡ false → ⊥
unstable-not t h (Some m) leaves is stable = let same : m ≡ h = cc in true≢false (sym (subst (λ (x : ℕ). IsTrue (bits_in t x).unstable) same leaves) ∙ stable)
unstable-not t h None leaves is stable = let n : ⊥ = cc in n

same-case : {T : Type 0} (R : ℕ → T) (n x : ℕ) (new : T) (b : Bool) → eqb n x ≡ b → (n ≡ x → ⊥) → cond b new (R x) ≡ R x
same-case R n x new true e h = absurd (h (eqb-true n x e))
same-case R n x new false e h = refl

pub map-stays : (s : Shape) (t : Trail) (w : Write) (o h : ℕ) → LawfulWrite s t w → map_in t o ≡ Some h → (bits_in t h).unstable ≡ false → map_in (w ∷ t) o ≡ map_in t o
map-stays s t (ObjectMap n new) o h l is stable =
    same-case (map_in t) n o new (eqb n o) refl (λ e. unstable-not t h (map_in t n) l.leaves (ap (map_in t) e ∙ is) stable)
map-stays s t _ o h l is stable = refl

pub store-stays : (s : Shape) (t : Trail) (w : Write) (o h : ℕ) → LawfulWrite s t w → map_in t o ≡ Some h → (bits_in t h).unstable ≡ false → store_in (w ∷ t) o ≡ store_in t o
store-stays s t (Store n new) o h l is stable =
    same-case (store_in t) n o new (eqb n o) refl (λ e. unstable-not t h (map_in t n) l.free (ap (map_in t) e ∙ is) stable)
store-stays s t _ o h l is stable = refl
