-- Writes of the tree: classes that are wider than others, and what the writes of a class keep.
use Rattle.std.specs.Prelude.{◌≡◌, ℕ, Bool, true, false, Some, List, [], ◌∷◌, ◌++◌}
use Rattle.std.proofs.Common.{⊎_elim, inl, inr, cond, eqb, eqb-true, refl, sym, subst}
use Rattle.std.proofs.Math.Nat.{le_trans}
use Rattle.hc_layout.specs.declared.shape.Shape.{Shape}
use Rattle.hc_layout.specs.declared.words.MapBits.{MapBits}
use Rattle.hc_value.specs.declared.field.Detail.{Detail}
use Rattle.hc_heap.specs.Frames.{same-after}
use Rattle.hc_heap.specs.Kept.{Adds, AllMeet}
use Rattle.hc_heap.specs.Readings.{detail_in}
use Rattle.hc_heap.specs.Writes.{Write, Trail, Gate, Parent, Prototype, Bits, Base, Array, Head, EntryKey, Reference, Owner, FieldDetail, LinkKey, LinkChild, LinkNext, ObjectMap, Root, Store, Slot}
use Rattle.hc_tree.specs.Details.{DetailsAre, NoMap, Reshapes, WritesDetails}
use Rattle.hc_tree.specs.Dying.{Deprecates}
use Rattle.hc_tree.specs.Needs.{IsNoLess}
use Rattle.hc_tree.specs.Walking.{GrowsTree}

-- writes that reshape the tree later on do so from an earlier state on too, for fields that get more
pub reshapes-later : (old now : Shape) → IsNoLess old now → (Dies : ℕ → Type 0) (Gets More : ℕ → Detail → Type 0) → ((f : ℕ) (d : Detail) → Gets f d → More f d) → (t : Trail) (w : Write) → Reshapes now Dies Gets t w → Reshapes old Dies More t w
reshapes-later old now h Dies Gets More wider t (Gate m g) e = le_trans h.maps e
reshapes-later old now h Dies Gets More wider t (Parent m q) e = le_trans h.maps e
reshapes-later old now h Dies Gets More wider t (Prototype m q) e = le_trans h.maps e
reshapes-later old now h Dies Gets More wider t (Base m b) e = le_trans h.maps e
reshapes-later old now h Dies Gets More wider t (Array m a) e = le_trans h.maps e
reshapes-later old now h Dies Gets More wider t (EntryKey x key) e = le_trans h.entries e
reshapes-later old now h Dies Gets More wider t (Reference x f) e = le_trans h.entries e
reshapes-later old now h Dies Gets More wider t (Owner f m) e = le_trans h.fields e
reshapes-later old now h Dies Gets More wider t (FieldDetail f d) e = wider f d e
reshapes-later old now h Dies Gets More wider t (LinkKey l key) e = le_trans h.links e
reshapes-later old now h Dies Gets More wider t (LinkChild l c) e = le_trans h.links e
reshapes-later old now h Dies Gets More wider t (LinkNext l n) e = le_trans h.links e
reshapes-later old now h Dies Gets More wider t (Bits m b) e = e
reshapes-later old now h Dies Gets More wider t (Head m l) e = e
reshapes-later old now h Dies Gets More wider t (Root o r) e = e
reshapes-later old now h Dies Gets More wider t _ e = absurd e

-- writes by which some maps die are such by which more may
pub reshapes-dies : (used : Shape) (Dies More : ℕ → Type 0) → ((m : ℕ) → Dies m → More m) → (Gets : ℕ → Detail → Type 0) → (t : Trail) (w : Write) → Reshapes used Dies Gets t w → Reshapes used More Gets t w
reshapes-dies used Dies More wider Gets t (Bits m b) e = ⊎_elim (λ same. inl same) (λ dies. inr (wider m dies.0, dies.1)) e
reshapes-dies used Dies More wider Gets t _ e = e

-- where no map dies, they are writes of the tree alone
pub reshapes-grow : (used : Shape) (Gets : ℕ → Detail → Type 0) (t : Trail) (w : Write) → Reshapes used NoMap Gets t w → GrowsTree t w
reshapes-grow used Gets t (Bits m b) e = ⊎_elim (λ same. same) (λ dies. absurd dies.0) e
reshapes-grow used Gets t (Root o r) e = e
reshapes-grow used Gets t (ObjectMap o h) e = absurd e
reshapes-grow used Gets t (Store o w) e = absurd e
reshapes-grow used Gets t (Slot x w) e = absurd e
reshapes-grow used Gets t _ e = tt

detail-apart : {T : Type 0} (i x : ℕ) (a b : T) → (i ≡ x → ⊥) → cond (eqb i x) a b ≡ b
detail-apart i x a b other = by (eqb i x) refl
  where
    by : (c : Bool) → eqb i x ≡ c → cond c a b ≡ b
    by true e = absurd (other (eqb-true i x e))
    by false e = refl

rest-step : (used : Shape) (Dies : ℕ → Type 0) (Gets : ℕ → Detail → Type 0) (f : ℕ) → ((d : Detail) → Gets f d → ⊥) → (t : Trail) (w : Write) → Reshapes used Dies Gets t w → detail_in (w ∷ t) f ≡ detail_in t f
rest-step used Dies Gets f none t (FieldDetail x d) e = detail-apart x f (Some d) (detail_in t f) (λ is. none d (subst (λ (y : ℕ). Gets y d) is e))
rest-step used Dies Gets f none t _ e = refl

-- where all writes give only what is said, and it is there in the end, exactly that was got
pub details-by : {old new : Trail} (used : Shape) (Dies : ℕ → Type 0) (Gets : ℕ → Detail → Type 0) → Adds (Reshapes used Dies Gets) old new → ((f : ℕ) (d : Detail) → Gets f d → detail_in new f ≡ Some d) → DetailsAre Gets old new
details-by used Dies Gets writes gets = record {
  gets = gets;
  rest = λ f none. same-after (λ (t : Trail). detail_in t f) (rest-step used Dies Gets f none) writes;
}

-- a reading that no bits change is the same after maps were deprecated
pub dies-same : {T : Type 0} (top : Trail) (m : ℕ) (a b : Trail) (reading : Trail → T) → ((t : Trail) (c : ℕ) (w : MapBits) → reading (Bits c w ∷ t) ≡ reading t) → Adds (Deprecates top m) a b → reading b ≡ reading a
dies-same top m a b reading h adds = same-after reading step adds
  where
    step : (t : Trail) (w : Write) → Deprecates top m t w → reading (w ∷ t) ≡ reading t
    step t (Bits c w) e = h t c w
    step t _ e = absurd e

-- a reading that no detail changes is the same after details were written
pub details-same : {T : Type 0} (a b : Trail) (reading : Trail → T) → ((t : Trail) (f : ℕ) (d : Detail) → reading (FieldDetail f d ∷ t) ≡ reading t) → Adds WritesDetails a b → reading b ≡ reading a
details-same a b reading h adds = same-after reading step adds
  where
    step : (t : Trail) (w : Write) → WritesDetails t w → reading (w ∷ t) ≡ reading t
    step t (FieldDetail f d) e = h t f d
    step t _ e = absurd e

over : (P : Trail → Write → Type 0) (Q : Trail → Type 0) → ((t : Trail) (w : Write) → P t w → Q t → Q (w ∷ t)) → (old : Trail) (more : List Write) → AllMeet P old more → Q old → Q (more ++ old)
unfolding AllMeet
over P Q h old [] all q = q
over P Q h old (w ∷ more) all q = h (more ++ old) w all.1 (over P Q h old more all.0 q)

-- what each write of a class keeps is kept by a run of them
pub kept-after : {P : Trail → Write → Type 0} (Q : Trail → Type 0) → ((t : Trail) (w : Write) → P t w → Q t → Q (w ∷ t)) → {a b : Trail} → Adds P a b → Q a → Q b
kept-after {P} Q h {a} {b} x q = subst Q (sym x.is) (over P Q h a x.more x.meets q)
