-- The arrays of maps: a new one, and those that stay while a new map is filled.
use Rattle.std.proofs.Common.{◌≡◌, ℕ, ◌+◌, ◌<◌, Bool, true, false, cond, Option, Some, ◌∷◌, refl, sym, ap, ◌∙◌, subst, arith, eqb, eqb-true}
use Rattle.std.proofs.lemmas.Bool.Decides.{nat_tests}
use Rattle.hc_layout.specs.Capacity.{cap_of}
use Rattle.hc_layout.specs.declared.words.ArrayWord.{ArrayWord}
use Rattle.hc_heap.specs.Writes.{Trail, Write, Base, Array, EntryKey, Reference, Owner, FieldDetail}
use Rattle.hc_heap.specs.Readings.{no_array, base_in, array_in, entry_key_in, reference_in}
use Rattle.hc_heap.specs.Kept.{Adds}
use Rattle.hc_heap.specs.Frames.{same-after}
use Rattle.hc_heap.specs.States.{AreArraysThere}
use Rattle.hc_descs.specs.Entries.{AreFree}
use Rattle.hc_descs.specs.Copies.{array_for, own_array, HasArray, HasOwnArray}
use Rattle.hc_tree.specs.Copying.{FillsCopy}

-- the array of some entries
pub array-some : (n : ℕ) → 0 < n → array_for n ≡ own_array (cap_of n)
array-some n lt = let no : eqb n 0 ≡ false = grind (arith, nat_tests, lt) in ap (λ (b : Bool). cond b no_array (own_array (cap_of n))) no

some-is : {T : Type 0} (a b : T) (o : Option T) → o ≡ Some a → o ≡ Some b → a ≡ b
some-is a b o p q = cc

-- a map that was given an array has it
pub own-has : (t : Trail) (c n first : ℕ) → 0 < n → HasOwnArray t c n first → AreFree t (first + n) → HasArray t c n
own-has t c n first lt own free = record {
  array = own.array ∙ sym (array-some n lt);
  spare = λ b k is le below. (let same : first ≡ b = some-is first b (base_in t c) own.base is in free (b + k) (omega (arith, same, le)));
}

-- a map without an entry needs none
pub no-has : (t : Trail) (c n : ℕ) → n ≡ 0 → array_in t c ≡ no_array → HasArray t c n
no-has t c n none is = subst (HasArray t c) (sym none) (record {
  array = is;
  spare = λ b k base le lt. (let no : k < 0 = subst (λ (a : ArrayWord). k < a.capacity) is lt in absurd (omega (arith, no)));
})

-- What filling a new map leaves of the others

other : {T : Type 0} (x y : ℕ) (a b : T) → (x ≡ y → ⊥) → cond (eqb x y) a b ≡ b
other x y a b apart = which (eqb x y) refl
  where
    which : (test : Bool) → eqb x y ≡ test → cond test a b ≡ b
    which true e = absurd (apart (eqb-true x y e))
    which false e = refl

module _ (c e f m : ℕ) (apart : c ≡ m → ⊥) where
  array-step : (t : Trail) (w : Write) → FillsCopy c e f t w → array_in (w ∷ t) m ≡ array_in t m
  array-step t (Array x a) h = other x m a (array_in t m) (λ is. apart (sym h ∙ is))
  array-step t (Base x b) h = refl
  array-step t (EntryKey x k) h = refl
  array-step t (Reference x y) h = refl
  array-step t (Owner x y) h = refl
  array-step t (FieldDetail x d) h = refl
  array-step t _ h = absurd h

  base-step : (t : Trail) (w : Write) → FillsCopy c e f t w → base_in (w ∷ t) m ≡ base_in t m
  base-step t (Base x b) h = other x m b (base_in t m) (λ is. apart (sym h ∙ is))
  base-step t (Array x a) h = refl
  base-step t (EntryKey x k) h = refl
  base-step t (Reference x y) h = refl
  base-step t (Owner x y) h = refl
  base-step t (FieldDetail x d) h = refl
  base-step t _ h = absurd h

  key-step : (x : ℕ) → x < e → (t : Trail) (w : Write) → FillsCopy c e f t w → entry_key_in (w ∷ t) x ≡ entry_key_in t x
  key-step x lt t (EntryKey y k) h = other y x (Some k) (entry_key_in t x) (λ is. omega (arith, is, h, lt))
  key-step x lt t (Base y b) h = refl
  key-step x lt t (Array y a) h = refl
  key-step x lt t (Reference y z) h = refl
  key-step x lt t (Owner y z) h = refl
  key-step x lt t (FieldDetail y d) h = refl
  key-step x lt t _ h = absurd h

  reference-step : (x : ℕ) → x < e → (t : Trail) (w : Write) → FillsCopy c e f t w → reference_in (w ∷ t) x ≡ reference_in t x
  reference-step x lt t (Reference y z) h = other y x (Some z) (reference_in t x) (λ is. omega (arith, is, h, lt))
  reference-step x lt t (Base y b) h = refl
  reference-step x lt t (Array y a) h = refl
  reference-step x lt t (EntryKey y k) h = refl
  reference-step x lt t (Owner y z) h = refl
  reference-step x lt t (FieldDetail y d) h = refl
  reference-step x lt t _ h = absurd h

  -- another map has its array, where all arrays were handed out before
  pub filled-array : (a b : Trail) (n : ℕ) → Adds (FillsCopy c e f) a b → AreArraysThere e a → HasArray a m n → HasArray b m n
  filled-array a b n adds there h =
      let array : array_in b m ≡ array_in a m = same-after (λ (t : Trail). array_in t m) array-step adds in
      let base : base_in b m ≡ base_in a m = same-after (λ (t : Trail). base_in t m) base-step adds in
      record {
        array = array ∙ h.array;
        spare = λ x k is le lt.
            let was : base_in a m ≡ Some x = sym base ∙ is in
            let below : k < (array_in a m).capacity = subst (λ (w : ArrayWord). k < w.capacity) array lt in
            let free = h.spare x k was le below in
            let all = there m x was in
            let before : x + k < e = omega (arith, below, all) in
            record {
              key = same-after (λ (t : Trail). entry_key_in t (x + k)) (key-step (x + k) before) adds ∙ free.key;
              field = same-after (λ (t : Trail). reference_in t (x + k)) (reference-step (x + k) before) adds ∙ free.field;
            };
      }
