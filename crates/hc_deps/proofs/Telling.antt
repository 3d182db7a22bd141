-- The words of a lawful trail's image say what the trail says.
use Rattle.std.proofs.Common.{◌≡◌, ℕ, ◌+◌, ◌-◌, ◌<◌, ◌≤◌, Bool, true, false, List, length, drop, refl, sym, ap, ◌∙◌, arith, subst}
use Rattle.std.specs.Prelude.{◌↔◌, Option, Some, None, IsSome, IsSomeAnd, nat_lt, if◌then◌else◌, slice_index, option_and_then}
use Rattle.hc_board.specs.Laws.{NowIsImage}
use Rattle.hc_board.specs.Trail.{Access, image_of}
use Rattle.hc_layout.specs.Place.{index_of}
use Rattle.hc_layout.specs.Shape.{items_of, words_of}
use Rattle.hc_layout.specs.Words.{map_bits_of, store_of}
use Rattle.hc_layout.specs.declared.shape.Shape.{Shape}
use Rattle.hc_layout.specs.declared.words.MapBits.{MapBits}
use Rattle.hc_layout.specs.declared.words.StoreWord.{StoreWord}
use Rattle.hc_value.specs.Field.{detail_of}
use Rattle.hc_value.specs.declared.field.Constness.TheVariants.{Const}
use Rattle.hc_value.specs.declared.field.Detail.{Detail}
use Rattle.hc_heap.specs.Decode.{typed, optional_number, any_word}
use Rattle.hc_heap.specs.Kept.{at, WordsSay, StoresAreWrites, WritesAreWithin, UnusedSaysNothing}
use Rattle.hc_heap.specs.Kinds.{region_of, place_at}
use Rattle.hc_heap.specs.Lawful.{Lawful, word_from}
use Rattle.hc_heap.specs.Readings.{bits_in, detail_in, map_in, store_in, slot_in}
use Rattle.hc_heap.specs.Said.{Says, SaysNothing}
use Rattle.hc_heap.specs.Writes.{Trail}
use Rattle.hc_heap.specs.declared.kind.Kind.{Kind}
use Rattle.hc_heap.specs.declared.kind.Kind.TheVariants.{BitsOfMap, DetailOfField, MapOfObject, StoreOfObject, WordOfSlot}
use Rattle.hc_plan.specs.declared.deps.Dep.{Dep}
use Rattle.hc_plan.specs.declared.deps.Dep.TheVariants.{Live, Stable, Rep as HasRep, Const as IsConst, Class as HasClass, Value as HasValue}
use Rattle.hc_deps.specs.Holds.{Holds, HoldsWord}
use Rattle.hc_deps.specs.Image.{bits_on, detail_on, slot_on}
use Rattle.hc_deps.specs.Trails.{HoldsIn, HoldsWordIn, HoldsAsTheTrailSays}

-- the laws of the layers below that it rests on
pub record Below : Type 0 where
  pub say : WordsSay
  pub are : StoresAreWrites
  pub now : NowIsImage
  pub within : WritesAreWithin
  pub unused : UnusedSaysNothing

there-by : (n m : ℕ) → nat_lt n m ≡ true → n < m
there-by n m e = grind (arith, e)

past-by : (n m : ℕ) → nat_lt n m ≡ false → m ≤ n
past-by n m e = grind (arith, e)

not-both : {T : Type 0} (n m : ℕ) → nat_lt n m ≡ false → n < m → T
not-both n m e h = absurd (grind (arith, e, h))

module _ (laws : Below) (s : Shape) (stores : List Access) (lawful : Lawful s (typed s stores)) where
  at-end : at (length stores) (typed s stores) ≡ typed s stores
  at-end =
      let same : length (typed s stores) ≡ length stores = laws.are s stores in
      let none : length (typed s stores) - length stores ≡ 0 = omega arith in
      ap (λ (n : ℕ). drop n (typed s stores)) none

  said : (kind : Kind) (item : ℕ) → item < items_of s (region_of kind)
      → Says kind (typed s stores) item (slice_index (image_of (words_of s) stores) (index_of s (place_at kind item)))
  said kind item there =
      subst (λ (t : Trail). Says kind t item (slice_index (image_of (words_of s) stores) (index_of s (place_at kind item)))) at-end
      (subst (λ (w : ℕ). Says kind (at (length stores) (typed s stores)) item w) (laws.now (words_of s) stores (index_of s (place_at kind item)))
      (laws.say s stores (length stores) kind item lawful there))

  silent : (kind : Kind) (item : ℕ) → items_of s (region_of kind) ≤ item → SaysNothing kind (typed s stores) item
  silent kind item past = laws.unused s (typed s stores) kind item (laws.within s (typed s stores) lawful) past

  bits-by : (m : ℕ) (b : Bool) → nat_lt m s.maps ≡ b
      → (if b then map_bits_of (slice_index (image_of (words_of s) stores) (index_of s (place_at BitsOfMap m))) else None) ≡ (if b then Some (bits_in (typed s stores) m) else None)
  bits-by m true e = said BitsOfMap m (there-by m s.maps e)
  bits-by m false e = refl

  detail-by : (f : ℕ) (b : Bool) → nat_lt f s.fields ≡ b
      → (if b then detail_of (slice_index (image_of (words_of s) stores) (index_of s (place_at DetailOfField f))) else None) ≡ detail_in (typed s stores) f
  detail-by f true e = said DetailOfField f (there-by f s.fields e)
  detail-by f false e = sym (silent DetailOfField f (past-by f s.fields e))

  map-by : (o : ℕ) (b : Bool) → nat_lt o s.objects ≡ b
      → option_and_then (λ (map : Option ℕ). map) (if b then optional_number (slice_index (image_of (words_of s) stores) (index_of s (place_at MapOfObject o))) else None) ≡ map_in (typed s stores) o
  map-by o true e = ap (option_and_then (λ (map : Option ℕ). map)) (said MapOfObject o (there-by o s.objects e))
  map-by o false e = sym (silent MapOfObject o (past-by o s.objects e))

  store-by : (o : ℕ) (b : Bool) → nat_lt o s.objects ≡ b
      → (if b then store_of (slice_index (image_of (words_of s) stores) (index_of s (place_at StoreOfObject o))) else None) ≡ (if b then Some (store_in (typed s stores) o) else None)
  store-by o true e = said StoreOfObject o (there-by o s.objects e)
  store-by o false e = refl

  slot-by : (k : ℕ) (b : Bool) → nat_lt k s.slots ≡ b
      → (if b then any_word (slice_index (image_of (words_of s) stores) (index_of s (place_at WordOfSlot k))) else None) ≡ (if b then Some (slot_in (typed s stores) k) else None)
  slot-by k true e = said WordOfSlot k (there-by k s.slots e)
  slot-by k false e = refl

  -- a fact of a map's bits
  flag-by : (P : MapBits → Type 0) (m : ℕ) (b : Bool) → nat_lt m s.maps ≡ b
      → IsSomeAnd (if b then Some (bits_in (typed s stores) m) else None) P ↔ ((m < s.maps) × P (bits_in (typed s stores) m))
  flag-by P m true e = ((λ p. (there-by m s.maps e, p)), (λ h. h.1))
  flag-by P m false e = ((λ p. absurd p), (λ h. not-both m s.maps e h.0))

  flag : (P : MapBits → Type 0) (m : ℕ) → IsSomeAnd (bits_on s (image_of (words_of s) stores) m) P ↔ ((m < s.maps) × P (bits_in (typed s stores) m))
  flag P m =
      subst (λ (o : Option MapBits). IsSomeAnd o P ↔ ((m < s.maps) × P (bits_in (typed s stores) m))) (sym (bits-by m (nat_lt m s.maps) refl))
      (flag-by P m (nat_lt m s.maps) refl)

  -- a fact of what a field admits
  field : (P : Detail → Type 0) (f : ℕ) → IsSomeAnd (detail_on s (image_of (words_of s) stores) f) P ↔ IsSomeAnd (detail_in (typed s stores) f) P
  field P f =
      subst (λ (o : Option Detail). IsSomeAnd o P ↔ IsSomeAnd (detail_in (typed s stores) f) P) (sym (detail-by f (nat_lt f s.fields) refl))
      ((λ p. p), (λ p. p))

  -- the word of a slot that is one of the board
  slot-from : (k w : ℕ) (b : Bool) → nat_lt k s.slots ≡ b → (if b then Some (slot_in (typed s stores) k) else None) ≡ Some w → (k < s.slots) × (slot_in (typed s stores) k ≡ w)
  slot-from k w true e h = (there-by k s.slots e, cc)
  slot-from k w false e h = absurd (cc)

  slot-to : (k w : ℕ) (b : Bool) → nat_lt k s.slots ≡ b → k < s.slots → slot_in (typed s stores) k ≡ w → (if b then Some (slot_in (typed s stores) k) else None) ≡ Some w
  slot-to k w true e there h = ap Some h
  slot-to k w false e there h = not-both k s.slots e there

  first-from : (k w : ℕ) (first : Option ℕ) → option_and_then (λ (n : ℕ). slot_on s (image_of (words_of s) stores) (n + k)) first ≡ Some w
      → IsSomeAnd first (λ n. n + k < s.slots) × (word_from (typed s stores) first k ≡ w)
  first-from k w None h = absurd (cc)
  first-from k w (Some n) h = slot-from (n + k) w (nat_lt (n + k) s.slots) refl (sym (slot-by (n + k) (nat_lt (n + k) s.slots) refl) ∙ h)

  first-to : (k w : ℕ) (first : Option ℕ) → IsSomeAnd first (λ n. n + k < s.slots) → word_from (typed s stores) first k ≡ w
      → option_and_then (λ (n : ℕ). slot_on s (image_of (words_of s) stores) (n + k)) first ≡ Some w
  first-to k w None h e = absurd h
  first-to k w (Some n) h e = slot-by (n + k) (nat_lt (n + k) s.slots) refl ∙ slot-to (n + k) w (nat_lt (n + k) s.slots) refl h e

  at-store : ℕ → StoreWord → Option ℕ
  at-store k store = option_and_then (λ (n : ℕ). slot_on s (image_of (words_of s) stores) (n + k)) store.first

  store-from : (o k w : ℕ) (b : Bool) → nat_lt o s.objects ≡ b → option_and_then (at-store k) (if b then Some (store_in (typed s stores) o) else None) ≡ Some w
      → IsSomeAnd (store_in (typed s stores) o).first (λ n. n + k < s.slots) × (word_from (typed s stores) (store_in (typed s stores) o).first k ≡ w)
  unfolding at-store
  store-from o k w true e h = first-from k w (store_in (typed s stores) o).first h
  store-from o k w false e h = absurd (cc)

  store-to : (o k w : ℕ) (b : Bool) → nat_lt o s.objects ≡ b → o < s.objects
      → IsSomeAnd (store_in (typed s stores) o).first (λ n. n + k < s.slots) → word_from (typed s stores) (store_in (typed s stores) o).first k ≡ w
      → option_and_then (at-store k) (if b then Some (store_in (typed s stores) o) else None) ≡ Some w
  unfolding at-store
  store-to o k w true e there h word = first-to k w (store_in (typed s stores) o).first h word
  store-to o k w false e there h word = not-both o s.objects e there

  fast-there : (o : ℕ) (b : Bool) → nat_lt o s.objects ≡ b → IsSome (map_in (typed s stores) o) → o < s.objects
  fast-there o true e h = there-by o s.objects e
  fast-there o false e h = let none = silent MapOfObject o (past-by o s.objects e) in absurd (grind (arith, none, h))

  value-from : (o k w : ℕ) → HoldsWord s (image_of (words_of s) stores) o k w → HoldsWordIn s (typed s stores) o k w
  unfolding at-store
  value-from o k w h =
      let word = store-from o k w (nat_lt o s.objects) refl (ap (option_and_then (at-store k)) (sym (store-by o (nat_lt o s.objects) refl)) ∙ h.holds) in
      record { fast = subst IsSome (map-by o (nat_lt o s.objects) refl) h.fast; there = word.0; holds = word.1 }

  value-to : (o k w : ℕ) → HoldsWordIn s (typed s stores) o k w → HoldsWord s (image_of (words_of s) stores) o k w
  unfolding at-store
  value-to o k w h = record {
    fast = subst IsSome (sym (map-by o (nat_lt o s.objects) refl)) h.fast;
    holds = ap (option_and_then (at-store k)) (store-by o (nat_lt o s.objects) refl)
        ∙ store-to o k w (nat_lt o s.objects) refl (fast-there o (nat_lt o s.objects) refl h.fast) h.there h.holds;
  }

  holds-by : (dep : Dep) → Holds s (image_of (words_of s) stores) dep ↔ HoldsIn s (typed s stores) dep
  holds-by (Live m) = flag (λ bits. bits.deprecated ≡ false) m
  holds-by (Stable m) = flag (λ bits. bits.unstable ≡ false) m
  holds-by (HasRep f rep) = field (λ detail. detail.rep ≡ rep) f
  holds-by (IsConst f) = field (λ detail. detail.constness ≡ Const) f
  holds-by (HasClass f class) = field (λ detail. detail.class ≡ class) f
  holds-by (HasValue o k w) = (value-from o k w, value-to o k w)

pub holds-in : Below → HoldsAsTheTrailSays
holds-in laws s stores dep lawful = holds-by laws s stores lawful dep
