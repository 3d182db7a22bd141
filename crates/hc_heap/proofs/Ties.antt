-- The words of the board and the typed trail say the same.
use Rattle.std.proofs.Common.{◌≡◌, ℕ, zero, suc, ◌<◌, ◌≤◌, ◌⊎◌, inl, inr, ⊎_elim, Bool, true, false, cond, Option, Some, None, List, [], ◌∷◌, length, set, get_or, replicate, refl, sym, ap, ◌∙◌, subst, arith, eqb, ltb, eqb-true, ltb-true, ltb-false, lt-ltb, le-ltb}
use Rattle.std.proofs.lemmas.List.{get_or-set_same, get_or-set_other}
use Rattle.std.proofs.lemmas.Bool.{eqb-false}
use Rattle.hc_layout.specs.Shape.{items_of, words_of}
use Rattle.hc_layout.specs.Place.{IsAt, PlacesLie, PlacesAreFound, index_of, place_of}
use Rattle.hc_layout.specs.declared.place.Place.{Place}
use Rattle.hc_layout.specs.declared.shape.Region.{Region}
use Rattle.hc_layout.specs.declared.shape.Shape.{Shape}
use Rattle.hc_heap.specs.declared.kind.Kind.{Kind}
use Rattle.hc_heap.specs.Kinds.{region_of, word_of, place_at, kind_at}
use Rattle.hc_heap.specs.Writes.{Write, Trail, kind_written, item_written}
use Rattle.hc_heap.specs.Decode.{written, written_kind, written_place, write_of}
use Rattle.hc_heap.specs.Said.{word_in}
use Rattle.hc_heap.proofs.Forms.{IsKnown, Avoids, IsRead, is-written}
use Rattle.hc_heap.proofs.Places.{IsKindAt, kind-at, kind-back, word-fits}

-- a store that isn't a stray one: the kind and the item of its word
pub record IsStoreOf (s : Shape) (index w : ℕ) : Type 0 where
  pub kind : Kind
  pub item : ℕ
  pub place : IsAt s index (place_at kind item)
  pub is : write_of s (index, w) ≡ written kind item w

-- what holds of places
pub record PlaceLaws : Type 0 where
  pub lie : PlacesLie
  pub found : PlacesAreFound

-- one value, given twice
pub one-value : {A : Type 0} (a b : A) (o : Option A) → o ≡ Some a → o ≡ Some b → a ≡ b
one-value a b o e f = cc

same-place : (q r : Region) (x v w : ℕ) → q ≡ r → v ≡ w → (let a : Place = record { region = q; item = x; word = v } in let b : Place = record { region = r; item = x; word = w } in a ≡ b)
same-place q r x v w h k = cc

store-at : PlaceLaws → (s : Shape) (index w : ℕ) (p : Place) → place_of s index ≡ Some p → IsStoreOf s index w
store-at laws s index w p e =
    let at : IsAt s index p = laws.lie s index p e in
    let k : IsKindAt p.region p.word = kind-at p.region p.word at.place.word in
    let same : place_at k.kind p.item ≡ p = same-place (region_of k.kind) p.region p.item (word_of k.kind) p.word k.region k.word in
    record {
      kind = k.kind;
      item = p.item;
      place = subst (IsAt s index) (sym same) at;
      is = ap (λ (o : Option Place). written_place o w) e ∙ ap (λ (o : Option Kind). written_kind o p.item w) k.is;
    }

store-case : PlaceLaws → (s : Shape) (index w : ℕ) (o : Option Place) → place_of s index ≡ o → IsKnown (written_place o w) → IsStoreOf s index w
store-case laws s index w (Some p) e h = store-at laws s index w p e
store-case laws s index w None e h = absurd h

pub store-of : PlaceLaws → (s : Shape) (index w : ℕ) → IsKnown (write_of s (index, w)) → IsStoreOf s index w
store-of laws s index w h = store-case laws s index w (place_of s index) refl h

-- the word of an item that the board has
pub word-there : (s : Shape) (words : List ℕ) (kind : Kind) (x : ℕ) → x < items_of s (region_of kind) → word_in s words kind x ≡ get_or words (index_of s (place_at kind x)) 0
word-there s words kind x h = ap (λ (b : Bool). cond b (get_or words (index_of s (place_at kind x)) 0) 0) (lt-ltb x (items_of s (region_of kind)) h)

pub word-past : (s : Shape) (words : List ℕ) (kind : Kind) (x : ℕ) → items_of s (region_of kind) ≤ x → word_in s words kind x ≡ 0
word-past s words kind x h = ap (λ (b : Bool). cond b (get_or words (index_of s (place_at kind x)) 0) 0) (le-ltb x (items_of s (region_of kind)) h)

-- the place of an item's word
pub place-there : PlaceLaws → (s : Shape) (kind : Kind) (x : ℕ) → x < items_of s (region_of kind) → IsAt s (index_of s (place_at kind x)) (place_at kind x)
place-there laws s kind x h = laws.found s (place_at kind x) (record { item = h; word = word-fits kind })

same-kind : (a b : Kind) (x y : ℕ) → place_at a x ≡ place_at b y → (a ≡ b) × (x ≡ y)
same-kind a b x y e =
    (one-value a b (kind_at (region_of a) (word_of a)) (kind-back a) (ap (λ (p : Place). kind_at p.region p.word) e ∙ kind-back b), ap (λ (p : Place). p.item) e)

bool-cases : (b : Bool) → (b ≡ true) ⊎ (b ≡ false)
bool-cases true = inl refl
bool-cases false = inr refl

zeros : (width i : ℕ) → get_or {A = ℕ} (replicate width 0) i 0 ≡ 0
zeros zero i = refl
zeros (suc width) zero = refl
zeros (suc width) (suc i) = zeros width i

test-same : {T : Type 0} (b : Bool) (a : T) → cond b a a ≡ a
test-same true a = refl
test-same false a = refl

zero-in : (s : Shape) (width : ℕ) (kind : Kind) (x : ℕ) → word_in s (replicate width 0) kind x ≡ 0
zero-in s width kind x =
    ap (λ (n : ℕ). cond (ltb x (items_of s (region_of kind))) n 0) (zeros width (index_of s (place_at kind x))) ∙ test-same (ltb x (items_of s (region_of kind))) 0

module _ {T : Type 0} (kind : Kind) (read_word : ℕ → Option T) (reading : Trail → ℕ → Option T) (r : IsRead T kind read_word reading) (s : Shape) where
  -- each word of the kind says what the trail says
  abbrev pub IsTied : List ℕ → Trail → Type 0
  IsTied words t = (x : ℕ) → read_word (word_in s words kind x) ≡ reading t x

  tie-same : PlaceLaws → (words : List ℕ) (t : Trail) (index w x : ℕ) → index < length words → (store : IsStoreOf s index w) → IsKnown (write_of s (index, w)) → x < items_of s (region_of kind) → index ≡ index_of s (place_at kind x)
      → read_word (word_in s (set words index w) kind x) ≡ reading (write_of s (index, w) ∷ t) x
  tie-same laws words t index w x inside store known there e =
      let at : IsAt s index (place_at kind x) = subst (λ (i : ℕ). IsAt s i (place_at kind x)) (sym e) (place-there laws s kind x there) in
      let q : place_at store.kind store.item ≡ place_at kind x = one-value _ _ (place_of s index) store.place.value at.value in
      let k = same-kind store.kind kind store.item x q in
      let is : write_of s (index, w) ≡ written kind x w = store.is ∙ (ap (λ (a : Kind). written a store.item w) k.0 ∙ ap (λ (y : ℕ). written kind y w) k.1) in
      let word : word_in s (set words index w) kind x ≡ w = word-there s (set words index w) kind x there ∙ (ap (λ (i : ℕ). get_or (set words index w) i 0) (sym e) ∙ get_or-set_same words index w 0 inside) in
      ap read_word word ∙ (sym (r.same x w t (subst IsKnown is known)) ∙ ap (λ (v : Write). reading (v ∷ t) x) (sym is))

  -- the write of another word
  avoids : (index w x : ℕ) → (store : IsStoreOf s index w) → IsKnown (write_of s (index, w)) → (place_at store.kind store.item ≡ place_at kind x → ⊥) → Avoids kind x (write_of s (index, w))
  avoids index w x store known h a b =
      let k = is-written store.kind store.item w (subst IsKnown store.is known) in
      let kb : store.kind ≡ kind = one-value _ _ (kind_written (written store.kind store.item w)) k.0 (ap kind_written (sym store.is) ∙ a) in
      let kx : store.item ≡ x = sym k.1 ∙ (ap item_written (sym store.is) ∙ b) in
      h (ap (λ (c : Kind). place_at c store.item) kb ∙ ap (λ (y : ℕ). place_at kind y) kx)

  tie-other : (words : List ℕ) (t : Trail) (index w x : ℕ) → (store : IsStoreOf s index w) → IsKnown (write_of s (index, w)) → x < items_of s (region_of kind) → (index ≡ index_of s (place_at kind x) → ⊥)
      → read_word (word_in s words kind x) ≡ reading t x → read_word (word_in s (set words index w) kind x) ≡ reading (write_of s (index, w) ∷ t) x
  tie-other words t index w x store known there h was =
      let word : word_in s (set words index w) kind x ≡ word_in s words kind x = word-there s (set words index w) kind x there ∙ (get_or-set_other words index (index_of s (place_at kind x)) w 0 (λ e. h (sym e)) ∙ sym (word-there s words kind x there)) in
      let not_here : place_at store.kind store.item ≡ place_at kind x → ⊥ = λ e. h (sym store.place.index ∙ ap (index_of s) e) in
      ap read_word word ∙ (was ∙ sym (r.other (write_of s (index, w)) t x (avoids index w x store known not_here)))

  tie-past : (words : List ℕ) (t : Trail) (index w x : ℕ) → (store : IsStoreOf s index w) → IsKnown (write_of s (index, w)) → items_of s (region_of kind) ≤ x
      → read_word (word_in s words kind x) ≡ reading t x → read_word (word_in s (set words index w) kind x) ≡ reading (write_of s (index, w) ∷ t) x
  tie-past words t index w x store known past was =
      let word : word_in s (set words index w) kind x ≡ word_in s words kind x = word-past s (set words index w) kind x past ∙ sym (word-past s words kind x past) in
      let low : store.item < items_of s (region_of store.kind) = store.place.place.item in
      let not_here : place_at store.kind store.item ≡ place_at kind x → ⊥ = λ e. let k = same-kind store.kind kind store.item x e in
      let low' : store.item < items_of s (region_of kind) = subst (λ (a : Kind). store.item < items_of s (region_of a)) k.0 low in let same = k.1 in omega arith in
      ap read_word word ∙ (was ∙ sym (r.other (write_of s (index, w)) t x (avoids index w x store known not_here)))

  pub tie-store : PlaceLaws → (words : List ℕ) (t : Trail) (index w : ℕ) → length words ≡ words_of s → IsKnown (write_of s (index, w)) → IsTied words t → IsTied (set words index w) (write_of s (index, w) ∷ t)
  tie-store laws words t index w wide known was x =
      let store = store-of laws s index w known in
      let low : index < words_of s = store.place.within in
      let inside : index < length words = omega arith in
      ⊎_elim
      (λ (a : ltb x (items_of s (region_of kind)) ≡ true). let there : x < items_of s (region_of kind) = ltb-true x (items_of s (region_of kind)) a in
      ⊎_elim
      (λ (e : eqb index (index_of s (place_at kind x)) ≡ true). tie-same laws words t index w x inside store known there (eqb-true index (index_of s (place_at kind x)) e))
      (λ (e : eqb index (index_of s (place_at kind x)) ≡ false). tie-other words t index w x store known there (eqb-false index (index_of s (place_at kind x)) e) (was x))
      (bool-cases (eqb index (index_of s (place_at kind x)))))
      (λ (a : ltb x (items_of s (region_of kind)) ≡ false). tie-past words t index w x store known (ltb-false x (items_of s (region_of kind)) a) (was x))
      (bool-cases (ltb x (items_of s (region_of kind))))

  -- a board of zeros says what an empty trail says
  pub tie-start : (width : ℕ) → IsTied (replicate width 0) []
  tie-start width x = ap read_word (zero-in s width kind x) ∙ sym (r.zero x)
