-- What a lawful trail keeps for good.
use Rattle.std.proofs.Common.{◌≡◌, ℕ, zero, suc, ◌+◌, ◌-◌, ◌<◌, ◌≤◌, ◌⊎◌, inl, inr, ⊎_elim, Bool, true, false, cond, Option, Some, None, List, [], ◌∷◌, ◌++◌, length, take, drop, get_or, refl, sym, ap, ◌∙◌, subst, arith, eqb, eqb-true, true≢false, IfSome, IsSome, is_some}
use Rattle.std.specs.Prelude.{IsTrue, IsSomeAnd}
use Rattle.std.proofs.lemmas.List.{take-append-drop}
use Rattle.hc_board.specs.Trail.{Access, image_of, word_at}
use Rattle.hc_layout.specs.Shape.{items_of, words_of}
use Rattle.hc_layout.specs.Place.{index_of}
use Rattle.hc_heap.specs.declared.kind.Kind.{Kind}
use Rattle.hc_heap.specs.Kinds.{region_of, place_at}
use Rattle.hc_heap.specs.Said.{Says}
use Rattle.hc_heap.proofs.Ties.{PlaceLaws, word-there}
use Rattle.hc_heap.proofs.Saying.{words-say}
use Rattle.hc_layout.specs.declared.shape.Shape.{Shape}
use Rattle.hc_layout.specs.declared.words.GateWord.{GateWord}
use Rattle.hc_layout.specs.declared.words.StoreWord.{StoreWord}
use Rattle.hc_value.specs.declared.key.Key.{Key}
use Rattle.hc_value.specs.declared.field.Detail.{Detail}
use Rattle.hc_heap.specs.Writes.{Write, Trail, Gate, Base}
use Rattle.hc_heap.specs.Decode.{write_of, put_before, typed}
use Rattle.hc_heap.specs.Readings.{gate_in, parent_in, prototype_in, bits_in, base_in, entry_key_in, reference_in, owner_in, detail_in, link_key_in, link_child_in, link_next_in, map_in, root_in, store_in, validity_in}
use Rattle.hc_heap.specs.Lawful.{Lawful, LawfulWrite, LawfulGate, RisesTo, IsField, SameEntries, key_from, field_from}
use Rattle.hc_heap.specs.Kept.{at, GoesOn, WrittenStays, OnlySet, EntriesStay, IsOpen, ObjectStays}
use Rattle.hc_heap.proofs.Stays.{bool-cases, gate-stays, parent-stays, prototype-stays, entry_key-stays, reference-stays, owner-stays, link_key-stays, link_child-stays, link_next-stays, unstable-stays, deprecated-stays, marked-stays, IsCellOf, cell-stays, HasRisen, rises-itself, detail-stays, map-stays, store-stays}

module _ (s : Shape) where
  keeps : (P : Trail → Type 0) → ((t : Trail) (w : Write) → LawfulWrite s t w → P t → P (w ∷ t)) → (old : Trail) (more : List Write) → Lawful s (more ++ old) → P old → P (more ++ old)
  unfolding Lawful
  keeps P step old [] h p = p
  keeps P step old (w ∷ more) h p = step (more ++ old) w h.1.lawful (keeps P step old more h.0 p)

  -- what each lawful write keeps is kept
  pub kept : (P : Trail → Type 0) → ((t : Trail) (w : Write) → LawfulWrite s t w → P t → P (w ∷ t)) → (old new : Trail) → GoesOn s old new → P old → P new
  kept P step old new g p = subst P (sym g.is) (keeps P step old g.more (subst (Lawful s) g.is g.lawful) p)

  lawful-under : (old : Trail) (more : List Write) → Lawful s (more ++ old) → Lawful s old
  unfolding Lawful
  lawful-under old [] h = h
  lawful-under old (w ∷ more) h = lawful-under old more h.0

  pub lawful-old : (old new : Trail) → GoesOn s old new → Lawful s old
  lawful-old old new g = lawful-under old g.more (subst (Lawful s) g.is g.lawful)

  pub written-kept : (old new : Trail) → GoesOn s old new → WrittenStays old new
  written-kept old new g = record {
    gate = λ x v e. kept (λ t. gate_in t x ≡ Some v) (λ t w l p. gate-stays s t w x v l p) old new g e;
    parent = λ x v e. kept (λ t. parent_in t x ≡ Some v) (λ t w l p. parent-stays s t w x v l p) old new g e;
    prototype = λ x v e. kept (λ t. prototype_in t x ≡ Some v) (λ t w l p. prototype-stays s t w x v l p) old new g e;
    entry_key = λ x v e. kept (λ t. entry_key_in t x ≡ Some v) (λ t w l p. entry_key-stays s t w x v l p) old new g e;
    reference = λ x v e. kept (λ t. reference_in t x ≡ Some v) (λ t w l p. reference-stays s t w x v l p) old new g e;
    owner = λ x v e. kept (λ t. owner_in t x ≡ Some v) (λ t w l p. owner-stays s t w x v l p) old new g e;
    link_key = λ x v e. kept (λ t. link_key_in t x ≡ Some v) (λ t w l p. link_key-stays s t w x v l p) old new g e;
    link_child = λ x v e. kept (λ t. link_child_in t x ≡ Some v) (λ t w l p. link_child-stays s t w x v l p) old new g e;
    link_next = λ x v e. kept (λ t. link_next_in t x ≡ Some v) (λ t w l p. link_next-stays s t w x v l p) old new g e;
  }

  pub set-kept : (old new : Trail) → GoesOn s old new → OnlySet old new
  set-kept old new g = record {
    unstable = λ m h. kept (λ t. IsTrue (bits_in t m).unstable) (λ t w l p. unstable-stays s t w m l p) old new g h;
    deprecated = λ m h. kept (λ t. IsTrue (bits_in t m).deprecated) (λ t w l p. deprecated-stays s t w m l p) old new g h;
    invalid = λ c v e. kept (λ t. IsCellOf v (validity_in t c)) (λ t w l p. cell-stays s t w c v l p) old new g (subst (IsCellOf v) (sym e) (refl, λ i. i));
    prototype = λ o h. kept (λ t. IsTrue (root_in t o).is_proto) (λ t w l p. marked-stays s t w o l p) old new g h;
  }

  pub details-rise : (old new : Trail) (f : ℕ) (d : Detail) → GoesOn s old new → detail_in old f ≡ Some d → HasRisen d (detail_in new f)
  details-rise old new f d g e = kept (λ t. HasRisen d (detail_in t f)) (λ t w l p. detail-stays s t w f d l p) old new g (subst (HasRisen d) (sym e) (rises-itself d))

  -- an object with a map that isn't unstable

  StaysWith : ℕ → ℕ → StoreWord → Trail → Type 0
  StaysWith o h slots t = (bits_in t h).unstable ≡ false → (map_in t o ≡ Some h) × (store_in t o ≡ slots)

  stays-step : (o h : ℕ) (slots : StoreWord) (t : Trail) (w : Write) → LawfulWrite s t w → StaysWith o h slots t → StaysWith o h slots (w ∷ t)
  unfolding StaysWith
  stays-step o h slots t w l p later =
      let before : (bits_in t h).unstable ≡ false = ⊎_elim (λ (e : (bits_in t h).unstable ≡ true). absurd (true≢false (sym (unstable-stays s t w h l e) ∙ later))) (λ (e : (bits_in t h).unstable ≡ false). e) (bool-cases (bits_in t h).unstable) in
      let q = p before in
      (map-stays s t w o h l q.0 before ∙ q.0, store-stays s t w o h l q.0 before ∙ q.1)

  pub stable-kept : (old new : Trail) (o h : ℕ) → GoesOn s old new → map_in old o ≡ Some h → (bits_in new h).unstable ≡ false → ObjectStays old new o h
  unfolding StaysWith
  stable-kept old new o h g e stable =
      let q = kept (StaysWith o h (store_in old o)) (stays-step o h (store_in old o)) old new g (λ _. (e, refl)) stable in
      record { map = q.0; store = q.1 }

  -- the entries of a map whose gate is written

  some-of : {T : Type 0} (o : Option T) → IsSome o → (v : T) × (o ≡ Some v)
  some-of (Some v) h = (v, refl)
  some-of None h = absurd (true≢false (sym h))

  some-and : {T : Type 0} (P : T → Type 0) (o : Option T) → IsSomeAnd o P → (v : T) × (o ≡ Some v) × P v
  some-and P (Some v) h = (v, refl, h)
  some-and P None h = absurd h

  is-some : {T : Type 0} (o : Option T) (v : T) → o ≡ Some v → IsSome o
  is-some o v e = ap is_some e

  key-from-stays : (t : Trail) (w : Write) (b : Option ℕ) (k : ℕ) (v : Key) → LawfulWrite s t w → key_from t b k ≡ Some v → key_from (w ∷ t) b k ≡ Some v
  key-from-stays t w (Some e) k v l h = entry_key-stays s t w (e + k) v l h
  key-from-stays t w None k v l h = h

  field-from-stays : (t : Trail) (w : Write) (b : Option ℕ) (k f : ℕ) → LawfulWrite s t w → field_from t b k ≡ Some f → field_from (w ∷ t) b k ≡ Some f
  field-from-stays t w (Some e) k f l h = reference-stays s t w (e + k) f l h
  field-from-stays t w None k f l h = h

  same-at : (t : Trail) (o : Option GateWord) (a b : Option ℕ) (g : GateWord) → IfSome o (λ v. SameEntries t a b v.entries) → o ≡ Some g → SameEntries t a b g.entries
  same-at t o a b g h e = subst (λ (x : Option GateWord). IfSome x (λ v. SameEntries t a b v.entries)) e h

  -- the first entries that a map's base names after a write, before the write
  pub record SameBefore (t : Trail) (a b : Option ℕ) (n : ℕ) : Type 0 where
    pub keys : (k : ℕ) → k < n → key_from t b k ≡ key_from t a k
    pub fields : (k : ℕ) → k < n → field_from t b k ≡ field_from t a k

  base-case : (t : Trail) (n m : ℕ) (b : Option ℕ) (g : GateWord) (test : Bool) → eqb n m ≡ test → IfSome (gate_in t n) (λ v. SameEntries t (base_in t n) b v.entries) → gate_in t m ≡ Some g
      → SameBefore t (base_in t m) (cond test b (base_in t m)) g.entries
  base-case t n m b g true e l h =
      let l' : IfSome (gate_in t m) (λ v. SameEntries t (base_in t m) b v.entries) = subst (λ (x : ℕ). IfSome (gate_in t x) (λ v. SameEntries t (base_in t x) b v.entries)) (eqb-true n m e) l in
      let same = same-at t (gate_in t m) (base_in t m) b g l' h in
      record { keys = same.keys; fields = same.fields }
  base-case t n m b g false e l h = record { keys = λ k lt. refl; fields = λ k lt. refl }

  base-same : (t : Trail) (w : Write) (m : ℕ) (g : GateWord) → LawfulWrite s t w → gate_in t m ≡ Some g → SameBefore t (base_in t m) (base_in (w ∷ t) m) g.entries
  base-same t (Base n b) m g l h = base-case t n m b g (eqb n m) refl l.same h
  base-same t _ m g l h = record { keys = λ k lt. refl; fields = λ k lt. refl }

  field-stays : (t : Trail) (w : Write) (f : ℕ) → LawfulWrite s t w → IsField t f → IsField (w ∷ t) f
  field-stays t w f l h =
      let o = some-of (owner_in t f) h.owner in
      let d = some-of (detail_in t f) h.detail in
      let risen = some-and (λ e. RisesTo d.0 e) (detail_in (w ∷ t) f) (detail-stays s t w f d.0 l (subst (HasRisen d.0) (sym d.1) (rises-itself d.0))) in
      record {
        owner = is-some (owner_in (w ∷ t) f) o.0 (owner-stays s t w f o.0 l o.1);
        detail = is-some (detail_in (w ∷ t) f) risen.0 risen.1;
      }

  open-on : (t : Trail) (w : Write) (m : ℕ) (g : GateWord) → LawfulWrite s t w → SameBefore t (base_in t m) (base_in (w ∷ t) m) g.entries → IsOpen t m g → IsOpen (w ∷ t) m g
  open-on t w m g l same h =
      let p = some-of (parent_in t m) h.parent in
      let q = some-of (prototype_in t m) h.prototype in
      record {
        parent = is-some (parent_in (w ∷ t) m) p.0 (parent-stays s t w m p.0 l p.1);
        prototype = is-some (prototype_in (w ∷ t) m) q.0 (prototype-stays s t w m q.0 l q.1);
        few = h.few;
        entries = record {
          keys = λ k lt.
              let v = some-of (key_from t (base_in t m) k) (h.entries.keys k lt) in
              is-some (key_from (w ∷ t) (base_in (w ∷ t) m) k) v.0 (key-from-stays t w (base_in (w ∷ t) m) k v.0 l (same.keys k lt ∙ v.1));
          fields = λ k lt.
              let v = some-and (λ f. IsField t f) (field_from t (base_in t m) k) (h.entries.fields k lt) in
              subst (λ (o : Option ℕ). IsSomeAnd o (λ f. IsField (w ∷ t) f)) (sym (field-from-stays t w (base_in (w ∷ t) m) k v.0 l (same.fields k lt ∙ v.1))) (field-stays t w v.0 l v.2);
        };
      }

  -- a gate that is written was written before, or is now
  gate-case : (t : Trail) (n m : ℕ) (v g : GateWord) (test : Bool) → eqb n m ≡ test → cond test (Some v) (gate_in t m) ≡ Some g → (gate_in t m ≡ Some g) ⊎ ((n ≡ m) × (v ≡ g))
  gate-case t n m v g true e h = inr (eqb-true n m e, cc)
  gate-case t n m v g false e h = inl h

  open-from : (t : Trail) (w : Write) (m : ℕ) (g : GateWord) → LawfulWrite s t w → (gate_in t m ≡ Some g → IsOpen t m g) → gate_in (w ∷ t) m ≡ Some g → IsOpen (w ∷ t) m g
  open-from t (Gate n v) m g l before e =
      open-on t (Gate n v) m g l (record { keys = λ k lt. refl; fields = λ k lt. refl })
      (⊎_elim before
      (λ (same : (n ≡ m) × (v ≡ g)).
      let l' : LawfulGate s t m g = subst (λ (x : GateWord). LawfulGate s t m x) same.1 (subst (λ (x : ℕ). LawfulGate s t x v) same.0 l) in
      record { parent = l'.parent; prototype = l'.prototype; few = l'.few; entries = l'.entries })
      (gate-case t n m v g (eqb n m) refl e))
  open-from t w m g l before e = open-on t w m g l (base-same t w m g l e) (before e)

  pub open-of : (t : Trail) (m : ℕ) (g : GateWord) → Lawful s t → gate_in t m ≡ Some g → IsOpen t m g
  unfolding Lawful
  open-of [] m g h e = let n : ⊥ = cc in absurd n
  open-of (w ∷ t) m g h e = open-from t w m g h.1.lawful (λ (b : gate_in t m ≡ Some g). open-of t m g h.0 b) e

  -- what a map with this gate says of its k-th entry
  record Entry (m k : ℕ) (g : GateWord) (key : Key) (f : ℕ) (t : Trail) : Type 0 where
    gate : gate_in t m ≡ Some g
    is_key : key_from t (base_in t m) k ≡ Some key
    is_field : field_from t (base_in t m) k ≡ Some f

  entry-on : (m k : ℕ) (g : GateWord) (key : Key) (f : ℕ) → k < g.entries → (t : Trail) (w : Write) → LawfulWrite s t w → Entry m k g key f t → Entry m k g key f (w ∷ t)
  entry-on m k g key f lt t w l h =
      let same = base-same t w m g l h.gate in
      record {
        gate = gate-stays s t w m g l h.gate;
        is_key = key-from-stays t w (base_in (w ∷ t) m) k key l (same.keys k lt ∙ h.is_key);
        is_field = field-from-stays t w (base_in (w ∷ t) m) k f l (same.fields k lt ∙ h.is_field);
      }

  pub entries-kept : (old middle new : Trail) (m : ℕ) (g : GateWord) (k : ℕ) → GoesOn s old middle → GoesOn s middle new → gate_in old m ≡ Some g → k < g.entries → EntriesStay old middle new m k
  entries-kept old middle new m g k first second e lt =
      let whole = open-of old m g (lawful-old old middle first) e in
      let key = some-of (key_from old (base_in old m) k) (whole.entries.keys k lt) in
      let field = some-and (λ f. IsField old f) (field_from old (base_in old m) k) (whole.entries.fields k lt) in
      let then = kept (Entry m k g key.0 field.0) (entry-on m k g key.0 field.0 lt) old middle first (record { gate = e; is_key = key.1; is_field = field.1 }) in
      record {
        key = kept (λ t. key_from t (base_in middle m) k ≡ Some key.0) (λ t w l p. key-from-stays t w (base_in middle m) k key.0 l p) middle new second then.is_key ∙ sym key.1;
        field = kept (λ t. field_from t (base_in middle m) k ≡ Some field.0) (λ t w l p. field-from-stays t w (base_in middle m) k field.0 l p) middle new second then.is_field ∙ sym field.1;
        written = is-some (key_from old (base_in old m) k) key.0 key.1;
        made = is-some (field_from old (base_in old m) k) field.0 field.1;
      }

  -- positions

  lawful-drop : (n : ℕ) (t : Trail) → Lawful s t → Lawful s (drop n t)
  unfolding Lawful
  lawful-drop zero t h = h
  lawful-drop (suc n) [] h = h
  lawful-drop (suc n) (w ∷ t) h = lawful-drop n t h.0

  pub lawful-at : (t : Trail) (position : ℕ) → Lawful s t → Lawful s (at position t)
  lawful-at t position h = lawful-drop (length t - position) t h

  drop-none : (n : ℕ) → drop {A = Write} n [] ≡ []
  drop-none zero = refl
  drop-none (suc n) = refl

  drop-both : (b d n : ℕ) (t : Trail) → n ≡ b + d → drop n t ≡ drop d (drop b t)
  drop-both zero d n t e = let same : n ≡ d = omega arith in ap (λ (i : ℕ). drop i t) same
  drop-both (suc b) d n [] e = drop-none n ∙ sym (drop-none d)
  drop-both (suc b) d zero (w ∷ t) e = absurd (omega arith)
  drop-both (suc b) d (suc n) (w ∷ t) e = drop-both b d n t (omega arith)

  pub positions-go : (t : Trail) (from upto : ℕ) → from ≤ upto → Lawful s t → GoesOn s (at from t) (at upto t)
  positions-go t from upto h l =
      let a : ℕ = length t - from in
      let b : ℕ = length t - upto in
      let split : a ≡ b + (a - b) = omega arith in
      record {
        more = take (a - b) (drop b t);
        is = sym (take-append-drop (a - b) (drop b t)) ∙ ap (λ (x : Trail). take (a - b) (drop b t) ++ x) (sym (drop-both b (a - b) a t split));
        lawful = lawful-at t upto l;
      }

  drop-put : (stores : List Access) (t : Trail) → drop (length stores) (put_before s stores t) ≡ t
  unfolding put_before
  drop-put [] t = refl
  drop-put (store ∷ rest) t =
      drop-both (length rest) 1 (suc (length rest)) (put_before s rest (write_of s store ∷ t)) (omega arith)
      ∙ ap (λ (x : Trail). drop 1 x) (drop-put rest (write_of s store ∷ t))

  put-take : (stores : List Access) (position n : ℕ) (t : Trail) → n ≡ length stores - position → put_before s (take position stores) t ≡ drop n (put_before s stores t)
  unfolding put_before
  put-take [] zero n t e = let none : n ≡ 0 = omega arith in sym (ap (λ (i : ℕ). drop i t) none)
  put-take [] (suc p) n t e = let none : n ≡ 0 = omega arith in sym (ap (λ (i : ℕ). drop i t) none)
  put-take (store ∷ rest) zero n t e = let all : n ≡ suc (length rest) = omega arith in sym (ap (λ (i : ℕ). drop i (put_before s (store ∷ rest) t)) all ∙ drop-put (store ∷ rest) t)
  put-take (store ∷ rest) (suc p) n t e = put-take rest p n (write_of s store ∷ t) (omega arith)

  length-put : (stores : List Access) (t : Trail) → length (put_before s stores t) ≡ length stores + length t
  unfolding put_before
  length-put [] t = omega arith
  length-put (store ∷ rest) t = length-put rest (write_of s store ∷ t) ∙ omega arith

  pub length-typed : (stores : List Access) → length (typed s stores) ≡ length stores
  unfolding typed
  length-typed stores = length-put stores [] ∙ omega arith

  pub positions-are : (stores : List Access) (position : ℕ) → typed s (take position stores) ≡ at position (typed s stores)
  unfolding typed
  positions-are stores position = put-take stores position (length (put_before s stores []) - position) [] (let e = length-put stores [] in omega arith)

-- a word at a position says what the writes up to there say
pub words-at : PlaceLaws → (s : Shape) (stores : List Access) (position : ℕ) (kind : Kind) (x : ℕ) → Lawful s (typed s stores) → x < items_of s (region_of kind)
    → Says kind (at position (typed s stores)) x (word_at (words_of s) stores position (index_of s (place_at kind x)))
unfolding word_at
words-at laws s stores position kind x h there =
    let are = positions-are s stores position in
    let lawful : Lawful s (typed s (take position stores)) = subst (Lawful s) (sym are) (lawful-at s (typed s stores) position h) in
    let said = words-say laws s (take position stores) lawful kind x in
    let word = word-there s (image_of (words_of s) (take position stores)) kind x there in
    subst (λ (t : Trail). Says kind t x (get_or (image_of (words_of s) (take position stores)) (index_of s (place_at kind x)) 0)) are
    (subst (Says kind (typed s (take position stores)) x) word said)
