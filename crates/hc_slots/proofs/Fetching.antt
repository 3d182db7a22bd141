-- What the words of a fast object say, read one by one.
use Rattle.std.proofs.Common.{◌≡◌, ◌≢◌, ℕ, zero, suc, ◌<◌, Bool, true, false, cond, List, length, Option, Some, None, IsSome, eqb, refl, sym, ap, ◌∙◌, subst, arith}
use Rattle.std.specs.Prelude.{IsSomeAnd, IfSome, option_map, slice_get}
use Rattle.std.proofs.lemmas.Bool.Decides.{nat_tests}
use Rattle.hc_layout.specs.declared.words.GateWord.{GateWord}
use Rattle.hc_value.specs.declared.field.Detail.{Detail}
use Rattle.hc_value.specs.declared.key.Key.{Key}
use Rattle.hc_value.specs.declared.prop.Prop.{Prop}
use Rattle.hc_heap.specs.Writes.{Trail}
use Rattle.hc_heap.specs.Readings.{gate_in, map_in, store_in, detail_in}
use Rattle.hc_heap.specs.Lawful.{IsFormOf, HoldsEntry}
use Rattle.hc_descs.specs.Entries.{key_at, field_at, entries_in, count_of, HasName, HasOtherName, LacksName, IsFirstNamed, detail_of, detail_at}
use Rattle.hc_table.specs.World.{place_of}
use Rattle.hc_slots.specs.Listed.{listed, length-listed, slice_get-listed}
use Rattle.hc_slots.specs.Meaning.{slot_word, prop_of, prop_in, fast_props, object_shown}
use Rattle.hc_slots.specs.Fast.{IsFast, HasMap}
use Rattle.hc_slots.specs.Cases.{some-is}

-- The map of a fast object

pub fast-at : (t : Trail) (o m : ℕ) → HasMap t o → map_in t o ≡ Some m → (g : GateWord) × IsFast t o m g
fast-at t o m h is =
    let same : h.map ≡ m = some-is h.map m (sym h.is_map ∙ is) in
    (h.gate, subst (λ (x : ℕ). IsFast t o x h.gate) same h.fast)

pub props-shown : (t : Trail) (o m : ℕ) → map_in t o ≡ Some m → (object_shown t o None (map_in t o)).props ≡ fast_props t o m
props-shown t o m is = ap (λ (x : Option ℕ). (object_shown t o None x).props) is

pub length-shown : (t : Trail) (o m : ℕ) → map_in t o ≡ Some m → length (object_shown t o None (map_in t o)).props ≡ count_of t m
length-shown t o m is = ap (λ (ps : List Prop). length ps) (props-shown t o m is) ∙ length-listed (prop_in t o m) (count_of t m)

-- each entry of the map is held
pub held-below : (t : Trail) (o m k : ℕ) → HasMap t o → map_in t o ≡ Some m → k < count_of t m → HoldsEntry t o m k
held-below t o m k h is lt =
    let f = fast-at t o m h is in
    f.1.holds.slots k (subst (λ (x : Option GateWord). k < entries_in x) f.1.is_open lt)

-- it is one
pub entry-below : (t : Trail) (o m k : ℕ) → HasMap t o → map_in t o ≡ Some m → k < count_of t m → IsSomeAnd (gate_in t m) (λ g. k < g.entries)
entry-below t o m k h is lt =
    let f = fast-at t o m h is in
    subst (λ (x : Option GateWord). IsSomeAnd x (λ g. k < g.entries)) (sym f.1.is_open) (subst (λ (x : Option GateWord). k < entries_in x) f.1.is_open lt)

-- and the object has a slot for it
pub slot-below : (t : Trail) (o m k : ℕ) → HasMap t o → map_in t o ≡ Some m → k < count_of t m → k < (store_in t o).capacity
slot-below t o m k h is lt =
    let f = fast-at t o m h is in
    let room = f.1.holds.capacity in
    let within : k < f.0.entries = subst (λ (x : Option GateWord). k < entries_in x) f.1.is_open lt in
    omega arith

detail-some : (P : Detail → Type 0) (x : Option Detail) → IsSomeAnd x P → IsSome x
detail-some P (Some x) h = refl
detail-some P None h = absurd h

detail-within : (t : Trail) (P : Key → Detail → Type 0) (x : Option Key) (f : Option ℕ) → IsSomeAnd x (λ key. IsSomeAnd f (λ y. IsSomeAnd (detail_in t y) (λ d. P key d))) → IsSome (detail_of t f)
detail-within t P (Some x) (Some f) h = detail-some (P x) (detail_in t f) h
detail-within t P (Some x) None h = absurd h
detail-within t P None f h = absurd h

pub detail-held : (t : Trail) (o m k : ℕ) → HoldsEntry t o m k → IsSome (detail_at t m k)
detail-held t o m k h = detail-within t (λ key d. IsFormOf key.kind d.rep (slot_word t o k)) (key_at t m k) (field_at t m k) h

-- the property at a place, as the object is shown
pub prop-shown : (t : Trail) (o m k : ℕ) (p : Prop) → map_in t o ≡ Some m → k < count_of t m → p ≡ prop_in t o m k → slice_get (object_shown t o None (map_in t o)).props k ≡ Some p
prop-shown t o m k p is lt e =
    ap (λ (ps : List Prop). slice_get ps k) (props-shown t o m is)
    ∙ slice_get-listed (prop_in t o m) (count_of t m) k lt
    ∙ ap (λ (q : Prop). let x : Option Prop = Some q in x) (sym e)

-- Names

-- the name of an entry's property is that of its key
name-of : (key : Option Key) (d : Option Detail) (w : ℕ) (P : ℕ → Type 0) → IsSome d → IsSomeAnd key (λ x. P x.name) → P (prop_of key d w).name
name-of (Some key) (Some d) w P there h = h
name-of (Some key) None w P there h = let n : ⊥ = cc in absurd n
name-of None d w P there h = absurd h

test-same : (a b : ℕ) → a ≡ b → eqb a b ≡ true
test-same a b e = grind (arith, nat_tests, e)

test-other : (a b : ℕ) → a ≢ b → eqb a b ≡ false
test-other a b ne = grind (arith, nat_tests, ne)

pub place-here : (f : ℕ → Prop) (n i name : ℕ) → i < n → (f i).name ≡ name → ((k : ℕ) → k < i → (f k).name ≢ name) → place_of (listed f n) name ≡ Some i
place-here f zero i name lt here before = absurd (omega arith)
place-here f (suc n) zero name lt here before =
    ap (λ (b : Bool). cond b (Some 0) (option_map suc (place_of (listed (λ k. f (suc k)) n) name))) (test-same (f 0).name name here)
place-here f (suc n) (suc i) name lt here before =
    ap (λ (b : Bool). cond b (Some 0) (option_map suc (place_of (listed (λ k. f (suc k)) n) name))) (test-other (f 0).name name (before 0 (omega arith)))
    ∙ ap (λ (x : Option ℕ). option_map suc x) (place-here (λ k. f (suc k)) n i name (omega arith) here (λ k kt. before (suc k) (omega arith)))

pub place-none : (f : ℕ → Prop) (n name : ℕ) → ((k : ℕ) → k < n → (f k).name ≢ name) → place_of (listed f n) name ≡ None
place-none f zero name other = refl
place-none f (suc n) name other =
    ap (λ (b : Bool). cond b (Some 0) (option_map suc (place_of (listed (λ k. f (suc k)) n) name))) (test-other (f 0).name name (other 0 (omega arith)))
    ∙ ap (λ (x : Option ℕ). option_map suc x) (place-none (λ k. f (suc k)) n name (λ k kt. other (suc k) (omega arith)))

module _ (t : Trail) (o m name : ℕ) (h : HasMap t o) (is : map_in t o ≡ Some m) where
  other-name : (k : ℕ) → k < count_of t m → HasOtherName t m k name → (prop_in t o m k).name ≢ name
  other-name k lt other = name-of (key_at t m k) (detail_at t m k) (slot_word t o k) (λ x. x ≢ name) (detail-held t o m k (held-below t o m k h is lt)) other

  this-name : (k : ℕ) → k < count_of t m → HasName t m k name → (prop_in t o m k).name ≡ name
  this-name k lt this = name-of (key_at t m k) (detail_at t m k) (slot_word t o k) (λ x. x ≡ name) (detail-held t o m k (held-below t o m k h is lt)) this

  place-listed : (r : Option ℕ) → IfSome r (λ i. IsFirstNamed t m name i) → (r ≡ None → LacksName t m (count_of t m) name) → r ≡ place_of (fast_props t o m) name
  place-listed (Some i) found absent =
      let within = found.within in
      sym (place-here (prop_in t o m) (count_of t m) i name within (this-name i within found.here) (λ k lt. let below : k < count_of t m = omega arith in other-name k below (found.before k lt)))
  place-listed None found absent = sym (place-none (prop_in t o m) (count_of t m) name (λ k lt. other-name k lt (absent refl k lt)))

  -- the first entry that has the name is the place of the property
  pub place-shown : (r : Option ℕ) → IfSome r (λ i. IsFirstNamed t m name i) → (r ≡ None → LacksName t m (count_of t m) name) → r ≡ place_of (object_shown t o None (map_in t o)).props name
  place-shown r found absent = place-listed r found absent ∙ ap (λ (ps : List Prop). place_of ps name) (sym (props-shown t o m is))
