-- Slots that are written anew hold what they held.
use Rattle.std.proofs.Common.{◌≡◌, ◌≢◌, ℕ, ◌+◌, ◌<◌, ◌≤◌, ◌⊎◌, Bool, true, false, cond, eqb, eqb-true, eq-eqb, Option, Some, None, ◌∷◌, refl, sym, ap, ◌∙◌, subst, arith, inl, inr, ⊎_elim}
use Rattle.std.specs.Prelude.{IsSomeAnd, nat_lt}
use Rattle.std.proofs.lemmas.Bool.Decides.{nat_tests}
use Rattle.hc_layout.specs.declared.words.GateWord.{GateWord}
use Rattle.hc_layout.specs.declared.words.StoreWord.{StoreWord}
use Rattle.hc_layout.specs.declared.shape.Shape.{Shape}
use Rattle.hc_value.specs.Prop.{kind_of}
use Rattle.hc_value.specs.Word.{unpair_of, untagged_of}
use Rattle.hc_value.specs.declared.value.Value.{Value}
use Rattle.hc_value.specs.declared.field.Detail.{Detail}
use Rattle.hc_value.specs.declared.field.Rep.{Rep}
use Rattle.hc_value.specs.declared.field.Rep.TheVariants.{Smi, Wide, HeapObject, Tagged}
use Rattle.hc_value.specs.declared.key.Key.{Key}
use Rattle.hc_value.specs.declared.prop.Held.{Held}
use Rattle.hc_value.specs.declared.prop.Kind.{Kind}
use Rattle.hc_value.specs.declared.prop.Kind.TheVariants.{DataProp, AccessorProp}
use Rattle.hc_value.specs.declared.prop.Prop.{Prop}
use Rattle.hc_heap.specs.Writes.{Write, Trail, Slot}
use Rattle.hc_heap.specs.Readings.{gate_in, store_in, slot_in, detail_in}
use Rattle.hc_heap.specs.Kept.{Adds}
use Rattle.hc_heap.specs.Lawful.{HoldsEntry, IsFormOf, word_from}
use Rattle.hc_heap.specs.Frames.{adds-none, adds-on, adds-one, adds-wider, same-after}
use Rattle.hc_heap.specs.States.{View, IsHeap, with_write}
use Rattle.hc_descs.specs.Entries.{key_at, field_at, detail_at, detail_of}
use Rattle.hc_slots.specs.Cases.{some-and}
use Rattle.hc_slots.specs.Slots.{AreHandedOut}
use Rattle.hc_slots.specs.Anew.{AreMoved, FitsEntry, IsMovedAt, MovesSlots, changes_at, differ, is_wide, is_wide_field}
use Rattle.hc_slots.specs.Meaning.{MayHold, datum_of, held_in, pair_of, prop_in, prop_of, slot_word}

-- Words and what they hold

-- two representations that are both wide, or neither, have the same words
held-alike : (kind : Kind) (a b : Rep) (w : ℕ) → differ (is_wide a) (is_wide b) ≡ false → held_in kind b w ≡ held_in kind a w
held-alike AccessorProp a b w h = refl
held-alike DataProp Wide Wide w h = refl
held-alike DataProp Wide Smi w h = let n : ⊥ = cc in absurd n
held-alike DataProp Wide HeapObject w h = let n : ⊥ = cc in absurd n
held-alike DataProp Wide Tagged w h = let n : ⊥ = cc in absurd n
held-alike DataProp Smi Wide w h = let n : ⊥ = cc in absurd n
held-alike DataProp Smi Smi w h = refl
held-alike DataProp Smi HeapObject w h = refl
held-alike DataProp Smi Tagged w h = refl
held-alike DataProp HeapObject Wide w h = let n : ⊥ = cc in absurd n
held-alike DataProp HeapObject Smi w h = refl
held-alike DataProp HeapObject HeapObject w h = refl
held-alike DataProp HeapObject Tagged w h = refl
held-alike DataProp Tagged Wide w h = let n : ⊥ = cc in absurd n
held-alike DataProp Tagged Smi w h = refl
held-alike DataProp Tagged HeapObject w h = refl
held-alike DataProp Tagged Tagged w h = refl

form-alike : (kind : Kind) (a b : Rep) (w : ℕ) → differ (is_wide a) (is_wide b) ≡ false → IsFormOf kind a w → IsFormOf kind b w
form-alike AccessorProp a b w h form = form
form-alike DataProp Wide Wide w h form = form
form-alike DataProp Wide Smi w h form = let n : ⊥ = cc in absurd n
form-alike DataProp Wide HeapObject w h form = let n : ⊥ = cc in absurd n
form-alike DataProp Wide Tagged w h form = let n : ⊥ = cc in absurd n
form-alike DataProp Smi Wide w h form = let n : ⊥ = cc in absurd n
form-alike DataProp Smi Smi w h form = form
form-alike DataProp Smi HeapObject w h form = form
form-alike DataProp Smi Tagged w h form = form
form-alike DataProp HeapObject Wide w h form = let n : ⊥ = cc in absurd n
form-alike DataProp HeapObject Smi w h form = form
form-alike DataProp HeapObject HeapObject w h form = form
form-alike DataProp HeapObject Tagged w h form = form
form-alike DataProp Tagged Wide w h form = let n : ⊥ = cc in absurd n
form-alike DataProp Tagged Smi w h form = form
form-alike DataProp Tagged HeapObject w h form = form
form-alike DataProp Tagged Tagged w h form = form

pair-kind : (o : Option (Option ℕ × Option ℕ)) → kind_of (pair_of o) ≡ AccessorProp
pair-kind (Some p) = refl
pair-kind None = refl

datum-kind : (o : Option Value) → kind_of (datum_of o) ≡ DataProp
datum-kind (Some v) = refl
datum-kind None = refl

-- what a word holds is of its property's kind
pub held-kind : (kind : Kind) (r : Rep) (w : ℕ) → kind_of (held_in kind r w) ≡ kind
held-kind AccessorProp r w = pair-kind (unpair_of w)
held-kind DataProp Wide w = datum-kind _
held-kind DataProp Smi w = datum-kind (untagged_of w)
held-kind DataProp HeapObject w = datum-kind (untagged_of w)
held-kind DataProp Tagged w = datum-kind (untagged_of w)

-- The words of slots

self : {T : Type 0} (x : ℕ) (a b : T) → cond (eqb x x) a b ≡ a
self x a b = ap (λ (v : Bool). cond v a b) (eq-eqb x x refl)

apart : {T : Type 0} (x y : ℕ) (a b : T) → (x ≡ y → ⊥) → cond (eqb x y) a b ≡ b
apart x y a b ne = by (eqb x y) refl
  where
    by : (t : Bool) → eqb x y ≡ t → cond t a b ≡ b
    by true e = absurd (ne (eqb-true x y e))
    by false e = refl

written-word : (t : Trail) (o first k w : ℕ) → (store_in t o).first ≡ Some first → slot_word (Slot (first + k) w ∷ t) o k ≡ w
written-word t o first k w is = ap (λ (x : Option ℕ). word_from (Slot (first + k) w ∷ t) x k) is ∙ self (first + k) w (slot_in t (first + k))

other-word : (t : Trail) (o first k j w : ℕ) → (store_in t o).first ≡ Some first → j ≢ k → slot_word (Slot (first + k) w ∷ t) o j ≡ slot_word t o j
other-word t o first k j w is ne =
    ap (λ (x : Option ℕ). word_from (Slot (first + k) w ∷ t) x j) is
    ∙ apart (first + k) (first + j) w (slot_in t (first + j)) (λ same. ne (omega (arith, same)))
    ∙ sym (ap (λ (x : Option ℕ). word_from t x j) is)

-- What an entry holds

holds-by : (t : Trail) (o c k f : ℕ) (key : Key) (e : Detail) → key_at t c k ≡ Some key → field_at t c k ≡ Some f → detail_in t f ≡ Some e → IsFormOf key.kind e.rep (slot_word t o k) → HoldsEntry t o c k
holds-by t o c k f key e is_key is_field admits form =
    subst (λ (x : Option Key). IsSomeAnd x (λ y. IsSomeAnd (field_at t c k) (λ z. IsSomeAnd (detail_in t z) (λ d. IsFormOf y.kind d.rep (slot_word t o k))))) (sym is_key)
    (subst (λ (x : Option ℕ). IsSomeAnd x (λ z. IsSomeAnd (detail_in t z) (λ d. IsFormOf key.kind d.rep (slot_word t o k)))) (sym is_field)
    (subst (λ (x : Option Detail). IsSomeAnd x (λ d. IsFormOf key.kind d.rep (slot_word t o k))) (sym admits) form))

and-at : {T : Type 0} (P : T → Type 0) (o : Option T) (v : T) → o ≡ Some v → IsSomeAnd o P → P v
and-at {T} P o v is h = subst (λ (x : Option T). IsSomeAnd x P) is h

form-at : (t : Trail) (o m k : ℕ) (key : Key) (d : Detail) → key_at t m k ≡ Some key → detail_at t m k ≡ Some d → HoldsEntry t o m k → IsFormOf key.kind d.rep (slot_word t o k)
form-at t o m k key d is_key admits h =
    by (field_at t m k) admits (and-at (λ (y : Key). IsSomeAnd (field_at t m k) (λ z. IsSomeAnd (detail_in t z) (λ d. IsFormOf y.kind d.rep (slot_word t o k)))) (key_at t m k) key is_key h)
  where
    by : (f : Option ℕ) → detail_of t f ≡ Some d → IsSomeAnd f (λ z. IsSomeAnd (detail_in t z) (λ d. IsFormOf key.kind d.rep (slot_word t o k))) → IsFormOf key.kind d.rep (slot_word t o k)
    by (Some f) is x = and-at (λ (d : Detail). IsFormOf key.kind d.rep (slot_word t o k)) (detail_in t f) d is x
    by None is x = absurd x

holds-same : (a b : Trail) (o m k : ℕ) → key_at b m k ≡ key_at a m k → field_at b m k ≡ field_at a m k → ((f : ℕ) → detail_in b f ≡ detail_in a f) → slot_word b o k ≡ slot_word a o k → HoldsEntry a o m k → HoldsEntry b o m k
holds-same a b o m k keys fields details word h =
    let key = some-and (key_at a m k) (λ (y : Key). IsSomeAnd (field_at a m k) (λ z. IsSomeAnd (detail_in a z) (λ d. IsFormOf y.kind d.rep (slot_word a o k)))) h in
    let field = some-and (field_at a m k) (λ (z : ℕ). IsSomeAnd (detail_in a z) (λ d. IsFormOf key.0.kind d.rep (slot_word a o k))) key.1.1 in
    let detail = some-and (detail_in a field.0) (λ (d : Detail). IsFormOf key.0.kind d.rep (slot_word a o k)) field.1.1 in
    holds-by b o m k field.0 key.0 detail.0 (keys ∙ key.1.0) (fields ∙ field.1.0) (details field.0 ∙ detail.1.0) (subst (λ (x : ℕ). IsFormOf key.0.kind detail.0.rep x) (sym word) detail.1.1)

field-of : (t : Trail) (c k : ℕ) (e : Detail) → detail_at t c k ≡ Some e → (f : ℕ) × ((field_at t c k ≡ Some f) × (detail_in t f ≡ Some e))
field-of t c k e is = by (field_at t c k) refl is
  where
    by : (o : Option ℕ) → field_at t c k ≡ o → detail_of t o ≡ Some e → (f : ℕ) × ((field_at t c k ≡ Some f) × (detail_in t f ≡ Some e))
    by (Some f) at x = (f, (at, x))
    by None at x = let n : ⊥ = cc in absurd n

property : (t : Trail) (o m k w : ℕ) (key : Key) (d : Detail) → key_at t m k ≡ Some key → detail_at t m k ≡ Some d → slot_word t o k ≡ w → prop_in t o m k ≡ record { name = key.name; attrs = key.attrs; held = held_in key.kind d.rep w }
property t o m k w key d is_key admits word =
    ap (λ (x : Option Key). prop_of x (detail_at t m k) (slot_word t o k)) is_key
    ∙ ap (λ (x : Option Detail). prop_of (Some key) x (slot_word t o k)) admits
    ∙ ap (λ (x : ℕ). prop_of (Some key) (Some d) x) word

-- One slot

module _ (v : View) (o m c k : ℕ) (key : Key) (d e : Detail) (is_key : key_at v.trail m k ≡ Some key) (same_key : key_at v.trail c k ≡ key_at v.trail m k) (from : detail_at v.trail m k ≡ Some d) (upto : detail_at v.trail c k ≡ Some e) where
  its_key : key_at v.trail c k ≡ Some key
  its_key = same_key ∙ is_key

  pub changes-is : changes_at v.trail m c k ≡ differ (is_wide d.rep) (is_wide e.rep)
  changes-is = ap (λ (x : Option Detail). differ (is_wide_field x) (is_wide_field (detail_at v.trail c k))) from ∙ ap (λ (x : Option Detail). differ (is_wide d.rep) (is_wide_field x)) upto

  -- a slot that keeps its word
  pub kept-slot : IsHeap v → differ (is_wide d.rep) (is_wide e.rep) ≡ false → HoldsEntry v.trail o m k → IsMovedAt v v o m c k
  kept-slot heap alike holds =
      let f = field-of v.trail c k e upto in
      record {
        view = refl;
        writes = adds-none v.trail;
        prop = property v.trail o c k (slot_word v.trail o k) key e its_key upto refl
            ∙ ap (λ (x : Held). let p : Prop = record { name = key.name; attrs = key.attrs; held = x } in p) (held-alike key.kind d.rep e.rep (slot_word v.trail o k) alike)
            ∙ sym (property v.trail o m k (slot_word v.trail o k) key d is_key from refl);
        holds = holds-by v.trail o c k f.0 key e its_key f.1.0 f.1.1 (form-alike key.kind d.rep e.rep (slot_word v.trail o k) alike (form-at v.trail o m k key d is_key from holds));
        word = λ same. refl;
        others = λ j ne. refl;
        heap = heap;
      }

  -- a slot that gets another word
  pub moved-slot : (x : View) (first word : ℕ) → IsHeap x → (store_in v.trail o).first ≡ Some first → x ≡ with_write v (Slot (first + k) word) → differ (is_wide d.rep) (is_wide e.rep) ≡ true
      → IsFormOf (kind_of (held_in key.kind d.rep (slot_word v.trail o k))) e.rep word → held_in (kind_of (held_in key.kind d.rep (slot_word v.trail o k))) e.rep word ≡ held_in key.kind d.rep (slot_word v.trail o k) → IsMovedAt v x o m c k
  moved-slot x first word heap is view changed form holds = subst (λ (y : View). IsMovedAt v y o m c k) (sym view) (record {
    view = refl;
    writes = adds-one v.trail (Slot (first + k) word) (record { first = first; is_first = is; place = k; within = omega arith; at = refl; changes = changes-is ∙ changed });
    prop = property now o c k word key e its_key upto (written-word v.trail o first k word is)
        ∙ ap (λ (y : Held). let p : Prop = record { name = key.name; attrs = key.attrs; held = y } in p) (ap (λ (y : Kind). held_in y e.rep word) (sym kinds) ∙ holds)
        ∙ sym (property v.trail o m k (slot_word v.trail o k) key d is_key from refl);
    holds = holds-by now o c k f.0 key e its_key f.1.0 f.1.1 (subst (λ (y : ℕ). IsFormOf key.kind e.rep y) (sym (written-word v.trail o first k word is)) (subst (λ (y : Kind). IsFormOf y e.rep word) kinds form));
    word = λ same. absurd (not-both (sym same ∙ (changes-is ∙ changed)));
    others = λ j ne. other-word v.trail o first k j word is ne;
    heap = subst IsHeap view heap;
  })
    where
      now : Trail
      now = Slot (first + k) word ∷ v.trail

      f : (f : ℕ) × ((field_at v.trail c k ≡ Some f) × (detail_in v.trail f ≡ Some e))
      f = field-of v.trail c k e upto

      kinds : kind_of (held_in key.kind d.rep (slot_word v.trail o k)) ≡ key.kind
      kinds = held-kind key.kind d.rep (slot_word v.trail o k)

      not-both : false ≡ true → ⊥
      not-both e = cc

-- All slots

-- a reading that no slot changes is the same after slots were written
pub slots-same : {T : Type 0} (old : Trail) (o m c n : ℕ) (a b : Trail) (reading : Trail → T) → ((t : Trail) (s w : ℕ) → reading (Slot s w ∷ t) ≡ reading t) → Adds (MovesSlots old o m c n) a b → reading b ≡ reading a
slots-same old o m c n a b reading h adds = same-after reading step adds
  where
    step : (t : Trail) (w : Write) → MovesSlots old o m c n t w → reading (w ∷ t) ≡ reading t
    step t (Slot s w) e = h t s w
    step t _ e = absurd e

-- none so far
pub moved-none : (v : View) (o m c : ℕ) → IsHeap v → AreMoved v v o m c 0
moved-none v o m c heap = record {
  view = refl;
  writes = adds-none v.trail;
  props = λ k lt. absurd (omega (arith, lt));
  holds = λ k lt. absurd (omega (arith, lt));
  words = λ k lt same. refl;
  rest = λ k le. refl;
  heap = heap;
}

last-or : (k n : ℕ) → k < n + 1 → (k < n) ⊎ (k ≡ n)
last-or k n lt = which (nat_lt k n) refl
  where
    which : (b : Bool) → nat_lt k n ≡ b → (k < n) ⊎ (k ≡ n)
    which true e = inl (grind (arith, nat_tests, e, lt))
    which false e = inr (grind (arith, nat_tests, e, lt))

module _ (v w : View) (o m c k : ℕ) (so_far : AreMoved v w o m c k) where
  pub far-reading : {T : Type 0} (reading : Trail → T) → ((t : Trail) (s x : ℕ) → reading (Slot s x ∷ t) ≡ reading t) → reading w.trail ≡ reading v.trail
  far-reading reading h = slots-same v.trail o m c k v.trail w.trail reading h so_far.writes

  far-detail : (x j : ℕ) → detail_at w.trail x j ≡ detail_at v.trail x j
  far-detail x j = far-reading (λ (t : Trail). detail_at t x j) (λ t s y. refl)

  far-key : (x j : ℕ) → key_at w.trail x j ≡ key_at v.trail x j
  far-key x j = far-reading (λ (t : Trail). key_at t x j) (λ t s y. refl)

  far-changes : (j : ℕ) → changes_at w.trail m c j ≡ changes_at v.trail m c j
  far-changes j = far-reading (λ (t : Trail). changes_at t m c j) (λ t s y. refl)

  far-store : store_in w.trail o ≡ store_in v.trail o
  far-store = far-reading (λ (t : Trail). store_in t o) (λ t s y. refl)

  -- what the next slot asks
  pub next-open : (x n : ℕ) → k < n → IsSomeAnd (gate_in v.trail x) (λ g. n ≤ g.entries) → IsSomeAnd (gate_in w.trail x) (λ g. k < g.entries)
  next-open x n lt h =
      let g = some-and (gate_in v.trail x) (λ (g : GateWord). n ≤ g.entries) h in
      let le = g.1.1 in
      let there : k < g.0.entries = omega (arith, le, lt) in
      subst (λ (o : Option GateWord). IsSomeAnd o (λ y. k < y.entries)) (sym (far-reading (λ (t : Trail). gate_in t x) (λ t s y. refl) ∙ g.1.0)) there

  pub next-key : key_at v.trail c k ≡ key_at v.trail m k → key_at w.trail c k ≡ key_at w.trail m k
  next-key same = far-key c k ∙ same ∙ sym (far-key m k)

  next-word : slot_word w.trail o k ≡ slot_word v.trail o k
  next-word = so_far.rest k (omega arith)

  pub next-holds : HoldsEntry v.trail o m k → HoldsEntry w.trail o m k
  next-holds h = holds-same v.trail w.trail o m k (far-key m k) (far-reading (λ (t : Trail). field_at t m k) (λ t s y. refl)) (λ f. far-reading (λ (t : Trail). detail_in t f) (λ t s y. refl)) next-word h

  pub next-within : (n : ℕ) → k < n → n ≤ (store_in v.trail o).capacity → k < (store_in w.trail o).capacity
  next-within n lt le = subst (λ (x : StoreWord). k < x.capacity) (sym far-store) (omega (arith, lt, le))

  pub next-out : AreHandedOut v.used.slots (store_in v.trail o) → AreHandedOut w.used.slots (store_in w.trail o)
  next-out h = subst (λ (x : StoreWord). AreHandedOut w.used.slots x) (sym far-store) (subst (λ (s : Shape). AreHandedOut s.slots (store_in v.trail o)) (sym (ap (λ (x : View). x.used) so_far.view)) h)

  pub next-fits : FitsEntry v.trail o m c k → FitsEntry w.trail o m c k
  next-fits h = λ key d e is from upto. subst (λ (x : ℕ). MayHold e.rep (held_in key.kind d.rep x)) (sym next-word) (h key d e (sym (far-key m k) ∙ is) (sym (far-detail m k) ∙ from) (sym (far-detail c k) ∙ upto))

  -- one slot more
  pub moved-more : (x : View) → IsMovedAt w x o m c k → AreMoved v x o m c (k + 1)
  moved-more x it = record {
    view = it.view ∙ ap (λ (y : View). let z : View = record y { trail = x.trail } in z) so_far.view;
    writes = adds-on (adds-wider early so_far.writes) (adds-wider late it.writes);
    props = λ j lt. ⊎_elim
        (λ (below : j < k). prop-stays j (λ is. omega (arith, below, is)) ∙ so_far.props j below)
        (λ (is : j ≡ k). subst (λ (i : ℕ). prop_in x.trail o c i ≡ prop_in v.trail o m i) (sym is) (it.prop ∙ prop-was)) (last-or j k lt);
    holds = λ j lt. ⊎_elim
        (λ (below : j < k). holds-stays j (λ is. omega (arith, below, is)) (so_far.holds j below))
        (λ (is : j ≡ k). subst (λ (i : ℕ). HoldsEntry x.trail o c i) (sym is) it.holds) (last-or j k lt);
    words = λ j lt same. ⊎_elim
        (λ (below : j < k). it.others j (λ is. omega (arith, below, is)) ∙ so_far.words j below same)
        (λ (is : j ≡ k). subst (λ (i : ℕ). slot_word x.trail o i ≡ slot_word v.trail o i) (sym is) (it.word (far-changes k ∙ subst (λ (i : ℕ). changes_at v.trail m c i ≡ false) is same) ∙ next-word)) (last-or j k lt);
    rest = λ j le. it.others j (λ is. omega (arith, le, is)) ∙ so_far.rest j (omega (arith, le));
    heap = it.heap;
  }
    where
      early : (t : Trail) (y : Write) → MovesSlots v.trail o m c k t y → MovesSlots v.trail o m c (k + 1) t y
      early t (Slot s y) h = let lt = h.within in record { first = h.first; is_first = h.is_first; place = h.place; within = omega (arith, lt); at = h.at; changes = h.changes }
      early t _ h = absurd h

      late : (t : Trail) (y : Write) → MovesSlots w.trail o m c (k + 1) t y → MovesSlots v.trail o m c (k + 1) t y
      late t (Slot s y) h = record { first = h.first; is_first = ap (λ (z : StoreWord). z.first) (sym far-store) ∙ h.is_first; place = h.place; within = h.within; at = h.at; changes = sym (far-changes h.place) ∙ h.changes }
      late t _ h = absurd h

      on-reading : {T : Type 0} (reading : Trail → T) → ((t : Trail) (s y : ℕ) → reading (Slot s y ∷ t) ≡ reading t) → reading x.trail ≡ reading w.trail
      on-reading reading h = slots-same w.trail o m c (k + 1) w.trail x.trail reading h it.writes

      prop-stays : (j : ℕ) → j ≢ k → prop_in x.trail o c j ≡ prop_in w.trail o c j
      prop-stays j ne =
          ap (λ (y : ℕ). prop_of (key_at x.trail c j) (detail_at x.trail c j) y) (it.others j ne)
          ∙ on-reading (λ (t : Trail). prop_of (key_at t c j) (detail_at t c j) (slot_word w.trail o j)) (λ t s y. refl)

      prop-was : prop_in w.trail o m k ≡ prop_in v.trail o m k
      prop-was =
          ap (λ (y : ℕ). prop_of (key_at w.trail m k) (detail_at w.trail m k) y) next-word
          ∙ far-reading (λ (t : Trail). prop_of (key_at t m k) (detail_at t m k) (slot_word v.trail o k)) (λ t s y. refl)

      holds-stays : (j : ℕ) → j ≢ k → HoldsEntry w.trail o c j → HoldsEntry x.trail o c j
      holds-stays j ne h = holds-same w.trail x.trail o c j (on-reading (λ (t : Trail). key_at t c j) (λ t s y. refl)) (on-reading (λ (t : Trail). field_at t c j) (λ t s y. refl)) (λ f. on-reading (λ (t : Trail). detail_in t f) (λ t s y. refl)) (it.others j ne) h
