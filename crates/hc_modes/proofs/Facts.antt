-- Honest fields and constants, where one object changed.
use Rattle.std.proofs.Common.{◌≡◌, ◌≢◌, ◌⊎◌, ℕ, ◌+◌, ◌<◌, ◌≤◌, Bool, true, false, List, Option, Some, None, refl, sym, ap, ◌∙◌, subst, arith, inl, inr, IsSome, true≢false}
use Rattle.std.specs.Prelude.{IsTrue, IsSomeAnd}
use Rattle.hc_layout.specs.declared.shape.Shape.{Shape}
use Rattle.hc_layout.specs.declared.words.GateWord.{GateWord}
use Rattle.hc_layout.specs.declared.words.StoreWord.{StoreWord}
use Rattle.hc_value.specs.Field.{is_detail_within}
use Rattle.hc_value.specs.Prop.{kind_of}
use Rattle.hc_value.specs.Word.{integer_of, untagged_of, unwide_of}
use Rattle.hc_value.specs.declared.field.Constness.TheVariants.{Const}
use Rattle.hc_value.specs.declared.field.Detail.{Detail}
use Rattle.hc_value.specs.declared.field.Rep.{Rep}
use Rattle.hc_value.specs.declared.field.Rep.TheVariants.{HeapObject, Smi, Tagged, Wide}
use Rattle.hc_value.specs.declared.key.Key.{Key}
use Rattle.hc_value.specs.declared.prop.Held.{Held}
use Rattle.hc_value.specs.declared.prop.Held.TheVariants.{Datum, Pair}
use Rattle.hc_value.specs.declared.prop.Kind.{Kind}
use Rattle.hc_value.specs.declared.prop.Kind.TheVariants.{AccessorProp, DataProp}
use Rattle.hc_value.specs.declared.prop.Prop.{Prop}
use Rattle.hc_value.specs.declared.value.Value.{Value}
use Rattle.hc_heap.specs.Kept.{DetailsRise, FormsAreKept, GoesOn, StableIsKept}
use Rattle.hc_heap.specs.Frames.{goes-on-of}
use Rattle.hc_heap.specs.Lawful.{IsField, Lawful, RisesTo, word_from}
use Rattle.hc_heap.specs.Readings.{bits_in, detail_in, gate_in, map_in, slot_in, store_in}
use Rattle.hc_heap.specs.States.{View, IsHeap}
use Rattle.hc_heap.specs.Writes.{Trail}
use Rattle.hc_descs.specs.Entries.{detail_of, detail_at, field_at, key_at}
use Rattle.hc_facts.specs.Constants.{ConstantsStay, ConstantsStayFor}
use Rattle.hc_facts.specs.Honest.{HasDatum, IsCarried, IsFilled, IsGiven, IsHonest, detail_for, value_in, value_or}
use Rattle.hc_facts.specs.Laws.{HonestAfter, KeptIsCarried, MovedIsCarried, StoredIsGiven}
use Rattle.hc_tree.specs.Kept.{MapsAreKept}
use Rattle.hc_tree.specs.Tree.{gate_with}
use Rattle.hc_slots.specs.Cases.{same-or, some-is, some-of, some-and}
use Rattle.hc_slots.specs.Meaning.{Dictionary, datum_of, held_in, prop_in, prop_of, slot_word}
use Rattle.hc_modes.specs.Admitting.{AsksLast, FactsStay, held_detail}
use Rattle.hc_modes.specs.Changes.{ChangedBut, IsGrown, WordsStay, key_of}
use Rattle.hc_modes.specs.Resettled.{IsResettled}
use Rattle.hc_modes.specs.Privates.{IsGrownAlone, IsMovedToCopy}
use Rattle.hc_slots.specs.Slots.{SlotsStay}
use Rattle.hc_modes.specs.Filling.{IsMoved}
use Rattle.hc_modes.specs.State.{IsObjects}
use Rattle.hc_modes.proofs.Fitting.{value-held}
use Rattle.hc_modes.proofs.Rising.{held-rises}
use Rattle.hc_modes.proofs.Sound.{is-later, others-stay}
use Rattle.hc_modes.proofs.Staying.{IsLater, slot-stays}

-- The objects that don't change

module _ {Dies : ℕ → Type 0} (maps : MapsAreKept) (details : DetailsRise) (forms : FormsAreKept) (old new : View) (kept : List (Option Dictionary)) (null : Option ℕ) (h : IsObjects old kept null) (o : ℕ) (changed : ChangedBut Dies old new o) where
  lawful-new : Lawful old.shape new.trail
  lawful-new = subst (λ (s : Shape). Lawful s new.trail) changed.shape changed.heap.lawful

  pub goes : GoesOn old.shape old.trail new.trail
  goes = goes-on-of old.shape changed.writes lawful-new

  after : IsLater old.trail new.trail
  after = is-later maps details old new o h.heap changed

  stays : (p : ℕ) → p ≢ o → WordsStay old.trail new.trail p
  stays p other = others-stay maps details old new o h.heap changed kept kept null h p other

  -- an object's slots are as many as its map's entries
  within : (p m k : ℕ) (g : GateWord) → map_in old.trail p ≡ Some m → gate_in old.trail m ≡ Some g → k < g.entries → k < (store_in old.trail p).capacity
  within p m k g has gate lt =
      let places = (forms old.shape old.trail h.heap.lawful).object_map p m has in
      let there = some-and (gate_in old.trail m) (λ x. x.entries ≤ (store_in old.trail p).capacity) places.is_open in
      let same : there.0 ≡ g = some-is there.0 g (sym there.1.0 ∙ gate) in
      let fits : g.entries ≤ (store_in old.trail p).capacity = subst (λ (x : GateWord). x.entries ≤ (store_in old.trail p).capacity) same there.1.1 in
      omega (arith, lt, fits)

  pub one-constants : ConstantsStayFor old.trail new.trail o → ConstantsStay old.trail new.trail
  one-constants own p = same-or p o (ConstantsStayFor old.trail new.trail p)
      (λ is. subst (ConstantsStayFor old.trail new.trail) (sym is) own)
      (λ other m k f d datum admits const stable. slot-stays old.trail new.trail p (stays p other) k (within p m k datum.gate datum.has datum.is_open datum.within))

  pub one-honest : HonestAfter → KeptIsCarried → IsFilled old.trail new.trail o → IsHonest old.trail → IsHonest new.trail
  one-honest honest carried own before = honest old.shape old.trail new.trail goes before (λ p. same-or p o (IsFilled old.trail new.trail p)
      (λ is. subst (IsFilled old.trail new.trail) (sym is) own)
      (λ other m k f d datum admits.
      let stay = stays p other in
      let has : map_in old.trail p ≡ Some m = sym stay.map ∙ datum.has in
      let places = (forms old.shape old.trail h.heap.lawful).object_map p m has in
      let there = some-and (gate_in old.trail m) (λ x. x.entries ≤ (store_in old.trail p).capacity) places.is_open in
      let same : there.0 ≡ datum.gate = some-is there.0 datum.gate (sym (after.maps.written.gate m there.0 there.1.0) ∙ datum.is_open) in
      let lt : k < there.0.entries = subst (λ (x : GateWord). k < x.entries) (sym same) datum.within in
      inl (carried old.shape old.trail new.trail p m k f d h.heap.lawful goes stay.map (slot-stays old.trail new.trail p stay k (within p m k there.0 has there.1.0 lt)) datum admits)))

  -- an object that left its map has no constant to show
  pub gone-constants : StableIsKept → (m c : ℕ) → map_in old.trail o ≡ Some m → map_in new.trail o ≡ Some c → c ≢ m → ConstantsStayFor old.trail new.trail o
  gone-constants law m c has now other x k f d datum admits const stable =
      let stayed : map_in new.trail o ≡ Some x = (law old.shape old.trail new.trail o x goes datum.has stable).map in
      let to : c ≡ x = some-is c x (sym now ∙ stayed) in
      let from : m ≡ x = some-is m x (sym has ∙ datum.has) in
      absurd (other (to ∙ sym from))

  -- so has one that has no map
  none-constants : StableIsKept → map_in new.trail o ≡ None → ConstantsStayFor old.trail new.trail o
  none-constants law gone x k f d datum admits const stable =
      let stayed : map_in new.trail o ≡ Some x = (law old.shape old.trail new.trail o x goes datum.has stable).map in
      let n : None ≡ Some x = sym gone ∙ stayed in
      let e : ⊥ = cc in
      absurd e

  none-filled : map_in new.trail o ≡ None → IsFilled old.trail new.trail o
  none-filled gone m k f d datum admits = let n : None ≡ Some m = sym gone ∙ datum.has in let e : ⊥ = cc in absurd e

  -- an object that has no map from now on
  pub none-facts : StableIsKept → HonestAfter → KeptIsCarried → map_in new.trail o ≡ None → FactsStay old.shape old.trail new.trail
  none-facts stable honest carried gone = record {
    goes = goes;
    constants = one-constants (none-constants stable gone);
    honest = one-honest honest carried (none-filled gone);
  }

  -- an object that has the map that it had, and the words of its slots
  pub same-facts : HonestAfter → KeptIsCarried → map_in new.trail o ≡ map_in old.trail o → ((k : ℕ) → slot_word new.trail o k ≡ slot_word old.trail o k) → FactsStay old.shape old.trail new.trail
  same-facts honest carried map words = record {
    goes = goes;
    constants = one-constants (λ m k f d datum admits const stable. words k);
    honest = one-honest honest carried (λ m k f d datum admits. inl (carried old.shape old.trail new.trail o m k f d h.heap.lawful goes map (words k) datum admits));
  }

  -- an object that had no map, and comes to one without entries
  pub entered-facts : HonestAfter → KeptIsCarried → map_in old.trail o ≡ None → (r : ℕ) → map_in new.trail o ≡ Some r → gate_in new.trail r ≡ Some (gate_with 0 false) → FactsStay old.shape old.trail new.trail
  entered-facts honest carried none r now root = record {
    goes = goes;
    constants = one-constants (λ m k f d datum admits const stable. let n : None ≡ Some m = sym none ∙ datum.has in let e : ⊥ = cc in absurd e);
    honest = one-honest honest carried (λ m k f d datum admits.
        let same : m ≡ r = some-is m r (sym datum.has ∙ now) in
        let gate : datum.gate ≡ gate_with 0 false = some-is datum.gate (gate_with 0 false) (sym datum.is_open ∙ (ap (gate_in new.trail) same ∙ root)) in
        let within : k < 0 = subst (λ (g : GateWord). k < g.entries) gate datum.within in
        absurd (omega (arith, within)));
  }

-- A property that was added

held-or : (o : Option Value) → datum_of o ≡ Datum (value_or o)
held-or (Some v) = refl
held-or None = refl

datum-is : (a b : Value) → Datum a ≡ Datum b → a ≡ b
datum-is a b e = cc

pub held-value : (r : Rep) (w : ℕ) → held_in DataProp r w ≡ Datum (value_in r w)
held-value Smi w = held-or (untagged_of w)
held-value Wide w = held-or (integer_of (unwide_of w))
held-value HeapObject w = held-or (untagged_of w)
held-value Tagged w = held-or (untagged_of w)

-- what two fields' words hold is one value
value-same : (a b : Rep) (w x : ℕ) → held_in DataProp a w ≡ held_in DataProp b x → value_in a w ≡ value_in b x
value-same a b w x e = datum-is (value_in a w) (value_in b x) (sym (held-value a w) ∙ e ∙ held-value b x)

pub at-some : (P : Detail → Type 0) (x : Option Detail) (d : Detail) → x ≡ Some d → IsSomeAnd x P → P d
at-some P (Some y) d is h = let same : y ≡ d = cc in subst P same h
at-some P None d is h = absurd h

module _ {Dies : ℕ → Type 0} (maps : MapsAreKept) (details : DetailsRise) (carries : MovedIsCarried) (gives : StoredIsGiven) (v x : View) (heap : IsHeap v) (o m n : ℕ) (g : GateWord) (p : Prop) (has : map_in v.trail o ≡ Some m) (is_open : gate_in v.trail m ≡ Some g) (count : g.entries ≡ n)
    (c : ℕ) (e : Detail) (changed : ChangedBut Dies v x o) (grown : IsGrown x.trail m c n (key_of p) e) (moved : map_in x.trail o ≡ Some c) (words : SlotsStay v.trail x.trail o n) (holds : held_in (kind_of p.held) e.rep (slot_word x.trail o n) ≡ p.held) (asks : AsksLast v.trail x.trail o n p) where
  add-later : IsLater v.trail x.trail
  add-later = is-later maps details v x o heap changed

  -- an entry that the map had
  entry-carried : (k f : ℕ) (d : Detail) → HasDatum x.trail o c k f → detail_in x.trail f ≡ Some d → k < n → IsCarried v.trail x.trail o k d
  entry-carried k f d datum admits before =
      let lt : k < g.entries = omega (arith, before, count) in
      let entry = add-later.maps.entry m k g is_open lt in
      let field : field_at v.trail m k ≡ Some f = sym entry.field ∙ (sym (grown.entries.fields k before) ∙ datum.field) in
      let made = some-and (field_at v.trail m k) (λ y. IsField v.trail y) ((add-later.maps.opened m g is_open).entries.fields k lt) in
      let same : made.0 ≡ f = some-is made.0 f (sym made.1.0 ∙ field) in
      let was = some-of (detail_in v.trail f) (subst (λ (y : ℕ). IsSome (detail_in v.trail y)) same made.1.1.detail) in
      let rises : RisesTo was.0 d = at-some (RisesTo was.0) (detail_in x.trail f) d admits (add-later.details f was.0 was.1) in
      carries v.trail x.trail o c k f d datum (record {
        map = m;
        gate = g;
        field = f;
        detail = was.0;
        had = has;
        is_open = is_open;
        within = lt;
        same_key = sym entry.key ∙ sym (grown.entries.keys k before);
        is_field = field;
        admits = was.1;
        inside = rises.within;
        same = value-same d.rep was.0.rep (slot_word x.trail o k) (slot_word v.trail o k) (held-rises DataProp was.0.rep d.rep (slot_word x.trail o k) rises.in_place ∙ ap (held_in DataProp was.0.rep) (words k before));
      })

  -- the new one
  last-given : (f : ℕ) (d : Detail) → HasDatum x.trail o c n f → detail_in x.trail f ≡ Some d → IsGiven v.trail x.trail o n d
  last-given f d datum admits = by p.held refl
    where
      by : (held : Held) → p.held ≡ held → IsGiven v.trail x.trail o n d
      by (Datum val) is =
          let w = slot_word x.trail o n in
          let there : detail_at x.trail c n ≡ Some d = ap (detail_of x.trail) datum.field ∙ admits in
          let asked : IsTrue (is_detail_within (detail_for v.trail val Const) d) = subst (λ (y : Held). IsTrue (is_detail_within (held_detail v.trail y Const) d)) is (asks c d moved there) in
          let same : d ≡ e = some-is d e (sym there ∙ grown.admits) in
          let there-held : held_in DataProp d.rep w ≡ Datum val = ap (λ (y : Detail). held_in DataProp y.rep w) same ∙ subst (λ (y : Held). held_in (kind_of y) e.rep w ≡ y) is holds in
          gives v.trail x.trail o n val Const d (value-held d.rep w val there-held) asked
      by (Pair a b) is =
          let key : datum.key ≡ key_of p = some-is datum.key (key_of p) (sym datum.is_key ∙ grown.last) in
          let kind : DataProp ≡ AccessorProp = sym datum.datum ∙ (ap (λ (k : Key). k.kind) key ∙ ap kind_of is) in
          let f : ⊥ = cc in absurd f

  pub added-filled : IsFilled v.trail x.trail o
  added-filled child k f d datum admits =
      let same : child ≡ c = some-is child c (sym datum.has ∙ moved) in
      let here : HasDatum x.trail o c k f = subst (λ (y : ℕ). HasDatum x.trail o y k f) same datum in
      let gates : here.gate ≡ grown.gate = some-is here.gate grown.gate (sym here.is_open ∙ grown.is_open) in
      let lt : k < grown.gate.entries = subst (λ (y : GateWord). k < y.entries) gates here.within in
      same-or k n (IsCarried v.trail x.trail o k d ⊎ IsGiven v.trail x.trail o k d)
      (λ last. subst (λ (y : ℕ). IsCarried v.trail x.trail o y d ⊎ IsGiven v.trail x.trail o y d) (sym last) (inr (last-given f d (subst (λ (y : ℕ). HasDatum x.trail o c y f) last here) admits)))
      (λ other. inl (entry-carried k f d here admits (omega (arith, lt, grown.count, other))))

-- An object that got a property by coming to another map

module _ (maps : MapsAreKept) (details : DetailsRise) (forms : FormsAreKept) (stable : StableIsKept) (honest : HonestAfter) (carried : KeptIsCarried) (carries : MovedIsCarried) (gives : StoredIsGiven)
    (v x : View) (kept : List (Option Dictionary)) (null : Option ℕ) (h : IsObjects v kept null) (o m n : ℕ) (g : GateWord) (p : Prop) (has : map_in v.trail o ≡ Some m) (is_open : gate_in v.trail m ≡ Some g) (count : g.entries ≡ n) where
  pub moved-facts : IsMoved v x o m n p → AsksLast v.trail x.trail o n p → FactsStay v.shape v.trail x.trail
  moved-facts it asks = record {
    goes = goes maps details forms v x kept null h o it.changed;
    constants = one-constants maps details forms v x kept null h o it.changed (gone-constants maps details forms v x kept null h o it.changed stable m it.child has it.moved it.other);
    honest = one-honest maps details forms v x kept null h o it.changed honest carried
        (added-filled maps details carries gives v x h.heap o m n g p has is_open count it.child it.detail it.changed it.grown it.moved it.words it.holds asks);
  }

  pub alone-facts : IsGrownAlone v x o m n p → FactsStay v.shape v.trail x.trail
  alone-facts it = record {
    goes = goes maps details forms v x kept null h o it.changed;
    constants = one-constants maps details forms v x kept null h o it.changed (gone-constants maps details forms v x kept null h o it.changed stable m v.used.maps has it.moved (λ is. let lt = it.younger in omega (arith, is, lt)));
    honest = one-honest maps details forms v x kept null h o it.changed honest carried
        (added-filled maps details carries gives v x h.heap o m n g p has is_open count v.used.maps it.detail it.changed it.grown it.moved it.words it.holds it.asks);
  }

-- An object that came to another map with the same keys, where each field admits what the old one did

-- the values of an object's properties are in the fields of another map, each of which admits what the old one did
pub record IsAdmittedAnew (old new : Trail) (o k : ℕ) (was now : Detail) : Type 0 where
  pub inside : IsTrue (is_detail_within was now)
  pub same : held_in DataProp now.rep (slot_word new o k) ≡ held_in DataProp was.rep (slot_word old o k)

module _ {Dies : ℕ → Type 0} (maps : MapsAreKept) (details : DetailsRise) (forms : FormsAreKept) (stable : StableIsKept) (honest : HonestAfter) (carried : KeptIsCarried) (carries : MovedIsCarried)
    (v x : View) (kept : List (Option Dictionary)) (null : Option ℕ) (h : IsObjects v kept null) (o m c n : ℕ) (g y : GateWord) (has : map_in v.trail o ≡ Some m) (is_open : gate_in v.trail m ≡ Some g) (count : g.entries ≡ n)
    (changed : ChangedBut Dies v x o) (moved : map_in x.trail o ≡ Some c) (own : ConstantsStayFor v.trail x.trail o) (to : gate_in x.trail c ≡ Some y) (as_many : y.entries ≡ n)
    (keys : (k : ℕ) → k < n → key_at x.trail c k ≡ key_at x.trail m k)
    (anew : (k f : ℕ) (key : Key) (was d : Detail) → k < n → key_at v.trail m k ≡ Some key → key.kind ≡ DataProp → field_at x.trail m k ≡ Some f → detail_in v.trail f ≡ Some was → detail_at x.trail c k ≡ Some d → IsAdmittedAnew v.trail x.trail o k was d) where
  like-later : IsLater v.trail x.trail
  like-later = is-later maps details v x o h.heap changed

  like-filled : IsFilled v.trail x.trail o
  like-filled child k f d datum admits =
      let same : child ≡ c = some-is child c (sym datum.has ∙ moved) in
      let here : HasDatum x.trail o c k f = subst (λ (q : ℕ). HasDatum x.trail o q k f) same datum in
      let gates : here.gate ≡ y = some-is here.gate y (sym here.is_open ∙ to) in
      let below : k < y.entries = subst (λ (q : GateWord). k < q.entries) gates here.within in
      let within : k < n = omega (arith, below, as_many) in
      let lt : k < g.entries = omega (arith, within, count) in
      let entry = like-later.maps.entry m k g is_open lt in
      let made = some-and (field_at v.trail m k) (λ q. IsField v.trail q) ((like-later.maps.opened m g is_open).entries.fields k lt) in
      let was = some-of (detail_in v.trail made.0) made.1.1.detail in
      let key : key_at v.trail m k ≡ Some here.key = sym entry.key ∙ (sym (keys k within) ∙ here.is_key) in
      let both = anew k made.0 here.key was.0 d within key here.datum (entry.field ∙ made.1.0) was.1 (ap (detail_of x.trail) here.field ∙ admits) in
      inl (carries v.trail x.trail o c k f d here (record {
        map = m;
        gate = g;
        field = made.0;
        detail = was.0;
        had = has;
        is_open = is_open;
        within = lt;
        same_key = sym entry.key ∙ sym (keys k within);
        is_field = made.1.0;
        admits = was.1;
        inside = both.inside;
        same = value-same d.rep was.0.rep (slot_word x.trail o k) (slot_word v.trail o k) both.same;
      }))

  pub like-facts : FactsStay v.shape v.trail x.trail
  like-facts = record {
    goes = goes maps details forms v x kept null h o changed;
    constants = one-constants maps details forms v x kept null h o changed own;
    honest = one-honest maps details forms v x kept null h o changed honest carried like-filled;
  }

-- a field of a private copy admits what the map's own does, and the word that stays holds what it held
pub alike-anew : (old new : Trail) → ((f : ℕ) (d : Detail) → detail_in old f ≡ Some d → IsSomeAnd (detail_in new f) (RisesTo d)) → (o c m k f : ℕ) (was d : Detail) → slot_word new o k ≡ slot_word old o k
    → detail_at new c k ≡ detail_at new m k → field_at new m k ≡ Some f → detail_in old f ≡ Some was → detail_at new c k ≡ Some d → IsAdmittedAnew old new o k was d
alike-anew old new rise o c m k f was d word alike field admits now =
    let rises : RisesTo was d = at-some (RisesTo was) (detail_in new f) d (sym (ap (detail_of new) field) ∙ (sym alike ∙ now)) (rise f was admits) in
    record {
      inside = rises.within;
      same = held-rises DataProp was.rep d.rep (slot_word new o k) rises.in_place ∙ ap (held_in DataProp was.rep) word;
    }

module _ (maps : MapsAreKept) (details : DetailsRise) (forms : FormsAreKept) (stable : StableIsKept) (honest : HonestAfter) (carried : KeptIsCarried) (carries : MovedIsCarried)
    (v x : View) (kept : List (Option Dictionary)) (null : Option ℕ) (h : IsObjects v kept null) (o m n : ℕ) (g : GateWord) (has : map_in v.trail o ≡ Some m) (is_open : gate_in v.trail m ≡ Some g) (count : g.entries ≡ n) where
  pub copied-facts : (fresh : Bool) (proto : Option ℕ) → IsMovedToCopy fresh v x o m n proto → FactsStay v.shape v.trail x.trail
  copied-facts fresh proto it =
      let after : IsLater v.trail x.trail = is-later maps details v x o h.heap it.changed in
      like-facts maps details forms stable honest carried carries v x kept null h o m v.used.maps n g (gate_with n true) has is_open count it.changed it.moved
      (gone-constants maps details forms v x kept null h o it.changed stable m v.used.maps has it.moved (λ is. let lt = it.younger in omega (arith, is, lt))) it.alike.gate refl it.alike.keys
      (λ k f key was d lt is_key datum field admits now. alike-anew v.trail x.trail after.details o v.used.maps m k f was d (it.words k lt) (it.alike.details k lt) field admits now)

-- an object whose map became unstable has no constant to show
marked-constants : (old new : Trail) (o m : ℕ) → map_in old o ≡ Some m → IsTrue (bits_in new m).unstable → ConstantsStayFor old new o
marked-constants old new o m has unstable x k f d datum admits const stable =
    let same : m ≡ x = some-is m x (sym has ∙ datum.has) in
    absurd (true≢false (sym unstable ∙ ap (λ (y : ℕ). (bits_in new y).unstable) same ∙ stable))

-- the words of an object with the slots that it had
word-same : (old new : Trail) (first : Option ℕ) (k : ℕ) → ((s : ℕ) → slot_in new s ≡ slot_in old s) → word_from new first k ≡ word_from old first k
word-same old new (Some x) k same = same (x + k)
word-same old new None k same = refl

pub words-same : (old new : Trail) (o k : ℕ) → store_in new o ≡ store_in old o → ((s : ℕ) → slot_in new s ≡ slot_in old s) → slot_word new o k ≡ slot_word old o k
words-same old new o k store slots = ap (λ (w : StoreWord). word_from new w.first k) store ∙ word-same old new (store_in old o).first k slots

-- what the word of a data property holds
prop-held : (old new : Trail) (o m c k : ℕ) (key : Key) (was now : Detail) → key_at old m k ≡ Some key → key.kind ≡ DataProp → key_at new c k ≡ Some key → detail_at old m k ≡ Some was → detail_at new c k ≡ Some now
    → prop_in new o c k ≡ prop_in old o m k → held_in DataProp now.rep (slot_word new o k) ≡ held_in DataProp was.rep (slot_word old o k)
prop-held old new o m c k key was now is datum then admits admits_now same =
    let before : (prop_in old o m k).held ≡ held_in key.kind was.rep (slot_word old o k) =
    ap (λ (x : Option Key). (prop_of x (detail_at old m k) (slot_word old o k)).held) is ∙ ap (λ (x : Option Detail). (prop_of (Some key) x (slot_word old o k)).held) admits in
    let after : (prop_in new o c k).held ≡ held_in key.kind now.rep (slot_word new o k) =
    ap (λ (x : Option Key). (prop_of x (detail_at new c k) (slot_word new o k)).held) then ∙ ap (λ (x : Option Detail). (prop_of (Some key) x (slot_word new o k)).held) admits_now in
    subst (λ (kind : Kind). held_in kind now.rep (slot_word new o k) ≡ held_in kind was.rep (slot_word old o k)) datum
    (sym after ∙ (ap (λ (p : Prop). p.held) same ∙ before))

-- An object that came to another map, where its properties are what they were
module _ {Dies : ℕ → Type 0} (maps : MapsAreKept) (details : DetailsRise) (forms : FormsAreKept) (stable : StableIsKept) (honest : HonestAfter) (carried : KeptIsCarried) (carries : MovedIsCarried)
    (v x : View) (kept : List (Option Dictionary)) (null : Option ℕ) (h : IsObjects v kept null) (o m n : ℕ) (g : GateWord) (has : map_in v.trail o ≡ Some m) (is_open : gate_in v.trail m ≡ Some g) (count : g.entries ≡ n) where
  pub resettled-facts : (c : ℕ) (own : Bool) (proto : Option ℕ) → ChangedBut Dies v x o → IsTrue (bits_in x.trail m).unstable → IsResettled v.trail x.trail o m c n own proto → FactsStay v.shape v.trail x.trail
  resettled-facts c own proto changed unstable it =
      let after : IsLater v.trail x.trail = is-later maps details v x o h.heap changed in
      like-facts maps details forms stable honest carried carries v x kept null h o m c n g (gate_with n own) has is_open count changed it.moved (marked-constants v.trail x.trail o m has unstable) it.gate refl it.keys
      (λ k f key was d lt is_key datum field admits now.
      let within : k < g.entries = omega (arith, lt, count) in
      let entry = after.maps.entry m k g is_open within in
      let before : field_at v.trail m k ≡ Some f = sym entry.field ∙ field in
      let was_there : detail_at v.trail m k ≡ Some was = ap (detail_of v.trail) before ∙ admits in
      record {
        inside = it.admits k was d lt was_there now;
        same = prop-held v.trail x.trail o m c k key was d is_key datum (it.keys k lt ∙ (entry.key ∙ is_key)) was_there now (it.props k lt);
      })
