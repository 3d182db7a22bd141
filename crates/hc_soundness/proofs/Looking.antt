-- What the looks of a question say of a trail: the word of an item, and the entry of a name.
use Rattle.std.proofs.Common.{◌≡◌, ◌≢◌, ℕ, zero, suc, ◌+◌, ◌-◌, ◌<◌, ◌≤◌, Bool, true, false, eqb, eqb-true, Option, Some, None, List, refl, sym, ap, ◌∙◌, subst, arith}
use Rattle.std.proofs.lemmas.Bool.{eqb-false}
use Rattle.std.specs.Prelude.{if◌then◌else◌, IsSomeAnd, ◌⊎◌}
use mathlib.Core.Logic.{inl, inr}
use Rattle.hc_board.specs.Trail.{Access, word_at}
use Rattle.hc_layout.specs.Place.{index_of}
use Rattle.hc_layout.specs.Shape.{items_of, words_of}
use Rattle.hc_layout.specs.declared.shape.Shape.{Shape}
use Rattle.hc_layout.specs.declared.words.GateWord.{GateWord}
use Rattle.hc_value.specs.Field.{detail_of}
use Rattle.hc_value.specs.declared.field.Detail.{Detail}
use Rattle.hc_value.specs.declared.key.Key.{Key}
use Rattle.hc_heap.specs.Decode.{typed, key_read, number_read, optional_number}
use Rattle.hc_heap.specs.Kept.{at as position_at, GoesOn, WordsSay, PositionsGoOn, WrittenIsKept, WrittenStays, EntriesAreKept}
use Rattle.hc_heap.specs.Kinds.{region_of, place_at}
use Rattle.hc_heap.specs.Lawful.{Lawful, key_from, field_from}
use Rattle.hc_heap.specs.Readings.{gate_in, base_in, entry_key_in, reference_in, detail_in}
use Rattle.hc_heap.specs.Said.{Says}
use Rattle.hc_heap.specs.Writes.{Trail}
use Rattle.hc_heap.specs.declared.kind.Kind.{Kind}
use Rattle.hc_heap.specs.declared.kind.Kind.TheVariants.{BaseOfMap, KeyOfEntry, ReferenceOfEntry, DetailOfField}
use Rattle.hc_descs.specs.Entries.{key_at, field_at, LacksName}
use Rattle.hc_plan.specs.declared.case.Case.{Case}
use Rattle.hc_broker.specs.Peeks.{index_asked}
use Rattle.hc_question.specs.Ask.{Ask, with_word, ask, ask_base, ask_detail}
use Rattle.hc_question.specs.Question.{Entry, ask_field, matched, search, entries_from, in_map}
use Rattle.hc_soundness.proofs.Options.{some-same, there}
use Rattle.hc_soundness.proofs.Reaching.{Reaches}

module _ (words : WordsSay) (positions : PositionsGoOn) (written : WrittenIsKept) (kept : EntriesAreKept) (s : Shape) (stores : List Access) (lawful : Lawful s (typed s stores)) (upto : ℕ) (cs : List Case) where
  -- the trail at a position, and at the last one
  abbrev pub T : ℕ → Trail
  T q = position_at q (typed s stores)

  abbrev pub now : Trail
  now = T upto

  abbrev pub Goes : ℕ → Ask → Type 0
  Goes from question = Reaches s (words_of s) stores upto cs from question

  pub goes : (a b : ℕ) → a ≤ b → GoesOn s (T a) (T b)
  goes a b le = positions s (typed s stores) a b le lawful

  pub stays : (q : ℕ) → q ≤ upto → WrittenStays (T q) now
  stays q le = written s (T q) now (goes q upto le)

  -- One look

  -- a look found a word of its form, at a position from an earlier one on
  pub record Looked {U : Type 0} (kind : Kind) (form : ℕ → Option U) (item : ℕ) (next : U → Ask) (from : ℕ) : Type 0 where
    pub place : ℕ
    pub on : from ≤ place
    pub most : place ≤ upto
    pub word : ℕ
    pub value : U
    pub is : form word ≡ Some value
    pub says : Says kind (T place) item word
    pub left : Goes place (next value)

  pub looked : {U : Type 0} (kind : Kind) (form : ℕ → Option U) (item : ℕ) (next : U → Ask) (from : ℕ) → Goes from (ask kind form item next) → Looked kind form item next from
  looked {U} kind form item next from h =
      let q = h.1.0 in
      let within : item < items_of s (region_of kind) = let e = h.0 in grind (arith, e) in
      let index : index_asked s kind item ≡ index_of s (place_at kind item) = ap (λ (b : Bool). if b then index_of s (place_at kind item) else words_of s) h.0 in
      let said : Says kind (T q) item (word_at (words_of s) stores q (index_asked s kind item)) = subst (λ (i : ℕ). Says kind (T q) item (word_at (words_of s) stores q i)) (sym index) (words s stores q kind item lawful within) in
      by q h.1.1 h.1.2 (word_at (words_of s) stores q (index_asked s kind item)) said (form (word_at (words_of s) stores q (index_asked s kind item))) refl h.1.3
    where
      by : (q : ℕ) → from ≤ q → q ≤ upto → (w : ℕ) → Says kind (T q) item w → (o : Option U) → form w ≡ o → Goes q (with_word o next) → Looked kind form item next from
      by q a b w said (Some v) e left = record { place = q; on = a; most = b; word = w; value = v; is = e; says = said; left = left }
      by q a b w said None e left = absurd left

  -- The field of an entry, and its detail

  pub record FieldLooked (entry : ℕ) (next : ℕ → Detail → Ask) (from : ℕ) : Type 0 where
    pub field : ℕ
    pub is_field : reference_in now entry ≡ Some field
    pub detail : Detail
    pub place : ℕ
    pub on : from ≤ place
    pub most : place ≤ upto
    pub is_detail : detail_in (T place) field ≡ Some detail
    pub left : Goes place (next field detail)

  pub field-looked : (entry : ℕ) (next : ℕ → Detail → Ask) (from : ℕ) → Goes from (ask_field entry next) → FieldLooked entry next from
  field-looked entry next from h =
      let a = looked ReferenceOfEntry number_read entry (λ field. ask_detail field (next field)) from h in
      let b = looked DetailOfField detail_of a.value (next a.value) a.place a.left in
      let first = a.on in
      let second = b.on in
      record {
        field = a.value;
        is_field = (stays a.place a.most).reference entry a.value (sym a.says ∙ a.is);
        detail = b.value;
        place = b.place;
        on = omega (arith, first, second);
        most = b.most;
        is_detail = sym b.says ∙ b.is;
        left = b.left;
      }

  -- Entries

  module _ (m : ℕ) (g : GateWord) (opened : ℕ) (gate : gate_in (T opened) m ≡ Some g) (name : ℕ) (found : Entry) (missing : Ask) where
    -- the first entry of the name
    pub record FoundEntry (from : ℕ) : Type 0 where
      pub k : ℕ
      pub within : k < g.entries
      pub key : Key
      pub is_key : key_at now m k ≡ Some key
      pub named : key.name ≡ name
      pub before : LacksName now m k name
      pub entry : ℕ
      pub field : field_at now m k ≡ reference_in now entry
      pub place : ℕ
      pub on : from ≤ place
      pub left : Goes place (found entry k key)

    -- no entry has it
    pub record NoEntry (from : ℕ) : Type 0 where
      pub none : LacksName now m g.entries name
      pub place : ℕ
      pub on : from ≤ place
      pub left : Goes place missing

    module _ (based first : ℕ) (after : opened ≤ based) (most : based ≤ upto) (base : base_in (T based) m ≡ Some first) where
      all : opened ≤ upto
      all = omega (arith, after, most)

      key-now : (k : ℕ) → k < g.entries → key_at now m k ≡ entry_key_in now (first + k)
      key-now k lt =
          let a = kept s (T opened) now now m g k (goes opened upto all) (goes upto upto (omega arith)) gate lt in
          let b = kept s (T opened) (T based) now m g k (goes opened based after) (goes based upto most) gate lt in
          a.key ∙ sym b.key ∙ ap (λ x. key_from now x k) base

      pub field-now : (k : ℕ) → k < g.entries → field_at now m k ≡ reference_in now (first + k)
      field-now k lt =
          let a = kept s (T opened) now now m g k (goes opened upto all) (goes upto upto (omega arith)) gate lt in
          let b = kept s (T opened) (T based) now m g k (goes opened based after) (goes based upto most) gate lt in
          a.field ∙ sym b.field ∙ ap (λ x. field_from now x k) base

      lacks-more : (j : ℕ) (key : Key) → key_at now m j ≡ Some key → key.name ≢ name → LacksName now m j name → LacksName now m (suc j) name
      lacks-more j key is other before k lt = by (eqb k j) refl
        where
          by : (b : Bool) → eqb k j ≡ b → IsSomeAnd (key_at now m k) (λ x. x.name ≢ name)
          by true e = subst (λ x. IsSomeAnd (key_at now m x) (λ y. y.name ≢ name)) (sym (eqb-true k j e)) (there (λ y. y.name ≢ name) (key_at now m j) key is other)
          by false e = let apart = eqb-false k j e in before k (omega (arith, lt, apart))

      found-here : (j : ℕ) (key : Key) (from place : ℕ) → j < g.entries → key_at now m j ≡ Some key → key.name ≡ name → LacksName now m j name → from ≤ place
          → Goes place (found (first + j) ((first + j) - first) key) → FoundEntry from
      found-here j key from place lt is named before on left = record {
        k = j;
        within = lt;
        key = key;
        is_key = is;
        named = named;
        before = before;
        entry = first + j;
        field = field-now j lt;
        place = place;
        on = on;
        left = subst (λ (i : ℕ). Goes place (found (first + j) i key)) (omega arith) left;
      }

      one-entry : (j left from : ℕ) → j < g.entries → LacksName now m j name
          → (l : Looked KeyOfEntry key_read (first + j) (matched name first (first + j) found (search name first ((first + j) + 1) left found missing)) from)
          → ((place : ℕ) → LacksName now m (suc j) name → Goes place (search name first (first + suc j) left found missing) → FoundEntry place ⊎ NoEntry place)
          → FoundEntry from ⊎ NoEntry from
      one-entry j left from lt before l onward = by (eqb l.value.name name) refl l.left
        where
          is : key_at now m j ≡ Some l.value
          is = key-now j lt ∙ (stays l.place l.most).entry_key (first + j) l.value (sym l.says ∙ l.is)

          further : FoundEntry l.place ⊎ NoEntry l.place → FoundEntry from ⊎ NoEntry from
          further (inl f) = let a = l.on in let b = f.on in inl (record { k = f.k; within = f.within; key = f.key; is_key = f.is_key; named = f.named; before = f.before; entry = f.entry; field = f.field; place = f.place; on = omega (arith, a, b); left = f.left })
          further (inr n) = let a = l.on in let b = n.on in inr (record { none = n.none; place = n.place; on = omega (arith, a, b); left = n.left })

          by : (b : Bool) → eqb l.value.name name ≡ b
              → Goes l.place (if b then found (first + j) ((first + j) - first) l.value else search name first ((first + j) + 1) left found missing) → FoundEntry from ⊎ NoEntry from
          by true e rest = inl (found-here j l.value from l.place lt is (eqb-true l.value.name name e) before l.on rest)
          by false e rest =
              further (onward l.place (lacks-more j l.value is (eqb-false l.value.name name e) before)
              (subst (λ (i : ℕ). Goes l.place (search name first i left found missing)) (omega arith) rest))

      searched : (left j from : ℕ) → j + left ≡ g.entries → LacksName now m j name → Goes from (search name first (first + j) left found missing) → FoundEntry from ⊎ NoEntry from
      unfolding search
      searched zero j from count before h = inr (record { none = subst (λ n. LacksName now m n name) (omega (arith, count)) before; place = from; on = omega arith; left = h })
      searched (suc left) j from count before h =
          one-entry j left from (omega (arith, count)) before
          (looked KeyOfEntry key_read (first + j) (matched name first (first + j) found (search name first ((first + j) + 1) left found missing)) from h)
          (λ place lacks rest. searched left (suc j) place (omega (arith, count)) lacks rest)

    -- a map's entries, from a position on at which it is open
    pub in-map : (from : ℕ) → opened ≤ from → Goes from (in_map name m g.entries found missing) → FoundEntry from ⊎ NoEntry from
    in-map from after h = by (eqb g.entries 0) refl h
      where
        on-base : (l : Looked BaseOfMap optional_number m (entries_from name g.entries found missing) from) → (o : Option ℕ) → base_in (T l.place) m ≡ o
            → Goes l.place (entries_from name g.entries found missing o) → FoundEntry from ⊎ NoEntry from
        on-base l None e rest = absurd rest
        on-base l (Some first) e rest =
            let a = l.on in
            let it = searched l.place first (omega (arith, after, a)) l.most e g.entries 0 l.place (omega arith) (λ k lt. absurd (omega (arith, lt)))
            (subst (λ (i : ℕ). Goes l.place (search name first i g.entries found missing)) (omega arith) rest) in
            further l.place a it
          where
            further : (place : ℕ) → from ≤ place → FoundEntry place ⊎ NoEntry place → FoundEntry from ⊎ NoEntry from
            further place a (inl f) = let b = f.on in inl (record { k = f.k; within = f.within; key = f.key; is_key = f.is_key; named = f.named; before = f.before; entry = f.entry; field = f.field; place = f.place; on = omega (arith, a, b); left = f.left })
            further place a (inr n) = let b = n.on in inr (record { none = n.none; place = n.place; on = omega (arith, a, b); left = n.left })

        by : (b : Bool) → eqb g.entries 0 ≡ b → Goes from (if b then missing else ask_base m (entries_from name g.entries found missing)) → FoundEntry from ⊎ NoEntry from
        by true e rest = let z = eqb-true g.entries 0 e in inr (record { none = λ k lt. absurd (omega (arith, z, lt)); place = from; on = omega arith; left = rest })
        by false e rest =
            let l = looked BaseOfMap optional_number m (entries_from name g.entries found missing) from rest in
            let base : base_in (T l.place) m ≡ l.value = some-same (base_in (T l.place) m) l.value (sym l.says ∙ l.is) in
            on-base l l.value base l.left
