-- What a map's answer was told by: the looks of its question, as facts on the trail.
use Rattle.std.proofs.Common.{◌≡◌, ℕ, zero, suc, ◌+◌, ◌<◌, ◌≤◌, Bool, true, false, Option, Some, None, List, [], ◌∷◌, ◌++◌, length, length-append, refl, sym, ap, ◌∙◌, subst, arith}
use Rattle.std.specs.Prelude.{if◌then◌else◌, nat_lt, IsSomeAnd, ◌⊎◌}
use mathlib.Core.Logic.{inl, inr}
use Rattle.hc_board.specs.Trail.{Access}
use Rattle.hc_layout.specs.Words.{gate_of, store_of}
use Rattle.hc_layout.specs.declared.shape.Shape.{Shape}
use Rattle.hc_layout.specs.declared.words.GateWord.{GateWord}
use Rattle.hc_layout.specs.declared.words.StoreWord.{StoreWord}
use Rattle.hc_value.specs.Attrs.{is_read_only}
use Rattle.hc_value.specs.declared.field.Constness.{Constness}
use Rattle.hc_value.specs.declared.field.Constness.TheVariants.{Const, Mutable}
use Rattle.hc_value.specs.declared.field.Detail.{Detail}
use Rattle.hc_value.specs.declared.key.Key.{Key}
use Rattle.hc_value.specs.declared.prop.Kind.{Kind as PropertyKind}
use Rattle.hc_value.specs.declared.prop.Kind.TheVariants.{DataProp, AccessorProp}
use Rattle.hc_heap.specs.Decode.{typed, optional_number, settled_number, any_word}
use Rattle.hc_heap.specs.Kept.{WordsSay, PositionsGoOn, WrittenIsKept, EntriesAreKept}
use Rattle.hc_heap.specs.Lawful.{Lawful}
use Rattle.hc_heap.specs.Readings.{gate_in, prototype_in, reference_in, detail_in, map_in, store_in, slot_in}
use Rattle.hc_heap.specs.Writes.{Trail}
use Rattle.hc_heap.specs.declared.kind.Kind.TheVariants.{GateOfMap, PrototypeOfMap, MapOfObject, StoreOfObject, WordOfSlot}
use Rattle.hc_descs.specs.Entries.{field_at}
use Rattle.hc_plan.specs.Chains.{Hop, with_hop}
use Rattle.hc_plan.specs.declared.case.Case.{Case}
use Rattle.hc_plan.specs.declared.case.Op.{Op}
use Rattle.hc_plan.specs.declared.case.Op.TheVariants.{Load, Store}
use Rattle.hc_plan.specs.declared.case.Site.{Site}
use Rattle.hc_plan.specs.declared.case.Way.{Way}
use Rattle.hc_plan.specs.declared.case.Way.TheVariants.{Own, Holder, Constant, Absent, Getter, StoreOwn, Setter, Reject}
use Rattle.hc_plan.specs.declared.lists.TheConstants.{MAX_CHAIN}
use Rattle.hc_plan.specs.declared.skip.Skip.{Skip}
use Rattle.hc_plan.specs.declared.skip.Skip.TheVariants.{SlowHolder, Deep, ConstField}
use Rattle.hc_question.specs.declared.outcome.Answer.{Answer}
use Rattle.hc_question.specs.declared.outcome.Answer.TheVariants.{Found, Skipped}
use Rattle.hc_question.specs.Ask.{Ask, ask_gate}
use Rattle.hc_question.specs.Question.{Then, own_field, constant_slot, held_by, held_field, stored_to, stored_field, own_found, held_found, held_entry, absent, of_add, walk, of_object, holder_gate, holder_proto}
use Rattle.hc_soundness.specs.Finding.{Finds, Lacks, IsDatum, IsWritable, IsReadOnly, IsAccessor}
use Rattle.hc_soundness.specs.Told.{IsOfRep, IsMutable, IsConstant, IsStored, Leads, Passes, ComesTo, HasProperty, HasField, IsOpenTo, ToldWay}
use Rattle.hc_soundness.proofs.Looking.{T, now, Goes, stays, Looked, looked, FieldLooked, field-looked, FoundEntry, NoEntry, in-map}
use Rattle.hc_soundness.proofs.Options.{some-same, there}

module _ (words : WordsSay) (positions : PositionsGoOn) (written : WrittenIsKept) (kept : EntriesAreKept) (s : Shape) (stores : List Access) (lawful : Lawful s (typed s stores)) (upto : ℕ) (cs : List Case)
    (Saw : (Trail → Type 0) → Type 0) (start : ℕ) (see : (q : ℕ) → start ≤ q → q ≤ upto → (P : Trail → Type 0) → P (T words positions written kept s stores lawful upto cs q) → Saw P) where
  abbrev At : ℕ → Trail
  At q = T words positions written kept s stores lawful upto cs q

  abbrev Here : Trail
  Here = now words positions written kept s stores lawful upto cs

  abbrev Left : ℕ → Ask → Type 0
  Left from question = Goes words positions written kept s stores lawful upto cs from question

  -- an answer for a map is told
  abbrev pub IsGood : Op → ℕ → ℕ → List Hop → Answer → Type 0
  IsGood op name m chain (Found way) = (length chain ≤ MAX_CHAIN) × ToldWay Saw Here op name m chain way
  IsGood op name m chain (Skipped skip) = Unit {0}

  -- a question came to a map's answer, which is told
  pub record Ends (op : Op) (name m : ℕ) (next : Then) : Type 0 where
    pub chain : List Hop
    pub answer : Answer
    pub good : IsGood op name m chain answer
    pub place : ℕ
    pub on : start ≤ place
    pub left : Left place (next chain answer)

  module _ (name m : ℕ) (next : Then) where
    pub ends : (op : Op) (chain : List Hop) (way : Way) (place : ℕ) → length chain ≤ MAX_CHAIN → ToldWay Saw Here op name m chain way → start ≤ place → Left place (next chain (Found way)) → Ends op name m next
    ends op chain way place short told on left = record { chain = chain; answer = Found way; good = (short, told); place = place; on = on; left = left }

    pub skipped : (op : Op) (chain : List Hop) (skip : Skip) (place : ℕ) → start ≤ place → Left place (next chain (Skipped skip)) → Ends op name m next
    skipped op chain skip place on left = record { chain = chain; answer = Skipped skip; good = tt; place = place; on = on; left = left }

    -- a field was looked at: what is known of its detail
    pub saw-detail : (f place : ℕ) (d : Detail) (A : Detail → Type 0) → start ≤ place → place ≤ upto → detail_in (At place) f ≡ Some d → A d → Saw (λ u. IsSomeAnd (detail_in u f) A)
    saw-detail f place d A on most is a = see place on most (λ u. IsSomeAnd (detail_in u f) A) (there A (detail_in (At place) f) d is a)

    -- The receiver's own property

    module _ (k : ℕ) (key : Key) (finds : Finds Here m name k key) (entry : ℕ) (field_there : field_at Here m k ≡ reference_in Here entry) where
      own-has : (IsSuch : Key → Type 0) (A : Detail → Type 0) (f : ℕ) → IsSuch key → reference_in Here entry ≡ Some f → Saw (λ u. IsSomeAnd (detail_in u f) A) → HasField Saw Here IsSuch A name m [] None k f
      own-has IsSuch A f such is admits = record { map = m; key = key; holder = (refl, refl); finds = finds; such = such; field = field_there ∙ is; admits = admits }

      own-property : (IsSuch : Key → Type 0) → IsSuch key → HasProperty Saw Here IsSuch name m [] None k
      own-property IsSuch such = record { map = m; key = key; holder = (refl, refl); finds = finds; such = such }

      own-stored : (from : ℕ) → start ≤ from → IsWritable key → (l : FieldLooked words positions written kept s stores lawful upto cs entry (stored_field k [] next) from) → Ends Store name m next
      own-stored from on such l = by l.detail.constness refl l.left
        where
          later : start ≤ l.place
          later = let a = l.on in omega (arith, on, a)

          by : (c : Constness) → l.detail.constness ≡ c → Left l.place (stored_to c k l.field l.detail [] next) → Ends Store name m next
          by Const e rest = skipped Store [] (ConstField l.field) l.place later rest
          by Mutable e rest =
              ends Store [] (StoreOwn k l.field l.detail.rep l.detail.class) l.place (omega arith)
              (own-has IsWritable (IsStored l.detail.rep l.detail.class) l.field such l.is_field
              (saw-detail l.field l.place l.detail (IsStored l.detail.rep l.detail.class) later l.most l.is_detail (record { of_rep = refl; mutable = e; class = refl })))
              later rest

      pub own-answer : (op : Op) (kind : PropertyKind) → key.kind ≡ kind → (only : Bool) → is_read_only key.attrs ≡ only → (from : ℕ) → start ≤ from → Left from (own_found op kind only [] next entry k) → Ends op name m next
      own-answer Load DataProp e only f from on h =
          let l = field-looked words positions written kept s stores lawful upto cs entry (own_field k [] next) from h in
          let a = l.on in
          let later : start ≤ l.place = omega (arith, on, a) in
          ends Load [] (Own k l.field l.detail.rep) l.place (omega arith)
          (own-has IsDatum (IsOfRep l.detail.rep) l.field e l.is_field (saw-detail l.field l.place l.detail (IsOfRep l.detail.rep) later l.most l.is_detail refl))
          later l.left
      own-answer Load AccessorProp e only f from on h = ends Load [] (Getter None k) from (omega arith) (own-property IsAccessor e) on h
      own-answer Store DataProp e true f from on h =
          ends Store [] Reject from (omega arith) (inl (record { at = None; place = k; property = own-property IsReadOnly (record { datum = e; only_read = f }) })) on h
      own-answer Store DataProp e false f from on h =
          own-stored from on (record { datum = e; writable = f }) (field-looked words positions written kept s stores lawful upto cs entry (stored_field k [] next) from h)
      own-answer Store AccessorProp e only f from on h = ends Store [] (Setter None k) from (omega arith) (own-property IsAccessor e) on h

    -- A property of an object of the chain

    module _ (chain : List Hop) (short : length chain ≤ MAX_CHAIN) (o h : ℕ) (comes : ComesTo Saw Here name m chain o h) (k : ℕ) (key : Key) (finds : Finds Here h name k key) (entry : ℕ)
        (field_there : field_at Here h k ≡ reference_in Here entry) where
      held-has : (IsSuch : Key → Type 0) (A : Detail → Type 0) (f : ℕ) → IsSuch key → reference_in Here entry ≡ Some f → Saw (λ u. IsSomeAnd (detail_in u f) A) → HasField Saw Here IsSuch A name m chain (Some o) k f
      held-has IsSuch A f such is admits = record { map = h; key = key; holder = comes; finds = finds; such = such; field = field_there ∙ is; admits = admits }

      held-property : (IsSuch : Key → Type 0) → IsSuch key → HasProperty Saw Here IsSuch name m chain (Some o) k
      held-property IsSuch such = record { map = h; key = key; holder = comes; finds = finds; such = such }

      held-constant : (f place : ℕ) (d : Detail) → IsDatum key → reference_in Here entry ≡ Some f → start ≤ place → place ≤ upto → detail_in (At place) f ≡ Some d → d.constness ≡ Const
          → (l : Looked words positions written kept s stores lawful upto cs StoreOfObject store_of o (λ store. constant_slot o k f d.rep chain next store.first) place) → Ends Load name m next
      held-constant f place d such is on most admits const l = by l.value.first refl l.left
        where
          store : store_in (At l.place) o ≡ l.value
          store = some-same (store_in (At l.place) o) l.value (sym l.says ∙ l.is)

          by : (first : Option ℕ) → l.value.first ≡ first → Left l.place (constant_slot o k f d.rep chain next first) → Ends Load name m next
          by None e rest = absurd rest
          by (Some first) e rest =
              let w = looked words positions written kept s stores lawful upto cs WordOfSlot any_word (first + k) (λ word. next chain (Found (Constant o k f d.rep word))) l.place rest in
              let a = l.on in
              let b = w.on in
              let held : slot_in (At w.place) (first + k) ≡ w.value = some-same (slot_in (At w.place) (first + k)) w.value (sym w.says ∙ w.is) in
              ends Load chain (Constant o k f d.rep w.value) w.place short
              (record {
                field = held-has IsDatum (IsConstant d.rep) f such is (saw-detail f place d (IsConstant d.rep) on most admits (record { of_rep = refl; constant = const }));
                holds = record {
                  first = first;
                  begins = see l.place (omega (arith, on, a)) l.most (λ u. (store_in u o).first ≡ Some first) (ap (λ (x : StoreWord). x.first) store ∙ e);
                  word = see w.place (omega (arith, on, a, b)) w.most (λ u. slot_in u (first + k) ≡ w.value) held;
                };
              })
              (omega (arith, on, a, b)) w.left

      held-loaded : (from : ℕ) → start ≤ from → IsDatum key → (l : FieldLooked words positions written kept s stores lawful upto cs entry (held_field o k chain next) from) → Ends Load name m next
      held-loaded from on such l = by l.detail.constness refl l.left
        where
          later : start ≤ l.place
          later = let a = l.on in omega (arith, on, a)

          by : (c : Constness) → l.detail.constness ≡ c → Left l.place (held_by c o k l.field l.detail.rep chain next) → Ends Load name m next
          by Const e rest =
              held-constant l.field l.place l.detail such l.is_field later l.most l.is_detail e
              (looked words positions written kept s stores lawful upto cs StoreOfObject store_of o (λ store. constant_slot o k l.field l.detail.rep chain next store.first) l.place rest)
          by Mutable e rest =
              ends Load chain (Holder o k l.field l.detail.rep) l.place short
              (held-has IsDatum (IsMutable l.detail.rep) l.field such l.is_field
              (saw-detail l.field l.place l.detail (IsMutable l.detail.rep) later l.most l.is_detail (record { of_rep = refl; mutable = e })))
              later rest

      held-answer : (op : Op) (kind : PropertyKind) → key.kind ≡ kind → (only : Bool) → is_read_only key.attrs ≡ only → (from : ℕ) → start ≤ from → (added : Ask)
          → (op ≡ Store → IsOpenTo Saw Here name m chain → Left from added → Ends op name m next)
          → Left from (held_found op kind only o chain next added entry k) → Ends op name m next
      held-answer Load DataProp e only f from on added adds rest = held-loaded from on e (field-looked words positions written kept s stores lawful upto cs entry (held_field o k chain next) from rest)
      held-answer Load AccessorProp e only f from on added adds rest = ends Load chain (Getter (Some o) k) from short (held-property IsAccessor e) on rest
      held-answer Store DataProp e true f from on added adds rest =
          ends Store chain Reject from short (inl (record { at = Some o; place = k; property = held-property IsReadOnly (record { datum = e; only_read = f }) })) on rest
      held-answer Store DataProp e false f from on added adds rest =
          adds refl (inr (record { object = o; place = k; hidden = held-property IsWritable (record { datum = e; writable = f }) })) rest
      held-answer Store AccessorProp e only f from on added adds rest = ends Store chain (Setter (Some o) k) from short (held-property IsAccessor e) on rest

    -- The chain

    leads-more : (hops : List Hop) (from : Option ℕ) (hop : Hop) (upper : Option ℕ) → Leads Saw Here name from hops (Some hop.0) → Passes Saw Here name hop upper → Leads Saw Here name from (hops ++ hop ∷ []) upper
    leads-more [] from hop upper h passes = (upper, h, passes, refl)
    leads-more (x ∷ hops) from hop upper h passes = (h.0, h.1, h.2, leads-more hops h.0 hop upper h.3 passes)

    -- a chain that isn't full takes one object more
    hop-taken : (chain : List Hop) (o h : ℕ) → length chain < MAX_CHAIN → with_hop chain o h ≡ chain ++ (o, h) ∷ []
    hop-taken chain o h lt = by (nat_lt (length chain) MAX_CHAIN) refl
      where
        by : (b : Bool) → nat_lt (length chain) MAX_CHAIN ≡ b → (if b then chain ++ (o, h) ∷ [] else chain) ≡ chain ++ (o, h) ∷ []
        by true e = refl
        by false e = let no : ⊥ = grind (arith, e, lt) in absurd no

    module _ (op : Op) (most : ℕ) (g : GateWord) (lacks : Lacks Here m name) (proto : Option ℕ) (is_proto : prototype_in Here m ≡ Some proto)
        (adding : (chain : List Hop) (from : ℕ) → op ≡ Store → length chain ≤ MAX_CHAIN → start ≤ from → IsOpenTo Saw Here name m chain → Left from (of_add name most m g chain next) → Ends op name m next) where
      abbrev what : Site
      what = record { op = op; name = name }

      to-null : (op2 : Op) → op ≡ op2 → (chain : List Hop) (from : ℕ) → length chain ≤ MAX_CHAIN → start ≤ from → Leads Saw Here name proto chain None → Left from (absent op2 name most m g chain next) → Ends op name m next
      to-null Load e chain from short on leads rest =
          subst (λ (x : Op). Ends x name m next) (sym e) (ends Load chain Absent from short (record { lacks = lacks; proto = proto; is_proto = is_proto; leads = leads }) on rest)
      to-null Store e chain from short on leads rest =
          adding chain from e short on (inl (record { lacks = lacks; proto = proto; is_proto = is_proto; leads = leads })) rest

      -- past one object of the chain
      module _ (left : ℕ) (chain : List Hop) (o : ℕ) (count : length chain + suc left ≡ MAX_CHAIN) (leads : Leads Saw Here name proto chain (Some o))
          (onward : (longer : List Hop) (at : Option ℕ) (place : ℕ) → length longer + left ≡ MAX_CHAIN → start ≤ place → Leads Saw Here name proto longer at → Left place (walk what most m g left next longer at) → Ends op name m next) where
        abbrev longer : ℕ → List Hop
        longer h = chain ++ (o, h) ∷ []

        longer-count : (h : ℕ) → length (longer h) + left ≡ MAX_CHAIN
        longer-count h = let a = length-append chain ((o, h) ∷ []) in omega (arith, a, count)

        longer-short : (h : ℕ) → length (longer h) ≤ MAX_CHAIN
        longer-short h = let a = longer-count h in omega (arith, a)

        in-holder : (h : ℕ) (holders : GateWord) (opened : ℕ) → start ≤ opened → opened ≤ upto → gate_in (At opened) h ≡ Some holders → Saw (λ u. map_in u o ≡ Some h)
            → (l : Looked words positions written kept s stores lawful upto cs PrototypeOfMap settled_number h (holder_proto what most m g o (longer h) next (walk what most m g left next (longer h)) h holders.entries) opened) → Ends op name m next
        in-holder h holders opened on top gate has l =
            let a = l.on in
            by (in-map words positions written kept s stores lawful upto cs h holders opened gate name (held_entry what most m g o (longer h) next) (walk what most m g left next (longer h) l.value) l.place l.on l.left)
          where
            is_open : gate_in Here h ≡ Some holders
            is_open = (stays words positions written kept s stores lawful upto cs opened top).gate h holders gate

            upper : prototype_in Here h ≡ Some l.value
            upper = (stays words positions written kept s stores lawful upto cs l.place l.most).prototype h l.value (sym l.says ∙ l.is)

            by : FoundEntry words positions written kept s stores lawful upto cs h holders opened gate name (held_entry what most m g o (longer h) next) (walk what most m g left next (longer h) l.value) l.place
                ⊎ NoEntry words positions written kept s stores lawful upto cs h holders opened gate name (held_entry what most m g o (longer h) next) (walk what most m g left next (longer h) l.value) l.place → Ends op name m next
            by (inl f) =
                let a = l.on in
                let b = f.on in
                let finds : Finds Here h name f.k f.key = record { gate = holders; is_open = is_open; within = f.within; is_key = f.is_key; named = f.named; before = f.before } in
                let comes : ComesTo Saw Here name m (longer h) o h = record { lacks = lacks; proto = proto; is_proto = is_proto; before = chain; is = refl; leads = leads; has = has } in
                held-answer (longer h) (longer-short h) o h comes f.k f.key finds f.entry f.field op f.key.kind refl (is_read_only f.key.attrs) refl f.place (omega (arith, on, a, b))
                (of_add name most m g (longer h) next)
                (λ e nothing rest. adding (longer h) f.place e (longer-short h) (omega (arith, on, a, b)) nothing rest)
                f.left
            by (inr n) =
                let a = l.on in
                let b = n.on in
                onward (longer h) l.value n.place (longer-count h) (omega (arith, on, a, b))
                (leads-more chain proto (o, h) l.value leads (record { has = has; lacks = record { gate = holders; is_open = is_open; none = n.none }; proto = upper }))
                n.left

        has-map : (h place : ℕ) → start ≤ place → place ≤ upto → map_in (At place) o ≡ Some h
            → (l : Looked words positions written kept s stores lawful upto cs GateOfMap gate_of h (holder_gate what most m g o (longer h) next (walk what most m g left next (longer h)) h) place) → Ends op name m next
        has-map h place on top is l =
            let a = l.on in
            in-holder h l.value l.place (omega (arith, on, a)) l.most (sym l.says ∙ l.is) (see place on top (λ u. map_in u o ≡ Some h) is)
            (looked words positions written kept s stores lawful upto cs PrototypeOfMap settled_number h (holder_proto what most m g o (longer h) next (walk what most m g left next (longer h)) h l.value.entries) l.place l.left)

        one-object : (from : ℕ) → start ≤ from → (l : Looked words positions written kept s stores lawful upto cs MapOfObject optional_number o (of_object what most m g o chain next (walk what most m g left next)) from) → Ends op name m next
        one-object from on l = by l.value (some-same (map_in (At l.place) o) l.value (sym l.says ∙ l.is)) l.left
          where
            later : start ≤ l.place
            later = let a = l.on in omega (arith, on, a)

            by : (h : Option ℕ) → map_in (At l.place) o ≡ h → Left l.place (of_object what most m g o chain next (walk what most m g left next) h) → Ends op name m next
            by None e rest = skipped op chain (SlowHolder o) l.place later rest
            by (Some h) e rest =
                has-map h l.place later l.most e
                (looked words positions written kept s stores lawful upto cs GateOfMap gate_of h (holder_gate what most m g o (longer h) next (walk what most m g left next (longer h)) h) l.place
                (subst (λ (c : List Hop). Left l.place (ask_gate h (holder_gate what most m g o c next (walk what most m g left next c) h))) (hop-taken chain o h (omega (arith, count))) rest))

      pub walked : (left : ℕ) (chain : List Hop) (at : Option ℕ) (from : ℕ) → length chain + left ≡ MAX_CHAIN → start ≤ from → Leads Saw Here name proto chain at → Left from (walk what most m g left next chain at) → Ends op name m next
      unfolding walk
      walked zero chain None from count on leads h = to-null op refl chain from (omega (arith, count)) on leads h
      walked zero chain (Some o) from count on leads h = skipped op chain (Deep o) from on h
      walked (suc left) chain None from count on leads h = to-null op refl chain from (omega (arith, count)) on leads h
      walked (suc left) chain (Some o) from count on leads h =
          one-object left chain o count leads (λ longer at place more on2 leads2 rest. walked left longer at place more on2 leads2 rest) from on
          (looked words positions written kept s stores lawful upto cs MapOfObject optional_number o (of_object what most m g o chain next (walk what most m g left next)) from h)
