-- At rest, a case that the words tell answers as full lookup.
use Rattle.std.proofs.Common.{◌≡◌, ◌≢◌, ℕ, ◌<◌, true, false, not, cond, eq-eqb, List, Option, Some, None, refl, sym, ap, ◌∙◌, subst}
use Rattle.std.proofs.lemmas.Bool.{ne_eqb}
use Rattle.std.specs.Prelude.{IsSomeAnd}
use mathlib.Core.Logic.{inl, inr}
use Rattle.hc_layout.specs.declared.words.GateWord.{GateWord}
use Rattle.hc_value.specs.Attrs.{no_attributes, is_read_only}
use Rattle.hc_value.specs.Word.{unwide_of, untagged_of, unpair_of, integer_of}
use Rattle.hc_value.specs.declared.attrs.Attrs.{Attrs}
use Rattle.hc_value.specs.declared.field.Detail.{Detail}
use Rattle.hc_value.specs.declared.field.Rep.{Rep}
use Rattle.hc_value.specs.declared.field.Rep.TheVariants.{Smi, Wide, HeapObject, Tagged}
use Rattle.hc_value.specs.declared.key.Key.{Key}
use Rattle.hc_value.specs.declared.prop.Held.TheVariants.{Datum, Pair}
use Rattle.hc_value.specs.declared.prop.Kind.{Kind}
use Rattle.hc_value.specs.declared.prop.Kind.TheVariants.{DataProp, AccessorProp}
use Rattle.hc_value.specs.declared.reply.Reply.TheVariants.{Val}
use Rattle.hc_value.specs.declared.value.Value.{Value}
use Rattle.hc_heap.specs.Lawful.{slot_word, word_from}
use Rattle.hc_heap.specs.Kept.{GatesAreOpen, UnusedSaysNothing}
use Rattle.hc_heap.specs.Readings.{gate_in, detail_in, map_in}
use Rattle.hc_heap.specs.States.{View}
use Rattle.hc_descs.specs.Entries.{key_at, field_at, detail_of, detail_at}
use Rattle.hc_table.specs.Changes.{Added, Wrote}
use Rattle.hc_table.specs.World.{Object, World, object, place_of}
use Rattle.hc_slots.specs.Meaning.{datum_of, pair_of, held_in, is_extensible}
use Rattle.hc_ops.specs.Act.{Act, answers, does}
use Rattle.hc_ops.specs.Get.{get_reply, read_of, read_nearest}
use Rattle.hc_ops.specs.Nearest.{nearest}
use Rattle.hc_ops.specs.Set.{create_act, write_act, writable_act, nearest_act, act_at, set_act}
use Rattle.hc_plan.specs.Chains.{Hop}
use Rattle.hc_plan.specs.declared.case.Case.{Case}
use Rattle.hc_plan.specs.declared.case.Op.{Op}
use Rattle.hc_plan.specs.declared.case.Op.TheVariants.{Load, Store}
use Rattle.hc_plan.specs.declared.case.Way.{Way}
use Rattle.hc_plan.specs.declared.case.Way.TheVariants.{Own, Holder, Constant, Absent, Getter, StoreOwn, Add, Setter, Reject}
use Rattle.hc_facts.specs.Honest.{value_in, value_or}
use Rattle.hc_soundness.specs.Answers.{holder_of, call_getter, call_setter, getter_in, setter_in, load_answer, store_answer}
use Rattle.hc_soundness.specs.Finding.{Finds, Lacks, IsWritable, IsReadOnly}
use Rattle.hc_soundness.specs.Meaning.{Dictionary, world}
use Rattle.hc_soundness.specs.Moments.{Now, IsToldNow}
use Rattle.hc_soundness.specs.Rest.{IsRest}
use Rattle.hc_soundness.specs.Right.{IsRightCase}
use Rattle.hc_soundness.specs.Told.{ToldWay, IsHolder, HoldsWord, IsMutable, IsConstant, IsOpenTo}
use Rattle.hc_soundness.proofs.Nearest.{nearest-found, nearest-none}
use Rattle.hc_soundness.proofs.Options.{some-of, some-and, some-same, some-at}
use Rattle.hc_soundness.proofs.Shown.{prop_with, entry-detail, finds-place, shown}

-- What a property holds

datum-held : (value : Option Value) → datum_of value ≡ Datum (value_or value)
datum-held (Some value) = refl
datum-held None = refl

-- a data property holds the value of its word
pub held-datum : (rep : Rep) (w : ℕ) → held_in DataProp rep w ≡ Datum (value_in rep w)
held-datum Wide w = datum-held (integer_of (unwide_of w))
held-datum Smi w = datum-held (untagged_of w)
held-datum HeapObject w = datum-held (untagged_of w)
held-datum Tagged w = datum-held (untagged_of w)

pair-held : (pair : Option (Option ℕ × Option ℕ)) → pair_of pair ≡ Pair (getter_in pair) (setter_in pair)
pair-held (Some pair) = refl
pair-held None = refl

getter-called : (o : ℕ) (getter setter : Option ℕ) → read_of o (Pair getter setter) ≡ call_getter o getter
getter-called o None setter = refl
getter-called o (Some getter) setter = refl

setter-called : (w : World) (o name : ℕ) (v : Value) (holder : ℕ) (attrs : Attrs) (getter setter : Option ℕ) → nearest_act w o name v holder attrs (Pair getter setter) ≡ call_setter o v setter
setter-called w o name v holder attrs getter None = refl
setter-called w o name v holder attrs getter (Some setter) = refl

-- a property of a data key, and of an accessor's
data-prop : (key : Key) (d : Detail) (w : ℕ) → key.kind ≡ DataProp → (prop_with key d w).held ≡ Datum (value_in d.rep w)
data-prop key d w is = ap (λ (kind : Kind). held_in kind d.rep w) is ∙ held-datum d.rep w

accessor-prop : (key : Key) (d : Detail) (w : ℕ) → key.kind ≡ AccessorProp → (prop_with key d w).held ≡ Pair (getter_in (unpair_of w)) (setter_in (unpair_of w))
accessor-prop key d w is = ap (λ (kind : Kind). held_in kind d.rep w) is ∙ pair-held (unpair_of w)

module _ (gates : GatesAreOpen) (unused : UnusedSaysNothing) (v : View) (kept : List (Option Dictionary)) (rest : IsRest v kept) (name : ℕ) where
  abbrev the-world : World
  the-world = world v.trail kept

  -- a holder and its property: what is nearest
  module _ (m : ℕ) (chain : List Hop) (at : Option ℕ) (h k o : ℕ) (key : Key) (is : IsHolder (Now v.trail) v.trail name m chain at h) (finds : Finds v.trail h name k key) (has : map_in v.trail o ≡ Some m) where
    there-with : (d : Detail) → detail_at v.trail h k ≡ Some d → nearest the-world o name ≡ Some (record { holder = holder_of at o; property = prop_with key d (slot_word v.trail (holder_of at o) k) })
    there-with d admits = nearest-found gates unused v kept rest name m chain at h k o key d is finds admits has

    some-detail : (d : Detail) × (detail_at v.trail h k ≡ Some d)
    some-detail = some-of (detail_at v.trail h k) (entry-detail gates v kept rest h k finds.gate finds.is_open finds.within)

    -- Loads
    read-datum : key.kind ≡ DataProp → (d : Detail) → detail_at v.trail h k ≡ Some d → get_reply the-world o name ≡ Val (value_in d.rep (slot_word v.trail (holder_of at o) k))
    read-datum datum d admits =
        ap (read_nearest o) (there-with d admits)
        ∙ ap (read_of o) (data-prop key d (slot_word v.trail (holder_of at o) k) datum)

    read-accessor : key.kind ≡ AccessorProp → get_reply the-world o name ≡ call_getter o (getter_in (unpair_of (slot_word v.trail (holder_of at o) k)))
    read-accessor accessor =
        let d = some-detail in
        let w = slot_word v.trail (holder_of at o) k in
        ap (read_nearest o) (there-with d.0 d.1)
        ∙ ap (read_of o) (accessor-prop key d.0 w accessor)
        ∙ getter-called o (getter_in (unpair_of w)) (setter_in (unpair_of w))

    -- Stores
    module _ (value : Value) where
      write-accessor : key.kind ≡ AccessorProp → set_act the-world o name value ≡ call_setter o value (setter_in (unpair_of (slot_word v.trail (holder_of at o) k)))
      write-accessor accessor =
          let d = some-detail in
          let w = slot_word v.trail (holder_of at o) k in
          ap (act_at the-world o name value) (there-with d.0 d.1)
          ∙ ap (nearest_act the-world o name value (holder_of at o) key.attrs) (accessor-prop key d.0 w accessor)
          ∙ setter-called the-world o name value (holder_of at o) key.attrs (getter_in (unpair_of w)) (setter_in (unpair_of w))

      write-datum : key.kind ≡ DataProp → set_act the-world o name value ≡ cond (is_read_only key.attrs) (answers false) (writable_act the-world o name value (holder_of at o))
      write-datum datum =
          let d = some-detail in
          ap (act_at the-world o name value) (there-with d.0 d.1)
          ∙ ap (nearest_act the-world o name value (holder_of at o) key.attrs) (data-prop key d.0 (slot_word v.trail (holder_of at o) k) datum)

      write-only_read : IsReadOnly key → set_act the-world o name value ≡ answers false
      write-only_read only =
          write-datum only.datum ∙ ap (λ b. cond b (answers false) (writable_act the-world o name value (holder_of at o))) only.only_read

      write-writable : IsWritable key → set_act the-world o name value ≡ writable_act the-world o name value (holder_of at o)
      write-writable writable =
          write-datum writable.datum ∙ ap (λ b. cond b (answers false) (writable_act the-world o name value (holder_of at o))) writable.writable

  -- an own property is written in its place
  own-written : (m k o : ℕ) (key : Key) → Finds v.trail m name k key → map_in v.trail o ≡ Some m → (value : Value) → writable_act the-world o name value o ≡ does (Wrote o k (Datum value))
  own-written m k o key finds has value =
      let d = some-of (detail_at v.trail m k) (entry-detail gates v kept rest m k finds.gate finds.is_open finds.within) in
      let place : place_of (object the-world o).props name ≡ Some k = ap (λ (x : Object). place_of x.props name) (shown unused v kept rest o m has) ∙ finds-place gates v kept rest o m name k key d.0 finds d.1 in
      ap (λ b. cond b (write_act o value (place_of (object the-world o).props name)) (create_act the-world o name value)) (eq-eqb o o refl)
      ∙ ap (write_act o value) place

  -- a map lacks a name or finds it
  lacks-or-finds : (m k : ℕ) (key : Key) → Lacks v.trail m name → Finds v.trail m name k key → ⊥
  lacks-or-finds m k key lacks finds =
      let gate = some-same finds.gate lacks.gate (sym finds.is_open ∙ lacks.is_open) in
      some-at (λ x. x.name ≢ name) (key_at v.trail m k) key finds.is_key (lacks.none k (subst (λ (g : GateWord). k < g.entries) gate finds.within)) finds.named

  module _ (m : ℕ) (chain : List Hop) (o : ℕ) (has : map_in v.trail o ≡ Some m) (value : Value) where
    -- where nothing is in the way, a store would make a property
    would-add : IsOpenTo (Now v.trail) v.trail name m chain → set_act the-world o name value ≡ create_act the-world o name value
    would-add (inl none) = ap (act_at the-world o name value) (nearest-none gates unused v kept rest name m chain o none has)
    would-add (inr hides) =
        let it = hides.hidden in
        let other : hides.object ≢ o = λ same.
        lacks-or-finds m hides.place it.key it.holder.lacks
        (subst (λ x. Finds v.trail x name hides.place it.key) (some-same it.map m (sym it.holder.has ∙ ap (map_in v.trail) same ∙ has)) it.finds) in
        write-writable m chain (Some hides.object) it.map hides.place o it.key it.holder it.finds has value it.such
        ∙ ap (λ b. cond b (write_act o value (place_of (object the-world o).props name)) (create_act the-world o name value)) (ne_eqb hides.object o other)

    is-locked : (g : GateWord) → gate_in v.trail m ≡ Some g → (object the-world o).extensible ≡ not g.is_locked
    is-locked g is = ap (λ (x : Object). x.extensible) (shown unused v kept rest o m has) ∙ ap is_extensible is

    abbrev makes : Act
    makes = does (Added o (record { name = name; attrs = no_attributes; held = Datum value }))

    creates : (g : GateWord) → gate_in v.trail m ≡ Some g → g.is_locked ≡ false → create_act the-world o name value ≡ makes
    creates g is unlocked = ap (λ b. cond b makes (answers false)) (is-locked g is ∙ ap not unlocked)

    refuses : (g : GateWord) → gate_in v.trail m ≡ Some g → g.is_locked ≡ true → create_act the-world o name value ≡ answers false
    refuses g is locked = ap (λ b. cond b makes (answers false)) (is-locked g is ∙ ap not locked)

  -- the detail that is told of a field is the entry's
  told-detail : (Admits : Detail → Type 0) (h k f : ℕ) → field_at v.trail h k ≡ Some f → IsSomeAnd (detail_in v.trail f) Admits → (d : Detail) × (detail_at v.trail h k ≡ Some d) × Admits d
  told-detail Admits h k f is admits = some-and Admits (detail_at v.trail h k) (subst (λ x. IsSomeAnd (detail_of v.trail x) Admits) (sym is) admits)

  constant-word : (o k w : ℕ) → HoldsWord (Now v.trail) v.trail o k w → slot_word v.trail o k ≡ w
  constant-word o k w h = ap (λ x. word_from v.trail x k) h.begins ∙ h.word

  -- Cases

  right-load : (m : ℕ) (chain : List Hop) (way : Way) → ToldWay (Now v.trail) v.trail Load name m chain way → (o : ℕ) → map_in v.trail o ≡ Some m
      → load_answer v.trail o way ≡ Some (get_reply the-world o name)
  right-load m chain (Own k f rep) h o has =
      let d = told-detail (λ d. d.rep ≡ rep) h.map k f h.field h.admits in
      ap (λ x. Some x) (sym (read-datum m chain None h.map k o h.key h.holder h.finds has h.such d.0 d.1 ∙ ap (λ r. Val (value_in r (slot_word v.trail o k))) d.2))
  right-load m chain (Holder q k f rep) h o has =
      let d = told-detail (IsMutable rep) h.map k f h.field h.admits in
      ap (λ x. Some x) (sym (read-datum m chain (Some q) h.map k o h.key h.holder h.finds has h.such d.0 d.1 ∙ ap (λ r. Val (value_in r (slot_word v.trail q k))) d.2.of_rep))
  right-load m chain (Constant q k f rep w) h o has =
      let d = told-detail (IsConstant rep) h.field.map k f h.field.field h.field.admits in
      ap (λ x. Some x) (sym (
      read-datum m chain (Some q) h.field.map k o h.field.key h.field.holder h.field.finds has h.field.such d.0 d.1
      ∙ ap (λ r. Val (value_in r (slot_word v.trail q k))) d.2.of_rep
      ∙ ap (λ x. Val (value_in rep x)) (constant-word q k w h.holds)))
  right-load m chain Absent h o has = ap (λ x. Some x) (sym (ap (read_nearest o) (nearest-none gates unused v kept rest name m chain o h has)))
  right-load m chain (Getter at k) h o has = ap (λ x. Some x) (sym (read-accessor m chain at h.map k o h.key h.holder h.finds has h.such))
  right-load m chain (StoreOwn k f rep class) h o has = absurd h
  right-load m chain (Add child k f rep class) h o has = absurd h
  right-load m chain (Setter at k) h o has = absurd h
  right-load m chain Reject h o has = absurd h

  right-store : (m : ℕ) (chain : List Hop) (way : Way) → ToldWay (Now v.trail) v.trail Store name m chain way → (o : ℕ) (value : Value) → map_in v.trail o ≡ Some m
      → store_answer v.trail name o value way ≡ Some (set_act the-world o name value)
  right-store m chain (StoreOwn k f rep class) h o value has =
      ap (λ x. Some x) (sym (
      write-writable m chain None h.map k o h.key h.holder h.finds has value h.such
      ∙ own-written m k o h.key (subst (λ x. Finds v.trail x name k h.key) h.holder.1 h.finds) has value))
  right-store m chain (Add child k f rep class) h o value has =
      ap (λ x. Some x) (sym (would-add m chain o has value h.nothing ∙ creates m chain o has value h.gate h.is_open h.unlocked))
  right-store m chain (Setter at k) h o value has = ap (λ x. Some x) (sym (write-accessor m chain at h.map k o h.key h.holder h.finds has value h.such))
  right-store m chain Reject (inl h) o value has =
      ap (λ x. Some x) (sym (write-only_read m chain h.at h.property.map h.place o h.property.key h.property.holder h.property.finds has value h.property.such))
  right-store m chain Reject (inr h) o value has =
      ap (λ x. Some x) (sym (would-add m chain o has value h.nothing ∙ refuses m chain o has value h.gate h.is_open h.locked))
  right-store m chain (Own k f rep) h o value has = absurd h
  right-store m chain (Holder q k f rep) h o value has = absurd h
  right-store m chain (Constant q k f rep w) h o value has = absurd h
  right-store m chain Absent h o value has = absurd h
  right-store m chain (Getter at k) h o value has = absurd h

  -- a told case is right
  pub told-right : (op : Op) (case : Case) → IsToldNow v.trail op name case → IsRightCase v.trail kept op name case
  told-right Load case h = right-load case.map case.chain case.way h.way
  told-right Store case h = right-store case.map case.chain case.way h.way
