-- What the answer of a told case reads is there, and of its form.
use Rattle.std.proofs.Common.{◌≡◌, ℕ, ◌+◌, ◌<◌, ◌≤◌, List, Option, Some, None, sym, ap, ◌∙◌, subst, arith}
use Rattle.std.specs.Prelude.{IsSomeAnd, IfSome}
use Rattle.hc_layout.specs.declared.words.GateWord.{GateWord}
use Rattle.hc_value.specs.declared.field.Detail.{Detail}
use Rattle.hc_value.specs.declared.field.Rep.{Rep}
use Rattle.hc_value.specs.declared.field.Rep.TheVariants.{Tagged}
use Rattle.hc_value.specs.declared.key.Key.{Key}
use Rattle.hc_value.specs.declared.prop.Kind.{Kind}
use Rattle.hc_value.specs.declared.prop.Kind.TheVariants.{DataProp, AccessorProp}
use Rattle.hc_heap.specs.Kept.{FormsAreKept, UnusedSaysNothing}
use Rattle.hc_heap.specs.Lawful.{IsFormOf, HoldsEntry, slot_word}
use Rattle.hc_heap.specs.Readings.{gate_in, detail_in, map_in, store_in}
use Rattle.hc_heap.specs.States.{View}
use Rattle.hc_descs.specs.Entries.{key_at, field_at}
use Rattle.hc_plan.specs.Chains.{Hop}
use Rattle.hc_plan.specs.declared.case.Op.{Op}
use Rattle.hc_plan.specs.declared.case.Op.TheVariants.{Load, Store}
use Rattle.hc_plan.specs.declared.case.Way.{Way}
use Rattle.hc_plan.specs.declared.case.Way.TheVariants.{Own, Holder, Constant, Absent, Getter, StoreOwn, Add, Setter, Reject}
use Rattle.hc_soundness.specs.Answers.{holder_of}
use Rattle.hc_soundness.specs.Finding.{Finds}
use Rattle.hc_soundness.specs.Meaning.{Dictionary, kept_of, HasMap, IsKeptSo}
use Rattle.hc_soundness.specs.Moments.{Now}
use Rattle.hc_soundness.specs.Readable.{HasSlot, IsReadable}
use Rattle.hc_soundness.specs.Rest.{IsRest}
use Rattle.hc_soundness.specs.Told.{IsMutable, IsConstant, IsStored, IsHolder, ToldWay}
use Rattle.hc_soundness.proofs.Holding.{constant-word}
use Rattle.hc_soundness.proofs.Options.{some-and, some-at, some-of, some-same, some-to, there}
use Rattle.hc_soundness.proofs.Shown.{is-there}

module _ (forms : FormsAreKept) (unused : UnusedSaysNothing) (v : View) (kept : List (Option Dictionary)) (rest : IsRest v kept) where
  -- an object that has a map is fast with it
  fast-by : (o m : ℕ) (item : Option Dictionary) → map_in v.trail o ≡ Some m → IsKeptSo v.trail o item → HasMap v.trail o
  fast-by o m (Some d) has none = let no : None ≡ Some m = sym none ∙ has in let f : ⊥ = cc in absurd f
  fast-by o m None has so = so

  fast : (o m : ℕ) → map_in v.trail o ≡ Some m → HasMap v.trail o
  fast o m has = fast-by o m (kept_of kept o) has (rest.each o (is-there unused v kept rest o m has))

  module _ (o h name k : ℕ) (key : Key) (has : map_in v.trail o ≡ Some h) (finds : Finds v.trail h name k key) where
    holds-entry : HoldsEntry v.trail o h k
    holds-entry =
        let it = fast o h has in
        let same = some-same it.map h (sym it.is_map ∙ has) in
        let gate = some-same it.gate finds.gate (sym it.fast.is_open ∙ ap (gate_in v.trail) same ∙ finds.is_open) in
        subst (λ m. HoldsEntry v.trail o m k) same (it.fast.holds.slots k (subst (λ (g : GateWord). k < g.entries) (sym gate) finds.within))

    slot-there : IsSomeAnd (store_in v.trail o).first (λ first. first + k < v.shape.slots)
    slot-there =
        let f = forms v.shape v.trail rest.heap.lawful in
        let places = some-at (λ g. g.entries ≤ (store_in v.trail o).capacity) (gate_in v.trail h) finds.gate finds.is_open (f.object_map o h has).is_open in
        let within_gate = finds.within in
        let some : 0 < (store_in v.trail o).capacity = omega arith in
        let first = some-of (store_in v.trail o).first (f.first o some) in
        let slots : (first.0 < v.shape.slots) × (first.0 + (store_in v.trail o).capacity ≤ v.shape.slots) =
        subst (λ x. IfSome x (λ first. (first < v.shape.slots) × (first + (store_in v.trail o).capacity ≤ v.shape.slots))) first.1 (f.slots o) in
        let fits = slots.1 in
        there (λ first. first + k < v.shape.slots) (store_in v.trail o).first first.0 first.1 (omega arith)

    -- the slot of an accessor
    accessor-slot : key.kind ≡ AccessorProp → HasSlot v.shape v.trail o k (IsFormOf AccessorProp Tagged)
    accessor-slot accessor =
        let of_key = some-at (λ key. IsSomeAnd (field_at v.trail h k) (λ f. IsSomeAnd (detail_in v.trail f) (λ d. IsFormOf key.kind d.rep (slot_word v.trail o k)))) (key_at v.trail h k) key finds.is_key holds-entry in
        let of_field = some-and (λ f. IsSomeAnd (detail_in v.trail f) (λ d. IsFormOf key.kind d.rep (slot_word v.trail o k))) (field_at v.trail h k) of_key in
        let of_detail = some-and (λ d. IsFormOf key.kind d.rep (slot_word v.trail o k)) (detail_in v.trail of_field.0) of_field.2 in
        record { there = slot-there; form = subst (λ (x : Kind). IsFormOf x of_detail.0.rep (slot_word v.trail o k)) accessor of_detail.2 }

    -- the slot of data
    data-slot : key.kind ≡ DataProp → (f : ℕ) (rep : Rep) → field_at v.trail h k ≡ Some f → IsSomeAnd (detail_in v.trail f) (λ d. d.rep ≡ rep) → HasSlot v.shape v.trail o k (IsFormOf DataProp rep)
    data-slot datum f rep field admits =
        let of_key = some-at (λ key. IsSomeAnd (field_at v.trail h k) (λ f. IsSomeAnd (detail_in v.trail f) (λ d. IsFormOf key.kind d.rep (slot_word v.trail o k)))) (key_at v.trail h k) key finds.is_key holds-entry in
        let of_field = some-at (λ f. IsSomeAnd (detail_in v.trail f) (λ d. IsFormOf key.kind d.rep (slot_word v.trail o k))) (field_at v.trail h k) f field of_key in
        let d = some-and (λ d. d.rep ≡ rep) (detail_in v.trail f) admits in
        let form = some-at (λ d. IsFormOf key.kind d.rep (slot_word v.trail o k)) (detail_in v.trail f) d.0 d.1 of_field in
        record {
          there = slot-there;
          form = subst (λ (r : Rep). IsFormOf DataProp r (slot_word v.trail o k)) d.2 (subst (λ (x : Kind). IsFormOf x d.0.rep (slot_word v.trail o k)) datum form);
        }

  module _ (name m : ℕ) (chain : List Hop) (o : ℕ) (has : map_in v.trail o ≡ Some m) where
    pub holder-has : (at : Option ℕ) (h : ℕ) → IsHolder (Now v.trail) v.trail name m chain at h → map_in v.trail (holder_of at o) ≡ Some h
    holder-has None h is = has ∙ ap (λ x. Some x) (sym is.1)
    holder-has (Some q) h is = is.has

    rep-of : (A : Detail → Type 0) (f : ℕ) (rep : Rep) → ((d : Detail) → A d → d.rep ≡ rep) → IsSomeAnd (detail_in v.trail f) A → IsSomeAnd (detail_in v.trail f) (λ d. d.rep ≡ rep)
    rep-of A f rep to h = some-to A (λ d. d.rep ≡ rep) (detail_in v.trail f) (λ d is a. to d a) h

    pub readable : (op : Op) (way : Way) → ToldWay (Now v.trail) v.trail op name m chain way → IsReadable v.shape v.trail o way
    readable Load (Own k f rep) h = data-slot o h.map name k h.key (holder-has None h.map h.holder) h.finds h.such f rep h.field h.admits
    readable Load (Holder q k f rep) h =
        data-slot q h.map name k h.key (holder-has (Some q) h.map h.holder) h.finds h.such f rep h.field (rep-of (IsMutable rep) f rep (λ d a. a.of_rep) h.admits)
    readable Load (Constant q k f rep w) h =
        let it = h.field in
        let slot = data-slot q it.map name k it.key (holder-has (Some q) it.map it.holder) it.finds it.such f rep it.field (rep-of (IsConstant rep) f rep (λ d a. a.of_rep) it.admits) in
        subst (IsFormOf DataProp rep) (constant-word v.trail q k w h.holds) slot.form
    readable Load Absent h = tt
    readable Load (Getter at k) h = accessor-slot (holder_of at o) h.map name k h.key (holder-has at h.map h.holder) h.finds h.such
    readable Load (StoreOwn k f rep class) h = absurd h
    readable Load (Add child k f rep class) h = absurd h
    readable Load (Setter at k) h = absurd h
    readable Load Reject h = absurd h
    readable Store (StoreOwn k f rep class) h =
        data-slot o h.map name k h.key (holder-has None h.map h.holder) h.finds h.such.datum f rep h.field (rep-of (IsStored rep class) f rep (λ d a. a.of_rep) h.admits)
    readable Store (Add child k f rep class) h = tt
    readable Store (Setter at k) h = accessor-slot (holder_of at o) h.map name k h.key (holder-has at h.map h.holder) h.finds h.such
    readable Store Reject h = tt
    readable Store (Own k f rep) h = absurd h
    readable Store (Holder q k f rep) h = absurd h
    readable Store (Constant q k f rep w) h = absurd h
    readable Store Absent h = absurd h
    readable Store (Getter at k) h = absurd h
