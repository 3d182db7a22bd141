-- The dependencies of a case that is told hold.
use Rattle.std.proofs.Common.{◌≡◌, ℕ, ◌+◌, ◌<◌, ◌≤◌, List, [], ◌∷◌, Option, Some, None, sym, ap, ◌∙◌, subst, arith}
use Rattle.std.specs.List.{AllByRecursion}
use Rattle.std.specs.Prelude.{IsSomeAnd, IfSome}
use mathlib.Core.Logic.{inl, inr}
use Rattle.hc_layout.specs.declared.shape.Shape.{Shape}
use Rattle.hc_layout.specs.declared.words.GateWord.{GateWord}
use Rattle.hc_value.specs.declared.field.Class.{Class}
use Rattle.hc_value.specs.declared.field.Class.TheVariants.{Of, Any}
use Rattle.hc_value.specs.declared.field.Constness.TheVariants.{Const}
use Rattle.hc_value.specs.declared.key.Key.{Key}
use Rattle.hc_heap.specs.declared.kind.Kind.TheVariants.{GateOfMap}
use Rattle.hc_heap.specs.Writes.{Trail}
use Rattle.hc_heap.specs.Readings.{gate_in, prototype_in, detail_in, map_in, store_in}
use Rattle.hc_heap.specs.Lawful.{Lawful, slot_word, word_from}
use Rattle.hc_heap.specs.Kept.{FormsHold, UnusedSaysNothing, WritesAreWithin}
use Rattle.hc_plan.specs.Chains.{Hop}
use Rattle.hc_plan.specs.Deps.{way_deps, class_deps}
use Rattle.hc_plan.specs.Laws.{CaseHolds}
use Rattle.hc_plan.specs.declared.case.Case.{Case}
use Rattle.hc_plan.specs.declared.case.Op.{Op}
use Rattle.hc_plan.specs.declared.case.Op.TheVariants.{Load, Store}
use Rattle.hc_plan.specs.declared.case.Way.{Way}
use Rattle.hc_plan.specs.declared.case.Way.TheVariants.{Own, Holder, Constant, Absent, Getter, StoreOwn, Add, Setter, Reject}
use Rattle.hc_deps.specs.Trails.{HoldsWordIn, HoldsIn}
use Rattle.hc_soundness.specs.Finding.{Finds}
use Rattle.hc_soundness.specs.Meaning.{AreCalm}
use Rattle.hc_soundness.specs.Moments.{Now, IsToldNow}
use Rattle.hc_soundness.specs.Told.{IsMutable, IsConstant, IsStored, IsAdded, Leads, ComesTo, ComesToNull, IsHolder, HoldsWord, IsOpenTo, ToldWay}
use Rattle.hc_soundness.proofs.Lists.{all-joined}
use Rattle.hc_soundness.proofs.Options.{some-of, some-to, some-at, is-some, there}
use Rattle.hc_soundness.proofs.Presently.{IsStableMap, AreStable}

pub constant-word : (t : Trail) (o k w : ℕ) → HoldsWord (Now t) t o k w → slot_word t o k ≡ w
constant-word t o k w h = ap (λ x. word_from t x k) h.begins ∙ h.word

module _ (unused : UnusedSaysNothing) (within : WritesAreWithin) (s : Shape) (t : Trail) (lawful : Lawful s t) where
  -- an open map is one of the board's
  pub map-there : (m : ℕ) (g : GateWord) → gate_in t m ≡ Some g → m < s.maps
  map-there m g is = by m s.maps (λ le. let none : gate_in t m ≡ None = unused s t GateOfMap m (within s t lawful) le in let no : None ≡ Some g = sym none ∙ is in let f : ⊥ = cc in f)
    where
      by : (a b : ℕ) → (b ≤ a → ⊥) → a < b
      by a b h = omega (arith, h)

  module _ (forms : FormsHold s t) (calm : AreCalm t) (name : ℕ) where
    -- a map that a prototype has is stable
    hop-stable : (q o h : ℕ) → prototype_in t q ≡ Some (Some o) → map_in t o ≡ Some h → IsStableMap s t h
    hop-stable q o h proto has = ((forms.object_map o h has).there, calm o h has (forms.prototype q o proto).1)

    -- so the maps of a chain are
    leads-stable : (hops : List Hop) (q : ℕ) (from upto : Option ℕ) → prototype_in t q ≡ Some from → Leads (Now t) t name from hops upto
        → AreStable s t hops × ((p : ℕ) × (prototype_in t p ≡ Some upto))
    leads-stable [] q from upto proto h = (tt, (q, proto ∙ ap (λ x. Some x) h))
    leads-stable (hop ∷ hops) q from upto proto h =
        let rest = leads-stable hops hop.1 h.0 upto h.2.proto h.3 in
        ((hop-stable q hop.0 hop.1 (proto ∙ ap (λ x. Some x) h.1) h.2.has, rest.0), rest.1)

    module _ (m : ℕ) (chain : List Hop) where
      comes-stable : (o h : ℕ) → ComesTo (Now t) t name m chain o h → AreStable s t chain
      comes-stable o h c =
          let front = leads-stable c.before m c.proto (Some o) c.is_proto c.leads in
          subst (AreStable s t) (sym c.is) (all-joined (λ (hop : Hop). IsStableMap s t hop.1) c.before ((o, h) ∷ []) front.0 (hop-stable front.1.0 o h front.1.1 c.has, tt))

      null-stable : ComesToNull (Now t) t name m chain → AreStable s t chain
      null-stable c = (leads-stable chain m c.proto None c.is_proto c.leads).0

      holder-stable : (at : Option ℕ) (h : ℕ) → IsHolder (Now t) t name m chain at h → AreStable s t chain
      holder-stable None h c = subst (AreStable s t) (sym c.0) tt
      holder-stable (Some o) h c = comes-stable o h c

      open-stable : IsOpenTo (Now t) t name m chain → AreStable s t chain
      open-stable (inl h) = null-stable h
      open-stable (inr h) = comes-stable h.object h.hidden.map h.hidden.holder

      chain-stable : (op : Op) (way : Way) → ToldWay (Now t) t op name m chain way → AreStable s t chain
      chain-stable Load (Own k f rep) h = holder-stable None h.map h.holder
      chain-stable Load (Holder o k f rep) h = comes-stable o h.map h.holder
      chain-stable Load (Constant o k f rep w) h = comes-stable o h.field.map h.field.holder
      chain-stable Load Absent h = null-stable h
      chain-stable Load (Getter at k) h = holder-stable at h.map h.holder
      chain-stable Load (StoreOwn k f rep class) h = absurd h
      chain-stable Load (Add child k f rep class) h = absurd h
      chain-stable Load (Setter at k) h = absurd h
      chain-stable Load Reject h = absurd h
      chain-stable Store (StoreOwn k f rep class) h = holder-stable None h.map h.holder
      chain-stable Store (Add child k f rep class) h = open-stable h.nothing
      chain-stable Store (Setter at k) h = holder-stable at h.map h.holder
      chain-stable Store Reject (inl h) = holder-stable h.at h.property.map h.property.holder
      chain-stable Store Reject (inr h) = open-stable h.nothing
      chain-stable Store (Own k f rep) h = absurd h
      chain-stable Store (Holder o k f rep) h = absurd h
      chain-stable Store (Constant o k f rep w) h = absurd h
      chain-stable Store Absent h = absurd h
      chain-stable Store (Getter at k) h = absurd h

      -- What a way depends on

      class-holds : (f : ℕ) (class : Class) → IsSomeAnd (detail_in t f) (λ d. d.class ≡ class) → AllByRecursion (HoldsIn s t) (class_deps f class)
      class-holds f (Of c) h = (h, tt)
      class-holds f Any h = tt

      word-holds : (o k w h : ℕ) (key : Key) → map_in t o ≡ Some h → Finds t h name k key → HoldsWord (Now t) t o k w → HoldsWordIn s t o k w
      word-holds o k w h key has finds holds =
          let places = some-at (λ g. g.entries ≤ (store_in t o).capacity) (gate_in t h) finds.gate finds.is_open (forms.object_map o h has).is_open in
          let slots : (holds.first < s.slots) × (holds.first + (store_in t o).capacity ≤ s.slots) =
          subst (λ x. IfSome x (λ first. (first < s.slots) × (first + (store_in t o).capacity ≤ s.slots))) holds.begins (forms.slots o) in
          let fits = slots.1 in
          let within_gate = finds.within in
          record {
            fast = is-some (map_in t o) h has;
            there = there (λ first. first + k < s.slots) (store_in t o).first holds.first holds.begins (omega arith);
            holds = constant-word t o k w holds;
          }

      way-holds : (op : Op) (way : Way) → ToldWay (Now t) t op name m chain way → AllByRecursion (HoldsIn s t) (way_deps way)
      way-holds Load (Own k f rep) h = (h.admits, tt)
      way-holds Load (Holder o k f rep) h = (some-to (IsMutable rep) (λ d. d.rep ≡ rep) (detail_in t f) (λ d is a. a.of_rep) h.admits, tt)
      way-holds Load (Constant o k f rep w) h = (
        some-to (IsConstant rep) (λ d. d.rep ≡ rep) (detail_in t f) (λ d is a. a.of_rep) h.field.admits,
        (
          some-to (IsConstant rep) (λ d. d.constness ≡ Const) (detail_in t f) (λ d is a. a.constant) h.field.admits,
          (word-holds o k w h.field.map h.field.key h.field.holder.has h.field.finds h.holds, tt),
        ),
      )
      way-holds Load Absent h = tt
      way-holds Load (Getter at k) h = tt
      way-holds Load (StoreOwn k f rep class) h = absurd h
      way-holds Load (Add child k f rep class) h = absurd h
      way-holds Load (Setter at k) h = absurd h
      way-holds Load Reject h = absurd h
      way-holds Store (StoreOwn k f rep class) h = (
        some-to (IsStored rep class) (λ d. d.rep ≡ rep) (detail_in t f) (λ d is a. a.of_rep) h.admits,
        class-holds f class (some-to (IsStored rep class) (λ d. d.class ≡ class) (detail_in t f) (λ d is a. a.class) h.admits),
      )
      way-holds Store (Add child k f rep class) h = (
        (map-there child h.grows.gate h.grows.is_open, h.grows.live),
        (
          some-to (IsAdded rep class) (λ d. d.rep ≡ rep) (detail_in t f) (λ d is a. a.of_rep) h.grows.admits,
          class-holds f class (some-to (IsAdded rep class) (λ d. d.class ≡ class) (detail_in t f) (λ d is a. a.class) h.grows.admits),
        ),
      )
      way-holds Store (Setter at k) h = tt
      way-holds Store Reject h = tt
      way-holds Store (Own k f rep) h = absurd h
      way-holds Store (Holder o k f rep) h = absurd h
      way-holds Store (Constant o k f rep w) h = absurd h
      way-holds Store Absent h = absurd h
      way-holds Store (Getter at k) h = absurd h

    -- the dependencies of a told case hold
    pub told-holds : (op : Op) (case : Case) → IsToldNow t op name case → CaseHolds (HoldsIn s t) case
    told-holds op case h =
        let gate = some-of (gate_in t case.map) h.open_map in
        record {
          live = (map-there case.map gate.0 gate.1, h.live);
          chain = chain-stable case.map case.chain op case.way h.way;
          way = way-holds case.map case.chain op case.way h.way;
        }
