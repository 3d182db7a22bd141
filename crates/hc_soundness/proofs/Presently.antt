-- What was seen of a case is told by the words of a moment at which each dependency holds.
use Rattle.std.proofs.Common.{false, ◌≡◌, ℕ, ◌+◌, ◌<◌, List, [], ◌∷◌, Option, Some, None, sym, ap, ◌∙◌, subst}
use Rattle.std.specs.List.{AllByRecursion}
use Rattle.std.specs.Prelude.{IsSomeAnd}
use mathlib.Core.Logic.{inl, inr}
use Rattle.hc_layout.specs.declared.shape.Shape.{Shape}
use Rattle.hc_layout.specs.declared.words.GateWord.{GateWord}
use Rattle.hc_value.specs.declared.field.Class.{Class}
use Rattle.hc_value.specs.declared.field.Class.TheVariants.{Of, Any}
use Rattle.hc_value.specs.declared.field.Constness.TheVariants.{Const}
use Rattle.hc_value.specs.declared.field.Detail.{Detail}
use Rattle.hc_value.specs.declared.field.Rep.{Rep}
use Rattle.hc_value.specs.declared.key.Key.{Key}
use Rattle.hc_heap.specs.Writes.{Trail}
use Rattle.hc_heap.specs.Readings.{gate_in, bits_in, detail_in, map_in, store_in}
use Rattle.hc_heap.specs.Lawful.{RisesTo, word_from}
use Rattle.hc_heap.specs.Kept.{StableIsKept, DetailsRise}
use Rattle.hc_links.specs.Chains.{links_in, newest_of, child_of}
use Rattle.hc_links.specs.Laws.{LinksAreKept, SameKeysAreEqual}
use Rattle.hc_tree.specs.Tree.{HaveOneLive}
use Rattle.hc_plan.specs.Chains.{Hop}
use Rattle.hc_plan.specs.Deps.{way_deps, class_deps}
use Rattle.hc_plan.specs.Laws.{CaseHolds}
use Rattle.hc_plan.specs.declared.deps.Dep.TheVariants.{Rep as HasRep}
use Rattle.hc_plan.specs.declared.case.Case.{Case}
use Rattle.hc_plan.specs.declared.case.Op.{Op}
use Rattle.hc_plan.specs.declared.case.Op.TheVariants.{Load, Store}
use Rattle.hc_plan.specs.declared.case.Way.{Way}
use Rattle.hc_plan.specs.declared.case.Way.TheVariants.{Own, Holder, Constant, Absent, Getter, StoreOwn, Add, Setter, Reject}
use Rattle.hc_deps.specs.Trails.{HoldsWordIn, HoldsIn}
use Rattle.hc_soundness.specs.Finding.{IsDatum, IsWritable, IsReadOnly, IsAccessor, added_key}
use Rattle.hc_soundness.specs.Moments.{Now, Once, IsToldNow, IsSeen}
use Rattle.hc_soundness.specs.Told.{IsOfRep, IsMutable, IsConstant, IsStored, IsAdded, Leads, ComesTo, ComesToNull, IsHolder, HasProperty, HasField, HoldsWord, IsOpenTo, ToldWay}
use Rattle.hc_soundness.proofs.Lists.{all-front, all-back}
use Rattle.hc_soundness.proofs.Options.{some-and, some-at, there}
use Rattle.hc_soundness.proofs.Rising.{mutable-on, any-on, newest-on}

-- a map is one of the board's, and stable
abbrev pub IsStableMap : Shape → Trail → ℕ → Type 0
IsStableMap s t m = (m < s.maps) × ((bits_in t m).unstable ≡ false)

-- the maps of a chain are
abbrev pub AreStable : Shape → Trail → List Hop → Type 0
AreStable s t chain = AllByRecursion (λ (hop : Hop). IsStableMap s t hop.1) chain

module _ (stable : StableIsKept) (rise : DetailsRise) (s : Shape) (t : Trail) where
  has-now : (o h : ℕ) → Once s t (λ u. map_in u o ≡ Some h) → IsStableMap s t h → map_in t o ≡ Some h
  has-now o h seen holds = (stable s seen.earlier t o h seen.goes_on seen.was holds.1).map

  -- what a detail asked for, it asks for still, where the detail may have risen
  detail-now : (f : ℕ) (A B : Detail → Type 0) → Once s t (λ u. IsSomeAnd (detail_in u f) A)
      → ((d e : Detail) → detail_in t f ≡ Some e → RisesTo d e → A d → B e) → IsSomeAnd (detail_in t f) B
  detail-now f A B seen to =
      let was = some-and A (detail_in seen.earlier f) seen.was in
      let now = some-and (λ e. RisesTo was.0 e) (detail_in t f) (rise s seen.earlier t f was.0 seen.goes_on was.1) in
      there B (detail_in t f) now.0 now.1 (to was.0 now.0 now.1 now.2 was.2)

  module _ (name : ℕ) where
    leads-now : (hops : List Hop) (from upto : Option ℕ) → Leads (Once s t) t name from hops upto → AreStable s t hops → Leads (Now t) t name from hops upto
    leads-now [] from upto h holds = h
    leads-now (hop ∷ hops) from upto h holds =
        (h.0, h.1, record { has = has-now hop.0 hop.1 h.2.has holds.0; lacks = h.2.lacks; proto = h.2.proto }, leads-now hops h.0 upto h.3 holds.1)

    module _ (m : ℕ) (chain : List Hop) (holds : AreStable s t chain) where
      comes-now : (o h : ℕ) → ComesTo (Once s t) t name m chain o h → ComesTo (Now t) t name m chain o h
      comes-now o h c =
          let split = subst (AreStable s t) c.is holds in
          let last = all-back (λ (hop : Hop). IsStableMap s t hop.1) c.before ((o, h) ∷ []) split in
          record {
            lacks = c.lacks;
            proto = c.proto;
            is_proto = c.is_proto;
            before = c.before;
            is = c.is;
            leads = leads-now c.before c.proto (Some o) c.leads (all-front (λ (hop : Hop). IsStableMap s t hop.1) c.before ((o, h) ∷ []) split);
            has = has-now o h c.has last.0;
          }

      null-now : ComesToNull (Once s t) t name m chain → ComesToNull (Now t) t name m chain
      null-now c = record { lacks = c.lacks; proto = c.proto; is_proto = c.is_proto; leads = leads-now chain c.proto None c.leads holds }

      holder-now : (at : Option ℕ) (h : ℕ) → IsHolder (Once s t) t name m chain at h → IsHolder (Now t) t name m chain at h
      holder-now None h c = c
      holder-now (Some o) h c = comes-now o h c

      property-now : (IsSuch : Key → Type 0) (at : Option ℕ) (k : ℕ) → HasProperty (Once s t) t IsSuch name m chain at k → HasProperty (Now t) t IsSuch name m chain at k
      property-now IsSuch at k h = record { map = h.map; key = h.key; holder = holder-now at h.map h.holder; finds = h.finds; such = h.such }

      field-now : (IsSuch : Key → Type 0) (A : Detail → Type 0) (at : Option ℕ) (k f : ℕ) → HasField (Once s t) t IsSuch A name m chain at k f
          → ((d e : Detail) → detail_in t f ≡ Some e → RisesTo d e → A d → A e) → HasField (Now t) t IsSuch A name m chain at k f
      field-now IsSuch A at k f h to = record {
        map = h.map;
        key = h.key;
        holder = holder-now at h.map h.holder;
        finds = h.finds;
        such = h.such;
        field = h.field;
        admits = detail-now f A A h.admits to;
      }

      open-to-now : IsOpenTo (Once s t) t name m chain → IsOpenTo (Now t) t name m chain
      open-to-now (inl h) = inl (null-now h)
      open-to-now (inr h) = inr (record { object = h.object; place = h.place; hidden = property-now IsWritable (Some h.object) h.place h.hidden })

    -- a word on which a plan depends
    word-now : (o k w : ℕ) → HoldsWordIn s t o k w → HoldsWord (Now t) t o k w
    word-now o k w h =
        let first = some-and (λ first. first + k < s.slots) (store_in t o).first h.there in
        record { first = first.0; begins = first.1; word = ap (λ x. word_from t x k) (sym first.1) ∙ h.holds }

    -- the newest child of a map, while it is live
    module _ (links : LinksAreKept) (same : SameKeysAreEqual) where
      newest-now : (m child : ℕ) → HaveOneLive t (links_in t m) → Once s t (λ u. child_of u m (added_key name) ≡ Some child) → (bits_in t child).deprecated ≡ false
          → child_of t m (added_key name) ≡ Some child
      newest-now m child one seen live =
          let kept = links s seen.earlier t m seen.goes_on in
          let was : newest_of t (links_in seen.earlier m) (added_key name) ≡ Some child = kept.newest (added_key name) ∙ seen.was in
          ap (λ ls. newest_of t ls (added_key name)) kept.is
          ∙ newest-on same t (added_key name) child kept.more (links_in seen.earlier m) (subst (HaveOneLive t) kept.is one) live was

    -- What a dependency on a field says of its detail

    rep-now : (f : ℕ) (rep : Rep) → HoldsIn s t (HasRep f rep) → (e : Detail) → detail_in t f ≡ Some e → e.rep ≡ rep
    rep-now f rep h e is = some-at (λ d. d.rep ≡ rep) (detail_in t f) e is h

    class-now : (f : ℕ) (class : Class) (d e : Detail) → AllByRecursion (HoldsIn s t) (class_deps f class) → detail_in t f ≡ Some e → RisesTo d e → d.class ≡ class → e.class ≡ class
    class-now f (Of c) d e h is rises was = some-at (λ x. x.class ≡ Of c) (detail_in t f) e is h.0
    class-now f Any d e h is rises was = any-on d e rises was

    module _ (links : LinksAreKept) (same : SameKeysAreEqual) (m : ℕ) (one : (g : GateWord) → gate_in t m ≡ Some g → HaveOneLive t (links_in t m)) (chain : List Hop) (holds : AreStable s t chain) where
      way-now : (op : Op) (way : Way) → AllByRecursion (HoldsIn s t) (way_deps way) → ToldWay (Once s t) t op name m chain way → ToldWay (Now t) t op name m chain way
      way-now Load (Own k f rep) deps h = field-now m chain holds IsDatum (IsOfRep rep) None k f h (λ d e is rises was. rep-now f rep deps.0 e is)
      way-now Load (Holder o k f rep) deps h =
          field-now m chain holds IsDatum (IsMutable rep) (Some o) k f h
          (λ d e is rises was. record { of_rep = rep-now f rep deps.0 e is; mutable = mutable-on d e rises was.mutable })
      way-now Load (Constant o k f rep w) deps h = record {
        field = field-now m chain holds IsDatum (IsConstant rep) (Some o) k f h.field
            (λ d e is rises was. record { of_rep = rep-now f rep deps.0 e is; constant = some-at (λ x. x.constness ≡ Const) (detail_in t f) e is deps.1.0 });
        holds = word-now o k w deps.1.1.0;
      }
      way-now Load Absent deps h = null-now m chain holds h
      way-now Load (Getter at k) deps h = property-now m chain holds IsAccessor at k h
      way-now Load (StoreOwn k f rep class) deps h = absurd h
      way-now Load (Add child k f rep class) deps h = absurd h
      way-now Load (Setter at k) deps h = absurd h
      way-now Load Reject deps h = absurd h
      way-now Store (StoreOwn k f rep class) deps h =
          field-now m chain holds IsWritable (IsStored rep class) None k f h
          (λ d e is rises was. record { of_rep = rep-now f rep deps.0 e is; mutable = mutable-on d e rises was.mutable; class = class-now f class d e deps.1 is rises was.class })
      way-now Store (Add child k f rep class) deps h =
          let it = h.grows in
          record {
            gate = h.gate;
            is_open = h.is_open;
            unlocked = h.unlocked;
            shared = h.shared;
            nothing = open-to-now m chain holds h.nothing;
            grows = record {
              newest = newest-now links same m child (one h.gate h.is_open) it.newest deps.0.1;
              live = deps.0.1;
              gate = it.gate;
              is_open = it.is_open;
              last = it.last;
              field = it.field;
              admits = detail-now f (IsAdded rep class) (IsAdded rep class) it.admits
                  (λ d e is rises was. record { of_rep = rep-now f rep deps.1.0 e is; class = class-now f class d e deps.1.1 is rises was.class });
            };
          }
      way-now Store (Setter at k) deps h = property-now m chain holds IsAccessor at k h
      way-now Store Reject deps (inl h) = inl (record { at = h.at; place = h.place; property = property-now m chain holds IsReadOnly h.at h.place h.property })
      way-now Store Reject deps (inr h) = inr (record { gate = h.gate; is_open = h.is_open; locked = h.locked; nothing = open-to-now m chain holds h.nothing })
      way-now Store (Own k f rep) deps h = absurd h
      way-now Store (Holder o k f rep) deps h = absurd h
      way-now Store (Constant o k f rep w) deps h = absurd h
      way-now Store Absent deps h = absurd h
      way-now Store (Getter at k) deps h = absurd h

    -- a case that was seen is told, where its dependencies hold
    pub seen-now : LinksAreKept → SameKeysAreEqual → ((m : ℕ) (g : GateWord) → gate_in t m ≡ Some g → HaveOneLive t (links_in t m))
        → (op : Op) (case : Case) → IsSeen s t op name case → CaseHolds (HoldsIn s t) case → IsToldNow t op name case
    seen-now links same one op case h deps = record {
      live = deps.live.1;
      open_map = h.open_map;
      short = h.short;
      way = way-now links same case.map (one case.map) case.chain deps.chain op case.way deps.way h.way;
    }
