-- The words of constants, at a later moment.
use Rattle.std.proofs.Common.{◌≡◌, ℕ, ◌+◌, ◌<◌, List, [], ◌∷◌, Some, sym, ◌∙◌, subst}
use Rattle.std.specs.List.{AllByRecursion}
use Rattle.std.specs.Prelude.{IsSomeAnd}
use Rattle.hc_layout.specs.declared.shape.Shape.{Shape}
use Rattle.hc_value.specs.declared.field.Class.{Class}
use Rattle.hc_value.specs.declared.field.Class.TheVariants.{Of, Any}
use Rattle.hc_value.specs.declared.field.Constness.TheVariants.{Const}
use Rattle.hc_value.specs.declared.field.Detail.{Detail}
use Rattle.hc_value.specs.declared.field.Rep.{Rep}
use Rattle.hc_heap.specs.Writes.{Trail}
use Rattle.hc_heap.specs.Readings.{detail_in, map_in, store_in}
use Rattle.hc_heap.specs.Kept.{GoesOn, StableIsKept}
use Rattle.hc_plan.specs.Chains.{Hop}
use Rattle.hc_plan.specs.Deps.{way_deps, class_deps}
use Rattle.hc_plan.specs.Laws.{CaseHolds}
use Rattle.hc_plan.specs.declared.case.Case.{Case}
use Rattle.hc_plan.specs.declared.case.Op.{Op}
use Rattle.hc_plan.specs.declared.case.Op.TheVariants.{Load, Store}
use Rattle.hc_plan.specs.declared.case.Way.{Way}
use Rattle.hc_plan.specs.declared.case.Way.TheVariants.{Own, Holder, Constant, Absent, Getter, StoreOwn, Add, Setter, Reject}
use Rattle.hc_facts.specs.Constants.{ConstantsStay}
use Rattle.hc_facts.specs.Honest.{HasDatum}
use Rattle.hc_deps.specs.Trails.{HoldsWordIn, HoldsIn, HoldsButValueIn}
use Rattle.hc_soundness.specs.Moments.{Now, IsToldNow}
use Rattle.hc_soundness.specs.Told.{HasConstant, ToldWay}
use Rattle.hc_soundness.proofs.Holding.{constant-word}
use Rattle.hc_soundness.proofs.Lists.{all-back}
use Rattle.hc_soundness.proofs.Options.{some-and, is-some}
use Rattle.hc_soundness.proofs.Presently.{IsStableMap, AreStable}

-- What a case that was told depends on holds, where all but the words of slots is known to

module _ (stable : StableIsKept) (s : Shape) (old new : Trail) (goes : GoesOn s old new) (constants : ConstantsStay old new) (name m : ℕ) (chain : List Hop) (holds : AreStable s new chain) where
  word-stays : (o k f w : ℕ) (rep : Rep) → HasConstant (Now old) old name m chain o k f rep w → IsSomeAnd (detail_in new f) (λ d. d.constness ≡ Const)
      → IsSomeAnd (store_in old o).first (λ first. first + k < s.slots) → HoldsWordIn s new o k w
  word-stays o k f w rep h const was =
      let it = h.field in
      let split = subst (AreStable s new) it.holder.is holds in
      let last = all-back (λ (hop : Hop). IsStableMap s new hop.1) it.holder.before ((o, it.map) ∷ []) split in
      let stays = stable s old new o it.map goes it.holder.has last.0.1 in
      let d = some-and (λ d. d.constness ≡ Const) (detail_in new f) const in
      let datum : HasDatum old o it.map k f = record {
        has = it.holder.has;
        gate = it.finds.gate;
        is_open = it.finds.is_open;
        within = it.finds.within;
        key = it.key;
        is_key = it.finds.is_key;
        datum = it.such;
        field = it.field;
      } in
      record {
        fast = is-some (map_in new o) it.map stays.map;
        there = subst (λ x. IsSomeAnd x.first (λ first. first + k < s.slots)) (sym stays.store) was;
        holds = constants o it.map k f d.0 datum d.1 d.2 last.0.1 ∙ constant-word old o k w h.holds;
      }

  class-same : (f : ℕ) (class : Class) → AllByRecursion (HoldsButValueIn s new) (class_deps f class) → AllByRecursion (HoldsIn s new) (class_deps f class)
  class-same f (Of c) h = h
  class-same f Any h = h

  way-holds-on : (op : Op) (way : Way) → ToldWay (Now old) old op name m chain way → AllByRecursion (HoldsIn s old) (way_deps way) → AllByRecursion (HoldsButValueIn s new) (way_deps way)
      → AllByRecursion (HoldsIn s new) (way_deps way)
  way-holds-on op (Own k f rep) h was now = now
  way-holds-on op (Holder o k f rep) h was now = now
  way-holds-on Load (Constant o k f rep w) h was now = (now.0, (now.1.0, (word-stays o k f w rep h now.1.0 was.1.1.0.there, tt)))
  way-holds-on Store (Constant o k f rep w) h was now = absurd h
  way-holds-on op Absent h was now = tt
  way-holds-on op (Getter at k) h was now = tt
  way-holds-on op (StoreOwn k f rep class) h was now = (now.0, class-same f class now.1)
  way-holds-on op (Add child k f rep class) h was now = (now.0, (now.1.0, class-same f class now.1.1))
  way-holds-on op (Setter at k) h was now = tt
  way-holds-on op Reject h was now = tt

pub case-holds-on : StableIsKept → (s : Shape) (old new : Trail) → GoesOn s old new → ConstantsStay old new → (op : Op) (name : ℕ) (case : Case)
    → IsToldNow old op name case → CaseHolds (HoldsIn s old) case → CaseHolds (HoldsButValueIn s new) case → CaseHolds (HoldsIn s new) case
case-holds-on stable s old new goes constants op name case told was now = record {
  live = now.live;
  chain = now.chain;
  way = way-holds-on stable s old new goes constants name case.map case.chain now.chain op case.way told.way was.way now.way;
}
