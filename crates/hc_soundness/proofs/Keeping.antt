-- What is told of a case, at a later moment: words that are written once stay, and of the others what was known is known still.
use Rattle.std.proofs.Common.{false, ◌≡◌, ◌≢◌, ℕ, ◌+◌, ◌<◌, ◌≤◌, List, [], ◌∷◌, Option, Some, None, IsSome, refl, sym, ◌∙◌, subst, arith}
use Rattle.std.specs.Prelude.{IsSomeAnd}
use mathlib.Core.Logic.{inl, inr}
use Rattle.hc_layout.specs.declared.shape.Shape.{Shape}
use Rattle.hc_layout.specs.declared.words.GateWord.{GateWord}
use Rattle.hc_value.specs.declared.key.Key.{Key}
use Rattle.hc_value.specs.declared.field.Detail.{Detail}
use Rattle.hc_heap.specs.Writes.{Trail}
use Rattle.hc_heap.specs.Readings.{gate_in, prototype_in, bits_in, detail_in, map_in, store_in, slot_in}
use Rattle.hc_heap.specs.Kept.{GoesOn, WrittenIsKept, EntriesAreKept, EntriesStay}
use Rattle.hc_heap.specs.Frames.{goes-still}
use Rattle.hc_descs.specs.Entries.{key_at, field_at, LacksName}
use Rattle.hc_links.specs.Chains.{child_of}
use Rattle.hc_plan.specs.Chains.{Hop}
use Rattle.hc_plan.specs.declared.case.Case.{Case}
use Rattle.hc_plan.specs.declared.case.Op.{Op}
use Rattle.hc_plan.specs.declared.case.Op.TheVariants.{Load, Store}
use Rattle.hc_plan.specs.declared.case.Way.{Way}
use Rattle.hc_plan.specs.declared.case.Way.TheVariants.{Own, Holder, Constant, Absent, Getter, StoreOwn, Add, Setter, Reject}
use Rattle.hc_soundness.specs.Finding.{Finds, Lacks, IsDatum, IsWritable, IsReadOnly, IsAccessor, added_key}
use Rattle.hc_soundness.specs.Told.{IsOfRep, IsMutable, IsConstant, IsStored, IsAdded, Leads, ComesTo, ComesToNull, IsHolder, HasProperty, HasField, HoldsWord, IsOpenTo, HasChild, ToldWay, IsTold}

module _ (written : WrittenIsKept) (entries : EntriesAreKept) (s : Shape) (old new : Trail) (goes : GoesOn s old new) where
  pub gate-on : (m : ℕ) (g : GateWord) → gate_in old m ≡ Some g → gate_in new m ≡ Some g
  gate-on m g is = (written s old new goes).gate m g is

  proto-on : (m : ℕ) (p : Option ℕ) → prototype_in old m ≡ Some p → prototype_in new m ≡ Some p
  proto-on m p is = (written s old new goes).prototype m p is

  stays : (m k : ℕ) (g : GateWord) → gate_in old m ≡ Some g → k < g.entries → EntriesStay old new new m k
  stays m k g is lt = entries s old new new m g k goes (goes-still s goes.lawful) is lt

  pub key-on : (m k : ℕ) (g : GateWord) (key : Key) → gate_in old m ≡ Some g → k < g.entries → key_at old m k ≡ Some key → key_at new m k ≡ Some key
  key-on m k g key is lt e = (stays m k g is lt).key ∙ e

  pub field-on : (m k : ℕ) (g : GateWord) (f : ℕ) → gate_in old m ≡ Some g → k < g.entries → field_at old m k ≡ Some f → field_at new m k ≡ Some f
  field-on m k g f is lt e = (stays m k g is lt).field ∙ e

  lacks-name-on : (m n name : ℕ) (g : GateWord) → gate_in old m ≡ Some g → n ≤ g.entries → LacksName old m n name → LacksName new m n name
  lacks-name-on m n name g is le h k lt = subst (λ key. IsSomeAnd key (λ x. x.name ≢ name)) (sym (stays m k g is (omega arith)).key) (h k lt)

  finds-on : (m name k : ℕ) (key : Key) → Finds old m name k key → Finds new m name k key
  finds-on m name k key h =
      let within = h.within in
      record {
        gate = h.gate;
        is_open = gate-on m h.gate h.is_open;
        within = h.within;
        is_key = key-on m k h.gate key h.is_open h.within h.is_key;
        named = h.named;
        before = lacks-name-on m k name h.gate h.is_open (omega arith) h.before;
      }

  lacks-on : (m name : ℕ) → Lacks old m name → Lacks new m name
  lacks-on m name h = record { gate = h.gate; is_open = gate-on m h.gate h.is_open; none = lacks-name-on m h.gate.entries name h.gate h.is_open (omega arith) h.none }

  open-on : (m : ℕ) → IsSome (gate_in old m) → IsSome (gate_in new m)
  open-on m h = by (gate_in old m) refl h
    where
      by : (g : Option GateWord) → gate_in old m ≡ g → IsSome g → IsSome (gate_in new m)
      by (Some g) is there = subst IsSome (sym (gate-on m g is)) refl
      by None is there = let no : ⊥ = cc in absurd no

  module _ (Saw Sees : (Trail → Type 0) → Type 0) (later : (P : Trail → Type 0) → Saw P → Sees P) where
    module _ (name : ℕ) where
      leads-on : (hops : List Hop) (from upto : Option ℕ) → Leads Saw old name from hops upto → Leads Sees new name from hops upto
      leads-on [] from upto h = h
      leads-on (hop ∷ hops) from upto h = (
        h.0,
        h.1,
        record { has = later (λ u. map_in u hop.0 ≡ Some hop.1) h.2.has; lacks = lacks-on hop.1 name h.2.lacks; proto = proto-on hop.1 h.0 h.2.proto },
        leads-on hops h.0 upto h.3,
      )

      module _ (m : ℕ) (chain : List Hop) where
        comes-on : (o h : ℕ) → ComesTo Saw old name m chain o h → ComesTo Sees new name m chain o h
        comes-on o h c = record {
          lacks = lacks-on m name c.lacks;
          proto = c.proto;
          is_proto = proto-on m c.proto c.is_proto;
          before = c.before;
          is = c.is;
          leads = leads-on c.before c.proto (Some o) c.leads;
          has = later (λ u. map_in u o ≡ Some h) c.has;
        }

        null-on : ComesToNull Saw old name m chain → ComesToNull Sees new name m chain
        null-on c = record { lacks = lacks-on m name c.lacks; proto = c.proto; is_proto = proto-on m c.proto c.is_proto; leads = leads-on chain c.proto None c.leads }

        holder-on : (at : Option ℕ) (h : ℕ) → IsHolder Saw old name m chain at h → IsHolder Sees new name m chain at h
        holder-on None h c = c
        holder-on (Some o) h c = comes-on o h c

        module _ (IsSuch : Key → Type 0) where
          property-on : (at : Option ℕ) (k : ℕ) → HasProperty Saw old IsSuch name m chain at k → HasProperty Sees new IsSuch name m chain at k
          property-on at k h = record { map = h.map; key = h.key; holder = holder-on at h.map h.holder; finds = finds-on h.map name k h.key h.finds; such = h.such }

          has-field-on : (Admits : Detail → Type 0) (at : Option ℕ) (k f : ℕ) → HasField Saw old IsSuch Admits name m chain at k f → HasField Sees new IsSuch Admits name m chain at k f
          has-field-on Admits at k f h = record {
            map = h.map;
            key = h.key;
            holder = holder-on at h.map h.holder;
            finds = finds-on h.map name k h.key h.finds;
            such = h.such;
            field = field-on h.map k h.finds.gate f h.finds.is_open h.finds.within h.field;
            admits = later (λ u. IsSomeAnd (detail_in u f) Admits) h.admits;
          }

        word-on : (o k w : ℕ) → HoldsWord Saw old o k w → HoldsWord Sees new o k w
        word-on o k w h = record { first = h.first; begins = later (λ u. (store_in u o).first ≡ Some h.first) h.begins; word = later (λ u. slot_in u (h.first + k) ≡ w) h.word }

        open-to-on : IsOpenTo Saw old name m chain → IsOpenTo Sees new name m chain
        open-to-on (inl h) = inl (null-on h)
        open-to-on (inr h) = inr (record { object = h.object; place = h.place; hidden = property-on IsWritable (Some h.object) h.place h.hidden })

        child-on : (child k f : ℕ) (Admits : Detail → Type 0) → HasChild Saw old name m child k f Admits → HasChild Sees new name m child k f Admits
        child-on child k f Admits h =
            let last = h.last in
            record {
              newest = later (λ u. child_of u m (added_key name) ≡ Some child) h.newest;
              live = later (λ u. (bits_in u child).deprecated ≡ false) h.live;
              gate = h.gate;
              is_open = gate-on child h.gate h.is_open;
              last = h.last;
              field = field-on child k h.gate f h.is_open (omega arith) h.field;
              admits = later (λ u. IsSomeAnd (detail_in u f) Admits) h.admits;
            }

        way-on : (op : Op) (way : Way) → ToldWay Saw old op name m chain way → ToldWay Sees new op name m chain way
        way-on Load (Own k f rep) h = has-field-on IsDatum (IsOfRep rep) None k f h
        way-on Load (Holder o k f rep) h = has-field-on IsDatum (IsMutable rep) (Some o) k f h
        way-on Load (Constant o k f rep w) h = record { field = has-field-on IsDatum (IsConstant rep) (Some o) k f h.field; holds = word-on o k w h.holds }
        way-on Load Absent h = null-on h
        way-on Load (Getter at k) h = property-on IsAccessor at k h
        way-on Load (StoreOwn k f rep class) h = absurd h
        way-on Load (Add child k f rep class) h = absurd h
        way-on Load (Setter at k) h = absurd h
        way-on Load Reject h = absurd h
        way-on Store (StoreOwn k f rep class) h = has-field-on IsWritable (IsStored rep class) None k f h
        way-on Store (Add child k f rep class) h = record {
          gate = h.gate;
          is_open = gate-on m h.gate h.is_open;
          unlocked = h.unlocked;
          shared = h.shared;
          nothing = open-to-on h.nothing;
          grows = child-on child k f (IsAdded rep class) h.grows;
        }
        way-on Store (Setter at k) h = property-on IsAccessor at k h
        way-on Store Reject (inl h) = inl (record { at = h.at; place = h.place; property = property-on IsReadOnly h.at h.place h.property })
        way-on Store Reject (inr h) = inr (record { gate = h.gate; is_open = gate-on m h.gate h.is_open; locked = h.locked; nothing = open-to-on h.nothing })
        way-on Store (Own k f rep) h = absurd h
        way-on Store (Holder o k f rep) h = absurd h
        way-on Store (Constant o k f rep w) h = absurd h
        way-on Store Absent h = absurd h
        way-on Store (Getter at k) h = absurd h

    -- what is told of a case is told later on
    pub told-on : (op : Op) (name : ℕ) (case : Case) → IsTold Saw old op name case → IsTold Sees new op name case
    told-on op name case h = record {
      live = later (λ u. (bits_in u case.map).deprecated ≡ false) h.live;
      open_map = open-on case.map h.open_map;
      short = h.short;
      way = way-on name case.map case.chain op case.way h.way;
    }
