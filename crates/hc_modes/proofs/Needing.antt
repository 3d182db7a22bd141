-- What an object needs to get one property more.
use Rattle.std.proofs.Common.{◌≡◌, ℕ, zero, suc, ◌≤◌, Bool, false, Option, Some, None, refl, sym, ap, ◌∙◌, subst, arith}
use Rattle.hc_layout.specs.declared.shape.Shape.{Shape}
use Rattle.hc_layout.specs.declared.words.GateWord.{GateWord}
use Rattle.hc_value.specs.declared.prop.Prop.{Prop}
use Rattle.hc_heap.specs.Readings.{gate_in, map_in, root_in, store_in}
use Rattle.hc_heap.specs.States.{View}
use Rattle.hc_descs.specs.Entries.{entries_in}
use Rattle.hc_tree.specs.declared.need.Need.{Need}
use Rattle.hc_value.specs.declared.field.Constness.TheVariants.{Const}
use Rattle.hc_tree.specs.Growth.{child_need, fitting_child}
use Rattle.hc_modes.specs.Admitting.{held_detail}
use Rattle.hc_tree.specs.Needs.{HasSpace, no_need, with_need}
use Rattle.hc_modes.specs.Changes.{key_of}
use Rattle.hc_modes.specs.Filling.{MayGrowBy, with_growth}
use Rattle.hc_slots.specs.Slots.{slots_need}
use Rattle.hc_slots.specs.Cases.{same-or}
use Rattle.hc_modes.specs.Modes.{IsNoLess, IsWithin, add_need, arrays_upto, both, grown_need, need_by}

-- a child takes no slots
slots-none : (l : Option ℕ) (n : ℕ) → (child_need l n).slots ≡ 0
slots-none (Some c) n = refl
slots-none None n = refl

-- slots alone
abbrev pub of_slots : ℕ → Need
of_slots k = record no_need { slots = k }

module _ (v : View) (o m : ℕ) (g : GateWord) (p : Prop) (has : map_in v.trail o ≡ Some m) (is_open : gate_in v.trail m ≡ Some g) (shared : (root_in v.trail o).is_proto ≡ false) where
  abbrev child : Need
  child = child_need (fitting_child v.trail m (key_of p) (held_detail v.trail p.held Const)) g.entries

  abbrev slots : ℕ
  slots = slots_need g.entries (store_in v.trail o).capacity

  need-is : add_need v.trail o p ≡ both child (of_slots slots)
  need-is =
      ap (λ (h : Option ℕ). need_by h (λ x. both (grown_need (root_in v.trail o).is_proto v.trail x (entries_in (gate_in v.trail x)) p) (record no_need { slots = slots_need (entries_in (gate_in v.trail x)) (store_in v.trail o).capacity }))) has
      ∙ ap (λ (b : Bool). both (grown_need b v.trail m (entries_in (gate_in v.trail m)) p) (of_slots (slots_need (entries_in (gate_in v.trail m)) (store_in v.trail o).capacity))) shared
      ∙ ap (λ (h : Option GateWord). both (child_need (fitting_child v.trail m (key_of p) (held_detail v.trail p.held Const)) (entries_in h)) (of_slots (slots_need (entries_in h) (store_in v.trail o).capacity))) is_open

  none : child.slots ≡ 0
  none = slots-none (fitting_child v.trail m (key_of p) (held_detail v.trail p.held Const)) g.entries

  pub space-of : MayGrowBy v o m g.entries p → HasSpace v (add_need v.trail o p)
  space-of may = subst (HasSpace v) (sym need-is) (record {
    maps = omega (arith, may.child.maps);
    entries = omega (arith, may.child.entries);
    fields = omega (arith, may.child.fields);
    links = omega (arith, may.child.links);
    slots = omega (arith, may.slots, none);
  })

  pub may-of : HasSpace v (add_need v.trail o p) → MayGrowBy v o m g.entries p
  may-of space =
      let has_space : HasSpace v (both child (of_slots slots)) = subst (HasSpace v) need-is space in
      record {
        slots = omega (arith, has_space.slots, none);
        child = record {
          maps = omega (arith, has_space.maps);
          entries = omega (arith, has_space.entries);
          fields = omega (arith, has_space.fields);
          links = omega (arith, has_space.links);
          slots = omega (arith, has_space.slots, none);
        };
      }

  pub within-of : (used : Shape) → used ≡ with_growth v.trail o m g.entries p v.used → IsWithin (add_need v.trail o p) v.used used
  within-of used is = subst (λ (k : Need). IsWithin k v.used used) (sym need-is) (subst (IsWithin (both child (of_slots slots)) v.used) (sym is) (record {
    maps = omega arith;
    entries = omega arith;
    fields = omega arith;
    links = omega arith;
    slots = omega (arith, none);
    cells = refl;
    rises = record { maps = omega arith; entries = omega arith; fields = omega arith; links = omega arith; slots = omega arith };
  }))

-- A need and another

-- a need that is at most another
pub record IsAtMost (a b : Need) : Type 0 where
  pub maps : a.maps ≤ b.maps
  pub entries : a.entries ≤ b.entries
  pub fields : a.fields ≤ b.fields
  pub links : a.links ≤ b.links
  pub slots : a.slots ≤ b.slots

pub none-least : (b : Need) → IsAtMost no_need b
none-least b = record { maps = omega arith; entries = omega arith; fields = omega arith; links = omega arith; slots = omega arith }

pub same-least : (b : Need) → IsAtMost b b
same-least b = record { maps = omega arith; entries = omega arith; fields = omega arith; links = omega arith; slots = omega arith }

-- What was handed out

pub no-less-none : (s : Shape) → IsNoLess s s
no-less-none s = record { maps = omega arith; entries = omega arith; fields = omega arith; links = omega arith; slots = omega arith }

pub no-less-need : (k : Need) (s : Shape) → IsNoLess s (with_need k s)
no-less-need k s = record { maps = omega arith; entries = omega arith; fields = omega arith; links = omega arith; slots = omega arith }

pub no-less-on : (a b c : Shape) → IsNoLess a b → IsNoLess b c → IsNoLess a c
no-less-on a b c x y = record {
  maps = omega (arith, x.maps, y.maps);
  entries = omega (arith, x.entries, y.entries);
  fields = omega (arith, x.fields, y.fields);
  links = omega (arith, x.links, y.links);
  slots = omega (arith, x.slots, y.slots);
}

-- nothing was handed out
pub within-none : (need : Need) (used : Shape) → IsWithin need used used
within-none need used = record {
  maps = omega arith;
  entries = omega arith;
  fields = omega arith;
  links = omega arith;
  slots = omega arith;
  cells = refl;
  rises = no-less-none used;
}

pub within-same : (need : Need) (old new : Shape) → new ≡ old → IsWithin need old new
within-same need old new same = subst (IsWithin need old) (sym same) (within-none need old)

-- the arrays of more maps have more entries
pub arrays-rise : (k n : ℕ) → k ≤ n → arrays_upto k ≤ arrays_upto n
arrays-rise k zero le = let is : k ≡ 0 = omega (arith, le) in subst (λ (x : ℕ). arrays_upto x ≤ arrays_upto 0) (sym is) (omega arith)
arrays-rise k (suc n) le = same-or k (suc n) (arrays_upto k ≤ arrays_upto (suc n))
    (λ is. subst (λ (x : ℕ). arrays_upto k ≤ arrays_upto x) is (omega arith))
    (λ other. let before : k ≤ n = omega (arith, le, other) in let risen : arrays_upto k ≤ arrays_upto n = arrays-rise k n before in omega (arith, risen))
