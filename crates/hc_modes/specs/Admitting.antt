-- What the fields of objects' maps are asked to admit.
use Rattle.std.specs.Prelude.{◌≡◌, ℕ, ◌+◌, false, IsTrue, IsSomeAnd, Some}
use Rattle.hc_value.specs.Attrs.{no_attributes}
use Rattle.hc_value.specs.Field.{in_place_of, is_detail_within, join_of, joined_class, rep_of}
use Rattle.hc_value.specs.declared.field.Constness.{Constness}
use Rattle.hc_value.specs.declared.field.Constness.TheVariants.{Const}
use Rattle.hc_value.specs.declared.field.Detail.{Detail}
use Rattle.hc_value.specs.declared.prop.Held.{Held}
use Rattle.hc_value.specs.declared.prop.Held.TheVariants.{Datum, Pair}
use Rattle.hc_value.specs.declared.prop.Prop.{Prop}
use Rattle.hc_value.specs.Prop.{kind_of}
use Rattle.hc_value.specs.declared.field.Rep.{Rep}
use Rattle.hc_value.specs.declared.field.Rep.TheVariants.{Tagged}
use Rattle.hc_value.specs.declared.value.Value.{Value}
use Rattle.hc_layout.specs.declared.shape.Shape.{Shape}
use Rattle.hc_layout.specs.declared.words.GateWord.{GateWord}
use Rattle.hc_heap.specs.Kept.{GoesOn}
use Rattle.hc_heap.specs.Lawful.{IsFormOf}
use Rattle.hc_heap.specs.Writes.{Slot, Trail}
use Rattle.hc_heap.specs.Readings.{bits_in, detail_in, gate_in, map_in, store_in}
use Rattle.hc_heap.specs.States.{View, with_write}
use Rattle.hc_descs.specs.Entries.{detail_at, field_at}
use Rattle.hc_links.specs.Chains.{child_of}
pub use Rattle.hc_facts.specs.Constants.{ConstantsStay}
pub use Rattle.hc_facts.specs.Honest.{IsHonest}
use Rattle.hc_facts.specs.Honest.{class_of, detail_for}
use Rattle.hc_fields.specs.Fields.{raised}
use Rattle.hc_tree.specs.Tree.{tagged_field}
use Rattle.hc_slots.specs.Meaning.{IsConstnessFor, MayHold, held_in, slot_word}
use Rattle.hc_modes.specs.Changes.{IsGrown, key_of}

-- what a field has to admit for what is held there: what the value asks; for a getter and a setter everything
abbrev pub held_detail : Trail → Held → Constness → Detail
held_detail t (Datum v) constness = detail_for t v constness
held_detail t (Pair getter setter) constness = tagged_field

-- the representation of what is held: that of a value, and for a getter and a setter the one of all that is admitted
abbrev pub held_rep : Held → Rep
held_rep (Datum v) = rep_of v
held_rep (Pair getter setter) = Tagged

-- what is to be held joins in place with what the field of an object's property admits
abbrev pub FitsField : Trail → ℕ → ℕ → Held → Type 0
FitsField t o i held = (m : ℕ) (d : Detail) → map_in t o ≡ Some m → detail_at t m i ≡ Some d → IsTrue (in_place_of d.rep (join_of d.rep (held_rep held)))

-- the field of an object's property was asked to admit what is to be held there, and nothing else was stored
pub record IsAdmitted (old new : View) (o i : ℕ) (held : Held) (constness : Constness) : Type 0 where
  pub map : ℕ
  pub field : ℕ
  pub has : map_in old.trail o ≡ Some map
  pub is_field : field_at old.trail map i ≡ Some field
  pub view : new ≡ record old { trail = raised old.trail field (held_detail old.trail held constness) }

-- it was asked so, to stay constant exactly where it is so far and holds that already
pub record IsAsked (old new : View) (o i : ℕ) (held : Held) : Type 0 where
  pub constness : Constness
  pub detail : Detail
  pub admitted : IsAdmitted old new o i held constness
  pub was : detail_in old.trail admitted.field ≡ Some detail
  pub right : IsConstnessFor detail.constness (held_in (kind_of held) detail.rep (slot_word old.trail o i)) held constness

-- the field of an object's property at a place has this representation
abbrev pub HasRep : Trail → ℕ → ℕ → Rep → Type 0
HasRep t o i rep = (m : ℕ) → map_in t o ≡ Some m → IsSomeAnd (detail_at t m i) (λ d. d.rep ≡ rep)

-- what is to be held was stored in the slot of an object's property, as a field of this representation has it, and nothing else; no
-- other word is of its form and holds that
pub record IsStored (old new : View) (o i : ℕ) (held : Held) (rep : Rep) : Type 0 where
  pub word : ℕ
  pub first : ℕ
  pub is_first : (store_in old.trail o).first ≡ Some first
  pub view : new ≡ with_write old (Slot (first + i) word)
  pub holds : held_in (kind_of held) rep word ≡ held
  pub alone : (w : ℕ) → IsFormOf (kind_of held) rep w → held_in (kind_of held) rep w ≡ held → w ≡ word

-- a map has the entries of another with n of them, and one more, with the key of a property, whose field may hold what that does
pub record IsGrownBy (t : Trail) (m c n : ℕ) (p : Prop) : Type 0 where
  pub detail : Detail
  pub fits : MayHold detail.rep p.held
  pub grown : IsGrown t m c n (key_of p) detail

-- the field of an object's n-th property, which it got, admits what that held
abbrev pub AsksLast : Trail → Trail → ℕ → ℕ → Prop → Type 0
AsksLast old new o n p = (c : ℕ) (d : Detail) → map_in new o ≡ Some c → detail_at new c n ≡ Some d → IsTrue (is_detail_within (held_detail old p.held Const) d)

-- a field that admits so much admits a value as it is: joining with what the value asks leaves its representation and its class
pub record AdmitsAsIs (t : Trail) (d : Detail) (v : Value) : Type 0 where
  pub rep : join_of (rep_of v) d.rep ≡ d.rep
  pub class : joined_class d.class (class_of t v) ≡ d.class

-- the property that a store adds: data, with no attribute set (ECMA-262, 10.1.9.2)
abbrev pub added : ℕ → Value → Prop
added name v = record { name = name; attrs = no_attributes; held = Datum v }

-- the newest child of a map for a name, as a store adds one, isn't deprecated, and the field of its last entry admits a value as it is
pub record IsChildWith (t : Trail) (m child name : ℕ) (v : Value) : Type 0 where
  pub newest : child_of t m (key_of (added name v)) ≡ Some child
  pub live : (bits_in t child).deprecated ≡ false
  pub gate : GateWord
  pub is_open : gate_in t child ≡ Some gate
  pub slot : ℕ
  pub last : slot + 1 ≡ gate.entries
  pub field : ℕ
  pub is_field : field_at t child slot ≡ Some field
  pub detail : Detail
  pub is_detail : detail_in t field ≡ Some detail
  pub admits : AdmitsAsIs t detail v

-- each write was lawful, what fields say of values stays true, and constants stay
pub record FactsStay (s : Shape) (old new : Trail) : Type 0 where
  pub goes : GoesOn s old new
  pub constants : ConstantsStay old new
  pub honest : IsHonest old → IsHonest new
