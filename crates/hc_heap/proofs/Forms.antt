-- Each kind of word: what is read after a write of it, and after another.
use Rattle.std.proofs.Common.{◌≡◌, ℕ, Bool, cond, Option, Some, None, [], ◌∷◌, refl, ap, eqb, eq-eqb, ne_eqb}
use Rattle.hc_layout.specs.Words.{gate_of, map_bits_of, array_of, key_of, root_of, store_of, cell_of, number_of, settled_of}
use Rattle.hc_value.specs.Field.{detail_of}
use Rattle.hc_layout.specs.declared.words.GateWord.{GateWord}
use Rattle.hc_layout.specs.declared.words.MapBits.{MapBits}
use Rattle.hc_layout.specs.declared.words.ArrayWord.{ArrayWord}
use Rattle.hc_layout.specs.declared.words.RootWord.{RootWord}
use Rattle.hc_layout.specs.declared.words.StoreWord.{StoreWord}
use Rattle.hc_layout.specs.declared.words.CellWord.{CellWord}
use Rattle.hc_value.specs.declared.key.Key.{Key}
use Rattle.hc_value.specs.declared.field.Detail.{Detail}
use Rattle.hc_heap.specs.declared.kind.Kind.{Kind}
use Rattle.hc_heap.specs.declared.kind.Kind.TheVariants.{GateOfMap, ParentOfMap, PrototypeOfMap, BitsOfMap, BaseOfMap, ArrayOfMap, HeadOfMap, KeyOfEntry, ReferenceOfEntry, OwnerOfField, DetailOfField, KeyOfLink, ChildOfLink, NextOfLink, MapOfObject, RootOfObject, StoreOfObject, CellOfObject, WordOfSlot, StateOfCell}
use Rattle.hc_heap.specs.Writes.{Write, Trail, kind_written, item_written, Stray, Gate, Parent, Prototype, Bits, Base, Array, Head, EntryKey, Reference, Owner, FieldDetail, LinkKey, LinkChild, LinkNext, ObjectMap, Root, Store, ObjectCell, Slot, Validity}
use Rattle.hc_heap.specs.Readings.{gate_in, parent_in, prototype_in, bits_in, base_in, array_in, head_in, entry_key_in, reference_in, owner_in, detail_in, link_key_in, link_child_in, link_next_in, map_in, root_in, store_in, object_cell_in, slot_in, validity_in}
use Rattle.hc_heap.specs.Decode.{key_read, settled_number, optional_number, number_read, any_word, made, written}

-- a write that isn't a stray one
abbrev pub IsKnown : Write → Type 0
IsKnown Stray = ⊥
IsKnown _ = Unit {0}

-- a write isn't one of this kind to this item
abbrev pub Avoids : Kind → ℕ → Write → Type 0
Avoids kind item w = kind_written w ≡ Some kind → item_written w ≡ item → ⊥

-- how a kind of word is read
pub record IsRead (T : Type 0) (kind : Kind) (read_word : ℕ → Option T) (reading : Trail → ℕ → Option T) : Type 0 where
  pub zero : (x : ℕ) → reading [] x ≡ read_word 0
  pub same : (x w : ℕ) (t : Trail) → IsKnown (written kind x w) → reading (written kind x w ∷ t) x ≡ read_word w
  pub other : (w : Write) (t : Trail) (x : ℕ) → Avoids kind x w → reading (w ∷ t) x ≡ reading t x

-- a write that is made of a word of its form
made-read : {T : Type 0} (form : ℕ → T → Write) (reading : Trail → ℕ → Option T) (x : ℕ) (t : Trail) → ((v : T) → reading (form x v ∷ t) x ≡ Some v) → (said : Option T) → IsKnown (made form x said) → reading (made form x said ∷ t) x ≡ said
made-read form reading x t h (Some v) k = h v
made-read form reading x t h None k = absurd k

-- the first of two values where a number is itself
pub itself : {T : Type 0} (x : ℕ) (a b : T) → cond (eqb x x) a b ≡ a
itself x a b = ap (λ (test : Bool). cond test a b) (eq-eqb x x refl)

-- the second where two numbers are apart
pub apart : {T : Type 0} (x y : ℕ) (a b : T) → (x ≡ y → ⊥) → cond (eqb x y) a b ≡ b
apart x y a b h = ap (λ (test : Bool). cond test a b) (ne_eqb x y h)

gate_in-other : (w : Write) (t : Trail) (x : ℕ) → Avoids GateOfMap x w → gate_in (w ∷ t) x ≡ gate_in t x
gate_in-other (Gate i v) t x h = apart i x _ _ (h refl)
gate_in-other _ t x h = refl

pub gate_in-read : IsRead GateWord GateOfMap gate_of gate_in
unfolding gate_of map_bits_of array_of key_of root_of store_of cell_of number_of settled_of detail_of
gate_in-read = record {
  zero = λ x. refl;
  same = λ x w t h. made-read Gate gate_in x t (λ v. itself x (Some v) (gate_in t x)) (gate_of w) h;
  other = gate_in-other;
}

parent_in-other : (w : Write) (t : Trail) (x : ℕ) → Avoids ParentOfMap x w → parent_in (w ∷ t) x ≡ parent_in t x
parent_in-other (Parent i v) t x h = apart i x _ _ (h refl)
parent_in-other _ t x h = refl

pub parent_in-read : IsRead (Option ℕ) ParentOfMap settled_number parent_in
unfolding gate_of map_bits_of array_of key_of root_of store_of cell_of number_of settled_of detail_of
parent_in-read = record {
  zero = λ x. refl;
  same = λ x w t h. made-read Parent parent_in x t (λ v. itself x (Some v) (parent_in t x)) (settled_number w) h;
  other = parent_in-other;
}

prototype_in-other : (w : Write) (t : Trail) (x : ℕ) → Avoids PrototypeOfMap x w → prototype_in (w ∷ t) x ≡ prototype_in t x
prototype_in-other (Prototype i v) t x h = apart i x _ _ (h refl)
prototype_in-other _ t x h = refl

pub prototype_in-read : IsRead (Option ℕ) PrototypeOfMap settled_number prototype_in
unfolding gate_of map_bits_of array_of key_of root_of store_of cell_of number_of settled_of detail_of
prototype_in-read = record {
  zero = λ x. refl;
  same = λ x w t h. made-read Prototype prototype_in x t (λ v. itself x (Some v) (prototype_in t x)) (settled_number w) h;
  other = prototype_in-other;
}

bits_in-other : (w : Write) (t : Trail) (x : ℕ) → Avoids BitsOfMap x w → bits_in (w ∷ t) x ≡ bits_in t x
bits_in-other (Bits i v) t x h = apart i x _ _ (h refl)
bits_in-other _ t x h = refl

pub bits_in-read : IsRead MapBits BitsOfMap map_bits_of (λ (t : Trail) (x : ℕ). Some (bits_in t x))
unfolding gate_of map_bits_of array_of key_of root_of store_of cell_of number_of settled_of detail_of
bits_in-read = record {
  zero = λ x. refl;
  same = λ x w t h. made-read Bits (λ (t : Trail) (x : ℕ). Some (bits_in t x)) x t (λ v. ap Some (itself x v (bits_in t x))) (map_bits_of w) h;
  other = λ w t x h. ap Some (bits_in-other w t x h);
}

base_in-other : (w : Write) (t : Trail) (x : ℕ) → Avoids BaseOfMap x w → base_in (w ∷ t) x ≡ base_in t x
base_in-other (Base i v) t x h = apart i x _ _ (h refl)
base_in-other _ t x h = refl

pub base_in-read : IsRead (Option ℕ) BaseOfMap optional_number (λ (t : Trail) (x : ℕ). Some (base_in t x))
unfolding gate_of map_bits_of array_of key_of root_of store_of cell_of number_of settled_of detail_of
base_in-read = record {
  zero = λ x. refl;
  same = λ x w t h. made-read Base (λ (t : Trail) (x : ℕ). Some (base_in t x)) x t (λ v. ap Some (itself x v (base_in t x))) (optional_number w) h;
  other = λ w t x h. ap Some (base_in-other w t x h);
}

array_in-other : (w : Write) (t : Trail) (x : ℕ) → Avoids ArrayOfMap x w → array_in (w ∷ t) x ≡ array_in t x
array_in-other (Array i v) t x h = apart i x _ _ (h refl)
array_in-other _ t x h = refl

pub array_in-read : IsRead ArrayWord ArrayOfMap array_of (λ (t : Trail) (x : ℕ). Some (array_in t x))
unfolding gate_of map_bits_of array_of key_of root_of store_of cell_of number_of settled_of detail_of
array_in-read = record {
  zero = λ x. refl;
  same = λ x w t h. made-read Array (λ (t : Trail) (x : ℕ). Some (array_in t x)) x t (λ v. ap Some (itself x v (array_in t x))) (array_of w) h;
  other = λ w t x h. ap Some (array_in-other w t x h);
}

head_in-other : (w : Write) (t : Trail) (x : ℕ) → Avoids HeadOfMap x w → head_in (w ∷ t) x ≡ head_in t x
head_in-other (Head i v) t x h = apart i x _ _ (h refl)
head_in-other _ t x h = refl

pub head_in-read : IsRead (Option ℕ) HeadOfMap optional_number (λ (t : Trail) (x : ℕ). Some (head_in t x))
unfolding gate_of map_bits_of array_of key_of root_of store_of cell_of number_of settled_of detail_of
head_in-read = record {
  zero = λ x. refl;
  same = λ x w t h. made-read Head (λ (t : Trail) (x : ℕ). Some (head_in t x)) x t (λ v. ap Some (itself x v (head_in t x))) (optional_number w) h;
  other = λ w t x h. ap Some (head_in-other w t x h);
}

entry_key_in-other : (w : Write) (t : Trail) (x : ℕ) → Avoids KeyOfEntry x w → entry_key_in (w ∷ t) x ≡ entry_key_in t x
entry_key_in-other (EntryKey i v) t x h = apart i x _ _ (h refl)
entry_key_in-other _ t x h = refl

pub entry_key_in-read : IsRead Key KeyOfEntry key_read entry_key_in
unfolding gate_of map_bits_of array_of key_of root_of store_of cell_of number_of settled_of detail_of
entry_key_in-read = record {
  zero = λ x. refl;
  same = λ x w t h. made-read EntryKey entry_key_in x t (λ v. itself x (Some v) (entry_key_in t x)) (key_read w) h;
  other = entry_key_in-other;
}

reference_in-other : (w : Write) (t : Trail) (x : ℕ) → Avoids ReferenceOfEntry x w → reference_in (w ∷ t) x ≡ reference_in t x
reference_in-other (Reference i v) t x h = apart i x _ _ (h refl)
reference_in-other _ t x h = refl

pub reference_in-read : IsRead ℕ ReferenceOfEntry number_read reference_in
unfolding gate_of map_bits_of array_of key_of root_of store_of cell_of number_of settled_of detail_of
reference_in-read = record {
  zero = λ x. refl;
  same = λ x w t h. made-read Reference reference_in x t (λ v. itself x (Some v) (reference_in t x)) (number_read w) h;
  other = reference_in-other;
}

owner_in-other : (w : Write) (t : Trail) (x : ℕ) → Avoids OwnerOfField x w → owner_in (w ∷ t) x ≡ owner_in t x
owner_in-other (Owner i v) t x h = apart i x _ _ (h refl)
owner_in-other _ t x h = refl

pub owner_in-read : IsRead ℕ OwnerOfField number_read owner_in
unfolding gate_of map_bits_of array_of key_of root_of store_of cell_of number_of settled_of detail_of
owner_in-read = record {
  zero = λ x. refl;
  same = λ x w t h. made-read Owner owner_in x t (λ v. itself x (Some v) (owner_in t x)) (number_read w) h;
  other = owner_in-other;
}

detail_in-other : (w : Write) (t : Trail) (x : ℕ) → Avoids DetailOfField x w → detail_in (w ∷ t) x ≡ detail_in t x
detail_in-other (FieldDetail i v) t x h = apart i x _ _ (h refl)
detail_in-other _ t x h = refl

pub detail_in-read : IsRead Detail DetailOfField detail_of detail_in
unfolding gate_of map_bits_of array_of key_of root_of store_of cell_of number_of settled_of detail_of
detail_in-read = record {
  zero = λ x. refl;
  same = λ x w t h. made-read FieldDetail detail_in x t (λ v. itself x (Some v) (detail_in t x)) (detail_of w) h;
  other = detail_in-other;
}

link_key_in-other : (w : Write) (t : Trail) (x : ℕ) → Avoids KeyOfLink x w → link_key_in (w ∷ t) x ≡ link_key_in t x
link_key_in-other (LinkKey i v) t x h = apart i x _ _ (h refl)
link_key_in-other _ t x h = refl

pub link_key_in-read : IsRead Key KeyOfLink key_read link_key_in
unfolding gate_of map_bits_of array_of key_of root_of store_of cell_of number_of settled_of detail_of
link_key_in-read = record {
  zero = λ x. refl;
  same = λ x w t h. made-read LinkKey link_key_in x t (λ v. itself x (Some v) (link_key_in t x)) (key_read w) h;
  other = link_key_in-other;
}

link_child_in-other : (w : Write) (t : Trail) (x : ℕ) → Avoids ChildOfLink x w → link_child_in (w ∷ t) x ≡ link_child_in t x
link_child_in-other (LinkChild i v) t x h = apart i x _ _ (h refl)
link_child_in-other _ t x h = refl

pub link_child_in-read : IsRead ℕ ChildOfLink number_read link_child_in
unfolding gate_of map_bits_of array_of key_of root_of store_of cell_of number_of settled_of detail_of
link_child_in-read = record {
  zero = λ x. refl;
  same = λ x w t h. made-read LinkChild link_child_in x t (λ v. itself x (Some v) (link_child_in t x)) (number_read w) h;
  other = link_child_in-other;
}

link_next_in-other : (w : Write) (t : Trail) (x : ℕ) → Avoids NextOfLink x w → link_next_in (w ∷ t) x ≡ link_next_in t x
link_next_in-other (LinkNext i v) t x h = apart i x _ _ (h refl)
link_next_in-other _ t x h = refl

pub link_next_in-read : IsRead (Option ℕ) NextOfLink settled_number link_next_in
unfolding gate_of map_bits_of array_of key_of root_of store_of cell_of number_of settled_of detail_of
link_next_in-read = record {
  zero = λ x. refl;
  same = λ x w t h. made-read LinkNext link_next_in x t (λ v. itself x (Some v) (link_next_in t x)) (settled_number w) h;
  other = link_next_in-other;
}

map_in-other : (w : Write) (t : Trail) (x : ℕ) → Avoids MapOfObject x w → map_in (w ∷ t) x ≡ map_in t x
map_in-other (ObjectMap i v) t x h = apart i x _ _ (h refl)
map_in-other _ t x h = refl

pub map_in-read : IsRead (Option ℕ) MapOfObject optional_number (λ (t : Trail) (x : ℕ). Some (map_in t x))
unfolding gate_of map_bits_of array_of key_of root_of store_of cell_of number_of settled_of detail_of
map_in-read = record {
  zero = λ x. refl;
  same = λ x w t h. made-read ObjectMap (λ (t : Trail) (x : ℕ). Some (map_in t x)) x t (λ v. ap Some (itself x v (map_in t x))) (optional_number w) h;
  other = λ w t x h. ap Some (map_in-other w t x h);
}

root_in-other : (w : Write) (t : Trail) (x : ℕ) → Avoids RootOfObject x w → root_in (w ∷ t) x ≡ root_in t x
root_in-other (Root i v) t x h = apart i x _ _ (h refl)
root_in-other _ t x h = refl

pub root_in-read : IsRead RootWord RootOfObject root_of (λ (t : Trail) (x : ℕ). Some (root_in t x))
unfolding gate_of map_bits_of array_of key_of root_of store_of cell_of number_of settled_of detail_of
root_in-read = record {
  zero = λ x. refl;
  same = λ x w t h. made-read Root (λ (t : Trail) (x : ℕ). Some (root_in t x)) x t (λ v. ap Some (itself x v (root_in t x))) (root_of w) h;
  other = λ w t x h. ap Some (root_in-other w t x h);
}

store_in-other : (w : Write) (t : Trail) (x : ℕ) → Avoids StoreOfObject x w → store_in (w ∷ t) x ≡ store_in t x
store_in-other (Store i v) t x h = apart i x _ _ (h refl)
store_in-other _ t x h = refl

pub store_in-read : IsRead StoreWord StoreOfObject store_of (λ (t : Trail) (x : ℕ). Some (store_in t x))
unfolding gate_of map_bits_of array_of key_of root_of store_of cell_of number_of settled_of detail_of
store_in-read = record {
  zero = λ x. refl;
  same = λ x w t h. made-read Store (λ (t : Trail) (x : ℕ). Some (store_in t x)) x t (λ v. ap Some (itself x v (store_in t x))) (store_of w) h;
  other = λ w t x h. ap Some (store_in-other w t x h);
}

object_cell_in-other : (w : Write) (t : Trail) (x : ℕ) → Avoids CellOfObject x w → object_cell_in (w ∷ t) x ≡ object_cell_in t x
object_cell_in-other (ObjectCell i v) t x h = apart i x _ _ (h refl)
object_cell_in-other _ t x h = refl

pub object_cell_in-read : IsRead (Option ℕ) CellOfObject optional_number (λ (t : Trail) (x : ℕ). Some (object_cell_in t x))
unfolding gate_of map_bits_of array_of key_of root_of store_of cell_of number_of settled_of detail_of
object_cell_in-read = record {
  zero = λ x. refl;
  same = λ x w t h. made-read ObjectCell (λ (t : Trail) (x : ℕ). Some (object_cell_in t x)) x t (λ v. ap Some (itself x v (object_cell_in t x))) (optional_number w) h;
  other = λ w t x h. ap Some (object_cell_in-other w t x h);
}

slot_in-other : (w : Write) (t : Trail) (x : ℕ) → Avoids WordOfSlot x w → slot_in (w ∷ t) x ≡ slot_in t x
slot_in-other (Slot i v) t x h = apart i x _ _ (h refl)
slot_in-other _ t x h = refl

pub slot_in-read : IsRead ℕ WordOfSlot any_word (λ (t : Trail) (x : ℕ). Some (slot_in t x))
slot_in-read = record {
  zero = λ x. refl;
  same = λ x w t h. made-read Slot (λ (t : Trail) (x : ℕ). Some (slot_in t x)) x t (λ v. ap Some (itself x v (slot_in t x))) (any_word w) h;
  other = λ w t x h. ap Some (slot_in-other w t x h);
}

validity_in-other : (w : Write) (t : Trail) (x : ℕ) → Avoids StateOfCell x w → validity_in (w ∷ t) x ≡ validity_in t x
validity_in-other (Validity i v) t x h = apart i x _ _ (h refl)
validity_in-other _ t x h = refl

pub validity_in-read : IsRead CellWord StateOfCell cell_of validity_in
unfolding gate_of map_bits_of array_of key_of root_of store_of cell_of number_of settled_of detail_of
validity_in-read = record {
  zero = λ x. refl;
  same = λ x w t h. made-read Validity validity_in x t (λ v. itself x (Some v) (validity_in t x)) (cell_of w) h;
  other = validity_in-other;
}

made-written : {T : Type 0} (kind : Kind) (form : ℕ → T → Write) (x : ℕ) → ((v : T) → (kind_written (form x v) ≡ Some kind) × (item_written (form x v) ≡ x)) → (said : Option T) → IsKnown (made form x said) → (kind_written (made form x said) ≡ Some kind) × (item_written (made form x said) ≡ x)
made-written kind form x h (Some v) k = h v
made-written kind form x h None k = absurd k

-- a write of a word of a kind is of that kind
pub is-written : (kind : Kind) (x w : ℕ) → IsKnown (written kind x w) → (kind_written (written kind x w) ≡ Some kind) × (item_written (written kind x w) ≡ x)
is-written GateOfMap x w h = made-written GateOfMap Gate x (λ v. (refl, refl)) (gate_of w) h
is-written ParentOfMap x w h = made-written ParentOfMap Parent x (λ v. (refl, refl)) (settled_number w) h
is-written PrototypeOfMap x w h = made-written PrototypeOfMap Prototype x (λ v. (refl, refl)) (settled_number w) h
is-written BitsOfMap x w h = made-written BitsOfMap Bits x (λ v. (refl, refl)) (map_bits_of w) h
is-written BaseOfMap x w h = made-written BaseOfMap Base x (λ v. (refl, refl)) (optional_number w) h
is-written ArrayOfMap x w h = made-written ArrayOfMap Array x (λ v. (refl, refl)) (array_of w) h
is-written HeadOfMap x w h = made-written HeadOfMap Head x (λ v. (refl, refl)) (optional_number w) h
is-written KeyOfEntry x w h = made-written KeyOfEntry EntryKey x (λ v. (refl, refl)) (key_read w) h
is-written ReferenceOfEntry x w h = made-written ReferenceOfEntry Reference x (λ v. (refl, refl)) (number_read w) h
is-written OwnerOfField x w h = made-written OwnerOfField Owner x (λ v. (refl, refl)) (number_read w) h
is-written DetailOfField x w h = made-written DetailOfField FieldDetail x (λ v. (refl, refl)) (detail_of w) h
is-written KeyOfLink x w h = made-written KeyOfLink LinkKey x (λ v. (refl, refl)) (key_read w) h
is-written ChildOfLink x w h = made-written ChildOfLink LinkChild x (λ v. (refl, refl)) (number_read w) h
is-written NextOfLink x w h = made-written NextOfLink LinkNext x (λ v. (refl, refl)) (settled_number w) h
is-written MapOfObject x w h = made-written MapOfObject ObjectMap x (λ v. (refl, refl)) (optional_number w) h
is-written RootOfObject x w h = made-written RootOfObject Root x (λ v. (refl, refl)) (root_of w) h
is-written StoreOfObject x w h = made-written StoreOfObject Store x (λ v. (refl, refl)) (store_of w) h
is-written CellOfObject x w h = made-written CellOfObject ObjectCell x (λ v. (refl, refl)) (optional_number w) h
is-written WordOfSlot x w h = made-written WordOfSlot Slot x (λ v. (refl, refl)) (any_word w) h
is-written StateOfCell x w h = made-written StateOfCell Validity x (λ v. (refl, refl)) (cell_of w) h
