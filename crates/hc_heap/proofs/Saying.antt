-- After lawful stores each word says what the trail says.
use Rattle.std.proofs.Common.{◌≡◌, ℕ, zero, suc, ◌<◌, ◌≤◌, Option, Some, List, [], ◌∷◌, length, set, replicate, refl, ap, ◌∙◌, subst, arith, length-set, IfSome}
use Rattle.hc_board.specs.Trail.{Access, replayed, image_of}
use Rattle.hc_layout.specs.Shape.{items_of, words_of}
use Rattle.hc_layout.specs.Words.{gate_of, map_bits_of, array_of, root_of, store_of, cell_of}
use Rattle.hc_layout.specs.declared.shape.Shape.{Shape}
use Rattle.hc_value.specs.Field.{detail_of}
use Rattle.hc_heap.specs.Kinds.{region_of}
use Rattle.hc_heap.specs.Decode.{key_read, settled_number, optional_number, number_read, any_word, write_of, put_before, typed}
use Rattle.hc_heap.specs.Lawful.{LawfulWrite, Lawful, AllWithin, IsAmong}
use Rattle.hc_heap.specs.Said.{word_in, Says, SaysNothing}
use Rattle.hc_heap.specs.declared.kind.Kind.{Kind}
use Rattle.hc_heap.specs.declared.kind.Kind.TheVariants.{GateOfMap, ParentOfMap, PrototypeOfMap, BitsOfMap, BaseOfMap, ArrayOfMap, HeadOfMap, KeyOfEntry, ReferenceOfEntry, OwnerOfField, DetailOfField, KeyOfLink, ChildOfLink, NextOfLink, MapOfObject, RootOfObject, StoreOfObject, CellOfObject, WordOfSlot, StateOfCell}
use Rattle.hc_heap.specs.Writes.{Write, Trail, item_written, Stray, Gate, Parent, Prototype, Bits, Base, Array, Head, EntryKey, Reference, Owner, FieldDetail, LinkKey, LinkChild, LinkNext, ObjectMap, Root, Store, ObjectCell, Slot, Validity}
use Rattle.hc_heap.specs.Readings.{gate_in, parent_in, prototype_in, bits_in, base_in, array_in, head_in, entry_key_in, reference_in, owner_in, detail_in, link_key_in, link_child_in, link_next_in, map_in, root_in, store_in, object_cell_in, slot_in, validity_in}
use Rattle.hc_heap.proofs.Forms.{IsKnown, IsRead, gate_in-read, parent_in-read, prototype_in-read, bits_in-read, base_in-read, array_in-read, head_in-read, entry_key_in-read, reference_in-read, owner_in-read, detail_in-read, link_key_in-read, link_child_in-read, link_next_in-read, map_in-read, root_in-read, store_in-read, object_cell_in-read, slot_in-read, validity_in-read}
use Rattle.hc_heap.proofs.Ties.{PlaceLaws, IsTied, tie-store, tie-start, one-value}

-- a lawful write isn't a stray one
pub lawful-known : (s : Shape) (t : Trail) (w : Write) → LawfulWrite s t w → IsKnown w
lawful-known s t Stray h = absurd h
lawful-known s t (Gate i v) h = tt
lawful-known s t (Parent i v) h = tt
lawful-known s t (Prototype i v) h = tt
lawful-known s t (Bits i v) h = tt
lawful-known s t (Base i v) h = tt
lawful-known s t (Array i v) h = tt
lawful-known s t (Head i v) h = tt
lawful-known s t (EntryKey i v) h = tt
lawful-known s t (Reference i v) h = tt
lawful-known s t (Owner i v) h = tt
lawful-known s t (FieldDetail i v) h = tt
lawful-known s t (LinkKey i v) h = tt
lawful-known s t (LinkChild i v) h = tt
lawful-known s t (LinkNext i v) h = tt
lawful-known s t (ObjectMap i v) h = tt
lawful-known s t (Root i v) h = tt
lawful-known s t (Store i v) h = tt
lawful-known s t (ObjectCell i v) h = tt
lawful-known s t (Slot i v) h = tt
lawful-known s t (Validity i v) h = tt

-- the trail before more stores is lawful too
pub lawful-before : (s : Shape) (stores : List Access) (t : Trail) → Lawful s (put_before s stores t) → Lawful s t
unfolding put_before Lawful
lawful-before s [] t h = h
lawful-before s (store ∷ rest) t h = (lawful-before s rest (write_of s store ∷ t) h).0

length-zeros : (n : ℕ) → length {A = ℕ} (replicate n 0) ≡ n
length-zeros zero = refl
length-zeros (suc n) = ap suc (length-zeros n)

next-lawful : (s : Shape) (w : Write) (t : Trail) → Lawful s (w ∷ t) → IsKnown w
unfolding Lawful
next-lawful s w t h = lawful-known s t w h.1.lawful

module _ {T : Type 0} (kind : Kind) (read_word : ℕ → Option T) (reading : Trail → ℕ → Option T) (r : IsRead T kind read_word reading) (s : Shape) where
  tie-stores : PlaceLaws → (words : List ℕ) (t : Trail) (stores : List Access) → length words ≡ words_of s → Lawful s (put_before s stores t) → IsTied kind read_word reading r s words t → IsTied kind read_word reading r s (replayed words stores) (put_before s stores t)
  unfolding put_before replayed
  tie-stores laws words t [] wide h was = was
  tie-stores laws words t (store ∷ rest) wide h was =
      tie-stores laws (set words store.0 store.1) (write_of s store ∷ t) rest (length-set words store.0 store.1 ∙ wide) h
      (tie-store kind read_word reading r s laws words t store.0 store.1 wide (next-lawful s (write_of s store) t (lawful-before s rest (write_of s store ∷ t) h)) was)

  pub tied : PlaceLaws → (stores : List Access) → Lawful s (typed s stores) → (x : ℕ) → read_word (word_in s (image_of (words_of s) stores) kind x) ≡ reading (typed s stores) x
  unfolding image_of typed
  tied laws stores h = tie-stores laws (replicate (words_of s) 0) [] stores (length-zeros (words_of s)) h (tie-start kind read_word reading r s (words_of s))

  -- of an item that wasn't handed out the trail says what it said from the start
  pub nothing : (counts : Shape) (t : Trail) (x : ℕ) → AllWithin counts t → items_of counts (region_of kind) ≤ x → reading t x ≡ reading [] x
  unfolding AllWithin
  nothing counts [] x h past = refl
  nothing counts (w ∷ t) x h past =
      r.other w t x (λ a b. let in_range : IfSome (Some kind) (λ k. IsAmong counts k (item_written w)) = subst (λ (o : Option Kind). IfSome o (λ k. IsAmong counts k (item_written w))) a h.1 in
      let below : item_written w < items_of counts (region_of kind) = in_range in omega arith)
      ∙ nothing counts t x h.0 past

pub words-say : PlaceLaws → (s : Shape) (stores : List Access) → Lawful s (typed s stores) → (kind : Kind) (x : ℕ) → Says kind (typed s stores) x (word_in s (image_of (words_of s) stores) kind x)
words-say laws s stores h GateOfMap x = tied GateOfMap gate_of gate_in gate_in-read s laws stores h x
words-say laws s stores h ParentOfMap x = tied ParentOfMap settled_number parent_in parent_in-read s laws stores h x
words-say laws s stores h PrototypeOfMap x = tied PrototypeOfMap settled_number prototype_in prototype_in-read s laws stores h x
words-say laws s stores h BitsOfMap x = tied BitsOfMap map_bits_of (λ (t : Trail) (x : ℕ). Some (bits_in t x)) bits_in-read s laws stores h x
words-say laws s stores h BaseOfMap x = tied BaseOfMap optional_number (λ (t : Trail) (x : ℕ). Some (base_in t x)) base_in-read s laws stores h x
words-say laws s stores h ArrayOfMap x = tied ArrayOfMap array_of (λ (t : Trail) (x : ℕ). Some (array_in t x)) array_in-read s laws stores h x
words-say laws s stores h HeadOfMap x = tied HeadOfMap optional_number (λ (t : Trail) (x : ℕ). Some (head_in t x)) head_in-read s laws stores h x
words-say laws s stores h KeyOfEntry x = tied KeyOfEntry key_read entry_key_in entry_key_in-read s laws stores h x
words-say laws s stores h ReferenceOfEntry x = tied ReferenceOfEntry number_read reference_in reference_in-read s laws stores h x
words-say laws s stores h OwnerOfField x = tied OwnerOfField number_read owner_in owner_in-read s laws stores h x
words-say laws s stores h DetailOfField x = tied DetailOfField detail_of detail_in detail_in-read s laws stores h x
words-say laws s stores h KeyOfLink x = tied KeyOfLink key_read link_key_in link_key_in-read s laws stores h x
words-say laws s stores h ChildOfLink x = tied ChildOfLink number_read link_child_in link_child_in-read s laws stores h x
words-say laws s stores h NextOfLink x = tied NextOfLink settled_number link_next_in link_next_in-read s laws stores h x
words-say laws s stores h MapOfObject x = tied MapOfObject optional_number (λ (t : Trail) (x : ℕ). Some (map_in t x)) map_in-read s laws stores h x
words-say laws s stores h RootOfObject x = tied RootOfObject root_of (λ (t : Trail) (x : ℕ). Some (root_in t x)) root_in-read s laws stores h x
words-say laws s stores h StoreOfObject x = tied StoreOfObject store_of (λ (t : Trail) (x : ℕ). Some (store_in t x)) store_in-read s laws stores h x
words-say laws s stores h CellOfObject x = tied CellOfObject optional_number (λ (t : Trail) (x : ℕ). Some (object_cell_in t x)) object_cell_in-read s laws stores h x
words-say laws s stores h WordOfSlot x = tied WordOfSlot any_word (λ (t : Trail) (x : ℕ). Some (slot_in t x)) slot_in-read s laws stores h x
words-say laws s stores h StateOfCell x = tied StateOfCell cell_of validity_in validity_in-read s laws stores h x

pub says-nothing : (counts : Shape) (t : Trail) → AllWithin counts t → (kind : Kind) (x : ℕ) → items_of counts (region_of kind) ≤ x → SaysNothing kind t x
says-nothing counts t h GateOfMap x past = nothing GateOfMap gate_of gate_in gate_in-read counts counts t x h past
says-nothing counts t h ParentOfMap x past = nothing ParentOfMap settled_number parent_in parent_in-read counts counts t x h past
says-nothing counts t h PrototypeOfMap x past = nothing PrototypeOfMap settled_number prototype_in prototype_in-read counts counts t x h past
says-nothing counts t h BitsOfMap x past = one-value _ _ (Some (bits_in t x)) refl (nothing BitsOfMap map_bits_of (λ (t : Trail) (x : ℕ). Some (bits_in t x)) bits_in-read counts counts t x h past)
says-nothing counts t h BaseOfMap x past = one-value _ _ (Some (base_in t x)) refl (nothing BaseOfMap optional_number (λ (t : Trail) (x : ℕ). Some (base_in t x)) base_in-read counts counts t x h past)
says-nothing counts t h ArrayOfMap x past = one-value _ _ (Some (array_in t x)) refl (nothing ArrayOfMap array_of (λ (t : Trail) (x : ℕ). Some (array_in t x)) array_in-read counts counts t x h past)
says-nothing counts t h HeadOfMap x past = one-value _ _ (Some (head_in t x)) refl (nothing HeadOfMap optional_number (λ (t : Trail) (x : ℕ). Some (head_in t x)) head_in-read counts counts t x h past)
says-nothing counts t h KeyOfEntry x past = nothing KeyOfEntry key_read entry_key_in entry_key_in-read counts counts t x h past
says-nothing counts t h ReferenceOfEntry x past = nothing ReferenceOfEntry number_read reference_in reference_in-read counts counts t x h past
says-nothing counts t h OwnerOfField x past = nothing OwnerOfField number_read owner_in owner_in-read counts counts t x h past
says-nothing counts t h DetailOfField x past = nothing DetailOfField detail_of detail_in detail_in-read counts counts t x h past
says-nothing counts t h KeyOfLink x past = nothing KeyOfLink key_read link_key_in link_key_in-read counts counts t x h past
says-nothing counts t h ChildOfLink x past = nothing ChildOfLink number_read link_child_in link_child_in-read counts counts t x h past
says-nothing counts t h NextOfLink x past = nothing NextOfLink settled_number link_next_in link_next_in-read counts counts t x h past
says-nothing counts t h MapOfObject x past = one-value _ _ (Some (map_in t x)) refl (nothing MapOfObject optional_number (λ (t : Trail) (x : ℕ). Some (map_in t x)) map_in-read counts counts t x h past)
says-nothing counts t h RootOfObject x past = one-value _ _ (Some (root_in t x)) refl (nothing RootOfObject root_of (λ (t : Trail) (x : ℕ). Some (root_in t x)) root_in-read counts counts t x h past)
says-nothing counts t h StoreOfObject x past = one-value _ _ (Some (store_in t x)) refl (nothing StoreOfObject store_of (λ (t : Trail) (x : ℕ). Some (store_in t x)) store_in-read counts counts t x h past)
says-nothing counts t h CellOfObject x past = one-value _ _ (Some (object_cell_in t x)) refl (nothing CellOfObject optional_number (λ (t : Trail) (x : ℕ). Some (object_cell_in t x)) object_cell_in-read counts counts t x h past)
says-nothing counts t h WordOfSlot x past = one-value _ _ (Some (slot_in t x)) refl (nothing WordOfSlot any_word (λ (t : Trail) (x : ℕ). Some (slot_in t x)) slot_in-read counts counts t x h past)
says-nothing counts t h StateOfCell x past = nothing StateOfCell cell_of validity_in validity_in-read counts counts t x h past
