-- A new array, given to a map.
use Rattle.std.proofs.Common.{◌≡◌, ℕ, ◌+◌, ◌<◌, cond, eqb, Option, Some, [], ◌∷◌, refl, ap, sym, ◌∙◌}
use Rattle.hc_layout.specs.Capacity.{cap_of}
use Rattle.hc_layout.specs.declared.shape.Shape.{Shape}
use Rattle.hc_layout.specs.declared.words.ArrayWord.{ArrayWord}
use Rattle.hc_layout.specs.declared.words.GateWord.{GateWord}
use Rattle.hc_value.specs.declared.key.Key.{Key}
use Rattle.hc_heap.specs.Writes.{Write, Trail, Base, Array, EntryKey, Reference}
use Rattle.hc_heap.specs.Readings.{gate_in, base_in, array_in, entry_key_in, reference_in}
use Rattle.hc_heap.specs.Lawful.{Lawful, key_from, field_from}
use Rattle.hc_heap.specs.Kept.{Adds, GoesOn, EntriesAreKept, EntriesStay}
use Rattle.hc_heap.specs.Frames.{adds-one, adds-on, adds-wider, goes-on-of}
use Rattle.hc_descs.specs.Entries.{AreFree, key_at, field_at}
use Rattle.hc_descs.specs.Copies.{own_array, FillsArray, HasEntriesBut, HasEntriesOf, HasKeysOf, IsEntry, HasOwnArray, field_but}
use Rattle.hc_descs.specs.Filling.{FillsEntries}
use Rattle.hc_descs.proofs.Filled.{Has, itself}

-- the trail with the writes that give an array to a map
abbrev pub given : Trail → ℕ → ℕ → ArrayWord → Trail
given t c first a = Array c a ∷ Base c (Some first) ∷ t

wider : (c first : ℕ) (t : Trail) (w : Write) → FillsEntries first t w → FillsArray c first t w
wider c first t (EntryKey i key) p = p
wider c first t (Reference i f) p = p
wider c first t _ p = absurd p

pub given-writes : (old now : Trail) (c first : ℕ) (a : ArrayWord) → Adds (FillsEntries first) old now → Adds (FillsArray c first) old (given now c first a)
given-writes old now c first a h =
    let filled : Adds (FillsArray c first) old now = adds-wider (wider c first) h in
    let middle : Trail = Base c (Some first) ∷ now in
    let after : Trail = Array c a ∷ middle in
    let one : Adds (FillsArray c first) now middle = adds-one now (Base c (Some first)) refl in
    let two : Adds (FillsArray c first) middle after = adds-one middle (Array c a) refl in
    adds-on filled (adds-on one two)

given-base : (t : Trail) (c first : ℕ) (a : ArrayWord) → base_in (given t c first a) c ≡ Some first
given-base t c first a = itself c (Some first) (base_in t c)

given-key : (t : Trail) (c first : ℕ) (a : ArrayWord) (k : ℕ) → key_at (given t c first a) c k ≡ entry_key_in t (first + k)
given-key t c first a k = ap (λ (b : Option ℕ). key_from (given t c first a) b k) (given-base t c first a)

given-field : (t : Trail) (c first : ℕ) (a : ArrayWord) (k : ℕ) → field_at (given t c first a) c k ≡ reference_in t (first + k)
given-field t c first a k = ap (λ (b : Option ℕ). field_from (given t c first a) b k) (given-base t c first a)

pub given-array : (t : Trail) (c first n : ℕ) → HasOwnArray (given t c first (own_array (cap_of n))) c n first
given-array t c first n = record { base = given-base t c first (own_array (cap_of n)); array = itself c (own_array (cap_of n)) (array_in t c) }

pub given-entry : (t : Trail) (c first n : ℕ) (a : ArrayWord) (key : Key) (field : ℕ) → entry_key_in t (first + n) ≡ Some key → reference_in t (first + n) ≡ Some field → IsEntry (given t c first a) c n key field
given-entry t c first n a key field is_key is_field = record { key = given-key t c first a n ∙ is_key; field = given-field t c first a n ∙ is_field }

-- an open map keeps its entries while a new array is filled and given to another map
stays : (s : Shape) (old now : Trail) (c first m k : ℕ) (g : GateWord) (a : ArrayWord) → EntriesAreKept → Adds (FillsEntries first) old now → Lawful s (given now c first a)
    → gate_in old m ≡ Some g → k < g.entries → EntriesStay old (given now c first a) (given now c first a) m k
stays s old now c first m k g a law h lawful gate lt =
    let after = given now c first a in
    let goes : GoesOn s old after = goes-on-of s (given-writes old now c first a h) lawful in
    let none : GoesOn s after after = record { more = []; is = refl; lawful = lawful } in
    law s old after after m g k goes none gate lt

pub given-entries : (s : Shape) (old now : Trail) (c first m : ℕ) (g : GateWord) (a : ArrayWord) → EntriesAreKept → Adds (FillsEntries first) old now → Lawful s (given now c first a)
    → gate_in old m ≡ Some g → Has now first g.entries (key_at old m) (field_at old m) → HasEntriesOf (given now c first a) c m g.entries
given-entries s old now c first m g a law h lawful gate has = record {
  keys = λ k lt. given-key now c first a k ∙ (has.keys k lt ∙ sym (stays s old now c first m k g a law h lawful gate lt).key);
  fields = λ k lt. given-field now c first a k ∙ (has.fields k lt ∙ sym (stays s old now c first m k g a law h lawful gate lt).field);
}

pub given-keys : (s : Shape) (old now : Trail) (c first m from : ℕ) (g : GateWord) (a : ArrayWord) → EntriesAreKept → Adds (FillsEntries first) old now → Lawful s (given now c first a)
    → gate_in old m ≡ Some g → Has now first g.entries (key_at old m) (λ k. Some (from + k)) → HasKeysOf (given now c first a) c m g.entries from
given-keys s old now c first m from g a law h lawful gate has = record {
  keys = λ k lt. given-key now c first a k ∙ (has.keys k lt ∙ sym (stays s old now c first m k g a law h lawful gate lt).key);
  fields = λ k lt. given-field now c first a k ∙ has.fields k lt;
}

pub given-but : (s : Shape) (old now : Trail) (c first m place field : ℕ) (g : GateWord) (a : ArrayWord) → EntriesAreKept → Adds (FillsEntries first) old now → Lawful s (given now c first a)
    → gate_in old m ≡ Some g → Has now first g.entries (key_at old m) (field_but old m place field) → HasEntriesBut (given now c first a) c m g.entries place field
given-but s old now c first m place field g a law h lawful gate has = record {
  keys = λ k lt. given-key now c first a k ∙ (has.keys k lt ∙ sym (stays s old now c first m k g a law h lawful gate lt).key);
  fields = λ k lt. given-field now c first a k ∙ (has.fields k lt ∙ ap (λ (o : Option ℕ). cond (eqb k place) (Some field) o) (sym (stays s old now c first m k g a law h lawful gate lt).field));
}

-- giving an array to a map writes no entries
pub given-spare : (t : Trail) (c first : ℕ) (a : ArrayWord) (e : ℕ) → AreFree t e → AreFree (given t c first a) e
given-spare t c first a e free = λ k le. record { key = (free k le).key; field = (free k le).field }
