-- A new array, filled entry by entry.
use Rattle.std.proofs.Common.{◌≡◌, ℕ, ◌+◌, ◌<◌, ◌≤◌, Bool, cond, Option, Some, IsSome, ◌∷◌, refl, ap, sym, ◌∙◌, subst, eqb, eq-eqb, ne_eqb, below_more, arith}
use Rattle.hc_value.specs.declared.key.Key.{Key}
use Rattle.hc_heap.specs.Writes.{Write, Trail, EntryKey, Reference}
use Rattle.hc_heap.specs.Readings.{array_in, gate_in, entry_key_in, reference_in}
use Rattle.hc_heap.specs.Lawful.{HaveEntries, key_from, field_from}
use Rattle.hc_heap.specs.Kept.{Adds}
use Rattle.hc_heap.specs.Frames.{adds-none, adds-one, adds-on, same-after}
use Rattle.hc_descs.specs.Entries.{AreFree}
use Rattle.hc_descs.specs.Filling.{FillsEntries, IsFilled}
use Rattle.hc_descs.proofs.Having.{key-there, field-there}

-- the first of two values where a number is itself
pub itself : {T : Type 0} (x : ℕ) (a b : T) → cond (eqb x x) a b ≡ a
itself x a b = ap (λ (test : Bool). cond test a b) (eq-eqb x x refl)

-- the second where two numbers are apart
pub apart : {T : Type 0} (x y : ℕ) (a b : T) → (x ≡ y → ⊥) → cond (eqb x y) a b ≡ b
apart x y a b h = ap (λ (test : Bool). cond test a b) (ne_eqb x y h)

key-step : (first e : ℕ) → e < first → (t : Trail) (w : Write) → FillsEntries first t w → entry_key_in (w ∷ t) e ≡ entry_key_in t e
key-step first e lt t (EntryKey i key) p = apart i e _ _ (λ (is : i ≡ e). omega arith)
key-step first e lt t (Reference i f) p = refl
key-step first e lt t _ p = absurd p

field-step : (first e : ℕ) → e < first → (t : Trail) (w : Write) → FillsEntries first t w → reference_in (w ∷ t) e ≡ reference_in t e
field-step first e lt t (EntryKey i key) p = refl
field-step first e lt t (Reference i f) p = apart i e _ _ (λ (is : i ≡ e). omega arith)
field-step first e lt t _ p = absurd p

-- the k-th entry of a map is written before the new array, and is read the same while that is filled
pub record IsSource (old now : Trail) (base : Option ℕ) (from k : ℕ) : Type 0 where
  pub key : key_from old base k ≡ entry_key_in now (from + k)
  pub field : field_from old base k ≡ reference_in now (from + k)
  pub written : IsSome (entry_key_in now (from + k))
  pub made : IsSome (reference_in now (from + k))

pub source : (old now : Trail) (base : Option ℕ) (n from first k : ℕ) → HaveEntries old base n → base ≡ Some from → AreFree old first → Adds (FillsEntries first) old now → k < n → IsSource old now base from k
source old now base n from first k have is free adds lt =
    let written = key-there old base n from k have is lt in
    let made = field-there old base n from k have is lt in
    let no : first ≤ from + k → ⊥ = λ le. (let none = (free (from + k) le).key in cc) in
    let below : from + k < first = omega (arith, no) in
    let key : entry_key_in now (from + k) ≡ entry_key_in old (from + k) = same-after (λ (t : Trail). entry_key_in t (from + k)) (key-step first (from + k) below) adds in
    let field : reference_in now (from + k) ≡ reference_in old (from + k) = same-after (λ (t : Trail). reference_in t (from + k)) (field-step first (from + k) below) adds in
    record {
      key = ap (λ (b : Option ℕ). key_from old b k) is ∙ sym key;
      field = ap (λ (b : Option ℕ). field_from old b k) is ∙ sym field;
      written = subst (λ (o : Option Key). IsSome o) (sym key) written;
      made = subst (λ (o : Option ℕ). IsSome o) (sym field) made;
    }

-- nothing is to be written
pub filled-none : (t : Trail) (first n : ℕ) (key : ℕ → Option Key) (field : ℕ → Option ℕ) → ((k : ℕ) → k < n → ⊥) → AreFree t first → IsFilled t t first n key field
filled-none t first n key field none free = record {
  writes = adds-none t;
  keys = λ k lt. absurd (none k lt);
  fields = λ k lt. absurd (none k lt);
  rest = λ e le. free e (omega arith);
}

-- an entry more is a write of an entry
pub adds-entry : (old now : Trail) (first n : ℕ) (a : Key) (f : ℕ) → Adds (FillsEntries first) old now → Adds (FillsEntries first) old (Reference (first + n) f ∷ EntryKey (first + n) a ∷ now)
adds-entry old now first n a f h =
    let middle : Trail = EntryKey (first + n) a ∷ now in
    let after : Trail = Reference (first + n) f ∷ middle in
    let le : first ≤ first + n = omega arith in
    let one : Adds (FillsEntries first) now middle = adds-one now (EntryKey (first + n) a) le in
    let two : Adds (FillsEntries first) middle after = adds-one middle (Reference (first + n) f) le in
    adds-on h (adds-on one two)

-- the entries behind the last are free
pub spare-last : (t : Trail) (first n : ℕ) (a : Key) (f : ℕ) → AreFree t (first + n) → AreFree (Reference (first + n) f ∷ EntryKey (first + n) a ∷ t) (first + (n + 1))
spare-last t first n a f free = λ e above. record {
  key = apart (first + n) e (Some a) (entry_key_in t e) (λ (is : first + n ≡ e). omega arith) ∙ (free e (omega arith)).key;
  field = apart (first + n) e (Some f) (reference_in t e) (λ (is : first + n ≡ e). omega arith) ∙ (free e (omega arith)).field;
}

-- one entry more was written
pub filled-more : (old now : Trail) (first k : ℕ) (key : ℕ → Option Key) (field : ℕ → Option ℕ) (a : Key) (f : ℕ)
    → IsFilled old now first k key field → key k ≡ Some a → field k ≡ Some f → IsFilled old (Reference (first + k) f ∷ EntryKey (first + k) a ∷ now) first (k + 1) key field
filled-more old now first k key field a f h is_key is_field =
    let after : Trail = Reference (first + k) f ∷ EntryKey (first + k) a ∷ now in
    record {
      writes = adds-entry old now first k a f h.writes;
      keys = below_more (λ (j : ℕ). entry_key_in after (first + j) ≡ key j) k
          (λ j lt. apart (first + k) (first + j) (Some a) (entry_key_in now (first + j)) (λ (is : first + k ≡ first + j). omega arith) ∙ h.keys j lt)
          (itself (first + k) (Some a) (entry_key_in now (first + k)) ∙ sym is_key);
      fields = below_more (λ (j : ℕ). reference_in after (first + j) ≡ field j) k
          (λ j lt. apart (first + k) (first + j) (Some f) (reference_in now (first + j)) (λ (is : first + k ≡ first + j). omega arith) ∙ h.fields j lt)
          (itself (first + k) (Some f) (reference_in now (first + k)) ∙ sym is_field);
      rest = spare-last now first k a f h.rest;
    }

-- entries from a first one on have these keys and fields
pub record Has (t : Trail) (first n : ℕ) (key : ℕ → Option Key) (field : ℕ → Option ℕ) : Type 0 where
  pub keys : (k : ℕ) → k < n → entry_key_in t (first + k) ≡ key k
  pub fields : (k : ℕ) → k < n → reference_in t (first + k) ≡ field k

pub has-filled : (old now : Trail) (first n : ℕ) (key : ℕ → Option Key) (field : ℕ → Option ℕ) → IsFilled old now first n key field → Has now first n key field
has-filled old now first n key field h = record { keys = h.keys; fields = h.fields }

-- an entry behind these leaves them as they are
pub has-last : (t : Trail) (first n : ℕ) (key : ℕ → Option Key) (field : ℕ → Option ℕ) (a : Key) (f : ℕ) → Has t first n key field → Has (Reference (first + n) f ∷ EntryKey (first + n) a ∷ t) first n key field
has-last t first n key field a f h = record {
  keys = λ j lt. apart (first + n) (first + j) (Some a) (entry_key_in t (first + j)) (λ (is : first + n ≡ first + j). omega arith) ∙ h.keys j lt;
  fields = λ j lt. apart (first + n) (first + j) (Some f) (reference_in t (first + j)) (λ (is : first + n ≡ first + j). omega arith) ∙ h.fields j lt;
}

gate-step : (first m : ℕ) (t : Trail) (w : Write) → FillsEntries first t w → gate_in (w ∷ t) m ≡ gate_in t m
gate-step first m t (EntryKey i key) p = refl
gate-step first m t (Reference i f) p = refl
gate-step first m t _ p = absurd p

-- gates stay while entries are written
pub gate-same : (old now : Trail) (first m : ℕ) → Adds (FillsEntries first) old now → gate_in now m ≡ gate_in old m
gate-same old now first m h = same-after (λ (t : Trail). gate_in t m) (gate-step first m) h

array-step : (first m : ℕ) (t : Trail) (w : Write) → FillsEntries first t w → array_in (w ∷ t) m ≡ array_in t m
array-step first m t (EntryKey e k) p = refl
array-step first m t (Reference e f) p = refl
array-step first m t _ p = absurd p

pub array-same : (old now : Trail) (first m : ℕ) → Adds (FillsEntries first) old now → array_in now m ≡ array_in old m
array-same old now first m h = same-after (λ (t : Trail). array_in t m) (array-step first m) h
