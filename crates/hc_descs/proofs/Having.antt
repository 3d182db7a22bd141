-- The entries that an open map has are written, and were handed out.
use Rattle.std.proofs.Common.{◌≡◌, ℕ, ◌+◌, ◌<◌, ◌≤◌, Option, Some, None, IsSome, IsSomeAnd, refl, sym, ap, subst, arith}
use Rattle.hc_layout.specs.declared.capacity.TheConstants.{MAX_FAST}
use Rattle.hc_layout.specs.declared.shape.Region.TheVariants.{Fields}
use Rattle.hc_layout.specs.declared.words.GateWord.{GateWord}
use Rattle.hc_heap.specs.Writes.{Trail}
use Rattle.hc_heap.specs.Readings.{gate_in, base_in, entry_key_in, reference_in, owner_in}
use Rattle.hc_heap.specs.Lawful.{HaveEntries, IsField, key_from, field_from}
use Rattle.hc_heap.specs.Kept.{GatesAreOpen, UnusedSaysNothing}
use Rattle.hc_heap.specs.States.{View, IsHeap}
use Rattle.hc_heap.specs.declared.kind.Kind.TheVariants.{KeyOfEntry, ReferenceOfEntry, OwnerOfField}
use Rattle.hc_descs.specs.Entries.{IsFree, AreFree, IsEntryAt}

-- an open map has the entries of its gate
pub entries-open : (v : View) (m : ℕ) (g : GateWord) → GatesAreOpen → IsHeap v → gate_in v.trail m ≡ Some g → HaveEntries v.trail (base_in v.trail m) g.entries
entries-open v m g law h is = (law v.shape v.trail m g h.lawful is).entries

-- without a base there are no entries
pub none-have : (t : Trail) (b : Option ℕ) (n k : ℕ) → HaveEntries t b n → b ≡ None → k < n → ⊥
none-have t b n k h is lt = let e : IsSome (key_from t None k) = subst (λ (x : Option ℕ). IsSome (key_from t x k)) is (h.keys k lt) in cc

-- the key of each entry is written
pub key-there : (t : Trail) (b : Option ℕ) (n e k : ℕ) → HaveEntries t b n → b ≡ Some e → k < n → IsSome (entry_key_in t (e + k))
key-there t b n e k h is lt = subst (λ (x : Option ℕ). IsSome (key_from t x k)) is (h.keys k lt)

some-of : {T : Type 0} (P : T → Type 0) (o : Option T) → IsSomeAnd o P → IsSome o
some-of P (Some x) h = refl
some-of P None h = absurd h

-- the field of each entry is written
pub field-there : (t : Trail) (b : Option ℕ) (n e k : ℕ) → HaveEntries t b n → b ≡ Some e → k < n → IsSome (reference_in t (e + k))
field-there t b n e k h is lt = some-of (λ (f : ℕ). IsField t f) (reference_in t (e + k)) (subst (λ (x : Option ℕ). IsSomeAnd (field_from t x k) (λ (f : ℕ). IsField t f)) is (h.fields k lt))

-- an entry whose key is written was handed out
pub entry-used : (v : View) (e : ℕ) → UnusedSaysNothing → IsHeap v → IsSome (entry_key_in v.trail e) → e < v.used.entries
entry-used v e law h some =
    let no : v.used.entries ≤ e → ⊥ = λ le. (let none : entry_key_in v.trail e ≡ None = law v.used v.trail KeyOfEntry e h.used le in cc) in
    omega (arith, no)

-- nothing is written of entries that weren't handed out
pub free-from : (v : View) (t : Trail) (first : ℕ) → UnusedSaysNothing → IsHeap v → t ≡ v.trail → first ≡ v.used.entries → AreFree t first
free-from v t first law h is start = λ e le.
    let above : v.used.entries ≤ e = omega arith in
    subst (λ (x : Trail). IsFree x e) (sym is) (record { key = law v.used v.trail KeyOfEntry e h.used above; field = law v.used v.trail ReferenceOfEntry e h.used above })

-- a field that is made was handed out
pub field-used : (v : View) (f : ℕ) → UnusedSaysNothing → IsHeap v → IsField v.trail f → f < v.shape.fields
field-used v f law h made =
    let owner = made.owner in
    let no : v.used.fields ≤ f → ⊥ = λ le. (let none : owner_in v.trail f ≡ None = law v.used v.trail OwnerOfField f h.used le in cc) in
    omega (arith, no, h.most Fields)

-- an open map has few entries
pub entries-few : (v : View) (m : ℕ) (g : GateWord) → GatesAreOpen → IsHeap v → gate_in v.trail m ≡ Some g → g.entries ≤ MAX_FAST
entries-few v m g law h is = (law v.shape v.trail m g h.lawful is).few

some-with : {T : Type 0} (P : T → Type 0) (o : Option T) → IsSomeAnd o P → (v : T) × ((o ≡ Some v) × P v)
some-with P (Some v) h = (v, (refl, h))
some-with P None h = absurd h

-- an open map with a k-th entry has a base
pub base-there : (v : View) (m k : ℕ) (o : Option ℕ) → GatesAreOpen → IsHeap v → IsSomeAnd (gate_in v.trail m) (λ g. k < g.entries) → o ≡ base_in v.trail m → IsSome o
base-there v m k (Some e) law h some is = refl
base-there v m k None law h some is =
    let g = some-with (λ (g : GateWord). k < g.entries) (gate_in v.trail m) some in
    absurd (none-have v.trail (base_in v.trail m) g.0.entries k (entries-open v m g.0 law h g.1.0) (sym is) g.1.1)

-- where an open map's k-th entry stands
pub entry-is : (v : View) (m k e : ℕ) → GatesAreOpen → IsHeap v → IsSomeAnd (gate_in v.trail m) (λ g. k < g.entries) → base_in v.trail m ≡ Some e → IsEntryAt v.trail m k (e + k)
entry-is v m k e law h some is =
    let g = some-with (λ (g : GateWord). k < g.entries) (gate_in v.trail m) some in
    let have = entries-open v m g.0 law h g.1.0 in
    let field : IsSomeAnd (reference_in v.trail (e + k)) (λ f. IsField v.trail f) = subst (λ (x : Option ℕ). IsSomeAnd (field_from v.trail x k) (λ (f : ℕ). IsField v.trail f)) is (have.fields k g.1.1) in
    record {
      key = ap (λ (x : Option ℕ). key_from v.trail x k) is;
      field = ap (λ (x : Option ℕ). field_from v.trail x k) is;
      written = key-there v.trail (base_in v.trail m) g.0.entries e k have is g.1.1;
      named = some-of (λ (f : ℕ). IsField v.trail f) (reference_in v.trail (e + k)) field;
      made = λ f e'. subst (λ (o : Option ℕ). IsSomeAnd o (λ x. IsField v.trail x)) e' field;
    }
