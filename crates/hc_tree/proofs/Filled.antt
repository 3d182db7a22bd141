-- New maps that are filled with the entries of a map, before they are opened.
use Rattle.std.proofs.Common.{◌≡◌, ℕ, ◌+◌, ◌<◌, ◌≤◌, Bool, true, false, cond, Option, Some, None, ◌∷◌, refl, sym, ap, ◌∙◌, subst, arith, eqb, IsSome, is_some}
use Rattle.std.specs.Prelude.{IsSomeAnd}
use Rattle.std.proofs.lemmas.Bool.Decides.{nat_tests}
use Rattle.hc_layout.specs.Capacity.{cap_of}
use Rattle.hc_layout.specs.declared.shape.Region.TheVariants.{Entries}
use Rattle.hc_layout.specs.declared.shape.Shape.{Shape}
use Rattle.hc_layout.specs.declared.words.GateWord.{GateWord}
use Rattle.hc_value.specs.declared.key.Key.{Key}
use Rattle.hc_value.specs.declared.field.Detail.{Detail}
use Rattle.hc_heap.specs.Writes.{Trail, Write, Base, Array, EntryKey, Reference, Owner, FieldDetail}
use Rattle.hc_heap.specs.Readings.{gate_in, owner_in, detail_in}
use Rattle.hc_heap.specs.Lawful.{IsField, Lawful}
use Rattle.hc_heap.specs.Kept.{Adds, GatesAreOpen}
use Rattle.hc_heap.specs.Frames.{adds-on, adds-wider, same-after, goes-on-of}
use Rattle.hc_heap.specs.States.{View, IsHeap, HasRoom}
use Rattle.hc_descs.specs.Entries.{entries_in, field_at}
use Rattle.hc_descs.specs.Copies.{FillsArray, HasKeysOf, IsEntry}
use Rattle.hc_tree.specs.Kept.{MapsAreKept}
use Rattle.hc_tree.specs.Needs.{array_of}
use Rattle.hc_tree.specs.Growth.{EndsWith}
use Rattle.hc_tree.specs.Copying.{with_field, detail_of, MakesFields, FillsCopy, IsLikeField, HasNewFields, HasCopied, filled_used, copied_array}
use Rattle.hc_tree.proofs.Fresh.{self}
use Rattle.hc_tree.proofs.Made.{some-with, and-then, entry-made, gate-same}

-- a map with n entries has a count of n
pub count-is : (o : Option GateWord) (n : ℕ) → IsSomeAnd o (λ g. g.entries ≡ n) → entries_in o ≡ n
count-is (Some g) n h = h
count-is None n h = absurd h

pub some-entries : (o : Option GateWord) (n : ℕ) → IsSomeAnd o (λ g. g.entries ≡ n) → 0 < n → IsSomeAnd o (λ g. 0 < g.entries)
some-entries o n h lt = and-then (λ (g : GateWord). g.entries ≡ n) (λ (g : GateWord). 0 < g.entries) o h (λ g is. omega arith)

-- the writes of a new array, and those of new fields, fill a new map

pub array-wider : (c e f : ℕ) (t : Trail) (w : Write) → FillsArray c e t w → FillsCopy c e f t w
array-wider c e f t (EntryKey x key) h = h
array-wider c e f t (Reference x y) h = h
array-wider c e f t (Base m b) h = h
array-wider c e f t (Array m a) h = h
array-wider c e f t _ h = absurd h

fields-wider : (c e f : ℕ) (t : Trail) (w : Write) → MakesFields f t w → FillsCopy c e f t w
fields-wider c e f t (Owner x m) h = h
fields-wider c e f t (FieldDetail x d) h = h
fields-wider c e f t _ h = absurd h

pub array-fills : (c e f : ℕ) (a b : Trail) → Adds (FillsArray c e) a b → Adds (FillsCopy c e f) a b
array-fills c e f a b h = adds-wider (array-wider c e f) h

pub fields-fill : (c e f : ℕ) (a b : Trail) → Adds (MakesFields f) a b → Adds (FillsCopy c e f) a b
fields-fill c e f a b h = adds-wider (fields-wider c e f) h

-- new fields, and then a new array
pub both-fill : (c e f : ℕ) (a b d : Trail) → Adds (MakesFields f) a b → Adds (FillsArray c e) b d → Adds (FillsCopy c e f) a d
both-fill c e f a b d x y = adds-on (fields-fill c e f a b x) (array-fills c e f b d y)

-- the writes of a new array change no field

owner-step : (c e f : ℕ) (t : Trail) (w : Write) → FillsArray c e t w → owner_in (w ∷ t) f ≡ owner_in t f
owner-step c e f t (EntryKey x key) h = refl
owner-step c e f t (Reference x y) h = refl
owner-step c e f t (Base m b) h = refl
owner-step c e f t (Array m a) h = refl
owner-step c e f t _ h = absurd h

pub owner-same : (c e f : ℕ) (a b : Trail) → Adds (FillsArray c e) a b → owner_in b f ≡ owner_in a f
owner-same c e f a b h = same-after (λ (t : Trail). owner_in t f) (owner-step c e f) h

detail-step : (c e f : ℕ) (t : Trail) (w : Write) → FillsArray c e t w → detail_in (w ∷ t) f ≡ detail_in t f
detail-step c e f t (EntryKey x key) h = refl
detail-step c e f t (Reference x y) h = refl
detail-step c e f t (Base m b) h = refl
detail-step c e f t (Array m a) h = refl
detail-step c e f t _ h = absurd h

pub detail-same : (c e f : ℕ) (a b : Trail) → Adds (FillsArray c e) a b → detail_in b f ≡ detail_in a f
detail-same c e f a b h = same-after (λ (t : Trail). detail_in t f) (detail-step c e f) h

of-same : (c e : ℕ) (a b : Trail) (o : Option ℕ) → Adds (FillsArray c e) a b → detail_of b o ≡ detail_of a o
of-same c e a b (Some f) h = detail-same c e f a b h
of-same c e a b None h = refl

-- One entry more

-- the last entry has the field that was made for it
pub ends-with : (a b : Trail) (c e n f : ℕ) (key : Key) (d : Detail) → Adds (FillsArray c e) (with_field a f c d) b → IsEntry b c n key f → EndsWith b c n key d
ends-with a b c e n f key d h entry = record {
  last = entry.key;
  field = subst (λ (o : Option ℕ). IsSomeAnd o (λ x. (owner_in b x ≡ Some c) × (detail_in b x ≡ Some d))) (sym entry.field)
      (owner-same c e f (with_field a f c d) b h ∙ self f (Some c) (owner_in a f), detail-same c e f (with_field a f c d) b h ∙ self f (Some d) (detail_in a f));
}

-- New fields

-- a field that was made stays like that of the entry
like-kept : MapsAreKept → (s : Shape) (a b : Trail) (c e m k f : ℕ) (g : GateWord) → Lawful s a → Lawful s b → Adds (FillsArray c e) a b → gate_in a m ≡ Some g → k < g.entries → IsLikeField a c m k f → IsLikeField b c m k f
like-kept law s a b c e m k f g before after h is lt like =
    let stay = (law s a b before (goes-on-of s h after)).entry m k g is lt in
    record {
      owner = owner-same c e f a b h ∙ like.owner;
      detail = detail-same c e f a b h ∙ (like.detail ∙ (sym (of-same c e a b (field_at a m k) h) ∙ ap (λ (o : Option ℕ). detail_of b o) (sym stay.field)));
    }

pub has-new : MapsAreKept → (s : Shape) (a b : Trail) (c e m n first : ℕ) → Lawful s a → Lawful s b → Adds (FillsArray c e) a b → IsSomeAnd (gate_in a m) (λ g. g.entries ≡ n)
    → ((k : ℕ) → k < n → IsLikeField a c m k (first + k)) → HasKeysOf b c m n first → HasNewFields b c m n first
has-new law s a b c e m n first before after h some like keys =
    let w = some-with (λ (g : GateWord). g.entries ≡ n) (gate_in a m) some in
    let same : w.0.entries ≡ n = w.1.1 in
    record {
      entries = record { keys = keys.keys; fields = keys.fields };
      made = λ k lt. like-kept law s a b c e m k (first + k) w.0 before after h w.1.0 (omega arith) (like k lt);
    }

-- a field that is like that of an entry is made
pub like-made : (v : View) (c m k n f : ℕ) → GatesAreOpen → IsHeap v → IsSomeAnd (gate_in v.trail m) (λ g. g.entries ≡ n) → k < n → IsLikeField v.trail c m k f → IsField v.trail f
like-made v c m k n f law heap some lt like =
    let has = and-then (λ (g : GateWord). g.entries ≡ n) (λ (g : GateWord). k < g.entries) (gate_in v.trail m) some (λ g is. omega arith) in
    let w = some-with (λ (x : ℕ). IsField v.trail x) (field_at v.trail m k) (entry-made v m k law heap has) in
    record {
      owner = ap is_some like.owner;
      detail = subst IsSome (sym (like.detail ∙ ap (λ (o : Option ℕ). detail_of v.trail o) w.1.0)) w.1.1.detail;
    }

-- No entry

pub none-copied : (fresh : Bool) (t : Trail) (c m n first : ℕ) → n ≡ 0 → HasCopied fresh t c m n first
none-copied true t c m n first none = record {
  entries = record { keys = λ k lt. absurd (omega arith); fields = λ k lt. absurd (omega arith) };
  made = λ k lt. absurd (omega arith);
}
none-copied false t c m n first none = record { keys = λ k lt. absurd (omega arith); fields = λ k lt. absurd (omega arith) }

-- the array of some entries
array-some : (n : ℕ) → 0 < n → array_of n ≡ cap_of n
array-some n lt = let no : eqb n 0 ≡ false = grind (arith, nat_tests, lt) in ap (λ (b : Bool). cond b 0 (cap_of n)) no

-- the counts after new fields and a new array
pub used-new : (fresh : Bool) (a b d : Shape) (n k : ℕ) → fresh ≡ true → 0 < n → k ≡ n → b ≡ record a { fields = a.fields + n } → d ≡ record b { entries = b.entries + cap_of k } → d ≡ filled_used fresh None n a
used-new fresh a b d n k is lt same x y =
    y ∙ (ap (λ (s : Shape). record s { entries = s.entries + cap_of k }) x
    ∙ (ap (λ (j : ℕ). record a { entries = a.entries + cap_of j; fields = a.fields + n }) same
    ∙ (ap (λ (j : ℕ). record a { entries = a.entries + j; fields = a.fields + n }) (sym (array-some n lt))
    ∙ ap (λ (b : Bool). record a { entries = a.entries + array_of n; fields = a.fields + cond b n 0 }) (sym is))))

-- room for the array stays while fields are made
pub room-kept : (a b : View) (n k : ℕ) → 0 < n → k ≡ n → b.shape ≡ a.shape → b.used ≡ record a.used { fields = a.used.fields + n } → HasRoom a Entries (copied_array None n) → HasRoom b Entries (cap_of k)
room-kept a b n k lt same shape used room =
    let size = array-some n lt in
    let there : a.used.entries + cap_of n ≤ a.shape.entries = subst (λ (j : ℕ). a.used.entries + j ≤ a.shape.entries) size room in
    let counts : b.used.entries ≡ a.used.entries = ap (λ (s : Shape). s.entries) used in
    let shapes : b.shape.entries ≡ a.shape.entries = ap (λ (s : Shape). s.entries) shape in
    subst (λ (j : ℕ). b.used.entries + cap_of j ≤ b.shape.entries) (sym same) (omega (arith, there, counts, shapes))

-- an open map stays open while fields are made
pub still-open : (first m n : ℕ) (a b : Trail) → Adds (MakesFields first) a b → IsSomeAnd (gate_in a m) (λ g. g.entries ≡ n) → IsSomeAnd (gate_in b m) (λ g. g.entries ≡ n)
still-open first m n a b h some = subst (λ (o : Option GateWord). IsSomeAnd o (λ g. g.entries ≡ n)) (sym (gate-same first m a b h)) some
