-- Fields that are made for the entries of a map.
use Rattle.std.proofs.Common.{◌≡◌, ℕ, ◌+◌, ◌<◌, ◌≤◌, Bool, true, false, cond, Option, Some, None, ◌∷◌, refl, sym, ap, ◌∙◌, subst, arith, eqb, eqb-true, add-zero, add_assoc, IsSome}
use Rattle.std.specs.Prelude.{IsSomeAnd}
use Rattle.std.proofs.lemmas.Bool.Decides.{nat_tests}
use Rattle.hc_layout.specs.declared.words.GateWord.{GateWord}
use Rattle.hc_value.specs.declared.field.Detail.{Detail}
use Rattle.hc_heap.specs.declared.kind.Kind.TheVariants.{ReferenceOfEntry, OwnerOfField}
use Rattle.hc_heap.specs.Writes.{Trail, Write, Owner, FieldDetail}
use Rattle.hc_heap.specs.Readings.{gate_in, array_in, reference_in, owner_in, detail_in}
use Rattle.hc_heap.specs.Lawful.{IsField, field_from}
use Rattle.hc_heap.specs.Kept.{Adds, GatesAreOpen, UnusedSaysNothing}
use Rattle.hc_heap.specs.Frames.{adds-none, adds-one, adds-on, same-after}
use Rattle.hc_heap.specs.States.{View, IsHeap}
use Rattle.hc_descs.specs.Entries.{field_at}
use Rattle.hc_tree.specs.Copying.{with_field, detail_of, detail_at, MakesFields, IsLikeField}

-- what there is, with what holds of it
pub some-with : {T : Type 0} (P : T → Type 0) (o : Option T) → IsSomeAnd o P → (v : T) × ((o ≡ Some v) × P v)
some-with P (Some v) h = (v, (refl, h))
some-with P None h = absurd h

pub and-then : {T : Type 0} (P Q : T → Type 0) (o : Option T) → IsSomeAnd o P → ((v : T) → P v → Q v) → IsSomeAnd o Q
and-then P Q (Some v) h f = f v h
and-then P Q None h f = absurd h

-- the field of each entry of an open map is made
pub entry-made : (v : View) (m k : ℕ) → GatesAreOpen → IsHeap v → IsSomeAnd (gate_in v.trail m) (λ g. k < g.entries) → IsSomeAnd (field_at v.trail m k) (λ f. IsField v.trail f)
entry-made v m k law h some =
    let w = some-with (λ (g : GateWord). k < g.entries) (gate_in v.trail m) some in
    (law v.shape v.trail m w.0 h.lawful w.1.0).entries.fields k w.1.1

pub base-there : (t : Trail) (b : Option ℕ) (k : ℕ) → IsSomeAnd (field_from t b k) (λ f. IsField t f) → IsSome b
base-there t (Some e) k h = refl
base-there t None k h = absurd h

pub made-at : (t : Trail) (b : Option ℕ) (e k : ℕ) → b ≡ Some e → IsSomeAnd (field_from t b k) (λ f. IsField t f) → IsSomeAnd (reference_in t (e + k)) (λ f. IsField t f)
made-at t b e k is h = subst (λ (x : Option ℕ). IsSomeAnd (field_from t x k) (λ f. IsField t f)) is h

pub field-made : (t : Trail) (o : Option ℕ) (f : ℕ) → o ≡ Some f → IsSomeAnd o (λ x. IsField t x) → IsField t f
field-made t o f is h = subst (λ (x : Option ℕ). IsSomeAnd x (λ y. IsField t y)) is h

-- an entry whose field is written was handed out
pub entry-used : (v : View) (e : ℕ) → UnusedSaysNothing → IsHeap v → IsSomeAnd (reference_in v.trail e) (λ f. IsField v.trail f) → e < v.used.entries
entry-used v e law h some =
    let w = some-with (λ (f : ℕ). IsField v.trail f) (reference_in v.trail e) some in
    let is = w.1.0 in
    let no : v.used.entries ≤ e → ⊥ = λ le. (let none : reference_in v.trail e ≡ None = law v.used v.trail ReferenceOfEntry e h.used le in cc) in
    omega (arith, no)

-- a field that is made was handed out
pub field-used : (v : View) (f : ℕ) → UnusedSaysNothing → IsHeap v → IsField v.trail f → f < v.used.fields
field-used v f law h made =
    let owner = made.owner in
    let no : v.used.fields ≤ f → ⊥ = λ le. (let none : owner_in v.trail f ≡ None = law v.used v.trail OwnerOfField f h.used le in cc) in
    omega (arith, no)

-- the writes of new fields change no gate, no entry, and no field before them

gate-step : (first m : ℕ) (t : Trail) (w : Write) → MakesFields first t w → gate_in (w ∷ t) m ≡ gate_in t m
gate-step first m t (Owner f x) h = refl
gate-step first m t (FieldDetail f d) h = refl
gate-step first m t _ h = absurd h

pub gate-same : (first m : ℕ) (old new : Trail) → Adds (MakesFields first) old new → gate_in new m ≡ gate_in old m
gate-same first m old new h = same-after (λ (t : Trail). gate_in t m) (gate-step first m) h

array-step : (first m : ℕ) (t : Trail) (w : Write) → MakesFields first t w → array_in (w ∷ t) m ≡ array_in t m
array-step first m t (Owner f x) h = refl
array-step first m t (FieldDetail f d) h = refl
array-step first m t _ h = absurd h

pub array-same : (first m : ℕ) (old new : Trail) → Adds (MakesFields first) old new → array_in new m ≡ array_in old m
array-same first m old new h = same-after (λ (t : Trail). array_in t m) (array-step first m) h

field-step : (first m k : ℕ) (t : Trail) (w : Write) → MakesFields first t w → field_at (w ∷ t) m k ≡ field_at t m k
field-step first m k t (Owner f x) h = refl
field-step first m k t (FieldDetail f d) h = refl
field-step first m k t _ h = absurd h

pub field-same : (first m k : ℕ) (old new : Trail) → Adds (MakesFields first) old new → field_at new m k ≡ field_at old m k
field-same first m k old new h = same-after (λ (t : Trail). field_at t m k) (field-step first m k) h

other : {T : Type 0} (i x : ℕ) (a b : T) → x < i → cond (eqb i x) a b ≡ b
other i x a b lt = let apart : eqb i x ≡ false = grind (arith, nat_tests, lt) in ap (λ (v : Bool). cond v a b) apart

detail-step : (first x : ℕ) → x < first → (t : Trail) (w : Write) → MakesFields first t w → detail_in (w ∷ t) x ≡ detail_in t x
detail-step first x lt t (Owner f m) h = refl
detail-step first x lt t (FieldDetail f d) h = other f x (Some d) (detail_in t x) (omega arith)
detail-step first x lt t _ h = absurd h

of-same : (first : ℕ) (old new : Trail) (o : Option ℕ) → Adds (MakesFields first) old new → IsSomeAnd o (λ f. f < first) → detail_of new o ≡ detail_of old o
of-same first old new (Some f) h lt = same-after (λ (t : Trail). detail_in t f) (detail-step first f lt) h
of-same first old new None h lt = absurd lt

pub detail-same : (first m k : ℕ) (old new : Trail) → Adds (MakesFields first) old new → IsSomeAnd (field_at old m k) (λ f. f < first) → detail_at new m k ≡ detail_at old m k
detail-same first m k old new h some = ap (λ (o : Option ℕ). detail_of new o) (field-same first m k old new h) ∙ of-same first old new (field_at old m k) h some

-- the field of each entry of an open map was handed out
pub entry-before : (v : View) (m k : ℕ) → GatesAreOpen → UnusedSaysNothing → IsHeap v → IsSomeAnd (gate_in v.trail m) (λ g. k < g.entries) → IsSomeAnd (field_at v.trail m k) (λ f. f < v.used.fields)
entry-before v m k gates unused h some =
    and-then (λ (f : ℕ). IsField v.trail f) (λ (f : ℕ). f < v.used.fields) (field_at v.trail m k) (entry-made v m k gates h some) (λ f made. field-used v f unused h made)

-- the field of a map's k-th entry was made again
pub record IsMade (old now : Trail) (owner m k f : ℕ) : Type 0 where
  pub owned : owner_in now f ≡ Some owner
  pub detail : detail_in now f ≡ detail_at old m k

-- the fields of a map's first n entries were made again, one after another
pub record AreMade (old now : Trail) (owner m first n : ℕ) : Type 0 where
  pub writes : Adds (MakesFields first) old now
  pub made : (k : ℕ) → k < n → IsMade old now owner m k (first + k)

pub made-none : (t : Trail) (owner m first : ℕ) → AreMade t t owner m first 0
made-none t owner m first = record { writes = adds-none t; made = λ k lt. absurd (omega arith) }

-- a field and its writes
pub adds-field : (t : Trail) (first f owner : ℕ) (d : Detail) → first ≤ f → Adds (MakesFields first) t (with_field t f owner d)
adds-field t first f owner d le = adds-on (adds-one t (Owner f owner) le) (adds-one (Owner f owner ∷ t) (FieldDetail f d) le)

made-case : (old now : Trail) (owner m first n : ℕ) (d : Detail) (k : ℕ) (b : Bool) → eqb (first + n) (first + k) ≡ b → k < n + 1 → AreMade old now owner m first n → detail_at old m n ≡ Some d → IsMade old (with_field now (first + n) owner d) owner m k (first + k)
made-case old now owner m first n d k true e lt h is =
    let same : n ≡ k = let x : first + n ≡ first + k = eqb-true (first + n) (first + k) e in omega arith in
    record {
      owned = ap (λ (v : Bool). cond v (Some owner) (owner_in now (first + k))) e;
      detail = ap (λ (v : Bool). cond v (Some d) (detail_in now (first + k))) e ∙ (sym is ∙ ap (λ (x : ℕ). detail_at old m x) same);
    }
made-case old now owner m first n d k false e lt h is =
    let less : k < n = let apart : eqb (first + n) (first + k) ≡ false = e in grind (arith, nat_tests, apart, lt) in
    let was = h.made k less in
    record {
      owned = ap (λ (v : Bool). cond v (Some owner) (owner_in now (first + k))) e ∙ was.owned;
      detail = ap (λ (v : Bool). cond v (Some d) (detail_in now (first + k))) e ∙ was.detail;
    }

pub made-more : (old now : Trail) (owner m first n : ℕ) (d : Detail) → AreMade old now owner m first n → detail_at old m n ≡ Some d → AreMade old (with_field now (first + n) owner d) owner m first (n + 1)
made-more old now owner m first n d h is = record {
  writes = adds-on h.writes (adds-field now first (first + n) owner d (omega arith));
  made = λ k lt. made-case old now owner m first n d k (eqb (first + n) (first + k)) refl lt h is;
}

-- fields that were made again are like those of the entries
pub made-like : (v : View) (new : Trail) (owner m n : ℕ) → GatesAreOpen → UnusedSaysNothing → IsHeap v → IsSomeAnd (gate_in v.trail m) (λ g. g.entries ≡ n) → AreMade v.trail new owner m v.used.fields n → (k : ℕ) → k < n → IsLikeField new owner m k (v.used.fields + k)
made-like v new owner m n gates unused heap some h k lt =
    let was = h.made k lt in
    let has = and-then (λ (g : GateWord). g.entries ≡ n) (λ (g : GateWord). k < g.entries) (gate_in v.trail m) some (λ g is. omega arith) in
    record {
      owner = was.owned;
      detail = was.detail ∙ sym (detail-same v.used.fields m k v.trail new h.writes (entry-before v m k gates unused heap has));
    }

-- an open map still has its k-th entry
pub still-has : (first m k n : ℕ) (old now : Trail) → Adds (MakesFields first) old now → IsSomeAnd (gate_in old m) (λ g. g.entries ≡ n) → k < n → IsSomeAnd (gate_in now m) (λ g. k < g.entries)
still-has first m k n old now h some lt =
    subst (λ (o : Option GateWord). IsSomeAnd o (λ g. k < g.entries)) (sym (gate-same first m old now h))
    (and-then (λ (g : GateWord). g.entries ≡ n) (λ (g : GateWord). k < g.entries) (gate_in old m) some (λ g is. omega arith))

-- the counts, before the first field and after one more

pub fields-zero : (v : View) → v ≡ record v { used = record v.used { fields = v.used.fields + 0 } }
fields-zero v = ap (λ (n : ℕ). record v { used = record v.used { fields = n } }) (sym (add-zero v.used.fields))

pub fields-more : (a b c : View) (t : Trail) (k : ℕ) → b ≡ record a { trail = b.trail; used = record a.used { fields = a.used.fields + k } } → c ≡ record b { trail = t; used = record b.used { fields = b.used.fields + 1 } } → c ≡ record a { trail = c.trail; used = record a.used { fields = a.used.fields + (k + 1) } }
fields-more a b c t k x y =
    let same : t ≡ c.trail = sym (ap (λ (v : View). v.trail) y) in
    y ∙ (ap (λ (v : View). record v { trail = t; used = record v.used { fields = v.used.fields + 1 } }) x
    ∙ (ap (λ (n : ℕ). record a { trail = t; used = record a.used { fields = n } }) (add_assoc a.used.fields k 1)
    ∙ ap (λ (u : Trail). record a { trail = u; used = record a.used { fields = a.used.fields + (k + 1) } }) same))
