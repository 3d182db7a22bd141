-- The field of a property that was added admits what it was asked to.
use Rattle.std.proofs.Common.{◌≡◌, ℕ, Bool, true, false, cond, Option, Some, None, refl, sym, ap, ◌∙◌}
use Rattle.std.specs.Prelude.{IsTrue, ◌&&◌}
use Rattle.hc_value.specs.Field.{is_class_within, is_constness_within, is_detail_within, is_within, join_of, joined_class, joined_constness, joined_detail}
use Rattle.hc_value.specs.declared.field.Class.{Class}
use Rattle.hc_value.specs.declared.field.Class.TheVariants.{Any, Of}
use Rattle.hc_value.specs.declared.field.Constness.{Constness}
use Rattle.hc_value.specs.declared.field.Constness.TheVariants.{Const, Mutable}
use Rattle.hc_value.specs.declared.field.Detail.{Detail}
use Rattle.hc_value.specs.declared.field.Rep.{Rep}
use Rattle.hc_value.specs.declared.field.Rep.TheVariants.{HeapObject, Smi, Tagged, Wide}
use Rattle.hc_heap.specs.Writes.{FieldDetail, Trail}
use Rattle.hc_descs.specs.Entries.{detail_at}
use Rattle.hc_tree.specs.Details.{child_detail, joined_with}
use Rattle.std.proofs.Common.{◌≢◌, eqb, eqb-true, eq-eqb, ◌∷◌, ⊎_elim}
use Rattle.hc_value.specs.declared.prop.Held.{Held}
use Rattle.hc_value.specs.declared.prop.Held.TheVariants.{Datum, Pair}
use Rattle.hc_heap.specs.Readings.{detail_in}
use Rattle.hc_facts.specs.Honest.{detail_for}
use Rattle.hc_fields.specs.Fields.{raised, raised_from}
use Rattle.hc_slots.specs.Cases.{cond-other, some-is}
use Rattle.hc_slots.specs.Meaning.{IsConstnessFor}
use Rattle.hc_modes.specs.Admitting.{held_detail}
use Rattle.hc_modes.proofs.Admitted.{raised-same}
use Rattle.hc_modes.proofs.Fitting.{parts}

rep-right : (a b : Rep) → IsTrue (is_within b (join_of a b))
rep-right Smi Smi = refl
rep-right Smi Wide = refl
rep-right Smi HeapObject = refl
rep-right Smi Tagged = refl
rep-right Wide Smi = refl
rep-right Wide Wide = refl
rep-right Wide HeapObject = refl
rep-right Wide Tagged = refl
rep-right HeapObject Smi = refl
rep-right HeapObject Wide = refl
rep-right HeapObject HeapObject = refl
rep-right HeapObject Tagged = refl
rep-right Tagged Smi = refl
rep-right Tagged Wide = refl
rep-right Tagged HeapObject = refl
rep-right Tagged Tagged = refl

rep-same : (a : Rep) → IsTrue (is_within a a)
rep-same Smi = refl
rep-same Wide = refl
rep-same HeapObject = refl
rep-same Tagged = refl

constness-right : (a b : Constness) → IsTrue (is_constness_within b (joined_constness a b))
constness-right Const Const = refl
constness-right Const Mutable = refl
constness-right Mutable Const = refl
constness-right Mutable Mutable = refl

constness-same : (a : Constness) → IsTrue (is_constness_within a a)
constness-same Const = refl
constness-same Mutable = refl

class-top : (a : Class) → IsTrue (is_class_within a Any)
class-top (Of m) = refl
class-top Any = refl

class-same : (a : Class) → IsTrue (is_class_within a a)
class-same (Of m) = eq-eqb m m refl
class-same Any = refl

class-right : (a b : Class) → IsTrue (is_class_within b (joined_class a b))
class-right (Of m) (Of n) = by (eqb m n) refl
  where
    by : (t : Bool) → eqb m n ≡ t → IsTrue (is_class_within (Of n) (cond t (Of m) Any))
    by true e = eq-eqb n m (sym (eqb-true m n e))
    by false e = refl
class-right (Of m) Any = refl
class-right Any (Of n) = refl
class-right Any Any = refl

all-true : (x y z : Bool) → IsTrue x → IsTrue y → IsTrue z → IsTrue (x && y && z)
all-true true true true a b c = refl
all-true true true false a b c = c
all-true true false z a b c = b
all-true false y z a b c = a

-- a join admits what is joined
pub detail-right : (a b : Detail) → IsTrue (is_detail_within b (joined_detail a b))
detail-right a b = all-true _ _ _ (rep-right a.rep b.rep) (constness-right a.constness b.constness) (class-right a.class b.class)

pub detail-same : (a : Detail) → IsTrue (is_detail_within a a)
detail-same a = all-true _ _ _ (rep-same a.rep) (constness-same a.constness) (class-same a.class)

pub with-right : (o : Option Detail) (d : Detail) → IsTrue (is_detail_within d (joined_with o d))
with-right (Some e) d = detail-right e d
with-right None d = detail-same d

pub child-asks : (t : Trail) (l : Option ℕ) (n : ℕ) (d : Detail) → IsTrue (is_detail_within d (child_detail t l n d))
child-asks t (Some c) n d = with-right (detail_at t c n) d
child-asks t None n d = detail-same d

-- Where as much is admitted already

rep-stays : (a b : Rep) → IsTrue (is_within b a) → join_of a b ≡ a
rep-stays Smi Smi h = refl
rep-stays Smi Wide h = let n : ⊥ = cc in absurd n
rep-stays Smi HeapObject h = let n : ⊥ = cc in absurd n
rep-stays Smi Tagged h = let n : ⊥ = cc in absurd n
rep-stays Wide Smi h = refl
rep-stays Wide Wide h = refl
rep-stays Wide HeapObject h = let n : ⊥ = cc in absurd n
rep-stays Wide Tagged h = let n : ⊥ = cc in absurd n
rep-stays HeapObject Smi h = let n : ⊥ = cc in absurd n
rep-stays HeapObject Wide h = let n : ⊥ = cc in absurd n
rep-stays HeapObject HeapObject h = refl
rep-stays HeapObject Tagged h = let n : ⊥ = cc in absurd n
rep-stays Tagged Smi h = refl
rep-stays Tagged Wide h = refl
rep-stays Tagged HeapObject h = refl
rep-stays Tagged Tagged h = refl

constness-stays : (a b : Constness) → IsTrue (is_constness_within b a) → joined_constness a b ≡ a
constness-stays Const Const h = refl
constness-stays Const Mutable h = let n : ⊥ = cc in absurd n
constness-stays Mutable Const h = refl
constness-stays Mutable Mutable h = refl

class-stays : (a b : Class) → IsTrue (is_class_within b a) → joined_class a b ≡ a
class-stays (Of m) (Of n) h = ap (λ (t : Bool). cond t (Of m) Any) (eq-eqb m n (sym (eqb-true n m h)))
class-stays (Of m) Any h = let n : ⊥ = cc in absurd n
class-stays Any (Of n) h = refl
class-stays Any Any h = refl

-- a join with what is admitted already changes nothing
pub detail-stays : (a b : Detail) → IsTrue (is_detail_within b a) → joined_detail a b ≡ a
detail-stays a b h =
    let all = parts (is_within b.rep a.rep) (is_constness_within b.constness a.constness) (is_class_within b.class a.class) h in
    ap (λ (r : Rep). let d : Detail = record { rep = r; constness = joined_constness a.constness b.constness; class = joined_class a.class b.class } in d) (rep-stays a.rep b.rep all.0)
    ∙ (ap (λ (c : Constness). let d : Detail = record { rep = a.rep; constness = c; class = joined_class a.class b.class } in d) (constness-stays a.constness b.constness all.1)
    ∙ ap (λ (c : Class). let d : Detail = record { rep = a.rep; constness = a.constness; class = c } in d) (class-stays a.class b.class all.2))

-- a field that was raised admits the join
pub raised-is : (t : Trail) (f : ℕ) (d e : Detail) → detail_in t f ≡ Some e → detail_in (raised t f d) f ≡ Some (joined_detail e d)
raised-is t f d e is = by (detail_in t f) refl
  where
    within : (y : Detail) → detail_in t f ≡ Some y → y ≡ e → (b : Bool) → is_detail_within d y ≡ b → detail_in (cond b t (FieldDetail f (joined_detail y d) ∷ t)) f ≡ Some (joined_detail e d)
    within y here same true holds = here ∙ ap (λ (z : Detail). Some z) (sym (detail-stays y d holds) ∙ ap (λ (z : Detail). joined_detail z d) same)
    within y here same false holds = ap (λ (b : Bool). cond b (Some (joined_detail y d)) (detail_in t f)) (eq-eqb f f refl) ∙ ap (λ (z : Detail). Some (joined_detail z d)) same

    by : (o : Option Detail) → detail_in t f ≡ o → detail_in (raised_from o t f d) f ≡ Some (joined_detail e d)
    by (Some y) here = within y here (some-is y e (sym here ∙ is)) (is_detail_within d y) refl
    by None here = let n : None ≡ Some e = sym here ∙ is in let f : ⊥ = cc in absurd f

-- nothing is written where as much is admitted already
pub raised-none : (t : Trail) (f : ℕ) (d e : Detail) → detail_in t f ≡ Some e → IsTrue (is_detail_within d e) → raised t f d ≡ t
raised-none t f d e is within = ap (λ (o : Option Detail). raised_from o t f d) is ∙ ap (λ (b : Bool). cond b t (FieldDetail f (joined_detail e d) ∷ t)) within

-- and the others what they did
pub raised-other : (t : Trail) (f : ℕ) (d : Detail) (x : ℕ) → x ≢ f → detail_in (raised t f d) x ≡ detail_in t x
raised-other t f d x other = raised-same (λ (u : Trail). detail_in u x) t f d (λ e. cond-other f x (Some e) (detail_in t x) (λ is. other (sym is)))

-- What is asked of a constant field

join-constness : (e : Constness) (was held : Held) (c d : Constness) → IsConstnessFor e was held c → IsConstnessFor e was held d → joined_constness e c ≡ joined_constness e d
join-constness Const was held Const Const a b = refl
join-constness Const was held Mutable Mutable a b = refl
join-constness Mutable was held Const Const a b = refl
join-constness Mutable was held Const Mutable a b = refl
join-constness Mutable was held Mutable Const a b = refl
join-constness Mutable was held Mutable Mutable a b = refl
join-constness Const was held Const Mutable a b = absurd (⊎_elim (λ (e : Const ≡ Mutable). let n : ⊥ = cc in n) (λ (other : was ≢ held). other a) b)
join-constness Const was held Mutable Const a b = absurd (⊎_elim (λ (e : Const ≡ Mutable). let n : ⊥ = cc in n) (λ (other : was ≢ held). other b) a)

-- the join is the same, however the constness was found
pub join-held : (t : Trail) (e : Detail) (was held : Held) (c d : Constness) → IsConstnessFor e.constness was held c → IsConstnessFor e.constness was held d → joined_detail e (held_detail t held c) ≡ joined_detail e (held_detail t held d)
join-held t e was (Datum v) c d a b =
    let asks : Detail = detail_for t v c in
    ap (λ (k : Constness). let x : Detail = record { rep = join_of e.rep asks.rep; constness = k; class = joined_class e.class asks.class } in x) (join-constness e.constness was (Datum v) c d a b)
join-held t e was (Pair getter setter) c d a b = refl
