-- A join admits what is joined.
use Rattle.std.proofs.Common.{◌≡◌, Bool, true, false, cond, eqb, eqb-true, eq-eqb, Option, Some, None, refl, sym, ap, ◌∙◌, subst}
use Rattle.std.specs.Prelude.{IsTrue, ◌&&◌}
use Rattle.hc_value.specs.Field.{is_class_within, is_constness_within, is_detail_within, is_within, join_of, joined_class, joined_constness, joined_detail}
use Rattle.hc_value.specs.declared.field.Class.{Class}
use Rattle.hc_value.specs.declared.field.Class.TheVariants.{Any, Of}
use Rattle.hc_value.specs.declared.field.Constness.{Constness}
use Rattle.hc_value.specs.declared.field.Constness.TheVariants.{Const, Mutable}
use Rattle.hc_value.specs.declared.field.Detail.{Detail}
use Rattle.hc_value.specs.declared.field.Rep.{Rep}
use Rattle.hc_value.specs.declared.field.Rep.TheVariants.{HeapObject, Smi, Tagged, Wide}
use Rattle.hc_tree.specs.Walking.{both_details}

rep-right : (a b : Rep) → IsTrue (is_within b (join_of a b))
rep-right Smi Smi = refl
rep-right Smi Wide = refl
rep-right Smi HeapObject = refl
rep-right Smi Tagged = refl
rep-right Wide Smi = refl
rep-right Wide Wide = refl
rep-right Wide HeapObject = refl
rep-right Wide Tagged = refl
rep-right HeapObject Smi = refl
rep-right HeapObject Wide = refl
rep-right HeapObject HeapObject = refl
rep-right HeapObject Tagged = refl
rep-right Tagged Smi = refl
rep-right Tagged Wide = refl
rep-right Tagged HeapObject = refl
rep-right Tagged Tagged = refl

rep-left : (a b : Rep) → IsTrue (is_within a (join_of a b))
rep-left Smi Smi = refl
rep-left Smi Wide = refl
rep-left Smi HeapObject = refl
rep-left Smi Tagged = refl
rep-left Wide Smi = refl
rep-left Wide Wide = refl
rep-left Wide HeapObject = refl
rep-left Wide Tagged = refl
rep-left HeapObject Smi = refl
rep-left HeapObject Wide = refl
rep-left HeapObject HeapObject = refl
rep-left HeapObject Tagged = refl
rep-left Tagged Smi = refl
rep-left Tagged Wide = refl
rep-left Tagged HeapObject = refl
rep-left Tagged Tagged = refl

rep-same : (a : Rep) → IsTrue (is_within a a)
rep-same Smi = refl
rep-same Wide = refl
rep-same HeapObject = refl
rep-same Tagged = refl

constness-right : (a b : Constness) → IsTrue (is_constness_within b (joined_constness a b))
constness-right Const Const = refl
constness-right Const Mutable = refl
constness-right Mutable Const = refl
constness-right Mutable Mutable = refl

constness-left : (a b : Constness) → IsTrue (is_constness_within a (joined_constness a b))
constness-left Const Const = refl
constness-left Const Mutable = refl
constness-left Mutable Const = refl
constness-left Mutable Mutable = refl

constness-same : (a : Constness) → IsTrue (is_constness_within a a)
constness-same Const = refl
constness-same Mutable = refl

class-same : (a : Class) → IsTrue (is_class_within a a)
class-same (Of m) = eq-eqb m m refl
class-same Any = refl

class-right : (a b : Class) → IsTrue (is_class_within b (joined_class a b))
class-right (Of m) (Of n) = by (eqb m n) refl
  where
    by : (t : Bool) → eqb m n ≡ t → IsTrue (is_class_within (Of n) (cond t (Of m) Any))
    by true e = eq-eqb n m (sym (eqb-true m n e))
    by false e = refl
class-right (Of m) Any = refl
class-right Any (Of n) = refl
class-right Any Any = refl

class-left : (a b : Class) → IsTrue (is_class_within a (joined_class a b))
class-left (Of m) (Of n) = by (eqb m n)
  where
    by : (t : Bool) → IsTrue (is_class_within (Of m) (cond t (Of m) Any))
    by true = eq-eqb m m refl
    by false = refl
class-left (Of m) Any = refl
class-left Any (Of n) = refl
class-left Any Any = refl

all-true : (x y z : Bool) → IsTrue x → IsTrue y → IsTrue z → IsTrue (x && y && z)
all-true true true true a b c = refl
all-true true true false a b c = c
all-true true false z a b c = b
all-true false y z a b c = a

detail-right : (a b : Detail) → IsTrue (is_detail_within b (joined_detail a b))
detail-right a b = all-true _ _ _ (rep-right a.rep b.rep) (constness-right a.constness b.constness) (class-right a.class b.class)

detail-left : (a b : Detail) → IsTrue (is_detail_within a (joined_detail a b))
detail-left a b = all-true _ _ _ (rep-left a.rep b.rep) (constness-left a.constness b.constness) (class-left a.class b.class)

detail-same : (a : Detail) → IsTrue (is_detail_within a a)
detail-same a = all-true _ _ _ (rep-same a.rep) (constness-same a.constness) (class-same a.class)

same-some : {T : Type 0} (a b : T) (o : Option T) → o ≡ Some a → o ≡ Some b → a ≡ b
same-some a b o p q = cc

-- what stays admits what it did
pub same-admits : (o p : Option Detail) (was now : Detail) → p ≡ o → o ≡ Some was → p ≡ Some now → IsTrue (is_detail_within was now)
same-admits o p was now same is at = subst (λ (d : Detail). IsTrue (is_detail_within was d)) (same-some was now p (same ∙ is) at) (detail-same was)

-- so does what is joined with a detail, at one place
pub with-admits : (b : Bool) (o p : Option Detail) (d was now : Detail) → p ≡ cond b (both_details o (Some d)) o → o ≡ Some was → p ≡ Some now → IsTrue (is_detail_within was now)
with-admits true o p d was now same is at =
    let joined : p ≡ Some (joined_detail was d) = same ∙ ap (λ (x : Option Detail). both_details x (Some d)) is in
    subst (λ (x : Detail). IsTrue (is_detail_within was x)) (same-some (joined_detail was d) now p joined at) (detail-left was d)
with-admits false o p d was now same is at = same-admits o p was now same is at

-- and what is joined with what another field admits
pub joined-admits : (b : Bool) (e o p : Option Detail) (was now : Detail) → p ≡ cond b (both_details e o) o → o ≡ Some was → p ≡ Some now → IsTrue (is_detail_within was now)
joined-admits true (Some l) o p was now same is at =
    let joined : p ≡ Some (joined_detail l was) = same ∙ ap (λ (x : Option Detail). both_details (Some l) x) is in
    subst (λ (x : Detail). IsTrue (is_detail_within was x)) (same-some (joined_detail l was) now p joined at) (detail-right l was)
joined-admits true None o p was now same is at = let n : None ≡ Some now = sym same ∙ at in let f : ⊥ = cc in absurd f
joined-admits false e o p was now same is at = same-admits o p was now same is at
