use Rattle.std.proofs.Common.{◌≡◌, Bool, true, false, refl, sym, subst, arith}
use Rattle.std.specs.Prelude.{IsTrue, ◌&&◌}
use Rattle.std.proofs.lemmas.Bool.Decides.{nat_tests}
use Rattle.hc_value.specs.declared.field.Rep.{Rep}
use Rattle.hc_value.specs.declared.field.Rep.TheVariants.{Smi, Wide, HeapObject, Tagged}
use Rattle.hc_value.specs.declared.field.Constness.{Constness}
use Rattle.hc_value.specs.declared.field.Constness.TheVariants.{Const, Mutable}
use Rattle.hc_value.specs.declared.field.Class.{Class}
use Rattle.hc_value.specs.declared.field.Class.TheVariants.{Of, Any}
use Rattle.hc_value.specs.declared.field.Detail.{Detail}
use Rattle.hc_value.specs.Field.{is_within, join_of, joined_detail, is_detail_within, IsJoin, is_constness_within, joined_constness, is_class_within, joined_class, IsDetailJoin}

constness_left : (a b : Constness) → IsTrue (is_constness_within a (joined_constness a b))
constness_left Const Const = refl
constness_left Const Mutable = refl
constness_left Mutable b = refl

constness_right : (a b : Constness) → IsTrue (is_constness_within b (joined_constness a b))
constness_right Const Const = refl
constness_right Const Mutable = refl
constness_right Mutable Const = refl
constness_right Mutable Mutable = refl

constness_least : (a b c : Constness) → IsTrue (is_constness_within a c) → IsTrue (is_constness_within b c) → IsTrue (is_constness_within (joined_constness a b) c)
constness_least Const Const c h k = h
constness_least Const Mutable c h k = k
constness_least Mutable b c h k = h

class_left : (a b : Class) → IsTrue (is_class_within a (joined_class a b))
class_left (Of m) (Of n) = grind (arith, nat_tests)
class_left (Of m) Any = refl
class_left Any b = refl

class_right : (a b : Class) → IsTrue (is_class_within b (joined_class a b))
class_right (Of m) (Of n) = grind (arith, nat_tests)
class_right (Of m) Any = refl
class_right Any (Of n) = refl
class_right Any Any = refl

class_least : (a b c : Class) → IsTrue (is_class_within a c) → IsTrue (is_class_within b c) → IsTrue (is_class_within (joined_class a b) c)
class_least (Of m) (Of n) (Of k) h e = grind (arith, nat_tests)
class_least (Of m) (Of n) Any h e = grind (arith, nat_tests)
class_least (Of m) Any c h e = e
class_least Any b c h e = h

all_true : (x y z : Bool) → IsTrue x → IsTrue y → IsTrue z → IsTrue (x && y && z)
all_true x y z h k l = simp (h, k, l)

each_true : (x y z : Bool) → IsTrue (x && y && z) → IsTrue x × IsTrue y × IsTrue z
each_true true true true h = (refl, refl, refl)
each_true true true false h = cc
each_true true false z h = cc
each_true false y z h = cc

pub detail_join : (a b j : Detail) → IsJoin a.rep b.rep j.rep → j.constness ≡ joined_constness a.constness b.constness → j.class ≡ joined_class a.class b.class → IsDetailJoin a b j
detail_join a b j rep constness class =
    let up = λ (e : Detail) (r : IsTrue (is_within e.rep j.rep)) (s : IsTrue (is_constness_within e.constness (joined_constness a.constness b.constness))) (t : IsTrue (is_class_within e.class (joined_class a.class b.class))).
    all_true (is_within e.rep j.rep) (is_constness_within e.constness j.constness) (is_class_within e.class j.class) r
    (subst (λ x. IsTrue (is_constness_within e.constness x)) (sym constness) s)
    (subst (λ x. IsTrue (is_class_within e.class x)) (sym class) t) in
    record {
      left = up a rep.left (constness_left a.constness b.constness) (class_left a.class b.class);
      right = up b rep.right (constness_right a.constness b.constness) (class_right a.class b.class);
      least = λ c h k.
          let p = each_true (is_within a.rep c.rep) (is_constness_within a.constness c.constness) (is_class_within a.class c.class) h in
          let q = each_true (is_within b.rep c.rep) (is_constness_within b.constness c.constness) (is_class_within b.class c.class) k in
          all_true (is_within j.rep c.rep) (is_constness_within j.constness c.constness) (is_class_within j.class c.class)
          (rep.least c.rep p.0 q.0)
          (subst (λ x. IsTrue (is_constness_within x c.constness)) (sym constness) (constness_least a.constness b.constness c.constness p.1 q.1))
          (subst (λ x. IsTrue (is_class_within x c.class)) (sym class) (class_least a.class b.class c.class p.2 q.2));
    }

rep_order : (a b : Rep) → IsTrue (is_within a b) → join_of a b ≡ b
rep_order Smi Smi h = refl
rep_order Smi Wide h = refl
rep_order Smi HeapObject h = cc
rep_order Smi Tagged h = refl
rep_order Wide Smi h = cc
rep_order Wide Wide h = refl
rep_order Wide HeapObject h = cc
rep_order Wide Tagged h = refl
rep_order HeapObject Smi h = cc
rep_order HeapObject Wide h = cc
rep_order HeapObject HeapObject h = refl
rep_order HeapObject Tagged h = refl
rep_order Tagged Smi h = cc
rep_order Tagged Wide h = cc
rep_order Tagged HeapObject h = cc
rep_order Tagged Tagged h = refl

constness_order : (a b : Constness) → IsTrue (is_constness_within a b) → joined_constness a b ≡ b
constness_order Const Const h = refl
constness_order Const Mutable h = refl
constness_order Mutable Const h = cc
constness_order Mutable Mutable h = refl

class_order : (a b : Class) → IsTrue (is_class_within a b) → joined_class a b ≡ b
class_order (Of m) (Of n) h = grind (arith, nat_tests)
class_order (Of m) Any h = refl
class_order Any (Of n) h = cc
class_order Any Any h = refl

pub same_detail : (a b : Rep) (c d : Constness) (e f : Class) → a ≡ b → c ≡ d → e ≡ f → (let x : Detail = record { rep = a; constness = c; class = e } in let y : Detail = record { rep = b; constness = d; class = f } in x ≡ y)
same_detail a b c d e f h k l = cc

-- one detail is within another exactly where their join is the other
pub detail_order : (a b : Detail) → IsTrue (is_detail_within a b) → joined_detail a b ≡ b
detail_order a b h =
    let p = each_true (is_within a.rep b.rep) (is_constness_within a.constness b.constness) (is_class_within a.class b.class) h in
    same_detail _ _ _ _ _ _ (rep_order a.rep b.rep p.0) (constness_order a.constness b.constness p.1) (class_order a.class b.class p.2)
