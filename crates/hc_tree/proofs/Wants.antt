-- What the fields of new maps are to admit.
use Rattle.std.proofs.Common.{◌≡◌, ℕ, ◌<◌, Bool, true, false, cond, eqb, Some, refl, ap, ◌∙◌}
use Rattle.hc_layout.specs.declared.shape.Shape.{Shape}
use Rattle.hc_layout.specs.declared.words.GateWord.{GateWord}
use Rattle.hc_value.specs.Field.{IsClassInRange, join_of, joined_class, joined_constness, joined_detail}
use Rattle.hc_value.specs.declared.field.Rep.{Rep}
use Rattle.hc_value.specs.declared.field.Rep.TheVariants.{Smi, Wide, HeapObject, Tagged}
use Rattle.hc_value.specs.declared.field.Constness.{Constness}
use Rattle.hc_value.specs.declared.field.Constness.TheVariants.{Const, Mutable}
use Rattle.hc_value.specs.declared.prop.Kind.TheVariants.{AccessorProp}
use Rattle.hc_value.specs.declared.field.Class.{Class}
use Rattle.hc_value.specs.declared.field.Class.TheVariants.{Of, Any}
use Rattle.hc_value.specs.declared.field.Detail.{Detail}
use Rattle.hc_value.specs.declared.key.Key.{Key}
use Rattle.hc_heap.specs.Writes.{Trail}
use Rattle.hc_heap.specs.Readings.{gate_in}
use Rattle.hc_heap.specs.Lawful.{IsClassThere}
use Rattle.hc_heap.specs.States.{View}
use Rattle.hc_descs.specs.Entries.{key_at}
use Rattle.hc_tree.specs.Tree.{IsTree, tagged_field}
use Rattle.hc_tree.specs.Details.{detail_at}
use Rattle.hc_tree.specs.Walking.{IsDetail, MayAdmit}
use Rattle.hc_tree.proofs.Walked.{next-accessor}

-- what a map's field admits can be admitted by a new one for its entry
pub own-admits : (v : View) (m k : ℕ) (g : GateWord) (d : Detail) → IsTree v.trail → gate_in v.trail m ≡ Some g → k < g.entries → detail_at v.trail m k ≡ Some d → IsClassInRange d.class → IsClassThere v.shape v.trail d.class → MayAdmit v.shape v.trail m k d
own-admits v m k g d tree gate lt is form there = record {
  accessor = λ key here kind. next-accessor v m k g key d tree gate lt here is kind;
  is = record { form = form; there = there };
}

class-by : (P : Class → Type 0) (m : ℕ) (b : Bool) → P (Of m) → P Any → P (cond b (Of m) Any)
class-by P m true p any = p
class-by P m false p any = any

-- what holds of two classes, and of any, holds of their join
pub class-join : (P : Class → Type 0) (a b : Class) → P a → P Any → P (joined_class a b)
class-join P (Of m) (Of n) p any = class-by P m (eqb m n) p any
class-join P (Of m) Any p any = any
class-join P Any b p any = any

join-is : (s : Shape) (t : Trail) (d e : Detail) → IsDetail s t e → IsDetail s t d → IsDetail s t (joined_detail e d)
join-is s t d e other own = record {
  form = class-join IsClassInRange e.class d.class other.form tt;
  there = class-join (IsClassThere s t) e.class d.class other.there tt;
}

tagged-rep : (r : Rep) → join_of Tagged r ≡ Tagged
tagged-rep Smi = refl
tagged-rep Wide = refl
tagged-rep HeapObject = refl
tagged-rep Tagged = refl

mutable-joins : (c : Constness) → joined_constness Mutable c ≡ Mutable
mutable-joins Const = refl
mutable-joins Mutable = refl

any-joins : (c : Class) → joined_class Any c ≡ Any
any-joins (Of m) = refl
any-joins Any = refl

-- what admits everything admits no more
tagged-joins : (d : Detail) → joined_detail tagged_field d ≡ tagged_field
tagged-joins d =
    ap (λ (r : Rep). record { rep = r; constness = joined_constness Mutable d.constness; class = joined_class Any d.class }) (tagged-rep d.rep)
    ∙ ap (λ (c : Constness). record { rep = Tagged; constness = c; class = joined_class Any d.class }) (mutable-joins d.constness)
    ∙ ap (λ (c : Class). record { rep = Tagged; constness = Mutable; class = c }) (any-joins d.class)

-- so can the join with another detail
pub with-admits : (s : Shape) (t : Trail) (m k : ℕ) (d e : Detail) → MayAdmit s t m k d → IsDetail s t e → MayAdmit s t m k (joined_detail d e)
with-admits s t m k d e own other = record {
  accessor = λ key here kind. ap (λ (x : Detail). joined_detail x e) (own.accessor key here kind) ∙ tagged-joins e;
  is = join-is s t e d own.is other;
}

-- and the join with what another map's field admits
pub joined-admits : (s : Shape) (t : Trail) (m k : ℕ) (d e : Detail) → MayAdmit s t m k d → IsDetail s t e → ((key : Key) → key_at t m k ≡ Some key → key.kind ≡ AccessorProp → e ≡ tagged_field) → MayAdmit s t m k (joined_detail e d)
joined-admits s t m k d e own other accessor = record {
  accessor = λ key here kind. ap (λ (x : Detail). joined_detail x d) (accessor key here kind) ∙ tagged-joins d;
  is = join-is s t d e other own.is;
}
