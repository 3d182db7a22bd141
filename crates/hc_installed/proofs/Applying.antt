-- What a borne plan says: the case that it names is the first that admits, and what is to be stored may be stored so.
use Rattle.std.proofs.Common.{◌≡◌, ℕ, ◌<◌, ◌≤◌, Bool, true, false, Option, Some, None, List, refl, sym, ap, ◌∙◌, subst, arith}
use Rattle.std.specs.Prelude.{◌↔◌, IsSome, MatchOption, nat_lt, option_map}
use Rattle.std.specs.List.{AllByRecursion}
use Rattle.hc_board.specs.Laws.{NowIsImage}
use Rattle.hc_board.specs.States.{WriterState, words_of}
use Rattle.hc_board.specs.Trail.{Access, image_of}
use Rattle.hc_layout.specs.Shape.{words_of as width_of}
use Rattle.hc_layout.specs.Words.{map_bits_of, store_of}
use Rattle.hc_layout.specs.declared.shape.Region.TheVariants.{Objects}
use Rattle.hc_layout.specs.declared.shape.Shape.{Shape}
use Rattle.hc_value.specs.Field.{join_of, joined_class, rep_of}
use Rattle.hc_value.specs.declared.field.Class.{Class}
use Rattle.hc_value.specs.declared.field.Detail.{Detail}
use Rattle.hc_value.specs.declared.field.Rep.{Rep}
use Rattle.hc_value.specs.declared.reply.Reply.{Reply}
use Rattle.hc_value.specs.declared.reply.Reply.TheVariants.{Flag, Val}
use Rattle.hc_value.specs.declared.value.Value.{Value}
use Rattle.hc_value.specs.declared.value.Value.TheVariants.{Undefined, Null, Bool as BoolValue, Int, Text, Obj}
use Rattle.hc_heap.specs.Kept.{FormsAreKept, StoresAreWrites, UnusedSaysNothing, WordsSay}
use Rattle.hc_heap.specs.Readings.{bits_in, detail_in, map_in, store_in}
use Rattle.hc_heap.specs.States.{IsDesk, IsHeap, View}
use Rattle.hc_heap.specs.declared.kind.Kind.TheVariants.{BitsOfMap, MapOfObject, StoreOfObject}
use Rattle.hc_table.specs.Changes.{Did}
use Rattle.hc_table.specs.World.{World}
use Rattle.hc_facts.specs.Honest.{class_of, class_by as class_in}
use Rattle.hc_modes.specs.Admitting.{AdmitsAsIs}
use Rattle.hc_modes.specs.Came.{IsStill, world_of}
use Rattle.hc_modes.specs.Filling.{free_slots}
use Rattle.hc_modes.specs.Laws.{still-on}
use Rattle.hc_modes.specs.State.{ObjectsState}
use Rattle.hc_objects.specs.Came.{Came}
use Rattle.hc_objects.specs.Planned.{MayCome, MayStore}
use Rattle.hc_ops.specs.Get.{get_reply}
use Rattle.hc_ops.specs.Set.{set_act}
use Rattle.hc_plan.specs.declared.case.Case.{Case}
use Rattle.hc_plan.specs.declared.case.Op.{Op}
use Rattle.hc_plan.specs.declared.case.Op.TheVariants.{Store}
use Rattle.hc_plan.specs.declared.case.Way.{Way}
use Rattle.hc_plan.specs.declared.case.Way.TheVariants.{Own, Holder, Constant, Absent, Getter, StoreOwn, Add, Setter, Reject}
use Rattle.hc_plan.specs.declared.plan.Plan.{Plan}
use Rattle.hc_deps.specs.Image.{bits_on, map_on, store_on}
use Rattle.hc_apply.specs.Admits.{AdmitsBy, AdmitsValue, AdmitsAdd, class_by, class_of_map, class_on}
use Rattle.hc_apply.specs.Answers.{CanAnswer, IsApplied, IsFirstAnswer, answer_on, reply_on}
use Rattle.hc_apply.specs.declared.applied.Applied.{Applied}
use Rattle.hc_apply.specs.declared.applied.Applied.TheVariants.{Answer, StoreAt, AddBy, Miss}
use Rattle.hc_soundness.specs.Borne.{IsBorne}
use Rattle.hc_soundness.specs.Moments.{IsToldNow, Now}
use Rattle.hc_soundness.specs.Told.{IsAdded, IsStored as IsStoredField, ToldWay}
use Rattle.hc_installed.specs.Answers.{IsCaseOf, IsFirstToAdmit, IsGiven, MayApply, case_number}
use Rattle.hc_installed.proofs.Answering.{map-past, map-said, map-there, object-there, says, there-then, word}
use Rattle.hc_installed.proofs.Lists.{all-item, none-some, some-and, some-at, some-same}

-- The case that it names

mapped-number : (number : ℕ) (reply : Option Reply) (applied : Applied) → option_map (Answer number) reply ≡ Some applied → case_number applied ≡ Some number
mapped-number number (Some reply) applied e = ap case_number (sym (some-same (Answer number reply) applied e))
mapped-number number None applied e = none-some applied _ e

answer-number : (s : Shape) (words : List ℕ) (o : ℕ) (value : Option Value) (number : ℕ) (way : Way) (applied : Applied) → answer_on s words o value number way ≡ Some applied → case_number applied ≡ Some number
answer-number s words o value number (StoreOwn k f rep class) applied e = ap case_number (sym (some-same (StoreAt number k) applied e))
answer-number s words o value number (Add child k f rep class) applied e = ap case_number (sym (some-same (AddBy number child) applied e))
answer-number s words o value number (Own k f rep) applied e = mapped-number number (reply_on s words o value (Own k f rep)) applied e
answer-number s words o value number (Holder q k f rep) applied e = mapped-number number (reply_on s words o value (Holder q k f rep)) applied e
answer-number s words o value number (Constant q k f rep w) applied e = mapped-number number (reply_on s words o value (Constant q k f rep w)) applied e
answer-number s words o value number Absent applied e = mapped-number number (Some (Val Undefined)) applied e
answer-number s words o value number (Getter at k) applied e = mapped-number number (reply_on s words o value (Getter at k)) applied e
answer-number s words o value number (Setter at k) applied e = mapped-number number (reply_on s words o value (Setter at k)) applied e
answer-number s words o value number Reject applied e = mapped-number number (Some (Flag false)) applied e

module _ {P : Type 0} (a : ObjectsState P) (o : ℕ) (value : Option Value) (cases : List Case) where
  first-named : (applied : Applied) (number : ℕ) → case_number applied ≡ Some number → IsFirstAnswer a.heap.view.shape (words_of a.heap.desk) (free_slots a.heap.view) o value cases applied → IsFirstToAdmit a o value cases number
  first-named applied number e h =
      let same : number ≡ h.number = some-same number h.number (sym e ∙ answer-number a.heap.view.shape (words_of a.heap.desk) o value h.number h.case.way applied h.answers) in
      subst (λ (n : ℕ). IsFirstToAdmit a o value cases n) (sym same) (record { case = h.case; here = h.here; before = h.before; admits = h.admits })

  pub case-named : (applied : Applied) → IsApplied a.heap.view.shape (words_of a.heap.desk) (free_slots a.heap.view) o value cases applied → IsCaseOf a o value cases applied
  case-named Miss h = h
  case-named (Answer number reply) h = first-named (Answer number reply) number refl h
  case-named (StoreAt number slot) h = first-named (StoreAt number slot) number refl h
  case-named (AddBy number child) h = first-named (AddBy number child) number refl h

-- What is to be stored

mapped-may : (v : View) (o name : ℕ) (value : Option Value) (number : ℕ) (reply : Option Reply) (applied : Applied) → option_map (Answer number) reply ≡ Some applied → MayApply v o name value applied
mapped-may v o name value number (Some reply) applied e = subst (λ (x : Applied). MayApply v o name value x) (some-same (Answer number reply) applied e) tt
mapped-may v o name value number None applied e = none-some applied _ e

module _ (say : WordsSay) (are : StoresAreWrites) (image_now : NowIsImage) (forms : FormsAreKept) (unused : UnusedSaysNothing) (v : View) (d : WriterState) (heap : IsHeap v) (desk : IsDesk v d) where
  bits-there : (m : ℕ) → m < v.shape.maps → bits_on v.shape (words_of d) m ≡ Some (bits_in v.trail m)
  bits-there m lt = there-then m v.shape.maps (map_bits_of (word say are image_now v d heap desk BitsOfMap m)) None lt ∙ says say are image_now v d heap desk BitsOfMap m lt

  store-there : (o : ℕ) → o < v.shape.objects → store_on v.shape (words_of d) o ≡ Some (store_in v.trail o)
  store-there o lt = there-then o v.shape.objects (store_of (word say are image_now v d heap desk StoreOfObject o)) None lt ∙ says say are image_now v d heap desk StoreOfObject o lt

  class-map : (map : Option ℕ) → ((m : ℕ) → map ≡ Some m → m < v.shape.maps) → class_of_map v.shape (words_of d) map ≡ class_in v.trail map
  class-map None there = refl
  class-map (Some m) there = ap (class_by m) (bits-there m (there m refl))

  class-object : (q : ℕ) → class_of_map v.shape (words_of d) (map_on v.shape (words_of d) q) ≡ class_in v.trail (map_in v.trail q)
  class-object q = by (nat_lt q v.shape.objects) refl
    where
      by : (b : Bool) → nat_lt q v.shape.objects ≡ b → class_of_map v.shape (words_of d) (map_on v.shape (words_of d) q) ≡ class_in v.trail (map_in v.trail q)
      by true e =
          ap (class_of_map v.shape (words_of d)) (map-there say are image_now v d heap desk q (grind (arith, e)))
          ∙ class-map (map_in v.trail q) (λ m is. ((forms v.shape v.trail heap.lawful).object_map q m is).there)
      by false e =
          let past : v.shape.objects ≤ q = grind (arith, e) in
          let most : v.used.objects ≤ v.shape.objects = heap.most Objects in
          let none : map_in v.trail q ≡ None = unused v.used v.trail MapOfObject q heap.used (omega (arith, past, most)) in
          ap (class_of_map v.shape (words_of d)) (map-past say are image_now v d heap desk q past) ∙ sym (ap (class_in v.trail) none)

  -- the class of a value is the one that the words say
  class-said : (x : Value) → class_on v.shape (words_of d) x ≡ class_of v.trail x
  class-said (Obj q) = class-object q
  class-said Undefined = refl
  class-said Null = refl
  class-said (BoolValue b) = refl
  class-said (Int z) = refl
  class-said (Text n) = refl

  as-is : (rep : Rep) (class : Class) (detail : Detail) (x : Value) → detail.rep ≡ rep → detail.class ≡ class → AdmitsValue v.shape (words_of d) rep class x → AdmitsAsIs v.trail detail x
  as-is rep class detail x same_rep same_class h = record {
    rep = subst (λ (r : Rep). join_of (rep_of x) r ≡ r) (sym same_rep) h.rep;
    class = subst (λ (c : Class). joined_class c (class_of v.trail x) ≡ c) (sym same_class) (subst (λ (c : Class). joined_class class c ≡ class) (class-said x) h.class);
  }

  module _ (name o : ℕ) (case : Case) (has : map_on v.shape (words_of d) o ≡ Some case.map) (told : IsToldNow v.trail Store name case) (x : Value) where
    its-map : map_in v.trail o ≡ Some case.map
    its-map = map-said say are image_now v d heap desk o case.map has

    may-store : (k f : ℕ) (rep : Rep) (class : Class) → ToldWay (Now v.trail) v.trail Store name case.map case.chain (StoreOwn k f rep class) → AdmitsValue v.shape (words_of d) rep class x → MayStore v.trail o k x
    may-store k f rep class way admits =
        let field = some-and (IsStoredField rep class) (detail_in v.trail f) way.admits in
        let same : way.map ≡ case.map = way.holder.1 in
        record {
          map = way.map;
          field = f;
          datum = record {
            has = its-map ∙ ap (λ (n : ℕ). Some n) (sym same);
            gate = way.finds.gate;
            is_open = way.finds.is_open;
            within = way.finds.within;
            key = way.key;
            is_key = way.finds.is_key;
            datum = way.such.datum;
            field = way.field;
          };
          live = subst (λ (n : ℕ). (bits_in v.trail n).deprecated ≡ false) (sym same) told.live;
          detail = field.0;
          is_detail = field.1;
          mutable = field.2.mutable;
          admits = as-is rep class field.0 x field.2.of_rep field.2.class admits;
        }

    may-come : (child k f : ℕ) (rep : Rep) (class : Class) → ToldWay (Now v.trail) v.trail Store name case.map case.chain (Add child k f rep class) → AdmitsAdd v.shape (words_of d) (free_slots v) o k rep class x
        → MayCome v o child name x
    may-come child k f rep class way admits =
        let field = some-and (IsAdded rep class) (detail_in v.trail f) way.grows.admits in
        record {
          map = case.map;
          has = its-map;
          live = told.live;
          grows = record {
            newest = way.grows.newest;
            live = way.grows.live;
            gate = way.grows.gate;
            is_open = way.grows.is_open;
            slot = k;
            last = way.grows.last;
            field = f;
            is_field = way.grows.field;
            detail = field.0;
            is_detail = field.1;
            admits = as-is rep class field.0 x field.2.of_rep field.2.class admits.field;
          };
          room = some-at _ (store_on v.shape (words_of d) o) (store_in v.trail o) (store-there o (object-there say are image_now v d heap desk o case.map has)) admits.place;
        }

    may-by : (number : ℕ) (way : Way) (applied : Applied) → ToldWay (Now v.trail) v.trail Store name case.map case.chain way → AdmitsBy v.shape (words_of d) (free_slots v) o (Some x) way
        → answer_on v.shape (words_of d) o (Some x) number way ≡ Some applied → MayApply v o name (Some x) applied
    may-by number (StoreOwn k f rep class) applied way admits e = subst (λ (y : Applied). MayApply v o name (Some x) y) (some-same (StoreAt number k) applied e) (may-store k f rep class way admits)
    may-by number (Add child k f rep class) applied way admits e = subst (λ (y : Applied). MayApply v o name (Some x) y) (some-same (AddBy number child) applied e) (may-come child k f rep class way admits)
    may-by number (Setter at k) applied way admits e = mapped-may v o name (Some x) number (reply_on v.shape (words_of d) o (Some x) (Setter at k)) applied e
    may-by number Reject applied way admits e = mapped-may v o name (Some x) number (Some (Flag false)) applied e
    may-by number (Own k f rep) applied way admits e = absurd way
    may-by number (Holder q k f rep) applied way admits e = absurd way
    may-by number (Constant q k f rep w) applied way admits e = absurd way
    may-by number Absent applied way admits e = absurd way
    may-by number (Getter at k) applied way admits e = absurd way

  module _ (plan : Plan) (borne : IsBorne v.shape v.trail plan) (o : ℕ) where
    first-may : (x : Value) (applied : Applied) → plan.op ≡ Store → IsFirstAnswer v.shape (words_of d) (free_slots v) o (Some x) plan.cases applied → MayApply v o plan.name (Some x) applied
    first-may x applied store h =
        let told : IsToldNow v.trail Store plan.name h.case =
        subst (λ (op : Op). IsToldNow v.trail op plan.name h.case) store (all-item (IsToldNow v.trail plan.op plan.name) plan.cases h.number h.case borne.told h.here) in
        may-by plan.name o h.case h.admits.map told x h.number h.case.way applied told.way h.admits.way h.answers

    pub may-apply : (value : Option Value) (applied : Applied) → IsSome value ↔ (plan.op ≡ Store) → IsApplied v.shape (words_of d) (free_slots v) o value plan.cases applied → MayApply v o plan.name value applied
    may-apply value Miss given h = tt
    may-apply value (Answer number reply) given h = tt
    may-apply None (StoreAt number slot) given h = tt
    may-apply None (AddBy number child) given h = tt
    may-apply (Some x) (StoreAt number slot) given h = first-may x (StoreAt number slot) (given.0 refl) h
    may-apply (Some x) (AddBy number child) given h = first-may x (AddBy number child) (given.0 refl) h

-- What is asked of the words of this moment

module _ (s : Shape) (v : View) (d : WriterState) (shape : s ≡ v.shape) (room o : ℕ) (value : Option Value) (cases : List Case) where
  pub readable-on : IsDesk v d → AllByRecursion (CanAnswer v.shape (image_of (width_of v.shape) d.trail) room o value) cases → (words : List ℕ) → Some (words_of d) ≡ Some words → AllByRecursion (CanAnswer s words room o value) cases
  readable-on desk h words e =
      let same : image_of (width_of v.shape) d.trail ≡ words = ap (λ (n : ℕ). image_of n d.trail) (sym desk.width) ∙ some-same (words_of d) words e in
      subst (λ (t : Shape). AllByRecursion (CanAnswer t words room o value) cases) (sym shape) (subst (λ (xs : List ℕ). AllByRecursion (CanAnswer v.shape xs room o value) cases) same h)

  pub applied-on : (applied : Applied) → room ≡ free_slots v → ((words : List ℕ) → Some (words_of d) ≡ Some words → IsApplied s words room o value cases applied) → IsApplied v.shape (words_of d) (free_slots v) o value cases applied
  applied-on applied same h =
      subst (λ (n : ℕ). IsApplied v.shape (words_of d) n o value cases applied) same (subst (λ (t : Shape). IsApplied t (words_of d) room o value cases applied) shape (h (words_of d) refl))

-- Loads before what is done

given-first : {P : Type 0} (went : P → List Access → List Access → P → Type 0) → ((a s b : ObjectsState P) (did : Did) → IsStill a s → Came went s did b → Came went a did b)
    → (a s b : ObjectsState P) (o name : ℕ) (value : Option Value) (reply : Reply) → IsStill a s → IsGiven went s o name value reply b → IsGiven went a o name value reply b
given-first {P} went first a s b o name None reply still h =
    let same : world_of s ≡ world_of a = ap (λ (x : ObjectsState P). world_of x) still.is in
    record { reply = h.reply ∙ ap (λ (w : World). get_reply w o name) same; still = still-on a s b still h.still }
given-first {P} went first a s b o name (Some x) reply still h =
    let same : world_of s ≡ world_of a = ap (λ (y : ObjectsState P). world_of y) still.is in
    record {
      reply = h.reply ∙ ap (λ (w : World). (set_act w o name x).reply) same;
      came = first a s b (set_act (world_of a) o name x).did still (subst (λ (w : World). Came went s (set_act w o name x).did b) same h.came);
    }

-- what a plan does, after the loads by which it was asked
pub done-first : {P : Type 0} (went : P → List Access → List Access → P → Type 0) → ((a s b : ObjectsState P) (did : Did) → IsStill a s → Came went s did b → Came went a did b)
    → (a s b : ObjectsState P) (o name : ℕ) (value : Option Value) (result : Option (ℕ × Reply)) → IsStill a s → MatchOption result (IsStill s b) (λ hit. IsGiven went s o name value hit.1 b)
    → MatchOption result (IsStill a b) (λ hit. IsGiven went a o name value hit.1 b)
done-first went first a s b o name value None still h = still-on a s b still h
done-first went first a s b o name value (Some hit) still h = given-first went first a s b o name value hit.1 still h
