-- What a borne plan answers on the words of the board is the answer of full lookup.
use Rattle.std.proofs.Common.{◌≡◌, ℕ, zero, suc, ◌+◌, ◌-◌, ◌<◌, Bool, true, false, Option, Some, None, IsSome, List, [], ◌∷◌, length, drop, refl, sym, ap, ◌∙◌, subst, arith}
use Rattle.std.specs.List.{AllByRecursion}
use Rattle.std.specs.Prelude.{ℤ, IsSomeAnd, ◌↔◌, if◌then◌else◌, nat_lt, option_map, option_and_then, slice_get, slice_index}
use Rattle.hc_board.specs.Laws.{NowIsImage}
use Rattle.hc_board.specs.States.{WriterState}
use Rattle.hc_board.specs.Trail.{image_of}
use Rattle.hc_layout.specs.Place.{index_of}
use Rattle.hc_layout.specs.Shape.{words_of}
use Rattle.hc_value.specs.Word.{unwide_of, untagged_of, unpair_of, integer_of}
use Rattle.hc_value.specs.declared.field.Rep.{Rep}
use Rattle.hc_value.specs.declared.field.Rep.TheVariants.{Smi, Wide, HeapObject, Tagged}
use Rattle.hc_value.specs.declared.prop.Kind.TheVariants.{DataProp, AccessorProp}
use Rattle.hc_value.specs.declared.reply.Reply.{Reply}
use Rattle.hc_value.specs.declared.reply.Reply.TheVariants.{Val, Flag}
use Rattle.hc_value.specs.declared.value.Value.{Value}
use Rattle.hc_heap.specs.Decode.{typed, optional_number}
use Rattle.hc_heap.specs.Kept.{at as position_at, FormsAreKept, GatesAreOpen, StoresAreWrites, UnusedSaysNothing, WordsSay}
use Rattle.hc_heap.specs.Kinds.{place_at}
use Rattle.hc_heap.specs.Lawful.{Lawful, IsFormOf, slot_word}
use Rattle.hc_heap.specs.Readings.{map_in, store_in}
use Rattle.hc_heap.specs.States.{View, IsDesk}
use Rattle.hc_heap.specs.Writes.{Trail}
use Rattle.hc_heap.specs.declared.kind.Kind.TheVariants.{MapOfObject}
use Rattle.hc_ops.specs.Get.{get_reply}
use Rattle.hc_ops.specs.Set.{set_act}
use Rattle.hc_table.specs.Changes.{Nothing}
use Rattle.hc_plan.specs.Chains.{Hop}
use Rattle.hc_plan.specs.declared.case.Case.{Case}
use Rattle.hc_plan.specs.declared.case.Op.{Op}
use Rattle.hc_plan.specs.declared.case.Op.TheVariants.{Load, Store}
use Rattle.hc_plan.specs.declared.case.Way.{Way}
use Rattle.hc_plan.specs.declared.case.Way.TheVariants.{Own, Holder, Constant, Absent, Getter, StoreOwn, Add, Setter, Reject}
use Rattle.hc_plan.specs.declared.deps.Dep.TheVariants.{Value as HasValue}
use Rattle.hc_plan.specs.declared.plan.Plan.{Plan}
use Rattle.hc_deps.specs.Image.{map_on, slot_word_on}
use Rattle.hc_deps.specs.Trails.{HoldsWordIn, HoldsAsTheTrailSays}
use Rattle.hc_apply.specs.Admits.{IsPlaceOf}
use Rattle.hc_apply.specs.Answers.{value_by, accessed, got_by, set_by, value_on, pair_on, reply_on, answer_on, IsReadable as IsReadableOn, CanAnswer, IsFirstAnswer, IsApplied}
use Rattle.hc_apply.specs.declared.applied.Applied.{Applied}
use Rattle.hc_apply.specs.declared.applied.Applied.TheVariants.{Answer, StoreAt, AddBy, Miss}
use Rattle.hc_facts.specs.Honest.{value_in, value_or}
use Rattle.hc_soundness.specs.Answers.{holder_of, call_getter, call_setter, getter_in, setter_in, load_answer, store_answer}
use Rattle.hc_soundness.specs.Applied.{IsAnswerOf, CanApply}
use Rattle.hc_soundness.specs.Meaning.{Dictionary, world}
use Rattle.hc_soundness.specs.Moments.{Now, IsToldNow}
use Rattle.hc_soundness.specs.Readable.{HasSlot, IsReadable}
use Rattle.hc_soundness.specs.Rest.{IsRest}
use Rattle.hc_soundness.specs.Told.{IsHolder, ToldWay}
use Rattle.hc_soundness.proofs.Lists.{all-to}
use Rattle.hc_soundness.proofs.Options.{is-some, some-of, some-same}
use Rattle.hc_soundness.proofs.Reading.{holder-has, readable}
use Rattle.hc_soundness.proofs.Rightness.{told-right}

-- Words

integer-said : (z : Option ℤ) → IsSome z → integer_of z ≡ Some (value_or (integer_of z))
integer-said (Some z) h = refl
integer-said None h = let no : ⊥ = cc in absurd no

value-there : (v : Option Value) → IsSome v → v ≡ Some (value_or v)
value-there (Some v) h = refl
value-there None h = let no : ⊥ = cc in absurd no

-- a word of a data property's form says a value
value-said : (rep : Rep) (w : ℕ) → IsFormOf DataProp rep w → value_by rep w ≡ Some (value_in rep w)
value-said Smi w h = value-there (untagged_of w) h
value-said Wide w h = integer-said (unwide_of w) h
value-said HeapObject w h = value-there (untagged_of w) h
value-said Tagged w h = value-there (untagged_of w) h

got-is : (o : ℕ) (getter : Option ℕ) → got_by o getter ≡ call_getter o getter
got-is o None = refl
got-is o (Some getter) = refl

set-is : (o : ℕ) (v : Value) (setter : Option ℕ) → call_setter o v setter ≡ record { reply = set_by o v setter; did = Nothing }
set-is o v None = refl
set-is o v (Some setter) = refl

accessed-is : (o : ℕ) (at : Option ℕ) → accessed o at ≡ holder_of at o
accessed-is o None = refl
accessed-is o (Some holder) = refl

no-value : (value : Option Value) → value ≡ None → IsSome value → ⊥
no-value None e h = let no : ⊥ = cc in no
no-value (Some x) e h = let no : ⊥ = cc in no

all-item : {T : Type 0} (P : T → Type 0) (xs : List T) (i : ℕ) (x : T) → AllByRecursion P xs → slice_get xs i ≡ Some x → P x
all-item P [] i x h e = let no : ⊥ = cc in absurd no
all-item P (y ∷ ys) zero x h e = subst P (some-same y x e) h.0
all-item P (y ∷ ys) (suc i) x h e = all-item P ys i x h.1 e

module _ (say : WordsSay) (are : StoresAreWrites) (image_now : NowIsImage) (dep_holds : HoldsAsTheTrailSays) (gates : GatesAreOpen) (forms : FormsAreKept) (unused : UnusedSaysNothing)
    (v : View) (d : WriterState) (kept : List (Option Dictionary)) (rest : IsRest v kept) (desk : IsDesk v d) where
  abbrev words : List ℕ
  words = image_of (words_of v.shape) d.trail

  lawful : Lawful v.shape (typed v.shape d.trail)
  lawful = subst (Lawful v.shape) desk.trail rest.heap.lawful

  at-end : position_at (length d.trail) (typed v.shape d.trail) ≡ v.trail
  at-end =
      let same : length (typed v.shape d.trail) ≡ length d.trail = are v.shape d.trail in
      let none : length (typed v.shape d.trail) - length d.trail ≡ 0 = omega arith in
      ap (λ (n : ℕ). drop n (typed v.shape d.trail)) none ∙ sym desk.trail

  map-there : (o : ℕ) → o < v.shape.objects → optional_number (slice_index words (index_of v.shape (place_at MapOfObject o))) ≡ Some (map_in v.trail o)
  map-there o lt =
      subst (λ (t : Trail). optional_number (slice_index words (index_of v.shape (place_at MapOfObject o))) ≡ Some (map_in t o)) at-end
      (subst (λ (w : ℕ). optional_number w ≡ Some (map_in (position_at (length d.trail) (typed v.shape d.trail)) o)) (image_now (words_of v.shape) d.trail (index_of v.shape (place_at MapOfObject o)))
      (say v.shape d.trail (length d.trail) MapOfObject o lawful lt))

  -- the map that the words say an object has, it has
  map-said : (o m : ℕ) → map_on v.shape words o ≡ Some m → map_in v.trail o ≡ Some m
  map-said o m h = by (nat_lt o v.shape.objects) refl h
    where
      by : (b : Bool) → nat_lt o v.shape.objects ≡ b
          → option_and_then (λ (map : Option ℕ). map) (if b then optional_number (slice_index words (index_of v.shape (place_at MapOfObject o))) else None) ≡ Some m → map_in v.trail o ≡ Some m
      by true e k = ap (option_and_then (λ (map : Option ℕ). map)) (sym (map-there o (grind (arith, e)))) ∙ k
      by false e k = let no : ⊥ = cc in absurd no

  -- and so is the word of a slot
  slot-said : (q h k : ℕ) → map_in v.trail q ≡ Some h → IsSomeAnd (store_in v.trail q).first (λ first. first + k < v.shape.slots) → slot_word_on v.shape words q k ≡ Some (slot_word v.trail q k)
  slot-said q h k has there =
      let both = dep_holds v.shape d.trail (HasValue q k (slot_word v.trail q k)) lawful in
      let holds = both.1 (subst (λ (t : Trail). HoldsWordIn v.shape t q k (slot_word v.trail q k)) desk.trail (record { fast = is-some (map_in v.trail q) h has; there = there; holds = refl })) in
      holds.holds

  module _ (name m : ℕ) (chain : List Hop) (o : ℕ) (has : map_in v.trail o ≡ Some m) where
    read-at : (op : Op) (way : Way) → ToldWay (Now v.trail) v.trail op name m chain way → IsReadable v.shape v.trail o way
    read-at op way told = readable forms unused v kept rest name m chain o has op way told

    holder-at : (at : Option ℕ) (h : ℕ) → IsHolder (Now v.trail) v.trail name m chain at h → map_in v.trail (holder_of at o) ≡ Some h
    holder-at at h is = holder-has forms unused v kept rest name m chain o has at h is

    datum-on : (q h k : ℕ) (rep : Rep) → map_in v.trail q ≡ Some h → HasSlot v.shape v.trail q k (IsFormOf DataProp rep)
        → option_map Val (value_on v.shape words rep q k) ≡ Some (Val (value_in rep (slot_word v.trail q k)))
    datum-on q h k rep is slot =
        ap (λ x. option_map Val (option_and_then (value_by rep) x)) (slot-said q h k is slot.there)
        ∙ ap (option_map Val) (value-said rep (slot_word v.trail q k) slot.form)

    -- the pair of an accessor's slot
    pair-on : (at : Option ℕ) (h k : ℕ) → map_in v.trail (holder_of at o) ≡ Some h → HasSlot v.shape v.trail (holder_of at o) k (IsFormOf AccessorProp Tagged)
        → (pair : Option ℕ × Option ℕ) × (pair_on v.shape words (accessed o at) k ≡ Some pair) × (unpair_of (slot_word v.trail (holder_of at o) k) ≡ Some pair)
    pair-on at h k is slot =
        let pair = some-of (unpair_of (slot_word v.trail (holder_of at o) k)) slot.form in (
          pair.0,
          ap (λ q. pair_on v.shape words q k) (accessed-is o at) ∙ ap (option_and_then unpair_of) (slot-said (holder_of at o) h k is slot.there) ∙ pair.1,
          pair.1,
        )

    -- Loads

    load-reply : (value : Option Value) (way : Way) → ToldWay (Now v.trail) v.trail Load name m chain way → reply_on v.shape words o value way ≡ load_answer v.trail o way
    load-reply value (Own k f rep) told = datum-on o m k rep has (read-at Load (Own k f rep) told)
    load-reply value (Holder q k f rep) told = datum-on q told.map k rep told.holder.has (read-at Load (Holder q k f rep) told)
    load-reply value (Constant q k f rep w) told = ap (option_map Val) (value-said rep w (read-at Load (Constant q k f rep w) told))
    load-reply value Absent told = refl
    load-reply value (Getter at k) told =
        let pair = pair-on at told.map k (holder-at at told.map told.holder) (read-at Load (Getter at k) told) in
        ap (option_map (λ (pair : Option ℕ × Option ℕ). got_by o pair.0)) pair.1
        ∙ ap (λ x. Some x) (got-is o pair.0.0 ∙ ap (λ x. call_getter o (getter_in x)) (sym pair.2))
    load-reply value (StoreOwn k f rep class) told = absurd told
    load-reply value (Add child k f rep class) told = absurd told
    load-reply value (Setter at k) told = absurd told
    load-reply value Reject told = absurd told

    load-answers : (value : Option Value) (number : ℕ) (way : Way) → ToldWay (Now v.trail) v.trail Load name m chain way → answer_on v.shape words o value number way ≡ option_map (Answer number) (load_answer v.trail o way)
    load-answers value number (Own k f rep) told = ap (option_map (Answer number)) (load-reply value (Own k f rep) told)
    load-answers value number (Holder q k f rep) told = ap (option_map (Answer number)) (load-reply value (Holder q k f rep) told)
    load-answers value number (Constant q k f rep w) told = ap (option_map (Answer number)) (load-reply value (Constant q k f rep w) told)
    load-answers value number Absent told = refl
    load-answers value number (Getter at k) told = ap (option_map (Answer number)) (load-reply value (Getter at k) told)
    load-answers value number (StoreOwn k f rep class) told = absurd told
    load-answers value number (Add child k f rep class) told = absurd told
    load-answers value number (Setter at k) told = absurd told
    load-answers value number Reject told = absurd told

    load-readable : (value : Option Value) (way : Way) → ToldWay (Now v.trail) v.trail Load name m chain way → (r : Reply) → load_answer v.trail o way ≡ Some r → IsReadableOn v.shape words o value way
    load-readable value (Own k f rep) told r e = is-some (reply_on v.shape words o value (Own k f rep)) r (load-reply value (Own k f rep) told ∙ e)
    load-readable value (Holder q k f rep) told r e = is-some (reply_on v.shape words o value (Holder q k f rep)) r (load-reply value (Holder q k f rep) told ∙ e)
    load-readable value (Constant q k f rep w) told r e = is-some (reply_on v.shape words o value (Constant q k f rep w)) r (load-reply value (Constant q k f rep w) told ∙ e)
    load-readable value Absent told r e = refl
    load-readable value (Getter at k) told r e = is-some (reply_on v.shape words o value (Getter at k)) r (load-reply value (Getter at k) told ∙ e)
    load-readable value (StoreOwn k f rep class) told r e = absurd told
    load-readable value (Add child k f rep class) told r e = absurd told
    load-readable value (Setter at k) told r e = absurd told
    load-readable value Reject told r e = absurd told

    -- Stores

    module _ (given : Value) where
      setter-reply : (at : Option ℕ) (k : ℕ) → ToldWay (Now v.trail) v.trail Store name m chain (Setter at k)
          → (r : Reply) × (reply_on v.shape words o (Some given) (Setter at k) ≡ Some r) × (store_answer v.trail name o given (Setter at k) ≡ Some (record { reply = r; did = Nothing }))
      setter-reply at k told =
          let pair = pair-on at told.map k (holder-at at told.map told.holder) (read-at Store (Setter at k) told) in (
            set_by o given pair.0.1,
            ap (option_map (λ (pair : Option ℕ × Option ℕ). set_by o given pair.1)) pair.1,
            ap (λ x. Some (call_setter o given (setter_in x))) pair.2 ∙ ap (λ x. Some x) (set-is o given pair.0.1),
          )

      store-answers : (number : ℕ) (way : Way) → ToldWay (Now v.trail) v.trail Store name m chain way → store_answer v.trail name o given way ≡ Some (set_act (world v.trail kept) o name given)
          → (a : Applied) × (answer_on v.shape words o (Some given) number way ≡ Some a) × IsAnswerOf (world v.trail kept) o name (Some given) a
      store-answers number (StoreOwn k f rep class) told right = (StoreAt number k, refl, sym (some-same _ _ right))
      store-answers number (Add child k f rep class) told right = (AddBy number child, refl, sym (some-same _ _ right))
      store-answers number (Setter at k) told right =
          let r = setter-reply at k told in
          (Answer number r.0, ap (option_map (Answer number)) r.1, some-same _ _ (sym right ∙ r.2))
      store-answers number Reject told right = (Answer number (Flag false), refl, sym (some-same _ _ right))
      store-answers number (Own k f rep) told right = absurd told
      store-answers number (Holder q k f rep) told right = absurd told
      store-answers number (Constant q k f rep w) told right = absurd told
      store-answers number Absent told right = absurd told
      store-answers number (Getter at k) told right = absurd told

      store-readable : (way : Way) → ToldWay (Now v.trail) v.trail Store name m chain way → IsReadableOn v.shape words o (Some given) way
      store-readable (StoreOwn k f rep class) told = tt
      store-readable (Add child k f rep class) told = tt
      store-readable (Setter at k) told = let r = setter-reply at k told in is-some (reply_on v.shape words o (Some given) (Setter at k)) r.0 r.1
      store-readable Reject told = refl
      store-readable (Own k f rep) told = absurd told
      store-readable (Holder q k f rep) told = absurd told
      store-readable (Constant q k f rep w) told = absurd told
      store-readable Absent told = absurd told
      store-readable (Getter at k) told = absurd told

  -- Cases

  module _ (name room o : ℕ) where
    case-answers : (op : Op) (case : Case) (value : Option Value) → IsToldNow v.trail op name case → map_in v.trail o ≡ Some case.map → IsSome value ↔ op ≡ Store → (number : ℕ)
        → (a : Applied) × (answer_on v.shape words o value number case.way ≡ Some a) × IsAnswerOf (world v.trail kept) o name value a
    case-answers Load case (Some x) told has given number = let e : Load ≡ Store = given.0 refl in let no : ⊥ = cc in absurd no
    case-answers Load case None told has given number =
        let right = told-right gates unused v kept rest name Load case told in
        let load = right o has in (
          Answer number (get_reply (world v.trail kept) o name),
          load-answers name case.map case.chain o has None number case.way told.way ∙ ap (option_map (Answer number)) load,
          refl,
        )
    case-answers Store case None told has given number = absurd (no-value None refl (given.1 refl))
    case-answers Store case (Some x) told has given number =
        let right = told-right gates unused v kept rest name Store case told in
        store-answers name case.map case.chain o has x number case.way told.way (right o x has)

    case-readable : (op : Op) (case : Case) (value : Option Value) → IsToldNow v.trail op name case → IsSome value ↔ op ≡ Store → CanAnswer v.shape words room o value case
    case-readable Load case (Some x) told given admits = let e : Load ≡ Store = given.0 refl in let no : ⊥ = cc in absurd no
    case-readable Load case None told given admits =
        let has = map-said o case.map admits.map in
        let right = told-right gates unused v kept rest name Load case told in
        load-readable name case.map case.chain o has None case.way told.way (get_reply (world v.trail kept) o name) (right o has)
    case-readable Store case None told given admits = absurd (no-value None refl (given.1 refl))
    case-readable Store case (Some x) told given admits = store-readable name case.map case.chain o (map-said o case.map admits.map) x case.way told.way

    -- the first case that admits
    first-right : (op : Op) (cases : List Case) (value : Option Value) (applied : Applied) → AllByRecursion (IsToldNow v.trail op name) cases → IsSome value ↔ op ≡ Store
        → IsFirstAnswer v.shape words room o value cases applied → IsAnswerOf (world v.trail kept) o name value applied
    first-right op cases value applied told given first =
        let case_told = all-item (IsToldNow v.trail op name) cases first.number first.case told first.here in
        let a = case-answers op first.case value case_told (map-said o first.case.map first.admits.map) given first.number in
        subst (IsAnswerOf (world v.trail kept) o name value) (some-same a.0 applied (sym a.1 ∙ first.answers)) a.2

    pub applied-right : (op : Op) (cases : List Case) (value : Option Value) (applied : Applied) → AllByRecursion (IsToldNow v.trail op name) cases → IsSome value ↔ op ≡ Store
        → IsApplied v.shape words room o value cases applied → IsAnswerOf (world v.trail kept) o name value applied
    applied-right op cases value Miss told given h = tt
    applied-right op cases value (Answer number reply) told given h = first-right op cases value (Answer number reply) told given h
    applied-right op cases value (StoreAt number slot) told given h = first-right op cases value (StoreAt number slot) told given h
    applied-right op cases value (AddBy number child) told given h = first-right op cases value (AddBy number child) told given h

  -- Places

  way-place : (op : Op) (name m : ℕ) (chain : List Hop) (way : Way) → ToldWay (Now v.trail) v.trail op name m chain way → IsPlaceOf way
  way-place Store name m chain (Add child k f rep class) told =
      let it = told.grows in
      let few = (gates v.shape v.trail child it.gate rest.heap.lawful it.is_open).few in
      let last = it.last in
      omega (arith, few, last)
  way-place Load name m chain (Add child k f rep class) told = absurd told
  way-place op name m chain (Own k f rep) told = tt
  way-place op name m chain (Holder q k f rep) told = tt
  way-place op name m chain (Constant q k f rep w) told = tt
  way-place op name m chain Absent told = tt
  way-place op name m chain (Getter at k) told = tt
  way-place op name m chain (StoreOwn k f rep class) told = tt
  way-place op name m chain (Setter at k) told = tt
  way-place op name m chain Reject told = tt

  pub can-apply : (plan : Plan) (room o : ℕ) (value : Option Value) → AllByRecursion (IsToldNow v.trail plan.op plan.name) plan.cases → IsSome value ↔ plan.op ≡ Store → CanApply v d plan room o value
  can-apply plan room o value told given = record {
    places = all-to (IsToldNow v.trail plan.op plan.name) (λ (case : Case). IsPlaceOf case.way) (λ case h. way-place plan.op plan.name case.map case.chain case.way h.way) plan.cases told;
    readable = all-to (IsToldNow v.trail plan.op plan.name) (CanAnswer v.shape words room o value) (λ case h. case-readable plan.name room o plan.op case value h given) plan.cases told;
  }
