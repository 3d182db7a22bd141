-- Whether a change leaves an object another prototype or other properties.
use Rattle.std.proofs.Common.{◌≡◌, ◌≢◌, ℕ, zero, suc, ◌<◌, Bool, true, false, true≢false, List, [], ◌∷◌, ◌++◌, length, length-append, map, set, Option, Some, None, refl, sym, ap, ◌∙◌, arith}
use Rattle.std.specs.Prelude.{IsTrue, not, slice_get, slice_set}
use Rattle.std.proofs.lemmas.List.{get_or-set_same}
use Rattle.hc_value.specs.declared.prop.Held.{Held}
use Rattle.hc_value.specs.declared.prop.Prop.{Prop}
use Rattle.hc_value.specs.declared.value.Value.{Value}
use Rattle.hc_table.specs.Attributes.{restricted}
use Rattle.hc_table.specs.Changes.{removed_at}
use Rattle.hc_table.specs.World.{Object, World, held_at, holding, new_object, object, props_at}
use Rattle.hc_slots.specs.Cases.{some-is}
use Rattle.hc_modes.specs.Admitting.{added}
use Rattle.hc_objects.specs.Changes.{Alters}
use Rattle.hc_objects.specs.declared.change.Change.TheVariants.{Add, AddBy, Write, Put, Remove, Link, Lock, Restrict}

-- Lists of properties

holding-same : (p : Prop) (held : Held) → p.held ≡ held → holding p held ≡ p
holding-same p held is = sym (ap (λ (h : Held). holding p h) is)

held-same : (ps : List Prop) (i : ℕ) (p : Prop) (held : Held) → slice_get ps i ≡ Some p → p.held ≡ held → held_at ps i held ≡ ps
held-same [] i p held at is = refl
held-same (q ∷ ps) zero p held at is = ap (λ (x : Prop). x ∷ ps) (holding-same q held (ap (λ (x : Prop). x.held) (some-is q p at) ∙ is))
held-same (q ∷ ps) (suc i) p held at is = ap (λ (xs : List Prop). q ∷ xs) (held-same ps i p held at is)

held-get : (ps : List Prop) (i : ℕ) (p : Prop) (held : Held) → slice_get ps i ≡ Some p → slice_get (held_at ps i held) i ≡ Some (holding p held)
held-get [] i p held at = let n : ⊥ = cc in absurd n
held-get (q ∷ ps) zero p held at = ap (λ (x : Prop). Some (holding x held)) (some-is q p at)
held-get (q ∷ ps) (suc i) p held at = held-get ps i p held at

held-other : (ps : List Prop) (i : ℕ) (p : Prop) (held : Held) → slice_get ps i ≡ Some p → held_at ps i held ≡ ps → p.held ≡ held
held-other ps i p held at same =
    let both : Some (holding p held) ≡ Some p = sym (held-get ps i p held at) ∙ ap (λ (xs : List Prop). slice_get xs i) same ∙ at in
    sym (ap (λ (x : Prop). x.held) (some-is (holding p held) p both))

set-same : (ps : List Prop) (i : ℕ) (p : Prop) → slice_get ps i ≡ Some p → set ps i p ≡ ps
set-same [] i p at = refl
set-same (q ∷ ps) zero p at = ap (λ (x : Prop). x ∷ ps) (sym (some-is q p at))
set-same (q ∷ ps) (suc i) p at = ap (λ (xs : List Prop). q ∷ xs) (set-same ps i p at)

set-get : (ps : List Prop) (i : ℕ) (q p : Prop) → slice_get ps i ≡ Some q → slice_get (set ps i p) i ≡ Some p
set-get [] i q p at = let n : ⊥ = cc in absurd n
set-get (x ∷ ps) zero q p at = refl
set-get (x ∷ ps) (suc i) q p at = set-get ps i q p at

removed-length : (ps : List Prop) (i : ℕ) → i < length ps → suc (length (removed_at ps i)) ≡ length ps
removed-length [] i lt = absurd (omega arith)
removed-length (p ∷ ps) zero lt = refl
removed-length (p ∷ ps) (suc i) lt = ap suc (removed-length ps i (omega arith))

-- properties each of which a function leaves
pub map-same : (f : Prop → Prop) (ps : List Prop) → ((i : ℕ) (p : Prop) → slice_get ps i ≡ Some p → f p ≡ p) → map f ps ≡ ps
map-same f [] h = refl
map-same f (p ∷ ps) h = ap (λ (x : Prop). x ∷ map f ps) (h 0 p refl) ∙ ap (λ (xs : List Prop). p ∷ xs) (map-same f ps (λ i q at. h (suc i) q at))

map-get : (f : Prop → Prop) (ps : List Prop) (i : ℕ) (p : Prop) → slice_get ps i ≡ Some p → slice_get (map f ps) i ≡ Some (f p)
map-get f [] i p at = let n : ⊥ = cc in absurd n
map-get f (q ∷ ps) zero p at = ap (λ (x : Prop). Some (f x)) (some-is q p at)
map-get f (q ∷ ps) (suc i) p at = map-get f ps i p at

pub map-other : (f : Prop → Prop) (ps : List Prop) (i : ℕ) (p : Prop) → slice_get ps i ≡ Some p → f p ≢ p → map f ps ≢ ps
map-other f ps i p at ne same =
    let both : Some (f p) ≡ Some p = sym (map-get f ps i p at) ∙ ap (λ (xs : List Prop). slice_get xs i) same ∙ at in
    ne (some-is (f p) p both)

-- Objects

module _ (w : World) (o : ℕ) (lt : o < length w) where
  at-set : (x : Object) → object (slice_set w o x) o ≡ x
  at-set x = get_or-set_same w o x (new_object None) lt

  props-set : (x : Object) → props_at (slice_set w o x) o ≡ x.props
  props-set x = ap (λ (k : Object). k.props) (at-set x)

  proto-set : (x : Object) → (object (slice_set w o x) o).proto ≡ x.proto
  proto-set x = ap (λ (k : Object). k.proto) (at-set x)

  pub alters-add : (p : Prop) → Alters w o (Add p) true
  alters-add p = record {
    other = λ if_true same.
        let longer : props_at w o ++ p ∷ [] ≡ props_at w o = sym (props-set _) ∙ same.props in
        let size = length-append (props_at w o) (p ∷ []) in
        let one = ap (λ (xs : List Prop). length xs) longer in
        omega (arith, size, one);
    same = λ if_false. absurd (true≢false if_false);
  }

  pub alters-add_by : (child name : ℕ) (value : Value) → Alters w o (AddBy child name value) true
  alters-add_by child name value = let it = alters-add (added name value) in record { other = it.other; same = it.same }

  pub alters-write : (i : ℕ) (held : Held) (p : Prop) (test : Bool) → slice_get (props_at w o) i ≡ Some p → (IsTrue test → p.held ≢ held) → (test ≡ false → p.held ≡ held) → Alters w o (Write i held) test
  alters-write i held p test at if_true if_false = record {
    other = λ is same. if_true is (held-other (props_at w o) i p held at (sym (props-set _) ∙ same.props));
    same = λ is. record { proto = proto-set _; props = props-set _ ∙ held-same (props_at w o) i p held at (if_false is) };
  }

  pub alters-put : (i : ℕ) (p was : Prop) (test : Bool) → slice_get (props_at w o) i ≡ Some was → (IsTrue test → was ≢ p) → (test ≡ false → was ≡ p) → Alters w o (Put i p) test
  alters-put i p was test at if_true if_false = record {
    other = λ is same.
        let there : Some p ≡ Some was = sym (set-get (props_at w o) i was p at) ∙ ap (λ (xs : List Prop). slice_get xs i) (sym (props-set _) ∙ same.props) ∙ at in
        if_true is (sym (some-is p was there));
    same = λ is. record { proto = proto-set _; props = props-set _ ∙ set-same (props_at w o) i p (at ∙ ap (λ (x : Prop). Some x) (if_false is)) };
  }

  pub alters-remove : (i : ℕ) → i < length (props_at w o) → Alters w o (Remove i) true
  alters-remove i there = record {
    other = λ if_true same.
        let shorter : removed_at (props_at w o) i ≡ props_at w o = sym (props-set _) ∙ same.props in
        let size = removed-length (props_at w o) i there in
        let one = ap (λ (xs : List Prop). length xs) shorter in
        omega (arith, size, one);
    same = λ if_false. absurd (true≢false if_false);
  }

  pub alters-link : (proto : Option ℕ) (test : Bool) → (IsTrue test → (object w o).proto ≢ proto) → (test ≡ false → (object w o).proto ≡ proto) → Alters w o (Link proto) test
  alters-link proto test if_true if_false = record {
    other = λ is same. if_true is (sym (sym (proto-set _) ∙ same.proto));
    same = λ is. record { proto = proto-set _ ∙ sym (if_false is); props = props-set _ };
  }

  pub alters-lock : Alters w o Lock false
  alters-lock = record {
    other = λ if_false same. absurd (true≢false (sym if_false));
    same = λ is. record { proto = proto-set _; props = props-set _ };
  }

  pub alters-restrict : (frozen test : Bool) → (IsTrue test → map (restricted frozen) (props_at w o) ≢ props_at w o) → (test ≡ false → map (restricted frozen) (props_at w o) ≡ props_at w o) → Alters w o (Restrict frozen) test
  alters-restrict frozen test if_true if_false = record {
    other = λ is same. if_true is (sym (props-set _) ∙ same.props);
    same = λ is. record { proto = proto-set _; props = props-set _ ∙ if_false is };
  }

-- what the contrary of a test says
pub not-so : (r : Bool) (A : Type 0) → (A → IsTrue r) → IsTrue (not r) → A → ⊥
not-so true A is test a = true≢false (sym test)
not-so false A is test a = true≢false (sym (is a))

pub not-not : (r : Bool) (A : Type 0) → (IsTrue r → A) → not r ≡ false → A
not-not true A is test = is refl
not-not false A is test = absurd (true≢false test)
