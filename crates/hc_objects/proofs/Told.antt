-- What is told of the prototypes of objects.
use Rattle.std.proofs.Common.{◌≡◌, ◌≢◌, ℕ, ◌<◌, ◌≤◌, Bool, true, false, cond, eqb, eq-eqb, List, length, set, Option, Some, None, refl, sym, ap, ◌∙◌, subst, arith}
use Rattle.std.specs.Prelude.{nat_lt}
use Rattle.std.proofs.Math.ListN.{get_or-eq_default}
use Rattle.std.proofs.lemmas.Bool.Decides.{nat_tests}
use Rattle.hc_heap.specs.Readings.{map_in}
use Rattle.hc_cells.specs.Chains.{HaveEnds, proto_at, proto_by}
use Rattle.hc_table.specs.World.{object}
use Rattle.hc_slots.specs.Cases.{cond-other, same-or, some-is}
use Rattle.hc_slots.specs.Listed.{get_or-listed, length-listed, listed, listed-set}
use Rattle.hc_slots.specs.Meaning.{Dictionary}
use Rattle.hc_modes.specs.Came.{world_of}
use Rattle.hc_modes.specs.Meaning.{kept_of, object_at}
use Rattle.hc_modes.specs.State.{IsKeptSo, IsObjects, ObjectsState}
use Rattle.hc_modes.specs.Validity.{StaysPut, proto_kept, protos_of, slow_proto}
use Rattle.hc_objects.specs.Following.{told_also, told_of}

-- the chains that are told are those of the objects, and come to their ends
pub record Told {P : Type 0} (s : ObjectsState P) : Type 0 where
  pub proto : (q : ℕ) → proto_at s.heap.view.trail (protos_of s) q ≡ (object (world_of s) q).proto
  pub ends : HaveEnds s.heap.view.trail (protos_of s)

pub count-told : {P : Type 0} (s : ObjectsState P) → length (protos_of s) ≡ s.heap.view.shape.objects
count-told s = length-listed (slow_proto s.kept) s.heap.view.shape.objects

pub count-world : {P : Type 0} (s : ObjectsState P) → length (world_of s) ≡ length s.kept
count-world s = length-listed (object_at s.heap.view.trail s.kept) (length s.kept)

module _ {P : Type 0} (s : ObjectsState P) (sound : IsObjects s.heap.view s.kept s.of_null) where
  pub few : length s.kept ≤ s.heap.view.shape.objects
  few = let room = sound.sound.room in let count = count-world s in omega (arith, room, count)

  -- an object that has a dictionary is there
  pub slow-there : (q : ℕ) (d : Dictionary) → kept_of s.kept q ≡ Some d → q < length s.kept
  slow-there q d is = by (nat_lt q (length s.kept)) refl
    where
      by : (test : Bool) → nat_lt q (length s.kept) ≡ test → q < length s.kept
      by true e = grind (arith, nat_tests, e)
      by false e =
          let past : length s.kept ≤ q = grind (arith, nat_tests, e) in
          let none : kept_of s.kept q ≡ None = get_or-eq_default s.kept None past in
          let n : None ≡ Some d = sym none ∙ is in
          let f : ⊥ = cc in absurd f

  pub slow-mapless : (q : ℕ) (d : Dictionary) → kept_of s.kept q ≡ Some d → map_in s.heap.view.trail q ≡ None
  slow-mapless q d is = subst (λ (item : Option Dictionary). IsKeptSo s.heap.view.trail q item) is (sound.each q (slow-there q d is))

  -- the prototype of a slow object is kept
  pub slow-is : Told s → (q : ℕ) (d : Dictionary) → kept_of s.kept q ≡ Some d → slow_proto s.kept q ≡ (object (world_of s) q).proto
  slow-is told q d is =
      let lt = slow-there q d is in
      sym (get_or-listed (slow_proto s.kept) s.heap.view.shape.objects q None (let most = few in omega (arith, lt, most)))
      ∙ sym (ap (proto_by s.heap.view.trail (protos_of s) q) (slow-mapless q d is))
      ∙ told.proto q

  -- an object that is there and has no map is slow
  pub fast-map : (q : ℕ) → q < length s.kept → kept_of s.kept q ≡ None → map_in s.heap.view.trail q ≡ None → ⊥
  fast-map q lt fast none =
      let so = subst (λ (item : Option Dictionary). IsKeptSo s.heap.view.trail q item) fast (sound.each q lt) in
      let n : None ≡ Some so.map = sym none ∙ so.is_map in
      let f : ⊥ = cc in f

module _ {P : Type 0} (a x : ObjectsState P) (sound_a : IsObjects a.heap.view a.kept a.of_null) (sound_x : IsObjects x.heap.view x.kept x.of_null) (told_a : Told a) (told_x : Told x) where
  -- where an object stays put, what is told of it stays
  pub slow-same : (q : ℕ) → (q < length a.kept → q < length x.kept) → (q < length x.kept → q < length a.kept) → StaysPut a x q → slow_proto x.kept q ≡ slow_proto a.kept q
  slow-same q more less put = by (kept_of a.kept q) (kept_of x.kept q) refl refl
    where
      by : (was now : Option Dictionary) → kept_of a.kept q ≡ was → kept_of x.kept q ≡ now → slow_proto x.kept q ≡ slow_proto a.kept q
      by (Some d) (Some e) is_a is_x = slow-is x sound_x told_x q e is_x ∙ put.proto ∙ sym (slow-is a sound_a told_a q d is_a)
      by None None is_a is_x = ap proto_kept is_x ∙ sym (ap proto_kept is_a)
      by (Some d) None is_a is_x = absurd (fast-map x sound_x q (more (slow-there a sound_a q d is_a)) is_x (put.map ∙ slow-mapless a sound_a q d is_a))
      by None (Some e) is_a is_x = absurd (fast-map a sound_a q (less (slow-there x sound_x q e is_x)) is_a (sym put.map ∙ slow-mapless x sound_x q e is_x))

  -- what was told, and is told anew of an object, is what is to be told
  module _ (objects : x.heap.view.shape.objects ≡ a.heap.view.shape.objects) (o : ℕ) where
    sized : protos_of x ≡ listed (slow_proto x.kept) a.heap.view.shape.objects
    sized = ap (λ (n : ℕ). listed (slow_proto x.kept) n) objects

    pub told-one : ((q : ℕ) → q ≢ o → slow_proto x.kept q ≡ slow_proto a.kept q) → told_of x (protos_of a) o ≡ protos_of x
    told-one same = sym (sized ∙ listed-set (slow_proto a.kept) (slow_proto x.kept) a.heap.view.shape.objects o (slow_proto x.kept o) (λ k lt other. same k other) (λ lt. refl))

    -- the list while one is told anew
    abbrev between : ℕ → Option ℕ
    between k = cond (eqb k o) (slow_proto x.kept k) (slow_proto a.kept k)

    between-is : (k : ℕ) → k ≡ o → between k ≡ slow_proto x.kept k
    between-is k is = ap (λ (t : Bool). cond t (slow_proto x.kept k) (slow_proto a.kept k)) (eq-eqb k o is)

    told-first : listed between a.heap.view.shape.objects ≡ told_of x (protos_of a) o
    told-first = listed-set (slow_proto a.kept) between a.heap.view.shape.objects o (slow_proto x.kept o) (λ k lt other. cond-other k o (slow_proto x.kept k) (slow_proto a.kept k) other) (λ lt. between-is o refl)

    pub told-two : (p : ℕ) → ((q : ℕ) → q ≢ o → q ≢ p → slow_proto x.kept q ≡ slow_proto a.kept q) → told_of x (told_of x (protos_of a) o) p ≡ protos_of x
    told-two p same = sym (sized
        ∙ listed-set between (slow_proto x.kept) a.heap.view.shape.objects p (slow_proto x.kept p)
        (λ k lt other. same-or k o (slow_proto x.kept k ≡ between k) (λ is. sym (between-is k is)) (λ apart. same k apart other ∙ sym (cond-other k o (slow_proto x.kept k) (slow_proto a.kept k) apart)))
        (λ lt. refl)
        ∙ ap (λ (ps : List (Option ℕ)). set ps p (slow_proto x.kept p)) told-first)

    pub told-both : (named : Option ℕ) → ((q : ℕ) → q ≢ o → (named ≡ Some q → ⊥) → slow_proto x.kept q ≡ slow_proto a.kept q) → told_also x (told_of x (protos_of a) o) named ≡ protos_of x
    told-both None same = told-one (λ q other. same q other (λ e. let f : ⊥ = cc in f))
    told-both (Some p) same = told-two p (λ q other apart. same q other (λ e. apart (sym (some-is p q e))))
