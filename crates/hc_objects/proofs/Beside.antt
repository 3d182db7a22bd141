-- What a change of one object leaves of others.
use Rattle.std.proofs.Common.{◌≡◌, ◌≢◌, ℕ, zero, suc, ◌+◌, ◌<◌, ◌≤◌, Bool, true, false, cond, eqb, true≢false, List, [], ◌∷◌, length, length-append, length-set, Option, Some, None, refl, sym, ap, ◌∙◌, subst, arith}
use Rattle.std.specs.Prelude.{nat_lt, option_map, IsTrue}
use Rattle.std.proofs.Math.ListN.{get_or-append, get_or-eq_default}
use Rattle.std.proofs.lemmas.List.{get_or-set_other}
use Rattle.std.proofs.lemmas.Bool.Decides.{nat_tests}
use Rattle.hc_board.specs.Trail.{Access}
use Rattle.hc_value.specs.declared.reply.Cause.{Cause}
use Rattle.hc_heap.specs.Kept.{UnusedSaysNothing}
use Rattle.hc_heap.specs.declared.kind.Kind.TheVariants.{MapOfObject}
use Rattle.hc_heap.specs.Readings.{map_in}
use Rattle.hc_cells.specs.Chains.{chain_among, has, passes, proto_at}
use Rattle.hc_table.specs.Changes.{Created, Moved, after, reaches, reaches_among}
use Rattle.hc_table.specs.World.{LeadsToNull, Object, World, new_object, object, with_object}
use Rattle.hc_slots.specs.Cases.{same-or}
use Rattle.hc_slots.specs.Meaning.{Dictionary}
use Rattle.hc_modes.specs.Came.{AreMoves, Became, Came, IsStill, Moves, marked_before, moves_to_create, moves_to_link, world_of}
use Rattle.hc_modes.specs.Laws.{came-world, moves-world}
use Rattle.hc_modes.specs.Meaning.{cause_in, kept_of}
use Rattle.hc_modes.specs.State.{IsObjects, ObjectsState}
use Rattle.hc_modes.specs.Validity.{StaysPut, protos_of}
use Rattle.hc_objects.specs.Changes.{did_of, named_by}
use Rattle.hc_objects.specs.declared.change.Change.{Change}
use Rattle.hc_objects.specs.declared.change.Change.TheVariants.{Add, AddBy, Write, Put, Remove, Link, Lock, Restrict}
use Rattle.hc_objects.proofs.Told.{Told, count-world, fast-map, slow-mapless}

-- Worlds

-- a change of an object leaves the others
pub change-other : (w : World) (o q : ℕ) (change : Change) → q ≢ o → object (after (did_of o change) w) q ≡ object w q
change-other w o q (Add p) other = get_or-set_other w o q _ _ other
change-other w o q (AddBy child name value) other = get_or-set_other w o q _ _ other
change-other w o q (Write i held) other = get_or-set_other w o q _ _ other
change-other w o q (Put i p) other = get_or-set_other w o q _ _ other
change-other w o q (Remove i) other = get_or-set_other w o q _ _ other
change-other w o q (Link proto) other = get_or-set_other w o q _ _ other
change-other w o q Lock other = get_or-set_other w o q _ _ other
change-other w o q (Restrict frozen) other = get_or-set_other w o q _ _ other

-- and makes none
pub change-length : (w : World) (o : ℕ) (change : Change) → length (after (did_of o change) w) ≡ length w
change-length w o (Add p) = length-set w o _
change-length w o (AddBy child name value) = length-set w o _
change-length w o (Write i held) = length-set w o _
change-length w o (Put i p) = length-set w o _
change-length w o (Remove i) = length-set w o _
change-length w o (Link proto) = length-set w o _
change-length w o Lock = length-set w o _
change-length w o (Restrict frozen) = length-set w o _

-- a new object leaves the others
pub created-other : (w : World) (q : ℕ) (proto : Option ℕ) → q ≢ length w → object (with_object w proto) q ≡ object w q
created-other w q proto other = by (nat_lt q (length w)) refl
  where
    by : (test : Bool) → nat_lt q (length w) ≡ test → object (with_object w proto) q ≡ object w q
    by true e = get_or-append w (new_object proto ∷ []) (new_object None) q (grind (arith, nat_tests, e))
    by false e =
        let past : length w ≤ q = grind (arith, nat_tests, e) in
        let size = length-append w (new_object proto ∷ []) in
        get_or-eq_default (with_object w proto) (new_object None) (omega (arith, past, other, size)) ∙ sym (get_or-eq_default w (new_object None) past)

-- an object isn't on the chain of what it may get as prototype
pub apart-of : (w : World) (o p : ℕ) → o < length w → reaches w (Some p) o ≡ false → p ≢ o
apart-of w o p lt far is = by (length w) lt far
  where
    by : (n : ℕ) → o < n → reaches_among n w (Some p) o ≡ false → ⊥
    by zero lt_n e = omega (arith, lt_n)
    by (suc n) lt_n e = at (eqb p o) refl e
      where
        at : (test : Bool) → eqb p o ≡ test → cond test true (reaches_among n w (object w p).proto o) ≡ false → ⊥
        at true e_test f = true≢false f
        at false e_test f = let n : ⊥ = grind (arith, nat_tests, e_test, is) in n

-- Maps

pub map-none : UnusedSaysNothing → {P : Type 0} (s : ObjectsState P) → IsObjects s.heap.view s.kept s.of_null → (q : ℕ) → length s.kept ≤ q → map_in s.heap.view.trail q ≡ None
map-none unused s sound q le = unused s.heap.view.used s.heap.view.trail MapOfObject q sound.heap.used (let items = sound.items in omega (arith, le, items))

module _ {P : Type 0} (went : P → List Access → List Access → P → Type 0) where
  still-map : (a b : ObjectsState P) → IsStill a b → (q : ℕ) → map_in b.heap.view.trail q ≡ map_in a.heap.view.trail q
  still-map a b still q = ap (λ (s : ObjectsState P). map_in s.heap.view.trail q) still.is

  became-maps : (a b : ObjectsState P) (p q : ℕ) → q ≢ p → AreMoves went a (Became p ∷ []) b → map_in b.heap.view.trail q ≡ map_in a.heap.view.trail q
  became-maps a b p q other h = still-map h.0 b h.2 q ∙ h.1.how.marks.maps q other

  marked-maps : (a b : ObjectsState P) (c d : Option Cause) (o p q : ℕ) → q ≢ p → AreMoves went a (marked_before c d o (Became p ∷ [])) b → map_in b.heap.view.trail q ≡ map_in a.heap.view.trail q
  marked-maps a b None (Some cause) o p q other h = became-maps h.0 b p q other h.2 ∙ h.1.maps q
  marked-maps a b None None o p q other h = became-maps a b p q other h
  marked-maps a b (Some c) d o p q other h = became-maps a b p q other h

  link-maps : (a b : ObjectsState P) (o : ℕ) (proto : Option ℕ) (q : ℕ) → (proto ≡ Some q → ⊥) → AreMoves went a (moves_to_link a o proto) b → map_in b.heap.view.trail q ≡ map_in a.heap.view.trail q
  link-maps a b o None q apart h = still-map a b h q
  link-maps a b o (Some p) q apart h = marked-maps a b (cause_in a.kept o) (cause_in a.kept p) o p q (λ is. apart (ap (λ (k : ℕ). Some k) (sym is))) h

  create-maps : (a b : ObjectsState P) (proto : Option ℕ) (q : ℕ) → (proto ≡ Some q → ⊥) → AreMoves went a (moves_to_create proto) b → map_in b.heap.view.trail q ≡ map_in a.heap.view.trail q
  create-maps a b None q apart h = still-map a b h q
  create-maps a b (Some p) q apart h = became-maps a b p q (λ is. apart (ap (λ (k : ℕ). Some k) (sym is))) h

  change-maps : (a x : ObjectsState P) (o q : ℕ) (change : Change) → q ≢ o → (named_by change ≡ Some q → ⊥) → Came went a (did_of o change) x → map_in x.heap.view.trail q ≡ map_in a.heap.view.trail q
  change-maps a x o q (Add p) other apart h = h.own.marks.maps q other ∙ still-map a h.mid h.moves q
  change-maps a x o q (AddBy child name value) other apart h = h.own.marks.maps q other ∙ still-map a h.mid h.moves q
  change-maps a x o q (Write i held) other apart h = h.own.marks.maps q other ∙ still-map a h.mid h.moves q
  change-maps a x o q (Put i p) other apart h = h.own.marks.maps q other ∙ still-map a h.mid h.moves q
  change-maps a x o q (Remove i) other apart h = h.own.marks.maps q other ∙ still-map a h.mid h.moves q
  change-maps a x o q (Link proto) other apart h = h.own.marks.maps q other ∙ link-maps a h.mid o proto q apart h.moves
  change-maps a x o q Lock other apart h = h.own.marks.maps q other ∙ still-map a h.mid h.moves q
  change-maps a x o q (Restrict frozen) other apart h = h.own.marks.maps q other ∙ still-map a h.mid h.moves q

  -- with the map and the world an object stays put
  pub put-by : (a x : ObjectsState P) (q : ℕ) → map_in x.heap.view.trail q ≡ map_in a.heap.view.trail q → object (world_of x) q ≡ object (world_of a) q → StaysPut a x q
  put-by a x q map same = record { map = map; proto = ap (λ (k : Object). k.proto) same; props = λ slow. ap (λ (k : Object). k.props) same }

  -- A change

  module _ (a x : ObjectsState P) (o : ℕ) (change : Change) (came : Came went a (did_of o change) x) where
    pub changed-world : (q : ℕ) → q ≢ o → object (world_of x) q ≡ object (world_of a) q
    changed-world q other = ap (λ (w : World). object w q) (came-world went a x (did_of o change) came) ∙ change-other (world_of a) o q change other

    pub changed-put : (q : ℕ) → q ≢ o → (named_by change ≡ Some q → ⊥) → StaysPut a x q
    changed-put q other apart = put-by a x q (change-maps a x o q change other apart came) (changed-world q other)

    pub changed-count : length x.kept ≡ length a.kept
    changed-count =
        sym (count-world x) ∙ ap (λ (w : World). length w) (came-world went a x (did_of o change) came) ∙ change-length (world_of a) o change ∙ count-world a

  -- want of memory
  module _ (a x : ObjectsState P) (o : ℕ) (moves : Moves went a x) where
    pub wanted-world : world_of x ≡ world_of a
    wanted-world = came-world went a x Moved moves

    pub wanted-put : (q : ℕ) → map_in x.heap.view.trail q ≡ map_in a.heap.view.trail q → StaysPut a x q
    wanted-put q map = put-by a x q map (ap (λ (w : World). object w q) wanted-world)

    pub wanted-count : length x.kept ≡ length a.kept
    wanted-count = sym (count-world x) ∙ ap (λ (w : World). length w) wanted-world ∙ count-world a

  -- A new object

  module _ (unused : UnusedSaysNothing) (a x : ObjectsState P) (sound_a : IsObjects a.heap.view a.kept a.of_null) (sound_x : IsObjects x.heap.view x.kept x.of_null) (proto : Option ℕ) (came : Came went a (Created proto) x) where
    pub created-world : (q : ℕ) → q ≢ length (world_of a) → object (world_of x) q ≡ object (world_of a) q
    created-world q other = ap (λ (w : World). object w q) (came-world went a x (Created proto) came) ∙ created-other (world_of a) q proto other

    pub created-count : length x.kept ≡ length a.kept + 1
    created-count =
        let before = count-world a in
        let after = count-world x in
        let grown = ap (λ (w : World). length w) (came-world went a x (Created proto) came) in
        let size = length-append (world_of a) (new_object proto ∷ []) in
        omega (arith, before, after, grown, size)

    mid-count : length came.mid.kept ≡ length a.kept
    mid-count = sym (count-world came.mid) ∙ ap (λ (w : World). length w) (moves-world went a came.mid (moves_to_create proto) came.moves) ∙ count-world a

    create-cause : (q : ℕ) → (proto ≡ Some q → ⊥) → cause_in came.mid.kept q ≡ cause_in a.kept q
    create-cause q apart = by proto came.moves apart
      where
        by : (named : Option ℕ) → AreMoves went a (moves_to_create named) came.mid → (named ≡ Some q → ⊥) → cause_in came.mid.kept q ≡ cause_in a.kept q
        by None h k = ap (λ (s : ObjectsState P). cause_in s.kept q) h.is
        by (Some p) h k = ap (λ (s : ObjectsState P). cause_in s.kept q) h.2.is ∙ h.1.others q (λ is. k (ap (λ (j : ℕ). Some j) (sym is)))

    -- an object without a map that is no new one has none
    still-mapless : (q : ℕ) → q ≢ length a.kept → (proto ≡ Some q → ⊥) → map_in a.heap.view.trail q ≡ None → map_in x.heap.view.trail q ≡ None
    still-mapless q other apart none = by (nat_lt q (length a.kept)) refl
      where
        by-item : q < length a.kept → (was now : Option Dictionary) → kept_of a.kept q ≡ was → kept_of x.kept q ≡ now → map_in x.heap.view.trail q ≡ None
        by-item lt None now is_a is_x = absurd (fast-map a sound_a q lt is_a none)
        by-item lt (Some d) (Some e) is_a is_x = slow-mapless x sound_x q e is_x
        by-item lt (Some d) None is_a is_x =
            let was : cause_in a.kept q ≡ Some d.cause = ap (λ (item : Option Dictionary). option_map (λ (k : Dictionary). k.cause) item) is_a in
            let gone : cause_in x.kept q ≡ None = ap (λ (item : Option Dictionary). option_map (λ (k : Dictionary). k.cause) item) is_x in
            let kept = came.own.modes.others q (let count = mid-count in omega (arith, lt, count)) ∙ create-cause q apart in
            let n : None ≡ Some d.cause = sym gone ∙ kept ∙ was in
            let f : ⊥ = cc in absurd f

        by : (test : Bool) → nat_lt q (length a.kept) ≡ test → map_in x.heap.view.trail q ≡ None
        by true e = by-item (grind (arith, nat_tests, e)) (kept_of a.kept q) (kept_of x.kept q) refl refl
        by false e =
            let past : length a.kept ≤ q = grind (arith, nat_tests, e) in
            let count = created-count in
            map-none unused x sound_x q (omega (arith, past, other, count))

    create-map : (q : ℕ) → q ≢ length a.kept → (proto ≡ Some q → ⊥) → map_in x.heap.view.trail q ≡ map_in a.heap.view.trail q
    create-map q other apart =
        let moved = create-maps a came.mid proto q apart came.moves in
        same-or q came.own.marks.object (map_in x.heap.view.trail q ≡ map_in a.heap.view.trail q)
        (λ is.
        let none : map_in a.heap.view.trail q ≡ None = sym moved ∙ ap (λ (k : ℕ). map_in came.mid.heap.view.trail k) is ∙ came.own.marks.none in
        still-mapless q other apart none ∙ sym none)
        (λ apart_of. came.own.marks.marks.maps q apart_of ∙ moved)

    pub created-put : (q : ℕ) → q ≢ length a.kept → (proto ≡ Some q → ⊥) → StaysPut a x q
    created-put q other apart = put-by a x q (create-map q other apart) (created-world q (λ is. other (is ∙ count-world a)))

-- Chains

module _ {P : Type 0} (s : ObjectsState P) (told : Told s) (q : ℕ) where
  no-one : false ≡ true → q < length (world_of s)
  no-one e = let f : ⊥ = cc in absurd f

  at-test : (test : Bool) (r : ℕ) (rest : Bool) → eqb r q ≡ test → r < length (world_of s) → (rest ≡ true → q < length (world_of s)) → cond test true rest ≡ true → q < length (world_of s)
  at-test true r rest e lt next h = let same : r ≡ q = grind (arith, nat_tests, e) in subst (λ (k : ℕ). k < length (world_of s)) same lt
  at-test false r rest e lt next h = next h

  reach : (n m : ℕ) (at : Option ℕ) → LeadsToNull n (world_of s) at → has (chain_among m s.heap.view.trail (protos_of s) at) q ≡ true → q < length (world_of s)
  reach n zero None leads h = no-one h
  reach n (suc m) None leads h = no-one h
  reach zero m (Some r) leads h = absurd leads
  reach (suc n) zero (Some r) leads h = no-one h
  reach (suc n) (suc m) (Some r) leads h =
      let next = proto_at s.heap.view.trail (protos_of s) r in
      at-test (eqb r q) r (has (chain_among m s.heap.view.trail (protos_of s) next) q) refl leads.0
      (reach n m next (subst (λ (p : Option ℕ). LeadsToNull n (world_of s) p) (sym (told.proto r)) leads.1)) h

  -- an object that a chain goes through is there
  pub chain-there : IsObjects s.heap.view s.kept s.of_null → (p : ℕ) → p < length (world_of s) → IsTrue (passes s.heap.view.trail (protos_of s) p q) → q < length (world_of s)
  chain-there sound p lt through = reach (length (world_of s)) (length (protos_of s)) (Some p) (sound.sound.sound.chains p lt) through
