-- A slow object that is given another dictionary, as what objects are before and after it.
use Rattle.std.proofs.Common.{◌≡◌, ℕ, zero, suc, ◌<◌, List, [], ◌∷◌, Option, Some, None, length, get_or, set, MutBor, Result, Ok, Err, refl, sym, ap, ◌∙◌, subst, arith}
use Rattle.std.specs.Prelude.{OnOk, OnErr}
use Rattle.std.specs.Option.{option_copied_mut}
use Rattle.hc_board.specs.Trail.{Access}
use Rattle.hc_value.specs.declared.prop.Kind.{Kind}
use Rattle.hc_value.specs.declared.prop.Prop.{Prop}
use Rattle.hc_heap.specs.Readings.{map_in}
use Rattle.hc_heap.specs.Kept.{DetailsRise}
use Rattle.hc_heap.specs.Lawful.{Lawful}
use Rattle.hc_heap.specs.Frames.{goes-none}
use Rattle.hc_heap.specs.States.{View}
use Rattle.hc_tree.specs.Kept.{MapsAreKept}
use Rattle.hc_table.specs.Changes.{Did, after, kind_at, locked, name_at, removed_at, restricted_object, with_link}
use Rattle.hc_table.specs.Kept.{IsKept, MayDo, ChangesKeep, with_world}
use Rattle.hc_table.specs.World.{Object, World, held_at, object, with_list}
use Rattle.hc_slots.specs.Meaning.{Dictionary, dictionary_object, object_shown}
use Rattle.hc_modes.specs.Meaning.{kept_of, world}
use Rattle.hc_modes.specs.State.{ObjectsState, IsKeptSo, IsObjects, tables_of}
use Rattle.hc_modes.specs.Came.{Steps, world_of}
use Rattle.hc_modes.proofs.Composing.{facts-none}
use Rattle.hc_modes.proofs.Shown.{kept-item}
use Rattle.hc_modes.specs.Changes.{Stepped}
use Rattle.hc_modes.proofs.Stepping.{stepped-world, stepped-sound, slow-step}
use Rattle.hc_modes.proofs.Worlds.{length-world, object-world}
use Rattle.hc_dict.specs.Changes.{MayChange, changed}
use Rattle.hc_dict.specs.declared.dictionary.Change.{Change}
use Rattle.hc_dict.specs.declared.dictionary.Change.TheVariants.{Write, Put, Remove, Link, Lock, Restrict}
use Rattle.hc_modes.specs.Slow.{MayBeSlow, did_of}
use Rattle.hc_value.specs.Prop.{kind_of}

-- a property that has a kind is there
pub kind-there : (ps : List Prop) (i : ℕ) (k : Kind) → kind_at ps i ≡ Some k → i < length ps
kind-there [] i k e = let n : ⊥ = cc in absurd n
kind-there (q ∷ ps) zero k e = omega arith
kind-there (q ∷ ps) (suc i) k e = let lt : i < length ps = kind-there ps i k e in omega arith

-- a slow object is what its dictionary says
module _ (v : View) (kept : List (Option Dictionary)) (of_null : Option ℕ) (h : IsObjects v kept of_null) (o : ℕ) (there : o < length kept) (d : Dictionary) (slow : kept_of kept o ≡ Some d) where
  pub is-slow : object (world v.trail kept) o ≡ dictionary_object d
  is-slow = object-world v.trail kept o there ∙ ap (λ (i : Option Dictionary). object_shown v.trail o i (map_in v.trail o)) slow

  no-map : map_in v.trail o ≡ None
  no-map = subst (λ (i : Option Dictionary). IsKeptSo v.trail o i) slow (h.each o there)

  -- a change of the dictionary
  pub slow-change : (e : Dictionary) (f : Object → Object) → f (dictionary_object d) ≡ dictionary_object e → set (world v.trail kept) o (f (object (world v.trail kept) o)) ≡ set (world v.trail kept) o (dictionary_object e)
  slow-change e f same = ap (λ (x : Object). set (world v.trail kept) o (f x)) is-slow ∙ ap (λ (x : Object). set (world v.trail kept) o x) same

  module _ (maps : MapsAreKept) (details : DetailsRise) (changes : ChangesKeep) (e : Dictionary) (did : Did) (is : after did (world v.trail kept) ≡ set (world v.trail kept) o (dictionary_object e)) where
    step : Stepped v v (Some e) o (dictionary_object e)
    step = slow-step v kept of_null h o e no-map

    -- the world is the one where this was done
    pub slow-world : world v.trail (set kept o (Some e)) ≡ after did (world v.trail kept)
    slow-world = stepped-world maps details v v kept of_null h (Some e) o (dictionary_object e) there step ∙ sym is

    -- and what holds of objects holds
    pub slow-sound : MayDo (tables_of v kept) did → IsObjects v (set kept o (Some e)) of_null
    slow-sound may = stepped-sound maps details v v kept of_null h (Some e) o (dictionary_object e) there step refl
        (subst (λ (w : World). IsKept (with_world (tables_of v kept) w)) is (changes (tables_of v kept) did h.sound may))

  -- a change that takes no memory
  change-after : (change : Change) → after (did_of o change) (world v.trail kept) ≡ set (world v.trail kept) o (dictionary_object (changed d change))
  change-after (Write i held) = slow-change (changed d (Write i held)) (λ (x : Object). with_list x (held_at x.props i held)) refl
  change-after (Put i p) = slow-change (changed d (Put i p)) (λ (x : Object). with_list x (set x.props i p)) refl
  change-after (Remove i) = slow-change (changed d (Remove i)) (λ (x : Object). with_list x (removed_at x.props i)) refl
  change-after (Link proto) = slow-change (changed d (Link proto)) (λ (x : Object). with_link x proto) refl
  change-after Lock = slow-change (changed d Lock) (λ (x : Object). locked x) refl
  change-after (Restrict frozen) = slow-change (changed d (Restrict frozen)) (λ (x : Object). restricted_object x frozen) refl

  pub change-is : (change : Change) (e : Dictionary) → e ≡ changed d change → after (did_of o change) (world v.trail kept) ≡ set (world v.trail kept) o (dictionary_object e)
  change-is change e is = change-after change ∙ ap (λ (y : Dictionary). set (world v.trail kept) o (dictionary_object y)) (sym is)

  pub may-change : (change : Change) → MayBeSlow (world v.trail kept) o change → MayChange d.props change
  may-change (Write i held) may = kind-there d.props i (kind_of held) (ap (λ (x : Object). kind_at x.props i) (sym is-slow) ∙ may.0)
  may-change (Put i p) may = ap (λ (x : Object). name_at x.props i) (sym is-slow) ∙ may.0
  may-change (Remove i) may = subst (λ (x : Object). i < length x.props) is-slow may
  may-change (Link proto) may = tt
  may-change Lock may = tt
  may-change (Restrict frozen) may = tt

  pub may-do : (change : Change) → MayBeSlow (world v.trail kept) o change → MayDo (tables_of v kept) (did_of o change)
  may-do (Write i held) may = may
  may-do (Put i p) may = may
  may-do (Remove i) may = tt
  may-do (Link proto) may = (subst (λ (n : ℕ). o < n) (sym (length-world v.trail kept)) there, may.0, may.1)
  may-do Lock may = tt
  may-do (Restrict frozen) may = tt

-- nothing is stored: the words, the writer and the pace stay
pub slow-steps : {P : Type 0} (went : P → List Access → List Access → P → Type 0) → ((p : P) (t : List Access) → went p t t p) → (a b : ObjectsState P) → a ≡ b → Lawful a.heap.view.shape a.heap.view.trail → (did : Did) (kept : List (Option Dictionary))
    → world a.heap.view.trail kept ≡ after did (world_of a) → Steps went b did (record a { kept = kept })
slow-steps {P} went stays a b same lawful did kept is =
    let then : ObjectsState P = record a { kept = kept } in
    subst (λ (s : ObjectsState P). Steps went s did then) same (record { world = is; shape = refl; goes = goes-none a.heap.desk; went = stays a.heap.pace a.heap.desk.trail; keeps = facts-none a.heap.view.shape a.heap.view.trail lawful })

-- the dictionary of an object
pub item-is : (kept : List (Option Dictionary)) (o : ℕ) (x : Option Dictionary) (m : Option (MutBor Dictionary)) (r : MutBor Dictionary) → o < length kept → x ≡ get_or kept o x → option_copied_mut m ≡ x → m ≡ Some r → kept_of kept o ≡ Some r.now
item-is kept o x m r lt at copied some = kept-item kept o x lt at ∙ sym copied ∙ ap (λ (y : Option (MutBor Dictionary)). option_copied_mut y) some

-- Results

pub on-ok : {T E : Type 0} (r : Result T E) (A B : Type 0) → (A → B) → OnOk r A → OnOk r B
on-ok (Ok x) A B f h = f h
on-ok (Err e) A B f h = tt

pub either : {T E : Type 0} (r : Result T E) (A B C : Type 0) → (A → C) → (B → C) → OnOk r A → OnErr r B → C
either (Ok x) A B C f g h k = f h
either (Err e) A B C f g h k = g k
