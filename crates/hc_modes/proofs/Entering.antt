-- A new object comes to the root of its prototype, or of null, which is made where there is none.
use Rattle.hc_modes.proofs.Sparing.{no-deaths}
use Rattle.hc_tree.specs.Details.{NoMap}
use Rattle.std.proofs.Common.{◌≡◌, ◌∷◌, ℕ, ◌<◌, Bool, true, false, cond, eqb, eqb-true, eq-eqb, true≢false, List, Option, Some, None, IfSome, length, set, refl, sym, ap, ◌∙◌, subst, arith}
use Rattle.std.proofs.lemmas.List.{length-set}
use Rattle.std.specs.Prelude.{IsSomeAnd, IsTrue}
use Rattle.hc_layout.specs.declared.shape.Region.TheVariants.{Maps}
use Rattle.hc_layout.specs.declared.shape.Shape.{Shape}
use Rattle.hc_layout.specs.declared.words.GateWord.{GateWord}
use Rattle.hc_layout.specs.declared.words.MapBits.{MapBits}
use Rattle.hc_layout.specs.declared.words.RootWord.{RootWord}
use Rattle.hc_layout.specs.declared.words.StoreWord.{StoreWord}
use Rattle.hc_heap.specs.Writes.{Trail, ObjectMap}
use Rattle.hc_heap.specs.Readings.{detail_in, gate_in, bits_in, map_in, root_in, store_in}
use Rattle.hc_heap.specs.Lawful.{LawfulObjectMap, HoldsEntries}
use Rattle.hc_heap.specs.Kept.{Adds, DetailsRise, FormsAreKept, UnusedSaysNothing}
use Rattle.hc_facts.specs.Laws.{HonestAfter, KeptIsCarried}
use Rattle.hc_heap.specs.Frames.{adds-none, adds-on, goes-on-of}
use Rattle.hc_heap.specs.States.{View, IsHeap, with_write}
use Rattle.hc_descs.specs.Entries.{entries_in}
use Rattle.hc_tree.specs.Growth.{root_of, root_need}
use Rattle.hc_tree.specs.Kept.{MapsAreKept, TreesStay}
use Rattle.hc_tree.specs.Needs.{with_need}
use Rattle.hc_tree.specs.Tree.{gate_with}
use Rattle.hc_table.specs.World.{Object, new_object, object}
use Rattle.hc_modes.specs.Admitting.{FactsStay}
use Rattle.hc_board.specs.Trail.{Access}
use Rattle.hc_value.specs.declared.reply.Cause.{Cause}
use Rattle.hc_value.specs.declared.reply.Cause.TheVariants.{Space}
use Rattle.hc_tree.specs.Needs.{HasSpace}
use Rattle.hc_modes.specs.Came.{IsStill}
use Rattle.hc_modes.specs.Creating.{IsEntered}
use Rattle.hc_modes.specs.Modes.{StaysFast, if_fast}
use Rattle.hc_modes.proofs.Become.{with-none}
use Rattle.hc_modes.proofs.Composing.{still-steps}
use Rattle.hc_modes.proofs.Marking.{cells-kept, words-same}
use Rattle.hc_modes.specs.Changes.{KeptBut, Touches, Changed, IsWell}
use Rattle.hc_slots.specs.Listed.{listed}
use Rattle.hc_slots.specs.Meaning.{Dictionary, is_extensible, object_shown, prop_in, proto_of}
use Rattle.hc_modes.specs.Meaning.{cause_in, kept_of, world}
use Rattle.hc_slots.specs.Slots.{AreHandedOut, IsIn}
use Rattle.hc_modes.specs.State.{AreRoots, IsObjects, ObjectsState}
use Rattle.hc_modes.proofs.Facts.{entered-facts}
use Rattle.hc_modes.proofs.Items.{kept-set, kept-set_here}
use Rattle.hc_modes.proofs.Left.{set-object}
use Rattle.hc_modes.proofs.Owning.{open-used}
use Rattle.hc_slots.specs.Cases.{cond-other, not-both, some-is}
use Rattle.hc_modes.proofs.Rooted.{IsRooted, rooted, rooted-roots}
use Rattle.hc_modes.proofs.Sound.{is-later, others-same, roots-stay, sound-after, still-out, tables-after}
use Rattle.hc_modes.proofs.Staying.{IsLater, later}
use Rattle.hc_modes.proofs.Steps.{move-tree}
use Rattle.hc_modes.proofs.Touching.{map-moved, root-made}
use Rattle.hc_modes.specs.Rest.{Marks}
use Rattle.hc_modes.proofs.Worlds.{length-world, world-set}

-- What the words say after a root was found or made

rooted-touches : (v : View) (o r : ℕ) (proto null x : Option ℕ) → root_of v.trail proto null ≡ x → Adds (Touches v o) v.trail (rooted x v.trail proto r)
rooted-touches v o r proto null None is = root-made NoMap v o v.trail proto r null is
rooted-touches v o r proto null (Some m) is = adds-none v.trail

rooted-map : (t : Trail) (r q : ℕ) (proto x : Option ℕ) → map_in (rooted x t proto r) q ≡ map_in t q
rooted-map t r q proto (Some m) = refl
rooted-map t r q (Some p) None = refl
rooted-map t r q None None = refl

rooted-bits : (t : Trail) (r m : ℕ) (proto x : Option ℕ) → bits_in (rooted x t proto r) m ≡ bits_in t m
rooted-bits t r m proto (Some k) = refl
rooted-bits t r m (Some p) None = refl
rooted-bits t r m None None = refl

rooted-store : (t : Trail) (r q : ℕ) (proto x : Option ℕ) → store_in (rooted x t proto r) q ≡ store_in t q
rooted-store t r q proto (Some m) = refl
rooted-store t r q (Some p) None = refl
rooted-store t r q None None = refl

rooted-detail : (t : Trail) (r f : ℕ) (proto x : Option ℕ) → detail_in (rooted x t proto r) f ≡ detail_in t f
rooted-detail t r f proto (Some m) = refl
rooted-detail t r f (Some p) None = refl
rooted-detail t r f None None = refl

-- no field gets a detail
pub enter-details : (v w : View) (null then proto : Option ℕ) (o r : ℕ) → IsRooted v w null then proto r → (f : ℕ) → detail_in (ObjectMap o (Some r) ∷ w.trail) f ≡ detail_in v.trail f
enter-details v w null then proto o r it f = ap (λ (t : Trail). detail_in t f) it.trail ∙ rooted-detail v.trail r f proto (root_of v.trail proto null)

named-proto : (t : Trail) (p q r : ℕ) (b : Bool) → eqb p q ≡ b → (let w : RootWord = record { is_proto = (root_in t p).is_proto; map = Some r } in cond b w (root_in t q)).is_proto ≡ (root_in t q).is_proto
named-proto t p q r true is = ap (λ (x : ℕ). (root_in t x).is_proto) (eqb-true p q is)
named-proto t p q r false is = refl

pub rooted-proto : (t : Trail) (r q : ℕ) (proto x : Option ℕ) → (root_in (rooted x t proto r) q).is_proto ≡ (root_in t q).is_proto
rooted-proto t r q proto (Some m) = refl
rooted-proto t r q (Some p) None = named-proto t p q r (eqb p q) refl
rooted-proto t r q None None = refl

module _ (maps : MapsAreKept) (details : DetailsRise) (trees : TreesStay) (unused : UnusedSaysNothing) (v w : View) (kept : List (Option Dictionary)) (null then_null proto : Option ℕ) (o r : ℕ)
    (h : IsObjects v kept null) (it : IsRooted v w null then_null proto r) (none : map_in v.trail o ≡ None) (shared : (root_in v.trail o).is_proto ≡ false) where
  w-map : map_in w.trail o ≡ None
  w-map = ap (λ (t : Trail). map_in t o) it.trail ∙ rooted-map v.trail r o proto (root_of v.trail proto null) ∙ none

  w-proto : (q : ℕ) → (root_in w.trail q).is_proto ≡ (root_in v.trail q).is_proto
  w-proto q = ap (λ (t : Trail). (root_in t q).is_proto) it.trail ∙ rooted-proto v.trail r q proto (root_of v.trail proto null)

  -- the object may get the root
  pub enter-lawful : LawfulObjectMap w.shape w.trail o (Some r)
  enter-lawful =
      let lt = open-used unused w it.heap r (gate_with 0 false) it.root.gate in
      let most = it.heap.most Maps in
      record {
        leaves = subst (λ (x : Option ℕ). IfSome x (λ m. IsTrue (bits_in w.trail m).unstable)) (sym w-map) tt;
        gets = record {
          there = omega (arith, lt, most);
          filled = subst (λ (g : Option GateWord). IsSomeAnd g (λ x. HoldsEntries w.trail o r x)) (sym it.root.gate) (record { capacity = omega arith; slots = λ k lt. absurd (omega arith) });
          own = λ on. absurd (true≢false (sym on ∙ w-proto o ∙ shared));
        };
      }

  abbrev new : View
  new = with_write w (ObjectMap o (Some r))

  module _ (heap : IsHeap new) where
    has-it : map_in new.trail o ≡ Some r
    has-it = ap (λ (b : Bool). cond b (Some r) (map_in w.trail o)) (eq-eqb o o refl)

    store-same : store_in new.trail o ≡ store_in v.trail o
    store-same = ap (λ (t : Trail). store_in t o) it.trail ∙ rooted-store v.trail r o proto (root_of v.trail proto null)

    pub enter-proto : (q : ℕ) → (root_in new.trail q).is_proto ≡ (root_in v.trail q).is_proto
    enter-proto q = w-proto q

    slots-same : new.used.slots ≡ v.used.slots
    slots-same = ap (λ (s : Shape). s.slots) it.used ∙ by (root_of v.trail proto null)
      where
        by : (x : Option ℕ) → (with_need (root_need x) v.used).slots ≡ v.used.slots
        by (Some m) = omega arith
        by None = omega arith

    objects-same : new.used.objects ≡ v.used.objects
    objects-same = ap (λ (s : Shape). s.objects) it.used

    changed : Changed v new o
    changed = record {
      writes = adds-on (subst (λ (t : Trail). Adds (Touches v o) v.trail t) (sym it.trail) (rooted-touches v o r proto null (root_of v.trail proto null) refl)) (map-moved NoMap v o w.trail (Some r));
      shape = it.shape;
      slots = omega (arith, slots-same);
      tree = trees w.shape w.trail new.trail it.heap.lawful (goes-on-of w.shape (map-moved NoMap v o w.trail (Some r)) heap.lawful) (move-tree w.trail o (Some r)) it.tree;
      heap = heap;
    }

    -- no map is made unstable
    pub enter-marks : Marks v.trail new.trail o
    enter-marks = record {
      marks = λ m stable unstable. absurd (true≢false (sym unstable ∙ ap (λ (t : Trail). (bits_in t m).unstable) it.trail ∙ ap (λ (b : MapBits). b.unstable) (rooted-bits v.trail r m proto (root_of v.trail proto null)) ∙ stable));
      first = λ m gone stable. let n : None ≡ Some m = sym none ∙ gone.was in let f : ⊥ = cc in absurd f;
      maps = λ q other. cond-other o q (Some r) (map_in w.trail q) (λ e. other (sym e)) ∙ ap (λ (t : Trail). map_in t q) it.trail ∙ rooted-map v.trail r q proto (root_of v.trail proto null);
      own = λ m is has. absurd (true≢false (sym has ∙ enter-proto o ∙ shared));
      cells = cells-kept v new o changed;
      deaths = no-deaths v new o changed;
    }

    after : IsLater v.trail new.trail
    after = is-later maps details v new o h.heap changed

    -- the object has no field to fill
    pub enter-facts : FormsAreKept → HonestAfter → KeptIsCarried → FactsStay v.shape v.trail new.trail
    enter-facts forms honest carried = entered-facts maps details forms v new kept null h o changed honest carried none r has-it it.root.gate

    well : IsWell v new None o
    well = record {
      as_kept = record {
        map = r;
        gate = gate_with 0 false;
        is_map = has-it;
        fast = record {
          is_open = it.root.gate;
          holds = record { capacity = omega arith; slots = λ k lt. absurd (omega arith) };
          private = sym (enter-proto o ∙ shared);
        };
      };
      store = subst (λ (x : StoreWord). AreHandedOut new.used.slots x) (sym store-same) (still-out v.used.slots new.used.slots (store_in v.trail o) changed.slots (h.stores o));
      owns = λ s owns lt. subst (λ (x : StoreWord). IsIn x s) store-same owns;
      alone = λ p m g other is was gate.
          let same : r ≡ m = some-is r m (sym has-it ∙ is) in
          let gates : gate_with 0 false ≡ g = some-is (gate_with 0 false) g (sym it.root.gate ∙ ap (gate_in w.trail) same ∙ gate) in
          sym (ap (λ (x : GateWord). x.is_private) gates);
    }

    value : object_shown new.trail o None (map_in new.trail o) ≡ new_object proto
    value =
        ap (λ (m : Option ℕ). object_shown new.trail o None m) has-it
        ∙ ap (λ (p : Option (Option ℕ)). let x : Object = record { proto = proto_of p; extensible = is_extensible (gate_in new.trail r); props = listed (prop_in new.trail o r) (entries_in (gate_in new.trail r)) } in x) it.root.prototype
        ∙ ap (λ (g : Option GateWord). let x : Object = record { proto = proto; extensible = is_extensible g; props = listed (prop_in new.trail o r) (entries_in g) } in x) it.root.gate

    -- roots stay the ones that are named, where one was made at most
    roots : AreRoots new.trail then_null
    roots =
        let writes = map-moved NoMap w o w.trail (Some r) in
        let on : IsLater w.trail new.trail = later maps details w.shape w.trail new.trail it.heap.lawful (goes-on-of w.shape writes heap.lawful) in
        roots-stay w new.trail o then_null on writes (λ m g none is shared parent. not-both (gate_in w.trail m) g none is) (rooted-roots v w null then_null proto r it h.roots)

    module _ (there : o < length kept) (is : object (world v.trail kept) o ≡ new_object proto) where
      then-world : set (world v.trail kept) o (new_object proto) ≡ world v.trail kept
      then-world = set-object (world v.trail kept) o (new_object proto) (subst (λ (n : ℕ). o < n) (sym (length-world v.trail kept)) there) is

      item-is : kept_of (set kept o None) o ≡ None
      item-is = kept-set_here kept o None there

      -- the world stays
      pub enter-world : world new.trail (set kept o None) ≡ world v.trail kept
      enter-world = world-set v.trail new.trail kept (set kept o None) o (new_object proto) (length-set kept o None)
          (others-same maps details v new o h.heap changed kept (set kept o None) null h (kept-set kept o None))
          (ap (λ (i : Option Dictionary). object_shown new.trail o i (map_in new.trail o)) item-is ∙ value)
          ∙ then-world

      -- and what holds of objects holds
      pub enter-sound : IsObjects new (set kept o None) then_null
      enter-sound = sound-after maps details v new o h.heap changed kept (set kept o None) null h then_null
          (kept-set kept o None)
          (length-set kept o None ∙ h.items ∙ sym objects-same)
          (subst (λ (i : Option Dictionary). IsWell v new i o) (sym item-is) well)
          roots
          (tables-after v new kept (set kept o None) (world v.trail kept) changed.shape enter-world h.sound)

-- there is no room for a root: the object stays slow
module _ {P : Type 0} (went : P → List Access → List Access → P → Type 0) where
  pub unentered : ((p : P) (t : List Access) → went p t t p) → (a b : ObjectsState P) (o : ℕ) (proto : Option ℕ) → IsObjects a.heap.view a.kept a.of_null → IsStill a b → cause_in a.kept o ≡ Some Space → map_in a.heap.view.trail o ≡ None
      → (HasSpace a.heap.view (root_need (root_of a.heap.view.trail proto a.of_null)) → ⊥) → IsEntered went a o proto b
  unentered stays a b o proto sound still slow none full = record {
    steps = still-steps went stays a b sound still;
    mode = subst (λ (s : ObjectsState P). StaysFast (HasSpace a.heap.view (root_need (root_of a.heap.view.trail proto a.of_null))) (cause_in s.kept o)) (sym still.is)
        (subst (λ (x : Option Cause). StaysFast (HasSpace a.heap.view (root_need (root_of a.heap.view.trail proto a.of_null))) x) (sym slow)
        (record { stays = (λ e. let f : ⊥ = cc in absurd f, λ r. absurd (full r)); leaves = refl }));
    used = subst (λ (s : ObjectsState P). s.heap.view.used ≡ with_need (if_fast (cause_in s.kept o) (root_need (root_of a.heap.view.trail proto a.of_null))) a.heap.view.used) (sym still.is)
        (with-none a.heap.view.used ∙ ap (λ (x : Option Cause). with_need (if_fast x (root_need (root_of a.heap.view.trail proto a.of_null))) a.heap.view.used) (sym slow));
    protos = λ q. ap (λ (s : ObjectsState P). (root_in s.heap.view.trail q).is_proto) still.is;
    others = subst (λ (s : ObjectsState P). KeptBut o a.kept s.kept) (sym still.is) (record { others = λ q other. refl; there = λ q other lt. lt });
    none = none;
    marks = subst (λ (s : ObjectsState P). Marks a.heap.view.trail s.heap.view.trail o) (sym still.is) (words-same a.heap.view.trail a.heap.view.trail o refl);
    details = λ f. ap (λ (s : ObjectsState P). detail_in s.heap.view.trail f) still.is;
  }
