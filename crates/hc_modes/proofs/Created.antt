-- An object is made in steps: it is slow at first, then its prototype becomes one, and then it comes to a root.
use Rattle.hc_modes.specs.Rest.{AreLone, Marks}
use Rattle.std.proofs.Common.{◌≡◌, ◌≢◌, ℕ, zero, suc, ◌+◌, ◌<◌, ◌≤◌, false, List, [], ◌∷◌, ◌++◌, Option, Some, None, IfSome, length, take, refl, sym, ap, ◌∙◌, subst, arith, length-append}
use Rattle.std.specs.Prelude.{IsTrue, option_map}
use Rattle.hc_board.specs.Trail.{Access}
use Rattle.hc_layout.specs.declared.shape.Shape.{Shape}
use Rattle.hc_value.specs.declared.reply.Cause.{Cause}
use Rattle.hc_heap.specs.Writes.{Trail}
use Rattle.hc_heap.specs.Lawful.{Lawful}
use Rattle.hc_heap.specs.Readings.{detail_in, map_in, root_in}
use Rattle.hc_heap.specs.Frames.{goes-none, goes-on}
use Rattle.hc_facts.specs.Laws.{ConstantsStayOn}
use Rattle.hc_heap.specs.States.{View}
use Rattle.hc_tree.specs.declared.need.Need.{Need}
use Rattle.hc_tree.specs.Growth.{MayBePrototype, root_of, root_need}
use Rattle.hc_tree.specs.Needs.{HasSpace, with_need}
use Rattle.hc_table.specs.Changes.{Did, Created, Moved, IsThere}
use Rattle.hc_table.specs.World.{Object, World, new_object, object, with_object}
use Rattle.hc_modes.specs.Becoming.{IsSpare}
use Rattle.hc_modes.specs.Came.{Effect, IsBecome, IsStill, Made, Steps, world_of, HasOwnCopy, HowBecame}
use Rattle.hc_modes.specs.Creating.{IsBegun, IsEntered}
use Rattle.hc_modes.specs.Inheriting.{IsNamed, IsNamedNow, IsSpareOf, if_named, named_need}
use Rattle.hc_modes.specs.Laws.{steps-before, still-refl}
use Rattle.hc_slots.specs.Meaning.{Dictionary, object_shown}
use Rattle.hc_modes.specs.Meaning.{cause_in, kept_of, object_at}
use Rattle.hc_modes.specs.Modes.{Becomes, IsWithin, StaysFast, if_fast, proto_need}
use Rattle.hc_modes.specs.State.{ObjectsState}
use Rattle.hc_modes.specs.Details.{BecameGets, DetailsAre, IfFast}
use Rattle.hc_modes.proofs.Gets.{as-now, details-none}
use Rattle.hc_modes.proofs.Composing.{cause-but, facts-none, facts-on}
use Rattle.hc_modes.proofs.Sound.{below-or}
use Rattle.hc_modes.proofs.Items.{kept-front, kept-past, length-front}
use Rattle.hc_modes.proofs.Worlds.{length-world, object-world, world-same}

-- Needs

-- the same items, and another number of objects
space-less : (v : View) (k : ℕ) (need : Need) → HasSpace (record v { used = record v.used { objects = k } }) need → HasSpace v need
space-less v k need h = record { maps = h.maps; entries = h.entries; fields = h.fields; links = h.links; slots = h.slots }

space-more : (v : View) (k : ℕ) (need : Need) → HasSpace v need → HasSpace (record v { used = record v.used { objects = k } }) need
space-more v k need h = record { maps = h.maps; entries = h.entries; fields = h.fields; links = h.links; slots = h.slots }

-- Modes

becomes-alike : (was now : Option Cause) (first next : Type 0) → (first → next) → (next → first) → Becomes was None first now → Becomes was None next now
becomes-alike (Some c) now first next to back h = h
becomes-alike None now first next to back h = record { stays = (λ e. to (h.stays.0 e), λ room. h.stays.1 (back room)); leaves = h.leaves }

stays-alike : (now : Option Cause) (first next : Type 0) → (first → next) → (next → first) → StaysFast first now → StaysFast next now
stays-alike now first next to back h = record { stays = (λ e. to (h.stays.0 e), λ room. h.stays.1 (back room)); leaves = h.leaves }

-- Worlds

object-before : (w : World) (x : Object) (p : ℕ) → p < length w → object (w ++ x ∷ []) p ≡ object w p
object-before [] x p lt = absurd (omega arith)
object-before (y ∷ ys) x zero lt = refl
object-before (y ∷ ys) x (suc p) lt = object-before ys x p (omega arith)

module _ {P : Type 0} (went : P → List Access → List Access → P → Type 0) (law : (a b c : P) (first second third : List Access) → went a first second b → went b second third c → went a first third c) (constants : ConstantsStayOn) where
  -- something, and then moves
  steps-then : (a b c : ObjectsState P) (did : Did) → Steps went a did b → Steps went b Moved c → Steps went a did c
  steps-then a b c did x y = record {
    world = y.world ∙ x.world;
    shape = y.shape ∙ x.shape;
    goes = goes-on a.heap.desk b.heap.desk c.heap.desk x.goes y.goes;
    went = law a.heap.pace b.heap.pace c.heap.pace a.heap.desk.trail b.heap.desk.trail c.heap.desk.trail x.went y.went;
    keeps = facts-on constants a.heap.view.shape b.heap.view.shape a.heap.view.trail b.heap.view.trail c.heap.view.trail x.shape x.keeps y.keeps;
  }

  module _ (a b : ObjectsState P) (proto : Option ℕ) (o : ℕ) (mid : ObjectsState P) (still : IsStill a mid) (begun : IsBegun went mid proto o b) where
    kept-mid : mid.kept ≡ a.kept
    kept-mid = ap (λ (s : ObjectsState P). s.kept) still.is

    pub begun-number : o ≡ length a.kept
    begun-number = begun.number ∙ ap (λ (ks : List (Option Dictionary)). length ks) kept-mid

    begun-view : b.heap.view ≡ record a.heap.view { used = record a.heap.view.used { objects = o + 1 } }
    begun-view = begun.view ∙ ap (λ (s : ObjectsState P). let v : View = record s.heap.view { used = record s.heap.view.used { objects = o + 1 } } in v) still.is

    begun-trail : b.heap.view.trail ≡ a.heap.view.trail
    begun-trail = ap (λ (v : View). v.trail) begun-view

    begun-item : (p : ℕ) → p ≢ o → kept_of b.kept p ≡ kept_of a.kept p
    begun-item p other = begun.others.others p other ∙ ap (λ (ks : List (Option Dictionary)). kept_of ks p) kept-mid

    begun-cause : (p : ℕ) → p ≢ o → cause_in b.kept p ≡ cause_in a.kept p
    begun-cause p other = cause-but mid.kept b.kept o p begun.others other ∙ ap (λ (ks : List (Option Dictionary)). cause_in ks p) kept-mid

    begun-null : b.of_null ≡ a.of_null
    begun-null = begun.null ∙ ap (λ (s : ObjectsState P). s.of_null) still.is

    begun-steps : Steps went a (Created proto) b
    begun-steps = steps-before went a mid b (Created proto) still begun.steps

    begun-object : (p : ℕ) → p < length (world_of a) → object (world_of b) p ≡ object (world_of a) p
    begun-object p lt = ap (λ (w : World). object w p) begun-steps.world ∙ object-before (world_of a) (new_object proto) p lt

    begun-apart : (p : ℕ) → p < length (world_of a) → p ≢ o
    begun-apart p lt e = omega (arith, lt, e, length-world a.heap.view.trail a.kept, begun-number)

    space-back : (p : ℕ) → HasSpace b.heap.view (proto_need b.heap.view.trail p) → HasSpace a.heap.view (proto_need a.heap.view.trail p)
    space-back p h = space-less a.heap.view (o + 1) (proto_need a.heap.view.trail p) (subst (λ (v : View). HasSpace v (proto_need v.trail p)) begun-view h)

    space-on : (p : ℕ) → HasSpace a.heap.view (proto_need a.heap.view.trail p) → HasSpace b.heap.view (proto_need b.heap.view.trail p)
    space-on p h = subst (λ (v : View). HasSpace v (proto_need v.trail p)) (sym begun-view) (space-more a.heap.view (o + 1) (proto_need a.heap.view.trail p) h)

    -- what was spared before is right then
    spare-by : (p : ℕ) (spare : Option Dictionary) → p < length (world_of a) → IsSpare a p spare → IsSpare b p spare
    spare-by p None lt h = λ fast. space-on p (h (sym (begun-item p (begun-apart p lt)) ∙ fast))
    spare-by p (Some d) lt h = record {
      fast = begun-item p (begun-apart p lt) ∙ h.fast;
      full = λ space. h.full (space-back p space);
      cause = h.cause;
      value = h.value ∙ sym (begun-object p lt);
    }

    -- the prototype became what it would have become
    named-by : (c : ObjectsState P) (x : Option ℕ) → IsThere (world_of a) x → IsNamed b x c → IsNamed a x c
    named-by c (Some p) lt h = becomes-alike (cause_in a.kept p) (cause_in c.kept p) (HasSpace b.heap.view (proto_need b.heap.view.trail p)) (HasSpace a.heap.view (proto_need a.heap.view.trail p))
        (space-back p) (space-on p)
        (subst (λ (y : Option Cause). Becomes y None (HasSpace b.heap.view (proto_need b.heap.view.trail p)) (cause_in c.kept p)) (begun-cause p (begun-apart p lt)) h)
    named-by c None lt h = tt

  pub spare-on : (a b : ObjectsState P) (proto : Option ℕ) (o : ℕ) (mid : ObjectsState P) → IsStill a mid → IsBegun went mid proto o b → (spare : Option Dictionary) → IsThere (world_of a) proto → IsSpareOf a proto spare → IsSpareOf b proto spare
  spare-on a b (Some p) o mid still begun spare there h = spare-by a b (Some p) o mid still begun p spare there h
  spare-on a b None o mid still begun spare there h = h

  -- an object was made that is slow, and its prototype became one
  pub record IsReady (a : ObjectsState P) (proto : Option ℕ) (o : ℕ) (c : ObjectsState P) : Type 0 where
    pub steps : Steps went a (Created proto) c
    pub number : o ≡ length a.kept
    pub named : IsNamed a proto c
    pub used : c.heap.view.used ≡ with_need (named_need a proto c) (record a.heap.view.used { objects = o + 1 })
    pub roots : (q : ℕ) → (root_in c.heap.view.trail q).map ≡ (root_in a.heap.view.trail q).map
    pub marked : (q : ℕ) → proto ≡ Some q → IsTrue (root_in c.heap.view.trail q).is_proto
    pub protos : (q : ℕ) → (proto ≡ Some q → ⊥) → (root_in c.heap.view.trail q).is_proto ≡ (root_in a.heap.view.trail q).is_proto
    pub causes : (q : ℕ) → q ≢ o → (proto ≡ Some q → ⊥) → cause_in c.kept q ≡ cause_in a.kept q
    pub null : c.of_null ≡ a.of_null

  pub ready : (a b c : ObjectsState P) (proto : Option ℕ) (o : ℕ) (mid : ObjectsState P) → IsStill a mid → IsBegun went mid proto o b → IsThere (world_of a) proto → IsNamedNow went b proto c → IsReady a proto o c
  ready a b c proto o mid still begun there it =
      let trail = begun-trail a b proto o mid still begun in
      record {
        steps = steps-then a b c (Created proto) (begun-steps a b proto o mid still begun) it.steps;
        number = begun-number a b proto o mid still begun;
        named = named-by a b proto o mid still begun c proto there it.mode;
        used = it.used ∙ ap (λ (v : View). with_need (if_named proto (λ p. if_fast (cause_in c.kept p) (proto_need v.trail p))) v.used) (begun-view a b proto o mid still begun);
        roots = λ q. it.roots q ∙ ap (λ (t : Trail). (root_in t q).map) trail;
        marked = λ q e. let named : IfSome (Some q) (λ p. IsTrue (root_in c.heap.view.trail p).is_proto) = subst (λ (x : Option ℕ). IfSome x (λ p. IsTrue (root_in c.heap.view.trail p).is_proto)) e it.named in named;
        protos = λ q unnamed. it.protos q unnamed ∙ ap (λ (t : Trail). (root_in t q).is_proto) trail;
        causes = λ q other unnamed. ap (λ (d : Option Dictionary). option_map (λ x. x.cause) d) (it.others q unnamed) ∙ begun-cause a b proto o mid still begun q other;
        null = it.null ∙ begun-null a b proto o mid still begun;
      }

  module _ (a c : ObjectsState P) (proto : Option ℕ) (o : ℕ) (there : IsThere (world_of a) proto) (is : IsReady a proto o c) where
    -- the object is there, and was never a prototype, while its prototype is one
    pub ready-there : o < length (world_of c)
    ready-there =
        let count : length (world_of c) ≡ length (world_of a ++ new_object proto ∷ []) = ap (λ (w : World). length w) is.steps.world in
        omega (arith, count, length-object (world_of a) (new_object proto), is.number, length-world a.heap.view.trail a.kept)
      where
        length-object : (w : World) (x : Object) → length (w ++ x ∷ []) ≡ length w + 1
        length-object [] x = refl
        length-object (y ∷ ys) x = let e : length (ys ++ x ∷ []) ≡ length ys + 1 = length-object ys x in omega (arith, e)

    pub ready-shared : (root_in a.heap.view.trail o).is_proto ≡ false → (root_in c.heap.view.trail o).is_proto ≡ false
    ready-shared shared = is.protos o (λ e. unnamed proto there e) ∙ shared
      where
        unnamed : (x : Option ℕ) → IsThere (world_of a) x → x ≡ Some o → ⊥
        unnamed (Some p) lt e = let same : p ≡ o = cc in omega (arith, lt, same, is.number, length-world a.heap.view.trail a.kept)
        unnamed None lt e = let f : ⊥ = cc in f

    pub ready-proto : MayBePrototype c.heap.view.used c.heap.view.trail proto
    ready-proto = by proto there is.marked
      where
        by : (x : Option ℕ) → IsThere (world_of a) x → ((q : ℕ) → x ≡ Some q → IsTrue (root_in c.heap.view.trail q).is_proto) → MayBePrototype c.heap.view.used c.heap.view.trail x
        by (Some p) lt marked =
            let objects : c.heap.view.used.objects ≡ o + 1 = ap (λ (s : Shape). s.objects) is.used in
            (omega (arith, lt, objects, is.number, length-world a.heap.view.trail a.kept), marked p refl)
        by None lt marked = tt

  -- the state as it is while the object that was made isn't counted
  abbrev before : ℕ → ObjectsState P → ℕ → ObjectsState P
  before n c objects = record {
    heap = record c.heap { view = record c.heap.view { used = record c.heap.view.used { objects = objects } } };
    kept = take n c.kept;
    of_null = c.of_null;
  }

  -- an object was made that is slow
  pub record IsMade (mid : ObjectsState P) (proto : Option ℕ) (o : ℕ) (c : ObjectsState P) : Type 0 where
    pub number : o ≡ length mid.kept
    pub steps : Steps went mid (Created proto) c
    pub view : c.heap.view ≡ record mid.heap.view { used = record mid.heap.view.used { objects = o + 1 } }
    pub null : c.of_null ≡ mid.of_null
    pub causes : (q : ℕ) → q ≢ o → cause_in c.kept q ≡ cause_in mid.kept q

  -- and is fast then where there is room
  pub entered-made : (mid c d : ObjectsState P) (proto : Option ℕ) (o : ℕ) → IsMade mid proto o c → IsEntered went c o proto d → Made went mid (Created proto) d
  entered-made mid c d proto o made entered = record {
    steps = steps-then mid c d (Created proto) made.steps entered.steps;
    modes = record {
      this = subst (λ (n : ℕ). StaysFast (HasSpace mid.heap.view root) (cause_in d.kept n)) made.number
          (stays-alike (cause_in d.kept o) (HasSpace (record mid.heap.view { used = record mid.heap.view.used { objects = o + 1 } }) root) (HasSpace mid.heap.view root)
          (space-less mid.heap.view (o + 1) root) (space-more mid.heap.view (o + 1) root) mode);
      others = λ p lt. let other : p ≢ o = λ e. omega (arith, lt, e, made.number) in cause-but c.kept d.kept o p entered.others other ∙ made.causes p other;
    };
    needs = subst (λ (s : Shape). IsWithin root mid.heap.view.used s) (sym used) (by (cause_in d.kept o));
    protos = λ q. entered.protos q ∙ ap (λ (v : View). (root_in v.trail q).is_proto) made.view;
    details = details-none (λ f. entered.details f ∙ ap (λ (v : View). detail_in v.trail f) made.view);
    marks = record { object = o; none = ap (λ (v : View). map_in v.trail o) (sym made.view) ∙ entered.none; marks = subst (λ (v : View). Marks v.trail d.heap.view.trail o) made.view entered.marks };
  }
    where
      root : Need
      root = root_need (root_of mid.heap.view.trail proto mid.of_null)

      same : root_need (root_of c.heap.view.trail proto c.of_null) ≡ root
      same = ap (λ (v : View). root_need (root_of v.trail proto c.of_null)) made.view ∙ ap (λ (n : Option ℕ). root_need (root_of mid.heap.view.trail proto n)) made.null

      mode : StaysFast (HasSpace (record mid.heap.view { used = record mid.heap.view.used { objects = o + 1 } }) root) (cause_in d.kept o)
      mode = subst (λ (v : View). StaysFast (HasSpace v root) (cause_in d.kept o)) made.view (subst (λ (k : Need). StaysFast (HasSpace c.heap.view k) (cause_in d.kept o)) same entered.mode)

      used : d.heap.view.used ≡ with_need (if_fast (cause_in d.kept o) root) (record mid.heap.view.used { objects = o + 1 })
      used =
          entered.used
          ∙ ap (λ (k : Need). with_need (if_fast (cause_in d.kept o) k) c.heap.view.used) same
          ∙ ap (λ (v : View). with_need (if_fast (cause_in d.kept o) root) v.used) made.view

      by : (now : Option Cause) → IsWithin root mid.heap.view.used (with_need (if_fast now root) (record mid.heap.view.used { objects = o + 1 }))
      by None = record { maps = omega arith; entries = omega arith; fields = omega arith; links = omega arith; slots = omega arith; cells = refl; rises = record { maps = omega arith; entries = omega arith; fields = omega arith; links = omega arith; slots = omega arith } }
      by (Some cause) = record { maps = omega arith; entries = omega arith; fields = omega arith; links = omega arith; slots = omega arith; cells = refl; rises = record { maps = omega arith; entries = omega arith; fields = omega arith; links = omega arith; slots = omega arith } }

  module _ (stays : (p : P) (t : List Access) → went p t t p) (a c : ObjectsState P) (proto : Option ℕ) (o : ℕ) (there : IsThere (world_of a) proto) (is : IsReady a proto o c) where
    abbrev mid : ObjectsState P
    mid = before (length a.kept) c a.heap.view.used.objects

    count : length a.kept ≤ length c.kept
    count =
        let was = length-world a.heap.view.trail a.kept in
        let now = length-world c.heap.view.trail c.kept in
        let grown = length-append (world_of a) (new_object proto ∷ []) in
        let same : length (world_of c) ≡ length (world_of a ++ new_object proto ∷ []) = ap (λ (w : World). length w) is.steps.world in
        omega (arith, was, now, grown, same)

    items : length mid.kept ≡ length a.kept
    items = length-front c.kept (length a.kept) count

    cause-front : (q : ℕ) → q < length a.kept → cause_in mid.kept q ≡ cause_in c.kept q
    cause-front q lt = ap (λ (d : Option Dictionary). option_map (λ x. x.cause) d) (kept-front c.kept (length a.kept) q lt)

    cause-none : (kept : List (Option Dictionary)) (q : ℕ) → length kept ≤ q → cause_in kept q ≡ None
    cause-none kept q past = ap (λ (d : Option Dictionary). option_map (λ x. x.cause) d) (kept-past kept q past)

    object-same : (q : ℕ) → q < length a.kept → object_at c.heap.view.trail mid.kept q ≡ object_at a.heap.view.trail a.kept q
    object-same q lt =
        ap (λ (d : Option Dictionary). object_shown c.heap.view.trail q d (map_in c.heap.view.trail q)) (kept-front c.kept (length a.kept) q lt)
        ∙ sym (object-world c.heap.view.trail c.kept q (omega (arith, lt, count)))
        ∙ ap (λ (w : World). object w q) is.steps.world
        ∙ object-before (world_of a) (new_object proto) q (let was = length-world a.heap.view.trail a.kept in omega (arith, lt, was))
        ∙ object-world a.heap.view.trail a.kept q lt

    world-mid : world_of mid ≡ world_of a
    world-mid = world-same a.heap.view.trail c.heap.view.trail a.kept mid.kept items object-same

    used-mid : mid.heap.view.used ≡ with_need (named_need a proto c) a.heap.view.used
    used-mid = ap (λ (s : Shape). let r : Shape = record s { objects = a.heap.view.used.objects } in r) is.used

    -- the object that was named is a prototype, before another is made
    pub become-mid : (p : ℕ) → proto ≡ Some p → p < length a.kept → HowBecame a p mid → Lawful c.heap.view.shape c.heap.view.trail → AreLone c.heap.view.trail → IsBecome went a p mid
    become-mid p names lt how lawful lone = record {
      steps = record { world = world-mid; shape = is.steps.shape; goes = is.steps.goes; went = is.steps.went; keeps = is.steps.keeps };
      mode = subst (λ (x : Option Cause). Becomes (cause_in a.kept p) None (HasSpace a.heap.view (proto_need a.heap.view.trail p)) x) (sym (cause-front p lt))
          (subst (λ (x : Option ℕ). IsNamed a x c) names is.named);
      used = used-mid
          ∙ ap (λ (x : Option ℕ). with_need (named_need a x c) a.heap.view.used) names
          ∙ ap (λ (x : Option Cause). with_need (if_fast x (proto_need a.heap.view.trail p)) a.heap.view.used) (sym (cause-front p lt));
      proto = is.marked p names;
      protos = λ q other. is.protos q (λ e. let same : Some p ≡ Some q = sym names ∙ e in let f : q ≡ p = cc in other f);
      others = λ q other. below-or q (length a.kept) (cause_in mid.kept q ≡ cause_in a.kept q)
          (λ below. cause-front q below ∙ is.causes q (λ e. omega (arith, e, below, is.number)) (λ e. let same : Some p ≡ Some q = sym names ∙ e in let f : q ≡ p = cc in other f))
          (λ past. cause-none mid.kept q (omega (arith, past, items)) ∙ sym (cause-none a.kept q past));
      how = how;
      lawful = lawful;
      lone = lone;
    }

    -- and then that is made
    pub made-mid : (p : ℕ) → proto ≡ Some p → Lawful c.heap.view.shape c.heap.view.trail → IsMade mid proto o c
    made-mid p names lawful = record {
      number = is.number ∙ sym items;
      steps = record {
        world = is.steps.world ∙ ap (λ (w : World). with_object w proto) (sym world-mid);
        shape = refl;
        goes = goes-none c.heap.desk;
        went = stays c.heap.pace c.heap.desk.trail;
        keeps = facts-none c.heap.view.shape c.heap.view.trail lawful;
      };
      view = ap (λ (n : ℕ). let v : View = record c.heap.view { used = record c.heap.view.used { objects = n } } in v) (ap (λ (s : Shape). s.objects) is.used);
      null = refl;
      causes = λ q other. below-or q (length a.kept) (cause_in c.kept q ≡ cause_in mid.kept q)
          (λ below. sym (cause-front q below))
          (λ past. cause-none c.kept q (omega (arith, past, full, other, is.number)) ∙ sym (cause-none mid.kept q (omega (arith, past, items))));
    }
      where
        full : length c.kept ≡ length a.kept + 1
        full =
            let was = length-world a.heap.view.trail a.kept in
            let now = length-world c.heap.view.trail c.kept in
            let grown = length-append (world_of a) (new_object proto ∷ []) in
            let same : length (world_of c) ≡ length (world_of a ++ new_object proto ∷ []) = ap (λ (w : World). length w) is.steps.world in
            omega (arith, was, now, grown, same)

  -- an object was made, after its prototype became one
  module _ (stays : (p : P) (t : List Access) → went p t t p) (a b c d : ObjectsState P) (o : ℕ) (still : ObjectsState P) (is_still : IsStill a still) where
    -- it became one as it would have while the object wasn't made
    how-mid : (p : ℕ) → p < length a.kept → IsBegun went still (Some p) o b → HowBecame b p c → HowBecame a p (before (length a.kept) c a.heap.view.used.objects)
    how-mid p lt begun how =
        let view = begun-view a b (Some p) o still is_still begun in
        let front = kept-front c.kept (length a.kept) p lt in
        record {
          marks = subst (λ (t : Trail). Marks t c.heap.view.trail p) (ap (λ (v : View). v.trail) view) how.marks;
          own = λ m is shared. how.own m is (ap (λ (v : View). (root_in v.trail p).is_proto) view ∙ shared);
          details = subst (λ (x : Option Cause). DetailsAre (IfFast x (BecameGets a.heap.view p)) a.heap.view.trail c.heap.view.trail) (ap (λ (d : Option Dictionary). option_map (λ x. x.cause) d) (sym front))
              (as-now (cause_in c.kept p) (BecameGets (record a.heap.view { used = record a.heap.view.used { objects = o + 1 } }) p) (BecameGets a.heap.view p)
              (λ f d k. record { map = k.map; has = k.has; shared = k.shared; gets = k.gets }) (λ f d k. record { map = k.map; has = k.has; shared = k.shared; gets = k.gets })
              (subst (λ (v : View). DetailsAre (IfFast (cause_in c.kept p) (BecameGets v p)) v.trail c.heap.view.trail) view how.details));
          owns = λ m has shared fast. owned p m (how.owns m (ap (λ (v : View). map_in v.trail p) view ∙ has) (ap (λ (v : View). (root_in v.trail p).is_proto) view ∙ shared) (ap (λ (d : Option Dictionary). option_map (λ x. x.cause) d) (sym front) ∙ fast)) view;
        }
      where
        again : (p m : ℕ) → HasOwnCopy (record a.heap.view { used = record a.heap.view.used { objects = o + 1 } }) c.heap.view p m → HasOwnCopy a.heap.view (before (length a.kept) c a.heap.view.used.objects).heap.view p m
        again p m k = record { proto = k.proto; moved = k.moved; copy = k.copy }

        owned : (p m : ℕ) → HasOwnCopy b.heap.view c.heap.view p m → b.heap.view ≡ record a.heap.view { used = record a.heap.view.used { objects = o + 1 } } → HasOwnCopy a.heap.view (before (length a.kept) c a.heap.view.used.objects).heap.view p m
        owned p m own view = again p m (subst (λ (v : View). HasOwnCopy v c.heap.view p m) view own)

    pub created : (proto : Option ℕ) → IsThere (world_of a) proto → IsBegun went still proto o b → IsNamedNow went b proto c → (proto ≡ None → c ≡ b) → IfSome proto (λ p. HowBecame b p c) → Lawful c.heap.view.shape c.heap.view.trail → AreLone c.heap.view.trail → IsEntered went c o proto d → Effect went a (Created proto) d
    created (Some p) there begun named none how lawful lone entered =
        let is : IsReady a (Some p) o c = ready a b c (Some p) o still is_still begun there named in
        let lt : p < length a.kept = (let count = length-world a.heap.view.trail a.kept in omega (arith, there, count)) in
        let mid : ObjectsState P = before (length a.kept) c a.heap.view.used.objects in
        record {
          mid = mid;
          moves = (mid, become-mid stays a c (Some p) o there is p refl lt (how-mid p lt begun how) lawful lone, still-refl mid);
          own = entered-made mid c d (Some p) o (made-mid stays a c (Some p) o there is p refl lawful) entered;
        }
    created None there begun named none how lawful lone entered =
        record {
          mid = a;
          moves = still-refl a;
          own = entered-made a c d None o (subst (λ (s : ObjectsState P). IsMade a None o s) (sym (none refl)) (record {
            number = begun-number a b None o still is_still begun;
            steps = begun-steps a b None o still is_still begun;
            view = begun-view a b None o still is_still begun;
            null = begun-null a b None o still is_still begun;
            causes = λ q other. begun-cause a b None o still is_still begun q other;
          })) entered;
        }
