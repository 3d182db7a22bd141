-- An object that gets another prototype, after that became one: modes, needs and prototypes.
use Rattle.hc_tree.specs.Details.{NoMap}
use Rattle.hc_modes.specs.Rest.{DeathsAre}
use Rattle.hc_modes.proofs.Sparing.{same-deaths}
use Rattle.std.proofs.Common.{◌≡◌, ◌≢◌, ℕ, zero, suc, ◌<◌, Bool, true, false, cond, eq-eqb, true≢false, List, [], ◌∷◌, Option, Some, None, length, refl, sym, ap, ◌∙◌, subst, arith, IfSome}
use Rattle.std.specs.Prelude.{option_map, if◌then◌else◌}
use Rattle.hc_board.specs.Trail.{Access}
use Rattle.hc_layout.specs.declared.shape.Shape.{Shape}
use Rattle.hc_value.specs.declared.prop.Prop.{Prop}
use Rattle.hc_value.specs.declared.reply.Cause.{Cause}
use Rattle.hc_value.specs.declared.reply.Cause.TheVariants.{Space}
use Rattle.hc_heap.specs.Writes.{Trail}
use Rattle.hc_heap.specs.Lawful.{Lawful}
use Rattle.hc_heap.specs.Readings.{bits_in, detail_in, map_in, root_in}
use Rattle.hc_heap.specs.States.{View, HeapState}
use Rattle.hc_descs.specs.Entries.{count_of}
use Rattle.hc_tree.specs.declared.need.Need.{Need}
use Rattle.hc_tree.specs.Copying.{copy_need}
use Rattle.hc_tree.specs.Growth.{root_of, root_need}
use Rattle.hc_tree.specs.Needs.{HasSpace, no_need, with_need}
use Rattle.hc_facts.specs.Laws.{ConstantsStayOn}
use Rattle.hc_table.specs.Changes.{Moved, Linked, reaches, reaches_among}
use Rattle.hc_table.specs.World.{Object, World, object, props_at}
use Rattle.hc_modes.specs.Becoming.{HasSpare, IsSpare}
use Rattle.hc_modes.specs.Came.{AreMoves, Became, Effect, IsBecome, IsMarked, IsStill, Steps, marked_before, moves_to_link, world_of, HowBecame}
use Rattle.hc_modes.specs.Changes.{KeptBut}
use Rattle.hc_modes.specs.Inheriting.{IsLinkedNow, IsNamed, IsNamedNow, IsSpareFor, IsSpareOf, named_need, spared_named, spared_need}
use Rattle.hc_modes.specs.Laws.{steps-before, still-refl}
use Rattle.hc_slots.specs.Meaning.{Dictionary, fast_props, prop_in}
use Rattle.hc_modes.specs.Meaning.{cause_in, kept_of, world}
use Rattle.hc_modes.specs.Modes.{IsWithin, Becomes, StaysFast, both, if_fast, link_need, need_by, proto_need, walk_need}
use Rattle.hc_modes.specs.Rest.{AreLone, Marks, Relinks}
use Rattle.hc_modes.specs.State.{ObjectsState, IsObjects}
use Rattle.hc_modes.specs.Details.{DetailsAre, GetsNothing, LinkedDetails}
use Rattle.hc_modes.proofs.Gets.{details-none}
use Rattle.hc_modes.proofs.Adding.{map-is}
use Rattle.hc_modes.proofs.Composing.{but-on, cause-but, no-cause, steps-on}
use Rattle.hc_modes.proofs.Marking.{marks-relink, words-same}
use Rattle.hc_modes.proofs.Needing.{within-same}
use Rattle.hc_slots.specs.Listed.{length-listed}
use Rattle.hc_modes.proofs.Writing.{has-map, props-are}

-- Causes

none-kept : (d : Option Dictionary) → option_map (λ x. x.cause) d ≡ None → d ≡ None
none-kept None e = refl
none-kept (Some d) e = let f : ⊥ = cc in absurd f

becomes-same : (was given now : Option Cause) (R S : Type 0) → (R → S) → (S → R) → Becomes was given R now → Becomes was given S now
becomes-same (Some c) given now R S to from h = h
becomes-same None (Some c) now R S to from h = h
becomes-same None None now R S to from h = record { stays = (λ e. to (h.stays.0 e), λ s. h.stays.1 (from s)); leaves = h.leaves }

-- Dictionaries

pub spare-on : (R S : Type 0) (x y : Object) (d : Option Dictionary) → (R → S) → (S → R) → x ≡ y → IsSpareFor R x d → IsSpareFor S y d
spare-on R S x y (Some d) to from same h = record { full = λ s. h.full (from s); cause = h.cause; value = h.value ∙ same }
spare-on R S x y None to from same h = to h

-- Needs

space-to : (v : View) (used : Shape) (k n : Need) → used ≡ with_need k v.used → HasSpace (record v { used = used }) n → HasSpace v (both k n)
space-to v used k n is space =
    let there : HasSpace (record v { used = with_need k v.used }) n = subst (λ (u : Shape). HasSpace (record v { used = u }) n) is space in
    record {
      maps = omega (arith, there.maps);
      entries = omega (arith, there.entries);
      fields = omega (arith, there.fields);
      links = omega (arith, there.links);
      slots = omega (arith, there.slots);
    }

space-from : (v : View) (used : Shape) (k n : Need) → used ≡ with_need k v.used → HasSpace v (both k n) → HasSpace (record v { used = used }) n
space-from v used k n is space = subst (λ (u : Shape). HasSpace (record v { used = u }) n) (sym is) (record {
  maps = omega (arith, space.maps);
  entries = omega (arith, space.entries);
  fields = omega (arith, space.fields);
  links = omega (arith, space.links);
  slots = omega (arith, space.slots);
})

-- the room of a view is a matter of its shape and its counts
space-view : (v w : View) (n : Need) → w.shape ≡ v.shape → HasSpace w n → HasSpace (record v { used = w.used }) n
space-view v w n same h = subst (λ (s : Shape). HasSpace (record { shape = s; trail = v.trail; used = w.used }) n) same (record { maps = h.maps; entries = h.entries; fields = h.fields; links = h.links; slots = h.slots })

view-space : (v w : View) (n : Need) → w.shape ≡ v.shape → HasSpace (record v { used = w.used }) n → HasSpace w n
view-space v w n same h =
    let there : HasSpace (record { shape = w.shape; trail = v.trail; used = w.used }) n = subst (λ (s : Shape). HasSpace (record { shape = s; trail = v.trail; used = w.used }) n) (sym same) h in
    record { maps = there.maps; entries = there.entries; fields = there.fields; links = there.links; slots = there.slots }

-- What an object needs to get another prototype

abbrev linking : Bool → ℕ → Option ℕ → Need
linking b n r = if b then copy_need false None n else both (walk_need n) (root_need r)

link-is : (t : Trail) (o m : ℕ) (proto null : Option ℕ) → map_in t o ≡ Some m → link_need t o proto null ≡ linking (root_in t o).is_proto (count_of t m) (root_of t proto null)
link-is t o m proto null has = ap (λ (h : Option ℕ). need_by h (λ x. linking (root_in t o).is_proto (count_of t x) (root_of t proto null))) has

link-none : (t : Trail) (o : ℕ) (proto null : Option ℕ) → map_in t o ≡ None → link_need t o proto null ≡ no_need
link-none t o proto null none = ap (λ (h : Option ℕ). need_by h (λ x. linking (root_in t o).is_proto (count_of t x) (root_of t proto null))) none

root-same : (t u : Trail) (proto null then_null : Option ℕ) → ((q : ℕ) → (root_in u q).map ≡ (root_in t q).map) → then_null ≡ null → root_of u proto then_null ≡ root_of t proto null
root-same t u None null then_null roots same = same
root-same t u (Some p) null then_null roots same = roots p

-- a fast object has as many properties as its map has entries
count-length : (v : View) (kept : List (Option Dictionary)) (null : Option ℕ) → IsObjects v kept null → (o m : ℕ) → o < length kept → kept_of kept o ≡ None → map_in v.trail o ≡ Some m → count_of v.trail m ≡ length (props_at (world v.trail kept) o)
count-length v kept null h o m there fast has =
    sym (ap (λ (ps : List Prop). length ps) (props-are v kept null h o there fast ∙ ap (λ (x : ℕ). fast_props v.trail o x) (map-is v kept null h o there fast m has)) ∙ length-listed (prop_in v.trail o m) (count_of v.trail m))

pub not-itself : (w : World) (o : ℕ) (proto : Option ℕ) → o < length w → reaches w proto o ≡ false → proto ≢ Some o
not-itself w o proto lt none is = by (length w) refl
  where
    here : reaches w (Some o) o ≡ false
    here = ap (λ (p : Option ℕ). reaches w p o) (sym is) ∙ none

    by : (n : ℕ) → length w ≡ n → ⊥
    by zero e = omega (arith, lt, e)
    by (suc n) e =
        let step : reaches_among (suc n) w (Some o) o ≡ false = subst (λ (k : ℕ). reaches_among k w (Some o) o ≡ false) e here in
        let yes : reaches_among (suc n) w (Some o) o ≡ true = ap (λ (b : Bool). cond b true (reaches_among n w (object w o).proto o)) (eq-eqb o o refl) in
        true≢false (sym yes ∙ step)

module _ {P : Type 0} where
  -- nothing was done: what is named needs the same, and makes the same dictionary
  pub still-spared : (a b : ObjectsState P) → IsStill a b → (proto : Option ℕ) (d : Option Dictionary) → spared_named b proto d ≡ spared_named a proto d
  still-spared a b still None d = refl
  still-spared a b still (Some p) (Some d) = refl
  still-spared a b still (Some p) None = ap (λ (s : ObjectsState P). spared_need s p None) still.is

  pub still-spare : (a b : ObjectsState P) → IsStill a b → (proto : Option ℕ) (d : Option Dictionary) → IsSpareOf a proto d → IsSpareOf b proto d
  still-spare a b still None d h = h
  still-spare a b still (Some p) (Some d) h = subst (λ (s : ObjectsState P). HasSpare s p d) (sym still.is) (record { fast = h.fast; full = h.full; cause = h.cause; value = h.value })
  still-spare a b still (Some p) None h = subst (λ (s : ObjectsState P). IsSpare s p None) (sym still.is) h

  -- what is named needs what was counted
  pub named-is : (a b : ObjectsState P) (proto : Option ℕ) (d : Option Dictionary) → IsSpareOf a proto d → IsNamed a proto b → named_need a proto b ≡ spared_named a proto d
  named-is a b None d spare mode = refl
  named-is a b (Some p) (Some d) spare mode = by (cause_in b.kept p) refl
    where
      stays : StaysFast (HasSpace a.heap.view (proto_need a.heap.view.trail p)) (cause_in b.kept p)
      stays = subst (λ (c : Option Cause). Becomes c None (HasSpace a.heap.view (proto_need a.heap.view.trail p)) (cause_in b.kept p)) (no-cause a.kept p spare.fast) mode

      by : (now : Option Cause) → cause_in b.kept p ≡ now → if_fast now (proto_need a.heap.view.trail p) ≡ no_need
      by None e = absurd (spare.full (stays.stays.0 e))
      by (Some c) e = refl
  named-is a b (Some p) None spare mode = by (cause_in a.kept p) refl
    where
      need : Need
      need = proto_need a.heap.view.trail p

      by : (was : Option Cause) → cause_in a.kept p ≡ was → if_fast (cause_in b.kept p) need ≡ if_fast was need
      by (Some c) e =
          let now : cause_in b.kept p ≡ Some c = subst (λ (x : Option Cause). Becomes x None (HasSpace a.heap.view need) (cause_in b.kept p)) e mode in
          ap (λ (x : Option Cause). if_fast x need) now
      by None e =
          let stays : StaysFast (HasSpace a.heap.view need) (cause_in b.kept p) = subst (λ (x : Option Cause). Becomes x None (HasSpace a.heap.view need) (cause_in b.kept p)) e mode in
          ap (λ (x : Option Cause). if_fast x need) (stays.stays.1 (spare (none-kept (kept_of a.kept p) e)))

  module _ (went : P → List Access → List Access → P → Type 0) where
    -- a fast object still needs the same for another prototype
    pub link-same : (a b : ObjectsState P) (o : ℕ) (proto : Option ℕ) → IsObjects a.heap.view a.kept a.of_null → IsObjects b.heap.view b.kept b.of_null → o < length (world_of a) → o < length a.kept → o < length b.kept → kept_of a.kept o ≡ None → proto ≢ Some o → IsNamedNow went a proto b
        → link_need b.heap.view.trail o proto b.of_null ≡ link_need a.heap.view.trail o proto a.of_null
    link-same a b o proto ha hb lt in_a in_b fast other it =
        let so = has-map a.heap.view a.kept a.of_null ha o in_a fast in
        let fast_b : kept_of b.kept o ≡ None = it.others o other ∙ fast in
        let has_b : map_in b.heap.view.trail o ≡ Some so.map = it.maps o other ∙ so.is_map in
        let count : count_of b.heap.view.trail so.map ≡ count_of a.heap.view.trail so.map =
        count-length b.heap.view b.kept b.of_null hb o so.map in_b fast_b has_b
        ∙ ap (λ (w : World). length (props_at w o)) it.steps.world
        ∙ sym (count-length a.heap.view a.kept a.of_null ha o so.map in_a fast so.is_map) in
        link-is b.heap.view.trail o so.map proto b.of_null has_b
        ∙ ap (λ (x : Bool). linking x (count_of b.heap.view.trail so.map) (root_of b.heap.view.trail proto b.of_null)) (it.protos o other)
        ∙ ap (λ (n : ℕ). linking (root_in a.heap.view.trail o).is_proto n (root_of b.heap.view.trail proto b.of_null)) count
        ∙ ap (λ (r : Option ℕ). linking (root_in a.heap.view.trail o).is_proto (count_of a.heap.view.trail so.map) r) (root-same a.heap.view.trail b.heap.view.trail proto a.of_null b.of_null it.roots it.null)
        ∙ sym (link-is a.heap.view.trail o so.map proto a.of_null so.is_map)

    module _ (a b : ObjectsState P) (o : ℕ) (proto : Option ℕ) (it : IsNamedNow went a proto b) (same : link_need b.heap.view.trail o proto b.of_null ≡ link_need a.heap.view.trail o proto a.of_null) where
      abbrev need : Need
      need = link_need a.heap.view.trail o proto a.of_null

      -- there is room now where there was room for both
      pub room-to : HasSpace b.heap.view (link_need b.heap.view.trail o proto b.of_null) → HasSpace a.heap.view (both (named_need a proto b) (link_need a.heap.view.trail o proto a.of_null))
      room-to space = space-to a.heap.view b.heap.view.used (named_need a proto b) need it.used (space-view a.heap.view b.heap.view need it.steps.shape (subst (HasSpace b.heap.view) same space))

      pub room-from : HasSpace a.heap.view (both (named_need a proto b) (link_need a.heap.view.trail o proto a.of_null)) → HasSpace b.heap.view (link_need b.heap.view.trail o proto b.of_null)
      room-from space = subst (HasSpace b.heap.view) (sym same) (view-space a.heap.view b.heap.view need it.steps.shape (space-from a.heap.view b.heap.view.used (named_need a proto b) need it.used space))

      -- the object's dictionary is right afterwards, too
      pub spare-then : (d slow : Option Dictionary) → IsSpareOf a proto d → IsSpareFor (HasSpace a.heap.view (both (spared_named a proto d) (link_need a.heap.view.trail o proto a.of_null))) (object (world_of a) o) slow
          → IsSpareFor (HasSpace b.heap.view (link_need b.heap.view.trail o proto b.of_null)) (object (world_of b) o) slow
      spare-then d slow spare h =
          spare-on (HasSpace a.heap.view (both (named_need a proto b) (link_need a.heap.view.trail o proto a.of_null))) (HasSpace b.heap.view (link_need b.heap.view.trail o proto b.of_null)) (object (world_of a) o) (object (world_of b) o) slow
          (λ r. room-from r) (λ r. room-to r) (ap (λ (w : World). object w o) (sym it.steps.world))
          (subst (λ (k : Need). IsSpareFor (HasSpace a.heap.view (both k (link_need a.heap.view.trail o proto a.of_null))) (object (world_of a) o) slow) (sym (named-is a b proto d spare it.mode)) h)

    -- what was named is a prototype now
    become-of : (a b : ObjectsState P) (p : ℕ) → IsNamedNow went a (Some p) b → HowBecame a p b → Lawful b.heap.view.shape b.heap.view.trail → AreLone b.heap.view.trail → IsBecome went a p b
    become-of a b p it how lawful lone = record {
      steps = it.steps;
      mode = it.mode;
      used = it.used;
      proto = it.named;
      protos = λ q other. it.protos q (λ e. let same : q ≡ p = cc in other same);
      others = λ q other. ap (λ (d : Option Dictionary). option_map (λ x. x.cause) d) (it.others q (λ e. let same : q ≡ p = cc in other same));
      how = how;
      lawful = lawful;
      lone = lone;
    }

    -- a slow object that was named became one, after a map was made unstable
    pub named-marked : ((p q r : P) (first second third : List Access) → went p first second q → went q second third r → went p first third r) → ConstantsStayOn → (a mid b : ObjectsState P) (o p : ℕ) (cause : Cause)
        → cause_in a.kept p ≡ Some cause → IsMarked went a o mid → IsNamedNow went mid (Some p) b → IsNamedNow went a (Some p) b
    named-marked law constants a mid b o p cause slow marked it =
        let was : cause_in mid.kept p ≡ Some cause = ap (λ (kept : List (Option Dictionary)). cause_in kept p) marked.kept ∙ slow in
        let now : cause_in b.kept p ≡ Some cause = subst (λ (x : Option Cause). Becomes x None (HasSpace mid.heap.view (proto_need mid.heap.view.trail p)) (cause_in b.kept p)) was it.mode in
        record {
          steps = steps-on went law constants a mid b Moved marked.steps it.steps;
          mode = subst (λ (x : Option Cause). Becomes x None (HasSpace a.heap.view (proto_need a.heap.view.trail p)) (cause_in b.kept p)) (sym slow) now;
          used = it.used
              ∙ ap (λ (x : Option Cause). with_need (if_fast x (proto_need mid.heap.view.trail p)) mid.heap.view.used) now
              ∙ ap (λ (s : Shape). with_need no_need s) marked.used
              ∙ ap (λ (x : Option Cause). with_need (if_fast x (proto_need a.heap.view.trail p)) a.heap.view.used) (sym now);
          named = it.named;
          protos = λ q other. it.protos q other ∙ ap (λ r. r.is_proto) (marked.roots q);
          roots = λ q. it.roots q ∙ ap (λ r. r.map) (marked.roots q);
          maps = λ q other. it.maps q other ∙ marked.maps q;
          others = λ q other. it.others q other ∙ ap (λ (kept : List (Option Dictionary)). kept_of kept q) marked.kept;
          null = it.null ∙ marked.null;
        }

    -- an object got another prototype, after the moves before it
    pub linked-effect : (first b c : ObjectsState P) (o : ℕ) (proto : Option ℕ) → AreMoves went first (moves_to_link first o proto) b → IsLinkedNow went b o proto c → Effect went first (Linked o proto) c
    linked-effect first b c o proto moves linked = record {
      mid = b;
      moves = moves;
      own = record {
        steps = linked.steps;
        modes = record { this = linked.mode; others = λ q apart. cause-but b.kept c.kept o q linked.others apart };
        needs = linked.needs;
        protos = linked.protos;
        marks = linked.relinks;
        details = linked.details;
      };
    }

    -- the moves before a slow object gets it
    pub slow-moves : (a b : ObjectsState P) (o : ℕ) (proto : Option ℕ) (cause : Cause) → cause_in a.kept o ≡ Some cause → IsNamedNow went a proto b → (proto ≡ None → b ≡ a) → IfSome proto (λ p. HowBecame a p b) → Lawful b.heap.view.shape b.heap.view.trail → AreLone b.heap.view.trail → AreMoves went a (moves_to_link a o proto) b
    slow-moves a b o (Some p) cause slow it none how lawful lone =
        subst (λ (c : Option Cause). AreMoves went a (marked_before c (cause_in a.kept p) o (Became p ∷ [])) b) (sym slow) (b, become-of a b p it how lawful lone, still-refl b)
    slow-moves a b o None cause slow it none how lawful lone = subst (λ (s : ObjectsState P). IsStill a s) (sym (none refl)) (still-refl a)

    -- and before a fast one does: of a fast object, or of none
    pub fast-moves : (a b : ObjectsState P) (o : ℕ) (proto : Option ℕ) → cause_in a.kept o ≡ None → ((p : ℕ) → proto ≡ Some p → cause_in a.kept p ≡ None) → IsNamedNow went a proto b → (proto ≡ None → b ≡ a) → IfSome proto (λ p. HowBecame a p b) → Lawful b.heap.view.shape b.heap.view.trail → AreLone b.heap.view.trail → AreMoves went a (moves_to_link a o proto) b
    fast-moves a b o (Some p) fast named it none how lawful lone =
        subst (λ (c : Option Cause). AreMoves went a (marked_before c (cause_in a.kept p) o (Became p ∷ [])) b) (sym fast)
        (subst (λ (c : Option Cause). AreMoves went a (marked_before None c o (Became p ∷ [])) b) (sym (named p refl)) (b, become-of a b p it how lawful lone, still-refl b))
    fast-moves a b o None fast named it none how lawful lone = subst (λ (s : ObjectsState P). IsStill a s) (sym (none refl)) (still-refl a)

    -- of a slow object: its map is made unstable before
    pub marked-moves : (a mid b : ObjectsState P) (o p : ℕ) (cause : Cause) → cause_in a.kept o ≡ None → cause_in a.kept p ≡ Some cause → IsMarked went a o mid → IsNamedNow went mid (Some p) b → HowBecame mid p b → Lawful b.heap.view.shape b.heap.view.trail → AreLone b.heap.view.trail → AreMoves went a (moves_to_link a o (Some p)) b
    marked-moves a mid b o p cause fast slow is it how lawful lone =
        subst (λ (c : Option Cause). AreMoves went a (marked_before c (cause_in a.kept p) o (Became p ∷ [])) b) (sym fast)
        (subst (λ (c : Option Cause). AreMoves went a (marked_before None c o (Became p ∷ [])) b) (sym slow) (mid, is, (b, become-of mid b p it how lawful lone, still-refl b)))

    -- a fast object got it, and stayed fast
    pub fast-linked : (a b c : ObjectsState P) (o : ℕ) (proto : Option ℕ) → IsStill a b → kept_of a.kept o ≡ None → HasSpace a.heap.view (link_need a.heap.view.trail o proto a.of_null)
        → Steps went b (Linked o proto) c → IsWithin (link_need b.heap.view.trail o proto b.of_null) b.heap.view.used c.heap.view.used → ((q : ℕ) → (root_in c.heap.view.trail q).is_proto ≡ (root_in b.heap.view.trail q).is_proto) → c.kept ≡ b.kept
        → Relinks b.heap.view.trail c.heap.view.trail o proto → LinkedDetails a.heap.view a.kept a.of_null o proto c.heap.view.trail → IsLinkedNow went a o proto c
    fast-linked a b c o proto still fast space steps needs protos kept relinks details =
        let same : c.kept ≡ a.kept = kept ∙ ap (λ (s : ObjectsState P). s.kept) still.is in
        let now : cause_in c.kept o ≡ None = ap (λ (k : List (Option Dictionary)). cause_in k o) same ∙ no-cause a.kept o fast in
        record {
          steps = steps-before went a b c (Linked o proto) still steps;
          mode = subst (λ (x : Option Cause). Becomes x None (HasSpace a.heap.view (link_need a.heap.view.trail o proto a.of_null)) (cause_in c.kept o)) (sym (no-cause a.kept o fast))
              (subst (StaysFast (HasSpace a.heap.view (link_need a.heap.view.trail o proto a.of_null))) (sym now) (record { stays = (λ e. space, λ r. refl); leaves = tt }));
          needs = subst (λ (s : ObjectsState P). IsWithin (link_need s.heap.view.trail o proto s.of_null) s.heap.view.used c.heap.view.used) still.is needs;
          protos = λ q. protos q ∙ ap (λ (s : ObjectsState P). (root_in s.heap.view.trail q).is_proto) still.is;
          others = subst (λ (k : List (Option Dictionary)). KeptBut o a.kept k) (sym same) (record { others = λ q other. refl; there = λ q other lt. lt });
          relinks = subst (λ (s : ObjectsState P). Relinks s.heap.view.trail c.heap.view.trail o proto) still.is relinks;
          details = details;
        }

    -- a slow object got it
    pub slow-linked : (b c : ObjectsState P) (o : ℕ) (proto : Option ℕ) (d : Dictionary) → kept_of b.kept o ≡ Some d → map_in b.heap.view.trail o ≡ None → Steps went b (Linked o proto) c → c.heap ≡ b.heap → KeptBut o b.kept c.kept → cause_in c.kept o ≡ cause_in b.kept o → IsLinkedNow went b o proto c
    slow-linked b c o proto d slow none steps heap others same =
        let was : cause_in b.kept o ≡ Some d.cause = ap (λ (x : Option Dictionary). option_map (λ y. y.cause) x) slow in
        record {
          steps = steps;
          mode = subst (λ (x : Option Cause). Becomes x None (HasSpace b.heap.view (link_need b.heap.view.trail o proto b.of_null)) (cause_in c.kept o)) (sym was) (same ∙ was);
          needs = within-same (link_need b.heap.view.trail o proto b.of_null) b.heap.view.used c.heap.view.used (ap (λ (h : HeapState P). h.view.used) heap);
          protos = λ q. ap (λ (h : HeapState P). (root_in h.view.trail q).is_proto) heap;
          others = others;
          relinks = marks-relink b.heap.view.trail c.heap.view.trail o proto (ap (λ (h : HeapState P). map_in h.view.trail o) heap ∙ none) (words-same b.heap.view.trail c.heap.view.trail o (ap (λ (h : HeapState P). h.view.trail) heap));
          details = record {
            walked = λ may. let f : None ≡ Some d = sym may.fast ∙ slow in let g : ⊥ = cc in absurd g;
            nothing = λ no. details-none (λ f. ap (λ (h : HeapState P). detail_in h.view.trail f) heap);
            spares = λ no. same-deaths b.heap.view.trail c.heap.view.trail (λ m. ap (λ (h : HeapState P). (bits_in h.view.trail m).deprecated) heap);
          };
        }

    -- a fast one left its map, and got it
    pub left-linked : ((p q r : P) (first second third : List Access) → went p first second q → went q second third r → went p first third r) → ConstantsStayOn → (a b c : ObjectsState P) (o : ℕ) (proto : Option ℕ) (d : Dictionary)
        → kept_of a.kept o ≡ None → (HasSpace a.heap.view (link_need a.heap.view.trail o proto a.of_null) → ⊥) → d.cause ≡ Space
        → Steps went a Moved b → cause_in b.kept o ≡ Some d.cause → KeptBut o a.kept b.kept → b.heap.view.used ≡ a.heap.view.used → ((q : ℕ) → root_in b.heap.view.trail q ≡ root_in a.heap.view.trail q) → Marks a.heap.view.trail b.heap.view.trail o → map_in b.heap.view.trail o ≡ None → DetailsAre GetsNothing a.heap.view.trail b.heap.view.trail
        → Steps went b (Linked o proto) c → c.heap ≡ b.heap → KeptBut o b.kept c.kept → cause_in c.kept o ≡ cause_in b.kept o → IsLinkedNow went a o proto c
    left-linked law constants a b c o proto d fast full space moved cause others used roots marks none details steps heap later same =
        let now : cause_in c.kept o ≡ Some Space = same ∙ cause ∙ ap (λ (x : Cause). Some x) space in
        record {
          steps = steps-on went law constants a b c (Linked o proto) moved steps;
          mode = subst (λ (x : Option Cause). Becomes x None (HasSpace a.heap.view (link_need a.heap.view.trail o proto a.of_null)) (cause_in c.kept o)) (sym (no-cause a.kept o fast))
              (subst (StaysFast (HasSpace a.heap.view (link_need a.heap.view.trail o proto a.of_null))) (sym now) (record { stays = (λ e. let f : ⊥ = cc in absurd f, λ r. absurd (full r)); leaves = refl }));
          needs = within-same (link_need a.heap.view.trail o proto a.of_null) a.heap.view.used c.heap.view.used (ap (λ (h : HeapState P). h.view.used) heap ∙ used);
          protos = λ q. ap (λ (h : HeapState P). (root_in h.view.trail q).is_proto) heap ∙ ap (λ r. r.is_proto) (roots q);
          others = but-on o a.kept b.kept c.kept others later;
          relinks = subst (λ (h : HeapState P). Relinks a.heap.view.trail h.view.trail o proto) (sym heap) (marks-relink a.heap.view.trail b.heap.view.trail o proto none marks);
          details = record {
            walked = λ may. absurd (full may.room);
            nothing = λ no. subst (λ (h : HeapState P). DetailsAre GetsNothing a.heap.view.trail h.view.trail) (sym heap) details;
            spares = λ no. subst (λ (h : HeapState P). DeathsAre NoMap a.heap.view.trail h.view.trail) (sym heap) marks.deaths;
          };
        }
