-- What becomes of an object by one change, fast or slow.
use Rattle.std.proofs.Common.{◌≡◌, ◌≢◌, ℕ, zero, suc, ◌<◌, Bool, false, List, [], ◌∷◌, Option, Some, None, IsSome, length, set, refl, sym, ap, ◌∙◌, subst, arith}
use Rattle.std.specs.Prelude.{IsTrue, option_map, slice_get, ⊤}
use Rattle.std.specs.Option.{is_some}
use Rattle.hc_board.specs.Trail.{Access}
use Rattle.hc_value.specs.Prop.{kind_of}
use Rattle.hc_value.specs.declared.key.Key.{Key}
use Rattle.hc_value.specs.declared.prop.Prop.{Prop}
use Rattle.hc_value.specs.declared.reply.Cause.TheVariants.{Reconfigured}
use Rattle.hc_heap.specs.Readings.{detail_in, root_in}
use Rattle.hc_heap.specs.States.{HeapState, View}
use Rattle.hc_heap.specs.Writes.{Trail}
use Rattle.hc_facts.specs.Laws.{ConstantsStayOn}
use Rattle.hc_table.specs.Changes.{Did, Nothing, Moved, Created, Added, Wrote, Reconfigured as Put, Removed, Linked, Locked, Restricted, kind_at, name_at, with_property}
use Rattle.hc_table.specs.World.{World, object, props_at, with_list, with_written, holding, held_at}
use Rattle.hc_modes.specs.Changes.{key_of}
use Rattle.hc_modes.specs.Details.{ChangedGets, DetailsAre, DetailsOf, GetsNothing, WroteGets}
use Rattle.hc_modes.specs.Meaning.{kept_of, world}
use Rattle.hc_slots.specs.Meaning.{Dictionary}
use Rattle.hc_modes.specs.Modes.{AllStay, IsOne, IsReconfigured, Modes, need_of}
use Rattle.hc_modes.specs.State.{IsObjects, ObjectsState}
use Rattle.hc_modes.specs.Came.{IsStill, Steps, Made, MarksOf, world_of}
use Rattle.hc_modes.proofs.Composing.{all-stay, steps-on, still-steps}
use Rattle.hc_modes.proofs.Gets.{details-as, details-none}
use Rattle.hc_modes.proofs.Left.{set-object}
use Rattle.hc_modes.proofs.Marking.{IsOfOne, words-marks}
use Rattle.hc_modes.proofs.Needing.{within-same}
use Rattle.hc_dict.specs.Held.{held-set}

-- whether a dictionary is kept

pub slow-of : (x : Option Dictionary) (b : Bool) → b ≡ is_some x → IsTrue b → IsSome x
slow-of (Some d) b e is = refl
slow-of None b e is = let n : ⊥ = cc in absurd n

pub fast-of : (x : Option Dictionary) (b : Bool) → b ≡ is_some x → b ≡ false → x ≡ None
fast-of (Some d) b e other = let n : ⊥ = cc in absurd n
fast-of None b e other = refl

-- a property of the same key, put in the place of another, is the other that holds something else

key-part : {T : Type 0} (part : Key → T) (x : Option Prop) (p : Prop) → option_map key_of x ≡ Some (key_of p) → option_map (λ q. part (key_of q)) x ≡ Some (part (key_of p))
key-part part (Some q) p e = let same : key_of q ≡ key_of p = cc in ap (λ (k : Key). Some (part k)) same
key-part part None p e = let n : ⊥ = cc in absurd n

-- and of the same kind
pub kind-same : (ps : List Prop) (i : ℕ) (p : Prop) → option_map key_of (slice_get ps i) ≡ Some (key_of p) → kind_at ps i ≡ Some (kind_of p.held)
kind-same ps i p e = key-part (λ k. k.kind) (slice_get ps i) p e

put-by : (ps : List Prop) (i : ℕ) (p : Prop) (x : Option Prop) → slice_get ps i ≡ x → option_map key_of x ≡ Some (key_of p) → set ps i p ≡ held_at ps i p.held
put-by ps i p (Some q) at e =
    let keys : key_of q ≡ key_of p = cc in
    let same : holding q p.held ≡ p = ap (λ (k : Key). let r : Prop = record { name = k.name; attrs = k.attrs; held = p.held } in r) keys in
    ap (λ (r : Prop). set ps i r) (sym same) ∙ held-set ps i q p.held at
put-by ps i p None at e = let n : ⊥ = cc in absurd n

pub put-same : (w : World) (o i : ℕ) (p : Prop) → option_map key_of (slice_get (props_at w o) i) ≡ Some (key_of p) → with_property w o i p ≡ with_written w o i p.held
put-same w o i p e = ap (λ (ps : List Prop). set w o (with_list (object w o) ps)) (put-by (props_at w o) i p (slice_get (props_at w o) i) refl e)

-- a property that is put in its own place
set-itself : (ps : List Prop) (i : ℕ) (p : Prop) → slice_get ps i ≡ Some p → set ps i p ≡ ps
set-itself [] i p e = refl
set-itself (q ∷ ps) zero p e = let same : q ≡ p = cc in ap (λ (x : Prop). x ∷ ps) (sym same)
set-itself (q ∷ ps) (suc i) p e = ap (λ (xs : List Prop). q ∷ xs) (set-itself ps i p e)

put-itself : (w : World) (o i : ℕ) (p : Prop) → o < length w → slice_get (props_at w o) i ≡ Some p → with_property w o i p ≡ w
put-itself w o i p there e =
    ap (λ (ps : List Prop). set w o (with_list (object w o) ps)) (set-itself (props_at w o) i p e)
    ∙ set-object w o (object w o) there refl

-- a property that is given a name is there
pub named-there : (ps : List Prop) (i name : ℕ) → name_at ps i ≡ Some name → i < length ps
named-there [] i name e = let f : ⊥ = cc in absurd f
named-there (q ∷ ps) zero name e = omega arith
named-there (q ∷ ps) (suc i) name e = let lt : i < length ps = named-there ps i name e in omega (arith, lt)

-- the modes after another property was put in the place of one
pub reconfigured-by : {P : Type 0} (a b : ObjectsState P) (o i : ℕ) (p : Prop) → slice_get (props_at (world_of a) o) i ≢ Some p
    → (option_map key_of (slice_get (props_at (world_of a) o) i) ≡ Some (key_of p) → AllStay a b)
    → (option_map key_of (slice_get (props_at (world_of a) o) i) ≢ Some (key_of p) → IsOne a o (Some Reconfigured) ⊤ b) → IsReconfigured a o i p b
reconfigured-by {P} a b o i p differs same other = record { same = same; other = other; none = λ e. absurd (differs e) }

-- the object that it is about is slow
abbrev pub IsOfSlow : Did → List (Option Dictionary) → Type 0
IsOfSlow (Added o p) kept = IsSome (kept_of kept o)
IsOfSlow (Wrote o i held) kept = IsSome (kept_of kept o)
IsOfSlow (Put o i p) kept = IsSome (kept_of kept o)
IsOfSlow _ kept = ⊤

slow-fast : (o : Option Dictionary) → IsSome o → o ≡ None → ⊥
slow-fast (Some d) some e = let f : ⊥ = cc in f
slow-fast None some e = let f : ⊥ = cc in f

-- then no detail changes while the words stay
slow-details : (did : Did) (v : View) (kept : List (Option Dictionary)) (null : Option ℕ) (new : Trail) → IsOfOne did → IsOfSlow did kept → new ≡ v.trail → DetailsOf did v kept null new
slow-details Nothing v kept null new one slow same = details-none (λ f. ap (λ (t : Trail). detail_in t f) same)
slow-details Moved v kept null new one slow same = details-none (λ f. ap (λ (t : Trail). detail_in t f) same)
slow-details (Created proto) v kept null new one slow same = absurd one
slow-details (Added o p) v kept null new one slow same = record { grown = λ may. absurd (slow-fast (kept_of kept o) slow may.fast); nothing = λ none. details-none (λ f. ap (λ (t : Trail). detail_in t f) same) }
slow-details (Wrote o i held) v kept null new one slow same = details-as GetsNothing (WroteGets v.trail kept o i held) (λ f d got. absurd (slow-fast (kept_of kept o) slow got.fast)) (λ f d got. absurd got) (details-none (λ f. ap (λ (t : Trail). detail_in t f) same))
slow-details (Put o i p) v kept null new one slow same = details-as GetsNothing (ChangedGets v.trail kept o i p) (λ f d got. absurd (slow-fast (kept_of kept o) slow got.wrote.fast)) (λ f d got. absurd got) (details-none (λ f. ap (λ (t : Trail). detail_in t f) same))
slow-details (Removed o i) v kept null new one slow same = details-none (λ f. ap (λ (t : Trail). detail_in t f) same)
slow-details (Linked o proto) v kept null new one slow same = absurd one
slow-details (Locked o) v kept null new one slow same = details-none (λ f. ap (λ (t : Trail). detail_in t f) same)
slow-details (Restricted o frozen) v kept null new one slow same = details-none (λ f. ap (λ (t : Trail). detail_in t f) same)

-- a fast object leaves its map for this: of another property, its key is another
abbrev pub IsOfLeaving : Did → Trail → List (Option Dictionary) → Type 0
IsOfLeaving (Put o i p) t kept = option_map key_of (slice_get (props_at (world t kept) o) i) ≢ Some (key_of p)
IsOfLeaving (Removed o i) t kept = ⊤
IsOfLeaving (Locked o) t kept = ⊤
IsOfLeaving (Restricted o frozen) t kept = ⊤
IsOfLeaving _ t kept = ⊥

left-details : (did : Did) (v : View) (kept : List (Option Dictionary)) (null : Option ℕ) (new : Trail) → IsOfLeaving did v.trail kept → DetailsAre GetsNothing v.trail new → DetailsOf did v kept null new
left-details (Put o i p) v kept null new leaves it = details-as GetsNothing (ChangedGets v.trail kept o i p) (λ f d got. absurd (leaves got.same)) (λ f d got. absurd got) it
left-details (Removed o i) v kept null new leaves it = it
left-details (Locked o) v kept null new leaves it = it
left-details (Restricted o frozen) v kept null new leaves it = it
left-details _ v kept null new leaves it = absurd leaves

-- what was done, with its modes

module _ {P : Type 0} (went : P → List Access → List Access → P → Type 0) where
  -- the words stay
  pub slow-made : (a b : ObjectsState P) (did : Did) → IsOfOne did → IsOfSlow did a.kept → Steps went a did b → b.heap ≡ a.heap → Modes a did b → Made went a did b
  slow-made a b did one slow steps heap modes = record {
    steps = steps;
    modes = modes;
    needs = within-same (need_of a did) a.heap.view.used b.heap.view.used (ap (λ (h : HeapState P). h.view.used) heap);
    protos = λ p. ap (λ (h : HeapState P). (root_in h.view.trail p).is_proto) heap;
    marks = words-marks a.heap.view a.kept b.heap.view.trail did one (ap (λ (h : HeapState P). h.view.trail) heap);
    details = slow-details did a.heap.view a.kept a.of_null b.heap.view.trail one slow (ap (λ (h : HeapState P). h.view.trail) heap);
  }

  -- nothing is handed out
  pub fast-made : (a b : ObjectsState P) (did : Did) → Steps went a did b → b.heap.view.used ≡ a.heap.view.used → ((p : ℕ) → (root_in b.heap.view.trail p).is_proto ≡ (root_in a.heap.view.trail p).is_proto) → MarksOf did a.heap.view a.kept b.heap.view.trail → DetailsOf did a.heap.view a.kept a.of_null b.heap.view.trail → Modes a did b → Made went a did b
  fast-made a b did steps used protos marks details modes = record {
    steps = steps;
    modes = modes;
    needs = within-same (need_of a did) a.heap.view.used b.heap.view.used used;
    protos = protos;
    marks = marks;
    details = details;
  }

  -- an object leaves its map, and then the words stay
  pub left-made : ((a b c : P) (first second third : List Access) → went a first second b → went b second third c → went a first third c)
      → ConstantsStayOn → (a b c : ObjectsState P) (did : Did) → Steps went a Moved b → b.heap.view.used ≡ a.heap.view.used → ((p : ℕ) → (root_in b.heap.view.trail p).is_proto ≡ (root_in a.heap.view.trail p).is_proto)
      → MarksOf did a.heap.view a.kept b.heap.view.trail → DetailsAre GetsNothing a.heap.view.trail b.heap.view.trail → IsOfLeaving did a.heap.view.trail a.kept → Steps went b did c → c.heap ≡ b.heap → Modes a did c → Made went a did c
  left-made law constants a b c did moved used protos marks details leaves steps heap modes =
      fast-made a c did (steps-on went law constants a b c did moved steps)
      (ap (λ (h : HeapState P). h.view.used) heap ∙ used)
      (λ p. ap (λ (h : HeapState P). (root_in h.view.trail p).is_proto) heap ∙ protos p)
      (subst (λ (h : HeapState P). MarksOf did a.heap.view a.kept h.view.trail) (sym heap) marks)
      (left-details did a.heap.view a.kept a.of_null c.heap.view.trail leaves (subst (λ (h : HeapState P). DetailsAre GetsNothing a.heap.view.trail h.view.trail) (sym heap) details))
      modes

  -- an equal property was put in the place of one: nothing is done
  pub nothing-put : ((p : P) (t : List Access) → went p t t p) → (a b : ObjectsState P) (o i : ℕ) (p : Prop) → IsObjects a.heap.view a.kept a.of_null → o < length (world_of a) → slice_get (props_at (world_of a) o) i ≡ Some p → IsStill a b → Made went a (Put o i p) b
  nothing-put stays a b o i p sound there same still =
      let moved = still-steps went stays a b sound still in
      record {
        steps = record { world = moved.world ∙ sym (put-itself (world_of a) o i p there same); shape = moved.shape; goes = moved.goes; went = moved.went; keeps = moved.keeps };
        modes = record {
          same = λ e. all-stay a b (ap (λ (s : ObjectsState P). s.kept) still.is);
          other = λ ne. absurd (ne (ap (option_map key_of) same));
          none = λ e. ap (λ (s : ObjectsState P). s.heap.desk.trail) still.is;
        };
        needs = within-same (need_of a (Put o i p)) a.heap.view.used b.heap.view.used (ap (λ (s : ObjectsState P). s.heap.view.used) still.is);
        protos = λ q. ap (λ (s : ObjectsState P). (root_in s.heap.view.trail q).is_proto) still.is;
        marks = words-marks a.heap.view a.kept b.heap.view.trail (Put o i p) tt (ap (λ (s : ObjectsState P). s.heap.view.trail) still.is);
        details = details-as GetsNothing (ChangedGets a.heap.view.trail a.kept o i p) (λ f d got. absurd (got.other same)) (λ f d got. absurd got)
            (details-none (λ f. ap (λ (s : ObjectsState P). detail_in s.heap.view.trail f) still.is));
      }
