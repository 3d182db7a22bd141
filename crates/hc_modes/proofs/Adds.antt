-- What an add makes of modes, needs and prototypes, however it is done.
use Rattle.std.proofs.Common.{◌≡◌, ℕ, ◌<◌, ◌≤◌, List, Bool, true, false, cond, Option, Some, None, length, refl, sym, ap, ◌∙◌, subst, rules, arith}
use Rattle.std.specs.Prelude.{nat_lt}
use Rattle.std.proofs.lemmas.Bool.Decides.{nat_tests}
use Rattle.hc_board.specs.Trail.{Access}
use Rattle.hc_layout.specs.declared.capacity.TheConstants.{MAX_FAST}
use Rattle.hc_heap.specs.Readings.{detail_in, root_in}
use Rattle.hc_heap.specs.Writes.{Trail}
use Rattle.hc_value.specs.declared.prop.Prop.{Prop}
use Rattle.hc_value.specs.declared.reply.Cause.{Cause}
use Rattle.hc_value.specs.declared.reply.Cause.TheVariants.{Many, Space}
use Rattle.hc_tree.specs.Needs.{HasSpace}
use Rattle.hc_table.specs.Changes.{Moved, Added}
use Rattle.hc_table.specs.World.{props_at}
use Rattle.hc_modes.specs.Changes.{KeptBut}
use Rattle.hc_slots.specs.Meaning.{Dictionary}
use Rattle.hc_modes.specs.Meaning.{cause_in, kept_of}
use Rattle.hc_modes.specs.Rest.{Marks, MarksBut}
use Rattle.hc_modes.specs.State.{ObjectsState, IsObjects}
use Rattle.hc_modes.specs.Modes.{Becomes, StaysFast, IsOne, IsWithin, add_need, if_many}
use Rattle.hc_modes.specs.Details.{AddKills, AddedDetails, AddedGets, DetailsAre, GetsNothing, MayStay}
use Rattle.hc_modes.specs.Came.{Steps, HasLeft, MayLeave, Made, world_of}
use Rattle.hc_modes.proofs.Composing.{left-one, slow-one, all-stay, cause-but, no-cause}
use Rattle.hc_modes.proofs.Gets.{details-none}
use Rattle.hc_modes.proofs.Marking.{marks-none}
use Rattle.hc_modes.proofs.Needing.{within-same}

module _ {P : Type 0} (went : P → List Access → List Access → P → Type 0) where
  -- a fast object that was to get a property became slow
  pub left-lawful : (a b : ObjectsState P) (o : ℕ) (cause : Cause) → Steps went a Moved b → kept_of a.kept o ≡ None → MayLeave a o cause → cause_in b.kept o ≡ Some cause → KeptBut o a.kept b.kept → b.heap.view.used ≡ a.heap.view.used
      → ((q : ℕ) → (root_in b.heap.view.trail q).is_proto ≡ (root_in a.heap.view.trail q).is_proto) → Marks a.heap.view.trail b.heap.view.trail o → DetailsAre GetsNothing a.heap.view.trail b.heap.view.trail → IsObjects b.heap.view b.kept b.of_null → HasLeft went a o cause b
  left-lawful a b o cause steps fast why slow but used protos marks details sound = record {
    steps = steps;
    fast = no-cause a.kept o fast;
    why = why;
    slow = slow;
    used = used;
    protos = protos;
    others = λ q other. cause-but a.kept b.kept o q but other;
    lawful = sound.heap.lawful;
    marks = marks;
    details = details;
  }

  module _ (a b : ObjectsState P) (o : ℕ) (p : Prop) (steps : Steps went a (Added o p) b) (protos : (q : ℕ) → (root_in b.heap.view.trail q).is_proto ≡ (root_in a.heap.view.trail q).is_proto) where
    n : ℕ
    n = length (props_at (world_of a) o)

    abbrev room : Type 0
    room = HasSpace a.heap.view (add_need a.heap.view.trail o p)

    made-by : MarksBut (AddKills a.heap.view a.kept o p) a.heap.view.trail b.heap.view.trail o → AddedDetails a.heap.view a.kept o p b.heap.view.trail → IsOne a o (if_many (length (props_at (world_of a) o))) room b → IsWithin (add_need a.heap.view.trail o p) a.heap.view.used b.heap.view.used → Made went a (Added o p) b
    made-by marks details modes needs = record {
      steps = steps;
      modes = modes;
      needs = needs;
      protos = protos;
      marks = marks;
      details = details;
    }

    none-marks : (MayStay a.heap.view a.kept o p → ⊥) → Marks a.heap.view.trail b.heap.view.trail o → MarksBut (AddKills a.heap.view a.kept o p) a.heap.view.trail b.heap.view.trail o
    none-marks none it = marks-none (AddKills a.heap.view a.kept o p) o (λ m kills. none kills.stays) it

    none-details : (MayStay a.heap.view a.kept o p → ⊥) → DetailsAre GetsNothing a.heap.view.trail b.heap.view.trail → AddedDetails a.heap.view a.kept o p b.heap.view.trail
    none-details none it = record { grown = λ may. absurd (none may); nothing = λ no. it }

    few-none : length (props_at (world_of a) o) < MAX_FAST → if_many (length (props_at (world_of a) o)) ≡ None
    few-none lt = by (nat_lt (length (props_at (world_of a) o)) MAX_FAST) refl
      where
        by : (c : Bool) → nat_lt (length (props_at (world_of a) o)) MAX_FAST ≡ c → cond c None (Some Many) ≡ None
        by true e = refl
        by false e = let f : ⊥ = search (rules, nat_tests, lt, e) in absurd f

    many : MAX_FAST ≤ length (props_at (world_of a) o) → if_many (length (props_at (world_of a) o)) ≡ Some Many
    many le = by (nat_lt (length (props_at (world_of a) o)) MAX_FAST) refl
      where
        by : (c : Bool) → nat_lt (length (props_at (world_of a) o)) MAX_FAST ≡ c → cond c None (Some Many) ≡ Some Many
        by true e = let f : ⊥ = search (rules, nat_tests, le, e) in absurd f
        by false e = refl

    -- a slow object got it
    pub added-slow : Marks a.heap.view.trail b.heap.view.trail o → (d : Dictionary) → kept_of a.kept o ≡ Some d → b.heap.view.trail ≡ a.heap.view.trail → KeptBut o a.kept b.kept → cause_in b.kept o ≡ cause_in a.kept o → b.heap.view.used ≡ a.heap.view.used → Made went a (Added o p) b
    added-slow marks d slow words but same used = made-by
        (none-marks (λ may. let f : None ≡ Some d = sym may.fast ∙ slow in let g : ⊥ = cc in g) marks)
        (none-details (λ may. let f : None ≡ Some d = sym may.fast ∙ slow in let g : ⊥ = cc in g) (details-none (λ f. ap (λ (t : Trail). detail_in t f) words)))
        (slow-one a b o d (if_many (length (props_at (world_of a) o))) room slow but same)
        (within-same (add_need a.heap.view.trail o p) a.heap.view.used b.heap.view.used used)

    -- a fast one got it, and stayed fast
    pub added-fast : MarksBut (AddKills a.heap.view a.kept o p) a.heap.view.trail b.heap.view.trail o → length (props_at (world_of a) o) < MAX_FAST → room → kept_of a.kept o ≡ None → b.kept ≡ a.kept → DetailsAre (AddedGets a.heap.view o p) a.heap.view.trail b.heap.view.trail → IsWithin (add_need a.heap.view.trail o p) a.heap.view.used b.heap.view.used → Made went a (Added o p) b
    added-fast marks few there fast same details needs = made-by
        marks
        (record { grown = λ may. details; nothing = λ no. absurd (no (record { fast = fast; few = few; room = there })) })
        (record {
          this = subst (λ (c : Option Cause). Becomes c (if_many (length (props_at (world_of a) o))) room (cause_in b.kept o)) (sym (no-cause a.kept o fast))
              (subst (λ (c : Option Cause). Becomes None c room (cause_in b.kept o)) (sym (few-none few))
              (subst (StaysFast room) (sym is) (record { stays = (λ e. there, λ r. refl); leaves = tt })));
          others = λ q other. all-stay a b same q;
        })
        needs
      where
        is : cause_in b.kept o ≡ None
        is = all-stay a b same o ∙ no-cause a.kept o fast

    -- a fast one has as many as it can, and became slow
    pub added-many : Marks a.heap.view.trail b.heap.view.trail o → MAX_FAST ≤ length (props_at (world_of a) o) → kept_of a.kept o ≡ None → DetailsAre GetsNothing a.heap.view.trail b.heap.view.trail → KeptBut o a.kept b.kept → cause_in b.kept o ≡ Some Many → b.heap.view.used ≡ a.heap.view.used → Made went a (Added o p) b
    added-many marks full fast details but is used = made-by
        (none-marks (λ may. let lt = may.few in omega (arith, full, lt)) marks)
        (none-details (λ may. let lt = may.few in omega (arith, full, lt)) details)
        (subst (λ (c : Option Cause). IsOne a o c room b) (sym (many full)) (left-one a b o Many room fast but is))
        (within-same (add_need a.heap.view.trail o p) a.heap.view.used b.heap.view.used used)

    -- a fast one became slow for want of room
    pub added-space : Marks a.heap.view.trail b.heap.view.trail o → length (props_at (world_of a) o) < MAX_FAST → (room → ⊥) → kept_of a.kept o ≡ None → DetailsAre GetsNothing a.heap.view.trail b.heap.view.trail → KeptBut o a.kept b.kept → cause_in b.kept o ≡ Some Space → b.heap.view.used ≡ a.heap.view.used → Made went a (Added o p) b
    added-space marks few none fast details but is used = made-by
        (none-marks (λ may. none may.room) marks)
        (none-details (λ may. none may.room) details)
        (record {
          this = subst (λ (c : Option Cause). Becomes c (if_many (length (props_at (world_of a) o))) room (cause_in b.kept o)) (sym (no-cause a.kept o fast))
              (subst (λ (c : Option Cause). Becomes None c room (cause_in b.kept o)) (sym (few-none few))
              (subst (StaysFast room) (sym is) (record { stays = (λ e. let f : ⊥ = cc in absurd f, λ r. absurd (none r)); leaves = refl })));
          others = λ q other. cause-but a.kept b.kept o q but other;
        })
        (within-same (add_need a.heap.view.trail o p) a.heap.view.used b.heap.view.used used)
