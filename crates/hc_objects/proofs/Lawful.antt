-- The laws of operations after which the cells follow.
use Rattle.std.proofs.Common.{◌≡◌, ℕ, ◌+◌, ◌≤◌, List, sym, ap, ◌∙◌, subst, inl, inr}
use Rattle.std.specs.Prelude.{◌⊎◌, Option, Some}
use Rattle.hc_board.specs.Trail.{Access}
use Rattle.hc_layout.specs.Shape.{items_of}
use Rattle.hc_layout.specs.declared.shape.Region.{Region}
use Rattle.hc_layout.specs.declared.shape.Region.TheVariants.{Maps, Entries, Fields, Links, Slots}
use Rattle.hc_layout.specs.declared.shape.Shape.{Shape}
use Rattle.hc_value.specs.declared.reply.Cause.TheVariants.{Space}
use Rattle.hc_facts.specs.Laws.{ConstantsStayOn}
use Rattle.hc_heap.specs.States.{HasRoom, View}
use Rattle.hc_table.specs.Changes.{Did, Nothing, Moved}
use Rattle.hc_slots.specs.Meaning.{Dictionary}
use Rattle.hc_modes.specs.Admitting.{FactsStay}
use Rattle.hc_modes.specs.Came.{Came as CameBare, Moves as MovesBare}
use Rattle.hc_modes.specs.Laws.{came-shape as bare-shape}
use Rattle.hc_modes.specs.Meaning.{cause_in}
use Rattle.hc_modes.specs.Modes.{IsWithin}
use Rattle.hc_modes.specs.Rest.{AreCalm}
use Rattle.hc_modes.specs.Spent.{greatest_need, IsNearlyFull, IsSpent, times}
use Rattle.hc_modes.specs.State.{IsObjects, ObjectsState}
use Rattle.hc_objects.specs.Came.{Came, Followed, IsStill, MadeLive}
use Rattle.hc_objects.specs.Laws.{followed-shape, live-once, over-came, over-once}
use Rattle.hc_objects.proofs.Alone.{alone-calm, facts-on}
use Rattle.hc_objects.proofs.Applied.{sound-still}

module _ {P : Type 0} (went : P → List Access → List Access → P → Type 0) where
  -- What fields say stays true, and the objects are sound afterwards

  record HaveStayed (a b : ObjectsState P) : Type 0 where
    pub facts : FactsStay a.heap.view.shape a.heap.view.trail b.heap.view.trail
    pub shape : b.heap.view.shape ≡ a.heap.view.shape
    pub sound : IsObjects b.heap.view b.kept b.of_null

  module _ (constants : ConstantsStayOn) (law : (a b : ObjectsState P) (did : Did) → IsObjects a.heap.view a.kept a.of_null → CameBare went a did b → FactsStay a.heap.view.shape a.heap.view.trail b.heap.view.trail) where
    stayed-on : (a b c : ObjectsState P) → (IsObjects a.heap.view a.kept a.of_null → HaveStayed a b) → (IsObjects b.heap.view b.kept b.of_null → HaveStayed b c) → IsObjects a.heap.view a.kept a.of_null → HaveStayed a c
    stayed-on a b c x y sound =
        let one = x sound in
        let two = y one.sound in
        record {
          facts = facts-on constants a.heap.view.shape b.heap.view.shape a.heap.view.trail b.heap.view.trail c.heap.view.trail one.shape one.facts two.facts;
          shape = two.shape ∙ one.shape;
          sound = two.sound;
        }

    stayed-by : (a b : ObjectsState P) (did : Did) → Followed went a did b → IsObjects a.heap.view a.kept a.of_null → HaveStayed a b
    stayed-by a b did f sound = record {
      facts = facts-on constants a.heap.view.shape f.bare.heap.view.shape a.heap.view.trail f.bare.heap.view.trail b.heap.view.trail (bare-shape went a f.bare did f.came) (law a f.bare did sound f.came) f.only.steps.keeps;
      shape = followed-shape went a b did f;
      sound = f.stands.objects;
    }

    stayed-still : (a b : ObjectsState P) → IsStill a b → IsObjects a.heap.view a.kept a.of_null → HaveStayed a b
    stayed-still a b still sound = record {
      facts = law a b Nothing sound still;
      shape = ap (λ (s : ObjectsState P). s.heap.view.shape) still.is;
      sound = sound-still a b still sound;
    }

    pub facts-kept : (a b : ObjectsState P) (did : Did) → IsObjects a.heap.view a.kept a.of_null → Came went a did b → FactsStay a.heap.view.shape a.heap.view.trail b.heap.view.trail
    facts-kept a b did sound came = (over-came went (λ n x y. IsObjects x.heap.view x.kept x.of_null → HaveStayed x y) stayed-still (λ m n. stayed-on) (λ m n x y le h. h) (λ x y. stayed-by x y Moved) stayed-by a b did came sound).facts

  -- No map of a prototype becomes unstable

  record HaveCalmed (a b : ObjectsState P) : Type 0 where
    pub calm : AreCalm a.heap.view.trail → AreCalm b.heap.view.trail
    pub sound : IsObjects b.heap.view b.kept b.of_null

  module _ (law : (a b : ObjectsState P) (did : Did) → IsObjects a.heap.view a.kept a.of_null → IsObjects b.heap.view b.kept b.of_null → CameBare went a did b → AreCalm a.heap.view.trail → AreCalm b.heap.view.trail) where
    calmed-on : (a b c : ObjectsState P) → (IsObjects a.heap.view a.kept a.of_null → HaveCalmed a b) → (IsObjects b.heap.view b.kept b.of_null → HaveCalmed b c) → IsObjects a.heap.view a.kept a.of_null → HaveCalmed a c
    calmed-on a b c x y sound =
        let one = x sound in
        let two = y one.sound in
        record { calm = λ calm. two.calm (one.calm calm); sound = two.sound }

    calmed-by : (a b : ObjectsState P) (did : Did) → Followed went a did b → IsObjects a.heap.view a.kept a.of_null → HaveCalmed a b
    calmed-by a b did f sound = record { calm = λ calm. alone-calm went f.bare b f.only (law a f.bare did sound f.sound f.came calm); sound = f.stands.objects }

    calmed-still : (a b : ObjectsState P) → IsStill a b → IsObjects a.heap.view a.kept a.of_null → HaveCalmed a b
    calmed-still a b still sound =
        let after = sound-still a b still sound in
        record { calm = λ calm. law a b Nothing sound after still calm; sound = after }

    pub calm-kept : (a b : ObjectsState P) (did : Did) → IsObjects a.heap.view a.kept a.of_null → IsObjects b.heap.view b.kept b.of_null → Came went a did b → AreCalm a.heap.view.trail → AreCalm b.heap.view.trail
    calm-kept a b did sound_a sound_b came calm = (over-came went (λ n x y. IsObjects x.heap.view x.kept x.of_null → HaveCalmed x y) calmed-still (λ m n. calmed-on) (λ m n x y le h. h) (λ x y. calmed-by x y Moved) calmed-by a b did came sound_a).calm calm

  -- What is handed out

  -- the same counts, but that of cells, which is as it was in the end
  same-used : (a b : ObjectsState P) (did : Did) (f : Followed went a did b) → f.bare.heap.view.used.cells ≡ a.heap.view.used.cells → b.heap.view.used ≡ f.bare.heap.view.used
  same-used a b did f cells =
      f.only.used ∙ ap (λ (n : ℕ). let s : Shape = record f.bare.heap.view.used { cells = n } in s) (f.cells.used ∙ sym cells)

  room-same : (v w : View) → w.used ≡ v.used → w.shape ≡ v.shape → (r : Region) (n : ℕ) → HasRoom w r n → HasRoom v r n
  room-same v w used shape r n room = subst (λ (s : Shape). items_of v.used r + n ≤ items_of s r) shape (subst (λ (s : Shape). items_of s r + n ≤ items_of w.shape r) used room)

  full-same : (v w : View) → w.used ≡ v.used → w.shape ≡ v.shape → IsNearlyFull v → IsNearlyFull w
  full-same v w used shape full space = full (record {
    maps = room-same v w used shape Maps greatest_need.maps space.maps;
    entries = room-same v w used shape Entries greatest_need.entries space.entries;
    fields = room-same v w used shape Fields greatest_need.fields space.fields;
    links = room-same v w used shape Links greatest_need.links space.links;
    slots = room-same v w used shape Slots greatest_need.slots space.slots;
  })

  spent-then : (n : ℕ) (a c b : ObjectsState P) → IsSpent n a c → b.heap.view.used ≡ c.heap.view.used → b.heap.view.shape ≡ c.heap.view.shape → b.kept ≡ c.kept → IsSpent n a b
  spent-then n a c b h used shape kept = record {
    within = subst (λ (s : Shape). IsWithin (times n greatest_need) a.heap.view.used s) (sym used) h.within;
    shape = shape ∙ h.shape;
    space = λ o is. by o (h.space o (sym (ap (λ (k : List (Option Dictionary)). cause_in k o) kept) ∙ is));
  }
    where
      by : (o : ℕ) → (cause_in a.kept o ≡ Some Space) ⊎ IsNearlyFull c.heap.view → (cause_in a.kept o ≡ Some Space) ⊎ IsNearlyFull b.heap.view
      by o (inl was) = inl was
      by o (inr full) = inr (full-same c.heap.view b.heap.view used shape full)

  record HaveSpent (n : ℕ) (a b : ObjectsState P) : Type 0 where
    pub spent : IsSpent n a b
    pub sound : IsObjects b.heap.view b.kept b.of_null

  module _ (one : (a b : ObjectsState P) (did : Did) → IsObjects a.heap.view a.kept a.of_null → CameBare went a did b → IsSpent 2 a b) (moves : (a b : ObjectsState P) → IsObjects a.heap.view a.kept a.of_null → MovesBare went a b → IsSpent 1 a b)
      (none : (n : ℕ) (a : ObjectsState P) → IsSpent n a a) (onward : (m n : ℕ) (a b c : ObjectsState P) → IsSpent m a b → IsSpent n b c → IsSpent (m + n) a c) (more : (m n : ℕ) (a b : ObjectsState P) → m ≤ n → IsSpent m a b → IsSpent n a b) where
    spent-still : (a b : ObjectsState P) → IsStill a b → IsObjects a.heap.view a.kept a.of_null → HaveSpent 0 a b
    spent-still a b still sound = record {
      spent = spent-then 0 a a b (none 0 a) (ap (λ (s : ObjectsState P). s.heap.view.used) still.is) (ap (λ (s : ObjectsState P). s.heap.view.shape) still.is) (ap (λ (s : ObjectsState P). s.kept) still.is);
      sound = sound-still a b still sound;
    }

    spent-on : (m n : ℕ) (a b c : ObjectsState P) → (IsObjects a.heap.view a.kept a.of_null → HaveSpent m a b) → (IsObjects b.heap.view b.kept b.of_null → HaveSpent n b c) → IsObjects a.heap.view a.kept a.of_null → HaveSpent (m + n) a c
    spent-on m n a b c x y sound =
        let first = x sound in
        let second = y first.sound in
        record { spent = onward m n a b c first.spent second.spent; sound = second.sound }

    spent-more : (m n : ℕ) (a b : ObjectsState P) → m ≤ n → (IsObjects a.heap.view a.kept a.of_null → HaveSpent m a b) → IsObjects a.heap.view a.kept a.of_null → HaveSpent n a b
    spent-more m n a b le h sound = let it = h sound in record { spent = more m n a b le it.spent; sound = it.sound }

    spent-by : (n : ℕ) (a b : ObjectsState P) (did : Did) (f : Followed went a did b) → IsSpent n a f.bare → HaveSpent n a b
    spent-by n a b did f it = record { spent = spent-then n a f.bare b it (same-used a b did f it.within.cells) f.only.steps.shape f.only.kept; sound = f.stands.objects }

    pub spent-came : (a b : ObjectsState P) (did : Did) → IsObjects a.heap.view a.kept a.of_null → Came went a did b → IsSpent 4 a b
    spent-came a b did sound came = (over-came went (λ n x y. IsObjects x.heap.view x.kept x.of_null → HaveSpent n x y) spent-still spent-on spent-more
        (λ x y f s. spent-by 1 x y Moved f (moves x f.bare s f.came)) (λ x y d f s. spent-by 2 x y d f (one x f.bare d s f.came)) a b did came sound).spent

    pub spent-live : (a b : ObjectsState P) (o : ℕ) → IsObjects a.heap.view a.kept a.of_null → MadeLive went a o b → IsSpent 1 a b
    spent-live a b o sound made = (over-once went (λ n x y. IsObjects x.heap.view x.kept x.of_null → HaveSpent n x y) spent-still spent-on spent-more
        (λ x y f s. spent-by 1 x y Moved f (moves x f.bare s f.came)) (λ x y d f s. spent-by 2 x y d f (one x f.bare d s f.came)) a b (live-once went a b o made) sound).spent

-- no cell is handed out
pub no-cell : {P : Type 0} (went : P → List Access → List Access → P → Type 0) (a b : ObjectsState P) (did : Did) → Came went a did b → b.heap.view.used.cells ≡ a.heap.view.used.cells
no-cell {P} went a b did came = over-came went (λ n x y. y.heap.view.used.cells ≡ x.heap.view.used.cells) (λ x y still. ap (λ (s : ObjectsState P). s.heap.view.used.cells) still.is) (λ m n x y z h k. k ∙ h) (λ m n x y le h. h)
    (λ x y f. f.cells.used) (λ x y d f. f.cells.used) a b did came
