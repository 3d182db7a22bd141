-- Objects are watched, from their making on.
use Rattle.std.proofs.Common.{◌≡◌, ℕ, zero, suc, ◌≤◌, ◌+◌, Bool, true, false, List, [], ◌∷◌, length, replicate, Option, Some, None, refl, sym, ap, ◌∙◌, subst, arith}
use Rattle.std.specs.Prelude.{IfSome, nat_lt}
use Rattle.std.proofs.lemmas.Bool.Decides.{nat_tests}
use Rattle.hc_board.specs.Trail.{Access}
use Rattle.hc_layout.specs.declared.shape.Region.TheVariants.{Cells}
use Rattle.hc_layout.specs.declared.shape.Shape.{Shape}
use Rattle.hc_heap.specs.Kept.{Adds}
use Rattle.hc_heap.specs.Readings.{validity_in}
use Rattle.hc_heap.specs.States.{HasRoom, View, no_items}
use Rattle.hc_heap.specs.Writes.{Trail}
use Rattle.hc_cells.specs.Cells.{AreCells, Invalidates, cell_after, with_cell}
use Rattle.hc_cells.specs.Watched.{AreWatched}
use Rattle.hc_slots.specs.Listed.{listed}
use Rattle.hc_slots.specs.Meaning.{Dictionary}
use Rattle.hc_modes.specs.Admitting.{IsHonest}
use Rattle.hc_modes.specs.Came.{IsStill}
use Rattle.hc_modes.specs.State.{IsObjects, ObjectsState}
use Rattle.hc_modes.specs.Validity.{OnlyCells, protos_in, protos_of, slow_proto}
use Rattle.hc_objects.specs.Following.{IsInvalidatedAt, WatchedBut}
use Rattle.hc_objects.specs.State.{IsFaithful, IsWatching}
use Rattle.hc_objects.proofs.Alone.{names-stay}

-- loads leave all as it was
pub watching-still : {P : Type 0} (a b : ObjectsState P) (protos : List (Option ℕ)) (marks : List Bool) → IsStill a b → IsWatching a protos marks → IsWatching b protos marks
watching-still {P} a b protos marks still w = subst (λ (s : ObjectsState P). IsWatching s protos marks) (sym still.is) (record { cells = w.cells; told = w.told; watched = w.watched; size = w.size; faithful = w.faithful })

listed-none : (f : ℕ → Option ℕ) (n : ℕ) → ((k : ℕ) → f k ≡ None) → listed f n ≡ replicate n None
listed-none f zero h = refl
listed-none f (suc n) h = ap (λ (x : Option ℕ). x ∷ listed (λ k. f (suc k)) n) (h 0) ∙ ap (λ (xs : List (Option ℕ)). None ∷ xs) (listed-none (λ k. f (suc k)) n (λ k. h (suc k)))

-- there is no object, and no cell
pub watching-none : {P : Type 0} → IsHonest [] → (s : ObjectsState P) (shape : Shape) (protos : List (Option ℕ)) (marks : List Bool) → s.heap.view ≡ record { shape = shape; trail = []; used = no_items } → s.kept ≡ [] → protos ≡ replicate shape.objects None → length marks ≡ shape.objects → IsWatching s protos marks
watching-none {P} honest s shape protos marks view kept none size = record {
  cells = subst (λ (v : View). AreCells v.trail v.used) (sym view) (record {
    objects = λ c cell e. let f : ⊥ = cc in absurd f;
    own = λ p c e. let f : ⊥ = cc in absurd f;
    named = λ c p e. let f : ⊥ = cc in absurd f;
  });
  told = none ∙ sym (listed-none (slow_proto []) shape.objects (λ k. refl)) ∙ sym (ap (λ (v : View). protos_in v.shape.objects []) view) ∙ sym (ap (λ (k : List (Option Dictionary)). protos_in s.heap.view.shape.objects k) kept);
  watched = subst (λ (v : View). AreWatched v.trail protos marks) (sym view) (λ c p o e through. let f : ⊥ = cc in absurd f);
  size = size ∙ sym (ap (λ (v : View). v.shape.objects) view);
  faithful = subst (λ (v : View). IsFaithful v.trail) (sym view) (record { honest = honest; calm = λ o m has proto. let f : ⊥ = cc in absurd f });
}

-- what is told of objects stays where cells alone were written
pub told-alone : {P : Type 0} (went : P → List Access → List Access → P → Type 0) (a b : ObjectsState P) → OnlyCells went a b → protos_of b ≡ protos_of a
told-alone went a b only = ap (λ (n : ℕ). protos_in n b.kept) (ap (λ (s : Shape). s.objects) only.steps.shape) ∙ ap (λ (k : List (Option Dictionary)). protos_in a.heap.view.shape.objects k) only.kept

room-of : (v : View) → nat_lt v.used.cells v.shape.cells ≡ true → HasRoom v Cells 1
room-of v e = grind (arith, nat_tests, e)

no-room : (v : View) → nat_lt v.used.cells v.shape.cells ≡ false → HasRoom v Cells 1 → ⊥
no-room v e room = grind (arith, nat_tests, e, room)

-- one cell at most was handed out
pub few-cells : (v x : View) (o : ℕ) (r named : Option ℕ) → IfSome named (λ c. (r ≡ Some c) × (x ≡ v)) → (named ≡ None → HasRoom v Cells 1 → (r ≡ Some v.used.cells) × (x ≡ with_cell v o))
    → (named ≡ None → (HasRoom v Cells 1 → ⊥) → (r ≡ None) × (x ≡ v)) → x.used.cells ≤ v.used.cells + 1
few-cells v x o r (Some c) same made none = let e : x.used.cells ≡ v.used.cells = ap (λ (w : View). w.used.cells) same.1 in omega (arith, e)
few-cells v x o r None same made none = by (nat_lt v.used.cells v.shape.cells) refl
  where
    by : (test : Bool) → nat_lt v.used.cells v.shape.cells ≡ test → x.used.cells ≤ v.used.cells + 1
    by true e =
        let it : x.used.cells ≡ v.used.cells + 1 = ap (λ (w : View). w.used.cells) (made refl (room-of v e)).1 in
        omega (arith, it)
    by false e =
        let it : x.used.cells ≡ v.used.cells = ap (λ (w : View). w.used.cells) (none refl (λ room. no-room v e room)).1 in
        omega (arith, it)

-- cells were made invalid whose chains go through an object
pub invalidated-some : {P : Type 0} (went : P → List Access → List Access → P → Type 0) (a b : ObjectsState P) (o : ℕ) (protos : List (Option ℕ)) → protos ≡ protos_of a → OnlyCells went a b → IsObjects b.heap.view b.kept b.of_null
    → ((c : ℕ) → validity_in b.heap.view.trail c ≡ cell_after a.heap.view.trail protos o c) → Adds (Invalidates a.heap.view.trail protos o) a.heap.view.trail b.heap.view.trail
    → b.heap.view ≡ record a.heap.view { trail = b.heap.view.trail } → IsInvalidatedAt went a (Some o) b
invalidated-some went a b o protos told only sound after writes view = record {
  only = only;
  sound = sound;
  cells = λ c. after c ∙ ap (λ (ps : List (Option ℕ)). cell_after a.heap.view.trail ps o c) told;
  named = names-stay a.heap.view.trail protos o a.heap.view.trail b.heap.view.trail writes;
  used = ap (λ (v : View). v.used) view;
}

-- marks of the objects on all chains
pub any-but : (at : Option ℕ) (t : Trail) (protos : List (Option ℕ)) (marks : List Bool) → AreWatched t protos marks → WatchedBut at t protos marks
any-but (Some o) t protos marks watched = record { this = λ c p e through. watched c p o e through; others = λ c p x e missed through. watched c p x e through }
any-but None t protos marks watched = watched
