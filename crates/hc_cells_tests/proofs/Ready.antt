-- Five slow objects stay as they are, and their chains have ends.
use Rattle.std.proofs.Common.{◌≡◌, ℕ, zero, suc, ◌+◌, ◌<◌, ◌≤◌, ◌⊎◌, inl, inr, ⊎_elim, Option, None, Some, IfSome, List, [], ◌∷◌, slice_index_or, refl, sym, ap, ◌∙◌, subst, arith}
use Rattle.std.proofs.lemmas.Bool.{cases_lt}
use Rattle.hc_layout.specs.declared.shape.Shape.{Shape}
use Rattle.hc_layout.specs.declared.shape.Region.TheVariants.{Cells}
use Rattle.hc_heap.specs.Writes.{Write, Trail, Validity}
use Rattle.hc_heap.specs.Readings.{map_in}
use Rattle.hc_heap.specs.Kept.{Adds}
use Rattle.hc_heap.specs.Frames.{same-after}
use Rattle.hc_heap.specs.States.{View, HasRoom}
use Rattle.hc_cells.specs.Chains.{Ends, HaveEnds, proto_by}
use Rattle.hc_cells.specs.Cells.{AreCells, Invalidates, valid_cell, with_cell}
use Rattle.hc_cells_tests.specs.Ready.{IsReady, protos}

module _ (t : Trail) (slow : (o : ℕ) → map_in t o ≡ None) where
  next : (n o : ℕ) → o < 5 → Ends n t protos (slice_index_or protos o None) → Ends (suc n) t protos (Some o)
  next n o there rest = (there, subst (λ (m : Option ℕ). Ends n t protos (proto_by t protos o m)) (sym (slow o)) rest)

  first : (n : ℕ) → Ends (suc (suc n)) t protos (Some 0)
  first n = next (suc n) 0 (omega arith) tt

  pub slow-ends : HaveEnds t protos
  slow-ends zero lt = first 3
  slow-ends (suc zero) lt = next 4 1 (omega arith) (first 2)
  slow-ends (suc (suc zero)) lt = next 4 2 (omega arith) (next 3 1 (omega arith) (first 1))
  slow-ends (suc (suc (suc zero))) lt = next 4 3 (omega arith) (next 3 2 (omega arith) (next 2 1 (omega arith) (first 0)))
  slow-ends (suc (suc (suc (suc zero)))) lt = next 4 4 (omega arith) (first 2)
  slow-ends (suc (suc (suc (suc (suc o))))) lt = absurd (omega arith)

-- no cell
pub cells-none : (used : Shape) → AreCells [] used
cells-none used = record {
  objects = λ c cell e. let no : None ≡ Some cell = e in cc;
  own = λ p c e. let no : None ≡ Some c = e in cc;
  named = λ c p e. let no : None ≡ Some (valid_cell p) = e in cc;
}

module _ (v w : View) (ready : IsReady v) where
  pub ready-same : w ≡ v → IsReady w
  ready-same e = subst IsReady (sym e) ready

  pub ready-made : (o : ℕ) → w ≡ with_cell v o → AreCells w.trail w.used → IsReady w
  ready-made o e cells = record {
    cells = cells;
    slow = λ q. ap (λ (x : View). map_in x.trail q) e ∙ ready.slow q;
    objects = ap (λ (x : View). x.used.objects) e ∙ ready.objects;
  }

  asked : {A B : Type 0} (R : ℕ → Type 0) (o : ℕ) (named : Option ℕ) → IfSome named (λ c. R c × (w ≡ v)) → (named ≡ None → HasRoom v Cells 1 → A × (w ≡ with_cell v o))
      → (named ≡ None → (HasRoom v Cells 1 → ⊥) → B × (w ≡ v)) → (w ≡ v) ⊎ (w ≡ with_cell v o)
  asked R o (Some c) h made none = inl h.1
  asked R o None h made none = ⊎_elim
      (λ (full : v.shape.cells < v.used.cells + 1). inl (none refl (λ room. omega (arith, full, room))).1)
      (λ (room : v.used.cells + 1 ≤ v.shape.cells). inr (made refl room).1)
      (cases_lt v.shape.cells (v.used.cells + 1))

  -- after a cell was asked for
  pub ready-asked : {A B : Type 0} (R : ℕ → Type 0) (o : ℕ) (named : Option ℕ) → IfSome named (λ c. R c × (w ≡ v)) → (named ≡ None → HasRoom v Cells 1 → A × (w ≡ with_cell v o))
      → (named ≡ None → (HasRoom v Cells 1 → ⊥) → B × (w ≡ v)) → AreCells w.trail w.used → IsReady w
  ready-asked R o named h made none cells = ⊎_elim ready-same (λ e. ready-made o e cells) (asked R o named h made none)

  keeps-map : (old : Trail) (ps : List (Option ℕ)) (o q : ℕ) (t : Trail) (x : Write) → Invalidates old ps o t x → map_in (x ∷ t) q ≡ map_in t q
  keeps-map old ps o q t (Validity c cell) h = refl
  keeps-map old ps o q t x h = absurd h

  -- after a change
  pub ready-changed : (ps : List (Option ℕ)) (o : ℕ) → w ≡ record v { trail = w.trail } → Adds (Invalidates v.trail ps o) v.trail w.trail → AreCells w.trail w.used → IsReady w
  ready-changed ps o e writes cells = record {
    cells = cells;
    slow = λ q. same-after (λ t. map_in t q) (keeps-map v.trail ps o q) writes ∙ ready.slow q;
    objects = ap (λ (x : View). x.used.objects) e ∙ ready.objects;
  }
