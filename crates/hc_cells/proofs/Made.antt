-- Cells that were made.
use Rattle.std.proofs.Common.{◌≡◌, ℕ, ◌<◌, Bool, true, false, cond, eqb, eqb-true, eq-eqb, not, Option, Some, None, IfSome, IsSomeAnd, refl, sym, ap, ◌∙◌, subst, arith}
use Rattle.hc_layout.specs.declared.shape.Shape.{Shape}
use Rattle.hc_layout.specs.declared.shape.Region.TheVariants.{Objects}
use Rattle.hc_layout.specs.declared.words.CellWord.{CellWord}
use Rattle.hc_heap.specs.Writes.{Trail}
use Rattle.hc_heap.specs.Readings.{object_cell_in, validity_in}
use Rattle.hc_heap.specs.Lawful.{LawfulValidity}
use Rattle.hc_heap.specs.Kept.{UnusedSaysNothing}
use Rattle.hc_heap.specs.States.{View, IsHeap}
use Rattle.hc_heap.specs.declared.kind.Kind.TheVariants.{StateOfCell}
use Rattle.hc_cells.specs.Cells.{AreCells, if_valid, is_valid, named_cell, valid_cell, with_cell}

-- a cell that is valid, and belongs to a prototype
abbrev cell_with : Bool → ℕ → CellWord
cell_with invalid p = record { invalid = invalid; object = p }

valid-case : (p q : ℕ) (invalid : Bool) → q ≡ p → not invalid ≡ true → Some (cell_with invalid q) ≡ Some (valid_cell p)
valid-case p q true own valid = let no : false ≡ true = valid in cc
valid-case p q false own valid = ap (λ (x : ℕ). Some (valid_cell x)) own

valid-of : (p : ℕ) (v : Option CellWord) → IsSomeAnd v (λ cell. cell.object ≡ p) → is_valid v ≡ true → v ≡ Some (valid_cell p)
valid-of p None own valid = absurd own
valid-of p (Some cell) own valid = valid-case p cell.object cell.invalid own valid

if-case : (p c x : ℕ) (v : Option CellWord) (test : Bool) → is_valid v ≡ test → IsSomeAnd v (λ cell. cell.object ≡ p) → cond test (Some x) None ≡ Some c → x ≡ c × v ≡ Some (valid_cell p)
if-case p c x v true e own h = (let is : Some x ≡ Some c = h in cc, valid-of p v own e)
if-case p c x v false e own h = let no : None ≡ Some c = h in cc

named-by : (t : Trail) (used : Shape) (p c : ℕ) (word : Option ℕ) → AreCells t used → object_cell_in t p ≡ word → if_valid t word ≡ Some c → validity_in t c ≡ Some (valid_cell p)
named-by t used p c None cells is h = let no : None ≡ Some c = h in cc
named-by t used p c (Some x) cells is h =
    let found = if-case p c x (validity_in t x) (is_valid (validity_in t x)) refl (cells.own p x is) h in
    subst (λ (y : ℕ). validity_in t y ≡ Some (valid_cell p)) found.0 found.1

-- the cell that a prototype's word names is a valid one of it
pub named-valid : (t : Trail) (used : Shape) (p c : ℕ) → AreCells t used → named_cell t p ≡ Some c → validity_in t c ≡ Some (valid_cell p)
named-valid t used p c cells h = named-by t used p c (object_cell_in t p) cells refl h

module _ (v : View) (law : UnusedSaysNothing) (heap : IsHeap v) where
  unwritten : validity_in v.trail v.used.cells ≡ None
  unwritten = law v.used v.trail StateOfCell v.used.cells heap.used (omega arith)

  pub new-lawful : (p : ℕ) → p < v.used.objects → LawfulValidity v.shape v.trail v.used.cells (valid_cell p)
  new-lawful p handed = record {
    there = let most = heap.most Objects in omega (arith, handed, most);
    falls = subst (λ (o : Option CellWord). IfSome o (λ old. valid_cell p ≡ record old { invalid = true })) (sym unwritten) tt;
  }

  module _ (p : ℕ) (handed : p < v.used.objects) (cells : AreCells v.trail v.used) (needed : named_cell v.trail p ≡ None) where
    objects-case : (test : Bool) (c : ℕ) (cell : CellWord) → cond test (Some (valid_cell p)) (validity_in v.trail c) ≡ Some cell → cell.object < v.used.objects
    objects-case true c cell e = let is : valid_cell p ≡ cell = cc in let same : p ≡ cell.object = ap (λ (x : CellWord). x.object) is in omega (arith, handed, same)
    objects-case false c cell e = cells.objects c cell e

    old-case : (test : Bool) (q c : ℕ) → eqb v.used.cells c ≡ test → IsSomeAnd (validity_in v.trail c) (λ cell. cell.object ≡ q) → IsSomeAnd (cond test (Some (valid_cell p)) (validity_in v.trail c)) (λ cell. cell.object ≡ q)
    old-case true q c e h = absurd (subst (λ (o : Option CellWord). IsSomeAnd o (λ cell. cell.object ≡ q)) (ap (validity_in v.trail) (sym (eqb-true v.used.cells c e)) ∙ unwritten) h)
    old-case false q c e h = h

    new-case : (q c : ℕ) → p ≡ q → v.used.cells ≡ c → IsSomeAnd (cond (eqb v.used.cells c) (Some (valid_cell p)) (validity_in v.trail c)) (λ cell. cell.object ≡ q)
    new-case q c same is =
        subst (λ (x : ℕ). IsSomeAnd (cond (eqb v.used.cells x) (Some (valid_cell p)) (validity_in v.trail x)) (λ cell. cell.object ≡ q)) is
        (subst (λ (b : Bool). IsSomeAnd (cond b (Some (valid_cell p)) (validity_in v.trail v.used.cells)) (λ cell. cell.object ≡ q)) (sym (itself v.used.cells)) same)
      where
        itself : (n : ℕ) → eqb n n ≡ true
        itself n = eq-eqb n n refl

    own-case : (test : Bool) (q c : ℕ) → eqb p q ≡ test → cond test (Some v.used.cells) (object_cell_in v.trail q) ≡ Some c
        → IsSomeAnd (cond (eqb v.used.cells c) (Some (valid_cell p)) (validity_in v.trail c)) (λ cell. cell.object ≡ q)
    own-case true q c e h = let is : v.used.cells ≡ c = cc in new-case q c (eqb-true p q e) is
    own-case false q c e h = old-case (eqb v.used.cells c) q c refl (cells.own q c h)

    -- a cell that is named and valid isn't missed
    no-case : (c : ℕ) → validity_in v.trail c ≡ Some (valid_cell p) → object_cell_in v.trail p ≡ Some c → ⊥
    no-case c e h =
        let found : named_cell v.trail p ≡ Some c = ap (if_valid v.trail) h ∙ ap (λ (o : Option CellWord). cond (is_valid o) (Some c) None) e in
        let no : None ≡ Some c = sym needed ∙ found in
        cc

    other-case : (test : Bool) (c q : ℕ) → eqb p q ≡ test → validity_in v.trail c ≡ Some (valid_cell q) → cond test (Some v.used.cells) (object_cell_in v.trail q) ≡ Some c
    other-case true c q e h =
        let same : q ≡ p = sym (eqb-true p q e) in
        let here : validity_in v.trail c ≡ Some (valid_cell p) = h ∙ ap (λ (x : ℕ). Some (valid_cell x)) same in
        absurd (no-case c here (cells.named c p here))
    other-case false c q e h = cells.named c q h

    itself : (n : ℕ) → eqb n n ≡ true
    itself n = eq-eqb n n refl

    named-case : (test : Bool) (c q : ℕ) → eqb v.used.cells c ≡ test → cond test (Some (valid_cell p)) (validity_in v.trail c) ≡ Some (valid_cell q)
        → cond (eqb p q) (Some v.used.cells) (object_cell_in v.trail q) ≡ Some c
    named-case true c q e h =
        let is : valid_cell p ≡ valid_cell q = cc in
        let same : p ≡ q = ap (λ (x : CellWord). x.object) is in
        let test : eqb p q ≡ true = ap (eqb p) (sym same) ∙ itself p in
        ap (λ b. cond b (Some v.used.cells) (object_cell_in v.trail q)) test ∙ ap Some (eqb-true v.used.cells c e)
    named-case false c q e h = other-case (eqb p q) c q refl h

    pub cells-made : AreCells (with_cell v p).trail (with_cell v p).used
    cells-made = record {
      objects = λ c cell e. objects-case (eqb v.used.cells c) c cell e;
      own = λ q c e. own-case (eqb p q) q c refl e;
      named = λ c q e. named-case (eqb v.used.cells c) c q refl e;
    }
