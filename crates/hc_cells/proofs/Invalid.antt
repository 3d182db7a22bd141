-- Cells that became invalid.
use Rattle.std.proofs.Common.{◌≡◌, ◌≢◌, ℕ, zero, suc, ◌+◌, ◌*◌, ◌<◌, ◌≤◌, ◌⊎◌, inl, inr, ⊎_elim, Bool, true, false, cond, Option, Some, None, option_map, IfSome, IsSomeAnd, List, ◌∷◌, length, refl, sym, ap, ◌∙◌, subst, add-one, arith}
use Rattle.std.proofs.lemmas.Bool.{cases_lt}
use Rattle.hc_layout.specs.declared.shape.Shape.{Shape}
use Rattle.hc_layout.specs.declared.shape.Region.TheVariants.{Objects}
use Rattle.hc_layout.specs.declared.words.CellWord.{CellWord}
use Rattle.hc_heap.specs.Writes.{Write, Trail, Validity}
use Rattle.hc_heap.specs.Readings.{map_in, prototype_in, object_cell_in, validity_in}
use Rattle.hc_heap.specs.Lawful.{LawfulValidity, AllWithin}
use Rattle.hc_heap.specs.Kept.{Adds, UnusedSaysNothing}
use Rattle.hc_heap.specs.Frames.{adds-none, adds-one, adds-on, adds-wider, same-after}
use Rattle.hc_heap.specs.States.{View, IsHeap}
use Rattle.hc_heap.specs.declared.kind.Kind.TheVariants.{StateOfCell}
use Rattle.hc_cells.specs.Chains.{Ends, HaveEnds, before, chain, chain_among, has, passes, proto_at, proto_by, proto_said}
use Rattle.hc_cells.specs.Cells.{AreCells, Invalidates, cell_after, changed, invalid_cell, loads_of, loads_for, valid_cell}
use Rattle.hc_cells.proofs.Frames.{ends-on}

-- the same prototypes make the same chains
module _ (t u : Trail) (ps : List (Option ℕ)) (same : (q : ℕ) → proto_at u ps q ≡ proto_at t ps q) where
  pub chain-alike : (n : ℕ) (at : Option ℕ) → chain_among n u ps at ≡ chain_among n t ps at
  chain-alike zero None = refl
  chain-alike (suc n) None = refl
  chain-alike zero (Some q) = refl
  chain-alike (suc n) (Some q) = ap (λ os. q ∷ os) (ap (chain_among n u ps) (same q) ∙ chain-alike n (proto_at t ps q))

module _ (old : Trail) (ps : List (Option ℕ)) (o : ℕ) where
  abbrev Class : Trail → Write → Type 0
  Class = Invalidates old ps o

  keeps-map : (q : ℕ) (t : Trail) (w : Write) → Class t w → map_in (w ∷ t) q ≡ map_in t q
  keeps-map q t (Validity c cell) h = refl
  keeps-map q t w h = absurd h

  keeps-prototype : (m : ℕ) (t : Trail) (w : Write) → Class t w → prototype_in (w ∷ t) m ≡ prototype_in t m
  keeps-prototype m t (Validity c cell) h = refl
  keeps-prototype m t w h = absurd h

  keeps-own : (p : ℕ) (t : Trail) (w : Write) → Class t w → object_cell_in (w ∷ t) p ≡ object_cell_in t p
  keeps-own p t (Validity c cell) h = refl
  keeps-own p t w h = absurd h

  changed-object : (cell : CellWord) (test : Bool) → (cond test (invalid_cell cell) cell).object ≡ cell.object
  changed-object cell true = refl
  changed-object cell false = refl

  pub after-object : (n : ℕ) (v : Option CellWord) (cell : CellWord) → option_map (changed old ps o) v ≡ Some cell → ((w : CellWord) → v ≡ Some w → w.object < n) → cell.object < n
  after-object n None cell e h = let no : None ≡ Some cell = e in cc
  after-object n (Some w) cell e h =
      let is : changed old ps o w ≡ cell = cc in
      let before_ : w.object < n = h w refl in
      let same : cell.object ≡ w.object = sym (ap (λ (x : CellWord). x.object) is) ∙ changed-object w (passes old ps w.object o) in
      omega (arith, before_, same)

  pub after-own : (p : ℕ) (v : Option CellWord) → IsSomeAnd v (λ cell. cell.object ≡ p) → IsSomeAnd (option_map (changed old ps o) v) (λ cell. cell.object ≡ p)
  after-own p None h = absurd h
  after-own p (Some w) h = changed-object w (passes old ps w.object o) ∙ h

  after-case : (w : CellWord) (p : ℕ) (test : Bool) → passes old ps w.object o ≡ test → cond test (invalid_cell w) w ≡ valid_cell p → (w ≡ valid_cell p) × (passes old ps p o ≡ false)
  after-case w p true e h = let no : true ≡ false = ap (λ (x : CellWord). x.invalid) h in cc
  after-case w p false e h = (h, sym (ap (λ (x : CellWord). passes old ps x.object o) h) ∙ e)

  -- a cell that is valid afterwards was valid, and its chain didn't go through the object
  pub after-valid : (v : Option CellWord) (p : ℕ) → option_map (changed old ps o) v ≡ Some (valid_cell p) → (v ≡ Some (valid_cell p)) × (passes old ps p o ≡ false)
  after-valid None p h = let no : None ≡ Some (valid_cell p) = h in cc
  after-valid (Some w) p h =
      let is : changed old ps o w ≡ valid_cell p = cc in
      let found = after-case w p (passes old ps w.object o) refl is in
      (ap Some found.0, found.1)

  module _ (now : Trail) (writes : Adds Class old now) where
    proto-by : (q : ℕ) (m : Option ℕ) → proto_by now ps q m ≡ proto_by old ps q m
    proto-by q (Some m) = ap proto_said (same-after (λ t. prototype_in t m) (keeps-prototype m) writes)
    proto-by q None = refl

    proto-same : (q : ℕ) → proto_at now ps q ≡ proto_at old ps q
    proto-same q = ap (λ m. proto_by now ps q m) (same-after (λ t. map_in t q) (keeps-map q) writes) ∙ proto-by q (map_in old q)

    chain-kept : (p : ℕ) → chain now ps p ≡ chain old ps p
    chain-kept p = chain-alike old now ps proto-same (length ps) (Some p)

    passes-kept : (p : ℕ) → passes now ps p o ≡ passes old ps p o
    passes-kept p = ap (λ qs. has qs o) (chain-kept p)

    pub ends-kept : (p : ℕ) → Ends (length ps) old ps (Some p) → Ends (length ps) now ps (Some p)
    ends-kept p ends = ends-on old ps now ps (omega arith) (length ps) (Some p) ends (λ q h. proto-same q)

    pub passes-kept-at : (p x : ℕ) → passes now ps p x ≡ passes old ps p x
    passes-kept-at p x = ap (λ qs. has qs x) (chain-kept p)

    pub own-kept : (p : ℕ) → object_cell_in now p ≡ object_cell_in old p
    own-kept p = same-after (λ t. object_cell_in t p) (keeps-own p) writes

    pub class-kept : (t : Trail) (w : Write) → Invalidates now ps o t w → Class t w
    class-kept t (Validity c cell) h = record { was = h.was; now = h.now; through = sym (passes-kept cell.object) ∙ h.through }
    class-kept t w h = absurd h

    pub after-kept : (v : Option CellWord) → option_map (changed now ps o) v ≡ option_map (changed old ps o) v
    after-kept None = refl
    after-kept (Some cell) = ap (λ b. Some (cond b (invalid_cell cell) cell)) (passes-kept cell.object)

    pub loads-kept : (v : Option CellWord) → loads_of now ps o v ≡ loads_of old ps o v
    loads-kept None = refl
    loads-kept (Some cell) = ap (λ qs. cond cell.invalid 1 (1 + 2 * before qs o)) (chain-kept cell.object)

-- the cells below a number were asked, and those whose chains go through the object made invalid
pub record AreAsked (old : Trail) (ps : List (Option ℕ)) (o : ℕ) (now : Trail) (n start later : ℕ) : Type 0 where
  pub writes : Adds (Invalidates old ps o) old now
  pub below : (c : ℕ) → c < n → validity_in now c ≡ cell_after old ps o c
  pub above : (c : ℕ) → n ≤ c → validity_in now c ≡ validity_in old c
  pub loads : later ≤ start + loads_for old ps o n

if-some : {T : Type 0} (P : T → Type 0) (v : Option T) → ((w : T) → v ≡ Some w → P w) → IfSome v P
if-some P (Some w) h = h w refl
if-some P None h = tt

module _ (old : Trail) (ps : List (Option ℕ)) (o : ℕ) where
  pub asked-none : (start : ℕ) → AreAsked old ps o old 0 start start
  asked-none start = record {
    writes = adds-none old;
    below = λ c lt. absurd (omega arith);
    above = λ c le. refl;
    loads = omega arith;
  }

  module _ (now : Trail) (c start loads : ℕ) (asked : AreAsked old ps o now c start loads) where
    pub ends-now : (v : View) → v.trail ≡ old → AreCells old v.used → v.used.objects ≤ length ps → HaveEnds old ps → IfSome (validity_in now c) (λ cell. Ends (length ps) now ps (Some cell.object))
    ends-now v is cells items ends =
        subst (λ (w : Option CellWord). IfSome w (λ cell. Ends (length ps) now ps (Some cell.object))) (sym (asked.above c (omega arith)))
        (if-some (λ (cell : CellWord). Ends (length ps) now ps (Some cell.object)) (validity_in old c)
        (λ cell is. let there = cells.objects c cell is in ends-kept old ps o now asked.writes cell.object (ends cell.object (omega (arith, there, items)))))

    pub there-now : (v : View) → IsHeap v → AreCells old v.used → IfSome (validity_in now c) (λ cell. cell.object < v.shape.objects)
    there-now v heap cells =
        subst (λ (w : Option CellWord). IfSome w (λ cell. cell.object < v.shape.objects)) (sym (asked.above c (omega arith)))
        (if-some (λ (cell : CellWord). cell.object < v.shape.objects) (validity_in old c)
        (λ cell is. let there = cells.objects c cell is in let most = heap.most Objects in omega (arith, there, most)))

    pub asked-more : (next : Trail) (later : ℕ) → Adds (Invalidates now ps o) now next → validity_in next c ≡ cell_after now ps o c
        → ((x : ℕ) → x ≢ c → validity_in next x ≡ validity_in now x) → later ≤ loads + loads_of now ps o (validity_in now c) → AreAsked old ps o next (c + 1) start later
    asked-more next later writes here others more =
        let same = asked.above c (omega arith) in
        let sum = asked.loads in
        let one : loads_of now ps o (validity_in now c) ≡ loads_of old ps o (validity_in old c) =
        loads-kept old ps o now asked.writes (validity_in now c) ∙ ap (loads_of old ps o) same in
        let total : loads_for old ps o (c + 1) ≡ loads_for old ps o c + loads_of old ps o (validity_in old c) = rw add-one refl in
        record {
          writes = adds-on asked.writes (adds-wider (class-kept old ps o now asked.writes) writes);
          below = λ x lt. ⊎_elim
              (λ (less : x < c). let other : x ≢ c = omega (arith, less) in others x other ∙ asked.below x less)
              (λ (is : x ≡ c). ap (validity_in next) is ∙ here ∙ after-kept old ps o now asked.writes (validity_in now c)
              ∙ ap (option_map (changed old ps o)) same ∙ sym (ap (cell_after old ps o) is))
              (split x c lt);
          above = λ x le. let other : x ≢ c = omega (arith, le) in others x other ∙ asked.above x (omega (arith, le));
          loads = omega (arith, sum, more, one, total);
        }
      where
        split : (x n : ℕ) → x < n + 1 → (x < n) ⊎ (x ≡ n)
        split x n lt = ⊎_elim (λ (less : x < n). inl less) (λ (le : n ≤ x). let is : x ≡ n = omega (arith, le, lt) in inr is) (cases_lt x n)

  -- all cells were asked
  module _ (v : View) (is : v.trail ≡ old) (new : Trail) (start loads : ℕ) (asked : AreAsked old ps o new v.used.cells start loads) where
    pub all-after : UnusedSaysNothing → AllWithin v.used old → (c : ℕ) → validity_in new c ≡ cell_after old ps o c
    all-after law within c = ⊎_elim
        (λ (less : c < v.used.cells). asked.below c less)
        (λ (le : v.used.cells ≤ c). let none : validity_in old c ≡ None = law v.used old StateOfCell c within le in
        asked.above c le ∙ none ∙ sym (ap (option_map (changed old ps o)) none))
        (cases_lt c v.used.cells)

    pub cells-after : ((c : ℕ) → validity_in new c ≡ cell_after old ps o c) → AreCells old v.used → AreCells new v.used
    cells-after after cells = record {
      objects = λ c cell e. after-object old ps o v.used.objects (validity_in old c) cell (sym (after c) ∙ e) (λ w is. cells.objects c w is);
      own = λ p c e. subst (λ (w : Option CellWord). IsSomeAnd w (λ cell. cell.object ≡ p)) (sym (after c))
          (after-own old ps o p (validity_in old c) (cells.own p c (sym (own-kept old ps o new asked.writes p) ∙ e)));
      named = λ c p e.
          let was = after-valid old ps o (validity_in old c) p (sym (after c) ∙ e) in
          own-kept old ps o new asked.writes p ∙ cells.named c p was.0;
    }

-- a cell that is valid is made invalid
pub lawful-invalid : (s : Shape) (t : Trail) (c : ℕ) (cell : CellWord) → cell.object < s.objects → validity_in t c ≡ Some cell → LawfulValidity s t c (record { invalid = true; object = cell.object })
lawful-invalid s t c cell there is = record {
  there = there;
  falls = subst (λ (v : Option CellWord). IfSome v (λ old. record { invalid = true; object = cell.object } ≡ invalid_cell old)) (sym is) refl;
}

pub one-write : (t : Trail) (ps : List (Option ℕ)) (o c : ℕ) (cell : CellWord) → validity_in t c ≡ Some cell → cell.invalid ≡ false → passes t ps cell.object o ≡ true
    → Adds (Invalidates t ps o) t (Validity c (record { invalid = true; object = cell.object }) ∷ t)
one-write t ps o c cell is valid through = adds-one t (Validity c (record { invalid = true; object = cell.object })) (record {
  was = is ∙ ap (λ (b : Bool). Some (record { invalid = b; object = cell.object })) valid;
  now = refl;
  through = through;
})
