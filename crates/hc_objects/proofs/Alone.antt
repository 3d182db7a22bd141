-- Cells were written, and nothing else.
use Rattle.std.proofs.Common.{◌≡◌, ℕ, List, ◌∷◌, Option, refl, sym, ap, ◌∙◌, subst}
use Rattle.std.specs.Prelude.{IsTrue}
use Rattle.hc_board.specs.Trail.{Access}
use Rattle.hc_layout.specs.declared.words.CellWord.{CellWord}
use Rattle.hc_layout.specs.declared.words.MapBits.{MapBits}
use Rattle.hc_layout.specs.declared.shape.Shape.{Shape}
use Rattle.hc_facts.specs.Laws.{ConstantsStayOn}
use Rattle.hc_heap.specs.Frames.{adds-none, adds-on, goes-further, goes-none, goes-on, goes-still, same-after}
use Rattle.hc_heap.specs.Kept.{Adds, GoesOn}
use Rattle.hc_heap.specs.Readings.{bits_in, map_in, object_cell_in, root_in}
use Rattle.hc_descs.specs.Entries.{detail_at}
use Rattle.hc_heap.specs.Writes.{Write, Trail, ObjectCell, Validity}
use Rattle.hc_cells.specs.Cells.{Invalidates}
use Rattle.hc_table.specs.World.{World, object, props_at}
use Rattle.hc_modes.specs.Came.{world_of}
use Rattle.hc_modes.specs.Admitting.{FactsStay}
use Rattle.hc_modes.specs.Rest.{AreCalm}
use Rattle.hc_modes.specs.State.{IsObjects, ObjectsState}
use Rattle.hc_modes.specs.Validity.{OnlyCells, StaysPut, WritesCells}
use Rattle.hc_objects.specs.State.{IsFaithful}

by-cells : {T : Type 0} (reading : Trail → T) → ((t : Trail) (p : ℕ) (c : Option ℕ) → reading (ObjectCell p c ∷ t) ≡ reading t) → ((t : Trail) (c : ℕ) (v : CellWord) → reading (Validity c v ∷ t) ≡ reading t)
    → (t : Trail) (w : Write) → WritesCells t w → reading (w ∷ t) ≡ reading t
by-cells reading named cell t (ObjectCell p c) e = named t p c
by-cells reading named cell t (Validity c v) e = cell t c v
by-cells reading named cell t _ e = absurd e

names-by : (old : Trail) (ps : List (Option ℕ)) (o q : ℕ) (t : Trail) (w : Write) → Invalidates old ps o t w → object_cell_in (w ∷ t) q ≡ object_cell_in t q
names-by old ps o q t (Validity c v) e = refl
names-by old ps o q t _ e = absurd e

-- prototypes name the cells that they named
pub names-stay : (old : Trail) (ps : List (Option ℕ)) (o : ℕ) (a b : Trail) → Adds (Invalidates old ps o) a b → (q : ℕ) → object_cell_in b q ≡ object_cell_in a q
names-stay old ps o a b adds q = same-after (λ (t : Trail). object_cell_in t q) (names-by old ps o q) adds

module _ {P : Type 0} (went : P → List Access → List Access → P → Type 0) (a b : ObjectsState P) (only : OnlyCells went a b) where
  same : {T : Type 0} (reading : Trail → T) → ((t : Trail) (p : ℕ) (c : Option ℕ) → reading (ObjectCell p c ∷ t) ≡ reading t) → ((t : Trail) (c : ℕ) (w : CellWord) → reading (Validity c w ∷ t) ≡ reading t) → reading b.heap.view.trail ≡ reading a.heap.view.trail
  same reading named cell = same-after reading (by-cells reading named cell) only.writes

  pub alone-map : (o : ℕ) → map_in b.heap.view.trail o ≡ map_in a.heap.view.trail o
  alone-map o = same (λ (t : Trail). map_in t o) (λ t p c. refl) (λ t c w. refl)

  pub alone-bits : (m : ℕ) → bits_in b.heap.view.trail m ≡ bits_in a.heap.view.trail m
  alone-bits m = same (λ (t : Trail). bits_in t m) (λ t p c. refl) (λ t c w. refl)

  pub alone-detail : (m i : ℕ) → detail_at b.heap.view.trail m i ≡ detail_at a.heap.view.trail m i
  alone-detail m i = same (λ (t : Trail). detail_at t m i) (λ t p c. refl) (λ t c w. refl)

  pub alone-world : world_of b ≡ world_of a
  alone-world = only.steps.world

  -- prototypes keep their maps, and these their bits
  pub alone-calm : AreCalm a.heap.view.trail → AreCalm b.heap.view.trail
  alone-calm calm o m has proto =
      ap (λ (x : MapBits). x.unstable) (alone-bits m)
      ∙ calm o m (sym (alone-map o) ∙ has)
      (subst IsTrue (same (λ (t : Trail). (root_in t o).is_proto) (λ t p c. refl) (λ t c w. refl)) proto)

  -- what fields say is true, and prototypes are calm, as before
  pub alone-faithful : IsFaithful a.heap.view.trail → IsFaithful b.heap.view.trail
  alone-faithful h = record { honest = only.steps.keeps.honest h.honest; calm = alone-calm h.calm }

  -- what cells rest on stays
  pub alone-on : (s : ObjectsState P) (q : ℕ) → StaysPut s a q → StaysPut s b q
  alone-on s q h = record {
    map = alone-map q ∙ h.map;
    proto = ap (λ (w : World). (object w q).proto) alone-world ∙ h.proto;
    props = λ slow. ap (λ (w : World). props_at w q) alone-world ∙ h.props slow;
  }

  pub alone-back : (s : ObjectsState P) (q : ℕ) → StaysPut s b q → StaysPut s a q
  alone-back s q h = record {
    map = sym (alone-map q) ∙ h.map;
    proto = ap (λ (w : World). (object w q).proto) (sym alone-world) ∙ h.proto;
    props = λ slow. ap (λ (w : World). props_at w q) (sym alone-world) ∙ h.props slow;
  }

-- one thing was done after another
pub facts-on : ConstantsStayOn → (s r : Shape) (a b c : Trail) → r ≡ s → FactsStay s a b → FactsStay r b c → FactsStay s a c
facts-on law s r a b c same x y = record {
  goes = goes-further s x.goes (subst (λ (q : Shape). GoesOn q b c) same y.goes);
  constants = law s a b c x.goes (subst (λ (q : Shape). GoesOn q b c) same y.goes) x.constants y.constants;
  honest = λ h. y.honest (x.honest h);
}

module _ {P : Type 0} (went : P → List Access → List Access → P → Type 0) where
  -- nothing was done
  pub alone-none : ((p : P) (t : List Access) → went p t t p) → (a : ObjectsState P) → IsObjects a.heap.view a.kept a.of_null → OnlyCells went a a
  alone-none stays a sound = record {
    steps = record {
      world = refl;
      shape = refl;
      goes = goes-none a.heap.desk;
      went = stays a.heap.pace a.heap.desk.trail;
      keeps = record { goes = goes-still a.heap.view.shape sound.heap.lawful; constants = λ o m k f d datum admits const stable. refl; honest = λ h. h };
    };
    writes = adds-none a.heap.view.trail;
    used = refl;
    kept = refl;
    null = refl;
  }

  -- cells were written, and then others
  pub alone-then : ((a b c : P) (first second third : List Access) → went a first second b → went b second third c → went a first third c) → ConstantsStayOn
      → (a b c : ObjectsState P) → OnlyCells went a b → OnlyCells went b c → OnlyCells went a c
  alone-then law constants a b c x y = record {
    steps = record {
      world = y.steps.world ∙ x.steps.world;
      shape = y.steps.shape ∙ x.steps.shape;
      goes = goes-on a.heap.desk b.heap.desk c.heap.desk x.steps.goes y.steps.goes;
      went = law a.heap.pace b.heap.pace c.heap.pace a.heap.desk.trail b.heap.desk.trail c.heap.desk.trail x.steps.went y.steps.went;
      keeps = facts-on constants a.heap.view.shape b.heap.view.shape a.heap.view.trail b.heap.view.trail c.heap.view.trail x.steps.shape x.steps.keeps y.steps.keeps;
    };
    writes = adds-on x.writes y.writes;
    used = y.used ∙ ap (λ (s : Shape). let r : Shape = record s { cells = c.heap.view.used.cells } in r) x.used;
    kept = y.kept ∙ x.kept;
    null = y.null ∙ x.null;
  }
