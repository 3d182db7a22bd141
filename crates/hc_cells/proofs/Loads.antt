-- Heaps of which only loads were made.
use Rattle.std.proofs.Common.{◌≡◌, ℕ, ◌+◌, ◌≤◌, refl, sym, ap, ◌∙◌, subst}
use Rattle.hc_board.specs.States.{WriterState}
use Rattle.hc_heap.specs.Frames.{extends-none}
use Rattle.hc_heap.specs.States.{HeapState, Extends, Goes, OnlyLoads}

-- the heap is as it was, but for its loads
abbrev pub AreLoads : {P : Type 0} → HeapState P → HeapState P → Type 0
AreLoads a b = b ≡ record a { desk = record a.desk { loads = b.desk.loads } }

abbrev with-loads : {P : Type 0} → HeapState P → ℕ → HeapState P
with-loads h n = record h { desk = record h.desk { loads = n } }

abbrev with-desk : {P : Type 0} → HeapState P → WriterState → HeapState P
with-desk h d = record h { desk = d }

pub loads-none : {P : Type 0} (a : HeapState P) → AreLoads a a
loads-none a = refl

module _ {P : Type 0} (a b : HeapState P) (same : AreLoads a b) where
  -- loads were made, and then others
  pub loads-on : (n : ℕ) (x : HeapState P) → x ≡ record b { desk = x.desk } → OnlyLoads n b.desk x.desk → AreLoads a x
  loads-on n x e only = e ∙ ap (with-desk b) only.is ∙ ap (λ (h : HeapState P). with-loads h x.desk.loads) same

  pub only-loads : (n : ℕ) → a.desk.loads ≤ b.desk.loads → b.desk.loads ≤ a.desk.loads + n → OnlyLoads n a.desk b.desk
  only-loads n least most = record { is = ap (λ h. h.desk) same; least = least; most = most }

  pub loads-go : a.desk.loads ≤ b.desk.loads → Goes a.desk b.desk
  loads-go least = record {
    board = ap (λ h. h.desk.board) same;
    trail = subst (λ t. Extends a.desk.trail t) (sym (ap (λ h. h.desk.trail) same)) (extends-none a.desk.trail);
    loads = least;
    met = subst (λ t. Extends a.desk.met t) (sym (ap (λ h. h.desk.met) same)) (extends-none a.desk.met);
  }

  pub loads-same : b ≡ record a { desk = b.desk }
  loads-same = same ∙ ap (with-desk a) (sym (ap (λ h. h.desk) same))

  pub trail-same : b.view.trail ≡ a.view.trail
  trail-same = ap (λ (h : HeapState P). h.view.trail) same
