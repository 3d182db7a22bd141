-- A heap of which only loads were made.
use Rattle.std.proofs.Common.{◌≡◌, ℕ, ◌+◌, ◌≤◌, sym, ap, ◌∙◌, subst}
use Rattle.hc_heap.specs.Frames.{extends-none}
use Rattle.hc_heap.specs.States.{HeapState, Extends, Goes, OnlyLoads, one_load}

-- the heap is as it was, but for its loads
abbrev pub AreLoads : {P : Type 0} → HeapState P → HeapState P → Type 0
AreLoads a b = b ≡ record a { desk = record a.desk { loads = b.desk.loads } }

abbrev with-loads : {P : Type 0} → HeapState P → ℕ → HeapState P
with-loads h n = record h { desk = record h.desk { loads = n } }

module _ {P : Type 0} (a b : HeapState P) where
  pub loads-begin : b ≡ record a { desk = one_load a.desk } → AreLoads a b
  loads-begin e = e ∙ ap (with-loads a) (sym (ap (λ (h : HeapState P). h.desk.loads) e))

  pub loads-on : (x : HeapState P) → AreLoads a b → x ≡ record b { desk = one_load b.desk } → AreLoads a x
  loads-on x same e =
      e ∙ ap (λ (h : HeapState P). with-loads h (b.desk.loads + 1)) same ∙ ap (with-loads a) (sym (ap (λ (h : HeapState P). h.desk.loads) e))

  pub only-loads : (n : ℕ) → AreLoads a b → a.desk.loads ≤ b.desk.loads → b.desk.loads ≤ a.desk.loads + n → OnlyLoads n a.desk b.desk
  only-loads n same least most = record { is = ap (λ h. h.desk) same; least = least; most = most }

  pub loads-go : AreLoads a b → a.desk.loads ≤ b.desk.loads → Goes a.desk b.desk
  loads-go same least = record {
    board = ap (λ h. h.desk.board) same;
    trail = subst (λ t. Extends a.desk.trail t) (sym (ap (λ h. h.desk.trail) same)) (extends-none a.desk.trail);
    loads = least;
    met = subst (λ t. Extends a.desk.met t) (sym (ap (λ h. h.desk.met) same)) (extends-none a.desk.met);
  }
