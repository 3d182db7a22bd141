-- The writes that are read from a board's stores go on as these do.
use Rattle.std.proofs.Common.{◌≡◌, ℕ, ◌-◌, ◌≤◌, List, ◌++◌, length, take, drop, refl, sym, ap, ◌∙◌, subst, arith, length-append}
use Rattle.std.proofs.lemmas.List.{take_at}
use Rattle.hc_board.specs.Trail.{Access}
use Rattle.hc_board.specs.States.{WriterState}
use Rattle.hc_layout.specs.declared.shape.Shape.{Shape}
use Rattle.hc_heap.specs.Decode.{typed}
use Rattle.hc_heap.specs.Kept.{GoesOn, PositionsAreStores, PositionsGoOn, StoresAreWrites, at}
use Rattle.hc_heap.specs.States.{View, IsDesk, IsHeap, Goes}
use Rattle.hc_heap.specs.Writes.{Trail}

-- all the writes of a trail
at-end : (t : Trail) → at (length t) t ≡ t
at-end t = let none : length t - length t ≡ 0 = omega arith in ap (λ (n : ℕ). drop n t) none

module _ (positions : PositionsAreStores) (onward : PositionsGoOn) (writes : StoresAreWrites) (v w : View) (d e : WriterState) (was : IsDesk v d) (now : IsDesk w e) (heap : IsHeap w) (shape : w.shape ≡ v.shape) (goes : Goes d e) where
  front : take (length d.trail) e.trail ≡ d.trail
  front = ap (λ (l : List Access). take (length d.trail) l) goes.trail.is ∙ take_at d.trail goes.trail.more (length d.trail) refl

  first : v.trail ≡ at (length d.trail) w.trail
  first =
      was.trail
      ∙ ap (λ (s : Shape). typed s d.trail) (sym shape)
      ∙ ap (λ (l : List Access). typed w.shape l) (sym front)
      ∙ positions w.shape e.trail (length d.trail)
      ∙ ap (λ (t : Trail). at (length d.trail) t) (sym now.trail)

  some : length d.trail ≤ length w.trail
  some =
      let more = length-append d.trail goes.trail.more in
      let all : length e.trail ≡ length (d.trail ++ goes.trail.more) = ap (λ (l : List Access). length l) goes.trail.is in
      let count : length w.trail ≡ length e.trail = ap (λ (t : Trail). length t) now.trail ∙ writes w.shape e.trail in
      omega (arith, more, all, count)

  pub writes-on : GoesOn w.shape v.trail w.trail
  writes-on =
      subst (λ (t : Trail). GoesOn w.shape v.trail t) (at-end w.trail)
      (subst (λ (t : Trail). GoesOn w.shape t (at (length w.trail) w.trail)) (sym first)
      (onward w.shape w.trail (length d.trail) (length w.trail) some heap.lawful))
