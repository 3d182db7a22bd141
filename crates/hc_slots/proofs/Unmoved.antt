-- A heap that was only read.
use Rattle.std.proofs.Common.{◌≡◌, ap, ◌∙◌}
use Rattle.hc_board.specs.States.{WriterState}
use Rattle.hc_heap.specs.States.{HeapState}

-- the heap is as it was, but for loads
abbrev pub IsUnmoved : {P : Type 0} → HeapState P → HeapState P → Type 0
IsUnmoved a b = b ≡ record a { desk = record a.desk { loads = b.desk.loads } }

module _ {P : Type 0} where
  pub unmoved-of : (a b : HeapState P) → b ≡ record a { desk = b.desk } → b.desk ≡ record a.desk { loads = b.desk.loads } → IsUnmoved a b
  unmoved-of a b new is = new ∙ ap (λ (d : WriterState). let s : HeapState P = record a { desk = d } in s) is

  pub unmoved-on : (a b c : HeapState P) → IsUnmoved a b → IsUnmoved b c → IsUnmoved a c
  unmoved-on a b c x y = y ∙ ap (λ (s : HeapState P). let r : HeapState P = record s { desk = record s.desk { loads = c.desk.loads } } in r) x
