use Rattle.std.proofs.Common.{drop, arith, add_assoc}
use Rattle.std.proofs.lemmas.List.{take_rest, drop-drop}
use Rattle.hc_lines.specs.Lines.{IsUnbroken}
use Rattle.hc_lines.proofs.Breaks.{whole_from, unbroken_from, unbroken-take}
use Rattle.hc_lines.proofs.buffer.LineBuffer.line_end.Goals as goal

all_unbroken : (c : goal.After-self-1) → IsUnbroken (drop c.self.inside.start c.self.inside.bytes.items)
all_unbroken c =
    let h = rw (take_rest, c.deref.ensures.value) at c.in-None.ensures.none in
    unbroken_from _ c.self.inside.scanned c.self.invariant.unbroken (rw drop-drop h)

pub invariant_of-self : goal.invariant_of-self
invariant_of-self c = record {
  within = omega arith;
  unbroken = unbroken-take _ _ (all_unbroken c);
}

pub returns-in-Some-clause-found : goal.returns-in-Some-clause-found
returns-in-Some-clause-found c =
    let h = rw (take_rest, c.deref.ensures.value) at c.in-Some.ensures.found in
    rw (add_assoc, ← c.self.view_is) (whole_from _ c.self.inside.scanned _ c.self.invariant.unbroken (rw drop-drop h))

pub returns-in-None-clause-none : goal.returns-in-None-clause-none
returns-in-None-clause-none c = rw (← c.self.view_is) (all_unbroken c)
