use Rattle.std.proofs.Common.{◌≡◌, ℕ, ◌<◌, Option, None, ap, refl, arith}
use Rattle.hc_heap.specs.Writes.{Trail}
use Rattle.hc_descs.specs.Entries.{entries_in, count_of, LacksName}
use Rattle.hc_tree.specs.Tree.{IsRoot}
use Rattle.hc_tree_tests.proofs.trees.a_private_copy_has_the_old_fields_or_new_ones.Goals as goal

root-lacks : (t : Trail) (p : Option ℕ) (r name : ℕ) → IsRoot t p r → LacksName t r (count_of t r) name
root-lacks t p r name h = λ k lt. absurd (let none : count_of t r ≡ 0 = ap entries_in h.gate in omega (arith, none, lt))

pub private_copy-requires-clause-more : goal.private_copy-requires-clause-more
private_copy-requires-clause-more g c = record {
  form = c.data.ensures.form;
  proper = c.data.ensures.proper;
  lacks = root-lacks c.root.new.h.view.trail None c.in-Ok.first c.data.result.name c.in-Ok.ensures.root;
  accessor = λ _. refl;
  class = tt;
  there = tt;
}
