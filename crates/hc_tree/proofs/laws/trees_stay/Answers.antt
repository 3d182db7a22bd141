use Rattle.hc_tree.proofs.Keeping.{same-lives, array-kept, tree-kept}
use Rattle.hc_tree.proofs.laws.trees_stay.Goals as goal

pub returns : goal.returns
returns c = record {
  law = λ s old new before goes same tree. tree-kept old new (c.maps_are_kept.ensures.law s old new before goes) (same-lives old new same.lives) same.links same.gates same.roots
      (λ m g is has. array-kept old new m g.entries (same.arrays m) (same.bases m) same.keys same.references has) tree;
}
