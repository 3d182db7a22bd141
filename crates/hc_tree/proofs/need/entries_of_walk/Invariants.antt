use Rattle.std.proofs.Common.{◌≡◌, ◌≤◌, ◌*◌}
use Rattle.hc_layout.specs.declared.capacity.TheConstants.{MAX_FAST}
use Rattle.hc_tree.specs.Needs.{arrays_upto}
use Rattle.hc_tree.proofs.need.entries_of_walk.Given as goal

-- the arrays for up to k entries were counted
abbrev pub invariant-loop-k : goal.invariant-loop-k
invariant-loop-k l = record {
  value : l.entries ≡ arrays_upto l.k;
  most : l.entries ≤ l.k * MAX_FAST;
}
