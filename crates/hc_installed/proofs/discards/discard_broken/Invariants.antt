use Rattle.std.proofs.Common.{◌≡◌, ℕ, ◌+◌, ◌-◌, ◌<◌, ◌++◌, None, drop, length}
use Rattle.hc_board.specs.States.{words_of}
use Rattle.hc_modes.specs.Came.{IsStill}
use Rattle.hc_installed.specs.Discards.{discard_lines, lines_from, plan_count, unbroken_sites}
use Rattle.hc_installed.proofs.Tests.{broken_at}
use Rattle.hc_installed.proofs.discards.discard_broken.Given as goal

abbrev pub invariant-loop-site : goal.invariant-loop-site
invariant-loop-site g l = record {
  still : IsStill l.fn.objects l.objects;
  left : unbroken_sites l.shape (words_of l.fn.objects.heap.desk) l.sites ≡ unbroken_sites l.shape (words_of l.fn.objects.heap.desk) l.fn.sites;
  lines : l.log.lines ++ lines_from l.shape (words_of l.fn.objects.heap.desk) l.at l.from (drop l.from l.sites) ≡ l.fn.log.lines ++ discard_lines l.shape (words_of l.fn.objects.heap.desk) l.at l.fn.sites;
  count : length l.sites ≡ length l.fn.sites;
  room : l.log.room + plan_count l.fn.sites ≡ l.fn.log.room + plan_count l.sites;
  below : (i : ℕ) → i < l.from → broken_at l.shape (words_of l.fn.objects.heap.desk) l.sites i ≡ None;
}

abbrev pub decreases-loop-site : goal.decreases-loop-site
decreases-loop-site g l = length l.sites - l.from
