-- What plans ask of the words between two commands.
use Rattle.std.specs.Prelude.{◌≡◌, ℕ, ◌<◌, Option, Some, List, length}
use Rattle.hc_layout.specs.declared.words.GateWord.{GateWord}
use Rattle.hc_heap.specs.Readings.{gate_in}
use Rattle.hc_heap.specs.States.{View, IsHeap}
use Rattle.hc_links.specs.Chains.{links_in}
use Rattle.hc_table.specs.World.{IsWorld}
use Rattle.hc_tree.specs.Tree.{HaveOneLive}
use Rattle.hc_soundness.specs.Meaning.{Dictionary, kept_of, world, IsKeptSo, AreCalm}

-- at rest the trail is lawful, each object is kept as its words say, and the objects are sound property tables; of a map's links with
-- one key only the newest may lead to a map that isn't deprecated, and no prototype's map is unstable
pub record IsRest (v : View) (kept : List (Option Dictionary)) : Type 0 where
  pub heap : IsHeap v
  pub items : length kept ≡ v.used.objects
  pub each : (o : ℕ) → o < length kept → IsKeptSo v.trail o (kept_of kept o)
  pub sound : IsWorld (world v.trail kept)
  pub one_live : (m : ℕ) (g : GateWord) → gate_in v.trail m ≡ Some g → HaveOneLive v.trail (links_in v.trail m)
  pub calm : AreCalm v.trail
