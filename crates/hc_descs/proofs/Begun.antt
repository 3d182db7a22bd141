-- What entries that were handed out find: nothing is written of them, and an open map has its entries.
use Rattle.std.proofs.Common.{◌≡◌, ℕ, ◌+◌, Some, ap, sym, ◌∙◌, subst}
use Rattle.hc_board.specs.States.{WriterState}
use Rattle.hc_layout.specs.Shape.{items_of}
use Rattle.hc_layout.specs.declared.shape.Region.TheVariants.{Entries}
use Rattle.hc_layout.specs.declared.words.GateWord.{GateWord}
use Rattle.hc_heap.specs.Writes.{Trail}
use Rattle.hc_heap.specs.Readings.{gate_in, base_in}
use Rattle.hc_heap.specs.Lawful.{HaveEntries}
use Rattle.hc_heap.specs.Kept.{GatesAreOpen, UnusedSaysNothing}
use Rattle.hc_heap.specs.States.{View, HeapState, IsHeap, with_items}
use Rattle.hc_descs.specs.Entries.{AreFree}
use Rattle.hc_descs.proofs.Having.{entries-open, free-from}

-- entries were handed out, from this one on, and nothing was written
pub record IsBegun (old new : View) (from : ℕ) : Type 0 where
  pub shape : new.shape ≡ old.shape
  pub trail : new.trail ≡ old.trail
  pub first : from ≡ old.used.entries

-- a gate was read, and entries were handed out
pub begun : {P : Type 0} (a b c : HeapState P) (desk : WriterState) (first n : ℕ) → b ≡ record a { desk = desk }
    → c ≡ record b { view = record b.view { used = with_items Entries (first + n) b.view.used } } → first ≡ items_of b.view.used Entries → IsBegun a.view c.view first
begun {P} a b c desk first n read handed is = record {
  shape = ap (λ (s : HeapState P). s.view.shape) handed ∙ ap (λ (s : HeapState P). s.view.shape) read;
  trail = ap (λ (s : HeapState P). s.view.trail) handed ∙ ap (λ (s : HeapState P). s.view.trail) read;
  first = is ∙ ap (λ (s : HeapState P). s.view.used.entries) read;
}

pub entries-begun : (old new : View) (first m : ℕ) (g : GateWord) → IsBegun old new first → GatesAreOpen → IsHeap old → gate_in old.trail m ≡ Some g → HaveEntries new.trail (base_in new.trail m) g.entries
entries-begun old new first m g b law h is = subst (λ (t : Trail). HaveEntries t (base_in t m) g.entries) (sym b.trail) (entries-open old m g law h is)

pub free-begun : (old new : View) (first : ℕ) → IsBegun old new first → UnusedSaysNothing → IsHeap old → AreFree new.trail first
free-begun old new first b law h = free-from old new.trail first law h b.trail b.first
