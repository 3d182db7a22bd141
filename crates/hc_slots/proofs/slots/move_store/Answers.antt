use Rattle.std.proofs.Common.{◌≡◌, ℕ, ◌+◌, ◌<◌, ◌∙◌, ap, sym, subst, arith}
use Rattle.hc_layout.specs.declared.shape.Shape.{Shape}
use Rattle.hc_layout.specs.declared.shape.Region.TheVariants.{Slots}
use Rattle.hc_heap.specs.Writes.{Trail, Store}
use Rattle.hc_heap.specs.Readings.{slot_in}
use Rattle.hc_heap.specs.Lawful.{LawfulStore}
use Rattle.hc_heap.specs.Kept.{Adds}
use Rattle.hc_heap.specs.States.{View, HeapState, HasRoom, with_write}
use Rattle.hc_slots.specs.Meaning.{slot_word}
use Rattle.hc_slots.specs.Slots.{FillsSlots, HasMoved}
use Rattle.hc_slots.proofs.Moving.{new_store, lawful-moved, has-moved}
use Rattle.hc_slots.proofs.slots.move_store.Goals as goal

-- what was handed out and copied, as writes after the first view
record HasCopied (old now : View) (o n capacity : ℕ) : Type 0 where
  pub shape : now.shape ≡ old.shape
  pub used : now.used ≡ record old.used { slots = old.used.slots + capacity }
  pub adds : Adds (FillsSlots old.used.slots) old.trail now.trail
  pub words : (k : ℕ) → k < n → slot_in now.trail (old.used.slots + k) ≡ slot_word old.trail o k

has-copied : (old fresh now : View) (o n capacity first : ℕ) → first ≡ old.used.slots → fresh ≡ record old { used = record old.used { slots = first + capacity } } → now ≡ record fresh { trail = now.trail }
    → Adds (FillsSlots first) fresh.trail now.trail → ((k : ℕ) → k < n → slot_in now.trail (first + k) ≡ slot_word fresh.trail o k) → HasCopied old now o n capacity
has-copied old fresh now o n capacity first is handed copied adds words =
    let trail : fresh.trail ≡ old.trail = ap (λ (v : View). v.trail) handed in
    record {
      shape = ap (λ (v : View). v.shape) copied ∙ ap (λ (v : View). v.shape) handed;
      used = ap (λ (v : View). v.used) copied ∙ ap (λ (v : View). v.used) handed ∙ ap (λ (x : ℕ). let s : Shape = record old.used { slots = x + capacity } in s) is;
      adds = subst (λ (x : ℕ). Adds (FillsSlots x) old.trail now.trail) is (subst (λ (t : Trail). Adds (FillsSlots first) t now.trail) trail adds);
      words = λ k lt. ap (λ (x : ℕ). slot_in now.trail (x + k)) (sym is) ∙ words k lt ∙ ap (λ (t : Trail). slot_word t o k) trail;
    }

pub set_store-requires-clause-lawful : goal.set_store-requires-clause-lawful
set_store-requires-clause-lawful g c =
    let v = c.args.h.now.view in
    let now = c.copy_store.new.h.view in
    let is : HasCopied v now c.args.object c.args.n c.cap-capacity.result = has-copied v c.fresh-first.new.self.view now c.args.object c.args.n c.cap-capacity.result c.fresh-first.result
    c.fresh-first.ensures.first (ap (λ (s : HeapState g.row.P.Denot). s.view) c.fresh-first.ensures.new) c.copy_store.ensures.view c.copy_store.ensures.writes c.copy_store.ensures.words in
    let more : c.args.n < c.cap-capacity.result = omega (arith, c.cap-capacity.ensures.enough) in
    subst (λ (x : ℕ). LawfulStore now.shape now.trail c.args.object (new_store c.cap-capacity.result x)) (sym c.fresh-first.ensures.first)
    (lawful-moved c.args.h.now.view now c.args.object c.args.n c.cap-capacity.result is.shape is.adds more c.cap-capacity.ensures.within c.requires.full c.requires.free
    (subst (λ (x : ℕ). HasRoom c.args.h.now.view Slots x) (sym c.cap-capacity.ensures.value) c.requires.room))

pub returns-clause-moved : goal.returns-clause-moved
returns-clause-moved g c =
    let v = c.args.h.now.view in
    let now = c.copy_store.new.h.view in
    let is : HasCopied v now c.args.object c.args.n c.cap-capacity.result = has-copied v c.fresh-first.new.self.view now c.args.object c.args.n c.cap-capacity.result c.fresh-first.result
    c.fresh-first.ensures.first (ap (λ (s : HeapState g.row.P.Denot). s.view) c.fresh-first.ensures.new) c.copy_store.ensures.view c.copy_store.ensures.writes c.copy_store.ensures.words in
    let more : c.args.n < c.cap-capacity.result = omega (arith, c.cap-capacity.ensures.enough) in
    subst (λ (x : ℕ). HasMoved v c.set_store.new.self.view c.args.object c.args.n x) c.cap-capacity.ensures.value
    (has-moved v now c.args.object c.args.n c.cap-capacity.result is.shape is.adds c.set_store.new.self.view more
    (c.set_store.ensures.view ∙ ap (λ (x : ℕ). with_write now (Store c.args.object (new_store c.cap-capacity.result x))) c.fresh-first.ensures.first)
    is.used is.words)
