use Rattle.std.proofs.Common.{◌≡◌, ◌∙◌, ap, true}
use Rattle.hc_layout.specs.declared.words.MapBits.{MapBits}
use Rattle.hc_heap.specs.Writes.{Bits}
use Rattle.hc_heap.specs.States.{View, with_write}
use Rattle.hc_tree.proofs.Keeping.{bits-view}
use Rattle.hc_tree.proofs.mark.mark_unstable.Goals as goal

pub returns-clause-tree : goal.returns-clause-tree
returns-clause-tree g c =
    let read : c.bits-bits.new.self.view ≡ c.args.h.now.view = ap (λ s. s.view) c.bits-bits.ensures.new in
    let b : MapBits = record { unstable = true; deprecated = c.bits-bits.result.deprecated } in
    bits-view c.maps_are_kept.ensures.law c.args.h.now.view c.set_bits.new.self.view c.args.map b
    (c.set_bits.ensures.view ∙ ap (λ (v : View). with_write v (Bits c.args.map b)) read)
    c.stands.ensures.heap c.set_bits.ensures.heap (ap (λ b. b.deprecated) c.bits-bits.ensures.value) c.requires.tree
