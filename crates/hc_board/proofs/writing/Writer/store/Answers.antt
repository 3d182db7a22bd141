use Rattle.std.proofs.Common.{rules, ap, ◌∙◌}
use Rattle.hc_board.specs.Trail.{image_of}
use Rattle.hc_board.proofs.Trails.{image-store}
use Rattle.hc_board.proofs.Keeps.{stores}
use Rattle.hc_board.proofs.Kept.{after-store}
use Rattle.hc_board.proofs.writing.Writer.store.Goals as goal

pub store-requires : goal.store-requires
store-requires c = (search rules, search rules, stores _ _ _ _ _ c.self.invariant.writer)

pub invariant_of-self : goal.invariant_of-self
invariant_of-self c = after-store _ _ _ _ _ _ c.self.invariant c.store.ensures.0 _ _ _ c.store.ensures.2 c.saturating_add-self-inside.ensures

pub returns-clause-image : goal.returns-clause-image
returns-clause-image c =
    let words = ap (λ t. image_of t.words c.store.new.seat.me.0.trail) c.store.ensures.0 in
    let trail = ap (λ m. image_of c.self.inside.seat.table_id.words m.0.trail) c.store.ensures.2 in
    rw (← c.self.view_is) (words ∙ (trail ∙ image-store _ _ _ _))
