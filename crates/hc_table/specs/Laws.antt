-- The laws of what `Plain` says was done.
use Rattle.std.specs.Prelude.{◌≡◌, refl}
use Rattle.std.proofs.Common.{ap, ◌∙◌}
use Rattle.hc_table.specs.Changes.{Did, Nothing, after}
use Rattle.hc_table.specs.Kept.{Kept, Came}

pub came-refl : (t : Kept) → Came t Nothing t
came-refl t = record { world = refl; limit = refl }

pub came-before : (a b c : Kept) (did : Did) → Came a Nothing b → Came b did c → Came a did c
came-before a b c did p q = record { world = q.world ∙ ap (after did) p.world; limit = q.limit ∙ p.limit }

pub came-after : (a b c : Kept) (did : Did) → Came a did b → Came b Nothing c → Came a did c
came-after a b c did p q = record { world = q.world ∙ p.world; limit = q.limit ∙ p.limit }

pub world-after : (a b : Kept) (did : Did) → Came a did b → b.world ≡ after did a.world
world-after a b did p = p.world
