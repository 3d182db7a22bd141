use Rattle.std.proofs.Common.{◌≡◌, subst, Some}
use Rattle.hc_layout.specs.Place.{place_of}
use Rattle.hc_layout.proofs.Places.{index_is, summed}
use Rattle.hc_layout.proofs.layout.Layout.index.Goals as goal

pub returns-clause-back : goal.returns-clause-back
returns-clause-back c =
    subst (λ i. place_of c.args.self.now i ≡ Some c.args.p) (summed c.args.self.now c.args.p _ _ c.start.ensures.value c.item_words.ensures)
    (index_is c.args.self.now c.args.p c.requires).value
