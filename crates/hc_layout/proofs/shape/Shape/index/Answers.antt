use Rattle.std.proofs.Common.{◌≡◌, ◌∙◌, sym, subst, Some}
use Rattle.hc_layout.specs.Place.{place_of}
use Rattle.hc_layout.proofs.Places.{index_is, place_lies, summed}
use Rattle.hc_layout.proofs.shape.Shape.index.Goals as goal

pub returns-clause-back : goal.returns-clause-back
returns-clause-back c =
    subst (λ i. place_of c.args.self.now i ≡ Some c.args.p) (summed c.args.self.now c.args.p _ _ c.start.ensures c.item_words.ensures)
    (index_is c.args.self.now c.args.p c.requires.place).value

pub returns-clause-alone : goal.returns-clause-alone
returns-clause-alone c i e =
    sym (place_lies c.args.self.now i c.args.p e).index ∙ summed c.args.self.now c.args.p _ _ c.start.ensures c.item_words.ensures
