use Rattle.std.proofs.Common.{◌≡◌, get_or, subst}
use Rattle.hc_board.specs.Trail.{image_of}
use Rattle.hc_heap.specs.States.{WordsState, IsWords}
use Rattle.hc_heap.proofs.Stores.{load-says}
use Rattle.hc_heap.proofs.words.Words.load.Goals as goal

pub returns-clause-says : goal.returns-clause-says
returns-clause-says c =
    load-says (record { lie = c.places_lie.ensures.law; found = c.places_are_found.ensures.law }) c.args.self.now.view c.args.self.now.desk c.args.kind c.args.item c.index-index.result c.load.result
    (subst (λ (w : WordsState). IsWords w.view w.desk) c.self.view_is c.self.invariant)
    c.index-index.ensures
    (c.image_is_wide.ensures.law c.args.self.now.desk.board.words c.args.self.now.desk.trail)
    (subst (λ (w : WordsState). c.load.result ≡ get_or (image_of w.desk.board.words w.desk.trail) c.index-index.result 0) c.self.view_is c.load.ensures.value)
