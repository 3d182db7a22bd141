use Rattle.std.proofs.Common.{◌≡◌, ap, ◌∙◌, sym, subst, []}
use Rattle.hc_board.specs.States.{TableId, WriterState}
use Rattle.hc_layout.specs.declared.shape.Shape.{Shape}
use Rattle.hc_layout.specs.Shape.{IsShape, words_of}
use Rattle.hc_heap.specs.States.{no_items}
use Rattle.hc_heap.proofs.Stores.{HasOpened, has-opened}
use Rattle.hc_heap.proofs.words.Words.new.Goals as goal

-- a new board, by the shape that its layout keeps
opened : (shape kept : Shape) (board : TableId) (d : WriterState) → kept ≡ shape → IsShape shape → d ≡ record { board = board; trail = []; loads = 0; met = [] } → board.words ≡ words_of shape → HasOpened kept d
opened shape kept board d same fits new width =
    subst (λ (s : Shape). HasOpened s d) (sym same) (has-opened shape d fits (ap (λ (w : WriterState). w.trail) new) (ap (λ (w : WriterState). w.board.words) new ∙ width))

pub invariant_of-result : goal.invariant_of-result
invariant_of-result c = (opened c.args.shape c.new.result c.in-Ok._board c.in-Ok.writer c.new.ensures c.requires.fits c.in-Ok.ensures.writer (c.in-Ok.ensures.width ∙ c.words.ensures.value)).words

pub returns-clause-view : goal.returns-clause-view
returns-clause-view c =
    (opened c.args.shape c.new.result c.in-Ok._board c.in-Ok.writer c.new.ensures c.requires.fits c.in-Ok.ensures.writer (c.in-Ok.ensures.width ∙ c.words.ensures.value)).view
    ∙ ap (λ (s : Shape). record { shape = s; trail = []; used = no_items }) c.new.ensures

pub returns-clause-words : goal.returns-clause-words
returns-clause-words c = (opened c.args.shape c.new.result c.in-Ok._board c.in-Ok.writer c.new.ensures c.requires.fits c.in-Ok.ensures.writer (c.in-Ok.ensures.width ∙ c.words.ensures.value)).words
