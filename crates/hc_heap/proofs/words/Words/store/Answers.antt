use Rattle.std.proofs.Common.{◌<◌, sym, ap, ◌∙◌, subst, Some}
use Rattle.hc_layout.specs.Shape.{items_of}
use Rattle.hc_layout.specs.declared.place.Place.{Place}
use Rattle.hc_heap.specs.Kinds.{region_of}
use Rattle.hc_heap.specs.Decode.{written}
use Rattle.hc_heap.specs.Lawful.{LawfulWrite}
use Rattle.hc_heap.specs.States.{WordsState, KeepsArrays, with_write}
use Rattle.hc_heap.proofs.Stores.{HasStored, has-stored}
use Rattle.hc_heap.proofs.words.Words.store.Goals as goal

stored : (c : goal.After-store) → HasStored c.self.inside.layout c.self.inside.used c.self.inside.writer c.store.new.self c.args.kind c.args.item c.args.word
stored c =
    has-stored c.self.inside.layout c.self.inside.used c.self.inside.writer c.store.new.self c.args.kind c.args.item c.index-index.result c.args.word c.store.ensures.new c.self.invariant
    (subst (λ (w : WordsState). c.args.item < items_of w.view.used (region_of c.args.kind)) (sym c.self.view_is) c.requires.handed)
    (subst (λ (w : WordsState). LawfulWrite w.view.shape w.view.trail (written c.args.kind c.args.item c.args.word)) (sym c.self.view_is) c.requires.lawful)
    (subst (λ (w : WordsState). KeepsArrays w.view c.args.kind c.args.item c.args.word) (sym c.self.view_is) c.requires.arrays)
    (c.index-index.ensures.back ∙ ap (λ (p : Place). Some p) c.place.ensures)

pub invariant_of-self : goal.invariant_of-self
invariant_of-self c = (stored c).words

pub returns-clause-view : goal.returns-clause-view
returns-clause-view c = (stored c).view ∙ ap (λ (w : WordsState). with_write w.view (written c.args.kind c.args.item c.args.word)) c.self.view_is

pub returns-clause-words : goal.returns-clause-words
returns-clause-words c = (stored c).words
