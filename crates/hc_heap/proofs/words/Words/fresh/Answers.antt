use Rattle.std.proofs.Common.{◌≡◌, ℕ, ◌+◌, ◌≤◌, sym, ap, ◌∙◌, subst, arith}
use Rattle.hc_layout.specs.Shape.{items_of}
use Rattle.hc_layout.specs.declared.shape.Shape.{Shape}
use Rattle.hc_heap.specs.States.{WordsState, IsWords, HasRoom, with_items}
use Rattle.hc_heap.proofs.Stores.{view_of, after-fresh, items-fit}
use Rattle.hc_heap.proofs.words.Words.fresh.Goals as goal

pub overflow_add-first : goal.overflow_add-first
overflow_add-first c =
    let room : items_of c.self.inside.used c.args.region + c.args.n ≤ items_of c.self.inside.layout c.args.region = subst (λ (w : WordsState). HasRoom w.view c.args.region c.args.n) (sym c.self.view_is) c.requires.room in
    let first = c.items-first.ensures in
    let fit = items-fit c.self.inside.layout c.args.region c.self.invariant.heap.shape in
    omega arith

pub invariant_of-self : goal.invariant_of-self
invariant_of-self c =
    let room : HasRoom (view_of c.self.inside.layout c.self.inside.used c.self.inside.writer) c.args.region c.args.n = subst (λ (w : WordsState). HasRoom w.view c.args.region c.args.n) (sym c.self.view_is) c.requires.room in
    let count : c.with_count-self-inside.result ≡ with_items c.args.region (items_of c.self.inside.used c.args.region + c.args.n) c.self.inside.used =
    c.with_count-self-inside.ensures ∙ ap (λ (n : ℕ). with_items c.args.region (n + c.args.n) c.self.inside.used) c.items-first.ensures in
    subst (λ (used : Shape). IsWords (view_of c.self.inside.layout used c.self.inside.writer) c.self.inside.writer) (sym count)
    (after-fresh (view_of c.self.inside.layout c.self.inside.used c.self.inside.writer) c.self.inside.writer c.args.region c.args.n c.self.invariant room)

pub returns-clause-words : goal.returns-clause-words
returns-clause-words c =
    let room : HasRoom (view_of c.self.inside.layout c.self.inside.used c.self.inside.writer) c.args.region c.args.n = subst (λ (w : WordsState). HasRoom w.view c.args.region c.args.n) (sym c.self.view_is) c.requires.room in
    let count : c.with_count-self-inside.result ≡ with_items c.args.region (items_of c.self.inside.used c.args.region + c.args.n) c.self.inside.used =
    c.with_count-self-inside.ensures ∙ ap (λ (n : ℕ). with_items c.args.region (n + c.args.n) c.self.inside.used) c.items-first.ensures in
    subst (λ (used : Shape). IsWords (view_of c.self.inside.layout used c.self.inside.writer) c.self.inside.writer) (sym count)
    (after-fresh (view_of c.self.inside.layout c.self.inside.used c.self.inside.writer) c.self.inside.writer c.args.region c.args.n c.self.invariant room)
