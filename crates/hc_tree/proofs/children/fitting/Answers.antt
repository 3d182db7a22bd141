use Rattle.std.proofs.Common.{◌∙◌, ◌<◌, sym, subst, arith, false, Option}
use Rattle.std.specs.Prelude.{IsSomeAnd}
use Rattle.hc_layout.specs.declared.words.GateWord.{GateWord}
use Rattle.hc_tree.specs.Tree.{IsChildFor, gate_with}
use Rattle.hc_tree.proofs.Opened.{live-child}
use Rattle.hc_tree.proofs.children.fitting.Goals as goal

pub detail_at-own-requires : goal.detail_at-own-requires
detail_at-own-requires g c =
    let t = c.args.h.now.view.trail in
    let it : IsChildFor t c.args.map (gate_with c.args.n false) c.in_ok-child.child c.args.key = live-child c.same_keys_are_equal.ensures.law t c.args.map (gate_with c.args.n false) c.args.key c.in_ok-child.child c.requires.tree c.requires.open (sym c.requires.known ∙ c.in_ok-child.was) in
    record { entry = subst (λ (o : Option GateWord). IsSomeAnd o (λ x. c.args.n < x.entries)) (sym it.gate) (omega arith) }
