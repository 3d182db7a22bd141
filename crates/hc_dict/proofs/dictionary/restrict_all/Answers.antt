use Rattle.std.proofs.Common.{◌≡◌, ◌∙◌, ℕ, Some, List, length, set, ap, subst, arith}
use Rattle.std.specs.Prelude.{slice_get}
use Rattle.hc_value.specs.declared.prop.Prop.{Prop}
use Rattle.hc_table.specs.Attributes.{restricted}
use Rattle.hc_dict.proofs.Restricting.{mapped, length-mapped, mapped-suc, mapped-all}
use Rattle.hc_dict.proofs.dictionary.restrict_all.Goals as goal

pub loop-i-init : goal.loop-i-init
loop-i-init c = record { props = c.close.ensures }

pub prop-prop-requires : goal.prop-prop-requires
prop-prop-requires c =
    let f = restricted c.args.frozen in
    let count : length c.loop-i.props ≡ length c.args.props.now = ap (λ (ps : List Prop). length ps) c.loop-i.invariant.props ∙ length-mapped f c.loop-i.i c.args.props.now in
    let same : length c.close.new.self ≡ length c.args.props.now = ap (λ (ps : List Prop). length ps) c.close.ensures in
    omega (arith, count, same, c.len-i-end.ensures.len, c.loop-i-test.true)

pub loop-i-preserved : goal.loop-i-preserved
loop-i-preserved c =
    let f = restricted c.args.frozen in
    let k = c.loop-i.i in
    let ps = c.args.props.now in
    let p = c.prop-prop.result in
    let at : slice_get (mapped f k ps) k ≡ Some p = subst (λ (qs : List Prop). slice_get qs k ≡ Some p) c.loop-i.invariant.props c.prop-prop.ensures.prop in
    record {
      props =
          c.set.ensures.put
          ∙ ap (λ (q : Prop). set c.loop-i.props k q) c.restrict.ensures
          ∙ ap (λ (qs : List Prop). set qs k (f p)) c.loop-i.invariant.props
          ∙ mapped-suc f k ps p at;
    }

pub returns : goal.returns
returns c =
    let f = restricted c.args.frozen in
    let ps = c.args.props.now in
    let last : c.loop-i.i ≡ length ps = (let same : length c.close.new.self ≡ length ps = ap (λ (qs : List Prop). length qs) c.close.ensures in omega (arith, same, c.len-i-end.ensures.len, c.loop-i-test.false, c.loop-i.auto.i-end)) in
    record { restricted = c.loop-i.invariant.props ∙ ap (λ (n : ℕ). mapped f n ps) last ∙ mapped-all f ps }
