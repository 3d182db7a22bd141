use Rattle.std.proofs.Common.{◌≡◌, ◌<◌, List, false, length, map, get_or, set, sym, ap, ◌∙◌, arith}
use Rattle.std.proofs.lemmas.List.{length-map, with_items_is}
use Rattle.hc_value.specs.declared.prop.Prop.{Prop}
use Rattle.hc_table.specs.Attributes.{restricted}
use Rattle.hc_table.specs.World.{Object}
use Rattle.hc_table.proofs.Mapping.{mapped_to, mapped_to-all, mapped_to-next}
use Rattle.hc_table.proofs.plain.PlainObject.restrict.Goals as goal

pub loop-p-preserved : goal.loop-p-preserved
loop-p-preserved c =
    let xs = c.deref_mut-p-items.result.now in
    let f = restricted c.args.frozen in
    let i = c.loop-p.p-index in
    let items = c.loop-p.p-items in
    let within : i < length xs = omega (arith, c.loop-p-test.true) in
    ap (λ (p : Prop). set items i p) c.restrict.ensures
    ∙ ap (λ (ps : List Prop). set ps i (f (get_or ps i c.p-item.result))) c.loop-p.invariant
    ∙ mapped_to-next f i xs c.p-item.result within

pub returns : goal.returns
returns c =
    let xs = c.deref_mut-p-items.result.now in
    let f = restricted c.args.frozen in
    let own = c.args.self.now.props in
    let at_end : c.loop-p.p-index ≡ length xs = omega (arith, c.loop-p-test.false) in
    let mapped : c.loop-p.p-items ≡ map f xs = c.loop-p.invariant ∙ ap (λ i. mapped_to f i xs) at_end ∙ mapped_to-all f xs in
    let as_long : length c.loop-p.p-items ≡ own.len =
    ap length mapped ∙ length-map xs f ∙ ap length c.deref_mut-p-items.ensures.value ∙ sym own.ok.0 in
    let all = with_items_is own c.loop-p.p-items as_long ∙ mapped ∙ ap (map f) c.deref_mut-p-items.ensures.value in
    let made : List Prop → Object = λ ps. record { proto = c.args.self.now.proto; extensible = false; props = ps } in
    ap made all
