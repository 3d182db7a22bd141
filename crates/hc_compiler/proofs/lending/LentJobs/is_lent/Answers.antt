use Rattle.std.proofs.Common.{◌≡◌, List, length, map, ltb, sym, ap, ◌∙◌, subst, IfSome, false, take, slice_get}
use Rattle.hc_compiler.specs.Jobs.{Opening, is_lent}
use Rattle.hc_compiler.specs.Lending.{given_to}
use Rattle.hc_compiler.specs.declared.lending.Lent.{Lent}
use Rattle.hc_compiler.proofs.Handing.{lent-test}
use Rattle.hc_compiler.proofs.lending.LentJobs.is_lent.Goals as goal

pub returns : goal.returns
returns c = record {
  there =
      let xs = c.as_slice.result.now in
      let same : map given_to xs ≡ c.args.self.now = ap (map given_to) c.as_slice.ensures.value ∙ c.self.view_is in
      let count : length xs ≡ c.len.result = c.as_slice.ensures.len ∙ sym c.len.ensures in
      ap (ltb c.place_of.result) (sym count)
      ∙ (sym (lent-test c.args.number xs c.place_of.result c.place_of.ensures.others c.place_of.ensures.first) ∙ ap (λ (lent : List Opening). is_lent lent c.args.number) same);
}
