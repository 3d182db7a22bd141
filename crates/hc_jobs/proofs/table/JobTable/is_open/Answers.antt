use Rattle.std.proofs.Common.{◌≡◌, List, length, ltb, sym, ap, ◌∙◌}
use Rattle.hc_jobs.specs.declared.table.OpenJob.{OpenJob}
use Rattle.hc_jobs.specs.Opened.{is_open}
use Rattle.hc_jobs.proofs.Opening.{open-test}
use Rattle.hc_jobs.proofs.table.JobTable.is_open.Goals as goal

pub returns : goal.returns
returns c = record {
  there =
      let xs = c.as_slice.result.now in
      let same : xs ≡ c.args.self.now = c.as_slice.ensures.value ∙ c.self.view_is in
      let count : length xs ≡ c.len.result = c.as_slice.ensures.len ∙ sym c.len.ensures in
      ap (ltb c.place_of.result) (sym count)
      ∙ (sym (open-test c.args.number xs c.place_of.result c.place_of.ensures.others c.place_of.ensures.first) ∙ ap (λ (jobs : List OpenJob). is_open jobs c.args.number) same);
}
