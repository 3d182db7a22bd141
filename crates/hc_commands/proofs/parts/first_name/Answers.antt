use Rattle.std.proofs.Common.{◌≡◌, length, true, false, sym, ◌∙◌, ap, arith}
use Rattle.std.proofs.lemmas.List.{length-take-le}
use Rattle.hc_commands.specs.Values.{is_name_text}
use Rattle.hc_commands.proofs.FirstName.{run_is_of_names, name_first, IsNameRun, name_is_run}
use Rattle.hc_commands.proofs.parts.first_name.Goals.{then-word_goes_on-via-then-word_goes_on, then-word_goes_on-via-else-word_goes_on+then-end-gt-MAX_NAME, then-word_goes_on-via-else-word_goes_on+else-end-gt-MAX_NAME+then-not-begins_as_name}
use Rattle.hc_commands.proofs.parts.first_name.Goals as goal

pub begins_as_name-requires : goal.begins_as_name-requires
begins_as_name-requires c = rw c.name_run-end.ensures.run (run_is_of_names c.without_blanks-rest.result.now)

pub returns-then-word_goes_on-clause-none : goal.returns-then-word_goes_on-clause-none
returns-then-word_goes_on-clause-none c name words is e =
    let run : IsNameRun c.without_blanks-rest.result.now c.name_run-end.result name =
    name_is_run c.without_blanks-rest.result.now c.name_run-end.result name words c.name_run-end.ensures.run c.without_blanks-rest.ensures.word is (c.without_blanks-rest.ensures.same ∙ e) in
    elim c.then-word_goes_on.branch [
      | then-word_goes_on-via-then-word_goes_on w ↦
          let no : true ≡ false = sym w.if-word_goes_on.true ∙ (c.word_goes_on.ensures ∙ run.ends) in cc
      | then-word_goes_on-via-else-word_goes_on+then-end-gt-MAX_NAME w ↦
          let size : length name ≡ c.name_run-end.result = ap length (sym run.run) ∙ length-take-le c.name_run-end.result c.without_blanks-rest.result.now c.name_run-end.ensures.within in
          omega (arith, size, is.short, w.if-end-gt-MAX_NAME.true)
      | then-word_goes_on-via-else-word_goes_on+else-end-gt-MAX_NAME+then-not-begins_as_name w ↦
          let no : false ≡ true = sym w.if-not-begins_as_name.true ∙ (w.begins_as_name.ensures ∙ (ap is_name_text run.run ∙ is.spelling)) in cc
    ]

pub returns-clause-some : goal.returns-clause-some
returns-clause-some c =
    sym c.without_blanks-rest.ensures.same ∙ name_first c.without_blanks-rest.result.now c.name_run-end.result c.name_run-end.ensures.run c.without_blanks-rest.ensures.word
    (sym c.begins_as_name.ensures ∙ c.if-not-begins_as_name.false) (sym c.word_goes_on.ensures ∙ c.if-word_goes_on.false)
