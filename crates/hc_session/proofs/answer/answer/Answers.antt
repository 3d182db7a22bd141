use Rattle.std.proofs.Common.{◌≡◌, ℕ, List, ◌++◌, length, drop, true, refl, ◌∙◌, sym, ap, Ok, Err}
use Rattle.std.specs.Prelude.{Result, OnOk, is_ok}
use Rattle.hc_report.specs.declared.line.Line.{Line}
use Rattle.hc_session.specs.Logging.{log_text}
use Rattle.hc_session.specs.Plain.{answer_text}
use Rattle.hc_session.specs.State.{answer_since}
use Rattle.hc_session.proofs.Declares.{job_number_left, none_lent, number_left}
use Rattle.hc_session.proofs.NamedWorlds.{numbers_held, replies_show, tables_keep}
use Rattle.hc_session.proofs.Sited.{lent_stay, names_keep, no_two_more, no_two_started}
use Rattle.hc_session.proofs.answer.answer.Goals as goal

pub command-requires-clause-numbers : goal.command-requires-clause-numbers
command-requires-clause-numbers g c = numbers_held _ _ c.requires.names c.requires.command

pub command-requires-clause-room : goal.command-requires-clause-room
command-requires-clause-room g c = number_left _ _ c.requires.sites

pub command-requires-clause-jobs : goal.command-requires-clause-jobs
command-requires-clause-jobs g c = job_number_left _ _ c.requires.jobs

pub command-requires-clause-own : goal.command-requires-clause-own
command-requires-clause-own g c = none_lent _ _ c.requires.own

pub render_answer-requires : goal.render_answer-requires
render_answer-requires g c = record { named = replies_show _ _ _ _ _ c.in-Ok.ensures.done.answers c.requires.world c.requires.named c.requires.command }

pub returns-in-Ok-write_piece-clause-world : goal.returns-in-Ok-write_piece-clause-world
returns-in-Ok-write_piece-clause-world g c = tables_keep _ _ _ _ _ c.in-Ok.ensures.done.answers c.requires.world c.requires.named c.requires.command

pub returns-in-Ok-write_piece-clause-named : goal.returns-in-Ok-write_piece-clause-named
returns-in-Ok-write_piece-clause-named g c = names_keep _ _ _ _ _ c.in-Ok.ensures.done _ c.requires.command c.requires.named

pub returns-in-Ok-write_piece-clause-sites : goal.returns-in-Ok-write_piece-clause-sites
returns-in-Ok-write_piece-clause-sites g c = no_two_more _ _ _ _ _ c.in-Ok.ensures.done

pub returns-in-Ok-write_piece-clause-jobs : goal.returns-in-Ok-write_piece-clause-jobs
returns-in-Ok-write_piece-clause-jobs g c = no_two_started _ _ _ _ _ c.in-Ok.ensures.done

pub returns-in-Ok-write_piece-clause-own : goal.returns-in-Ok-write_piece-clause-own
returns-in-Ok-write_piece-clause-own g c = lent_stay _ _ _ _ _ c.in-Ok.ensures.done ∙ c.requires.own

-- what holds where a result is Ok
where_ok : {A B : Type 0} (r : Result A B) (P : Type 0) → is_ok r ≡ true → OnOk r P → P
where_ok {A} {B} (Ok a) P ok holds = holds
where_ok {A} {B} (Err b) P ok holds = absurd (cc)

-- the lines that were rendered are those that the log has got since
same_lines : (old new now : List (ℕ × Line)) (from : ℕ) → from ≡ length old → now ≡ new → log_text (drop from now) ≡ log_text (drop (length old) new)
same_lines old new now from first second = rw (first, second) refl

pub returns-clause-write : goal.returns-clause-write
returns-clause-write g c failed =
    let written = c.in-Err.ensures.err in
    let answer = answer_since c.args.session.now c.in-Ok.reply c.command.new.self in
    let line = answer_text c.args.names.now answer in
    let lines = same_lines c.args.session.now.log c.command.new.self.log c.log-2.result.now.lines c.len-before.result (c.len-before.ensures ∙ ap (λ (xs : List (ℕ × Line)). length xs) c.log.ensures) c.log-2.ensures in
    let rendered = where_ok c.render_answer.result (c.render_answer.new.out.items ≡ c.clear.new.self.items ++ answer_text c.args.names.now (record { log = log_text (drop c.len-before.result c.log-2.result.now.lines); reply = c.in-Ok.reply })) c.if-is_err.ensures.negation c.render_answer.ensures.ok in
    let text : c.deref.result.now ≡ line =
    c.deref.ensures.value ∙ rendered
    ∙ ap (λ (t : List ℕ). c.clear.new.self.items ++ answer_text c.args.names.now (record { log = t; reply = c.in-Ok.reply })) lines
    ∙ ap (λ (xs : List ℕ). xs ++ line) c.clear.ensures.items in
    record {
      answer = answer;
      does = c.in-Ok.ensures.done;
      written = (written.0, (written.1.0, written.1.1, sym text ∙ written.1.2), written.2);
    }
