-- The lines of the log are put behind a text one after another.
use Rattle.std.proofs.Common.{◌≡◌, ℕ, suc, ◌+◌, ◌≤◌, List, ◌++◌, length, drop, sym, ◌∙◌, ap, arith, Some, append_assoc, append-nil}
use Rattle.std.specs.Prelude.{slice_get}
use Rattle.std.proofs.Math.Seq.{drop-cons}
use Rattle.std.proofs.lemmas.List.{drop_all}
use Rattle.std.proofs.lemmas.Option.{get_or_from_slice_get, slice_get_within}
use Rattle.hc_report.specs.Lines.{log_line}
use Rattle.hc_report.specs.declared.line.Line.{Line}
use Rattle.hc_session.specs.Logging.{log_text}

-- the text of the lines from a place on is that of the line there, and of those behind it
next_text : (lines : List (ℕ × Line)) (i : ℕ) (entry : ℕ × Line) → slice_get lines i ≡ Some entry → log_text (drop i lines) ≡ log_line entry.1 ++ log_text (drop (i + 1) lines)
next_text lines i entry there =
    let next : suc i ≡ i + 1 = omega arith in
    ap log_text (drop-cons lines i entry (slice_get_within lines i entry there))
    ∙ ap (λ (e : ℕ × Line). log_line e.1 ++ log_text (drop (suc i) lines)) (get_or_from_slice_get lines i entry entry there)
    ∙ ap (λ (n : ℕ). log_line entry.1 ++ log_text (drop n lines)) next

pub line_behind : (lines : List (ℕ × Line)) (i : ℕ) (entry : ℕ × Line) (before now : List ℕ) → slice_get lines i ≡ Some entry → now ≡ before ++ log_line entry.1 → now ++ log_text (drop (i + 1) lines) ≡ before ++ log_text (drop i lines)
line_behind lines i entry before now there put =
    ap (λ (text : List ℕ). text ++ log_text (drop (i + 1) lines)) put
    ∙ append_assoc before (log_line entry.1) (log_text (drop (i + 1) lines))
    ∙ ap (λ (text : List ℕ). before ++ text) (sym (next_text lines i entry there))

-- at the end none is left
pub none_behind : (lines : List (ℕ × Line)) (i : ℕ) (now whole : List ℕ) → length lines ≤ i → now ++ log_text (drop i lines) ≡ whole → now ≡ whole
none_behind lines i now whole past put =
    sym (append-nil now) ∙ ap (λ (rest : List (ℕ × Line)). now ++ log_text rest) (sym (drop_all i lines past)) ∙ put
