-- The status of a replay tells of its first refused line, or that there is none.
use Rattle.std.proofs.Common.{◌≡◌, ℕ, List, ◌∷◌, ◌++◌, refl, sym, ◌∙◌, ap, arith, Option, Some, None, IfSome, append-nil}
use Rattle.hc_lines.specs.Lines.{lines_of, TakesLines}
use Rattle.hc_lines.specs.Outside.{Rose, IsAtEnd}
use Rattle.hc_script.specs.Reading.{Position, IsRefused, the_start}
use Rattle.hc_commands.specs.declared.command.Command.{Command}
use Rattle.hc_script.specs.declared.fault.What.{What}
use Rattle.hc_script.specs.declared.fault.Status.{Status}
use Rattle.hc_script.specs.declared.fault.Status.TheVariants.{Done, BadWords, BadScript, ReadFault, WriteFault, Memory}
use Rattle.hc_session.specs.Plain.{Answer}
use Rattle.hc_session.specs.Output.{Outside, Place, AnswersAll, AnswersUntilRefused}
use Rattle.hc_session.specs.Replay.{the_first_place, EndsRun, AreAccepted, IsFirstRefused, AreAllAccepted, IsCutShort}
use Rattle.hc_session.proofs.FirstRefused.{OneMeaning, together, before, behind, two_splits, accepted_all_once, none_refused_among, answered_accepted}
use mathlib.Core.Logic.{◌⊎◌, inl, inr}

-- lines that were all taken are the lines of the bytes
all_lines : (bytes : List ℕ) (left : Option (List ℕ)) (lines : List (List ℕ)) → TakesLines (Some bytes) left lines → IsAtEnd left → lines_of bytes ≡ lines
all_lines bytes None lines taken ended = absurd taken
all_lines bytes (Some left) lines taken ended = taken ∙ ap (λ (rest : List ℕ). lines ++ lines_of rest) ended ∙ append-nil lines

module _ {S : Type 0} (does : S → Command → Answer → S → Type 0) (ends stays : Place S → Type 0) (law : OneMeaning) (state : S) where
  -- a script that was answered to its end has no refused line
  done_unrefused : (bytes : List ℕ) (left : Option (List ℕ)) (text : List ℕ) (end : Place S) (n : ℕ) (what : What) → AnswersAll does (the_first_place state) (Some bytes) left text end → IsFirstRefused bytes n what → ⊥
  done_unrefused bytes left text end n what all first =
      let lines : first.lines ++ first.line ∷ first.others ≡ all.lines = sym first.split ∙ all_lines bytes left all.lines all.taken all.ended in
      none_refused_among law the_start end.at first.there first.lines first.others first.line what
      (rw lines (answered_accepted does (the_first_place state) end all.lines text all.answers)) first.accepted first.refused

  -- the line that was refused is the first one
  same_refusal : (bytes text : List ℕ) (end : Place S) (m n : ℕ) (word what : What) → AnswersUntilRefused does (the_first_place state) (Some bytes) text end m word → IsFirstRefused bytes n what → BadScript m word ≡ BadScript n what
  same_refusal bytes text end m n word what until first =
      elim (two_splits first.lines first.others until.lines until.refused.1 first.line until.refused.0 (sym first.split ∙ until.refused.2)) [
        | together lists lines ↦
            let went : AreAccepted the_start until.lines end.at = answered_accepted does (the_first_place state) end until.lines text until.answers in
            let there : end.at ≡ first.there = accepted_all_once law the_start end.at first.there until.lines went (rw lists at first.accepted) in
            let here : IsRefused end.at first.line what = rw there first.refused in
            let words : word ≡ what = law.refused end.at first.line word what (rw (sym lines) at until.refused.3) here in
            let numbers : m ≡ n = omega (arith, until.number, first.number, ap (λ (p : Position). p.lines) there) in
            rw (words, numbers) refl
        | before rest lines ↦ absurd (none_refused_among law the_start end.at first.there first.lines rest first.line what
            (rw (sym lines) (answered_accepted does (the_first_place state) end until.lines text until.answers)) first.accepted first.refused)
        | behind rest lines ↦ absurd (none_refused_among law the_start first.there end.at until.lines rest until.refused.0 word
            (rw (sym lines) first.accepted) (answered_accepted does (the_first_place state) end until.lines text until.answers) until.refused.3)
      ]

  -- where each line is accepted none is refused
  accepted_unrefused : (bytes text : List ℕ) (end : Place S) (n : ℕ) (what : What) → AnswersUntilRefused does (the_first_place state) (Some bytes) text end n what → AreAllAccepted bytes → ⊥
  accepted_unrefused bytes text end n what until all =
      none_refused_among law the_start all.0 end.at until.lines until.refused.1 until.refused.0 what
      (rw (sym until.refused.2) all.1) (answered_accepted does (the_first_place state) end until.lines text until.answers) until.refused.3

  -- the first refused line ends the run, or something came before it
  first_refused : (bytes : List ℕ) (reads writes : ℕ) (taken : Option (List ℕ)) (status : Status) (after : Outside) → EndsRun (the_first_place state) (record { left = Some bytes; reads = reads; taken = taken; writes = writes }) status after does ends stays → (status ≡ ReadFault → Rose reads after.reads) → (status ≡ WriteFault → Rose writes after.writes) → (n : ℕ) (what : What) → IsFirstRefused bytes n what → (status ≡ BadScript n what) ⊎ IsCutShort (record { left = Some bytes; reads = reads; taken = taken; writes = writes }) status after
  first_refused bytes reads writes taken Done after ran read write n what first =
      absurd (done_unrefused bytes after.left ran.text ran.end n what ran.answers first)
  first_refused bytes reads writes taken BadWords after ran read write n what first = absurd ran
  first_refused bytes reads writes taken (BadScript m word) after ran read write n what first =
      inl (same_refusal bytes ran.text ran.end m n word what ran.answers first)
  first_refused bytes reads writes taken ReadFault after ran read write n what first = inr (inr (inl (read refl)))
  first_refused bytes reads writes taken WriteFault after ran read write n what first = inr (inr (inr (write refl)))
  first_refused bytes reads writes taken Memory after ran read write n what first = inr (inl refl)

  pub refused_told : (left : Option (List ℕ)) (reads writes : ℕ) (taken : Option (List ℕ)) (status : Status) (after : Outside) → EndsRun (the_first_place state) (record { left = left; reads = reads; taken = taken; writes = writes }) status after does ends stays → (status ≡ ReadFault → Rose reads after.reads) → (status ≡ WriteFault → Rose writes after.writes) → IfSome left (λ bytes. (n : ℕ) (what : What) → IsFirstRefused bytes n what → (status ≡ BadScript n what) ⊎ IsCutShort (record { left = left; reads = reads; taken = taken; writes = writes }) status after)
  refused_told None reads writes taken status after ran read write = tt
  refused_told (Some bytes) reads writes taken status after ran read write = first_refused bytes reads writes taken status after ran read write

  all_accepted : (bytes : List ℕ) (reads writes : ℕ) (taken : Option (List ℕ)) (status : Status) (after : Outside) → EndsRun (the_first_place state) (record { left = Some bytes; reads = reads; taken = taken; writes = writes }) status after does ends stays → (status ≡ ReadFault → Rose reads after.reads) → (status ≡ WriteFault → Rose writes after.writes) → AreAllAccepted bytes → (status ≡ Done) ⊎ IsCutShort (record { left = Some bytes; reads = reads; taken = taken; writes = writes }) status after
  all_accepted bytes reads writes taken Done after ran read write all = inl refl
  all_accepted bytes reads writes taken BadWords after ran read write all = absurd ran
  all_accepted bytes reads writes taken (BadScript n what) after ran read write all =
      absurd (accepted_unrefused bytes ran.text ran.end n what ran.answers all)
  all_accepted bytes reads writes taken ReadFault after ran read write all = inr (inr (inl (read refl)))
  all_accepted bytes reads writes taken WriteFault after ran read write all = inr (inr (inr (write refl)))
  all_accepted bytes reads writes taken Memory after ran read write all = inr (inl refl)

  pub accepted_told : (left : Option (List ℕ)) (reads writes : ℕ) (taken : Option (List ℕ)) (status : Status) (after : Outside) → EndsRun (the_first_place state) (record { left = left; reads = reads; taken = taken; writes = writes }) status after does ends stays → (status ≡ ReadFault → Rose reads after.reads) → (status ≡ WriteFault → Rose writes after.writes) → IfSome left (λ bytes. AreAllAccepted bytes → (status ≡ Done) ⊎ IsCutShort (record { left = left; reads = reads; taken = taken; writes = writes }) status after)
  accepted_told None reads writes taken status after ran read write = tt
  accepted_told (Some bytes) reads writes taken status after ran read write = all_accepted bytes reads writes taken status after ran read write
