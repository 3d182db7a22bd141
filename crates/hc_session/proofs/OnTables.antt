-- A run over objects is one over property tables.
use Rattle.std.proofs.Common.{◌≡◌, ℕ, List, [], ◌∷◌, map, refl, sym, ap, ◌∙◌, subst, Option}
use Rattle.hc_table.specs.Kept.{Kept as Tables}
use Rattle.hc_plan.specs.declared.case.Site.{Site}
use Rattle.hc_sites.specs.declared.state.SiteState.{SiteState}
use Rattle.hc_commands.specs.declared.command.Command.{Command}
use Rattle.hc_script.specs.declared.fault.What.{What}
use Rattle.hc_script.specs.declared.fault.Status.{Status}
use Rattle.hc_script.specs.declared.fault.Status.TheVariants.{Done, BadWords, BadScript, ReadFault, WriteFault, Memory}
use Rattle.hc_session.specs.Plain.{AnswersPlainly, PlainState}
use Rattle.hc_compiler.specs.Jobs.{Compiling}
use Rattle.hc_session.specs.Standing.{Standing, jobs_of, plain_of, tables_of}
use Rattle.hc_modes.specs.State.{ObjectsState}
use Rattle.hc_session.specs.State.{Does, NotedInWant, Wants, any_pace}
use Rattle.hc_session.specs.Using.{is_accepted, uses_if}
use Rattle.hc_session.proofs.Readied.{want-tables}
use Rattle.hc_report.specs.declared.line.Line.{Line}
use Rattle.hc_session.proofs.Declares.{want-seen}
use Rattle.hc_session.specs.Output.{Outside, Place, Answers, AnswersLine, AnswersNext, PassesLine, AnswersUntilRefused, AnswersUntilFault}
use Rattle.hc_session.specs.Replay.{RepliesAsTables, EndsRun, nothing_made, the_first_place}
use Rattle.hc_session.specs.Fresh.{IsNew}
use Rattle.hc_session.specs.Keeping.{KeepsSession, IsLeft, IsLeftInWant}
use mathlib.Core.Logic.{◌⊎◌, inl, inr}

module _ {P : Type 0} where
  -- the same place, where only tables are seen
  abbrev seen_as_tables : Place (Standing P) → Place PlainState
  seen_as_tables place = record { at = place.at; begun = place.begun; state = plain_of place.state }

  line_on_tables : (old new : Place (Standing P)) (line text : List ℕ) → AnswersLine (Does any_pace) old line text new → AnswersLine AnswersPlainly (seen_as_tables old) line text (seen_as_tables new)
  line_on_tables old new line text h =
      record { command = h.command; answer = h.answer; asked = h.asked; begun = h.begun; done = h.done.answers; text_is = h.text_is }

  turn_on_tables : (old new : Place (Standing P)) (line text : List ℕ) → PassesLine old line text new ⊎ AnswersLine (Does any_pace) old line text new → PassesLine (seen_as_tables old) line text (seen_as_tables new) ⊎ AnswersLine AnswersPlainly (seen_as_tables old) line text (seen_as_tables new)
  turn_on_tables old new line text (inl h) =
      inl (record { passed = h.passed; begun = h.begun; same = ap (λ (s : Standing P). plain_of s) h.same; text_is = h.text_is })
  turn_on_tables old new line text (inr h) = inr (line_on_tables old new line text h)

  answers_on_tables : (start end : Place (Standing P)) (lines : List (List ℕ)) (text : List ℕ) → Answers (Does any_pace) start lines text end → Answers AnswersPlainly (seen_as_tables start) lines text (seen_as_tables end)
  answers_on_tables start end [] text h = (ap seen_as_tables h.0, h.1)
  answers_on_tables start end (line ∷ lines) text h =
      (seen_as_tables h.0, h.1, h.2, turn_on_tables start h.0 line h.1 h.3, answers_on_tables h.0 end lines h.2 h.4, h.5)

  until_refused_on_tables : (start end : Place (Standing P)) (before : Option (List ℕ)) (text : List ℕ) (n : ℕ) (what : What) → AnswersUntilRefused (Does any_pace) start before text end n what → AnswersUntilRefused AnswersPlainly (seen_as_tables start) before text (seen_as_tables end) n what
  until_refused_on_tables start end before text n what h =
      record { lines = h.lines; answers = answers_on_tables start end h.lines text h.answers; number = h.number; refused = h.refused }

  until_fault_on_tables : (start end : Place (Standing P)) (before now : Option (List ℕ)) (text : List ℕ) → AnswersUntilFault (Does any_pace) start before now text end → AnswersUntilFault AnswersPlainly (seen_as_tables start) before now text (seen_as_tables end)
  until_fault_on_tables start end before now text h =
      record { lines = h.lines; dropped = h.dropped; unbroken = h.unbroken; taken = h.taken; answers = answers_on_tables start end h.lines text h.answers }

  next_on_tables : (before : Option (List ℕ)) (lines : List (List ℕ)) (place end : Place (Standing P)) (more : List ℕ) → AnswersNext (Does any_pace) before lines place more end → AnswersNext AnswersPlainly before lines (seen_as_tables place) more (seen_as_tables end)
  next_on_tables before lines place end more h =
      record { line = h.line; there = h.there; next = line_on_tables place end h.line more h.next }

  -- want of memory leaves the tables, the sites and the jobs
  want_keeps_tables : (old new : Standing P) (command : Command) → Wants any_pace old command new → plain_of old ≡ plain_of new
  want_keeps_tables old new command (inl same) = rw (same.objects, same.sites, same.compiler) refl
  want_keeps_tables old new command (inr marked) =
      ap (λ (tables : Tables). record { tables = tables; sites = (plain_of old).sites; jobs = jobs_of old.compiler }) (sym (want-tables any_pace old.objects new.objects (uses_if (is_accepted (plain_of old) command) command) marked.moves))
      ∙ ap (λ (xs : List Site). record { tables = tables_of new.objects; sites = xs; jobs = jobs_of old.compiler }) (sym (noted old.objects old.sites new.sites old.log new.log command marked.noted))
      ∙ ap (λ (c : Compiling). record { tables = tables_of new.objects; sites = (plain_of new).sites; jobs = jobs_of c }) (sym marked.compiler)
    where
      noted : (objects : ObjectsState P) (sites now : List SiteState) (log log_now : List (ℕ × Line)) (command : Command) → NotedInWant any_pace objects sites log command now log_now → map (λ (x : SiteState). x.site) now ≡ map (λ (x : SiteState). x.site) sites
      noted objects sites now log log_now command (inl same) = ap (λ (xs : List SiteState). map (λ (x : SiteState). x.site) xs) same.0
      noted objects sites now log log_now command (inr h) = ap (λ (xs : List SiteState). map (λ (x : SiteState). x.site) xs) h.2.sites_are ∙ want-seen h.0 sites command

  ends_same : (old new : Standing P) (end : Place (Standing P)) → IsLeft old new end → plain_of end.state ≡ plain_of new
  ends_same old new end left = ap (λ (s : Standing P). plain_of s) left.same

  leaves_tables : (before : Option (List ℕ)) (old new : Standing P) (lines : List (List ℕ)) (place : Place (Standing P)) → IsLeftInWant old new place ⊎ ((more : List ℕ) × (end : Place (Standing P)) × AnswersNext (Does any_pace) before lines place more end × IsLeft old new end) → (plain_of place.state ≡ plain_of new) ⊎ ((more : List ℕ) × (end : Place PlainState) × AnswersNext AnswersPlainly before lines (seen_as_tables place) more end × (end.state ≡ plain_of new))
  leaves_tables before old new lines place (inl left) = inl (want_keeps_tables place.state new left.command left.wants)
  leaves_tables before old new lines place (inr h) =
      inr (h.0, seen_as_tables h.1, next_on_tables before lines place h.1 h.0 h.2, ends_same old new h.1 h.3)

  run_on_tables : (old new : Standing P) (before after : Outside) (status : Status) → KeepsSession old before new status after → EndsRun (the_first_place (plain_of old)) before status after AnswersPlainly (λ end. end.state ≡ plain_of new) (λ place. place.state ≡ plain_of new)
  run_on_tables old new before after Done h = record {
    text = h.text;
    end = seen_as_tables h.end;
    answers = record { lines = h.answers.lines; taken = h.answers.taken; ended = h.answers.ended; answers = answers_on_tables _ h.end h.answers.lines h.text h.answers.answers };
    at_end = ends_same old new h.end h.at_end;
    written = h.written;
  }
  run_on_tables old new before after BadWords h = absurd h
  run_on_tables old new before after (BadScript n what) h = record {
    text = h.text;
    end = seen_as_tables h.end;
    answers = until_refused_on_tables _ h.end before.left h.text n what h.answers;
    at_end = ends_same old new h.end h.at_end;
    written = h.written;
  }
  run_on_tables old new before after ReadFault h = record {
    text = h.text;
    end = seen_as_tables h.end;
    answers = until_fault_on_tables _ h.end before.left after.left h.text h.answers;
    at_end = ends_same old new h.end h.at_end;
    written = h.written;
  }
  run_on_tables old new before after WriteFault (inl h) = inl (record {
    lines = h.lines;
    text = h.text;
    place = seen_as_tables h.place;
    more = h.more;
    end = seen_as_tables h.end;
    answers = record { there = h.answers.there; answers = answers_on_tables _ h.place h.lines h.text h.answers.answers };
    next = next_on_tables before.left h.lines h.place h.end h.more h.next;
    at_end = ends_same old new h.end h.at_end;
    written = h.written;
  })
  run_on_tables old new before after WriteFault (inr (inl h)) = inr (inl (record {
    text = h.text;
    end = seen_as_tables h.end;
    n = h.n;
    what = h.what;
    answers = until_refused_on_tables _ h.end before.left h.text h.n h.what h.answers;
    at_end = ends_same old new h.end h.at_end;
    written = h.written;
  }))
  run_on_tables old new before after WriteFault (inr (inr h)) = inr (inr (record {
    text = h.text;
    end = seen_as_tables h.end;
    answers = until_fault_on_tables _ h.end before.left after.left h.text h.answers;
    at_end = ends_same old new h.end h.at_end;
    written = h.written;
  }))
  run_on_tables old new before after Memory h = record {
    lines = h.lines;
    text = h.text;
    place = seen_as_tables h.place;
    answers = record { there = h.answers.there; answers = answers_on_tables _ h.place h.lines h.text h.answers.answers };
    written = h.written;
    leaves = leaves_tables before.left old new h.lines h.place h.leaves;
  }

  -- and begins without objects, sites and jobs
  pub replies_as_tables : (old new : Standing P) (before after : Outside) (status : Status) → IsNew old → KeepsSession old before new status after → RepliesAsTables old.objects.heap.view.shape.objects before status after
  replies_as_tables old new before after status fresh h = (
    plain_of new,
    subst (λ (state : PlainState). EndsRun (the_first_place state) before status after AnswersPlainly (λ end. end.state ≡ plain_of new) (λ place. place.state ≡ plain_of new))
        (begins old fresh) (run_on_tables old new before after status h),
  )
    where
      begins : (session : Standing P) → IsNew session → plain_of session ≡ nothing_made session.objects.heap.view.shape.objects
      begins session fresh = rw (fresh.objects.world, fresh.sites, fresh.compiler) refl
