-- Which reads are a job's own, from a new job on and from look to look.
use Rattle.std.proofs.Common.{◌≡◌, ℕ, Bool, true, false, List, [], ◌∷◌, ◌++◌, refl, sym, ap, inl, inr, subst, arith}
use Rattle.std.specs.Prelude.{map, ◌⊎◌, if◌then◌else◌}
use Rattle.hc_board.specs.Trail.{Access}
use Rattle.hc_board.specs.States.{ReaderState, reads_made}
use Rattle.hc_board.specs.Laws.{LookAddsReads}
use Rattle.hc_layout.specs.declared.shape.Shape.{Shape}
use Rattle.hc_plan.specs.declared.case.Site.{Site}
use Rattle.hc_question.specs.Ask.{Ask, tell, stop, look, heard, asked_after, LeadsTo}
use Rattle.hc_question.specs.Told.{IsTold, TellsNothing}
use Rattle.hc_question.specs.declared.outcome.Outcome.{Outcome}
use Rattle.hc_question.specs.Question.{question}
use Rattle.hc_planner.specs.declared.seeker.Seeker.{Seeker}
use Rattle.hc_planner.specs.Machine.{asks_of}
use Rattle.hc_planner.specs.Jobs.{JobState, asks, AreOwn, IsOwn, is_done, LooksOn, Rests, HasOutcome, new_seeker, maps_of}
use Rattle.hc_planner.proofs.Asking.{asks-new}

pub asks-mega : (job : JobState) → job.mega ≡ true → is_done (asks job) ≡ true
unfolding is_done
asks-mega job h = rw h refl

pub maps-new : (what : Site) (most : ℕ) (maps : List ℕ) → maps_of (map (new_seeker what most) maps) ≡ maps
maps-new what most [] = refl
maps-new what most (m ∷ maps) = ap (λ (ms : List ℕ). m ∷ ms) (maps-new what most maps)

asks-first : (s : Shape) (what : Site) (maps : List ℕ) (mega : Bool) → question s what maps mega ≡ (if mega then tell [] [] else asks_of (map (new_seeker what s.links) maps) [] [])
asks-first s what maps true = refl
asks-first s what maps false = sym (asks-new what s.links maps [] [])

pub own-new : (s : Shape) (what : Site) (maps : List ℕ) (mega : Bool) (seekers : List Seeker) → seekers ≡ map (new_seeker what s.links) maps
    → LeadsTo s (question s what (maps_of seekers) mega) [] (if mega then tell [] [] else asks_of seekers [] [])
unfolding LeadsTo
own-new s what maps mega seekers e = rw (e, maps-new what s.links maps) (asks-first s what maps mega)

leads-append : (s : Shape) (a b c : Ask) (reads later : List Access) → LeadsTo s a reads b → LeadsTo s b later c → LeadsTo s a (reads ++ later) c
unfolding LeadsTo
leads-append s a b c [] later h k = rw h k
leads-append s a b c (read ∷ reads) later h k = (h.0, leads-append s (heard s a read) b c reads later h.1 k)

pub own-step : (old new : JobState) (before after : ReaderState) → LookAddsReads → IsOwn old before → (LooksOn old new before after) ⊎ (Rests old new before after)
    → new ≡ record old { seekers = new.seekers } → IsOwn new after
own-step old new before after law own (inl h) same =
    let reads = law before after (h.read ∷ []) h.looked in
    let leads = leads-append old.shape (question old.shape old.what old.maps old.mega) (asks old) (asks new) (reads_made before) (h.read ∷ []) own h.leads in
    let mega : new.mega ≡ old.mega = ap (λ (j : JobState). j.mega) same in
    subst (λ (j : JobState). IsOwn j after) (sym same) (rw reads.0 (rw mega at leads))
own-step old new before after law own (inr h) same = rw (h.job, h.reader) own

pub leads-after : (s : Shape) (a b : Ask) (reads : List Access) → LeadsTo s a reads b → asked_after s reads a ≡ b
unfolding LeadsTo asked_after
leads-after s a b [] h = h
leads-after s a b (read ∷ reads) h = leads-after s (heard s a read) b reads h.1

-- what a job that is done still asks says what its reads tell
module _ (job : JobState) (reads : List Access) (outcome : Outcome) (has : HasOutcome job.site job.what job.mega job.seekers outcome) (maps : job.maps ≡ maps_of job.seekers) where
  told-by : (asked : Ask) → is_done asked ≡ true → asks job ≡ asked → asked_after job.shape reads (question job.shape job.what job.maps job.mega) ≡ asked
      → IsTold job.shape job.site job.what job.maps job.mega reads outcome ⊎ TellsNothing job.shape job.what job.maps job.mega reads
  unfolding is_done
  told-by (tell cases skips) done e after =
      inl (record { cases = cases; skips = skips; asked = after; outcome_is = rw maps (has cases skips e) })
  told-by stop done e after = inr after
  told-by (look kind item next) done e after = grind (arith, done)

  pub own-told : is_done (asks job) ≡ true → AreOwn job reads
      → IsTold job.shape job.site job.what job.maps job.mega reads outcome ⊎ TellsNothing job.shape job.what job.maps job.mega reads
  own-told done own = told-by (asks job) done refl (leads-after job.shape (question job.shape job.what job.maps job.mega) (asks job) reads own)
