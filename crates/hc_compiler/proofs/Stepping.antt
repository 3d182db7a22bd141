-- A job that makes a batch of reads, and then goes on or ends.
use Rattle.std.proofs.Common.{◌≡◌, ◌⊎◌, ℕ, ◌+◌, true, false, Option, Some, is_some, true≢false, List, [], ◌∷◌, ◌++◌, length, sym, ap, ◌∙◌, subst}
use Rattle.std.specs.Prelude.{IsSomeAnd, option_map}
use Rattle.hc_board.specs.Fits.{ReadsFit}
use Rattle.hc_board.specs.Laws.{OnePosition, RenewKeepsReads}
use Rattle.hc_board.specs.Parts.{EntryFits, MetEntry}
use Rattle.hc_board.specs.States.{ReaderState, beginning, entry_of, position_of, reads_made, renewed}
use Rattle.hc_board.specs.Steps.{newest}
use Rattle.hc_heap.specs.States.{IsDesk, IsHeap}
use Rattle.hc_answers.specs.Laws.{ReadsTell}
use Rattle.hc_planner.specs.Jobs.{JobState}
use Rattle.hc_jobs.specs.Batches.{BatchIsAPart}
use Rattle.hc_jobs.specs.Opened.{OthersStayOpen, is_open, open_at, without}
use Rattle.hc_jobs.specs.Reading.{MakesReads}
use Rattle.hc_jobs.specs.declared.reads.Reads.{Reads}
use Rattle.hc_jobs.specs.declared.reads.Reads.TheVariants.{All}
use Rattle.hc_jobs.specs.declared.table.OpenJob.{OpenJob}
use Rattle.hc_modes.specs.Readers.{HasMet, with_entries}
use Rattle.hc_modes.specs.State.{ObjectsState}
use Rattle.hc_question.specs.Told.{IsTold, TellsNothing}
use Rattle.hc_question.specs.declared.outcome.Outcome.{Outcome}
use Rattle.hc_compiler.specs.Calls.{Finishes, Steps}
use Rattle.hc_compiler.specs.Ends.{EndsWith, HasEnded}
use Rattle.hc_compiler.specs.Jobs.{AreReading, IsReading, Opening, OthersStay, opening_of}
use Rattle.hc_compiler.proofs.Numbered.{count-with, count-without, each-of, others-again, others-taken}
use Rattle.hc_compiler.proofs.Batching.{batch-of, goes-on, is-part, met-twice, others-read, reads-on}
use Rattle.hc_compiler.proofs.Ending.{ends-with, newest-last}

abbrev given-at : JobState → ℕ → Opening
given-at job start = record { job = job.id; site = job.site; what = job.what; maps = job.maps; mega = job.mega; start = start }

-- jobs, of which the one of a number made reads behind a renewal
module _ {P : Type 0} (stay : OthersStayOpen) (part : BatchIsAPart) (one : OnePosition) (keeps : RenewKeepsReads) (n : Reads) (a mid b : ObjectsState P) (jobs : List OpenJob) (j : ℕ)
    (x : OpenJob) (job : JobState) (reader : ReaderState) (there : is_open jobs j ≡ true) (was : open_at jobs j ≡ Some x) (id : x.job.id ≡ j)
    (met : HasMet a x.reader mid) (reads : MakesReads n x.job job (renewed x.reader (position_of a.heap.desk)) reader) (same : job ≡ record x.job { seekers = job.seekers }) (again : HasMet mid reader b) where
  -- where positions are those of the middle, they are those of the beginning
  as-before : (Q : ObjectsState P → Type 0) → Q mid → Q (with_entries a (entry_of x.reader (position_of a.heap.desk) ∷ []))
  as-before Q h = subst Q met h

  fit-before : ReadsFit mid.heap.desk.board.words mid.heap.desk.trail reader.begin (position_of mid.heap.desk) reader.last → ReadsFit a.heap.desk.board.words a.heap.desk.trail reader.begin (position_of a.heap.desk) reader.last
  fit-before h = as-before (λ s. ReadsFit s.heap.desk.board.words s.heap.desk.trail reader.begin (position_of s.heap.desk) reader.last) h

  module _ (next : ReaderState) (next-is : next ≡ renewed reader (position_of mid.heap.desk)) where
    next-here : next ≡ renewed reader (position_of a.heap.desk)
    next-here = as-before (λ s. next ≡ renewed reader (position_of s.heap.desk)) next-is

    new-id : job.id ≡ j
    new-id = ap (λ (k : JobState). k.id) same ∙ id

    module _ (later : List OpenJob) (later-is : later ≡ without j jobs ++ record { job = job; reader = next } ∷ []) (now : open_at later job.id ≡ Some (record { job = job; reader = next })) where
      others : OthersStay jobs later j
      others = subst (λ (l : List OpenJob). OthersStay jobs l j) (sym later-is) (others-again stay jobs x (record { job = job; reader = next }) j new-id)

      found : open_at later j ≡ Some (record { job = job; reader = next })
      found = subst (λ (k : ℕ). open_at later k ≡ Some (record { job = job; reader = next })) new-id now

      start-same : beginning next ≡ beginning x.reader
      start-same = ap beginning next-here ∙ ((keeps reader (position_of a.heap.desk)).1 ∙ (is-part part one n a mid b x job reader met reads again).start)

      given-same : opening_of (record { job = job; reader = next }) ≡ opening_of x
      given-same = ap (λ (k : JobState). given-at k (beginning next)) same ∙ ap (given-at x.job) start-same

      pub steps : ReadsFit mid.heap.desk.board.words mid.heap.desk.trail reader.begin (position_of mid.heap.desk) reader.last → Steps n a jobs j b later
      steps fit = record {
        x = x;
        made = reads.reads;
        job = job;
        was = was;
        batch = batch-of part one n a mid b x job reader met reads again same (fit-before fit);
        now = found ∙ ap (λ (r : ReaderState). Some (record { job = job; reader = r })) (next-here ∙ goes-on part one n a mid b x job reader met reads again);
        given = ap (option_map opening_of) found ∙ (ap Some given-same ∙ sym (ap (option_map opening_of) was));
        others = others;
        count =
            let less : length (without j jobs) + 1 ≡ length jobs = count-without j jobs there in
            let more : length later ≡ length (without j jobs) + 1 = ap length later-is ∙ count-with (without j jobs) (record { job = job; reader = next }) in
            more ∙ less;
      }

      pub reading : AreReading a jobs → AreReading b later
      reading h = each-of (IsReading b) jobs later j others here (λ k y e. others-read part one n a mid b x job reader met reads again y (h k y e)) where
        here : (y : OpenJob) → open_at later j ≡ Some y → IsReading b y
        here y e =
            let is : record { job = job; reader = renewed reader (position_of a.heap.desk) } ≡ y = ap (λ (r : ReaderState). record { job = job; reader = r }) (sym next-here) ∙ (let k : Some (record { job = job; reader = next }) ≡ Some y = sym found ∙ e in cc) in
            subst (IsReading b) is (reads-on part one n a mid b x job reader met reads again keeps same (h j x was))

-- jobs, of which the one of a number made all reads that were left, and ended
module _ {P : Type 0} (stay : OthersStayOpen) (part : BatchIsAPart) (one : OnePosition) (keeps : RenewKeepsReads) (tell : ReadsTell) (a mid b : ObjectsState P) (jobs : List OpenJob) (j : ℕ)
    (x : OpenJob) (job : JobState) (reader : ReaderState) (there : is_open jobs j ≡ true) (was : open_at jobs j ≡ Some x)
    (met : HasMet a x.reader mid) (reads : MakesReads All x.job job (renewed x.reader (position_of a.heap.desk)) reader) (same : job ≡ record x.job { seekers = job.seekers })
    (last : ReaderState) (last-is : last ≡ reader) (left : HasMet mid last b) (later : List OpenJob) (later-is : later ≡ without j jobs) where
  again : HasMet mid reader b
  again = subst (λ (r : ReaderState). HasMet mid r b) last-is left

  here-too : (Q : ObjectsState P → ReaderState → Type 0) → Q mid last → Q (with_entries a (entry_of x.reader (position_of a.heap.desk) ∷ [])) reader
  here-too Q h = subst (λ (s : ObjectsState P). Q s reader) met (subst (Q mid) last-is h)

  others-left : OthersStay jobs later j
  others-left = subst (λ (l : List OpenJob). OthersStay jobs l j) (sym later-is) (others-taken stay jobs x x j)

  pub finishes : is_open later j ≡ false → ReadsFit mid.heap.desk.board.words mid.heap.desk.trail last.begin (position_of mid.heap.desk) last.last
      → Finishes a jobs j b later
  finishes gone fit = record {
    x = x;
    made = reads.reads;
    job = job;
    was = was;
    batch = batch-of part one All a mid b x job reader met reads again same (here-too (λ s r. ReadsFit s.heap.desk.board.words s.heap.desk.trail r.begin (position_of s.heap.desk) r.last) fit);
    gone = gone;
    others = others-left;
    count = ap (λ (l : List OpenJob). length l + 1) later-is ∙ count-without j jobs there;
  }

  pub reading-left : is_open later j ≡ false → AreReading a jobs → AreReading b later
  reading-left gone h = each-of (IsReading b) jobs later j others-left here (λ k y e. others-read part one All a mid b x job reader met reads again y (h k y e)) where
    here : (y : OpenJob) → open_at later j ≡ Some y → IsReading b y
    here y e = let no : false ≡ true = sym gone ∙ ap is_some e in absurd (true≢false (sym no))

  module _ (heap : IsHeap a.heap.view) (desk : IsDesk a.heap.view a.heap.desk) (reading : IsReading a x) (outcome : Outcome)
      (reads_fit : ReadsFit mid.heap.desk.board.words mid.heap.desk.trail (beginning last) (position_of mid.heap.desk) (reads_made last))
      (entry_fits : EntryFits mid.heap.desk.board.words mid.heap.desk.trail (entry_of last (position_of mid.heap.desk)))
      (told : IsTold job.shape job.site job.what job.maps job.mega (reads_made reader) outcome ⊎ TellsNothing job.shape job.what job.maps job.mega (reads_made reader)) where
    ends-here : EndsWith a (opening_of x) (entry_of reader (position_of a.heap.desk)) outcome
    ends-here = ends-with a x tell heap desk reading keeps reader outcome ((is-part part one All a mid b x job reader met reads again).start)
        (here-too (λ s r. ReadsFit s.heap.desk.board.words s.heap.desk.trail (beginning r) (position_of s.heap.desk) (reads_made r)) reads_fit)
        (here-too (λ s r. EntryFits s.heap.desk.board.words s.heap.desk.trail (entry_of r (position_of s.heap.desk))) entry_fits)
        (subst (λ (k : JobState). IsTold k.shape k.site k.what k.maps k.mega (reads_made reader) outcome ⊎ TellsNothing k.shape k.what k.maps k.mega (reads_made reader)) same told)

    newest-here : newest b.heap.desk.met ≡ entry_of reader (position_of a.heap.desk)
    newest-here =
        ap (λ (s : ObjectsState P). newest s.heap.desk.met) again ∙ (newest-last mid.heap.desk.met (entry_of reader (position_of mid.heap.desk))
        ∙ ap (λ (s : ObjectsState P). entry_of reader (position_of s.heap.desk)) met)

    after-all : b ≡ with_entries a (entry_of x.reader (position_of a.heap.desk) ∷ entry_of reader (position_of a.heap.desk) ∷ [])
    after-all = met-twice a mid b (entry_of x.reader (position_of a.heap.desk)) (entry_of reader (position_of a.heap.desk)) met
        (subst (λ (s : ObjectsState P). b ≡ with_entries mid (entry_of reader (position_of s.heap.desk) ∷ [])) met again)

    ends-there : EndsWith b (opening_of x) (newest b.heap.desk.met) outcome
    ends-there = subst (λ (e : MetEntry). EndsWith b (opening_of x) e outcome) (sym newest-here)
        (subst (λ (s : ObjectsState P). EndsWith s (opening_of x) (entry_of reader (position_of a.heap.desk)) outcome) (sym after-all)
        (record { start = ends-here.start; fits = ends-here.fits; told = ends-here.told }))

    pub ended : HasEnded jobs j outcome b
    ended = subst (λ (o : Option OpenJob). IsSomeAnd (option_map opening_of o) (λ given. EndsWith b given (newest b.heap.desk.met) outcome)) (sym was) ends-there
