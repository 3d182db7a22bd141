use Rattle.std.proofs.Common.{◌≡◌, ℕ, List, [], ◌∷◌, ◌++◌, refl, sym, ap, ◌∙◌, append_assoc, append-nil}
use Rattle.hc_board.specs.Trail.{Access}
use Rattle.hc_board.specs.Parts.{MetEntry, Part, reads_of, start_of}
use Rattle.hc_board.specs.States.{ReaderState, beginning, entry_of, reads_made}
use Rattle.hc_jobs.specs.Batches.{BatchIsAPart}
use Rattle.hc_jobs.proofs.laws.a_batch_is_a_part.Goals as goal

reads-append : (parts more : MetEntry) → reads_of (parts ++ more) ≡ reads_of parts ++ reads_of more
unfolding reads_of
reads-append [] more = refl
reads-append (part ∷ parts) more = ap (λ (reads : List Access). part.reads ++ reads) (reads-append parts more) ∙ sym (append_assoc part.reads (reads_of parts) (reads_of more))

reads-ended : (parts : MetEntry) (last : Part) → reads_of (parts ++ last ∷ []) ≡ reads_of parts ++ last.reads
unfolding reads_of
reads-ended parts last = reads-append parts (last ∷ []) ∙ ap (λ (reads : List Access). reads_of parts ++ reads) (append-nil last.reads)

start-ended : (parts : MetEntry) (last : Part) (begin later : ℕ) → last.begin ≡ begin → start_of (parts ++ last ∷ []) later ≡ start_of parts begin
unfolding start_of
start-ended [] last begin later e = e
start-ended (part ∷ parts) last begin later e = refl

batch : BatchIsAPart
batch old after position made h = record {
  entry = ap (λ (r : ReaderState). entry_of r position) h;
  begin = ap (λ (r : ReaderState). r.begin) h;
  last = ap (λ (r : ReaderState). r.last) h;
  reads = ap reads_made h ∙ ap (λ (reads : List Access). reads ++ made) (reads-ended old.parts (record { begin = old.begin; reads = old.last; end = position }));
  start = ap beginning h ∙ start-ended old.parts (record { begin = old.begin; reads = old.last; end = position }) old.begin position refl;
  board = ap (λ (r : ReaderState). r.board) h;
}

pub returns : goal.returns
returns c = record { law = batch }
