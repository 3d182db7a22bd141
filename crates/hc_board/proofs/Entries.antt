-- Parts in order, and met entries.
use Rattle.std.proofs.Common.{◌≡◌, ℕ, ◌≤◌, List, [], ◌∷◌, ◌++◌, length, refl, sym, ap, ◌∙◌, subst, arith, length-append, append-nil, append_assoc}
use Rattle.hc_board.specs.Trail.{Access}
use Rattle.hc_board.specs.Fits.{ReadsFit}
use Rattle.hc_board.specs.Parts.{MetEntry, InOrder, EntryFits, MetFit, reads_of, start_of, ended}
use Rattle.hc_board.specs.States.{ReaderState, renewed, reads_made, beginning}
use Rattle.hc_board.specs.Looked.{reader_looked}
use Rattle.hc_board.specs.Steps.{newest}
use Rattle.hc_board.proofs.Readings.{fits-bound, fits-wider, fits-append, fits-longer}

pub order-bound : (width : ℕ) (trail : List Access) (from upto : ℕ) (parts : MetEntry) → InOrder width trail from upto parts → from ≤ upto
unfolding InOrder
order-bound width trail from upto [] o = o
order-bound width trail from upto (part ∷ rest) o =
    let inside = fits-bound width trail part.begin part.end part.reads o.1 in let more = order-bound width trail part.end upto rest o.2 in let low = o.0 in omega arith

pub order-later : (width : ℕ) (trail : List Access) (from upto after : ℕ) (parts : MetEntry) → upto ≤ after → InOrder width trail from upto parts → InOrder width trail from after parts
unfolding InOrder
order-later width trail from upto after [] h o = omega arith
order-later width trail from upto after (part ∷ rest) h o = (o.0, o.1, order-later width trail part.end upto after rest h o.2)

pub order-longer : (width : ℕ) (trail more : List Access) (from upto : ℕ) (parts : MetEntry) → upto ≤ length trail → InOrder width trail from upto parts → InOrder width (trail ++ more) from upto parts
unfolding InOrder
order-longer width trail more from upto [] h o = o
order-longer width trail more from upto (part ∷ rest) h o =
    let high = order-bound width trail part.end upto rest o.2 in
    (o.0, fits-longer width trail more part.begin part.end part.reads (omega arith) o.1, order-longer width trail more part.end upto rest h o.2)

pub order-ended : (width : ℕ) (trail : List Access) (from begin end : ℕ) (parts : MetEntry) (reads : List Access) → InOrder width trail from begin parts → ReadsFit width trail begin end reads → InOrder width trail from end (ended parts begin reads end)
unfolding InOrder
order-ended width trail from begin end [] reads o f = (o, f, omega arith)
order-ended width trail from begin end (part ∷ rest) reads o f = (o.0, o.1, order-ended width trail part.end begin end rest reads o.2 f)

pub entry-ended : (width : ℕ) (trail : List Access) (begin : ℕ) (parts : MetEntry) (reads : List Access) → InOrder width trail 0 begin parts → ReadsFit width trail begin (length trail) reads → EntryFits width trail (ended parts begin reads (length trail))
unfolding EntryFits
entry-ended width trail begin parts reads o f = order-ended width trail 0 begin (length trail) parts reads o f

pub entry-longer : (width : ℕ) (trail more : List Access) (entry : MetEntry) → EntryFits width trail entry → EntryFits width (trail ++ more) entry
unfolding EntryFits
entry-longer width trail more entry e =
    order-later width (trail ++ more) 0 (length trail) (length (trail ++ more)) entry (omega (arith, length-append trail more)) (order-longer width trail more 0 (length trail) entry (omega arith) e)

pub met-longer : (width : ℕ) (trail more : List Access) (met : List MetEntry) → MetFit width trail met → MetFit width (trail ++ more) met
met-longer width trail more [] m = tt
met-longer width trail more (entry ∷ rest) m = (entry-longer width trail more entry m.0, met-longer width trail more rest m.1)

pub met-more : (width : ℕ) (trail : List Access) (met : List MetEntry) (entry : MetEntry) → MetFit width trail met → EntryFits width trail entry → MetFit width trail (met ++ entry ∷ [])
met-more width trail [] entry m e = (e, tt)
met-more width trail (first ∷ rest) entry m e = (m.0, met-more width trail rest entry m.1 e)

pub newest-more : (met : List MetEntry) (entry : MetEntry) → newest (met ++ entry ∷ []) ≡ entry
unfolding newest
newest-more [] entry = refl
newest-more (first ∷ []) entry = refl
newest-more (first ∷ next ∷ rest) entry = newest-more (next ∷ rest) entry

pub met-newest : (width : ℕ) (trail : List Access) (met : List MetEntry) → MetFit width trail met → EntryFits width trail (newest met)
unfolding newest EntryFits InOrder
met-newest width trail [] m = omega arith
met-newest width trail (entry ∷ []) m = m.0
met-newest width trail (first ∷ next ∷ rest) m = met-newest width trail (next ∷ rest) m.1

pub met-last : (width : ℕ) (trail : List Access) (met : List MetEntry) (entry : MetEntry) → MetFit width trail (met ++ entry ∷ []) → EntryFits width trail entry
met-last width trail met entry m = subst (EntryFits width trail) (newest-more met entry) (met-newest width trail (met ++ entry ∷ []) m)

pub start-ended : (parts : MetEntry) (begin : ℕ) (reads : List Access) (end other : ℕ) → start_of (ended parts begin reads end) other ≡ start_of parts begin
unfolding start_of
start-ended [] begin reads end other = refl
start-ended (part ∷ rest) begin reads end other = refl

pub reads-ended : (parts : MetEntry) (begin : ℕ) (reads : List Access) (end : ℕ) → reads_of (ended parts begin reads end) ≡ reads_of parts ++ reads
unfolding reads_of
reads-ended [] begin reads end = append-nil reads
reads-ended (part ∷ rest) begin reads end = ap (λ (xs : List Access). part.reads ++ xs) (reads-ended rest begin reads end) ∙ sym (append_assoc part.reads (reads_of rest) reads)

pub last-fits : (width : ℕ) (trail : List Access) (from upto : ℕ) (parts : MetEntry) (begin : ℕ) (reads : List Access) (end : ℕ) → InOrder width trail from upto (ended parts begin reads end) → ReadsFit width trail begin end reads
unfolding InOrder
last-fits width trail from upto [] begin reads end o = o.1
last-fits width trail from upto (part ∷ rest) begin reads end o = last-fits width trail part.end upto rest begin reads end o.2

reads-in : (width : ℕ) (trail : List Access) (from upto : ℕ) (parts : MetEntry) → InOrder width trail from upto parts → ReadsFit width trail from upto (reads_of parts)
unfolding InOrder reads_of ReadsFit
reads-in width trail from upto [] o = o
reads-in width trail from upto (part ∷ rest) o =
    fits-append width trail from part.end upto part.reads (reads_of rest) (fits-wider width trail part.begin part.end from part.end part.reads o.0 (omega arith) o.1) (reads-in width trail part.end upto rest o.2)

pub entry-as-one : (width : ℕ) (trail : List Access) (entry : MetEntry) (begin : ℕ) → begin ≤ length trail → EntryFits width trail entry → ReadsFit width trail (start_of entry begin) (length trail) (reads_of entry)
unfolding EntryFits start_of InOrder reads_of ReadsFit
entry-as-one width trail [] begin h e = h
entry-as-one width trail (part ∷ rest) begin h e = reads-in width trail part.begin (length trail) (part ∷ rest) (omega arith, e.1, e.2)

pub entry-last : (width : ℕ) (trail : List Access) (parts : MetEntry) (begin : ℕ) (reads : List Access) (end : ℕ) → EntryFits width trail (ended parts begin reads end) → ReadsFit width trail begin end reads
unfolding EntryFits
entry-last width trail parts begin reads end e = last-fits width trail 0 (length trail) parts begin reads end e

pub entry-reads : (width : ℕ) (trail : List Access) (parts : MetEntry) (begin : ℕ) (reads : List Access) → EntryFits width trail (ended parts begin reads (length trail)) → ReadsFit width trail (start_of parts begin) (length trail) (reads_of parts ++ reads)
entry-reads width trail parts begin reads e =
    let all = entry-as-one width trail (ended parts begin reads (length trail)) begin (fits-bound width trail begin (length trail) reads (entry-last width trail parts begin reads (length trail) e)) e in
    subst (λ (xs : List Access). ReadsFit width trail (start_of parts begin) (length trail) xs) (reads-ended parts begin reads (length trail))
    (subst (λ (n : ℕ). ReadsFit width trail n (length trail) (reads_of (ended parts begin reads (length trail)))) (start-ended parts begin reads (length trail) begin) all)

pub renew-reads : (r : ReaderState) (position : ℕ) → (reads_made (renewed r position) ≡ reads_made r) × (beginning (renewed r position) ≡ beginning r)
renew-reads r position = (append-nil _ ∙ reads-ended r.parts r.begin r.last position, start-ended r.parts r.begin r.last position position)

pub look-reads : (a b : ReaderState) (reads : List Access) → reader_looked a reads b → (reads_made b ≡ reads_made a ++ reads) × (beginning b ≡ beginning a)
look-reads a b reads l = (ap reads_made l ∙ sym (append_assoc (reads_of a.parts) a.last reads), ap beginning l)
