-- Each kind of step keeps the board's rule.
use Rattle.std.proofs.Common.{◌≡◌, ◌≢◌, ℕ, zero, suc, length-append, ◌+◌, ◌≤◌, ◌<◌, Bool, true, false, List, [], ◌∷◌, ◌++◌, length, set, get_or, replicate, refl, sym, ap, ◌∙◌, subst, ⊎_elim, true≢false, arith}
use Rattle.std.proofs.lemmas.List.{set-get_or}
use mathlib.Core.Option.{some, some-injective, some-ne-none}
use lib.ListN.{get_elem?}
use Rattle.atomic_table.specs.Table.{State, Me, keeps, step, Allows, Splits, Joins}
use Rattle.atomic_table.proofs.Lists.{at_set, set_here, set_else, set_again, at_longer, at_snoc}
use mathlib.Core.Option.{none}
use Rattle.hc_board.specs.Trail.{Access, image_of, word_at, replayed}
use Rattle.hc_board.specs.Fits.{ReadsFit}
use Rattle.hc_board.specs.Parts.{MetEntry, InOrder, EntryFits, MetFit, ended}
use Rattle.hc_board.specs.Rule.{Knows, TrackFits, RuledBy, Ruled, first_view, spent_view}
use Rattle.hc_board.specs.Steps.{loaded, stored, noted, noted_past, checked, begun, gone_on, met_with, newest}
use Rattle.hc_board.specs.declared.rule.View.{View}
use Rattle.hc_board.proofs.Trails.{image-store, word-now, image-past}
use Rattle.hc_board.proofs.Readings.{fits-bound, fits-append, fits-one, fits-wider, fits-longer}
use Rattle.hc_board.proofs.Entries.{order-longer, entry-ended, met-longer, met-more, met-newest}

not-both : (b : Bool) → b ≡ true → b ≡ false → ⊥
not-both b t f = true≢false (sym t ∙ f)

-- a longer trail keeps what a reader knows
pub reads-longer : (width : ℕ) (trail more : List Access) (parts : MetEntry) (begin : ℕ) (last : List Access) → TrackFits width trail parts begin last → TrackFits width (trail ++ more) parts begin last
reads-longer width trail more parts begin last r =
    let high = fits-bound width trail begin (length trail) last r.open_part in
    record {
      ended = order-longer width trail more 0 begin parts high r.ended;
      open_part = fits-wider width (trail ++ more) begin (length trail) begin (length (trail ++ more)) last (omega arith) (omega (arith, length-append trail more)) (fits-longer width trail more begin (length trail) last (omega arith) r.open_part);
    }

module _ {S : Type 0} where
  -- a seat that writes is the one that the rule speaks of
  pub seat_of : (s : State S View) (id : ℕ) (v : View) → Ruled s → get_elem? s.views id ≡ some v → v.writes ≡ true → RuledBy s id v
  seat_of s id v (seat, writer, r) at w =
      let same : id ≡ seat = (r.views id v at).is_writer w in
      let is : writer ≡ v = some-injective writer v (sym r.place ∙ (ap (get_elem? s.views) (sym same) ∙ at)) in
      subst (λ (k : ℕ). RuledBy s k v) (sym same) (subst (λ (u : View). RuledBy s seat u) is r)

  -- a seat that reads is another
  pub reader_else : (s : State S View) (seat id : ℕ) (writer v : View) → RuledBy s seat writer → get_elem? s.views id ≡ some v → v.reads ≡ true → id ≢ seat
  reader_else s seat id writer v r at reads same =
      let is : writer ≡ v = some-injective writer v (sym r.place ∙ (ap (get_elem? s.views) (sym same) ∙ at)) in
      not-both v.reads reads (ap (λ (u : View). u.reads) (sym is) ∙ r.reads)

  module _ (s : State S View) (words : List ℕ) (seat : ℕ) (writer : View) (r : RuledBy s seat writer) where
    -- another seat gets another view
    pub other_moves : (id : ℕ) (v : View) → words ≡ s.words → id ≢ seat → Knows writer seat id v → RuledBy (record { words = words; homes = s.homes; views = set s.views id v }) seat writer
    other_moves id v same else knows = record {
      place = set_else s.views id seat v (λ e. else (sym e)) ∙ r.place;
      writes = r.writes;
      reads = r.reads;
      words = same ∙ r.words;
      views = λ at u e. ⊎_elim (λ t. subst (λ (k : ℕ). Knows writer seat k u) (sym t.0) (subst (Knows writer seat id) t.1 knows)) (λ t. r.views at u t.1) (at_set s.views id at v u e);
      met = r.met;
    }

    -- there is one seat more
    pub one_comes : (v : View) → words ≡ s.words → v.writes ≡ false → ((at : ℕ) → Knows writer seat at v) → RuledBy (record { words = words; homes = s.homes; views = s.views ++ v ∷ [] }) seat writer
    one_comes v same blank knows = record {
      place = at_longer s.views (v ∷ []) seat writer r.place;
      writes = r.writes;
      reads = r.reads;
      words = same ∙ r.words;
      views = λ at u e. ⊎_elim (λ t. r.views at u t) (λ t. subst (Knows writer seat at) t (knows at)) (at_snoc s.views v u at e);
      met = r.met;
    }

    -- the writer gets another view
    pub writer_moves : (v : View) → words ≡ image_of v.width v.trail → v.writes ≡ true → v.reads ≡ false → writer.width ≡ v.width
        → ((parts : MetEntry) (begin : ℕ) (last : List Access) → TrackFits writer.width writer.trail parts begin last → TrackFits v.width v.trail parts begin last)
        → MetFit v.width v.trail v.met → seat < length s.views → RuledBy (record { words = words; homes = s.homes; views = set s.views seat v }) seat v
    writer_moves v is writes reads width later met there = record {
      place = set_here s.views seat v there;
      writes = writes;
      reads = reads;
      words = is;
      views = λ at u e. ⊎_elim
          (λ t. record { is_writer = λ w. t.0; is_reader = λ b. absurd (not-both u.reads b (ap (λ (x : View). x.reads) (sym t.1) ∙ reads)) })
          (λ t. record { is_writer = λ w. (r.views at u t.1).is_writer w; is_reader = λ b. (((r.views at u t.1).is_reader b).0 ∙ width, later u.parts u.begin u.last ((r.views at u t.1).is_reader b).1) })
          (at_set s.views seat at v u e);
      met = met;
    }

there : {A : Type 0} (l : List A) (i : ℕ) (a : A) → get_elem? l i ≡ some a → i < length l
there [] i a e = absurd (some-ne-none a (sym e))
there (x ∷ l) zero a e = omega arith
there (x ∷ l) (suc i) a e = let h = there l i a e in omega arith

module _ {S : Type 0} (slots id : ℕ) (m : Me S View) where
  pub loads : (i : ℕ) → m.0.writes ≡ true → Allows Ruled slots id m i (λ n. n) (loaded (step slots i 0 0 none) m)
  loads i w s rule len at fits =
      let r = seat_of s id m.0 rule at w in
      let v : View = record m.0 { loads = m.0.loads + 1 } in (
        v,
        keeps,
        tt,
        (id, v, writer_moves s (set s.words i (get_or s.words i 0)) id m.0 r v (set-get_or s.words i 0 ∙ r.words) r.writes r.reads refl (λ p b l f. f) r.met (there s.views id m.0 at)),
        (ap (λ ws. get_or ws i 0) r.words, refl),
      )

  pub checks : m.0.writes ≡ true → Allows Ruled slots id m 0 (λ n. n) (checked (step slots 0 0 0 none) m)
  checks w s rule len at fits =
      let r = seat_of s id m.0 rule at w in (
        m.0,
        keeps,
        tt,
        (id, m.0, writer_moves s (set s.words 0 (get_or s.words 0 0)) id m.0 r m.0 (set-get_or s.words 0 0 ∙ r.words) r.writes r.reads refl (λ p b l f. f) r.met (there s.views id m.0 at)),
        (refl, r.met),
      )

  pub stores : (i word : ℕ) → m.0.writes ≡ true → Allows Ruled slots id m i (λ _. word) (λ _. stored (step slots i word 0 none) m word)
  stores i word w s rule len at fits =
      let r = seat_of s id m.0 rule at w in
      let v : View = record m.0 { trail = m.0.trail ++ (i, word) ∷ [] } in (
        v,
        keeps,
        tt,
        (
          id,
          v,
          writer_moves s (set s.words i word) id m.0 r v (ap (λ ws. set ws i word) r.words ∙ sym (image-store m.0.width m.0.trail i word)) r.writes r.reads refl
              (λ p b l f. reads-longer m.0.width m.0.trail ((i, word) ∷ []) p b l f) (met-longer m.0.width m.0.trail ((i, word) ∷ []) m.0.met r.met) (there s.views id m.0 at),
        ),
        refl,
      )

  -- a read that has the word of the trail's length
  note : (s : State S View) → Ruled s → get_elem? s.views id ≡ some m.0 → m.0.reads ≡ true → (i index word : ℕ) → ((width : ℕ) (trail : List Access) → m.0.width ≡ width → s.words ≡ image_of width trail → get_or (image_of width trail) index 0 ≡ word)
      → Ruled (record { words = set s.words i (get_or s.words i 0); homes = s.homes; views = set s.views id (record m.0 { last = m.0.last ++ (index, word) ∷ [] }) })
  note s (seat, writer, r) at b i index word is =
      let v : View = record m.0 { last = m.0.last ++ (index, word) ∷ [] } in
      let else = reader_else s seat id writer m.0 r at b in
      let k = r.views id m.0 at in
      let f = (k.is_reader b).1 in
      let here : word_at writer.width writer.trail (length writer.trail) index ≡ word = word-now writer.width writer.trail index ∙ is writer.width writer.trail (k.is_reader b).0 r.words in
      let more : ReadsFit writer.width writer.trail m.0.begin (length writer.trail) (m.0.last ++ (index, word) ∷ []) =
      fits-append writer.width writer.trail m.0.begin (length writer.trail) (length writer.trail) m.0.last ((index, word) ∷ []) f.open_part (fits-one writer.width writer.trail (length writer.trail) index word (omega arith) here) in (
        seat,
        writer,
        other_moves s (set s.words i (get_or s.words i 0)) seat writer r id v (set-get_or s.words i 0) else
            (record { is_writer = λ w. k.is_writer w; is_reader = λ _. ((k.is_reader b).0, record { ended = f.ended; open_part = more }) }),
      )

  pub notes : (i : ℕ) → m.0.reads ≡ true → Allows Ruled slots id m i (λ n. n) (noted (step slots i 0 0 none) m)
  notes i b s rule len at fits =
      let word : ℕ = get_or s.words i 0 in
      (record m.0 { last = m.0.last ++ (i, word) ∷ [] }, keeps, tt, note s rule at b i i word (λ width trail _ e. sym (ap (λ ws. get_or ws i 0) e)), refl)

  pub notes_past : (index : ℕ) → m.0.reads ≡ true → m.0.width ≤ index → Allows Ruled slots id m 0 (λ n. n) (noted_past index (step slots 0 0 0 none) m)
  notes_past index b past s rule len at fits =
      (record m.0 { last = m.0.last ++ (index, 0) ∷ [] }, keeps, tt, note s rule at b 0 index 0 (λ width trail w _. image-past width trail index (omega arith)), refl)

fits-fresh : (width : ℕ) (trail : List Access) → TrackFits width trail [] (length trail) []
unfolding InOrder ReadsFit
fits-fresh width trail = record { ended = omega arith; open_part = omega arith }

fits-again : (width : ℕ) (trail : List Access) (entry : MetEntry) → EntryFits width trail entry → TrackFits width trail entry (length trail) []
unfolding EntryFits ReadsFit
fits-again width trail entry e = record { ended = e; open_part = omega arith }

module _ {S : Type 0} (id : ℕ) (v : View) where
  new_seat : (s : State S View) → RuledBy s id v → get_elem? s.views id ≡ some v → (u : View) → u.writes ≡ false → u.width ≡ v.width → TrackFits v.width v.trail u.parts u.begin u.last
      → Ruled (record { words = s.words; homes = s.homes; views = set s.views id v ++ u ∷ [] })
  new_seat s r at u blank width fits =
      let knows : (k : ℕ) → Knows v id k u = λ k. record { is_writer = λ w. absurd (not-both u.writes w blank); is_reader = λ _. (width, fits) } in
      (id, v, subst (λ vs. RuledBy (record { words = s.words; homes = s.homes; views = vs ++ u ∷ [] }) id v) (sym (set_again s.views id v at)) (one_comes s s.words id v r u refl blank knows))

  pub begins : v.writes ≡ true → Splits {S = S} Ruled id v v (begun v)
  begins w s rule at = new_seat s (seat_of s id v rule at w) at (begun v) refl refl (fits-fresh v.width v.trail)

  pub goes_on : v.writes ≡ true → Splits {S = S} Ruled id v v (gone_on v)
  goes_on w s rule at =
      let r = seat_of s id v rule at w in
      new_seat s r at (gone_on v) refl refl (fits-again v.width v.trail (newest v.met) (met-newest v.width v.trail v.met r.met))

  pub meets : (other : ℕ) (w : View) → v.writes ≡ true → w.reads ≡ true → Joins {S = S} Ruled id v other w (met_with v w) spent_view
  meets other w writes reads s rule at apart there-after =
      let r = seat_of s id v rule at writes in
      let both : View = met_with v w in
      let other-at : get_elem? s.views other ≡ some w = sym (set_else s.views id other both apart) ∙ there-after in
      let f = ((r.views other w other-at).is_reader reads).1 in
      let entry : EntryFits v.width v.trail (ended w.parts w.begin w.last (length v.trail)) = entry-ended v.width v.trail w.begin w.parts w.last f.ended f.open_part in
      let s' : State S View = record { words = s.words; homes = s.homes; views = set s.views id both } in
      let r' : RuledBy s' id both = writer_moves s s.words id v r both r.words r.writes r.reads refl (λ p b l g. g) (met-more v.width v.trail v.met (ended w.parts w.begin w.last (length v.trail)) r.met entry) (there s.views id v at) in
      (id, both, other_moves s' s'.words id both r' other spent_view refl apart (record { is_writer = λ e. absurd (true≢false (sym e)); is_reader = λ e. absurd (true≢false (sym e)) }))

-- the first view is the writer's
only : (width at : ℕ) (u : View) → get_elem? (first_view width ∷ []) at ≡ some u → Knows (first_view width) 0 at u
only width zero u e = let is : first_view width ≡ u = some-injective (first_view width) u e in
    record { is_writer = λ w. refl; is_reader = λ b. absurd (not-both u.reads b (ap (λ (x : View). x.reads) (sym is))) }
only width (suc at) u e = absurd (some-ne-none u (sym e))

-- a new table meets the rule
pub opens : {S : Type 0} (width : ℕ) (words : List ℕ) → words ≡ replicate width 0 → Ruled {S = S} (record { words = words; homes = []; views = first_view width ∷ [] })
unfolding image_of replayed
opens width words zeros = (
  0,
  first_view width,
  record {
    place = refl;
    writes = refl;
    reads = refl;
    words = zeros;
    views = λ at u e. only width at u e;
    met = tt;
  },
)
