-- What a `Writer` keeps of its seat and its counts holds again after a store and after a meeting.
use Rattle.std.proofs.Common.{◌≡◌, ℕ, ◌+◌, ◌-◌, ◌^◌, min, List, [], ◌∷◌, ◌++◌, length, sym, ap, ◌∙◌, subst, arith, length-append}
use Rattle.atomic_table.specs.declared.shared.Seat.{Seat}
use Rattle.hc_board.specs.States.{TableId, counted}
use Rattle.hc_board.specs.Parts.{MetEntry, MetFit}
use Rattle.hc_board.specs.Rule.{IsWriter}
use Rattle.hc_board.specs.declared.rule.View.{View}
use Rattle.hc_board.proofs.Entries.{met-longer}

pub counted-more : {A : Type 0} (xs : List A) (x : A) (n m : ℕ) → n ≡ counted (length xs) → m ≡ min (n + 1) (2 ^ 64 - 1) → m ≡ counted (length (xs ++ x ∷ []))
counted-more xs x n m e f = let l = length-append xs (x ∷ []) in omega arith

module _ {S : Type 0} (seat seat' : Seat S View) (board : TableId) (words writes met : ℕ) (was : IsWriter seat board words writes met) (same : seat'.table_id ≡ seat.table_id) where
  pub after-store : (index word writes' : ℕ) → seat'.me ≡ (record seat.me.0 { trail = seat.me.0.trail ++ (index, word) ∷ [] }, seat.me.1) → writes' ≡ min (writes + 1) (2 ^ 64 - 1) → IsWriter seat' board words writes' met
  after-store index word writes' e w =
      let trail : seat'.me.0.trail ≡ seat.me.0.trail ++ (index, word) ∷ [] = ap (λ m. m.0.trail) e in
      let met-same : seat'.me.0.met ≡ seat.me.0.met = ap (λ m. m.0.met) e in
      record {
        table = same ∙ was.table;
        writer = ap (λ m. m.0.writes) e ∙ was.writer;
        slots = ap (λ m. m.1) e ∙ was.slots;
        width = ap (λ m. m.0.width) e ∙ was.width;
        words_is = was.words_is;
        some_words = was.some_words;
        writes_is = subst (λ t. writes' ≡ counted (length t)) (sym trail) (counted-more seat.me.0.trail (index, word) writes writes' was.writes_is w);
        met_is = was.met_is ∙ ap (λ t. counted (length t)) (sym met-same);
        fits = subst (λ t. MetFit board.words t seat'.me.0.met) (sym trail) (subst (MetFit board.words (seat.me.0.trail ++ (index, word) ∷ [])) (sym met-same) (met-longer board.words seat.me.0.trail ((index, word) ∷ []) seat.me.0.met was.fits));
      }

  pub after-meeting : (entry : MetEntry) (met' : ℕ) → seat'.me ≡ (record seat.me.0 { met = seat.me.0.met ++ entry ∷ [] }, seat.me.1) → met' ≡ min (met + 1) (2 ^ 64 - 1) → MetFit seat'.me.0.width seat'.me.0.trail seat'.me.0.met → IsWriter seat' board words writes met'
  after-meeting entry met' e w fits =
      let met-more : seat'.me.0.met ≡ seat.me.0.met ++ entry ∷ [] = ap (λ m. m.0.met) e in
      let trail : seat'.me.0.trail ≡ seat.me.0.trail = ap (λ m. m.0.trail) e in
      let width : seat'.me.0.width ≡ board.words = ap (λ m. m.0.width) e ∙ was.width in
      record {
        table = same ∙ was.table;
        writer = ap (λ m. m.0.writes) e ∙ was.writer;
        slots = ap (λ m. m.1) e ∙ was.slots;
        width = width;
        words_is = was.words_is;
        some_words = was.some_words;
        writes_is = was.writes_is ∙ ap (λ t. counted (length t)) (sym trail);
        met_is = subst (λ t. met' ≡ counted (length t)) (sym met-more) (counted-more seat.me.0.met entry met met' was.met_is w);
        fits = subst (λ (n : ℕ). MetFit n seat'.me.0.trail seat'.me.0.met) width fits;
      }
