-- A look whose word was peeked at, and what was made of it, is a step of the question.
use Rattle.std.proofs.Common.{◌≡◌, ℕ, Bool, true, false, List, [], ◌∷◌, refl, arith}
use Rattle.std.specs.Prelude.{if◌then◌else◌, ◌==◌, Option, None, nat_lt}
use Rattle.hc_board.specs.Trail.{Access}
use Rattle.hc_layout.specs.Shape.{items_of}
use Rattle.hc_layout.specs.declared.shape.Shape.{Shape}
use Rattle.hc_heap.specs.Kinds.{region_of}
use Rattle.hc_heap.specs.declared.kind.Kind.{Kind}
use Rattle.hc_broker.specs.Peeks.{Peeked, index_asked, where_there}
use Rattle.hc_question.specs.Ask.{Ask, stop, ask, heard, IsAnswer, LeadsTo, with_word}
use Rattle.hc_question.specs.Question.{Then}
use Rattle.hc_planner.specs.Steps.{Steps}

there-said : {T : Type 0} (there : Bool) (said : Option T) (part : T → Ask) → (if there then with_word said part else stop) ≡ with_word (if there then said else None) part
there-said true said part = refl
there-said false said part = refl

own-index : (i : ℕ) → (i == i) ≡ true
own-index i = grind arith

module _ {T : Type 0} (s : Shape) (kind : Kind) (item : ℕ) (form : ℕ → Option T) (part : T → Ask) (word : ℕ) where
  heard-ask : heard s (ask kind form item part) (index_asked s kind item, word) ≡ with_word (where_there s kind item (form word)) part
  unfolding heard
  heard-ask = rw (own-index (index_asked s kind item)) (there-said (nat_lt item (items_of s (region_of kind))) (form word) part)

  leads-ask : LeadsTo s (ask kind form item part) ((index_asked s kind item, word) ∷ []) (with_word (where_there s kind item (form word)) part)
  unfolding LeadsTo IsAnswer
  leads-ask = (refl, heard-ask)

pub steps-of : {L T : Type 0} {image : L → Option (List ℕ)} {looked : L → List Access → L → Type 0} {s : Shape} {kind : Kind} {item : ℕ} {form : ℕ → Option T} {old new : L} {said : Option T}
    → Peeked image looked s kind item form old new said
    → (part : Then → T → Ask) (before after : Then → Ask)
    → ((next : Then) → before next ≡ ask kind form item (part next))
    → ((next : Then) → after next ≡ with_word said (part next))
    → Steps looked s old new before after
steps-of {s} {kind} {item} {form} p part before after b a = record {
  read = (index_asked s kind item, p.word);
  looks = p.looks;
  leads = λ next. rw (b next, a next, p.says) (leads-ask s kind item form (part next) p.word);
}
