-- Looks that were made, and how many; one run of looks after another is one too.
use Rattle.std.specs.Prelude.{◌≡◌, ℕ, ◌+◌, ◌≤◌, Option, List, [], ◌∷◌, ◌++◌, length}
use Rattle.std.proofs.Common.{refl, sym, subst, ◌∙◌, length-append}
use Rattle.std.proofs.Math.Nat.{le_refl, le_trans, add-le-add}
use Rattle.hc_board.specs.Trail.{Access}
use Rattle.hc_broker.specs.Peeks.{Peeked, index_asked}
use Rattle.hc_heap.specs.declared.kind.Kind.{Kind}
use Rattle.hc_layout.specs.declared.shape.Shape.{Shape}

-- from one state to another nothing was done but looks, so many at least and at most; what is told stays
pub record MadeLooks {L : Type 0} (image : L → Option (List ℕ)) (looked : L → List Access → L → Type 0) (least most : ℕ) (old new : L) : Type 0 where
  pub reads : List Access
  pub looks : looked old reads new
  pub enough : least ≤ length reads
  pub few : length reads ≤ most
  pub same : image new ≡ image old

-- a word that was peeked at is one look
pub looks-one : {L T : Type 0} {image : L → Option (List ℕ)} {looked : L → List Access → L → Type 0} {s : Shape} {kind : Kind} {item : ℕ} {form : ℕ → Option T} {old new : L} {said : Option T}
    → Peeked image looked s kind item form old new said → MadeLooks image looked 1 1 old new
looks-one {s} {kind} {item} p =
    record { reads = (index_asked s kind item, p.word) ∷ []; looks = p.looks; enough = le_refl 1; few = le_refl 1; same = p.same }

-- no look was made
pub looks-none : {L : Type 0} {image : L → Option (List ℕ)} {looked : L → List Access → L → Type 0} (stays : (a : L) → looked a [] a) (a : L) → MadeLooks image looked 0 0 a a
looks-none stays a = record { reads = []; looks = stays a; enough = le_refl 0; few = le_refl 0; same = refl }

-- looks, and then others
pub looks-then : {L : Type 0} {image : L → Option (List ℕ)} {looked : L → List Access → L → Type 0} {least most least' most' fewer more : ℕ} {a b c : L}
    → ((a b c : L) (reads later : List Access) → looked a reads b → looked b later c → looked a (reads ++ later) c)
    → MadeLooks image looked least most a b → MadeLooks image looked least' most' b c → fewer ≤ least + least' → most + most' ≤ more → MadeLooks image looked fewer more a c
looks-then {least} {most} {least'} {most'} {a} {b} {c} goes p q h k = record {
  reads = p.reads ++ q.reads;
  looks = goes a b c p.reads q.reads p.looks q.looks;
  enough = le_trans h (subst (λ (n : ℕ). least + least' ≤ n) (sym (length-append p.reads q.reads)) (add-le-add p.enough q.enough));
  few = le_trans (subst (λ (n : ℕ). n ≤ most + most') (sym (length-append p.reads q.reads)) (add-le-add p.few q.few)) k;
  same = q.same ∙ p.same;
}
