-- Trails, their images, and the words at a position.
use Rattle.std.proofs.Common.{◌≡◌, ℕ, zero, suc, ◌≤◌, List, [], ◌∷◌, ◌++◌, length, take, set, get_or, replicate, refl, ap, ◌∙◌, arith, length-set, take_all}
use Rattle.std.proofs.lemmas.List.{take-append-le}
use Rattle.hc_board.specs.Trail.{Access, replayed, image_of, word_at}

pub replayed-append : (words : List ℕ) (trail more : List Access) → replayed words (trail ++ more) ≡ replayed (replayed words trail) more
unfolding replayed
replayed-append words [] more = refl
replayed-append words (store ∷ rest) more = replayed-append (set words store.0 store.1) rest more

pub length-replayed : (words : List ℕ) (trail : List Access) → length (replayed words trail) ≡ length words
unfolding replayed
length-replayed words [] = refl
length-replayed words (store ∷ rest) = length-replayed (set words store.0 store.1) rest ∙ length-set words store.0 store.1

length-zeros : (n : ℕ) → length {A = ℕ} (replicate n 0) ≡ n
length-zeros zero = refl
length-zeros (suc n) = ap suc (length-zeros n)

pub image-wide : (width : ℕ) (trail : List Access) → length (image_of width trail) ≡ width
unfolding image_of
image-wide width trail = length-replayed (replicate width 0) trail ∙ length-zeros width

pub image-store : (width : ℕ) (trail : List Access) (index word : ℕ) → image_of width (trail ++ (index, word) ∷ []) ≡ set (image_of width trail) index word
unfolding image_of replayed
image-store width trail index word = replayed-append (replicate width 0) trail ((index, word) ∷ [])

past-end : (words : List ℕ) (index : ℕ) → length words ≤ index → get_or words index 0 ≡ 0
past-end [] index h = refl
past-end (w ∷ words) zero h = let n : ℕ = length words in let h' : suc n ≤ 0 = h in omega arith
past-end (w ∷ words) (suc index) h = past-end words index (omega arith)

pub image-past : (width : ℕ) (trail : List Access) (index : ℕ) → width ≤ index → get_or (image_of width trail) index 0 ≡ 0
image-past width trail index h = past-end (image_of width trail) index (omega (arith, image-wide width trail))

pub word-past : (width : ℕ) (trail : List Access) (position index : ℕ) → width ≤ index → word_at width trail position index ≡ 0
unfolding word_at
word-past width trail position index h = image-past width (take position trail) index h

pub word-now : (width : ℕ) (trail : List Access) (index : ℕ) → word_at width trail (length trail) index ≡ get_or (image_of width trail) index 0
unfolding word_at
word-now width trail index = ap (λ t. get_or (image_of width t) index 0) (take_all (length trail) trail (omega arith))

pub word-longer : (width : ℕ) (trail more : List Access) (position index : ℕ) → position ≤ length trail → word_at width (trail ++ more) position index ≡ word_at width trail position index
unfolding word_at
word-longer width trail more position index h = ap (λ t. get_or (image_of width t) index 0) (take-append-le position trail more h)
