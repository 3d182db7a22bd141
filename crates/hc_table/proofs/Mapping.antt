-- Lemmas on a list whose first items are mapped.
use Rattle.std.proofs.Common.{◌≡◌, ℕ, zero, suc, ◌+◌, ◌<◌, List, [], ◌∷◌, length, map, get_or, set, refl, ap, ◌∙◌, arith}

-- the first so many items mapped, and the others as they are
abbrev pub mapped_to : {X : Type 0} → (X → X) → ℕ → List X → List X
mapped_to f zero xs = xs
mapped_to f (suc i) [] = []
mapped_to f (suc i) (x ∷ xs) = f x ∷ mapped_to f i xs

pub mapped_to-all : {X : Type 0} (f : X → X) (xs : List X) → mapped_to f (length xs) xs ≡ map f xs
mapped_to-all f [] = refl
mapped_to-all f (x ∷ xs) = ap (λ rest. f x ∷ rest) (mapped_to-all f xs)

pub length-mapped_to : {X : Type 0} (f : X → X) (i : ℕ) (xs : List X) → length (mapped_to f i xs) ≡ length xs
length-mapped_to f zero xs = refl
length-mapped_to f (suc i) [] = refl
length-mapped_to f (suc i) (x ∷ xs) = ap suc (length-mapped_to f i xs)

mapped_to-suc : {X : Type 0} (f : X → X) (i : ℕ) (xs : List X) (d : X) → i < length xs → set (mapped_to f i xs) i (f (get_or (mapped_to f i xs) i d)) ≡ mapped_to f (suc i) xs
mapped_to-suc f zero [] d h = refl
mapped_to-suc f zero (x ∷ xs) d h = refl
mapped_to-suc f (suc i) [] d h = refl
mapped_to-suc f (suc i) (x ∷ xs) d h = ap (λ rest. f x ∷ rest) (mapped_to-suc f i xs d (omega arith))

pub mapped_to-next : {X : Type 0} (f : X → X) (i : ℕ) (xs : List X) (d : X) → i < length xs → set (mapped_to f i xs) i (f (get_or (mapped_to f i xs) i d)) ≡ mapped_to f (i + 1) xs
mapped_to-next f i xs d h =
    let next : suc i ≡ i + 1 = omega arith in
    mapped_to-suc f i xs d h ∙ ap (λ n. mapped_to f n xs) next
