-- A list whose items are changed one after another.
use Rattle.std.proofs.Common.{◌≡◌, ℕ, zero, suc, ◌+◌, List, [], ◌∷◌, Some, length, map, set, refl, sym, ap, ◌∙◌, add-one}
use Rattle.std.specs.Prelude.{slice_get}

-- the first so many items are changed
abbrev pub mapped : {T : Type 0} → (T → T) → ℕ → List T → List T
mapped f zero xs = xs
mapped f (suc n) [] = []
mapped f (suc n) (x ∷ xs) = f x ∷ mapped f n xs

module _ {T : Type 0} (f : T → T) where
  pub length-mapped : (n : ℕ) (xs : List T) → length (mapped f n xs) ≡ length xs
  length-mapped zero xs = refl
  length-mapped (suc n) [] = refl
  length-mapped (suc n) (x ∷ xs) = ap suc (length-mapped n xs)

  -- the next one
  pub mapped-suc : (n : ℕ) (xs : List T) (x : T) → slice_get (mapped f n xs) n ≡ Some x → set (mapped f n xs) n (f x) ≡ mapped f (n + 1) xs
  mapped-suc n xs x e = by n xs e ∙ ap (λ (k : ℕ). mapped f k xs) (sym (add-one n))
    where
      by : (k : ℕ) (ys : List T) → slice_get (mapped f k ys) k ≡ Some x → set (mapped f k ys) k (f x) ≡ mapped f (suc k) ys
      by zero [] e = refl
      by zero (y ∷ ys) e = let same : y ≡ x = cc in ap (λ (z : T). f z ∷ ys) (sym same)
      by (suc k) [] e = refl
      by (suc k) (y ∷ ys) e = ap (λ (zs : List T). f y ∷ zs) (by k ys e)

  -- all of them
  pub mapped-all : (xs : List T) → mapped f (length xs) xs ≡ map f xs
  mapped-all [] = refl
  mapped-all (x ∷ xs) = ap (λ (ys : List T). f x ∷ ys) (mapped-all xs)
