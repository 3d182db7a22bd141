-- Of different maps those that stay are different.
use Rattle.std.proofs.Common.{◌≡◌, ℕ, ◌≤◌, arith, length, Bool, true, false, cond, ◌||◌, eqb, List, [], ◌∷◌, filter}
use Rattle.std.specs.List.{list_any}
use Rattle.hc_sites.specs.Maps.{has_map, AreDistinct, AreMaps}

first_of_either : (a b c : Bool) → (a || b) ≡ false → c ≡ false → (a || c) ≡ false
first_of_either true b c h k = h
first_of_either false b c h k = k

rest_of_either : (a b : Bool) → (a || b) ≡ false → b ≡ false
rest_of_either true b h = absurd (cc)
rest_of_either false b h = h

kept : (q : ℕ → Bool) (x : ℕ) (xs ys : List ℕ) (b : Bool) → list_any q (x ∷ xs) ≡ false → list_any q ys ≡ false → list_any q (cond b (x ∷ ys) ys) ≡ false
kept q x xs ys true none rest = first_of_either (q x) (list_any q xs) (list_any q ys) none rest
kept q x xs ys false none rest = rest

none-filter : (p q : ℕ → Bool) (xs : List ℕ) → list_any q xs ≡ false → list_any q (filter p xs) ≡ false
none-filter p q [] none = none
none-filter p q (x ∷ xs) none =
    kept q x xs (filter p xs) (p x) none (none-filter p q xs (rest_of_either (q x) (list_any q xs) none))

distinct-kept : (x : ℕ) (ys : List ℕ) (b : Bool) → has_map ys x ≡ false → AreDistinct ys → AreDistinct (cond b (x ∷ ys) ys)
distinct-kept x ys true absent distinct = (absent, distinct)
distinct-kept x ys false absent distinct = distinct

distinct-filter : (p : ℕ → Bool) (xs : List ℕ) → AreDistinct xs → AreDistinct (filter p xs)
distinct-filter p [] distinct = tt
distinct-filter p (x ∷ xs) distinct =
    distinct-kept x (filter p xs) (p x) (none-filter p (λ y. eqb y x) xs distinct.0) (distinct-filter p xs distinct.1)

one_more : (x : ℕ) (ys xs : List ℕ) (b : Bool) → length ys ≤ length xs → length (cond b (x ∷ ys) ys) ≤ length (x ∷ xs)
one_more x ys xs true short = omega arith
one_more x ys xs false short = omega arith

length-filter-le : (p : ℕ → Bool) (xs : List ℕ) → length (filter p xs) ≤ length xs
length-filter-le p [] = omega arith
length-filter-le p (x ∷ xs) = one_more x (filter p xs) xs (p x) (length-filter-le p xs)

-- of at most four different maps there stay at most four different ones
pub maps-filter : (p : ℕ → Bool) (xs : List ℕ) → AreMaps xs → AreMaps (filter p xs)
maps-filter p xs maps =
    record { few = omega (arith, length-filter-le p xs, maps.few); distinct = distinct-filter p xs maps.distinct }
