-- Lists by index: their length, what stands where, and how two of them compare.
use Rattle.std.proofs.Common.{◌≡◌, ◌≢◌, ℕ, zero, suc, ◌+◌, ◌<◌, Bool, true, false, cond, List, [], ◌∷◌, ◌++◌, Option, Some, None, length, get_or, set, eqb, eq-eqb, refl, ap, ◌∙◌, add-one, arith, subst}
use Rattle.std.specs.Prelude.{option_map, slice_get}
use Rattle.std.specs.List.{AllByRecursion}
use Rattle.hc_value.specs.declared.prop.Prop.{Prop}
use Rattle.hc_table.specs.World.{place_of}
use Rattle.hc_slots.specs.Cases.{some-is}

-- the list of what a function says of each number below n, in order
abbrev pub listed : {T : Type 0} → (ℕ → T) → ℕ → List T
listed f zero = []
listed f (suc n) = f 0 ∷ listed (λ k. f (suc k)) n

pub length-listed : {T : Type 0} (f : ℕ → T) (n : ℕ) → length (listed f n) ≡ n
length-listed f zero = refl
length-listed f (suc n) = ap suc (length-listed (λ k. f (suc k)) n)

pub slice_get-listed : {T : Type 0} (f : ℕ → T) (n k : ℕ) → k < n → slice_get (listed f n) k ≡ Some (f k)
slice_get-listed f zero k h = absurd (omega arith)
slice_get-listed f (suc n) zero h = refl
slice_get-listed f (suc n) (suc k) h = slice_get-listed (λ i. f (suc i)) n k (omega arith)

pub get_or-listed : {T : Type 0} (f : ℕ → T) (n k : ℕ) (d : T) → k < n → get_or (listed f n) k d ≡ f k
get_or-listed f zero k d h = absurd (omega arith)
get_or-listed f (suc n) zero d h = refl
get_or-listed f (suc n) (suc k) d h = get_or-listed (λ i. f (suc i)) n k d (omega arith)

-- two functions that agree below n give one list
pub listed-same : {T : Type 0} (f g : ℕ → T) (n : ℕ) → ((k : ℕ) → k < n → g k ≡ f k) → listed g n ≡ listed f n
listed-same f g zero h = refl
listed-same f g (suc n) h =
    ap (λ x. x ∷ listed (λ k. g (suc k)) n) (h 0 (omega arith))
    ∙ ap (λ xs. f 0 ∷ xs) (listed-same (λ k. f (suc k)) (λ k. g (suc k)) n (λ k lt. h (suc k) (omega arith)))

-- one item more
listed-suc : {T : Type 0} (f : ℕ → T) (n : ℕ) → listed f (suc n) ≡ listed f n ++ f n ∷ []
listed-suc f zero = refl
listed-suc f (suc n) = ap (λ xs. f 0 ∷ xs) (listed-suc (λ k. f (suc k)) n)

pub listed-more : {T : Type 0} (f g : ℕ → T) (n : ℕ) (x : T) → ((k : ℕ) → k < n → g k ≡ f k) → g n ≡ x → listed g (n + 1) ≡ listed f n ++ x ∷ []
listed-more f g n x same last =
    ap (listed g) (add-one n)
    ∙ listed-suc g n
    ∙ ap (λ xs. xs ++ g n ∷ []) (listed-same f g n same)
    ∙ ap (λ y. listed f n ++ y ∷ []) last

-- another item at one place
pub listed-set : {T : Type 0} (f g : ℕ → T) (n i : ℕ) (x : T) → ((k : ℕ) → k < n → k ≢ i → g k ≡ f k) → (i < n → g i ≡ x) → listed g n ≡ set (listed f n) i x
listed-set f g zero i x same here = refl
listed-set f g (suc n) zero x same here =
    ap (λ y. y ∷ listed (λ k. g (suc k)) n) (here (omega arith))
    ∙ ap (λ xs. x ∷ xs) (listed-same (λ k. f (suc k)) (λ k. g (suc k)) n (λ k lt. same (suc k) (omega arith) (λ e. omega (arith, e))))
listed-set f g (suc n) (suc i) x same here =
    ap (λ y. y ∷ listed (λ k. g (suc k)) n) (same 0 (omega arith) (λ e. omega (arith, e)))
    ∙ ap (λ xs. f 0 ∷ xs) (listed-set (λ k. f (suc k)) (λ k. g (suc k)) n i x (λ k lt ne. same (suc k) (omega arith) (λ e. ne (omega (arith, e)))) (λ lt. here (omega arith)))

-- What is listed of properties

-- a listed property of a name that is absent has another name
place-rest : (b : Bool) (rest : Option ℕ) → cond b (Some 0) (option_map suc rest) ≡ None → rest ≡ None
place-rest true rest e = let n : ⊥ = cc in absurd n
place-rest false None e = refl
place-rest false (Some x) e = let n : ⊥ = cc in absurd n

place-first : (b : Bool) (rest : Option ℕ) → cond b (Some 0) (option_map suc rest) ≡ None → b ≡ true → ⊥
place-first true rest e is = let n : ⊥ = cc in n
place-first false rest e is = let n : ⊥ = cc in n

pub place-absent : (f : ℕ → Prop) (n k name : ℕ) → k < n → place_of (listed f n) name ≡ None → (f k).name ≢ name
place-absent f zero k name lt e = absurd (omega arith)
place-absent f (suc n) zero name lt e = λ is. place-first (eqb (f 0).name name) (place_of (listed (λ i. f (suc i)) n) name) e (eq-eqb (f 0).name name is)
place-absent f (suc n) (suc k) name lt e = place-absent (λ i. f (suc i)) n k name (omega arith) (place-rest (eqb (f 0).name name) (place_of (listed (λ i. f (suc i)) n) name) e)

-- what holds of all properties holds of each
pub all-at : (P : Prop → Type 0) (ps : List Prop) (i : ℕ) (p : Prop) → AllByRecursion P ps → slice_get ps i ≡ Some p → P p
all-at P [] i p all e = let n : ⊥ = cc in absurd n
all-at P (q ∷ ps) zero p all e = subst P (some-is q p e) all.0
all-at P (q ∷ ps) (suc i) p all e = all-at P ps i p all.1 e
