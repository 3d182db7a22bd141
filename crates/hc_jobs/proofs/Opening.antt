-- The jobs of a table, found one after another.
use Rattle.std.proofs.Common.{◌≡◌, ◌≢◌, ◌==◌, ℕ, zero, suc, ◌+◌, ◌<◌, ◌≤◌, Bool, true, false, true≢false, Option, Some, None, is_some, IfSome, ltb, ltb-true, lt-ltb, le-ltb, List, [], ◌∷◌, ◌++◌, length, take, drop, get_or, slice_get, refl, sym, ap, ◌∙◌, subst, arith}
use Rattle.std.specs.Prelude.{if◌then◌else◌}
use Rattle.std.proofs.lemmas.List.{take_more}
use Rattle.std.proofs.lemmas.Option.{slice_get-get_or}
use Rattle.hc_planner.specs.Jobs.{IsOwn}
use Rattle.hc_jobs.specs.declared.table.OpenJob.{OpenJob}
use Rattle.hc_jobs.specs.Opened.{has_number, open_at, is_open, without, AreOthers, AreOpen, OthersStayOpen}

-- the search for a number

others-append : (number : ℕ) (xs : List OpenJob) (x : OpenJob) → AreOthers number xs → has_number number x ≡ false → AreOthers number (xs ++ x ∷ [])
others-append number [] x h e = (e, tt)
others-append number (y ∷ xs) x h e = (h.0, others-append number xs x h.1 e)

pub others-none : (number : ℕ) (xs : List OpenJob) → AreOthers number (take 0 xs)
others-none number xs = tt

pub others-more : (number : ℕ) (xs : List OpenJob) (i : ℕ) (x : OpenJob) → AreOthers number (take i xs) → i < length xs → x ≡ get_or xs i x → has_number number x ≡ false → AreOthers number (take (i + 1) xs)
others-more number xs i x h k e f = rw (take_more xs i x k, ← e) (others-append number (take i xs) x h f)

pub other-number : (number : ℕ) (x : OpenJob) (id : ℕ) → id ≡ x.job.id → (id ≡ number → ⊥) → has_number number x ≡ false
other-number number x id e differ = let apart : x.job.id ≢ number = λ k. differ (e ∙ k) in grind (arith, apart)

pub same-number : (number : ℕ) (x : OpenJob) (id : ℕ) → id ≡ x.job.id → id ≡ number → has_number number x ≡ true
same-number number x id e same = let k : x.job.id ≡ number = sym e ∙ same in grind (arith, k)

pub first-at : (number : ℕ) (xs : List OpenJob) (i : ℕ) (x : OpenJob) → i < length xs → x ≡ get_or xs i x → has_number number x ≡ true → IfSome (slice_get xs i) (λ y. has_number number y ≡ true)
first-at number xs i x k e f = rw (slice_get-get_or xs i x k, ← e) f

none-at : (xs : List OpenJob) (i : ℕ) → length xs ≤ i → slice_get xs i ≡ None
none-at [] i h = refl
none-at (x ∷ xs) zero h = grind (arith, h)
none-at (x ∷ xs) (suc i) h = none-at xs i (omega (arith, h))

pub first-past : (number : ℕ) (xs : List OpenJob) (i : ℕ) → length xs ≤ i → IfSome (slice_get xs i) (λ y. has_number number y ≡ true)
first-past number xs i h = rw (none-at xs i h) tt

-- what was found

if-true : {T : Type 0} (test : Bool) (a b : T) → test ≡ true → (if test then a else b) ≡ a
if-true true a b e = refl
if-true false a b e = absurd (true≢false (sym e))

if-false : {T : Type 0} (test : Bool) (a b : T) → test ≡ false → (if test then a else b) ≡ b
if-false true a b e = absurd (true≢false e)
if-false false a b e = refl

module _ (number : ℕ) where
  pub found-at : (xs : List OpenJob) (i : ℕ) → AreOthers number (take i xs) → IfSome (slice_get xs i) (λ y. has_number number y ≡ true) → open_at xs number ≡ slice_get xs i
  found-at [] i h f = refl
  found-at (x ∷ xs) zero h f = if-true (has_number number x) (Some x) (open_at xs number) f
  found-at (x ∷ xs) (suc i) h f = if-false (has_number number x) (Some x) (open_at xs number) h.0 ∙ found-at xs i h.1 f

  pub without-at : (xs : List OpenJob) (i : ℕ) → AreOthers number (take i xs) → i < length xs → IfSome (slice_get xs i) (λ y. has_number number y ≡ true) → without number xs ≡ take i xs ++ drop (i + 1) xs
  without-at [] i h k f = absurd (omega (arith, k))
  without-at (x ∷ xs) zero h k f = if-true (has_number number x) xs (x ∷ without number xs) f
  without-at (x ∷ xs) (suc i) h k f =
      let rest : without number xs ≡ take i xs ++ drop (i + 1) xs = without-at xs i h.1 (omega (arith, k)) f in
      let next : suc i + 1 ≡ suc (i + 1) = omega arith in
      if-false (has_number number x) xs (x ∷ without number xs) h.0 ∙ rw (next, rest) refl

  not-open : (xs : List OpenJob) → AreOthers number xs → is_open xs number ≡ false
  not-open [] h = refl
  not-open (x ∷ xs) h = ap is_some (if-false (has_number number x) (Some x) (open_at xs number) h.0) ∙ not-open xs h.1

  open-case : (x : OpenJob) (xs : List OpenJob) (test : Bool) → has_number number x ≡ test → is_some (if test then Some x else open_at xs number) ≡ false → (test ≡ false) × (is_open xs number ≡ false)
  open-case x xs true e h = absurd (true≢false h)
  open-case x xs false e h = (refl, h)

  pub others-of : (xs : List OpenJob) → is_open xs number ≡ false → AreOthers number xs
  others-of [] h = tt
  others-of (x ∷ xs) h = let k = open-case x xs (has_number number x) refl h in (k.0, others-of xs k.1)

  kept-case : (other : ℕ) (x : OpenJob) (xs : List OpenJob) (test : Bool) → AreOthers other (x ∷ xs) → AreOthers other (without number xs) → AreOthers other (if test then xs else x ∷ without number xs)
  kept-case other x xs true h k = h.1
  kept-case other x xs false h k = (h.0, k)

  others-kept : (other : ℕ) (xs : List OpenJob) → AreOthers other xs → AreOthers other (without number xs)
  others-kept other [] h = tt
  others-kept other (x ∷ xs) h = kept-case other x xs (has_number number x) h (others-kept other xs h.1)

  still-case : (x : OpenJob) (xs : List OpenJob) (test : Bool) → AreOpen (x ∷ xs) → AreOpen (without number xs) → AreOpen (if test then xs else x ∷ without number xs)
  still-case x xs true h k = h.2
  still-case x xs false h k = (h.0, others-kept x.job.id xs h.1, k)

  pub still-open : (xs : List OpenJob) → AreOpen xs → AreOpen (without number xs)
  still-open [] h = tt
  still-open (x ∷ xs) h = still-case x xs (has_number number x) h (still-open xs h.2)

  gone-case : (x : OpenJob) (xs : List OpenJob) (test : Bool) → has_number number x ≡ test → AreOthers x.job.id xs → AreOthers number (without number xs) → AreOthers number (if test then xs else x ∷ without number xs)
  gone-case x xs true e h k = let same : x.job.id ≡ number = grind (arith, e) in subst (λ (n : ℕ). AreOthers n xs) same h
  gone-case x xs false e h k = (e, k)

  gone : (xs : List OpenJob) → AreOpen xs → AreOthers number (without number xs)
  gone [] h = tt
  gone (x ∷ xs) h = gone-case x xs (has_number number x) refl h.1 (gone xs h.2)

  pub not-there : (xs : List OpenJob) → AreOpen xs → is_open (without number xs) number ≡ false
  not-there xs h = not-open (without number xs) (gone xs h)

  own-case : (x y : OpenJob) (xs : List OpenJob) (test : Bool) → has_number number x ≡ test → IsOwn x.job x.reader → (open_at xs number ≡ Some y → IsOwn y.job y.reader × (y.job.id ≡ number))
      → (if test then Some x else open_at xs number) ≡ Some y → IsOwn y.job y.reader × (y.job.id ≡ number)
  own-case x y xs true e own rest is =
      let same : x ≡ y = cc in
      let id : x.job.id ≡ number = grind (arith, e) in
      (subst (λ (z : OpenJob). IsOwn z.job z.reader) same own, subst (λ (z : OpenJob). z.job.id ≡ number) same id)
  own-case x y xs false e own rest is = rest is

  -- a job that is found has the number, and its own reader
  pub own-at : (xs : List OpenJob) (y : OpenJob) → AreOpen xs → open_at xs number ≡ Some y → IsOwn y.job y.reader × (y.job.id ≡ number)
  own-at [] y h e = let no : ⊥ = cc in absurd no
  own-at (x ∷ xs) y h e = own-case x y xs (has_number number x) refl h.0 (λ k. own-at xs y h.2 k) e

suc-test : (i n : ℕ) → ltb i n ≡ ltb (suc i) (suc n)
suc-test i n = grind arith

there-test : (xs : List OpenJob) (i : ℕ) → is_some (slice_get xs i) ≡ ltb i (length xs)
there-test [] i = sym (le-ltb i 0 (omega arith))
there-test (x ∷ xs) zero = sym (lt-ltb 0 (length (x ∷ xs)) (omega arith))
there-test (x ∷ xs) (suc i) = there-test xs i ∙ suc-test i (length xs)

-- of a table whose jobs stand up to a place before which none has the number

module _ (number : ℕ) (xs : List OpenJob) (i : ℕ) (others : AreOthers number (take i xs)) (first : IfSome (slice_get xs i) (λ y. has_number number y ≡ true)) where
  pub open-test : is_open xs number ≡ ltb i (length xs)
  open-test = ap is_some (found-at number xs i others first) ∙ there-test xs i

  pub place-there : is_open xs number ≡ true → i < length xs
  place-there h = ltb-true i (length xs) (sym open-test ∙ h)

-- a job more

turned : (a b : ℕ) → (a == b) ≡ false → (b == a) ≡ false
turned a b e = grind (arith, e)

pub one-more : (xs : List OpenJob) (x : OpenJob) → AreOpen xs → IsOwn x.job x.reader → AreOthers x.job.id xs → AreOpen (xs ++ x ∷ [])
one-more [] x h own others = (own, tt, tt)
one-more (y ∷ xs) x h own others = (h.0, others-append y.job.id xs x h.1 (turned y.job.id x.job.id others.0), one-more xs x h.2 own others.1)

pub found-last : (xs : List OpenJob) (x : OpenJob) → AreOthers x.job.id xs → open_at (xs ++ x ∷ []) x.job.id ≡ Some x
found-last [] x h = if-true (has_number x.job.id x) (Some x) None (grind arith)
found-last (y ∷ xs) x h = if-false (has_number x.job.id y) (Some y) (open_at (xs ++ x ∷ []) x.job.id) h.0 ∙ found-last xs x h.1

-- the others

module _ (number other : ℕ) (differ : other ≢ number) where
  other-case : (x : OpenJob) (xs : List OpenJob) (taken sought : Bool) → has_number number x ≡ taken → has_number other x ≡ sought → open_at (without number xs) other ≡ open_at xs other
      → open_at (if taken then xs else x ∷ without number xs) other ≡ (if sought then Some x else open_at xs other)
  other-case x xs true true e f h = absurd (differ (grind (arith, e, f)))
  other-case x xs true false e f h = refl
  other-case x xs false true e f h = if-true (has_number other x) (Some x) (open_at (without number xs) other) f
  other-case x xs false false e f h = if-false (has_number other x) (Some x) (open_at (without number xs) other) f ∙ h

  other-taken : (xs : List OpenJob) → open_at (without number xs) other ≡ open_at xs other
  other-taken [] = refl
  other-taken (x ∷ xs) = other-case x xs (has_number number x) (has_number other x) refl refl (other-taken xs)

  other-put : (xs : List OpenJob) (x : OpenJob) → x.job.id ≡ number → open_at (xs ++ x ∷ []) other ≡ open_at xs other
  other-put [] x e = if-false (has_number other x) (Some x) None (grind (arith, e, differ))
  other-put (y ∷ xs) x e = ap (λ (o : Option OpenJob). if has_number other y then Some y else o) (other-put xs x e)

pub others-stay : OthersStayOpen
others-stay xs x number other differ = (other-taken number other differ xs, other-put number other differ xs x)
