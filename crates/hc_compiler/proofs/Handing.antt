-- The jobs that callers have, found one after another.
use Rattle.std.proofs.Common.{◌≡◌, ◌≢◌, ◌==◌, ℕ, zero, suc, ◌+◌, ◌<◌, ◌≤◌, Bool, true, false, true≢false, Option, Some, None, is_some, IfSome, ltb, ltb-true, lt-ltb, le-ltb, List, [], ◌∷◌, ◌++◌, length, length-append, map, take, get_or, slice_get, vec_capacity, refl, sym, ap, ◌∙◌, subst, arith}
use Rattle.std.specs.Prelude.{if◌then◌else◌, option_map, remove, IsSomeAnd}
use Rattle.std.proofs.lemmas.List.{take_more}
use Rattle.std.proofs.lemmas.List.Edits.{length-remove}
use Rattle.std.proofs.lemmas.Option.{slice_get-get_or}
use Rattle.hc_board.specs.States.{beginning, counted}
use Rattle.hc_plan.specs.declared.case.Site.{Site}
use Rattle.hc_planner.specs.Jobs.{in_four}
use Rattle.hc_jobs.specs.declared.table.OpenJob.{OpenJob}
use Rattle.hc_compiler.specs.Calls.{Lends, TakesBack}
use Rattle.hc_compiler.specs.Feedback.{listed}
use Rattle.hc_compiler.specs.Jobs.{Opening, OthersStayLent, is_lent, lent_at, opening_of}
use Rattle.hc_compiler.specs.Lending.{AreApart, IsLending, given_to}
use Rattle.hc_compiler.specs.declared.lending.Lent.{Lent}
use Rattle.hc_compiler.proofs.Starting.{listed-places}

if-true : {T : Type 0} (test : Bool) (a b : T) → test ≡ true → (if test then a else b) ≡ a
if-true true a b e = refl
if-true false a b e = absurd (true≢false (sym e))

if-false : {T : Type 0} (test : Bool) (a b : T) → test ≡ false → (if test then a else b) ≡ b
if-false true a b e = absurd (true≢false e)
if-false false a b e = refl

abbrev kept : List Lent → List Opening
kept xs = map given_to xs

count-kept : (xs : List Lent) → length (kept xs) ≡ length xs
count-kept [] = refl
count-kept (x ∷ xs) = ap (λ (n : ℕ). suc n) (count-kept xs)

-- the search for a number

module _ (n : ℕ) where
  not-here : (y : Opening) (old : List Opening) (test : Bool) → is_some (if test then Some y else lent_at old n) ≡ false → (test ≡ false) × (is_lent old n ≡ false)
  not-here y old true h = absurd (true≢false h)
  not-here y old false h = (refl, h)

  none-case : (y : Opening) (old new : List Opening) (test : Bool) → is_some (if test then Some y else lent_at old n) ≡ false → (is_lent old n ≡ false → is_lent new n ≡ false) → is_some (if test then Some y else lent_at new n) ≡ false
  none-case y old new true h k = h
  none-case y old new false h k = k h

  none-append : (xs : List Lent) (x : Lent) → is_lent (kept xs) n ≡ false → (x.job == n) ≡ false → is_lent (kept (xs ++ x ∷ [])) n ≡ false
  none-append [] x h e = ap is_some (if-false (x.job == n) (Some (given_to x)) None e)
  none-append (y ∷ xs) x h e = none-case (given_to y) (kept xs) (kept (xs ++ x ∷ [])) (y.job == n) h (λ k. none-append xs x k e)

  pub none-more : (xs : List Lent) (i : ℕ) (d : Lent) (m : ℕ) → is_lent (kept (take i xs)) n ≡ false → i < length xs → m ≡ (get_or xs i d).job → m ≢ n → is_lent (kept (take (i + 1) xs)) n ≡ false
  none-more xs i d m h k e differ =
      let apart : (get_or xs i d).job ≢ n = λ is. differ (e ∙ is) in
      let last : ((get_or xs i d).job == n) ≡ false = grind (arith, apart) in
      rw (take_more xs i d k) (none-append (take i xs) (get_or xs i d) h last)

  none-at : (xs : List Lent) (i : ℕ) → length xs ≤ i → slice_get xs i ≡ None
  none-at [] i h = refl
  none-at (x ∷ xs) zero h = grind (arith, h)
  none-at (x ∷ xs) (suc i) h = none-at xs i (omega (arith, h))

  pub first-past : (xs : List Lent) (i : ℕ) → length xs ≤ i → IfSome (slice_get xs i) (λ x. x.job ≡ n)
  first-past xs i h = rw (none-at xs i h) tt

  pub first-at : (xs : List Lent) (i : ℕ) (d : Lent) (m : ℕ) → i < length xs → m ≡ (get_or xs i d).job → m ≡ n → IfSome (slice_get xs i) (λ y. y.job ≡ n)
  first-at xs i d m k e f = rw (slice_get-get_or xs i d k) (sym e ∙ f)

  pub found-at : (xs : List Lent) (i : ℕ) → is_lent (kept (take i xs)) n ≡ false → IfSome (slice_get xs i) (λ x. x.job ≡ n) → lent_at (kept xs) n ≡ option_map given_to (slice_get xs i)
  found-at [] i h f = refl
  found-at (x ∷ xs) zero h f = if-true (x.job == n) (Some (given_to x)) (lent_at (kept xs) n) (grind (arith, f))
  found-at (x ∷ xs) (suc i) h f =
      let k = not-here (given_to x) (kept (take i xs)) (x.job == n) h in
      if-false (x.job == n) (Some (given_to x)) (lent_at (kept xs) n) k.0 ∙ found-at xs i k.1 f

suc-test : (i n : ℕ) → ltb i n ≡ ltb (suc i) (suc n)
suc-test i n = grind arith

there-test : (xs : List Lent) (i : ℕ) → is_some (option_map given_to (slice_get xs i)) ≡ ltb i (length xs)
there-test [] i = sym (le-ltb i 0 (omega arith))
there-test (x ∷ xs) zero = sym (lt-ltb 0 (length (x ∷ xs)) (omega arith))
there-test (x ∷ xs) (suc i) = there-test xs i ∙ suc-test i (length xs)

module _ (n : ℕ) (xs : List Lent) (i : ℕ) (others : is_lent (kept (take i xs)) n ≡ false) (first : IfSome (slice_get xs i) (λ x. x.job ≡ n)) where
  pub lent-test : is_lent (kept xs) n ≡ ltb i (length xs)
  lent-test = ap is_some (found-at n xs i others first) ∙ there-test xs i

  pub place-there : is_lent (kept xs) n ≡ true → i < length xs
  place-there h = ltb-true i (length xs) (sym lent-test ∙ h)

-- one that is taken out

still-none : (m : ℕ) (xs : List Lent) (i : ℕ) → i < length xs → is_lent (kept xs) m ≡ false → is_lent (kept (remove xs i)) m ≡ false
still-none m [] i k h = absurd (omega (arith, k))
still-none m (x ∷ xs) zero k h = (not-here m (given_to x) (kept xs) (x.job == m) h).1
still-none m (x ∷ xs) (suc i) k h = none-case m (given_to x) (kept xs) (kept (remove xs i)) (x.job == m) h (λ e. still-none m xs i (omega (arith, k)) e)

apart-removed : (xs : List Lent) (i : ℕ) → i < length xs → AreApart (kept xs) → AreApart (kept (remove xs i))
apart-removed [] i k h = absurd (omega (arith, k))
apart-removed (x ∷ xs) zero k h = h.1
apart-removed (x ∷ xs) (suc i) k h = (still-none x.job xs i (omega (arith, k)) h.0, apart-removed xs i (omega (arith, k)) h.1)

gone-removed : (n : ℕ) (xs : List Lent) (i : ℕ) → AreApart (kept xs) → is_lent (kept (take i xs)) n ≡ false → i < length xs → IfSome (slice_get xs i) (λ x. x.job ≡ n) → is_lent (kept (remove xs i)) n ≡ false
gone-removed n [] i apart h k f = absurd (omega (arith, k))
gone-removed n (x ∷ xs) zero apart h k f = subst (λ (m : ℕ). is_lent (kept xs) m ≡ false) f apart.0
gone-removed n (x ∷ xs) (suc i) apart h k f =
    let here = not-here n (given_to x) (kept (take i xs)) (x.job == n) h in
    ap is_some (if-false (x.job == n) (Some (given_to x)) (lent_at (kept (remove xs i)) n) here.0) ∙ gone-removed n xs i apart.1 here.1 (omega (arith, k)) f

others-removed : (n other : ℕ) → other ≢ n → (xs : List Lent) (i : ℕ) → i < length xs → IfSome (slice_get xs i) (λ x. x.job ≡ n) → lent_at (kept (remove xs i)) other ≡ lent_at (kept xs) other
others-removed n other differ [] i k f = absurd (omega (arith, k))
others-removed n other differ (x ∷ xs) zero k f =
    let apart : (x.job == other) ≡ false = grind (arith, f, differ) in
    sym (if-false (x.job == other) (Some (given_to x)) (lent_at (kept xs) other) apart)
others-removed n other differ (x ∷ xs) (suc i) k f =
    ap (λ (o : Option Opening). if x.job == other then Some (given_to x) else o) (others-removed n other differ xs i (omega (arith, k)) f)

module _ (n : ℕ) (lent : List Opening) (xs rest : List Lent) (i : ℕ) (is : kept xs ≡ lent) (apart : AreApart (kept xs)) (others : is_lent (kept (take i xs)) n ≡ false) (first : IfSome (slice_get xs i) (λ x. x.job ≡ n))
    (there : is_lent lent n ≡ true) (left : rest ≡ remove xs i) where
  pub is-within : i < length xs
  is-within = place-there n xs i others first (subst (λ (l : List Opening). is_lent l n ≡ true) (sym is) there)

  one-fewer : length (kept rest) + 1 ≡ length lent
  one-fewer =
      let a : length (kept rest) ≡ length rest = count-kept rest in
      let b : length rest ≡ length (remove xs i) = ap length left in
      let c : length (remove xs i) + 1 ≡ length xs = length-remove xs i is-within in
      let d : length (kept xs) ≡ length xs = count-kept xs in
      let e : length (kept xs) ≡ length lent = ap length is in
      omega (arith, a, b, c, d, e)

  pub takes-back : TakesBack lent n (kept rest)
  takes-back = record {
    gone = subst (λ (l : List Lent). is_lent (kept l) n ≡ false) (sym left) (gone-removed n xs i apart others is-within first);
    others = λ other differ. ap (λ (l : List Lent). lent_at (kept l) other) left ∙ others-removed n other differ xs i is-within first ∙ ap (λ (l : List Opening). lent_at l other) is;
    count = one-fewer;
  }

  pub fewer-lending : (room now : ℕ) → IsLending (kept xs) room → now ≡ room → IsLending (kept rest) now
  fewer-lending room now h same = record {
    few =
        let most = h.few in
        let count = one-fewer in
        let d : length (kept xs) ≡ length lent = ap length is in
        omega (arith, count, most, d);
    room = subst (λ (k : ℕ). 64 ≤ k) (sym same) h.room;
    apart = subst (λ (l : List Lent). AreApart (kept l)) (sym left) (apart-removed xs i is-within apart);
  }

  pub site-found : (x : Lent) → x ≡ get_or xs i x → IsSomeAnd (lent_at lent n) (λ given. x.site ≡ given.site)
  site-found x value =
      let at : lent_at lent n ≡ Some (given_to x) = ap (λ (l : List Opening). lent_at l n) (sym is) ∙ (found-at n xs i others first ∙ ap (option_map given_to) (slice_get-get_or xs i x is-within ∙ ap Some (sym value))) in
      rw at refl

-- one that is put in

turned : (a b : ℕ) → (a == b) ≡ false → (b == a) ≡ false
turned a b e = grind (arith, e)

apart-put : (xs : List Lent) (x : Lent) → AreApart (kept xs) → is_lent (kept xs) x.job ≡ false → AreApart (kept (xs ++ x ∷ []))
apart-put [] x h e = (refl, tt)
apart-put (y ∷ xs) x h e =
    let k = not-here x.job (given_to y) (kept xs) (y.job == x.job) e in
    (none-append y.job xs x h.0 (turned y.job x.job k.0), apart-put xs x h.1 k.1)

found-put : (xs : List Lent) (x : Lent) → is_lent (kept xs) x.job ≡ false → lent_at (kept (xs ++ x ∷ [])) x.job ≡ Some (given_to x)
found-put [] x e = if-true (x.job == x.job) (Some (given_to x)) None (grind arith)
found-put (y ∷ xs) x e =
    let k = not-here x.job (given_to y) (kept xs) (y.job == x.job) e in
    if-false (y.job == x.job) (Some (given_to y)) (lent_at (kept (xs ++ x ∷ [])) x.job) k.0 ∙ found-put xs x k.1

others-put : (other : ℕ) (xs : List Lent) (x : Lent) → other ≢ x.job → lent_at (kept (xs ++ x ∷ [])) other ≡ lent_at (kept xs) other
others-put other [] x differ = if-false (x.job == other) (Some (given_to x)) None (grind (arith, differ))
others-put other (y ∷ xs) x differ = ap (λ (o : Option Opening). if y.job == other then Some (given_to y) else o) (others-put other xs x differ)

-- what is kept of a job is what it was given, with its reader's count
pub is-given : (x : OpenJob) (job site : ℕ) (what : Site) (maps : List (Option ℕ)) (mega : Bool) (start : ℕ) → job ≡ x.job.id → site ≡ x.job.site → what ≡ x.job.what → maps ≡ in_four x.job.maps → length x.job.maps ≤ 4 → mega ≡ x.job.mega → start ≡ counted (beginning x.reader)
    → given_to (record { job = job; site = site; what = what; maps = maps; mega = mega; start = start }) ≡ record (opening_of x) { start = counted (beginning x.reader) }
is-given x job site what maps mega start j s w m few g b =
    let all : listed maps ≡ x.job.maps = ap listed m ∙ listed-places x.job.maps few in
    rw (j, s, w, all, g, b) refl

module _ (lent : List Opening) (xs more : List Lent) (x : OpenJob) (l : Lent) (is : kept xs ≡ lent) (last : more ≡ xs ++ l ∷ []) (given : given_to l ≡ record (opening_of x) { start = counted (beginning x.reader) }) (fresh : is_lent lent x.job.id ≡ false) where
  number : l.job ≡ x.job.id
  number = ap (λ (o : Opening). o.job) given

  fresh-kept : is_lent (kept xs) l.job ≡ false
  fresh-kept = ap (is_lent (kept xs)) number ∙ (ap (λ (k : List Opening). is_lent k x.job.id) is ∙ fresh)

  one-more : length (kept more) ≡ length lent + 1
  one-more =
      let a : length (kept more) ≡ length more = count-kept more in
      let b : length more ≡ length (xs ++ l ∷ []) = ap length last in
      let c : length (xs ++ l ∷ []) ≡ length xs + 1 = length-append xs (l ∷ []) in
      let d : length (kept xs) ≡ length xs = count-kept xs in
      let e : length (kept xs) ≡ length lent = ap length is in
      omega (arith, a, b, c, d, e)

  pub lends : Lends lent x (kept more)
  lends = record {
    now = ap (λ (k : List Lent). lent_at (kept k) x.job.id) last ∙ (ap (lent_at (kept (xs ++ l ∷ []))) (sym number) ∙ (found-put xs l fresh-kept ∙ ap Some given));
    others = λ other differ.
        let apart : other ≢ l.job = λ e. differ (e ∙ number) in
        ap (λ (k : List Lent). lent_at (kept k) other) last ∙ (others-put other xs l apart ∙ ap (λ (k : List Opening). lent_at k other) is);
    count = one-more;
  }

  pub more-lending : (room now : ℕ) → length lent < 64 → IsLending (kept xs) room → now ≡ room → IsLending (kept more) now
  more-lending room now less h same = record {
    few = let count = one-more in omega (arith, count, less);
    room = subst (λ (k : ℕ). 64 ≤ k) (sym same) h.room;
    apart = subst (λ (k : List Lent). AreApart (kept k)) (sym last) (apart-put xs l h.apart fresh-kept);
  }
