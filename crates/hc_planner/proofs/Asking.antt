-- What seekers ask, by the first of them that has no answer yet.
use Rattle.std.proofs.Common.{◌≡◌, ℕ, zero, suc, ◌+◌, ◌<◌, ◌≤◌, true, false, not, List, [], ◌∷◌, ◌++◌, length, get_or, take, drop, set, refl, sym, ap, ◌∙◌, arith, take-append-drop}
use Rattle.std.specs.Prelude.{◌==◌, sum_by, map, Some, None, IfSome, slice_get}
use Rattle.std.proofs.Math.Seq.{drop-cons}
use Rattle.std.proofs.Math.ListN.{drop_of_length-le}
use Rattle.std.proofs.lemmas.List.{take-set, drop-set-lt, take-append-drop, length-set, get_or-set_same, take_more}
use Rattle.std.proofs.lemmas.Option.{slice_get-get_or}
use Rattle.hc_plan.specs.declared.case.Case.{Case}
use Rattle.hc_plan.specs.declared.skip.Skip.{Skip}
use Rattle.hc_question.specs.Ask.{Ask, tell}
use Rattle.hc_question.specs.declared.outcome.Answer.{Answer}
use Rattle.hc_question.specs.declared.outcome.Answer.TheVariants.{Found, Skipped}
use Rattle.hc_question.specs.Question.{Then, answered, of_maps}
use Rattle.hc_plan.specs.declared.case.Site.{Site}
use Rattle.hc_planner.specs.declared.at.At.{At}
use Rattle.hc_planner.specs.declared.at.At.TheVariants.{Map, Chain, Field, Link, Ended, Stopped}
use Rattle.hc_planner.specs.declared.at.MapLook.TheVariants.{Bits, Gate, Proto, Base, Key}
use Rattle.hc_planner.specs.declared.at.ChainLook.TheVariants.{Object, Gate as HolderGate, Proto as HolderProto}
use Rattle.hc_planner.specs.declared.at.FieldLook.TheVariants.{Reference, Detail as FieldDetail, Store, Slot}
use Rattle.hc_planner.specs.declared.at.LinkLook.TheVariants.{Head, Key as LinkKey, Next, Child, Bits as ChildBits, Gate as ChildGate, Base as ChildBase, Reference as ChildReference}
use Rattle.hc_planner.specs.declared.seeker.Search.{Search}
use Rattle.hc_planner.specs.declared.seeker.Seeker.{Seeker}
use Rattle.hc_planner.specs.Left.{left_at, left_of}
use Rattle.std.proofs.lemmas.List.Sums.{sum_by-set}
use Rattle.hc_planner.specs.Machine.{rest_at, rest, asks_of}
use Rattle.hc_board.specs.States.{ReaderState}
use Rattle.hc_board.specs.Looked.{reader_looked}
use Rattle.hc_layout.specs.declared.shape.Shape.{Shape}
use Rattle.hc_planner.specs.Steps.{Steps}
use Rattle.hc_planner.specs.Jobs.{is_done, is_looking, is_ended, AreEnded, SeekersLook, GoOn, new_seeker}

-- the cases and the skips, with one answer more
abbrev case_by : Search → Answer → List Case → List Case
case_by search (Found way) cases = cases ++ record { map = search.map; chain = search.chain; way = way } ∷ []
case_by search (Skipped skip) cases = cases

abbrev skip_by : Answer → List Skip → List Skip
skip_by (Found way) skips = skips
skip_by (Skipped skip) skips = skips ++ skip ∷ []

-- the cases and the skips after seekers that have their answers
case_at : Search → At → List Case → List Case
case_at search (Ended answer) cases = case_by search answer cases
case_at search _ cases = cases

skip_at : At → List Skip → List Skip
skip_at (Ended answer) skips = skip_by answer skips
skip_at _ skips = skips

pub cases_in : List Seeker → List Case → List Case
cases_in [] cases = cases
cases_in (x ∷ xs) cases = cases_in xs (case_at x.search x.at cases)

pub skips_in : List Seeker → List Skip → List Skip
skips_in [] skips = skips
skips_in (x ∷ xs) skips = skips_in xs (skip_at x.at skips)

rest-ended : (search : Search) (at : At) (more : List Case → List Skip → Ask) (cases : List Case) (skips : List Skip) → is_ended at ≡ true
    → rest_at search at (answered search.map more cases skips) ≡ more (case_at search at cases) (skip_at at skips)
unfolding rest_at case_at skip_at
rest-ended search (Ended (Found way)) more cases skips h = refl
rest-ended search (Ended (Skipped skip)) more cases skips h = refl
rest-ended search (Map at) more cases skips h = grind (arith, h)
rest-ended search (Chain at) more cases skips h = grind (arith, h)
rest-ended search (Field at) more cases skips h = grind (arith, h)
rest-ended search (Link at) more cases skips h = grind (arith, h)
rest-ended search Stopped more cases skips h = grind (arith, h)

pub front-on : (front back : List Seeker) (cases : List Case) (skips : List Skip) → AreEnded front
    → asks_of (front ++ back) cases skips ≡ asks_of back (cases_in front cases) (skips_in front skips)
unfolding AreEnded asks_of cases_in skips_in
front-on [] back cases skips h = refl
front-on (x ∷ front) back cases skips h =
    rest-ended x.search x.at (asks_of (front ++ back)) cases skips h.0 ∙ front-on front back (case_at x.search x.at cases) (skip_at x.at skips) h.1

-- a seeker that has no answer looks, or was given up
looks-on : (search : Search) (at : At) (next : Then) → is_looking at ≡ true → is_done (rest_at search at next) ≡ false
unfolding rest_at is_done
looks-on search (Map Bits) next h = refl
looks-on search (Map Gate) next h = refl
looks-on search (Map Proto) next h = refl
looks-on search (Map (Base searched holder entries)) next h = refl
looks-on search (Map (Key searched first entry left)) next h = refl
looks-on search (Chain (Object object left)) next h = refl
looks-on search (Chain (HolderGate object holder left)) next h = refl
looks-on search (Chain (HolderProto object holder entries left)) next h = refl
looks-on search (Field (Reference purpose entry)) next h = refl
looks-on search (Field (FieldDetail purpose field)) next h = refl
looks-on search (Field (Store object slot field rep)) next h = refl
looks-on search (Field (Slot object slot field rep start)) next h = refl
looks-on search (Link Head) next h = refl
looks-on search (Link (LinkKey link left)) next h = refl
looks-on search (Link (Next link left)) next h = refl
looks-on search (Link (Child link)) next h = refl
looks-on search (Link (ChildBits child)) next h = refl
looks-on search (Link (ChildGate child)) next h = refl
looks-on search (Link (ChildBase child slot)) next h = refl
looks-on search (Link (ChildReference child slot first)) next h = refl
looks-on search (Ended answer) next h = grind (arith, h)
looks-on search Stopped next h = grind (arith, h)

pub done-rest : (search : Search) (at : At) (next : Then) → is_ended at ≡ false → is_done (rest_at search at next) ≡ not (is_looking at)
unfolding rest_at is_done
done-rest search (Map at) next h = looks-on search (Map at) next refl
done-rest search (Chain at) next h = looks-on search (Chain at) next refl
done-rest search (Field at) next h = looks-on search (Field at) next refl
done-rest search (Link at) next h = looks-on search (Link at) next refl
done-rest search (Ended answer) next h = grind (arith, h)
done-rest search Stopped next h = refl

-- what follows the seeker at this place
abbrev pub follows : List Seeker → ℕ → ℕ → Then
follows xs i number = answered number (asks_of (drop (suc i) xs)) (cases_in (take i xs) []) (skips_in (take i xs) [])

module _ (xs : List Seeker) (i : ℕ) (ended : AreEnded (take i xs)) where
  asks-from : asks_of xs [] [] ≡ asks_of (drop i xs) (cases_in (take i xs) []) (skips_in (take i xs) [])
  asks-from = ap (λ (ys : List Seeker). asks_of ys [] []) (sym (take-append-drop i xs)) ∙ front-on (take i xs) (drop i xs) [] [] ended

  pub asks-no-more : length xs ≤ i → is_done (asks_of xs [] []) ≡ true
  unfolding asks_of is_done
  asks-no-more h = rw (asks-from, drop_of_length-le xs h) refl

  pub asks-here : (x : Seeker) → i < length xs → x ≡ get_or xs i x → asks_of xs [] [] ≡ rest x (follows xs i x.search.map)
  unfolding asks_of
  asks-here x h e = asks-from ∙ rw (drop-cons xs i x h, ← e) refl

module _ (xs : List Seeker) (i : ℕ) (ended : AreEnded (take i xs)) where
  pub asks-there : (y : Seeker) → i < length xs → asks_of (set xs i y) [] [] ≡ rest y (follows xs i y.search.map)
  asks-there y h =
      asks-here (set xs i y) i (rw (take-set xs i y) ended) y (rw (length-set xs i y) h) (sym (get_or-set_same xs i y y h))
      ∙ rw (take-set xs i y, drop-set-lt (suc i) xs i y (omega arith)) refl

-- new seekers ask what their maps are asked for
pub asks-new : (what : Site) (most : ℕ) (maps : List ℕ) (cases : List Case) (skips : List Skip) → asks_of (map (new_seeker what most) maps) cases skips ≡ of_maps what most maps cases skips
unfolding asks_of of_maps rest_at
asks-new what most [] cases skips = refl
asks-new what most (m ∷ maps) cases skips =
    let same : asks_of (map (new_seeker what most) maps) ≡ of_maps what most maps = λ i a b. asks-new what most maps a b i in
    rw same refl

-- one more seeker has its answer
ended-append : (front : List Seeker) (x : Seeker) → AreEnded front → is_ended x.at ≡ true → AreEnded (front ++ x ∷ [])
unfolding AreEnded
ended-append [] x h e = (e, tt)
ended-append (y ∷ front) x h e = (h.0, ended-append front x h.1 e)

pub ended-none : (xs : List Seeker) → AreEnded (take 0 xs)
unfolding AreEnded
ended-none xs = tt

pub ended-more : (xs : List Seeker) (i : ℕ) (x : Seeker) → AreEnded (take i xs) → i < length xs → x ≡ get_or xs i x → is_ended x.at ≡ true → AreEnded (take (i + 1) xs)
ended-more xs i x h k e t = rw (take_more xs i x k, ← e) (ended-append (take i xs) x h t)

pub first-at : (xs : List Seeker) (i : ℕ) (x : Seeker) → i < length xs → x ≡ get_or xs i x → is_ended x.at ≡ false → IfSome (slice_get xs i) (λ y. is_ended y.at ≡ false)
first-at xs i x k e f = rw (slice_get-get_or xs i x k, ← e) f

pub none-at : (xs : List Seeker) (i : ℕ) → length xs ≤ i → slice_get xs i ≡ None
none-at [] i h = refl
none-at (x ∷ xs) zero h = grind (arith, h)
none-at (x ∷ xs) (suc i) h = none-at xs i (omega (arith, h))

pub first-past : (xs : List Seeker) (i : ℕ) → length xs ≤ i → IfSome (slice_get xs i) (λ y. is_ended y.at ≡ false)
first-past xs i h = rw (none-at xs i h) tt

-- a seeker that was got is the one at its place, and has no answer yet
pub got-first : (xs : List Seeker) (i : ℕ) (x : Seeker) → slice_get xs i ≡ Some x → IfSome (slice_get xs i) (λ y. is_ended y.at ≡ false) → is_ended x.at ≡ false
got-first xs i x e h = rw e at h

pub at-first : (xs : List Seeker) (i : ℕ) (x : Seeker) → i < length xs → x ≡ get_or xs i x → IfSome (slice_get xs i) (λ y. is_ended y.at ≡ false) → is_ended x.at ≡ false
at-first xs i x k e h = got-first xs i x (slice_get-get_or xs i x k ∙ ap Some (sym e)) h

pub got-here : (xs : List Seeker) (i : ℕ) (x : Seeker) → slice_get xs i ≡ Some x → (i < length xs) × (x ≡ get_or xs i x)
got-here [] i x e = grind (arith, e)
got-here (y ∷ xs) zero x e = (omega arith, grind (arith, e))
got-here (y ∷ xs) (suc i) x e = let h = got-here xs i x e in (omega (arith, h.0), h.1)

pub got-none : (xs : List Seeker) (i : ℕ) → slice_get xs i ≡ None → length xs ≤ i
got-none [] i e = omega arith
got-none (y ∷ xs) zero e = grind (arith, e)
got-none (y ∷ xs) (suc i) e = let h : length xs ≤ i = got-none xs i e in omega (arith, h)

-- whether seekers ask no more, by the first that has no answer yet
pub asks-stuck : (xs : List Seeker) (i : ℕ) (x : Seeker) → AreEnded (take i xs) → i < length xs → x ≡ get_or xs i x → is_ended x.at ≡ false → is_done (asks_of xs [] []) ≡ not (is_looking x.at)
asks-stuck xs i x ended h e first = ap is_done (asks-here xs i ended x h e) ∙ done-rest x.search x.at (follows xs i x.search.map) first

fewer-set : (xs : List Seeker) (i : ℕ) (x y : Seeker) → i < length xs → x ≡ get_or xs i x → left_at y.at < left_at x.at → left_of (set xs i y) < left_of xs
fewer-set xs i x y h e less =
    let f : Seeker → ℕ = λ z. left_at z.at in
    let same : sum_by f (set xs i y) + f (get_or xs i x) ≡ sum_by f xs + f y = sum_by-set f xs i y x h in
    let here : f x ≡ f (get_or xs i x) = ap f e in
    omega (arith, same, here, less)

-- a look for the first that has no answer is a look for all
pub looked-on : (xs : List Seeker) (i : ℕ) (x y : Seeker) {s : Shape} {before after : ReaderState} → AreEnded (take i xs) → i < length xs → x ≡ get_or xs i x → y.search.map ≡ x.search.map
    → left_at y.at < left_at x.at → Steps reader_looked s before after (rest x) (rest y) → SeekersLook s xs (set xs i y) before after
looked-on xs i x y {s} ended h e same less steps =
    let there : asks_of (set xs i y) [] [] ≡ rest y (follows xs i x.search.map) = asks-there xs i ended y h ∙ ap (λ (n : ℕ). rest y (follows xs i n)) same in
    record {
      read = steps.read;
      looked = steps.looks;
      leads = rw (asks-here xs i ended x h e, there) (steps.leads (follows xs i x.search.map));
      fewer = fewer-set xs i x y h e less;
    }

-- a seeker that has no answer tells no cases and skips
tells-none : (search : Search) (at : At) (next : Then) (told : List Case) (passed : List Skip) → is_ended at ≡ false → rest_at search at next ≡ tell told passed → ⊥
unfolding rest_at is_done
tells-none search (Map at) next told passed h e = let k = sym (looks-on search (Map at) next refl) ∙ ap is_done e in grind (arith, k)
tells-none search (Chain at) next told passed h e = let k = sym (looks-on search (Chain at) next refl) ∙ ap is_done e in grind (arith, k)
tells-none search (Field at) next told passed h e = let k = sym (looks-on search (Field at) next refl) ∙ ap is_done e in grind (arith, k)
tells-none search (Link at) next told passed h e = let k = sym (looks-on search (Link at) next refl) ∙ ap is_done e in grind (arith, k)
tells-none search (Ended answer) next told passed h e = grind (arith, h)
tells-none search Stopped next told passed h e = grind (arith, e)

pub goes-none : (x : Seeker) (cases longer : List Case) (skips more : List Skip) → is_ended x.at ≡ false → GoOn x cases skips longer more
unfolding asks_of
goes-none x cases longer skips more h others told passed e = absurd (tells-none x.search x.at (answered x.search.map (asks_of others) cases skips) told passed h e)

pub goes-by : (search : Search) (at : At) (answer : Answer) (cases : List Case) (skips : List Skip) → at ≡ Ended answer
    → GoOn (record { search = search; at = at }) cases skips (case_by search answer cases) (skip_by answer skips)
unfolding asks_of case_at skip_at
goes-by search at answer cases skips k others told passed e =
    let ended : rest_at search (Ended answer) (answered search.map (asks_of others) cases skips) ≡ tell told passed = rw k at e in
    sym (rest-ended search (Ended answer) (asks_of others) cases skips refl) ∙ ended

pub ended-not : (at : At) → ((answer : Answer) → at ≡ Ended answer → ⊥) → is_ended at ≡ false
ended-not (Map at) h = refl
ended-not (Chain at) h = refl
ended-not (Field at) h = refl
ended-not (Link at) h = refl
ended-not (Ended answer) h = absurd (h answer refl)
ended-not Stopped h = refl

told-cases : Ask → List Case
told-cases (tell cases skips) = cases
told-cases _ = []

told-skips : Ask → List Skip
told-skips (tell cases skips) = skips
told-skips _ = []

pub told-end : (xs : List Seeker) (cases : List Case) (skips : List Skip) (told : List Case) (passed : List Skip) → xs ≡ [] → asks_of xs cases skips ≡ tell told passed → (cases ≡ told) × (skips ≡ passed)
unfolding asks_of told-cases told-skips
told-end xs cases skips told passed none e = let k : tell cases skips ≡ tell told passed = rw none at e in (ap told-cases k, ap told-skips k)

pub nil-by : (xs : List Seeker) (n : ℕ) → length xs ≡ n → (n == 0) ≡ true → xs ≡ []
nil-by [] n e h = refl
nil-by (x ∷ xs) n e h = grind (arith, e, h)
