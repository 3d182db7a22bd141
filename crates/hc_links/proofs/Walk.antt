-- A walk along the links of a map.
use Rattle.std.proofs.Common.{◌≡◌, ℕ, zero, suc, ◌+◌, ◌*◌, ◌<◌, ◌≤◌, Bool, true, false, cond, eqb, Option, Some, None, List, [], ◌∷◌, length, refl, sym, ap, ◌∙◌, subst, arith}
use Rattle.std.specs.Prelude.{IsSomeAnd}
use Rattle.hc_layout.specs.declared.shape.Shape.{Shape}
use Rattle.hc_value.specs.declared.key.Key.{Key}
use Rattle.hc_heap.specs.Writes.{Trail, Head}
use Rattle.hc_heap.specs.Readings.{head_in, link_key_in, link_child_in, link_next_in}
use Rattle.hc_heap.specs.Lawful.{Lawful}
use Rattle.hc_links.specs.Chains.{is_key, links_in, newest_of, child_of, next_of}
use Rattle.hc_links.specs.Laws.{AreChained, LinksAreChained}

-- how many links come from here on, up to a bound
abbrev pub steps : ℕ → Trail → Option ℕ → ℕ
steps n t None = 0
steps zero t (Some l) = 0
steps (suc n) t (Some l) = suc (steps n t (next_of (link_next_in t l)))

-- a walk came here: after here come links that are the rest, so far none had the key, and it took two loads for a link
pub record Walk (t : Trail) (m : ℕ) (key : Key) (at : Option ℕ) (before now : ℕ) : Type 0 where
  pub rest : List ℕ
  pub chained : AreChained t at rest
  pub newest : newest_of t rest key ≡ child_of t m key
  pub few : length rest ≤ length t
  pub least : before ≤ now
  pub loads : now + 2 * length rest ≤ before + (2 * length (links_in t m) + 1)

links-case : (t : Trail) (m l : ℕ) (test : Bool) → length (links_in t m) ≤ length t → length (cond test (l ∷ links_in t m) (links_in t m)) ≤ suc (length t)
links-case t m l true h = omega arith
links-case t m l false h = omega arith

links-few : (t : Trail) (m : ℕ) → length (links_in t m) ≤ length t
links-few [] m = omega arith
links-few (Head n (Some l) ∷ t) m = links-case t m l (eqb n m) (links-few t m)
links-few (w ∷ t) m = let h = links-few t m in omega (arith, h)

steps-none : (n : ℕ) (t : Trail) → steps n t None ≡ 0
steps-none zero t = refl
steps-none (suc n) t = refl

-- the first of a chain: its next leads on
record Step (t : Trail) (l : ℕ) (rest : List ℕ) : Type 0 where
  more : List ℕ
  is : rest ≡ l ∷ more
  chained : AreChained t (next_of (link_next_in t l)) more

next-and : (t : Trail) (ks : List ℕ) (next : Option (Option ℕ)) → IsSomeAnd next (λ n. AreChained t n ks) → AreChained t (next_of next) ks
next-and t ks (Some n) h = h
next-and t ks None h = absurd h

step : (t : Trail) (l : ℕ) (rest : List ℕ) → AreChained t (Some l) rest → Step t l rest
step t l [] h = absurd h
step t l (k ∷ ks) h = record { more = ks; is = ap (λ x. x ∷ ks) (sym h.0); chained = next-and t ks (link_next_in t l) h.1 }

steps-are : (t : Trail) (n : ℕ) (at : Option ℕ) (rest : List ℕ) → AreChained t at rest → length rest ≤ n → steps n t at ≡ length rest
steps-are t n None [] h few = steps-none n t
steps-are t n None (k ∷ ks) h few = absurd h
steps-are t n (Some l) [] h few = absurd h
steps-are t zero (Some l) (k ∷ ks) h few = absurd (omega arith)
steps-are t (suc n) (Some l) (k ∷ ks) h few = ap suc (steps-are t n (next_of (link_next_in t l)) ks (next-and t ks (link_next_in t l) h.1) (omega arith))

no-rest : (t : Trail) (rest : List ℕ) → AreChained t None rest → rest ≡ []
no-rest t [] h = refl
no-rest t (k ∷ ks) h = absurd h

pub walk-begins : (s : Shape) (t : Trail) (m : ℕ) (key : Key) (before now : ℕ) → LinksAreChained → Lawful s t → now ≡ before + 1 → Walk t m key (head_in t m) before now
walk-begins s t m key before now law h one = record {
  rest = links_in t m;
  chained = law s t m h;
  newest = refl;
  few = links-few t m;
  least = omega arith;
  loads = omega arith;
}

module _ (t : Trail) (m : ℕ) (key : Key) (at : Option ℕ) (before now : ℕ) (walk : Walk t m key at before now) where
  pub walk-ends : at ≡ None → None ≡ child_of t m key
  walk-ends is =
      let none = no-rest t walk.rest (subst (λ (a : Option ℕ). AreChained t a walk.rest) is walk.chained) in
      sym (ap (λ ls. newest_of t ls key) none) ∙ walk.newest

  pub walk-within : now ≤ before + (2 * length (links_in t m) + 1)
  walk-within = let h = walk.loads in omega (arith, h)

  module _ (l : ℕ) (is : at ≡ Some l) where
    here : Step t l walk.rest
    here = step t l walk.rest (subst (λ (a : Option ℕ). AreChained t a walk.rest) is walk.chained)

    found : (here : Step t l walk.rest) → cond (is_key (link_key_in t l) key) (link_child_in t l) (newest_of t here.more key) ≡ child_of t m key
    found here = sym (ap (λ ls. newest_of t ls key) here.is) ∙ walk.newest

    pub walk-finds : is_key (link_key_in t l) key ≡ true → link_child_in t l ≡ child_of t m key
    walk-finds hit = sym (ap (λ b. cond b (link_child_in t l) (newest_of t here.more key)) hit) ∙ found here

    pub walk-goes_on : (then : ℕ) → is_key (link_key_in t l) key ≡ false → then ≡ now + 2 → Walk t m key (next_of (link_next_in t l)) before then
    walk-goes_on then missed two =
        let at_here = here in
        let one : length walk.rest ≡ suc (length at_here.more) = ap length at_here.is in
        let loads = walk.loads in
        let few = walk.few in
        let least = walk.least in
        record {
          rest = at_here.more;
          chained = at_here.chained;
          newest = sym (ap (λ b. cond b (link_child_in t l) (newest_of t at_here.more key)) missed) ∙ found at_here;
          few = omega (arith, one, few);
          least = omega (arith, least, two);
          loads = omega (arith, one, loads, two);
        }

    pub walk-takes : (then : ℕ) → then ≡ now + 2 → then ≤ before + (2 * length (links_in t m) + 1)
    walk-takes then two =
        let at_here = here in
        let one : length walk.rest ≡ suc (length at_here.more) = ap length at_here.is in
        let loads = walk.loads in
        omega (arith, one, loads, two)

    pub walk-shrinks : steps (length t) t (next_of (link_next_in t l)) < steps (length t) t at
    walk-shrinks =
        let at_here = here in
        let one : length walk.rest ≡ suc (length at_here.more) = ap length at_here.is in
        let few = walk.few in
        let after = steps-are t (length t) (next_of (link_next_in t l)) at_here.more at_here.chained (omega (arith, one, few)) in
        let now_ = steps-are t (length t) at walk.rest walk.chained few in
        omega (arith, after, now_, one)
