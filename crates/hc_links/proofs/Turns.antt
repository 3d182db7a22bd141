-- The turns of the loop that walks along the links of a map, two loads each.
use Rattle.std.proofs.Common.{◌≡◌, ℕ, ◌+◌, ◌*◌, ◌<◌, ◌≤◌, Bool, true, false, Option, Some, length, sym, ap, ◌∙◌, subst, arith, IfSome}
use Rattle.hc_value.specs.declared.key.Key.{Key}
use Rattle.hc_heap.specs.Readings.{head_in, link_key_in, link_child_in, link_next_in}
use Rattle.hc_heap.specs.Lawful.{Lawful, IsChildBy}
use Rattle.hc_heap.specs.States.{HeapState, Goes, OnlyLoads, one_load}
use Rattle.hc_links.specs.Chains.{is_key, links_in, child_of, next_of}
use Rattle.hc_links.specs.Laws.{LinksAreChained, ChildrenAreOpen}
use Rattle.hc_links.proofs.Loads.{AreLoads, loads-begin, loads-on, only-loads, loads-go}
use Rattle.hc_links.proofs.Walk.{Walk, steps, walk-begins, walk-within, walk-finds, walk-goes_on, walk-takes, walk-shrinks}

-- one load was made
abbrev pub IsLoaded : {P : Type 0} → HeapState P → HeapState P → Type 0
IsLoaded a b = b ≡ record a { desk = one_load a.desk }

-- from a heap the walk came to another, and to a link or the end
pub record Came {P : Type 0} (a b : HeapState P) (m : ℕ) (key : Key) (at : Option ℕ) : Type 0 where
  pub same : AreLoads a b
  pub walk : Walk a.view.trail m key at a.desk.loads b.desk.loads

loaded-one : {P : Type 0} (a b : HeapState P) → IsLoaded a b → b.desk.loads ≡ a.desk.loads + 1
loaded-one {P} a b e = ap (λ (h : HeapState P). h.desk.loads) e

pub came-first : {P : Type 0} (a b : HeapState P) (m : ℕ) (key : Key) (head : Option ℕ) → LinksAreChained → Lawful a.view.shape a.view.trail → IsLoaded a b → head ≡ head_in a.view.trail m → Came a b m key head
came-first a b m key head law lawful loaded read = record {
  same = loads-begin a b loaded;
  walk = subst (λ (at : Option ℕ). Walk a.view.trail m key at a.desk.loads b.desk.loads) (sym read)
      (walk-begins a.view.shape a.view.trail m key a.desk.loads b.desk.loads law lawful (loaded-one a b loaded));
}

module _ {P : Type 0} (a b : HeapState P) (m : ℕ) (key : Key) (at : Option ℕ) (came : Came a b m key at) where
  trails : b.view.trail ≡ a.view.trail
  trails = ap (λ (h : HeapState P). h.view.trail) came.same

  -- at the end

  pub last-loads : OnlyLoads (2 * length (links_in a.view.trail m) + 1) a.desk b.desk
  last-loads = only-loads a b (2 * length (links_in a.view.trail m) + 1) came.same came.walk.least (walk-within a.view.trail m key at a.desk.loads b.desk.loads came.walk)

  pub last-goes : Goes a.desk b.desk
  last-goes = loads-go a b came.same came.walk.least

  -- at a link whose key was read, and then its child or its next

  module _ (l : ℕ) (is : at ≡ Some l) (x y : HeapState P) (first : IsLoaded b x) (second : IsLoaded x y) where
    two : y.desk.loads ≡ b.desk.loads + 2
    two = omega (arith, loaded-one b x first, loaded-one x y second)

    later : x.view.trail ≡ a.view.trail
    later = ap (λ (h : HeapState P). h.view.trail) first ∙ trails

    same : AreLoads a y
    same = loads-on a x y (loads-on a b x came.same first) second

    least : a.desk.loads ≤ y.desk.loads
    least = omega (arith, came.walk.least, two)

    tested : (read : Option Key) (test answer : Bool) → read ≡ link_key_in b.view.trail l → test ≡ is_key read key → test ≡ answer → is_key (link_key_in a.view.trail l) key ≡ answer
    tested read test answer e f h = sym (ap (λ o. is_key o key) (e ∙ ap (λ t. link_key_in t l) trails)) ∙ sym f ∙ h

    pub found-child : (read : Option Key) (test : Bool) (child : Option ℕ) → read ≡ link_key_in b.view.trail l → test ≡ is_key read key → test ≡ true → child ≡ link_child_in x.view.trail l → child ≡ child_of a.view.trail m key
    found-child read test child e f h g =
        g ∙ ap (λ t. link_child_in t l) later
        ∙ walk-finds a.view.trail m key at a.desk.loads b.desk.loads came.walk l is (tested read test true e f h)

    pub found-open : (child : Option ℕ) → ChildrenAreOpen → Lawful a.view.shape a.view.trail → child ≡ child_of a.view.trail m key → IfSome child (λ c. IsChildBy a.view.trail m c key)
    found-open child law lawful e = subst (λ o. IfSome o (λ c. IsChildBy a.view.trail m c key)) (sym e) (law a.view.shape a.view.trail m key lawful)

    pub found-loads : OnlyLoads (2 * length (links_in a.view.trail m) + 1) a.desk y.desk
    found-loads = only-loads a y (2 * length (links_in a.view.trail m) + 1) same least (walk-takes a.view.trail m key at a.desk.loads b.desk.loads came.walk l is y.desk.loads two)

    pub found-goes : Goes a.desk y.desk
    found-goes = loads-go a y same least

    module _ (read : Option (Option ℕ)) (next : Option ℕ) (e : read ≡ link_next_in x.view.trail l) (f : next ≡ next_of read) where
      onward : next ≡ next_of (link_next_in a.view.trail l)
      onward = f ∙ ap next_of (e ∙ ap (λ t. link_next_in t l) later)

      pub came-on : (was : Option Key) (test : Bool) → was ≡ link_key_in b.view.trail l → test ≡ is_key was key → test ≡ false → Came a y m key next
      came-on was test g h missed = record {
        same = same;
        walk = subst (λ (to : Option ℕ). Walk a.view.trail m key to a.desk.loads y.desk.loads) (sym onward)
            (walk-goes_on a.view.trail m key at a.desk.loads b.desk.loads came.walk l is y.desk.loads (tested was test false g h missed) two);
      }

      pub fewer-on : steps (length a.view.trail) a.view.trail next < steps (length a.view.trail) a.view.trail at
      fewer-on =
          subst (λ (to : Option ℕ). steps (length a.view.trail) a.view.trail to < steps (length a.view.trail) a.view.trail at) (sym onward)
          (walk-shrinks a.view.trail m key at a.desk.loads b.desk.loads came.walk l is)
