-- A map that dies with all maps under it, the children first.
use Rattle.std.proofs.Common.{◌≡◌, ℕ, zero, suc, ◌+◌, ◌<◌, ◌≤◌, Bool, true, false, cond, Option, Some, None, List, [], ◌∷◌, ◌++◌, append_assoc, append-nil, length, slice_index_or, refl, sym, ap, ◌∙◌, subst, arith, IfSome, eqb, eqb-true, eq-eqb}
use Rattle.std.specs.Prelude.{IsTrue, IsSomeAnd, All, Contains}
use Rattle.std.proofs.lemmas.List.Elements.{All-append, All-contains, Contains-append_right}
use Rattle.hc_layout.specs.declared.shape.Shape.{Shape}
use Rattle.hc_layout.specs.declared.words.GateWord.{GateWord}
use Rattle.hc_layout.specs.declared.words.MapBits.{MapBits}
use Rattle.hc_value.specs.declared.key.Key.{Key}
use Rattle.hc_heap.specs.Writes.{Write, Trail, Bits, Head}
use Rattle.hc_heap.specs.Readings.{gate_in, parent_in, bits_in, head_in, link_child_in, link_next_in}
use Rattle.hc_heap.specs.Lawful.{Lawful, LawfulBits}
use Rattle.hc_heap.specs.Kept.{Adds, GoesOn, SetIsKept}
use Rattle.hc_heap.specs.Frames.{adds-none, adds-one, adds-on, adds-wider, goes-on-of}
use Rattle.hc_heap.specs.States.{View, IsHeap, with_write}
use Rattle.hc_links.specs.Chains.{links_in}
use Rattle.hc_links.specs.Laws.{AreChained, LinksAreChained}
use Rattle.hc_tree.specs.Kept.{MapsAreKept}
use Rattle.hc_tree.specs.Tree.{IsChildFor, IsSoundLink, IsTree, gate_with}
use Rattle.hc_tree.specs.Walking.{above, ancestor, parent_of}
use Rattle.hc_tree.specs.Dying.{Deprecates, IsDeprecated, IsUnder, MayDie, dead_bits}
use Rattle.hc_tree.proofs.Keeping.{Lives, array-kept, goes-by, tree-kept}
use Rattle.hc_tree.specs.Frames.{dies-same}

-- how many links come from here on, up to a bound
abbrev pub steps : ℕ → Trail → Option ℕ → ℕ
steps n t None = 0
steps zero t (Some l) = 0
steps (suc n) t (Some l) = suc (steps n t (parent_of (link_next_in t l)))

-- the child of a link is deprecated
abbrev pub IsGone : Trail → ℕ → Type 0
IsGone t l = IfSome (link_child_in t l) (λ c. IsTrue (bits_in t c).deprecated)

-- the children of a map's newest links are deprecated, up to a link or the end
pub record Dying (old now : View) (m : ℕ) (at : Option ℕ) : Type 0 where
  pub view : now ≡ record old { trail = now.trail }
  pub writes : Adds (Deprecates old.trail m) old.trail now.trail
  pub still : links_in old.trail m ≡ [] → now.trail ≡ old.trail
  pub tree : IsTree now.trail
  pub heap : IsHeap now
  pub before : List ℕ
  pub rest : List ℕ
  pub links : links_in old.trail m ≡ before ++ rest
  pub chained : AreChained old.trail at rest
  pub few : length rest ≤ length old.trail
  pub gone : All (IsGone now.trail) before

links-case : (t : Trail) (m l : ℕ) (test : Bool) → length (links_in t m) ≤ length t → length (cond test (l ∷ links_in t m) (links_in t m)) ≤ suc (length t)
links-case t m l true h = omega arith
links-case t m l false h = omega arith

links-few : (t : Trail) (m : ℕ) → length (links_in t m) ≤ length t
links-few [] m = omega arith
links-few (Head n (Some l) ∷ t) m = links-case t m l (eqb n m) (links-few t m)
links-few (w ∷ t) m = let h = links-few t m in omega (arith, h)

pub dying-none : LinksAreChained → (v : View) (m : ℕ) → IsHeap v → IsTree v.trail → Dying v v m (head_in v.trail m)
dying-none law v m heap tree = record {
  view = refl;
  writes = adds-none v.trail;
  still = λ none. refl;
  tree = tree;
  heap = heap;
  before = [];
  rest = links_in v.trail m;
  links = refl;
  chained = law v.shape v.trail m heap.lawful;
  few = links-few v.trail m;
  gone = λ k d lt. absurd (omega (arith, lt));
}

-- the first of a chain
pub record First (t : Trail) (l : ℕ) (rest : List ℕ) : Type 0 where
  pub more : List ℕ
  pub is : rest ≡ l ∷ more
  pub next : Option ℕ
  pub next_is : link_next_in t l ≡ Some next
  pub chained : AreChained t next more

first : (t : Trail) (l : ℕ) (rest : List ℕ) → AreChained t (Some l) rest → First t l rest
first t l [] h = absurd h
first t l (k ∷ ks) h = by (link_next_in t l) refl h.1
  where
    by : (o : Option (Option ℕ)) → link_next_in t l ≡ o → IsSomeAnd o (λ n. AreChained t n ks) → First t l (k ∷ ks)
    by (Some n) is chained = record { more = ks; is = ap (λ (x : ℕ). x ∷ ks) (sym h.0); next = n; next_is = is; chained = chained }
    by None is chained = absurd chained

steps-none : (n : ℕ) (t : Trail) → steps n t None ≡ 0
steps-none zero t = refl
steps-none (suc n) t = refl

steps-are : (t : Trail) (n : ℕ) (at : Option ℕ) (rest : List ℕ) → AreChained t at rest → length rest ≤ n → steps n t at ≡ length rest
steps-are t n None [] h few = steps-none n t
steps-are t n None (k ∷ ks) h few = absurd h
steps-are t n (Some l) [] h few = absurd h
steps-are t zero (Some l) (k ∷ ks) h few = absurd (omega (arith, few))
steps-are t (suc n) (Some l) (k ∷ ks) h few = step (first t l (k ∷ ks) h) (λ (next : Option ℕ) (chained : AreChained t next ks). steps-are t n next ks chained (omega (arith, few)))
  where
    step : (it : First t l (k ∷ ks)) → ((next : Option ℕ) → AreChained t next ks → steps n t next ≡ length ks) → suc (steps n t (parent_of (link_next_in t l))) ≡ suc (length ks)
    step it below =
        let same : it.more ≡ ks = ap tail_of (sym it.is) in
        ap suc (ap (λ (o : Option (Option ℕ)). steps n t (parent_of o)) it.next_is ∙ below it.next (subst (AreChained t it.next) same it.chained))
      where
        tail_of : List ℕ → List ℕ
        tail_of [] = []
        tail_of (x ∷ xs) = xs

none-left : (t : Trail) (rest : List ℕ) → AreChained t None rest → rest ≡ []
none-left t [] h = refl
none-left t (k ∷ ks) h = absurd h

-- A turn

module _ (maps : MapsAreKept) (old now : View) (m : ℕ) (g : GateWord) (l : ℕ) (begin : IsHeap old) (tree : IsTree old.trail) (gate : gate_in old.trail m ≡ Some g) (it : Dying old now m (Some l)) where
  pub here : First old.trail l it.rest
  here = first old.trail l it.rest it.chained

  is-link : Contains (links_in old.trail m) l
  is-link = subst (λ (ls : List ℕ). Contains ls l) (sym (it.links ∙ ap (λ (ls : List ℕ). it.before ++ ls) here.is)) (Contains-append_right it.before (l ∷ here.more) l (0, omega arith, refl))

  pub sound : IsSoundLink old.trail m g l
  sound = All-contains (IsSoundLink old.trail m g) (links_in old.trail m) l (tree.maps m g gate).links is-link

  pub child-is : link_child_in now.trail l ≡ Some sound.child
  child-is = dies-same old.trail m old.trail now.trail (λ (t : Trail). link_child_in t l) (λ t c w. refl) it.writes ∙ sound.is_child

  pub child-gate : gate_in now.trail sound.child ≡ Some (gate_with (g.entries + 1) false)
  child-gate = dies-same old.trail m old.trail now.trail (λ (t : Trail). gate_in t sound.child) (λ t c w. refl) it.writes ∙ sound.sound.gate

  child-parent : parent_in now.trail sound.child ≡ Some (Some m)
  child-parent = dies-same old.trail m old.trail now.trail (λ (t : Trail). parent_in t sound.child) (λ t c w. refl) it.writes ∙ sound.sound.parent

  pub child-may : IsSomeAnd (gate_in now.trail sound.child) (MayDie now.trail sound.child)
  child-may = subst (λ (o : Option GateWord). IsSomeAnd o (MayDie now.trail sound.child)) (sym child-gate) (λ shared top. has-parent (parent_in now.trail sound.child) child-parent top)
    where
      has-parent : (o : Option (Option ℕ)) → o ≡ Some (Some m) → o ≡ Some None → ⊥
      has-parent o a b = cc

  pub next-is : (w : View) → Adds (Deprecates now.trail sound.child) now.trail w.trail → link_next_in w.trail l ≡ Some here.next
  next-is w adds =
      dies-same now.trail sound.child now.trail w.trail (λ (t : Trail). link_next_in t l) (λ t c x. refl) adds
      ∙ dies-same old.trail m old.trail now.trail (λ (t : Trail). link_next_in t l) (λ t c x. refl) it.writes ∙ here.next_is

  ancestor-same : (depth c : ℕ) → ancestor now.trail depth c ≡ ancestor old.trail depth c
  ancestor-same zero c = refl
  ancestor-same (suc d) c = ap (above now.trail) (ancestor-same d c) ∙ above-same (ancestor old.trail d c)
    where
      above-same : (o : Option ℕ) → above now.trail o ≡ above old.trail o
      above-same (Some x) = ap parent_of (dies-same old.trail m old.trail now.trail (λ (t : Trail). parent_in t x) (λ t c w. refl) it.writes)
      above-same None = refl

  -- what is under a child is under the map
  under-more : (c : ℕ) → IsUnder now.trail sound.child c → IsUnder old.trail m c
  under-more c h = record { depth = suc h.depth; leads = ap (above old.trail) (sym (ancestor-same h.depth c) ∙ h.leads) ∙ ap parent_of sound.sound.parent }

  deprecates-more : (t : Trail) (w : Write) → Deprecates now.trail sound.child t w → Deprecates old.trail m t w
  deprecates-more t (Bits c b) h = (under-more c h.0, h.1)
  deprecates-more t _ h = absurd h

  gone-on : SetIsKept → (w : View) → IsDeprecated now w sound.child → (x : ℕ) → IsGone now.trail x → IsGone w.trail x
  gone-on set w dead x h = by (link_child_in now.trail x) refl h
    where
      goes : GoesOn now.shape now.trail w.trail
      goes = goes-on-of now.shape dead.writes (subst (λ (s : Shape). Lawful s w.trail) (ap (λ (v : View). v.shape) dead.view) dead.heap.lawful)

      same : link_child_in w.trail x ≡ link_child_in now.trail x
      same = dies-same now.trail sound.child now.trail w.trail (λ (t : Trail). link_child_in t x) (λ t c b. refl) dead.writes

      by : (o : Option ℕ) → link_child_in now.trail x ≡ o → IfSome o (λ c. IsTrue (bits_in now.trail c).deprecated) → IsGone w.trail x
      by (Some c) is was = subst (λ (o : Option ℕ). IfSome o (λ y. IsTrue (bits_in w.trail y).deprecated)) (sym (same ∙ is)) ((set now.shape now.trail w.trail goes).deprecated c was)
      by None is was = subst (λ (o : Option ℕ). IfSome o (λ y. IsTrue (bits_in w.trail y).deprecated)) (sym (same ∙ is)) tt

  -- the child was deprecated, and the walk goes on
  pub dying-more : SetIsKept → (w : View) → IsDeprecated now w sound.child → Dying old w m here.next
  dying-more set w dead = record {
    view = dead.view ∙ ap (λ (v : View). record v { trail = w.trail }) it.view;
    writes = adds-on it.writes (adds-wider deprecates-more dead.writes);
    still = λ none. let there = subst (λ (ls : List ℕ). Contains ls l) none is-link in let below = there.1 in absurd (omega (arith, below));
    tree = dead.tree;
    heap = dead.heap;
    before = it.before ++ (l ∷ []);
    rest = here.more;
    links = it.links ∙ (ap (λ (ls : List ℕ). it.before ++ ls) here.is ∙ sym (append_assoc it.before (l ∷ []) here.more));
    chained = here.chained;
    few = let one : length it.rest ≡ suc (length here.more) = ap length here.is in let few = it.few in omega (arith, one, few);
    gone = All-append (IsGone w.trail) it.before (l ∷ [])
        (λ k d lt. gone-on set w dead (slice_index_or it.before k d) (it.gone k d lt))
        (one-gone l (subst (λ (o : Option ℕ). IfSome o (λ y. IsTrue (bits_in w.trail y).deprecated))
        (sym (dies-same now.trail sound.child now.trail w.trail (λ (t : Trail). link_child_in t l) (λ t c b. refl) dead.writes ∙ child-is)) dead.dead));
  }
    where
      one-gone : (x : ℕ) → IsGone w.trail x → All (IsGone w.trail) (x ∷ [])
      one-gone x h zero d lt = h
      one-gone x h (suc k) d lt = absurd (omega (arith, lt))

  pub fewer : steps (length old.trail) old.trail here.next < steps (length old.trail) old.trail (Some l)
  fewer =
      let one : length it.rest ≡ suc (length here.more) = ap length here.is in
      let few = it.few in
      let after = steps-are old.trail (length old.trail) here.next here.more here.chained (omega (arith, one, few)) in
      let now_ = steps-are old.trail (length old.trail) (Some l) it.rest it.chained few in
      omega (arith, after, now_, one)

-- The end

bits-self : (t : Trail) (m : ℕ) (b : MapBits) → bits_in (Bits m b ∷ t) m ≡ b
bits-self t m b = ap (λ (x : Bool). cond x b (bits_in t m)) (eq-eqb m m refl)

module _ (maps : MapsAreKept) (old now : View) (m : ℕ) (g : GateWord) (gate : gate_in old.trail m ≡ Some g) (may : MayDie old.trail m g) (it : Dying old now m None) where
  all-gone : All (IsGone now.trail) (links_in old.trail m)
  all-gone = subst (All (IsGone now.trail)) (sym (it.links ∙ ap (λ (ls : List ℕ). it.before ++ ls) (none-left old.trail it.rest it.chained) ∙ append-nil it.before)) it.gone

  gate-now : gate_in now.trail m ≡ Some g
  gate-now = dies-same old.trail m old.trail now.trail (λ (t : Trail). gate_in t m) (λ t c w. refl) it.writes ∙ gate

  pub bits-lawful : LawfulBits now.shape now.trail m dead_bits
  bits-lawful = record { unstable = λ h. refl; deprecated = λ h. refl; together = λ h. refl }

  last : Trail
  last = Bits m dead_bits ∷ now.trail

  rises : (x : ℕ) → IsTrue (bits_in now.trail x).deprecated → IsTrue (bits_in (Bits m dead_bits ∷ now.trail) x).deprecated
  rises x h = by (eqb m x)
    where
      by : (b : Bool) → IsTrue (cond b dead_bits (bits_in now.trail x)).deprecated
      by true = refl
      by false = h

  -- a child of the map is gone
  child-gone : (c : ℕ) (k : GateWord) (key : Key) → gate_in now.trail m ≡ Some k → IsChildFor now.trail m k c key → IsTrue (bits_in now.trail c).deprecated
  child-gone c k key is child =
      let led = (it.tree.maps c (gate_with (k.entries + 1) false) child.gate).child m child.parent in
      let there : Contains (links_in old.trail m) led.link = subst (λ (ls : List ℕ). Contains ls led.link) (dies-same old.trail m old.trail now.trail (λ (t : Trail). links_in t m) (λ t x w. refl) it.writes) led.there in
      subst (λ (o : Option ℕ). IfSome o (λ y. IsTrue (bits_in now.trail y).deprecated)) led.leads (All-contains (IsGone now.trail) (links_in old.trail m) led.link all-gone there)

  lives : Lives now.trail (Bits m dead_bits ∷ now.trail)
  lives = record {
    rises = rises;
    falls = λ p c k key is child dead. rises c (falls-by p c k key is child (eqb m p) refl dead);
    bare = λ x k is shared top live. bare-by x k is shared top live (eqb m x) refl;
  }
    where
      falls-by : (p c : ℕ) (k : GateWord) (key : Key) → gate_in now.trail p ≡ Some k → IsChildFor now.trail p k c key → (b : Bool) → eqb m p ≡ b → IsTrue (cond b dead_bits (bits_in now.trail p)).deprecated → IsTrue (bits_in now.trail c).deprecated
      falls-by p c k key is child true e dead =
          let same : m ≡ p = eqb-true m p e in
          child-gone c k key (ap (gate_in now.trail) same ∙ is) (subst (λ (x : ℕ). IsChildFor now.trail x k c key) (sym same) child)
      falls-by p c k key is child false e dead = child.deprecated dead

      same-gate : (a b : GateWord) (o : Option GateWord) → o ≡ Some a → o ≡ Some b → a ≡ b
      same-gate a b o x y = cc

      bare-by : (x : ℕ) (k : GateWord) → gate_in now.trail x ≡ Some k → k.is_private ≡ false → parent_in now.trail x ≡ Some None → (bits_in now.trail x).deprecated ≡ false → (b : Bool) → eqb m x ≡ b → (cond b dead_bits (bits_in now.trail x)).deprecated ≡ false
      bare-by x k is shared top live true e =
          let same : m ≡ x = eqb-true m x e in
          let gates : g ≡ k = same-gate g k (gate_in now.trail x) (ap (gate_in now.trail) (sym same) ∙ gate-now) is in
          let parent : parent_in old.trail m ≡ Some None = sym (dies-same old.trail m old.trail now.trail (λ (t : Trail). parent_in t m) (λ t c w. refl) it.writes) ∙ ap (parent_in now.trail) same ∙ top in
          absurd (may (ap (λ (y : GateWord). y.is_private) gates ∙ shared) parent)
      bare-by x k is shared top live false e = live

  -- the map was deprecated, the last of all
  pub died : (w : View) → w ≡ with_write now (Bits m dead_bits) → IsHeap w → IsDeprecated old w m
  died w is heap =
      let whole : IsHeap (with_write now (Bits m dead_bits)) = subst IsHeap is heap in
      let kept = maps now.shape now.trail (Bits m dead_bits ∷ now.trail) it.heap.lawful (goes-by now.shape now.trail (Bits m dead_bits) whole.lawful) in
      let tree : IsTree (Bits m dead_bits ∷ now.trail) = tree-kept now.trail (Bits m dead_bits ∷ now.trail) kept lives (λ x. refl) (λ x. refl) (λ o. refl)
      (λ n k e a. array-kept now.trail (Bits m dead_bits ∷ now.trail) n k.entries refl refl (λ x. refl) (λ x. refl) a) it.tree in
      subst (λ (x : View). IsDeprecated old x m) (sym is) (record {
        view = ap (λ (v : View). record v { trail = Bits m dead_bits ∷ now.trail }) it.view;
        alone = λ none. ap (λ (t : Trail). Bits m dead_bits ∷ t) (it.still none);
        writes = adds-on it.writes (adds-one now.trail (Bits m dead_bits) (record { depth = 0; leads = refl }, refl));
        dead = ap (λ (b : MapBits). b.deprecated) (bits-self now.trail m dead_bits);
        tree = tree;
        heap = whole;
      })
