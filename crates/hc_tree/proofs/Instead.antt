-- A child that is made in place of a live one, which dies with all maps under it.
use Rattle.std.proofs.Common.{◌≡◌, ℕ, zero, suc, ◌<◌, ◌∷◌, Bool, true, false, cond, eqb, eqb-true, Option, Some, None, IsSome, refl, sym, ap, ◌∙◌, subst, inl, inr, true≢false}
use Rattle.std.specs.Prelude.{◌⊎◌, IsTrue, IsSomeAnd, All}
use Rattle.hc_layout.specs.declared.shape.Shape.{Shape}
use Rattle.hc_layout.specs.declared.words.GateWord.{GateWord}
use Rattle.hc_layout.specs.declared.words.MapBits.{MapBits}
use Rattle.hc_value.specs.Field.{in_place_of, join_of, joined_detail}
use Rattle.hc_value.specs.declared.field.Class.{Class}
use Rattle.hc_value.specs.declared.field.Class.TheVariants.{Of, Any}
use Rattle.hc_value.specs.declared.field.Detail.{Detail}
use Rattle.hc_value.specs.declared.key.Key.{Key}
use Rattle.hc_heap.specs.Writes.{Write, Trail, Bits}
use Rattle.hc_heap.specs.Readings.{gate_in, parent_in, bits_in}
use Rattle.hc_heap.specs.Lawful.{IsClassThere, Lawful}
use Rattle.hc_heap.specs.Kept.{Adds}
use Rattle.hc_heap.specs.Frames.{adds-wider, goes-on-of}
use Rattle.hc_heap.specs.States.{View, IsHeap}
use Rattle.hc_descs.specs.Entries.{count_of, LacksName}
use Rattle.hc_links.specs.Chains.{child_of, links_in}
use Rattle.hc_links.specs.Laws.{SameKeysAreEqual}
use Rattle.hc_tree.specs.Kept.{MapsAreKept, MapsStay}
use Rattle.hc_tree.specs.Tree.{gate_with, IsChildFor, IsDeadFor, IsTree}
use Rattle.hc_tree.specs.Details.{Reshapes, child_detail, detail_at, joined_with, joins_in_place}
use Rattle.hc_tree.specs.Growth.{MakesMap, MayGrow, asked_detail, fit_of, fitting_child, live_child, marked}
use Rattle.hc_tree.specs.Walking.{above, ancestor, parent_of}
use Rattle.hc_tree.specs.Dying.{Deprecates, IsDead, IsDeprecated, IsOutgrown, IsUnder, MarksOnly, MayDie, OutgrownFor}
use Rattle.hc_tree.specs.Frames.{dies-same, kept-after}
use Rattle.hc_tree.proofs.Joins.{IsFound, found-at}
use Rattle.hc_tree.proofs.Keeping.{SameLives, child-kept, same-lives}
use Rattle.hc_tree.proofs.Opened.{found-dead, marked-keeps, marked-writes, same-life}
use Rattle.hc_tree.proofs.Opening.{live-bits, some-of}
use Rattle.hc_tree.proofs.Owners.{freed}
use Rattle.hc_tree.proofs.Spared.{rises-to, spared}

-- what stands above a map is what stood there, where parents are
ancestor-same : (a b : Trail) → ((x : ℕ) → parent_in b x ≡ parent_in a x) → (depth c : ℕ) → ancestor b depth c ≡ ancestor a depth c
ancestor-same a b same zero c = refl
ancestor-same a b same (suc d) c = ap (above b) (ancestor-same a b same d c) ∙ above-same (ancestor a d c)
  where
    above-same : (o : Option ℕ) → above b o ≡ above a o
    above-same (Some x) = ap parent_of (same x)
    above-same None = refl

not-fit : (b : Bool) (c : ℕ) → cond b (Some c) None ≡ None → b ≡ false
not-fit true c is = let n : ⊥ = cc in absurd n
not-fit false c is = refl

-- Maps that became unstable

inner : (a b : ℕ) → Some a ≡ Some b → a ≡ b
inner a b e = cc

-- a map that is unstable is this one, or a dead one of a kind
abbrev Marked : ℕ → (ℕ → Type 0) → ℕ → Trail → Type 0
Marked m D x t = IsTrue (bits_in t x).unstable → (x ≡ m) ⊎ IsDead D t x

-- by the writes that make a map, only its parent
pub marks-made : (D : ℕ → Type 0) (used : Shape) (m x : ℕ) (a b : Trail) → Adds (MakesMap used (Some m)) a b → (IsTrue (bits_in a x).unstable → (x ≡ m) ⊎ IsDead D a x) → IsTrue (bits_in b x).unstable → (x ≡ m) ⊎ IsDead D b x
marks-made D used m x a b adds = kept-after (Marked m D x) step adds
  where
    by : (t : Trail) (i : ℕ) (y : MapBits) (test : Bool) → eqb i x ≡ test → m ≡ i → Marked m D x t → IsTrue (cond test y (bits_in t x)).unstable → (x ≡ m) ⊎ (D x × IsTrue (cond test y (bits_in t x)).deprecated)
    by t i y true is at before now = inl (sym (eqb-true i x is) ∙ sym at)
    by t i y false is at before now = before now

    step : (t : Trail) (w : Write) → MakesMap used (Some m) t w → Marked m D x t → Marked m D x (w ∷ t)
    step t (Bits i y) e before = λ now. by t i y (eqb i x) refl (inner m i e.0) before now
    step t _ e before = λ now. before now

-- by a death, only those that died
pub marks-died : (D : ℕ → Type 0) (top : Trail) (child m x : ℕ) (a b : Trail) → ((c : ℕ) → IsUnder top child c → D c) → Adds (Deprecates top child) a b → (IsTrue (bits_in a x).unstable → (x ≡ m) ⊎ IsDead D a x) → IsTrue (bits_in b x).unstable → (x ≡ m) ⊎ IsDead D b x
marks-died D top child m x a b under adds = kept-after (Marked m D x) step adds
  where
    by : (t : Trail) (i : ℕ) (y : MapBits) (test : Bool) → eqb i x ≡ test → D i → IsTrue y.deprecated → Marked m D x t → IsTrue (cond test y (bits_in t x)).unstable → (x ≡ m) ⊎ (D x × IsTrue (cond test y (bits_in t x)).deprecated)
    by t i y true is here dead before now = inr (subst D (eqb-true i x is) here, dead)
    by t i y false is here dead before now = before now

    step : (t : Trail) (w : Write) → Deprecates top child t w → Marked m D x t → Marked m D x (w ∷ t)
    step t (Bits i y) e before = λ now. by t i y (eqb i x) refl (under i e.0) (ap (λ (b : MapBits). b.deprecated) e.1) before now
    step t _ e before = absurd e

-- a child alone was made
pub marks-alone : (D : ℕ → Type 0) (used : Shape) (m : ℕ) (a b : Trail) → Adds (MakesMap used (Some m)) a b → MarksOnly m D a b
marks-alone D used m a b adds = λ x stable now. marks-made D used m x a b adds (λ was. absurd (true≢false (sym was ∙ stable))) now

-- the map was made unstable
module _ (maps : MapsAreKept) (v u : View) (m child : ℕ) (key : Key) (heap : IsHeap v) (found : IsFound v.trail m child key) (marks : u ≡ record v { trail = marked v.trail m }) (heap_u : IsHeap u) where
  g : GateWord
  g = gate_with (count_of v.trail m) false

  trail-u : u.trail ≡ marked v.trail m
  trail-u = ap (λ (x : View). x.trail) marks

  to-u : {T : Type 0} (reading : Trail → T) → ((t : Trail) (c : ℕ) (w : MapBits) → reading (Bits c w ∷ t) ≡ reading t) → reading u.trail ≡ reading v.trail
  to-u reading h = ap reading trail-u ∙ marked-keeps (λ (t : Trail). reading t ≡ reading v.trail) v.trail m refl (h v.trail m (record { unstable = true; deprecated = (bits_in v.trail m).deprecated }))

  lives-u : SameLives v.trail u.trail
  lives-u x = subst (λ (t : Trail). (bits_in t x).deprecated ≡ (bits_in v.trail x).deprecated) (sym trail-u) (marked-keeps (λ (t : Trail). (bits_in t x).deprecated ≡ (bits_in v.trail x).deprecated) v.trail m refl (same-life v.trail m x))

  later-u : MapsStay v.trail u.trail
  later-u =
      let adds : Adds (MakesMap v.used (Some m)) v.trail u.trail = subst (λ (t : Trail). Adds (MakesMap v.used (Some m)) v.trail t) (sym trail-u) (marked-writes v.used v.trail m) in
      maps v.shape v.trail u.trail heap.lawful (goes-on-of v.shape adds (subst (λ (s : Shape). Lawful s u.trail) (ap (λ (x : View). x.shape) marks) heap_u.lawful))

  child-u : IsChildFor u.trail m (gate_with (count_of v.trail m) false) child key
  child-u = child-kept v.trail u.trail later-u (same-lives v.trail u.trail lives-u) m (gate_with (count_of v.trail m) false) child key found.gate found.child

  gate-u : gate_in u.trail m ≡ Some (gate_with (count_of v.trail m) false)
  gate-u = to-u (λ (t : Trail). gate_in t m) (λ t c w. refl) ∙ found.gate

  alive-u : (bits_in u.trail child).deprecated ≡ false
  alive-u = lives-u child ∙ live-bits v.trail (child_of v.trail m key) child found.live

  -- the child may die
  pub child-may : IsSomeAnd (gate_in u.trail child) (MayDie u.trail child)
  child-may = subst (λ (o : Option GateWord). IsSomeAnd o (MayDie u.trail child)) (sym child-u.gate) (λ shared top. has-parent (parent_in u.trail child) child-u.parent top)
    where
      has-parent : (o : Option (Option ℕ)) → o ≡ Some (Some m) → o ≡ Some None → ⊥
      has-parent o x y = cc

  -- and then the child died
  module _ (keys : SameKeysAreEqual) (w : View) (tree_u : IsTree u.trail) (dies : IsDeprecated u w child) where
    to-w : {T : Type 0} (reading : Trail → T) → ((t : Trail) (c : ℕ) (b : MapBits) → reading (Bits c b ∷ t) ≡ reading t) → reading w.trail ≡ reading v.trail
    to-w reading h = dies-same u.trail child u.trail w.trail reading h dies.writes ∙ to-u reading h

    view-w : w ≡ record v { trail = w.trail }
    view-w = dies.view ∙ ap (λ (x : View). record x { trail = w.trail }) marks

    pub used-w : w.used ≡ v.used
    used-w = ap (λ (x : View). x.used) view-w

    pub shape-w : w.shape ≡ v.shape
    shape-w = ap (λ (x : View). x.shape) view-w

    pub grows-w : IsSomeAnd (gate_in v.trail m) MayGrow → IsSomeAnd (gate_in w.trail m) MayGrow
    grows-w h = subst (λ (o : Option GateWord). IsSomeAnd o MayGrow) (sym (to-w (λ (t : Trail). gate_in t m) (λ t c b. refl))) h

    pub count-w : count_of w.trail m ≡ count_of v.trail m
    count-w = to-w (λ (t : Trail). count_of t m) (λ t c b. refl)

    pub live-w : (bits_in v.trail m).deprecated ≡ false → (bits_in w.trail m).deprecated ≡ false
    live-w live = ap (λ (b : MapBits). b.deprecated) (spared u w m child (gate_with (count_of v.trail m) false) key tree_u gate-u child-u dies) ∙ (lives-u m ∙ live)

    pub lacks-w : (n name : ℕ) → LacksName v.trail m n name → LacksName w.trail m n name
    lacks-w n name h = kept-after (λ (t : Trail). LacksName t m n name) step dies.writes (subst (λ (t : Trail). LacksName t m n name) (sym trail-u) (marked-keeps (λ (t : Trail). LacksName t m n name) v.trail m h h))
      where
        step : (t : Trail) (y : Write) → Deprecates u.trail child t y → LacksName t m n name → LacksName (y ∷ t) m n name
        step t (Bits c b) e q = q
        step t _ e q = absurd e

    pub dead-w : IsSomeAnd (gate_in v.trail m) MayGrow → All (IsDeadFor w.trail (Some key)) (links_in w.trail m)
    dead-w grows = found-dead keys w.trail m key dies.tree (grows-w grows) (freed keys u w m child (gate_with (count_of v.trail m) false) key tree_u gate-u child-u alive-u dies)

    pub there-w : (c : Class) → IsClassThere v.shape v.trail c → IsClassThere w.shape w.trail c
    there-w (Of x) h = (subst (λ (s : Shape). x < s.maps) (sym shape-w) h.0, subst (λ (o : Option GateWord). IsSome o) (sym (to-w (λ (t : Trail). gate_in t x) (λ t c b. refl))) h.1)
    there-w Any h = tt

    pub under-dead : (x : ℕ) → IsUnder v.trail child x → IsSome (gate_in v.trail x) → IsTrue (bits_in w.trail x).deprecated
    under-dead x under there =
        let gate = some-of (gate_in v.trail x) there in
        let open_w : gate_in w.trail x ≡ Some gate.0 = to-w (λ (t : Trail). gate_in t x) (λ t c b. refl) ∙ gate.1 in
        let leads : ancestor w.trail under.depth x ≡ Some child = ancestor-same v.trail w.trail (λ y. to-w (λ (t : Trail). parent_in t y) (λ t c b. refl)) under.depth x ∙ under.leads in
        (rises-to w.trail x child under.depth gate.0 dies.tree open_w leads).falls dies.dead

    -- the writes by which it died
    pub died-by : (Dies : ℕ → Type 0) (G : ℕ → Detail → Type 0) → ((x : ℕ) → IsUnder v.trail child x → Dies x) → Adds (Reshapes v.used Dies G) u.trail w.trail
    died-by Dies G under = adds-wider wide dies.writes
      where
        wide : (t : Trail) (y : Write) → Deprecates u.trail child t y → Reshapes v.used Dies G t y
        wide t (Bits x b) e =
            inr (under x (record { depth = e.0.depth; leads = sym (ancestor-same v.trail u.trail (λ y. to-u (λ (t : Trail). parent_in t y) (λ t c b. refl)) e.0.depth x) ∙ e.0.leads }), ap (λ (y : MapBits). y.deprecated) e.1)
        wide t _ e = absurd e

    -- the maps that are unstable once a child is made
    pub marks-instead : (D : ℕ → Type 0) (used : Shape) (x : View) → ((y : ℕ) → IsUnder v.trail child y → D y) → Adds (MakesMap used (Some m)) w.trail x.trail → MarksOnly m D v.trail x.trail
    marks-instead D used x under made = λ y stable now.
        marks-made D used m y w.trail x.trail made
        (marks-died D u.trail child m y u.trail w.trail (λ c e. under c (record { depth = e.depth; leads = sym (ancestor-same v.trail u.trail (λ z. to-u (λ (t : Trail). parent_in t z) (λ t i b. refl)) e.depth c) ∙ e.leads })) dies.writes
        (subst (λ (t : Trail). IsTrue (bits_in t y).unstable → (y ≡ m) ⊎ IsDead D t y) (sym trail-u) (marks-made D v.used m y v.trail (marked v.trail m) (marked-writes v.used v.trail m) (λ was. absurd (true≢false (sym was ∙ stable)))))) now

-- What is outgrown

pub outgrown-is : (t : Trail) (known : Option ℕ) (child n : ℕ) (d : Detail) → known ≡ Some child → fit_of t known n d ≡ None → (x : ℕ) → IsUnder t child x → IsOutgrown t known n d x
outgrown-is t known child n d is none x under = record {
  child = child;
  is = is;
  outgrown = not-fit (joins_in_place (detail_at t child n) (Some d)) child (ap (λ (o : Option ℕ). fit_of t o n d) (sym is) ∙ none);
  under = under;
}

pub outgrown-under : (t : Trail) (known : Option ℕ) (child n : ℕ) (d : Detail) (x : ℕ) → known ≡ Some child → IsOutgrown t known n d x → IsUnder t child x
outgrown-under t known child n d x is h = let same : h.child ≡ child = some-same h.child child known h.is is in subst (λ (c : ℕ). IsUnder t c x) same h.under
  where
    some-same : (a b : ℕ) (o : Option ℕ) → o ≡ Some a → o ≡ Some b → a ≡ b
    some-same a b o p q = cc

-- where there is no live child, nothing is outgrown
pub outgrown-none : (t : Trail) (known : Option ℕ) (n : ℕ) (d : Detail) (x : ℕ) → known ≡ None → IsOutgrown t known n d x → ⊥
outgrown-none t known n d x none h = let is : None ≡ Some h.child = sym none ∙ h.is in cc

-- the join that the new child admits
pub joins-known : (t : Trail) (known : Option ℕ) (child n : ℕ) (own d joined : Detail) → known ≡ Some child → detail_at t child n ≡ Some own → joined ≡ joined_detail own d → joined ≡ child_detail t known n d
joins-known t known child n own d joined is at value = value ∙ (ap (λ (o : Option Detail). joined_with o d) (sym at) ∙ ap (λ (o : Option ℕ). child_detail t o n d) (sym is))

-- What fits

-- the live child that is there fits
pub record IsFitting (t : Trail) (m c : ℕ) (key : Key) (d : Detail) : Type 0 where
  pub is : fitting_child t m key d ≡ Some c
  pub found : IsFound t m c key
  pub fits : IsTrue (joins_in_place (detail_at t c (count_of t m)) (Some d))
  pub wanted : asked_detail t m key d ≡ joined_with (detail_at t c (count_of t m)) d

pub fitting-at : (v a b : View) (m n : ℕ) (key : Key) (d : Detail) (known fit : Option ℕ) → a ≡ v → b ≡ v → n ≡ count_of v.trail m → known ≡ live_child a.trail m key → fit ≡ fit_of b.trail known n d → fit ≡ fitting_child v.trail m key d
fitting-at v a b m n key d known fit one other count live is =
    is ∙ (ap (λ (x : View). fit_of x.trail known n d) other ∙ (ap (λ (k : ℕ). fit_of v.trail known k d) count ∙ ap (λ (o : Option ℕ). fit_of v.trail o (count_of v.trail m) d) (live ∙ ap (λ (x : View). live_child x.trail m key) one)))

pub fitting-found : SameKeysAreEqual → (v : View) (m c : ℕ) (key : Key) (d : Detail) → fitting_child v.trail m key d ≡ Some c → IsTree v.trail → IsSomeAnd (gate_in v.trail m) MayGrow → IsFitting v.trail m c key d
fitting-found keys v m c key d is tree grows = by (live_child v.trail m key) refl is
  where
    n : ℕ
    n = count_of v.trail m

    fit-by : (x : ℕ) (b : Bool) → live_child v.trail m key ≡ Some x → joins_in_place (detail_at v.trail x (count_of v.trail m)) (Some d) ≡ b → cond b (Some x) None ≡ Some c → IsFitting v.trail m c key d
    fit-by x true e f here =
        let same : x ≡ c = cc in
        let live : live_child v.trail m key ≡ Some c = e ∙ ap (λ (y : ℕ). Some y) same in
        record {
          is = is;
          found = found-at keys v v m c key (live_child v.trail m key) refl refl live tree grows;
          fits = subst (λ (y : ℕ). IsTrue (joins_in_place (detail_at v.trail y (count_of v.trail m)) (Some d))) same f;
          wanted = ap (λ (o : Option ℕ). child_detail v.trail o (count_of v.trail m) d) live;
        }
    fit-by x false e f here = let n : ⊥ = cc in absurd n

    by : (o : Option ℕ) → live_child v.trail m key ≡ o → fit_of v.trail o (count_of v.trail m) d ≡ Some c → IsFitting v.trail m c key d
    by (Some x) e here = fit-by x (joins_in_place (detail_at v.trail x (count_of v.trail m)) (Some d)) e refl here
    by None e here = let n : ⊥ = cc in absurd n

-- nothing is outgrown where the live child fits
pub fitting-whole : (t : Trail) (m c : ℕ) (key : Key) (d : Detail) (x : ℕ) → IsFitting t m c key d → OutgrownFor t m key d x → ⊥
fitting-whole t m c key d x it out =
    let same : out.child ≡ c = some-same out.child c (live_child t m key) out.is it.found.live in
    no (joins_in_place (detail_at t c (count_of t m)) (Some d)) it.fits (subst (λ (y : ℕ). joins_in_place (detail_at t y (count_of t m)) (Some d) ≡ false) same out.outgrown)
  where
    some-same : (a b : ℕ) (o : Option ℕ) → o ≡ Some a → o ≡ Some b → a ≡ b
    some-same a b o p q = cc

    no : (b : Bool) → IsTrue b → b ≡ false → ⊥
    no b one is = true≢false (sym one ∙ is)

-- whether a child fits
pub fit-is : (t : Trail) (known : Option ℕ) (child n : ℕ) (own d : Detail) (b : Bool) → known ≡ Some child → detail_at t child n ≡ Some own → in_place_of own.rep (join_of own.rep d.rep) ≡ b → cond b (Some child) None ≡ fit_of t known n d
fit-is t known child n own d b is at fits =
    sym (ap (λ (o : Option ℕ). fit_of t o n d) is ∙ (ap (λ (o : Option Detail). cond (joins_in_place o (Some d)) (Some child) None) at ∙ ap (λ (x : Bool). cond x (Some child) None) fits))
