-- A map that is cut: what its owner's death leaves.
use Rattle.std.proofs.Common.{◌≡◌, ℕ, zero, suc, ◌<◌, ◌≤◌, Bool, true, false, cond, eqb, eqb-true, Option, Some, None, IsSome, ◌∷◌, refl, sym, ap, ◌∙◌, subst, arith, true≢false}
use Rattle.std.specs.Prelude.{IsTrue, IsSomeAnd}
use Rattle.hc_layout.specs.declared.words.GateWord.{GateWord}
use Rattle.hc_layout.specs.declared.words.MapBits.{MapBits}
use Rattle.hc_value.specs.declared.key.Key.{Key}
use Rattle.hc_heap.specs.Writes.{Write, Trail, Bits}
use Rattle.hc_heap.specs.Readings.{gate_in, parent_in, bits_in, owner_in, detail_in}
use Rattle.hc_heap.specs.Kept.{Adds, UnusedSaysNothing}
use Rattle.hc_heap.specs.Lawful.{IsField}
use Rattle.hc_heap.specs.declared.kind.Kind.TheVariants.{OwnerOfField}
use Rattle.hc_heap.specs.Frames.{adds-none, adds-wider, same-after}
use Rattle.hc_heap.specs.States.{View, IsHeap}
use Rattle.hc_descs.specs.Entries.{detail_of, field_at, key_at}
use Rattle.hc_tree.specs.Tree.{IsTree, gate_with}
use Rattle.hc_tree.specs.Growth.{live_child}
use Rattle.hc_tree.specs.Walking.{above, ancestor, parent_of}
use Rattle.hc_tree.specs.Dying.{Deprecates, IsDead, IsDeprecated, IsHigh, IsOwnerOf, IsUnder, LiveStandHigh, MayDie, OwnerIsFreed, OwnersStand, ParentIsSpared}
use Rattle.hc_tree.specs.Frames.{dies-same, kept-after}
use Rattle.hc_update.specs.Renewing.{AreDead, Cuts, IsChild, IsCut, IsDoomed}

pub some-of : {T : Type 0} (o : Option T) → IsSome o → (v : T) × (o ≡ Some v)
some-of (Some v) h = (v, refl)
some-of None h = let n : ⊥ = cc in absurd n

pub same-some : {T : Type 0} (a b : T) (o : Option T) → o ≡ Some a → o ≡ Some b → a ≡ b
same-some a b o p q = cc

pub field-used : UnusedSaysNothing → (v : View) → IsHeap v → (f : ℕ) → IsField v.trail f → f < v.used.fields
field-used unused v heap f made =
    let o = some-of (owner_in v.trail f) made.owner in
    below f v.used.fields (λ le. let none : owner_in v.trail f ≡ None = unused v.used v.trail OwnerOfField f heap.used le in let n : None ≡ Some o.0 = sym none ∙ o.1 in let z : ⊥ = cc in z)
  where
    below : (a b : ℕ) → (b ≤ a → ⊥) → a < b
    below a b h = omega (arith, h)

pub of-same : (a b : Trail) (o : Option ℕ) → IsSomeAnd o (λ f. detail_in b f ≡ detail_in a f) → detail_of b o ≡ detail_of a o
of-same a b (Some f) same = same
of-same a b None same = absurd same

pub and-then : (P Q : ℕ → Type 0) (o : Option ℕ) → IsSomeAnd o P → ((v : ℕ) → P v → Q v) → IsSomeAnd o Q
and-then P Q (Some v) h f = f v h
and-then P Q None h f = absurd h

-- a reading that no bits change is the same after maps were cut
pub cuts-same : {T : Type 0} (top : Trail) (m n i : ℕ) (a b : Trail) (reading : Trail → T) → ((t : Trail) (c : ℕ) (w : MapBits) → reading (Bits c w ∷ t) ≡ reading t) → Adds (Cuts top m n i) a b → reading b ≡ reading a
cuts-same top m n i a b reading h adds = same-after reading step adds
  where
    step : (t : Trail) (w : Write) → Cuts top m n i t w → reading (w ∷ t) ≡ reading t
    step t (Bits c w) e = h t c w
    step t _ e = absurd e

-- what stands above a map is what stood there
pub ancestor-same : (a b : Trail) → ((x : ℕ) → parent_in b x ≡ parent_in a x) → (depth c : ℕ) → ancestor b depth c ≡ ancestor a depth c
ancestor-same a b same zero c = refl
ancestor-same a b same (suc d) c = ap (above b) (ancestor-same a b same d c) ∙ above-same (ancestor a d c)
  where
    above-same : (o : Option ℕ) → above b o ≡ above a o
    above-same (Some x) = ap parent_of (same x)
    above-same None = refl

not-dead : (b : Bool) → (b ≡ false → ⊥) → IsTrue b
not-dead true h = refl
not-dead false h = absurd (h refl)

pub not-live : (b : Bool) → (IsTrue b → ⊥) → b ≡ false
not-live true h = absurd (h refl)
not-live false h = refl

-- a map that has nothing above it has nothing further up
no-above : (t : Trail) (x : ℕ) → parent_of (parent_in t x) ≡ None → (depth : ℕ) → ancestor t (suc depth) x ≡ None
no-above t x none zero = none
no-above t x none (suc d) = ap (above t) (no-above t x none d)

-- a map under a child is a child
child-under : (t : Trail) (a p x : ℕ) → parent_in t a ≡ Some (Some p) → (depth : ℕ) → ancestor t depth x ≡ Some a → IsChild t x
child-under t a p x parent zero leads = let same : x ≡ a = cc in (p, ap (parent_in t) same ∙ parent)
child-under t a p x parent (suc d) leads = by (parent_in t x) refl
  where
    no : parent_of (parent_in t x) ≡ None → IsChild t x
    no none = let n : None ≡ Some a = sym (no-above t x none d) ∙ leads in let f : ⊥ = cc in absurd f

    by : (o : Option (Option ℕ)) → parent_in t x ≡ o → IsChild t x
    by (Some (Some q)) is = (q, is)
    by (Some None) is = no (ap parent_of is)
    by None is = no (ap parent_of is)

-- the map that the words name as the owner is the owner
pub owner-here : OwnersStand → (v : View) (m n i field owner : ℕ) → IsHeap v → IsTree v.trail → gate_in v.trail m ≡ Some (gate_with n false) → i < n → field_at v.trail m i ≡ Some field → owner_in v.trail field ≡ Some owner → IsOwnerOf v.trail m n i owner
owner-here law v m n i field owner heap tree gate lt is_field owns =
    let it = law v.shape v.trail m n i heap.lawful tree gate lt in
    let fields : it.1.field ≡ field = same-some it.1.field field (field_at v.trail m i) it.1.is_field is_field in
    let owners : it.0 ≡ owner = same-some it.0 owner (owner_in v.trail field) (ap (owner_in v.trail) (sym fields) ∙ it.1.owner) owns in
    subst (λ (a : ℕ). IsOwnerOf v.trail m n i a) owners it.1

pub inner : {T : Type 0} (o : Option (Option T)) (u : Option T) (p : T) → o ≡ Some u → o ≡ Some (Some p) → u ≡ Some p
inner o u p a b = cc

pub inmost : {T : Type 0} (u : Option T) (p q : T) → u ≡ Some p → u ≡ Some q → p ≡ q
inmost u p q a b = cc

-- nothing is cut of a map that has no more entries
pub cut-none : (v : View) (m n i : ℕ) → IsHeap v → IsTree v.trail → gate_in v.trail m ≡ Some (gate_with n false) → (bits_in v.trail m).deprecated ≡ false → i ≡ n → IsCut v v m n i m
cut-none v m n i heap tree gate live same = record {
  view = refl;
  writes = adds-none v.trail;
  dead = λ x doomed there. let lt = doomed.within in absurd (omega (arith, lt, same));
  gate = subst (λ (x : ℕ). gate_in v.trail m ≡ Some (gate_with x false)) (sym same) gate;
  live = live;
  prototype = refl;
  entries = record { keys = λ k lt. refl; fields = λ k lt. refl };
  ends = λ key lt is. absurd (omega (arith, lt, same));
  whole = λ is. refl;
  same = λ is. refl;
  children = λ x doomed. let lt = doomed.within in absurd (omega (arith, lt, same));
  tree = tree;
  heap = heap;
}

module _ (high : LiveStandHigh) (v : View) (m n i a : ℕ) (tree : IsTree v.trail) (gate : gate_in v.trail m ≡ Some (gate_with n false)) (live : (bits_in v.trail m).deprecated ≡ false) (lt : i < n) (own : IsOwnerOf v.trail m n i a) where
  its-high : IsHigh v.trail m a
  its-high = high v.trail m a own.depth (gate_with n false) tree gate live own.high

  -- a map that owns the field may die
  pub owner-may : IsSomeAnd (gate_in v.trail a) (MayDie v.trail a)
  owner-may = subst (λ (o : Option GateWord). IsSomeAnd o (MayDie v.trail a)) (sym own.child.gate) (λ shared top. has-parent (parent_in v.trail a) own.child.parent top)
    where
      has-parent : (o : Option (Option ℕ)) → o ≡ Some (Some own.parent) → o ≡ Some None → ⊥
      has-parent o x y = cc

  parent-live : (bits_in v.trail own.parent).deprecated ≡ false
  parent-live = not-live (bits_in v.trail own.parent).deprecated (λ dead. true≢false (sym (own.child.deprecated dead) ∙ its-high.live))

  module _ (spared : ParentIsSpared) (freed : OwnerIsFreed) (w : View) (it : IsDeprecated v w a) where
    parent-same : (x : ℕ) → parent_in w.trail x ≡ parent_in v.trail x
    parent-same x = dies-same v.trail a v.trail w.trail (λ (t : Trail). parent_in t x) (λ t c b. refl) it.writes

    doomed : (x : ℕ) → IsUnder v.trail a x → IsDoomed v.trail m n i x
    doomed x under = record { within = lt; field = own.field; owner = a; is_field = own.is_field; owns = own.owner; under = under }

    cuts : (t : Trail) (w : Write) → Deprecates v.trail a t w → Cuts v.trail m n i t w
    cuts t (Bits x b) e = (doomed x e.0, e.1)
    cuts t _ e = absurd e

    all-dead : AreDead v.trail w.trail m n i
    all-dead x h there =
        let fields : h.field ≡ own.field = same-some h.field own.field (field_at v.trail m i) h.is_field own.is_field in
        let owners : h.owner ≡ a = same-some h.owner a (owner_in v.trail own.field) (ap (owner_in v.trail) (sym fields) ∙ h.owns) own.owner in
        let g = some-of (gate_in v.trail x) there in
        let open_now : gate_in w.trail x ≡ Some g.0 = dies-same v.trail a v.trail w.trail (λ (t : Trail). gate_in t x) (λ t c b. refl) it.writes ∙ g.1 in
        let leads : ancestor w.trail h.under.depth x ≡ Some a = ancestor-same v.trail w.trail parent-same h.under.depth x ∙ h.under.leads ∙ ap (λ (y : ℕ). Some y) owners in
        not-dead (bits_in w.trail x).deprecated (λ alive. true≢false (sym it.dead ∙ (high w.trail x a h.under.depth g.0 it.tree open_now alive leads).live))

    pub cut-is : IsCut v w m n i own.parent
    cut-is = record {
      view = it.view;
      writes = adds-wider cuts it.writes;
      dead = all-dead;
      gate = dies-same v.trail a v.trail w.trail (λ (t : Trail). gate_in t own.parent) (λ t c b. refl) it.writes ∙ own.gate;
      live = ap (λ (b : MapBits). b.deprecated) (spared v w own.parent a (gate_with i false) own.key tree own.gate own.child parent-live it) ∙ parent-live;
      prototype = sym own.child.prototype ∙ its-high.prototype;
      entries = record {
        keys = λ k below. sym (own.child.entries.keys k below) ∙ own.entries.keys k (omega (arith, below));
        fields = λ k below. sym (own.child.entries.fields k below) ∙ own.entries.fields k (omega (arith, below));
      };
      ends = λ key below is.
          let same : own.key ≡ key = same-some own.key key (key_at v.trail m i) (sym (own.entries.keys i (omega arith)) ∙ own.child.last) is in
          subst (λ (k : Key). live_child w.trail own.parent k ≡ None) same (freed v w own.parent a (gate_with i false) own.key tree own.gate own.child its-high.live it);
      whole = λ is. absurd (omega (arith, is, lt));
      same = λ is. absurd (omega (arith, is, lt));
      children = λ x h.
          let fields : h.field ≡ own.field = same-some h.field own.field (field_at v.trail m i) h.is_field own.is_field in
          let owners : h.owner ≡ a = same-some h.owner a (owner_in v.trail own.field) (ap (owner_in v.trail) (sym fields) ∙ h.owns) own.owner in
          child-under v.trail a own.parent x own.child.parent h.under.depth (h.under.leads ∙ ap (λ (y : ℕ). Some y) owners);
      tree = it.tree;
      heap = it.heap;
    }

-- a map that a cut made unstable is one that died
pub cut-linked : (v w : View) (m n i x : ℕ) → Adds (Cuts v.trail m n i) v.trail w.trail → (bits_in v.trail x).unstable ≡ false → IsTrue (bits_in w.trail x).unstable → IsDead (IsDoomed v.trail m n i) w.trail x
cut-linked v w m n i x adds stable = kept-after Marked step adds (λ now. absurd (true≢false (sym now ∙ stable)))
  where
    Marked : Trail → Type 0
    Marked t = IsTrue (bits_in t x).unstable → IsDead (IsDoomed v.trail m n i) t x

    step-by : (t : Trail) (c : ℕ) (b : MapBits) (test : Bool) → eqb c x ≡ test → IsDoomed v.trail m n i c → IsTrue b.deprecated → (IsTrue (bits_in t x).unstable → IsDoomed v.trail m n i x × IsTrue (bits_in t x).deprecated)
        → IsTrue (cond test b (bits_in t x)).unstable → IsDoomed v.trail m n i x × IsTrue (cond test b (bits_in t x)).deprecated
    step-by t c b true is here dead before now = (subst (λ (y : ℕ). IsDoomed v.trail m n i y) (eqb-true c x is) here, dead)
    step-by t c b false is here dead before now = before now

    step : (t : Trail) (y : Write) → Cuts v.trail m n i t y → Marked t → Marked (y ∷ t)
    step t (Bits c b) e before = λ now. step-by t c b (eqb c x) refl e.0 (ap (λ (z : MapBits). z.deprecated) e.1) before now
    step t _ e before = absurd e
