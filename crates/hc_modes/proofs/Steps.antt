-- The steps of the tree and of objects: the maps that they open, and what they leave as it was.
use Rattle.std.proofs.Common.{◌≡◌, ℕ, ◌+◌, ◌<◌, Bool, true, false, cond, eqb, eqb-true, eq-eqb, ◌∷◌, Option, Some, None, refl, sym, ap, ◌∙◌, subst, arith, true≢false}
use Rattle.std.specs.Prelude.{IsSomeAnd, IsTrue}
use Rattle.hc_layout.specs.declared.shape.Shape.{Shape}
use Rattle.hc_layout.specs.declared.words.GateWord.{GateWord}
use Rattle.hc_layout.specs.declared.words.MapBits.{MapBits}
use Rattle.hc_layout.specs.declared.words.RootWord.{RootWord}
use Rattle.hc_layout.specs.declared.words.StoreWord.{StoreWord}
use Rattle.hc_value.specs.declared.field.Detail.{Detail}
use Rattle.hc_value.specs.declared.key.Key.{Key}
use Rattle.hc_heap.specs.Writes.{Write, Trail, Gate, Bits, ObjectMap, Root, Store, Slot}
use Rattle.hc_tree.specs.Details.{Reshapes}
use Rattle.hc_heap.specs.Readings.{gate_in, parent_in, prototype_in, bits_in, root_in, owner_in, detail_in}
use Rattle.hc_heap.specs.Lawful.{IsOwnMap}
use Rattle.hc_heap.specs.Kept.{Adds, UnusedSaysNothing}
use Rattle.hc_heap.specs.Frames.{same-after}
use Rattle.hc_heap.specs.States.{View, IsHeap}
use Rattle.hc_heap.specs.declared.kind.Kind.TheVariants.{BitsOfMap}
use Rattle.hc_descs.specs.Entries.{field_at, detail_of}
use Rattle.hc_tree.specs.Tree.{IsChildFor, gate_with}
use Rattle.hc_tree.specs.Kept.{TreeIsSame}
use Rattle.hc_tree.specs.Growth.{MakesMap, EndsWith, marked}
use Rattle.hc_tree.specs.Copying.{IsPrivateCopy}
use Rattle.hc_modes.specs.Changes.{IsGrown, OpensNoRoot}
use Rattle.hc_slots.specs.Cases.{some-is, same-or, cond-other}
use Rattle.hc_modes.proofs.Owning.{open-used}

-- What a step leaves of the tree

pub slot-tree : (t : Trail) (s w : ℕ) → TreeIsSame t (Slot s w ∷ t)
slot-tree t s w = record { links = λ m. refl; gates = λ m. refl; lives = λ m. refl; roots = λ o. refl; details = λ f. refl; arrays = λ n. refl; bases = λ n. refl; keys = λ e. refl; references = λ e. refl }

pub move-tree : (t : Trail) (o : ℕ) (h : Option ℕ) → TreeIsSame t (ObjectMap o h ∷ t)
move-tree t o h = record { links = λ m. refl; gates = λ m. refl; lives = λ m. refl; roots = λ p. refl; details = λ f. refl; arrays = λ n. refl; bases = λ n. refl; keys = λ e. refl; references = λ e. refl }

pub store-tree : (t : Trail) (o : ℕ) (w : StoreWord) → TreeIsSame t (Store o w ∷ t)
store-tree t o w = record { links = λ m. refl; gates = λ m. refl; lives = λ m. refl; roots = λ p. refl; details = λ f. refl; arrays = λ n. refl; bases = λ n. refl; keys = λ e. refl; references = λ e. refl }

-- an object is made a prototype
pub proto-tree : (t : Trail) (o : ℕ) (r : RootWord) → r.map ≡ (root_in t o).map → TreeIsSame t (Root o r ∷ t)
proto-tree t o r is = record { links = λ m. refl; gates = λ m. refl; lives = λ m. refl; roots = λ p. by p (eqb o p) refl; details = λ f. refl; arrays = λ n. refl; bases = λ n. refl; keys = λ e. refl; references = λ e. refl }
  where
    by : (p : ℕ) (b : Bool) → eqb o p ≡ b → (cond b r (root_in t p)).map ≡ (root_in t p).map
    by p true e = is ∙ ap (λ (x : ℕ). (root_in t x).map) (eqb-true o p e)
    by p false e = refl

-- The maps that a step opens

gate-by : (used : Shape) (p : Option ℕ) (m : ℕ) → m < used.maps → (t : Trail) (w : Write) → MakesMap used p t w → gate_in (w ∷ t) m ≡ gate_in t m
gate-by used p m lt t (Gate i g) e = cond-other i m (Some g) (gate_in t m) (λ is. omega (arith, lt, e, is))
gate-by used p m lt t _ e = refl

pub bits-by : (used : Shape) (m : ℕ) (t : Trail) (w : Write) → MakesMap used None t w → bits_in (w ∷ t) m ≡ bits_in t m
bits-by used m t (Bits i b) e = let n : None ≡ Some i = e.0 in let f : ⊥ = cc in absurd f
bits-by used m t _ e = refl

reshape-gate : (used : Shape) (Dies : ℕ → Type 0) (Gets : ℕ → Detail → Type 0) (m : ℕ) → m < used.maps → (t : Trail) (w : Write) → Reshapes used Dies Gets t w → gate_in (w ∷ t) m ≡ gate_in t m
reshape-gate used Dies Gets m lt t (Gate i g) e = cond-other i m (Some g) (gate_in t m) (λ is. omega (arith, lt, e, is))
reshape-gate used Dies Gets m lt t _ e = refl

-- after writes that leave the gates of the maps that were handed out
module _ (P : Trail → Write → Type 0) (unused : UnusedSaysNothing) (old new : View) (heap : IsHeap new) (adds : Adds P old.trail new.trail) (gates : (m : ℕ) → m < old.used.maps → (t : Trail) (w : Write) → P t w → gate_in (w ∷ t) m ≡ gate_in t m) where
  gate-same : (m : ℕ) → m < old.used.maps → gate_in new.trail m ≡ gate_in old.trail m
  gate-same m lt = same-after (λ (t : Trail). gate_in t m) (gates m lt) adds

  opened-new : (m : ℕ) (g : GateWord) → gate_in old.trail m ≡ None → gate_in new.trail m ≡ Some g → m < old.used.maps → ⊥
  opened-new m g none gate lt = let n : None ≡ Some g = sym none ∙ sym (gate-same m lt) ∙ gate in let f : ⊥ = cc in f

  -- no map was handed out
  none-opens : new.used.maps ≡ old.used.maps → OpensNoRoot old.trail new.trail
  none-opens same m g none gate shared parent = opened-new m g none gate (subst (λ (n : ℕ). m < n) same (open-used unused new heap m g gate))

  -- one map was handed out, which is private or a child
  one-opens : new.used.maps ≡ old.used.maps + 1 → ((g : GateWord) → gate_in new.trail old.used.maps ≡ Some g → g.is_private ≡ false → parent_in new.trail old.used.maps ≡ Some None → ⊥) → OpensNoRoot old.trail new.trail
  one-opens more fine m g none gate shared parent = same-or m old.used.maps ⊥
      (λ is. fine g (subst (λ (x : ℕ). gate_in new.trail x ≡ Some g) is gate) shared (subst (λ (x : ℕ). parent_in new.trail x ≡ Some None) is parent))
      (λ other. opened-new m g none gate (let lt = open-used unused new heap m g gate in omega (arith, lt, more, other)))

module _ (unused : UnusedSaysNothing) (old new : View) (p : Option ℕ) (heap : IsHeap new) (adds : Adds (MakesMap old.used p) old.trail new.trail) where
  pub opens-none : new.used.maps ≡ old.used.maps → OpensNoRoot old.trail new.trail
  opens-none = none-opens (MakesMap old.used p) unused old new heap adds (gate-by old.used p)

  pub opens-one : new.used.maps ≡ old.used.maps + 1 → ((g : GateWord) → gate_in new.trail old.used.maps ≡ Some g → g.is_private ≡ false → parent_in new.trail old.used.maps ≡ Some None → ⊥) → OpensNoRoot old.trail new.trail
  opens-one = one-opens (MakesMap old.used p) unused old new heap adds (gate-by old.used p)

module _ (unused : UnusedSaysNothing) (old new : View) (Dies : ℕ → Type 0) (Gets : ℕ → Detail → Type 0) (heap : IsHeap new) (adds : Adds (Reshapes old.used Dies Gets) old.trail new.trail) where
  pub reshapes-gate : (m : ℕ) → m < old.used.maps → gate_in new.trail m ≡ gate_in old.trail m
  reshapes-gate = gate-same (Reshapes old.used Dies Gets) unused old new heap adds (reshape-gate old.used Dies Gets)

  pub reshapes-none : new.used.maps ≡ old.used.maps → OpensNoRoot old.trail new.trail
  reshapes-none = none-opens (Reshapes old.used Dies Gets) unused old new heap adds (reshape-gate old.used Dies Gets)

  pub reshapes-one : new.used.maps ≡ old.used.maps + 1 → ((g : GateWord) → gate_in new.trail old.used.maps ≡ Some g → g.is_private ≡ false → parent_in new.trail old.used.maps ≡ Some None → ⊥) → OpensNoRoot old.trail new.trail
  reshapes-one = one-opens (Reshapes old.used Dies Gets) unused old new heap adds (reshape-gate old.used Dies Gets)

-- the child of a map isn't a root
pub child-no-root : (t : Trail) (m c : ℕ) → parent_in t c ≡ Some (Some m) → parent_in t c ≡ Some None → ⊥
child-no-root t m c is e = let n : Some (Some m) ≡ Some None = sym is ∙ e in let f : ⊥ = cc in f

-- a private map isn't one either
pub private-no-root : (t : Trail) (c n : ℕ) (g : GateWord) → gate_in t c ≡ Some (gate_with n true) → gate_in t c ≡ Some g → g.is_private ≡ false → ⊥
private-no-root t c n g is e shared = true≢false (ap (λ (x : GateWord). x.is_private) (some-is (gate_with n true) g (sym is ∙ e)) ∙ shared)

-- a private copy is stable
pub own-map : UnusedSaysNothing → (old : View) (new : Trail) (n : ℕ) → IsHeap old → Adds (MakesMap old.used None) old.trail new → gate_in new old.used.maps ≡ Some (gate_with n true) → IsOwnMap new old.used.maps
own-map unused old new n heap adds gate = record {
  private = subst (λ (g : Option GateWord). IsSomeAnd g (λ x. IsTrue x.is_private)) (sym gate) refl;
  stable = ap (λ (b : MapBits). b.unstable)
      (same-after (λ (t : Trail). bits_in t old.used.maps) (bits-by old.used old.used.maps) adds ∙ unused old.used old.trail BitsOfMap old.used.maps heap.used (omega arith));
}

-- a marked map is unstable
pub marked-unstable : (t : Trail) (m : ℕ) → IsTrue (bits_in (marked t m) m).unstable
marked-unstable t m = by (bits_in t m).unstable refl
  where
    by : (b : Bool) → (bits_in t m).unstable ≡ b → IsTrue (bits_in (cond b t (Bits m (record { unstable = true; deprecated = (bits_in t m).deprecated }) ∷ t)) m).unstable
    by true e = e
    by false e = ap (λ (c : Bool). let x : MapBits = record { unstable = true; deprecated = (bits_in t m).deprecated } in (cond c x (bits_in t m)).unstable) (eq-eqb m m refl)

-- The map that an object grows into

ends-detail : (t : Trail) (f : Option ℕ) (c : ℕ) (d : Detail) → IsSomeAnd f (λ x. (owner_in t x ≡ Some c) × (detail_in t x ≡ Some d)) → detail_of t f ≡ Some d
ends-detail t (Some f) c d h = h.1
ends-detail t None c d h = absurd h

-- a child
pub grown-child : (t : Trail) (m c : ℕ) (g : GateWord) (key : Key) (d : Detail) → gate_in t m ≡ Some g → IsSomeAnd (gate_in t m) (λ x. IsChildFor t m x c key) → EndsWith t c g.entries key d → IsGrown t m c g.entries key d
grown-child t m c g key d is child ends =
    let here : IsChildFor t m g c key = subst (λ (x : Option GateWord). IsSomeAnd x (λ y. IsChildFor t m y c key)) is child in
    record {
      gate = gate_with (g.entries + 1) false;
      is_open = here.gate;
      count = refl;
      unlocked = refl;
      prototype = here.prototype;
      entries = here.entries;
      last = ends.last;
      admits = ends-detail t (field_at t c g.entries) c d ends.field;
    }

-- a private copy with one entry more
pub grown-copy : (t : Trail) (p : Option ℕ) (m c n first : ℕ) (key : Key) (d : Detail) → prototype_in t m ≡ Some p → IsPrivateCopy false (Some (key, d)) p t c m n first → IsGrown t m c n key d
grown-copy t p m c n first key d is copy = record {
  gate = gate_with (n + 1) true;
  is_open = copy.gate;
  count = refl;
  unlocked = refl;
  prototype = copy.prototype ∙ sym is;
  entries = copy.entries;
  last = copy.last.last;
  admits = ends-detail t (field_at t c n) c d copy.last.field;
}
