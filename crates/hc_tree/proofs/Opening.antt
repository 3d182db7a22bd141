-- Maps that are opened by a call, and are no roots.
use Rattle.std.proofs.Common.{◌≡◌, ◌≢◌, ℕ, ◌+◌, ◌<◌, ◌≤◌, Bool, true, false, cond, eqb, eqb-true, eq-eqb, ◌∷◌, Option, Some, None, IsSome, refl, sym, ap, ◌∙◌, subst, arith, true≢false}
use Rattle.hc_layout.specs.declared.shape.Shape.{Shape}
use Rattle.hc_layout.specs.declared.words.GateWord.{GateWord}
use Rattle.hc_heap.specs.Writes.{Write, Trail, Gate}
use Rattle.hc_heap.specs.Readings.{gate_in, parent_in, prototype_in, bits_in}
use Rattle.hc_heap.specs.Kept.{Adds, UnusedSaysNothing}
use Rattle.hc_heap.specs.Frames.{same-after}
use Rattle.hc_heap.specs.States.{View, IsHeap}
use Rattle.hc_heap.specs.declared.kind.Kind.TheVariants.{GateOfMap}
use Rattle.hc_tree.specs.Growth.{MakesMap, live_of}
use Rattle.hc_tree.specs.Kept.{MapsStay}
use Rattle.hc_tree.specs.Walking.{OpensNoRoot}

pub some-is : {T : Type 0} (a b : T) → Some a ≡ Some b → a ≡ b
some-is a b e = cc

pub some-of : {T : Type 0} (o : Option T) → IsSome o → (v : T) × (o ≡ Some v)
some-of (Some v) h = (v, refl)
some-of None h = let n : ⊥ = cc in absurd n

-- a number is this one or another
pub same-or : (p o : ℕ) (C : Type 0) → (p ≡ o → C) → (p ≢ o → C) → C
same-or p o C same other = by (eqb p o) refl
  where
    by : (b : Bool) → eqb p o ≡ b → C
    by true e = same (eqb-true p o e)
    by false e = other (λ is. true≢false (sym (eq-eqb p o is) ∙ e))

pub cond-other : {T : Type 0} (i x : ℕ) (a b : T) → i ≢ x → cond (eqb i x) a b ≡ b
cond-other i x a b ne = by (eqb i x) refl
  where
    by : (c : Bool) → eqb i x ≡ c → cond c a b ≡ b
    by true e = absurd (ne (eqb-true i x e))
    by false e = refl

gate-by : (used : Shape) (p : Option ℕ) (m : ℕ) → m < used.maps → (t : Trail) (w : Write) → MakesMap used p t w → gate_in (w ∷ t) m ≡ gate_in t m
gate-by used p m lt t (Gate i g) e = cond-other i m (Some g) (gate_in t m) (λ is. omega (arith, lt, e, is))
gate-by used p m lt t _ e = refl

-- an open map was handed out
open-used : UnusedSaysNothing → (v : View) → IsHeap v → (m : ℕ) (g : GateWord) → gate_in v.trail m ≡ Some g → m < v.used.maps
open-used unused v heap m g is = by-cases m v.used.maps (λ le. let none : gate_in v.trail m ≡ None = unused v.used v.trail GateOfMap m heap.used le in let n : None ≡ Some g = sym none ∙ is in let f : ⊥ = cc in f)
  where
    by-cases : (a b : ℕ) → (b ≤ a → ⊥) → a < b
    by-cases a b h = omega (arith, h)

module _ (unused : UnusedSaysNothing) (old new : View) (p : Option ℕ) (heap : IsHeap new) (adds : Adds (MakesMap old.used p) old.trail new.trail) where
  gate-same : (m : ℕ) → m < old.used.maps → gate_in new.trail m ≡ gate_in old.trail m
  gate-same m lt = same-after (λ (t : Trail). gate_in t m) (gate-by old.used p m lt) adds

  opened-new : (m : ℕ) (g : GateWord) → gate_in old.trail m ≡ None → gate_in new.trail m ≡ Some g → m < old.used.maps → ⊥
  opened-new m g none gate lt = let n : None ≡ Some g = sym none ∙ sym (gate-same m lt) ∙ gate in let f : ⊥ = cc in f

  -- no map was handed out
  pub opens-none : new.used.maps ≡ old.used.maps → OpensNoRoot old.trail new.trail
  opens-none same m g none gate shared parent = opened-new m g none gate (subst (λ (n : ℕ). m < n) same (open-used unused new heap m g gate))

  -- one map was handed out, which is private or a child
  pub opens-one : new.used.maps ≡ old.used.maps + 1 → ((g : GateWord) → gate_in new.trail old.used.maps ≡ Some g → g.is_private ≡ false → parent_in new.trail old.used.maps ≡ Some None → ⊥) → OpensNoRoot old.trail new.trail
  opens-one more fine m g none gate shared parent = same-or m old.used.maps ⊥
      (λ is. fine g (subst (λ (x : ℕ). gate_in new.trail x ≡ Some g) is gate) shared (subst (λ (x : ℕ). parent_in new.trail x ≡ Some None) is parent))
      (λ other. opened-new m g none gate (let lt = open-used unused new heap m g gate in omega (arith, lt, more, other)))

-- the child of a map isn't a root
pub child-no-root : (t : Trail) (m c : ℕ) → parent_in t c ≡ Some (Some m) → parent_in t c ≡ Some None → ⊥
child-no-root t m c is e = let n : Some (Some m) ≡ Some None = sym is ∙ e in let f : ⊥ = cc in f

-- maps that are opened, first some and then others, are no roots
pub opens-both : (a b c : Trail) → MapsStay b c → ((m : ℕ) (g : GateWord) → gate_in b m ≡ Some g → IsSome (parent_in b m)) → OpensNoRoot a b → OpensNoRoot b c → OpensNoRoot a c
opens-both a b c after parents x y m g none gate shared parent = by (gate_in b m) refl
  where
    by : (was : Option GateWord) → gate_in b m ≡ was → ⊥
    by None e = y m g e gate shared parent
    by (Some h) e =
        let same : h ≡ g = some-is h g (sym (after.written.gate m h e) ∙ gate) in
        let up = some-of (parent_in b m) (parents m h e) in
        x m h none e (ap (λ (k : GateWord). k.is_private) same ∙ shared) (up.1 ∙ sym (after.written.parent m up.0 up.1) ∙ parent)

-- an open map keeps its prototype
pub proto-stays : (old new : Trail) → MapsStay old new → (m : ℕ) (g : GateWord) → gate_in old m ≡ Some g → prototype_in new m ≡ prototype_in old m
proto-stays old new after m g is = let p = some-of (prototype_in old m) (after.opened m g is).prototype in after.written.prototype m p.0 p.1 ∙ sym p.1

-- a live child is live
live-case : (t : Trail) (x c : ℕ) (b : Bool) → (bits_in t x).deprecated ≡ b → cond b None (Some x) ≡ Some c → (bits_in t c).deprecated ≡ false
live-case t x c true is h = let n : ⊥ = cc in absurd n
live-case t x c false is h = let same : x ≡ c = cc in subst (λ (y : ℕ). (bits_in t y).deprecated ≡ false) same is

pub live-bits : (t : Trail) (o : Option ℕ) (c : ℕ) → live_of t o ≡ Some c → (bits_in t c).deprecated ≡ false
live-bits t (Some x) c e = live-case t x c (bits_in t x).deprecated refl e
live-bits t None c e = let n : ⊥ = cc in absurd n
