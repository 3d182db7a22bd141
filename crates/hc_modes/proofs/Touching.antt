-- The writes of each step are of the class that an operation on an object may make.
use Rattle.std.proofs.Common.{◌≡◌, ℕ, ◌<◌, Bool, true, false, cond, ◌∷◌, Option, Some, None, refl, sym, ◌∙◌, arith, inl, ⊎_elim}
use Rattle.std.proofs.Math.Nat.{le_trans}
use Rattle.hc_layout.specs.declared.shape.Shape.{Shape}
use Rattle.hc_heap.specs.Writes.{Write, Trail, Gate, Parent, Prototype, Bits, ObjectCell, ObjectMap, Root, Store, Slot, Validity}
use Rattle.hc_heap.specs.Readings.{bits_in, root_in}
use Rattle.hc_heap.specs.Kept.{Adds}
use Rattle.hc_heap.specs.Frames.{adds-none, adds-one, adds-on, adds-wider}
use Rattle.hc_heap.specs.States.{View}
use Rattle.hc_tree.specs.Growth.{MakesMap, marked, root_of, with_root, with_named_root}
use Rattle.hc_slots.specs.Slots.{Owns}
use Rattle.hc_modes.specs.Changes.{Changed, ChangedBut, Touches, TouchesBut}

module _ (Dies : ℕ → Type 0) (old : View) (o : ℕ) where
  -- a map is made
  makes-touches : (used : Shape) (p : Option ℕ) (t : Trail) (w : Write) → MakesMap used p t w → TouchesBut Dies old o t w
  makes-touches used p t (ObjectMap i h) e = absurd e
  makes-touches used p t (Store i v) e = absurd e
  makes-touches used p t (Slot s v) e = absurd e
  makes-touches used p t (Root i r) e = absurd e
  makes-touches used p t (Bits m b) e = inl e.1
  makes-touches used p t (ObjectCell i c) e = absurd e
  makes-touches used p t (Validity c v) e = absurd e
  makes-touches used p t _ e = tt

  pub map-made : (used : Shape) (p : Option ℕ) (t u : Trail) → Adds (MakesMap used p) t u → Adds (TouchesBut Dies old o) t u
  map-made used p t u adds = adds-wider (makes-touches used p) adds

  -- a map is made unstable
  pub map-marked : (t : Trail) (m : ℕ) → Adds (TouchesBut Dies old o) t (marked t m)
  map-marked t m = by (bits_in t m).unstable
    where
      by : (b : Bool) → Adds (TouchesBut Dies old o) t (cond b t (Bits m (record { unstable = true; deprecated = (bits_in t m).deprecated }) ∷ t))
      by true = adds-none t
      by false = adds-one t (Bits m (record { unstable = true; deprecated = (bits_in t m).deprecated })) (inl refl)

  root-written : (t : Trail) (p : Option ℕ) (r : ℕ) → Adds (TouchesBut Dies old o) t (with_root t p r)
  root-written t p r = adds-on (adds-on (adds-one t (Parent r None) tt) (adds-one (Parent r None ∷ t) (Prototype r p) tt)) (adds-one (Prototype r p ∷ Parent r None ∷ t) (Gate r (record { entries = 0; is_private = false; is_locked = false })) tt)

  -- a root is made
  pub root-made : (t : Trail) (p : Option ℕ) (r : ℕ) (of_null : Option ℕ) → root_of t p of_null ≡ None → Adds (TouchesBut Dies old o) t (with_named_root t p r)
  root-made t None r of_null none = root-written t None r
  root-made t (Some q) r of_null none = adds-on (root-written t (Some q) r) (adds-one (with_root t (Some q) r) (Root q (record { is_proto = (root_in t q).is_proto; map = Some r })) (record { proto = λ ne. refl; map = λ m is. let n : None ≡ Some m = sym none ∙ is in let f : ⊥ = cc in absurd f }))

  -- what an operation does itself
  pub map-moved : (t : Trail) (h : Option ℕ) → Adds (TouchesBut Dies old o) t (ObjectMap o h ∷ t)
  map-moved t h = adds-one t (ObjectMap o h) refl

  pub slot-written : (t : Trail) (s w : ℕ) → (s < old.used.slots → Owns old.trail o s) → Adds (TouchesBut Dies old o) t (Slot s w ∷ t)
  slot-written t s w its = adds-one t (Slot s w) its

-- an operation goes on, from where its object had what it had, or new slots
pub changed-on : {Dies : ℕ → Type 0} (a b c : View) (o : ℕ) → ChangedBut Dies a b o → ((s : ℕ) → Owns b.trail o s → s < a.used.slots → Owns a.trail o s) → Changed b c o → ChangedBut Dies a c o
changed-on {Dies} a b c o x owns y = record {
  writes = adds-on x.writes (adds-wider touches y.writes);
  shape = y.shape ∙ x.shape;
  slots = le_trans x.slots y.slots;
  tree = y.tree;
  heap = y.heap;
}
  where
    touches : (t : Trail) (w : Write) → Touches b o t w → TouchesBut Dies a o t w
    touches t (ObjectMap i h) e = e
    touches t (Store i v) e = e
    touches t (Slot s v) e = λ lt. owns s (e (omega (arith, lt, x.slots))) lt
    touches t (Root i r) e = e
    touches t (Bits m d) e = ⊎_elim (λ same. inl same) (λ dies. absurd dies.0) e
    touches t (ObjectCell i v) e = e
    touches t (Validity i v) e = e
    touches t _ e = tt
