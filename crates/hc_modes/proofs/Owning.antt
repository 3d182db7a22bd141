-- The slots that an object has after an operation, and its map where that is private.
use Rattle.std.proofs.Common.{◌≡◌, ◌≢◌, ℕ, ◌<◌, ◌≤◌, Bool, true, false, Option, Some, None, List, length, refl, sym, ◌∙◌, subst, arith}
use Rattle.hc_layout.specs.declared.words.GateWord.{GateWord}
use Rattle.hc_layout.specs.declared.words.StoreWord.{StoreWord}
use Rattle.hc_heap.specs.Writes.{Trail}
use Rattle.hc_heap.specs.Readings.{gate_in, map_in, store_in}
use Rattle.hc_heap.specs.Kept.{UnusedSaysNothing}
use Rattle.hc_heap.specs.States.{View, IsHeap}
use Rattle.hc_heap.specs.declared.kind.Kind.TheVariants.{GateOfMap, MapOfObject}
use Rattle.hc_slots.specs.Meaning.{Dictionary}
use Rattle.hc_modes.specs.Meaning.{kept_of}
use Rattle.hc_modes.specs.State.{IsKeptSo, IsObjects}
use Rattle.hc_slots.specs.Slots.{IsIn, Owns}

-- the object's slots are where they were
pub owns-same : (old new : Trail) (o s : ℕ) → store_in new o ≡ store_in old o → Owns new o s → Owns old o s
owns-same old new o s is h = subst (λ (w : StoreWord). IsIn w s) is h

module _ (unused : UnusedSaysNothing) (v : View) (heap : IsHeap v) where
  -- a map that is open was handed out
  pub open-used : (m : ℕ) (g : GateWord) → gate_in v.trail m ≡ Some g → m < v.used.maps
  open-used m g is = by-cases m v.used.maps (λ le. let none : gate_in v.trail m ≡ None = unused v.used v.trail GateOfMap m heap.used le in let n : None ≡ Some g = sym none ∙ is in let f : ⊥ = cc in f)
    where
      by-cases : (a b : ℕ) → (b ≤ a → ⊥) → a < b
      by-cases a b h = omega (arith, h)

  -- an object that is not there has no map
  pub map-none : (o : ℕ) → v.used.objects ≤ o → map_in v.trail o ≡ None
  map-none o le = unused v.used v.trail MapOfObject o heap.used le

  module _ (kept : List (Option Dictionary)) (of_null : Option ℕ) (h : IsObjects v kept of_null) where
    -- the map of an object was handed out
    pub map-used : (p m : ℕ) → map_in v.trail p ≡ Some m → m < v.used.maps
    map-used p m is = by-there (λ lt. by (kept_of kept p) (h.each p lt))
      where
        by : (item : Option Dictionary) → IsKeptSo v.trail p item → m < v.used.maps
        by (Some d) so = let n : None ≡ Some m = sym so ∙ is in let f : ⊥ = cc in absurd f
        by None so =
            let both : Some so.map ≡ Some m = sym so.is_map ∙ is in
            let same : so.map ≡ m = cc in
            subst (λ (x : ℕ). x < v.used.maps) same (open-used so.map so.gate so.fast.is_open)

        there : length kept ≤ p → ⊥
        there le = let none = map-none p (omega (arith, le, h.items)) in let n : None ≡ Some m = sym none ∙ is in let f : ⊥ = cc in f

        by-there : (p < length kept → m < v.used.maps) → m < v.used.maps
        by-there k = k (omega (arith, there))

    -- nobody has a map that is new
    pub nobody-has : (p : ℕ) → map_in v.trail p ≡ Some v.used.maps → ⊥
    nobody-has p is = omega (arith, map-used p v.used.maps is)

    -- nobody else has an object's private map
    pub alone-still : (o p m : ℕ) (g : GateWord) → p ≢ o → map_in v.trail o ≡ Some m → map_in v.trail p ≡ Some m → gate_in v.trail m ≡ Some g → g.is_private ≡ false
    alone-still o p m g other is_o is_p gate = by g.is_private refl
      where
        there : (q : ℕ) → map_in v.trail q ≡ Some m → length kept ≤ q → ⊥
        there q is le = let none = map-none q (omega (arith, le, h.items)) in let n : None ≡ Some m = sym none ∙ is in let f : ⊥ = cc in f

        by : (b : Bool) → g.is_private ≡ b → g.is_private ≡ false
        by false e = e
        by true e =
            let no_p = there p is_p in
            let no_o = there o is_o in
            let in_p : p < length kept = omega (arith, no_p) in
            let in_o : o < length kept = omega (arith, no_o) in
            absurd (other (h.alone p o m g in_p in_o is_p is_o gate e))
