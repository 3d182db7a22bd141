-- An object as the objects' state shows it, slow or fast.
use Rattle.std.proofs.Common.{◌≡◌, ℕ, zero, suc, ◌<◌, List, [], ◌∷◌, length, get_or, Option, Some, None, refl, sym, ap, ◌∙◌, subst, arith}
use Rattle.std.specs.Prelude.{IsSome, ◌↔◌, slice_get}
use Rattle.std.specs.List.{AllByRecursion}
use Rattle.hc_value.specs.declared.prop.Prop.{Prop}
use Rattle.hc_heap.specs.Readings.{map_in}
use Rattle.hc_table.specs.Attributes.{IsProper}
use Rattle.hc_table.specs.World.{object, props_at}
use Rattle.hc_modes.specs.Came.{world_of}
use Rattle.hc_slots.specs.Meaning.{Dictionary, dictionary_object, object_shown}
use Rattle.hc_modes.specs.Meaning.{kept_of}
use Rattle.hc_modes.specs.State.{ObjectsState, IsObjects, IsKeptSo}
use Rattle.hc_slots.specs.Fast.{HasMap}
use Rattle.hc_slots.specs.Listed.{all-at}
use Rattle.hc_modes.proofs.Worlds.{length-world, object-world}

-- Items

pub kept-item : (kept : List (Option Dictionary)) (o : ℕ) (x : Option Dictionary) → o < length kept → x ≡ get_or kept o x → kept_of kept o ≡ x
kept-item [] o x lt at = absurd (omega arith)
kept-item (y ∷ ys) zero x lt at = sym at
kept-item (y ∷ ys) (suc o) x lt at = kept-item ys o x (omega arith) at

-- Objects

module _ {P : Type 0} (a b : ObjectsState P) (o : ℕ) (same : a ≡ b) (lt : o < length (world_of b)) where
  pub within : o < length a.kept
  within = subst (λ (n : ℕ). o < n) (length-world a.heap.view.trail a.kept) (subst (λ (s : ObjectsState P). o < length (world_of s)) (sym same) lt)

  -- a slow object is its dictionary
  pub slow-shown : (d : Dictionary) → kept_of b.kept o ≡ Some d → object (world_of b) o ≡ dictionary_object d
  slow-shown d is =
      ap (λ (s : ObjectsState P). object (world_of s) o) (sym same)
      ∙ object-world a.heap.view.trail a.kept o within
      ∙ ap (λ (x : Option Dictionary). object_shown a.heap.view.trail o x (map_in a.heap.view.trail o)) (ap (λ (s : ObjectsState P). kept_of s.kept o) same ∙ is)

  -- a fast object is what its map says
  pub fast-shown : kept_of b.kept o ≡ None → object (world_of b) o ≡ object_shown a.heap.view.trail o None (map_in a.heap.view.trail o)
  fast-shown is =
      ap (λ (s : ObjectsState P). object (world_of s) o) (sym same)
      ∙ object-world a.heap.view.trail a.kept o within
      ∙ ap (λ (x : Option Dictionary). object_shown a.heap.view.trail o x (map_in a.heap.view.trail o)) (ap (λ (s : ObjectsState P). kept_of s.kept o) same ∙ is)

  -- and has one
  pub fast-has : IsObjects a.heap.view a.kept a.of_null → kept_of b.kept o ≡ None → HasMap a.heap.view.trail o
  fast-has h is = subst (λ (x : Option Dictionary). IsKeptSo a.heap.view.trail o x) (ap (λ (s : ObjectsState P). kept_of s.kept o) same ∙ is) (h.each o within)

  -- its properties are proper
  pub proper-shown : (i : ℕ) (p : Prop) → IsObjects a.heap.view a.kept a.of_null → slice_get (props_at (world_of b) o) i ≡ Some p → IsProper p
  proper-shown i p h is =
      all-at IsProper (props_at (world_of b) o) i p (subst (λ (s : ObjectsState P). AllByRecursion IsProper (props_at (world_of s) o)) same (h.sound.proper o)) is

  -- a slow object has no map
  pub slow-unmapped : IsObjects a.heap.view a.kept a.of_null → (d : Dictionary) → kept_of a.kept o ≡ Some d → map_in a.heap.view.trail o ≡ None
  slow-unmapped h d is = subst (λ (i : Option Dictionary). IsKeptSo a.heap.view.trail o i) is (h.each o within)

  -- an object has no map exactly where it is slow
  pub unmapped-slow : IsObjects a.heap.view a.kept a.of_null → (h : Option ℕ) → h ≡ map_in a.heap.view.trail o → (h ≡ None) ↔ IsSome (kept_of b.kept o)
  unmapped-slow h m is = subst (λ (s : ObjectsState P). (m ≡ None) ↔ IsSome (kept_of s.kept o)) same (by (kept_of a.kept o) refl)
    where
      by : (i : Option Dictionary) → kept_of a.kept o ≡ i → (m ≡ None) ↔ IsSome i
      by (Some d) e = (λ none. refl, λ slow. is ∙ slow-unmapped h d e)
      by None e =
          let has : HasMap a.heap.view.trail o = subst (λ (i : Option Dictionary). IsKeptSo a.heap.view.trail o i) e (h.each o within) in
          (λ none. let f : None ≡ Some has.map = sym none ∙ is ∙ has.is_map in let g : ⊥ = cc in absurd g, λ slow. let g : ⊥ = cc in absurd g)
