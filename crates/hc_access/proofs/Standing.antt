-- Objects, and where names stand in them, as their words say.
use Rattle.std.proofs.Common.{◌≡◌, ℕ, ◌<◌, ◌≤◌, Option, Some, None, length, refl, sym, ap, ◌∙◌, subst, arith}
use Rattle.hc_layout.specs.declared.words.GateWord.{GateWord}
use Rattle.hc_heap.specs.Writes.{Trail}
use Rattle.hc_heap.specs.Readings.{gate_in, map_in}
use Rattle.hc_heap.specs.Kept.{UnusedSaysNothing}
use Rattle.hc_heap.specs.declared.kind.Kind.TheVariants.{MapOfObject}
use Rattle.hc_table.specs.World.{new_object, object}
use Rattle.hc_slots.specs.Cases.{some-is}
use Rattle.hc_slots.specs.Listed.{get_or-listed, length-listed}
use Rattle.hc_slots.specs.Meaning.{Dictionary, fast_object, object_shown}
use Rattle.hc_modes.specs.Came.{world_of}
use Rattle.hc_modes.specs.Meaning.{kept_of, object_at}
use Rattle.hc_modes.specs.State.{IsKeptSo, IsObjects, ObjectsState}

-- a map's gate is written
pub record IsOpened (t : Trail) (m : ℕ) : Type 0 where
  pub gate : GateWord
  pub is_gate : gate_in t m ≡ Some gate

pub length-world : {P : Type 0} (s : ObjectsState P) → length (world_of s) ≡ length s.kept
length-world {P} s = length-listed (object_at s.heap.view.trail s.kept) (length s.kept)

module _ {P : Type 0} (unused : UnusedSaysNothing) (s : ObjectsState P) (sound : IsObjects s.heap.view s.kept s.of_null) where
  pub object-is : (o : ℕ) → o < length s.kept → object (world_of s) o ≡ object_at s.heap.view.trail s.kept o
  object-is o lt = get_or-listed (object_at s.heap.view.trail s.kept) (length s.kept) o (new_object None) lt

  -- an object that has a map is there
  pub is-there : (o m : ℕ) → map_in s.heap.view.trail o ≡ Some m → o < length s.kept
  is-there o m is = by-cases (λ le. let none : map_in s.heap.view.trail o ≡ None = unused s.heap.view.used s.heap.view.trail MapOfObject o sound.heap.used (omega (arith, sound.items)) in let n : None ≡ Some m = sym none ∙ is in let f : ⊥ = cc in f)
    where
      by-cases : (length s.kept ≤ o → ⊥) → o < length s.kept
      by-cases h = omega (arith, h)

  -- and kept so
  pub kept-fast : (o m : ℕ) → map_in s.heap.view.trail o ≡ Some m → kept_of s.kept o ≡ None
  kept-fast o m is = by (kept_of s.kept o) refl (sound.each o (is-there o m is))
    where
      by : (d : Option Dictionary) → kept_of s.kept o ≡ d → IsKeptSo s.heap.view.trail o d → kept_of s.kept o ≡ None
      by None e so = e
      by (Some d) e so = let n : None ≡ Some m = sym so ∙ is in let f : ⊥ = cc in absurd f

  -- it is the one that its map and its slots say
  pub fast-is : (o m : ℕ) → map_in s.heap.view.trail o ≡ Some m → object (world_of s) o ≡ fast_object s.heap.view.trail o m
  fast-is o m is =
      object-is o (is-there o m is)
      ∙ ap (λ (d : Option Dictionary). object_shown s.heap.view.trail o d (map_in s.heap.view.trail o)) (kept-fast o m is)
      ∙ ap (object_shown s.heap.view.trail o None) is

  pub opened : (o m : ℕ) → map_in s.heap.view.trail o ≡ Some m → IsOpened s.heap.view.trail m
  opened o m is = by (kept_of s.kept o) (kept-fast o m is) (sound.each o (is-there o m is))
    where
      by : (d : Option Dictionary) → d ≡ None → IsKeptSo s.heap.view.trail o d → IsOpened s.heap.view.trail m
      by None e so =
          let same : so.map ≡ m = some-is so.map m (sym so.is_map ∙ is) in
          record { gate = so.gate; is_gate = subst (λ (x : ℕ). gate_in s.heap.view.trail x ≡ Some so.gate) same so.fast.is_open }
      by (Some d) e so = let f : ⊥ = cc in absurd f
