-- The world as a list of objects by their numbers.
use Rattle.std.proofs.Common.{◌≡◌, ◌≢◌, ℕ, ◌+◌, ◌<◌, List, Option, None, length, set, ap, ◌∙◌}
use Rattle.hc_heap.specs.Writes.{Trail}
use Rattle.hc_table.specs.World.{Object, object, new_object, with_object}
use Rattle.hc_slots.specs.Listed.{listed, length-listed, get_or-listed, listed-same, listed-set, listed-more}
use Rattle.hc_slots.specs.Meaning.{Dictionary}
use Rattle.hc_modes.specs.Meaning.{object_at, world}

pub length-world : (t : Trail) (kept : List (Option Dictionary)) → length (world t kept) ≡ length kept
length-world t kept = length-listed (object_at t kept) (length kept)

pub object-world : (t : Trail) (kept : List (Option Dictionary)) (o : ℕ) → o < length kept → object (world t kept) o ≡ object_at t kept o
object-world t kept o lt = get_or-listed (object_at t kept) (length kept) o (new_object None) lt

module _ (t u : Trail) (kept then : List (Option Dictionary)) where
  -- no object changed
  pub world-same : length then ≡ length kept → ((p : ℕ) → p < length kept → object_at u then p ≡ object_at t kept p) → world u then ≡ world t kept
  world-same count same = ap (listed (object_at u then)) count ∙ listed-same (object_at t kept) (object_at u then) (length kept) same

  -- one object changed
  pub world-set : (o : ℕ) (x : Object) → length then ≡ length kept → ((p : ℕ) → p < length kept → p ≢ o → object_at u then p ≡ object_at t kept p) → object_at u then o ≡ x → world u then ≡ set (world t kept) o x
  world-set o x count same here = ap (listed (object_at u then)) count ∙ listed-set (object_at t kept) (object_at u then) (length kept) o x same (λ lt. here)

  -- one object is new
  pub world-push : (proto : Option ℕ) → length then ≡ length kept + 1 → ((p : ℕ) → p < length kept → object_at u then p ≡ object_at t kept p) → object_at u then (length kept) ≡ new_object proto → world u then ≡ with_object (world t kept) proto
  world-push proto count same here = ap (listed (object_at u then)) count ∙ listed-more (object_at t kept) (object_at u then) (length kept) (new_object proto) same here
