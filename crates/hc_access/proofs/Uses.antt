-- What full lookup finds, by an entry that may be used, and what it may fill.
use Rattle.std.proofs.Common.{◌≡◌, ℕ, zero, suc, ◌<◌, ◌≤◌, Bool, true, false, Option, Some, None, List, [], length, refl, sym, ap, ◌∙◌, arith}
use Rattle.std.specs.Prelude.{not, slice_get}
use Rattle.hc_layout.specs.declared.words.CellWord.{CellWord}
use Rattle.hc_value.specs.declared.prop.Prop.{Prop}
use Rattle.hc_heap.specs.Readings.{map_in, prototype_in, validity_in}
use Rattle.hc_heap.specs.Writes.{Trail}
use Rattle.hc_heap.specs.Kept.{GatesAreOpen, UnusedSaysNothing}
use Rattle.hc_cells.specs.Cells.{is_valid}
use Rattle.hc_cells.specs.Chains.{chain_among, chain_from}
use Rattle.hc_descs.specs.Entries.{IsFirstNamed, LacksName, count_of}
use Rattle.hc_table.specs.World.{LeadsToNull, Object, World, object, place_of, property_of, props_at}
use Rattle.hc_ops.specs.Nearest.{Nearest, nearest, nearest_among, own_or_further}
use Rattle.hc_slots.specs.Cases.{some-and, some-is}
use Rattle.hc_slots.specs.Listed.{length-listed}
use Rattle.hc_slots.specs.Meaning.{fast_props, proto_of}
use Rattle.hc_modes.specs.Came.{world_of}
use Rattle.hc_modes.specs.State.{IsObjects, ObjectsState}
use Rattle.hc_modes.specs.Validity.{protos_of, slow_proto}
use Rattle.hc_plan.specs.declared.case.Site.{Site}
use Rattle.hc_access.specs.Entries.{IsBehind, IsFound, IsWatched, is_unbroken}
use Rattle.hc_access.specs.Spots.{Place, place_among, place_from}
use Rattle.hc_access.proofs.Chained.{among-placed, nearest-at, nearest-is}
use Rattle.hc_access.proofs.Keeping.{AreTold}
use Rattle.hc_access.proofs.Names.{lacks-place, own-place, place-lacks, place-own}
use Rattle.hc_access.proofs.Places.{place-stands, property-none}
use Rattle.hc_access.proofs.Standing.{fast-is, opened}

-- an own property is the nearest
own-first : (n : ℕ) (w : World) (o name : ℕ) (p : Prop) → 0 < n → property_of (props_at w o) name ≡ Some p → nearest_among n w (Some o) name ≡ Some (record { holder = o; property = p })
own-first zero w o name p lt is = absurd (omega arith)
own-first (suc n) w o name p lt is = ap (λ (x : Option Prop). own_or_further o x (nearest_among n w (object w o).proto name)) is

pub chain-none : (n : ℕ) (t : Trail) (ps : List (Option ℕ)) → chain_among n t ps None ≡ []
chain-none zero t ps = refl
chain-none (suc n) t ps = refl

module _ {P : Type 0} (gates : GatesAreOpen) (unused : UnusedSaysNothing) (told : AreTold P) (s : ObjectsState P) (sound : IsObjects s.heap.view s.kept s.of_null) where
  -- Objects with a map

  pub fast-props : (o m : ℕ) → map_in s.heap.view.trail o ≡ Some m → props_at (world_of s) o ≡ fast_props s.heap.view.trail o m
  fast-props o m is = ap (λ (x : Object). x.props) (fast-is unused s sound o m is)

  pub own-at : (site : Site) (o m i : ℕ) → map_in s.heap.view.trail o ≡ Some m → IsFirstNamed s.heap.view.trail m site.name i → place_of (props_at (world_of s) o) site.name ≡ Some i
  own-at site o m i is first =
      let open_map = opened unused s sound o m is in
      ap (λ (ps : List Prop). place_of ps site.name) (fast-props o m is) ∙ own-place gates s.heap.view sound.heap m open_map.gate open_map.is_gate o site.name i first

  pub lacks-at : (name o m : ℕ) → map_in s.heap.view.trail o ≡ Some m → LacksName s.heap.view.trail m (count_of s.heap.view.trail m) name → place_of (props_at (world_of s) o) name ≡ None
  lacks-at name o m is lacks =
      let open_map = opened unused s sound o m is in
      ap (λ (ps : List Prop). place_of ps name) (fast-props o m is) ∙ lacks-place gates s.heap.view sound.heap m open_map.gate open_map.is_gate o name lacks

  pub first-at : (name o m i : ℕ) → map_in s.heap.view.trail o ≡ Some m → place_of (props_at (world_of s) o) name ≡ Some i → IsFirstNamed s.heap.view.trail m name i
  first-at name o m i is e =
      let open_map = opened unused s sound o m is in
      place-own gates s.heap.view sound.heap m open_map.gate open_map.is_gate o name i (sym (ap (λ (ps : List Prop). place_of ps name) (fast-props o m is)) ∙ e)

  pub none-at : (name o m : ℕ) → map_in s.heap.view.trail o ≡ Some m → place_of (props_at (world_of s) o) name ≡ None → LacksName s.heap.view.trail m (count_of s.heap.view.trail m) name
  none-at name o m is e =
      let open_map = opened unused s sound o m is in
      place-lacks gates s.heap.view sound.heap m open_map.gate open_map.is_gate o name (sym (ap (λ (ps : List Prop). place_of ps name) (fast-props o m is)) ∙ e)

  pub proto-by : (o m : ℕ) (proto : Option ℕ) → map_in s.heap.view.trail o ≡ Some m → prototype_in s.heap.view.trail m ≡ Some proto → (object (world_of s) o).proto ≡ proto
  proto-by o m proto is prototype = ap (λ (x : Object). x.proto) (fast-is unused s sound o m is) ∙ ap proto_of prototype

  -- The nearest property

  pub nearest-own : (o name i : ℕ) (p : Prop) → o < length (world_of s) → place_of (props_at (world_of s) o) name ≡ Some i → slice_get (props_at (world_of s) o) i ≡ Some p → nearest (world_of s) o name ≡ Some (record { holder = o; property = p })
  nearest-own o name i p lt place at =
      let stands = place-stands (props_at (world_of s) o) name i place in
      let same : stands.property ≡ p = some-is stands.property p (sym stands.at ∙ at) in
      own-first (length (world_of s)) (world_of s) o name p (omega (arith, lt)) (stands.named ∙ ap Some same)

  room : length (world_of s) ≤ length (protos_of s)
  room = let most = sound.sound.room in omega (arith, most, length-listed (slow_proto s.kept) s.heap.view.shape.objects)

  past : (n k : ℕ) (o name : ℕ) → n ≤ k → LeadsToNull n (world_of s) (Some o) → property_of (props_at (world_of s) o) name ≡ None
      → nearest_among n (world_of s) (Some o) name ≡ nearest-at (world_of s) name (place_among (world_of s) (chain_among k s.heap.view.trail (protos_of s) (object (world_of s) o).proto) name)
  past zero k o name le leads none = absurd leads
  past (suc n) k o name le leads none =
      ap (λ (x : Option Prop). own_or_further o x (nearest_among n (world_of s) (object (world_of s) o).proto name)) none
      ∙ nearest-is (world_of s) s.heap.view.trail (protos_of s) (λ (q : ℕ). told s q sound) name n k (object (world_of s) o).proto leads.1 (omega arith)

  pub nearest-behind : (o name : ℕ) → o < length (world_of s) → place_of (props_at (world_of s) o) name ≡ None → nearest (world_of s) o name ≡ nearest-at (world_of s) name (place_from s (object (world_of s) o).proto name)
  nearest-behind o name lt none = past (length (world_of s)) (length (protos_of s)) o name room (sound.sound.sound.chains o lt) (property-none (props_at (world_of s) o) name none)

  -- What a place on the chain gives

  pub nearest-holder : (o name i : ℕ) (h : ℕ) (p : Prop) → o < length (world_of s) → place_of (props_at (world_of s) o) name ≡ None → place_from s (object (world_of s) o).proto name ≡ Some (record { holder = h; place = i })
      → slice_get (props_at (world_of s) h) i ≡ Some p → nearest (world_of s) o name ≡ Some (record { holder = h; property = p })
  nearest-holder o name i h p lt none on at =
      let placed = among-placed (world_of s) (chain_from s.heap.view.trail (protos_of s) (object (world_of s) o).proto) name (record { holder = h; place = i }) on in
      let stands = place-stands (props_at (world_of s) h) name i placed in
      let same : stands.property ≡ p = some-is stands.property p (sym stands.at ∙ at) in
      nearest-behind o name lt none
      ∙ (ap (nearest-at (world_of s) name) on ∙ ap (λ (x : Option Prop). nearest-at-of h x) (stands.named ∙ ap Some same))
    where
      nearest-at-of : ℕ → Option Prop → Option Nearest
      nearest-at-of q (Some x) = Some (record { holder = q; property = x })
      nearest-at-of q None = None

  pub nearest-nowhere : (o name : ℕ) → o < length (world_of s) → place_of (props_at (world_of s) o) name ≡ None → place_from s (object (world_of s) o).proto name ≡ None → nearest (world_of s) o name ≡ None
  nearest-nowhere o name lt none on = nearest-behind o name lt none ∙ ap (nearest-at (world_of s) name) on

  -- Entries

  -- what stands behind a map whose cell isn't broken
  pub behind-now : (name : ℕ) (proto cell : Option ℕ) (at : Option Place) → is_unbroken s.heap.view.trail cell ≡ true → IsBehind s name proto cell at → place_from s proto name ≡ at
  behind-now name None None at ok h = ap (λ (qs : List ℕ). place_among (world_of s) qs name) (chain-none (length (protos_of s)) s.heap.view.trail (protos_of s)) ∙ sym h
  behind-now name None (Some c) at ok h = absurd h
  behind-now name (Some p) None at ok h = absurd h
  behind-now name (Some p) (Some c) at ok h =
      let word = some-and (validity_in s.heap.view.trail c) (IsWatched s name p at) h in
      word.1.1.found (valid word.0 word.1.0)
    where
      by : (b : Bool) → not b ≡ true → b ≡ false
      by false e = refl
      by true e = let f : ⊥ = cc in absurd f

      valid : (word : CellWord) → validity_in s.heap.view.trail c ≡ Some word → word.invalid ≡ false
      valid word is = by word.invalid (sym (ap (λ (x : Option CellWord). is_valid x) is) ∙ ok)

  pub found-now : (site : Site) (o m : ℕ) (cell : Option ℕ) (at : Option Place) → map_in s.heap.view.trail o ≡ Some m → is_unbroken s.heap.view.trail cell ≡ true → IsFound s site m cell at → place_from s (object (world_of s) o).proto site.name ≡ at
  found-now site o m cell at is ok h =
      ap (λ (p : Option ℕ). place_from s p site.name) (proto-by o m h.proto is h.prototype) ∙ behind-now site.name h.proto cell at ok h.behind
