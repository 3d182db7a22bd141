-- What full lookup finds, as a way of an inline cache.
use Rattle.std.proofs.Common.{◌≡◌, ℕ, ◌<◌, Bool, cond, eq-eqb, Option, Some, None, length, refl, sym, ap, ◌∙◌}
use Rattle.std.proofs.lemmas.Bool.{ne_eqb}
use Rattle.hc_value.specs.declared.prop.Prop.{Prop}
use Rattle.hc_heap.specs.Kept.{GatesAreOpen, UnusedSaysNothing}
use Rattle.hc_cells.specs.Chains.{chain_from}
use Rattle.hc_table.specs.World.{object, place_of, props_at}
use Rattle.hc_ops.specs.Nearest.{Nearest, nearest}
use Rattle.hc_slots.specs.Cases.{some-is}
use Rattle.hc_modes.specs.Came.{world_of}
use Rattle.hc_modes.specs.Meaning.{kept_of}
use Rattle.hc_modes.specs.State.{IsObjects, ObjectsState}
use Rattle.hc_modes.specs.Validity.{protos_of}
use Rattle.hc_sites.specs.declared.cached.CacheWay.TheVariants.{Own, Holder, Absent}
use Rattle.hc_access.specs.Accesses.{load_way, own_or_behind, way_behind, where_fast}
use Rattle.hc_access.specs.Spots.{Place, place_from}
use Rattle.hc_access.specs.Ways.{way_to}
use Rattle.hc_access.proofs.Chained.{among-placed, nearest-at}
use Rattle.hc_access.proofs.Keeping.{AreTold}
use Rattle.hc_access.proofs.Places.{place-stands}
use Rattle.hc_access.proofs.Uses.{nearest-behind, nearest-own}

module _ {P : Type 0} (gates : GatesAreOpen) (unused : UnusedSaysNothing) (told : AreTold P) (s : ObjectsState P) (sound : IsObjects s.heap.view s.kept s.of_null) (o name : ℕ) (there : o < length (world_of s)) where
  abbrev own : Option ℕ
  own = place_of (props_at (world_of s) o) name

  abbrev behind : Option Place
  behind = place_from s (object (world_of s) o).proto name

  -- what an own property makes the nearest
  own-nearest : (i : ℕ) → own ≡ Some i → (found : Option Nearest) → nearest (world_of s) o name ≡ found → (C : Type 0) → ((p : Prop) → found ≡ Some (record { holder = o; property = p }) → C) → C
  own-nearest i is found e C use_it =
      let stands = place-stands (props_at (world_of s) o) name i is in
      use_it stands.property (sym e ∙ nearest-own gates unused told s sound o name i stands.property there is stands.at)

  -- a place on the chain makes the nearest
  behind-nearest : (at : Place) → behind ≡ Some at → (C : Type 0) → ((p : Prop) → nearest-at (world_of s) name behind ≡ Some (record { holder = at.holder; property = p }) → C) → C
  behind-nearest at is C use_it =
      let placed = among-placed (world_of s) (chain_from s.heap.view.trail (protos_of s) (object (world_of s) o).proto) name at is in
      let stands = place-stands (props_at (world_of s) at.holder) name at.place placed in
      use_it stands.property (ap (nearest-at (world_of s) name) is ∙ ap (λ (x : Option Prop). nearest-at-of at.holder x) stands.named)
    where
      nearest-at-of : ℕ → Option Prop → Option Nearest
      nearest-at-of q (Some x) = Some (record { holder = q; property = x })
      nearest-at-of q None = None

  -- nothing was found
  pub way-none : nearest (world_of s) o name ≡ None → load_way s o name ≡ Some Absent
  way-none none = by own refl
    where
      last : (at : Option Place) → behind ≡ at → nearest-at (world_of s) name behind ≡ None → way_behind s.kept behind ≡ Some Absent
      last None is e = ap (way_behind s.kept) is
      last (Some at) is e = behind-nearest at is (way_behind s.kept behind ≡ Some Absent) (λ p found. let n : ⊥ = cc in absurd n)

      by : (x : Option ℕ) → own ≡ x → own_or_behind own (way_behind s.kept behind) ≡ Some Absent
      by None is = ap (λ (x : Option ℕ). own_or_behind x (way_behind s.kept behind)) is ∙ last behind refl (sym (nearest-behind gates unused told s sound o name there is) ∙ none)
      by (Some i) is = own-nearest i is None none (own_or_behind own (way_behind s.kept behind) ≡ Some Absent) (λ p found. let n : ⊥ = cc in absurd n)

  -- a property was found at this place of its holder
  pub way-some : (h i : ℕ) (p : Prop) → nearest (world_of s) o name ≡ Some (record { holder = h; property = p }) → place_of (props_at (world_of s) h) name ≡ Some i → load_way s o name ≡ way_to s.kept o h i
  way-some h i p found placed = by own refl
    where
      holder-is : (x y : Nearest) → Some x ≡ Some y → x.holder ≡ y.holder
      holder-is x y e = ap (λ (n : Nearest). n.holder) (some-is x y e)

      last : own ≡ None → (at : Option Place) → behind ≡ at → nearest-at (world_of s) name behind ≡ Some (record { holder = h; property = p }) → way_behind s.kept behind ≡ way_to s.kept o h i
      last none None is e = let n : ⊥ = cc (ap (nearest-at (world_of s) name) is) in absurd n
      last none (Some at) is e = behind-nearest at is (way_behind s.kept behind ≡ way_to s.kept o h i)
          (λ q there_is.
          let same : at.holder ≡ h = holder-is (record { holder = at.holder; property = q }) (record { holder = h; property = p }) (sym there_is ∙ e) in
          let on = among-placed (world_of s) (chain_from s.heap.view.trail (protos_of s) (object (world_of s) o).proto) name at is in
          let place : at.place ≡ i = some-is at.place i (sym on ∙ (ap (λ (x : ℕ). place_of (props_at (world_of s) x) name) same ∙ placed)) in
          let other : h ≡ o → ⊥ = λ (e2 : h ≡ o). let n : None ≡ Some i = sym none ∙ (ap (λ (x : ℕ). place_of (props_at (world_of s) x) name) (sym e2) ∙ placed) in let f : ⊥ = cc in f in
          ap (way_behind s.kept) is
          ∙ (ap (λ (x : ℕ). where_fast (kept_of s.kept x) (Holder x at.place)) same
          ∙ (ap (λ (x : ℕ). where_fast (kept_of s.kept h) (Holder h x)) place
          ∙ sym (ap (λ (b : Bool). cond b (Some (Own i)) (where_fast (kept_of s.kept h) (Holder h i))) (ne_eqb h o other)))))

      by : (x : Option ℕ) → own ≡ x → own_or_behind own (way_behind s.kept behind) ≡ way_to s.kept o h i
      by None is = ap (λ (x : Option ℕ). own_or_behind x (way_behind s.kept behind)) is ∙ last is behind refl (sym (nearest-behind gates unused told s sound o name there is) ∙ found)
      by (Some j) is = own-nearest j is (Some (record { holder = h; property = p })) found (own_or_behind own (way_behind s.kept behind) ≡ way_to s.kept o h i)
          (λ q e.
          let same : h ≡ o = holder-is (record { holder = h; property = p }) (record { holder = o; property = q }) e in
          let place : j ≡ i = some-is j i (sym is ∙ (ap (λ (x : ℕ). place_of (props_at (world_of s) x) name) (sym same) ∙ placed)) in
          ap (λ (x : Option ℕ). own_or_behind x (way_behind s.kept behind)) is
          ∙ (ap (λ (x : ℕ). Some (Own x)) place
          ∙ sym (ap (λ (b : Bool). cond b (Some (Own i)) (where_fast (kept_of s.kept h) (Holder h i))) (eq-eqb h o same))))
