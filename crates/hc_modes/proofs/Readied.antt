-- An object is live, or fit for a store: how it came so.
use Rattle.std.proofs.Common.{◌≡◌, ◌∙◌, ℕ, ◌<◌, false, List, Option, Some, None, length, refl, sym, ap, subst, inl, inr}
use Rattle.std.specs.Prelude.{option_map}
use Rattle.hc_board.specs.Trail.{Access}
use Rattle.hc_value.specs.declared.prop.Held.{Held}
use Rattle.hc_value.specs.declared.reply.Cause.{Cause}
use Rattle.hc_value.specs.declared.reply.Cause.TheVariants.{Space}
use Rattle.hc_layout.specs.declared.shape.Shape.{Shape}
use Rattle.hc_heap.specs.Readings.{bits_in, map_in}
use Rattle.hc_slots.specs.Cases.{not-both, some-is}
use Rattle.hc_slots.specs.Meaning.{Dictionary}
use Rattle.hc_modes.specs.Admitting.{FitsField}
use Rattle.hc_modes.specs.Came.{HasGeneralised, HasLeft, HasMigrated, IsMadeFit, IsMadeLive, IsStill, LacksStore, LacksUpdate}
use Rattle.hc_modes.specs.Laws.{fit-before, live-before, with_loads}
use Rattle.hc_modes.specs.Meaning.{cause_in, kept_of}
use Rattle.hc_modes.specs.State.{IsKeptSo, IsObjects, ObjectsState}

-- an object that has a map is fast
pub mapped-fast : {P : Type 0} (s : ObjectsState P) → IsObjects s.heap.view s.kept s.of_null → (o m : ℕ) → o < length s.kept → map_in s.heap.view.trail o ≡ Some m → kept_of s.kept o ≡ None
mapped-fast {P} s h o m there is = by (kept_of s.kept o) refl
  where
    by : (i : Option Dictionary) → kept_of s.kept o ≡ i → kept_of s.kept o ≡ None
    by None e = e
    by (Some d) e =
        let none : map_in s.heap.view.trail o ≡ None = subst (λ (i : Option Dictionary). IsKeptSo s.heap.view.trail o i) e (h.each o there) in
        absurd (not-both (map_in s.heap.view.trail o) m none is)

-- one that is slow has no map
pub slow-unmapped : {P : Type 0} (a b : ObjectsState P) → IsObjects a.heap.view a.kept a.of_null → IsObjects b.heap.view b.kept b.of_null → b.heap.view.used ≡ a.heap.view.used → (o : ℕ) (cause : Cause) → o < length a.kept → cause_in b.kept o ≡ Some cause → map_in b.heap.view.trail o ≡ None
slow-unmapped {P} a b h k used o cause there is = by (kept_of b.kept o) refl
  where
    below : o < length b.kept
    below = subst (λ (n : ℕ). o < n) (h.items ∙ (sym (ap (λ (s : Shape). s.objects) used) ∙ sym k.items)) there

    by : (i : Option Dictionary) → kept_of b.kept o ≡ i → map_in b.heap.view.trail o ≡ None
    by (Some d) e = subst (λ (i : Option Dictionary). IsKeptSo b.heap.view.trail o i) e (k.each o below)
    by None e =
        let none : cause_in b.kept o ≡ None = ap (λ (i : Option Dictionary). option_map (λ x. x.cause) i) e in
        let f : None ≡ Some cause = sym none ∙ is in
        let n : ⊥ = cc in
        absurd n

-- what there was no room for before loads there is none for after them
pub lacks-on : {P : Type 0} (a b : ObjectsState P) (o : ℕ) → IsStill a b → LacksUpdate a o → LacksUpdate b o
lacks-on {P} a b o still h = subst (λ (s : ObjectsState P). LacksUpdate s o) (sym still.is) it
  where
    it : LacksUpdate (with_loads a b.heap.desk.loads) o
    it = record { map = h.map; has = h.has; dead = h.dead; full = h.full }

pub lacks-store-on : {P : Type 0} (a b : ObjectsState P) (o i : ℕ) (held : Held) → IsStill a b → LacksStore a o i held → LacksStore b o i held
lacks-store-on {P} a b o i held still h = subst (λ (s : ObjectsState P). LacksStore s o i held) (sym still.is) it
  where
    it : LacksStore (with_loads a b.heap.desk.loads) o i held
    it = record { map = h.map; gate = h.gate; has = h.has; is_open = h.is_open; entry = h.entry; outgrown = h.outgrown; full = h.full }

module _ {P : Type 0} (went : P → List Access → List Access → P → Type 0) where
  -- it was migrated
  pub made-migrated : (a b c : ObjectsState P) (o : ℕ) → IsStill a b → HasMigrated went b o c → IsMadeLive went a o c
  made-migrated a b c o still it = live-before went a b c o still (record {
    came = inr (inl it);
    live = λ m is. subst (λ (k : ℕ). (bits_in c.heap.view.trail k).deprecated ≡ false) (some-is it.now m (sym it.comes ∙ is)) it.place.live;
  })

  -- or it left its map
  pub made-left : (a b c : ObjectsState P) (o : ℕ) → IsStill a b → LacksUpdate b o → HasLeft went b o Space c → map_in c.heap.view.trail o ≡ None → IsMadeLive went a o c
  made-left a b c o still why it none = live-before went a b c o still (record {
    came = inr (inr (record { why = why; left = it }));
    live = λ m is. absurd (not-both (map_in c.heap.view.trail o) m none is);
  })

  -- it was generalised
  pub fit-generalised : (a b c : ObjectsState P) (o i : ℕ) (held : Held) → IsStill a b → HasGeneralised went b o i held c → FitsField c.heap.view.trail o i held → IsMadeFit went a o i held c
  fit-generalised a b c o i held still it fits = fit-before went a b c o i held still (record { came = inr (inl it); fits = fits; live = it.comes })

  -- or it left its map
  pub fit-left : (a b c : ObjectsState P) (o i : ℕ) (held : Held) → IsStill a b → LacksStore b o i held → HasLeft went b o Space c → map_in c.heap.view.trail o ≡ None → IsMadeFit went a o i held c
  fit-left a b c o i held still why it none = fit-before went a b c o i held still (record {
    came = inr (inr (record { why = why; left = it }));
    fits = λ m d is admits. absurd (not-both (map_in c.heap.view.trail o) m none is);
    live = λ m is. absurd (not-both (map_in c.heap.view.trail o) m none is);
  })
