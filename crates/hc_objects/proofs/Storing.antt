-- A store by a plan: what it knows of the words, as tables have it, and that nothing is to be made ready.
use Rattle.std.proofs.Common.{◌≡◌, ℕ, ◌<◌, List, length, Option, Some, None, option_map, refl, sym, ap, ◌∙◌, subst, inl, inr, arith}
use Rattle.std.specs.Prelude.{◌⊎◌, IsSomeAnd, IsTrue, false, slice_get}
use Rattle.hc_board.specs.Trail.{Access}
use Rattle.hc_layout.specs.declared.words.CellWord.{CellWord}
use Rattle.hc_layout.specs.declared.words.GateWord.{GateWord}
use Rattle.hc_value.specs.Field.{in_place_of, join_of, rep_of}
use Rattle.hc_value.specs.Prop.{kind_of}
use Rattle.hc_value.specs.Word.{IsInRange}
use Rattle.hc_value.specs.declared.field.Detail.{Detail}
use Rattle.hc_value.specs.declared.field.Rep.{Rep}
use Rattle.hc_value.specs.declared.field.Rep.TheVariants.{Smi, Wide, HeapObject, Tagged}
use Rattle.hc_value.specs.declared.key.Key.{Key}
use Rattle.hc_value.specs.declared.prop.Held.{Held}
use Rattle.hc_value.specs.declared.prop.Held.TheVariants.{Datum}
use Rattle.hc_value.specs.declared.prop.Kind.{Kind}
use Rattle.hc_value.specs.declared.prop.Kind.TheVariants.{DataProp}
use Rattle.hc_value.specs.declared.prop.Prop.{Prop}
use Rattle.hc_value.specs.declared.value.Value.{Value}
use Rattle.hc_heap.specs.Kept.{GatesAreOpen}
use Rattle.hc_heap.specs.Lawful.{field_from, key_from, slot_word}
use Rattle.hc_heap.specs.Readings.{base_in, bits_in, map_in}
use Rattle.hc_heap.specs.States.{View}
use Rattle.hc_heap.specs.Writes.{Trail}
use Rattle.hc_descs.specs.Entries.{count_of, detail_at, detail_of, entries_in, key_at}
use Rattle.hc_cells.specs.Cells.{AreCells}
use Rattle.hc_facts.specs.Honest.{HasDatum}
use Rattle.hc_table.specs.Changes.{kind_at}
use Rattle.hc_table.specs.Numbers.{IsNameNumber}
use Rattle.hc_table.specs.World.{Object, new_object, object, props_at}
use Rattle.hc_slots.specs.Cases.{some-is}
use Rattle.hc_slots.specs.Entries.{entry-is}
use Rattle.hc_slots.specs.Listed.{get_or-listed, slice_get-listed}
use Rattle.hc_slots.specs.Meaning.{Dictionary, datum_of, fast_object, held_in, object_shown, prop_in, prop_of}
use Rattle.hc_modes.specs.Admitting.{FitsField, added}
use Rattle.hc_modes.specs.Came.{world_of}
use Rattle.hc_modes.specs.Laws.{still-refl}
use Rattle.hc_modes.specs.Meaning.{kept_of, object_at}
use Rattle.hc_modes.specs.Planned.{ComersMayGet}
use Rattle.hc_modes.specs.State.{IsKeptSo, IsLive, IsObjects, ObjectsState}
use Rattle.hc_modes.specs.Validity.{CellFollows, CellsFollow, ChangesOn}
use Rattle.hc_objects.specs.Came.{MadeFit}
use Rattle.hc_objects.specs.Changes.{MayAdd}
use Rattle.hc_objects.specs.Planned.{MayCome, MayStore}
use Rattle.hc_objects.proofs.Alone.{alone-none}
use Rattle.hc_objects.proofs.Told.{count-world}

datum-kind : (v : Option Value) → kind_of (datum_of v) ≡ DataProp
datum-kind (Some v) = refl
datum-kind None = refl

data-kind : (r : Rep) (w : ℕ) → kind_of (held_in DataProp r w) ≡ DataProp
data-kind Smi w = datum-kind _
data-kind Wide w = datum-kind _
data-kind HeapObject w = datum-kind _
data-kind Tagged w = datum-kind _

-- a field that admits a representation as it is holds it in place
in-place : (a b : Rep) → join_of a b ≡ b → IsTrue (in_place_of b (join_of b a))
in-place Smi Smi e = refl
in-place Smi Wide e = refl
in-place Smi HeapObject e = let f : ⊥ = cc in absurd f
in-place Smi Tagged e = refl
in-place Wide Smi e = let f : ⊥ = cc in absurd f
in-place Wide Wide e = refl
in-place Wide HeapObject e = let f : ⊥ = cc in absurd f
in-place Wide Tagged e = refl
in-place HeapObject Smi e = let f : ⊥ = cc in absurd f
in-place HeapObject Wide e = let f : ⊥ = cc in absurd f
in-place HeapObject HeapObject e = refl
in-place HeapObject Tagged e = refl
in-place Tagged Smi e = let f : ⊥ = cc in absurd f
in-place Tagged Wide e = let f : ⊥ = cc in absurd f
in-place Tagged HeapObject e = let f : ⊥ = cc in absurd f
in-place Tagged Tagged e = refl

-- what a plan knows makes the object live, and the field fit
pub store-live : (t : Trail) (o i : ℕ) (v : Value) → MayStore t o i v → IsLive t o
store-live t o i v h m is = subst (λ (x : ℕ). (bits_in t x).deprecated ≡ false) (some-is h.map m (sym h.datum.has ∙ is)) h.live

pub store-fits : (t : Trail) (o i : ℕ) (v : Value) → MayStore t o i v → FitsField t o i (Datum v)
store-fits t o i v h m d is at =
    let map : m ≡ h.map = some-is m h.map (sym is ∙ h.datum.has) in
    let here : detail_at t h.map i ≡ Some h.detail = ap (detail_of t) h.datum.field ∙ h.is_detail in
    let there : detail_at t h.map i ≡ Some d = subst (λ (x : ℕ). detail_at t x i ≡ Some d) map at in
    subst (λ (x : Detail). IsTrue (in_place_of x.rep (join_of x.rep (rep_of v)))) (some-is h.detail d (sym here ∙ there)) (in-place (rep_of v) h.detail.rep h.admits.rep)

-- and what it knows of a child makes the object live, so that the property may be added
pub come-live : (v : View) (o child name : ℕ) (value : Value) → MayCome v o child name value → IsLive v.trail o
come-live v o child name value h m is = subst (λ (x : ℕ). (bits_in v.trail x).deprecated ≡ false) (some-is h.map m (sym h.has ∙ is)) h.live

pub come-adds : ComersMayGet → {P : Type 0} (s : ObjectsState P) → IsObjects s.heap.view s.kept s.of_null → (o child name : ℕ) (value : Value) → o < length (world_of s) → IsNameNumber name → IsInRange value → MayCome s.heap.view o child name value
    → MayAdd (world_of s) o (added name value)
come-adds law s sound o child name value there named range may =
    let lt : o < length s.kept = subst (λ (n : ℕ). o < n) (count-world s) there in
    let gets = law s.heap.view s.kept s.of_null o child name value sound lt may in
    record {
      absent = gets.absent;
      extensible = gets.extensible;
      proper = record { name = named; attributes = omega arith; clear = tt; range = range };
    }

module _ {P : Type 0} (gates : GatesAreOpen) (s : ObjectsState P) (sound : IsObjects s.heap.view s.kept s.of_null) where
  kept-none : (o m : ℕ) → o < length s.kept → map_in s.heap.view.trail o ≡ Some m → kept_of s.kept o ≡ None
  kept-none o m lt is = by (kept_of s.kept o) refl (sound.each o lt)
    where
      by : (d : Option Dictionary) → kept_of s.kept o ≡ d → IsKeptSo s.heap.view.trail o d → kept_of s.kept o ≡ None
      by None e so = e
      by (Some d) e so = let n : None ≡ Some m = sym so ∙ is in let f : ⊥ = cc in absurd f

  -- an entry that is a data property is one as tables have it
  pub kind-here : (o m k f : ℕ) → o < length (world_of s) → HasDatum s.heap.view.trail o m k f → kind_at (props_at (world_of s) o) k ≡ Some DataProp
  kind-here o m k f there h =
      let t = s.heap.view.trail in
      let w = slot_word t o k in
      let lt : o < length s.kept = subst (λ (n : ℕ). o < n) (count-world s) there in
      let shown : object (world_of s) o ≡ fast_object t o m =
      get_or-listed (object_at t s.kept) (length s.kept) o (new_object None) lt
      ∙ (ap (λ (d : Option Dictionary). object_shown t o d (map_in t o)) (kept-none o m lt h.has) ∙ ap (object_shown t o None) h.has) in
      let e = entry-is gates s.heap.view m k sound.heap (subst (λ (x : Option GateWord). IsSomeAnd x (λ y. k < y.entries)) (sym h.is_open) h.within) in
      let is : key_at t m k ≡ Some e.key = ap (λ (b : Option ℕ). key_from t b k) e.is_base ∙ e.is_key in
      let field : field_from t (base_in t m) k ≡ Some e.field = ap (λ (b : Option ℕ). field_from t b k) e.is_base ∙ e.is_field in
      let detail : detail_at t m k ≡ Some e.detail = ap (detail_of t) field ∙ e.admits in
      let property : prop_in t o m k ≡ prop_of (Some e.key) (Some e.detail) w =
      ap (λ (key : Option Key). prop_of key (detail_at t m k) w) is ∙ ap (λ (d : Option Detail). prop_of (Some e.key) d w) detail in
      let kind : e.key.kind ≡ DataProp = ap (λ (x : Key). x.kind) (some-is e.key h.key (sym is ∙ h.is_key)) ∙ h.datum in
      let count : count_of t m ≡ h.gate.entries = ap entries_in h.is_open in
      let within = h.within in
      let at : slice_get (props_at (world_of s) o) k ≡ Some (prop_in t o m k) =
      ap (λ (x : Object). slice_get x.props k) shown ∙ slice_get-listed (prop_in t o m) (count_of t m) k (omega (arith, within, count)) in
      ap (λ (x : Option Prop). option_map (λ (p : Prop). kind_of p.held) x) at
      ∙ ap Some (ap (λ (p : Prop). kind_of p.held) property ∙ (ap (λ (x : Kind). kind_of (held_in x e.detail.rep w)) kind ∙ data-kind e.detail.rep w))

-- where nothing was done, cells follow
follow-none : {P : Type 0} (a : ObjectsState P) → CellsFollow a a
follow-none a = record {
  cells = λ c was is. subst (λ (x : Option CellWord). IsSomeAnd x (λ now. CellFollows a a was now)) (sym is) (record {
    object = refl;
    invalid = (λ h. inl h, λ any. by was any);
    put = λ valid q through. record { map = refl; proto = refl; props = λ slow. refl };
  });
  none = λ c is. is;
  named = λ o. refl;
  used = refl;
}
  where
    by : (was : CellWord) → IsTrue was.invalid ⊎ ChangesOn a a was.object → IsTrue was.invalid
    by was (inl h) = h
    by was (inr on) = absurd (on.changed (record { map = refl; proto = refl; props = λ slow. refl }))

-- a field that fits is made to fit by nothing
pub fit-none : {P : Type 0} (went : P → List Access → List Access → P → Type 0) → ((p : P) (t : List Access) → went p t t p) → (a : ObjectsState P) → IsObjects a.heap.view a.kept a.of_null → AreCells a.heap.view.trail a.heap.view.used
    → (o i : ℕ) (held : Held) → IsLive a.heap.view.trail o → FitsField a.heap.view.trail o i held → MadeFit went a o i held a
fit-none went stays a sound cells o i held live fits = record {
  bare = a;
  came = record { came = inl (record { fits = fits; still = still-refl a }); fits = fits; live = live };
  sound = sound;
  only = alone-none went stays a sound;
  cells = follow-none a;
  stands = record { objects = sound; cells = cells };
}
