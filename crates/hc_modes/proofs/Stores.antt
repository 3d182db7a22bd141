-- A store to a property of a fast object keeps fields honest, and constants constant.
use Rattle.std.proofs.Common.{◌≡◌, ◌≢◌, ◌⊎◌, ℕ, ◌+◌, ◌<◌, Bool, true, false, cond, ◌∷◌, List, Option, Some, None, length, refl, sym, ap, ◌∙◌, subst, arith, eq-eqb, inl, inr, IsSome}
use Rattle.std.specs.Prelude.{IsTrue, IsSomeAnd, slice_get}
use Rattle.hc_layout.specs.declared.words.StoreWord.{StoreWord}
use Rattle.hc_value.specs.Field.{is_class_within, is_constness_within, is_detail_within, is_within, joined_detail}
use Rattle.hc_value.specs.Prop.{kind_of}
use Rattle.hc_value.specs.declared.field.Constness.{Constness}
use Rattle.hc_value.specs.declared.field.Constness.TheVariants.{Const, Mutable}
use Rattle.hc_value.specs.declared.field.Detail.{Detail}
use Rattle.hc_value.specs.Field.{in_place_of}
use Rattle.hc_value.specs.declared.field.Rep.{Rep}
use Rattle.hc_value.specs.declared.key.Key.{Key}
use Rattle.hc_value.specs.declared.prop.Held.{Held}
use Rattle.hc_value.specs.declared.prop.Held.TheVariants.{Datum, Pair}
use Rattle.hc_value.specs.declared.prop.Kind.{Kind}
use Rattle.hc_value.specs.declared.prop.Kind.TheVariants.{AccessorProp, DataProp}
use Rattle.hc_value.specs.declared.prop.Prop.{Prop}
use Rattle.hc_heap.specs.Kept.{DetailsRise, FormsAreKept}
use Rattle.hc_heap.specs.Lawful.{IsField, IsFormOf, RisesTo, word_from}
use Rattle.hc_heap.specs.Readings.{detail_in, map_in, store_in, slot_in}
use Rattle.hc_heap.specs.States.{View}
use Rattle.hc_heap.specs.Writes.{FieldDetail, Slot, Trail}
use Rattle.hc_descs.specs.Entries.{count_of, detail_of, detail_at, field_at, key_at}
use Rattle.hc_facts.specs.Honest.{HasDatum, IsCarried, IsFilled, IsGiven, detail_for, value_in}
use Rattle.hc_facts.specs.Laws.{HonestAfter, KeptIsCarried, StoredIsGiven, StoringKeepsConstants}
use Rattle.hc_fields.specs.Fields.{raised, raised_from}
use Rattle.hc_tree.specs.Kept.{MapsAreKept}
use Rattle.hc_table.specs.Changes.{kind_at}
use Rattle.hc_table.specs.World.{props_at}
use Rattle.hc_slots.specs.Cases.{cond-other, same-or, some-is, some-of, some-and}
use Rattle.hc_slots.specs.Fast.{HasMap}
use Rattle.hc_slots.specs.Listed.{slice_get-listed}
use Rattle.hc_slots.specs.Meaning.{Dictionary, IsConstnessFor, fast_props, held_in, prop_in, prop_of, slot_word}
use Rattle.hc_modes.specs.Admitting.{FactsStay, HasRep, IsAdmitted, IsAsked, IsStored, held_detail}
use Rattle.hc_modes.specs.Details.{DetailsAre, WroteGets}
use Rattle.hc_modes.specs.Changes.{Changed}
use Rattle.hc_modes.specs.Meaning.{kept_of, world}
use Rattle.hc_modes.specs.State.{IsObjects}
use Rattle.hc_modes.proofs.Admitted.{raised-same}
use Rattle.hc_modes.proofs.Asked.{detail-right, join-held, raised-is, raised-other}
use Rattle.hc_modes.proofs.Facts.{at-some, goes, one-constants, one-honest}
use Rattle.hc_modes.proofs.Places.{kind-fast, place-fast}
use Rattle.hc_modes.proofs.Fitting.{parts, rep-at, value-held}
use Rattle.hc_modes.proofs.Rising.{form-rises, held-rises}
use Rattle.hc_modes.proofs.Sound.{is-later}
use Rattle.hc_modes.proofs.Staying.{IsLater}
use Rattle.hc_modes.proofs.Writing.{count-is, has-map, props-are}

-- What was asked is admitted

raised-by : (o : Option Detail) (t : Trail) (f : ℕ) (d y : Detail) → detail_in t f ≡ o → IsSome o → detail_in (raised_from o t f d) f ≡ Some y → IsTrue (is_detail_within d y)
raised-by (Some e) t f d y is some now = by (is_detail_within d e) refl now
  where
    by : (b : Bool) → is_detail_within d e ≡ b → detail_in (cond b t (FieldDetail f (joined_detail e d) ∷ t)) f ≡ Some y → IsTrue (is_detail_within d y)
    by true within now = subst (λ (z : Detail). IsTrue (is_detail_within d z)) (some-is e y (sym is ∙ now)) within
    by false within now =
        let here : detail_in (FieldDetail f (joined_detail e d) ∷ t) f ≡ Some (joined_detail e d) = ap (λ (b : Bool). cond b (Some (joined_detail e d)) (detail_in t f)) (eq-eqb f f refl) in
        subst (λ (z : Detail). IsTrue (is_detail_within d z)) (some-is (joined_detail e d) y (sym here ∙ now)) (detail-right e d)
raised-by None t f d y is some now = let n : ⊥ = cc in absurd n

-- a detail that was raised admits what was asked
raised-admits : (t : Trail) (f : ℕ) (d y : Detail) → IsSome (detail_in t f) → detail_in (raised t f d) f ≡ Some y → IsTrue (is_detail_within d y)
raised-admits t f d y some now = raised-by (detail_in t f) t f d y refl some now

const-of : (a b : Constness) → IsTrue (is_constness_within a b) → b ≡ Const → a ≡ Const
const-of Const b h e = refl
const-of Mutable Const h e = let n : ⊥ = cc in absurd n
const-of Mutable Mutable h e = let n : ⊥ = cc in absurd n

-- Slots

word-raised : (t : Trail) (f : ℕ) (d : Detail) (first : Option ℕ) (k : ℕ) → word_from (raised t f d) first k ≡ word_from t first k
word-raised t f d (Some x) k = raised-same (λ (u : Trail). slot_in u (x + k)) t f d (λ e. refl)
word-raised t f d None k = refl

slot-raised : (t : Trail) (f : ℕ) (d : Detail) (o k : ℕ) → slot_word (raised t f d) o k ≡ slot_word t o k
slot-raised t f d o k = ap (λ (w : StoreWord). word_from (raised t f d) w.first k) (raised-same (λ (u : Trail). store_in u o) t f d (λ e. refl)) ∙ word-raised t f d (store_in t o).first k

module _ (w x : View) (o i : ℕ) (held : Held) (rep : Rep) (it : IsStored w x o i held rep) where
  stored-here : slot_word x.trail o i ≡ it.word
  stored-here =
      ap (λ (v : View). slot_word v.trail o i) it.view
      ∙ (ap (λ (y : Option ℕ). word_from (Slot (it.first + i) it.word ∷ w.trail) y i) it.is_first
      ∙ ap (λ (b : Bool). cond b it.word (slot_in w.trail (it.first + i))) (eq-eqb (it.first + i) (it.first + i) refl))

  stored-other : (k : ℕ) → k ≢ i → slot_word x.trail o k ≡ slot_word w.trail o k
  stored-other k other =
      ap (λ (v : View). slot_word v.trail o k) it.view
      ∙ (ap (λ (y : Option ℕ). word_from (Slot (it.first + i) it.word ∷ w.trail) y k) it.is_first
      ∙ (cond-other (it.first + i) (it.first + k) it.word (slot_in w.trail (it.first + k)) (λ e. other (omega (arith, e)))
      ∙ sym (ap (λ (y : Option ℕ). word_from w.trail y k) it.is_first)))

-- The store

module _ (maps : MapsAreKept) (details : DetailsRise) (forms : FormsAreKept)
    (v w x : View) (kept : List (Option Dictionary)) (null : Option ℕ) (h : IsObjects v kept null) (o : ℕ) (there : o < length kept) (fast : kept_of kept o ≡ None) (i : ℕ) (held : Held)
    (kind : kind_at (props_at (world v.trail kept) o) i ≡ Some (kind_of held)) (it : IsAsked v w o i held) (rep : Rep) (has : HasRep w.trail o i rep) (st : IsStored w x o i held rep) (changed : Changed v x o) where
  abbrev constness : Constness
  constness = it.constness

  abbrev ad : IsAdmitted v w o i held it.constness
  ad = it.admitted

  after : IsLater v.trail x.trail
  after = is-later maps details v x o h.heap changed

  map-same : map_in x.trail o ≡ map_in v.trail o
  map-same = ap (λ (y : View). map_in y.trail o) st.view ∙ (ap (λ (y : View). map_in y.trail o) ad.view ∙ raised-same (λ (t : Trail). map_in t o) v.trail ad.field (held_detail v.trail held constness) (λ e. refl))

  word-v : (k : ℕ) → slot_word w.trail o k ≡ slot_word v.trail o k
  word-v k = ap (λ (y : View). slot_word y.trail o k) ad.view ∙ slot-raised v.trail ad.field (held_detail v.trail held constness) o k

  word-other : (k : ℕ) → k ≢ i → slot_word x.trail o k ≡ slot_word v.trail o k
  word-other k other = stored-other w x o i held rep st k other ∙ word-v k

  detail-x : (f : ℕ) → detail_in x.trail f ≡ detail_in (raised v.trail ad.field (held_detail v.trail held constness)) f
  detail-x f = ap (λ (y : View). detail_in y.trail f) st.view ∙ ap (λ (y : View). detail_in y.trail f) ad.view

  abbrev so : HasMap v.trail o
  so = has-map v kept null h o there fast

  kind-here : kind_at (fast_props v.trail o so.map) i ≡ Some (kind_of held)
  kind-here = ap (λ (ps : List Prop). kind_at ps i) (sym (props-are v kept null h o there fast)) ∙ kind

  lt : i < so.gate.entries
  lt = subst (λ (n : ℕ). i < n) (count-is v kept null h o there fast) (place-fast v.trail o so.map i (kind_of held) kind-here)

  -- the entry, before and afterwards
  pub record AtPlace (m f : ℕ) : Type 0 where
    pub is_map : m ≡ so.map
    pub is_field : f ≡ ad.field
    pub field : field_at v.trail so.map i ≡ Some f
    pub made : IsSome (detail_in v.trail f)

  at-place : (m f : ℕ) → map_in v.trail o ≡ Some m → field_at v.trail m i ≡ Some f → AtPlace m f
  at-place m f has at =
      let is : m ≡ so.map = some-is m so.map (sym has ∙ so.is_map) in
      let here : field_at v.trail so.map i ≡ Some f = ap (λ (y : ℕ). field_at v.trail y i) (sym is) ∙ at in
      let other : ad.map ≡ so.map = some-is ad.map so.map (sym ad.has ∙ so.is_map) in
      let field : ad.field ≡ f = some-is ad.field f (sym ad.is_field ∙ (ap (λ (y : ℕ). field_at v.trail y i) other ∙ here)) in
      let entry = some-and (field_at v.trail so.map i) (λ y. IsField v.trail y) ((after.maps.opened so.map so.gate so.fast.is_open).entries.fields i lt) in
      let same_field : entry.0 ≡ f = some-is entry.0 f (sym entry.1.0 ∙ here) in
      record { is_map = is; is_field = sym field; field = here; made = subst (λ (y : ℕ). IsSome (detail_in v.trail y)) same_field entry.1.1.detail }

  -- what was asked is admitted
  admits-asked : (m f : ℕ) (d : Detail) → AtPlace m f → detail_in x.trail f ≡ Some d → IsTrue (is_detail_within (held_detail v.trail held constness) d)
  admits-asked m f d at now =
      raised-admits v.trail ad.field (held_detail v.trail held constness) d (subst (λ (y : ℕ). IsSome (detail_in v.trail y)) at.is_field at.made)
      (sym (detail-x ad.field) ∙ (ap (detail_in x.trail) (sym at.is_field) ∙ now))

  -- the representation of the field afterwards
  rep-now : (f : ℕ) (d : Detail) → AtPlace so.map f → detail_in x.trail f ≡ Some d → d.rep ≡ rep
  rep-now f d at now =
      let map : map_in w.trail o ≡ Some so.map = ap (λ (y : View). map_in y.trail o) ad.view ∙ (raised-same (λ (t : Trail). map_in t o) v.trail ad.field (held_detail v.trail held constness) (λ e. refl) ∙ so.is_map) in
      let field : field_at w.trail so.map i ≡ Some f = ap (λ (y : View). field_at y.trail so.map i) ad.view ∙ (raised-same (λ (t : Trail). field_at t so.map i) v.trail ad.field (held_detail v.trail held constness) (λ e. refl) ∙ at.field) in
      let same : detail_in w.trail f ≡ detail_in x.trail f = sym (ap (λ (y : View). detail_in y.trail f) st.view) in
      rep-at w.trail o so.map i rep d has map (ap (detail_of w.trail) field ∙ (same ∙ now))

  -- the key's kind
  kinds : (key : Key) → key_at v.trail so.map i ≡ Some key → key.kind ≡ kind_of held
  kinds key is =
      let entry = some-and (field_at v.trail so.map i) (λ y. IsField v.trail y) ((after.maps.opened so.map so.gate so.fast.is_open).entries.fields i lt) in
      let e = some-of (detail_in v.trail entry.0) entry.1.1.detail in
      kind-fast v.trail o so.map i (kind_of held) key e.0 is (ap (detail_of v.trail) entry.1.0 ∙ e.1) kind-here

  here-given : StoredIsGiven → (f : ℕ) (d : Detail) → AtPlace so.map f → DataProp ≡ kind_of held → detail_in x.trail f ≡ Some d → IsGiven v.trail x.trail o i d
  here-given gives f d at is_data now = by held refl
    where
      by : (y : Held) → held ≡ y → IsGiven v.trail x.trail o i d
      by (Datum val) is =
          let within : IsTrue (is_detail_within (detail_for v.trail val constness) d) = subst (λ (y : Held). IsTrue (is_detail_within (held_detail v.trail y constness) d)) is (admits-asked so.map f d at now) in
          let holds : held_in DataProp rep st.word ≡ Datum val = subst (λ (y : Held). held_in (kind_of y) rep st.word ≡ y) is st.holds in
          let here : held_in DataProp d.rep st.word ≡ Datum val = ap (λ (r : Rep). held_in DataProp r st.word) (rep-now f d at now) ∙ holds in
          gives v.trail x.trail o i val constness d
          (ap (value_in d.rep) (stored-here w x o i held rep st) ∙ value-held d.rep st.word val here) within
      by (Pair a b) is = let kind_is : DataProp ≡ AccessorProp = is_data ∙ ap kind_of is in let n : ⊥ = cc in absurd n

  filled : KeptIsCarried → StoredIsGiven → IsFilled v.trail x.trail o
  filled carried gives m k f d datum now = same-or k i (IsCarried v.trail x.trail o k d ⊎ IsGiven v.trail x.trail o k d)
      (λ is.
      let has : map_in v.trail o ≡ Some m = sym map-same ∙ datum.has in
      let to : m ≡ so.map = some-is m so.map (sym has ∙ so.is_map) in
      let entry = after.maps.entry so.map i so.gate so.fast.is_open lt in
      let key : key_at v.trail so.map i ≡ Some datum.key = sym entry.key ∙ (ap (λ (y : ℕ). key_at x.trail y i) (sym to) ∙ (ap (key_at x.trail m) (sym is) ∙ datum.is_key)) in
      let field : field_at v.trail so.map i ≡ Some f = sym entry.field ∙ (ap (λ (y : ℕ). field_at x.trail y i) (sym to) ∙ (ap (field_at x.trail m) (sym is) ∙ datum.field)) in
      let at : AtPlace so.map f = at-place so.map f so.is_map field in
      subst (λ (y : ℕ). IsCarried v.trail x.trail o y d ⊎ IsGiven v.trail x.trail o y d) (sym is)
      (inr (here-given gives f d at (sym datum.datum ∙ kinds datum.key key) now)))
      (λ other. inl (carried v.shape v.trail x.trail o m k f d h.heap.lawful (goes maps details forms v x kept null h o changed) map-same (word-other k other) datum now))

  -- what the field admitted, and what the property held
  place-admits : (f : ℕ) → field_at v.trail so.map i ≡ Some f → detail_in v.trail f ≡ Some it.detail
  place-admits f at = ap (detail_in v.trail) (at-place so.map f so.is_map at).is_field ∙ it.was

  the-key : (key : Key) × (key_at v.trail so.map i ≡ Some key)
  the-key = some-of (key_at v.trail so.map i) ((after.maps.opened so.map so.gate so.fast.is_open).entries.keys i lt)

  the-field : (f : ℕ) × (field_at v.trail so.map i ≡ Some f)
  the-field = let entry = some-and (field_at v.trail so.map i) (λ y. IsField v.trail y) ((after.maps.opened so.map so.gate so.fast.is_open).entries.fields i lt) in (entry.0, entry.1.0)

  place-held : (was : Prop) → slice_get (props_at (world v.trail kept) o) i ≡ Some was → was.held ≡ held_in (kind_of held) it.detail.rep (slot_word v.trail o i)
  place-held was is =
      let admits : detail_at v.trail so.map i ≡ Some it.detail = ap (detail_of v.trail) the-field.1 ∙ place-admits the-field.0 the-field.1 in
      let prop : prop_in v.trail o so.map i ≡ prop_of (Some the-key.0) (Some it.detail) (slot_word v.trail o i) =
      ap (λ (y : Option Key). prop_of y (detail_at v.trail so.map i) (slot_word v.trail o i)) the-key.1 ∙ ap (λ (y : Option Detail). prop_of (Some the-key.0) y (slot_word v.trail o i)) admits in
      let same : was ≡ prop_in v.trail o so.map i = some-is was (prop_in v.trail o so.map i) (sym is ∙ (ap (λ (ps : List Prop). slice_get ps i) (props-are v kept null h o there fast)
      ∙ slice_get-listed (prop_in v.trail o so.map) (count_of v.trail so.map) i (place-fast v.trail o so.map i (kind_of held) kind-here))) in
      ap (λ (p : Prop). p.held) (same ∙ prop) ∙ ap (λ (k : Kind). held_in k it.detail.rep (slot_word v.trail o i)) (kinds the-key.0 the-key.1)

  -- what is held already has the word that it has
  word-kept : (m f : ℕ) (d : Detail) → HasDatum v.trail o m i f → detail_in x.trail f ≡ Some d → d.constness ≡ Const → slot_word x.trail o i ≡ slot_word v.trail o i
  word-kept m f d datum now const = by held refl
    where
      at : AtPlace m f
      at = at-place m f datum.has datum.field

      key : key_at v.trail so.map i ≡ Some datum.key
      key = ap (λ (y : ℕ). key_at v.trail y i) (sym at.is_map) ∙ datum.is_key

      data_is : DataProp ≡ kind_of held
      data_is = sym datum.datum ∙ kinds datum.key key

      admits : detail_in v.trail f ≡ Some it.detail
      admits = place-admits f at.field

      by : (y : Held) → held ≡ y → slot_word x.trail o i ≡ slot_word v.trail o i
      by (Datum val) is =
          let within : IsTrue (is_detail_within (detail_for v.trail val constness) d) = subst (λ (y : Held). IsTrue (is_detail_within (held_detail v.trail y constness) d)) is (admits-asked m f d at now) in
          let asks : Detail = detail_for v.trail val constness in
          let constant : constness ≡ Const = const-of constness d.constness (parts (is_within asks.rep d.rep) (is_constness_within constness d.constness) (is_class_within asks.class d.class) within).1 const in
          let rises : RisesTo it.detail d = at-some (RisesTo it.detail) (detail_in x.trail f) d now (after.details f it.detail admits) in
          let place : IsTrue (in_place_of it.detail.rep rep) = subst (λ (r : Rep). IsTrue (in_place_of it.detail.rep r)) (rep-now f d (subst (λ (y : ℕ). AtPlace y f) at.is_map at) now) rises.in_place in
          let already : held_in (kind_of held) it.detail.rep (slot_word v.trail o i) ≡ held =
          subst (λ (c : Constness). IsConstnessFor it.detail.constness (held_in (kind_of held) it.detail.rep (slot_word v.trail o i)) held c) constant it.right in
          let holds : held_in (kind_of held) rep (slot_word v.trail o i) ≡ held = held-rises (kind_of held) it.detail.rep rep (slot_word v.trail o i) place ∙ already in
          let slot = some-and (key_at v.trail so.map i) (λ y. IsSomeAnd (field_at v.trail so.map i) (λ z. IsSomeAnd (detail_in v.trail z) (λ u. IsFormOf y.kind u.rep (slot_word v.trail o i)))) (so.fast.holds.slots i lt) in
          let the_key : slot.0 ≡ datum.key = some-is slot.0 datum.key (sym slot.1.0 ∙ key) in
          let its_field = some-and (field_at v.trail so.map i) (λ z. IsSomeAnd (detail_in v.trail z) (λ u. IsFormOf slot.0.kind u.rep (slot_word v.trail o i))) slot.1.1 in
          let the_field : its_field.0 ≡ f = some-is its_field.0 f (sym its_field.1.0 ∙ at.field) in
          let form_e : IsFormOf slot.0.kind it.detail.rep (slot_word v.trail o i) = at-some (λ (u : Detail). IsFormOf slot.0.kind u.rep (slot_word v.trail o i)) (detail_in v.trail its_field.0) it.detail (ap (detail_in v.trail) the_field ∙ admits) its_field.1.1 in
          let form : IsFormOf (kind_of held) rep (slot_word v.trail o i) =
          subst (λ (y : Kind). IsFormOf y rep (slot_word v.trail o i)) (ap (λ (k : Key). k.kind) the_key ∙ (datum.datum ∙ data_is)) (form-rises slot.0.kind it.detail.rep rep (slot_word v.trail o i) place form_e) in
          stored-here w x o i held rep st ∙ sym (st.alone (slot_word v.trail o i) form holds)
      by (Pair a b) is = let kind_is : DataProp ≡ AccessorProp = data_is ∙ ap kind_of is in let n : ⊥ = cc in absurd n

  pub store-facts : HonestAfter → KeptIsCarried → StoredIsGiven → StoringKeepsConstants → FactsStay v.shape v.trail x.trail
  store-facts honest carried gives stores = record {
    goes = goes maps details forms v x kept null h o changed;
    constants = one-constants maps details forms v x kept null h o changed (stores v.trail x.trail o i word-other word-kept);
    honest = one-honest maps details forms v x kept null h o changed honest carried (filled carried gives);
  }

  -- What the field gets, and that no other one changes

  store-gets : (f : ℕ) (d : Detail) → WroteGets v.trail kept o i held f d → detail_in x.trail f ≡ Some d
  store-gets f d got =
      let map : so.map ≡ got.map = some-is so.map got.map (sym so.is_map ∙ got.has) in
      let at : AtPlace so.map f = at-place so.map f so.is_map (ap (λ (y : ℕ). field_at v.trail y i) map ∙ got.field) in
      let before : got.before ≡ it.detail = some-is got.before it.detail (sym got.admitted ∙ place-admits f at.field) in
      let right : IsConstnessFor it.detail.constness (held_in (kind_of held) it.detail.rep (slot_word v.trail o i)) held got.constness =
      subst (λ (y : Held). IsConstnessFor it.detail.constness y held got.constness) (place-held got.was got.property) (subst (λ (y : Detail). IsConstnessFor y.constness got.was.held held got.constness) before got.right) in
      detail-x f ∙ (ap (detail_in (raised v.trail ad.field (held_detail v.trail held constness))) at.is_field
      ∙ (raised-is v.trail ad.field (held_detail v.trail held constness) it.detail it.was
      ∙ ap (λ (y : Detail). Some y) (join-held v.trail it.detail (held_in (kind_of held) it.detail.rep (slot_word v.trail o i)) held constness got.constness it.right right
      ∙ (ap (λ (y : Detail). joined_detail y (held_detail v.trail held got.constness)) (sym before) ∙ sym got.joined))))

  store-rest : (f : ℕ) → ((d : Detail) → WroteGets v.trail kept o i held f d → ⊥) → detail_in x.trail f ≡ detail_in v.trail f
  store-rest f none = detail-x f ∙ same-or f ad.field (detail_in (raised v.trail ad.field (held_detail v.trail held constness)) f ≡ detail_in v.trail f)
      (λ is.
      let map : ad.map ≡ so.map = some-is ad.map so.map (sym ad.has ∙ so.is_map) in
      let field : field_at v.trail so.map i ≡ Some f = ap (λ (y : ℕ). field_at v.trail y i) (sym map) ∙ (ad.is_field ∙ ap (λ (y : ℕ). Some y) (sym is)) in
      let property = slice_get-listed (prop_in v.trail o so.map) (count_of v.trail so.map) i (place-fast v.trail o so.map i (kind_of held) kind-here) in
      let there_is : slice_get (props_at (world v.trail kept) o) i ≡ Some (prop_in v.trail o so.map i) = ap (λ (ps : List Prop). slice_get ps i) (props-are v kept null h o there fast) ∙ property in
      absurd (none (joined_detail it.detail (held_detail v.trail held constness)) (record {
        fast = fast;
        map = so.map;
        has = so.is_map;
        field = field;
        before = it.detail;
        admitted = place-admits f field;
        was = prop_in v.trail o so.map i;
        property = there_is;
        constness = constness;
        right = subst (λ (y : Held). IsConstnessFor it.detail.constness y held constness) (sym (place-held (prop_in v.trail o so.map i) there_is)) it.right;
        joined = refl;
      })))
      (raised-other v.trail ad.field (held_detail v.trail held constness) f)

  pub store-details : DetailsAre (WroteGets v.trail kept o i held) v.trail x.trail
  store-details = record { gets = store-gets; rest = store-rest }
