-- What the field of a fast object's property admits is joined with more: the objects are as they were.
use Rattle.std.proofs.Common.{◌≡◌, ℕ, zero, suc, ◌<◌, Bool, true, false, cond, [], ◌∷◌, List, Option, Some, None, length, refl, sym, ap, ◌∙◌, subst, arith}
use Rattle.std.specs.Prelude.{IsSomeAnd}
use Rattle.std.proofs.Math.Nat.{le_refl}
use Rattle.hc_layout.specs.declared.words.GateWord.{GateWord}
use Rattle.hc_layout.specs.declared.words.StoreWord.{StoreWord}
use Rattle.hc_value.specs.Field.{is_detail_within, joined_detail}
use Rattle.hc_value.specs.Prop.{kind_of}
use Rattle.hc_value.specs.declared.field.Detail.{Detail}
use Rattle.hc_value.specs.declared.prop.Held.{Held}
use Rattle.hc_value.specs.declared.prop.Kind.{Kind}
use Rattle.hc_value.specs.declared.prop.Prop.{Prop}
use Rattle.hc_heap.specs.Writes.{Trail, FieldDetail}
use Rattle.hc_heap.specs.Readings.{bits_in, detail_in, gate_in, map_in, root_in, store_in, slot_in}
use Rattle.hc_heap.specs.Kept.{Adds, DetailsRise, UnusedSaysNothing}
use Rattle.hc_heap.specs.Frames.{adds-none, adds-one, goes-on-of}
use Rattle.hc_heap.specs.States.{View, IsHeap}
use Rattle.hc_descs.specs.Entries.{entries_in, field_at}
use Rattle.hc_fields.specs.Fields.{raised, raised_from}
use Rattle.hc_tree.specs.Details.{WritesDetails}
use Rattle.hc_tree.specs.Tree.{IsTree}
use Rattle.hc_tree.specs.Kept.{MapsAreKept}
use Rattle.hc_table.specs.Changes.{kind_at}
use Rattle.hc_table.specs.World.{props_at}
use Rattle.hc_slots.specs.Meaning.{Dictionary, object_shown, fast_props}
use Rattle.hc_slots.specs.Slots.{AreHandedOut, IsIn, Owns}
use Rattle.hc_slots.specs.Fast.{HasMap}
use Rattle.hc_slots.specs.Cases.{not-both, some-is}
use Rattle.hc_modes.specs.Meaning.{kept_of, world}
use Rattle.hc_modes.specs.State.{IsObjects}
use Rattle.hc_value.specs.declared.field.Constness.{Constness}
use Rattle.hc_modes.specs.Admitting.{IsAdmitted, held_detail}
use Rattle.hc_modes.specs.Changes.{Changed, Stepped, Touches, WordsStay}
use Rattle.hc_modes.proofs.Owning.{alone-still}
use Rattle.hc_modes.proofs.Places.{place-fast}
use Rattle.hc_modes.proofs.Prototypes.{same-world, same-sound}
use Rattle.hc_modes.proofs.Staying.{IsLater, later, object-stays, kept-still}
use Rattle.hc_modes.proofs.Writing.{has-map, props-are}

-- a reading that no detail changes is the same after one was raised
pub raised-same : {T : Type 0} (reading : Trail → T) (t : Trail) (f : ℕ) (d : Detail) → ((e : Detail) → reading (FieldDetail f e ∷ t) ≡ reading t) → reading (raised t f d) ≡ reading t
raised-same {T} reading t f d same = by (detail_in t f)
  where
    within : (e : Detail) (b : Bool) → reading (cond b t (FieldDetail f (joined_detail e d) ∷ t)) ≡ reading t
    within e true = refl
    within e false = same (joined_detail e d)

    by : (was : Option Detail) → reading (raised_from was t f d) ≡ reading t
    by None = refl
    by (Some e) = within e (is_detail_within d e)

raised-touches : (v : View) (o : ℕ) (t : Trail) (f : ℕ) (d : Detail) → Adds (Touches v o) t (raised t f d)
raised-touches v o t f d = by (detail_in t f)
  where
    within : (e : Detail) (b : Bool) → Adds (Touches v o) t (cond b t (FieldDetail f (joined_detail e d) ∷ t))
    within e true = adds-none t
    within e false = adds-one t (FieldDetail f (joined_detail e d)) tt

    by : (was : Option Detail) → Adds (Touches v o) t (raised_from was t f d)
    by None = adds-none t
    by (Some e) = within e (is_detail_within d e)

-- details alone are written
pub raised-writes : (t : Trail) (f : ℕ) (d : Detail) → Adds WritesDetails t (raised t f d)
raised-writes t f d = by (detail_in t f)
  where
    within : (e : Detail) (b : Bool) → Adds WritesDetails t (cond b t (FieldDetail f (joined_detail e d) ∷ t))
    within e true = adds-none t
    within e false = adds-one t (FieldDetail f (joined_detail e d)) tt

    by : (was : Option Detail) → Adds WritesDetails t (raised_from was t f d)
    by None = adds-none t
    by (Some e) = within e (is_detail_within d e)

module _ (maps : MapsAreKept) (details : DetailsRise) (unused : UnusedSaysNothing) (v : View) (kept : List (Option Dictionary)) (null : Option ℕ) (h : IsObjects v kept null) (o : ℕ) (there : o < length kept) (fast : kept_of kept o ≡ None) where
  abbrev so : HasMap v.trail o
  so = has-map v kept null h o there fast

  -- the place of a property is one of the map's entries
  pub entry-there : (i : ℕ) (held : Held) → kind_at (props_at (world v.trail kept) o) i ≡ Some (kind_of held) → (m : ℕ) → map_in v.trail o ≡ Some m → IsSomeAnd (gate_in v.trail m) (λ g. i < g.entries)
  entry-there i held kind m is =
      let same : so.map ≡ m = some-is so.map m (sym so.is_map ∙ is) in
      let here : kind_at (fast_props v.trail o so.map) i ≡ Some (kind_of held) = ap (λ (ps : List Prop). kind_at ps i) (sym (props-are v kept null h o there fast)) ∙ kind in
      let lt = place-fast v.trail o so.map i (kind_of held) here in
      subst (λ (x : ℕ). IsSomeAnd (gate_in v.trail x) (λ g. i < g.entries)) same
      (by (gate_in v.trail so.map) so.gate so.fast.is_open lt)
    where
      by : (x : Option GateWord) (g : GateWord) → x ≡ Some g → i < entries_in x → IsSomeAnd x (λ g. i < g.entries)
      by (Some y) g is lt = lt
      by None g is lt = let n : ⊥ = cc in absurd n

  module _ (f : ℕ) (d : Detail) (tree : IsTree (raised v.trail f d)) (heap : IsHeap (record v { trail = raised v.trail f d })) where
    abbrev then : View
    then = record v { trail = raised v.trail f d }

    after : IsLater v.trail then.trail
    after = later maps details v.shape v.trail then.trail h.heap.lawful (goes-on-of v.shape (raised-touches v o v.trail f d) heap.lawful)

    store-same : store_in then.trail o ≡ store_in v.trail o
    store-same = raised-same (λ (t : Trail). store_in t o) v.trail f d (λ e. refl)

    map-same : map_in then.trail o ≡ map_in v.trail o
    map-same = raised-same (λ (t : Trail). map_in t o) v.trail f d (λ e. refl)

    gate-same : (k : ℕ) → gate_in then.trail k ≡ gate_in v.trail k
    gate-same k = raised-same (λ (t : Trail). gate_in t k) v.trail f d (λ e. refl)

    stay : WordsStay v.trail then.trail o
    stay = record {
      map = map-same;
      store = store-same;
      slots = λ s owns. raised-same (λ (t : Trail). slot_in t s) v.trail f d (λ e. refl);
      proto = raised-same (λ (t : Trail). (root_in t o).is_proto) v.trail f d (λ e. refl);
    }

    pub admit-changed : Changed v then o
    admit-changed = record { writes = raised-touches v o v.trail f d; shape = refl; slots = le_refl v.used.slots; tree = tree; heap = heap }

    step : Stepped v then None o (object_shown v.trail o (kept_of kept o) (map_in v.trail o))
    step = record {
      changed = record { writes = raised-touches v o v.trail f d; shape = refl; slots = le_refl v.used.slots; tree = tree; heap = heap };
      well = record {
        as_kept = kept-still v.trail then.trail after o None stay so;
        store = subst (λ (w : StoreWord). AreHandedOut v.used.slots w) (sym store-same) (h.stores o);
        owns = λ s owns lt. subst (λ (w : StoreWord). IsIn w s) store-same owns;
        alone = λ p k g other is was gate. alone-still unused v h.heap kept null h o p k g other (sym map-same ∙ is) was (sym (gate-same k) ∙ gate);
      };
      opens = λ k g none gate shared parent. not-both (gate_in v.trail k) g none (sym (gate-same k) ∙ gate);
      value = object-stays v.trail then.trail after o None stay so ∙ ap (λ (x : Option Dictionary). object_shown v.trail o x (map_in v.trail o)) (sym fast);
    }

    pub admit-world : world (raised v.trail f d) kept ≡ world v.trail kept
    admit-world = same-world maps details v then kept null h None o there step fast

    pub admit-sound : IsObjects (record v { trail = raised v.trail f d }) kept null
    admit-sound = same-sound maps details v then kept null h None o there step fast refl

-- the field that was raised, of an entry
pub record RaisedTo (v w : View) (m i : ℕ) (d : Detail) : Type 0 where
  pub field : ℕ
  pub at : field_at v.trail m i ≡ Some field
  pub view : w ≡ record v { trail = raised v.trail field d }

pub raised-to : (v w : View) (m i : ℕ) (d : Detail) → IsSomeAnd (field_at v.trail m i) (λ f. w ≡ record v { trail = raised v.trail f d }) → RaisedTo v w m i d
raised-to v w m i d h = by (field_at v.trail m i) refl h
  where
    by : (o : Option ℕ) → field_at v.trail m i ≡ o → IsSomeAnd o (λ f. w ≡ record v { trail = raised v.trail f d }) → RaisedTo v w m i d
    by (Some f) is view = record { field = f; at = is; view = view }
    by None is view = absurd view

-- what an object's field was asked to admit changed neither bits, nor maps, nor roots
module _ (old new : View) (o i : ℕ) (held : Held) (constness : Constness) (it : IsAdmitted old new o i held constness) where
  pub admitted-bits : (m : ℕ) → bits_in new.trail m ≡ bits_in old.trail m
  admitted-bits m = ap (λ (v : View). bits_in v.trail m) it.view ∙ raised-same (λ (t : Trail). bits_in t m) old.trail it.field (held_detail old.trail held constness) (λ e. refl)

  pub admitted-maps : (q : ℕ) → map_in new.trail q ≡ map_in old.trail q
  admitted-maps q = ap (λ (v : View). map_in v.trail q) it.view ∙ raised-same (λ (t : Trail). map_in t q) old.trail it.field (held_detail old.trail held constness) (λ e. refl)

  pub admitted-owns : (s : ℕ) → Owns new.trail o s → s < old.used.slots → Owns old.trail o s
  admitted-owns s owns lt =
      let store : store_in new.trail o ≡ store_in old.trail o = ap (λ (v : View). store_in v.trail o) it.view ∙ raised-same (λ (t : Trail). store_in t o) old.trail it.field (held_detail old.trail held constness) (λ e. refl) in
      subst (λ (w : StoreWord). IsIn w s) store owns

  pub admitted-roots : (q : ℕ) → root_in new.trail q ≡ root_in old.trail q
  admitted-roots q = ap (λ (v : View). root_in v.trail q) it.view ∙ raised-same (λ (t : Trail). root_in t q) old.trail it.field (held_detail old.trail held constness) (λ e. refl)

-- where a list has a property of a kind
pub kind-place : (ps : List Prop) (i : ℕ) (k : Kind) → kind_at ps i ≡ Some k → i < length ps
kind-place [] i k e = let n : None ≡ Some k = e in let f : ⊥ = cc in absurd f
kind-place (p ∷ ps) zero k e = omega arith
kind-place (p ∷ ps) (suc i) k e = let h = kind-place ps i k e in omega (arith, h)
