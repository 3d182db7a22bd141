-- Joins of details, and trails in which details alone rise.
use Rattle.std.proofs.Common.{◌≡◌, ℕ, ◌+◌, Bool, true, false, cond, Option, Some, None, List, [], ◌∷◌, refl, sym, ap, ◌∙◌, subst, arith, IsSome}
use Rattle.std.specs.Prelude.{IsTrue, IsSomeAnd}
use Rattle.hc_layout.specs.declared.shape.Shape.{Shape}
use Rattle.hc_layout.specs.declared.words.ArrayWord.{ArrayWord}
use Rattle.hc_layout.specs.declared.words.GateWord.{GateWord}
use Rattle.hc_layout.specs.declared.words.MapBits.{MapBits}
use Rattle.hc_layout.specs.declared.words.RootWord.{RootWord}
use Rattle.hc_value.specs.Field.{in_place_of, is_detail_within, join_of, joined_detail}
use Rattle.hc_value.specs.declared.key.Key.{Key}
use Rattle.hc_value.specs.declared.field.Detail.{Detail}
use Rattle.hc_heap.specs.Writes.{Trail, Write, FieldDetail}
use Rattle.hc_heap.specs.Readings.{gate_in, bits_in, base_in, array_in, entry_key_in, reference_in, owner_in, detail_in, link_key_in, link_child_in, root_in}
use Rattle.hc_heap.specs.Lawful.{IsField, Lawful}
use Rattle.hc_heap.specs.Kept.{Adds}
use Rattle.hc_heap.specs.States.{View, IsHeap}
use Rattle.hc_heap.specs.Frames.{adds-none, adds-one, goes-on-of, same-after}
use Rattle.hc_descs.specs.Entries.{count_of, field_at, key_at}
use Rattle.hc_descs.specs.Copies.{HasArray}
use Rattle.hc_fields.specs.Fields.{raised, raised_from}
use Rattle.hc_links.specs.Chains.{is_key, links_in, newest_of}
use Rattle.hc_tree.specs.Kept.{MapsAreKept, MapsStay}
use Rattle.hc_tree.specs.Tree.{gate_with, IsChildFor, IsTree}
use Rattle.hc_tree.specs.Details.{ChildGets, Reshapes, WritesDetails, detail_of, detail_at, joined_with, joins_in_place}
use Rattle.hc_tree.specs.Growth.{EndsWith, MayGrow, live_of, live_child}
use Rattle.hc_links.specs.Laws.{SameKeysAreEqual}
use Rattle.hc_tree.proofs.Begun.{grow-gate}
use Rattle.hc_tree.proofs.Opened.{live-child}
use Rattle.hc_tree.proofs.Keeping.{same-lives, SameLives, array-kept, child-kept, tree-kept}

-- A detail that is raised

bool-case : (P : Trail → Type 0) (t u : Trail) (b : Bool) → P t → P u → P (cond b t u)
bool-case P t u true h k = h
bool-case P t u false h k = k

raised-by : (P : Trail → Type 0) (o : Option Detail) (t : Trail) (f : ℕ) (d : Detail) → P t → ((e : Detail) → o ≡ Some e → P (FieldDetail f (joined_detail e d) ∷ t)) → P (raised_from o t f d)
raised-by P (Some e) t f d h k = bool-case P t (FieldDetail f (joined_detail e d) ∷ t) (is_detail_within d e) h (k e refl)
raised-by P None t f d h k = h

-- what holds of a trail, and after the join was written, holds after the detail was raised
pub raised-case : (P : Trail → Type 0) (t : Trail) (f : ℕ) (d : Detail) → P t → ((e : Detail) → detail_in t f ≡ Some e → P (FieldDetail f (joined_detail e d) ∷ t)) → P (raised t f d)
raised-case P t f d h k = raised-by P (detail_in t f) t f d h k

-- Trails in which details alone are written

pub raised-writes : (t : Trail) (f : ℕ) (d : Detail) → Adds WritesDetails t (raised t f d)
raised-writes t f d = raised-case (Adds WritesDetails t) t f d (adds-none t) (λ e is. adds-one t (FieldDetail f (joined_detail e d)) tt)

-- all that is read but details
pub record Others : Type 0 where
  pub gate : Option GateWord
  pub bits : MapBits
  pub links : List ℕ
  pub array : ArrayWord
  pub base : Option ℕ
  pub key : Option Key
  pub reference : Option ℕ
  pub owner : Option ℕ
  pub root : RootWord

others_of : Trail → ℕ → Others
others_of t x = record {
  gate = gate_in t x;
  bits = bits_in t x;
  links = links_in t x;
  array = array_in t x;
  base = base_in t x;
  key = entry_key_in t x;
  reference = reference_in t x;
  owner = owner_in t x;
  root = root_in t x;
}

others-step : (x : ℕ) (t : Trail) (w : Write) → WritesDetails t w → others_of (w ∷ t) x ≡ others_of t x
unfolding others_of
others-step x t (FieldDetail f d) h = refl
others-step x t _ h = absurd h

newest-step : (t : Trail) (f : ℕ) (d : Detail) (ls : List ℕ) (key : Key) → newest_of (FieldDetail f d ∷ t) ls key ≡ newest_of t ls key
newest-step t f d [] key = refl
newest-step t f d (l ∷ ls) key = ap (λ (o : Option ℕ). cond (is_key (link_key_in t l) key) (link_child_in t l) o) (newest-step t f d ls key)

of-step : (t : Trail) (f : ℕ) (d : Detail) (o : Option ℕ) → live_of (FieldDetail f d ∷ t) o ≡ live_of t o
of-step t f d (Some c) = refl
of-step t f d None = refl

live-step : (m : ℕ) (key : Key) (t : Trail) (w : Write) → WritesDetails t w → live_child (w ∷ t) m key ≡ live_child t m key
live-step m key t (FieldDetail f d) h = of-step t f d (newest_of (FieldDetail f d ∷ t) (links_in t m) key) ∙ ap (live_of t) (newest-step t f d (links_in t m) key)
live-step m key t _ h = absurd h

module _ (a b : Trail) (h : Adds WritesDetails a b) where
  others-same : (x : ℕ) → others_of b x ≡ others_of a x
  others-same x = same-after (λ (t : Trail). others_of t x) (others-step x) h

  pub live-same : (m : ℕ) (key : Key) → live_child b m key ≡ live_child a m key
  live-same m key = same-after (λ (t : Trail). live_child t m key) (live-step m key) h

  pub lives-same : SameLives a b
  unfolding others_of
  lives-same x = ap (λ (r : Others). r.bits.deprecated) (others-same x)

  pub gates-same : (x : ℕ) → gate_in b x ≡ gate_in a x
  unfolding others_of
  gates-same x = ap (λ (r : Others). r.gate) (others-same x)

  pub bits-same : (x : ℕ) → bits_in b x ≡ bits_in a x
  unfolding others_of
  bits-same x = ap (λ (r : Others). r.bits) (others-same x)

  pub links-same : (x : ℕ) → links_in b x ≡ links_in a x
  unfolding others_of
  links-same x = ap (λ (r : Others). r.links) (others-same x)

  pub owners-same : (x : ℕ) → owner_in b x ≡ owner_in a x
  unfolding others_of
  owners-same x = ap (λ (r : Others). r.owner) (others-same x)

  roots-same : (o : ℕ) → (root_in b o).map ≡ (root_in a o).map
  unfolding others_of
  roots-same o = ap (λ (r : Others). r.root.map) (others-same o)

  arrays-same : (m : ℕ) (g : GateWord) → gate_in a m ≡ Some g → HasArray a m g.entries → HasArray b m g.entries
  unfolding others_of
  arrays-same m g is = array-kept a b m g.entries (ap (λ (r : Others). r.array) (others-same m)) (ap (λ (r : Others). r.base) (others-same m))
      (λ e. ap (λ (r : Others). r.key) (others-same e)) (λ e. ap (λ (r : Others). r.reference) (others-same e))

  -- the tree stays sound
  pub details-tree : MapsAreKept → (s : Shape) → Lawful s a → Lawful s b → IsTree a → IsTree b
  details-tree law s before after tree = tree-kept a b (law s a b before (goes-on-of s h after)) (same-lives a b lives-same) links-same gates-same roots-same arrays-same tree

-- The entry whose field is raised

some-case : {T : Type 0} (P : T → Type 0) (o : Option T) (v : T) → o ≡ Some v → IsSomeAnd o P → P v
some-case P (Some x) v is h = let same : x ≡ v = cc in subst P same h
some-case P None v is h = absurd h

field-same : (t : Trail) (f : ℕ) (d : Detail) (m k : ℕ) → field_at (raised t f d) m k ≡ field_at t m k
field-same t f d m k = raised-case (λ (u : Trail). field_at u m k ≡ field_at t m k) t f d refl (λ e is. refl)

joined-case : (t : Trail) (f : ℕ) (d : Detail) (o : Option Detail) → detail_in t f ≡ o → IsSome o → IsSomeAnd o (λ e. detail_in (raised t f d) f ≡ Some (joined_detail e d)) → detail_in (raised t f d) f ≡ Some (joined_with o d)
joined-case t f d (Some e) is some h = h
joined-case t f d None is some h = absurd h

-- what the field admits then
pub raised-at : (t u : Trail) (f : ℕ) (d : Detail) (m k : ℕ) → u ≡ raised t f d → field_at t m k ≡ Some f → IsField t f → IsSomeAnd (detail_in t f) (λ e. detail_in u f ≡ Some (joined_detail e d)) → detail_at u m k ≡ Some (joined_with (detail_at t m k) d)
raised-at t u f d m k same is made h =
    let here : detail_at t m k ≡ detail_in t f = ap (detail_of t) is in
    let h' = subst (λ (x : Trail). IsSomeAnd (detail_in t f) (λ e. detail_in x f ≡ Some (joined_detail e d))) same h in
    let then : detail_in (raised t f d) f ≡ Some (joined_with (detail_in t f) d) = joined-case t f d (detail_in t f) refl made.detail h' in
    subst (λ (x : Trail). detail_at x m k ≡ Some (joined_with (detail_at t m k) d)) (sym same)
    (ap (detail_of (raised t f d)) (field-same t f d m k ∙ is) ∙ then ∙ ap (λ (o : Option Detail). Some (joined_with o d)) (sym here))

-- a map ends with a key, and with what its last field admits
pub ends-of : (t : Trail) (c n : ℕ) (key : Key) (d : Detail) → key_at t c n ≡ Some key → IsSomeAnd (field_at t c n) (λ f. owner_in t f ≡ Some c) → detail_at t c n ≡ Some d → EndsWith t c n key d
ends-of t c n key d last owned admits = record { last = last; field = by (field_at t c n) owned admits }
  where
    by : (o : Option ℕ) → IsSomeAnd o (λ f. owner_in t f ≡ Some c) → detail_of t o ≡ Some d → IsSomeAnd o (λ f. (owner_in t f ≡ Some c) × (detail_in t f ≡ Some d))
    by (Some f) own is = (own, is)
    by None own is = absurd own

-- the write is the one that the child asks
pub raised-gets : (t : Trail) (used : Shape) (Dies : ℕ → Type 0) (fit : Option ℕ) (c n f : ℕ) (d wanted : Detail) → fit ≡ Some c → field_at t c n ≡ Some f → wanted ≡ joined_with (detail_at t c n) d → Adds (Reshapes used Dies (ChildGets t fit n wanted used.fields)) t (raised t f d)
raised-gets t used Dies fit c n f d wanted is at joins = raised-case (Adds (Reshapes used Dies (ChildGets t fit n wanted used.fields)) t) t f d (adds-none t)
    (λ e was.
    let same : joined_detail e d ≡ wanted = sym (joins ∙ ap (λ (o : Option Detail). joined_with o d) (ap (detail_of t) at ∙ was)) in
    adds-one t (FieldDetail f (joined_detail e d)) (subst (λ (o : Option ℕ). ChildGets t o n wanted used.fields f (joined_detail e d)) (sym is) (at, same)))

-- A child that was found, and whose last field was raised

pub record Raised (v w : View) (c n : ℕ) (d : Detail) : Type 0 where
  pub field : ℕ
  pub at : field_at v.trail c n ≡ Some field
  pub view : w ≡ record v { trail = raised v.trail field d }

pub raised-field : (v w : View) (c n : ℕ) (d : Detail) → IsSomeAnd (field_at v.trail c n) (λ f. w ≡ record v { trail = raised v.trail f d }) → Raised v w c n d
raised-field v w c n d h = by (field_at v.trail c n) refl h
  where
    by : (o : Option ℕ) → field_at v.trail c n ≡ o → IsSomeAnd o (λ f. w ≡ record v { trail = raised v.trail f d }) → Raised v w c n d
    by (Some f) is view = record { field = f; at = is; view = view }
    by None is view = absurd view

module _ (law : MapsAreKept) (v w : View) (m c n : ℕ) (key : Key) (d : Detail) (heap : IsHeap v) (after : IsHeap w) (it : Raised v w c n d) (is_open : gate_in v.trail m ≡ Some (gate_with n false)) (child : IsChildFor v.trail m (gate_with n false) c key) where
  writes : Adds WritesDetails v.trail w.trail
  writes = subst (λ (x : View). Adds WritesDetails v.trail x.trail) (sym it.view) (raised-writes v.trail it.field d)

  kept : MapsStay v.trail w.trail
  kept = law v.shape v.trail w.trail heap.lawful (goes-on-of v.shape writes (subst (λ (s : Shape). Lawful s w.trail) (ap (λ (x : View). x.shape) it.view) after.lawful))

  then : IsChildFor w.trail m (gate_with n false) c key
  then = child-kept v.trail w.trail kept (same-lives v.trail w.trail (lives-same v.trail w.trail writes)) m (gate_with n false) c key is_open child

  pub raised-child : IsSomeAnd (gate_in w.trail m) (λ g. IsChildFor w.trail m g c key)
  raised-child = subst (λ (o : Option GateWord). IsSomeAnd o (λ g. IsChildFor w.trail m g c key)) (sym (kept.written.gate m (gate_with n false) is_open)) then

  pub raised-live : live_child v.trail m key ≡ Some c → live_child w.trail m key ≡ Some c
  raised-live is = live-same v.trail w.trail writes m key ∙ is

  pub raised-ends : detail_at w.trail c n ≡ Some (joined_with (detail_at v.trail c n) d) → EndsWith w.trail c n key (joined_with (detail_at v.trail c n) d)
  raised-ends is = ends-of w.trail c n key (joined_with (detail_at v.trail c n) d) then.last then.field is

  -- what its last field admits then
  pub raised-got : (wanted : Detail) → detail_at w.trail c n ≡ Some wanted → (first f : ℕ) (e : Detail) → ChildGets v.trail (Some c) n wanted first f e → detail_in w.trail f ≡ Some e
  raised-got wanted is first f e got =
      let here : field_at w.trail c n ≡ Some f = (kept.entry c n (gate_with (n + 1) false) child.gate (omega arith)).field ∙ got.0 in
      sym (ap (detail_of w.trail) here) ∙ (is ∙ ap (λ (x : Detail). Some x) (sym got.1))

-- The raise itself

pub place-of : (t : Trail) (m k f : ℕ) (d : Detail) → field_at t m k ≡ Some f → IsTrue (joins_in_place (detail_at t m k) (Some d)) → IsSomeAnd (detail_in t f) (λ e. IsTrue (in_place_of e.rep (join_of e.rep d.rep)))
place-of t m k f d at fits = by (detail_in t f) (subst (λ (o : Option ℕ). IsTrue (joins_in_place (detail_of t o) (Some d))) at fits)
  where
    by : (o : Option Detail) → IsTrue (joins_in_place o (Some d)) → IsSomeAnd o (λ e. IsTrue (in_place_of e.rep (join_of e.rep d.rep)))
    by (Some e) is = is
    by None is = let n : ⊥ = cc in absurd n

pub raised-tree : MapsAreKept → (v w : View) (f : ℕ) (d : Detail) → IsHeap v → IsHeap w → w ≡ record v { trail = raised v.trail f d } → IsTree v.trail → IsTree w.trail
raised-tree law v w f d before after is tree =
    let writes : Adds WritesDetails v.trail w.trail = subst (λ (x : View). Adds WritesDetails v.trail x.trail) (sym is) (raised-writes v.trail f d) in
    details-tree v.trail w.trail writes law v.shape before.lawful (subst (λ (s : Shape). Lawful s w.trail) (ap (λ (x : View). x.shape) is) after.lawful) tree

-- the live child that was read, and what it is
pub record IsFound (t : Trail) (m c : ℕ) (key : Key) : Type 0 where
  pub live : live_child t m key ≡ Some c
  pub gate : gate_in t m ≡ Some (gate_with (count_of t m) false)
  pub child : IsChildFor t m (gate_with (count_of t m) false) c key

pub found-at : SameKeysAreEqual → (v r : View) (m c : ℕ) (key : Key) (l : Option ℕ) → r ≡ v → l ≡ live_child r.trail m key → l ≡ Some c → IsTree v.trail → IsSomeAnd (gate_in v.trail m) MayGrow → IsFound v.trail m c key
found-at law v r m c key l same found is tree grows =
    let live : live_child v.trail m key ≡ Some c = ap (λ (w : View). live_child w.trail m key) (sym same) ∙ (sym found ∙ is) in
    let gate = grow-gate (gate_in v.trail m) grows in
    record { live = live; gate = gate; child = live-child law v.trail m (gate_with (count_of v.trail m) false) key c tree gate live }
