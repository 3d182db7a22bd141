-- A map that is updated: fields that are raised, a map that is cut, and new maps.
use Rattle.std.proofs.Common.{◌≡◌, ◌≢◌, ℕ, ◌+◌, ◌<◌, ◌≤◌, Bool, true, false, cond, ltb, ltb-true, ltb-false, lt-ltb, Option, Some, None, [], ◌∷◌, IsSome, refl, sym, ap, ◌∙◌, subst, arith, inl, inr, ⊎_elim}
use Rattle.std.specs.Prelude.{IsSomeAnd}
use Rattle.hc_layout.specs.declared.shape.Shape.{Shape}
use Rattle.hc_layout.specs.declared.words.GateWord.{GateWord}
use Rattle.hc_layout.specs.declared.words.MapBits.{MapBits}
use Rattle.hc_value.specs.Field.{in_place_of, join_of}
use Rattle.hc_value.specs.declared.field.Detail.{Detail}
use Rattle.hc_value.specs.declared.key.Key.{Key}
use Rattle.hc_heap.specs.Writes.{Trail, FieldDetail}
use Rattle.hc_heap.specs.Readings.{gate_in, parent_in, prototype_in, bits_in, owner_in, detail_in}
use Rattle.hc_heap.specs.Kept.{Adds, SetIsKept, UnusedSaysNothing}
use Rattle.hc_heap.specs.Lawful.{IsField}
use Rattle.hc_heap.specs.Frames.{adds-on, adds-wider, goes-still}
use Rattle.hc_heap.specs.States.{View, IsHeap}
use Rattle.hc_descs.specs.Entries.{count_of, entries_in, field_at, key_at}
use Rattle.hc_links.specs.Chains.{links_in}
use Rattle.hc_tree.specs.Kept.{MapsAreKept}
use Rattle.hc_tree.specs.Tree.{IsTree, gate_with}
use Rattle.hc_tree.specs.Needs.{HasSpace, IsNoLess, arrays_upto, build_need, walk_need}
use Rattle.hc_tree.specs.Growth.{live_child}
use Rattle.hc_tree.specs.Details.{NoMap, Reshapes, detail_at, detail_of, fits_at, joins_in_place}
use Rattle.hc_tree.specs.Frames.{details-by, details-same, reshapes-dies, reshapes-later}
use Rattle.hc_tree.specs.Walking.{IsOwnedFrom, AreJoined, ancestor, GetsJoin, GetsWanted, HasFirstKeys, IsBuilt, IsLiveEnd, joined_at, both_details, wanted_at}
use Rattle.hc_tree.specs.declared.retarget.Wanted.TheVariants.{Joined}
use Rattle.hc_update.specs.Renewing.{IsCut, IsDoomed, IsRenewed}
use Rattle.hc_update.specs.Updating.{IsSomeRoot, IsStop, IsUpdated, UpdateGets, updated_at}
use Rattle.hc_update.proofs.Cuts.{ancestor-same, and-then, field-used, of-same}
use Rattle.hc_update.proofs.Within.{joined-admits}
use Rattle.hc_tree.specs.Dying.{IsDead}
use Rattle.hc_update.proofs.Renewed.{after-cut, cut-ends, cut-key, cut-keys, cut-reading, renewed, renewed-kept}

no-less-same : (a b : Shape) → b ≡ a → IsNoLess a b
no-less-same a b is = subst (λ (s : Shape). IsNoLess a s) (sym is) (record { maps = omega arith; entries = omega arith; fields = omega arith; links = omega arith; slots = omega arith })

-- whether what fields admit joins in place
pub fits-is : (t : Trail) (end m k : ℕ) (e d : Detail) → detail_at t end k ≡ Some e → detail_at t m k ≡ Some d → fits_at t end m k ≡ in_place_of e.rep (join_of e.rep d.rep)
fits-is t end m k e d live own = ap (λ (o : Option Detail). joins_in_place o (detail_at t m k)) live ∙ ap (λ (o : Option Detail). joins_in_place (Some e) o) own

-- a root is live
pub root-live : (t : Trail) (r : ℕ) → IsTree t → IsSomeRoot t r → (bits_in t r).deprecated ≡ false
root-live t r tree it = ((tree.maps r (gate_with 0 false) it.root.gate).root refl it.root.parent).live

-- the gate of a shared map
pub shared-gate : (t : Trail) (m : ℕ) → IsTree t → IsSomeAnd (gate_in t m) (λ g. g.is_private ≡ false) → gate_in t m ≡ Some (gate_with (count_of t m) false)
shared-gate t m tree h = by (gate_in t m) refl h
  where
    parts : (n : ℕ) (p l : Bool) → p ≡ false → l ≡ false → gate_in t m ≡ Some (record { entries = n; is_private = p; is_locked = l }) → gate_in t m ≡ Some (gate_with n false)
    parts n p l a b is = is ∙ ap (λ (x : Bool). Some (record { entries = n; is_private = x; is_locked = l })) a ∙ ap (λ (x : Bool). Some (record { entries = n; is_private = false; is_locked = x })) b

    by : (o : Option GateWord) → gate_in t m ≡ o → IsSomeAnd o (λ g. g.is_private ≡ false) → gate_in t m ≡ Some (gate_with (count_of t m) false)
    by (Some g) is shared = subst (λ (n : ℕ). gate_in t m ≡ Some (gate_with n false)) (sym (ap entries_in is)) (parts g.entries g.is_private g.is_locked shared (tree.maps m g is).unlocked is)
    by None is shared = absurd shared

module _ (maps : MapsAreKept) (v u : View) (root end count stop m n : ℕ) (heap : IsHeap v) (ended : IsLiveEnd v.trail root m n end count) (stopped : IsStop v.trail end m count stop) (joined : AreJoined v u end m stop count n stop) (at_map : gate_in v.trail m ≡ Some (gate_with n false)) where
  joined-reading : {T : Type 0} (reading : Trail → T) → ((t : Trail) (f : ℕ) (d : Detail) → reading (FieldDetail f d ∷ t) ≡ reading t) → reading u.trail ≡ reading v.trail
  joined-reading reading h = details-same v.trail u.trail reading h joined.only

  pub end-gate : gate_in u.trail end ≡ Some (gate_with count false)
  end-gate = joined-reading (λ (t : Trail). gate_in t end) (λ t f d. refl) ∙ ended.path.gate

  pub end-live : (bits_in u.trail end).deprecated ≡ false
  end-live = ap (λ (b : MapBits). b.deprecated) (joined-reading (λ (t : Trail). bits_in t end) (λ t f d. refl)) ∙ ended.path.live

  map-gate : gate_in u.trail m ≡ Some (gate_with n false)
  map-gate = joined-reading (λ (t : Trail). gate_in t m) (λ t f d. refl) ∙ at_map

  same-key : (x k : ℕ) → key_at u.trail x k ≡ key_at v.trail x k
  same-key x k = joined-reading (λ (t : Trail). key_at t x k) (λ t f d. refl)

  same-field : (x k : ℕ) → field_at u.trail x k ≡ field_at v.trail x k
  same-field x k = joined-reading (λ (t : Trail). field_at t x k) (λ t f d. refl)

  same-used : u.used ≡ v.used
  same-used = ap (λ (y : View). y.used) joined.view

  module _ (w : View) (base : ℕ) (cut : IsCut u w end count stop base) where
    pub base-map : gate_in w.trail m ≡ Some (gate_with n false)
    base-map = (after-cut maps u w end count stop base joined.heap cut).written.gate m (gate_with n false) map-gate

    end-keys : (j : ℕ) → j < count → key_at w.trail end j ≡ key_at w.trail m j
    end-keys j lt = cut-key maps u w end count stop base joined.heap cut end j ∙ same-key end j ∙ ended.path.keys j lt ∙ sym (same-key m j) ∙ sym (cut-key maps u w end count stop base joined.heap cut m j)

    pub base-keys : (j : ℕ) → j < stop → key_at w.trail base j ≡ key_at w.trail m j
    base-keys j lt = let upto = stopped.within in cut-keys maps u w end count stop base joined.heap cut j lt ∙ end-keys j (omega (arith, lt, upto))

    pub base-ends : (key : Key) → stop < n → key_at w.trail m stop ≡ Some key → live_child w.trail base key ≡ None
    base-ends key lt is = by (ltb stop count) refl
      where
        upto : stop ≤ count
        upto = stopped.within

        by : (b : Bool) → ltb stop count ≡ b → live_child w.trail base key ≡ None
        by true e = let below = ltb-true stop count e in cut-ends maps u w end count stop base joined.heap cut key below (end-keys stop below ∙ is)
        by false e =
            let above = ltb-false stop count e in
            let same : stop ≡ count = omega (arith, above, upto) in
            let here : key_at v.trail m count ≡ Some key = ap (key_at v.trail m) (sym same) ∙ sym (same-key m stop) ∙ sym (cut-key maps u w end count stop base joined.heap cut m stop) ∙ is in
            ap (λ (t : Trail). live_child t base key) (cut.same same) ∙ ap (λ (x : ℕ). live_child u.trail x key) (cut.whole same) ∙ joined.lives end key ∙ ended.ends key (omega (arith, lt, same)) here

    pub base-wanted : HasFirstKeys w.trail end m count
    base-wanted = record {
      within = subst (λ (o : Option GateWord). count ≤ entries_in o) (sym base-map) ended.within;
      is_open = subst (λ (o : Option GateWord). IsSomeAnd o (λ g. count ≤ g.entries)) (sym ((after-cut maps u w end count stop base joined.heap cut).written.gate end (gate_with count false) end-gate)) (omega arith);
      keys = end-keys;
    }

    pub base-space : HasSpace v (walk_need n) → HasSpace w (build_need stop n)
    base-space space =
        let view : w ≡ record v { trail = w.trail } = cut.view ∙ ap (λ (y : View). record y { trail = w.trail }) joined.view in
        subst (λ (y : View). HasSpace y (build_need stop n)) (sym view) (record {
          maps = omega (arith, space.maps);
          entries = omega (arith, space.entries);
          fields = omega (arith, space.fields);
          links = omega (arith, space.links);
          slots = omega (arith, space.slots);
        })

    module _ (set : SetIsKept) (unused : UnusedSaysNothing) (x : View) (c : ℕ) (built : IsBuilt (wanted_at w.trail m stop (Joined end count)) w x base m c stop n n) where
      -- what is wanted from the stop on is what was wanted at first
      later-wanted : (p : ℕ) → stop ≤ p → p < n → updated_at u.trail end m count p ≡ updated_at v.trail end m count p
      later-wanted p from below = by (ltb p count) refl
        where
          own : detail_at u.trail m p ≡ detail_at v.trail m p
          own = joined.others p from below

          by : (b : Bool) → ltb p count ≡ b → cond b (joined_at u.trail end m p) (detail_at u.trail m p) ≡ cond b (joined_at v.trail end m p) (detail_at v.trail m p)
          by true e = ap (λ (o : Option Detail). both_details o (detail_at u.trail m p)) (joined.rest p from (ltb-true p count e)) ∙ ap (λ (o : Option Detail). both_details (detail_at v.trail end p) o) own
          by false e = own

      in-u : wanted_at w.trail m stop (Joined end count) ≡ updated_at u.trail end m count
      in-u = cut-reading maps u w end count stop base joined.heap cut (λ (t : Trail). updated_at t end m count) (λ t e b. refl)

      built-u : IsBuilt (updated_at u.trail end m count) w x base m c stop n n
      built-u = subst (λ (f : ℕ → Option Detail). IsBuilt f w x base m c stop n n) in-u built

      ren : IsRenewed (GetsWanted (updated_at u.trail end m count) stop n u.used.fields) u x end count stop m n c
      ren = renewed maps u w end count stop base joined.heap cut set (updated_at u.trail end m count) x m n c map-gate built-u

      ancestors : (depth y : ℕ) → ancestor u.trail depth y ≡ ancestor v.trail depth y
      ancestors = ancestor-same v.trail u.trail (λ y. joined-reading (λ (t : Trail). parent_in t y) (λ t f d. refl))

      doomed-then : (y : ℕ) → IsDoomed u.trail end count stop y → IsDoomed v.trail end count stop y
      doomed-then y h = record {
        within = h.within;
        field = h.field;
        owner = h.owner;
        is_field = sym (same-field end stop) ∙ h.is_field;
        owns = sym (joined-reading (λ (t : Trail). owner_in t h.field) (λ t f d. refl)) ∙ h.owns;
        under = record { depth = h.under.depth; leads = sym (ancestors h.under.depth y) ∙ h.under.leads };
      }

      doomed-now : (y : ℕ) → IsDoomed v.trail end count stop y → IsDoomed u.trail end count stop y
      doomed-now y h = record {
        within = h.within;
        field = h.field;
        owner = h.owner;
        is_field = same-field end stop ∙ h.is_field;
        owns = joined-reading (λ (t : Trail). owner_in t h.field) (λ t f d. refl) ∙ h.owns;
        under = record { depth = h.under.depth; leads = ancestors h.under.depth y ∙ h.under.leads };
      }

      Gets : ℕ → Detail → Type 0
      Gets f d = UpdateGets v.trail end m count stop n v.used.fields f d

      gets-new : (f : ℕ) (d : Detail) → GetsWanted (updated_at u.trail end m count) stop n u.used.fields f d → UpdateGets v.trail end m count stop n v.used.fields f d
      gets-new f d h = inr (record {
        place = h.place;
        from = h.from;
        within = h.within;
        field = subst (λ (s : Shape). f + stop ≡ s.fields + h.place) same-used h.field;
        same = sym (later-wanted h.place h.from h.within) ∙ h.same;
      })

      all-writes : Adds (Reshapes v.used (IsDoomed v.trail end count stop) (UpdateGets v.trail end m count stop n v.used.fields)) v.trail x.trail
      all-writes = adds-on
          (adds-wider (λ t y e. reshapes-dies v.used NoMap (IsDoomed v.trail end count stop) (λ z h. absurd h) (UpdateGets v.trail end m count stop n v.used.fields) t y
          (reshapes-later v.used v.used (no-less-same v.used v.used refl) NoMap (GetsJoin v.trail end m stop) (UpdateGets v.trail end m count stop n v.used.fields) (λ f d is. inl is) t y e)) joined.writes)
          (adds-wider (λ t y e. reshapes-dies v.used (IsDoomed u.trail end count stop) (IsDoomed v.trail end count stop) doomed-then (UpdateGets v.trail end m count stop n v.used.fields) t y
          (reshapes-later v.used u.used (no-less-same v.used u.used same-used) (IsDoomed u.trail end count stop) (GetsWanted (updated_at u.trail end m count) stop n u.used.fields) (UpdateGets v.trail end m count stop n v.used.fields) gets-new t y e)) ren.writes)

      fields-there : (k : ℕ) → k < count → IsSomeAnd (field_at u.trail end k) (λ f. f < u.used.fields)
      fields-there k lt =
          let still = maps u.shape u.trail u.trail joined.heap.lawful (goes-still u.shape joined.heap.lawful) in
          and-then (λ (f : ℕ). IsField u.trail f) (λ (f : ℕ). f < u.used.fields) (field_at u.trail end k) ((still.opened end (gate_with count false) end-gate).entries.fields k lt) (λ f made. field-used unused u joined.heap f made)

      -- what fields got is there in the end
      got : (f : ℕ) (d : Detail) → UpdateGets v.trail end m count stop n v.used.fields f d → detail_in x.trail f ≡ Some d
      got f d h = ⊎_elim
          (λ (raise : GetsJoin v.trail end m stop f d).
          let upto = stopped.within in
          let below = raise.within in
          let here : field_at u.trail end raise.place ≡ Some f = same-field end raise.place ∙ raise.field in
          let there : f < u.used.fields = at-some (λ (y : ℕ). y < u.used.fields) (field_at u.trail end raise.place) f here (fields-there raise.place (omega (arith, upto, below))) in
          renewed-kept maps u w end count stop base joined.heap cut set (updated_at u.trail end m count) x m n c map-gate built-u f there
          ∙ sym (ap (detail_of u.trail) here) ∙ joined.joined raise.place below ∙ raise.joined)
          (λ (new : GetsWanted (updated_at v.trail end m count) stop n v.used.fields f d).
          ren.details.gets f d (record {
            place = new.place;
            from = new.from;
            within = new.within;
            field = subst (λ (s : Shape). f + stop ≡ s.fields + new.place) (sym same-used) new.field;
            same = later-wanted new.place new.from new.within ∙ new.same;
          })) h
        where
          at-some : (P : ℕ → Type 0) (o : Option ℕ) (y : ℕ) → o ≡ Some y → IsSomeAnd o P → P y
          at-some P o y is h = subst (λ (z : Option ℕ). IsSomeAnd z P) is h

      pub update-renewed : IsRenewed (UpdateGets v.trail end m count stop n v.used.fields) v x end count stop m n c
      update-renewed = record {
        writes = all-writes;
        dead = λ y doomed there. ren.dead y (doomed-now y doomed) (subst (λ (o : Option GateWord). IsSome o) (sym (joined-reading (λ (t : Trail). gate_in t y) (λ t f d. refl))) there);
        opens = λ y g none gate shared parent. ren.opens y g (joined-reading (λ (t : Trail). gate_in t y) (λ t f d. refl) ∙ none) gate shared parent;
        linked = λ y stable marked. ⊎_elim (λ (has : links_in x.trail y ≢ []). inl has) (λ (h : IsDead (IsDoomed u.trail end count stop) x.trail y). inr (doomed-then y h.0, h.1))
            (ren.linked y (ap (λ (b : MapBits). b.unstable) (joined-reading (λ (t : Trail). bits_in t y) (λ t f d. refl)) ∙ stable) marked);
        spares = λ y doomed g gate. ren.spares y (doomed-now y doomed) g gate;
        maps = subst (λ (s : Shape). x.used.maps + stop ≡ s.maps + n) same-used ren.maps;
        entries = subst (λ (s : Shape). x.used.entries + arrays_upto stop ≡ s.entries + arrays_upto n) same-used ren.entries;
        fields = subst (λ (s : Shape). x.used.fields + stop ≡ s.fields + n) same-used ren.fields;
        links = subst (λ (s : Shape). x.used.links + stop ≡ s.links + n) same-used ren.links;
        objects = ren.objects ∙ ap (λ (s : Shape). s.objects) same-used;
        slots = ren.slots ∙ ap (λ (s : Shape). s.slots) same-used;
        cells = ren.cells ∙ ap (λ (s : Shape). s.cells) same-used;
        shape = ren.shape ∙ ap (λ (y : View). y.shape) joined.view;
        gate = ren.gate;
        live = ren.live;
        prototype = ren.prototype ∙ joined-reading (λ (t : Trail). prototype_in t end) (λ t f d. refl);
        keys = λ k lt. ren.keys k lt ∙ same-key m k;
        owned = λ k from lt. subst (λ (s : Shape). IsOwnedFrom x.trail c k s.maps) same-used (ren.owned k from lt);
        shared = λ k lt. ren.shared k lt ∙ same-field end k;
        details = details-by v.used (IsDoomed v.trail end count stop) (UpdateGets v.trail end m count stop n v.used.fields) all-writes got;
        tree = ren.tree;
        heap = ren.heap;
      }

      raised-detail : (k : ℕ) → k < stop → detail_at x.trail c k ≡ joined_at v.trail end m k
      raised-detail k lt =
          let upto = stopped.within in
          ap (detail_of x.trail) (ren.shared k lt)
          ∙ of-same u.trail x.trail (field_at u.trail end k) (and-then (λ (f : ℕ). f < u.used.fields) (λ (f : ℕ). detail_in x.trail f ≡ detail_in u.trail f) (field_at u.trail end k) (fields-there k (omega (arith, lt, upto)))
          (renewed-kept maps u w end count stop base joined.heap cut set (updated_at u.trail end m count) x m n c map-gate built-u))
          ∙ joined.joined k lt

      pub updated-is : IsUpdated v x root m n c
      updated-is = record {
        end = end;
        count = count;
        stop = stop;
        ended = ended;
        stopped = stopped;
        renewed = update-renewed;
        details = λ k lt. by k lt (ltb k stop) refl;
        admits = λ k was now lt is at. joined-admits (ltb k count) (detail_at v.trail end k) (detail_at v.trail m k) (detail_at x.trail c k) was now (by k lt (ltb k stop) refl) is at;
      }
        where
          by : (k : ℕ) → k < n → (b : Bool) → ltb k stop ≡ b → detail_at x.trail c k ≡ updated_at v.trail end m count k
          by k lt true e =
              let below = ltb-true k stop e in
              let upto = stopped.within in
              raised-detail k below ∙ sym (ap (λ (b : Bool). cond b (joined_at v.trail end m k) (detail_at v.trail m k)) (lt-ltb k count (omega (arith, below, upto))))
          by k lt false e = let from = ltb-false k stop e in built-u.made k from lt ∙ later-wanted k from lt
