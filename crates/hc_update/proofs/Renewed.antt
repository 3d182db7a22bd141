-- New maps in place of those that were cut.
use Rattle.std.proofs.Common.{◌≡◌, ◌≢◌, ℕ, ◌+◌, ◌<◌, Bool, true, false, eqb, ltb, ltb-true, ltb-false, Option, Some, None, [], ◌∷◌, IsSome, refl, sym, ap, ◌∙◌, subst, arith, inl, inr}
use Rattle.std.specs.Prelude.{◌⊎◌, IsTrue}
use Rattle.hc_value.specs.Field.{is_detail_within}
use Rattle.hc_tree.specs.Dying.{IsDead}
use Rattle.hc_layout.specs.declared.shape.Shape.{Shape}
use Rattle.hc_layout.specs.declared.words.GateWord.{GateWord}
use Rattle.hc_layout.specs.declared.words.MapBits.{MapBits}
use Rattle.hc_value.specs.declared.field.Class.{Class}
use Rattle.hc_value.specs.declared.field.Class.TheVariants.{Of, Any}
use Rattle.hc_value.specs.declared.field.Detail.{Detail}
use Rattle.hc_value.specs.declared.key.Key.{Key}
use Rattle.hc_heap.specs.Writes.{Write, Trail, Bits}
use Rattle.hc_heap.specs.Readings.{gate_in, parent_in, prototype_in, bits_in, detail_in}
use Rattle.hc_heap.specs.Kept.{Adds, GoesOn, SetIsKept, UnusedSaysNothing}
use Rattle.hc_heap.specs.Lawful.{IsClassThere, IsField, Lawful}
use Rattle.hc_heap.specs.Frames.{adds-on, adds-wider, goes-on-of, goes-still}
use Rattle.hc_heap.specs.States.{View, IsHeap}
use Rattle.hc_descs.specs.Entries.{detail_at, detail_of, field_at, key_at}
use Rattle.hc_links.specs.Chains.{links_in}
use Rattle.hc_tree.specs.Kept.{MapsAreKept, MapsStay}
use Rattle.hc_tree.specs.Tree.{gate_with}
use Rattle.hc_tree.specs.Growth.{live_child}
use Rattle.hc_tree.specs.Needs.{IsNoLess, arrays_upto}
use Rattle.hc_tree.specs.Details.{NoMap, Reshapes}
use Rattle.hc_tree.specs.Frames.{details-by, reshapes-dies}
use Rattle.hc_tree.specs.Walking.{GetsWanted, IsBuilt, IsDetail, IsOwnedFrom, wanted_at}
use Rattle.hc_tree.specs.declared.retarget.Wanted.TheVariants.{With}
use Rattle.hc_update.specs.Renewing.{AdmitMore, AreLinkedOrDoomed, AreShared, Cuts, IsCut, IsDoomed, IsGeneralised, IsRenewed}
use Rattle.hc_update.proofs.Cuts.{and-then, cut-linked, cuts-same, field-used, not-live, of-same, some-of}
use Rattle.hc_update.proofs.Within.{same-admits, with-admits}

no-less : (s : Shape) → IsNoLess s s
no-less s = record { maps = omega arith; entries = omega arith; fields = omega arith; links = omega arith; slots = omega arith }

cuts-reshape : (used : Shape) (Gets : ℕ → Detail → Type 0) (top : Trail) (m n i : ℕ) (t : Trail) (w : Write) → Cuts top m n i t w → Reshapes used (IsDoomed top m n i) Gets t w
cuts-reshape used Gets top m n i t (Bits x b) e = inr (e.0, ap (λ (y : MapBits). y.deprecated) e.1)
cuts-reshape used Gets top m n i t _ e = absurd e

module _ (maps : MapsAreKept) (v w : View) (end count stop base : ℕ) (heap : IsHeap v) (cut : IsCut v w end count stop base) where
  same-shape : w.shape ≡ v.shape
  same-shape = ap (λ (y : View). y.shape) cut.view

  lawful-w : Lawful v.shape w.trail
  lawful-w = subst (λ (s : Shape). Lawful s w.trail) same-shape cut.heap.lawful

  -- open maps are as they were
  pub after-cut : MapsStay v.trail w.trail
  after-cut = maps v.shape v.trail w.trail heap.lawful (goes-on-of v.shape cut.writes lawful-w)

  pub cut-reading : {T : Type 0} (reading : Trail → T) → ((t : Trail) (c : ℕ) (b : MapBits) → reading (Bits c b ∷ t) ≡ reading t) → reading w.trail ≡ reading v.trail
  cut-reading reading h = cuts-same v.trail end count stop v.trail w.trail reading h cut.writes

  pub cut-key : (m k : ℕ) → key_at w.trail m k ≡ key_at v.trail m k
  cut-key m k = cut-reading (λ (t : Trail). key_at t m k) (λ t c b. refl)

  -- a detail that could be asked for still can
  pub detail-after : (d : Detail) → IsDetail v.shape v.trail d → IsDetail w.shape w.trail d
  detail-after d h = record { form = h.form; there = there-by d.class h.there }
    where
      there-by : (c : Class) → IsClassThere v.shape v.trail c → IsClassThere w.shape w.trail c
      there-by (Of x) y = (subst (λ (s : Shape). x < s.maps) (sym same-shape) y.0, let g = some-of (gate_in v.trail x) y.1 in subst (λ (o : Option GateWord). IsSome o) (sym (after-cut.written.gate x g.0 g.1)) refl)
      there-by Any y = tt

  -- the map that is left has the first keys
  pub cut-keys : (j : ℕ) → j < stop → key_at w.trail base j ≡ key_at w.trail end j
  cut-keys j lt = cut-key base j ∙ cut.entries.keys j lt ∙ sym (cut-key end j)

  pub cut-ends : (key : Key) → stop < count → key_at w.trail end stop ≡ Some key → live_child w.trail base key ≡ None
  cut-ends key lt is = cut.ends key lt (sym (cut-key end stop) ∙ is)

  module _ (set : SetIsKept) (wanted : ℕ → Option Detail) (x : View) (m n c : ℕ) (at_map : gate_in v.trail m ≡ Some (gate_with n false)) (built : IsBuilt wanted w x base m c stop n n) where
    used-same : w.used ≡ v.used
    used-same = ap (λ (y : View). y.used) cut.view

    goes-x : GoesOn w.shape w.trail x.trail
    goes-x = goes-on-of w.shape built.writes (subst (λ (s : Shape). Lawful s x.trail) built.shape built.heap.lawful)

    after-x : MapsStay w.trail x.trail
    after-x = maps w.shape w.trail x.trail cut.heap.lawful goes-x

    new-writes : Adds (Reshapes v.used NoMap (GetsWanted wanted stop n v.used.fields)) w.trail x.trail
    new-writes = subst (λ (u : Shape). Adds (Reshapes u NoMap (GetsWanted wanted stop n u.fields)) w.trail x.trail) used-same built.writes

    renewed-linked : AreLinkedOrDoomed v.trail x.trail end count stop
    renewed-linked y stable marked = by (bits_in w.trail y).unstable refl
      where
        by : (was : Bool) → (bits_in w.trail y).unstable ≡ was → (links_in x.trail y ≢ []) ⊎ IsDead (IsDoomed v.trail end count stop) x.trail y
        by true e = let it = cut-linked v w end count stop y cut.writes stable e in inr (it.0, (set w.shape w.trail x.trail goes-x).deprecated y it.1)
        by false e = inl (built.linked y e marked)

    -- those that died were no private ones
    renewed-spares : AreShared v.trail x.trail end count stop
    renewed-spares y doomed g gate =
        let up = cut.children y doomed in
        let parent : parent_in x.trail y ≡ Some (Some up.0) = after-x.written.parent y (Some up.0) (cut-reading (λ (t : Trail). parent_in t y) (λ t d b. refl) ∙ up.1) in
        not-live g.is_private (λ private. has-parent (parent_in x.trail y) up.0 parent ((built.tree.maps y g gate).alone private))
      where
        has-parent : (o : Option (Option ℕ)) (p : ℕ) → o ≡ Some (Some p) → o ≡ Some None → ⊥
        has-parent o p a b = cc

    all-writes : Adds (Reshapes v.used (IsDoomed v.trail end count stop) (GetsWanted wanted stop n v.used.fields)) v.trail x.trail
    all-writes = adds-on (adds-wider (cuts-reshape v.used (GetsWanted wanted stop n v.used.fields) v.trail end count stop) cut.writes)
        (adds-wider (reshapes-dies v.used NoMap (IsDoomed v.trail end count stop) (λ y h. absurd h) (GetsWanted wanted stop n v.used.fields)) new-writes)

    pub renewed : IsRenewed (GetsWanted wanted stop n v.used.fields) v x end count stop m n c
    renewed = record {
      writes = all-writes;
      dead = λ y doomed there. (set w.shape w.trail x.trail goes-x).deprecated y (cut.dead y doomed there);
      opens = λ y g none gate shared parent. built.opens y g (cut-reading (λ (t : Trail). gate_in t y) (λ t d b. refl) ∙ none) gate shared parent;
      linked = renewed-linked;
      spares = renewed-spares;
      maps = subst (λ (u : Shape). x.used.maps + stop ≡ u.maps + n) used-same built.maps;
      entries = subst (λ (u : Shape). x.used.entries + arrays_upto stop ≡ u.entries + arrays_upto n) used-same built.entries;
      fields = subst (λ (u : Shape). x.used.fields + stop ≡ u.fields + n) used-same built.fields;
      links = subst (λ (u : Shape). x.used.links + stop ≡ u.links + n) used-same built.links;
      objects = built.objects ∙ ap (λ (u : Shape). u.objects) used-same;
      slots = built.slots ∙ ap (λ (u : Shape). u.slots) used-same;
      cells = built.cells ∙ ap (λ (u : Shape). u.cells) used-same;
      shape = built.shape ∙ same-shape;
      gate = built.gate;
      live = built.live;
      prototype = built.prototype ∙ cut-reading (λ (t : Trail). prototype_in t base) (λ t d b. refl) ∙ cut.prototype;
      keys = λ k lt. built.keys k lt ∙ (after-x.entry m k (gate_with n false) (after-cut.written.gate m (gate_with n false) at_map) lt).key ∙ cut-key m k;
      owned = λ k from lt. subst (λ (u : Shape). IsOwnedFrom x.trail c k u.maps) used-same (built.owned k from lt);
      shared = λ k lt. built.shared k lt ∙ cut-reading (λ (t : Trail). field_at t base k) (λ t d b. refl) ∙ cut.entries.fields k lt;
      details = details-by v.used (IsDoomed v.trail end count stop) (GetsWanted wanted stop n v.used.fields) all-writes
          (λ f d got. built.gets f d (subst (λ (u : Shape). GetsWanted wanted stop n u.fields f d) (sym used-same) got));
      tree = built.tree;
      heap = built.heap;
    }

    -- what the fields that were there admit is as it was
    pub renewed-kept : (f : ℕ) → f < v.used.fields → detail_in x.trail f ≡ detail_in v.trail f
    renewed-kept f lt = built.kept f (subst (λ (u : Shape). f < u.fields) (sym used-same) lt) ∙ cut-reading (λ (t : Trail). detail_in t f) (λ t d b. refl)

-- a map was cut, and others were made with the detail that was asked for
module _ (maps : MapsAreKept) (set : SetIsKept) (unused : UnusedSaysNothing) (v w x : View) (m n i base c : ℕ) (d : Detail) (heap : IsHeap v) (at_map : gate_in v.trail m ≡ Some (gate_with n false)) (cut : IsCut v w m n i base) (built : IsBuilt (wanted_at w.trail m i (With d)) w x base m c i n n) where
  same-wanted : wanted_at w.trail m i (With d) ≡ wanted_at v.trail m i (With d)
  same-wanted = cut-reading maps v w m n i base heap cut (λ (t : Trail). wanted_at t m i (With d)) (λ t e b. refl)

  it : IsBuilt (wanted_at v.trail m i (With d)) w x base m c i n n
  it = subst (λ (f : ℕ → Option Detail). IsBuilt f w x base m c i n n) same-wanted built

  ren : IsRenewed (GetsWanted (wanted_at v.trail m i (With d)) i n v.used.fields) v x m n i m n c
  ren = renewed maps v w m n i base heap cut set (wanted_at v.trail m i (With d)) x m n c at_map it

  kept : (f : ℕ) → f < v.used.fields → detail_in x.trail f ≡ detail_in v.trail f
  kept = renewed-kept maps v w m n i base heap cut set (wanted_at v.trail m i (With d)) x m n c at_map it

  before : (k : ℕ) → k < i → k < n → detail_at x.trail c k ≡ detail_at v.trail m k
  before k lt below =
      let still = maps v.shape v.trail v.trail heap.lawful (goes-still v.shape heap.lawful) in
      ap (detail_of x.trail) (ren.shared k lt)
      ∙ of-same v.trail x.trail (field_at v.trail m k) (and-then (λ (f : ℕ). IsField v.trail f) (λ (f : ℕ). detail_in x.trail f ≡ detail_in v.trail f) (field_at v.trail m k) ((still.opened m (gate_with n false) at_map).entries.fields k below)
      (λ f made. kept f (field-used unused v heap f made)))

  more : AdmitMore v.trail x.trail m c n
  more k was now lt is at = by (ltb k i) refl
    where
      by : (b : Bool) → ltb k i ≡ b → IsTrue (is_detail_within was now)
      by true e = same-admits (detail_at v.trail m k) (detail_at x.trail c k) was now (before k (ltb-true k i e) lt) is at
      by false e = with-admits (eqb k i) (detail_at v.trail m k) (detail_at x.trail c k) d was now (it.made k (ltb-false k i e) lt) is at

  pub generalised : IsGeneralised v x m n i c d
  generalised = record { renewed = ren; kept = kept; made = it.made; admits = more }
