-- Maps that are made one under the other, with the keys of another map.
use Rattle.std.proofs.Common.{◌≡◌, ◌≢◌, ℕ, zero, suc, ◌+◌, ◌<◌, ◌≤◌, Bool, true, false, List, [], ◌∷◌, ◌++◌, Option, Some, None, refl, sym, ap, ◌∙◌, subst, arith, add-one, true≢false, cond, eqb, ltb, ltb-true}
use Rattle.std.specs.Prelude.{IsSomeAnd, IsSome}
use Rattle.hc_layout.specs.Capacity.{cap_of}
use Rattle.hc_layout.specs.declared.capacity.TheConstants.{MAX_FAST}
use Rattle.hc_layout.specs.declared.shape.Shape.{Shape}
use Rattle.hc_layout.specs.declared.words.GateWord.{GateWord}
use Rattle.hc_layout.specs.declared.words.MapBits.{MapBits}
use Rattle.hc_value.specs.declared.key.Key.{Key}
use Rattle.hc_value.specs.declared.field.Class.{Class}
use Rattle.hc_value.specs.declared.field.Class.TheVariants.{Of, Any}
use Rattle.hc_value.specs.declared.field.Detail.{Detail}
use Rattle.hc_value.specs.declared.prop.Kind.TheVariants.{AccessorProp}
use Rattle.hc_heap.specs.Writes.{Write, Trail, Bits, FieldDetail}
use Rattle.hc_heap.specs.Readings.{gate_in, parent_in, bits_in, base_in, owner_in, detail_in}
use Rattle.hc_heap.specs.Lawful.{Lawful, IsClassThere, IsField, IsKey, key_from}
use Rattle.hc_heap.specs.Kept.{Adds, FormsAreKept, GatesAreOpen, GoesOn, UnusedSaysNothing}
use Rattle.hc_heap.specs.Frames.{adds-none, adds-on, adds-wider, goes-on-of, goes-still, same-after}
use Rattle.hc_heap.specs.States.{View, IsHeap}
use Rattle.hc_descs.specs.Entries.{entries_in, key_at, field_at, LacksName}
use Rattle.hc_links.specs.Chains.{child_of, links_in, newest_of}
use Rattle.hc_links.specs.Laws.{LinksAreKept}
use Rattle.hc_tree.specs.Tree.{IsTree, IsChildFor, IsProperKey, gate_with, tagged_field}
use Rattle.hc_tree.specs.Kept.{MapsAreKept, MapsStay}
use Rattle.hc_tree.specs.declared.need.Need.{Need}
use Rattle.hc_tree.specs.declared.retarget.Wanted.{Wanted}
use Rattle.hc_tree.specs.declared.retarget.Wanted.TheVariants.{With, Joined}
use Rattle.hc_tree.specs.Details.{ChildGets, NoMap, Reshapes, detail_of, detail_at}
use Rattle.hc_tree.specs.Frames.{reshapes-later}
use Rattle.hc_tree.specs.Needs.{HasSpace, IsNoLess, arrays_upto, build_need, with_need}
use Rattle.hc_tree.specs.Growth.{EndsWith, MakesMap, MayGrow, live_of, live_child, child_need}
use Rattle.hc_tree.specs.Walking.{AreLinked, GetsWanted, IsBuilt, IsOwnedFrom, MayBeWanted, OpensNoRoot, both_details, joined_at, wanted_at}
use Rattle.hc_tree.proofs.Made.{and-then, field-used, some-with}
use Rattle.hc_tree.proofs.Opening.{cond-other, some-is, some-of, same-or, opens-one, opens-both, child-no-root, proto-stays, live-bits}

-- What was handed out

pub no-less-none : (s : Shape) → IsNoLess s s
no-less-none s = record { maps = omega arith; entries = omega arith; fields = omega arith; links = omega arith; slots = omega arith }

pub no-less-need : (k : Need) (s : Shape) → IsNoLess s (with_need k s)
no-less-need k s = record { maps = omega arith; entries = omega arith; fields = omega arith; links = omega arith; slots = omega arith }

pub no-less-on : (a b c : Shape) → IsNoLess a b → IsNoLess b c → IsNoLess a c
no-less-on a b c x y = record {
  maps = omega (arith, x.maps, y.maps);
  entries = omega (arith, x.entries, y.entries);
  fields = omega (arith, x.fields, y.fields);
  links = omega (arith, x.links, y.links);
  slots = omega (arith, x.slots, y.slots);
}

-- One step

-- the entry whose key comes next
pub record IsNext (v : View) (m k : ℕ) (key : Key) : Type 0 where
  pub gate : GateWord
  pub is_open : gate_in v.trail m ≡ Some gate
  pub within : k < gate.entries
  pub is_key : key_at v.trail m k ≡ Some key

pub next-of : (v : View) (m k : ℕ) (key : Key) → IsSomeAnd (gate_in v.trail m) (λ g. k < g.entries) → key_at v.trail m k ≡ Some key → IsNext v m k key
next-of v m k key there is =
    let g = some-with (λ (x : GateWord). k < x.entries) (gate_in v.trail m) there in
    record { gate = g.0; is_open = g.1.0; within = g.1.1; is_key = is }

key-form : FormsAreKept → (v : View) → IsHeap v → (base : Option ℕ) (k : ℕ) (key : Key) → key_from v.trail base k ≡ Some key → IsKey key
key-form forms v heap (Some e) k key is = (forms v.shape v.trail heap.lawful).entry_key (e + k) key is
key-form forms v heap None k key is = let n : ⊥ = cc in absurd n

module _ (gates : GatesAreOpen) (forms : FormsAreKept) (v : View) (at m k : ℕ) (key : Key) (heap : IsHeap v) (tree : IsTree v.trail) (next : IsNext v m k key) where
  pub next-key : IsKey key
  next-key = key-form forms v heap (base_in v.trail m) k key next.is_key

  pub next-proper : IsProperKey key
  next-proper = (tree.maps m next.gate next.is_open).proper k key next.within next.is_key

  few : next.gate.entries ≤ MAX_FAST
  few = (gates v.shape v.trail m next.gate heap.lawful next.is_open).few

  pub next-grows : gate_in v.trail at ≡ Some (gate_with k false) → IsSomeAnd (gate_in v.trail at) MayGrow
  next-grows is = subst (λ (g : Option GateWord). IsSomeAnd g MayGrow) (sym is) (record { few = omega (arith, few, next.within); shared = refl; unlocked = refl })

  -- the key's name is none of those before
  pub next-lacks : ((j : ℕ) → j < k → key_at v.trail at j ≡ key_at v.trail m j) → LacksName v.trail at k key.name
  next-lacks keys j lt =
      let within : j < next.gate.entries = omega (arith, lt, next.within) in
      let it = some-of (key_at v.trail m j) ((gates v.shape v.trail m next.gate heap.lawful next.is_open).entries.keys j within) in
      subst (λ (x : Option Key). IsSomeAnd x (λ y. y.name ≢ key.name)) (sym (keys j lt ∙ it.1))
      ((tree.maps m next.gate next.is_open).distinct j k lt next.within it.0 key it.1 next.is_key)

-- an accessor's field admits everything
pub next-accessor : (v : View) (m k : ℕ) (g : GateWord) (key : Key) (d : Detail) → IsTree v.trail → gate_in v.trail m ≡ Some g → k < g.entries → key_at v.trail m k ≡ Some key → detail_at v.trail m k ≡ Some d → key.kind ≡ AccessorProp → d ≡ tagged_field
next-accessor v m k g key d tree gate lt is at kind = by (field_at v.trail m k) refl at
  where
    by : (o : Option ℕ) → field_at v.trail m k ≡ o → detail_of v.trail o ≡ Some d → d ≡ tagged_field
    by (Some f) here admits = some-same (detail_in v.trail f) admits ((tree.maps m g gate).tagged k f key lt is kind here)
      where
        some-same : (o : Option Detail) → o ≡ Some d → o ≡ Some tagged_field → d ≡ tagged_field
        some-same o a b = cc
    by None here admits = let n : ⊥ = cc in absurd n

-- Sums of arrays

pub arrays-next : (k : ℕ) → arrays_upto (k + 1) ≡ arrays_upto k + cap_of (k + 1)
arrays-next k = subst (λ (n : ℕ). arrays_upto n ≡ arrays_upto k + cap_of n) (sym (add-one k)) refl

pub arrays-rise : (k n : ℕ) → k ≤ n → arrays_upto k ≤ arrays_upto n
arrays-rise k zero le = let is : k ≡ 0 = omega (arith, le) in subst (λ (x : ℕ). arrays_upto x ≤ arrays_upto 0) (sym is) (omega arith)
arrays-rise k (suc n) le = same-or k (suc n) (arrays_upto k ≤ arrays_upto (suc n))
    (λ is. subst (λ (x : ℕ). arrays_upto k ≤ arrays_upto x) is (omega arith))
    (λ other. let before : k ≤ n = omega (arith, le, other) in let risen : arrays_upto k ≤ arrays_upto n = arrays-rise k n before in omega (arith, risen))

-- One map more

-- what was made under a map: a child with a field of this detail
pub record IsMadeUnder (v w : View) (at k c : ℕ) (key : Key) (d : Detail) : Type 0 where
  pub number : c ≡ v.used.maps
  pub live : live_child w.trail at key ≡ Some c
  pub child : IsSomeAnd (gate_in w.trail at) (λ g. IsChildFor w.trail at g c key)
  pub last : EndsWith w.trail c k key d
  pub detail : detail_in w.trail v.used.fields ≡ Some d
  pub bare : links_in w.trail c ≡ []
  pub used : w.used ≡ with_need (child_need None k) v.used
  pub gets : Adds (Reshapes v.used NoMap (ChildGets v.trail None k d v.used.fields)) v.trail w.trail
  pub writes : Adds (MakesMap v.used (Some at)) v.trail w.trail
  pub shape : w.shape ≡ v.shape
  pub tree : IsTree w.trail
  pub heap : IsHeap w

pub detail-by : (used : Shape) (p : Option ℕ) (f : ℕ) → f < used.fields → (t : Trail) (w : Write) → MakesMap used p t w → detail_in (w ∷ t) f ≡ detail_in t f
detail-by used p f lt t (FieldDetail x d) e = cond-other x f (Some d) (detail_in t f) (λ is. omega (arith, lt, e, is))
detail-by used p f lt t _ e = refl

bits-by : (used : Shape) (at x : ℕ) → x ≢ at → (t : Trail) (w : Write) → MakesMap used (Some at) t w → bits_in (w ∷ t) x ≡ bits_in t x
bits-by used at x other t (Bits m b) e = cond-other m x b (bits_in t x) (λ is. other (sym is ∙ sym (some-is at m e.0)))
bits-by used at x other t _ e = refl

no-live : (t : Trail) (m : ℕ) (key : Key) → links_in t m ≡ [] → live_child t m key ≡ None
no-live t m key none = ap (λ (ls : List ℕ). live_of t (newest_of t ls key)) none

has-link : (t : Trail) (m c : ℕ) (key : Key) → live_child t m key ≡ Some c → links_in t m ≢ []
has-link t m c key live none = let n : None ≡ Some c = sym (no-live t m key none) ∙ live in let f : ⊥ = cc in f

of-same : (a b : Trail) (o : Option ℕ) → IsSomeAnd o (λ f. detail_in b f ≡ detail_in a f) → detail_of b o ≡ detail_of a o
of-same a b (Some f) same = same
of-same a b None same = refl

-- the fields of an open map were handed out
pub fields-used : MapsAreKept → UnusedSaysNothing → (v : View) → IsHeap v → (m : ℕ) (g : GateWord) → gate_in v.trail m ≡ Some g → (k : ℕ) → k < g.entries → IsSomeAnd (field_at v.trail m k) (λ f. f < v.used.fields)
fields-used maps unused v heap m g is k lt =
    let still = maps v.shape v.trail v.trail heap.lawful (goes-still v.shape heap.lawful) in
    and-then (λ (f : ℕ). IsField v.trail f) (λ (f : ℕ). f < v.used.fields) (field_at v.trail m k) ((still.opened m g is).entries.fields k lt) (λ f made. field-used v f unused heap made)

-- what the fields of an open map admit stays while only new fields get details
pub details-stay : MapsAreKept → UnusedSaysNothing → (v w : View) → IsHeap v → MapsStay v.trail w.trail → ((f : ℕ) → f < v.used.fields → detail_in w.trail f ≡ detail_in v.trail f) → (m : ℕ) (g : GateWord) → gate_in v.trail m ≡ Some g → (k : ℕ) → k < g.entries → detail_at w.trail m k ≡ detail_at v.trail m k
details-stay maps unused v w heap after kept m g is k lt =
    ap (detail_of w.trail) (after.entry m k g is lt).field
    ∙ of-same v.trail w.trail (field_at v.trail m k) (and-then (λ (f : ℕ). f < v.used.fields) (λ (f : ℕ). detail_in w.trail f ≡ detail_in v.trail f) (field_at v.trail m k) (fields-used maps unused v heap m g is k lt) kept)

end-detail : (t : Trail) (c k : ℕ) (d : Detail) → IsSomeAnd (field_at t c k) (λ f. (owner_in t f ≡ Some c) × (detail_in t f ≡ Some d)) → detail_at t c k ≡ Some d
end-detail t c k d h = by (field_at t c k) h
  where
    by : (o : Option ℕ) → IsSomeAnd o (λ f. (owner_in t f ≡ Some c) × (detail_in t f ≡ Some d)) → detail_of t o ≡ Some d
    by (Some f) h = h.1
    by None h = absurd h

module _ (maps : MapsAreKept) (unused : UnusedSaysNothing) (v w : View) (at m k n c : ℕ) (key : Key) (d : Detail) (heap : IsHeap v) (it : IsMadeUnder v w at k c key d)
    (is_open : gate_in v.trail at ≡ Some (gate_with k false)) (at_map : gate_in v.trail m ≡ Some (gate_with n false)) (lt : k < n) (is_key : key_at v.trail m k ≡ Some key) where
  after : MapsStay v.trail w.trail
  after = maps v.shape v.trail w.trail heap.lawful (goes-on-of v.shape it.writes (subst (λ (s : Shape). Lawful s w.trail) it.shape it.heap.lawful))

  its-child : IsChildFor w.trail at (gate_with k false) c key
  its-child = subst (λ (g : Option GateWord). IsSomeAnd g (λ y. IsChildFor w.trail at y c key)) (after.written.gate at (gate_with k false) is_open) it.child

  opens-step : OpensNoRoot v.trail w.trail
  opens-step =
      let used : w.used.maps ≡ v.used.maps + 1 = ap (λ (s : Shape). s.maps) it.used in
      let parent : parent_in w.trail v.used.maps ≡ Some (Some at) = subst (λ (x : ℕ). parent_in w.trail x ≡ Some (Some at)) it.number its-child.parent in
      opens-one unused v w (Some at) it.heap it.writes used (λ g gate shared top. child-no-root w.trail at v.used.maps parent top)

  linked-step : AreLinked v.trail w.trail
  linked-step x stable marked = same-or x at (links_in w.trail x ≢ [])
      (λ is. subst (λ (y : ℕ). links_in w.trail y ≢ []) (sym is) (has-link w.trail at c key it.live))
      (λ other. let same : bits_in w.trail x ≡ bits_in v.trail x = same-after (λ (t : Trail). bits_in t x) (bits-by v.used at x other) it.writes in
      absurd (true≢false (sym marked ∙ ap (λ (b : MapBits). b.unstable) same ∙ stable)))

  keys-step : ((j : ℕ) → j < k → key_at v.trail at j ≡ key_at v.trail m j) → (j : ℕ) → j < k + 1 → key_at w.trail c j ≡ key_at w.trail m j
  keys-step keys j below = same-or j k (key_at w.trail c j ≡ key_at w.trail m j)
      (λ same. ap (key_at w.trail c) same ∙ its-child.last ∙ sym is_key ∙ sym (after.entry m k (gate_with n false) at_map lt).key ∙ ap (key_at w.trail m) (sym same))
      (λ other.
      let before : j < k = omega (arith, below, other) in
      its-child.entries.keys j before ∙ (after.entry at j (gate_with k false) is_open before).key ∙ keys j before ∙ sym (after.entry m j (gate_with n false) at_map (omega (arith, before, lt))).key)

  kept-step : (f : ℕ) → f < v.used.fields → detail_in w.trail f ≡ detail_in v.trail f
  kept-step f below = same-after (λ (t : Trail). detail_in t f) (detail-by v.used (Some at) f below) it.writes

  owned-step : IsOwnedFrom w.trail c k v.used.maps
  owned-step = and-then (λ (f : ℕ). owner_in w.trail f ≡ Some c) (λ (f : ℕ). IsSomeAnd (owner_in w.trail f) (λ a. v.used.maps ≤ a)) (field_at w.trail c k) its-child.field (λ f owns. owned-by (owner_in w.trail f) owns)
    where
      least : v.used.maps ≤ c
      least = let number = it.number in omega (arith, number)

      owned-by : (o : Option ℕ) → o ≡ Some c → IsSomeAnd o (λ a. v.used.maps ≤ a)
      owned-by o is = subst (λ (x : Option ℕ). IsSomeAnd x (λ a. v.used.maps ≤ a)) (sym is) least

  pub built-step : ((j : ℕ) → j < k → key_at v.trail at j ≡ key_at v.trail m j) → IsBuilt (λ (j : ℕ). Some d) v w at m c k n (k + 1)
  built-step keys =
      let next = arrays-next k in
      let um : w.used.maps ≡ v.used.maps + 1 = ap (λ (s : Shape). s.maps) it.used in
      let ue : w.used.entries ≡ v.used.entries + cap_of (k + 1) = ap (λ (s : Shape). s.entries) it.used in
      let uf : w.used.fields ≡ v.used.fields + 1 = ap (λ (s : Shape). s.fields) it.used in
      let ul : w.used.links ≡ v.used.links + 1 = ap (λ (s : Shape). s.links) it.used in
      let us : w.used.slots ≡ v.used.slots + 0 = ap (λ (s : Shape). s.slots) it.used in
      record {
        writes = adds-wider (reshapes-later v.used v.used (no-less-none v.used) NoMap (ChildGets v.trail None k d v.used.fields) (GetsWanted (λ (j : ℕ). Some d) k (k + 1) v.used.fields)
            (λ f e is. record { place = k; from = omega arith; within = omega arith; field = ap (λ (x : ℕ). x + k) is.0; same = ap (λ (x : Detail). Some x) (sym is.1) })) it.gets;
        opens = opens-step;
        linked = linked-step;
        maps = omega (arith, um);
        entries = omega (arith, ue, next);
        fields = omega (arith, uf);
        links = omega (arith, ul);
        objects = ap (λ (s : Shape). s.objects) it.used;
        slots = omega (arith, us);
        cells = ap (λ (s : Shape). s.cells) it.used;
        shape = it.shape;
        gate = its-child.gate;
        live = live-bits w.trail (child_of w.trail at key) c it.live;
        prototype = its-child.prototype ∙ proto-stays v.trail w.trail after at (gate_with k false) is_open;
        keys = keys-step keys;
        shared = λ j below. its-child.entries.fields j below ∙ (after.entry at j (gate_with k false) is_open below).field;
        made = λ j from below. let same : j ≡ k = omega (arith, from, below) in
            subst (λ (x : ℕ). detail_at w.trail c x ≡ Some d) (sym same) (end-detail w.trail c k d it.last.field);
        owned = λ j from below. let same : j ≡ k = omega (arith, from, below) in subst (λ (x : ℕ). IsOwnedFrom w.trail c x v.used.maps) (sym same) owned-step;
        kept = kept-step;
        gets = λ f x is.
            let place : is.place ≡ k = omega (arith, is.from, is.within) in
            let here : f ≡ v.used.fields = omega (arith, is.field, place) in
            ap (detail_in w.trail) here ∙ (it.detail ∙ is.same);
        ends = λ other below is. no-live w.trail c other it.bare;
        tree = it.tree;
        heap = it.heap;
      }

-- Many steps

owned-more : (t : Trail) (c k first least : ℕ) → least ≤ first → IsOwnedFrom t c k first → IsOwnedFrom t c k least
owned-more t c k first least le h = and-then (λ (f : ℕ). IsSomeAnd (owner_in t f) (λ a. first ≤ a)) (λ (f : ℕ). IsSomeAnd (owner_in t f) (λ a. least ≤ a)) (field_at t c k) h
    (λ f owns. and-then (λ (a : ℕ). first ≤ a) (λ (a : ℕ). least ≤ a) (owner_in t f) owns (λ a above. omega (arith, above, le)))

-- a field's owner stays, and so it is owned in a map that shares it
owned-later : (s t : Trail) (at c k first : ℕ) → ((f o : ℕ) → owner_in s f ≡ Some o → owner_in t f ≡ Some o) → field_at t c k ≡ field_at s at k → IsOwnedFrom s at k first → IsOwnedFrom t c k first
owned-later s t at c k first stays shared h = subst (λ (o : Option ℕ). IsSomeAnd o (λ f. IsSomeAnd (owner_in t f) (λ a. first ≤ a))) (sym shared)
    (and-then (λ (f : ℕ). IsSomeAnd (owner_in s f) (λ a. first ≤ a)) (λ (f : ℕ). IsSomeAnd (owner_in t f) (λ a. first ≤ a)) (field_at s at k) h
    (λ f owns. let o = some-with (λ (a : ℕ). first ≤ a) (owner_in s f) owns in subst (λ (x : Option ℕ). IsSomeAnd x (λ a. first ≤ a)) (sym (stays f o.0 o.1.0)) o.1.1))

pub built-none : (wanted : ℕ → Option Detail) (v : View) (base m count n : ℕ) → IsHeap v → IsTree v.trail → gate_in v.trail base ≡ Some (gate_with count false) → (bits_in v.trail base).deprecated ≡ false
    → ((j : ℕ) → j < count → key_at v.trail base j ≡ key_at v.trail m j) → ((key : Key) → count < n → key_at v.trail m count ≡ Some key → live_child v.trail base key ≡ None) → IsBuilt wanted v v base m base count n count
built-none wanted v base m count n heap tree gate live keys ends = record {
  writes = adds-none v.trail;
  opens = λ k g none is shared parent. let n : None ≡ Some g = sym none ∙ is in let f : ⊥ = cc in f;
  linked = λ x stable marked. absurd (true≢false (sym marked ∙ stable));
  maps = refl;
  entries = refl;
  fields = refl;
  links = refl;
  objects = refl;
  slots = refl;
  cells = refl;
  shape = refl;
  gate = gate;
  live = live;
  prototype = refl;
  keys = keys;
  shared = λ k lt. refl;
  made = λ k from lt. absurd (omega (arith, from, lt));
  owned = λ k from lt. absurd (omega (arith, from, lt));
  kept = λ f lt. refl;
  gets = λ f d is. absurd (omega (arith, is.from, is.within));
  ends = ends;
  tree = tree;
  heap = heap;
}

no-more : (more ls : List ℕ) → more ++ ls ≡ [] → ls ≡ []
no-more [] ls is = is
no-more (x ∷ more) ls is = let n : ⊥ = cc in absurd n

-- maps that became unstable have links, where links are kept
pub linked-both : LinksAreKept → (s : Shape) (a b c : Trail) → GoesOn s b c → AreLinked a b → AreLinked b c → AreLinked a c
linked-both law s a b c goes x y m stable marked = by (bits_in b m).unstable refl
  where
    by : (was : Bool) → (bits_in b m).unstable ≡ was → links_in c m ≢ []
    by true e = λ none. x m stable e (no-more ((law s b c m goes).more) (links_in b m) (sym ((law s b c m goes).is) ∙ none))
    by false e = y m e marked

module _ (wanted : ℕ → Option Detail) (maps : MapsAreKept) (a b : View) (base m at count n k : ℕ) (heap : IsHeap a) (it : IsBuilt wanted a b base m at count n k) (from : count ≤ k) where
  lawful-b : Lawful a.shape b.trail
  lawful-b = subst (λ (s : Shape). Lawful s b.trail) it.shape it.heap.lawful

  pub built-later : MapsStay a.trail b.trail
  built-later = maps a.shape a.trail b.trail heap.lawful (goes-on-of a.shape it.writes lawful-b)

  -- what can be wanted can be later
  pub may-later : (w : Wanted) → gate_in a.trail m ≡ Some (gate_with n false) → k < n → MayBeWanted a.shape a.trail m count w → MayBeWanted b.shape b.trail m count w
  may-later (With d) is lt h = record { form = h.form; there = there-by d.class h.there }
    where
      there-by : (c : Class) → IsClassThere a.shape a.trail c → IsClassThere b.shape b.trail c
      there-by (Of x) y = (subst (λ (s : Shape). x < s.maps) (sym it.shape) y.0, let g = some-of (gate_in a.trail x) y.1 in subst (λ (o : Option GateWord). IsSome o) (sym (built-later.written.gate x g.0 g.1)) refl)
      there-by Any y = tt
  may-later (Joined end upto) is lt h =
      let g = some-with (λ (x : GateWord). upto ≤ x.entries) (gate_in a.trail end) h.is_open in
      let few : upto ≤ n = subst (λ (o : Option GateWord). upto ≤ entries_in o) is h.within in
      record {
        within = subst (λ (o : Option GateWord). upto ≤ entries_in o) (sym (built-later.written.gate m (gate_with n false) is)) few;
        is_open = subst (λ (o : Option GateWord). IsSomeAnd o (λ x. upto ≤ x.entries)) (sym (built-later.written.gate end g.0 g.1.0)) g.1.1;
        keys = λ j below.
            let most = g.1.1 in
            (built-later.entry end j g.0 g.1.0 (omega (arith, below, most))).key ∙ h.keys j below ∙ sym (built-later.entry m j (gate_with n false) is (omega (arith, below, few))).key;
      }

  -- what is wanted next is what was wanted at first
  pub built-wants : UnusedSaysNothing → (w : Wanted) → gate_in a.trail m ≡ Some (gate_with n false) → k < n → MayBeWanted a.shape a.trail m count w → wanted_at b.trail m count w k ≡ wanted_at a.trail m count w k
  built-wants unused (With d) is lt h = ap (λ (o : Option Detail). cond (eqb k count) (both_details o (Some d)) o) (details-stay maps unused a b heap built-later it.kept m (gate_with n false) is k lt)
  built-wants unused (Joined end upto) is lt h = by (ltb k upto) refl
    where
      own : detail_at b.trail m k ≡ detail_at a.trail m k
      own = details-stay maps unused a b heap built-later it.kept m (gate_with n false) is k lt

      by : (c : Bool) → ltb k upto ≡ c → cond c (joined_at b.trail end m k) (detail_at b.trail m k) ≡ cond c (joined_at a.trail end m k) (detail_at a.trail m k)
      by true e =
          let g = some-with (λ (x : GateWord). upto ≤ x.entries) (gate_in a.trail end) h.is_open in
          let most = g.1.1 in
          let below = ltb-true k upto e in
          ap (λ (o : Option Detail). both_details o (detail_at b.trail m k)) (details-stay maps unused a b heap built-later it.kept end g.0 g.1.0 k (omega (arith, below, most)))
          ∙ ap (λ (o : Option Detail). both_details (detail_at a.trail end k) o) own
      by false e = own

  -- there is room for the next step
  pub built-space : k < n → HasSpace a (build_need count n) → HasSpace b (child_need None k)
  built-space lt space =
      let next = arrays-next k in
      let rise : arrays_upto count ≤ arrays_upto k = arrays-rise count k from in
      let most : arrays_upto (k + 1) ≤ arrays_upto n = arrays-rise (k + 1) n (omega (arith, lt)) in
      subst (λ (s : Shape). HasSpace (record { shape = s; trail = b.trail; used = b.used }) (child_need None k)) (sym it.shape) (record {
        maps = omega (arith, it.maps, space.maps, lt, from);
        entries = omega (arith, it.entries, space.entries, next, most, rise);
        fields = omega (arith, it.fields, space.fields, lt, from);
        links = omega (arith, it.links, space.links, lt, from);
        slots = omega (arith, it.slots, space.slots);
      })

  pub no-less-built : IsNoLess a.used b.used
  no-less-built =
      let rise = arrays-rise count k from in record {
        maps = omega (arith, it.maps, from);
        entries = omega (arith, it.entries, rise);
        fields = omega (arith, it.fields, from);
        links = omega (arith, it.links, from);
        slots = omega (arith, it.slots);
      }

  -- what was wanted at first is wanted later
  pub later-gets : (f : ℕ) (e : Detail) → GetsWanted wanted count k a.used.fields f e → GetsWanted wanted count (k + 1) a.used.fields f e
  later-gets f e is = record { place = is.place; from = is.from; within = omega (arith, is.within); field = is.field; same = is.same }

  -- a step more
  pub built-more : GatesAreOpen → LinksAreKept → UnusedSaysNothing → (c : View) (child : ℕ) (d : Detail) → wanted k ≡ Some d → k < n → IsBuilt (λ (j : ℕ). Some d) b c at m child k n (k + 1) → IsBuilt wanted a c base m child count n (k + 1)
  built-more gates links unused c child d here lt step =
      let next = arrays-next k in
      let lawful_c : Lawful b.shape c.trail = subst (λ (s : Shape). Lawful s c.trail) step.shape step.heap.lawful in
      let goes : GoesOn b.shape b.trail c.trail = goes-on-of b.shape step.writes lawful_c in
      let on : MapsStay b.trail c.trail = maps b.shape b.trail c.trail it.heap.lawful goes in
      let fields = it.fields in
      record {
        writes = adds-on
            (adds-wider (reshapes-later a.used a.used (no-less-none a.used) NoMap (GetsWanted wanted count k a.used.fields) (GetsWanted wanted count (k + 1) a.used.fields) later-gets) it.writes)
            (adds-wider (reshapes-later a.used b.used no-less-built NoMap (GetsWanted (λ (j : ℕ). Some d) k (k + 1) b.used.fields) (GetsWanted wanted count (k + 1) a.used.fields)
            (λ f e is.
            let same : is.place ≡ k = omega (arith, is.from, is.within) in
            record {
              place = is.place;
              from = omega (arith, is.from, from);
              within = is.within;
              field = omega (arith, is.field, fields);
              same = ap wanted same ∙ here ∙ is.same;
            })) step.writes);
        opens = opens-both a.trail b.trail c.trail on (λ x g is. (gates b.shape b.trail x g it.heap.lawful is).parent) it.opens step.opens;
        linked = linked-both links b.shape a.trail b.trail c.trail goes it.linked step.linked;
        maps = omega (arith, it.maps, step.maps);
        entries = omega (arith, it.entries, step.entries);
        fields = omega (arith, it.fields, step.fields);
        links = omega (arith, it.links, step.links);
        objects = step.objects ∙ it.objects;
        slots = step.slots ∙ it.slots;
        cells = step.cells ∙ it.cells;
        shape = step.shape ∙ it.shape;
        gate = step.gate;
        live = step.live;
        prototype = step.prototype ∙ it.prototype;
        keys = step.keys;
        shared = λ j below. step.shared j (omega (arith, below, from)) ∙ it.shared j below;
        made = λ j above below. same-or j k (detail_at c.trail child j ≡ wanted j)
            (λ same. subst (λ (x : ℕ). detail_at c.trail child x ≡ wanted x) (sym same) (step.made k (omega arith) (omega arith) ∙ sym here))
            (λ other.
            let before : j < k = omega (arith, below, other) in
            ap (detail_of c.trail) (step.shared j before)
            ∙ of-same b.trail c.trail (field_at b.trail at j) (and-then (λ (f : ℕ). f < b.used.fields) (λ (f : ℕ). detail_in c.trail f ≡ detail_in b.trail f) (field_at b.trail at j) (fields-used maps unused b it.heap at (gate_with k false) it.gate j before) step.kept)
            ∙ it.made j above before);
        owned = λ j above below. same-or j k (IsOwnedFrom c.trail child j a.used.maps)
            (λ same. let less = no-less-built.maps in subst (λ (x : ℕ). IsOwnedFrom c.trail child x a.used.maps) (sym same) (owned-more c.trail child k b.used.maps a.used.maps less (step.owned k (omega arith) (omega arith))))
            (λ other.
            let before : j < k = omega (arith, below, other) in
            owned-later b.trail c.trail at child j a.used.maps (λ f o is. on.written.owner f o is) (step.shared j before) (it.owned j above before));
        kept = λ f below. step.kept f (omega (arith, below, fields, from)) ∙ it.kept f below;
        gets = λ f x is. same-or is.place k (detail_in c.trail f ≡ Some x)
            (λ same. step.gets f x (record {
              place = is.place;
              from = omega (arith, same);
              within = omega (arith, same);
              field = omega (arith, is.field, fields, same);
              same = sym here ∙ (ap wanted (sym same) ∙ is.same);
            }))
            (λ other.
            let before : is.place < k = omega (arith, is.within, other) in
            step.kept f (omega (arith, is.field, fields, before)) ∙ it.gets f x (record { place = is.place; from = is.from; within = before; field = is.field; same = is.same }));
        ends = step.ends;
        tree = step.tree;
        heap = step.heap;
      }
