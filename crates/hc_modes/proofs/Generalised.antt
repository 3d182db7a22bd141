-- The map of an object is generalised at a place: what stands in its place.
use Rattle.std.proofs.Common.{◌≡◌, ◌≢◌, ℕ, ◌+◌, ◌<◌, ◌≤◌, Bool, true, false, cond, eqb, Option, Some, ◌∷◌, refl, sym, ap, ◌∙◌, subst, arith, [], true≢false, inl, inr, ⊎_elim, eq-eqb}
use Rattle.std.specs.Prelude.{IsSome, IsSomeAnd, IsTrue, ◌&&◌, ◌==◌}
use Rattle.hc_layout.specs.declared.shape.Shape.{Shape}
use Rattle.hc_layout.specs.declared.words.GateWord.{GateWord}
use Rattle.hc_layout.specs.declared.words.MapBits.{MapBits}
use Rattle.hc_value.specs.Field.{is_class_within, is_constness_within, is_detail_within, is_within, join_of, joined_class, joined_constness, joined_detail}
use Rattle.hc_value.specs.declared.field.Class.{Class}
use Rattle.hc_value.specs.declared.field.Class.TheVariants.{Any, Of}
use Rattle.hc_value.specs.declared.field.Constness.{Constness}
use Rattle.hc_value.specs.declared.field.Constness.TheVariants.{Const, Mutable}
use Rattle.hc_value.specs.declared.field.Detail.{Detail}
use Rattle.hc_value.specs.declared.field.Rep.{Rep}
use Rattle.hc_value.specs.declared.field.Rep.TheVariants.{HeapObject, Smi, Tagged, Wide}
use Rattle.hc_heap.specs.Readings.{bits_in, detail_in, gate_in, map_in, prototype_in, root_in}
use Rattle.hc_heap.specs.States.{View}
use Rattle.hc_heap.specs.Writes.{Bits, Trail}
use Rattle.hc_descs.specs.Entries.{detail_at, key_at}
use Rattle.hc_tree.specs.Growth.{marked}
use Rattle.hc_tree.specs.Tree.{IsTree, gate_with}
use Rattle.hc_heap.specs.Lawful.{IsClassThere, Lawful}
use Rattle.hc_tree.specs.Walking.{IsDetail, both_details, wanted_at}
use Rattle.hc_tree.specs.declared.retarget.Wanted.TheVariants.{With}
use Rattle.hc_links.specs.Chains.{links_in}
use Rattle.hc_tree.specs.Details.{DetailsAre}
use Rattle.hc_tree.specs.Dying.{IsDead, OwnersStand}
use Rattle.hc_tree.specs.Needs.{IsWithin, arrays_upto, own_need}
use Rattle.hc_tree.specs.Walking.{GetsWanted, OpensNoRoot}
use Rattle.hc_update.specs.Renewing.{HasGeneralised, IsDoomed, IsGeneralised, IsGeneralisedAlone, IsThis, OwnGets, generalise_need, generalised_at}
use Rattle.hc_slots.specs.Cases.{some-is}
use Rattle.hc_slots.specs.Fast.{HasMap, IsFast}
use Rattle.hc_modes.specs.Resettled.{GeneralisingGets, GeneralisingKills, IsRemade, marked_view}
use Rattle.hc_modes.proofs.Asked.{detail-same}
use Rattle.hc_modes.proofs.Left.{marked-same}
use Rattle.hc_modes.proofs.Gets.{details-from}
use Rattle.hc_modes.proofs.Marking.{bits-marked}
use Rattle.hc_modes.proofs.Needing.{arrays-rise, no-less-need}

-- A join admits what is joined

rep-left : (a b : Rep) → IsTrue (is_within a (join_of a b))
rep-left Smi Smi = refl
rep-left Smi Wide = refl
rep-left Smi HeapObject = refl
rep-left Smi Tagged = refl
rep-left Wide Smi = refl
rep-left Wide Wide = refl
rep-left Wide HeapObject = refl
rep-left Wide Tagged = refl
rep-left HeapObject Smi = refl
rep-left HeapObject Wide = refl
rep-left HeapObject HeapObject = refl
rep-left HeapObject Tagged = refl
rep-left Tagged Smi = refl
rep-left Tagged Wide = refl
rep-left Tagged HeapObject = refl
rep-left Tagged Tagged = refl

constness-left : (a b : Constness) → IsTrue (is_constness_within a (joined_constness a b))
constness-left Const Const = refl
constness-left Const Mutable = refl
constness-left Mutable Const = refl
constness-left Mutable Mutable = refl

class-left : (a b : Class) → IsTrue (is_class_within a (joined_class a b))
class-left (Of m) (Of n) = by (eqb m n)
  where
    by : (t : Bool) → IsTrue (is_class_within (Of m) (cond t (Of m) Any))
    by true = eq-eqb m m refl
    by false = refl
class-left (Of m) Any = refl
class-left Any (Of n) = refl
class-left Any Any = refl

all-true : (x y z : Bool) → IsTrue x → IsTrue y → IsTrue z → IsTrue (x && y && z)
all-true true true true a b c = refl
all-true true true false a b c = c
all-true true false z a b c = b
all-true false y z a b c = a

pub detail-left : (a b : Detail) → IsTrue (is_detail_within a (joined_detail a b))
detail-left a b = all-true _ _ _ (rep-left a.rep b.rep) (constness-left a.constness b.constness) (class-left a.class b.class)

-- what is wanted of a map that is generalised admits what its fields did
wanted-admits : (t : Trail) (m i k : ℕ) (d was now : Detail) → detail_at t m k ≡ Some was → wanted_at t m i (With d) k ≡ Some now → IsTrue (is_detail_within was now)
wanted-admits t m i k d was now is then = by (k == i) then
  where
    by : (b : Bool) → cond b (both_details (detail_at t m k) (Some d)) (detail_at t m k) ≡ Some now → IsTrue (is_detail_within was now)
    by true e =
        let joined : joined_detail was d ≡ now = some-is (joined_detail was d) now (sym (ap (λ (x : Option Detail). both_details x (Some d)) is) ∙ e) in
        subst (λ (x : Detail). IsTrue (is_detail_within was x)) joined (detail-left was d)
    by false e = subst (λ (x : Detail). IsTrue (is_detail_within was x)) (some-is was now (sym is ∙ e)) (detail-same was)

-- A private map

module _ (v w : View) (m c n i : ℕ) (d : Detail) (proto : Option ℕ) (is : prototype_in v.trail m ≡ Some proto) (it : IsGeneralisedAlone (marked_view v m) w m n i c d) where
  same : {T : Type 0} (reading : Trail → T) → ((b : MapBits) → reading (Bits m b ∷ v.trail) ≡ reading v.trail) → reading (marked v.trail m) ≡ reading v.trail
  same reading h = marked-same v.trail m reading h

  pub alone-remade : IsRemade (IsThis m) (OwnGets (marked_view v m) m i d) v w m c n true proto
  alone-remade = record {
    writes = it.writes;
    shape = it.shape;
    objects = ap (λ (s : Shape). s.objects) it.used;
    dead = λ x is there. subst (λ (k : ℕ). IsTrue (bits_in w.trail k).deprecated) (sym is) it.dead;
    slots = let more : w.used.slots ≡ v.used.slots + 0 = ap (λ (s : Shape). s.slots) it.used in omega (arith, more);
    marks = λ x other stable now. absurd (true≢false (sym now ∙ (ap (λ (b : MapBits). b.unstable) (it.others x other) ∙ (ap (λ (b : MapBits). b.unstable) (bits-marked v.trail m x other) ∙ stable))));
    gate = it.gate;
    stable = λ yes. ap (λ (b : MapBits). b.unstable) it.stable;
    fresh = λ yes. it.number;
    prototype = it.prototype ∙ (same (λ (t : Trail). prototype_in t m) (λ b. refl) ∙ is);
    keys = λ k lt. it.keys k lt ∙ same (λ (t : Trail). key_at t m k) (λ b. refl);
    admits = λ k was now lt there then. wanted-admits (marked v.trail m) m i k d was now (same (λ (t : Trail). detail_at t m k) (λ b. refl) ∙ there) (sym (it.made k lt) ∙ then);
    tree = it.tree;
    heap = it.heap;
  }

-- A shared map

module _ (v w : View) (m c n i : ℕ) (d : Detail) (proto : Option ℕ) (is : prototype_in v.trail m ≡ Some proto) (it : IsGeneralised (marked_view v m) w m n i c d) where
  pub shared-remade : IsRemade (IsDoomed (marked v.trail m) m n i) (GetsWanted (generalised_at (marked v.trail m) m i d) i n v.used.fields) v w m c n false proto
  shared-remade = record {
    writes = it.renewed.writes;
    shape = it.renewed.shape;
    objects = it.renewed.objects;
    dead = λ x dies there. it.renewed.dead x dies (subst IsSome (sym (marked-same v.trail m (λ (t : Trail). gate_in t x) (λ b. refl))) there);
    slots = it.renewed.slots;
    marks = λ x other stable now. ⊎_elim
        (λ (links : links_in w.trail x ≢ []). inl links)
        (λ (dead : IsDead (IsDoomed (marked v.trail m) m n i) w.trail x). inr (record { shared = it.renewed.spares x dead.0; dead = dead.1 }))
        (it.renewed.linked x (ap (λ (b : MapBits). b.unstable) (bits-marked v.trail m x other) ∙ stable) now);
    gate = it.renewed.gate;
    stable = λ no. let f : ⊥ = cc in absurd f;
    fresh = λ no. let f : ⊥ = cc in absurd f;
    prototype = it.renewed.prototype ∙ (marked-same v.trail m (λ (t : Trail). prototype_in t m) (λ b. refl) ∙ is);
    keys = λ k lt. it.renewed.keys k lt ∙ marked-same v.trail m (λ (t : Trail). key_at t m k) (λ b. refl);
    admits = λ k was now lt there then. it.admits k was now lt (marked-same v.trail m (λ (t : Trail). detail_at t m k) (λ b. refl) ∙ there) then;
    tree = it.renewed.tree;
    heap = it.renewed.heap;
  }

-- Either

pub generalised-remade : (v w : View) (m c n i : ℕ) (d : Detail) (proto : Option ℕ) (own : Bool) → prototype_in v.trail m ≡ Some proto → HasGeneralised own (marked_view v m) w m n i c d
    → IsRemade (GeneralisingKills own (marked v.trail m) m n i) (GeneralisingGets own (marked_view v m) m n i d) v w m c n own proto
generalised-remade v w m c n i d proto true is it = alone-remade v w m c n i d proto is it
generalised-remade v w m c n i d proto false is it = shared-remade v w m c n i d proto is it

-- and what else holds of it

module _ (v w : View) (m c n i : ℕ) (d : Detail) where
  same-reading : {T : Type 0} (reading : Trail → T) → ((b : MapBits) → reading (Bits m b ∷ v.trail) ≡ reading v.trail) → reading (marked v.trail m) ≡ reading v.trail
  same-reading reading h = marked-same v.trail m reading h

  opens-from : OpensNoRoot (marked v.trail m) w.trail → OpensNoRoot v.trail w.trail
  opens-from opens k g none gate shared parent = opens k g (same-reading (λ (t : Trail). gate_in t k) (λ b. refl) ∙ none) gate shared parent

  pub generalised-opens : (own : Bool) → HasGeneralised own (marked_view v m) w m n i c d → OpensNoRoot v.trail w.trail
  generalised-opens true it = opens-from it.opens
  generalised-opens false it = opens-from it.renewed.opens

  pub generalised-needs : (own : Bool) → i < n → HasGeneralised own (marked_view v m) w m n i c d → IsWithin (generalise_need (gate_with n own) i) v.used w.used
  generalised-needs true lt it = subst (IsWithin (own_need n) v.used) (sym it.used) (record {
    maps = omega arith;
    entries = omega arith;
    fields = omega arith;
    links = omega arith;
    slots = omega arith;
    cells = refl;
    rises = no-less-need (own_need n) v.used;
  })
  generalised-needs false lt it =
      let rise : arrays_upto i ≤ arrays_upto n = arrays-rise i n (omega (arith, lt)) in
      record {
        maps = omega (arith, it.renewed.maps, lt);
        entries = omega (arith, it.renewed.entries, rise);
        fields = omega (arith, it.renewed.fields, lt);
        links = omega (arith, it.renewed.links, lt);
        slots = omega (arith, it.renewed.slots);
        cells = it.renewed.cells;
        rises = record {
          maps = omega (arith, it.renewed.maps, lt);
          entries = omega (arith, it.renewed.entries, rise);
          fields = omega (arith, it.renewed.fields, lt);
          links = omega (arith, it.renewed.links, lt);
          slots = omega (arith, it.renewed.slots);
        };
      }

  pub generalised-live : (own : Bool) → HasGeneralised own (marked_view v m) w m n i c d → (bits_in w.trail c).deprecated ≡ false
  generalised-live true it = ap (λ (b : MapBits). b.deprecated) it.stable
  generalised-live false it = it.renewed.live

  pub generalised-wanted : (own : Bool) → i < n → HasGeneralised own (marked_view v m) w m n i c d → detail_at w.trail c i ≡ generalised_at (marked v.trail m) m i d i
  generalised-wanted true lt it = it.made i lt
  generalised-wanted false lt it = it.made i (omega arith) lt

  pub generalised-details : (own : Bool) → HasGeneralised own (marked_view v m) w m n i c d → DetailsAre (GeneralisingGets own (marked_view v m) m n i d) v.trail w.trail
  generalised-details true it = details-from (λ f. same-reading (λ (t : Trail). detail_in t f) (λ b. refl)) it.details
  generalised-details false it = details-from (λ f. same-reading (λ (t : Trail). detail_in t f) (λ b. refl)) it.renewed.details

  -- it is another map: a private one is new, and of a shared one the first died
  pub generalised-other : OwnersStand → (own : Bool) → m < v.used.maps → Lawful v.shape (marked v.trail m) → IsTree (marked v.trail m) → gate_in v.trail m ≡ Some (gate_with n own) → i < n → HasGeneralised own (marked_view v m) w m n i c d → c ≢ m
  generalised-other owners true below lawful tree is_open lt it same = omega (arith, same, it.number, below)
  generalised-other owners false below lawful tree is_open lt it same =
      let gate : gate_in (marked v.trail m) m ≡ Some (gate_with n false) = same-reading (λ (t : Trail). gate_in t m) (λ b. refl) ∙ is_open in
      let owner = owners v.shape (marked v.trail m) m n i lawful tree gate lt in
      let doomed : IsDoomed (marked v.trail m) m n i m = record {
        within = lt;
        field = owner.1.field;
        owner = owner.0;
        is_field = owner.1.is_field;
        owns = owner.1.owner;
        under = record { depth = owner.1.depth; leads = owner.1.high };
      } in
      let dead : IsTrue (bits_in w.trail m).deprecated = it.renewed.dead m doomed (subst IsSome (sym gate) refl) in
      true≢false (sym dead ∙ (ap (λ (x : ℕ). (bits_in w.trail x).deprecated) (sym same) ∙ it.renewed.live))

class-marked : (s : Shape) (t : Trail) (m : ℕ) (k : Class) → IsClassThere s t k → IsClassThere s (marked t m) k
class-marked s t m (Of x) h = (h.0, subst IsSome (sym (marked-same t m (λ (u : Trail). gate_in u x) (λ b. refl))) h.1)
class-marked s t m Any h = h

-- a detail may be admitted once a map is unstable
pub marked-detail : (v : View) (m : ℕ) (d : Detail) → IsDetail v.shape v.trail d → IsDetail v.shape (marked v.trail m) d
marked-detail v m d h = record { form = h.form; there = class-marked v.shape v.trail m d.class h.there }

-- the object's map, which was read
pub record IsItsMap (t : Trail) (o m n : ℕ) (own : Bool) : Type 0 where
  pub fast : IsFast t o m (gate_with n own)
  pub is_open : gate_in t m ≡ Some (gate_with n own)

pub its-map : (t : Trail) (o m n : ℕ) → IsTree t → (so : HasMap t o) → map_in t o ≡ Some m → IsSomeAnd (gate_in t m) (λ g. g.entries ≡ n) → IsItsMap t o m n (root_in t o).is_proto
its-map t o m n tree so has opened =
    let same : so.map ≡ m = some-is so.map m (sym so.is_map ∙ has) in
    let fast : IsFast t o m so.gate = subst (λ (x : ℕ). IsFast t o x so.gate) same so.fast in
    let count : so.gate.entries ≡ n = subst (λ (x : Option GateWord). IsSomeAnd x (λ g. g.entries ≡ n)) fast.is_open opened in
    let gates : so.gate ≡ gate_with n (root_in t o).is_proto =
    ap (λ (k : ℕ). let g : GateWord = record { entries = k; is_private = so.gate.is_private; is_locked = so.gate.is_locked } in g) count
    ∙ ap (λ (b : Bool). let g : GateWord = record { entries = n; is_private = b; is_locked = so.gate.is_locked } in g) fast.private
    ∙ ap (λ (b : Bool). let g : GateWord = record { entries = n; is_private = (root_in t o).is_proto; is_locked = b } in g) (tree.maps m so.gate fast.is_open).unlocked in
    let whole : IsFast t o m (gate_with n (root_in t o).is_proto) = subst (λ (g : GateWord). IsFast t o m g) gates fast in
    record { fast = record { is_open = whole.is_open; holds = record { capacity = whole.holds.capacity; slots = whole.holds.slots }; private = whole.private }; is_open = whole.is_open }
