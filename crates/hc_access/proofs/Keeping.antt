-- What entries of inline caches say stays true.
use Rattle.std.proofs.Common.{◌≡◌, ℕ, ◌<◌, ◌≤◌, false, Option, Some, None, List, length, refl, sym, ap, ◌∙◌, subst, arith, inl, inr}
use Rattle.std.specs.Prelude.{◌⊎◌, IsSome, IsSomeAnd}
use Rattle.std.proofs.lemmas.Bool.{cases_eq}
use Rattle.hc_layout.specs.declared.words.CellWord.{CellWord}
use Rattle.hc_layout.specs.declared.words.GateWord.{GateWord}
use Rattle.hc_layout.specs.declared.shape.Shape.{Shape}
use Rattle.hc_value.specs.declared.key.Key.{Key}
use Rattle.hc_value.specs.declared.prop.Prop.{Prop}
use Rattle.hc_heap.specs.Readings.{gate_in, map_in, validity_in}
use Rattle.hc_heap.specs.Kept.{GatesAreOpen, UnusedSaysNothing}
use Rattle.hc_cells.specs.Cells.{AreCells}
use Rattle.hc_cells.specs.Chains.{chain_among, chain_from, has, proto_at}
use Rattle.hc_descs.specs.Entries.{LacksName, count_of, entries_in, key_at}
use Rattle.hc_tree.specs.Kept.{MapsStay}
use Rattle.hc_table.specs.World.{Object, LeadsToNull, object, place_of, props_at}
use Rattle.hc_slots.specs.Cases.{some-and, some-is, some-of}
use Rattle.hc_slots.specs.Listed.{length-listed, listed}
use Rattle.hc_slots.specs.Meaning.{Dictionary, fast_props, prop_in}
use Rattle.hc_modes.specs.Came.{world_of}
use Rattle.hc_modes.specs.Meaning.{kept_of}
use Rattle.hc_modes.specs.State.{IsKeptSo, IsObjects, ObjectsState}
use Rattle.hc_modes.specs.Validity.{StaysPut, goes_through, protos_of, slow_proto}
use Rattle.hc_objects.specs.Came.{SaysStill}
use Rattle.hc_plan.specs.declared.case.Site.{Site}
use Rattle.hc_sites.specs.declared.cached.CacheWay.{CacheWay}
use Rattle.hc_sites.specs.declared.cached.CacheWay.TheVariants.{Own, Holder, Absent}
use Rattle.hc_sites.specs.declared.state.SiteState.{SiteState}
use Rattle.hc_access.specs.Entries.{AdmitsKey, AreGood, IsBehind, IsFound, IsGoodWay, IsOwn, IsWatched}
use Rattle.hc_access.specs.Spots.{Place, place_among, place_from}
use Rattle.hc_access.proofs.Chained.{among-same, chain-same, chain-there}
use Rattle.hc_access.proofs.Names.{named}
use Rattle.hc_access.proofs.Places.{place-same}
use Rattle.hc_access.proofs.Standing.{fast-is, length-world, opened}

-- numbers that can't differ are equal
same-unless : (x y : Option ℕ) → ((x ≡ y → ⊥) → ⊥) → x ≡ y
same-unless None None not = refl
same-unless None (Some n) not = let f : ⊥ = not (λ e. let g : ⊥ = cc in g) in absurd f
same-unless (Some m) None not = let f : ⊥ = not (λ e. let g : ⊥ = cc in g) in absurd f
same-unless (Some m) (Some n) not = by (cases_eq m n)
  where
    by : (m ≡ n) ⊎ (m ≡ n → ⊥) → Some m ≡ Some n
    by (inl e) = ap Some e
    by (inr ne) = absurd (not (λ e. ne (some-is m n e)))

-- a cell that is valid was valid, and nothing changed on its chain
pub record StaysValid {P : Type 0} (a b : ObjectsState P) (was now : CellWord) : Type 0 where
  pub object : now.object ≡ was.object
  pub valid : now.invalid ≡ false → was.invalid ≡ false
  pub put : now.invalid ≡ false → (q : ℕ) → goes_through a was.object q → (StaysPut a b q → ⊥) → ⊥

abbrev pub StayValid : {P : Type 0} → ObjectsState P → ObjectsState P → Type 0
StayValid a b = (c : ℕ) (was : CellWord) → validity_in a.heap.view.trail c ≡ Some was → IsSomeAnd (validity_in b.heap.view.trail c) (StaysValid a b was)

-- the chains that cells are told of are those of the objects' prototypes
abbrev pub AreTold : Type 0 → Type 0
AreTold P = (s : ObjectsState P) (o : ℕ) → IsObjects s.heap.view s.kept s.of_null → proto_at s.heap.view.trail (protos_of s) o ≡ (object (world_of s) o).proto

pub and-then : (v : Option CellWord) (A B : CellWord → Type 0) → ((w : CellWord) → v ≡ Some w → A w → B w) → IsSomeAnd v A → IsSomeAnd v B
and-then (Some w) A B f h = f w refl h
and-then None A B f h = absurd h

-- where cells say that their chains stay put
pub said-valid : {P : Type 0} (a b : ObjectsState P) → ((c : ℕ) (was : CellWord) → validity_in a.heap.view.trail c ≡ Some was → IsSomeAnd (validity_in b.heap.view.trail c) (λ now. SaysStill a b was now)) → StayValid a b
said-valid {P} a b say c was is =
    and-then (validity_in b.heap.view.trail c) (λ now. SaysStill a b was now) (StaysValid a b was)
    (λ now here h. record { object = h.object; valid = h.valid; put = λ off q through changed. changed (h.put off q through) }) (say c was is)

module _ {P : Type 0} (gates : GatesAreOpen) (unused : UnusedSaysNothing) (told : AreTold P) (a b : ObjectsState P)
    (sa : IsObjects a.heap.view a.kept a.of_null) (sb : IsObjects b.heap.view b.kept b.of_null) (shape : b.heap.view.shape ≡ a.heap.view.shape) (stay : MapsStay a.heap.view.trail b.heap.view.trail) where
  -- Names in objects

  pub count-then : (m : ℕ) (g : GateWord) → gate_in a.heap.view.trail m ≡ Some g → count_of b.heap.view.trail m ≡ g.entries
  count-then m g is = ap entries_in (stay.written.gate m g is)

  -- an object that has the map that it had has the names that it had
  props-place : (q m name : ℕ) → map_in a.heap.view.trail q ≡ Some m → place_of (fast_props b.heap.view.trail q m) name ≡ place_of (fast_props a.heap.view.trail q m) name
  props-place q m name has =
      let open_map = opened unused a sa q m has in
      let g = open_map.gate in
      let then = stay.written.gate m g open_map.is_gate in
      ap (λ (n : ℕ). place_of (listed (prop_in b.heap.view.trail q m) n) name) (count-then m g open_map.is_gate)
      ∙ place-same (prop_in a.heap.view.trail q m) (prop_in b.heap.view.trail q m) g.entries name
      (λ k lt.
      let was = named gates a.heap.view sa.heap m g open_map.is_gate q k lt in
      let now = named gates b.heap.view sb.heap m g then q k lt in
      let same : now.key ≡ was.key = some-is now.key was.key (sym now.is_key ∙ ((stay.entry m k g open_map.is_gate lt).key ∙ was.is_key)) in
      now.named ∙ (ap (λ (key : Key). key.name) same ∙ sym was.named))
      ∙ sym (ap (λ (n : ℕ). place_of (listed (prop_in a.heap.view.trail q m) n) name) (ap entries_in open_map.is_gate))

  place-stays : (q name : ℕ) → q < length a.kept → StaysPut a b q → place_of (props_at (world_of b) q) name ≡ place_of (props_at (world_of a) q) name
  place-stays q name lt put = by (kept_of a.kept q) refl (sa.each q lt)
    where
      by : (d : Option Dictionary) → kept_of a.kept q ≡ d → IsKeptSo a.heap.view.trail q d → place_of (props_at (world_of b) q) name ≡ place_of (props_at (world_of a) q) name
      by (Some d) e so = ap (λ (ps : List Prop). place_of ps name) (put.props (subst IsSome (sym e) refl))
      by None e so =
          ap (λ (x : Object). place_of x.props name) (fast-is unused b sb q so.map (put.map ∙ so.is_map))
          ∙ (props-place q so.map name so.is_map
          ∙ sym (ap (λ (x : Object). place_of x.props name) (fast-is unused a sa q so.map so.is_map)))

  -- Names on chains

  same-length : length (protos_of b) ≡ length (protos_of a)
  same-length =
      length-listed (slow_proto b.kept) b.heap.view.shape.objects
      ∙ (ap (λ (s : Shape). s.objects) shape ∙ sym (length-listed (slow_proto a.kept) a.heap.view.shape.objects))

  leads : (p : ℕ) → p < length a.kept → LeadsToNull (length (world_of a)) (world_of a) (Some p)
  leads p lt = sa.sound.sound.chains p (omega (arith, length-world a))

  pub place-from-stays : (p name : ℕ) → p < length a.kept → ((q : ℕ) → goes_through a p q → (StaysPut a b q → ⊥) → ⊥) → place_from b (Some p) name ≡ place_from a (Some p) name
  place-from-stays p name lt put =
      let proto = λ (q : ℕ) (through : goes_through a p q). same-unless (object (world_of b) q).proto (object (world_of a) q).proto (λ (differs : (object (world_of b) q).proto ≡ (object (world_of a) q).proto → ⊥). put q through (λ h. differs h.proto)) in
      let there = λ (q : ℕ) (through : goes_through a p q). chain-there (world_of a) a.heap.view.trail (protos_of a) (λ (x : ℕ). told a x sa) (length (protos_of a)) (length (world_of a)) (Some p) q (leads p lt) through in
      let place = λ (q : ℕ) (through : goes_through a p q). same-unless (place_of (props_at (world_of b) q) name) (place_of (props_at (world_of a) q) name)
      (λ (differs : place_of (props_at (world_of b) q) name ≡ place_of (props_at (world_of a) q) name → ⊥). put q through (λ h. differs (place-stays q name (omega (arith, there q through, length-world a)) h))) in
      ap (λ (qs : List ℕ). place_among (world_of b) qs name)
      (ap (λ (n : ℕ). chain_among n b.heap.view.trail (protos_of b) (Some p)) same-length
      ∙ chain-same a.heap.view.trail b.heap.view.trail (protos_of a) (protos_of b) (length (protos_of a)) (Some p)
      (λ q through. told b q sb ∙ (proto q through ∙ sym (told a q sa))))
      ∙ among-same (world_of a) (world_of b) (chain_from a.heap.view.trail (protos_of a) (Some p)) name place

  -- Entries

  key-stays : (m k : ℕ) (g : GateWord) → gate_in a.heap.view.trail m ≡ Some g → k < g.entries → key_at b.heap.view.trail m k ≡ key_at a.heap.view.trail m k
  key-stays m k g is lt = (stay.entry m k g is lt).key

  pub lacks-stays : (m n name : ℕ) (g : GateWord) → gate_in a.heap.view.trail m ≡ Some g → n ≤ g.entries → LacksName a.heap.view.trail m n name → LacksName b.heap.view.trail m n name
  lacks-stays m n name g is le lacks k lt = subst (λ (x : Option Key). IsSomeAnd x (λ key. key.name ≡ name → ⊥)) (sym (key-stays m k g is (omega arith))) (lacks k lt)

  pub own-stays : (site : Site) (m i : ℕ) → IsOwn a.heap.view.trail site m i → IsOwn b.heap.view.trail site m i
  own-stays site m i own =
      let gate = some-of (gate_in a.heap.view.trail m) own.opened in
      let count : count_of a.heap.view.trail m ≡ gate.0.entries = ap entries_in gate.1 in
      let within : i < gate.0.entries = let w = own.first.within in omega (arith, count) in
      let key = key-stays m i gate.0 gate.1 within in
      record {
        opened = subst IsSome (sym (stay.written.gate m gate.0 gate.1)) refl;
        first = record {
          within = omega (arith, within, count-then m gate.0 gate.1);
          here = subst (λ (x : Option Key). IsSomeAnd x (λ k. k.name ≡ site.name)) (sym key) own.first.here;
          before = lacks-stays m i site.name gate.0 gate.1 (omega (arith, within)) own.first.before;
        };
        key = subst (AdmitsKey site.op) (sym key) own.key;
      }

  module _ (cells : AreCells a.heap.view.trail a.heap.view.used) (valid : StayValid a b) where
    watched-stays : (name p : ℕ) (at : Option Place) (c : ℕ) (was now : CellWord) → validity_in a.heap.view.trail c ≡ Some was → IsWatched a name p at was → StaysValid a b was now → IsWatched b name p at now
    watched-stays name p at c was now is h s = record {
      object = s.object ∙ h.object;
      found = λ off. place-from-stays p name
          (subst (λ (x : ℕ). x < length a.kept) h.object (let lt = cells.objects c was is in omega (arith, lt, sa.items)))
          (λ q through. s.put off q (subst (λ (x : ℕ). goes_through a x q) (sym h.object) through))
          ∙ h.found (s.valid off);
    }

    behind-stays : (name : ℕ) (proto cell : Option ℕ) (at : Option Place) → IsBehind a name proto cell at → IsBehind b name proto cell at
    behind-stays name None None at h = h
    behind-stays name None (Some c) at h = absurd h
    behind-stays name (Some p) None at h = absurd h
    behind-stays name (Some p) (Some c) at h =
        let was = some-and (validity_in a.heap.view.trail c) (IsWatched a name p at) h in
        and-then (validity_in b.heap.view.trail c) (StaysValid a b was.0) (IsWatched b name p at)
        (λ now here s. watched-stays name p at c was.0 now was.1.0 was.1.1 s) (valid c was.0 was.1.0)

    found-stays : (site : Site) (m : ℕ) (cell : Option ℕ) (at : Option Place) → IsFound a site m cell at → IsFound b site m cell at
    found-stays site m cell at h =
        let gate = some-of (gate_in a.heap.view.trail m) h.opened in
        let count : count_of a.heap.view.trail m ≡ gate.0.entries = ap entries_in gate.1 in
        record {
          loads = h.loads;
          opened = subst IsSome (sym (stay.written.gate m gate.0 gate.1)) refl;
          lacks = subst (λ (n : ℕ). LacksName b.heap.view.trail m n site.name) (count ∙ sym (count-then m gate.0 gate.1))
              (lacks-stays m (count_of a.heap.view.trail m) site.name gate.0 gate.1 (omega (arith, count)) h.lacks);
          proto = h.proto;
          prototype = stay.written.prototype m h.proto h.prototype;
          behind = behind-stays site.name h.proto cell at h.behind;
        }

    way-stays : (site : Site) (m : ℕ) (cell : Option ℕ) (way : CacheWay) → IsGoodWay a site m cell way → IsGoodWay b site m cell way
    way-stays site m cell (Own i) h = own-stays site m i h
    way-stays site m cell (Holder q i) h = found-stays site m cell (Some (record { holder = q; place = i })) h
    way-stays site m cell Absent h = found-stays site m cell None h

    pub good-stays : (sites : List SiteState) → AreGood a sites → AreGood b sites
    good-stays sites good n state entry at is = way-stays state.site entry.map entry.cell entry.way (good n state entry at is)
