-- A fast object that came to a live map in the place of its own, as objects' states show it.
use Rattle.std.proofs.Common.{◌≡◌, ◌≢◌, ℕ, ◌<◌, Bool, true, false, true≢false, List, Option, Some, None, length, refl, sym, ap, ◌∙◌, subst}
use Rattle.std.specs.Prelude.{IsSomeAnd, IsTrue}
use Rattle.hc_board.specs.Trail.{Access}
use Rattle.hc_layout.specs.declared.words.GateWord.{GateWord}
use Rattle.hc_value.specs.declared.field.Detail.{Detail}
use Rattle.hc_value.specs.declared.prop.Held.{Held}
use Rattle.hc_heap.specs.Kept.{DeprecatedAreUnstable, DetailsRise, FormsAreKept, SetIsKept, StableIsKept, UnusedSaysNothing}
use Rattle.hc_heap.specs.Lawful.{Lawful}
use Rattle.hc_heap.specs.Readings.{bits_in, gate_in, map_in, prototype_in, root_in}
use Rattle.hc_heap.specs.States.{Goes, HeapState, View}
use Rattle.hc_heap.specs.Writes.{Trail}
use Rattle.hc_descs.specs.Entries.{count_of, entries_in}
use Rattle.hc_facts.specs.Laws.{HonestAfter, KeptIsCarried, MovedIsCarried}
use Rattle.hc_tree.specs.Growth.{marked, root_of}
use Rattle.hc_tree.specs.Kept.{MapsAreKept}
use Rattle.hc_tree.specs.Needs.{HasSpace, IsWithin, walk_need}
use Rattle.hc_tree.specs.Tree.{IsRoot, gate_with}
use Rattle.hc_tree.specs.Walking.{RootsStand}
use Rattle.hc_tree.specs.declared.need.Need.{Need}
use Rattle.hc_update.specs.Renewing.{IsDoomed, generalise_need}
use Rattle.hc_update.specs.Updating.{UpdateGets}
use Rattle.hc_slots.specs.Cases.{some-is}
use Rattle.hc_slots.specs.Fast.{HasMap, IsFast}
use Rattle.hc_slots.specs.Meaning.{Dictionary}
use Rattle.hc_modes.specs.Admitting.{FitsField}
use Rattle.hc_modes.specs.Details.{DetailsAre}
use Rattle.hc_modes.specs.Meaning.{kept_of}
use Rattle.hc_modes.specs.Replaced.{HasGeneralised, HasMigrated, HasReplaced, IsAskedFor}
use Rattle.hc_modes.specs.Resettled.{GeneralisingGets, GeneralisingKills, HasMovedOn, IsGeneralisedFor, IsUpdatedFor, marked_view}
use Rattle.hc_modes.specs.Rest.{AreCalm}
use Rattle.hc_modes.specs.State.{AreRoots, IsKeptSo, IsObjects, ObjectsState}
use Rattle.hc_modes.specs.Steps.{world_of}
use Rattle.hc_modes.proofs.Composing.{no-cause}
use Rattle.hc_modes.proofs.Generalised.{IsItsMap, its-map}
use Rattle.hc_modes.proofs.Remade.{remade-later, remade-touches}
use Rattle.hc_modes.proofs.Replacing.{moved-facts, moved-left, moved-marks, moved-protos, moved-shape, moved-sound, moved-world}
use Rattle.hc_modes.proofs.Shown.{within}
use Rattle.hc_modes.proofs.Sound.{roots-stay}
use Rattle.hc_modes.proofs.Updated.{updated-marks, updated-moved, updated-other, updated-place, updated-roots, updated-walked, updated-within}

-- the map of a fast object, which was read
pub record IsRead (t : Trail) (o m n : ℕ) (own : Bool) : Type 0 where
  pub fast : IsFast t o m (gate_with n own)
  pub count : count_of t m ≡ n

pub is-read : (v : View) (kept : List (Option Dictionary)) (null : Option ℕ) → IsObjects v kept null → (o m n : ℕ) (own : Bool) → o < length kept → kept_of kept o ≡ None → map_in v.trail o ≡ Some m → IsSomeAnd (gate_in v.trail m) (λ g. g.entries ≡ n) → (root_in v.trail o).is_proto ≡ own → IsRead v.trail o m n own
is-read v kept null h o m n own there fast has opened is =
    let so : HasMap v.trail o = subst (λ (d : Option Dictionary). IsKeptSo v.trail o d) fast (h.each o there) in
    let its : IsItsMap v.trail o m n own = subst (λ (b : Bool). IsItsMap v.trail o m n b) is (its-map v.trail o m n h.tree so has opened) in
    record {
      fast = record { is_open = its.fast.is_open; holds = record { capacity = its.fast.holds.capacity; slots = its.fast.holds.slots }; private = its.fast.private };
      count = ap entries_in its.is_open;
    }

module _ (maps : MapsAreKept) (details : DetailsRise) (set : SetIsKept) (unused : UnusedSaysNothing) (forms : FormsAreKept) (stable : StableIsKept) (honest : HonestAfter) (carried : KeptIsCarried) (carries : MovedIsCarried)
    {P : Type 0} (went : P → List Access → List Access → P → Type 0) (a : ObjectsState P) (x : HeapState P) (h : IsObjects a.heap.view a.kept a.of_null) (o : ℕ) (there : o < length a.kept) (fast : kept_of a.kept o ≡ None) where
  abbrev now : ObjectsState P
  now = record { heap = x; kept = a.kept; of_null = a.of_null }

  -- it came to a map in the place of its own
  replaced : {Dies : ℕ → Type 0} {Gets : ℕ → Detail → Type 0} (need : Need) (m n : ℕ) (own : Bool) (proto : Option ℕ) → map_in a.heap.view.trail o ≡ Some m → IsFast a.heap.view.trail o m (gate_with n own) → prototype_in a.heap.view.trail m ≡ Some proto
      → (on : HasMovedOn Dies Gets a.heap.view x.view o m n own proto) → on.map ≢ m → IsWithin need a.heap.view.used x.view.used → Lawful x.view.shape x.view.trail → Goes a.heap.desk x.desk → went a.heap.pace a.heap.desk.trail x.desk.trail x.pace
      → HasReplaced went Dies need a o now
  replaced need m n own proto has is_fast is on other needs lawful goes paced = record {
    steps = record {
      world = moved-world maps details set unused a.heap.view x.view a.kept a.of_null h o there fast m n own proto has is_fast is on;
      shape = moved-shape maps details set unused a.heap.view x.view a.kept a.of_null h o there fast m n own proto has is_fast is on;
      goes = goes;
      went = paced;
      keeps = moved-facts maps details set unused a.heap.view x.view a.kept a.of_null h o there fast m n own proto has is_fast is on forms stable honest carried carries;
    };
    fast = no-cause a.kept o fast;
    kept = refl;
    null = refl;
    left = moved-left maps details set unused a.heap.view x.view a.kept a.of_null h o there fast m n own proto has is_fast is on other;
    needs = needs;
    protos = moved-protos maps details set unused a.heap.view x.view a.kept a.of_null h o there fast m n own proto has is_fast is on;
    marks = moved-marks maps details set unused a.heap.view x.view a.kept a.of_null h o there fast m n own proto has is_fast is on other;
    lawful = lawful;
  }

  -- the live one in the place of a dead one
  module _ (m n root : ℕ) (proto : Option ℕ) (has : map_in a.heap.view.trail o ≡ Some m) (opened : IsSomeAnd (gate_in a.heap.view.trail m) (λ g. g.entries ≡ n)) (shared : (root_in a.heap.view.trail o).is_proto ≡ false) (unstable : IsTrue (bits_in a.heap.view.trail m).unstable)
      (is : prototype_in a.heap.view.trail m ≡ Some proto) (known : root_of a.heap.view.trail proto a.of_null ≡ Some root) (named : prototype_in a.heap.view.trail root ≡ Some proto) (it : IsUpdatedFor a.heap.view x.view o m n root) where
    read : IsRead a.heap.view.trail o m n false
    read = is-read a.heap.view a.kept a.of_null h o m n false there fast has opened shared

    abbrev on : HasMovedOn (IsDoomed a.heap.view.trail it.made.end it.made.count it.made.stop) (UpdateGets a.heap.view.trail it.made.end m it.made.count it.made.stop n a.heap.view.used.fields) a.heap.view x.view o m n false proto
    on = updated-moved a.heap.view x.view o m n root proto a.of_null unstable known named read.count it

    pub migrated-sound : IsObjects x.view a.kept a.of_null
    migrated-sound = moved-sound maps details set unused a.heap.view x.view a.kept a.of_null h o there fast m n false proto has read.fast is on
        (updated-roots maps details a.heap.view it.mid m it.map n root a.of_null h.heap it.made h.roots)

    pub migrated : IsTrue (bits_in a.heap.view.trail m).deprecated → HasSpace a.heap.view (walk_need n) → Goes a.heap.desk x.desk → went a.heap.pace a.heap.desk.trail x.desk.trail x.pace → HasMigrated went a o now
    migrated dead room goes paced =
        let facts = moved-facts maps details set unused a.heap.view x.view a.kept a.of_null h o there fast m n false proto has read.fast is on forms stable honest carried carries in
        let other : it.map ≢ m = updated-other a.heap.view x.view o m n root proto a.of_null unstable known named read.count it dead (λ was. (set a.heap.view.shape a.heap.view.trail x.view.trail facts.goes).deprecated m was) in
        let its = replaced (walk_need n) m n false proto has read.fast is on other
        (subst (λ (k : ℕ). IsWithin (walk_need k) a.heap.view.used x.view.used) read.count (updated-within a.heap.view x.view o m n root proto a.of_null unstable known named read.count it)) migrated-sound.heap.lawful goes paced in
        record {
          map = m;
          now = it.map;
          proto = proto;
          has = has;
          comes = it.come.moved;
          dead = dead;
          shared = shared;
          prototype = is;
          room = subst (λ (k : ℕ). HasSpace a.heap.view (walk_need k)) (sym read.count) room;
          walked = updated-walked a.heap.view x.view o m n root proto a.of_null unstable known named read.count it its.marks.deaths;
          known = known;
          replaced = record {
            steps = its.steps;
            fast = its.fast;
            kept = its.kept;
            null = its.null;
            left = its.left;
            needs = updated-within a.heap.view x.view o m n root proto a.of_null unstable known named read.count it;
            protos = its.protos;
            marks = updated-marks a.heap.view x.view o m n root proto a.of_null unstable known named read.count it its.marks;
            lawful = its.lawful;
          };
          place = updated-place a.heap.view x.view o m n root proto a.of_null unstable known named read.count it;
        }

  -- a map whose field may hold what is to be stored
  module _ (m i : ℕ) (g : GateWord) (d : Detail) (has : map_in a.heap.view.trail o ≡ Some m) (is_open : gate_in a.heap.view.trail m ≡ Some g) (it : IsGeneralisedFor a.heap.view x.view o m g.entries i d) where
    general : IsRead a.heap.view.trail o m g.entries it.own
    general = is-read a.heap.view a.kept a.of_null h o m g.entries it.own there fast has (subst (λ (y : Option GateWord). IsSomeAnd y (λ z. z.entries ≡ g.entries)) (sym is_open) refl) it.is_own

    gates : gate_with g.entries it.own ≡ g
    gates = some-is (gate_with g.entries it.own) g (sym general.fast.is_open ∙ is_open)

    roots : AreRoots it.on.mid.trail a.of_null
    roots = roots-stay a.heap.view it.on.mid.trail o a.of_null
        (remade-later maps details set a.heap.view it.on.mid o m it.on.map g.entries it.own it.proto h.heap has general.fast it.on.made)
        (remade-touches maps details set a.heap.view it.on.mid o m it.on.map g.entries it.own it.proto h.heap has general.fast it.on.made) it.opens h.roots

    pub generalised-sound : IsObjects x.view a.kept a.of_null
    generalised-sound = moved-sound maps details set unused a.heap.view x.view a.kept a.of_null h o there fast m g.entries it.own it.proto has general.fast it.prototype it.on roots

    pub generalised : (held : Held) → (bits_in a.heap.view.trail m).deprecated ≡ false → i < g.entries → (FitsField a.heap.view.trail o i held → ⊥) → HasSpace a.heap.view (generalise_need g i) → IsAskedFor a o m i held d
        → Goes a.heap.desk x.desk → went a.heap.pace a.heap.desk.trail x.desk.trail x.pace → HasGeneralised went a o i held now
    generalised held live lt outgrown room asked goes paced =
        let own : it.own ≡ g.is_private = ap (λ (y : GateWord). y.is_private) gates in
        let its = replaced (generalise_need (gate_with g.entries it.own) i) m g.entries it.own it.proto has general.fast it.prototype it.on it.other it.needs generalised-sound.heap.lawful goes paced in
        record {
          map = m;
          gate = g;
          detail = d;
          has = has;
          is_open = is_open;
          own = sym own ∙ sym it.is_own;
          live = live;
          entry = lt;
          outgrown = outgrown;
          room = room;
          asked = asked;
          replaced = subst (λ (y : GateWord). HasReplaced went (GeneralisingKills g.is_private (marked a.heap.view.trail m) m g.entries i) (generalise_need y i) a o now) gates
              (subst (λ (b : Bool). HasReplaced went (GeneralisingKills b (marked a.heap.view.trail m) m g.entries i) (generalise_need (gate_with g.entries it.own) i) a o now) own its);
          details = subst (λ (b : Bool). DetailsAre (GeneralisingGets b (marked_view a.heap.view m) m g.entries i d) a.heap.view.trail x.view.trail) own it.details;
          comes = λ k is. subst (λ (y : ℕ). (bits_in x.view.trail y).deprecated ≡ false) (some-is it.on.map k (sym it.on.come.moved ∙ is)) it.live;
        }

pub opened : (o : Option GateWord) (g : GateWord) → o ≡ Some g → IsSomeAnd o (λ x. x.entries ≡ g.entries)
opened o g is = subst (λ (x : Option GateWord). IsSomeAnd x (λ y. y.entries ≡ g.entries)) (sym is) refl

-- What a fast object with a dead map asks: it is no prototype, and the root of its map is known

pub record IsReady (v : View) (null : Option ℕ) (o m n : ℕ) (proto : Option ℕ) : Type 0 where
  pub fast : IsFast v.trail o m (gate_with n false)
  pub handed : o < v.used.objects
  pub shared : (root_in v.trail o).is_proto ≡ false
  pub unstable : IsTrue (bits_in v.trail m).unstable
  pub root : ℕ
  pub known : root_of v.trail proto null ≡ Some root
  pub is_root : IsRoot v.trail proto root

pub is-ready : DeprecatedAreUnstable → RootsStand → (v : View) (kept : List (Option Dictionary)) (null : Option ℕ) → IsObjects v kept null → (o m n : ℕ) (proto : Option ℕ) → o < length kept → kept_of kept o ≡ None → map_in v.trail o ≡ Some m → IsSomeAnd (gate_in v.trail m) (λ g. g.entries ≡ n)
    → prototype_in v.trail m ≡ Some proto → IsTrue (bits_in v.trail m).deprecated → AreCalm v.trail → IsReady v null o m n proto
is-ready together stand v kept null h o m n proto there fast has opened is dead calm =
    let read : IsRead v.trail o m n false = is-read v kept null h o m n false there fast has opened shared in
    let root = stand v.shape v.trail null m n proto h.heap.lawful h.tree h.roots read.fast.is_open is in
    record {
      fast = record { is_open = read.fast.is_open; holds = record { capacity = read.fast.holds.capacity; slots = read.fast.holds.slots }; private = read.fast.private };
      handed = subst (λ (k : ℕ). o < k) h.items there;
      shared = shared;
      unstable = unstable;
      root = root.0;
      known = root.1.0;
      is_root = root.1.1;
    }
  where
    unstable : IsTrue (bits_in v.trail m).unstable
    unstable = together v.shape v.trail m h.heap.lawful dead

    shared : (root_in v.trail o).is_proto ≡ false
    shared = by (root_in v.trail o).is_proto refl
      where
        by : (b : Bool) → (root_in v.trail o).is_proto ≡ b → (root_in v.trail o).is_proto ≡ false
        by false e = e
        by true e = absurd (true≢false (sym unstable ∙ calm o m has e))

-- the same of a call, which read the map, its gate and its prototype
pub ready-of : DeprecatedAreUnstable → RootsStand → {P : Type 0} (a b : ObjectsState P) (o : ℕ) → a ≡ b → o < length (world_of b) → IsObjects a.heap.view a.kept a.of_null → kept_of b.kept o ≡ None → ((k : ℕ) → map_in b.heap.view.trail o ≡ Some k → IsTrue (bits_in b.heap.view.trail k).deprecated) → AreCalm b.heap.view.trail
    → (m : ℕ) (g : GateWord) (proto : Option ℕ) → map_in a.heap.view.trail o ≡ Some m → gate_in a.heap.view.trail m ≡ Some g → prototype_in a.heap.view.trail m ≡ Some proto → IsReady a.heap.view a.of_null o m g.entries proto
ready-of together stand {P} a b o same in_b h fast_b dead_b calm_b m g proto has gate is =
    is-ready together stand a.heap.view a.kept a.of_null h o m g.entries proto (within a b o same in_b)
    (subst (λ (s : ObjectsState P). kept_of s.kept o ≡ None) (sym same) fast_b) has (opened (gate_in a.heap.view.trail m) g gate) is
    (subst (λ (s : ObjectsState P). (k : ℕ) → map_in s.heap.view.trail o ≡ Some k → IsTrue (bits_in s.heap.view.trail k).deprecated) (sym same) dead_b m has)
    (subst (λ (s : ObjectsState P). AreCalm s.heap.view.trail) (sym same) calm_b)
