-- Whether anything changed at an object that cells rest on.
use Rattle.std.proofs.Common.{◌≡◌, ◌≢◌, ℕ, ◌<◌, Bool, true, false, true≢false, List, [], Option, Some, None, length, refl, sym, ap, ◌∙◌, subst, arith, inl, inr}
use Rattle.std.specs.Prelude.{◌⊎◌, Result, Ok, Err, OnErr, OnOk, IsSome, is_none}
use Rattle.hc_board.specs.Trail.{Access}
use Rattle.hc_heap.specs.Kept.{GatesAreOpen, GoesOn, WrittenIsKept}
use Rattle.hc_heap.specs.Readings.{map_in, prototype_in}
use Rattle.hc_cells.specs.Chains.{proto_by, proto_said}
use Rattle.hc_table.specs.Changes.{Did, after}
use Rattle.hc_table.specs.World.{World, object, props_at}
use Rattle.hc_modes.specs.Came.{AreMoves, Came, Effect, Made, Move, Moves, moves_before, world_of}
use Rattle.hc_modes.specs.Laws.{came-world, still-refl}
use Rattle.hc_modes.specs.Meaning.{kept_of}
use Rattle.hc_modes.specs.State.{IsKeptSo, IsObjects, ObjectsState}
use Rattle.hc_modes.specs.Validity.{StaysPut, protos_of}
use Rattle.hc_slots.specs.Cases.{some-is, some-of}
use Rattle.hc_slots.specs.Meaning.{Dictionary}
use Rattle.hc_objects.specs.Changes.{AltersSlow, did_of}
use Rattle.hc_objects.specs.declared.change.Change.{Change}
use Rattle.hc_objects.proofs.Beside.{changed-count, wanted-put, wanted-world}
use Rattle.hc_objects.proofs.Told.{Told, count-world, fast-map, slow-mapless}

-- an operation before which nothing moves
pub effect-alone : {P : Type 0} (went : P → List Access → List Access → P → Type 0) (a b : ObjectsState P) (did : Did) → moves_before a did ≡ [] → Made went a did b → Effect went a did b
effect-alone went a b did none made = record { mid = a; moves = subst (λ (moves : List Move). AreMoves went a moves a) (sym none) (still-refl a); own = made }

-- a map that says a prototype says it for good
said-on : GatesAreOpen → WrittenIsKept → {P : Type 0} (a x : ObjectsState P) → IsObjects a.heap.view a.kept a.of_null → GoesOn a.heap.view.shape a.heap.view.trail x.heap.view.trail → (o m : ℕ) → o < length a.kept → kept_of a.kept o ≡ None
    → map_in a.heap.view.trail o ≡ Some m → prototype_in x.heap.view.trail m ≡ prototype_in a.heap.view.trail m
said-on gates written a x sound goes o m lt fast has =
    let so = subst (λ (item : Option Dictionary). IsKeptSo a.heap.view.trail o item) fast (sound.each o lt) in
    let same : so.map ≡ m = some-is so.map m (sym so.is_map ∙ has) in
    let said = some-of (prototype_in a.heap.view.trail so.map) (gates a.heap.view.shape a.heap.view.trail so.map so.gate sound.heap.lawful so.fast.is_open).prototype in
    let there : prototype_in x.heap.view.trail so.map ≡ prototype_in a.heap.view.trail so.map = (written a.heap.view.shape a.heap.view.trail x.heap.view.trail goes).prototype so.map said.0 said.1 ∙ sym said.1 in
    subst (λ (k : ℕ). prototype_in x.heap.view.trail k ≡ prototype_in a.heap.view.trail k) same there

-- an object that keeps its map keeps its prototype
pub map-proto : GatesAreOpen → WrittenIsKept → {P : Type 0} (a x : ObjectsState P) → IsObjects a.heap.view a.kept a.of_null → Told a → Told x → GoesOn a.heap.view.shape a.heap.view.trail x.heap.view.trail → (o m : ℕ) → o < length a.kept → kept_of a.kept o ≡ None
    → map_in a.heap.view.trail o ≡ Some m → map_in x.heap.view.trail o ≡ Some m → (object (world_of x) o).proto ≡ (object (world_of a) o).proto
map-proto gates written a x sound told_a told_x goes o m lt fast has later =
    sym (told_x.proto o) ∙ ap (λ (k : Option ℕ). proto_by x.heap.view.trail (protos_of x) o k) later
    ∙ ap (λ (p : Option (Option ℕ)). proto_said p) (said-on gates written a x sound goes o m lt fast has)
    ∙ sym (ap (λ (k : Option ℕ). proto_by a.heap.view.trail (protos_of a) o k) has) ∙ told_a.proto o

module _ {P : Type 0} (went : P → List Access → List Access → P → Type 0) (a x : ObjectsState P) (sound : IsObjects a.heap.view a.kept a.of_null) (o : ℕ) (there : o < length a.kept) (change : Change) (slow altered : Bool)
    (slow_is : slow ≡ is_none (map_in a.heap.view.trail o)) (alters : AltersSlow (world_of a) o slow change altered) (came : Came went a (did_of o change) x) where
  world-is : world_of x ≡ after (did_of o change) (world_of a)
  world-is = came-world went a x (did_of o change) came

  slow-item : slow ≡ true → IsSome (kept_of a.kept o)
  slow-item if_true = by (kept_of a.kept o) (map_in a.heap.view.trail o) refl refl
    where
      by : (item : Option Dictionary) (m : Option ℕ) → kept_of a.kept o ≡ item → map_in a.heap.view.trail o ≡ m → IsSome (kept_of a.kept o)
      by (Some d) m is is_m = subst (λ (k : Option Dictionary). IsSome k) (sym is) refl
      by None None is is_m = absurd (fast-map a sound o there is is_m)
      by None (Some m) is is_m = absurd (true≢false (sym if_true ∙ slow_is ∙ ap (λ (k : Option ℕ). is_none k) is_m))

  -- a slow object that a change leaves another prototype or other properties doesn't stay put
  pub moved-by : altered ≡ true → StaysPut a x o → ⊥
  moved-by if_true put = by slow refl
    where
      by : (test : Bool) → slow ≡ test → ⊥
      by false e = true≢false (sym if_true ∙ alters.fast e)
      by true e = (alters.slow e).other if_true (record {
        proto = ap (λ (w : World). (object w o).proto) (sym world-is) ∙ put.proto;
        props = ap (λ (w : World). props_at w o) (sym world-is) ∙ put.props (slow-item e);
      })

  -- one that keeps its map, and that a change leaves the same, stays put
  pub kept-by : (told_a : Told a) (told_x : Told x) (gates : GatesAreOpen) (written : WrittenIsKept) (goes : GoesOn a.heap.view.shape a.heap.view.trail x.heap.view.trail) → map_in x.heap.view.trail o ≡ map_in a.heap.view.trail o → altered ≡ false → StaysPut a x o
  kept-by told_a told_x gates written goes map if_false = by (map_in a.heap.view.trail o) (kept_of a.kept o) refl refl
    where
      by : (m : Option ℕ) (item : Option Dictionary) → map_in a.heap.view.trail o ≡ m → kept_of a.kept o ≡ item → StaysPut a x o
      by None item is is_item =
          let same = (alters.slow (slow_is ∙ ap (λ (k : Option ℕ). is_none k) is)).same if_false in
          record {
            map = map;
            proto = ap (λ (w : World). (object w o).proto) world-is ∙ same.proto;
            props = λ slow_so. ap (λ (w : World). props_at w o) world-is ∙ same.props;
          }
      by (Some m) (Some d) is is_item =
          let n : None ≡ Some m = sym (slow-mapless a sound o d is_item) ∙ is in
          let f : ⊥ = cc in absurd f
      by (Some m) None is is_item = record {
        map = map;
        proto = map-proto gates written a x sound told_a told_x goes o m there is_item is (map ∙ is);
        props = λ slow_so. absurd (true≢false (sym (subst (λ (k : Option Dictionary). IsSome k) is_item slow_so)));
      }

-- An operation that was made or wasn't

module _ {P : Type 0} (went : P → List Access → List Access → P → Type 0) (a x : ObjectsState P) (sound : IsObjects a.heap.view a.kept a.of_null) (o : ℕ) (there : o < length a.kept) (change : Change) (slow altered made : Bool)
    (slow_is : slow ≡ is_none (map_in a.heap.view.trail o)) (alters : AltersSlow (world_of a) o slow change altered) where
  pub change-moved : {T E : Type 0} (r : Result T E) → OnOk r (Came went a (did_of o change) x) → OnOk r (made ≡ altered) → OnErr r (made ≡ false) → (map_in x.heap.view.trail o ≢ map_in a.heap.view.trail o) ⊎ (made ≡ true) → StaysPut a x o → ⊥
  change-moved r came done want (inl other) put = other put.map
  change-moved (Ok v) came done want (inr is) put = moved-by went a x sound o there change slow altered slow_is alters came (sym done ∙ is) put
  change-moved (Err e) came done want (inr is) put = true≢false (sym is ∙ want)

  pub change-kept : {T E : Type 0} (r : Result T E) → OnOk r (Came went a (did_of o change) x) → OnErr r (Moves went a x) → OnOk r (made ≡ altered) → (told_a : Told a) (told_x : Told x) (gates : GatesAreOpen) (written : WrittenIsKept)
      → ((did : Did) → Came went a did x → GoesOn a.heap.view.shape a.heap.view.trail x.heap.view.trail) → map_in x.heap.view.trail o ≡ map_in a.heap.view.trail o → made ≡ false → StaysPut a x o
  change-kept (Ok v) came moves done told_a told_x gates written goes map is = kept-by went a x sound o there change slow altered slow_is alters came told_a told_x gates written (goes (did_of o change) came) map (sym done ∙ is)
  change-kept (Err e) came moves done told_a told_x gates written goes map is = wanted-put went a x o moves o map

-- an object that was there is there afterwards
pub there-after : {P : Type 0} (went : P → List Access → List Access → P → Type 0) (a x : ObjectsState P) (o : ℕ) (change : Change) {T E : Type 0} (r : Result T E) → OnOk r (Came went a (did_of o change) x) → OnErr r (Moves went a x) → o < length (world_of a) → o < length (world_of x)
there-after went a x o change (Ok v) came moves lt = let same = changed-count went a x o change came in let before = count-world a in let after = count-world x in omega (arith, lt, same, before, after)
there-after went a x o change (Err e) came moves lt = let same = ap (λ (w : World). length w) (wanted-world went a x o moves) in omega (arith, lt, same)
